-- The machine reads the Error objects, and from each open state one goes on.
use Rattle.std.proofs.Common.{◌≡◌, List, [], ◌∷◌, ◌++◌, ℕ, refl, sym, ◌∙◌, Some, None, Bool, true, false, IsTrue, ◌⊎◌, inl, inr}
use Rattle.std.specs.Prelude.{codes}
use Rattle.std.proofs.lemmas.List.Folds.{list_all-append}
use Rattle.text_tokens.specs.inner.Machines.{IsMachine}
use Rattle.text_tokens.specs.Tokens.{Token, sign, word, quoted, is_token}
use Rattle.dap_errors.specs.Object.{signs, Value, bare, text, Field, value_token, field_tokens, is_error_word, is_code, is_message, values, IsObject}
use Rattle.dap_errors.specs.inner.Machine.{State, Start, Named, Fields, Labelled, Assigned, Valued, Ended, may_hold, said_by, field_of, step, IsOpenState}
use Rattle.dap_errors.specs.declared.object.ErrorObject.{ErrorObject}
use Rattle.dap_errors.proofs.Labels.{code_no_message}
use Rattle.dap_errors.proofs.Runs.{run_told}
use Rattle.dap_errors.proofs.Complete.{complete, Live, IsValid, live_step, code_field, message_field, code_run, message_run, code_counts, message_counts, close_run, valid_code, valid_message}

fields_live : (done : List Field) → Live (Fields done)
unfolding code_field message_field
fields_live done = by_code (values is_code done) (values is_message done) refl refl
  where
    code_tail : List Token → List Token
    code_tail rest = sign 61 ∷ word (codes "0") ∷ sign 59 ∷ rest

    by_code : (cs ms : List Value) → values is_code done ≡ cs → values is_message done ≡ ms → Live (Fields done)
    by_code (c ∷ cs) (m ∷ ms) ec em = (sign 125, [], refl, said_by done, close_run done (rw (ec, em) refl))
    by_code [] (m ∷ ms) ec em =
        let n = code_counts done in (
          word (codes "code"),
          code_tail (sign 125 ∷ []),
          (rw (list_all-append (is_token signs) (field_tokens code_field) (sign 125 ∷ []), valid_code) refl),
          said_by (done ++ code_field ∷ []),
          code_run done (sign 125 ∷ []) ec ∙ close_run (done ++ code_field ∷ []) (rw (n.0, n.1, ec, em) refl),
        )
    by_code (c ∷ cs) [] ec em =
        let n = message_counts done in (
          word (codes "message"),
          sign 61 ∷ quoted [] ∷ sign 59 ∷ sign 125 ∷ [],
          (rw (list_all-append (is_token signs) (field_tokens message_field) (sign 125 ∷ []), valid_message) refl),
          said_by (done ++ message_field ∷ []),
          message_run done (sign 125 ∷ []) em ∙ close_run (done ++ message_field ∷ []) (rw (n.0, n.1, ec, em) refl),
        )
    by_code [] [] ec em =
        let n = code_counts done in
        let k = message_counts (done ++ code_field ∷ []) in (
          word (codes "code"),
          code_tail (field_tokens message_field ++ sign 125 ∷ []),
          (rw (list_all-append (is_token signs) (field_tokens code_field) (field_tokens message_field ++ sign 125 ∷ []), valid_code, list_all-append (is_token signs) (field_tokens message_field) (sign 125 ∷ []), valid_message) refl),
          said_by ((done ++ code_field ∷ []) ++ message_field ∷ []),
          code_run done (field_tokens message_field ++ sign 125 ∷ []) ec ∙ message_run (done ++ code_field ∷ []) (sign 125 ∷ []) (n.1 ∙ em)
              ∙ close_run ((done ++ code_field ∷ []) ++ message_field ∷ []) (rw (k.0, k.1, n.0, n.1, ec, em) refl),
        )

-- a value that a field of this name may have
value_for : (label : List ℕ) → (v : Value) × IsTrue (may_hold label v) × IsValid (value_token v)
value_for label = on (is_code label) (is_message label) refl refl
  where
    on : (c m : Bool) → is_code label ≡ c → is_message label ≡ m → (v : Value) × IsTrue (may_hold label v) × IsValid (value_token v)
    on true true ec em = let z : false ≡ true = sym (code_no_message label ec) ∙ em in cc
    on true false ec em = (bare (codes "0"), rw (ec, em) refl, refl)
    on false true ec em = (text [], rw (ec, em) refl, refl)
    on false false ec em = (bare (codes "0"), rw (ec, em) refl, refl)

valued_live : (done : List Field) (label : List ℕ) (value : Value) → Live (Valued done label value)
valued_live done label value = live_step (Valued done label value) (Fields (done ++ field_of label value ∷ [])) (sign 59) refl refl (fields_live (done ++ field_of label value ∷ []))

pub assigned_step : (done : List Field) (label : List ℕ) (v : Value) → may_hold label v ≡ true → step (Assigned done label) (value_token v) ≡ Some (Valued done label v)
assigned_step done label (bare w) e = rw e refl
assigned_step done label (text p) e = rw e refl

assigned_live : (done : List Field) (label : List ℕ) → Live (Assigned done label)
assigned_live done label =
    let (v, holds, valid) = value_for label in
    live_step (Assigned done label) (Valued done label v) (value_token v) (assigned_step done label v holds) valid (valued_live done label v)

labelled_live : (done : List Field) (label : List ℕ) → Live (Labelled done label)
labelled_live done label = live_step (Labelled done label) (Assigned done label) (sign 61) refl refl (assigned_live done label)

named_live : Live Named
named_live = live_step Named (Fields []) (sign 123) refl refl (fields_live [])

start_step : step Start (word (codes "error")) ≡ Some Named
unfolding is_error_word
start_step = refl

live : (s : State) → IsOpenState s → Live s
live Start o = live_step Start Named (word (codes "error")) start_step refl named_live
live Named o = named_live
live (Fields done) o = fields_live done
live (Labelled done label) o = labelled_live done label
live (Assigned done label) o = assigned_live done label
live (Valued done label value) o = valued_live done label value
live (Ended error) o = absurd o

ended_none : (error : ErrorObject) (t : Token) → step (Ended error) t ≡ None
ended_none error (word w) = refl
ended_none error (sign b) = refl
ended_none error (quoted p) = refl

open_or_ended : (s : State) → IsOpenState s ⊎ ((error : ErrorObject) × (s ≡ Ended error))
open_or_ended (Ended error) = inr (error, refl)
open_or_ended s = inl tt

pub machine : IsMachine signs IsObject step Start Ended IsOpenState
machine = record {
  complete = complete;
  sound = λ tokens error r. (run_told Start (Ended error) [] tokens refl tt r).0;
  live = λ tokens s r o. live s o;
  last = ended_none;
  one = λ a b e. (let f : a ≡ b = cc in f);
  ends = open_or_ended;
  begins = tt;
}
