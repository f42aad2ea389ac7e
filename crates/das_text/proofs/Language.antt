-- The machine reads the DAS texts, and from each open state one goes on.
use Rattle.std.proofs.Common.{◌≡◌, List, [], ◌∷◌, ◌++◌, ℕ, ◌<◌, length, refl, sym, subst, ◌∙◌, Option, Some, None, Bool, true, false, nat_lt, IsTrue, ◌⊎◌, inl, inr, arith}
use Rattle.std.specs.Prelude.{codes}
use Rattle.std.specs.List.{list_all}
use Rattle.std.specs.Option.{is_some}
use Rattle.std.proofs.lemmas.Option.{option_and_then_some}
use Rattle.std.proofs.lemmas.Bool.Decides.{nat_tests}
use Rattle.std.proofs.Common.{append_assoc, append-nil}
use Rattle.text_lines.specs.TypeWords.{base_of_word}
use Rattle.dap_types.specs.declared.declarations.BaseType.{BaseType}
use Rattle.text_tokens.specs.Tokens.{Token, sign, word, is_token}
use Rattle.text_tokens.specs.inner.Machines.{run, IsMachine}
use Rattle.das_text.specs.Grammar.{signs, IsDas}
use Rattle.das_text.specs.inner.Machine.{Around, State, start, begun, headed, inside, worded, named, valued, parted, ended, may_begin, attribute_of, with_value, leave, enter, add, step, IsOpenState}
use Rattle.das_text.specs.Model.{Attributes, Entry, attribute, container, entries_of}
use Rattle.das_text.specs.declared.entries.Attribute.{Attribute}
use Rattle.das_text.specs.declared.entries.Word.TheVariants.{Plain}
use Rattle.das_text.proofs.Told.{Told, told_step}
use Rattle.das_text.proofs.Complete.{complete, run_step, name_step, open_step}
use Rattle.dap_types.specs.Limits.{most_depth}

pub run_told : (s last : State) (before tokens : List Token) → Told s before → run step s tokens ≡ Some last → Told last (before ++ tokens)
run_told s last before [] told e =
    let same : s ≡ last = cc in
    subst (λ (z : List Token). Told last z) (sym (append-nil before)) (subst (λ (z : State). Told z before) same told)
run_told s last before (t ∷ tokens) told e =
    option_and_then_some (λ n. run step n tokens) (step s t) last e (λ n st r.
    subst (λ (z : List Token). Told last z) (append_assoc before (t ∷ []) tokens) (run_told n last (before ++ t ∷ []) tokens (told_step s n before t told st) r))

sound : (tokens : List Token) (a : Attributes) → run step start tokens ≡ Some (ended a) → IsDas tokens a
sound tokens a r = run_told start (ended a) [] tokens (refl, refl, refl) r

-- some tokens lead from the state to an end
abbrev pub Live : State → Type 0
Live s = (t : Token) × (more : List Token) × IsTrue (list_all (is_token signs) (t ∷ more)) × (a : Attributes) × (run step s (t ∷ more) ≡ Some (ended a))

live_step : (s next : State) (t : Token) → IsTrue (is_token signs t) → step s t ≡ Some next → Live next → Live s
live_step s next t valid e (u, more, ok, a, r) = (t, u ∷ more, rw (valid, ok) refl, a, run_step s next t (u ∷ more) e ∙ r)

inside_live : (outer : List Around) (inner : List Entry) → Live (inside outer inner)
inside_live [] inner = (sign 125, [], refl, record { containers = entries_of inner }, refl)
inside_live (x ∷ outer) inner = live_step (inside (x ∷ outer) inner) (leave (x ∷ outer) inner) (sign 125) refl refl (inside_live outer (x.entries ++ container x.name (entries_of inner) ∷ []))

named_live : (outer : List Around) (inner : List Entry) (a : Attribute) → Live (named outer inner a)
named_live outer inner a = live_step (named outer inner a) (add outer inner a) (sign 59) refl refl (inside_live outer (inner ++ attribute a ∷ []))

valued_live : (outer : List Around) (inner : List Entry) (a : Attribute) → Live (valued outer inner a)
valued_live outer inner a = live_step (valued outer inner a) (add outer inner a) (sign 59) refl refl (inside_live outer (inner ++ attribute a ∷ []))

parted_live : (outer : List Around) (inner : List Entry) (a : Attribute) → Live (parted outer inner a)
parted_live outer inner a = live_step (parted outer inner a) (valued outer inner (with_value a (Plain (codes "0")))) (word (codes "0")) refl refl (valued_live outer inner (with_value a (Plain (codes "0"))))

worded_live : (outer : List Around) (inner : List Entry) (w : List ℕ) → IsTrue (may_begin outer w) → Live (worded outer inner w)
worded_live outer inner w may = on (nat_lt (length outer) most_depth) refl
  where
    a_type : (found : Option BaseType) → base_of_word w ≡ found → IsTrue (is_some found) → 0 < length outer → Live (worded outer inner w)
    a_type None is h pos = cc
    a_type (Some base) is h pos = live_step (worded outer inner w) (named outer inner (attribute_of (codes "n") base)) (word (codes "n")) refl (name_step outer inner w (codes "n") base is pos) (named_live outer inner (attribute_of (codes "n") base))

    on : (deep : Bool) → nat_lt (length outer) most_depth ≡ deep → Live (worded outer inner w)
    on true d =
        let lt : length outer < most_depth = grind (arith, nat_tests) in
        live_step (worded outer inner w) (enter outer inner w) (sign 123) refl (open_step outer inner w lt).1 (inside_live (record { entries = inner; name = w } ∷ outer) [])
    on false d =
        let pos : 0 < length outer = grind (arith, nat_tests) in
        let some : IsTrue (is_some (base_of_word w)) = (rw d at may) in
        a_type (base_of_word w) refl some pos

live : (tokens : List Token) (s : State) → run step start tokens ≡ Some s → IsOpenState s → Live s
live tokens s r o = on s o (run_told start s [] tokens (refl, refl, refl) r)
  where
    headed_live : (outer : List Around) (inner : List Entry) → Live (headed outer inner)
    headed_live outer inner = live_step (headed outer inner) (inside outer inner) (sign 123) refl refl (inside_live outer inner)

    on : (s : State) → IsOpenState s → Told s tokens → Live s
    on (begun outer inner) o told = live_step (begun outer inner) (headed outer inner) (word (codes "Attributes")) refl refl (headed_live outer inner)
    on (headed outer inner) o told = headed_live outer inner
    on (inside outer inner) o told = inside_live outer inner
    on (worded outer inner w) o (before, opens, may, is) = worded_live outer inner w may
    on (named outer inner a) o told = named_live outer inner a
    on (valued outer inner a) o told = valued_live outer inner a
    on (parted outer inner a) o told = parted_live outer inner a
    on (ended a) o told = absurd o

open_or_ended : (s : State) → IsOpenState s ⊎ ((a : Attributes) × (s ≡ ended a))
open_or_ended (ended a) = inr (a, refl)
open_or_ended s = inl tt

pub machine : IsMachine signs IsDas step start ended IsOpenState
machine = record {
  complete = complete;
  sound = sound;
  live = live;
  last = λ a t. refl;
  one = λ a b e. (let f : a ≡ b = cc in f);
  ends = open_or_ended;
  begins = tt;
}
