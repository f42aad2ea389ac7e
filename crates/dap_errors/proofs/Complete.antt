-- The machine reads the tokens of each Error object, and every state can be completed to one.
use Rattle.std.proofs.Common.{◌≡◌, List, [], ◌∷◌, ◌++◌, ℕ, refl, sym, ap, subst, ◌∙◌, append_assoc, append-nil, Some, Bool, true, false, ◌||◌, not, IsTrue}
use Rattle.std.specs.Prelude.{codes}
use Rattle.std.specs.List.{flat_map, list_all}
use Rattle.std.proofs.lemmas.Bool.{and_from}
use Rattle.viable.specs.Quoted.{Piece}
use Rattle.text_tokens.specs.inner.Machines.{run}
use Rattle.text_tokens.specs.Tokens.{Token, sign, is_token}
use Rattle.dap_errors.specs.Object.{signs, Value, bare, text, Field, value_token, field_tokens, is_error_word, is_code, is_message, is_code_word, values, IsObject}
use Rattle.dap_errors.specs.inner.Machine.{State, Start, Fields, Assigned, Ended, is_none_of, may_label, holds_code, holds_message, may_hold, has_both, said_by, field_of, step}
use Rattle.dap_errors.specs.declared.object.ErrorObject.{ErrorObject}
use Rattle.dap_errors.proofs.Labels.{values_append, says_is}

empty_not : (vs ws : List Value) (v : Value) → vs ++ v ∷ ws ≡ [] → ⊥
empty_not [] ws v e = cc
empty_not (x ∷ vs) ws v e = cc

single : (vs ws : List Value) (v x : Value) → vs ++ v ∷ ws ≡ x ∷ [] → (vs ≡ []) × (v ≡ x)
single [] ws v x e = (refl, (let f : v ≡ x = cc in f))
single (y ∷ vs) ws v x e = absurd (empty_not vs ws v (let t : vs ++ v ∷ ws ≡ [] = cc in t))

-- where a test has one value in all, it has none before a field that passes, and that field has the value
only_one : (test : List ℕ → Bool) (done : List Field) (f : Field) (fields : List Field) (x : Value) → values test (done ++ f ∷ fields) ≡ x ∷ [] → test f.label ≡ true → (values test done ≡ []) × (f.value ≡ x)
only_one test done f fields x e t =
    single (values test done) (values test fields) f.value x
    (let h : values test (f ∷ fields) ≡ f.value ∷ values test fields = rw t refl in
    ap (λ (z : List Value). values test done ++ z) (sym h) ∙ sym (values_append test done (f ∷ fields)) ∙ e)

or_right : (p q : Bool) → q ≡ true → (not p || q) ≡ true
or_right true q h = h
or_right false q h = refl

or_off : (p q : Bool) → p ≡ false → (not p || q) ≡ true
or_off p q h = rw h refl

-- a test of one field, which need only hold where its name is
when_named : (p q : Bool) → (p ≡ true → q ≡ true) → (not p || q) ≡ true
when_named true q h = h refl
when_named false q h = refl

-- the machine reads one more field
field_run : (done : List Field) (f : Field) (rest : List Token) → may_label done f.label ≡ true → may_hold f.label f.value ≡ true
    → run step (Fields done) (field_tokens f ++ rest) ≡ run step (Fields (done ++ f ∷ [])) rest
field_run done f rest l h = rw l (on f.value h)
  where
    on : (v : Value) → may_hold f.label v ≡ true → run step (Assigned done f.label) (value_token v ∷ sign 59 ∷ rest) ≡ run step (Fields (done ++ field_of f.label v ∷ [])) rest
    on (bare w) e = rw e refl
    on (text p) e = rw e refl

-- what an object says of the fields, whichever of them were read
record Said (all : List Field) : Type 0 where
  code : List ℕ
  message : List Piece
  one_code : values is_code all ≡ bare code ∷ []
  code_fits : IsTrue (is_code_word code)
  one_message : values is_message all ≡ text message ∷ []

fields_run : (done fields : List Field) (rest : List Token) → Said (done ++ fields) → run step (Fields done) (flat_map field_tokens fields ++ rest) ≡ run step (Fields (done ++ fields)) rest
fields_run done [] rest said = rw append-nil refl
fields_run done (f ∷ fields) rest said =
    ap (run step (Fields done)) (append_assoc (field_tokens f) (flat_map field_tokens fields) rest)
    ∙ field_run done f (flat_map field_tokens fields ++ rest)
    (and_from _ _
    (when_named (is_code f.label) (is_none_of (values is_code done)) (λ t. rw ((only_one is_code done f fields (bare said.code) said.one_code t).0) refl))
    (when_named (is_message f.label) (is_none_of (values is_message done)) (λ t. rw ((only_one is_message done f fields (text said.message) said.one_message t).0) refl)))
    (and_from _ _
    (when_named (is_code f.label) (holds_code f.value) (λ t. rw ((only_one is_code done f fields (bare said.code) said.one_code t).1) said.code_fits))
    (when_named (is_message f.label) (holds_message f.value) (λ t. rw ((only_one is_message done f fields (text said.message) said.one_message t).1) refl)))
    ∙ fields_run (done ++ f ∷ []) fields rest (subst Said (sym (append_assoc done (f ∷ []) fields)) said)
    ∙ ap (λ (z : List Field). run step (Fields z) rest) (append_assoc done (f ∷ []) fields)

-- the machine reads an object to its end
pub complete : (tokens : List Token) (error : ErrorObject) → IsObject tokens error → run step Start tokens ≡ Some (Ended error)
complete tokens error o =
    ap (run step Start) o.spelled
    ∙ (let n : is_error_word o.name ≡ true = o.named in rw n refl)
    ∙ fields_run [] o.fields (sign 125 ∷ []) (record { code = o.code; message = o.message; one_code = o.one_code; code_fits = o.code_fits; one_message = o.one_message })
    ∙ (let b : has_both o.fields ≡ true = rw (o.one_code, o.one_message) refl in rw b refl)
    ∙ ap (λ (e : ErrorObject). Some (Ended e)) (sym (says_is error o.fields ((o.code, o.one_code, o.code_fits, o.code_is), (o.message, o.one_message, o.message_is))))

-- Completions.

abbrev pub IsValid : Token → Type 0
IsValid t = IsTrue (is_token signs t)

-- at least one more token leads from the state to the end of an object
abbrev pub Live : State → Type 0
Live s = (t : Token) × (more : List Token) × IsTrue (list_all (is_token signs) (t ∷ more)) × (error : ErrorObject) × (run step s (t ∷ more) ≡ Some (Ended error))

pub live_step : (s next : State) (t : Token) → step s t ≡ Some next → IsValid t → Live next → Live s
live_step s next t st valid (t', more, ok, error, r) =
    (t, t' ∷ more, and_from _ _ valid ok, error, rw st r)

unfoldable pub code_field : Field
code_field = field_of (codes "code") (bare (codes "0"))

unfoldable pub message_field : Field
message_field = field_of (codes "message") (text [])

pub code_run : (done : List Field) (rest : List Token) → values is_code done ≡ [] → run step (Fields done) (field_tokens code_field ++ rest) ≡ run step (Fields (done ++ code_field ∷ [])) rest
unfolding code_field is_code is_message
code_run done rest e = field_run done code_field rest (rw e refl) refl

pub message_run : (done : List Field) (rest : List Token) → values is_message done ≡ [] → run step (Fields done) (field_tokens message_field ++ rest) ≡ run step (Fields (done ++ message_field ∷ [])) rest
unfolding message_field is_code is_message
message_run done rest e = field_run done message_field rest (rw e refl) refl

pub code_counts : (done : List Field) → (values is_code (done ++ code_field ∷ []) ≡ values is_code done ++ bare (codes "0") ∷ []) × (values is_message (done ++ code_field ∷ []) ≡ values is_message done)
unfolding code_field is_code is_message
code_counts done = (values_append is_code done (code_field ∷ []), values_append is_message done (code_field ∷ []) ∙ append-nil (values is_message done))

pub message_counts : (done : List Field) → (values is_message (done ++ message_field ∷ []) ≡ values is_message done ++ text [] ∷ []) × (values is_code (done ++ message_field ∷ []) ≡ values is_code done)
unfolding message_field is_code is_message
message_counts done = (values_append is_message done (message_field ∷ []), values_append is_code done (message_field ∷ []) ∙ append-nil (values is_code done))

pub close_run : (done : List Field) → has_both done ≡ true → run step (Fields done) (sign 125 ∷ []) ≡ Some (Ended (said_by done))
close_run done h = rw h refl

pub valid_code : IsTrue (list_all (is_token signs) (field_tokens code_field))
unfolding code_field
valid_code = refl

pub valid_message : IsTrue (list_all (is_token signs) (field_tokens message_field))
unfolding message_field
valid_message = refl
