-- How the machine runs over tokens, and what it has read in each state.
use Rattle.std.proofs.Common.{◌≡◌, List, [], ◌∷◌, ◌++◌, ℕ, refl, sym, ap, subst, ◌∙◌, append_assoc, append-nil, Some, Bool, true, false, ◌||◌, not, ◌==◌, IsTrue, if◌then◌else◌}
use Rattle.std.specs.Prelude.{⊤}
use Rattle.std.specs.List.{flat_map}
use Rattle.std.proofs.lemmas.Option.{option_and_then_some}
use Rattle.std.proofs.lemmas.Grind.{flat_map-append}
use Rattle.std.proofs.lemmas.Bool.{eqb-true}
use Rattle.viable.proofs.Tests.{and_parts}
use Rattle.viable.specs.Quoted.{Piece}
use Rattle.text_tokens.specs.inner.Machines.{run}
use Rattle.text_tokens.specs.Tokens.{Token, sign, word, quoted}
use Rattle.dap_errors.specs.Object.{Value, bare, text, Field, value_token, field_tokens, object_tokens, is_error_word, is_code, is_message, is_code_word, values, IsObject}
use Rattle.dap_errors.specs.inner.Machine.{State, Start, Named, Fields, Labelled, Assigned, Valued, Ended, is_none_of, may_label, holds_code, holds_message, may_hold, has_both, first_code, first_message, said_by, field_of, next_when, step}
use Rattle.dap_errors.proofs.Labels.{values_append}

pub when_some : (b : Bool) (s next : State) → next_when b s ≡ Some next → IsTrue b × (s ≡ next)
when_some true s next e = (refl, (let f : s ≡ next = cc in f))
when_some false s next e = cc

-- at most one code, which is a number, and at most one message, which is a quoted text
abbrev pub Codes : List Value → Type 0
Codes [] = ⊤
Codes (bare w ∷ []) = IsTrue (is_code_word w)
Codes _ = ⊥

abbrev pub Messages : List Value → Type 0
Messages [] = ⊤
Messages (text p ∷ []) = ⊤
Messages _ = ⊥

abbrev pub FieldsFit : List Field → Type 0
FieldsFit done = Codes (values is_code done) × Messages (values is_message done)

abbrev pub Fits : State → Type 0
Fits Start = ⊤
Fits Named = ⊤
Fits (Fields done) = FieldsFit done
Fits (Labelled done label) = FieldsFit done × IsTrue (may_label done label)
Fits (Assigned done label) = FieldsFit done × IsTrue (may_label done label)
Fits (Valued done label value) = FieldsFit done × IsTrue (may_label done label) × IsTrue (may_hold label value)
Fits (Ended error) = ⊤

codes_more : (b : Bool) (vs : List Value) (v : Value) → Codes vs → IsTrue (not b || is_none_of vs) → IsTrue (not b || holds_code v) → Codes (vs ++ (if b then v ∷ [] else []))
codes_more true [] (bare w) c m h = h
codes_more true [] (text p) c m h = absurd (let z : false ≡ true = h in cc)
codes_more true (x ∷ vs) v c m h = absurd (let z : false ≡ true = m in cc)
codes_more false vs v c m h = rw append-nil c

messages_more : (b : Bool) (vs : List Value) (v : Value) → Messages vs → IsTrue (not b || is_none_of vs) → IsTrue (not b || holds_message v) → Messages (vs ++ (if b then v ∷ [] else []))
messages_more true [] (text p) c m h = tt
messages_more true [] (bare w) c m h = absurd (let z : false ≡ true = h in cc)
messages_more true (x ∷ vs) v c m h = absurd (let z : false ≡ true = m in cc)
messages_more false vs v c m h = rw append-nil c

-- one more field
pub added_fits : (done : List Field) (label : List ℕ) (value : Value) → FieldsFit done → IsTrue (may_label done label) → IsTrue (may_hold label value) → FieldsFit (done ++ field_of label value ∷ [])
added_fits done label value (c, m) l h = (
  subst Codes (sym (values_append is_code done (field_of label value ∷ []))) (codes_more (is_code label) (values is_code done) value c (and_parts _ _ l).0 (and_parts _ _ h).0),
  subst Messages (sym (values_append is_message done (field_of label value ∷ []))) (messages_more (is_message label) (values is_message done) value m (and_parts _ _ l).1 (and_parts _ _ h).1),
)

pub step_fits : (s next : State) (t : Token) → Fits s → step s t ≡ Some next → Fits next
step_fits Start next (word w) f e = subst Fits (when_some _ _ _ e).1 tt
step_fits Start next _ f e = cc
step_fits Named next (sign b) f e = subst Fits (when_some _ _ _ e).1 (tt, tt)
step_fits Named next _ f e = cc
step_fits (Fields done) next (word label) f e = let (is, same) = when_some _ _ _ e in subst Fits same (f, is)
step_fits (Fields done) next (sign b) f e = subst Fits (when_some _ _ _ e).1 tt
step_fits (Fields done) next (quoted p) f e = cc
step_fits (Labelled done label) next (sign b) f e = let (is, same) = when_some _ _ _ e in subst Fits same f
step_fits (Labelled done label) next _ f e = cc
step_fits (Assigned done label) next (word w) f e = let (is, same) = when_some _ _ _ e in subst Fits same (f.0, f.1, is)
step_fits (Assigned done label) next (quoted p) f e = let (is, same) = when_some _ _ _ e in subst Fits same (f.0, f.1, is)
step_fits (Assigned done label) next (sign b) f e = cc
step_fits (Valued done label value) next (sign b) f e = let (is, same) = when_some _ _ _ e in subst Fits same (added_fits done label value f.0 f.1 f.2)
step_fits (Valued done label value) next _ f e = cc
step_fits (Ended error) next _ f e = cc

abbrev pub opening : List ℕ → List Field → List Token
opening name done = word name ∷ sign 123 ∷ flat_map field_tokens done

-- the tokens that lead to a state
abbrev pub Told : State → List Token → Type 0
Told Start tokens = tokens ≡ []
Told Named tokens = (name : List ℕ) × IsTrue (is_error_word name) × (tokens ≡ word name ∷ [])
Told (Fields done) tokens = (name : List ℕ) × IsTrue (is_error_word name) × (tokens ≡ opening name done)
Told (Labelled done label) tokens = (name : List ℕ) × IsTrue (is_error_word name) × (tokens ≡ opening name done ++ word label ∷ [])
Told (Assigned done label) tokens = (name : List ℕ) × IsTrue (is_error_word name) × (tokens ≡ opening name done ++ word label ∷ sign 61 ∷ [])
Told (Valued done label value) tokens = (name : List ℕ) × IsTrue (is_error_word name) × (tokens ≡ opening name done ++ word label ∷ sign 61 ∷ value_token value ∷ [])
Told (Ended error) tokens = IsObject tokens error

code_of : (vs : List Value) → Codes vs → IsTrue (not (is_none_of vs)) → (w : List ℕ) × (vs ≡ bare w ∷ []) × IsTrue (is_code_word w)
code_of (bare w ∷ []) c h = (w, refl, c)
code_of [] c h = absurd (let z : false ≡ true = h in cc)
code_of (text p ∷ vs) c h = absurd c
code_of (bare w ∷ v ∷ vs) c h = absurd c

message_of : (vs : List Value) → Messages vs → IsTrue (not (is_none_of vs)) → (p : List Piece) × (vs ≡ text p ∷ [])
message_of (text p ∷ []) c h = (p, refl)
message_of [] c h = absurd (let z : false ≡ true = h in cc)
message_of (bare w ∷ vs) c h = absurd c
message_of (text p ∷ v ∷ vs) c h = absurd c

-- fields with both a code and a message are an object
object_is : (done : List Field) (name : List ℕ) (tokens : List Token) → FieldsFit done → IsTrue (has_both done) → IsTrue (is_error_word name) → tokens ≡ object_tokens name done → IsObject tokens (said_by done)
object_is done name tokens (c, m) both named spelled =
    let (w, one, fits) = code_of (values is_code done) c (and_parts _ _ both).0 in
    let (p, one_message) = message_of (values is_message done) m (and_parts _ _ both).1 in
    record { name = name; fields = done; code = w; message = p; named = named; spelled = spelled; one_code = one; code_fits = fits; code_is = ap first_code one; one_message = one_message; message_is = ap first_message one_message }

byte_is : (b c : ℕ) → IsTrue (b == c) → sign b ≡ sign c
byte_is b c h = ap sign (eqb-true b c h)

told_step : (s next : State) (tokens : List Token) (t : Token) → Told s tokens → Fits s → step s t ≡ Some next → Told next (tokens ++ t ∷ [])
told_step Start next tokens (word w) h f e =
    let (is, same) = when_some _ _ _ e in
    subst (λ (z : State). Told z (tokens ++ word w ∷ [])) same (w, is, ap (λ (z : List Token). z ++ word w ∷ []) h)
told_step Start next tokens _ h f e = cc
told_step Named next tokens (sign b) (name, is_error, h) f e =
    let (is, same) = when_some _ _ _ e in
    subst (λ (z : State). Told z (tokens ++ sign b ∷ [])) same (name, is_error, ap (λ (z : List Token). z ++ sign b ∷ []) h ∙ ap (λ (z : Token). word name ∷ z ∷ []) (byte_is b 123 is))
told_step Named next tokens _ h f e = cc
told_step (Fields done) next tokens (word label) (name, is_error, h) f e =
    let (is, same) = when_some _ _ _ e in
    subst (λ (z : State). Told z (tokens ++ word label ∷ [])) same (name, is_error, ap (λ (z : List Token). z ++ word label ∷ []) h)
told_step (Fields done) next tokens (sign b) (name, is_error, h) f e =
    let (is, same) = when_some _ _ _ e in
    let spelled : tokens ++ sign b ∷ [] ≡ object_tokens name done = ap (λ (z : List Token). z ++ sign b ∷ []) h ∙ ap (λ (z : Token). opening name done ++ z ∷ []) (byte_is b 125 (and_parts _ _ is).0) in
    subst (λ (z : State). Told z (tokens ++ sign b ∷ [])) same (object_is done name (tokens ++ sign b ∷ []) f (and_parts _ _ is).1 is_error spelled)
told_step (Fields done) next tokens (quoted p) h f e = cc
told_step (Labelled done label) next tokens (sign b) (name, is_error, h) f e =
    let (is, same) = when_some _ _ _ e in
    subst (λ (z : State). Told z (tokens ++ sign b ∷ [])) same (
      name,
      is_error,
      ap (λ (z : List Token). z ++ sign b ∷ []) h ∙ append_assoc (opening name done) (word label ∷ []) (sign b ∷ []) ∙ ap (λ (z : Token). opening name done ++ word label ∷ z ∷ []) (byte_is b 61 is),
    )
told_step (Labelled done label) next tokens _ h f e = cc
told_step (Assigned done label) next tokens (word w) (name, is_error, h) f e =
    let (is, same) = when_some _ _ _ e in
    subst (λ (z : State). Told z (tokens ++ word w ∷ [])) same (name, is_error, ap (λ (z : List Token). z ++ word w ∷ []) h ∙ append_assoc (opening name done) (word label ∷ sign 61 ∷ []) (word w ∷ []))
told_step (Assigned done label) next tokens (quoted p) (name, is_error, h) f e =
    let (is, same) = when_some _ _ _ e in
    subst (λ (z : State). Told z (tokens ++ quoted p ∷ [])) same (name, is_error, ap (λ (z : List Token). z ++ quoted p ∷ []) h ∙ append_assoc (opening name done) (word label ∷ sign 61 ∷ []) (quoted p ∷ []))
told_step (Assigned done label) next tokens (sign b) h f e = cc
told_step (Valued done label value) next tokens (sign b) (name, is_error, h) f e =
    let (is, same) = when_some _ _ _ e in
    subst (λ (z : State). Told z (tokens ++ sign b ∷ [])) same (
      name,
      is_error,
      ap (λ (z : List Token). z ++ sign b ∷ []) h ∙ append_assoc (opening name done) (word label ∷ sign 61 ∷ value_token value ∷ []) (sign b ∷ [])
          ∙ ap (λ (z : Token). opening name done ++ word label ∷ sign 61 ∷ value_token value ∷ z ∷ []) (byte_is b 59 is)
          ∙ ap (λ (z : List Token). word name ∷ sign 123 ∷ z) (sym (flat_map-append field_tokens done (field_of label value ∷ []))),
    )
told_step (Valued done label value) next tokens _ h f e = cc
told_step (Ended error) next tokens _ h f e = cc

-- what a run has read
pub run_told : (s last : State) (before tokens : List Token) → Told s before → Fits s → run step s tokens ≡ Some last → Told last (before ++ tokens) × Fits last
run_told s last before [] h f e =
    let same : s ≡ last = cc in
    (subst (λ (z : List Token). Told last z) (sym (append-nil before)) (subst (λ (z : State). Told z before) same h), subst Fits same f)
run_told s last before (t ∷ tokens) h f e =
    option_and_then_some (λ n. run step n tokens) (step s t) last e (λ n st r.
    let (told, fits) = run_told n last (before ++ t ∷ []) tokens (told_step s n before t h f st) (step_fits s n t f st) r in
    (subst (λ (z : List Token). Told last z) (append_assoc before (t ∷ []) tokens) told, fits))
