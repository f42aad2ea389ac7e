-- What the fields of an object say, one field more at a time.
use Rattle.std.proofs.Common.{◌≡◌, List, [], ◌∷◌, ◌++◌, ℕ, ℤ, refl, sym, ap, subst, ◌∙◌, append-nil, Option, Some, None, Bool, true, false, ◌&&◌, ◌||◌, not, ◌==◌, IsTrue, if◌then◌else◌, is_some}
use Rattle.std.specs.Prelude.{MatchOption}
use Rattle.plain_lemmas.proofs.Truths.{and_true}
use Rattle.viable.specs.Quoted.{Piece, quoted_value}
use Rattle.viable.proofs.Tests.{and_parts}
use Rattle.text_tokens.specs.Tokens.{sign, word, quoted}
use Rattle.dap_errors.specs.Object.{Value, bare, text, Field, is_code, is_message, is_code_word, code_value, values}
use Rattle.dap_errors.specs.inner.Machine.{Fields, Labelled, Assigned, Ended, is_none_of, may_label, may_hold, has_both, said_by, field_of, step}
use Rattle.dap_errors.specs.inner.Standing.{HoldsCode, HoldsMessage, Holds, label_kind}
use Rattle.dap_errors.specs.declared.found.Found.{Found}
use Rattle.dap_errors.specs.declared.found.Label.TheVariants as labels
use Rattle.dap_errors.proofs.Labels.{values_append, code_no_message}

pub code_kind : (w : List ℕ) → label_kind w ≡ labels.Code → is_code w ≡ true
code_kind w h = on (is_code w) (is_message w) h
  where
    on : (c m : Bool) → (if c then labels.Code else (if m then labels.Message else labels.Other)) ≡ labels.Code → c ≡ true
    on true m e = refl
    on false true e = cc
    on false false e = cc

pub message_kind : (w : List ℕ) → label_kind w ≡ labels.Message → (is_code w ≡ false) × (is_message w ≡ true)
message_kind w h = on (is_code w) (is_message w) h
  where
    on : (c m : Bool) → (if c then labels.Code else (if m then labels.Message else labels.Other)) ≡ labels.Message → (c ≡ false) × (m ≡ true)
    on true m e = cc
    on false true e = (refl, refl)
    on false false e = cc

pub other_kind : (w : List ℕ) → label_kind w ≡ labels.Other → (is_code w ≡ false) × (is_message w ≡ false)
other_kind w h = on (is_code w) (is_message w) h
  where
    on : (c m : Bool) → (if c then labels.Code else (if m then labels.Message else labels.Other)) ≡ labels.Other → (c ≡ false) × (m ≡ false)
    on true m e = cc
    on false true e = cc
    on false false e = (refl, refl)

code_counts : (o : Option ℤ) (vs : List Value) → HoldsCode o vs → is_some o ≡ not (is_none_of vs)
code_counts None vs h = rw h refl
code_counts (Some z) vs h = rw h.1 refl

message_counts : (o : Option (List ℕ)) (vs : List Value) → HoldsMessage o vs → is_some o ≡ not (is_none_of vs)
message_counts None vs h = rw h refl
message_counts (Some m) vs h = rw h.1 refl

pub taken_code : (found : Found) (done : List Field) (w : List ℕ) → label_kind w ≡ labels.Code → Holds found done → is_some found.code ≡ not (may_label done w)
taken_code found done w k h =
    let c : is_code w ≡ true = code_kind w k in
    let m : is_message w ≡ false = code_no_message w c in
    code_counts found.code (values is_code done) h.0 ∙ ap not (sym (rw (c, m) (and_true (is_none_of (values is_code done)))))

pub taken_message : (found : Found) (done : List Field) (w : List ℕ) → label_kind w ≡ labels.Message → Holds found done → is_some found.message ≡ not (may_label done w)
taken_message found done w k h =
    let (c, m) = message_kind w k in
    message_counts found.message (values is_message done) h.1 ∙ ap not (sym (rw (c, m) refl))

pub taken_other : (done : List Field) (w : List ℕ) → label_kind w ≡ labels.Other → false ≡ not (may_label done w)
taken_other done w k = let (c, m) = other_kind w k in rw (c, m) refl

-- the values with one field more

counted : (test : List ℕ → Bool) (done : List Field) (w : List ℕ) (v : Value) → test w ≡ true → values test (done ++ field_of w v ∷ []) ≡ values test done ++ v ∷ []
counted test done w v e = values_append test done (field_of w v ∷ []) ∙ ap (λ (z : List Value). values test done ++ z) (rw e refl)

passed : (test : List ℕ → Bool) (done : List Field) (w : List ℕ) (v : Value) → test w ≡ false → values test (done ++ field_of w v ∷ []) ≡ values test done
passed test done w v e = values_append test done (field_of w v ∷ []) ∙ ap (λ (z : List Value). values test done ++ z) (rw e refl) ∙ append-nil (values test done)

none_is : (vs : List Value) → IsTrue (is_none_of vs) → vs ≡ []
none_is [] h = refl
none_is (v ∷ vs) h = cc

free_code : (done : List Field) (w : List ℕ) → is_code w ≡ true → IsTrue (may_label done w) → values is_code done ≡ []
free_code done w c may =
    let f : (not (is_code w) || is_none_of (values is_code done)) ≡ true = (and_parts _ _ may).0 in
    none_is (values is_code done) (rw c at f)

free_message : (done : List Field) (w : List ℕ) → is_message w ≡ true → IsTrue (may_label done w) → values is_message done ≡ []
free_message done w c may =
    let f : (not (is_message w) || is_none_of (values is_message done)) ≡ true = (and_parts _ _ may).1 in
    none_is (values is_message done) (rw c at f)

pub more_code : (found : Found) (done : List Field) (w bytes : List ℕ) (z : ℤ) → is_code w ≡ true → IsTrue (may_label done w) → Holds found done → IsTrue (is_code_word bytes) → z ≡ code_value bytes
    → HoldsCode (Some z) (values is_code (done ++ field_of w (bare bytes) ∷ [])) × HoldsMessage found.message (values is_message (done ++ field_of w (bare bytes) ∷ []))
more_code found done w bytes z c may h fits value =
    let one : values is_code (done ++ field_of w (bare bytes) ∷ []) ≡ bare bytes ∷ [] = counted is_code done w (bare bytes) c ∙ ap (λ (y : List Value). y ++ bare bytes ∷ []) (free_code done w c may) in
    ((bytes, one, fits, value), subst (HoldsMessage found.message) (sym (passed is_message done w (bare bytes) (code_no_message w c))) h.1)

pub more_message : (found : Found) (done : List Field) (w : List ℕ) (p : List Piece) (m : List ℕ) → is_code w ≡ false → is_message w ≡ true → IsTrue (may_label done w) → Holds found done → m ≡ quoted_value p
    → HoldsCode found.code (values is_code (done ++ field_of w (text p) ∷ [])) × HoldsMessage (Some m) (values is_message (done ++ field_of w (text p) ∷ []))
more_message found done w p m c e may h value =
    let one : values is_message (done ++ field_of w (text p) ∷ []) ≡ text p ∷ [] = counted is_message done w (text p) e ∙ ap (λ (y : List Value). y ++ text p ∷ []) (free_message done w e may) in
    (subst (HoldsCode found.code) (sym (passed is_code done w (text p) c)) h.0, (p, one, value))

pub more_other : (found : Found) (done : List Field) (w : List ℕ) (v : Value) → is_code w ≡ false → is_message w ≡ false → Holds found done → Holds found (done ++ field_of w v ∷ [])
more_other found done w v c m h =
    (subst (HoldsCode found.code) (sym (passed is_code done w v c)) h.0, subst (HoldsMessage found.message) (sym (passed is_message done w v m)) h.1)

-- which values a field may have

pub code_may : (w bytes : List ℕ) → is_code w ≡ true → IsTrue (is_code_word bytes) → IsTrue (may_hold w (bare bytes))
code_may w bytes c fits = rw (c, code_no_message w c, fits) refl

pub message_may : (w : List ℕ) (p : List Piece) → is_code w ≡ false → is_message w ≡ true → IsTrue (may_hold w (text p))
message_may w p c m = rw (c, m) refl

pub other_may : (w : List ℕ) (v : Value) → is_code w ≡ false → is_message w ≡ false → IsTrue (may_hold w v)
other_may w v c m = rw (c, m) refl

pub code_no_text : (done : List Field) (w : List ℕ) (p : List Piece) → is_code w ≡ true → step (Assigned done w) (quoted p) ≡ None
code_no_text done w p c = rw c refl

pub code_no_word : (done : List Field) (w bytes : List ℕ) → is_code w ≡ true → is_code_word bytes ≡ false → step (Assigned done w) (word bytes) ≡ None
code_no_word done w bytes c n = rw (c, n) refl

pub message_no_word : (done : List Field) (w bytes : List ℕ) → is_code w ≡ false → is_message w ≡ true → step (Assigned done w) (word bytes) ≡ None
message_no_word done w bytes c m = rw (c, m) refl

-- the last brace

pub both_code : (done : List Field) (o : Option ℤ) (m : Option (List ℕ)) → HoldsCode o (values is_code done) → HoldsMessage m (values is_message done) → has_both done ≡ (is_some o && is_some m)
both_code done o m c h = sym (rw (code_counts o (values is_code done) c, message_counts m (values is_message done) h) refl)

pub labelled_step : (done : List Field) (w : List ℕ) → may_label done w ≡ true → step (Fields done) (word w) ≡ Some (Labelled done w)
labelled_step done w h = rw h refl

pub no_label : (done : List Field) (w : List ℕ) → may_label done w ≡ false → step (Fields done) (word w) ≡ None
no_label done w h = rw h refl

pub ended_step : (done : List Field) (b : ℕ) → (b == 125 && has_both done) ≡ true → step (Fields done) (sign b) ≡ Some (Ended (said_by done))
ended_step done b h = rw h refl

pub not_ended : (done : List Field) (b : ℕ) → (b == 125 && has_both done) ≡ false → step (Fields done) (sign b) ≡ None
not_ended done b h = rw h refl

-- the code that a word is, if it is one
pub held_code : (o : Option ℤ) (bytes : List ℕ) → MatchOption o (is_code_word bytes ≡ false) (λ z. IsTrue (is_code_word bytes) × (z ≡ code_value bytes)) → is_some o ≡ true
    → (z : ℤ) × (o ≡ Some z) × IsTrue (is_code_word bytes) × (z ≡ code_value bytes)
held_code None bytes h n = cc
held_code (Some z) bytes h n = (z, refl, h.0, h.1)

pub no_code : (o : Option ℤ) (bytes : List ℕ) → MatchOption o (is_code_word bytes ≡ false) (λ z. IsTrue (is_code_word bytes) × (z ≡ code_value bytes)) → is_some o ≡ false → is_code_word bytes ≡ false
no_code None bytes h n = h
no_code (Some z) bytes h n = cc
