-- What becomes of fields that stand one after the other, and of a reader that goes along with them.
use Rattle.std.proofs.Common.{◌≡◌, ℕ, suc, ◌<◌, ◌⊎◌, inl, inr, List, [], ◌∷◌, ◌++◌, length, get_or, Option, Some, None, Result, Ok, Err, MatchOption, refl, sym, ap, subst, ◌∙◌, arith}
use Rattle.netcdf_source.specs.Fields.{Judged, Fault, failure, Ends}
use Rattle.netcdf_source.specs.inner.Reading.{◌>>=◌}
use Rattle.netcdf_source.specs.declared.failure.Failure.{Failure}
use Rattle.netcdf_source.specs.declared.failure.Failure.TheVariants.{Cut}

abbrev pub IsBytes : List ℕ → Type 0
IsBytes bytes = (i : ℕ) → get_or bytes i 0 < 256

pub no_bytes : IsBytes []
no_bytes i = omega arith

pub later_bytes : (front rest : List ℕ) → IsBytes (front ++ rest) → IsBytes rest
later_bytes [] rest h i = h i
later_bytes (b ∷ front) rest h i = later_bytes front rest (λ k. h (suc k)) i

-- the value with what is left
abbrev pub with_value : {X : Type 0} → X → Result (List ℕ) Failure → Result (X × List ℕ) Failure
with_value x (Ok rest) = Ok (x, rest)
with_value x (Err f) = Err f

-- ---- two parts of a list of fields

abbrev Both : List Judged → List Judged → List ℕ → Result (List ℕ) Failure → Type 0
Both xs bs bytes end = ((rest : List ℕ) × Ends xs bytes (Ok rest) × Ends bs rest end) ⊎ ((f : Failure) × (end ≡ Err f) × Ends xs bytes (Err f))

-- behind one field
abbrev After : Option Fault → ℕ → List Judged → List ℕ → Result (List ℕ) Failure → Type 0
After o left js rest end = MatchOption o (Ends js rest end) (λ f. end ≡ Err (failure f left))

abbrev BothAfter : Option Fault → ℕ → List Judged → List Judged → List ℕ → Result (List ℕ) Failure → Type 0
BothAfter o left js bs rest end = ((r : List ℕ) × After o left js rest (Ok r) × Ends bs r end) ⊎ ((f : Failure) × (end ≡ Err f) × After o left js rest (Err f))

split_after : (o : Option Fault) (left : ℕ) (js bs : List Judged) (rest : List ℕ) (end : Result (List ℕ) Failure)
    → (Ends (js ++ bs) rest end → Both js bs rest end) → After o left (js ++ bs) rest end → BothAfter o left js bs rest end
split_after None left js bs rest end go h = go h
split_after (Some f) left js bs rest end go h = inr (failure f left, h, refl)

pub split_ends : (xs bs : List Judged) (bytes : List ℕ) (end : Result (List ℕ) Failure) → Ends (xs ++ bs) bytes end → Both xs bs bytes end
unfolding Ends
split_ends [] bs bytes end h = inl (bytes, refl, h)
split_ends (j ∷ js) bs bytes end (inl cut) = inr (Cut, cut.1, inl (cut.0, refl))
split_ends (j ∷ js) bs bytes end (inr m) =
    elim (split_after j.fault (length bytes) js bs m.1 end (split_ends js bs m.1 end) m.4) [
      | inl ok ↦ inl (ok.0, inr (m.0, m.1, m.2, m.3, ok.1), ok.2)
      | inr err ↦ inr (err.0, err.1, inr (m.0, m.1, m.2, m.3, err.2))
    ]

join_after : (o : Option Fault) (left : ℕ) (js bs : List Judged) (rest r : List ℕ) (end : Result (List ℕ) Failure)
    → (Ends js rest (Ok r) → Ends (js ++ bs) rest end) → After o left js rest (Ok r) → After o left (js ++ bs) rest end
join_after None left js bs rest r end go h = go h
join_after (Some f) left js bs rest r end go h = absurd cc

pub join_ends : (xs bs : List Judged) (bytes rest : List ℕ) (end : Result (List ℕ) Failure) → Ends xs bytes (Ok rest) → Ends bs rest end → Ends (xs ++ bs) bytes end
unfolding Ends
join_ends [] bs bytes rest end h k = subst (λ (r : List ℕ). Ends bs r end) (ok_is rest bytes h) k
  where
    ok_is : (x y : List ℕ) → Path (Result (List ℕ) Failure) (Ok x) (Ok y) → x ≡ y
    ok_is x y e = cc
join_ends (j ∷ js) bs bytes rest end (inl cut) k = absurd (not_cut cut.1)
  where
    not_cut : Path (Result (List ℕ) Failure) (Ok rest) (Err Cut) → ⊥
    not_cut e = cc
join_ends (j ∷ js) bs bytes rest end (inr m) k =
    inr (m.0, m.1, m.2, m.3, join_after j.fault (length bytes) js bs m.1 rest end (λ h. join_ends js bs m.1 rest end h k) m.4)

fail_after : (o : Option Fault) (left : ℕ) (js bs : List Judged) (rest : List ℕ) (f : Failure)
    → (Ends js rest (Err f) → Ends (js ++ bs) rest (Err f)) → After o left js rest (Err f) → After o left (js ++ bs) rest (Err f)
fail_after None left js bs rest f go h = go h
fail_after (Some g) left js bs rest f go h = h

pub fail_ends : (xs bs : List Judged) (bytes : List ℕ) (f : Failure) → Ends xs bytes (Err f) → Ends (xs ++ bs) bytes (Err f)
unfolding Ends
fail_ends [] bs bytes f h = absurd cc
fail_ends (j ∷ js) bs bytes f (inl cut) = inl cut
fail_ends (j ∷ js) bs bytes f (inr m) =
    inr (m.0, m.1, m.2, m.3, fail_after j.fault (length bytes) js bs m.1 f (fail_ends js bs m.1 f) m.4)

bytes_after : (o : Option Fault) (left : ℕ) (js : List Judged) (rest r : List ℕ) → (Ends js rest (Ok r) → IsBytes r) → After o left js rest (Ok r) → IsBytes r
bytes_after None left js rest r go h = go h
bytes_after (Some f) left js rest r go h = absurd cc

pub bytes_left : (xs : List Judged) (bytes rest : List ℕ) → IsBytes bytes → Ends xs bytes (Ok rest) → IsBytes rest
unfolding Ends
bytes_left [] bytes rest fits h = subst IsBytes (sym (ok_is rest bytes h)) fits
  where
    ok_is : (x y : List ℕ) → Path (Result (List ℕ) Failure) (Ok x) (Ok y) → x ≡ y
    ok_is x y e = cc
bytes_left (j ∷ js) bytes rest fits (inl cut) = absurd (not_cut cut.1)
  where
    not_cut : Path (Result (List ℕ) Failure) (Ok rest) (Err Cut) → ⊥
    not_cut e = cc
bytes_left (j ∷ js) bytes rest fits (inr m) =
    bytes_after j.fault (length bytes) js m.1 rest (bytes_left js m.1 rest (later_bytes m.0 m.1 (subst IsBytes m.2 fits))) m.4

-- ---- a reader and the fields that it goes along with

-- Where the bytes run along these fields, the reader gives this value, or what fails.
pub record Again {X : Type 0} (fields : List Judged) (x : X) (read : List ℕ → Result (X × List ℕ) Failure) : Type 0 where
  pub at : (bytes : List ℕ) (end : Result (List ℕ) Failure) → Ends fields bytes end → read bytes ≡ with_value x end

-- Whatever the bytes, they run along the fields of some tree, and the reader gives what that says.
pub record Sound {T X : Type 0} (fields : T → List Judged) (says : T → X) (read : List ℕ → Result (X × List ℕ) Failure) : Type 0 where
  pub found : (bytes : List ℕ) → IsBytes bytes → (t : T) × (end : Result (List ℕ) Failure) × Ends (fields t) bytes end × (read bytes ≡ with_value (says t) end)

pub again_done : {X : Type 0} (x : X) → Again [] x (λ bytes. Ok (x, bytes))
unfolding Ends
again_done x = record { at = λ bytes end h. rw h refl }

pub again_then : {X Z : Type 0} (xs bs : List Judged) (x : X) (z : Z) (read : List ℕ → Result (X × List ℕ) Failure) (k : X × List ℕ → Result (Z × List ℕ) Failure)
    → Again xs x read → Again bs z (λ bytes. k (x, bytes)) → Again (xs ++ bs) z (λ bytes. read bytes >>= k)
again_then {X} {Z} xs bs x z read k first second = record { at = λ bytes end h. go bytes end (split_ends xs bs bytes end h) }
  where
    go : (bytes : List ℕ) (end : Result (List ℕ) Failure) → Both xs bs bytes end → (read bytes >>= k) ≡ with_value z end
    go bytes end (inl ok) = ap (λ (r : Result (X × List ℕ) Failure). r >>= k) (first.at bytes (Ok ok.0) ok.1) ∙ second.at ok.0 end ok.2
    go bytes end (inr err) = ap (λ (r : Result (X × List ℕ) Failure). r >>= k) (first.at bytes (Err err.0) err.2) ∙ ap (with_value z) (sym err.1)

pub again_like : {X : Type 0} (fields : List Judged) (x : X) (read other : List ℕ → Result (X × List ℕ) Failure) → ((bytes : List ℕ) → other bytes ≡ read bytes) → Again fields x read → Again fields x other
again_like fields x read other same a = record { at = λ bytes end h. same bytes ∙ a.at bytes end h }

pub sound_done : {X : Type 0} (x : X) → Sound {T = Unit {0}} (λ _. []) (λ _. x) (λ bytes. Ok (x, bytes))
unfolding Ends
sound_done x = record { found = λ bytes fits. (tt, Ok bytes, refl, refl) }

pub sound_then : {T U X Z : Type 0} (ft : T → List Judged) (sx : T → X) (read : List ℕ → Result (X × List ℕ) Failure) (fu : T → U → List Judged) (sz : T → U → Z) (k : X × List ℕ → Result (Z × List ℕ) Failure)
    → Sound ft sx read → ((t : T) → Sound (fu t) (sz t) (λ bytes. k (sx t, bytes))) → Sound {T = T × U} (λ p. ft p.0 ++ fu p.0 p.1) (λ p. sz p.0 p.1) (λ bytes. read bytes >>= k)
sound_then {T} {U} {X} {Z} ft sx read fu sz k first second = record { found = λ bytes fits. let a = first.found bytes fits in go bytes fits a.0 a.1 a.2 a.3 }
  where
    go : (bytes : List ℕ) → IsBytes bytes → (t : T) (end : Result (List ℕ) Failure) → Ends (ft t) bytes end → read bytes ≡ with_value (sx t) end
        → (p : T × U) × (end : Result (List ℕ) Failure) × Ends (ft p.0 ++ fu p.0 p.1) bytes end × ((read bytes >>= k) ≡ with_value (sz p.0 p.1) end)
    go bytes fits t (Ok rest) h e =
        let b = (second t).found rest (bytes_left (ft t) bytes rest fits h) in
        ((t, b.0), b.1, join_ends (ft t) (fu t b.0) bytes rest b.1 h b.2, ap (λ (r : Result (X × List ℕ) Failure). r >>= k) e ∙ b.3)
    go bytes fits t (Err f) h e =
        let b = (second t).found [] no_bytes in
        ((t, b.0), Err f, fail_ends (ft t) (fu t b.0) bytes f h, ap (λ (r : Result (X × List ℕ) Failure). r >>= k) e)

pub sound_like : {T X : Type 0} (fields : T → List Judged) (says : T → X) (read other : List ℕ → Result (X × List ℕ) Failure) → ((bytes : List ℕ) → other bytes ≡ read bytes) → Sound fields says read → Sound fields says other
sound_like fields says read other same a = record { found = λ bytes fits. let b = a.found bytes fits in (b.0, b.1, b.2, same bytes ∙ b.3) }

-- trees of another form
pub sound_as : {T U X : Type 0} (ft : T → List Judged) (st : T → X) (fu : U → List Judged) (su : U → X) (read : List ℕ → Result (X × List ℕ) Failure) (form : T → U)
    → ((t : T) → ft t ≡ fu (form t)) → ((t : T) → st t ≡ su (form t)) → Sound ft st read → Sound fu su read
sound_as ft st fu su read form same_fields same_value a = record {
  found = λ bytes fits.
      let b = a.found bytes fits in
      (form b.0, b.1, subst (λ (js : List Judged). Ends js bytes b.1) (same_fields b.0) b.2, b.3 ∙ ap (λ v. with_value v b.1) (same_value b.0));
}
