-- A name that a target may have is a text.
use Rattle.std.proofs.Common.{◌≡◌, ℕ, zero, suc, ◌<◌, Bool, true, false, cond, List, [], ◌∷◌, get_or, refl, arith, tests}
use Rattle.std.specs.Prelude.{IsTrue}
use Rattle.std.specs.List.{list_all, onto_first, slice_split}
use Rattle.std.specs.Str.{IsUtf8}
use Rattle.std.proofs.lemmas.Bool.{and_from, and_parts, eqb-true, false≢true}
use Rattle.std.proofs.lemmas.Str.{IsUtf8-from_ascii}
use Rattle.target_names.specs.Names.{is_name, is_name_byte, is_segment, is_slash}

byte-small : (b : ℕ) → is_name_byte b ≡ true → b < 128
byte-small b e = grind (arith, tests, e)

pub segment-plain : (p : List ℕ) → is_segment p ≡ true → list_all is_name_byte p ≡ true
segment-plain [] e = absurd (false≢true e)
segment-plain (b ∷ bytes) e = (and_parts _ _ e).1

pub segments-plain : (ps : List (List ℕ)) → list_all is_segment ps ≡ true → list_all (list_all is_name_byte) ps ≡ true
segments-plain [] e = refl
segments-plain (p ∷ ps) e = let (a, b) = and_parts _ _ e in and_from _ _ (segment-plain p a) (segments-plain ps b)

pub onto-plain : (x : ℕ) (ps : List (List ℕ)) → list_all (list_all is_name_byte) (onto_first x ps) ≡ true → (is_name_byte x ≡ true) × (list_all (list_all is_name_byte) ps ≡ true)
onto-plain x [] e = ((and_parts _ _ (and_parts _ _ e).0).0, refl)
onto-plain x (p ∷ ps) e =
    let (a, b) = and_parts _ _ e in
    let (own, others) = and_parts _ _ a in
    (own, and_from _ _ others b)

split-plain : (x : ℕ) (xs : List ℕ) → list_all (list_all is_name_byte) (slice_split is_slash (x ∷ xs)) ≡ true → (x < 128) × (list_all (list_all is_name_byte) (slice_split is_slash xs) ≡ true)
split-plain x xs e = go (is_slash x) refl e where
  go : (t : Bool) → is_slash x ≡ t → list_all (list_all is_name_byte) (cond t ([] ∷ slice_split is_slash xs) (onto_first x (slice_split is_slash xs))) ≡ true
      → (x < 128) × (list_all (list_all is_name_byte) (slice_split is_slash xs) ≡ true)
  go true is all = (omega (arith, eqb-true x 47 is), all)
  go false is all = let (own, others) = onto-plain x (slice_split is_slash xs) all in (byte-small x own, others)

small-bytes : (xs : List ℕ) → list_all (list_all is_name_byte) (slice_split is_slash xs) ≡ true → (i : ℕ) → get_or xs i 0 < 128
small-bytes [] e i = omega arith
small-bytes (x ∷ xs) e zero = (split-plain x xs e).0
small-bytes (x ∷ xs) e (suc i) = small-bytes xs (split-plain x xs e).1 i

pub name-text : (name : List ℕ) → IsTrue (is_name name) → IsUtf8 name
unfolding is_name
name-text name e =
    let (long, all) = and_parts _ _ e in
    IsUtf8-from_ascii name (small-bytes name (segments-plain (slice_split is_slash name) all))
