-- No field is longer than the text that it is read from.
use Rattle.std.proofs.Common.{◌≡◌, ◌≤◌, ◌+◌, ℕ, Bool, true, false, List, [], ◌∷◌, ◌++◌, Some, None, length, refl, arith, length-append}
use Rattle.std.specs.Prelude.{nat_le, if◌then◌else◌}
use Rattle.std.specs.List.{list_all}
use Rattle.csv.specs.Machine.{Read, ends_at_end, field_after, fields_after, is_end, next_record, step}
use Rattle.csv.specs.Reading.{Reached, strip_bom}
use Rattle.csv.specs.declared.parser.Action.{Action}
use Rattle.csv.specs.declared.parser.Action.TheVariants as act
use Rattle.csv.specs.declared.parser.Config.{Config}
use Rattle.csv.specs.declared.parser.State.{State}
use Rattle.csv.specs.declared.parser.State.TheVariants as st
use Rattle.csv_source.specs.inner.Held.{total, total_all}
use Rattle.csv_source.proofs.KeptFields.{total-append, total-one}
use Rattle.csv_source.proofs.Recorded.{next-shrinks}

abbrev pub is_within : ℕ → List ℕ → Bool
is_within n field = nat_le (length field) n

within-more : (n : ℕ) (fields : List (List ℕ)) (field : List ℕ) → list_all (is_within n) fields ≡ true → length field ≤ n
    → list_all (is_within n) (fields ++ field ∷ []) ≡ true
within-more n [] field h le = grind (arith, le)
within-more n (f ∷ fields) field h le = grind (arith, h, within-more n fields field)

fields-within : (a : Action) (n : ℕ) (fields : List (List ℕ)) (field : List ℕ) → list_all (is_within n) fields ≡ true → length field ≤ n
    → list_all (is_within n) (fields_after a fields field) ≡ true
fields-within act.EndField n fields field h le = within-more n fields field h le
fields-within act.Skip n fields field h le = h
fields-within act.Copy n fields field h le = h
fields-within act.EndRecord n fields field h le = within-more n fields field h le

field-within : (a : Action) (c k n : ℕ) (field : List ℕ) → length field + (k + 1) ≤ n → length (field_after a c field) + k ≤ n
field-within act.Copy c k n field le = omega (arith, le, length-append field (c ∷ []))
field-within act.EndField c k n field le = omega (arith, le)
field-within act.Skip c k n field le = omega (arith, le)
field-within act.EndRecord c k n field le = omega (arith, le)

next-within : (cfg : Config) (n : ℕ) (s : State) (fields : List (List ℕ)) (field : List ℕ) (xs : List ℕ) (p : Read)
    → next_record cfg s fields field xs ≡ Some p → list_all (is_within n) fields ≡ true → length field + length xs ≤ n
    → list_all (is_within n) p.0 ≡ true
unfolding next_record
next-within cfg n s fields field [] p e h le = at_end (ends_at_end s) e
  where
    at_end : (b : Bool) → (if b then Some (fields ++ (field ∷ []), st.StartRecord, []) else None) ≡ Some p → list_all (is_within n) p.0 ≡ true
    at_end true q =
        let same : p ≡ (fields ++ (field ∷ []), st.StartRecord, []) = cc q in
        rw same (within-more n fields field h (omega (arith, le)))
    at_end false q = cc q
next-within cfg n s fields field (c ∷ rest) p e h le =
    at_byte (is_end (step cfg s c).1) e
    (next-within cfg n (step cfg s c).0 (fields_after (step cfg s c).1 fields field) (field_after (step cfg s c).1 c field) rest p)
  where
    at_byte : (b : Bool)
        → (if b then Some (fields_after (step cfg s c).1 fields field, (step cfg s c).0, rest)
        else next_record cfg (step cfg s c).0 (fields_after (step cfg s c).1 fields field) (field_after (step cfg s c).1 c field) rest) ≡ Some p
        → (next_record cfg (step cfg s c).0 (fields_after (step cfg s c).1 fields field) (field_after (step cfg s c).1 c field) rest ≡ Some p
        → list_all (is_within n) (fields_after (step cfg s c).1 fields field) ≡ true
        → length (field_after (step cfg s c).1 c field) + length rest ≤ n → list_all (is_within n) p.0 ≡ true)
        → list_all (is_within n) p.0 ≡ true
    at_byte true q later =
        let same : p ≡ (fields_after (step cfg s c).1 fields field, (step cfg s c).0, rest) = cc q in
        rw same (fields-within (step cfg s c).1 n fields field h (omega (arith, le)))
    at_byte false q later =
        later q (fields-within (step cfg s c).1 n fields field h (omega (arith, le))) (field-within (step cfg s c).1 c (length rest) n field (omega (arith, le)))

-- nor in any record of it
pub reached-within : (cfg : Config) (n : ℕ) (s : State) (xs : List ℕ) (rows : List (List (List ℕ))) (s2 : State) (ys : List ℕ)
    → length xs ≤ n → Reached cfg s xs rows s2 ys → list_all (λ r. list_all (is_within n) r) rows ≡ true
unfolding Reached
reached-within cfg n s xs [] s2 ys le h = refl
reached-within cfg n s xs (r ∷ rows) s2 ys le h =
    let (p, is, same, more) = h in
    let (after, shorter, less) = next-shrinks cfg s [] [] xs p is in
    let here : list_all (is_within n) r ≡ true = rw same (next-within cfg n s [] [] xs p is refl (omega (arith, le))) in
    let later = reached-within cfg n p.1 p.2 rows s2 ys (omega (arith, le, shorter)) more in
    rw (here, later) refl

pub strip_bom-shorter : (bytes : List ℕ) → length (strip_bom bytes) ≤ length bytes
unfolding strip_bom
strip_bom-shorter [] = omega arith
strip_bom-shorter (a ∷ []) = omega arith
strip_bom-shorter (a ∷ b ∷ []) = omega arith
strip_bom-shorter (a ∷ b ∷ c ∷ rest) = grind arith

-- all fields of a record together are no longer than the bytes that it took
fields-total : (a : Action) (fields : List (List ℕ)) (field : List ℕ) → total (fields_after a fields field) ≤ total fields + length field
fields-total act.EndField fields field = omega (arith, total-append fields (field ∷ []), total-one field)
fields-total act.Skip fields field = omega arith
fields-total act.Copy fields field = omega arith
fields-total act.EndRecord fields field = omega (arith, total-append fields (field ∷ []), total-one field)

both-total : (a : Action) (c : ℕ) (fields : List (List ℕ)) (field : List ℕ) → total (fields_after a fields field) + length (field_after a c field) ≤ total fields + length field + 1
both-total act.EndField c fields field = omega (arith, total-append fields (field ∷ []), total-one field)
both-total act.Skip c fields field = omega arith
both-total act.Copy c fields field = omega (arith, length-append field (c ∷ []))
both-total act.EndRecord c fields field = omega (arith, total-append fields (field ∷ []), total-one field)

next-total : (cfg : Config) (s : State) (fields : List (List ℕ)) (field : List ℕ) (xs : List ℕ) (p : Read)
    → next_record cfg s fields field xs ≡ Some p → total p.0 + length p.2 ≤ total fields + length field + length xs
unfolding next_record
next-total cfg s fields field [] p e = at_end (ends_at_end s) e
  where
    at_end : (b : Bool) → (if b then Some (fields ++ (field ∷ []), st.StartRecord, []) else None) ≡ Some p → total p.0 + length p.2 ≤ total fields + length field + 0
    at_end true q =
        let same : p ≡ (fields ++ (field ∷ []), st.StartRecord, []) = cc q in
        rw same (omega (arith, total-append fields (field ∷ []), total-one field))
    at_end false q = cc q
next-total cfg s fields field (c ∷ rest) p e =
    at_byte (is_end (step cfg s c).1) e
    (next-total cfg (step cfg s c).0 (fields_after (step cfg s c).1 fields field) (field_after (step cfg s c).1 c field) rest p)
  where
    at_byte : (b : Bool)
        → (if b then Some (fields_after (step cfg s c).1 fields field, (step cfg s c).0, rest)
        else next_record cfg (step cfg s c).0 (fields_after (step cfg s c).1 fields field) (field_after (step cfg s c).1 c field) rest) ≡ Some p
        → (next_record cfg (step cfg s c).0 (fields_after (step cfg s c).1 fields field) (field_after (step cfg s c).1 c field) rest ≡ Some p
        → total p.0 + length p.2 ≤ total (fields_after (step cfg s c).1 fields field) + length (field_after (step cfg s c).1 c field) + length rest)
        → total p.0 + length p.2 ≤ total fields + length field + length (c ∷ rest)
    at_byte true q later =
        let same : p ≡ (fields_after (step cfg s c).1 fields field, (step cfg s c).0, rest) = cc q in
        rw same (omega (arith, fields-total (step cfg s c).1 fields field))
    at_byte false q later = omega (arith, later q, both-total (step cfg s c).1 c fields field)

none-total : total [] ≡ 0
unfolding total
none-total = refl

-- nor are those of all records
pub reached-total : (cfg : Config) (s : State) (xs : List ℕ) (rows : List (List (List ℕ))) (s2 : State) (ys : List ℕ) → Reached cfg s xs rows s2 ys → total_all rows ≤ length xs
unfolding Reached total_all
reached-total cfg s xs [] s2 ys h = omega arith
reached-total cfg s xs (r ∷ rows) s2 ys h =
    let (p, is, same, more) = h in
    let here = next-total cfg s [] [] xs p is in
    let later = reached-total cfg p.1 p.2 rows s2 ys more in
    rw same (omega (arith, here, later, none-total))
