-- The records that a reader reached at the end of a text are those of the text.
use Rattle.std.proofs.Common.{◌≡◌, ◌≤◌, ◌+◌, ℕ, zero, suc, Bool, true, false, List, [], ◌∷◌, ◌++◌, Some, None, length, refl, sym, arith, ◌∙◌}
use Rattle.std.specs.Prelude.{◌⊎◌, ◌==◌, ◌&&◌, if◌then◌else◌}
use Rattle.std.proofs.Common.{inl, inr}
use Rattle.csv.specs.Machine.{Read, after_end, ends_at_end, ends_with, field_after, fields_after, in_field, is_byte, is_end, next_record, start_field, start_record, step}
use Rattle.csv.specs.Reading.{Reached, default_config, records_from, strip_bom}
use Rattle.csv.specs.declared.parser.Action.{Action}
use Rattle.csv.specs.declared.parser.Action.TheVariants as act
use Rattle.csv.specs.declared.parser.Config.{Config}
use Rattle.csv.specs.declared.parser.State.{State}
use Rattle.csv.specs.declared.parser.State.TheVariants as st
use Rattle.csv.specs.declared.parser.Terminator.{Terminator}
use Rattle.csv.specs.declared.parser.Terminator.TheVariants as term
use Rattle.csv_source.specs.Csv.{csv_records}

-- with fuel for each of them, the records that a text was taken through are those that it has
pub reached-records : (cfg : Config) (n : ℕ) (s : State) (xs : List ℕ) (rows : List (List (List ℕ))) (s2 : State) (ys : List ℕ)
    → length rows ≤ n → Reached cfg s xs rows s2 ys → next_record cfg s2 [] [] ys ≡ None → records_from cfg n s xs ≡ rows
unfolding Reached records_from
reached-records cfg zero s xs [] s2 ys le h none = refl
reached-records cfg (suc n) s xs [] s2 ys le h none = rw (h.0, h.1, none) refl
reached-records cfg zero s xs (r ∷ rows) s2 ys le h none = absurd (omega (arith, le))
reached-records cfg (suc n) s xs (r ∷ rows) s2 ys le h none =
    let (p, is, same, more) = h in
    let rest = reached-records cfg n p.1 p.2 rows s2 ys (omega (arith, le)) more none in
    rw (is, same, rest) refl

-- with fuel for each of them, the records that a text was taken through are the first of those that it has
pub reached-front : (cfg : Config) (n : ℕ) (s : State) (xs : List ℕ) (rows : List (List (List ℕ))) (s2 : State) (ys : List ℕ)
    → length rows ≤ n → Reached cfg s xs rows s2 ys → (rest : List (List (List ℕ))) × (records_from cfg n s xs ≡ rows ++ rest)
unfolding Reached records_from
reached-front cfg n s xs [] s2 ys le h = (records_from cfg n s xs, refl)
reached-front cfg zero s xs (r ∷ rows) s2 ys le h = absurd (omega (arith, le))
reached-front cfg (suc n) s xs (r ∷ rows) s2 ys le h =
    let (p, is, same, more) = h in
    let (rest, front) = reached-front cfg n p.1 p.2 rows s2 ys (omega (arith, le)) more in
    (rest, rw (is, same, front) refl)

-- where the step ends a record, the end of the text gives none after it
abbrev EndsWell : State × Action → Type 0
EndsWell p = is_end p.1 ≡ true → ends_at_end p.0 ≡ false

either_well : (b : Bool) (x y : State × Action) → EndsWell x → EndsWell y → EndsWell (if b then x else y)
either_well true x y f g = f
either_well false x y f g = g

after_cr : (b : Bool) → ends_at_end (if b then st.AfterCr else st.StartRecord) ≡ false
after_cr true = refl
after_cr false = refl

after_well : (t : Terminator) (c : ℕ) → EndsWell (after_end t c, act.EndRecord)
after_well term.CRLF c = λ _. after_cr (c == 13)
after_well (term.Any t) c = λ _. refl

in_field-well : (cfg : Config) (c : ℕ) → EndsWell (in_field cfg c)
in_field-well cfg c =
    either_well (c == cfg.delimiter) _ _ (λ h. cc h) (either_well (ends_with cfg.terminator c) _ _ (after_well cfg.terminator c) (λ h. cc h))

start_field-well : (cfg : Config) (c : ℕ) → EndsWell (start_field cfg c)
start_field-well cfg c = either_well (cfg.quoting && (c == cfg.quote)) _ _ (λ h. cc h) (in_field-well cfg c)

start_record-well : (cfg : Config) (c : ℕ) → EndsWell (start_record cfg c)
start_record-well cfg c =
    either_well (ends_with cfg.terminator c) _ _ (λ h. cc h) (either_well (is_byte cfg.comment c) _ _ (λ h. cc h) (start_field-well cfg c))

step-well : (cfg : Config) (s : State) (c : ℕ) → EndsWell (step cfg s c)
step-well cfg st.StartRecord c = start_record-well cfg c
step-well cfg st.StartField c = start_field-well cfg c
step-well cfg st.InField c = in_field-well cfg c
step-well cfg st.InQuoted c =
    either_well (cfg.quoting && (c == cfg.quote)) _ _ (λ h. cc h) (either_well (cfg.quoting && is_byte cfg.escape c) _ _ (λ h. cc h) (λ h. cc h))
step-well cfg st.InEscape c = λ h. cc h
step-well cfg st.AfterQuote c =
    either_well (cfg.quoting && cfg.double_quote && (c == cfg.quote)) _ _ (λ h. cc h) (in_field-well cfg c)
step-well cfg st.InComment c = either_well (c == 10) _ _ (λ h. cc h) (λ h. cc h)
step-well cfg st.AfterCr c = either_well (c == 10) _ _ (λ h. cc h) (start_record-well cfg c)

-- a record takes at least a byte, but one that the end of the text ends
pub next-shrinks : (cfg : Config) (s : State) (fields : List (List ℕ)) (field : List ℕ) (xs : List ℕ) (p : Read)
    → next_record cfg s fields field xs ≡ Some p
    → (ends_at_end p.1 ≡ false) × (length p.2 ≤ length xs) × ((length p.2 + 1 ≤ length xs) ⊎ (ends_at_end s ≡ true))
unfolding next_record
next-shrinks cfg s fields field [] p e = at_end (ends_at_end s) refl e
  where
    at_end : (b : Bool) → ends_at_end s ≡ b → (if b then Some (fields ++ (field ∷ []), st.StartRecord, []) else None) ≡ Some p
        → (ends_at_end p.1 ≡ false) × (length p.2 ≤ 0) × ((length p.2 + 1 ≤ 0) ⊎ (ends_at_end s ≡ true))
    at_end true is q =
        let same : p ≡ (fields ++ (field ∷ []), st.StartRecord, []) = cc q in
        (rw same refl, rw same (omega arith), inr is)
    at_end false is q = cc q
next-shrinks cfg s fields field (c ∷ rest) p e =
    at_byte (is_end (step cfg s c).1) refl e
    (next-shrinks cfg (step cfg s c).0 (fields_after (step cfg s c).1 fields field) (field_after (step cfg s c).1 c field) rest p)
  where
    at_byte : (b : Bool) → is_end (step cfg s c).1 ≡ b
        → (if b then Some (fields_after (step cfg s c).1 fields field, (step cfg s c).0, rest)
        else next_record cfg (step cfg s c).0 (fields_after (step cfg s c).1 fields field) (field_after (step cfg s c).1 c field) rest) ≡ Some p
        → (next_record cfg (step cfg s c).0 (fields_after (step cfg s c).1 fields field) (field_after (step cfg s c).1 c field) rest ≡ Some p
        → (ends_at_end p.1 ≡ false) × (length p.2 ≤ length rest) × ((length p.2 + 1 ≤ length rest) ⊎ (ends_at_end (step cfg s c).0 ≡ true)))
        → (ends_at_end p.1 ≡ false) × (length p.2 ≤ length (c ∷ rest)) × ((length p.2 + 1 ≤ length (c ∷ rest)) ⊎ (ends_at_end s ≡ true))
    at_byte true is q later =
        let same : p ≡ (fields_after (step cfg s c).1 fields field, (step cfg s c).0, rest) = cc q in
        (rw same (step-well cfg s c is), rw same (omega arith), inl (rw same (omega arith)))
    at_byte false is q later =
        let (after, below, less) = later q in
        (after, omega (arith, below), inl (omega (arith, below)))

-- as many records as bytes at most, where the end of the text would give none
pub reached-bound : (cfg : Config) (s : State) (xs : List ℕ) (rows : List (List (List ℕ))) (s2 : State) (ys : List ℕ)
    → ends_at_end s ≡ false → Reached cfg s xs rows s2 ys → length rows ≤ length xs
unfolding Reached
reached-bound cfg s xs [] s2 ys quiet h = omega arith
reached-bound cfg s xs (r ∷ rows) s2 ys quiet h =
    let (p, is, same, more) = h in
    let (after, within, less) = next-shrinks cfg s [] [] xs p is in
    let below = reached-bound cfg p.1 p.2 rows s2 ys after more in
    elim less [ inl fewer ↦ omega (arith, fewer, below) | inr loud ↦ absurd (cc (sym quiet ∙ loud)) ]

-- the records that a reader with the defaults was taken through are all of those of the text
pub recorded : (bytes : List ℕ) (rows : List (List (List ℕ))) (s : State) (ys : List ℕ)
    → Reached default_config st.StartRecord (strip_bom bytes) rows s ys → next_record default_config s [] [] ys ≡ None
    → csv_records bytes ≡ rows
unfolding csv_records
recorded bytes rows s ys h none =
    let below = reached-bound default_config st.StartRecord (strip_bom bytes) rows s ys refl h in
    reached-records default_config (length (strip_bom bytes) + 1) st.StartRecord (strip_bom bytes) rows s ys (omega (arith, below)) h none

-- and as far as it was taken they are the first of them
pub recorded-front : (bytes : List ℕ) (rows : List (List (List ℕ))) (s : State) (ys : List ℕ)
    → Reached default_config st.StartRecord (strip_bom bytes) rows s ys → (rest : List (List (List ℕ))) × (csv_records bytes ≡ rows ++ rest)
unfolding csv_records
recorded-front bytes rows s ys h =
    let below = reached-bound default_config st.StartRecord (strip_bom bytes) rows s ys refl h in
    reached-front default_config (length (strip_bom bytes) + 1) st.StartRecord (strip_bom bytes) rows s ys (omega (arith, below)) h
