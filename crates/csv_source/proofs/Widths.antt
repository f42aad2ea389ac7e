-- How many fields a file's first record has, along the state machine of `csv`.
use Rattle.std.proofs.Common.{Bor, ◌≡◌, ◌<◌, ◌≤◌, ◌+◌, ℕ, zero, suc, Bool, true, false, List, [], ◌∷◌, ◌++◌, length, Option, Some, None, refl, ap, sym, ◌∙◌, subst, arith, length-append}
use Rattle.std.specs.Prelude.{⊤, ◌==◌, ◌||◌, if◌then◌else◌}
use Rattle.csv.specs.Machine.{Read, after_end, ends_at_end, field_after, fields_after, is_end, next_record, step}
use Rattle.csv.specs.Reading.{default_config, records_from, records_next, strip_bom}
use Rattle.csv.specs.declared.parser.Action.{Action}
use Rattle.csv.specs.declared.parser.Action.TheVariants as act
use Rattle.csv.specs.declared.parser.Config.{Config}
use Rattle.csv.specs.declared.parser.State.{State}
use Rattle.csv.specs.declared.parser.State.TheVariants as st
use Rattle.csv.specs.declared.parser.Terminator.TheVariants as term
use Rattle.csv.specs.declared.reader.Reader.{Reader}
use Rattle.csv_source.specs.Csv.{csv_records}
use Rattle.csv_source.specs.inner.Standing.{Stands}
use Rattle.csv_source.proofs.Standings.{stands-front}
use Rattle.csv_source.specs.declared.width.Next.TheVariants.{Within, FieldEnd, RecordEnd}
use Rattle.csv_source.specs.declared.width.Place.{Place}
use Rattle.csv_source.specs.inner.Width.{IsStep, TellsWidth, state_of}

-- the states inside a record
abbrev IsInside : State → Type 0
IsInside st.StartRecord = ⊥
IsInside st.AfterCr = ⊥
IsInside st.InComment = ⊥
IsInside st.InEscape = ⊥
IsInside st.StartField = ⊤
IsInside st.InField = ⊤
IsInside st.InQuoted = ⊤
IsInside st.AfterQuote = ⊤

-- a byte goes on inside the record, unless it ends the record
abbrev GoesOn : State × Action → Type 0
GoesOn r = is_end r.1 ≡ false → IsInside r.0

in-field : (a b : Bool) (e : State) → GoesOn (if a then (st.StartField, act.EndField) else if b then (e, act.EndRecord) else (st.InField, act.Copy))
in-field true b e = λ h. tt
in-field false true e = λ h. cc h
in-field false false e = λ h. tt

before-field : (q a b : Bool) (e : State) → GoesOn (if q then (st.InQuoted, act.Skip) else if a then (st.StartField, act.EndField) else if b then (e, act.EndRecord) else (st.InField, act.Copy))
before-field true a b e = λ h. tt
before-field false a b e = in-field a b e

behind-quote : (q a b : Bool) (e : State) → GoesOn (if q then (st.InQuoted, act.Copy) else if a then (st.StartField, act.EndField) else if b then (e, act.EndRecord) else (st.InField, act.Copy))
behind-quote true a b e = λ h. tt
behind-quote false a b e = in-field a b e

between-quotes : (q : Bool) → GoesOn (if q then (st.AfterQuote, act.Skip) else (st.InQuoted, act.Copy))
between-quotes true = λ h. tt
between-quotes false = λ h. tt

-- a byte that does not end the record leaves it inside
stays : (s : State) → IsInside s → (c : ℕ) → is_end (step default_config s c).1 ≡ false → IsInside (step default_config s c).0
stays st.StartRecord is c h = absurd is
stays st.AfterCr is c h = absurd is
stays st.InComment is c h = absurd is
stays st.InEscape is c h = absurd is
stays st.StartField is c h = before-field (c == 34) (c == 44) ((c == 13) || (c == 10)) (after_end term.CRLF c) h
stays st.InField is c h = in-field (c == 44) ((c == 13) || (c == 10)) (after_end term.CRLF c) h
stays st.InQuoted is c h = between-quotes (c == 34) h
stays st.AfterQuote is c h = behind-quote (c == 34) (c == 44) ((c == 13) || (c == 10)) (after_end term.CRLF c) h

grows : (a : Action) (fields : List (List ℕ)) (field : List ℕ) → length fields ≤ length (fields_after a fields field)
grows act.EndField fields field = omega (arith, length-append fields (field ∷ []))
grows act.Skip fields field = omega arith
grows act.Copy fields field = omega arith
grows act.EndRecord fields field = omega (arith, length-append fields (field ∷ []))

ends : (a : Action) (fields : List (List ℕ)) (field : List ℕ) → is_end a ≡ true → length fields < length (fields_after a fields field)
ends act.EndField fields field is = cc is
ends act.Skip fields field is = cc is
ends act.Copy fields field is = cc is
ends act.EndRecord fields field is = omega (arith, length-append fields (field ∷ []))

ends-inside : (s : State) → IsInside s → ends_at_end s ≡ true
ends-inside st.StartRecord is = absurd is
ends-inside st.AfterCr is = absurd is
ends-inside st.InComment is = refl
ends-inside st.InEscape is = refl
ends-inside st.StartField is = refl
ends-inside st.InField is = refl
ends-inside st.InQuoted is = refl
ends-inside st.AfterQuote is = refl

-- a record of more fields than these
record IsWider (o : Option Read) (n : ℕ) : Type 0 where
  pub read : Read
  pub is : o ≡ Some read
  pub wider : n < length read.0

-- inside a record one more field ends at least
wider : (s : State) → IsInside s → (fields : List (List ℕ)) (field xs : List ℕ) → IsWider (next_record default_config s fields field xs) (length fields)
unfolding next_record
wider s is fields field [] = record {
  read = (fields ++ (field ∷ []), st.StartRecord, []);
  is = rw (ends-inside s is) refl;
  wider = omega (arith, length-append fields (field ∷ []));
}
wider s is fields field (c ∷ rest) =
    at_byte (is_end (step default_config s c).1) refl
    (λ inside. wider (step default_config s c).0 inside (fields_after (step default_config s c).1 fields field) (field_after (step default_config s c).1 c field) rest)
  where
    at_byte : (b : Bool) → is_end (step default_config s c).1 ≡ b
        → (IsInside (step default_config s c).0 → IsWider (next_record default_config (step default_config s c).0 (fields_after (step default_config s c).1 fields field) (field_after (step default_config s c).1 c field) rest) (length (fields_after (step default_config s c).1 fields field)))
        → IsWider (if b then Some (fields_after (step default_config s c).1 fields field, (step default_config s c).0, rest)
        else next_record default_config (step default_config s c).0 (fields_after (step default_config s c).1 fields field) (field_after (step default_config s c).1 c field) rest) (length fields)
    at_byte true e more = record { read = (fields_after (step default_config s c).1 fields field, (step default_config s c).0, rest); is = refl; wider = ends (step default_config s c).1 fields field e }
    at_byte false e more =
        let w = more (stays s is c e) in
        record { read = w.read; is = w.is; wider = omega (arith, w.wider, grows (step default_config s c).1 fields field) }

-- ---- the first record of a file

from-first : (cfg : Config) (fuel : ℕ) (s : State) (xs : List ℕ) (p : Read) → 0 < fuel → next_record cfg s [] [] xs ≡ Some p → (rows : List (List (List ℕ))) × (records_from cfg fuel s xs ≡ p.0 ∷ rows)
unfolding records_from
from-first cfg zero s xs p some is = absurd (omega (arith, some))
from-first cfg (suc fuel) s xs p some is = (records_from cfg fuel p.1 p.2, ap (records_next (records_from cfg fuel)) is)

first-from : (cfg : Config) (fuel : ℕ) (s : State) (xs : List ℕ) (header : List (List ℕ)) (rows : List (List (List ℕ))) → records_from cfg fuel s xs ≡ header ∷ rows
    → (p : Read) × (next_record cfg s [] [] xs ≡ Some p) × (p.0 ≡ header)
unfolding records_from
first-from cfg zero s xs header rows is = cc is
first-from cfg (suc fuel) s xs header rows is = by (next_record cfg s [] [] xs) refl is
  where
    by : (o : Option Read) → next_record cfg s [] [] xs ≡ o → records_next (records_from cfg fuel) o ≡ header ∷ rows → (p : Read) × (next_record cfg s [] [] xs ≡ Some p) × (p.0 ≡ header)
    by None e same = cc same
    by (Some p) e same = (p, e, cc same)

module _ (bytes text : List ℕ) (text_is : text ≡ strip_bom bytes) (s : State) (fields : List (List ℕ)) (field rest : List ℕ)
    (stands : next_record default_config st.StartRecord [] [] text ≡ next_record default_config s fields field rest) where
  -- what is read from the place at hand is the first record
  pub first-is : (header : List (List ℕ)) (rows : List (List (List ℕ))) → csv_records bytes ≡ header ∷ rows → (p : Read) × (next_record default_config s fields field rest ≡ Some p) × (p.0 ≡ header)
  unfolding csv_records
  first-is header rows is =
      let (p, e, same) = first-from default_config (length (strip_bom bytes) + 1) st.StartRecord (strip_bom bytes) header rows is in
      (p, sym stands ∙ ap (next_record default_config st.StartRecord [] []) text_is ∙ e, same)

  -- there is more than so many fields where the record goes on
  pub too-wide : IsInside s → 1024 ≤ length fields → TellsWidth true (csv_records bytes)
  unfolding csv_records
  too-wide is many =
      let w = wider s is fields field rest in
      let (rows, e) = from-first default_config (length (strip_bom bytes) + 1) st.StartRecord (strip_bom bytes) w.read (omega arith)
      (ap (next_record default_config st.StartRecord [] []) (sym text_is) ∙ stands ∙ w.is) in
      (w.read.0, rows, e, omega (arith, w.wider, many))

  pub narrow : length fields < 1024 → ((p : Read) → next_record default_config s fields field rest ≡ Some p → length p.0 ≡ length fields + 1) → TellsWidth false (csv_records bytes)
  narrow few ends = λ header rows is.
      let (p, e, same) = first-is header rows is in
      omega (arith, ends p e, ap length same, few)

-- ---- one byte

module _ (s : State) (c : ℕ) (fields : List (List ℕ)) (field rest : List ℕ) where
  pub goes-within : (place : Place) → IsStep s c (Within place) → next_record default_config s fields field (c ∷ rest) ≡ next_record default_config (state_of place) fields (field_after (step default_config s c).1 c field) rest
  unfolding next_record
  goes-within place (to, on, kept) = rw (on, to, kept fields field) refl

  pub field-ends : IsStep s c FieldEnd → next_record default_config s fields field (c ∷ rest) ≡ next_record default_config st.StartField (fields ++ (field ∷ [])) [] rest
  unfolding next_record
  field-ends (to, does) = rw (does, to) refl

  pub record-ends : IsStep s c RecordEnd → (p : Read) → next_record default_config s fields field (c ∷ rest) ≡ Some p → length p.0 ≡ length fields + 1
  unfolding next_record
  record-ends does p is =
      let h = rw does at is in
      let same : p ≡ (fields ++ (field ∷ []), (step default_config s c).0, rest) = cc h in
      rw same (omega (arith, length-append fields (field ∷ [])))

-- at the end of the text
pub text-ends : (s : State) (fields : List (List ℕ)) (field : List ℕ) (p : Read) → next_record default_config s fields field [] ≡ Some p → length p.0 ≡ length fields + 1
unfolding next_record
text-ends s fields field p is = by (ends_at_end s) is
  where
    by : (b : Bool) → (if b then Some (fields ++ (field ∷ []), st.StartRecord, []) else None) ≡ Some p → length p.0 ≡ length fields + 1
    by true q =
        let same : p ≡ (fields ++ (field ∷ []), st.StartRecord, []) = cc q in
        rw same (omega (arith, length-append fields (field ∷ [])))
    by false q = cc q

-- a reader that has given the first record of a file, which is not too wide
pub few-fields : (bytes : List ℕ) (header : List (List ℕ)) (reader : Reader (Bor (List ℕ))) (wide : Bool) → wide ≡ false → TellsWidth wide (csv_records bytes) → Stands bytes (header ∷ []) reader → length header ≤ 1024
few-fields bytes header reader wide is tells stands =
    let (rest, front) = stands-front bytes (header ∷ []) reader stands in
    let narrow-first : TellsWidth false (csv_records bytes) = subst (λ b. TellsWidth b (csv_records bytes)) is tells in
    narrow-first header rest front
