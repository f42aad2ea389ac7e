-- The fields of the records of a file hold bytes, as the file does.
use Rattle.std.proofs.Common.{◌≡◌, ◌+◌, ℕ, zero, suc, Bool, true, false, List, [], ◌∷◌, ◌++◌, Some, None, length, All, refl, sym, subst}
use Rattle.std.specs.Prelude.{Option, if◌then◌else◌}
use Rattle.std.proofs.lemmas.List.Elements.{All-nil, All-cons, All-head, All-tail, All-append}
use Rattle.csv.specs.Machine.{Read, ends_at_end, field_after, fields_after, is_end, next_record, step}
use Rattle.csv.specs.Reading.{default_config, is_bom, records_from, records_next, strip_bom}
use Rattle.csv.specs.declared.parser.Action.{Action}
use Rattle.csv.specs.declared.parser.Action.TheVariants as act
use Rattle.csv.specs.declared.parser.Config.{Config}
use Rattle.csv.specs.declared.parser.State.{State}
use Rattle.csv.specs.declared.parser.State.TheVariants as st
use Rattle.file_names.proofs.Words.{IsByte, AreBytes}
use Rattle.csv_source.specs.Csv.{csv_records}

-- each field does
abbrev pub HoldBytes : List (List ℕ) → Type 0
HoldBytes fields = All AreBytes fields

one-more : (fields : List (List ℕ)) (field : List ℕ) → HoldBytes fields → AreBytes field → HoldBytes (fields ++ field ∷ [])
one-more fields field h k = All-append AreBytes fields (field ∷ []) h (All-cons AreBytes field [] k (All-nil AreBytes))

fields-bytes : (a : Action) (fields : List (List ℕ)) (field : List ℕ) → HoldBytes fields → AreBytes field → HoldBytes (fields_after a fields field)
fields-bytes act.EndField fields field h k = one-more fields field h k
fields-bytes act.Skip fields field h k = h
fields-bytes act.Copy fields field h k = h
fields-bytes act.EndRecord fields field h k = one-more fields field h k

field-bytes : (a : Action) (c : ℕ) (field : List ℕ) → IsByte c → AreBytes field → AreBytes (field_after a c field)
field-bytes act.Copy c field b k = All-append IsByte field (c ∷ []) k (All-cons IsByte c [] b (All-nil IsByte))
field-bytes act.EndField c field b k = All-nil IsByte
field-bytes act.Skip c field b k = k
field-bytes act.EndRecord c field b k = All-nil IsByte

-- a record's fields, and what is left behind it
abbrev ReadBytes : Read → Type 0
ReadBytes p = HoldBytes p.0 × AreBytes p.2

next-bytes : (cfg : Config) (s : State) (fields : List (List ℕ)) (field : List ℕ) (xs : List ℕ) (p : Read)
    → next_record cfg s fields field xs ≡ Some p → HoldBytes fields → AreBytes field → AreBytes xs → ReadBytes p
unfolding next_record
next-bytes cfg s fields field [] p e h k bytes = at_end (ends_at_end s) e
  where
    at_end : (b : Bool) → (if b then Some (fields ++ (field ∷ []), st.StartRecord, []) else None) ≡ Some p → ReadBytes p
    at_end true q =
        let same : p ≡ (fields ++ (field ∷ []), st.StartRecord, []) = cc q in
        subst ReadBytes (sym same) (one-more fields field h k, All-nil IsByte)
    at_end false q = cc q
next-bytes cfg s fields field (c ∷ rest) p e h k bytes =
    at_byte (is_end (step cfg s c).1) e
    (next-bytes cfg (step cfg s c).0 (fields_after (step cfg s c).1 fields field) (field_after (step cfg s c).1 c field) rest p)
  where
    at_byte : (b : Bool)
        → (if b then Some (fields_after (step cfg s c).1 fields field, (step cfg s c).0, rest)
        else next_record cfg (step cfg s c).0 (fields_after (step cfg s c).1 fields field) (field_after (step cfg s c).1 c field) rest) ≡ Some p
        → (next_record cfg (step cfg s c).0 (fields_after (step cfg s c).1 fields field) (field_after (step cfg s c).1 c field) rest ≡ Some p
        → HoldBytes (fields_after (step cfg s c).1 fields field) → AreBytes (field_after (step cfg s c).1 c field) → AreBytes rest → ReadBytes p)
        → ReadBytes p
    at_byte true q later =
        let same : p ≡ (fields_after (step cfg s c).1 fields field, (step cfg s c).0, rest) = cc q in
        subst ReadBytes (sym same) (fields-bytes (step cfg s c).1 fields field h k, All-tail IsByte c rest bytes)
    at_byte false q later =
        later q (fields-bytes (step cfg s c).1 fields field h k) (field-bytes (step cfg s c).1 c field (All-head IsByte c rest bytes) k) (All-tail IsByte c rest bytes)

from-bytes : (cfg : Config) (fuel : ℕ) (s : State) (xs : List ℕ) → AreBytes xs → All HoldBytes (records_from cfg fuel s xs)
unfolding records_from
from-bytes cfg zero s xs bytes = All-nil HoldBytes
from-bytes cfg (suc fuel) s xs bytes = by_next (next_record cfg s [] [] xs) (λ p is. next-bytes cfg s [] [] xs p is (All-nil AreBytes) (All-nil IsByte) bytes) (λ s2 ys left. from-bytes cfg fuel s2 ys left)
  where
    by_next : (o : Option Read) → ((p : Read) → o ≡ Some p → ReadBytes p) → ((s2 : State) (ys : List ℕ) → AreBytes ys → All HoldBytes (records_from cfg fuel s2 ys))
        → All HoldBytes (records_next (records_from cfg fuel) o)
    by_next None read later = All-nil HoldBytes
    by_next (Some p) read later = All-cons HoldBytes p.0 (records_from cfg fuel p.1 p.2) (read p refl).0 (later p.1 p.2 (read p refl).1)

strip_bom-bytes : (bytes : List ℕ) → AreBytes bytes → AreBytes (strip_bom bytes)
unfolding strip_bom
strip_bom-bytes [] h = h
strip_bom-bytes (a ∷ []) h = h
strip_bom-bytes (a ∷ b ∷ []) h = h
strip_bom-bytes (a ∷ b ∷ c ∷ rest) h = by_test (is_bom a b c)
  where
    by_test : (mark : Bool) → AreBytes (if mark then rest else a ∷ b ∷ c ∷ rest)
    by_test true = All-tail IsByte c rest (All-tail IsByte b (c ∷ rest) (All-tail IsByte a (b ∷ c ∷ rest) h))
    by_test false = h

pub csv-bytes : (bytes : List ℕ) → AreBytes bytes → All HoldBytes (csv_records bytes)
unfolding csv_records
csv-bytes bytes h = from-bytes default_config (length (strip_bom bytes) + 1) st.StartRecord (strip_bom bytes) (strip_bom-bytes bytes h)
