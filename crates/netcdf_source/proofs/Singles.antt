-- A field by itself: a number, a run, a type. What is read is the field, and what is a field is read.
use Rattle.std.proofs.Common.{◌≡◌, ℕ, ◌<◌, ◌≤◌, inl, inr, Bool, true, false, ◌||◌, cond, ltb, leb, List, [], ◌∷◌, ◌++◌, length, take, drop, Option, Some, None, Result, Ok, Err, MatchOption, refl, sym, ap, ◌∙◌, append_assoc, arith}
use Rattle.std.specs.Prelude.{unwrap_or, is_none}
use Rattle.std.specs.Option.{option_map_or}
use Rattle.std.specs.Int.{w32, w64, from_be_bytes}
use Rattle.std.proofs.lemmas.Bool.{cases_lt, lt-ltb, le-ltb}
use Rattle.std.proofs.lemmas.List.{take_at, drop_at, take-append-drop, length-append, length-take, get_or-take, get_or_past}
use Rattle.std.proofs.lemmas.Nat.{be_bytes_4, be_bytes_8, from_be_bytes-to_be_bytes_4, from_be_bytes-to_be_bytes_8}
use Rattle.netcdf_source.specs.Fields.{number, run, field_len, Spells, Fault, failure, bad_if, Judged, judged, fine, Ends}
use Rattle.netcdf_source.specs.Grammar.{type_fault, external_type}
use Rattle.netcdf_source.specs.inner.Reading.{◌>>=◌, passed, word_at, long_at, run_at, judged_at, type_at}
use Rattle.netcdf_source.specs.Types.{type_numbered}
use Rattle.netcdf_source.specs.Versions.{has_more_types, bytes_in}
use Rattle.netcdf_source.specs.declared.version.Version.{Version}
use Rattle.netcdf_source.specs.declared.version.Width.{Width}
use Rattle.netcdf_source.specs.declared.version.Width.TheVariants.{Four, Eight}
use Rattle.netcdf_source.specs.declared.external_type.ExternalType.{ExternalType}
use Rattle.netcdf_source.specs.declared.external_type.ExternalType.TheVariants.{Byte}
use Rattle.netcdf_source.specs.declared.failure.Failure.{Failure}
use Rattle.netcdf_source.specs.declared.failure.Failure.TheVariants.{Cut, Bad}
use Rattle.netcdf_source.proofs.Ends.{IsBytes, with_value, Again, Sound}
use Rattle.dap_model.specs.Xdr.{padded}

-- A reader of one field of a fixed length.
pub record IsReader {T X : Type 0} (field : T → Judged) (says : T → X) (len : ℕ) (read : List ℕ → Result (X × List ℕ) Failure) : Type 0 where
  pub some : T
  pub long : (t : T) → field_len (field t).field ≡ len
  pub cut : (bytes : List ℕ) → length bytes < len → read bytes ≡ Err Cut
  pub whole : (t : T) (front rest : List ℕ) → Spells (field t).field front → read (front ++ rest) ≡ passed (field t).fault (length (front ++ rest)) (says t, rest)
  pub splits : (bytes : List ℕ) → IsBytes bytes → len ≤ length bytes → (t : T) × (front : List ℕ) × (rest : List ℕ) × (bytes ≡ front ++ rest) × Spells (field t).field front

passed_again : {X : Type 0} (o : Option Fault) (left : ℕ) (x : X) (rest : List ℕ) (end : Result (List ℕ) Failure)
    → MatchOption o (end ≡ Ok rest) (λ f. end ≡ Err (failure f left)) → passed o left (x, rest) ≡ with_value x end
passed_again None left x rest end h = ap (with_value x) (sym h)
passed_again (Some f) left x rest end h = ap (with_value x) (sym h)

pub passed_found : {X : Type 0} (o : Option Fault) (left : ℕ) (x : X) (rest : List ℕ)
    → (end : Result (List ℕ) Failure) × MatchOption o (end ≡ Ok rest) (λ f. end ≡ Err (failure f left)) × (passed o left (x, rest) ≡ with_value x end)
passed_found None left x rest = (Ok rest, refl, refl)
passed_found (Some f) left x rest = (Err (failure f left), refl, refl)

pub again_single : {T X : Type 0} (field : T → Judged) (says : T → X) (len : ℕ) (read : List ℕ → Result (X × List ℕ) Failure) → IsReader field says len read → (t : T) → Again (field t ∷ []) (says t) read
unfolding Ends
again_single {T} {X} field says len read r t = record { at = λ bytes end h. go bytes end h }
  where
    go : (bytes : List ℕ) (end : Result (List ℕ) Failure) → Ends (field t ∷ []) bytes end → read bytes ≡ with_value (says t) end
    go bytes end (inl cut) = r.cut bytes (omega (arith, r.long t, cut.0)) ∙ ap (with_value (says t)) (sym cut.1)
    go bytes end (inr m) =
        ap read m.2 ∙ r.whole t m.0 m.1 m.3 ∙ ap (λ (bs : List ℕ). passed (field t).fault (length bs) (says t, m.1)) (sym m.2) ∙ passed_again (field t).fault (length bytes) (says t) m.1 end m.4

pub sound_single : {T X : Type 0} (field : T → Judged) (says : T → X) (len : ℕ) (read : List ℕ → Result (X × List ℕ) Failure) → IsReader field says len read → Sound (λ t. field t ∷ []) says read
unfolding Ends
sound_single {T} {X} field says len read r = record {
  found = λ bytes fits. elim (cases_lt (length bytes) len) [
    | inl short ↦ (r.some, Err Cut, inl (omega (arith, r.long r.some), refl), r.cut bytes short)
    | inr enough ↦
        let s = r.splits bytes fits enough in
        let p = passed_found (field s.0).fault (length bytes) (says s.0) s.2 in (
          s.0,
          p.0,
          inr (s.1, s.2, s.3, s.4, p.1),
          ap read s.3 ∙ r.whole s.0 s.1 s.2 s.4 ∙ ap (λ (bs : List ℕ). passed (field s.0).fault (length bs) (says s.0, s.2)) (sym s.3) ∙ p.2,
        )
  ];
}

-- ---- numbers

pub bytes-take : (n : ℕ) (bytes : List ℕ) → IsBytes bytes → IsBytes (take n bytes)
bytes-take n bytes h i =
    elim (cases_lt i n) [
      | inl lt ↦ rw (get_or-take n bytes i 0 lt) (h i)
      | inr le ↦ rw (get_or_past (take n bytes) i 0 (omega (arith, length-take n bytes))) (omega arith)
    ]

word_cut : (bytes : List ℕ) → length bytes < 4 → word_at bytes ≡ Err Cut
unfolding word_at
word_cut bytes lt = rw (lt-ltb _ _ lt) refl

pub word_again : (n : ℕ) (front rest : List ℕ) → Spells (number Four n) front → word_at (front ++ rest) ≡ Ok (n, rest)
unfolding word_at
word_again n front rest s =
    let len : length front ≡ 4 = ap length s.1 in
    let enough : ltb (length (front ++ rest)) 4 ≡ false = le-ltb _ _ (omega (arith, length-append front rest)) in
    let back : from_be_bytes w32 front ≡ n = ap (from_be_bytes w32) s.1 ∙ from_be_bytes-to_be_bytes_4 n s.0 in
    rw (enough, take_at front rest 4 len, drop_at front rest 4 len, back) refl

word_splits : (bytes : List ℕ) → IsBytes bytes → 4 ≤ length bytes → (n : ℕ) × (front : List ℕ) × (rest : List ℕ) × (bytes ≡ front ++ rest) × Spells (number Four n) front
word_splits bytes fits le =
    let front = take 4 bytes in
    let small = bytes-take 4 bytes fits in
    let len : length front ≡ 4 = omega (arith, length-take 4 bytes) in (
      from_be_bytes w32 front,
      front,
      drop 4 bytes,
      sym (take-append-drop 4 bytes),
      (omega (arith, small 0, small 1, small 2, small 3), sym (be_bytes_4 front _ len small refl)),
    )

long_cut : (bytes : List ℕ) → length bytes < 8 → long_at bytes ≡ Err Cut
unfolding long_at
long_cut bytes lt = rw (lt-ltb _ _ lt) refl

long_again : (n : ℕ) (front rest : List ℕ) → Spells (number Eight n) front → long_at (front ++ rest) ≡ Ok (n, rest)
unfolding long_at
long_again n front rest s =
    let len : length front ≡ 8 = ap length s.1 in
    let enough : ltb (length (front ++ rest)) 8 ≡ false = le-ltb _ _ (omega (arith, length-append front rest)) in
    let back : from_be_bytes w64 front ≡ n = ap (from_be_bytes w64) s.1 ∙ from_be_bytes-to_be_bytes_8 n s.0 in
    rw (enough, take_at front rest 8 len, drop_at front rest 8 len, back) refl

long_splits : (bytes : List ℕ) → IsBytes bytes → 8 ≤ length bytes → (n : ℕ) × (front : List ℕ) × (rest : List ℕ) × (bytes ≡ front ++ rest) × Spells (number Eight n) front
long_splits bytes fits le =
    let front = take 8 bytes in
    let small = bytes-take 8 bytes fits in
    let len : length front ≡ 8 = omega (arith, length-take 8 bytes) in (
      from_be_bytes w64 front,
      front,
      drop 8 bytes,
      sym (take-append-drop 8 bytes),
      (omega (arith, small 0, small 1, small 2, small 3, small 4, small 5, small 6, small 7), sym (be_bytes_8 front _ len small refl)),
    )

pub number_reader : (width : Width) (fault : ℕ → Option Fault) → IsReader (judged width fault) (λ n. n) (bytes_in width) (judged_at width fault)
unfolding judged_at
number_reader Four fault = record {
  some = 0;
  long = λ n. refl;
  cut = λ bytes lt. rw (word_cut bytes lt) refl;
  whole = λ n front rest s. rw (word_again n front rest s) refl;
  splits = word_splits;
}
number_reader Eight fault = record {
  some = 0;
  long = λ n. refl;
  cut = λ bytes lt. rw (long_cut bytes lt) refl;
  whole = λ n front rest s. rw (long_again n front rest s) refl;
  splits = long_splits;
}

typed : (o : Option ExternalType) (left : ℕ) (rest : List ℕ) → option_map_or {U = Result (ExternalType × List ℕ) Failure} (λ t. Ok (t, rest)) o (Err (Bad left)) ≡ passed (bad_if (is_none o) 0) left (unwrap_or o Byte, rest)
typed None left rest = ap (λ (k : ℕ). Err (Bad k)) (omega arith)
typed (Some t) left rest = refl

-- a number that is a type of the version, or none
typed_in : (b : Bool) (o : Option ExternalType) (left : ℕ) (rest : List ℕ)
    → option_map_or {U = Result (ExternalType × List ℕ) Failure} (λ t. Ok (t, rest)) (cond b o None) (Err (Bad left)) ≡ passed (bad_if (is_none (cond b o None)) 0) left (unwrap_or o Byte, rest)
typed_in true o left rest = typed o left rest
typed_in false o left rest = ap (λ (k : ℕ). Err (Bad k)) (omega arith)

pub type_reader : (version : Version) → IsReader (judged Four (type_fault version)) external_type 4 (type_at version)
unfolding type_at type_fault
type_reader version = record {
  some = 0;
  long = λ n. refl;
  cut = λ bytes lt. rw (word_cut bytes lt) refl;
  whole = λ n front rest s. rw (word_again n front rest s) (typed_in (has_more_types version || leb n 6) (type_numbered n) (length (front ++ rest)) rest);
  splits = word_splits;
}

-- ---- runs

pub run_cut : (n : ℕ) (bytes : List ℕ) → length bytes < padded n → run_at n bytes ≡ Err Cut
unfolding run_at
run_cut n bytes lt = rw (lt-ltb _ _ lt) refl

pub run_again : (n : ℕ) (xs front rest : List ℕ) → Spells (run n xs) front → run_at n (front ++ rest) ≡ Ok (xs, rest)
unfolding run_at
run_again n xs front rest s =
    let enough : ltb (length (front ++ rest)) (padded n) ≡ false = le-ltb _ _ (omega (arith, length-append front rest, s.2)) in
    let back : take n (front ++ rest) ≡ xs = rw (s.3, append_assoc) (take_at xs (s.0 ++ rest) n s.1) in
    rw (enough, back, drop_at front rest (padded n) s.2) refl

pub run_splits : (n : ℕ) (bytes : List ℕ) → IsBytes bytes → padded n ≤ length bytes → (xs : List ℕ) × (front : List ℕ) × (rest : List ℕ) × (bytes ≡ front ++ rest) × Spells (run n xs) front
run_splits n bytes fits le =
    let front = take (padded n) bytes in (
      take n front,
      front,
      drop (padded n) bytes,
      sym (take-append-drop (padded n) bytes),
      (drop n front, omega (arith, length-take n front, length-take (padded n) bytes), omega (arith, length-take (padded n) bytes), sym (take-append-drop n front)),
    )

pub run_reader : (fault : List ℕ → Option Fault) (n : ℕ)
    → IsReader (λ xs. record { field = run n xs; fault = fault xs }) (λ xs. xs) (padded n) (λ bytes. run_at n bytes >>= λ xs. passed (fault xs.0) (length bytes) xs)
run_reader fault n = record {
  some = [];
  long = λ xs. refl;
  cut = λ bytes lt. rw (run_cut n bytes lt) refl;
  whole = λ xs front rest s. rw (run_again n xs front rest s) refl;
  splits = run_splits n;
}

pub values_reader : (n : ℕ) → IsReader (λ xs. fine (run n xs)) (λ xs. xs) (padded n) (run_at n)
values_reader n = record {
  some = [];
  long = λ xs. refl;
  cut = run_cut n;
  whole = run_again n;
  splits = run_splits n;
}
