-- Bytes are one header, or have one first cause.
use Rattle.std.proofs.Common.{◌≡◌, ℕ, ◌⊎◌, inl, inr, Bool, true, false, ltb, eqb, List, [], ◌∷◌, ◌++◌, length, Option, Some, None, Result, Ok, Err, refl, sym, ap, subst, ◌∙◌}
use Rattle.std.proofs.lemmas.Bool.{ltb-true, ltb-false}
use Rattle.std.proofs.lemmas.Bool.Decides.{Decides-eqb}
use Rattle.netcdf_source.specs.Fields.{Ends}
use Rattle.netcdf_source.specs.Grammar.{contents, header_fields}
use Rattle.netcdf_source.specs.Header.{magic, HasNoMagic}
use Rattle.netcdf_source.specs.inner.Answering.{version_of, judgement}
use Rattle.netcdf_source.specs.declared.version.Version.{Version}
use Rattle.netcdf_source.specs.declared.version.Version.TheVariants.{One, Two, Five}
use Rattle.netcdf_source.specs.Laws.{IsVerdict, OneVerdict, EachHasVerdict}
use Rattle.netcdf_source.specs.Parts.{past_end}
use Rattle.netcdf_source.specs.inner.Reading.{contents_at}
use Rattle.netcdf_source.specs.declared.header.Contents.{Contents}
use Rattle.netcdf_source.specs.declared.refusal.HeaderRefusal.{HeaderRefusal}
use Rattle.netcdf_source.specs.declared.refusal.HeaderRefusal.TheVariants as refusals
use Rattle.netcdf_source.specs.declared.failure.Failure.{Failure}
use Rattle.netcdf_source.specs.declared.failure.Failure.TheVariants.{Cut, Streaming, Bad}
use Rattle.netcdf_source.proofs.Ends.{IsBytes, later_bytes}
use Rattle.netcdf_source.proofs.Fitting.{file_bytes}
use Rattle.netcdf_source.proofs.Headers.{FlatHeader, header_of, header_sound}
use Rattle.netcdf_source.proofs.Verdict.{Front, no_magic, read_along, first_verdict, standing}

-- ---- at most one

abbrev Judgement : Version → List ℕ → List ℕ → ℕ → Result Contents HeaderRefusal
Judgement version body front file_len = judgement (contents_at version body) (length front) file_len

-- behind a magic a verdict is what is read
read_verdict : (version : Version) (body front : List ℕ) (file_len : ℕ) → Front version body front → (r : Result Contents HeaderRefusal) → IsVerdict front file_len r → Judgement version body front file_len ≡ r
read_verdict version body front file_len f (Ok c) is =
    let read = read_along is.0 version body front (Ok is.1) f is.2 in
    let none : past_end (contents is.0) file_len ≡ None = subst (λ x. past_end x file_len ≡ None) (sym is.3) is.4 in
    rw (read, none) (ap Ok is.3)
read_verdict version body front file_len f (Err cause) is = first_verdict cause version body front file_len f is

-- without a magic there is one alone
magic_alone : (front : List ℕ) (file_len : ℕ) → HasNoMagic front → (r : Result Contents HeaderRefusal) → IsVerdict front file_len r → r ≡ Err refusals.NotCdf
unfolding HasNoMagic
magic_alone front file_len none (Ok c) is = absurd (none is.0.version is.2.body is.2.begins)
magic_alone front file_len none (Err refusals.NotCdf) is = refl
magic_alone front file_len none (Err refusals.HeaderCut) is = absurd (none is.0.version is.1.body is.1.begins)
magic_alone front file_len none (Err refusals.HeaderTooLong) is = absurd (none is.0.version is.1.body is.1.begins)
magic_alone front file_len none (Err refusals.Streaming) is = absurd (none is.0.version is.1.body is.1.begins)
magic_alone front file_len none (Err (refusals.BadField place)) is = absurd (none is.0.version is.2.body is.2.begins)
magic_alone front file_len none (Err (refusals.PastEnd var)) is = absurd (none is.0.version is.2.body is.2.begins)
magic_alone front file_len none (Err refusals.Memory) is = absurd is

-- ---- the magic

abbrev Split : List ℕ → Type 0
Split front = ((version : Version) × (body : List ℕ) × Front version body front) ⊎ HasNoMagic front

-- a magic stands in front, or none does
split : (front : List ℕ) → Split front
split [] = inr (no_magic [] refl)
split (a ∷ []) = inr (no_magic (a ∷ []) refl)
split (a ∷ b ∷ []) = inr (no_magic (a ∷ b ∷ []) refl)
split (a ∷ b ∷ c ∷ []) = inr (no_magic (a ∷ b ∷ c ∷ []) refl)
split (a ∷ b ∷ c ∷ v ∷ body) = first (eqb a 0x43) (eqb b 0x44) (eqb c 0x46) refl refl refl
  where
    same : (x y : ℕ) → eqb x y ≡ true → x ≡ y
    same x y e = (Decides-eqb x y).0 e

    front_is : (n : ℕ) (version : Version) → a ≡ 0x43 → b ≡ 0x44 → c ≡ 0x46 → v ≡ n → 0x43 ∷ 0x44 ∷ 0x46 ∷ n ∷ [] ≡ magic version → Split (a ∷ b ∷ c ∷ v ∷ body)
    front_is n version ea eb ec ev is = inl (version, body, record { begins = rw (ea, eb, ec, ev) (ap (λ (m : List ℕ). m ++ body) is) })

    none : version_of a b c v ≡ None → Split (a ∷ b ∷ c ∷ v ∷ body)
    none e = inr (no_magic (a ∷ b ∷ c ∷ v ∷ body) e)

    of_byte : eqb a 0x43 ≡ true → eqb b 0x44 ≡ true → eqb c 0x46 ≡ true → (one two five : Bool) → eqb v 1 ≡ one → eqb v 2 ≡ two → eqb v 5 ≡ five → Split (a ∷ b ∷ c ∷ v ∷ body)
    of_byte ea eb ec true two five e1 e2 e5 = front_is 1 One (same _ _ ea) (same _ _ eb) (same _ _ ec) (same _ _ e1) refl
    of_byte ea eb ec false true five e1 e2 e5 = front_is 2 Two (same _ _ ea) (same _ _ eb) (same _ _ ec) (same _ _ e2) refl
    of_byte ea eb ec false false true e1 e2 e5 = front_is 5 Five (same _ _ ea) (same _ _ eb) (same _ _ ec) (same _ _ e5) refl
    of_byte ea eb ec false false false e1 e2 e5 = none (rw (ea, eb, ec, e1, e2, e5) refl)

    first : (ta tb tc : Bool) → eqb a 0x43 ≡ ta → eqb b 0x44 ≡ tb → eqb c 0x46 ≡ tc → Split (a ∷ b ∷ c ∷ v ∷ body)
    first false tb tc ea eb ec = none (rw ea refl)
    first true false tc ea eb ec = none (rw (ea, eb) refl)
    first true true false ea eb ec = none (rw (ea, eb, ec) refl)
    first true true true ea eb ec = of_byte ea eb ec (eqb v 1) (eqb v 2) (eqb v 5) refl refl refl

pub one_verdict : OneVerdict
one_verdict front file_len one other is also = elim (split front) [
  | inl s ↦ sym (read_verdict s.0 s.1 front file_len s.2 one is) ∙ read_verdict s.0 s.1 front file_len s.2 other also
  | inr none ↦ magic_alone front file_len none one is ∙ sym (magic_alone front file_len none other also)
]

-- ---- at least one

abbrev Some-verdict : List ℕ → ℕ → Type 0
Some-verdict front file_len = (r : Result Contents HeaderRefusal) × IsVerdict front file_len r

behind_magic : (version : Version) (body front : List ℕ) (file_len : ℕ) → IsBytes body → Front version body front → Some-verdict front file_len
behind_magic version body front file_len fits f =
    let s = (header_sound version).found body fits in
    go s.0 s.1 s.2
  where
    ended : (p : FlatHeader) (rest : List ℕ) → Ends (header_fields (header_of version p)) body (Ok rest) → (o : Option ℕ) → past_end (contents (header_of version p)) file_len ≡ o → Some-verdict front file_len
    ended p rest ends None is = (Ok (contents (header_of version p)), (header_of version p, rest, standing version body front p (Ok rest) f ends, refl, is))
    ended p rest ends (Some var) is = (Err (refusals.PastEnd var), (header_of version p, rest, standing version body front p (Ok rest) f ends, is))

    cut : (p : FlatHeader) → Ends (header_fields (header_of version p)) body (Err Cut) → (b : Bool) → ltb 1048576 file_len ≡ b → Some-verdict front file_len
    cut p ends true e = (Err refusals.HeaderTooLong, (header_of version p, standing version body front p (Err Cut) f ends, ltb-true _ _ e))
    cut p ends false e = (Err refusals.HeaderCut, (header_of version p, standing version body front p (Err Cut) f ends, ltb-false _ _ e))

    go : (p : FlatHeader) (end : Result (List ℕ) Failure) → Ends (header_fields (header_of version p)) body end → Some-verdict front file_len
    go p (Ok rest) ends = ended p rest ends (past_end (contents (header_of version p)) file_len) refl
    go p (Err Cut) ends = cut p ends (ltb 1048576 file_len) refl
    go p (Err Streaming) ends = (Err refusals.Streaming, (header_of version p, standing version body front p (Err Streaming) f ends))
    go p (Err (Bad left)) ends = (Err (refusals.BadField _), (header_of version p, left, standing version body front p (Err (Bad left)) f ends, refl))

pub each_has_verdict : EachHasVerdict
each_has_verdict front file_len bytes = elim (split front) [
  | inl s ↦ behind_magic s.0 s.1 front file_len (later_bytes (magic s.0) s.1 (subst IsBytes s.2.begins (file_bytes front bytes))) s.2
  | inr none ↦ (Err refusals.NotCdf, none)
]
