-- What the first bytes of a file are stays when more of it is read, but for what is cut.
use Rattle.std.proofs.Common.{◌≡◌, ℕ, ◌+◌, ◌-◌, ◌≤◌, inl, inr, List, [], ◌∷◌, ◌++◌, length, Option, Some, None, Result, Ok, Err, MatchOption, refl, sym, ap, subst, ◌∙◌, append_assoc, length-append, arith}
use Rattle.netcdf_source.specs.Fields.{Fault, streaming, bad, failure, Judged, Ends}
use Rattle.netcdf_source.specs.Grammar.{HeaderTree, header_fields}
use Rattle.netcdf_source.specs.Header.{magic, HasNoMagic, Stands, IsHeader, IsFirst}
use Rattle.netcdf_source.specs.declared.header.Contents.{Contents}
use Rattle.netcdf_source.specs.declared.refusal.HeaderRefusal.{HeaderRefusal}
use Rattle.netcdf_source.specs.declared.refusal.HeaderRefusal.TheVariants as refusals
use Rattle.netcdf_source.specs.declared.failure.Failure.{Failure}
use Rattle.netcdf_source.specs.declared.failure.Failure.TheVariants.{Cut, Streaming, Bad}
use Rattle.netcdf_source.specs.declared.version.Version.{Version}

-- the same end, with more bytes behind it
abbrev longer : List ℕ → Result (List ℕ) Failure → Result (List ℕ) Failure
longer more (Ok rest) = Ok (rest ++ more)
longer more (Err Cut) = Err Cut
longer more (Err Streaming) = Err Streaming
longer more (Err (Bad left)) = Err (Bad (left + length more))

abbrev IsNoCut : Result (List ℕ) Failure → Type 0
IsNoCut (Ok rest) = Unit {0}
IsNoCut (Err Cut) = ⊥
IsNoCut (Err Streaming) = Unit {0}
IsNoCut (Err (Bad left)) = Unit {0}

cut_no : (end : Result (List ℕ) Failure) → end ≡ Err Cut → IsNoCut end → ⊥
cut_no end e h = subst IsNoCut e h

failure_longer : (f : Fault) (n : ℕ) (more : List ℕ) → longer more (Err (failure f n)) ≡ Err (failure f (n + length more))
failure_longer streaming n more = refl
failure_longer (bad back) n more = ap (λ (k : ℕ). Err (Bad k)) (omega arith)

after_longer : (o : Option Fault) (n : ℕ) (js : List Judged) (rest more : List ℕ) (end : Result (List ℕ) Failure) → (Ends js rest end → Ends js (rest ++ more) (longer more end))
    → MatchOption o (Ends js rest end) (λ f. end ≡ Err (failure f n)) → MatchOption o (Ends js (rest ++ more) (longer more end)) (λ f. longer more end ≡ Err (failure f (n + length more)))
after_longer None n js rest more end go h = go h
after_longer (Some f) n js rest more end go h = ap (longer more) h ∙ failure_longer f n more

pub ends_longer : (js : List Judged) (bytes more : List ℕ) (end : Result (List ℕ) Failure) → IsNoCut end → Ends js bytes end → Ends js (bytes ++ more) (longer more end)
unfolding Ends
ends_longer [] bytes more end plain h = ap (longer more) h
ends_longer (j ∷ js) bytes more end plain (inl cut) = absurd (cut_no end cut.1 plain)
ends_longer (j ∷ js) bytes more end plain (inr m) =
    inr (
      m.0,
      m.1 ++ more,
      ap (λ (bs : List ℕ). bs ++ more) m.2 ∙ append_assoc m.0 m.1 more,
      m.3,
      subst (λ (n : ℕ). MatchOption j.fault (Ends js (m.1 ++ more) (longer more end)) (λ f. longer more end ≡ Err (failure f n))) (sym (length-append bytes more))
          (after_longer j.fault (length bytes) js m.1 more end (ends_longer js m.1 more end plain) m.4),
    )

stands_longer : (h : HeaderTree) (front more : List ℕ) (end : Result (List ℕ) Failure) → IsNoCut end → Stands h front end → Stands h (front ++ more) (longer more end)
stands_longer h front more end plain s = record {
  body = s.body ++ more;
  begins = ap (λ (bs : List ℕ). bs ++ more) s.begins ∙ append_assoc (magic h.version) s.body more;
  ends = ends_longer (header_fields h) s.body more end plain s.ends;
}

pub header_longer : (c : Contents) (front more : List ℕ) (file_len : ℕ) → IsHeader c front file_len → IsHeader c (front ++ more) file_len
header_longer c front more file_len is = (is.0, is.1 ++ more, stands_longer is.0 front more (Ok is.1) tt is.2, is.3, is.4)

-- a magic has four bytes
pub magic_longer : (front more : List ℕ) → 4 ≤ length front → HasNoMagic front → HasNoMagic (front ++ more)
unfolding HasNoMagic
magic_longer [] more le none = absurd (omega arith)
magic_longer (a ∷ []) more le none = absurd (omega arith)
magic_longer (a ∷ b ∷ []) more le none = absurd (omega arith)
magic_longer (a ∷ b ∷ c ∷ []) more le none = absurd (omega arith)
magic_longer (a ∷ b ∷ c ∷ d ∷ front) more le none = λ version rest e. none version front (ap (λ (m : List ℕ). m ++ front) (four version rest e))
  where
    four : (version : Version) (rest : List ℕ) → a ∷ b ∷ c ∷ d ∷ (front ++ more) ≡ magic version ++ rest → a ∷ b ∷ c ∷ d ∷ [] ≡ magic version
    four version rest e = cc

-- a cause that is not a cut
abbrev pub IsCutCause : HeaderRefusal → Type 0
IsCutCause refusals.HeaderCut = Unit {0}
IsCutCause refusals.HeaderTooLong = Unit {0}
IsCutCause refusals.NotCdf = ⊥
IsCutCause refusals.Streaming = ⊥
IsCutCause (refusals.BadField place) = ⊥
IsCutCause (refusals.PastEnd var) = ⊥
IsCutCause refusals.Memory = ⊥

place_longer : (place left : ℕ) (front more : List ℕ) → place ≡ length front - left → place ≡ length (front ++ more) - (left + length more)
place_longer place left front more e = omega (arith, e, length-append front more)

pub first_longer : (cause : HeaderRefusal) (front more : List ℕ) (file_len : ℕ) → 4 ≤ length front → (IsCutCause cause → ⊥) → IsFirst cause front file_len → IsFirst cause (front ++ more) file_len
first_longer refusals.NotCdf front more file_len le other is = magic_longer front more le is
first_longer refusals.HeaderCut front more file_len le other is = absurd (other tt)
first_longer refusals.HeaderTooLong front more file_len le other is = absurd (other tt)
first_longer refusals.Streaming front more file_len le other is = (is.0, stands_longer is.0 front more (Err Streaming) tt is.1)
first_longer (refusals.BadField place) front more file_len le other is = (is.0, is.1 + length more, stands_longer is.0 front more (Err (Bad is.1)) tt is.2, place_longer place is.1 front more is.3)
first_longer (refusals.PastEnd var) front more file_len le other is = (is.0, is.1 ++ more, stands_longer is.0 front more (Ok is.1) tt is.2, is.3)
first_longer refusals.Memory front more file_len le other is = is
