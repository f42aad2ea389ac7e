-- The answer to the bytes of a header, and to those that are none.
use Rattle.std.proofs.Common.{◌≡◌, ℕ, ◌⊎◌, inl, inr, Bool, true, false, cond, ltb, List, ◌∷◌, ◌++◌, length, Option, Some, None, Result, Ok, Err, MatchResult, refl, sym, ap, subst, ◌∙◌}
use Rattle.std.specs.Prelude.{IfOk, IfErr, IsErrAnd}
use Rattle.std.specs.Option.{option_map_or}
use Rattle.std.proofs.lemmas.Bool.{ltb-true, ltb-false, lt-ltb, le-ltb}
use Rattle.netcdf_source.specs.Fields.{Ends}
use Rattle.netcdf_source.specs.Grammar.{HeaderTree, contents, header_fields}
use Rattle.netcdf_source.specs.Header.{contents_of, magic, HasNoMagic, Stands, IsHeader, IsFirst}
use Rattle.netcdf_source.specs.inner.Answering.{version_in, refusal_of, judgement, verdict, Answers}
use Rattle.netcdf_source.specs.Parts.{past_end}
use Rattle.netcdf_source.specs.inner.Reading.{contents_at}
use Rattle.netcdf_source.specs.declared.header.Contents.{Contents}
use Rattle.netcdf_source.specs.declared.file.Header.{Header}
use Rattle.netcdf_source.specs.declared.refusal.HeaderRefusal.{HeaderRefusal}
use Rattle.netcdf_source.specs.declared.refusal.HeaderRefusal.TheVariants as refusals
use Rattle.netcdf_source.specs.declared.version.Version.{Version}
use Rattle.netcdf_source.specs.declared.version.Version.TheVariants.{One, Two, Five}
use Rattle.netcdf_source.specs.declared.failure.Failure.{Failure}
use Rattle.netcdf_source.specs.declared.failure.Failure.TheVariants.{Cut, Streaming, Bad}
use Rattle.netcdf_source.proofs.Ends.{IsBytes, with_value}
use Rattle.netcdf_source.proofs.Headers.{FlatHeader, header_of, header_again, header_sound}

-- ---- the magic

pub no_magic : (front : List ℕ) → version_in front ≡ None → HasNoMagic front
unfolding HasNoMagic
no_magic front h version rest e = absurd (none_some (sym h ∙ ap version_in e ∙ found version))
  where
    found : (v : Version) → version_in (magic v ++ rest) ≡ Some v
    found One = refl
    found Two = refl
    found Five = refl

    none_some : Path (Option Version) None (Some version) → ⊥
    none_some q = cc

-- a magic that stands in front
pub record Front (version : Version) (body front : List ℕ) : Type 0 where
  pub begins : front ≡ magic version ++ body

same_body : (m n : ℕ) (x y : List ℕ) → 0x43 ∷ 0x44 ∷ 0x46 ∷ m ∷ x ≡ 0x43 ∷ 0x44 ∷ 0x46 ∷ n ∷ y → x ≡ y
same_body m n x y e = cc

some_version : (v w : Version) → Path (Option Version) (Some v) (Some w) → v ≡ w
some_version v w e = cc

version_found : (v : Version) (rest : List ℕ) → version_in (magic v ++ rest) ≡ Some v
version_found One rest = refl
version_found Two rest = refl
version_found Five rest = refl

same_version : (v w : Version) (x y : List ℕ) → magic v ++ x ≡ magic w ++ y → (v ≡ w) × (x ≡ y)
same_version v w x y e = (some_version v w (sym (version_found v x) ∙ ap version_in e ∙ version_found w y), same_body _ _ x y e)

-- ---- what is answered

judged_ok : (c d : Contents) (o : Option ℕ) → option_map_or {U = Result Contents HeaderRefusal} (λ var. Err (refusals.PastEnd var)) o (Ok c) ≡ Ok d → (o ≡ None) × (c ≡ d)
judged_ok c d None e = (refl, cc)
judged_ok c d (Some k) e = absurd cc

judged_err : (c : Contents) (r : HeaderRefusal) (o : Option ℕ) → option_map_or {U = Result Contents HeaderRefusal} (λ var. Err (refusals.PastEnd var)) o (Ok c) ≡ Err r → (k : ℕ) × (o ≡ Some k) × (refusals.PastEnd k ≡ r)
judged_err c r None e = absurd cc
judged_err c r (Some k) e = (k, refl, cc)

pub standing : (version : Version) (body front : List ℕ) (p : FlatHeader) (end : Result (List ℕ) Failure) → Front version body front → Ends (header_fields (header_of version p)) body end → Stands (header_of version p) front end
standing version body front p end f h = record { body = body; begins = f.begins; ends = h }

pub is_header : (version : Version) (body front : List ℕ) (file_len : ℕ) (r : Result Header HeaderRefusal) → IsBytes body → Front version body front → Answers r (verdict version body (length front) file_len)
    → IfOk r (λ h. IsHeader (contents_of h) front file_len)
unfolding verdict
is_header version body front file_len (Err e) fits f a = tt
is_header version body front file_len (Ok h) fits f a =
    let s = (header_sound version).found body fits in
    go s.0 s.1 s.2 (ap (λ r. judgement r (length front) file_len) (sym s.3) ∙ a)
  where
    go : (p : FlatHeader) (end : Result (List ℕ) Failure) → Ends (header_fields (header_of version p)) body end → judgement (with_value (contents (header_of version p)) end) (length front) file_len ≡ Ok h.contents → IsHeader h.contents front file_len
    go p (Ok rest) ends e =
        let j = judged_ok (contents (header_of version p)) h.contents (past_end (contents (header_of version p)) file_len) e in
        (header_of version p, rest, standing version body front p (Ok rest) f ends, j.1, subst (λ c. past_end c file_len ≡ None) j.1 j.0)
    go p (Err fault) ends e = absurd cc

first_failure : (version : Version) (body front : List ℕ) (file_len : ℕ) (p : FlatHeader) (f : Failure) → Stands (header_of version p) front (Err f) → IsFirst (refusal_of f (length front) file_len) front file_len
unfolding refusal_of
first_failure version body front file_len p Cut s = go (ltb 1048576 file_len) refl
  where
    go : (b : Bool) → ltb 1048576 file_len ≡ b → IsFirst (cond b refusals.HeaderTooLong refusals.HeaderCut) front file_len
    go true e = (header_of version p, s, ltb-true _ _ e)
    go false e = (header_of version p, s, ltb-false _ _ e)
first_failure version body front file_len p Streaming s = (header_of version p, s)
first_failure version body front file_len p (Bad left) s = (header_of version p, left, s, refl)

pub is_first : (version : Version) (body front : List ℕ) (file_len : ℕ) (r : Result Header HeaderRefusal) → IsBytes body → Front version body front → Answers r (verdict version body (length front) file_len)
    → IfErr r (λ e. (e ≡ refusals.Memory) ⊎ IsFirst e front file_len)
unfolding verdict
is_first version body front file_len (Ok h) fits f a = tt
is_first version body front file_len (Err e) fits f (inl memory) = inl memory
is_first version body front file_len (Err e) fits f (inr a) =
    let s = (header_sound version).found body fits in
    inr (go s.0 s.1 s.2 (ap (λ r. judgement r (length front) file_len) (sym s.3) ∙ a))
  where
    err_is : (x y : HeaderRefusal) → Path (Result Contents HeaderRefusal) (Err x) (Err y) → x ≡ y
    err_is x y q = cc

    go : (p : FlatHeader) (end : Result (List ℕ) Failure) → Ends (header_fields (header_of version p)) body end → judgement (with_value (contents (header_of version p)) end) (length front) file_len ≡ Err e → IsFirst e front file_len
    go p (Ok rest) ends q =
        let j = judged_err (contents (header_of version p)) e (past_end (contents (header_of version p)) file_len) q in
        subst (λ x. IsFirst x front file_len) j.2 (header_of version p, rest, standing version body front p (Ok rest) f ends, j.1)
    go p (Err fault) ends q = subst (λ x. IsFirst x front file_len) (err_is _ e q) (first_failure version body front file_len p fault (standing version body front p (Err fault) f ends))

-- ---- nothing else is answered

pub read_along : (h : HeaderTree) (version : Version) (body front : List ℕ) (end : Result (List ℕ) Failure) → Front version body front → Stands h front end → contents_at version body ≡ with_value (contents h) end
read_along h version body front end f s =
    let same = same_version h.version version s.body body (sym s.begins ∙ f.begins) in
    ap (λ (v : Version). contents_at v body) (sym same.0) ∙ ap (contents_at h.version) (sym same.1) ∙ (header_again h).at s.body end s.ends

pub only_header : (version : Version) (body front : List ℕ) (file_len : ℕ) (r : Result Header HeaderRefusal) → Front version body front → Answers r (verdict version body (length front) file_len)
    → (c : Contents) → IsHeader c front file_len → MatchResult r (λ h. contents_of h ≡ c) (λ e. e ≡ refusals.Memory)
unfolding verdict
only_header version body front file_len r f a c is =
    let read = read_along is.0 version body front (Ok is.1) f is.2 in
    let none : past_end (contents is.0) file_len ≡ None = subst (λ x. past_end x file_len ≡ None) (sym is.3) is.4 in
    let answer : judgement (contents_at version body) (length front) file_len ≡ Ok c = rw (read, none) (ap Ok is.3) in
    go r a answer
  where
    ok_is : (x y : Contents) → Path (Result Contents HeaderRefusal) (Ok x) (Ok y) → x ≡ y
    ok_is x y q = cc

    no_err : (e : HeaderRefusal) → Path (Result Contents HeaderRefusal) (Ok c) (Err e) → ⊥
    no_err e q = cc

    go : (r : Result Header HeaderRefusal) → Answers r (judgement (contents_at version body) (length front) file_len) → judgement (contents_at version body) (length front) file_len ≡ Ok c → MatchResult r (λ h. contents_of h ≡ c) (λ e. e ≡ refusals.Memory)
    go (Ok h) b e = ok_is h.contents c (sym b ∙ e)
    go (Err x) (inl memory) e = memory
    go (Err x) (inr b) e = absurd (no_err x (sym e ∙ b))

pub first_verdict : (first : HeaderRefusal) (version : Version) (body front : List ℕ) (file_len : ℕ) → Front version body front → IsFirst first front file_len → judgement (contents_at version body) (length front) file_len ≡ Err first
unfolding refusal_of HasNoMagic
first_verdict refusals.NotCdf version body front file_len f none = absurd (none version body f.begins)
first_verdict refusals.HeaderCut version body front file_len f is = rw (read_along is.0 version body front (Err Cut) f is.1, le-ltb _ _ is.2) refl
first_verdict refusals.HeaderTooLong version body front file_len f is = rw (read_along is.0 version body front (Err Cut) f is.1, lt-ltb _ _ is.2) refl
first_verdict refusals.Streaming version body front file_len f is = rw (read_along is.0 version body front (Err Streaming) f is.1) refl
first_verdict (refusals.BadField place) version body front file_len f is = rw (read_along is.0 version body front (Err (Bad is.1)) f is.2, is.3) refl
first_verdict (refusals.PastEnd var) version body front file_len f is = rw (read_along is.0 version body front (Ok is.1) f is.2, is.3) refl
first_verdict refusals.Memory version body front file_len f is = absurd is

pub only_cause : (version : Version) (body front : List ℕ) (file_len : ℕ) (r : Result Header HeaderRefusal) → Front version body front → Answers r (verdict version body (length front) file_len)
    → (first : HeaderRefusal) → IsFirst first front file_len → IsErrAnd r (λ e. (e ≡ refusals.Memory) ⊎ (e ≡ first))
unfolding verdict
only_cause version body front file_len r f a first is = go r a (first_verdict first version body front file_len f is)
  where
    err_is : (x y : HeaderRefusal) → Path (Result Contents HeaderRefusal) (Err x) (Err y) → x ≡ y
    err_is x y q = cc

    no_ok : (c : Contents) → Path (Result Contents HeaderRefusal) (Err first) (Ok c) → ⊥
    no_ok c q = cc

    go : (r : Result Header HeaderRefusal) → Answers r (judgement (contents_at version body) (length front) file_len) → judgement (contents_at version body) (length front) file_len ≡ Err first → IsErrAnd r (λ e. (e ≡ refusals.Memory) ⊎ (e ≡ first))
    go (Ok h) b e = absurd (no_ok h.contents (sym e ∙ b))
    go (Err x) (inl memory) e = inl memory
    go (Err x) (inr b) e = inr (err_is x first (sym b ∙ e))

-- ---- no magic

pub none_header : (front : List ℕ) (file_len : ℕ) → HasNoMagic front → (c : Contents) → IsHeader c front file_len → refusals.NotCdf ≡ refusals.Memory
unfolding HasNoMagic
none_header front file_len none c is = absurd (none is.0.version is.2.body is.2.begins)

pub none_cause : (front : List ℕ) (file_len : ℕ) → HasNoMagic front → (first : HeaderRefusal) → IsFirst first front file_len → (refusals.NotCdf ≡ refusals.Memory) ⊎ (refusals.NotCdf ≡ first)
unfolding HasNoMagic
none_cause front file_len none refusals.NotCdf is = inr refl
none_cause front file_len none refusals.HeaderCut is = absurd (none is.0.version is.1.body is.1.begins)
none_cause front file_len none refusals.HeaderTooLong is = absurd (none is.0.version is.1.body is.1.begins)
none_cause front file_len none refusals.Streaming is = absurd (none is.0.version is.1.body is.1.begins)
none_cause front file_len none (refusals.BadField place) is = absurd (none is.0.version is.2.body is.2.begins)
none_cause front file_len none (refusals.PastEnd var) is = absurd (none is.0.version is.2.body is.2.begins)
none_cause front file_len none refusals.Memory is = absurd is
