-- The answer to a shorter front, by the answer to it as if it were whole.
use Rattle.std.proofs.Common.{◌≡◌, ℕ, ◌<◌, ◌≤◌, ◌⊎◌, inl, inr, Bool, true, false, not, ◌&&◌, cond, ltb, min, List, [], ◌∷◌, ◌++◌, length, Option, Some, None, Result, Ok, Err, MatchResult, refl, sym, ap, subst, ◌∙◌, append-nil, length-append, arith}
use Rattle.std.specs.Prelude.{IfOk, IfErr, IfSome, IfNone, IsErrAnd}
use Rattle.std.proofs.lemmas.Bool.{ltb-true, ltb-false}
use Rattle.plain_lemmas.proofs.Truths.{true_not_false}
use Rattle.netcdf_source.specs.Header.{contents_of, magic, HasNoMagic, IsHeader, IsFirst, IsCut}
use Rattle.netcdf_source.specs.declared.version.Version.{Version}
use Rattle.netcdf_source.specs.inner.Answering.{AnswersFront}
use Rattle.netcdf_source.specs.declared.file.Header.{Header}
use Rattle.netcdf_source.specs.declared.refusal.HeaderRefusal.{HeaderRefusal}
use Rattle.netcdf_source.specs.declared.refusal.HeaderRefusal.TheVariants as refusals
use Rattle.netcdf_source.proofs.Longer.{header_longer, magic_longer, first_longer, IsCutCause}

abbrev Found : Type 0
Found = Result (Option Header) HeaderRefusal

-- what holds of a header and of a refusal holds of the answer
abbrev Answered : Bool → Found → Result Header HeaderRefusal → Type 0
Answered b result read =
    ((h : Header) × (read ≡ Ok h) × (result ≡ Ok (Some h)))
    ⊎ ((e : HeaderRefusal) × (read ≡ Err e) × (((b ≡ false) × IsCutCause e × (result ≡ Ok None)) ⊎ ((b ≡ false → IsCutCause e → ⊥) × (result ≡ Err e))))

answered : (b : Bool) (result : Found) (read : Result Header HeaderRefusal) → AnswersFront b result read → Answered b result read
answered b result (Ok h) a = inl (h, refl, a)
answered true result (Err e) a = inr (e, refl, inr (λ q cut. true_not_false q, a))
answered false result (Err refusals.HeaderCut) a = inr (refusals.HeaderCut, refl, inl (refl, tt, a))
answered false result (Err refusals.HeaderTooLong) a = inr (refusals.HeaderTooLong, refl, inl (refl, tt, a))
answered false result (Err refusals.NotCdf) a = inr (refusals.NotCdf, refl, inr (λ q cut. cut, a))
answered false result (Err refusals.Streaming) a = inr (refusals.Streaming, refl, inr (λ q cut. cut, a))
answered false result (Err (refusals.BadField place)) a = inr (refusals.BadField place, refl, inr (λ q cut. cut, a))
answered false result (Err (refusals.PastEnd var)) a = inr (refusals.PastEnd var, refl, inr (λ q cut. cut, a))
answered false result (Err refusals.Memory) a = inr (refusals.Memory, refl, inr (λ q cut. cut, a))

pub front_header : (b : Bool) (result : Found) (read : Result Header HeaderRefusal) (front : List ℕ) (file_len : ℕ) → AnswersFront b result read
    → IfOk read (λ h. IsHeader (contents_of h) front file_len) → IfOk result (λ found. IfSome found (λ h. (more : List ℕ) → IsHeader (contents_of h) (front ++ more) file_len))
front_header b result read front file_len a h = go (answered b result read a)
  where
    go : Answered b result read → IfOk result (λ found. IfSome found (λ h. (more : List ℕ) → IsHeader (contents_of h) (front ++ more) file_len))
    go (inl ok) =
        let is : IsHeader (contents_of ok.0) front file_len = subst (λ r. IfOk r (λ h. IsHeader (contents_of h) front file_len)) ok.1 h in
        subst (λ r. IfOk r (λ found. IfSome found (λ h. (more : List ℕ) → IsHeader (contents_of h) (front ++ more) file_len))) (sym ok.2) (λ more. header_longer (contents_of ok.0) front more file_len is)
    go (inr (e, is, inl none)) = rw none.2 tt
    go (inr (e, is, inr err)) = rw err.1 tt

pub front_length : (b : Bool) (result : Found) (read : Result Header HeaderRefusal) (n : ℕ) → AnswersFront b result read → IfOk read (λ h. h.length ≡ n) → IfOk result (λ found. IfSome found (λ h. h.length ≡ n))
front_length b result read n a h = go (answered b result read a)
  where
    go : Answered b result read → IfOk result (λ found. IfSome found (λ h. h.length ≡ n))
    go (inl ok) = subst (λ r. IfOk r (λ found. IfSome found (λ h. h.length ≡ n))) (sym ok.2) (subst (λ r. IfOk r (λ h. h.length ≡ n)) ok.1 h)
    go (inr (e, is, inl none)) = rw none.2 tt
    go (inr (e, is, inr err)) = rw err.1 tt

cut_is : (e : HeaderRefusal) (front : List ℕ) (file_len : ℕ) → IsCutCause e → (e ≡ refusals.Memory) ⊎ IsFirst e front file_len → IsCut front
cut_is refusals.HeaderCut front file_len cut (inl memory) = absurd cc
cut_is refusals.HeaderCut front file_len cut (inr is) = inr (is.0, is.1)
cut_is refusals.HeaderTooLong front file_len cut (inl memory) = absurd cc
cut_is refusals.HeaderTooLong front file_len cut (inr is) = inr (is.0, is.1)
cut_is refusals.NotCdf front file_len cut h = absurd cut
cut_is refusals.Streaming front file_len cut h = absurd cut
cut_is (refusals.BadField place) front file_len cut h = absurd cut
cut_is (refusals.PastEnd var) front file_len cut h = absurd cut
cut_is refusals.Memory front file_len cut h = absurd cut

pub front_more : (b : Bool) (result : Found) (read : Result Header HeaderRefusal) (front : List ℕ) (file_len : ℕ) → AnswersFront b result read → (b ≡ false → length front < min file_len 1048576)
    → IfErr read (λ e. (e ≡ refusals.Memory) ⊎ IsFirst e front file_len) → IfOk result (λ found. IfNone found ((length front < min file_len 1048576) × IsCut front))
front_more b result read front file_len a short h = go (answered b result read a)
  where
    go : Answered b result read → IfOk result (λ found. IfNone found ((length front < min file_len 1048576) × IsCut front))
    go (inl ok) = rw ok.2 tt
    go (inr (e, is, inl none)) =
        let first : (e ≡ refusals.Memory) ⊎ IsFirst e front file_len = subst (λ r. IfErr r (λ e. (e ≡ refusals.Memory) ⊎ IsFirst e front file_len)) is h in
        subst (λ r. IfOk r (λ found. IfNone found ((length front < min file_len 1048576) × IsCut front))) (sym none.2) (short none.0, cut_is e front file_len none.1 first)
    go (inr (e, is, inr err)) = rw err.1 tt

nothing_more : (front more : List ℕ) → length (front ++ more) ≡ length front → front ++ more ≡ front
nothing_more front [] e = append-nil front
nothing_more front (b ∷ more) e = absurd (omega (arith, e, length-append front (b ∷ more)))

pub front_first : (b : Bool) (result : Found) (read : Result Header HeaderRefusal) (front : List ℕ) (file_len : ℕ) → AnswersFront b result read → (b ≡ true → length front ≡ min file_len 1048576) → (b ≡ false → 4 ≤ length front)
    → IfErr read (λ e. (e ≡ refusals.Memory) ⊎ IsFirst e front file_len) → IfErr result (λ e. (e ≡ refusals.Memory) ⊎ ((more : List ℕ) → length (front ++ more) ≡ min file_len 1048576 → IsFirst e (front ++ more) file_len))
front_first b result read front file_len a whole four h = go b refl (answered b result read a)
  where
    Told : Found → Type 0
    Told r = IfErr r (λ e. (e ≡ refusals.Memory) ⊎ ((more : List ℕ) → length (front ++ more) ≡ min file_len 1048576 → IsFirst e (front ++ more) file_len))

    first : (e : HeaderRefusal) → read ≡ Err e → (e ≡ refusals.Memory) ⊎ IsFirst e front file_len
    first e is = subst (λ r. IfErr r (λ e. (e ≡ refusals.Memory) ⊎ IsFirst e front file_len)) is h

    at_end : (e : HeaderRefusal) → b ≡ true → (e ≡ refusals.Memory) ⊎ IsFirst e front file_len → (e ≡ refusals.Memory) ⊎ ((more : List ℕ) → length (front ++ more) ≡ min file_len 1048576 → IsFirst e (front ++ more) file_len)
    at_end e q (inl memory) = inl memory
    at_end e q (inr is) = inr (λ more len. subst (λ bs. IsFirst e bs file_len) (sym (nothing_more front more (len ∙ sym (whole q)))) is)

    before : (e : HeaderRefusal) → b ≡ false → (IsCutCause e → ⊥) → (e ≡ refusals.Memory) ⊎ IsFirst e front file_len → (e ≡ refusals.Memory) ⊎ ((more : List ℕ) → length (front ++ more) ≡ min file_len 1048576 → IsFirst e (front ++ more) file_len)
    before e q other (inl memory) = inl memory
    before e q other (inr is) = inr (λ more len. first_longer e front more file_len (four q) other is)

    go : (d : Bool) → b ≡ d → Answered b result read → Told result
    go d q (inl ok) = rw ok.2 tt
    go d q (inr (e, is, inl none)) = rw none.2 tt
    go true q (inr (e, is, inr err)) = subst Told (sym err.1) (at_end e q (first e is))
    go false q (inr (e, is, inr err)) = subst Told (sym err.1) (before e q (err.0 q) (first e is))

-- a front that is cut and not whole is answered so, if memory is had
pub front_only_more : (b : Bool) (result : Found) (read : Result Header HeaderRefusal) (front : List ℕ) (file_len : ℕ) → AnswersFront b result read → b ≡ false → 4 ≤ length front
    → ((cause : HeaderRefusal) → IsFirst cause front file_len → IsErrAnd read (λ e. (e ≡ refusals.Memory) ⊎ (e ≡ cause))) → IsCut front
    → MatchResult result (λ found. IfSome found (λ h. ⊥)) (λ e. e ≡ refusals.Memory)
front_only_more b result read front file_len a q four only (inl short) = absurd (omega (arith, short, four))
front_only_more b result read front file_len a q four only (inr cut) = by_length (ltb 1048576 file_len) refl
  where
    Told : Found → Type 0
    Told r = MatchResult r (λ found. IfSome found (λ h. ⊥)) (λ e. e ≡ refusals.Memory)

    no_ok : (h : Header) (e : HeaderRefusal) → Path (Result Header HeaderRefusal) (Ok h) (Err e) → ⊥
    no_ok h e p = cc

    same_err : (x y : HeaderRefusal) → Path (Result Header HeaderRefusal) (Err x) (Err y) → x ≡ y
    same_err x y p = cc

    with_cause : (cause e : HeaderRefusal) → IsCutCause cause → read ≡ Err e → (e ≡ refusals.Memory) ⊎ (e ≡ cause) → Answered b result read → Told result
    with_cause cause e cut is h (inl ok) = absurd (no_ok ok.0 e (sym ok.1 ∙ is))
    with_cause cause e cut is h (inr (x, at, inl none)) = rw none.2 tt
    with_cause cause e cut is (inl memory) (inr (x, at, inr err)) = subst Told (sym err.1) (same_err x e (sym at ∙ is) ∙ memory)
    with_cause cause e cut is (inr same) (inr (x, at, inr err)) = absurd (err.0 q (subst IsCutCause (sym (same_err x e (sym at ∙ is) ∙ same)) cut))

    refused : (cause : HeaderRefusal) → IsCutCause cause → (r : Result Header HeaderRefusal) → read ≡ r → IsErrAnd r (λ e. (e ≡ refusals.Memory) ⊎ (e ≡ cause)) → Told result
    refused cause cut (Ok h) is h' = absurd h'
    refused cause cut (Err e) is h' = with_cause cause e cut is h' (answered b result read a)

    by_length : (d : Bool) → ltb 1048576 file_len ≡ d → Told result
    by_length true e = refused refusals.HeaderTooLong tt read refl (only refusals.HeaderTooLong (cut.0, cut.1, ltb-true _ _ e))
    by_length false e = refused refusals.HeaderCut tt read refl (only refusals.HeaderCut (cut.0, cut.1, ltb-false _ _ e))

-- ---- no magic

abbrev Unmarked : Bool → List ℕ → Found
Unmarked b front = cond (not b && ltb (length front) 4) (Ok None) (Err refusals.NotCdf)

pub none_more : (b : Bool) (result : Found) (front : List ℕ) (file_len : ℕ) → result ≡ Unmarked b front → (b ≡ false → length front < min file_len 1048576)
    → IfOk result (λ found. IfNone found ((length front < min file_len 1048576) × IsCut front))
none_more b result front file_len is short = subst Told (sym is) (go b refl (ltb (length front) 4) refl)
  where
    Told : Found → Type 0
    Told r = IfOk r (λ found. IfNone found ((length front < min file_len 1048576) × IsCut front))

    go : (d : Bool) → b ≡ d → (l : Bool) → ltb (length front) 4 ≡ l → Told (cond (not d && l) (Ok None) (Err refusals.NotCdf))
    go true q l e = tt
    go false q true e = (short q, inl (ltb-true _ _ e))
    go false q false e = tt

pub none_first : (b : Bool) (result : Found) (front : List ℕ) (file_len : ℕ) → result ≡ Unmarked b front → HasNoMagic front → (b ≡ true → length front ≡ min file_len 1048576)
    → IfErr result (λ e. (e ≡ refusals.Memory) ⊎ ((more : List ℕ) → length (front ++ more) ≡ min file_len 1048576 → IsFirst e (front ++ more) file_len))
none_first b result front file_len is none whole = subst Told (sym is) (go b refl (ltb (length front) 4) refl)
  where
    Told : Found → Type 0
    Told r = IfErr r (λ e. (e ≡ refusals.Memory) ⊎ ((more : List ℕ) → length (front ++ more) ≡ min file_len 1048576 → IsFirst e (front ++ more) file_len))

    go : (d : Bool) → b ≡ d → (l : Bool) → ltb (length front) 4 ≡ l → Told (cond (not d && l) (Ok None) (Err refusals.NotCdf))
    go true q l e = inr (λ more len. subst (λ bs. IsFirst refusals.NotCdf bs file_len) (sym (nothing_more front more (len ∙ sym (whole q)))) none)
    go false q true e = tt
    go false q false e = inr (λ more len. magic_longer front more (ltb-false _ _ e) none)

pub none_only_more : (b : Bool) (result : Found) (front : List ℕ) (file_len : ℕ) → result ≡ Unmarked b front → HasNoMagic front → (b ≡ true → length front ≡ min file_len 1048576)
    → length front < min file_len 1048576 → IsCut front → MatchResult result (λ found. IfSome found (λ h. ⊥)) (λ e. e ≡ refusals.Memory)
unfolding HasNoMagic
none_only_more b result front file_len is none whole short (inr cut) = absurd (none cut.0.version cut.1.body cut.1.begins)
none_only_more b result front file_len is none whole short (inl few) = subst Told (sym is) (go b refl (ltb (length front) 4) refl)
  where
    Told : Found → Type 0
    Told r = MatchResult r (λ found. IfSome found (λ h. ⊥)) (λ e. e ≡ refusals.Memory)

    go : (d : Bool) → b ≡ d → (l : Bool) → ltb (length front) 4 ≡ l → Told (cond (not d && l) (Ok None) (Err refusals.NotCdf))
    go true q l e = absurd (omega (arith, whole q, short))
    go false q true e = tt
    go false q false e = absurd (omega (arith, few, ltb-false _ _ e))

pub four_bytes : (version : Version) (body front : List ℕ) → front ≡ magic version ++ body → 4 ≤ length front
four_bytes version body front e = omega (arith, ap length e)

pub not_whole : (b : Bool) (front : List ℕ) (file_len : ℕ) → (b ≡ true → length front ≡ min file_len 1048576) → length front < min file_len 1048576 → b ≡ false
not_whole true front file_len whole short = absurd (omega (arith, whole refl, short))
not_whole false front file_len whole short = refl
