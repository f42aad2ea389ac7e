-- What a framing says of the sink below it.
use Rattle.std.proofs.Common.{◌≡◌, ℕ, Bool, true, false, List, [], ◌++◌, length, take, drop, Option, Some, None, OnOk, OnErr, Result, Ok, Err, refl, sym, ap, ◌∙◌, subst, arith, append_assoc, length-append}
use Rattle.std.specs.Prelude.{IfOk, IsTrue}
use Rattle.std.specs.Str.{bytes_eq}
use Rattle.std.specs.Io.KnownBytes.{Appends}
use Rattle.std.proofs.KnownBytes.{Appends-nil, Appends-trans}
use Rattle.std.proofs.Math.Seq.{drop-append_seam, drop-length}
use Rattle.std.proofs.Common.{append-nil}
use Rattle.std.proofs.lemmas.Bool.{false≢true}
use Rattle.std.proofs.lemmas.Bool.Decides.{same_from_decides}
use Rattle.std.proofs.lemmas.List.{append_cancel_right}
use Rattle.std.proofs.lemmas.Slice.Eq.{bytes_eq-Decides}
use Rattle.dap_http.specs.Frames.{IsFront, IsProperFront, framed}
use Rattle.dap_http.specs.Framings.{EndsEarly, IsUnfinished, has_gained, has_grown, told_where}

gained-appends : (a b : Option (List ℕ)) (g : List ℕ) → IsTrue (has_gained a b g) → Appends a b g
gained-appends None b g e = tt
gained-appends (Some s) None g e = absurd (false≢true e)
gained-appends (Some s) (Some n) g e = (bytes_eq-Decides n (s ++ g)).0 e

appends-gained : (a b : Option (List ℕ)) (g : List ℕ) → Appends a b g → IsTrue (has_gained a b g)
appends-gained None b g more = refl
appends-gained (Some s) None g more = elim more [ ]
appends-gained (Some s) (Some n) g more = (bytes_eq-Decides n (s ++ g)).1 more

-- nothing yet
gains-none : (a b : Option (List ℕ)) (g : List ℕ) → b ≡ a → g ≡ [] → IsTrue (has_gained a b g)
gains-none a b g same none = appends-gained a b g (subst (Appends a b) (sym none) (subst (λ (o : Option (List ℕ)). Appends a o []) (sym same) (Appends-nil a)))

pub told-none : (a b : Option (List ℕ)) (g body : List ℕ) → b ≡ a → g ≡ [] → body ≡ [] → told_where (has_gained a b g) body ≡ Some []
told-none a b g body same none empty = ap (λ v. told_where v body) (gains-none a b g same none) ∙ ap Some empty

pub grown-none : (a b : Option (List ℕ)) → b ≡ a → IsTrue (has_grown a b)
grown-none a b same = subst (λ (o : Option (List ℕ)). IsTrue (has_grown a o)) (sym same) (go a) where
  go : (o : Option (List ℕ)) → IsTrue (has_grown o o)
  go None = refl
  go (Some s) = (bytes_eq-Decides s (s ++ drop (length s) s)).1 (sym (ap (λ t. s ++ t) (drop-length s) ∙ append-nil s))

-- what was written, and what came since
pub grown-appends : (a b : Option (List ℕ)) → IsTrue (has_grown a b) → (x : List ℕ) × Appends a b x
grown-appends None b e = ([], tt)
grown-appends (Some s) None e = absurd (false≢true e)
grown-appends (Some s) (Some n) e = (drop (length s) n, (bytes_eq-Decides n (s ++ drop (length s) n)).0 e)

appends-grown : (a b : Option (List ℕ)) (x : List ℕ) → Appends a b x → IsTrue (has_grown a b)
appends-grown None b x more = refl
appends-grown (Some s) None x more = elim more [ ]
appends-grown (Some s) (Some n) x more = (bytes_eq-Decides n (s ++ drop (length s) n)).1 (more ∙ ap (λ t. s ++ t) (sym (ap (drop (length s)) more ∙ drop-append_seam s x)))

-- more is appended
pub grown : (a b c : Option (List ℕ)) → IsTrue (has_grown a b) → (x : List ℕ) × Appends b c x → (x : List ℕ) × Appends a c x
grown a b c e (x, more) = let (y, first) = grown-appends a b e in (y ++ x, Appends-trans a b c y x first more)

pub grown-on : (a b c : Option (List ℕ)) (x : List ℕ) → IsTrue (has_grown a b) → Appends b c x → IsTrue (has_grown a c)
grown-on a b c x e more = let (y, all) = grown a b c e (x, more) in appends-grown a c y all

gains-same : (a b c : Option (List ℕ)) (g h x : List ℕ) → IsTrue (has_grown a b) → Appends b c x → h ≡ g ++ x → has_gained a c h ≡ has_gained a b g
gains-same None b c g h x e more is = refl
gains-same (Some xs) None c g h x e more is = absurd (false≢true e)
gains-same (Some xs) (Some ys) None g h x e more is = elim more [ ]
gains-same (Some xs) (Some ys) (Some zs) g h x e more is =
    let d = bytes_eq-Decides ys (xs ++ g) in
    let f = bytes_eq-Decides zs (xs ++ h) in
    let all : xs ++ h ≡ (xs ++ g) ++ x = ap (λ t. xs ++ t) is ∙ sym (append_assoc xs g x) in
    same_from_decides (bytes_eq zs (xs ++ h)) (bytes_eq ys (xs ++ g)) f
    ((λ b. more ∙ ap (λ t. t ++ x) (d.0 b) ∙ sym all), (λ p. d.1 (append_cancel_right ys (xs ++ g) x (sym more ∙ p ∙ all))))

on-told : (v : Bool) (body now y : List ℕ) → now ≡ body ++ y → Appends (told_where v body) (told_where v now) y
on-told true body now y is = is
on-told false body now y is = tt

pub told-put : {E : Type 0} (r : Result ℕ E) (a b c : Option (List ℕ)) (g h body now x bytes : List ℕ) → IsTrue (has_grown a b) → Appends b c x → h ≡ g ++ x
    → IfOk r (λ n. now ≡ body ++ take n bytes) → IfOk r (λ n. Appends (told_where (has_gained a b g) body) (told_where (has_gained a c h) now) (take n bytes))
told-put (Ok n) a b c g h body now x bytes e more gains is =
    subst (λ v. Appends (told_where (has_gained a b g) body) (told_where v now) (take n bytes)) (sym (gains-same a b c g h x e more gains)) (on-told (has_gained a b g) body now (take n bytes) is)
told-put (Err v) a b c g h body now x bytes e more gains is = tt

pub told-failed : {E : Type 0} (r : Result ℕ E) (a b c : Option (List ℕ)) (g h body now x : List ℕ) → IsTrue (has_grown a b) → Appends b c x → h ≡ g ++ x → OnErr r (now ≡ body)
    → OnErr r (told_where (has_gained a c h) now ≡ told_where (has_gained a b g) body)
told-failed (Ok n) a b c g h body now x e more gains is = tt
told-failed (Err v) a b c g h body now x e more gains is = ap (λ v. told_where v now) (gains-same a b c g h x e more gains) ∙ ap (told_where (has_gained a b g)) is

-- where it is told
so-of : (v : Bool) (held body : List ℕ) → told_where v held ≡ Some body → IsTrue v × (held ≡ body)
so-of true held body told = (refl, cc told)
so-of false held body told = absurd (cc told)

-- ---- what a body has become

pub so-far : (a b : Option (List ℕ)) (g held front : List ℕ) (k : Bool) → ((more : List ℕ) → IsFront g (front ++ framed k (held ++ more)))
    → (body : List ℕ) → told_where (has_gained a b g) held ≡ Some body → (part : List ℕ) × Appends a b part × ((more : List ℕ) → IsFront part (front ++ framed k (body ++ more)))
so-far a b g held front k is body told =
    let (e, same) = so-of (has_gained a b g) held body told in
    (g, gained-appends a b g e, λ more. subst (λ t. IsFront g (front ++ framed k (t ++ more))) same (is more))

pub unfinished : (a b : Option (List ℕ)) (g held front : List ℕ) (k : Bool) → ((more : List ℕ) → IsUnfinished k more → IsProperFront g (front ++ framed k (held ++ more)))
    → (body more : List ℕ) → told_where (has_gained a b g) held ≡ Some body → IsUnfinished k more → (part : List ℕ) × Appends a b part × IsProperFront part (front ++ framed k (body ++ more))
unfinished a b g held front k is body more told goes =
    let (e, same) = so-of (has_gained a b g) held body told in
    (g, gained-appends a b g e, subst (λ t. IsProperFront g (front ++ framed k (t ++ more))) same (is more goes))

-- the end of a body
pub ok-end : {T E : Type 0} (r : Result T E) (a b c : Option (List ℕ)) (g held front : List ℕ) (k : Bool) → OnOk r ((x : List ℕ) × Appends b c x × (g ++ x ≡ front ++ framed k held))
    → OnOk r ((body : List ℕ) → told_where (has_gained a b g) held ≡ Some body → Appends a c (front ++ framed k body))
ok-end (Ok v) a b c g held front k (x, more, is) = λ body told.
    let (e, same) = so-of (has_gained a b g) held body told in
    subst (Appends a c) (is ∙ ap (λ t. front ++ framed k t) same) (Appends-trans a b c g x (gained-appends a b g e) more)
ok-end (Err v) a b c g held front k more = tt

pub err-end : {T E : Type 0} (r : Result T E) (a b c : Option (List ℕ)) (g held front : List ℕ) (k : Bool) → OnErr r ((x : List ℕ) × Appends b c x × IsProperFront (g ++ x) (front ++ framed k held))
    → OnErr r ((body : List ℕ) → told_where (has_gained a b g) held ≡ Some body → (part : List ℕ) × Appends a c part × IsProperFront part (front ++ framed k body))
err-end (Ok v) a b c g held front k more = tt
err-end (Err v) a b c g held front k (x, more, is) = λ body told.
    let (e, same) = so-of (has_gained a b g) held body told in
    (g ++ x, Appends-trans a b c g x (gained-appends a b g e) more, subst (λ t. IsProperFront (g ++ x) (front ++ framed k t)) same is)

-- it breaks off
pub part-broken : {T E : Type 0} (r : Result T E) (a b c : Option (List ℕ)) (g held front : List ℕ) (k : Bool) → OnOk r ((x : List ℕ) × Appends b c x × EndsEarly (g ++ x) front k held)
    → OnOk r ((body : List ℕ) → told_where (has_gained a b g) held ≡ Some body → (part : List ℕ) × Appends a c (front ++ part) × ((more : List ℕ) → IsFront part (framed k (body ++ more))))
part-broken (Ok v) a b c g held front k (x, more, (part, is, first, proper)) = λ body told.
    let (e, same) = so-of (has_gained a b g) held body told in
    (part, subst (Appends a c) is (Appends-trans a b c g x (gained-appends a b g e) more), λ rest. subst (λ t. IsFront part (framed k (t ++ rest))) same (first rest))
part-broken (Err v) a b c g held front k more = tt

pub proper-broken : {T E : Type 0} (r : Result T E) (a b c : Option (List ℕ)) (g held front : List ℕ) (k : Bool) → OnOk r ((x : List ℕ) × Appends b c x × EndsEarly (g ++ x) front k held)
    → OnOk r ((body more : List ℕ) → told_where (has_gained a b g) held ≡ Some body → IsUnfinished k more → (part : List ℕ) × Appends a c (front ++ part) × IsProperFront part (framed k (body ++ more)))
proper-broken (Ok v) a b c g held front k (x, more, (part, is, first, proper)) = λ body rest told goes.
    let (e, same) = so-of (has_gained a b g) held body told in
    (part, subst (Appends a c) is (Appends-trans a b c g x (gained-appends a b g e) more), subst (λ t. IsProperFront part (framed k (t ++ rest))) same (proper rest goes))
proper-broken (Err v) a b c g held front k more = tt

pub err-broken : {T E : Type 0} (r : Result T E) (a b c : Option (List ℕ)) (g held front : List ℕ) (k : Bool)
    → OnErr r ((x : List ℕ) × Appends b c x × ((more : List ℕ) → IsProperFront (g ++ x) (front ++ framed k (held ++ more))))
    → OnErr r ((body more : List ℕ) → told_where (has_gained a b g) held ≡ Some body → (part : List ℕ) × Appends a c part × IsProperFront part (front ++ framed k (body ++ more)))
err-broken (Ok v) a b c g held front k more = tt
err-broken (Err v) a b c g held front k (x, more, is) = λ body rest told.
    let (e, same) = so-of (has_gained a b g) held body told in
    (g ++ x, Appends-trans a b c g x (gained-appends a b g e) more, subst (λ t. IsProperFront (g ++ x) (front ++ framed k (t ++ rest))) same (is rest))

-- whatever comes of it, the other sink keeps what it had
pub gains-of : {T E : Type 0} (r : Result T E) (a b : Option (List ℕ)) (P Q : List ℕ → Type 0)
    → OnOk r ((x : List ℕ) × Appends a b x × P x) → OnErr r ((x : List ℕ) × Appends a b x × Q x) → (x : List ℕ) × Appends a b x
gains-of (Ok v) a b P Q (x, more, p) err = (x, more)
gains-of (Err v) a b P Q ok (x, more, q) = (x, more)
