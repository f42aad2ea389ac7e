-- How a framed body ends, and how it breaks off.
use Rattle.std.proofs.Common.{◌≡◌, ℕ, zero, suc, eqb, ◌+◌, ◌-◌, ◌/◌, ◌<◌, Bool, true, false, List, [], ◌∷◌, ◌++◌, length, take, drop, Option, Decides, OnOk, OnErr, Result, Ok, Err, refl, sym, ap, ◌∙◌, arith, append_assoc, append-nil, length-append, length-drop, ◌≤◌, ◌⊎◌, inl, inr, subst}
use Rattle.std.specs.List.{flat_map}
use Rattle.std.specs.Str.{bytes_eq}
use Rattle.std.specs.Io.KnownBytes.{Appends}
use Rattle.std.proofs.KnownBytes.{Appends-trans}
use Rattle.std.proofs.Math.Logic.{∥∥₁_elim, ∥∥₁_map}
use Rattle.std.proofs.Math.Seq.{drop-append_seam}
use Rattle.std.proofs.lemmas.Bool.{cases_lt, eqb-true, false≢true}
use Rattle.std.proofs.lemmas.List.{take-append-drop, take_all, take_at}
use Rattle.std.proofs.lemmas.Slice.Eq.{bytes_eq-Decides}
use Rattle.dap_http.proofs.Sizes.{nothing-less}
use Rattle.dap_outside.specs.Streams.{AppendsFront}
use Rattle.dap_http.specs.Frames.{IsFront, IsProperFront, chunk, chunked, first_pieces, framed, last_chunk, piece_size}
use Rattle.dap_http.specs.Framings.{EndsEarly, IsUnfinished}
use Rattle.dap_http.specs.inner.UnderWay.{InFrames, head_of, piece_of}
use Rattle.dap_http.proofs.Fronts.{all-is, chunked-some, framed-pieces, framed-some, is-front, piece-framed, rest-of}
use Rattle.dap_http.proofs.Gathering.{when-open, when-whole}

nonzero : (n : ℕ) → eqb n 0 ≡ false → 0 < n
nonzero zero e = absurd (false≢true (sym e))
nonzero (suc n) e = omega arith

pub chunked-none : (held : List ℕ) → eqb (length held) 0 ≡ true → chunked held ≡ last_chunk
unfolding chunked piece_size
chunked-none [] e = refl
chunked-none (x ∷ xs) e = absurd (omega (arith, eqb-true _ _ e))

pub chunked-rest : (held : List ℕ) → eqb (length held) 0 ≡ false → length held < 65536 → chunked held ≡ chunk held ++ last_chunk
unfolding chunked piece_size
chunked-rest held more few =
    let some : 0 < length held = nonzero (length held) more in
    let one : (length held + 65535) / 65536 ≡ 1 = omega (arith, some, few) in
    ap (λ n. flat_map chunk (first_pieces 65536 n held) ++ last_chunk) one
    ∙ ap (λ t. (chunk t ++ []) ++ last_chunk) (take_all 65536 held (omega (arith, few)))
    ∙ ap (λ t. t ++ last_chunk) (append-nil (chunk held))

-- an equation of bytes that is there
same-of : (xs ys : List ℕ) → ∥ xs ≡ ys ∥₁ → xs ≡ ys
same-of xs ys e = go (bytes_eq xs ys) (bytes_eq-Decides xs ys) where
  go : (b : Bool) → Decides b (xs ≡ ys) → xs ≡ ys
  go true d = d.0 refl
  go false d = absurd (∥∥₁_elim e (λ (x : ⊥). λ (y : ⊥). absurd x) (λ same. false≢true (d.1 same)))

front-is : (part all rest : List ℕ) → all ≡ part ++ rest → all ≡ part ++ drop (length part) all
front-is part all rest e = e ∙ ap (λ t. part ++ t) (sym (ap (drop (length part)) e ∙ drop-append_seam part rest))

pub front-of : (part all : List ℕ) → ∥ IsFront part all ∥₁ → IsFront part all
front-of part all f = (drop (length part) all, same-of all (part ++ drop (length part) all) (∥∥₁_map f (λ w. front-is part all w.0 w.1)))

not-nothing : (part all rest : List ℕ) → ∥ IsProperFront part all ∥₁ → all ≡ part ++ rest → length rest ≤ 0 → ⊥
not-nothing part all rest f same none =
    ∥∥₁_elim f (λ (x : ⊥). λ (y : ⊥). absurd x) (λ w. omega (arith, none, w.1, ap length same, ap length w.2, length-append part rest, length-append part w.0))

pub proper-of : (part all : List ℕ) → ∥ IsProperFront part all ∥₁ → IsProperFront part all
proper-of part all f =
    let (rest, same) = front-of part all (∥∥₁_map f (is-front part all)) in
    elim (cases_lt 0 (length rest)) [
      | inl some ↦ (rest, some, same)
      | inr none ↦ absurd (not-nothing part all rest f same none)
    ]

-- ---- a frame that is not whole, and how the body ends behind it

lead-of : (m : Bool) (front frame body gained : List ℕ) (from sent : ℕ) (w : InFrames m front frame from sent body gained) → frame ≡ w.lead ++ (head_of m ++ w.held) → take (from - length (head_of m)) frame ≡ w.lead
lead-of m front frame body gained from sent w is = ap (take (from - length (head_of m))) is ∙ take_at w.lead (head_of m ++ w.held) (from - length (head_of m)) (omega (arith, w.from_is))

held-of : (m : Bool) (front frame body gained : List ℕ) (from sent : ℕ) (w : InFrames m front frame from sent body gained) → frame ≡ w.lead ++ (head_of m ++ w.held) → drop from frame ≡ w.held
held-of m front frame body gained from sent w is =
    let at : length (w.lead ++ head_of m) ≡ from = length-append w.lead (head_of m) ∙ w.from_is in
    ap (drop from) (is ∙ sym (append_assoc w.lead (head_of m) w.held)) ∙ ap (λ n. drop n ((w.lead ++ head_of m) ++ w.held)) (sym at) ∙ drop-append_seam (w.lead ++ head_of m) w.held

rest-done : (m : Bool) (front frame body gained : List ℕ) (from sent : ℕ) → length frame < from + 65536 → InFrames m front frame from sent body gained
    → gained ++ (take (from - length (head_of m)) frame ++ framed m (drop from frame)) ≡ front ++ framed m body
rest-done m front frame body gained from sent open_one w =
    let (few, is, none) = when-open m w.lead frame w.held from sent w.from_is w.gathered open_one in
    let put : gained ≡ w.before = w.gained_is ∙ ap (λ n. w.before ++ take n frame) none ∙ append-nil w.before in
    let x = framed m w.held in
    ap (λ t. gained ++ (t ++ framed m (drop from frame))) (lead-of m front frame body gained from sent w is)
    ∙ ap (λ t. gained ++ (w.lead ++ framed m t)) (held-of m front frame body gained from sent w is)
    ∙ ap (λ t. t ++ (w.lead ++ x)) put
    ∙ sym (append_assoc w.before w.lead x)
    ∙ ap (λ t. (w.before ++ w.lead) ++ framed m t) (sym (append-nil w.held))
    ∙ sym (all-is m front frame body gained [] from sent w)
    ∙ ap (λ t. front ++ framed m t) (append-nil body)

pub all-done : (m : Bool) (front frame body gained : List ℕ) (from sent : ℕ) → length frame < from + 65536 → ∥ InFrames m front frame from sent body gained ∥₁
    → gained ++ (take (from - length (head_of m)) frame ++ framed m (drop from frame)) ≡ front ++ framed m body
all-done m front frame body gained from sent open_one w =
    same-of (gained ++ (take (from - length (head_of m)) frame ++ framed m (drop from frame))) (front ++ framed m body) (∥∥₁_map w (rest-done m front frame body gained from sent open_one))

head-stands : (m : Bool) (front frame body gained : List ℕ) (from sent : ℕ) → length frame < from + 65536 → InFrames m front frame from sent body gained
    → drop (from - length (head_of m)) frame ≡ head_of m ++ drop from frame
head-stands m front frame body gained from sent open_one w =
    let (few, is, none) = when-open m w.lead frame w.held from sent w.from_is w.gathered open_one in
    let at : length w.lead ≡ from - length (head_of m) = omega (arith, w.from_is) in
    ap (drop (from - length (head_of m))) is ∙ ap (λ n. drop n (w.lead ++ (head_of m ++ w.held))) (sym at) ∙ drop-append_seam w.lead (head_of m ++ w.held)
    ∙ ap (λ t. head_of m ++ t) (sym (held-of m front frame body gained from sent w is))

pub head-there : (m : Bool) (front frame body gained : List ℕ) (from sent : ℕ) → length frame < from + 65536 → ∥ InFrames m front frame from sent body gained ∥₁
    → drop (from - length (head_of m)) frame ≡ head_of m ++ drop from frame
head-there m front frame body gained from sent open_one w = same-of (drop (from - length (head_of m)) frame) (head_of m ++ drop from frame) (∥∥₁_map w (head-stands m front frame body gained from sent open_one))

-- nothing of it was put
pub unsent : (m : Bool) (front frame body gained : List ℕ) (from sent : ℕ) → length frame < from + 65536 → ∥ InFrames m front frame from sent body gained ∥₁ → sent ≡ 0
unsent m front frame body gained from sent open_one w = go (cases_lt 0 sent) where
  go : (0 < sent) ⊎ (sent ≤ 0) → sent ≡ 0
  go (inl some) = absurd (∥∥₁_elim w (λ (x : ⊥). λ (y : ⊥). absurd x) (λ v. omega (arith, some, (when-open m v.lead frame v.held from sent v.from_is v.gathered open_one).2)))
  go (inr none) = omega (arith, none)

-- ---- a body that breaks off

breaks-of : (bytes front : List ℕ) (m : Bool) (body : List ℕ) → ∥ EndsEarly bytes front m body ∥₁ → EndsEarly bytes front m body
breaks-of bytes front m body b =
    let part = drop (length front) bytes in
    let here : (v : EndsEarly bytes front m body) → part ≡ v.0 = λ v. ap (drop (length front)) v.1 ∙ drop-append_seam front v.0 in (
      part,
      same-of bytes (front ++ part) (∥∥₁_map b (λ v. v.1 ∙ ap (λ t. front ++ t) (sym (here v)))),
      λ more. front-of part (framed m (body ++ more)) (∥∥₁_map b (λ v. subst (λ t. IsFront t (framed m (body ++ more))) (sym (here v)) (v.2 more))),
      λ more goes. proper-of part (framed m (body ++ more)) (∥∥₁_map b (λ v. subst (λ t. IsProperFront t (framed m (body ++ more))) (sym (here v)) (v.3 more goes))),
    )

framed-is : (m : Bool) (front frame body gained more : List ℕ) (from sent : ℕ) (w : InFrames m front frame from sent body gained)
    → framed m (body ++ more) ≡ flat_map (piece_of m) w.pieces ++ framed m (w.held ++ more)
framed-is m front frame body gained more from sent w =
    ap (λ t. framed m (t ++ more)) w.body_is ∙ ap (framed m) (append_assoc (flat_map (λ (p : List ℕ). p) w.pieces) w.held more) ∙ framed-pieces m w.pieces (w.held ++ more) w.whole

-- behind the chunks that are whole
chunks-break : (front frame body gained : List ℕ) (from sent : ℕ) → length frame < from + 65536 → InFrames true front frame from sent body gained
    → EndsEarly (gained ++ take ((from - length (head_of true)) - sent) (drop sent frame)) front true body
chunks-break front frame body gained from sent open_one w =
    let (few, is, none) = when-open true w.lead frame w.held from sent w.from_is w.gathered open_one in
    let ps = flat_map (piece_of true) w.pieces in
    let put : gained ≡ w.before = w.gained_is ∙ ap (λ n. w.before ++ take n frame) none ∙ append-nil w.before in
    let first : take ((from - length (head_of true)) - sent) (drop sent frame) ≡ w.lead =
    ap (λ n. take ((from - length (head_of true)) - n) (drop n frame)) none ∙ ap (λ n. take n frame) (nothing-less (from - length (head_of true))) ∙ lead-of true front frame body gained from sent w is in
    let goes = λ (more : List ℕ). framed-is true front frame body gained more from sent w in (
      ps,
      ap (λ t. t ++ take ((from - length (head_of true)) - sent) (drop sent frame)) put ∙ ap (λ t. w.before ++ t) first ∙ w.goes_on,
      λ more. (framed true (w.held ++ more), goes more),
      λ more unfinished. (framed true (w.held ++ more), chunked-some (w.held ++ more), goes more),
    )

pub broken-open : (m : Bool) (front frame body gained : List ℕ) (from sent h : ℕ) → m ≡ true → h ≡ length (head_of true) → length frame < from + 65536 → ∥ InFrames m front frame from sent body gained ∥₁
    → EndsEarly (gained ++ take ((from - h) - sent) (drop sent frame)) front m body
broken-open true front frame body gained from sent h yes_one is open_one w =
    subst (λ n. EndsEarly (gained ++ take ((from - n) - sent) (drop sent frame)) front true body) (sym is) (breaks-of _ front true body (∥∥₁_map w (chunks-break front frame body gained from sent open_one)))
broken-open false front frame body gained from sent h yes_one is open_one w = absurd (false≢true yes_one)

-- behind all that the frame holds
all-put : (m : Bool) (front frame body gained : List ℕ) (from sent : ℕ) (w : InFrames m front frame from sent body gained) → gained ++ take (length frame - sent) (drop sent frame) ≡ w.before ++ frame
all-put m front frame body gained from sent w =
    ap (λ t. gained ++ t) (take_all (length frame - sent) (drop sent frame) (omega (arith, length-drop sent frame)))
    ∙ ap (λ t. t ++ drop sent frame) w.gained_is ∙ append_assoc w.before (take sent frame) (drop sent frame) ∙ ap (λ t. w.before ++ t) (take-append-drop sent frame)

whole-break : (m : Bool) (front frame body gained : List ℕ) (from sent : ℕ) → from + 65536 ≤ length frame → InFrames m front frame from sent body gained
    → EndsEarly (gained ++ take (length frame - sent) (drop sent frame)) front m body
whole-break m front frame body gained from sent long w =
    let (full, is, le) = when-whole m w.lead frame w.held from sent w.from_is w.gathered long in
    let ps = flat_map (piece_of m) w.pieces in
    let p = piece_of m w.held in
    let goes = λ (more : List ℕ). framed-is m front frame body gained more from sent w ∙ ap (λ t. ps ++ t) (piece-framed m w.held more full) ∙ sym (append_assoc ps p (framed m more)) in (
      ps ++ p,
      all-put m front frame body gained from sent w ∙ ap (λ t. w.before ++ t) is ∙ sym (append_assoc w.before w.lead p) ∙ ap (λ t. t ++ p) w.goes_on ∙ append_assoc front ps p,
      λ more. (framed m more, goes more),
      λ more unfinished. (framed m more, framed-some m more unfinished, goes more),
    )

plain-break : (front frame body gained : List ℕ) (from sent : ℕ) → length frame < from + 65536 → InFrames false front frame from sent body gained
    → EndsEarly (gained ++ take (length frame - sent) (drop sent frame)) front false body
plain-break front frame body gained from sent open_one w =
    let (few, is, none) = when-open false w.lead frame w.held from sent w.from_is w.gathered open_one in
    let ps = flat_map (piece_of false) w.pieces in
    let goes = λ (more : List ℕ). framed-is false front frame body gained more from sent w ∙ sym (append_assoc ps w.held more) in (
      ps ++ w.held,
      all-put false front frame body gained from sent w ∙ ap (λ t. w.before ++ t) is ∙ sym (append_assoc w.before w.lead w.held) ∙ ap (λ t. t ++ w.held) w.goes_on ∙ append_assoc front ps w.held,
      λ more. (more, goes more),
      λ more unfinished. (more, framed-some false more unfinished, goes more),
    )

pub broken-all : (m : Bool) (front frame body gained : List ℕ) (from sent : ℕ) → (m ≡ true → from + 65536 ≤ length frame) → ∥ InFrames m front frame from sent body gained ∥₁
    → EndsEarly (gained ++ take (length frame - sent) (drop sent frame)) front m body
broken-all true front frame body gained from sent long w = breaks-of _ front true body (∥∥₁_map w (whole-break true front frame body gained from sent (long refl)))
broken-all false front frame body gained from sent long w = go (cases_lt (length frame) (from + 65536)) where
  go : (length frame < from + 65536) ⊎ (from + 65536 ≤ length frame) → EndsEarly (gained ++ take (length frame - sent) (drop sent frame)) front false body
  go (inl short) = breaks-of _ front false body (∥∥₁_map w (plain-break front frame body gained from sent short))
  go (inr full) = breaks-of _ front false body (∥∥₁_map w (whole-break false front frame body gained from sent full))

-- where it could not be put, something is missing of each body that begins so
pub not-broken : {T E : Type 0} (r : Result T E) (a b : Option (List ℕ)) (gained bytes front : List ℕ) (m : Bool) (body : List ℕ) → EndsEarly (gained ++ bytes) front m body → OnErr r (AppendsFront a b bytes)
    → OnErr r ((x : List ℕ) × Appends a b x × ((more : List ℕ) → IsProperFront (gained ++ x) (front ++ framed m (body ++ more))))
not-broken (Ok v) a b gained bytes front m body breaks appends = tt
not-broken (Err v) a b gained bytes front m body (part, is, first, proper) (k, less, appends) = (
  take k bytes,
  appends,
  λ more.
      let (rest, e) = first more in
      let y = drop k bytes ++ rest in
      let all : front ++ framed m (body ++ more) ≡ (gained ++ take k bytes) ++ y =
      ap (λ t. front ++ t) e ∙ sym (append_assoc front part rest) ∙ ap (λ t. t ++ rest) (sym is) ∙ ap (λ t. (gained ++ t) ++ rest) (sym (take-append-drop k bytes))
      ∙ ap (λ t. t ++ rest) (sym (append_assoc gained (take k bytes) (drop k bytes))) ∙ append_assoc (gained ++ take k bytes) (drop k bytes) rest in
      (y, omega (arith, less, length-drop k bytes, length-append (drop k bytes) rest), all),
)

pub is-broken : {T E : Type 0} (r : Result T E) (a b : Option (List ℕ)) (gained bytes front : List ℕ) (m : Bool) (body : List ℕ) → EndsEarly (gained ++ bytes) front m body → OnOk r (Appends a b bytes)
    → OnOk r ((x : List ℕ) × Appends a b x × EndsEarly (gained ++ x) front m body)
is-broken (Ok v) a b gained bytes front m body breaks appends = (bytes, appends, breaks)
is-broken (Err v) a b gained bytes front m body breaks appends = tt

-- some of it is
pub some-done : (a b : Option (List ℕ)) (gained rest whole : List ℕ) → gained ++ rest ≡ whole → AppendsFront a b rest → (x : List ℕ) × Appends a b x × IsProperFront (gained ++ x) whole
some-done a b gained rest whole e (k, less, appends) =
    (take k rest, appends, (drop k rest, omega (arith, less, length-drop k rest), sym e ∙ ap (λ t. gained ++ t) (sym (take-append-drop k rest)) ∙ sym (append_assoc gained (take k rest) (drop k rest))))

pub ok-done : {T E : Type 0} (r : Result T E) (a b : Option (List ℕ)) (gained rest whole : List ℕ) → gained ++ rest ≡ whole → OnOk r (Appends a b rest) → OnOk r ((x : List ℕ) × Appends a b x × (gained ++ x ≡ whole))
ok-done (Ok v) a b gained rest whole e appends = (rest, appends, e)
ok-done (Err v) a b gained rest whole e appends = tt

pub err-done : {T E : Type 0} (r : Result T E) (a b : Option (List ℕ)) (gained rest whole : List ℕ) → gained ++ rest ≡ whole → OnErr r (AppendsFront a b rest) → OnErr r ((x : List ℕ) × Appends a b x × IsProperFront (gained ++ x) whole)
err-done (Ok v) a b gained rest whole e appends = tt
err-done (Err v) a b gained rest whole e appends = some-done a b gained rest whole e appends

-- behind more that was put
pub ok-behind : {T E : Type 0} (r : Result T E) (a b c : Option (List ℕ)) (gained gained' x whole whole' : List ℕ) → Appends a b x → gained' ≡ gained ++ x → whole' ≡ whole
    → OnOk r ((y : List ℕ) × Appends b c y × (gained' ++ y ≡ whole')) → OnOk r ((z : List ℕ) × Appends a c z × (gained ++ z ≡ whole))
ok-behind (Ok v) a b c gained gained' x whole whole' first e same (y, second, is) =
    (x ++ y, Appends-trans a b c x y first second, sym (append_assoc gained x y) ∙ ap (λ t. t ++ y) (sym e) ∙ is ∙ same)
ok-behind (Err v) a b c gained gained' x whole whole' first e same more = tt

pub err-behind : {T E : Type 0} (r : Result T E) (a b c : Option (List ℕ)) (gained gained' x whole whole' : List ℕ) → Appends a b x → gained' ≡ gained ++ x → whole' ≡ whole
    → OnErr r ((y : List ℕ) × Appends b c y × IsProperFront (gained' ++ y) whole') → OnErr r ((z : List ℕ) × Appends a c z × IsProperFront (gained ++ z) whole)
err-behind (Ok v) a b c gained gained' x whole whole' first e same more = tt
err-behind (Err v) a b c gained gained' x whole whole' first e same (y, second, (rest, some, is)) = (
  x ++ y,
  Appends-trans a b c x y first second,
  (rest, some, sym same ∙ is ∙ ap (λ t. (t ++ y) ++ rest) e ∙ ap (λ t. t ++ rest) (append_assoc gained x y)),
)

-- what a body under way has put is a front of each that goes on so
pub way-part : (m : Bool) (front frame body gained more : List ℕ) (from sent : ℕ) → ∥ InFrames m front frame from sent body gained ∥₁ → IsFront gained (front ++ framed m (body ++ more))
way-part m front frame body gained more from sent w =
    front-of gained (front ++ framed m (body ++ more)) (∥∥₁_map w (λ v. let r = rest-of m front frame body gained more from sent v in (r.rest, r.is)))

-- and not all of it
pub way-on : (m : Bool) (front frame body gained more : List ℕ) (from sent : ℕ) → IsUnfinished m more → ∥ InFrames m front frame from sent body gained ∥₁ → IsProperFront gained (front ++ framed m (body ++ more))
way-on m front frame body gained more from sent goes w =
    proper-of gained (front ++ framed m (body ++ more)) (∥∥₁_map w (λ v. let r = rest-of m front frame body gained more from sent v in (r.rest, r.some goes, r.is)))

-- also of the body itself, where a frame is not put whole
pub way-left : (m : Bool) (front frame body gained : List ℕ) (from sent : ℕ) → from + 65536 ≤ length frame → sent < length frame → ∥ InFrames m front frame from sent body gained ∥₁
    → IsProperFront gained (front ++ framed m body)
way-left m front frame body gained from sent long less w =
    proper-of gained (front ++ framed m body) (∥∥₁_map w (λ v.
    let r = rest-of m front frame body gained [] from sent v in
    (r.rest, r.left long less, ap (λ t. front ++ framed m t) (sym (append-nil body)) ∙ r.is)))

pub err-front : {T E : Type 0} (r : Result T E) (a b : Option (List ℕ)) (gained x whole : List ℕ) → Appends a b x → IsProperFront (gained ++ x) whole → OnErr r ((y : List ℕ) × Appends a b y × IsProperFront (gained ++ y) whole)
err-front (Ok v) a b gained x whole appends front = tt
err-front (Err v) a b gained x whole appends front = (x, appends, front)

-- the whole of a body, in other words
pub same-whole : (m m' : Bool) (front front' body body' : List ℕ) → m' ≡ m → front' ≡ front → body' ≡ body → front' ++ framed m' body' ≡ front ++ framed m body
same-whole m m' front front' body body' chunks first same =
    ap (λ t. t ++ framed m' body') first ∙ ap (λ b. front ++ framed b body') chunks ∙ ap (λ t. front ++ framed m t) same
