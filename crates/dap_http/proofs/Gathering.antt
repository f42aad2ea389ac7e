-- Frames that are gathered and put.
use Rattle.std.proofs.Common.{◌≡◌, ℕ, ◌+◌, ◌-◌, ◌<◌, ◌≤◌, Bool, true, false, List, [], ◌∷◌, ◌++◌, length, take, drop, refl, sym, ap, ◌∙◌, arith, append_assoc, append-nil, length-append, length-drop, inl, inr, subst}
use Rattle.std.specs.Prelude.{◌||◌, ◌==◌, Vec, nat_lt}
use Rattle.std.specs.List.{flat_map}
use Rattle.std.specs.Fmt.{digits}
use Rattle.std.specs.declared.alloc.Global.{Global}
use Rattle.std.proofs.Common.{eq-eqb}
use Rattle.std.proofs.Math.Seq.{take-add}
use Rattle.std.proofs.lemmas.Bool.{lt-ltb}
use Rattle.std.proofs.lemmas.Grind.{flat_map-append}
use Rattle.std.proofs.lemmas.List.{drop-append-le, drop_all, map-append, take_all, take_at, take-append-le}
use Rattle.std.proofs.lemmas.List.Elements.{All-nil, All-push}
use Rattle.httparse.specs.Ascii.{crlf_bytes}
use Rattle.dap_http.specs.Frames.{chunk}
use Rattle.dap_http.specs.inner.UnderWay.{InFrames, IsGathered, body_of, end_of, frames_of, front_before, full_head, gained_of, has_room, head_of, held_in, piece_of}

pub head-is : digits 16 false 65536 ++ crlf_bytes ≡ full_head
unfolding digits
head-is = refl

-- a whole chunk
pub chunk-is : (held : List ℕ) → length held ≡ 65536 → chunk held ≡ (full_head ++ held) ++ crlf_bytes
chunk-is held long = ap (λ n. ((digits 16 false n ++ crlf_bytes) ++ held) ++ crlf_bytes) long ∙ ap (λ t. (t ++ held) ++ crlf_bytes) head-is

-- a whole piece
pub piece-is : (m : Bool) (held : List ℕ) → length held ≡ 65536 → piece_of m held ≡ (head_of m ++ held) ++ end_of m
piece-is true held long = chunk-is held long
piece-is false held long = sym (append-nil held)

piece-long : (m : Bool) (held : List ℕ) → length held ≡ 65536 → length (piece_of m held) ≡ (length (head_of m) + 65536) + length (end_of m)
piece-long m held long = omega (arith, ap length (piece-is m held long), length-append (head_of m ++ held) (end_of m), length-append (head_of m) held, long)

open-long : (m : Bool) (lead frame held : List ℕ) → frame ≡ lead ++ (head_of m ++ held) → length frame ≡ (length lead + length (head_of m)) + length held
open-long m lead frame held is = omega (arith, ap length is, length-append lead (head_of m ++ held), length-append (head_of m) held)

whole-long : (m : Bool) (lead frame held : List ℕ) → length held ≡ 65536 → frame ≡ lead ++ piece_of m held → length frame ≡ ((length lead + length (head_of m)) + 65536) + length (end_of m)
whole-long m lead frame held full is = omega (arith, ap length is, length-append lead (piece_of m held), piece-long m held full)

pub when-whole : (m : Bool) (lead frame held : List ℕ) (from sent : ℕ) → length lead + length (head_of m) ≡ from → IsGathered m lead frame sent held → from + 65536 ≤ length frame
    → (length held ≡ 65536) × (frame ≡ lead ++ piece_of m held) × (sent ≤ length frame)
when-whole m lead frame held from sent begins (inl (few, is, none)) long = absurd (omega (arith, few, open-long m lead frame held is, begins, long))
when-whole m lead frame held from sent begins (inr whole) long = whole

pub when-open : (m : Bool) (lead frame held : List ℕ) (from sent : ℕ) → length lead + length (head_of m) ≡ from → IsGathered m lead frame sent held → length frame < from + 65536
    → (length held < 65536) × (frame ≡ lead ++ (head_of m ++ held)) × (sent ≡ 0)
when-open m lead frame held from sent begins (inl open_one) short = open_one
when-open m lead frame held from sent begins (inr (full, is, within)) short = absurd (omega (arith, whole-long m lead frame held full is, begins, short))

-- the same in other words
pub moved : (m : Bool) (front front' frame frame' body body' gained gained' : List ℕ) (from from' sent : ℕ) → front' ≡ front → frame' ≡ frame → from' ≡ from → body' ≡ body → gained' ≡ gained
    → InFrames m front frame from sent body gained → InFrames m front' frame' from' sent body' gained'
moved m front front' frame frame' body body' gained gained' from from' sent e1 e2 e3 e4 e5 w = record {
  pieces = w.pieces;
  held = w.held;
  before = w.before;
  lead = w.lead;
  whole = w.whole;
  from_is = w.from_is ∙ sym e3;
  goes_on = w.goes_on ∙ ap (λ t. t ++ flat_map (piece_of m) w.pieces) (sym e1);
  gathered = subst (λ t. IsGathered m w.lead t sent w.held) (sym e2) w.gathered;
  body_is = e4 ∙ w.body_is;
  gained_is = e5 ∙ w.gained_is ∙ ap (λ t. w.before ++ take sent t) (sym e2);
}

-- some bytes of a whole frame are put
pub more-put : (m : Bool) (front frame body gained : List ℕ) (from sent n : ℕ) → from + 65536 ≤ length frame → sent + n ≤ length frame → InFrames m front frame from sent body gained
    → InFrames m front frame from (sent + n) body (gained ++ take n (drop sent frame))
more-put m front frame body gained from sent n long within w =
    let (full, is, le) = when-whole m w.lead frame w.held from sent w.from_is w.gathered long in
    record {
      pieces = w.pieces;
      held = w.held;
      before = w.before;
      lead = w.lead;
      whole = w.whole;
      from_is = w.from_is;
      goes_on = w.goes_on;
      gathered = inr (full, is, within);
      body_is = w.body_is;
      gained_is = ap (λ t. t ++ take n (drop sent frame)) w.gained_is ∙ append_assoc w.before (take sent frame) (take n (drop sent frame))
          ∙ ap (λ t. w.before ++ t) (sym (take-add sent n frame));
    }

pub one : {X Y : Type 0} (f : X → List Y) (xs : List X) (x : X) → flat_map f (xs ++ x ∷ []) ≡ flat_map f xs ++ f x
one f xs x = flat_map-append f xs (x ∷ []) ∙ ap (λ t. flat_map f xs ++ t) (append-nil (f x))

-- it is put whole, and the next begins
pub next-begun : (m : Bool) (front frame body gained : List ℕ) (from sent : ℕ) → from + 65536 ≤ length frame → length frame ≤ sent → InFrames m front frame from sent body gained
    → InFrames m front (head_of m) (length (head_of m)) 0 body gained
next-begun m front frame body gained from sent long all w =
    let (full, is, le) = when-whole m w.lead frame w.held from sent w.from_is w.gathered long in
    let put : take sent frame ≡ frame = take_all sent frame all in
    let more : w.before ++ frame ≡ front ++ flat_map (piece_of m) (w.pieces ++ w.held ∷ []) =
    ap (λ t. w.before ++ t) is ∙ sym (append_assoc w.before w.lead (piece_of m w.held)) ∙ ap (λ t. t ++ piece_of m w.held) w.goes_on
    ∙ append_assoc front (flat_map (piece_of m) w.pieces) (piece_of m w.held) ∙ ap (λ t. front ++ t) (sym (one (piece_of m) w.pieces w.held)) in
    record {
      pieces = w.pieces ++ w.held ∷ [];
      held = [];
      before = w.before ++ frame;
      lead = [];
      whole = All-push (λ (p : List ℕ). length p ≡ 65536) w.pieces w.held w.whole full;
      from_is = omega arith;
      goes_on = append-nil (w.before ++ frame) ∙ more;
      gathered = inl (omega arith, sym (append-nil (head_of m)), refl);
      body_is = w.body_is ∙ sym (one (λ (p : List ℕ). p) w.pieces w.held) ∙ sym (append-nil _);
      gained_is = w.gained_is ∙ ap (λ t. w.before ++ t) put ∙ sym (append-nil _);
    }

-- more bytes are gathered, and fewer than all
pub more-held : (m : Bool) (front frame body gained bytes : List ℕ) (from sent : ℕ) → length frame < from + 65536 → length frame + length bytes < from + 65536 → InFrames m front frame from sent body gained
    → InFrames m front (frame ++ bytes) from sent (body ++ bytes) gained
more-held m front frame body gained bytes from sent short fits w =
    let (few, is, none) = when-open m w.lead frame w.held from sent w.from_is w.gathered short in
    record {
      pieces = w.pieces;
      held = w.held ++ bytes;
      before = w.before;
      lead = w.lead;
      whole = w.whole;
      from_is = w.from_is;
      goes_on = w.goes_on;
      gathered = inl (
        omega (arith, length-append w.held bytes, fits, open-long m w.lead frame w.held is, w.from_is),
        ap (λ t. t ++ bytes) is ∙ append_assoc w.lead (head_of m ++ w.held) bytes ∙ ap (λ t. w.lead ++ t) (append_assoc (head_of m) w.held bytes),
        none,
      );
      body_is = ap (λ t. t ++ bytes) w.body_is ∙ append_assoc _ w.held bytes;
      gained_is = w.gained_is ∙ ap (λ t. w.before ++ t) (ap (λ n. take n frame) none ∙ sym (ap (λ n. take n (frame ++ bytes)) none));
    }

-- or all
pub all-held : (m : Bool) (front frame body gained bytes : List ℕ) (from sent : ℕ) → length frame < from + 65536 → length frame + length bytes ≡ from + 65536 → InFrames m front frame from sent body gained
    → InFrames m front ((frame ++ bytes) ++ end_of m) from sent (body ++ bytes) gained
all-held m front frame body gained bytes from sent short fits w =
    let (few, is, none) = when-open m w.lead frame w.held from sent w.from_is w.gathered short in
    let full : length (w.held ++ bytes) ≡ 65536 = omega (arith, length-append w.held bytes, fits, open-long m w.lead frame w.held is, w.from_is) in
    let h = head_of m in
    let whole_is : (frame ++ bytes) ++ end_of m ≡ w.lead ++ piece_of m (w.held ++ bytes) =
    ap (λ t. (t ++ bytes) ++ end_of m) is ∙ ap (λ t. t ++ end_of m) (append_assoc w.lead (h ++ w.held) bytes ∙ ap (λ t. w.lead ++ t) (append_assoc h w.held bytes))
    ∙ append_assoc w.lead (h ++ (w.held ++ bytes)) (end_of m) ∙ ap (λ t. w.lead ++ t) (sym (piece-is m (w.held ++ bytes) full)) in
    record {
      pieces = w.pieces;
      held = w.held ++ bytes;
      before = w.before;
      lead = w.lead;
      whole = w.whole;
      from_is = w.from_is;
      goes_on = w.goes_on;
      gathered = inr (full, whole_is, omega (arith, none));
      body_is = ap (λ t. t ++ bytes) w.body_is ∙ append_assoc _ w.held bytes;
      gained_is = w.gained_is ∙ ap (λ t. w.before ++ t) (ap (λ n. take n frame) none ∙ sym (ap (λ n. take n ((frame ++ bytes) ++ end_of m)) none));
    }

pub room-small : (m : Bool) (from n : ℕ) → n < from + 65536 → has_room m from n ≡ true
room-small m from n lt = ap (λ v. v || n == (from + 65536) + length (end_of m)) (lt-ltb n (from + 65536) lt)

or-true : (b : Bool) → b || true ≡ true
or-true true = refl
or-true false = refl

pub room-full : (m : Bool) (from n : ℕ) → n ≡ (from + 65536) + length (end_of m) → has_room m from n ≡ true
room-full m from n e = ap (λ v. nat_lt n (from + 65536) || v) (eq-eqb n ((from + 65536) + length (end_of m)) e) ∙ or-true (nat_lt n (from + 65536))

-- ---- the body and what was put, told from the frames

-- some bytes of a frame are put
pub gained-more : (cs : List (List ℕ × ℕ)) (frame : List ℕ) (sent n : ℕ) → gained_of cs frame (sent + n) ≡ gained_of cs frame sent ++ take n (drop sent frame)
unfolding gained_of
gained-more cs frame sent n =
    ap (λ t. flat_map (λ (f : List ℕ × ℕ). f.0) cs ++ t) (take-add sent n frame) ∙ sym (append_assoc (flat_map (λ (f : List ℕ × ℕ). f.0) cs) (take sent frame) (take n (drop sent frame)))

-- more bytes are gathered behind those that were put
pub gained-same : (cs : List (List ℕ × ℕ)) (frame more : List ℕ) (sent : ℕ) → sent ≤ length frame → gained_of cs (frame ++ more) sent ≡ gained_of cs frame sent
unfolding gained_of
gained-same cs frame more sent within = ap (λ t. flat_map (λ (f : List ℕ × ℕ). f.0) cs ++ t) (take-append-le sent frame more within)

held-all : (frame : List ℕ) (from : ℕ) → from ≤ length frame → length frame ≤ from + 65536 → held_in frame from ≡ drop from frame
held-all frame from begins small = take_all 65536 (drop from frame) (omega (arith, length-drop from frame, small))

pub body-more : (cs : List (List ℕ × ℕ)) (frame more : List ℕ) (from : ℕ) → from ≤ length frame → length frame + length more ≤ from + 65536 → body_of cs (frame ++ more) from ≡ body_of cs frame from ++ more
unfolding body_of
body-more cs frame more from begins small =
    let before = held-all frame from begins (omega (arith, small)) in
    let now : held_in (frame ++ more) from ≡ held_in frame from ++ more =
    held-all (frame ++ more) from (omega (arith, length-append frame more, begins)) (omega (arith, length-append frame more, small)) ∙ drop-append-le from frame more begins ∙ ap (λ t. t ++ more) (sym before) in
    ap (λ t. flat_map (λ (f : List ℕ × ℕ). held_in f.0 f.1) cs ++ t) now ∙ sym (append_assoc (flat_map (λ (f : List ℕ × ℕ). held_in f.0 f.1) cs) (held_in frame from) more)

-- a line end is no byte of the body
pub body-ended : (cs : List (List ℕ × ℕ)) (frame more : List ℕ) (from : ℕ) → length frame ≡ from + 65536 → body_of cs (frame ++ more) from ≡ body_of cs frame from
unfolding body_of
body-ended cs frame more from long =
    let before = held-all frame from (omega (arith, long)) (omega (arith, long)) in
    let size : length (drop from frame) ≡ 65536 = omega (arith, length-drop from frame, long) in
    let now : held_in (frame ++ more) from ≡ held_in frame from =
    ap (take 65536) (drop-append-le from frame more (omega (arith, long))) ∙ take_at (drop from frame) more 65536 size ∙ sym before in
    ap (λ t. flat_map (λ (f : List ℕ × ℕ). held_in f.0 f.1) cs ++ t) now

-- the next frame begins
nothing-held : (frame : List ℕ) (from : ℕ) → length frame ≤ from → held_in frame from ≡ []
nothing-held frame from e = ap (take 65536) (drop_all from frame e)

pub frames-more : (items : List (Vec ℕ Global × ℕ)) (v : Vec ℕ Global) (k : ℕ) → frames_of (items ++ (v, k) ∷ []) ≡ frames_of items ++ (v.items, k) ∷ []
frames-more items v k = map-append (λ (x : Vec ℕ Global × ℕ). (x.0.items, x.1)) items ((v, k) ∷ [])

pub body-begun : (cs : List (List ℕ × ℕ)) (frame head : List ℕ) (from begins : ℕ) → length head ≤ begins → body_of (cs ++ (frame, from) ∷ []) head begins ≡ body_of cs frame from
unfolding body_of
body-begun cs frame head from begins short =
    let held = λ (f : List ℕ × ℕ). held_in f.0 f.1 in
    ap (λ t. flat_map held (cs ++ (frame, from) ∷ []) ++ t) (nothing-held head begins short) ∙ append-nil (flat_map held (cs ++ (frame, from) ∷ [])) ∙ one held cs (frame, from)

pub gained-begun : (cs : List (List ℕ × ℕ)) (frame head : List ℕ) (from sent : ℕ) → length frame ≤ sent → gained_of (cs ++ (frame, from) ∷ []) head 0 ≡ gained_of cs frame sent
unfolding gained_of
gained-begun cs frame head from sent all =
    let put = λ (f : List ℕ × ℕ). f.0 in
    append-nil (flat_map put (cs ++ (frame, from) ∷ [])) ∙ one put cs (frame, from) ∙ ap (λ t. flat_map put cs ++ t) (sym (take_all sent frame all))

-- ---- what goes out before the body

pub front-more : (m : Bool) (cs : List (List ℕ × ℕ)) (frame more : List ℕ) (from : ℕ) → from ≤ length frame → front_before m cs (frame ++ more) from ≡ front_before m cs frame from
unfolding front_before
front-more m [] frame more from begins = take-append-le (from - length (head_of m)) frame more (omega (arith, begins))
front-more m (f ∷ cs) frame more from begins = refl

pub front-begun : (m : Bool) (cs : List (List ℕ × ℕ)) (frame head : List ℕ) (from begins : ℕ) → front_before m (cs ++ (frame, from) ∷ []) head begins ≡ front_before m cs frame from
unfolding front_before
front-begun m [] frame head from begins = refl
front-begun m (f ∷ cs) frame head from begins = refl

pub front-first : (m : Bool) (items : List (Vec ℕ Global × ℕ)) (front frame : List ℕ) (from : ℕ) → items ≡ [] → frame ≡ front ++ head_of m → from ≡ length frame → front_before m (frames_of items) frame from ≡ front
unfolding front_before
front-first m items front frame from none is begins =
    ap (λ t. front_before m (frames_of t) frame from) none
    ∙ ap (take (from - length (head_of m))) is
    ∙ take_at front (head_of m) (from - length (head_of m)) (omega (arith, begins, ap length is, length-append front (head_of m)))

-- nothing is gathered yet
pub begun_so : (m : Bool) (items : List (Vec ℕ Global × ℕ)) (front frame : List ℕ) (from : ℕ) → items ≡ [] → frame ≡ front ++ head_of m → from ≡ length frame
    → ∥ InFrames m (front_before m (frames_of items) frame from) frame from 0 (body_of (frames_of items) frame from) (gained_of (frames_of items) frame 0) ∥₁
unfolding body_of gained_of
begun_so m items front frame from none is begins =
    let e : frames_of items ≡ [] = ap frames_of none in
    let f = front_before m (frames_of items) frame from in
    let same : f ≡ front = front-first m items front frame from none is begins in
    ∣ record {
      pieces = [];
      held = [];
      before = [];
      lead = front;
      whole = All-nil (λ (p : List ℕ). length p ≡ 65536);
      from_is = omega (arith, begins, ap length is, length-append front (head_of m));
      goes_on = sym (append-nil f ∙ same);
      gathered = inl (omega arith, is ∙ ap (λ t. front ++ t) (sym (append-nil (head_of m))), refl);
      body_is = ap (λ t. flat_map (λ (x : List ℕ × ℕ). held_in x.0 x.1) t ++ held_in frame from) e ∙ nothing-held frame from (omega (arith, begins));
      gained_is = ap (λ t. flat_map (λ (x : List ℕ × ℕ). x.0) t ++ []) e;
    } ∣₁

pub no_body : (items : List (Vec ℕ Global × ℕ)) (frame : List ℕ) (from : ℕ) → items ≡ [] → from ≡ length frame → body_of (frames_of items) frame from ≡ []
unfolding body_of
no_body items frame from none begins = ap (λ t. flat_map (λ (x : List ℕ × ℕ). held_in x.0 x.1) t ++ held_in frame from) (ap frames_of none) ∙ nothing-held frame from (omega (arith, begins))

pub nothing_gained : (items : List (Vec ℕ Global × ℕ)) (frame : List ℕ) → items ≡ [] → gained_of (frames_of items) frame 0 ≡ []
unfolding gained_of
nothing_gained items frame none = ap (λ t. flat_map (λ (x : List ℕ × ℕ). x.0) t ++ []) (ap frames_of none)
