use Rattle.std.proofs.Common.{◌≡◌, ◌+◌, ◌<◌, ◌≤◌, ◌++◌, ap, refl, length, take, arith, ◌∙◌, length-append}
use Rattle.std.proofs.Math.Logic.{∥∥₁_map}
use Rattle.std.proofs.lemmas.List.{length-take-le}
use Rattle.dap_http.specs.inner.Putting.{body_in, front_in, gained_by}
use Rattle.dap_http.specs.inner.UnderWay.{body_of, end_of, frames_of, front_before, gained_of}
use Rattle.dap_http.proofs.Gathering.{all-held, body-ended, body-more, front-more, gained-same, more-held, moved, room-full, room-small}
use Rattle.dap_http.proofs.gathered.Gathered.gather.Goals as goal

pub invariant_of-self : goal.invariant_of-self
invariant_of-self c =
    let s = c.args.self.now in
    let m = s.chunked in
    let f = s.frame.items in
    let cs = frames_of s.whole.items in
    let p = take c.min-count.result c.args.bytes.now in
    let e : c.keep.new.kept.items ≡ f ++ p = c.keep.ensures.items in
    let z = end_of m in
    let h = c.keep-then-len-self-eq-PIECE.new.kept.items in
    let is : h ≡ (f ++ p) ++ z = c.keep-then-len-self-eq-PIECE.ensures.items ∙ ap (λ t. t ++ c.line_end.result.now) e ∙ ap (λ t. (f ++ p) ++ t) c.line_end.ensures in
    let total : length f + length p ≡ s.from + 65536 = omega (arith, ap length e, length-append f p, c.if-len-self-eq-PIECE.true, c.len-2.ensures, s.headed) in
    let long : length (f ++ p) ≡ s.from + 65536 = omega (arith, length-append f p, total) in
    let body : body_of cs h s.from ≡ body_in s ++ p = ap (λ t. body_of cs t s.from) is ∙ body-ended cs (f ++ p) z s.from long ∙ body-more cs f p s.from s.headed (omega (arith, total)) in
    let gained : gained_of cs h s.sent ≡ gained_by s = ap (λ t. gained_of cs t s.sent) is ∙ gained-same cs (f ++ p) z s.sent (omega (arith, s.within, length-append f p)) ∙ gained-same cs f p s.sent s.within in
    let front : front_before m cs h s.from ≡ front_in s = ap (λ t. front_before m cs t s.from) is ∙ front-more m cs (f ++ p) z s.from (omega (arith, s.headed, length-append f p)) ∙ front-more m cs f p s.from s.headed in
    record {
      under_way = ∥∥₁_map s.under_way (λ w.
          moved m (front_in s) (front_before m cs h s.from) ((f ++ p) ++ z) h (body_in s ++ p) (body_of cs h s.from) (gained_by s) (gained_of cs h s.sent) s.from s.from s.sent front is refl body gained
          (all-held m (front_in s) f (body_in s) (gained_by s) p s.from s.sent c.requires.«open» total w));
      gathers = room-full m s.from (length h) (omega (arith, ap length is, length-append (f ++ p) z, length-append f p, total));
      headed = omega (arith, ap length is, length-append (f ++ p) z, length-append f p, s.headed);
      behind = s.behind;
      within = omega (arith, ap length is, length-append (f ++ p) z, length-append f p, s.within);
      room = omega (arith, c.keep-then-len-self-eq-PIECE.ensures.room, c.keep.ensures.room, s.room);
    }

pub invariant_of-self-else-len-self-eq-PIECE : goal.invariant_of-self-else-len-self-eq-PIECE
invariant_of-self-else-len-self-eq-PIECE c =
    let s = c.args.self.now in
    let m = s.chunked in
    let f = s.frame.items in
    let cs = frames_of s.whole.items in
    let p = take c.min-count.result c.args.bytes.now in
    let e : c.keep.new.kept.items ≡ f ++ p = c.keep.ensures.items in
    let h = c.keep.new.kept.items in
    let few : c.min-count.result ≤ length c.args.bytes.now = omega (arith, c.min-count.ensures) in
    let exact : length p ≡ c.min-count.result = length-take-le c.min-count.result c.args.bytes.now few in
    let total : length f + length p < s.from + 65536 = omega (arith, ap length e, length-append f p, c.if-len-self-eq-PIECE.false, c.len-2.ensures, c.min-count.ensures, c.len.ensures, exact, s.headed, c.requires.«open») in
    let body : body_of cs h s.from ≡ body_in s ++ p = ap (λ t. body_of cs t s.from) e ∙ body-more cs f p s.from s.headed (omega (arith, total)) in
    let gained : gained_of cs h s.sent ≡ gained_by s = ap (λ t. gained_of cs t s.sent) e ∙ gained-same cs f p s.sent s.within in
    let front : front_before m cs h s.from ≡ front_in s = ap (λ t. front_before m cs t s.from) e ∙ front-more m cs f p s.from s.headed in
    record {
      under_way = ∥∥₁_map s.under_way (λ w.
          moved m (front_in s) (front_before m cs h s.from) (f ++ p) h (body_in s ++ p) (body_of cs h s.from) (gained_by s) (gained_of cs h s.sent) s.from s.from s.sent front e refl body gained
          (more-held m (front_in s) f (body_in s) (gained_by s) p s.from s.sent c.requires.«open» total w));
      gathers = room-small m s.from (length h) (omega (arith, ap length e, length-append f p, total));
      headed = omega (arith, ap length e, length-append f p, s.headed);
      behind = s.behind;
      within = omega (arith, ap length e, length-append f p, s.within);
      room = omega (arith, c.keep.ensures.room, s.room);
    }

pub returns-then-len-self-eq-PIECE-clause-body : goal.returns-then-len-self-eq-PIECE-clause-body
returns-then-len-self-eq-PIECE-clause-body c =
    let s = c.args.self.now in
    let m = s.chunked in
    let f = s.frame.items in
    let cs = frames_of s.whole.items in
    let p = take c.min-count.result c.args.bytes.now in
    let e : c.keep.new.kept.items ≡ f ++ p = c.keep.ensures.items in
    let z = end_of m in
    let h = c.keep-then-len-self-eq-PIECE.new.kept.items in
    let is : h ≡ (f ++ p) ++ z = c.keep-then-len-self-eq-PIECE.ensures.items ∙ ap (λ t. t ++ c.line_end.result.now) e ∙ ap (λ t. (f ++ p) ++ t) c.line_end.ensures in
    let total : length f + length p ≡ s.from + 65536 = omega (arith, ap length e, length-append f p, c.if-len-self-eq-PIECE.true, c.len-2.ensures, s.headed) in
    let long : length (f ++ p) ≡ s.from + 65536 = omega (arith, length-append f p, total) in
    ap (λ t. body_of cs t s.from) is ∙ body-ended cs (f ++ p) z s.from long ∙ body-more cs f p s.from s.headed (omega (arith, total))

pub returns-then-len-self-eq-PIECE-clause-gained : goal.returns-then-len-self-eq-PIECE-clause-gained
returns-then-len-self-eq-PIECE-clause-gained c =
    let s = c.args.self.now in
    let m = s.chunked in
    let f = s.frame.items in
    let cs = frames_of s.whole.items in
    let p = take c.min-count.result c.args.bytes.now in
    let e : c.keep.new.kept.items ≡ f ++ p = c.keep.ensures.items in
    let z = end_of m in
    let h = c.keep-then-len-self-eq-PIECE.new.kept.items in
    let is : h ≡ (f ++ p) ++ z = c.keep-then-len-self-eq-PIECE.ensures.items ∙ ap (λ t. t ++ c.line_end.result.now) e ∙ ap (λ t. (f ++ p) ++ t) c.line_end.ensures in
    let total : length f + length p ≡ s.from + 65536 = omega (arith, ap length e, length-append f p, c.if-len-self-eq-PIECE.true, c.len-2.ensures, s.headed) in
    let long : length (f ++ p) ≡ s.from + 65536 = omega (arith, length-append f p, total) in
    ap (λ t. gained_of cs t s.sent) is ∙ gained-same cs (f ++ p) z s.sent (omega (arith, s.within, length-append f p)) ∙ gained-same cs f p s.sent s.within

pub returns-then-len-self-eq-PIECE-clause-same : goal.returns-then-len-self-eq-PIECE-clause-same
returns-then-len-self-eq-PIECE-clause-same c =
    let s = c.args.self.now in
    let m = s.chunked in
    let f = s.frame.items in
    let cs = frames_of s.whole.items in
    let p = take c.min-count.result c.args.bytes.now in
    let e : c.keep.new.kept.items ≡ f ++ p = c.keep.ensures.items in
    let z = end_of m in
    let h = c.keep-then-len-self-eq-PIECE.new.kept.items in
    let is : h ≡ (f ++ p) ++ z = c.keep-then-len-self-eq-PIECE.ensures.items ∙ ap (λ t. t ++ c.line_end.result.now) e ∙ ap (λ t. (f ++ p) ++ t) c.line_end.ensures in
    let total : length f + length p ≡ s.from + 65536 = omega (arith, ap length e, length-append f p, c.if-len-self-eq-PIECE.true, c.len-2.ensures, s.headed) in
    let long : length (f ++ p) ≡ s.from + 65536 = omega (arith, length-append f p, total) in
    (refl, ap (λ t. front_before m cs t s.from) is ∙ front-more m cs (f ++ p) z s.from (omega (arith, s.headed, length-append f p)) ∙ front-more m cs f p s.from s.headed)

pub returns-else-len-self-eq-PIECE-clause-body : goal.returns-else-len-self-eq-PIECE-clause-body
returns-else-len-self-eq-PIECE-clause-body c =
    let s = c.args.self.now in
    let m = s.chunked in
    let f = s.frame.items in
    let cs = frames_of s.whole.items in
    let p = take c.min-count.result c.args.bytes.now in
    let e : c.keep.new.kept.items ≡ f ++ p = c.keep.ensures.items in
    let h = c.keep.new.kept.items in
    let few : c.min-count.result ≤ length c.args.bytes.now = omega (arith, c.min-count.ensures) in
    let exact : length p ≡ c.min-count.result = length-take-le c.min-count.result c.args.bytes.now few in
    let total : length f + length p < s.from + 65536 = omega (arith, ap length e, length-append f p, c.if-len-self-eq-PIECE.false, c.len-2.ensures, c.min-count.ensures, c.len.ensures, exact, s.headed, c.requires.«open») in
    ap (λ t. body_of cs t s.from) e ∙ body-more cs f p s.from s.headed (omega (arith, total))

pub returns-else-len-self-eq-PIECE-clause-gained : goal.returns-else-len-self-eq-PIECE-clause-gained
returns-else-len-self-eq-PIECE-clause-gained c =
    let s = c.args.self.now in
    let m = s.chunked in
    let f = s.frame.items in
    let cs = frames_of s.whole.items in
    let p = take c.min-count.result c.args.bytes.now in
    let e : c.keep.new.kept.items ≡ f ++ p = c.keep.ensures.items in
    let h = c.keep.new.kept.items in
    let few : c.min-count.result ≤ length c.args.bytes.now = omega (arith, c.min-count.ensures) in
    let exact : length p ≡ c.min-count.result = length-take-le c.min-count.result c.args.bytes.now few in
    let total : length f + length p < s.from + 65536 = omega (arith, ap length e, length-append f p, c.if-len-self-eq-PIECE.false, c.len-2.ensures, c.min-count.ensures, c.len.ensures, exact, s.headed, c.requires.«open») in
    ap (λ t. gained_of cs t s.sent) e ∙ gained-same cs f p s.sent s.within

pub returns-else-len-self-eq-PIECE-clause-same : goal.returns-else-len-self-eq-PIECE-clause-same
returns-else-len-self-eq-PIECE-clause-same c =
    let s = c.args.self.now in
    let m = s.chunked in
    let f = s.frame.items in
    let cs = frames_of s.whole.items in
    let p = take c.min-count.result c.args.bytes.now in
    let e : c.keep.new.kept.items ≡ f ++ p = c.keep.ensures.items in
    let h = c.keep.new.kept.items in
    let few : c.min-count.result ≤ length c.args.bytes.now = omega (arith, c.min-count.ensures) in
    let exact : length p ≡ c.min-count.result = length-take-le c.min-count.result c.args.bytes.now few in
    let total : length f + length p < s.from + 65536 = omega (arith, ap length e, length-append f p, c.if-len-self-eq-PIECE.false, c.len-2.ensures, c.min-count.ensures, c.len.ensures, exact, s.headed, c.requires.«open») in
    (refl, ap (λ t. front_before m cs t s.from) e ∙ front-more m cs f p s.from s.headed)
