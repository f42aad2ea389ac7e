use Rattle.std.proofs.Common.{◌≡◌, ◌++◌, ◌≤◌, List, ℕ, ap, length, arith, refl, ◌∙◌}
use Rattle.std.proofs.Math.Logic.{∥∥₁_map}
use Rattle.dap_http.specs.inner.Putting.{body_in, front_in, gained_by}
use Rattle.dap_http.specs.inner.UnderWay.{body_of, frames_of, front_before, gained_of, head_of}
use Rattle.dap_http.proofs.Gathering.{body-begun, frames-more, front-begun, gained-begun, moved, next-begun, room-small}
use Rattle.dap_http.proofs.gathered.Gathered.begin.Goals as goal

pub invariant_of-self : goal.invariant_of-self
invariant_of-self c =
    let s = c.args.self.now in
    let m = s.chunked in
    let f = s.frame.items in
    let cs = frames_of s.whole.items in
    let h = c.keep.new.kept.items in
    let k = length c.head-head.result.now in
    let is : h ≡ head_of m = c.keep.ensures.items ∙ ap (λ t. t ++ c.head-head.result.now) c.clear.ensures.items ∙ c.head-head.ensures in
    let k_is : k ≡ length (head_of m) = ap length c.head-head.ensures in
    let more = ap frames_of c.and-self.ensures ∙ frames-more s.whole.items s.frame s.from in
    let all = frames_of c.and-self.result.items in
    let short : length h ≤ k = omega (arith, ap length is, k_is) in
    let body : body_of all h k ≡ body_in s = ap (λ t. body_of t h k) more ∙ body-begun cs f h s.from k short in
    let gained : gained_of all h 0 ≡ gained_by s = ap (λ t. gained_of t h 0) more ∙ gained-begun cs f h s.from s.sent c.requires.put in
    let front : front_before m all h k ≡ front_in s = ap (λ t. front_before m t h k) more ∙ front-begun m cs f h s.from k in
    record {
      under_way = ∥∥₁_map s.under_way (λ w.
          moved m (front_in s) (front_before m all h k) (head_of m) h (body_in s) (body_of all h k) (gained_by s) (gained_of all h 0) (length (head_of m)) k 0 front is k_is body gained
          (next-begun m (front_in s) f (body_in s) (gained_by s) s.from s.sent c.requires.whole c.requires.put w));
      gathers = room-small m k (length h) (omega (arith, ap length is, k_is));
      headed = omega (arith, ap length is, k_is);
      behind = omega (arith, k_is);
      within = omega arith;
      room = omega (arith, c.keep.ensures.room, c.clear.ensures.capacity, s.room, s.behind, k_is);
    }

pub returns-clause-body : goal.returns-clause-body
returns-clause-body c =
    let s = c.args.self.now in
    let h = c.keep.new.kept.items in
    let k = length c.head-head.result.now in
    let is : h ≡ head_of s.chunked = c.keep.ensures.items ∙ ap (λ t. t ++ c.head-head.result.now) c.clear.ensures.items ∙ c.head-head.ensures in
    let short : length h ≤ k = omega (arith, ap length is, ap length c.head-head.ensures) in
    let more = ap frames_of c.and-self.ensures ∙ frames-more s.whole.items s.frame s.from in
    ap (λ t. body_of t h k) more ∙ body-begun (frames_of s.whole.items) s.frame.items h s.from k short

pub returns-clause-gained : goal.returns-clause-gained
returns-clause-gained c =
    let s = c.args.self.now in
    let h = c.keep.new.kept.items in
    let more = ap frames_of c.and-self.ensures ∙ frames-more s.whole.items s.frame s.from in
    ap (λ t. gained_of t h 0) more ∙ gained-begun (frames_of s.whole.items) s.frame.items h s.from s.sent c.requires.put

pub returns-clause-same : goal.returns-clause-same
returns-clause-same c =
    let s = c.args.self.now in
    let h = c.keep.new.kept.items in
    let k = length c.head-head.result.now in
    let more = ap frames_of c.and-self.ensures ∙ frames-more s.whole.items s.frame s.from in
    (refl, ap (λ t. front_before s.chunked t h k) more ∙ front-begun s.chunked (frames_of s.whole.items) s.frame.items h s.from k)
