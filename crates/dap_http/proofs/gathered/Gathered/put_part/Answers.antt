use Rattle.std.proofs.Common.{◌≡◌, ◌+◌, ◌-◌, ◌≤◌, List, [], ℕ, Option, sym, subst, ap, append-nil, length, take, drop, arith, length-drop}
use Rattle.std.proofs.Math.Logic.{∥∥₁_map}
use Rattle.std.proofs.KnownBytes.{Appends-nil}
use Rattle.std.proofs.lemmas.List.{take_all}
use Rattle.std.specs.Io.KnownBytes.{Appends}
use Rattle.dap_http.specs.inner.Putting.{body_in, front_in, gained_by}
use Rattle.dap_http.specs.inner.UnderWay.{InFrames, frames_of}
use Rattle.dap_http.proofs.Gathering.{gained-more, more-put}
use Rattle.dap_http.proofs.gathered.Gathered.put_part.Goals as goal

pub invariant_of-self : goal.invariant_of-self
invariant_of-self g c =
    let s = c.args.self.now in
    let n = c.in_ok-count.count in
    let f = s.frame.items in
    let within : s.sent + n ≤ length f = omega (arith, c.in_ok-count.ensures.some.1, length-drop s.sent f, ap length c.deref.ensures.value) in
    record {
      under_way = ∥∥₁_map s.under_way (λ w.
          subst (InFrames s.chunked (front_in s) f s.from (s.sent + n) (body_in s)) (sym (gained-more (frames_of s.whole.items) f s.sent n))
          (more-put s.chunked (front_in s) f (body_in s) (gained_by s) s.from s.sent n c.requires.whole within w));
      gathers = s.gathers;
      headed = s.headed;
      behind = s.behind;
      within = within;
      room = s.room;
    }

pub returns-clause-gains : goal.returns-clause-gains
returns-clause-gains g c =
    let s = c.args.self.now in
    let n = c.in_ok-count.count in
    let f = s.frame.items in
    let all : take (length f - s.sent) (drop s.sent f) ≡ drop s.sent f = take_all (length f - s.sent) (drop s.sent f) (omega (arith, length-drop s.sent f)) in (
      take n (drop s.sent f),
      gained-more (frames_of s.whole.items) f s.sent n,
      subst (Appends (g.O.Sink.written c.args.out.now) (g.O.Sink.written c.put.new.self)) (ap (take n) all) (rw c.deref.ensures.value at c.in_ok-count.ensures.bytes),
    )

pub returns-in_err-count-clause-gains : goal.returns-in_err-count-clause-gains
returns-in_err-count-clause-gains g c =
    let a = g.O.Sink.written c.args.out.now in
    ([], sym (append-nil (gained_by c.args.self.now)), subst (λ (o : Option (List ℕ)). Appends a o []) (sym c.in_err-count.ensures.err) (Appends-nil a))
