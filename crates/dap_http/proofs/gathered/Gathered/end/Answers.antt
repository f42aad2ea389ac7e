use Rattle.std.proofs.Common.{◌≡◌, ◌∙◌, ◌++◌, ap, sym, subst}
use Rattle.dap_http.specs.Frames.{IsProperFront, framed}
use Rattle.dap_http.specs.inner.Putting.{body_in, front_in, gained_by}
use Rattle.dap_http.proofs.Ends.{err-behind, err-front, ok-behind, same-whole, way-left}
use Rattle.dap_http.proofs.gathered.Gathered.end.Goals as goal

pub returns-in_err-flush-clause-err : goal.returns-in_err-flush-clause-err
returns-in_err-flush-clause-err g c =
    let s = c.args.self in
    let n = c.flush.new.self in
    let (x, is, appends) = c.flush.ensures.gains in
    let (chunked, front) = c.flush.ensures.same in
    let (long, less) = c.in_err-flush.ensures.left in
    let all = same-whole s.chunked n.chunked (front_in s) (front_in n) (body_in s) (body_in n) chunked front c.flush.ensures.body in
    let proper = way-left n.chunked (front_in n) n.frame.items (body_in n) (gained_by n) n.from n.sent long less n.under_way in
    err-front c.from_residual.result _ _ (gained_by s) x _ appends (subst (λ t. IsProperFront t (front_in s ++ framed s.chunked (body_in s))) is (subst (IsProperFront (gained_by n)) all proper))

pub returns-then-is_whole-clause-ok : goal.returns-then-is_whole-clause-ok
returns-then-is_whole-clause-ok g c =
    let s = c.args.self in
    let n = c.flush.new.self in
    let (x, is, appends) = c.flush.ensures.gains in
    let (chunked, front) = c.flush.ensures.same in
    let all = same-whole s.chunked n.chunked (front_in s) (front_in n) (body_in s) (body_in n) chunked front c.flush.ensures.body in
    ok-behind c.close.result _ _ _ (gained_by s) (gained_by n) x _ _ appends is all c.close.ensures.ok

pub returns-then-is_whole-clause-err : goal.returns-then-is_whole-clause-err
returns-then-is_whole-clause-err g c =
    let s = c.args.self in
    let n = c.flush.new.self in
    let (x, is, appends) = c.flush.ensures.gains in
    let (chunked, front) = c.flush.ensures.same in
    let all = same-whole s.chunked n.chunked (front_in s) (front_in n) (body_in s) (body_in n) chunked front c.flush.ensures.body in
    err-behind c.close.result _ _ _ (gained_by s) (gained_by n) x _ _ appends is all c.close.ensures.err
