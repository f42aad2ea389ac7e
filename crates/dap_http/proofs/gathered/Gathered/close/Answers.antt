use Rattle.std.proofs.Common.{◌≡◌, ◌∙◌, ◌-◌, ap, arith, drop, length, length-drop, take, ◌++◌, List, ℕ}
use Rattle.std.proofs.lemmas.List.{take_all}
use Rattle.dap_http.specs.Frames.{framed}
use Rattle.dap_http.specs.inner.Putting.{body_in, front_in, gained_by}
use Rattle.dap_http.specs.inner.UnderWay.{head_of}
use Rattle.dap_http.proofs.Ends.{all-done, err-done, head-there, ok-done}
use Rattle.dap_http.proofs.gathered.Gathered.close.Goals as goal

pub ended-at-requires-clause-head : goal.ended-at-requires-clause-head
ended-at-requires-clause-head g c =
    let s = c.args.self in
    head-there s.chunked (front_in s) s.frame.items (body_in s) (gained_by s) s.from s.sent c.requires.«open» s.under_way

pub returns-clause-ok : goal.returns-clause-ok
returns-clause-ok g c =
    let s = c.args.self in
    let d = c.deref.result.now in
    let at = c.ended-at.result in
    let rest = take (length d - at) (drop at d) in
    let is : rest ≡ take (s.from - length (head_of s.chunked)) s.frame.items ++ framed s.chunked (drop s.from s.frame.items) =
    take_all (length d - at) (drop at d) (omega (arith, length-drop at d)) ∙ ap (drop at) c.deref.ensures.value ∙ c.ended-at.ensures.ended in
    let done = all-done s.chunked (front_in s) s.frame.items (body_in s) (gained_by s) s.from s.sent c.requires.«open» s.under_way in
    ok-done c.put_all.result _ _ (gained_by s) rest _ (ap (λ t. gained_by s ++ t) is ∙ done) c.put_all.ensures.ok

pub returns-clause-err : goal.returns-clause-err
returns-clause-err g c =
    let s = c.args.self in
    let d = c.deref.result.now in
    let at = c.ended-at.result in
    let rest = take (length d - at) (drop at d) in
    let is : rest ≡ take (s.from - length (head_of s.chunked)) s.frame.items ++ framed s.chunked (drop s.from s.frame.items) =
    take_all (length d - at) (drop at d) (omega (arith, length-drop at d)) ∙ ap (drop at) c.deref.ensures.value ∙ c.ended-at.ensures.ended in
    let done = all-done s.chunked (front_in s) s.frame.items (body_in s) (gained_by s) s.from s.sent c.requires.«open» s.under_way in
    err-done c.put_all.result _ _ (gained_by s) rest _ (ap (λ t. gained_by s ++ t) is ∙ done) c.put_all.ensures.err
