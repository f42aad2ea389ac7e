use Rattle.std.proofs.Common.{◌≡◌, ◌∙◌, ◌-◌, ap, arith, length, refl, subst, sym, take, drop, ◌++◌}
use Rattle.std.proofs.lemmas.Bool.{false≢true}
use Rattle.dap_http.specs.Framings.{EndsEarly}
use Rattle.dap_http.specs.inner.Putting.{body_in, front_in, gained_by}
use Rattle.dap_http.proofs.Ends.{broken-all, broken-open, unsent}
use Rattle.dap_http.proofs.gathered.Gathered.ready.Goals as goal

pub returns-clause-sent : goal.returns-clause-sent
returns-clause-sent c =
    let s = c.args.self.now in
    omega (arith, unsent s.chunked (front_in s) s.frame.items (body_in s) (gained_by s) s.from s.sent (c.is_whole.ensures.open c.if-is_whole.false) s.under_way)

pub returns-clause-breaks : goal.returns-clause-breaks
returns-clause-breaks c =
    let s = c.args.self.now in
    broken-open s.chunked (front_in s) s.frame.items (body_in s) (gained_by s) s.from s.sent 7 c.if-not-self.false refl (c.is_whole.ensures.open c.if-is_whole.false) s.under_way

pub returns-then-is_whole-clause-breaks : goal.returns-then-is_whole-clause-breaks
returns-then-is_whole-clause-breaks c =
    let s = c.args.self.now in
    let len : length s.frame.items ≡ c.len-then-is_whole.result = omega (arith, c.len-then-is_whole.ensures) in
    subst (λ n. EndsEarly (gained_by s ++ take (n - s.sent) (drop s.sent s.frame.items)) (front_in s) s.chunked (body_in s)) len
    (broken-all s.chunked (front_in s) s.frame.items (body_in s) (gained_by s) s.from s.sent (λ yes_one. c.is_whole.ensures.whole c.if-is_whole.true) s.under_way)

pub returns-then-not-self-clause-breaks : goal.returns-then-not-self-clause-breaks
returns-then-not-self-clause-breaks c =
    let s = c.args.self.now in
    let len : length s.frame.items ≡ c.len.result = omega (arith, c.len.ensures) in
    subst (λ n. EndsEarly (gained_by s ++ take (n - s.sent) (drop s.sent s.frame.items)) (front_in s) s.chunked (body_in s)) len
    (broken-all s.chunked (front_in s) s.frame.items (body_in s) (gained_by s) s.from s.sent (λ yes_one. absurd (false≢true (sym c.if-not-self.true ∙ yes_one))) s.under_way)
