use Rattle.std.proofs.Common.{◌≡◌, ℕ, ◌-◌, List, ◌++◌, length, take, drop, subst, ap, ◌∙◌, arith, append_assoc, length-append, length-drop, length-take-le, take_all, take-append-drop}
use Rattle.dap_client.specs.inner.DasBodies.{IsDasBody}
use Rattle.dap_client.proofs.das_body.gather.Goals as goal

pub returns-clause-body : goal.returns-clause-body
returns-clause-body c =
    let room : ℕ = 16777216 - c.len-room.result in
    let first : List ℕ = c.args.front.items ++ take room c.args.piece.now in
    let grown : c.extend_from_slice-2.new.self.items ≡ first = c.in_ok-extend_from_slice-2.ensures.items in
    let long : length first ≡ 16777216 = omega (arith, length-append c.args.front.items (take room c.args.piece.now), length-take-le room c.args.piece.now (omega (arith, c.if-piece-room.false, c.requires.short, c.len-room.ensures)), c.len-room.ensures, c.requires.short) in
    let is : IsDasBody first c.in_ok-judged.field-0 = subst (λ l. IsDasBody l c.in_ok-judged.field-0) grown c.in_ok-judged.ensures.body in
    let rest : List ℕ = drop room c.args.piece.now in
    let all : take (length c.args.piece.now - room) rest ≡ rest = take_all (length c.args.piece.now - room) rest (omega (arith, length-drop room c.args.piece.now)) in
    let whole : first ++ take (length c.args.piece.now - room) rest ≡ c.args.front.items ++ c.args.piece.now = ap (λ l. first ++ l) all ∙ append_assoc c.args.front.items (take room c.args.piece.now) rest ∙ ap (λ l. c.args.front.items ++ l) (take-append-drop room c.args.piece.now) in
    subst (λ l. IsDasBody l c.followed.result) whole (c.followed.ensures.body first long (omega (arith, long)) is)
