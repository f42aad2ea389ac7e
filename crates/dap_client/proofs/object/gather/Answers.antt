use Rattle.std.proofs.Common.{◌≡◌, ℕ, ◌+◌, ◌-◌, List, ◌++◌, length, take, drop, subst, ap, ◌∙◌, arith, append_assoc, length-append, length-take-le, length-drop, take_all, take-append-drop}
use Rattle.dap_client.specs.inner.Objects.{IsObjectOf}
use Rattle.dap_client.proofs.object.gather.Goals as goal

pub returns-clause-object : goal.returns-clause-object
returns-clause-object c =
    let room : ℕ = 65536 - c.len-room.result in
    let first : List ℕ = c.args.front.items ++ take room c.args.piece.now in
    let grown : c.extend_from_slice-2.new.self.items ≡ first = c.in_ok-extend_from_slice-2.ensures.items in
    let long : length first ≡ 65536 = omega (arith, length-append c.args.front.items (take room c.args.piece.now), length-take-le room c.args.piece.now (omega (arith, c.if-piece-room.false, c.requires, c.len-room.ensures)), c.len-room.ensures, c.requires) in
    let is : IsObjectOf first c.in_ok-judged.field-0 = subst (λ l. IsObjectOf l c.in_ok-judged.field-0) grown c.in_ok-judged.ensures.object in
    let rest : List ℕ = drop room c.args.piece.now in
    let all : take (length c.args.piece.now - room) rest ≡ rest = take_all (length c.args.piece.now - room) rest (omega (arith, length-drop room c.args.piece.now)) in
    let whole : first ++ take (length c.args.piece.now - room) rest ≡ c.args.front.items ++ c.args.piece.now = ap (λ l. first ++ l) all ∙ append_assoc c.args.front.items (take room c.args.piece.now) rest ∙ ap (λ l. c.args.front.items ++ l) (take-append-drop room c.args.piece.now) in
    subst (λ l. IsObjectOf l c.followed.result) whole (c.followed.ensures.object first long (omega (arith, long)) is)
