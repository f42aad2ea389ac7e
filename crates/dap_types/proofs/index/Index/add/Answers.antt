use Rattle.std.proofs.Common.{Some, refl, sym, ap, ◌∙◌}
use Rattle.std.specs.Option.{is_some}
use Rattle.std.specs.Cmp.Lexicographic.{lists_equiv, nat_list_eq_equiv, pointwise}
use Rattle.std.specs.Str.{bytes_eq}
use Rattle.dap_types.proofs.Found.{stays, comes, updates_seen}
use Rattle.dap_types.specs.Numbered.{number_in}
use Rattle.dap_types.proofs.index.Index.add.Goals as goal

pub returns-then-contains_key : goal.returns-then-contains_key
returns-then-contains_key c =
    stays (number_in c.args.self.now) c.args.path.items c.args.number
    (ap (λ p. is_some (number_in c.args.self.now p)) (sym c.as_slice.ensures.value) ∙ sym c.contains_key.ensures ∙ c.if-contains_key.true)

pub returns : goal.returns
returns c =
    comes (number_in c.args.self.now) (number_in (record c.args.self.now { numbers = c.insert.new.self })) c.args.path.items c.args.number
    (ap (λ p. is_some (number_in c.args.self.now p)) (sym c.as_slice.ensures.value) ∙ sym c.contains_key.ensures ∙ c.if-contains_key.false)
    (updates_seen (λ k. k.items) (pointwise bytes_eq) _ (lists_equiv nat_list_eq_equiv) (λ x y. refl)
    c.args.self.now.numbers c.insert.new.self c.args.path (Some c.args.number) c.in_ok-insert.ensures.updates) (lists_equiv nat_list_eq_equiv)
