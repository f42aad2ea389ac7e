use Rattle.std.proofs.Common.{◌≡◌, ◌+◌, ◌-◌, ◌∙◌, false, ap, arith, length, rules, subst, sym, to_z, of_z, w64}
use Rattle.std.specs.Cmp.{int_cmp_total}
use Rattle.std.specs.List.{list_any}
use Rattle.std.specs.List.Sorted.{IsBinarySearchResult, IsSearchInRange}
use Rattle.std.specs.Ordering.{int_cmp}
use Rattle.std.proofs.Math.Facts.{sfits_widen}
use Rattle.std.proofs.lemmas.Bool.Decides.{nat_tests}
use Rattle.std.proofs.lemmas.Int.{to_z-of_z}
use Rattle.constraint_parse.specs.declared.constraint.Op.TheVariants.{Equal}
use Rattle.constraint_parse.specs.contracts.constraint.Op.{the_type}
use Rattle.sequence_select.proofs.Ends.{last_decides, search_decides}
use Rattle.sequence_select.specs.Selections.{relation_of}
use Rattle.sequence_select.proofs.numbers.Numbers.relates.Goals as goal
use denote.Enum.Bare.{same_true, sameb}
use mir.Syntax.{w128}
use mir.Val.{SFits}

pub returns-then-eq : goal.returns-then-eq
returns-then-eq c =
    let wide : c.from-number.result ≡ c.args.number = c.from-number.ensures ∙ to_z-of_z w64 _ c.ranges.number in
    let op : c.args.op ≡ Equal = same_true the_type (search rules) _ _ (sym c.if-eq.ensures) in
    let fits : SFits w128 c.from-number.result = subst (SFits w128) (sym wide) (sfits_widen tt c.ranges.number) in
    let back : to_z w128 (of_z w128 c.from-number.result) ≡ c.args.number = to_z-of_z w128 _ fits ∙ wide in
    let within : IsSearchInRange c.binary_search.result (length c.args.self.now.sorted.items) =
    subst (λ xs. IsSearchInRange c.binary_search.result (length xs)) c.deref.ensures.value c.binary_search.ensures.bound in
    let found : IsBinarySearchResult (λ y. int_cmp y c.args.number) c.args.self.now.sorted.items c.binary_search.result =
    subst (λ z. IsBinarySearchResult (λ y. int_cmp y z) c.args.self.now.sorted.items c.binary_search.result) back
    (subst (λ xs. IsBinarySearchResult (λ y. int_cmp y (to_z w128 (of_z w128 c.from-number.result))) xs c.binary_search.result) c.deref.ensures.value c.binary_search.ensures.position) in
    c.is_ok.ensures.value ∙ search_decides int_cmp_total c.args.self.now.sorted.items c.args.number c.binary_search.result c.args.self.now.rise within found ∙ ap (λ o. list_any (λ b. relation_of o (int_cmp c.args.number b)) c.args.self.now.sorted.items) (sym op)

pub returns-else-belongs : goal.returns-else-belongs
returns-else-belongs c =
    let other : c.args.op ≡ Equal → ⊥ = λ same. let e : sameb the_type Equal Equal ≡ false = ap (λ o. sameb the_type o Equal) (sym same) ∙ sym c.if-eq.ensures in cc e in
    let wide : c.from-number.result ≡ c.args.number = c.from-number.ensures ∙ to_z-of_z w64 _ c.ranges.number in
    let fits : SFits w128 c.from-number.result = subst (SFits w128) (sym wide) (sfits_widen tt c.ranges.number) in
    let back : to_z w128 (of_z w128 c.from-number.result) ≡ c.args.number = to_z-of_z w128 _ fits ∙ wide in
    let end : c.len-last.result - 1 + 1 ≡ length c.args.self.now.sorted.items = grind (arith, nat_tests, c.is_empty.ensures, c.if-is_empty.false, c.len-last.ensures, c.args.self.now.sorted.ok) in
    c.belongs-else-belongs.ensures ∙ ap (relation_of c.args.op) (c.cmp-else-belongs.ensures ∙ ap (λ z. int_cmp z c.index-else-belongs.result.now) back)
    ∙ last_decides int_cmp_total c.args.op other c.args.self.now.sorted.items c.args.self.now.rise c.args.number c.index.result.now c.index-else-belongs.result.now _ end c.index.ensures c.index-else-belongs.ensures
    (ap (λ z. relation_of c.args.op (int_cmp z c.index.result.now)) (sym back) ∙ ap (relation_of c.args.op) (sym c.cmp.ensures) ∙ sym c.belongs.ensures ∙ c.if-belongs.false)
