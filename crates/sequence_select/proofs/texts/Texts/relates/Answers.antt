use Rattle.std.proofs.Common.{◌≡◌, ◌+◌, ◌-◌, ◌∙◌, false, ap, arith, length, rules, subst, sym}
use Rattle.std.specs.Cmp.Lexicographic.{nat_list_cmp_total, slice_cmp}
use Rattle.std.specs.List.{list_any}
use Rattle.std.specs.List.Sorted.{IsBinarySearchResult, IsSearchInRange}
use Rattle.std.specs.Ordering.{nat_cmp}
use Rattle.std.proofs.lemmas.Bool.Decides.{nat_tests}
use Rattle.std.proofs.lemmas.Fn.{always_returns_same}
use Rattle.constraint_parse.specs.declared.constraint.Op.TheVariants.{Equal}
use Rattle.constraint_parse.specs.contracts.constraint.Op.{the_type}
use Rattle.sequence_select.proofs.Ends.{last_decides, search_decides}
use Rattle.sequence_select.specs.Selections.{relation_of}
use Rattle.sequence_select.proofs.texts.Texts.relates.Goals as goal
use denote.Enum.Bare.{same_true, sameb}

pub returns-then-eq : goal.returns-then-eq
returns-then-eq c =
    let op : c.args.op ≡ Equal = same_true the_type (search rules) _ _ (sym c.if-eq.ensures) in
    let within : IsSearchInRange c.binary_search_by.result (length c.args.self.now.sorted.items) =
    subst (λ xs. IsSearchInRange c.binary_search_by.result (length xs)) c.deref.ensures.value c.binary_search_by.ensures.bound in
    let found : IsBinarySearchResult (λ y. slice_cmp nat_cmp y c.args.text.now) c.args.self.now.sorted.items c.binary_search_by.result =
    subst (λ xs. IsBinarySearchResult (λ y. slice_cmp nat_cmp y c.args.text.now) xs c.binary_search_by.result) c.deref.ensures.value
    (c.binary_search_by.ensures.position (λ y. slice_cmp nat_cmp y c.args.text.now) (always_returns_same _ _ _ (λ a r f called. search rules))) in
    c.is_ok.ensures.value ∙ search_decides nat_list_cmp_total c.args.self.now.sorted.items c.args.text.now c.binary_search_by.result c.args.self.now.rise within found ∙ ap (λ o. list_any (λ b. relation_of o (slice_cmp nat_cmp c.args.text.now b)) c.args.self.now.sorted.items) (sym op)

pub returns-else-belongs : goal.returns-else-belongs
returns-else-belongs c =
    let other : c.args.op ≡ Equal → ⊥ = λ same. let e : sameb the_type Equal Equal ≡ false = ap (λ o. sameb the_type o Equal) (sym same) ∙ sym c.if-eq.ensures in cc e in
    let end : c.len-last.result - 1 + 1 ≡ length c.args.self.now.sorted.items = grind (arith, nat_tests, c.is_empty.ensures, c.if-is_empty.false, c.len-last.ensures, c.args.self.now.sorted.ok) in
    c.belongs-else-belongs.ensures ∙ ap (relation_of c.args.op) (c.cmp-else-belongs.ensures ∙ ap (slice_cmp nat_cmp c.args.text.now) c.bytes-else-belongs.ensures)
    ∙ last_decides nat_list_cmp_total c.args.op other c.args.self.now.sorted.items c.args.self.now.rise c.args.text.now c.index.result.now c.index-else-belongs.result.now _ end c.index.ensures c.index-else-belongs.ensures
    (ap (λ b. relation_of c.args.op (slice_cmp nat_cmp c.args.text.now b)) (sym c.bytes.ensures) ∙ ap (relation_of c.args.op) (sym c.cmp.ensures) ∙ sym c.belongs.ensures ∙ c.if-belongs.false)
