use Rattle.std.proofs.Common.{[], arith, ap, ◌∙◌}
use Rattle.std.specs.Cmp.Lexicographic.{pointwise}
use Rattle.std.specs.List.{position_from}
use Rattle.std.specs.Map.{lookup}
use Rattle.std.specs.Option.{option_or}
use Rattle.std.specs.Str.{bytes_eq}
use Rattle.dap_types.proofs.Numbering.{under-top}
use Rattle.dap_types.proofs.Faults.{length-places}
use Rattle.dap_types.specs.Model.{count_all}
use Rattle.dap_types.specs.Numbered.{under}
use Rattle.dap_types.specs.View.{members_view}
use Rattle.dap_types.specs.WellFormed.{paths}
use Rattle.dap_types.proofs.index.Index.new.Goals as goal

pub add_level-requires : goal.add_level-requires
add_level-requires c =
    let same = ap (λ l. count_all (members_view l)) c.items.ensures in
    omega (arith, same, c.requires.few, length-places (members_view c.args.dataset.now.members) 1 [])

pub returns : goal.returns
returns c = λ path.
    c.in_ok-add_level.ensures.1 path
    ∙ ap (λ es. option_or (lookup (λ k. pointwise bytes_eq path k.items) es) (position_from (pointwise bytes_eq path) 1 (under [] (paths (members_view c.items.result.now))))) c.with_hasher.ensures.empty
    ∙ ap (position_from (pointwise bytes_eq path) 1) (under-top (paths (members_view c.items.result.now)) ∙ ap (λ l. paths (members_view l)) c.items.ensures)
