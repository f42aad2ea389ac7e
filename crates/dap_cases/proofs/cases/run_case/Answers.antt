use Rattle.std.proofs.Common.{◌∙◌, ◌++◌, List, ℕ, ap, codes}
use Rattle.dap_cases.proofs.Judging.{verdict-in}
use Rattle.dap_cases.proofs.cases.run_case.Goals as goal

pub returns-in-Ok : goal.returns-in-Ok
returns-in-Ok g c =
    verdict-in c.verdict_on.result (g.S.Shelf.files c.args.shelf.now) _ c.as_str-in-Ok-2.result.now c.as_str.result.now c.args.name.now c.in-Ok.case c.read_case.ensures.files
    (c.as_str-in-Ok-2.ensures.value ∙ c.in_ok-prefix-in-Ok.ensures ∙ ap (λ (f : List ℕ). f ++ codes "data/") (c.as_str-in-Ok.ensures.value ∙ c.in_ok-folder.ensures)) (c.as_str.ensures.value ∙ c.in_ok-folder.ensures)
    c.in-Ok.ensures.read c.verdict_on.ensures
