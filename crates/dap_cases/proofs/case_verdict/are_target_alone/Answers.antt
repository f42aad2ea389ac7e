use Rattle.std.proofs.Common.{rules, ◌≡◌, ◌∙◌, List, [], ◌∷◌, ℕ, ap, arith, codes}
use Rattle.dap_cases.proofs.Giving.{two-items}
use Rattle.dap_cases.proofs.case_verdict.are_target_alone.Goals as goal

pub returns-in-len2 : goal.returns-in-len2
returns-in-len2 c = λ same.
    let (y, two) = two-items c.args.words.now c.name-item.result (omega (arith, c.in-len2.len_at_least, c.in-len2.len_below)) c.name-item.is in
    let named : c.name-item.result ≡ codes "answer" = search (rules, c.eq.ensures, same, c.as_str.ensures) in
    (y, two ∙ ap (λ (n : List ℕ). n ∷ y ∷ []) named)
