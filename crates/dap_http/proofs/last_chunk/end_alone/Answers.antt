use Rattle.std.proofs.Common.{◌≡◌, ◌∙◌, ◌+◌, ◌++◌, [], ap, arith, drop, refl, sym, take}
use Rattle.std.proofs.lemmas.List.{drop_all}
use Rattle.dap_http.specs.Frames.{chunked, last_chunk}
use Rattle.dap_http.proofs.Ends.{chunked-none}
use Rattle.dap_http.proofs.last_chunk.end_alone.Goals as goal

pub returns-clause-ended : goal.returns-clause-ended
returns-clause-ended c =
    let f = c.args.frame.now.items in
    let none : drop (c.args.lead + 7) f ≡ [] = drop_all (c.args.lead + 7) f (omega (arith, c.requires.headed)) in
    c.keep.ensures.items ∙ ap (λ t. t ++ last_chunk) c.truncate.ensures.items ∙ ap (λ t. take c.args.lead f ++ t) (sym (ap chunked none ∙ chunked-none [] refl))
