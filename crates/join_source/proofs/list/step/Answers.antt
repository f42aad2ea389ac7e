use Rattle.std.proofs.Common.{◌≡◌, ◌+◌, ◌-◌, ◌∷◌, [], Err, drop, get_or, take, sym, ap, ◌∙◌, arith}
use Rattle.plain_lemmas.proofs.Lists.{drop_next}
use Rattle.join_source.proofs.Listing.{bad-name, grown, line-end, line-more, one-name, true-of}
use Rattle.join_source.specs.Lists.{lines_from, names_from}
use Rattle.join_source.proofs.list.step.Goals as goal

pub returns-then-bytes-k-ne10-clause-same : goal.returns-then-bytes-k-ne10-clause-same
returns-then-bytes-k-ne10-clause-same c =
    let bytes = c.args.bytes.now in
    ap (λ line. names_from c.args.names.now (lines_from line (drop (c.args.k + 1) bytes))) (grown bytes c.args.start c.args.k c.requires.start c.requires.within)
    ∙ sym (ap (λ rest. names_from c.args.names.now (lines_from (take (c.args.k - c.args.start) (drop c.args.start bytes)) rest)) (drop_next bytes c.args.k c.requires.within)
    ∙ ap (names_from c.args.names.now) (line-more (take (c.args.k - c.args.start) (drop c.args.start bytes)) (drop (c.args.k + 1) bytes) (get_or bytes c.args.k 0) c.if-bytes-k-ne10.true))

pub returns-in-Err-clause-first_cause : goal.returns-in-Err-clause-first_cause
returns-in-Err-clause-first_cause c = λ known.
    let bytes = c.args.bytes.now in
    let f = c.in-Err.ensures.first_cause known in
    ap (λ rest. names_from c.args.names.now (lines_from (take (c.args.k - c.args.start) (drop c.args.start bytes)) rest)) (drop_next bytes c.args.k c.requires.within)
    ∙ ap (names_from c.args.names.now) (line-end (take (c.args.k - c.args.start) (drop c.args.start bytes)) (drop (c.args.k + 1) bytes) (get_or bytes c.args.k 0) c.if-bytes-k-ne10.false)
    ∙ sym (ap (λ line. names_from c.args.names.now (line ∷ lines_from [] (drop (c.args.k + 1) bytes))) c.without_return.ensures)
    ∙ bad-name c.args.names.now c.without_return.result.now (lines_from [] (drop (c.args.k + 1) bytes)) f.1
    ∙ ap Err (sym f.0)

pub returns-in-Ok-clause-same : goal.returns-in-Ok-clause-same
returns-in-Ok-clause-same c =
    let bytes = c.args.bytes.now in
    let cur = take (c.args.k - c.args.start) (drop c.args.start bytes) in
    let none : c.args.k + 1 - (c.args.k + 1) ≡ 0 = omega arith in
    let put = c.in-Ok.ensures.name in
    ap (λ n. names_from c.push_name.new.names (lines_from (take n (drop (c.args.k + 1) bytes)) (drop (c.args.k + 1) bytes))) none
    ∙ ap (λ names. names_from names (lines_from [] (drop (c.args.k + 1) bytes))) put.1
    ∙ sym (one-name c.args.names.now c.without_return.result.now (lines_from [] (drop (c.args.k + 1) bytes)) (true-of _ put.0))
    ∙ ap (λ line. names_from c.args.names.now (line ∷ lines_from [] (drop (c.args.k + 1) bytes))) c.without_return.ensures
    ∙ sym (ap (λ rest. names_from c.args.names.now (lines_from (take (c.args.k - c.args.start) (drop c.args.start bytes)) rest)) (drop_next bytes c.args.k c.requires.within)
    ∙ ap (names_from c.args.names.now) (line-end (take (c.args.k - c.args.start) (drop c.args.start bytes)) (drop (c.args.k + 1) bytes) (get_or bytes c.args.k 0) c.if-bytes-k-ne10.false))
