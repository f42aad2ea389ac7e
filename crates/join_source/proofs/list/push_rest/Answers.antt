use Rattle.std.proofs.Common.{◌≡◌, ◌≢◌, Err, [], length, sym, ap, ◌∙◌, arith}
use Rattle.std.proofs.lemmas.Bool.Decides.{nat_tests}
use Rattle.plain_lemmas.proofs.Options.{if_err-map}
use Rattle.join_source.proofs.Files.{on_ok-map}
use Rattle.join_source.proofs.Listing.{bad-name, last-left, none-left, one-name, true-of}
use Rattle.join_source.specs.Lists.{names_from}
use Rattle.join_source.proofs.list.push_rest.Goals as goal

pub returns-then-is_empty-clause-same : goal.returns-then-is_empty-clause-same
returns-then-is_empty-clause-same c =
    let none : length c.args.line.now ≡ 0 = grind (arith, nat_tests, c.is_empty.ensures, c.if-is_empty.true) in
    ap (names_from c.args.names.now) (sym (none-left c.args.line.now none))

pub returns-clause-same : goal.returns-clause-same
returns-clause-same c =
    let some : length c.args.line.now ≢ 0 = grind (arith, nat_tests, c.is_empty.ensures, c.if-is_empty.false) in
    on_ok-map c.push_name.result (λ put.
    ap (λ names. names_from names []) put.1
    ∙ sym (ap (names_from c.args.names.now) (last-left c.args.line.now some) ∙ one-name c.args.names.now c.args.line.now [] (true-of _ put.0))) c.push_name.ensures.name

pub returns-clause-first_cause : goal.returns-clause-first_cause
returns-clause-first_cause c =
    let some : length c.args.line.now ≢ 0 = grind (arith, nat_tests, c.is_empty.ensures, c.if-is_empty.false) in
    if_err-map c.push_name.result (λ e f known.
    ap (names_from c.args.names.now) (last-left c.args.line.now some) ∙ bad-name c.args.names.now c.args.line.now [] (f known).1 ∙ ap Err (sym (f known).0)) c.push_name.ensures.first_cause
