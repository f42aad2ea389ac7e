use Rattle.std.proofs.Common.{arith, subst}
use Rattle.netcdf_source.specs.Header.{magic}
use Rattle.netcdf_source.proofs.Ends.{IsBytes, later_bytes}
use Rattle.netcdf_source.proofs.Verdict.{Front, is_header, is_first, only_header, only_cause, none_header, none_cause}
use Rattle.netcdf_source.proofs.read.read_header.Goals as goal

pub returns-in_default-clause-only_header : goal.returns-in_default-clause-only_header
returns-in_default-clause-only_header c = none_header c.args.front.now c.args.file_len c.in_default.ensures.none

pub returns-in_default-clause-only_cause : goal.returns-in_default-clause-only_cause
returns-in_default-clause-only_cause c = none_cause c.args.front.now c.args.file_len c.in_default.ensures.none

pub returns-clause-header : goal.returns-clause-header
returns-clause-header c =
    let f : Front c.in-Some.version c.in-Some.body.now c.args.front.now = record { begins = c.in-Some.ensures.found } in
    is_header c.in-Some.version c.in-Some.body.now c.args.front.now c.args.file_len c.judge.result (later_bytes (magic c.in-Some.version) c.in-Some.body.now (subst IsBytes c.in-Some.ensures.found (λ i. omega (arith, c.type_inv.front i)))) f c.judge.ensures.verdict

pub returns-clause-first_cause : goal.returns-clause-first_cause
returns-clause-first_cause c =
    let f : Front c.in-Some.version c.in-Some.body.now c.args.front.now = record { begins = c.in-Some.ensures.found } in
    is_first c.in-Some.version c.in-Some.body.now c.args.front.now c.args.file_len c.judge.result (later_bytes (magic c.in-Some.version) c.in-Some.body.now (subst IsBytes c.in-Some.ensures.found (λ i. omega (arith, c.type_inv.front i)))) f c.judge.ensures.verdict

pub returns-clause-only_header : goal.returns-clause-only_header
returns-clause-only_header c =
    let f : Front c.in-Some.version c.in-Some.body.now c.args.front.now = record { begins = c.in-Some.ensures.found } in
    only_header c.in-Some.version c.in-Some.body.now c.args.front.now c.args.file_len c.judge.result f c.judge.ensures.verdict

pub returns-clause-only_cause : goal.returns-clause-only_cause
returns-clause-only_cause c =
    let f : Front c.in-Some.version c.in-Some.body.now c.args.front.now = record { begins = c.in-Some.ensures.found } in
    only_cause c.in-Some.version c.in-Some.body.now c.args.front.now c.args.file_len c.judge.result f c.judge.ensures.verdict
