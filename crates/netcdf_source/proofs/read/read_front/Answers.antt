use Rattle.std.proofs.Common.{arith, subst}
use Rattle.netcdf_source.specs.Header.{magic}
use Rattle.netcdf_source.proofs.Ends.{IsBytes, later_bytes}
use Rattle.netcdf_source.proofs.Fronts.{front_header, front_length, front_more, front_first, front_only_more, none_more, none_first, none_only_more, four_bytes, not_whole}
use Rattle.netcdf_source.proofs.Verdict.{Front, is_header, is_first, only_cause}
use Rattle.netcdf_source.proofs.read.read_front.Goals as goal

pub returns-in_default-clause-more : goal.returns-in_default-clause-more
returns-in_default-clause-more c = none_more c.is_whole-is_whole.result c.without_magic.result c.args.front.now c.args.file_len c.without_magic.ensures c.is_whole-is_whole.ensures.short

pub returns-in_default-clause-first_cause : goal.returns-in_default-clause-first_cause
returns-in_default-clause-first_cause c = none_first c.is_whole-is_whole.result c.without_magic.result c.args.front.now c.args.file_len c.without_magic.ensures c.in_default.ensures.none c.is_whole-is_whole.ensures.whole

pub returns-in_default-clause-only_more : goal.returns-in_default-clause-only_more
returns-in_default-clause-only_more c = none_only_more c.is_whole-is_whole.result c.without_magic.result c.args.front.now c.args.file_len c.without_magic.ensures c.in_default.ensures.none c.is_whole-is_whole.ensures.whole

pub returns-clause-header : goal.returns-clause-header
returns-clause-header c =
    let f : Front c.in-Some.version c.in-Some.body.now c.args.front.now = record { begins = c.in-Some.ensures.found } in
    front_header c.is_whole-is_whole.result c.front_answer.result c.judge-read.result c.args.front.now c.args.file_len c.front_answer.ensures
    (is_header c.in-Some.version c.in-Some.body.now c.args.front.now c.args.file_len c.judge-read.result (later_bytes (magic c.in-Some.version) c.in-Some.body.now (subst IsBytes c.in-Some.ensures.found (λ i. omega (arith, c.type_inv.front i)))) f c.judge-read.ensures.verdict)

pub returns-clause-length : goal.returns-clause-length
returns-clause-length c = front_length c.is_whole-is_whole.result c.front_answer.result c.judge-read.result c.args.file_len c.front_answer.ensures c.judge-read.ensures.length

pub returns-clause-more : goal.returns-clause-more
returns-clause-more c =
    let f : Front c.in-Some.version c.in-Some.body.now c.args.front.now = record { begins = c.in-Some.ensures.found } in
    front_more c.is_whole-is_whole.result c.front_answer.result c.judge-read.result c.args.front.now c.args.file_len c.front_answer.ensures c.is_whole-is_whole.ensures.short
    (is_first c.in-Some.version c.in-Some.body.now c.args.front.now c.args.file_len c.judge-read.result (later_bytes (magic c.in-Some.version) c.in-Some.body.now (subst IsBytes c.in-Some.ensures.found (λ i. omega (arith, c.type_inv.front i)))) f c.judge-read.ensures.verdict)

pub returns-clause-first_cause : goal.returns-clause-first_cause
returns-clause-first_cause c =
    let f : Front c.in-Some.version c.in-Some.body.now c.args.front.now = record { begins = c.in-Some.ensures.found } in
    front_first c.is_whole-is_whole.result c.front_answer.result c.judge-read.result c.args.front.now c.args.file_len c.front_answer.ensures c.is_whole-is_whole.ensures.whole (λ q. four_bytes c.in-Some.version c.in-Some.body.now c.args.front.now c.in-Some.ensures.found)
    (is_first c.in-Some.version c.in-Some.body.now c.args.front.now c.args.file_len c.judge-read.result (later_bytes (magic c.in-Some.version) c.in-Some.body.now (subst IsBytes c.in-Some.ensures.found (λ i. omega (arith, c.type_inv.front i)))) f c.judge-read.ensures.verdict)

pub returns-clause-only_more : goal.returns-clause-only_more
returns-clause-only_more c = λ short cut.
    let f : Front c.in-Some.version c.in-Some.body.now c.args.front.now = record { begins = c.in-Some.ensures.found } in
    front_only_more c.is_whole-is_whole.result c.front_answer.result c.judge-read.result c.args.front.now c.args.file_len c.front_answer.ensures (not_whole c.is_whole-is_whole.result c.args.front.now c.args.file_len c.is_whole-is_whole.ensures.whole short)
    (four_bytes c.in-Some.version c.in-Some.body.now c.args.front.now c.in-Some.ensures.found)
    (only_cause c.in-Some.version c.in-Some.body.now c.args.front.now c.args.file_len c.judge-read.result f c.judge-read.ensures.verdict) cut
