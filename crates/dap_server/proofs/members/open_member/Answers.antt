use Rattle.std.proofs.Common.{rules, arith, Err, Some, subst}
use Rattle.dap_server.proofs.AskedBefore.{missing_line, spoiled_line}
use Rattle.dap_server.proofs.Found.{by_text, first_read, read_member, spoiled}
use Rattle.dap_server.proofs.JoinedSending.{for_refused}
use Rattle.dap_server.specs.Joins.{IsMember}
use Rattle.dap_server.specs.inner.Members.{AsksLine}
use Rattle.dap_server.specs.inner.Opening.{WhereRefused}
use Rattle.dap_server.proofs.members.open_member.Goals as goal

pub returns-in_err-file-clause-refused : goal.returns-in_err-file-clause-refused
returns-in_err-file-clause-refused g c =
    let stop : WhereRefused (λ cause. IsMember (g.S.Shelf.files c.args.shelf.now) c.args.line c.args.name.now (Err cause)) c.in_err-file.field-0.0 =
    subst (λ name. WhereRefused (λ cause. IsMember (g.S.Shelf.files c.args.shelf.now) c.args.line name (Err cause)) c.in_err-file.field-0.0) c.text_of.ensures c.in_err-file.ensures.refused in
    search (rules, stop)

pub returns-in_err-header-clause-refused : goal.returns-in_err-header-clause-refused
returns-in_err-header-clause-refused g c =
    let found = by_text (g.S.Shelf.files c.args.shelf.now) (g.S.Shelf.name_of c.find_member.new.shelf) (g.S.Shelf.content c.find_member.new.shelf) c.text_of.result.now c.args.name.now (Some c.in_ok-file.file) c.text_of.ensures c.in_ok-file.ensures.found in
    let stop : WhereRefused (λ cause. IsMember (g.S.Shelf.files c.args.shelf.now) c.args.line c.args.name.now (Err cause)) c.in_err-header.field-0.0 =
    spoiled (g.S.Shelf.files c.args.shelf.now) (g.S.Shelf.name_of c.find_member.new.shelf) (g.S.Shelf.content c.find_member.new.shelf) c.args.name.now c.args.line c.in_ok-file.file c.in_err-header.field-0.0 found c.in_err-header.ensures.refused in
    search (rules, stop)

pub returns-clause-member : goal.returns-clause-member
returns-clause-member g c =
    let found = by_text (g.S.Shelf.files c.args.shelf.now) (g.S.Shelf.name_of c.find_member.new.shelf) (g.S.Shelf.content c.find_member.new.shelf) c.text_of.result.now c.args.name.now (Some c.in_ok-file.file) c.text_of.ensures c.in_ok-file.ensures.found in
    read_member (g.S.Shelf.files c.args.shelf.now) (g.S.Shelf.name_of c.find_member.new.shelf) (g.S.Shelf.content c.find_member.new.shelf) c.args.name.now c.args.line c.in_ok-file.file
    (g.S.Shelf.size_of c.find_member.new.shelf c.in_ok-file.file) c.in_ok-header.header (g.S.Shelf.content c.member_header.new.shelf) (g.S.Shelf.size_of c.member_header.new.shelf) c.member_header.new.file
    found c.in_ok-header.ensures.content c.in_ok-header.ensures.sizes c.in_ok-header.ensures.header

pub returns-in_err-header-clause-asked : goal.returns-in_err-header-clause-asked
returns-in_err-header-clause-asked g c =
    let found = by_text (g.S.Shelf.files c.args.shelf.now) (g.S.Shelf.name_of c.find_member.new.shelf) (g.S.Shelf.content c.find_member.new.shelf) c.text_of.result.now c.args.name.now (Some c.in_ok-file.file) c.text_of.ensures c.in_ok-file.ensures.found in
    let first = first_read (g.S.Shelf.files c.args.shelf.now) (g.S.Shelf.name_of c.find_member.new.shelf) (g.S.Shelf.content c.find_member.new.shelf) c.args.name.now c.in_ok-file.file
    (g.S.Shelf.size_of c.find_member.new.shelf c.in_ok-file.file) found c.in_err-header.ensures.told in
    omega (arith, first, c.in_err-header.ensures.asked, c.in_ok-file.ensures.asked)

pub returns-clause-asked : goal.returns-clause-asked
returns-clause-asked g c =
    let found = by_text (g.S.Shelf.files c.args.shelf.now) (g.S.Shelf.name_of c.find_member.new.shelf) (g.S.Shelf.content c.find_member.new.shelf) c.text_of.result.now c.args.name.now (Some c.in_ok-file.file) c.text_of.ensures c.in_ok-file.ensures.found in
    let first = first_read (g.S.Shelf.files c.args.shelf.now) (g.S.Shelf.name_of c.find_member.new.shelf) (g.S.Shelf.content c.find_member.new.shelf) c.args.name.now c.in_ok-file.file
    (g.S.Shelf.size_of c.find_member.new.shelf c.in_ok-file.file) found c.in_ok-header.ensures.told in
    omega (arith, first, c.in_ok-header.ensures.asked, c.in_ok-file.ensures.asked)

pub returns-in_err-file-clause-asked : goal.returns-in_err-file-clause-asked
returns-in_err-file-clause-asked g c = omega (arith, c.in_err-file.ensures.asked)

pub returns-in_err-file-clause-asked_before : goal.returns-in_err-file-clause-asked_before
returns-in_err-file-clause-asked_before g c =
    let stop : WhereRefused (λ cause. AsksLine (g.S.Shelf.files c.args.shelf.now) c.args.name.now c.args.line cause (g.S.Shelf.asked c.args.shelf.now) (g.S.Shelf.asked c.find_member.new.shelf)) c.in_err-file.field-0.0 =
    for_refused (λ cause is. missing_line (g.S.Shelf.files c.args.shelf.now) c.args.name.now c.args.line cause _ _ c.in_err-file.ensures.asked is) c.in_err-file.field-0.0 c.in_err-file.ensures.missing in
    search (rules, stop)

pub returns-in_err-header-clause-asked_before : goal.returns-in_err-header-clause-asked_before
returns-in_err-header-clause-asked_before g c =
    let found = by_text (g.S.Shelf.files c.args.shelf.now) (g.S.Shelf.name_of c.find_member.new.shelf) (g.S.Shelf.content c.find_member.new.shelf) c.text_of.result.now c.args.name.now (Some c.in_ok-file.file) c.text_of.ensures c.in_ok-file.ensures.found in
    let first = first_read (g.S.Shelf.files c.args.shelf.now) (g.S.Shelf.name_of c.find_member.new.shelf) (g.S.Shelf.content c.find_member.new.shelf) c.args.name.now c.in_ok-file.file
    (g.S.Shelf.size_of c.find_member.new.shelf c.in_ok-file.file) found c.in_err-header.ensures.told in
    let stop : WhereRefused (λ cause. AsksLine (g.S.Shelf.files c.args.shelf.now) c.args.name.now c.args.line cause (g.S.Shelf.asked c.args.shelf.now) (g.S.Shelf.asked c.member_header.new.shelf)) c.in_err-header.field-0.0 =
    for_refused (λ cause (bytes, why, read, is, e). spoiled_line (g.S.Shelf.files c.args.shelf.now) c.args.name.now c.args.line cause _ _ (omega (arith, first, c.in_err-header.ensures.asked, c.in_ok-file.ensures.asked)) e) c.in_err-header.field-0.0 c.in_err-header.ensures.refused in
    search (rules, stop)
