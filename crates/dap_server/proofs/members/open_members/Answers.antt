use Rattle.std.proofs.Common.{◌∙◌, Err, arith, refl, rules}
use Rattle.dap_server.proofs.BadLines.{none_bad, none_left}
use Rattle.dap_server.proofs.JoinedSending.{for_refused}
use Rattle.dap_server.proofs.OpenedLines.{all_opened, asked_first, asked_more, asked_within, bad_stop, line_told, none_opened, opened_more, still_good, this_name, up_to_bad}
use Rattle.dap_server.specs.Joins.{Members}
use Rattle.dap_server.specs.inner.Members.{AsksLines}
use Rattle.dap_server.specs.inner.Opening.{WhereRefused}
use Rattle.dap_server.proofs.members.open_members.Goals as goal

pub loop-k-init : goal.loop-k-init
loop-k-init g c = record {
  opened = none_opened (g.S.Shelf.files c.args.shelf.now) c.args.names.now (g.S.Shelf.content c.args.shelf.now) (g.S.Shelf.size_of c.args.shelf.now) c.new-headers.result c.new-files.result c.new-headers.ensures c.new-files.ensures;
  asked = omega arith;
  asked_before = omega arith;
  good = none_bad (g.S.Shelf.files c.args.shelf.now) c.args.names.now;
  stays = refl;
  files = refl;
  contents = refl;
  sizes = refl;
}

pub open_member-requires : goal.open_member-requires
open_member-requires g c = record { name = this_name c.args.names.now c.loop-k.k c.index-names-k.result c.bytes.result.now c.loop-k-test.true c.index-names-k.is c.bytes.ensures c.requires.names }

pub loop-k-preserved : goal.loop-k-preserved
loop-k-preserved g c =
    let kept = c.loop-k.invariant in
    let its = c.in_ok-header.ensures in
    record {
      opened = opened_more c.args.names.now c.loop-k.k c.index-names-k.result c.bytes.result.now c.loop-k-test.true c.index-names-k.is c.bytes.ensures (g.S.Shelf.files c.args.shelf.now) _ _ _ _ _ _ _ _ _ c.in_ok-header.header c.in_ok-header.file
          kept.files (its.contents ∙ kept.contents) (its.sizes ∙ kept.sizes) c.in_ok-push.ensures.ok c.in_ok-push-2.ensures.ok kept.opened its.member;
      asked = asked_more c.args.names.now c.loop-k.k c.index-names-k.result c.bytes.result.now c.loop-k-test.true c.index-names-k.is c.bytes.ensures (g.S.Shelf.files c.args.shelf.now) _ (g.S.Shelf.content c.open_member.new.shelf) (g.S.Shelf.size_of c.open_member.new.shelf) c.in_ok-header.header c.in_ok-header.file _ _ _
          kept.files its.member kept.asked its.asked;
      asked_before = asked_first c.args.names.now c.loop-k.k c.index-names-k.result c.bytes.result.now c.loop-k-test.true c.index-names-k.is c.bytes.ensures (g.S.Shelf.files c.args.shelf.now) (g.S.Shelf.files c.loop-k.shelf) _ _ _
          kept.files kept.asked_before its.asked;
      good = still_good c.args.names.now c.loop-k.k c.index-names-k.result c.bytes.result.now c.loop-k-test.true c.index-names-k.is c.bytes.ensures (g.S.Shelf.files c.args.shelf.now) (g.S.Shelf.files c.loop-k.shelf) (g.S.Shelf.content c.open_member.new.shelf) (g.S.Shelf.size_of c.open_member.new.shelf) c.in_ok-header.header c.in_ok-header.file
          kept.files its.member kept.good;
      stays = its.stays ∙ kept.stays;
      files = its.files ∙ kept.files;
      contents = its.contents ∙ kept.contents;
      sizes = its.sizes ∙ kept.sizes;
    }

pub returns-in_err-header-clause-refused : goal.returns-in_err-header-clause-refused
returns-in_err-header-clause-refused g c =
    let stop : WhereRefused (λ cause. Members (g.S.Shelf.files c.args.shelf.now) 1 c.args.names.now (Err cause)) c.in_err-header.field-0.0 =
    bad_stop c.args.names.now c.loop-k.k c.index-names-k.result c.bytes.result.now c.loop-k-test.true c.index-names-k.is c.bytes.ensures (g.S.Shelf.files c.args.shelf.now) _ _ _ _ _ c.in_err-header.field-0.0
    c.loop-k.invariant.files c.loop-k.invariant.opened c.in_err-header.ensures.refused in
    search (rules, stop)

pub returns-in_err-header-clause-asked : goal.returns-in_err-header-clause-asked
returns-in_err-header-clause-asked g c =
    asked_within c.args.names.now c.loop-k.k c.index-names-k.result c.bytes.result.now c.loop-k-test.true c.index-names-k.is c.bytes.ensures (g.S.Shelf.files c.args.shelf.now) _ _ _ _ c.loop-k.invariant.files c.loop-k.invariant.asked c.in_err-header.ensures.asked

pub returns-clause-members : goal.returns-clause-members
returns-clause-members g c =
    all_opened (g.S.Shelf.files c.args.shelf.now) c.args.names.now c.loop-k.k _ _ _ _ _ _ (omega (arith, c.loop-k-test.false, c.loop-k.auto.k-end)) c.loop-k.invariant.contents c.loop-k.invariant.sizes c.loop-k.invariant.opened

pub returns-clause-asked : goal.returns-clause-asked
returns-clause-asked g c = omega (arith, c.loop-k.invariant.asked)

pub returns-in_err-push-clause-asked : goal.returns-in_err-push-clause-asked
returns-in_err-push-clause-asked g c =
    asked_within c.args.names.now c.loop-k.k c.index-names-k.result c.bytes.result.now c.loop-k-test.true c.index-names-k.is c.bytes.ensures (g.S.Shelf.files c.args.shelf.now) _ _ _ _ c.loop-k.invariant.files c.loop-k.invariant.asked c.in_ok-header.ensures.asked

pub returns-in_err-push-2-clause-asked : goal.returns-in_err-push-2-clause-asked
returns-in_err-push-2-clause-asked g c =
    asked_within c.args.names.now c.loop-k.k c.index-names-k.result c.bytes.result.now c.loop-k-test.true c.index-names-k.is c.bytes.ensures (g.S.Shelf.files c.args.shelf.now) _ _ _ _ c.loop-k.invariant.files c.loop-k.invariant.asked c.in_ok-header.ensures.asked

pub returns-in_err-header-clause-asked_before : goal.returns-in_err-header-clause-asked_before
returns-in_err-header-clause-asked_before g c =
    let stop : WhereRefused (λ cause. AsksLines (g.S.Shelf.files c.args.shelf.now) c.args.names.now cause (g.S.Shelf.asked c.args.shelf.now) (g.S.Shelf.asked c.open_member.new.shelf)) c.in_err-header.field-0.0 =
    for_refused (λ cause own. line_told c.args.names.now c.loop-k.k c.index-names-k.result c.bytes.result.now c.loop-k-test.true c.index-names-k.is c.bytes.ensures (g.S.Shelf.files c.args.shelf.now) (g.S.Shelf.files c.loop-k.shelf) _ _ _ cause
    c.loop-k.invariant.files c.loop-k.invariant.asked_before own) c.in_err-header.field-0.0 c.in_err-header.ensures.asked_before in
    search (rules, stop)

pub returns-in_err-header-clause-before_bad : goal.returns-in_err-header-clause-before_bad
returns-in_err-header-clause-before_bad g c =
    up_to_bad c.args.names.now c.loop-k.k c.index-names-k.result c.bytes.result.now c.loop-k-test.true c.index-names-k.is c.bytes.ensures (g.S.Shelf.files c.args.shelf.now) (g.S.Shelf.files c.loop-k.shelf) _ _ _
    c.loop-k.invariant.files c.loop-k.invariant.good c.loop-k.invariant.asked_before c.in_err-header.ensures.asked

pub returns-in_err-push-clause-before_bad : goal.returns-in_err-push-clause-before_bad
returns-in_err-push-clause-before_bad g c =
    up_to_bad c.args.names.now c.loop-k.k c.index-names-k.result c.bytes.result.now c.loop-k-test.true c.index-names-k.is c.bytes.ensures (g.S.Shelf.files c.args.shelf.now) (g.S.Shelf.files c.loop-k.shelf) _ _ _
    c.loop-k.invariant.files c.loop-k.invariant.good c.loop-k.invariant.asked_before c.in_ok-header.ensures.asked

pub returns-in_err-push-2-clause-before_bad : goal.returns-in_err-push-2-clause-before_bad
returns-in_err-push-2-clause-before_bad g c =
    up_to_bad c.args.names.now c.loop-k.k c.index-names-k.result c.bytes.result.now c.loop-k-test.true c.index-names-k.is c.bytes.ensures (g.S.Shelf.files c.args.shelf.now) (g.S.Shelf.files c.loop-k.shelf) _ _ _
    c.loop-k.invariant.files c.loop-k.invariant.good c.loop-k.invariant.asked_before c.in_ok-header.ensures.asked

pub returns-clause-before_bad : goal.returns-clause-before_bad
returns-clause-before_bad g c = none_left (g.S.Shelf.files c.args.shelf.now) c.args.names.now c.loop-k.k _ _ (omega (arith, c.loop-k-test.false, c.loop-k.auto.k-end)) c.loop-k.invariant.good
