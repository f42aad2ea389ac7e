use Rattle.std.proofs.Common.{◌≡◌, ◌≤◌, ◌++◌, None, Some, codes, length, refl, sym, ap, ◌∙◌, subst}
use Rattle.dap_types.specs.View.{dataset_view}
use Rattle.dap_model.specs.Dds.{dds}
use Rattle.dap_model.specs.Filter.{constrained}
use Rattle.dap_model.specs.Xdr.{bytes_of}
use Rattle.grid_projection.specs.Resolved.{marks_in}
use Rattle.xdr_encode.proofs.CdfBodies.{small_head, suited_for}
use Rattle.xdr_encode.proofs.Gathering.{same_err}
use Rattle.xdr_encode.specs.Counts.{first_large, slots_counts}
use Rattle.xdr_encode.specs.Wanted.{AreSuited}
use Rattle.join_source.proofs.JoinedBodies.{joined-text}
use Rattle.join_source.specs.Asked.{JoinedAsk}
use Rattle.join_source.specs.Begun.{HaveBegun}
use Rattle.join_source.specs.Bodies.{MayAsk, text_in}
use Rattle.join_source.specs.Joins.{members_in, name_in}
use Rattle.join_source.specs.Members.{HaveHeaders, contents_of, joined_contents}
use Rattle.join_source.specs.Pieces.{pieces_xdr}
use Rattle.join_source.specs.Sent.{slots_sent}
use Rattle.join_source.specs.Trees.{joined_tree}
use Rattle.join_source.specs.Wanted.{joined_slots}
use Rattle.join_source.proofs.body.JoinBody.new.Goals as goal

pub marked_pieces-requires-clause-suited : goal.marked_pieces-requires-clause-suited
marked_pieces-requires-clause-suited c =
    subst (λ hs. AreSuited (joined_contents (contents_of hs)) (marks_in c.args.marks.now)) (sym c.items.ensures)
    (suited_for (joined_contents (members_in c.args.joined.now)) (marks_in c.args.marks.now) (dataset_view c.args.dataset.now) (name_in c.args.joined.now, c.requires.dataset) c.requires.suits)

pub returns-in-Err-marked_pieces-clause-refused : goal.returns-in-Err-marked_pieces-clause-refused
returns-in-Err-marked_pieces-clause-refused c = λ leaf e.
    let short : length (dds (constrained (marks_in c.args.marks.now) (dataset_view c.args.dataset.now))) ≤ 16777216 = subst (λ t. length t ≤ 16777216) c.in-Ok.ensures.text c.in-Ok.ensures.short in
    small_head (joined_contents (members_in c.args.joined.now)) (marks_in c.args.marks.now) (dataset_view c.args.dataset.now) (Some leaf) (name_in c.args.joined.now, c.requires.dataset) short
    (subst (λ hs. first_large 1 (slots_counts (joined_contents (contents_of hs)) (marks_in c.args.marks.now) 1 (joined_slots (contents_of hs))) ≡ Some leaf) c.items.ensures
    (c.in-Err-marked_pieces.ensures.refused leaf (same_err c.in-Err-marked_pieces.refusal _ e)))

pub returns-in-Ok-body_of-clause-text : goal.returns-in-Ok-body_of-clause-text
unfolding text_in
returns-in-Ok-body_of-clause-text c = λ files keeps have.
    let sent : pieces_xdr c.in-Ok-marked_pieces.pieces files ≡ bytes_of (slots_sent (joined_contents (members_in c.args.joined.now)) (joined_tree (members_in c.args.joined.now) files) (marks_in c.args.marks.now) 1 (joined_slots (members_in c.args.joined.now)))
    = subst (λ hs. HaveHeaders (contents_of hs) files
    → pieces_xdr c.in-Ok-marked_pieces.pieces files ≡ bytes_of (slots_sent (joined_contents (contents_of hs)) (joined_tree (contents_of hs) files) (marks_in c.args.marks.now) 1 (joined_slots (contents_of hs)))) c.items.ensures
    (c.in-Ok-marked_pieces.ensures.text files) have in
    joined-text (members_in c.args.joined.now) (marks_in c.args.marks.now) (dataset_view c.args.dataset.now) (name_in c.args.joined.now) c.requires.dataset keeps files c.bytes.result.now _ _
    (c.bytes.ensures ∙ c.in-Ok.ensures.text) c.in-Ok-body_of.ensures.head (ap (λ ps. pieces_xdr ps files) c.in-Ok-body_of.ensures.pieces ∙ sent)

pub returns-in-Ok-body_of-clause-only_small : goal.returns-in-Ok-body_of-clause-only_small
returns-in-Ok-body_of-clause-only_small c = λ e.
    let short : length (dds (constrained (marks_in c.args.marks.now) (dataset_view c.args.dataset.now))) ≤ 16777216 = subst (λ t. length t ≤ 16777216) c.in-Ok.ensures.text c.in-Ok.ensures.short in
    small_head (joined_contents (members_in c.args.joined.now)) (marks_in c.args.marks.now) (dataset_view c.args.dataset.now) None (name_in c.args.joined.now, c.requires.dataset) short
    (subst (λ hs. first_large 1 (slots_counts (joined_contents (contents_of hs)) (marks_in c.args.marks.now) 1 (joined_slots (contents_of hs))) ≡ None) c.items.ensures (c.in-Ok-marked_pieces.ensures.ok refl))

pub returns-in-Ok-body_of-clause-asks : goal.returns-in-Ok-body_of-clause-asks
unfolding MayAsk
returns-in-Ok-body_of-clause-asks c = λ files have put asked may.
    let text : c.bytes.result.now ≡ dds (constrained (marks_in c.args.marks.now) (dataset_view c.args.dataset.now)) = c.bytes.ensures ∙ c.in-Ok.ensures.text in
    let front : length c.in-Ok-body_of.body.head ≡ length (dds (constrained (marks_in c.args.marks.now) (dataset_view c.args.dataset.now)) ++ codes "Data:\n") = ap length c.in-Ok-body_of.ensures.head ∙ ap (λ t. length (t ++ codes "Data:\n")) text in
    let at = length (dds (constrained (marks_in c.args.marks.now) (dataset_view c.args.dataset.now)) ++ codes "Data:\n") in
    let begun : HaveBegun c.in-Ok-marked_pieces.pieces files at put asked
    = subst (λ n. HaveBegun c.in-Ok-marked_pieces.pieces files n put asked) front (subst (λ ps. HaveBegun ps files (length c.in-Ok-body_of.body.head) put asked) c.in-Ok-body_of.ensures.pieces may) in
    subst (λ hs. HaveHeaders (contents_of hs) files → JoinedAsk (contents_of hs) (marks_in c.args.marks.now) files at put asked) c.items.ensures
    (λ own. c.in-Ok-marked_pieces.ensures.asks files own at put asked begun) have
