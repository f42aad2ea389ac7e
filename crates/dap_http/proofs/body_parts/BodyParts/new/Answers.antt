use Rattle.std.proofs.Common.{◌∙◌, length}
use Rattle.std.proofs.lemmas.Slice.{between_from_start}
use Rattle.dap_http.proofs.InTime.{in-time-new}
use Rattle.dap_http.proofs.Parts.{follows-new}
use Rattle.dap_http.proofs.body_parts.BodyParts.new.Goals as goal

pub returns-clause-follows : goal.returns-clause-follows
returns-clause-follows c =
    follows-new _ _ c.new.ensures.stands (between_from_start c.in_ok-room_with.field-0.items (length c.args.first.now) ∙ c.in_ok-room_with.ensures.front)

pub returns-clause-in_time : goal.returns-clause-in_time
returns-clause-in_time c = in-time-new c.args.coding c.args.first.now c.requires
