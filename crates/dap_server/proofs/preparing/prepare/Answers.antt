use Rattle.std.proofs.Common.{subst}
use Rattle.dap_outside.specs.Files.{IsBytes}
use Rattle.dap_server.proofs.JoinsMade.{join_accepted}
use Rattle.dap_server.proofs.LongestLists.{within_a_list}
use Rattle.dap_server.proofs.Making as making
use Rattle.dap_server.proofs.OneAnswer.{all_bytes}
use Rattle.dap_server.proofs.preparing.prepare.Goals as goal

pub returns-clause-only : goal.returns-clause-only
returns-clause-only g c =
    making.only _ _ c.answer_of.result (all_bytes _ (subst IsBytes c.bytes.ensures c.are_bytes.ensures)) c.answer_of.ensures.made.text c.answer_of.ensures.made.accepted c.answer_of.ensures.made.sends
    (join_accepted _ _ _ _ c.answer_of.result c.answer_of.ensures.made.joined) c.answer_of.ensures.made.refused

pub returns-clause-text : goal.returns-clause-text
returns-clause-text g c = c.answer_of.ensures.made.text

pub returns-clause-body : goal.returns-clause-body
returns-clause-body g c = c.answer_of.ensures.made.body

pub returns-clause-accepted : goal.returns-clause-accepted
returns-clause-accepted g c = c.answer_of.ensures.made.accepted

pub returns-clause-of_file : goal.returns-clause-of_file
returns-clause-of_file g c = c.answer_of.ensures.made.of_file

pub returns-clause-tells : goal.returns-clause-tells
returns-clause-tells g c = c.answer_of.ensures.made.tells

pub returns-clause-alone : goal.returns-clause-alone
returns-clause-alone g c = c.answer_of.ensures.made.alone

pub returns-clause-fits : goal.returns-clause-fits
returns-clause-fits g c = c.answer_of.ensures.made.fits

pub returns-clause-cost : goal.returns-clause-cost
returns-clause-cost g c = c.answer_of.ensures.made.cost

pub returns-clause-cost_at : goal.returns-clause-cost_at
returns-clause-cost_at g c = c.answer_of.ensures.made.cost_at

pub returns-clause-sends : goal.returns-clause-sends
returns-clause-sends g c = c.answer_of.ensures.made.sends

pub returns-clause-of_saved : goal.returns-clause-of_saved
returns-clause-of_saved g c = c.answer_of.ensures.made.of_saved

pub returns-clause-joined : goal.returns-clause-joined
returns-clause-joined g c = c.answer_of.ensures.made.joined

pub returns-clause-refused : goal.returns-clause-refused
returns-clause-refused g c = c.answer_of.ensures.made.refused

pub returns-clause-shelf_fault : goal.returns-clause-shelf_fault
returns-clause-shelf_fault g c = c.answer_of.ensures.made.shelf_fault

pub returns-clause-asked_lines : goal.returns-clause-asked_lines
returns-clause-asked_lines g c = c.answer_of.ensures.asked_lines

pub returns-clause-asked_before : goal.returns-clause-asked_before
returns-clause-asked_before g c = c.answer_of.ensures.asked_before

pub returns-clause-of_list : goal.returns-clause-of_list
returns-clause-of_list g c = c.answer_of.ensures.of_list

pub returns-clause-any_list : goal.returns-clause-any_list
returns-clause-any_list g c = λ form. within_a_list _ _ _ _ form c.answer_of.ensures.asked

pub returns-clause-before_bad : goal.returns-clause-before_bad
returns-clause-before_bad g c = c.answer_of.ensures.before_bad
