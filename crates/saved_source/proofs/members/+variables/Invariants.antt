use Rattle.std.proofs.Common.{◌≡◌, ◌+◌, ℕ, List, drop}
use Rattle.dap_types.specs.Model.{Tree, count_all}
use Rattle.dap_types.specs.View.{members_view}
use Rattle.dap_model.specs.Rows.{kept}
use Rattle.dap_model.specs.Xdr.{bytes_of}
use Rattle.grid_projection.specs.Resolved.{marks_in}
use Rattle.sequence_select.specs.Tests.{tested}
use Rattle.saved_source.proofs.Walking.{MembersWay}
use Rattle.saved_source.specs.Walked.{StandMembers}
use Rattle.xdr_encode.specs.Marked.{members_sent}
use Rattle.saved_source.proofs.members.+variables.Given as goal

abbrev pub invariant-put_members-loop-decl : goal.invariant-put_members-loop-decl
invariant-put_members-loop-decl g l =
    let sink = g.O.Sink in
    record {
      counted : l.number + count_all (members_view (drop l.decl-index l.decls)) ≡ l.first + count_all (members_view l.decls);
      way : (ts : List Tree) (rest : List ℕ) → StandMembers (marks_in l.marks) l.first (members_view l.decls) ts l.bytes rest →
          MembersWay (sink.written l.fn.out) l.fn.buffer.bytes.items (sink.written l.out) l.buffer.bytes.items (marks_in l.marks) (kept (tested l.tests)) l.number (members_view (drop l.decl-index l.decls)) l.rest rest
          (bytes_of (members_sent (marks_in l.marks) (kept (tested l.tests)) l.first (members_view l.decls) ts));
      count : sink.put_faults l.out ≡ sink.put_faults l.fn.out;
      beside : sink.beside_writing l.out ≡ sink.beside_writing l.fn.out;
    }
