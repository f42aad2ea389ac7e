use Rattle.std.proofs.Common.{List, sym, ap, subst, ◌∙◌, map}
use Rattle.dap_types.specs.Model.{Member, name_of}
use Rattle.dap_types.specs.NameSet.{HasAlso}
use Rattle.dap_types.specs.View.{member_view}
use Rattle.dap_types.proofs.Views.{members-push}
use Rattle.dds_text.specs.inner.Held.{NamesAre}
use Rattle.dds_text.specs.inner.States.{is_name_of}
use Rattle.dds_text.proofs.Named.{member_named}
use Rattle.dds_text.proofs.level.Level.add.Goals as goal

pub returns-clause-names : goal.returns-clause-names
returns-clause-names c = λ have.
    let names = c.args.self.now.names in
    let more = c.insert.new.self in
    let also : HasAlso names (name_of (member_view c.args.member)) more = subst (λ n. HasAlso names n more) c.name.ensures c.in_ok-insert.ensures.names in
    let Q : List Member → Type 0 = λ ms. NamesAre more (is_name_of ms) in
    subst Q (sym (ap (map member_view) c.in_ok-push.ensures ∙ members-push c.args.self.now.members c.args.member)) (member_named names more (map member_view c.args.self.now.members) (member_view c.args.member) also have)
