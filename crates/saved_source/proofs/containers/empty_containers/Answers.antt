use Rattle.std.proofs.Common.{◌∙◌, ℕ, List, map, ap}
use Rattle.dap_types.specs.Names.{constraint_id}
use Rattle.das_text.proofs.Views.{view-Container}
use Rattle.das_text.specs.Model.{container, entries_of, no_entries}
use Rattle.das_text.specs.View.{entry_view}
use Rattle.das_text.specs.declared.entries.Entry.{Entry}
use Rattle.saved_source.proofs.NoContainers.{empty_more, empty_whole}
use Rattle.saved_source.proofs.containers.empty_containers.Goals as goal

pub loop-decl-preserved : goal.loop-decl-preserved
loop-decl-preserved c =
    empty_more c.loop-decl.containers c.push.new.self c.args.decls.now c.loop-decl.decl-index c.decl-item.result _ c.loop-decl-test.true c.decl-item.is c.in_ok-push.ensures.ok (view-Container c.in_ok-name.name c.new.result ∙ ap (λ (es : List Entry). container c.in_ok-name.name (entries_of (map entry_view es))) c.new.ensures ∙ ap (λ (n : List ℕ). container n no_entries) (c.in_ok-name.ensures ∙ ap constraint_id (c.bytes.ensures ∙ c.name.ensures))) c.loop-decl.invariant

pub returns : goal.returns
returns c = ap (λ es. record { containers = es }) (empty_whole c.loop-decl.containers c.args.decls.now c.loop-decl.decl-index c.loop-decl-test.false c.loop-decl.invariant)
