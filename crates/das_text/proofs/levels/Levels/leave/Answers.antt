use Rattle.das_text.proofs.OpenContainers.{left_view}
use Rattle.das_text.proofs.levels.Levels.leave.Goals as goal

pub returns-in_ok-push-in-Some : goal.returns-in_ok-push-in-Some
returns-in_ok-push-in-Some c = record {
  left = left_view c.args.self.now.outer.items c.pop.new.self.items c.in-Some.around c.args.self.now.inner c.replace-entries.new.dest c.replace-entries.result c.push.new.self c.in-Some.ensures.items c.replace-entries.ensures.value c.replace-entries.ensures.after c.in_ok-push-in-Some.ensures.ok;
}
