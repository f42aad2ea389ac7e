use Rattle.std.proofs.Common.{◌+◌, ◌*◌, ◌/◌, ◌%◌, arith, sym, ap, ◌∙◌, take, drop}
use Rattle.hyperslab_plan.proofs.FetchedLemmas.{fetched}
use Rattle.hyperslab_plan.proofs.MadeLemmas.{place-made}
use Rattle.hyperslab_plan.proofs.RunLemmas.{held, place-short, place-in_raw}
use Rattle.hyperslab_plan.proofs.plan.Plan.place.Goals as goal

pub overflow_mul-at-2 : goal.overflow_mul-at-2
overflow_mul-at-2 c = omega (arith, place-made c.args.self.now c.args.j, place-short c.args.self.now c.args.batch.now c.args.j c.requires.batch c.requires.element, ap (λ x. x % c.args.self.now.shape.per_row * c.args.self.now.shape.jump) c.from-element.ensures)

pub overflow_add-at : goal.overflow_add-at
overflow_add-at c = omega (arith, place-made c.args.self.now c.args.j, place-short c.args.self.now c.args.batch.now c.args.j c.requires.batch c.requires.element, ap (λ x. x / c.args.self.now.shape.per_row * c.args.self.now.row_len + x % c.args.self.now.shape.per_row * c.args.self.now.shape.jump) c.from-element.ensures)

pub overflow_cast-result : goal.overflow_cast-result
overflow_cast-result c = omega (arith, place-made c.args.self.now c.args.j, place-short c.args.self.now c.args.batch.now c.args.j c.requires.batch c.requires.element, ap (λ x. x / c.args.self.now.shape.per_row * c.args.self.now.row_len + x % c.args.self.now.shape.per_row * c.args.self.now.shape.jump) c.from-element.ensures)

pub returns-clause-is_place : goal.returns-clause-is_place
returns-clause-is_place c = ap (λ x. x / c.args.self.now.shape.per_row * c.args.self.now.row_len + x % c.args.self.now.shape.per_row * c.args.self.now.shape.jump) c.from-element.ensures ∙ sym (place-made c.args.self.now c.args.j)

pub returns-clause-held : goal.returns-clause-held
returns-clause-held c = held c.args.self.now c.args.batch.now c.args.j c.requires.batch c.requires.element

pub returns-clause-bytes : goal.returns-clause-bytes
returns-clause-bytes c file raw got =
    ap (λ x. take c.args.self.now.size (drop x raw)) (returns-clause-is_place c) ∙ fetched c.args.self.now c.args.batch.now c.args.j file raw c.requires.batch c.requires.element got

pub returns-clause-inside : goal.returns-clause-inside
returns-clause-inside c = omega (arith, returns-clause-is_place c, place-in_raw c.args.self.now c.args.batch.now c.args.j c.requires.batch c.requires.element)
