use Rattle.std.proofs.Common.{[], ◌++◌, subst, sym}
use Rattle.dap_model.specs.Cutting.{cut}
use Rattle.dap_model.specs.Fits.{values_in}
use Rattle.xdr_decode.specs.inner.Taken.{sizes_of}
use Rattle.saved_source.specs.Walked.{StandsNested}
use Rattle.dap_outside.proofs.Passing.{front_as, front_first, front_second, puts_as, puts_failed, puts_two}
use Rattle.xdr_encode.specs.Leaves.{counts_of, filler_of}
use Rattle.xdr_values.proofs.ElementRuns.{run}
use Rattle.saved_source.proofs.Putting.{nested_stands, picked_long, picked_parts}
use Rattle.saved_source.proofs.arrays.put_array.Goals as goal

pub returns-in_err-put_counts-clause-puts : goal.returns-in_err-put_counts-clause-puts
returns-in_err-put_counts-clause-puts g c = λ t rest st within.
    let a = c.args.decl.now in
    let count = c.picked_count-count.result in
    let vs = values_in (cut c.args.slabs.now t) in
    let long = picked_long a c.args.slabs.now t c.args.bytes.now rest count st within c.picked_count-count.ensures in
    puts_failed c.from_residual.result _ _ _ _ _ c.from_residual.ensures.0
    (front_as _ _ _ _ _ (sym (picked_parts a.base vs count long)) (front_first _ _ _ (counts_of a.base count) (run a.base vs ++ filler_of a.base count) c.in_err-put_counts.ensures.puts))

pub returns-in_err-put_picked-clause-puts : goal.returns-in_err-put_picked-clause-puts
returns-in_err-put_picked-clause-puts g c = λ t rest st within.
    let a = c.args.decl.now in
    let count = c.picked_count-count.result in
    let vs = values_in (cut c.args.slabs.now t) in
    let long = picked_long a c.args.slabs.now t c.args.bytes.now rest count st within c.picked_count-count.ensures in
    let stands = subst (λ ds. StandsNested a.base (sizes_of ds) c.args.slabs.now t c.elements_of.result.0.now []) (sym c.items.ensures)
    (nested_stands a c.args.slabs.now t c.args.bytes.now rest c.elements_of.result.0.now st within (c.elements_of.ensures.own t rest st)) in
    puts_failed c.from_residual-in_err-put_picked.result _ _ _ _ _ c.from_residual-in_err-put_picked.ensures.0
    (front_as _ _ _ _ _ (sym (picked_parts a.base vs count long))
    (front_second _ _ _ _ _ (counts_of a.base count) (run a.base vs ++ filler_of a.base count) c.in_ok-put_counts.ensures.puts
    (front_first _ _ _ (run a.base vs) (filler_of a.base count) (c.in_err-put_picked.ensures.puts t _ stands long))))

pub returns-clause-puts : goal.returns-clause-puts
returns-clause-puts g c = λ t rest st within.
    let a = c.args.decl.now in
    let count = c.picked_count-count.result in
    let vs = values_in (cut c.args.slabs.now t) in
    let long = picked_long a c.args.slabs.now t c.args.bytes.now rest count st within c.picked_count-count.ensures in
    let stands = subst (λ ds. StandsNested a.base (sizes_of ds) c.args.slabs.now t c.elements_of.result.0.now []) (sym c.items.ensures)
    (nested_stands a c.args.slabs.now t c.args.bytes.now rest c.elements_of.result.0.now st within (c.elements_of.ensures.own t rest st)) in
    puts_as c.put_filler.result _ _ _ _ _ _ (sym (picked_parts a.base vs count long))
    (puts_two c.put_filler.result _ _ _ _ _ _ (counts_of a.base count) (run a.base vs ++ filler_of a.base count) c.in_ok-put_counts.ensures.puts
    (puts_two c.put_filler.result _ _ _ _ _ _ (run a.base vs) (filler_of a.base count) (c.in_ok-put_picked.ensures.puts t _ stands long) c.put_filler.ensures.puts))
