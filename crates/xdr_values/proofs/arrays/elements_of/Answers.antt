use Rattle.std.proofs.Common.{◌∙◌, ap}
use Rattle.std.specs.Prelude.{min}
use Rattle.dap_types.specs.Model.{product}
use Rattle.xdr_decode.specs.inner.Taken.{sizes_of}
use Rattle.xdr_values.proofs.ArrayParts.{array_own, elements_at}
use Rattle.xdr_values.proofs.arrays.elements_of.Goals as goal

pub returns-clause-own : goal.returns-clause-own
returns-clause-own c = λ t rest st.
    let e = elements_at c.args.decl.now t c.args.bytes.now rest c.elements-count.result c.counts_width.result c.split.result.1.now c.behind-rest.result.now st
    (c.elements-count.ensures ∙ ap (λ ds. min (product (sizes_of ds)) 4294967296) c.items.ensures) c.counts_width.ensures c.split.ensures.rest c.behind-rest.ensures in
    array_own c.args.decl.now t rest c.elements-count.result c.split.result.1.now c.behind-rest.result.now c.split-2.result.0.now c.saturating_sub.result e c.saturating_sub.ensures c.split-2.ensures.own

pub returns-clause-rest : goal.returns-clause-rest
returns-clause-rest c = λ t rest st.
    let e = elements_at c.args.decl.now t c.args.bytes.now rest c.elements-count.result c.counts_width.result c.split.result.1.now c.behind-rest.result.now st
    (c.elements-count.ensures ∙ ap (λ ds. min (product (sizes_of ds)) 4294967296) c.items.ensures) c.counts_width.ensures c.split.ensures.rest c.behind-rest.ensures in
    c.behind_filler.ensures rest e.behind
