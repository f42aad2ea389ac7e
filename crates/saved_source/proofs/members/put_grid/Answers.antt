use Rattle.std.proofs.Common.{◌≡◌, ◌+◌, subst, sym}
use Rattle.dap_model.specs.Xdr.{bytes_of}
use Rattle.dap_outside.proofs.Passing.{front_as, front_first, puts_as, puts_failed, puts_two}
use Rattle.grid_projection.specs.Resolved.{marks_in}
use Rattle.xdr_encode.specs.Marked.{arrays_sent}
use Rattle.saved_source.proofs.Grids.{array_first}
use Rattle.saved_source.specs.Walked.{StandArrays, array_sent}
use Rattle.saved_source.proofs.members.put_grid.Goals as goal

pub returns-in_err-rest-clause-puts : goal.returns-in_err-rest-clause-puts
returns-in_err-rest-clause-puts g c = λ ts rest st.
    let marks = marks_in c.args.marks.now in
    let f = array_first marks c.args.first c.args.own.now c.args.maps.now ts c.args.bytes.now rest st in
    puts_failed c.from_residual.result _ _ _ _ _ c.from_residual.ensures.0
    (front_as _ _ _ _ _ (sym f.sent)
    (front_first _ _ _ (bytes_of (array_sent marks c.args.first c.args.own.now f.tree)) (bytes_of (arrays_sent marks (c.args.first + 1) c.args.maps.now f.others)) (c.in_err-rest.ensures.puts f.tree f.mid f.first f.suits)))

pub returns-clause-puts : goal.returns-clause-puts
returns-clause-puts g c = λ ts rest st.
    let marks = marks_in c.args.marks.now in
    let f = array_first marks c.args.first c.args.own.now c.args.maps.now ts c.args.bytes.now rest st in
    let same : c.in_ok-rest.rest.now ≡ f.mid = c.in_ok-rest.ensures.rest f.tree f.mid f.first in
    puts_as c.put_arrays.result _ _ _ _ _ _ (sym f.sent)
    (puts_two c.put_arrays.result _ _ _ _ _ _ (bytes_of (array_sent marks c.args.first c.args.own.now f.tree)) (bytes_of (arrays_sent marks (c.args.first + 1) c.args.maps.now f.others)) (c.in_ok-rest.ensures.puts f.tree f.mid f.first f.suits)
    (c.put_arrays.ensures.puts f.others rest (subst (λ l. StandArrays marks (c.args.first + 1) c.args.maps.now f.others l rest) (sym same) f.behind)))

pub returns-clause-rest : goal.returns-clause-rest
returns-clause-rest g c = λ ts rest st.
    let marks = marks_in c.args.marks.now in
    let f = array_first marks c.args.first c.args.own.now c.args.maps.now ts c.args.bytes.now rest st in
    let same : c.in_ok-rest.rest.now ≡ f.mid = c.in_ok-rest.ensures.rest f.tree f.mid f.first in
    c.put_arrays.ensures.rest f.others rest (subst (λ l. StandArrays marks (c.args.first + 1) c.args.maps.now f.others l rest) (sym same) f.behind)
