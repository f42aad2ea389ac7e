use Rattle.std.proofs.Common.{◌++◌}
use Rattle.dap_types.specs.View.{members_view}
use Rattle.dap_outside.proofs.Passing.{front_as, front_first, puts_as, puts_failed, puts_two}
use Rattle.xdr_decode.proofs.Paths.{says_all}
use Rattle.xdr_decode.specs.inner.Lines.{path_text, token_text}
use Rattle.xdr_fields.specs.Wants.{says}
use Rattle.xdr_decode.proofs.next_field.put_element.Goals as goal

pub returns-in_err-put_path-clause-puts : goal.returns-in_err-put_path-clause-puts
returns-in_err-put_path-clause-puts g c = λ ask w ws f placed first el asks goes is.
    let ms = members_view c.args.decls.now in
    let p = c.args.place.now in
    puts_failed c.from_residual.result _ _ _ _ _ c.from_residual.ensures.0
    (front_as _ _ _ (path_text ms p.path.items p.stage ++ token_text c.args.token) (says w f) (says_all ms p ask w ws f c.args.token placed first el asks goes is)
    (front_first _ _ _ (path_text ms p.path.items p.stage) (token_text c.args.token) (rw (c.path.ensures, c.stage.ensures) at c.in_err-put_path.ensures.puts)))

pub returns-clause-puts : goal.returns-clause-puts
returns-clause-puts g c = λ ask w ws f placed first el asks goes is.
    let ms = members_view c.args.decls.now in
    let p = c.args.place.now in
    puts_as c.put_value.result _ _ _ _ (path_text ms p.path.items p.stage ++ token_text c.args.token) (says w f) (says_all ms p ask w ws f c.args.token placed first el asks goes is)
    (puts_two c.put_value.result _ _ _ _ _ _ (path_text ms p.path.items p.stage) (token_text c.args.token) (rw (c.path.ensures, c.stage.ensures) at c.in_ok-put_path.ensures.puts) c.put_value.ensures.puts)
