use Rattle.std.proofs.Common.{◌∙◌, sym, ap, ◌∷◌, drop, suc, map}
use Rattle.httparse.specs.Spans.{header_bytes}
use Rattle.dap_http.specs.Fields.{values_of}
use Rattle.dap_http.proofs.FieldTests.{first-there}
use Rattle.dap_http.proofs.fields.first_value.Goals as goal

pub returns-then-is_named : goal.returns-then-is_named
returns-then-is_named c =
    let i = c.loop-field.field-index in
    let there = first-there (header_bytes c.args.bytes.now) c.args.name.now c.args.fields.now i _ c.loop-field-test.true c.loop-field.invariant (sym c.is_named.ensures ∙ c.if-is_named.true) in
    let others = values_of c.args.name.now (map (header_bytes c.args.bytes.now) (drop (suc i) c.args.fields.now)) in
    (others, there ∙ ap (λ v. v ∷ others) (sym c.of.ensures))
