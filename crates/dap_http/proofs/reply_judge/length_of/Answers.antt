use Rattle.std.proofs.Common.{◌∙◌, sym, ap, cond, map, inl, inr}
use Rattle.std.specs.Str.Parse.{digits_value}
use Rattle.httparse.specs.Spans.{header_bytes}
use Rattle.reply_faults.specs.declared.bad.Bad.TheVariants as bad
use Rattle.dap_http.specs.declared.coding.Coding.TheVariants.{Length}
use Rattle.dap_http.proofs.FieldTests.{told-length}
use Rattle.dap_http.proofs.reply_judge.length_of.Goals as goal

pub returns-then-is_one_length : goal.returns-then-is_one_length
returns-then-is_one_length c =
    let (others, e) = c.in-Some.ensures in
    sym (told-length (map (header_bytes c.args.bytes.now) c.args.fields.now) c.in-Some.value.now others c.is_one_length.result e c.is_one_length.ensures
    ∙ ap (λ b. cond b (inr (Length (digits_value 10 c.in-Some.value.now))) (inl bad.BadHead)) c.if-is_one_length.true ∙ ap (λ n. inr (Length n)) (sym c.value_of.ensures.value))

pub returns-else-is_one_length : goal.returns-else-is_one_length
returns-else-is_one_length c =
    let (others, e) = c.in-Some.ensures in
    sym (told-length (map (header_bytes c.args.bytes.now) c.args.fields.now) c.in-Some.value.now others c.is_one_length.result e c.is_one_length.ensures
    ∙ ap (λ b. cond b (inr (Length (digits_value 10 c.in-Some.value.now))) (inl bad.BadHead)) c.if-is_one_length.false)
