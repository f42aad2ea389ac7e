use Rattle.std.proofs.Common.{arith, sym, ◌≡◌, ◌+◌, length, length-append}
use Rattle.csv_source.proofs.KeptFields.{ends-push, fields-push}
use Rattle.csv_source.proofs.fields.Fields.push.Goals as goal

pub returns-clause-fields : goal.returns-clause-fields
returns-clause-fields c =
    let whole = c.in_ok-extend_from_slice.ensures.items in
    let more = c.in_ok-push.ensures.items in
    let long : c.len.result ≡ length c.args.self.now.text.items + length c.args.field.now =
    omega (arith, c.len.ensures, c.in_ok-extend_from_slice.ensures.len) in
    rw (more, whole) (fields-push 0 c.args.self.now.ends.items c.args.self.now.text.items c.args.field.now c.len.result c.requires.are_ends long)

pub returns-clause-are_ends : goal.returns-clause-are_ends
returns-clause-are_ends c =
    let whole = c.in_ok-extend_from_slice.ensures.items in
    let more = c.in_ok-push.ensures.items in
    let long : c.len.result ≡ length c.args.self.now.text.items + length c.args.field.now =
    omega (arith, c.len.ensures, c.in_ok-extend_from_slice.ensures.len) in
    rw (more, whole, length-append c.args.self.now.text.items c.args.field.now, sym long)
    (ends-push 0 c.args.self.now.ends.items (length c.args.self.now.text.items) c.len.result c.requires.are_ends (omega (arith, long)))
