use Rattle.std.proofs.Common.{ℕ, ◌≡◌, ◌*◌, ◌/◌, ◌∙◌, drop, length, min, ap, arith}
use Rattle.dap_model.specs.Laws.{element_width}
use Rattle.xdr_decode.proofs.Pushing.{front_bytes}
use Rattle.xdr_decode.proofs.Running.{any_begins, front_begins, not_short, whole_many}
use Rattle.xdr_decode.proofs.numbers.good_numbers.Goals as goal

pub returns-in-Int16-clause-begins : goal.returns-in-Int16-clause-begins
returns-in-Int16-clause-begins c = front_begins c.args.base c.good_words.result (4 * c.min-count.result) c.args.bytes.now c.good_words.ensures.begins

pub returns-in-UInt16-clause-begins : goal.returns-in-UInt16-clause-begins
returns-in-UInt16-clause-begins c = front_begins c.args.base c.good_words-in-UInt16.result (4 * c.min-count.result) c.args.bytes.now c.good_words-in-UInt16.ensures.begins

pub returns-in_default : goal.returns-in_default
returns-in_default c =
    let bytes = c.args.bytes.now in
    let n : ℕ = c.min-count.result in
    let is : n ≡ min c.args.most (length bytes / element_width c.args.base) = c.min-count.ensures ∙ ap (λ w. min c.args.most (length bytes / w)) c.element_width.ensures in
    record {
      begins = (
        drop (n * element_width c.args.base) bytes,
        any_begins c.args.base n bytes c.requires (not_short c.args.base c.in_default.not-Int16 c.in_default.not-UInt16) (front_bytes bytes (λ i lt. (c.type_inv.bytes i).fits)) (whole_many c.args.base n c.args.most (length bytes) is),
      );
      within = omega (arith, is);
    }
