use Rattle.std.proofs.Common.{◌≡◌, ◌-◌, ◌∙◌, ◌++◌, length, take, ap, subst, arith}
use Rattle.std.proofs.Math.Seq.{take-length}
use Rattle.std.proofs.lemmas.List.{length-take}
use Rattle.std.specs.List.{flat_map}
use Rattle.dap_model.specs.Shown.{shown_byte}
use Rattle.xdr_decode.proofs.Looking.{quiet}
use Rattle.xdr_decode.proofs.Turning.{string_reads, string_some, text_cut}
use Rattle.xdr_decode.proofs.decoder.Decoder.look_string.Goals as goal
use Rattle.xdr_decode.specs.After.{Reads, dataset_of}
use Rattle.xdr_decode.specs.inner.Places.{text_behind}

pub returns-then-count-left-clause-looks : goal.returns-then-count-left-clause-looks
returns-then-count-left-clause-looks c = λ bytes put size s is small.
    let n = c.min-count.result in
    let rest = c.args.rest.now in
    let q = c.skip.new.self in
    let text' = c.skip.ensures.text ∙ ap (text_behind n) is ∙ text_cut n c.args.left size c.if-count-left.true in
    let long : length (take n rest) ≡ n = omega (arith, length-take n rest, c.min-count.ensures) in
    let st = c.skip.ensures.stays bytes put (take n rest) c.args.left size s is long (omega (arith, c.min-count.ensures)) (omega (arith, small, c.min-count.ensures)) in
    let all : n ≡ length rest = omega (arith, c.min-count.ensures, c.if-count-left.true) in
    let whole : take n rest ≡ rest = ap (λ k. take k rest) all ∙ take-length rest in
    let read = string_reads q (bytes ++ take n rest) (put ++ flat_map shown_byte (take n rest)) (c.args.left - n) size st text' (omega (arith, c.if-count-left.true)) (omega (arith, c.skip.ensures.place, small, c.min-count.ensures)) in
    record {
      gained = flat_map shown_byte (take n rest);
      is_left = (subst (λ l. Reads q (bytes ++ l) (put ++ flat_map shown_byte (take n rest))) whole read, string_some (dataset_of q).members q.place (c.args.left - n) size text');
      puts = quiet (flat_map shown_byte (take n rest));
    }

pub returns-clause-looks : goal.returns-clause-looks
returns-clause-looks c = λ bytes put size s is small.
    let n = c.min-count.result in
    let rest = c.args.rest.now in
    let long : length (take n rest) ≡ n = omega (arith, length-take n rest, c.min-count.ensures) in
    record {
      gained = flat_map shown_byte (take n rest);
      is_left = (omega (arith, c.min-count.ensures), c.skip.ensures.stays bytes put (take n rest) c.args.left size s is long (omega (arith, c.min-count.ensures)) (omega (arith, small, c.min-count.ensures)));
      puts = quiet (flat_map shown_byte (take n rest));
    }
