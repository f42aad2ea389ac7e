use Rattle.std.proofs.Common.{◌-◌, ◌∙◌, length, take, drop, refl, sym, subst, arith}
use Rattle.xdr_decode.proofs.Running.{BeginsOne, begins_none, begins_push, short_few, word_begins}
use Rattle.xdr_decode.proofs.Texts.{part-rest}
use Rattle.xdr_decode.proofs.numbers.good_words.Goals as goal

pub loop-rest-init : goal.loop-rest-init
loop-rest-init c = record { begins = begins_none c.args.base c.args.bytes.now c.args.bytes.now refl; few = omega arith }

pub loop-rest-preserved : goal.loop-rest-preserved
loop-rest-preserved c =
    let rest = c.loop-rest.rest.now in
    let one = word_begins c.args.base c.word_of.result c.in-Some.field-0 rest c.requires c.word_of.type_inv c.word_of.ensures.bytes (sym c.whole.ensures ∙ c.in-Some.is) c.loop-rest-test.true in
    let begins = begins_push c.args.base c.loop-rest.count _ c.args.bytes.now rest (take (length rest - 4) (drop 4 rest)) refl c.loop-rest.invariant.begins (subst (BeginsOne c.args.base rest) (sym (part-rest 4 rest)) one) in
    record { begins = begins; few = short_few c.args.base _ c.args.bytes.now _ c.requires begins }

pub returns-in-None : goal.returns-in-None
returns-in-None c = record { begins = (c.loop-rest.rest.now, c.loop-rest.invariant.begins) }

pub returns : goal.returns
returns c = record { begins = (c.loop-rest.rest.now, c.loop-rest.invariant.begins) }
