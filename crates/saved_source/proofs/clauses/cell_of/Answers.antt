use Rattle.std.proofs.Common.{◌∙◌, ap}
use Rattle.std.specs.Int.{w32}
use mir.Val.{of_z, to_z}
use Rattle.xdr_values.proofs.Values.{double_cell, signed_cell, single_cell, text_cell, unsigned_cell}
use Rattle.saved_source.proofs.clauses.cell_of.Goals as goal

pub returns-in-Int16 : goal.returns-in-Int16
returns-in-Int16 c = λ v is.
    signed_cell c.args.base c.in-Int16.is v c.args.own.now c.first_word-in-Int16.result c.from-in-Int16.result is c.first_word-in-Int16.ensures (c.from-in-Int16.ensures ∙ ap (λ s. to_z w32 (of_z w32 s)) c.cast_signed.ensures)

pub returns-in-UInt16 : goal.returns-in-UInt16
returns-in-UInt16 c = λ v is. unsigned_cell c.args.base c.in-UInt16.is v c.args.own.now c.first_word-in-UInt16.result c.from-in-UInt16.result is c.first_word-in-UInt16.ensures c.from-in-UInt16.ensures

pub returns-in-Float32 : goal.returns-in-Float32
returns-in-Float32 c = λ v is. single_cell c.args.base v c.args.own.now c.first_word-in-Float32.result c.in-Float32.is is c.first_word-in-Float32.ensures

pub returns-in-Float64 : goal.returns-in-Float64
returns-in-Float64 c = λ v is. double_cell c.args.base v c.args.own.now c.first_double.result c.in-Float64.is is c.first_double.ensures

pub returns-in-Text : goal.returns-in-Text
returns-in-Text c = λ v is. text_cell c.args.base v c.args.own.now c.text_of.result.now c.in-Text.is is c.text_of.ensures
