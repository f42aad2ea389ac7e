use Rattle.std.proofs.Common.{ap, ◌∙◌, ◌≡◌, sym, to_z, of_z, subst}
use Rattle.std.specs.Prelude.{pos}
use Rattle.std.specs.Int.{w64}
use Rattle.std.proofs.lemmas.Int.{to_z-of_z}
use Rattle.dap_model.specs.Fits.{IsOf}
use Rattle.dap_types.specs.declared.values.Value.TheVariants as values
use Rattle.csv_source.specs.Cells.{whole_of}
use Rattle.csv_source.proofs.CellFacts.{whole-cell}
use Rattle.csv_source.proofs.Wholes.{whole-found}
use Rattle.csv_source.proofs.table.lent.Goals as goal

pub returns-in_default : goal.returns-in_default
returns-in_default c =
    let (whole, value, fits) = whole-cell c.args.base c.args.field.now c.in_default.not-Float32 c.in_default.not-Float64 c.in_default.not-Text c.in_default.not-Url c.requires.cell in
    let found : c.unwrap_or-in_default.result ≡ whole_of c.args.field.now = c.unwrap_or-in_default.ensures ∙ whole-found c.args.base c.args.field.now c.whole.result (pos 0) whole c.whole.ensures in
    let kept : to_z w64 (of_z w64 c.unwrap_or-in_default.result) ≡ whole_of c.args.field.now = to_z-of_z w64 c.unwrap_or-in_default.result (record { sfits = c.unwrap_or-in_default.type_inv }) ∙ found in
    record {
      value = ap values.Whole kept ∙ sym value;
      fits = subst (λ z. IsOf c.args.base (values.Whole z)) (sym kept) fits;
    }
