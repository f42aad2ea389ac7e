-- What a value of some type is.
use Rattle.std.proofs.Common.{◌≡◌, ℕ, ◌<◌, ◌^◌, ℤ, pos, neg_ℤ, List, length, Some, slice_get, get_or, []}
use Rattle.std.specs.Prelude.{◌≤ℤ◌, ◌<ℤ◌}
use Rattle.std.proofs.lemmas.Option.{slice_get-get_or}
use Rattle.dap_model.proofs.Values.{text_short, whole_high, whole_low}
use Rattle.dap_model.specs.Fits.{IsOf}
use Rattle.dap_types.specs.declared.declarations.BaseType.TheVariants.{Byte}
use Rattle.dap_types.specs.declared.declarations.Column.{Column}
use Rattle.dap_types.specs.declared.values.Value.{Value}
use Rattle.dap_types.specs.declared.values.Value.TheVariants as values
use Rattle.xdr_encode.specs.Typed.{IsTyped}

pub typed_low : (z : ℤ) → IsTyped (values.Whole z) → neg_ℤ (pos (2 ^ 31)) ≤ℤ z
typed_low z is = whole_low is.0 z is.1

pub typed_high : (z : ℤ) → IsTyped (values.Whole z) → z <ℤ pos (2 ^ 32)
typed_high z is = whole_high is.0 z is.1

pub typed_short : (text : List ℕ) → IsTyped (values.Text text) → length text < 2 ^ 31
typed_short text is = text_short is.0 text is.1

-- a value of the column at a place
pub typed_at : (columns : List Column) (n : ℕ) (v : Value) → n < length columns → ((c : Column) → slice_get columns n ≡ Some c → IsOf c.base v) → IsTyped v
typed_at columns n v lt is =
    let c : Column = get_or columns n (record { name = []; base = Byte }) in
    (c.base, is c (slice_get-get_or columns n (record { name = []; base = Byte }) lt))
