-- The values that have a type (DAP 2.0, base types).
use Rattle.dap_types.specs.declared.declarations.BaseType.{BaseType}
use Rattle.dap_types.specs.declared.values.Value.{Value}
use Rattle.dap_model.specs.Fits.{IsOf}

-- a value of some base type
abbrev pub IsTyped : Value → Type 0
IsTyped value = (base : BaseType) × IsOf base value
