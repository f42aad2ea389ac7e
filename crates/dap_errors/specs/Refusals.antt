-- What a refusal says of a text.
use Rattle.std.specs.Prelude.{ℕ, ⊤}
use Rattle.dap_errors.specs.declared.object.ErrorRefusal.{ErrorRefusal}
use Rattle.dap_errors.specs.declared.object.ErrorRefusal.TheVariants.{Bad, Cut, Memory}

-- this holds of the place, where the text is bad at one
abbrev pub WhereBad : (ℕ → Type 0) → ErrorRefusal → Type 0
WhereBad holds (Bad place) = holds place
WhereBad holds Cut = ⊤
WhereBad holds Memory = ⊤

-- this holds where the text is cut
abbrev pub WhereCut : Type 0 → ErrorRefusal → Type 0
WhereCut holds (Bad place) = ⊤
WhereCut holds Cut = holds
WhereCut holds Memory = ⊤
