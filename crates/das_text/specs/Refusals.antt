-- What a refusal says of a text.
use Rattle.std.specs.Prelude.{ℕ, ⊤}
use Rattle.das_text.specs.declared.refusal.DasRefusal.{DasRefusal}
use Rattle.das_text.specs.declared.refusal.DasRefusal.TheVariants.{Bad, Trailing, Cut}

-- this holds of the place, where the text is bad at one
abbrev pub WhereBad : (ℕ → Type 0) → DasRefusal → Type 0
WhereBad holds (Bad place) = holds place
WhereBad holds refusal = ⊤

-- this holds of the place, where something comes behind a DAS at one
abbrev pub WhereTrailing : (ℕ → Type 0) → DasRefusal → Type 0
WhereTrailing holds (Trailing place) = holds place
WhereTrailing holds refusal = ⊤

-- this holds where the text is cut
abbrev pub WhereCut : Type 0 → DasRefusal → Type 0
WhereCut holds Cut = holds
WhereCut holds refusal = ⊤
