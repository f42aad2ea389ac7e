-- What a refusal says of the text.
use Rattle.std.specs.Prelude.{ℕ, List, ⊤}
use Rattle.viable.specs.Prefix.{is_byte, IsFault}
use Rattle.constraint_parse.specs.Language.{IsTextOf}
use Rattle.constraint_parse.specs.declared.refusal.ParseRefusal.{ParseRefusal}
use Rattle.constraint_parse.specs.declared.refusal.ParseRefusal.TheVariants.{Syntax, Memory}

-- this holds of the place of a fault; nothing is said where memory is wanted
abbrev pub AtFault : (ℕ → Type 0) → ParseRefusal → Type 0
AtFault holds (Syntax place) = holds place
AtFault holds Memory = ⊤

-- the place is that of the fault in the language of trees, unless memory is wanted
abbrev pub Refuses : List ℕ → ParseRefusal → Type 0
Refuses text (Syntax place) = IsFault is_byte IsTextOf text place
Refuses text Memory = ⊤
