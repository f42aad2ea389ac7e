-- Tests that hold together.
use Rattle.std.proofs.Common.{Bool, true, false, ◌&&◌, ◌||◌, IsTrue, refl, ◌⊎◌, inl, inr}

pub and_parts : (a b : Bool) → IsTrue (a && b) → IsTrue a × IsTrue b
and_parts true true h = (refl, refl)
and_parts true false h = cc
and_parts false b h = cc

pub or_parts : (a b : Bool) → IsTrue (a || b) → IsTrue a ⊎ IsTrue b
or_parts true b h = inl refl
or_parts false b h = inr h
