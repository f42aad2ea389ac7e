-- What a choice between two facts is, where it is known which way it goes.
use Rattle.std.proofs.Common.{◌≡◌, ◌⊎◌, Bool, true, false, MatchBool, inl, inr}

pub where_true : (b : Bool) (P Q : Type 0) → b ≡ true → P → MatchBool b P Q
where_true true P Q is p = p
where_true false P Q is p = cc is

pub where_false : (b : Bool) (P Q : Type 0) → b ≡ false → Q → MatchBool b P Q
where_false true P Q is q = cc is
where_false false P Q is q = q

-- what follows either way
pub either : {A B C : Type 0} → (A → C) → (B → C) → A ⊎ B → C
either f g (inl a) = f a
either f g (inr b) = g b
