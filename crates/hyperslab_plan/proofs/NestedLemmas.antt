-- What holds of each item of each part holds of each item.
use Rattle.std.proofs.Common.{List, [], ◌∷◌, All}
use Rattle.std.specs.List.{flat_map}
use Rattle.std.proofs.lemmas.List.Elements.{All-append, All-nil}
use Rattle.dap_model.proofs.Values.{all_first, all_rest}

pub All-whole : {X Z : Type 0} (P : Z → Type 0) (e : X → List Z) (xs : List X) → All (λ x. All P (e x)) xs → All P (flat_map e xs)
All-whole P e [] all = All-nil P
All-whole P e (x ∷ xs) all = All-append P (e x) (flat_map e xs) (all_first (λ x. All P (e x)) x xs all) (All-whole P e xs (all_rest (λ x. All P (e x)) x xs all))
