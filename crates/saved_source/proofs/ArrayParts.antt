-- Arrays in the bytes of a response: their counts, their elements and what fills them up.
use Rattle.std.proofs.Common.{◌≡◌, ℕ, ◌*◌, ◌≤◌, List, [], ◌∷◌, length, map, refl, ap, ◌∙◌, arith}
use Rattle.std.specs.List.{zip}
use Rattle.std.proofs.lemmas.Nat.{mul-le}
use Rattle.dap_model.proofs.Counts.{few_picked}
use Rattle.dap_types.specs.Model.{Tree, product, sizes}
use Rattle.dap_types.specs.declared.declarations.ArrayDecl.{ArrayDecl}
use Rattle.dap_types.specs.declared.slabs.Slab.{Slab}
use Rattle.dap_types.specs.declared.declarations.Dim.{Dim}
use Rattle.dap_model.proofs.Filtering.{length-values_in-cut}
use Rattle.dap_model.specs.Cutting.{AreWithin, cut}
use Rattle.dap_model.specs.Fits.{FitsArray, values_in}
use Rattle.hyperslab_plan.specs.Picked.{count_of}

-- ---- how many elements hyperslabs pick
pub count_few : (slabs : List Slab) (ns : List ℕ) → AreWithin slabs ns → count_of slabs ≤ product ns
count_few [] [] w = omega arith
count_few [] (n ∷ ns) w = absurd w
count_few (s ∷ slabs) [] w = absurd w
count_few (s ∷ slabs) (n ∷ ns) w = mul-le s.count (count_of slabs) n (product ns) (few_picked s n w.0) (count_few slabs ns w.1)

pub counts_product : (dims : List Dim) (slabs : List Slab) → AreWithin slabs (map (λ dim. dim.size) dims) → product (map (λ d. d.size) (map (λ (p : Dim × Slab). record p.0 { size = p.1.count }) (zip dims slabs))) ≡ count_of slabs
counts_product [] [] w = refl
counts_product [] (s ∷ slabs) w = absurd w
counts_product (d ∷ dims) [] w = absurd w
counts_product (d ∷ dims) (s ∷ slabs) w = ap (λ n. s.count * n) (counts_product dims slabs w.1)

pub cut_long : (a : ArrayDecl) (slabs : List Slab) (t : Tree) → AreWithin slabs (sizes a) → FitsArray a.base (sizes a) t → length (values_in (cut slabs t)) ≡ count_of slabs
cut_long a slabs t w fit = length-values_in-cut a slabs t w fit ∙ counts_product a.dims slabs w
