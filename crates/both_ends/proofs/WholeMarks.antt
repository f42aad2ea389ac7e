-- A constraint without items marks all leaves of a dataset, each array whole.
use Rattle.std.proofs.Common.{◌≡◌, ℕ, suc, ◌+◌, ◌-◌, List, [], ◌∷◌, length, map, slice_get, Option, Some, None, option_map, true, leb, refl, ap, ◌∙◌, arith}
use Rattle.std.specs.Bool.{⊤}
use Rattle.std.specs.Option.{option_and_then}
use Rattle.std.proofs.lemmas.Bool.Decides.{nat_tests}
use Rattle.std.proofs.lemmas.Option.{slice_get-map, slice_get_within}
use Rattle.plain_lemmas.proofs.Lists.{front_get}
use Rattle.dap_types.specs.Model.{Member, scalar, array, structure, grid, sequence, Members, no_members, member, Dataset, count}
use Rattle.dap_types.specs.Preorder.{preorder, preorder_all}
use Rattle.dap_types.specs.declared.declarations.ArrayDecl.{ArrayDecl}
use Rattle.dap_types.specs.declared.declarations.Column.{Column}
use Rattle.dap_types.proofs.Preorder.{length-preorder}
use Rattle.dap_types.proofs.PreorderPlaces.{back_get}
use Rattle.dap_model.specs.Filter.{Marks, MarksAllWhole, MarksWhole, ScalarsMarked, WholeEach}
use Rattle.grid_projection.specs.Marks.{marks_of_items, placed, whole}

-- these members, the first of which has number n, are each marked whole
abbrev AreWhole : Marks → ℕ → List Member → Type 0
AreWhole marks n xs = (k j : ℕ) (x : Member) → j ≡ n + k → slice_get xs k ≡ Some x → marks j ≡ whole x

whole_each : (marks : Marks) (arrays : List ArrayDecl) (n : ℕ) → AreWhole marks n (map array arrays) → WholeEach marks n arrays
whole_each marks [] n each = tt
whole_each marks (a ∷ arrays) n each = (each 0 n (array a) (omega arith) refl, whole_each marks arrays (n + 1) (λ k j x at is. each (suc k) j x (omega arith) is))

scalars_marked : (marks : Marks) (columns : List Column) (n : ℕ) → AreWhole marks n (map scalar columns) → ScalarsMarked marks n (length columns)
scalars_marked marks [] n each = tt
scalars_marked marks (c ∷ columns) n each = (each 0 n (scalar c) (omega arith) refl, scalars_marked marks columns (n + 1) (λ k j x at is. each (suc k) j x (omega arith) is))

mutual
  whole_member : (marks : Marks) (m : Member) (n : ℕ) → AreWhole marks n (preorder m) → MarksWhole marks n m
  whole_member marks (scalar column) n each = each 0 n (scalar column) (omega arith) refl
  whole_member marks (array a) n each = each 0 n (array a) (omega arith) refl
  whole_member marks (structure name parts) n each = whole_all marks parts (n + 1) (λ k j x at is. each (suc k) j x (omega arith) is)
  whole_member marks (grid name a maps) n each = whole_each marks (a ∷ maps) (n + 1) (λ k j x at is. each (suc k) j x (omega arith) is)
  whole_member marks (sequence name columns) n each = scalars_marked marks columns (n + 1) (λ k j x at is. each (suc k) j x (omega arith) is)

  whole_all : (marks : Marks) (ms : Members) (n : ℕ) → AreWhole marks n (preorder_all ms) → MarksAllWhole marks n ms
  whole_all marks no_members n each = tt
  whole_all marks (member m ms) n each = (
    whole_member marks m n (λ k j x at is. each k j x at (front_get (preorder m) (preorder_all ms) k (slice_get_within (preorder m) k x is) ∙ is)),
    whole_all marks ms (n + count m) (λ k j x at is. each (length (preorder m) + k) j x (omega (arith, length-preorder m)) (back_get (preorder m) (preorder_all ms) k (length (preorder m) + k) refl ∙ is)),
  )

placed_whole : (xs : List Member) (k j : ℕ) (x : Member) → j ≡ 1 + k → slice_get xs k ≡ Some x → placed 1 (map whole xs) j ≡ whole x
placed_whole xs k j x at is =
    let there : leb 1 j ≡ true = grind (arith, nat_tests) in
    let here : j - 1 ≡ k = omega arith in
    let got : slice_get (map whole xs) k ≡ Some (whole x) = slice_get-map whole xs k ∙ ap (option_map whole) is in
    rw (there, here, got) refl

pub marks_whole : (d : Dataset) → MarksAllWhole (marks_of_items d []) 1 d.members
marks_whole d = whole_all (marks_of_items d []) d.members 1 (placed_whole (preorder_all d.members))
