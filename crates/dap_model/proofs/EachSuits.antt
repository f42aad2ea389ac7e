-- Marks that suit each member suit a dataset.
use Rattle.std.proofs.Common.{◌≡◌, ℕ, suc, ◌+◌, List, [], ◌∷◌, length, map, slice_get, Option, Some, None, refl, ◌∙◌, arith}
use Rattle.std.specs.Bool.{⊤}
use Rattle.std.specs.Option.{option_or}
use Rattle.std.proofs.lemmas.Option.{slice_get_within}
use Rattle.plain_lemmas.proofs.Lists.{front_get}
use Rattle.dap_types.specs.Model.{Member, scalar, array, structure, grid, sequence, Members, no_members, member, count}
use Rattle.dap_types.specs.Preorder.{preorder, preorder_all}
use Rattle.dap_types.specs.declared.slabs.Slab.{Slab}
use Rattle.dap_types.specs.declared.declarations.ArrayDecl.{ArrayDecl}
use Rattle.dap_types.proofs.Preorder.{length-preorder}
use Rattle.dap_types.proofs.PreorderPlaces.{back_get}
use Rattle.dap_model.specs.Filter.{Marks, Suits, SuitEach, SuitsMember, SuitsAll}

-- what one member is marked with suits it
abbrev pub SuitsAt : Option (List Slab) → Member → Type 0
SuitsAt o (scalar column) = ⊤
SuitsAt o (array a) = Suits o a
SuitsAt o (structure name parts) = ⊤
SuitsAt o (grid name a maps) = ⊤
SuitsAt o (sequence name columns) = ⊤

suits_each : (marks : Marks) (arrays : List ArrayDecl) (n : ℕ) → ((k j : ℕ) (x : Member) → j ≡ n + k → slice_get (map array arrays) k ≡ Some x → SuitsAt (marks j) x) → SuitEach marks n arrays
suits_each marks [] n each = tt
suits_each marks (a ∷ arrays) n each = (each 0 n (array a) (omega arith) refl, suits_each marks arrays (n + 1) (λ k j x at is. each (suc k) j x (omega arith) is))

mutual
  suits_member : (marks : Marks) (m : Member) (n : ℕ) → ((k j : ℕ) (x : Member) → j ≡ n + k → slice_get (preorder m) k ≡ Some x → SuitsAt (marks j) x) → SuitsMember marks n m
  suits_member marks (scalar column) n each = tt
  suits_member marks (array a) n each = each 0 n (array a) (omega arith) refl
  suits_member marks (structure name parts) n each = suits_all marks parts (n + 1) (λ k j x at is. each (suc k) j x (omega arith) is)
  suits_member marks (grid name a maps) n each = suits_each marks (a ∷ maps) (n + 1) (λ k j x at is. each (suc k) j x (omega arith) is)
  suits_member marks (sequence name columns) n each = tt

  pub suits_all : (marks : Marks) (ms : Members) (n : ℕ) → ((k j : ℕ) (x : Member) → j ≡ n + k → slice_get (preorder_all ms) k ≡ Some x → SuitsAt (marks j) x) → SuitsAll marks n ms
  suits_all marks no_members n each = tt
  suits_all marks (member m ms) n each = (
    suits_member marks m n (λ k j x at is. each k j x at (front_get (preorder m) (preorder_all ms) k (slice_get_within (preorder m) k x is) ∙ is)),
    suits_all marks ms (n + count m) (λ k j x at is. each (length (preorder m) + k) j x (omega (arith, length-preorder m)) (back_get (preorder m) (preorder_all ms) k (length (preorder m) + k) refl ∙ is)),
  )

pub suits_none : (x : Member) → SuitsAt None x
suits_none (scalar column) = tt
suits_none (array a) = tt
suits_none (structure name parts) = tt
suits_none (grid name a maps) = tt
suits_none (sequence name columns) = tt

pub suits_or : (o p : Option (List Slab)) (x : Member) → SuitsAt o x → SuitsAt p x → SuitsAt (option_or o p) x
suits_or None p x one two = two
suits_or (Some slabs) p x one two = one
