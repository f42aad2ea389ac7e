-- In what marks leave of a dataset each Structure and each Sequence has a variable, and it keeps them under the
-- names of a saved response.
use Rattle.std.proofs.Common.{◌≡◌, ℕ, ◌+◌, Bool, true, false, ◌||◌, List, [], ◌∷◌, length, map, Option, Some, None, is_some, refl, sym, ap, ◌∙◌, arith, subst, if◌then◌else◌}
use Rattle.std.specs.Prelude.{nat_lt}
use Rattle.std.specs.Option.{option_map_or}
use Rattle.std.proofs.lemmas.Bool.Decides.{nat_tests}
use Rattle.std.proofs.lemmas.List.{length-map}
use Rattle.std.proofs.lemmas.Bool.{and_from}
use Rattle.dap_types.specs.Model.{Member, scalar, array, structure, grid, sequence, Members, no_members, member, members_of, count}
use Rattle.dap_types.specs.declared.declarations.ArrayDecl.{ArrayDecl}
use Rattle.dap_types.specs.declared.slabs.Slab.{Slab}
use Rattle.dap_model.specs.Filter.{Marks, all_leaves_everywhere, any_has_leaf, any_has_mark, as_grid, counted, filtered, filtered_all, has_leaf, has_mark, leaves_everywhere, marked, one_marked, stays_grid, unchanged}
use Rattle.saved_source.specs.Responses.{renamed, renamed_all, renamed_array, renamed_column}

-- ---- leaves of a Grid or of a Sequence that are marked
some_or : {X : Type 0} (change : List Slab → X → X) (x : X) (rest : List X) (more : Bool) → (more ≡ true → nat_lt 0 (length rest) ≡ true) → (o : Option (List Slab)) → (is_some o || more) ≡ true
    → nat_lt 0 (length (option_map_or (λ slabs. change slabs x ∷ rest) o rest)) ≡ true
some_or change x rest more known None is = known is
some_or change x rest more known (Some slabs) is = grind (arith, nat_tests)

some_marked : {X : Type 0} (change : List Slab → X → X) (marks : Marks) (n : ℕ) (xs : List X) → one_marked marks n (length xs) ≡ true → nat_lt 0 (length (marked change marks n xs)) ≡ true
some_marked change marks n [] is = cc is
some_marked change marks n (x ∷ xs) is =
    some_or change x (marked change marks (n + 1) xs) (one_marked marks (n + 1) (length xs)) (λ more. some_marked change marks (n + 1) xs more) (marks n) is

grid_marked : (marks : Marks) (n : ℕ) (a : ArrayDecl) (maps : List ArrayDecl) → one_marked marks n (length maps + 1) ≡ true → nat_lt 0 (length (marked counted marks n (a ∷ maps))) ≡ true
grid_marked marks n a maps is =
    let same : length maps + 1 ≡ length (a ∷ maps) = omega arith in
    some_marked counted marks n (a ∷ maps) (subst (λ k. one_marked marks n k ≡ true) same is)

arrays_leaf : (parts : List ArrayDecl) → nat_lt 0 (length parts) ≡ true → any_has_leaf (members_of (map array parts)) ≡ true
arrays_leaf [] is = cc is
arrays_leaf (a ∷ parts) is = refl

arrays_everywhere : (parts : List ArrayDecl) → all_leaves_everywhere (members_of (map array parts)) ≡ true
arrays_everywhere [] = refl
arrays_everywhere (a ∷ parts) = arrays_everywhere parts

grid_leaf : (name : List ℕ) (parts : List ArrayDecl) (stays : Bool) → nat_lt 0 (length parts) ≡ true → has_leaf (if stays then as_grid name parts else structure name (members_of (map array parts))) ≡ true
grid_leaf name [] stays is = cc is
grid_leaf name (a ∷ parts) true is = refl
grid_leaf name (a ∷ parts) false is = refl

grid_everywhere : (name : List ℕ) (parts : List ArrayDecl) (stays : Bool) → nat_lt 0 (length parts) ≡ true
    → leaves_everywhere (if stays then as_grid name parts else structure name (members_of (map array parts))) ≡ true
grid_everywhere name [] stays is = cc is
grid_everywhere name (a ∷ parts) true is = refl
grid_everywhere name (a ∷ parts) false is = arrays_everywhere parts

-- ---- what is left

-- of a member, where it has a mark, and of the others
any_or : (own : Member) (rest : Members) (has more : Bool) → (has ≡ true → has_leaf own ≡ true) → (more ≡ true → any_has_leaf rest ≡ true) → (has || more) ≡ true → any_has_leaf (if has then member own rest else rest) ≡ true
any_or own rest true more one others is = rw (one refl) refl
any_or own rest false more one others is = others is

all_or : (own : Member) (rest : Members) (has : Bool) → (has ≡ true → leaves_everywhere own ≡ true) → all_leaves_everywhere rest ≡ true → all_leaves_everywhere (if has then member own rest else rest) ≡ true
all_or own rest true one others = and_from (leaves_everywhere own) (all_leaves_everywhere rest) (one refl) others
all_or own rest false one others = others

mutual
  leaf_left : (marks : Marks) (m : Member) (n : ℕ) → has_mark marks n m ≡ true → has_leaf (filtered marks n m) ≡ true
  leaf_left marks (scalar column) n is = refl
  leaf_left marks (array a) n is = refl
  leaf_left marks (structure name parts) n is = any_left marks parts (n + 1) is
  leaf_left marks (grid name a maps) n is = grid_leaf name (marked counted marks (n + 1) (a ∷ maps)) (stays_grid marks n) (grid_marked marks (n + 1) a maps is)
  leaf_left marks (sequence name columns) n is = some_marked unchanged marks (n + 1) columns is

  any_left : (marks : Marks) (ms : Members) (n : ℕ) → any_has_mark marks n ms ≡ true → any_has_leaf (filtered_all marks n ms) ≡ true
  any_left marks no_members n is = cc is
  any_left marks (member m ms) n is =
      any_or (filtered marks n m) (filtered_all marks (n + count m) ms) (has_mark marks n m) (any_has_mark marks (n + count m) ms) (λ has. leaf_left marks m n has) (λ more. any_left marks ms (n + count m) more) is

mutual
  everywhere_left : (marks : Marks) (m : Member) (n : ℕ) → has_mark marks n m ≡ true → leaves_everywhere (filtered marks n m) ≡ true
  everywhere_left marks (scalar column) n is = refl
  everywhere_left marks (array a) n is = refl
  everywhere_left marks (structure name parts) n is =
      and_from (any_has_leaf (filtered_all marks (n + 1) parts)) (all_leaves_everywhere (filtered_all marks (n + 1) parts)) (any_left marks parts (n + 1) is) (all_left marks parts (n + 1))
  everywhere_left marks (grid name a maps) n is = grid_everywhere name (marked counted marks (n + 1) (a ∷ maps)) (stays_grid marks n) (grid_marked marks (n + 1) a maps is)
  everywhere_left marks (sequence name columns) n is = some_marked unchanged marks (n + 1) columns is

  pub all_left : (marks : Marks) (ms : Members) (n : ℕ) → all_leaves_everywhere (filtered_all marks n ms) ≡ true
  all_left marks no_members n = refl
  all_left marks (member m ms) n =
      all_or (filtered marks n m) (filtered_all marks (n + count m) ms) (has_mark marks n m) (λ has. everywhere_left marks m n has) (all_left marks ms (n + count m))

-- ---- under other names
mutual
  leaf_renamed : (m : Member) → has_leaf (renamed m) ≡ has_leaf m
  leaf_renamed (scalar column) = refl
  leaf_renamed (array a) = refl
  leaf_renamed (structure name parts) = any_renamed parts
  leaf_renamed (grid name a maps) = refl
  leaf_renamed (sequence name columns) = ap (nat_lt 0) (length-map columns renamed_column)

  any_renamed : (ms : Members) → any_has_leaf (renamed_all ms) ≡ any_has_leaf ms
  any_renamed no_members = refl
  any_renamed (member m ms) = rw (leaf_renamed m, any_renamed ms) refl

mutual
  everywhere_renamed : (m : Member) → leaves_everywhere (renamed m) ≡ leaves_everywhere m
  everywhere_renamed (scalar column) = refl
  everywhere_renamed (array a) = refl
  everywhere_renamed (structure name parts) = rw (any_renamed parts, all_renamed parts) refl
  everywhere_renamed (grid name a maps) = refl
  everywhere_renamed (sequence name columns) = ap (nat_lt 0) (length-map columns renamed_column)

  pub all_renamed : (ms : Members) → all_leaves_everywhere (renamed_all ms) ≡ all_leaves_everywhere ms
  all_renamed no_members = refl
  all_renamed (member m ms) = rw (everywhere_renamed m, all_renamed ms) refl
