-- New names change neither sizes nor values.
use Rattle.std.proofs.Common.{◌≡◌, ℕ, ◌+◌, cond, List, [], ◌∷◌, ◌++◌, length, map, filter, Option, Some, None, refl, sym, ap, ◌∙◌, subst}
use Rattle.std.specs.List.{flat_map}
use Rattle.std.specs.Option.{option_map_or}
use Rattle.std.proofs.lemmas.List.{length-map}
use Rattle.dap_types.specs.Model.{Member, scalar, array, structure, grid, sequence, Members, no_members, member, Tree, kids, count, count_all}
use Rattle.dap_types.specs.declared.declarations.ArrayDecl.{ArrayDecl}
use Rattle.dap_types.specs.declared.declarations.Column.{Column}
use Rattle.dap_types.specs.declared.slabs.Slab.{Slab}
use Rattle.dap_types.specs.Names.{constraint_id}
use Rattle.dap_model.specs.Filter.{Marks, Keeps, cut, marked, unchanged, one_marked, SuitsMember, Suits, SuitsAll, SuitEach}
use Rattle.dap_model.specs.Fits.{values_in}
use Rattle.dap_model.specs.Xdr.{array_fields, cell_fields, mark, scalar_fields}
use Rattle.xdr_encode.specs.Marked.{arrays_sent, member_sent, members_sent}
use Rattle.saved_source.proofs.Walking.{structure_sent, sequence_sent}
use Rattle.saved_source.specs.Responses.{renamed, renamed_all, renamed_array, renamed_column}
use Rattle.saved_source.specs.Walked.{row_sent, rows_sent}

-- ---- numbers
mutual
  pub same_count : (m : Member) → count (renamed m) ≡ count m
  same_count (scalar c) = refl
  same_count (array a) = refl
  same_count (structure name parts) = ap (λ n. n + 1) (same_counts parts)
  same_count (grid name a maps) = ap (λ n. n + 2) (length-map maps renamed_array)
  same_count (sequence name columns) = ap (λ n. n + 1) (length-map columns renamed_column)

  pub same_counts : (ms : Members) → count_all (renamed_all ms) ≡ count_all ms
  same_counts no_members = refl
  same_counts (member m ms) = ap (λ n. n + count_all (renamed_all ms)) (same_count m) ∙ ap (λ n. count m + n) (same_counts ms)

-- ---- marks that suit them
each_suits : (marks : Marks) (n : ℕ) (arrays : List ArrayDecl) → SuitEach marks n (map renamed_array arrays) → SuitEach marks n arrays
each_suits marks n [] s = tt
each_suits marks n (a ∷ arrays) s = (go (marks n) s.0, each_suits marks (n + 1) arrays s.1)
  where
    go : (o : Option (List Slab)) → Suits o (renamed_array a) → Suits o a
    go None s = tt
    go (Some slabs) s = s

mutual
  suits_too : (marks : Marks) (n : ℕ) (m : Member) → SuitsMember marks n (renamed m) → SuitsMember marks n m
  suits_too marks n (scalar c) s = tt
  suits_too marks n (array a) s = (each_suits marks n (a ∷ []) (s, tt)).0
  suits_too marks n (structure name parts) s = all_suit marks (n + 1) parts s
  suits_too marks n (grid name a maps) s = each_suits marks (n + 1) (a ∷ maps) s
  suits_too marks n (sequence name columns) s = tt

  pub all_suit : (marks : Marks) (n : ℕ) (ms : Members) → SuitsAll marks n (renamed_all ms) → SuitsAll marks n ms
  all_suit marks n no_members s = tt
  all_suit marks n (member m ms) s = (suits_too marks n m s.0, all_suit marks (n + count m) ms (subst (λ k. SuitsAll marks (n + k) (renamed_all ms)) (same_count m) s.1))

-- ---- what goes out of them
arrays_same : (marks : Marks) (n : ℕ) (arrays : List ArrayDecl) (ts : List Tree) → arrays_sent marks n (map renamed_array arrays) ts ≡ arrays_sent marks n arrays ts
arrays_same marks n [] ts = refl
arrays_same marks n (a ∷ arrays) [] = refl
arrays_same marks n (a ∷ arrays) (t ∷ ts) = ap (λ fs. option_map_or (λ slabs. array_fields a.base (values_in (cut slabs t))) (marks n) [] ++ fs) (arrays_same marks (n + 1) arrays ts)

cells_same : (marks : Marks) (n : ℕ) (columns : List Column) (cells : List Tree) → cell_fields (marked unchanged marks n (map renamed_column columns)) cells ≡ cell_fields (marked unchanged marks n columns) cells
cells_same marks n [] cells = refl
cells_same marks n (c ∷ columns) cells = go (marks n) cells (cells_same marks (n + 1) columns)
  where
    go : (o : Option (List Slab)) (cells : List Tree)
        → ((ts : List Tree) → cell_fields (marked unchanged marks (n + 1) (map renamed_column columns)) ts ≡ cell_fields (marked unchanged marks (n + 1) columns) ts)
        → cell_fields (option_map_or (λ slabs. renamed_column c ∷ marked unchanged marks (n + 1) (map renamed_column columns)) o (marked unchanged marks (n + 1) (map renamed_column columns))) cells
        ≡ cell_fields (option_map_or (λ slabs. c ∷ marked unchanged marks (n + 1) columns) o (marked unchanged marks (n + 1) columns)) cells
    go None cells more = more cells
    go (Some slabs) [] more = refl
    go (Some slabs) (t ∷ ts) more = ap (λ fs. scalar_fields c.base t ++ fs) (more ts)

rows_same : (marks : Marks) (keeps : Keeps) (n : ℕ) (columns : List Column) (rows : List Tree) → rows_sent marks keeps n (map renamed_column columns) rows ≡ rows_sent marks keeps n columns rows
rows_same marks keeps n columns rows = ap (λ fs. fs ++ mark 0xa5 ∷ []) (go (filter (keeps n) rows))
  where
    go : (rows : List Tree) → flat_map (row_sent marks n (map renamed_column columns)) rows ≡ flat_map (row_sent marks n columns) rows
    go [] = refl
    go (row ∷ rows) =
        ap (λ fs. (mark 0x5a ∷ fs) ++ flat_map (row_sent marks n (map renamed_column columns)) rows) (cells_same marks (n + 1) columns (marked unchanged marks (n + 1) (kids row)))
        ∙ ap (λ fs. row_sent marks n columns row ++ fs) (go rows)

mutual
  same_sent : (marks : Marks) (keeps : Keeps) (n : ℕ) (m : Member) (t : Tree) → member_sent marks keeps n (renamed m) t ≡ member_sent marks keeps n m t
  same_sent marks keeps n (scalar c) t = refl
  same_sent marks keeps n (array a) t = refl
  same_sent marks keeps n (structure name parts) t =
      sym (structure_sent marks keeps n (constraint_id name) (renamed_all parts) t) ∙ all_sent marks keeps (n + 1) parts (kids t) ∙ structure_sent marks keeps n name parts t
  same_sent marks keeps n (grid name a maps) t = arrays_same marks (n + 1) (a ∷ maps) (kids t)
  same_sent marks keeps n (sequence name columns) t =
      sym (sequence_sent marks keeps n (constraint_id name) (map renamed_column columns) t)
      ∙ ap (λ k. cond (one_marked marks (n + 1) k) (rows_sent marks keeps n (map renamed_column columns) (kids t)) []) (length-map columns renamed_column)
      ∙ ap (λ fs. cond (one_marked marks (n + 1) (length columns)) fs []) (rows_same marks keeps n columns (kids t))
      ∙ sequence_sent marks keeps n name columns t

  pub all_sent : (marks : Marks) (keeps : Keeps) (n : ℕ) (ms : Members) (ts : List Tree) → members_sent marks keeps n (renamed_all ms) ts ≡ members_sent marks keeps n ms ts
  all_sent marks keeps n no_members ts = refl
  all_sent marks keeps n (member m ms) [] = refl
  all_sent marks keeps n (member m ms) (t ∷ ts) =
      ap (λ fs. fs ++ members_sent marks keeps (n + count (renamed m)) (renamed_all ms) ts) (same_sent marks keeps n m t)
      ∙ ap (λ k. member_sent marks keeps n m t ++ members_sent marks keeps (n + k) (renamed_all ms) ts) (same_count m)
      ∙ ap (λ fs. member_sent marks keeps n m t ++ fs) (all_sent marks keeps (n + count m) ms ts)
