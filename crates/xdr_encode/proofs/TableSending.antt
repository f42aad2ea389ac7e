-- The XDR of what a constraint and a mask leave of a table, and that it is never too large but for its DDS.
use Rattle.std.proofs.Common.{◌≡◌, ℕ, zero, suc, ◌+◌, ◌<◌, ◌≤◌, ◌^◌, All, Bool, true, false, ◌||◌, cond, List, [], ◌∷◌, ◌++◌, codes, length, map, filter, Option, Some, None, refl, sym, ap, ◌∙◌, subst, arith, append-nil, length-append, nat_lt}
use Rattle.std.proofs.lemmas.Bool.{ltb-true}
use Rattle.std.specs.List.{flat_map, list_any, range_with_len}
use Rattle.std.specs.Option.{option_map_or}
use Rattle.std.specs.Prelude.{is_some}
use Rattle.csv_source.specs.Dataset.{row_tree, table_dataset, table_trees}
use Rattle.csv_source.specs.Names.{sequence_name}
use Rattle.csv_source.specs.Table.{CsvTable}
use Rattle.dap_model.specs.Body.{body, too_large}
use Rattle.dap_model.specs.Dds.{dds}
use Rattle.dap_model.specs.Filter.{Marks, marked, unchanged, one_marked, constrained, constrained_trees}
use Rattle.dap_model.specs.Xdr.{bytes_of, cell_fields, fields_all, mark, row_fields}
use Rattle.dap_types.proofs.Views.{items-trees_of}
use Rattle.dap_types.specs.Model.{Dataset, Tree, one, many, trees_of, kids, sequence, member, no_members, scalar}
use Rattle.dap_types.specs.WellFormed.{IsWellFormed, leaf_places, places_of}
use Rattle.dap_types.specs.declared.declarations.Column.{Column}
use Rattle.dap_types.specs.declared.slabs.Slab.{Slab}
use Rattle.dap_types.specs.declared.values.Value.{Value}
use Rattle.xdr_encode.proofs.Counting.{first-leaf}
use Rattle.xdr_encode.specs.Counts.{all_counts, first_large}
use Rattle.xdr_encode.specs.Masks.{masked, kept_table, all_rows}
use Rattle.xdr_encode.specs.Sent.{leaves_cost}
use Rattle.xdr_encode.specs.declared.leaf.Leaf.{Leaf}
use Rattle.xdr_encode.specs.Rows.{chosen_fields, marked_columns, rows_sent, table_sent, RowsAreSent}

by-flags : {X : Type 0} (marks : Marks) (n : ℕ) (xs : List X) → marked unchanged marks n xs ≡ masked (map (λ m. is_some (marks m)) (range_with_len n (length xs))) xs
by-flags marks n [] = refl
by-flags marks n (x ∷ xs) = go (marks n) (by-flags marks (n + 1) xs)
  where
    go : (o : Option (List Slab)) → marked unchanged marks (n + 1) xs ≡ masked (map (λ m. is_some (marks m)) (range_with_len (n + 1) (length xs))) xs
        → option_map_or (λ slabs. x ∷ marked unchanged marks (n + 1) xs) o (marked unchanged marks (n + 1) xs)
        ≡ cond (is_some o) (x ∷ masked (map (λ m. is_some (marks m)) (range_with_len (n + 1) (length xs))) xs) (masked (map (λ m. is_some (marks m)) (range_with_len (n + 1) (length xs))) xs)
    go None more = more
    go (Some slabs) more = ap (λ ys. x ∷ ys) more

masked-map : {X Y : Type 0} (f : X → Y) (flags : List Bool) (xs : List X) → masked flags (map f xs) ≡ map f (masked flags xs)
masked-map f [] xs = refl
masked-map f (b ∷ flags) [] = refl
masked-map f (b ∷ flags) (x ∷ xs) = go b (masked-map f flags xs)
  where
    go : (b : Bool) → masked flags (map f xs) ≡ map f (masked flags xs) → cond b (f x ∷ masked flags (map f xs)) (masked flags (map f xs)) ≡ map f (cond b (x ∷ masked flags xs) (masked flags xs))
    go true more = ap (λ ys. f x ∷ ys) more
    go false more = more

keep-all : (ts : List Tree) → filter (λ row. true) ts ≡ ts
keep-all [] = refl
keep-all (t ∷ ts) = ap (λ us. t ∷ us) (keep-all ts)

map-long : {X Y : Type 0} (f : X → Y) (xs : List X) → length (map f xs) ≡ length xs
map-long f [] = refl
map-long f (x ∷ xs) = ap suc (map-long f xs)

abbrev left_row : Marks → Tree → Tree
left_row marks row = many (trees_of (marked unchanged marks 2 (kids row)))

one-row : (marks : Marks) (columns : List Column) (values : List Value) → length values ≡ length columns
    → row_fields (marked unchanged marks 2 columns) (left_row marks (row_tree values)) ≡ chosen_fields columns (marked_columns marks (length columns)) values
one-row marks columns values long =
    ap (λ cs. row_fields cs (left_row marks (row_tree values))) (by-flags marks 2 columns)
    ∙ ap (λ ts. mark 0x5a ∷ cell_fields (masked (marked_columns marks (length columns)) columns) ts)
    (items-trees_of (marked unchanged marks 2 (kids (row_tree values)))
    ∙ ap (marked unchanged marks 2) (items-trees_of (map one values))
    ∙ by-flags marks 2 (map one values)
    ∙ ap (λ n. masked (marked_columns marks n) (map one values)) (map-long one values ∙ long)
    ∙ masked-map one (marked_columns marks (length columns)) values
    ∙ sym (items-trees_of (map one (masked (marked_columns marks (length columns)) values))))

all-rows : (marks : Marks) (columns : List Column) (mask : List Bool) (rows : List (List Value)) → All (λ row. length row ≡ length columns) rows
    → flat_map (row_fields (marked unchanged marks 2 columns)) (map (left_row marks) (map row_tree (masked mask rows))) ≡ flat_map (chosen_fields columns (marked_columns marks (length columns))) (masked mask rows)
all-rows marks columns [] rows each = refl
all-rows marks columns (b ∷ mask) [] each = refl
all-rows marks columns (b ∷ mask) (row ∷ rows) each = go b (all-rows marks columns mask rows (λ k d lt. each (suc k) d (omega (arith, lt))))
  where
    own : length row ≡ length columns
    own = each 0 [] (omega arith)

    go : (b : Bool) → flat_map (row_fields (marked unchanged marks 2 columns)) (map (left_row marks) (map row_tree (masked mask rows))) ≡ flat_map (chosen_fields columns (marked_columns marks (length columns))) (masked mask rows)
        → flat_map (row_fields (marked unchanged marks 2 columns)) (map (left_row marks) (map row_tree (cond b (row ∷ masked mask rows) (masked mask rows))))
        ≡ flat_map (chosen_fields columns (marked_columns marks (length columns))) (cond b (row ∷ masked mask rows) (masked mask rows))
    go true more =
        ap (λ fs. fs ++ flat_map (row_fields (marked unchanged marks 2 columns)) (map (left_row marks) (map row_tree (masked mask rows)))) (one-row marks columns row own)
        ∙ ap (λ fs. chosen_fields columns (marked_columns marks (length columns)) row ++ fs) more
    go false more = more

pub rows_are_sent : RowsAreSent
unfolding table_sent rows_sent bytes_of
rows_are_sent t mask marks each = go (one_marked marks 2 (length t.columns))
  where
    kept : List Tree
    kept = map (left_row marks) (filter (λ row. true) (kids (many (trees_of (map row_tree (masked mask t.rows))))))

    kept-is : map (left_row marks) (filter (λ row. true) (kids (many (trees_of (map row_tree (masked mask t.rows)))))) ≡ map (left_row marks) (map row_tree (masked mask t.rows))
    kept-is = ap (map (left_row marks)) (keep-all (kids (many (trees_of (map row_tree (masked mask t.rows))))) ∙ items-trees_of (map row_tree (masked mask t.rows)))

    go : (b : Bool) →
        bytes_of (fields_all (cond b (member (sequence (sequence_name t.file_name) (marked unchanged marks 2 t.columns)) no_members) no_members)
        (cond b (many (trees_of (map (left_row marks) (filter (λ row. true) (kids (many (trees_of (map row_tree (masked mask t.rows)))))))) ∷ []) []))
        ≡ cond b (bytes_of (flat_map (chosen_fields t.columns (marked_columns marks (length t.columns))) (masked mask t.rows) ++ mark 0xa5 ∷ [])) (bytes_of [])
    go true =
        ap (λ ts. bytes_of ((flat_map (row_fields (marked unchanged marks 2 t.columns)) ts ++ mark 0xa5 ∷ []) ++ [])) (items-trees_of (map (left_row marks) (filter (λ row. true) (kids (many (trees_of (map row_tree (masked mask t.rows))))))) ∙ kept-is)
        ∙ ap bytes_of (append-nil (flat_map (row_fields (marked unchanged marks 2 t.columns)) (map (left_row marks) (map row_tree (masked mask t.rows))) ++ mark 0xa5 ∷ []))
        ∙ ap (λ fs. bytes_of (fs ++ mark 0xa5 ∷ [])) (all-rows marks t.columns mask t.rows each)
    go false = refl

-- ---- columns

places-long : (depth : ℕ) (earlier : List (List ℕ)) (columns : List Column) → length (leaf_places depth earlier (map scalar columns)) ≡ length columns
places-long depth earlier [] = refl
places-long depth earlier (c ∷ columns) = ap suc (places-long depth (c.name ∷ earlier) columns)

pub few_columns : (t : CsvTable) (d : Dataset) → d ≡ table_dataset t → IsWellFormed d → length t.columns < 2 ^ 31
few_columns t d is well_formed =
    let few : length (places_of (table_dataset t)) ≤ 1000000 = subst (λ e. length (places_of e) ≤ 1000000) is well_formed.few in
    let parts = leaf_places 2 [] (map scalar t.columns) in
    let all : length (places_of (table_dataset t)) ≡ suc (length (leaf_places 2 [] (map scalar t.columns) ++ [])) = refl in
    omega (arith, few, all, length-append parts [], places-long 2 [] t.columns)

pub push_marked : (marks : Marks) (count : ℕ) (chosen : List Bool) (flag : Bool) → chosen ≡ marked_columns marks count → flag ≡ is_some (marks (count + 2)) → chosen ++ flag ∷ [] ≡ marked_columns marks (count + 1)
push_marked marks count chosen flag is same = ap (λ cs. cs ++ flag ∷ []) is ∙ ap (λ b. marked_columns marks count ++ b ∷ []) same ∙ go 2 count (swap count) ∙ ap (λ n. map (λ m. is_some (marks m)) (range_with_len 2 n)) (up count)
  where
    up : (n : ℕ) → suc n ≡ n + 1
    up n = omega arith

    swap : (n : ℕ) → n + 2 ≡ 2 + n
    swap n = omega arith

    go : (a n : ℕ) → count + 2 ≡ a + n → map (λ m. is_some (marks m)) (range_with_len a n) ++ is_some (marks (count + 2)) ∷ [] ≡ map (λ m. is_some (marks m)) (range_with_len a (suc n))
    go a zero e = ap (λ m. is_some (marks m) ∷ []) (e ∙ none a)
      where
        none : (a : ℕ) → a + 0 ≡ a
        none a = omega arith
    go a (suc n) e = ap (λ rest. is_some (marks a) ∷ rest) (go (a + 1) n (e ∙ along a n))
      where
        along : (a n : ℕ) → a + suc n ≡ a + 1 + n
        along a n = omega arith

pub any_marked : (marks : Marks) (count : ℕ) → list_any (λ flag. flag) (marked_columns marks count) ≡ one_marked marks 2 count
any_marked marks count = go (range_with_len 2 count)
  where
    go : (ns : List ℕ) → list_any (λ flag. flag) (map (λ n. is_some (marks n)) ns) ≡ list_any (λ leaf. is_some (marks leaf)) ns
    go [] = refl
    go (n ∷ ns) = ap (λ b. is_some (marks n) || b) (go ns)

pub sent_marked : (t : CsvTable) (mask columns : List Bool) (marks : Marks) → columns ≡ marked_columns marks (length t.columns) → list_any (λ flag. flag) columns ≡ true → rows_sent t mask columns ≡ table_sent marks t mask
unfolding table_sent
sent_marked t mask columns marks is any =
    ap (rows_sent t mask) is
    ∙ sym (ap (λ b. cond b (rows_sent t mask (marked_columns marks (length t.columns))) []) (sym (any_marked marks (length t.columns)) ∙ ap (list_any (λ flag. flag)) (sym is) ∙ any))

pub none_marked : (t : CsvTable) (mask columns : List Bool) (marks : Marks) → columns ≡ marked_columns marks (length t.columns) → list_any (λ flag. flag) columns ≡ false → [] ≡ table_sent marks t mask
unfolding table_sent
none_marked t mask columns marks is any =
    sym (ap (λ b. cond b (rows_sent t mask (marked_columns marks (length t.columns))) []) (sym (any_marked marks (length t.columns)) ∙ ap (list_any (λ flag. flag)) (sym is) ∙ any))

-- ---- the body

pub table_text : (t : CsvTable) (mask : List Bool) (marks : Marks) (d : Dataset) → d ≡ table_dataset t → All (λ row. length row ≡ length t.columns) t.rows → (text head rows leaves : List ℕ)
    → text ≡ dds (constrained marks d) → head ≡ text ++ codes "Data:\n" → rows ≡ table_sent marks t mask → leaves ≡ []
    → (head ++ rows) ++ leaves ≡ body (constrained marks (table_dataset t)) (constrained_trees marks all_rows (table_dataset t) (table_trees (kept_table mask t)))
table_text t mask marks d is each text head rows leaves text-is head-is rows-are no-leaves =
    ap (λ l. (head ++ rows) ++ l) no-leaves ∙ append-nil (head ++ rows)
    ∙ ap (λ h. h ++ rows) (head-is ∙ ap (λ x. x ++ codes "Data:\n") (text-is ∙ ap (λ e. dds (constrained marks e)) is))
    ∙ ap (λ r. (dds (constrained marks (table_dataset t)) ++ codes "Data:\n") ++ r) (rows-are ∙ sym (rows_are_sent t mask marks each))

ones-small : (n : ℕ) (columns : List Column) → first_large n (map (λ column. 1) columns) ≡ None
ones-small n [] = refl
ones-small n (c ∷ columns) = go (nat_lt 2147483647 1) refl (ones-small (n + 1) columns)
  where
    go : (b : Bool) → nat_lt 2147483647 1 ≡ b → first_large (n + 1) (map (λ column. 1) columns) ≡ None → cond b (Some n) (first_large (n + 1) (map (λ column. 1) columns)) ≡ None
    go true e more = absurd (omega (arith, ltb-true 2147483647 1 e))
    go false e more = more

pub table_small : (t : CsvTable) (marks : Marks) (d : Dataset) → d ≡ table_dataset t → length (dds (constrained marks d)) ≤ 16777216 → too_large (constrained marks d) ≡ None
table_small t marks d is short =
    go (nat_lt 16777216 (length (dds (constrained marks d)))) refl
    (first-leaf (constrained marks d) ∙ ap (λ e. first_large 1 (all_counts (constrained marks e).members)) is ∙ counts (one_marked marks 2 (length t.columns)))
  where
    counts : (b : Bool) → first_large 1 (all_counts (cond b (member (sequence (sequence_name t.file_name) (marked unchanged marks 2 t.columns)) no_members) no_members)) ≡ None
    counts true = ap (first_large 1) (append-nil (map (λ column. 1) (marked unchanged marks 2 t.columns))) ∙ ones-small 1 (marked unchanged marks 2 t.columns)
    counts false = refl

    go : (b : Bool) {o : Option ℕ} → nat_lt 16777216 (length (dds (constrained marks d))) ≡ b → o ≡ None → cond b (Some 0) o ≡ None
    go true e none = absurd (omega (arith, short, ltb-true 16777216 (length (dds (constrained marks d))) e))
    go false e none = none

pub no_cost : (leaves : List Leaf) → leaves ≡ [] → leaves_cost leaves ≡ 0
unfolding leaves_cost
no_cost leaves is = ap leaves_cost is
