-- To keep rows by their values is to keep them by a mask.
use Rattle.std.proofs.Common.{◌≡◌, ◌+◌, Bool, true, false, cond, List, [], ◌∷◌, map, filter, refl, sym, ap, ◌∙◌}
use Rattle.csv_source.specs.Dataset.{row_tree}
use Rattle.csv_source.specs.Names.{sequence_name}
use Rattle.dap_model.specs.Filter.{marked, unchanged, has_mark}
use Rattle.dap_types.proofs.Views.{items-trees_of}
use Rattle.dap_types.specs.Model.{Tree, many, sequence, trees_of, kids}
use Rattle.dap_types.specs.declared.values.Value.{Value}
use Rattle.xdr_encode.specs.Masks.{masked, MaskKeeps}

kept : (p : Tree → Bool) (rows : List (List Value)) → filter p (map row_tree rows) ≡ filter (λ row. true) (map row_tree (masked (map (λ row. p (row_tree row)) rows) rows))
kept p [] = refl
kept p (row ∷ rows) = go (p (row_tree row)) (kept p rows)
  where
    go : (b : Bool) → filter p (map row_tree rows) ≡ filter (λ row. true) (map row_tree (masked (map (λ row. p (row_tree row)) rows) rows))
        → cond b (row_tree row ∷ filter p (map row_tree rows)) (filter p (map row_tree rows))
        ≡ filter (λ row. true) (map row_tree (cond b (row ∷ masked (map (λ row. p (row_tree row)) rows) rows) (masked (map (λ row. p (row_tree row)) rows) rows)))
    go true more = ap (λ rs. row_tree row ∷ rs) more
    go false more = more

pub mask_keeps : MaskKeeps
mask_keeps t marks keeps =
    ap (λ rows. cond (has_mark marks 1 (sequence (sequence_name t.file_name) t.columns)) (many (trees_of (map (λ row. many (trees_of (marked unchanged marks (1 + 1) (kids row)))) rows)) ∷ []) [])
    (ap (filter (keeps 1)) (items-trees_of (map row_tree t.rows)) ∙ kept (keeps 1) t.rows
    ∙ sym (ap (filter (λ row. true)) (items-trees_of (map row_tree (masked (map (λ row. keeps 1 (row_tree row)) t.rows) t.rows)))))
