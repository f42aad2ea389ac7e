-- The lengths of the lines of a DDS, and what is left of a limit behind them.
use Rattle.std.proofs.Common.{◌≡◌, ℕ, ◌+◌, ◌*◌, ◌<◌, ◌≤◌, suc, List, [], ◌∷◌, ◌++◌, length, get_or, drop, replicate, Some, None, refl, ap, sym, ◌∙◌, arith, length-append}
use Rattle.std.specs.Prelude.{codes}
use Rattle.std.specs.List.{flat_map}
use Rattle.std.proofs.lemmas.List.{drop_all, length-replicate}
use Rattle.dap_types.specs.declared.declarations.ArrayDecl.{ArrayDecl}
use Rattle.dap_types.specs.declared.declarations.Column.{Column}
use Rattle.dap_model.specs.Dds.{array_text, closing, column_text, dim_text, line, type_word, typed}

pub line-length : (n : ℕ) (text : List ℕ) → length (line n text) ≡ n + length text + 1
unfolding line
line-length n text =
    length-append (replicate n 32 ++ text) (codes "\n") ∙ ap (λ k. k + 1) (length-append (replicate n 32) text ∙ ap (λ k. k + length text) (length-replicate n 32))

pub closing-length : (depth : ℕ) (name : List ℕ) → length (closing depth name) ≡ 4 * depth + length name + 4
unfolding closing
closing-length depth name = omega (arith, line-length (4 * depth) (codes "} " ++ name ++ codes ";"), length-append (codes "} " ++ name) (codes ";"), length-append (codes "} ") name)

pub column-length : (depth : ℕ) (c : Column) → length (column_text depth c) ≡ 4 * depth + length (type_word c.base) + length c.name + 3
unfolding column_text
column-length depth c =
    omega (arith, line-length (4 * depth) (typed c.base c.name ++ codes ";"), length-append (typed c.base c.name) (codes ";"), length-append (type_word c.base ++ codes " ") c.name, length-append (type_word c.base) (codes " "))

pub array-length : (depth : ℕ) (a : ArrayDecl) → length (array_text depth a) ≡ 4 * depth + length (type_word a.base) + length a.name + length (flat_map dim_text a.dims) + 3
unfolding array_text
array-length depth a =
    omega (
      arith,
      line-length (4 * depth) (typed a.base a.name ++ flat_map dim_text a.dims ++ codes ";"),
      length-append (typed a.base a.name ++ flat_map dim_text a.dims) (codes ";"),
      length-append (typed a.base a.name) (flat_map dim_text a.dims),
      length-append (type_word a.base ++ codes " ") a.name,
      length-append (type_word a.base) (codes " "),
    )

pub ruleset lengths = (length-append, line-length, closing-length, column-length, array-length)
