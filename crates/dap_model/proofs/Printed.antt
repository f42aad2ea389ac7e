-- The tokens of a printed DDS stand for its dataset.
use Rattle.std.proofs.Common.{◌≡◌, ℕ, ◌+◌, ◌*◌, ◌≤◌, List, [], ◌∷◌, ◌++◌, All, true, Option, Some, None, codes, refl, ap, ◌∙◌, sym, subst, append_assoc, append-nil}
use Rattle.std.specs.Fmt.{decimal}
use Rattle.std.specs.List.{flat_map}
use Rattle.std.specs.Option.{option_map_or}
use Rattle.dap_types.specs.declared.declarations.ArrayDecl.{ArrayDecl}
use Rattle.dap_types.specs.declared.declarations.Column.{Column}
use Rattle.dap_types.specs.declared.declarations.Dim.{Dim}
use Rattle.dap_model.proofs.ReadBack.{word_of, Reads, reads_append, reads_word, reads_sign, reads_white, reads_as, reads_line, reads_word_sign, reads_typed, reads_closing, word_plain, word_some}
use Rattle.dap_model.proofs.Told.{all_told, told-append, decimal_word}
use Rattle.dap_model.proofs.Values.{all_first, all_rest}
use Rattle.dap_model.specs.Dds.{type_word, typed, dim_name, dim_text, column_text, array_text, closing}
use Rattle.dap_model.specs.Grammar.{semicolon, size_slots, dim_slots}
use Rattle.dap_model.specs.Tokens.{Token, is_word}
use Rattle.dap_model.specs.Tokens as token

tidy : (f : List Token) (a : Token) (ts : List Token) → ((f ++ a ∷ []) ++ []) ++ ts ≡ f ++ a ∷ ts
tidy f a ts = ap (λ l. l ++ ts) (append-nil (f ++ a ∷ [])) ∙ append_assoc f (a ∷ []) ts

-- a number and the bracket behind it
reads_number : (n : ℕ) → n ≤ 2147483647 → Reads (decimal n ++ codes "]") [] (token.word (decimal n) ∷ token.sign 93 ∷ []) []
reads_number n small = reads_word_sign (decimal n) 93 (decimal_word n small) refl

reads_name : (own : List ℕ) → is_word own ≡ true → Reads (own ++ codes " = ") [] (token.word own ∷ token.sign 61 ∷ []) []
reads_name own is =
    reads_as (own ++ codes " = ") [] (word_of own ++ token.sign 61 ∷ []) (token.word own ∷ token.sign 61 ∷ []) [] (ap (λ ts. ts ++ token.sign 61 ∷ []) (word_some own is))
    (reads_append own (codes " = ") [] own [] [] (word_of own ++ token.sign 61 ∷ []) (reads_word own [] (word_plain own is))
    (reads_append (codes " ") (codes "= ") own [] [] (word_of own) (token.sign 61 ∷ []) (reads_white 32 own refl refl)
    (reads_append (codes "=") (codes " ") [] [] [] (token.sign 61 ∷ []) [] (reads_sign 61 [] refl) (reads_white 32 [] refl refl))))

abbrev pub IsFineDim : Dim → Type 0
IsFineDim dim = (option_map_or is_word dim.name true ≡ true) × (dim.size ≤ 2147483647)

reads_size : (wanted : Option ℕ) (own : Option (List ℕ)) (n : ℕ) → option_map_or is_word own true ≡ true → n ≤ 2147483647
    → Reads (dim_name own ++ (decimal n ++ codes "]")) [] (all_told (size_slots wanted own n)) []
reads_size wanted None n is small = reads_number n small
reads_size wanted (Some own) n is small =
    reads_append (own ++ codes " = ") (decimal n ++ codes "]") [] [] [] (token.word own ∷ token.sign 61 ∷ []) (token.word (decimal n) ∷ token.sign 93 ∷ []) (reads_name own is) (reads_number n small)

reads_dim : (wanted : Option ℕ) (dim : Dim) (front : List ℕ) → IsFineDim dim
    → Reads (dim_text dim) front (word_of front ++ token.sign 91 ∷ all_told (size_slots wanted dim.name dim.size)) []
reads_dim wanted dim front is =
    subst (λ text. Reads text front (word_of front ++ token.sign 91 ∷ all_told (size_slots wanted dim.name dim.size)) [])
    (sym (append_assoc (codes "[" ++ dim_name dim.name) (decimal dim.size) (codes "]") ∙ append_assoc (codes "[") (dim_name dim.name) (decimal dim.size ++ codes "]")))
    (reads_as (codes "[" ++ (dim_name dim.name ++ (decimal dim.size ++ codes "]"))) front
    ((word_of front ++ token.sign 91 ∷ []) ++ all_told (size_slots wanted dim.name dim.size)) (word_of front ++ token.sign 91 ∷ all_told (size_slots wanted dim.name dim.size)) []
    (append_assoc (word_of front) (token.sign 91 ∷ []) (all_told (size_slots wanted dim.name dim.size)))
    (reads_append (codes "[") (dim_name dim.name ++ (decimal dim.size ++ codes "]")) front [] [] (word_of front ++ token.sign 91 ∷ []) (all_told (size_slots wanted dim.name dim.size))
    (reads_sign 91 front refl) (reads_size wanted dim.name dim.size is.0 is.1)))

reads_dims : (most : ℕ) (wanted : Option ℕ) (k : ℕ) (dims : List Dim) (front : List ℕ) → All IsFineDim dims
    → Reads (flat_map dim_text dims ++ codes ";") front (word_of front ++ all_told (dim_slots most wanted k dims ++ semicolon ∷ [])) []
reads_dims most wanted k [] front fine' = reads_sign 59 front refl
reads_dims most wanted k (d ∷ ds) front fine' =
    let T : List Token = token.sign 91 ∷ all_told (size_slots wanted d.name d.size) in
    let U : List Token = all_told (dim_slots most wanted (k + 1) ds ++ semicolon ∷ []) in
    let same : all_told ((size_slots wanted d.name d.size ++ dim_slots most wanted (k + 1) ds) ++ semicolon ∷ []) ≡ all_told (size_slots wanted d.name d.size) ++ U =
    ap all_told (append_assoc (size_slots wanted d.name d.size) (dim_slots most wanted (k + 1) ds) (semicolon ∷ [])) ∙ told-append (size_slots wanted d.name d.size) (dim_slots most wanted (k + 1) ds ++ semicolon ∷ []) in
    subst (λ text. Reads text front (word_of front ++ all_told (dim_slots most wanted k (d ∷ ds) ++ semicolon ∷ [])) []) (sym (append_assoc (dim_text d) (flat_map dim_text ds) (codes ";")))
    (reads_as (dim_text d ++ (flat_map dim_text ds ++ codes ";")) front ((word_of front ++ T) ++ U) (word_of front ++ all_told (dim_slots most wanted k (d ∷ ds) ++ semicolon ∷ [])) []
    (append_assoc (word_of front) T U ∙ ap (λ ts. word_of front ++ token.sign 91 ∷ ts) (sym same))
    (reads_append (dim_text d) (flat_map dim_text ds ++ codes ";") front [] [] (word_of front ++ T) U (reads_dim wanted d front (all_first IsFineDim d ds fine'))
    (reads_dims most wanted (k + 1) ds [] (all_rest IsFineDim d ds fine'))))

pub reads_array : (depth most : ℕ) (wanted : Option ℕ) (a : ArrayDecl) → is_word a.name ≡ true → All IsFineDim a.dims
    → Reads (array_text depth a) [] (token.word (type_word a.base) ∷ token.word a.name ∷ all_told (dim_slots most wanted 1 a.dims ++ semicolon ∷ [])) []
unfolding array_text
reads_array depth most wanted a is fine' =
    let T : List Token = all_told (dim_slots most wanted 1 a.dims ++ semicolon ∷ []) in
    reads_line (4 * depth) (typed a.base a.name ++ flat_map dim_text a.dims ++ codes ";") (token.word (type_word a.base) ∷ token.word a.name ∷ T)
    (subst (λ text. Reads text [] (token.word (type_word a.base) ∷ token.word a.name ∷ T) []) (sym (append_assoc (typed a.base a.name) (flat_map dim_text a.dims) (codes ";")))
    (reads_as (typed a.base a.name ++ (flat_map dim_text a.dims ++ codes ";")) [] (token.word (type_word a.base) ∷ (word_of a.name ++ T)) (token.word (type_word a.base) ∷ token.word a.name ∷ T) []
    (ap (λ ts. token.word (type_word a.base) ∷ (ts ++ T)) (word_some a.name is))
    (reads_append (typed a.base a.name) (flat_map dim_text a.dims ++ codes ";") [] a.name [] (token.word (type_word a.base) ∷ []) (word_of a.name ++ T) (reads_typed a.base a.name is)
    (reads_dims most wanted 1 a.dims a.name fine'))))

pub reads_column : (depth : ℕ) (c : Column) → is_word c.name ≡ true → Reads (column_text depth c) [] (token.word (type_word c.base) ∷ token.word c.name ∷ token.sign 59 ∷ []) []
unfolding column_text
reads_column depth c is =
    reads_line (4 * depth) (typed c.base c.name ++ codes ";") (token.word (type_word c.base) ∷ token.word c.name ∷ token.sign 59 ∷ [])
    (reads_as (typed c.base c.name ++ codes ";") [] (token.word (type_word c.base) ∷ (word_of c.name ++ token.sign 59 ∷ [])) (token.word (type_word c.base) ∷ token.word c.name ∷ token.sign 59 ∷ []) []
    (ap (λ ts. token.word (type_word c.base) ∷ (ts ++ token.sign 59 ∷ [])) (word_some c.name is))
    (reads_append (typed c.base c.name) (codes ";") [] c.name [] (token.word (type_word c.base) ∷ []) (word_of c.name ++ token.sign 59 ∷ []) (reads_typed c.base c.name is) (reads_sign 59 c.name refl)))

pub reads_end : (depth : ℕ) (own : List ℕ) → is_word own ≡ true → Reads (closing depth own) [] (token.sign 125 ∷ token.word own ∷ token.sign 59 ∷ []) []
unfolding closing
reads_end depth own is = reads_line (4 * depth) (codes "} " ++ own ++ codes ";") (token.sign 125 ∷ token.word own ∷ token.sign 59 ∷ []) (reads_closing own is)
