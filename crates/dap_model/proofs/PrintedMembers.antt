-- The tokens of a printed DDS stand for its dataset: the members.
use Rattle.std.proofs.Common.{◌≡◌, ℕ, ◌+◌, ◌*◌, ◌≤◌, List, [], ◌∷◌, ◌++◌, length, map, All, Bool, true, false, ◌||◌, nat_lt, Option, Some, None, codes, refl, ap, ◌∙◌, sym, subst, append_assoc, append-nil}
use Rattle.std.proofs.lemmas.List.Elements.{All-cons, All-nil}
use Rattle.std.specs.List.{flat_map, list_all}
use Rattle.std.specs.Option.{option_map_or}
use Rattle.plain_lemmas.proofs.Truths.{both_true}
use Rattle.dap_types.specs.Model.{Member, scalar, array, structure, grid, sequence, Members, no_members, member, Dataset, name_of, count, sizes}
use Rattle.dap_types.specs.WellFormed.{Place, place, places, part_places, leaf_places, places_of, IsSized, IsWellFormed}
use Rattle.dap_types.specs.declared.declarations.ArrayDecl.{ArrayDecl}
use Rattle.dap_types.specs.declared.declarations.Column.{Column}
use Rattle.dap_types.specs.declared.declarations.Dim.{Dim}
use Rattle.dap_model.proofs.Printed.{IsFineDim, reads_array, reads_column, reads_end}
use Rattle.dap_model.proofs.ReadBack.{Reads, reads_append, reads_none, reads_as, reads_line, reads_opening, reads_closing, reads_word_sign}
use Rattle.dap_model.proofs.Told.{all_told, told-append}
use Rattle.dap_model.proofs.Values.{all_first, all_rest, all_front, all_back}
use Rattle.dap_model.specs.Dds.{type_word, line, array_text, column_text, closing, member_text, members_text, dds}
use Rattle.dap_model.specs.Grammar.{keyword, sign, Judged, fine, semicolon, colon, head, named, dim_slots, array_slots, column_slots, map_slots, whole_slots, slots, slots_all, dataset_slots, are_words, HasWords}
use Rattle.dap_model.specs.Tokens.{Token, is_word, tokens_of}
use Rattle.dap_model.specs.Tokens as token

-- a variable's names are words, and its sizes are small
abbrev IsFine : Place → Type 0
IsFine p = (are_words p.variable ≡ true) × IsSized p.variable

all_from_test : {X : Type 0} (test : X → Bool) (xs : List X) → list_all test xs ≡ true → All (λ x. test x ≡ true) xs
all_from_test test [] all = All-nil (λ x. test x ≡ true)
all_from_test test (x ∷ xs) all =
    let both = both_true (test x) (list_all test xs) all in All-cons (λ x. test x ≡ true) x xs both.0 (all_from_test test xs both.1)

fine_dims : (dims : List Dim) → list_all (λ dim. option_map_or is_word dim.name true) dims ≡ true → All (λ n. n ≤ 2147483647) (map (λ dim. dim.size) dims) → All IsFineDim dims
fine_dims [] words small = All-nil IsFineDim
fine_dims (d ∷ ds) words small =
    let both = both_true (option_map_or is_word d.name true) (list_all (λ dim. option_map_or is_word dim.name true) ds) words in
    All-cons IsFineDim d ds (both.0, all_first (λ n. n ≤ 2147483647) d.size (map (λ dim. dim.size) ds) small)
    (fine_dims ds both.1 (all_rest (λ n. n ≤ 2147483647) d.size (map (λ dim. dim.size) ds) small))

array_words : (a : ArrayDecl) → are_words (array a) ≡ true → (is_word a.name ≡ true) × (list_all (λ dim. option_map_or is_word dim.name true) a.dims ≡ true)
array_words a words = both_true (is_word a.name) (list_all (λ dim. option_map_or is_word dim.name true) a.dims) words

reads_fine_array : (depth most : ℕ) (wanted : Option ℕ) (a : ArrayDecl) → (are_words (array a) ≡ true) × IsSized (array a)
    → Reads (array_text depth a) [] (token.word (type_word a.base) ∷ token.word a.name ∷ all_told (dim_slots most wanted 1 a.dims ++ semicolon ∷ [])) []
reads_fine_array depth most wanted a fine' =
    let words = array_words a fine'.0 in reads_array depth most wanted a words.0 (fine_dims a.dims words.1 fine'.1.2)

reads_columns : (depth sd n pd : ℕ) (before earlier : List (List ℕ)) (columns : List Column) → All IsFine (leaf_places pd earlier (map scalar columns))
    → Reads (flat_map (column_text depth) columns) [] (all_told (column_slots sd n before columns)) []
reads_columns depth sd n pd before earlier [] fine' = reads_none []
reads_columns depth sd n pd before earlier (c ∷ columns) fine' =
    let later = leaf_places pd (c.name ∷ earlier) (map scalar columns) in
    reads_append (column_text depth c) (flat_map (column_text depth) columns) [] [] [] (token.word (type_word c.base) ∷ token.word c.name ∷ token.sign 59 ∷ []) (all_told (column_slots sd (n + 1) (c.name ∷ before) columns))
    (reads_column depth c (all_first IsFine (place pd earlier (scalar c)) later fine').0)
    (reads_columns depth sd (n + 1) pd (c.name ∷ before) (c.name ∷ earlier) columns (all_rest IsFine (place pd earlier (scalar c)) later fine'))

told_array : (most : ℕ) (wanted : Option ℕ) (broken : Bool) (before : List (List ℕ)) (a : ArrayDecl) (rest : List Judged)
    → all_told (array_slots most wanted (record { slot = keyword (type_word a.base); broken = broken }) before a ++ rest)
    ≡ (token.word (type_word a.base) ∷ token.word a.name ∷ all_told (dim_slots most wanted 1 a.dims ++ semicolon ∷ [])) ++ all_told rest
told_array most wanted broken before a rest = told-append (array_slots most wanted (record { slot = keyword (type_word a.base); broken = broken }) before a) rest

reads_maps : (depth sd n pd : ℕ) (before earlier : List (List ℕ)) (wanted : List ℕ) (maps : List ArrayDecl) → All IsFine (leaf_places pd earlier (map array maps))
    → Reads (flat_map (array_text depth) maps) [] (all_told (map_slots sd n before wanted maps)) []
reads_maps depth sd n pd before earlier wanted [] fine' = reads_none []
reads_maps depth sd n pd before earlier [] (m ∷ maps) fine' =
    let later = leaf_places pd (m.name ∷ earlier) (map array maps) in
    let T : List Token = token.word (type_word m.base) ∷ token.word m.name ∷ all_told (dim_slots 1 None 1 m.dims ++ semicolon ∷ []) in
    reads_as (array_text depth m ++ flat_map (array_text depth) maps) [] (T ++ all_told (map_slots sd (n + 1) (m.name ∷ before) [] maps)) (all_told (map_slots sd n before [] (m ∷ maps))) []
    (sym (told_array 1 None true before m (map_slots sd (n + 1) (m.name ∷ before) [] maps)))
    (reads_append (array_text depth m) (flat_map (array_text depth) maps) [] [] [] T (all_told (map_slots sd (n + 1) (m.name ∷ before) [] maps))
    (reads_fine_array depth 1 None m (all_first IsFine (place pd earlier (array m)) later fine'))
    (reads_maps depth sd (n + 1) pd (m.name ∷ before) (m.name ∷ earlier) [] maps (all_rest IsFine (place pd earlier (array m)) later fine')))
reads_maps depth sd n pd before earlier (w ∷ wanted) (m ∷ maps) fine' =
    let later = leaf_places pd (m.name ∷ earlier) (map array maps) in
    let T : List Token = token.word (type_word m.base) ∷ token.word m.name ∷ all_told (dim_slots 1 (Some w) 1 m.dims ++ semicolon ∷ []) in
    reads_as (array_text depth m ++ flat_map (array_text depth) maps) [] (T ++ all_told (map_slots sd (n + 1) (m.name ∷ before) wanted maps)) (all_told (map_slots sd n before (w ∷ wanted) (m ∷ maps))) []
    (sym (told_array 1 (Some w) (nat_lt 16 sd || nat_lt 1000000 n) before m (map_slots sd (n + 1) (m.name ∷ before) wanted maps)))
    (reads_append (array_text depth m) (flat_map (array_text depth) maps) [] [] [] T (all_told (map_slots sd (n + 1) (m.name ∷ before) wanted maps))
    (reads_fine_array depth 1 (Some w) m (all_first IsFine (place pd earlier (array m)) later fine'))
    (reads_maps depth sd (n + 1) pd (m.name ∷ before) (m.name ∷ earlier) wanted maps (all_rest IsFine (place pd earlier (array m)) later fine')))

-- a whole: its opening line, its parts, its end
whole_told : (k : List ℕ) (broken : Bool) (parts : List Judged) (last : Bool) (before : List (List ℕ)) (own : List ℕ)
    → all_told (whole_slots (record { slot = keyword k; broken = broken }) parts (record { slot = sign 125; broken = last }) (named before own))
    ≡ token.word k ∷ token.sign 123 ∷ (all_told parts ++ (token.sign 125 ∷ token.word own ∷ token.sign 59 ∷ []))
whole_told k broken parts last before own =
    ap (λ ts. token.word k ∷ token.sign 123 ∷ ts) (told-append parts (record { slot = sign 125; broken = last } ∷ named before own ∷ semicolon ∷ []))

reads_whole : (depth n : ℕ) (k inside own : List ℕ) (parts : List Judged) (broken last : Bool) (before : List (List ℕ)) → is_word k ≡ true → is_word own ≡ true → Reads inside [] (all_told parts) []
    → Reads (line n (k ++ codes " {") ++ inside ++ closing depth own) [] (all_told (whole_slots (record { slot = keyword k; broken = broken }) parts (record { slot = sign 125; broken = last }) (named before own))) []
reads_whole depth n k inside own parts broken last before word own_word reads =
    reads_as (line n (k ++ codes " {") ++ inside ++ closing depth own) []
    (((token.word k ∷ token.sign 123 ∷ []) ++ all_told parts) ++ (token.sign 125 ∷ token.word own ∷ token.sign 59 ∷ []))
    (all_told (whole_slots (record { slot = keyword k; broken = broken }) parts (record { slot = sign 125; broken = last }) (named before own))) []
    (sym (whole_told k broken parts last before own))
    (reads_append (line n (k ++ codes " {") ++ inside) (closing depth own) [] [] [] ((token.word k ∷ token.sign 123 ∷ []) ++ all_told parts) (token.sign 125 ∷ token.word own ∷ token.sign 59 ∷ [])
    (reads_append (line n (k ++ codes " {")) inside [] [] [] (token.word k ∷ token.sign 123 ∷ []) (all_told parts)
    (reads_line n (k ++ codes " {") (token.word k ∷ token.sign 123 ∷ []) (reads_opening k word)) reads)
    (reads_end depth own own_word))

-- a Grid's parts
abbrev grid_slots : ℕ → ℕ → ℕ → ArrayDecl → List ArrayDecl → List Judged
grid_slots sd n k a maps =
    fine (keyword (codes "Array")) ∷ colon ∷ array_slots 32 None (head sd n (type_word a.base)) [] a ++ fine (keyword (codes "Maps")) ∷ colon ∷ map_slots sd k (a.name ∷ []) (sizes a) maps

reads_grid : (depth sd n k pd : ℕ) (a : ArrayDecl) (maps : List ArrayDecl) → All IsFine (leaf_places pd [] (map array (a ∷ maps)))
    → Reads (line (4 * depth + 2) (codes "Array:") ++ array_text (depth + 1) a ++ line (4 * depth + 2) (codes "Maps:") ++ flat_map (array_text (depth + 1)) maps) [] (all_told (grid_slots sd n k a maps)) []
reads_grid depth sd n k pd a maps fine' =
    let later = leaf_places pd (a.name ∷ []) (map array maps) in
    let A : List ℕ = line (4 * depth + 2) (codes "Array:") in
    let M : List ℕ = line (4 * depth + 2) (codes "Maps:") in
    let rest : List ℕ = flat_map (array_text (depth + 1)) maps in
    let TA : List Token = token.word (type_word a.base) ∷ token.word a.name ∷ all_told (dim_slots 32 None 1 a.dims ++ semicolon ∷ []) in
    let TM : List Token = all_told (map_slots sd k (a.name ∷ []) (sizes a) maps) in
    let array_word : List Token = token.word (codes "Array") ∷ token.sign 58 ∷ [] in
    let maps_word : List Token = token.word (codes "Maps") ∷ token.sign 58 ∷ [] in
    reads_as (A ++ array_text (depth + 1) a ++ M ++ rest) [] (((array_word ++ TA) ++ maps_word) ++ TM) (all_told (grid_slots sd n k a maps)) []
    (append_assoc (array_word ++ TA) maps_word TM
    ∙ sym (told-append (fine (keyword (codes "Array")) ∷ colon ∷ array_slots 32 None (head sd n (type_word a.base)) [] a) (fine (keyword (codes "Maps")) ∷ colon ∷ map_slots sd k (a.name ∷ []) (sizes a) maps)))
    (reads_append (A ++ array_text (depth + 1) a ++ M) rest [] [] [] ((array_word ++ TA) ++ maps_word) TM
    (reads_append (A ++ array_text (depth + 1) a) M [] [] [] (array_word ++ TA) maps_word
    (reads_append A (array_text (depth + 1) a) [] [] [] array_word TA
    (reads_line (4 * depth + 2) (codes "Array:") array_word (reads_word_sign (codes "Array") 58 refl refl))
    (reads_fine_array (depth + 1) 32 None a (all_first IsFine (place pd [] (array a)) later fine')))
    (reads_line (4 * depth + 2) (codes "Maps:") maps_word (reads_word_sign (codes "Maps") 58 refl refl)))
    (reads_maps (depth + 1) sd k pd (a.name ∷ []) (a.name ∷ []) (sizes a) maps (all_rest IsFine (place pd [] (array a)) later fine')))

regroup : (a b c d e f : List ℕ) → a ++ b ++ c ++ d ++ e ++ f ≡ a ++ (b ++ c ++ d ++ e) ++ f
regroup a b c d e f = simp append_assoc

mutual
  reads_member : (m : Member) (depth sd n pd : ℕ) (before : List (List ℕ)) → (are_words m ≡ true) × IsSized m → All IsFine (part_places pd m) → Reads (member_text depth m) [] (all_told (slots sd n before m)) []
  reads_member (scalar c) depth sd n pd before here inside = reads_column depth c here.0
  reads_member (array a) depth sd n pd before here inside = reads_fine_array depth 32 None a here
  reads_member (structure own parts) depth sd n pd before here inside =
      reads_whole depth (4 * depth) (codes "Structure") (members_text (depth + 1) parts) own (slots_all (sd + 1) (n + 1) [] parts) (nat_lt 16 sd || nat_lt 1000000 n) false before refl here.0
      (reads_members parts (depth + 1) (sd + 1) (n + 1) pd [] [] inside)
  reads_member (grid own a maps) depth sd n pd before here inside =
      subst (λ text. Reads text [] (all_told (slots sd n before (grid own a maps))) [])
      (sym (regroup (line (4 * depth) (codes "Grid {")) (line (4 * depth + 2) (codes "Array:")) (array_text (depth + 1) a) (line (4 * depth + 2) (codes "Maps:")) (flat_map (array_text (depth + 1)) maps) (closing depth own)))
      (reads_whole depth (4 * depth) (codes "Grid") (line (4 * depth + 2) (codes "Array:") ++ array_text (depth + 1) a ++ line (4 * depth + 2) (codes "Maps:") ++ flat_map (array_text (depth + 1)) maps) own
      (grid_slots (sd + 1) (n + 1) (n + 2) a maps) (nat_lt 16 sd || nat_lt 1000000 n) (nat_lt (length maps) (length a.dims)) before refl here.0 (reads_grid depth (sd + 1) (n + 1) (n + 2) pd a maps inside))
  reads_member (sequence own columns) depth sd n pd before here inside =
      reads_whole depth (4 * depth) (codes "Sequence") (flat_map (column_text (depth + 1)) columns) own (column_slots (sd + 1) (n + 1) [] columns) (nat_lt 16 sd || nat_lt 1000000 n) false before refl here.0
      (reads_columns (depth + 1) (sd + 1) (n + 1) pd [] [] columns inside)

  reads_members : (ms : Members) (depth sd n pd : ℕ) (before earlier : List (List ℕ)) → All IsFine (places pd earlier ms) → Reads (members_text depth ms) [] (all_told (slots_all sd n before ms)) []
  reads_members no_members depth sd n pd before earlier all = reads_none []
  reads_members (member m ms) depth sd n pd before earlier all =
      let later : List Place = places pd (name_of m ∷ earlier) ms in
      let inside = all_rest IsFine (place pd earlier m) (part_places (pd + 1) m ++ later) all in
      reads_as (member_text depth m ++ members_text depth ms) [] (all_told (slots sd n before m) ++ all_told (slots_all sd (n + count m) (name_of m ∷ before) ms)) (all_told (slots_all sd n before (member m ms))) []
      (sym (told-append (slots sd n before m) (slots_all sd (n + count m) (name_of m ∷ before) ms)))
      (reads_append (member_text depth m) (members_text depth ms) [] [] [] (all_told (slots sd n before m)) (all_told (slots_all sd (n + count m) (name_of m ∷ before) ms))
      (reads_member m depth sd n (pd + 1) before (all_first IsFine (place pd earlier m) (part_places (pd + 1) m ++ later) all) (all_front IsFine (part_places (pd + 1) m) later inside))
      (reads_members ms depth sd (n + count m) pd (name_of m ∷ before) (name_of m ∷ earlier) (all_back IsFine (part_places (pd + 1) m) later inside)))

reads_dataset : (d : Dataset) → is_word d.name ≡ true → All IsFine (places_of d) → Reads (dds d) [] (all_told (dataset_slots d)) []
unfolding dds
reads_dataset d own all =
    reads_whole 0 0 (codes "Dataset") (members_text 1 d.members) d.name (slots_all 1 1 [] d.members) false false [] refl own (reads_members d.members 1 1 1 1 [] [] all)

all_fine : (d : Dataset) → HasWords d → IsWellFormed d → All IsFine (places_of d)
all_fine d words is k p lt = (words.inside k p lt, is.sized k p lt)

-- the tokens of a printed DDS are those of its slots
pub tokens_of-dds : (d : Dataset) → HasWords d → IsWellFormed d → tokens_of (dds d) ≡ all_told (dataset_slots d)
tokens_of-dds d words is =
    ap tokens_of (sym (append-nil (dds d))) ∙ reads_dataset d words.own (all_fine d words is) 0 [] ∙ append-nil (all_told (dataset_slots d))

-- the printed text up to its last `;`
abbrev pub dds_text : Dataset → List ℕ
dds_text d = line 0 (codes "Dataset {") ++ members_text 1 d.members ++ (codes "} " ++ d.name ++ codes ";")

pub dds-text : (d : Dataset) → dds d ≡ dds_text d ++ codes "\n"
unfolding dds closing line
dds-text d = sym (append_assoc (line 0 (codes "Dataset {") ++ members_text 1 d.members) (codes "} " ++ d.name ++ codes ";") (codes "\n"))

-- it has the same tokens
pub tokens_of-dds_text : (d : Dataset) → HasWords d → IsWellFormed d → tokens_of (dds_text d) ≡ all_told (dataset_slots d)
tokens_of-dds_text d words is =
    let inside : List ℕ = members_text 1 d.members in
    let parts : List Judged = slots_all 1 1 [] d.members in
    let first : List Token = token.word (codes "Dataset") ∷ token.sign 123 ∷ [] in
    let reads = reads_as (dds_text d) [] ((first ++ all_told parts) ++ (token.sign 125 ∷ token.word d.name ∷ token.sign 59 ∷ [])) (all_told (dataset_slots d)) []
    (sym (whole_told (codes "Dataset") false parts false [] d.name))
    (reads_append (line 0 (codes "Dataset {") ++ inside) (codes "} " ++ d.name ++ codes ";") [] [] [] (first ++ all_told parts) (token.sign 125 ∷ token.word d.name ∷ token.sign 59 ∷ [])
    (reads_append (line 0 (codes "Dataset {")) inside [] [] [] first (all_told parts) (reads_line 0 (codes "Dataset {") first (reads_opening (codes "Dataset") refl))
    (reads_members d.members 1 1 1 1 [] [] (all_fine d words is)))
    (reads_closing d.name words.own)) in
    ap tokens_of (sym (append-nil (dds_text d))) ∙ reads 0 [] ∙ append-nil (all_told (dataset_slots d))
