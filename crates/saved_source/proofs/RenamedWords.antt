-- The names that a saved response is served under are words: a word of bytes is one too where a constraint
-- spells it.
use Rattle.std.proofs.Common.{◌≡◌, ℕ, zero, suc, ◌<◌, Bool, true, false, ◌&&◌, ◌==◌, cond, ltb, List, [], ◌∷◌, ◌++◌, length, map, All, Option, Some, None, IsTrue, refl, sym, ap, subst, ◌∙◌, arith, length-append, append-nil}
use Rattle.std.specs.List.{list_all}
use Rattle.std.specs.Option.{option_map_or}
use Rattle.std.proofs.lemmas.Bool.{and_from}
use Rattle.std.proofs.lemmas.Bool.Decides.{nat_tests}
use Rattle.std.proofs.lemmas.List.Elements.{All-append, All-cons, All-head, All-nil, All-tail}
use Rattle.std.proofs.lemmas.List.Folds.{list_all-append}
use Rattle.plain_lemmas.proofs.Truths.{both_true}
use Rattle.dap_types.proofs.Preorder.{preorder-places}
use Rattle.dap_types.specs.Model.{Member, scalar, array, structure, grid, sequence, Members, no_members, member, Dataset}
use Rattle.dap_types.specs.Names.{begins_with_digits, constraint_id, constraint_id_from, escaped_byte, upper_case}
use Rattle.dap_types.specs.Preorder.{preorder, preorder_all}
use Rattle.dap_types.specs.WellFormed.{Place, places_of}
use Rattle.dap_types.specs.declared.bytes.Id.{Id}
use Rattle.dap_types.specs.declared.declarations.ArrayDecl.{ArrayDecl}
use Rattle.dap_types.specs.declared.declarations.Column.{Column}
use Rattle.dap_types.specs.declared.declarations.Dim.{Dim}
use Rattle.dap_model.proofs.Values.{all_first, all_rest}
use Rattle.dap_model.specs.Grammar.{are_words}
use Rattle.dap_model.specs.Tokens.{is_plain, is_word}
use Rattle.file_names.proofs.Words.{AreBytes, IsByte, file_word, below}
use Rattle.saved_source.proofs.NamesOfText.{AllNamed, Named, NamedArray, NamedArrays, NamedColumns, NamedDim, NamedDims, OfWord}
use Rattle.saved_source.specs.Responses.{renamed, renamed_all, renamed_array, renamed_column, saved_dataset}
use Rattle.dap_model.proofs.FilteredWords.{IsOfWords, has_word}

-- a plain byte stays plain in upper case
abbrev stays_plain : ℕ → Bool
stays_plain b = cond (is_plain b) (is_plain (upper_case b)) true

upper_plain : (b : ℕ) → b < 256 → is_plain b ≡ true → is_plain (upper_case b) ≡ true
upper_plain b lt plain = sym (ap (λ c. cond c (is_plain (upper_case b)) true) plain) ∙ below stays_plain 256 b refl lt

escaped_plain : (b : ℕ) → b < 256 → (list_all is_plain (escaped_byte b) ≡ true) × (0 < length (escaped_byte b))
escaped_plain b lt =
    let word : is_word (escaped_byte b) ≡ true = ap is_word (sym (append-nil (escaped_byte b))) ∙ file_word (b ∷ []) (omega arith, All-cons IsByte b [] lt (All-nil IsByte)) in
    let parts = both_true (ltb 0 (length (escaped_byte b))) (list_all is_plain (escaped_byte b)) word in
    (parts.1, grind (arith, nat_tests, parts.0))

spelled_plain : (left : ℕ) (bytes : List ℕ) → list_all is_plain bytes ≡ true → AreBytes bytes → list_all is_plain (constraint_id_from left bytes) ≡ true
spelled_plain left [] plain are = refl
spelled_plain (suc left) (b ∷ bytes) plain are =
    let parts = both_true (is_plain b) (list_all is_plain bytes) plain in
    and_from (is_plain (upper_case b)) (list_all is_plain (constraint_id_from left bytes)) (upper_plain b (All-head IsByte b bytes are) parts.0) (spelled_plain left bytes parts.1 (All-tail IsByte b bytes are))
spelled_plain zero (b ∷ bytes) plain are =
    let parts = both_true (is_plain b) (list_all is_plain bytes) plain in
    by ((b == 37) && begins_with_digits bytes) (λ left. spelled_plain left bytes parts.1 (All-tail IsByte b bytes are))
  where
    by : (c : Bool) → ((left : ℕ) → list_all is_plain (constraint_id_from left bytes) ≡ true) → list_all is_plain (cond c (37 ∷ []) (escaped_byte b) ++ constraint_id_from (cond c 2 0) bytes) ≡ true
    by true rest = rest 2
    by false rest =
        list_all-append is_plain (escaped_byte b) (constraint_id_from 0 bytes)
        ∙ and_from (list_all is_plain (escaped_byte b)) (list_all is_plain (constraint_id_from 0 bytes)) (escaped_plain b (All-head IsByte b bytes are)).0 (rest 0)

spelled_some : (bytes : List ℕ) → 0 < length bytes → AreBytes bytes → 0 < length (constraint_id_from 0 bytes)
spelled_some [] some are = absurd (omega (arith, some))
spelled_some (b ∷ bytes) some are = by ((b == 37) && begins_with_digits bytes)
  where
    by : (c : Bool) → 0 < length (cond c (37 ∷ []) (escaped_byte b) ++ constraint_id_from (cond c 2 0) bytes)
    by true = omega arith
    by false = omega (arith, (escaped_plain b (All-head IsByte b bytes are)).1, length-append (escaped_byte b) (constraint_id_from 0 bytes))

pub word_spelled : (w : List ℕ) → OfWord w → is_word (constraint_id w) ≡ true
unfolding constraint_id
word_spelled w (word, are) =
    let parts = both_true (ltb 0 (length w)) (list_all is_plain w) word in
    let some : 0 < length w = grind (arith, nat_tests, parts.0) in
    let out : 0 < length (constraint_id_from 0 w) = spelled_some w some are in
    and_from (ltb 0 (length (constraint_id_from 0 w))) (list_all is_plain (constraint_id_from 0 w)) (grind (arith, nat_tests, out)) (spelled_plain 0 w parts.1 are)

dims_words : (dims : List Dim) → NamedDims dims → list_all has_word dims ≡ true
dims_words [] named = refl
dims_words (d ∷ dims) named = and_from (has_word d) (list_all has_word dims) (own d.name named.0) (dims_words dims named.1)
  where
    own : (o : Option Id) → NamedDim o → option_map_or is_word o true ≡ true
    own None named = refl
    own (Some n) named = named.0

array_words : (a : ArrayDecl) → NamedArray a → IsOfWords (array (renamed_array a))
array_words a named = and_from (is_word (constraint_id a.name)) (list_all has_word a.dims) (word_spelled a.name named.0) (dims_words a.dims named.1)

arrays_words : (arrays : List ArrayDecl) → NamedArrays arrays → All IsOfWords (map array (map renamed_array arrays))
arrays_words [] named = All-nil IsOfWords
arrays_words (a ∷ arrays) named = All-cons IsOfWords (array (renamed_array a)) (map array (map renamed_array arrays)) (array_words a named.0) (arrays_words arrays named.1)

columns_words : (columns : List Column) → NamedColumns columns → All IsOfWords (map scalar (map renamed_column columns))
columns_words [] named = All-nil IsOfWords
columns_words (c ∷ columns) named = All-cons IsOfWords (scalar (renamed_column c)) (map scalar (map renamed_column columns)) (word_spelled c.name named.0) (columns_words columns named.1)

mutual
  member_words : (m : Member) → Named m → All IsOfWords (preorder (renamed m))
  member_words (scalar c) named = All-cons IsOfWords (scalar (renamed_column c)) [] (word_spelled c.name named) (All-nil IsOfWords)
  member_words (array a) named = All-cons IsOfWords (array (renamed_array a)) [] (array_words a named) (All-nil IsOfWords)
  member_words (structure own parts) named = All-cons IsOfWords (structure (constraint_id own) (renamed_all parts)) (preorder_all (renamed_all parts)) (word_spelled own named.0) (members_words parts named.1)
  member_words (grid own a maps) named =
      All-cons IsOfWords (grid (constraint_id own) (renamed_array a) (map renamed_array maps)) (array (renamed_array a) ∷ map array (map renamed_array maps)) (word_spelled own named.0)
      (All-cons IsOfWords (array (renamed_array a)) (map array (map renamed_array maps)) (array_words a named.1) (arrays_words maps named.2))
  member_words (sequence own columns) named = All-cons IsOfWords (sequence (constraint_id own) (map renamed_column columns)) (map scalar (map renamed_column columns)) (word_spelled own named.0) (columns_words columns named.1)

  pub members_words : (ms : Members) → AllNamed ms → All IsOfWords (preorder_all (renamed_all ms))
  members_words no_members named = All-nil IsOfWords
  members_words (member m ms) named = All-append IsOfWords (preorder (renamed m)) (preorder_all (renamed_all ms)) (member_words m named.0) (members_words ms named.1)

-- the members of a dataset one by one
at_places : (ps : List Place) → All IsOfWords (map (λ (p : Place). p.variable) ps) → All (λ p. IsTrue (are_words p.variable)) ps
at_places [] all = All-nil (λ (p : Place). are_words p.variable ≡ true)
at_places (p ∷ ps) all =
    All-cons (λ (q : Place). are_words q.variable ≡ true) p ps (all_first IsOfWords p.variable (map (λ (q : Place). q.variable) ps) all)
    (at_places ps (all_rest IsOfWords p.variable (map (λ (q : Place). q.variable) ps) all))

pub words_inside : (name : List ℕ) (d : Dataset) → AllNamed d.members → All (λ p. IsTrue (are_words p.variable)) (places_of (saved_dataset name d))
words_inside name d named = at_places (places_of (saved_dataset name d)) (subst (All IsOfWords) (sym (preorder-places (renamed_all d.members) 1 [])) (members_words d.members named))
