-- Two datasets whose slots the same tokens spell, token by token: whatever is so of two slot lists as
-- soon as it is so of their rests, wherever one token spells both first slots, is so of the two.
use Rattle.std.proofs.Common.{◌≡◌, ℕ, ◌+◌, List, [], ◌∷◌, ◌++◌, length, Bool, true, false, ◌||◌, ◌==◌, nat_lt, Option, Some, None, refl, ap, sym, subst, codes, append_assoc}
use Rattle.std.proofs.lemmas.Bool.{false≢true}
use Rattle.std.specs.List.{list_any}
use Rattle.std.specs.Str.{bytes_eq, str_to_ascii_lowercase}
use Rattle.plain_lemmas.proofs.Truths.{both_true}
use Rattle.dap_types.specs.Model.{Member, scalar, array, structure, grid, sequence, Members, no_members, member, Dataset, name_of, count, sizes}
use Rattle.dap_types.specs.declared.declarations.ArrayDecl.{ArrayDecl}
use Rattle.dap_types.specs.declared.declarations.Column.{Column}
use Rattle.dap_types.specs.declared.declarations.Dim.{Dim}
use Rattle.dap_model.proofs.Words.{same_name, same_size, same_keyword, apart_signs, no_sign_keyword, same_type, kind, kinds_apart, type_kind, structure_kind, grid_kind, sequence_kind}
use Rattle.dap_model.specs.Dds.{type_word}
use Rattle.dap_model.specs.Grammar.{keyword, name, size, sign, spells, Judged, fine, opens, closes, end_of_dim, semicolon, equals, colon, head, named, is_other, size_slots, dim_slots, scalar_slots, array_slots, column_slots, map_slots, slots, slots_all, dataset_slots, has_dims, have_dims, all_have_dims}
use Rattle.dap_model.specs.Tokens.{Token}

-- a slot for a sign or a keyword, broken or not
abbrev pub sign_slot : ℕ → Bool → Judged
sign_slot b broken = record { slot = sign b; broken = broken }

abbrev pub word_slot : List ℕ → Bool → Judged
word_slot k broken = record { slot = keyword k; broken = broken }

array_is : (a a' : ArrayDecl) → a.base ≡ a'.base → a.name ≡ a'.name → a.dims ≡ a'.dims → a ≡ a'
array_is a a' base own dims = λ i. record { name = own i; base = base i; dims = dims i }

column_is : (c c' : Column) → c.base ≡ c'.base → c.name ≡ c'.name → c ≡ c'
column_is c c' base own = λ i. record { name = own i; base = base i }

dim_is : (d d' : Dim) → d.name ≡ d'.name → d.size ≡ d'.size → d ≡ d'
dim_is d d' own n = λ i. record { name = own i; size = n i }

cons_is : {X : Type 0} (x x' : X) (xs xs' : List X) → x ≡ x' → xs ≡ xs' → x ∷ xs ≡ x' ∷ xs'
cons_is x x' xs xs' one rest = λ i. one i ∷ rest i

module _ (Q : List Judged → List Judged → Type 0)
    (step : (j j' : Judged) (js js' : List Judged) → ((t : Token) → spells j.slot t ≡ true → spells j'.slot t ≡ true → (j.broken ≡ j'.broken) × Q js js') → Q (j ∷ js) (j' ∷ js')) where
  same_slot : (j : Judged) (js js' : List Judged) → Q js js' → Q (j ∷ js) (j ∷ js')
  same_slot j js js' rest = step j j js js' (λ t a b. (refl, rest))

  never : (j j' : Judged) (js js' : List Judged) → ((t : Token) → spells j.slot t ≡ true → spells j'.slot t ≡ true → ⊥) → Q (j ∷ js) (j' ∷ js')
  never j j' js js' apart = step j j' js js' (λ t a b. absurd (apart t a b))

  regroup : (a b c a' b' c' : List Judged) → Q (a ++ (b ++ c)) (a' ++ (b' ++ c')) → Q ((a ++ b) ++ c) ((a' ++ b') ++ c')
  regroup a b c a' b' c' q = subst (λ js. Q js ((a' ++ b') ++ c')) (sym (append_assoc a b c)) (subst (λ js. Q (a ++ (b ++ c)) js) (sym (append_assoc a' b' c')) q)

  names : (before : List (List ℕ)) (n n' : List ℕ) (js js' : List Judged) → (n ≡ n' → Q js js') → Q (named before n ∷ js) (named before n' ∷ js')
  names before n n' js js' rest =
      step (named before n) (named before n') js js' (λ t a b. let same = same_name n n' t a b in (ap (λ x. list_any (bytes_eq x) before) same, rest same))

  words : (broken : Bool) (k k' : List ℕ) (js js' : List Judged) → (str_to_ascii_lowercase k ≡ str_to_ascii_lowercase k' → Q js js') → Q (word_slot k broken ∷ js) (word_slot k' broken ∷ js')
  words broken k k' js js' rest = step (word_slot k broken) (word_slot k' broken) js js' (λ t a b. (refl, rest (same_keyword k k' t a b)))

  size_same : (wanted : Option ℕ) (own own' : Option (List ℕ)) (n n' : ℕ) (js js' : List Judged) → (own ≡ own' → n ≡ n' → Q js js') → Q (size_slots wanted own n ++ js) (size_slots wanted own' n' ++ js')
  size_same wanted None None n n' js js' rest =
      step (fine (size n)) (fine (size n')) (sign_slot 93 (is_other wanted n) ∷ js) (sign_slot 93 (is_other wanted n') ∷ js')
      (λ t a b. let same = same_size n n' t a b in
      (refl, step (sign_slot 93 (is_other wanted n)) (sign_slot 93 (is_other wanted n')) js js' (λ u c d. (ap (is_other wanted) same, rest refl same))))
  size_same wanted None (Some dim') n n' js js' rest =
      step (fine (size n)) (fine (name dim')) (sign_slot 93 (is_other wanted n) ∷ js) (equals ∷ record { slot = size n'; broken = is_other wanted n' } ∷ end_of_dim ∷ js')
      (λ t a b. (refl, never (sign_slot 93 (is_other wanted n)) equals js (record { slot = size n'; broken = is_other wanted n' } ∷ end_of_dim ∷ js') (apart_signs 93 61 refl)))
  size_same wanted (Some dim) None n n' js js' rest =
      step (fine (name dim)) (fine (size n')) (equals ∷ record { slot = size n; broken = is_other wanted n } ∷ end_of_dim ∷ js) (sign_slot 93 (is_other wanted n') ∷ js')
      (λ t a b. (refl, never equals (sign_slot 93 (is_other wanted n')) (record { slot = size n; broken = is_other wanted n } ∷ end_of_dim ∷ js) js' (apart_signs 61 93 refl)))
  size_same wanted (Some dim) (Some dim') n n' js js' rest =
      let left : List Judged = record { slot = size n; broken = is_other wanted n } ∷ end_of_dim ∷ js in
      let right : List Judged = record { slot = size n'; broken = is_other wanted n' } ∷ end_of_dim ∷ js' in
      step (fine (name dim)) (fine (name dim')) (equals ∷ left) (equals ∷ right)
      (λ t a b. (
        refl,
        same_slot equals left right
            (step (record { slot = size n; broken = is_other wanted n }) (record { slot = size n'; broken = is_other wanted n' }) (end_of_dim ∷ js) (end_of_dim ∷ js')
            (λ u c d. let same = same_size n n' u c d in (ap (is_other wanted) same, same_slot end_of_dim js js' (rest (ap Some (same_name dim dim' t a b)) same)))),
      ))

  dims_same : (most : ℕ) (wanted : Option ℕ) (k : ℕ) (dims dims' : List Dim) (js js' : List Judged) → (dims ≡ dims' → Q js js')
      → Q (dim_slots most wanted k dims ++ semicolon ∷ js) (dim_slots most wanted k dims' ++ semicolon ∷ js')
  dims_same most wanted k [] [] js js' rest = same_slot semicolon js js' (rest refl)
  dims_same most wanted k [] (d ∷ ds) js js' rest =
      never semicolon (sign_slot 91 (nat_lt most k)) js ((size_slots wanted d.name d.size ++ dim_slots most wanted (k + 1) ds) ++ semicolon ∷ js') (apart_signs 59 91 refl)
  dims_same most wanted k (d ∷ ds) [] js js' rest =
      never (sign_slot 91 (nat_lt most k)) semicolon ((size_slots wanted d.name d.size ++ dim_slots most wanted (k + 1) ds) ++ semicolon ∷ js) js' (apart_signs 91 59 refl)
  dims_same most wanted k (d ∷ ds) (e ∷ es) js js' rest =
      let left : List Judged = dim_slots most wanted (k + 1) ds in
      let right : List Judged = dim_slots most wanted (k + 1) es in
      same_slot (sign_slot 91 (nat_lt most k)) ((size_slots wanted d.name d.size ++ left) ++ semicolon ∷ js) ((size_slots wanted e.name e.size ++ right) ++ semicolon ∷ js')
      (regroup (size_slots wanted d.name d.size) left (semicolon ∷ js) (size_slots wanted e.name e.size) right (semicolon ∷ js')
      (size_same wanted d.name e.name d.size e.size (left ++ semicolon ∷ js) (right ++ semicolon ∷ js')
      (λ own n. dims_same most wanted (k + 1) ds es js js' (λ more. rest (cons_is d e ds es (dim_is d e own n) more)))))

  -- an array behind its type word
  tail_same : (most : ℕ) (wanted : Option ℕ) (before : List (List ℕ)) (a a' : ArrayDecl) (js js' : List Judged) → (a.name ≡ a'.name → a.dims ≡ a'.dims → Q js js')
      → Q ((named before a.name ∷ dim_slots most wanted 1 a.dims ++ semicolon ∷ []) ++ js) ((named before a'.name ∷ dim_slots most wanted 1 a'.dims ++ semicolon ∷ []) ++ js')
  tail_same most wanted before a a' js js' rest =
      names before a.name a'.name ((dim_slots most wanted 1 a.dims ++ semicolon ∷ []) ++ js) ((dim_slots most wanted 1 a'.dims ++ semicolon ∷ []) ++ js')
      (λ own. regroup (dim_slots most wanted 1 a.dims) (semicolon ∷ []) js (dim_slots most wanted 1 a'.dims) (semicolon ∷ []) js' (dims_same most wanted 1 a.dims a'.dims js js' (rest own)))

  array_same : (broken : Bool) (most : ℕ) (wanted : Option ℕ) (before : List (List ℕ)) (a a' : ArrayDecl) (js js' : List Judged) → (a ≡ a' → Q js js')
      → Q (array_slots most wanted (word_slot (type_word a.base) broken) before a ++ js) (array_slots most wanted (word_slot (type_word a'.base) broken) before a' ++ js')
  array_same broken most wanted before a a' js js' rest =
      words broken (type_word a.base) (type_word a'.base) ((named before a.name ∷ dim_slots most wanted 1 a.dims ++ semicolon ∷ []) ++ js) ((named before a'.name ∷ dim_slots most wanted 1 a'.dims ++ semicolon ∷ []) ++ js')
      (λ base. tail_same most wanted before a a' js js' (λ own dims. rest (array_is a a' (same_type a.base a'.base base) own dims)))

  scalar_same : (depth n : ℕ) (before : List (List ℕ)) (c c' : Column) (js js' : List Judged) → (c ≡ c' → Q js js') → Q (scalar_slots depth n before c ++ js) (scalar_slots depth n before c' ++ js')
  scalar_same depth n before c c' js js' rest =
      words (nat_lt 16 depth || nat_lt 1000000 n) (type_word c.base) (type_word c'.base) (named before c.name ∷ semicolon ∷ js) (named before c'.name ∷ semicolon ∷ js')
      (λ base. names before c.name c'.name (semicolon ∷ js) (semicolon ∷ js') (λ own. same_slot semicolon js js' (rest (column_is c c' (same_type c.base c'.base base) own))))

  -- an array has a dimension, and a scalar has none
  no_dim : (most : ℕ) (dims : List Dim) (js js' : List Judged) → nat_lt 0 (length dims) ≡ true → Q (semicolon ∷ js) ((dim_slots most None 1 dims ++ semicolon ∷ []) ++ js')
  no_dim most [] js js' some = absurd (false≢true some)
  no_dim most (d ∷ ds) js js' some =
      never semicolon (sign_slot 91 (nat_lt most 1)) js (((size_slots None d.name d.size ++ dim_slots most None (1 + 1) ds) ++ semicolon ∷ []) ++ js') (apart_signs 59 91 refl)

  a_dim : (most : ℕ) (dims : List Dim) (js js' : List Judged) → nat_lt 0 (length dims) ≡ true → Q ((dim_slots most None 1 dims ++ semicolon ∷ []) ++ js) (semicolon ∷ js')
  a_dim most [] js js' some = absurd (false≢true some)
  a_dim most (d ∷ ds) js js' some =
      never (sign_slot 91 (nat_lt most 1)) semicolon (((size_slots None d.name d.size ++ dim_slots most None (1 + 1) ds) ++ semicolon ∷ []) ++ js) js' (apart_signs 91 59 refl)

  scalar_array : (depth n : ℕ) (before : List (List ℕ)) (c : Column) (a : ArrayDecl) (js js' : List Judged) → has_dims a ≡ true
      → Q (scalar_slots depth n before c ++ js) (array_slots 32 None (head depth n (type_word a.base)) before a ++ js')
  scalar_array depth n before c a js js' some =
      words (nat_lt 16 depth || nat_lt 1000000 n) (type_word c.base) (type_word a.base) (named before c.name ∷ semicolon ∷ js) ((named before a.name ∷ dim_slots 32 None 1 a.dims ++ semicolon ∷ []) ++ js')
      (λ base. names before c.name a.name (semicolon ∷ js) ((dim_slots 32 None 1 a.dims ++ semicolon ∷ []) ++ js') (λ own. no_dim 32 a.dims js js' some))

  array_scalar : (depth n : ℕ) (before : List (List ℕ)) (a : ArrayDecl) (c : Column) (js js' : List Judged) → has_dims a ≡ true
      → Q (array_slots 32 None (head depth n (type_word a.base)) before a ++ js) (scalar_slots depth n before c ++ js')
  array_scalar depth n before a c js js' some =
      words (nat_lt 16 depth || nat_lt 1000000 n) (type_word a.base) (type_word c.base) ((named before a.name ∷ dim_slots 32 None 1 a.dims ++ semicolon ∷ []) ++ js) (named before c.name ∷ semicolon ∷ js')
      (λ base. names before a.name c.name ((dim_slots 32 None 1 a.dims ++ semicolon ∷ []) ++ js) (semicolon ∷ js') (λ own. a_dim 32 a.dims js js' some))

  columns_same : (depth n : ℕ) (before : List (List ℕ)) (cs cs' : List Column) (js js' : List Judged) → (cs ≡ cs' → Q (closes ∷ js) (closes ∷ js'))
      → Q (column_slots depth n before cs ++ closes ∷ js) (column_slots depth n before cs' ++ closes ∷ js')
  columns_same depth n before [] [] js js' rest = rest refl
  columns_same depth n before [] (c ∷ cs) js js' rest =
      never closes (head depth n (type_word c.base)) js ((named before c.name ∷ semicolon ∷ column_slots depth (n + 1) (c.name ∷ before) cs) ++ closes ∷ js') (λ t a b. no_sign_keyword 125 (type_word c.base) t a b)
  columns_same depth n before (c ∷ cs) [] js js' rest =
      never (head depth n (type_word c.base)) closes ((named before c.name ∷ semicolon ∷ column_slots depth (n + 1) (c.name ∷ before) cs) ++ closes ∷ js) js' (λ t a b. no_sign_keyword 125 (type_word c.base) t b a)
  columns_same depth n before (c ∷ cs) (c' ∷ cs') js js' rest =
      scalar_same depth n before c c' (column_slots depth (n + 1) (c.name ∷ before) cs ++ closes ∷ js) (column_slots depth (n + 1) (c'.name ∷ before) cs' ++ closes ∷ js')
      (λ one. subst (λ (x : Column). Q (column_slots depth (n + 1) (c.name ∷ before) cs ++ closes ∷ js) (column_slots depth (n + 1) (x.name ∷ before) cs' ++ closes ∷ js')) one
      (columns_same depth (n + 1) (c.name ∷ before) cs cs' js js' (λ more. rest (cons_is c c' cs cs' one more))))

  map_same : (broken : Bool) (depth n : ℕ) (before : List (List ℕ)) (wanted : Option ℕ) (rest_wanted : List ℕ) (m m' : ArrayDecl) (maps maps' : List ArrayDecl) (js js' : List Judged)
      → (m ≡ m' → Q (map_slots depth (n + 1) (m.name ∷ before) rest_wanted maps ++ js) (map_slots depth (n + 1) (m'.name ∷ before) rest_wanted maps' ++ js'))
      → Q ((array_slots 1 wanted (word_slot (type_word m.base) broken) before m ++ map_slots depth (n + 1) (m.name ∷ before) rest_wanted maps) ++ js)
      ((array_slots 1 wanted (word_slot (type_word m'.base) broken) before m' ++ map_slots depth (n + 1) (m'.name ∷ before) rest_wanted maps') ++ js')
  map_same broken depth n before wanted rest_wanted m m' maps maps' js js' rest =
      regroup (array_slots 1 wanted (word_slot (type_word m.base) broken) before m) (map_slots depth (n + 1) (m.name ∷ before) rest_wanted maps) js
      (array_slots 1 wanted (word_slot (type_word m'.base) broken) before m') (map_slots depth (n + 1) (m'.name ∷ before) rest_wanted maps') js'
      (array_same broken 1 wanted before m m' (map_slots depth (n + 1) (m.name ∷ before) rest_wanted maps ++ js) (map_slots depth (n + 1) (m'.name ∷ before) rest_wanted maps' ++ js') rest)

  maps_same : (depth n : ℕ) (before : List (List ℕ)) (wanted : List ℕ) (maps maps' : List ArrayDecl) (b b' : Bool) (js js' : List Judged) → (maps ≡ maps' → Q (sign_slot 125 b ∷ js) (sign_slot 125 b' ∷ js'))
      → Q (map_slots depth n before wanted maps ++ sign_slot 125 b ∷ js) (map_slots depth n before wanted maps' ++ sign_slot 125 b' ∷ js')
  maps_same depth n before wanted [] [] b b' js js' rest = rest refl
  maps_same depth n before [] [] (m ∷ maps) b b' js js' rest =
      never (sign_slot 125 b) (word_slot (type_word m.base) true) js (((named before m.name ∷ dim_slots 1 None 1 m.dims ++ semicolon ∷ []) ++ map_slots depth (n + 1) (m.name ∷ before) [] maps) ++ sign_slot 125 b' ∷ js')
      (λ t x y. no_sign_keyword 125 (type_word m.base) t x y)
  maps_same depth n before (w ∷ wanted) [] (m ∷ maps) b b' js js' rest =
      never (sign_slot 125 b) (head depth n (type_word m.base)) js (((named before m.name ∷ dim_slots 1 (Some w) 1 m.dims ++ semicolon ∷ []) ++ map_slots depth (n + 1) (m.name ∷ before) wanted maps) ++ sign_slot 125 b' ∷ js')
      (λ t x y. no_sign_keyword 125 (type_word m.base) t x y)
  maps_same depth n before [] (m ∷ maps) [] b b' js js' rest =
      never (word_slot (type_word m.base) true) (sign_slot 125 b') (((named before m.name ∷ dim_slots 1 None 1 m.dims ++ semicolon ∷ []) ++ map_slots depth (n + 1) (m.name ∷ before) [] maps) ++ sign_slot 125 b ∷ js) js'
      (λ t x y. no_sign_keyword 125 (type_word m.base) t y x)
  maps_same depth n before (w ∷ wanted) (m ∷ maps) [] b b' js js' rest =
      never (head depth n (type_word m.base)) (sign_slot 125 b') (((named before m.name ∷ dim_slots 1 (Some w) 1 m.dims ++ semicolon ∷ []) ++ map_slots depth (n + 1) (m.name ∷ before) wanted maps) ++ sign_slot 125 b ∷ js) js'
      (λ t x y. no_sign_keyword 125 (type_word m.base) t y x)
  maps_same depth n before [] (m ∷ maps) (m' ∷ maps') b b' js js' rest =
      map_same true depth n before None [] m m' maps maps' (sign_slot 125 b ∷ js) (sign_slot 125 b' ∷ js')
      (λ one. subst (λ (x : ArrayDecl). Q (map_slots depth (n + 1) (m.name ∷ before) [] maps ++ sign_slot 125 b ∷ js) (map_slots depth (n + 1) (x.name ∷ before) [] maps' ++ sign_slot 125 b' ∷ js')) one
      (maps_same depth (n + 1) (m.name ∷ before) [] maps maps' b b' js js' (λ more. rest (cons_is m m' maps maps' one more))))
  maps_same depth n before (w ∷ wanted) (m ∷ maps) (m' ∷ maps') b b' js js' rest =
      map_same (nat_lt 16 depth || nat_lt 1000000 n) depth n before (Some w) wanted m m' maps maps' (sign_slot 125 b ∷ js) (sign_slot 125 b' ∷ js')
      (λ one. subst (λ (x : ArrayDecl). Q (map_slots depth (n + 1) (m.name ∷ before) wanted maps ++ sign_slot 125 b ∷ js) (map_slots depth (n + 1) (x.name ∷ before) wanted maps' ++ sign_slot 125 b' ∷ js')) one
      (maps_same depth (n + 1) (m.name ∷ before) wanted maps maps' b b' js js' (λ more. rest (cons_is m m' maps maps' one more))))

  -- a whole behind its word
  whole_same : (before : List (List ℕ)) (parts parts' : List Judged) (b b' : Bool) (own own' : List ℕ) (js js' : List Judged)
      → Q (parts ++ sign_slot 125 b ∷ named before own ∷ semicolon ∷ js) (parts' ++ sign_slot 125 b' ∷ named before own' ∷ semicolon ∷ js')
      → Q (opens ∷ (parts ++ sign_slot 125 b ∷ named before own ∷ semicolon ∷ []) ++ js) (opens ∷ (parts' ++ sign_slot 125 b' ∷ named before own' ∷ semicolon ∷ []) ++ js')
  whole_same before parts parts' b b' own own' js js' inside =
      same_slot opens ((parts ++ sign_slot 125 b ∷ named before own ∷ semicolon ∷ []) ++ js) ((parts' ++ sign_slot 125 b' ∷ named before own' ∷ semicolon ∷ []) ++ js')
      (regroup parts (sign_slot 125 b ∷ named before own ∷ semicolon ∷ []) js parts' (sign_slot 125 b' ∷ named before own' ∷ semicolon ∷ []) js' inside)

  -- the end of a whole
  end_same : (before : List (List ℕ)) (b b' : Bool) (own own' : List ℕ) (js js' : List Judged) → b ≡ b' → (own ≡ own' → Q js js')
      → Q (sign_slot 125 b ∷ named before own ∷ semicolon ∷ js) (sign_slot 125 b' ∷ named before own' ∷ semicolon ∷ js')
  end_same before b b' own own' js js' same rest =
      step (sign_slot 125 b) (sign_slot 125 b') (named before own ∷ semicolon ∷ js) (named before own' ∷ semicolon ∷ js')
      (λ t x y. (same, names before own own' (semicolon ∷ js) (semicolon ∷ js') (λ e. same_slot semicolon js js' (rest e))))

  -- a Grid's parts
  grid_same : (depth n k : ℕ) (a a' : ArrayDecl) (maps maps' : List ArrayDecl) (b b' : Bool) (js js' : List Judged)
      → (a ≡ a' → maps ≡ maps' → Q (sign_slot 125 b ∷ js) (sign_slot 125 b' ∷ js'))
      → Q ((fine (keyword (codes "Array")) ∷ colon ∷ array_slots 32 None (head depth n (type_word a.base)) [] a ++ fine (keyword (codes "Maps")) ∷ colon ∷ map_slots depth k (a.name ∷ []) (sizes a) maps) ++ sign_slot 125 b ∷ js)
      ((fine (keyword (codes "Array")) ∷ colon ∷ array_slots 32 None (head depth n (type_word a'.base)) [] a' ++ fine (keyword (codes "Maps")) ∷ colon ∷ map_slots depth k (a'.name ∷ []) (sizes a') maps') ++ sign_slot 125 b' ∷ js')
  grid_same depth n k a a' maps maps' b b' js js' rest =
      let arr : List Judged = array_slots 32 None (head depth n (type_word a.base)) [] a in
      let arr' : List Judged = array_slots 32 None (head depth n (type_word a'.base)) [] a' in
      let after : List Judged = fine (keyword (codes "Maps")) ∷ colon ∷ map_slots depth k (a.name ∷ []) (sizes a) maps in
      let after' : List Judged = fine (keyword (codes "Maps")) ∷ colon ∷ map_slots depth k (a'.name ∷ []) (sizes a') maps' in
      same_slot (fine (keyword (codes "Array"))) (colon ∷ (arr ++ after) ++ sign_slot 125 b ∷ js) (colon ∷ (arr' ++ after') ++ sign_slot 125 b' ∷ js')
      (same_slot colon ((arr ++ after) ++ sign_slot 125 b ∷ js) ((arr' ++ after') ++ sign_slot 125 b' ∷ js')
      (regroup arr after (sign_slot 125 b ∷ js) arr' after' (sign_slot 125 b' ∷ js')
      (array_same (nat_lt 16 depth || nat_lt 1000000 n) 32 None [] a a' (after ++ sign_slot 125 b ∷ js) (after' ++ sign_slot 125 b' ∷ js')
      (λ one. same_slot (fine (keyword (codes "Maps"))) (colon ∷ map_slots depth k (a.name ∷ []) (sizes a) maps ++ sign_slot 125 b ∷ js) (colon ∷ map_slots depth k (a'.name ∷ []) (sizes a') maps' ++ sign_slot 125 b' ∷ js')
      (same_slot colon (map_slots depth k (a.name ∷ []) (sizes a) maps ++ sign_slot 125 b ∷ js) (map_slots depth k (a'.name ∷ []) (sizes a') maps' ++ sign_slot 125 b' ∷ js')
      (subst (λ (x : ArrayDecl). Q (map_slots depth k (a.name ∷ []) (sizes a) maps ++ sign_slot 125 b ∷ js) (map_slots depth k (x.name ∷ []) (sizes x) maps' ++ sign_slot 125 b' ∷ js')) one
      (maps_same depth k (a.name ∷ []) (sizes a) maps maps' b b' js js' (rest one))))))))

  -- members of different kinds begin with different words
  unlike : (broken : Bool) (x y : List ℕ) (k k' : ℕ) (js js' : List Judged) → kind (str_to_ascii_lowercase x) ≡ k → kind (str_to_ascii_lowercase y) ≡ k' → (k == k') ≡ false → Q (word_slot x broken ∷ js) (word_slot y broken ∷ js')
  unlike broken x y k k' js js' is is' apart = words broken x y js js' (λ same. absurd (kinds_apart (str_to_ascii_lowercase x) (str_to_ascii_lowercase y) k k' is is' apart (ap kind same)))

  -- a member is no end of a whole
  end_member : (m : Member) (depth n : ℕ) (before : List (List ℕ)) (more js js' : List Judged) → Q (closes ∷ js) ((slots depth n before m ++ more) ++ closes ∷ js')
  end_member (scalar c) depth n before more js js' = never closes (head depth n (type_word c.base)) js _ (λ t x y. no_sign_keyword 125 (type_word c.base) t x y)
  end_member (array a) depth n before more js js' = never closes (head depth n (type_word a.base)) js _ (λ t x y. no_sign_keyword 125 (type_word a.base) t x y)
  end_member (structure own parts) depth n before more js js' = never closes (head depth n (codes "Structure")) js _ (λ t x y. no_sign_keyword 125 (codes "Structure") t x y)
  end_member (grid own a maps) depth n before more js js' = never closes (head depth n (codes "Grid")) js _ (λ t x y. no_sign_keyword 125 (codes "Grid") t x y)
  end_member (sequence own cs) depth n before more js js' = never closes (head depth n (codes "Sequence")) js _ (λ t x y. no_sign_keyword 125 (codes "Sequence") t x y)

  member_end : (m : Member) (depth n : ℕ) (before : List (List ℕ)) (more js js' : List Judged) → Q ((slots depth n before m ++ more) ++ closes ∷ js) (closes ∷ js')
  member_end (scalar c) depth n before more js js' = never (head depth n (type_word c.base)) closes _ js' (λ t x y. no_sign_keyword 125 (type_word c.base) t y x)
  member_end (array a) depth n before more js js' = never (head depth n (type_word a.base)) closes _ js' (λ t x y. no_sign_keyword 125 (type_word a.base) t y x)
  member_end (structure own parts) depth n before more js js' = never (head depth n (codes "Structure")) closes _ js' (λ t x y. no_sign_keyword 125 (codes "Structure") t y x)
  member_end (grid own a maps) depth n before more js js' = never (head depth n (codes "Grid")) closes _ js' (λ t x y. no_sign_keyword 125 (codes "Grid") t y x)
  member_end (sequence own cs) depth n before more js js' = never (head depth n (codes "Sequence")) closes _ js' (λ t x y. no_sign_keyword 125 (codes "Sequence") t y x)

  mutual
    member_same : (m m' : Member) (depth n : ℕ) (before : List (List ℕ)) (js js' : List Judged) → have_dims m ≡ true → have_dims m' ≡ true → (m ≡ m' → Q js js')
        → Q (slots depth n before m ++ js) (slots depth n before m' ++ js')
    member_same (scalar c) (scalar c') depth n before js js' some some' rest = scalar_same depth n before c c' js js' (λ same. rest (ap scalar same))
    member_same (scalar c) (array a') depth n before js js' some some' rest = scalar_array depth n before c a' js js' some'
    member_same (scalar c) (structure own' parts') depth n before js js' some some' rest = unlike (nat_lt 16 depth || nat_lt 1000000 n) (type_word c.base) (codes "Structure") 0 1 _ _ (type_kind c.base) (structure_kind) refl
    member_same (scalar c) (grid own' a' maps') depth n before js js' some some' rest = unlike (nat_lt 16 depth || nat_lt 1000000 n) (type_word c.base) (codes "Grid") 0 2 _ _ (type_kind c.base) (grid_kind) refl
    member_same (scalar c) (sequence own' cs') depth n before js js' some some' rest = unlike (nat_lt 16 depth || nat_lt 1000000 n) (type_word c.base) (codes "Sequence") 0 3 _ _ (type_kind c.base) (sequence_kind) refl
    member_same (array a) (scalar c') depth n before js js' some some' rest = array_scalar depth n before a c' js js' some
    member_same (array a) (array a') depth n before js js' some some' rest = array_same (nat_lt 16 depth || nat_lt 1000000 n) 32 None before a a' js js' (λ same. rest (ap array same))
    member_same (array a) (structure own' parts') depth n before js js' some some' rest = unlike (nat_lt 16 depth || nat_lt 1000000 n) (type_word a.base) (codes "Structure") 0 1 _ _ (type_kind a.base) (structure_kind) refl
    member_same (array a) (grid own' a' maps') depth n before js js' some some' rest = unlike (nat_lt 16 depth || nat_lt 1000000 n) (type_word a.base) (codes "Grid") 0 2 _ _ (type_kind a.base) (grid_kind) refl
    member_same (array a) (sequence own' cs') depth n before js js' some some' rest = unlike (nat_lt 16 depth || nat_lt 1000000 n) (type_word a.base) (codes "Sequence") 0 3 _ _ (type_kind a.base) (sequence_kind) refl
    member_same (structure own parts) (scalar c') depth n before js js' some some' rest = unlike (nat_lt 16 depth || nat_lt 1000000 n) (codes "Structure") (type_word c'.base) 1 0 _ _ (structure_kind) (type_kind c'.base) refl
    member_same (structure own parts) (array a') depth n before js js' some some' rest = unlike (nat_lt 16 depth || nat_lt 1000000 n) (codes "Structure") (type_word a'.base) 1 0 _ _ (structure_kind) (type_kind a'.base) refl
    member_same (structure own parts) (structure own' parts') depth n before js js' some some' rest =
        same_slot (head depth n (codes "Structure")) _ _
        (whole_same before (slots_all (depth + 1) (n + 1) [] parts) (slots_all (depth + 1) (n + 1) [] parts') false false own own' js js'
        (members_same parts parts' (depth + 1) (n + 1) [] (named before own ∷ semicolon ∷ js) (named before own' ∷ semicolon ∷ js') some some'
        (λ inside. end_same before false false own own' js js' refl (λ name. rest (λ i. structure (name i) (inside i))))))
    member_same (structure own parts) (grid own' a' maps') depth n before js js' some some' rest = unlike (nat_lt 16 depth || nat_lt 1000000 n) (codes "Structure") (codes "Grid") 1 2 _ _ (structure_kind) (grid_kind) refl
    member_same (structure own parts) (sequence own' cs') depth n before js js' some some' rest = unlike (nat_lt 16 depth || nat_lt 1000000 n) (codes "Structure") (codes "Sequence") 1 3 _ _ (structure_kind) (sequence_kind) refl
    member_same (grid own a maps) (scalar c') depth n before js js' some some' rest = unlike (nat_lt 16 depth || nat_lt 1000000 n) (codes "Grid") (type_word c'.base) 2 0 _ _ (grid_kind) (type_kind c'.base) refl
    member_same (grid own a maps) (array a') depth n before js js' some some' rest = unlike (nat_lt 16 depth || nat_lt 1000000 n) (codes "Grid") (type_word a'.base) 2 0 _ _ (grid_kind) (type_kind a'.base) refl
    member_same (grid own a maps) (structure own' parts') depth n before js js' some some' rest = unlike (nat_lt 16 depth || nat_lt 1000000 n) (codes "Grid") (codes "Structure") 2 1 _ _ (grid_kind) (structure_kind) refl
    member_same (grid own a maps) (grid own' a' maps') depth n before js js' some some' rest =
        same_slot (head depth n (codes "Grid")) _ _
        (whole_same before
        (fine (keyword (codes "Array")) ∷ colon ∷ array_slots 32 None (head (depth + 1) (n + 1) (type_word a.base)) [] a ++ fine (keyword (codes "Maps")) ∷ colon ∷ map_slots (depth + 1) (n + 2) (a.name ∷ []) (sizes a) maps)
        (fine (keyword (codes "Array")) ∷ colon ∷ array_slots 32 None (head (depth + 1) (n + 1) (type_word a'.base)) [] a' ++ fine (keyword (codes "Maps")) ∷ colon ∷ map_slots (depth + 1) (n + 2) (a'.name ∷ []) (sizes a') maps')
        (nat_lt (length maps) (length a.dims)) (nat_lt (length maps') (length a'.dims)) own own' js js'
        (grid_same (depth + 1) (n + 1) (n + 2) a a' maps maps' (nat_lt (length maps) (length a.dims)) (nat_lt (length maps') (length a'.dims)) (named before own ∷ semicolon ∷ js) (named before own' ∷ semicolon ∷ js')
        (λ one more. end_same before (nat_lt (length maps) (length a.dims)) (nat_lt (length maps') (length a'.dims)) own own' js js' (λ i. nat_lt (length (more i)) (length (one i).dims))
        (λ name. rest (λ i. grid (name i) (one i) (more i))))))
    member_same (grid own a maps) (sequence own' cs') depth n before js js' some some' rest = unlike (nat_lt 16 depth || nat_lt 1000000 n) (codes "Grid") (codes "Sequence") 2 3 _ _ (grid_kind) (sequence_kind) refl
    member_same (sequence own cs) (scalar c') depth n before js js' some some' rest = unlike (nat_lt 16 depth || nat_lt 1000000 n) (codes "Sequence") (type_word c'.base) 3 0 _ _ (sequence_kind) (type_kind c'.base) refl
    member_same (sequence own cs) (array a') depth n before js js' some some' rest = unlike (nat_lt 16 depth || nat_lt 1000000 n) (codes "Sequence") (type_word a'.base) 3 0 _ _ (sequence_kind) (type_kind a'.base) refl
    member_same (sequence own cs) (structure own' parts') depth n before js js' some some' rest = unlike (nat_lt 16 depth || nat_lt 1000000 n) (codes "Sequence") (codes "Structure") 3 1 _ _ (sequence_kind) (structure_kind) refl
    member_same (sequence own cs) (grid own' a' maps') depth n before js js' some some' rest = unlike (nat_lt 16 depth || nat_lt 1000000 n) (codes "Sequence") (codes "Grid") 3 2 _ _ (sequence_kind) (grid_kind) refl
    member_same (sequence own cs) (sequence own' cs') depth n before js js' some some' rest =
        same_slot (head depth n (codes "Sequence")) _ _
        (whole_same before (column_slots (depth + 1) (n + 1) [] cs) (column_slots (depth + 1) (n + 1) [] cs') false false own own' js js'
        (columns_same (depth + 1) (n + 1) [] cs cs' (named before own ∷ semicolon ∷ js) (named before own' ∷ semicolon ∷ js')
        (λ inside. end_same before false false own own' js js' refl (λ name. rest (λ i. sequence (name i) (inside i))))))

    members_same : (ms ms' : Members) (depth n : ℕ) (before : List (List ℕ)) (js js' : List Judged) → all_have_dims ms ≡ true → all_have_dims ms' ≡ true → (ms ≡ ms' → Q (closes ∷ js) (closes ∷ js'))
        → Q (slots_all depth n before ms ++ closes ∷ js) (slots_all depth n before ms' ++ closes ∷ js')
    members_same no_members no_members depth n before js js' some some' rest = rest refl
    members_same no_members (member m' ms') depth n before js js' some some' rest = end_member m' depth n before (slots_all depth (n + count m') (name_of m' ∷ before) ms') js js'
    members_same (member m ms) no_members depth n before js js' some some' rest = member_end m depth n before (slots_all depth (n + count m) (name_of m ∷ before) ms) js js'
    members_same (member m ms) (member m' ms') depth n before js js' some some' rest =
        let first = both_true (have_dims m) (all_have_dims ms) some in
        let second = both_true (have_dims m') (all_have_dims ms') some' in
        regroup (slots depth n before m) (slots_all depth (n + count m) (name_of m ∷ before) ms) (closes ∷ js) (slots depth n before m') (slots_all depth (n + count m') (name_of m' ∷ before) ms') (closes ∷ js')
        (member_same m m' depth n before (slots_all depth (n + count m) (name_of m ∷ before) ms ++ closes ∷ js) (slots_all depth (n + count m') (name_of m' ∷ before) ms' ++ closes ∷ js') first.0 second.0
        (λ one. subst (λ (x : Member). Q (slots_all depth (n + count m) (name_of m ∷ before) ms ++ closes ∷ js) (slots_all depth (n + count x) (name_of x ∷ before) ms' ++ closes ∷ js')) one
        (members_same ms ms' depth (n + count m) (name_of m ∷ before) js js' first.1 second.1 (λ more. rest (λ i. member (one i) (more i))))))

  pub dataset_same : (d d' : Dataset) → all_have_dims d.members ≡ true → all_have_dims d'.members ≡ true → (d ≡ d' → Q [] []) → Q (dataset_slots d) (dataset_slots d')
  dataset_same d d' some some' rest =
      same_slot (fine (keyword (codes "Dataset"))) (opens ∷ slots_all 1 1 [] d.members ++ closes ∷ fine (name d.name) ∷ semicolon ∷ []) (opens ∷ slots_all 1 1 [] d'.members ++ closes ∷ fine (name d'.name) ∷ semicolon ∷ [])
      (same_slot opens (slots_all 1 1 [] d.members ++ closes ∷ fine (name d.name) ∷ semicolon ∷ []) (slots_all 1 1 [] d'.members ++ closes ∷ fine (name d'.name) ∷ semicolon ∷ [])
      (members_same d.members d'.members 1 1 [] (fine (name d.name) ∷ semicolon ∷ []) (fine (name d'.name) ∷ semicolon ∷ []) some some'
      (λ inside. same_slot closes (fine (name d.name) ∷ semicolon ∷ []) (fine (name d'.name) ∷ semicolon ∷ [])
      (step (fine (name d.name)) (fine (name d'.name)) (semicolon ∷ []) (semicolon ∷ [])
      (λ t a b. (refl, same_slot semicolon [] [] (rest (λ i. record { name = same_name d.name d'.name t a b i; members = inside i }))))))))
