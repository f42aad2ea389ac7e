-- The names in a dataset that a text stands for are words of the text.
use Rattle.std.proofs.Common.{◌≡◌, ℕ, ◌+◌, ◌-◌, ◌<◌, Bool, true, false, not, ◌&&◌, ◌||◌, cond, List, [], ◌∷◌, ◌++◌, length, map, All, Option, Some, None, refl, sym, ap, subst, ◌∙◌, arith}
use Rattle.std.specs.Prelude.{⊤, codes, nat_lt}
use Rattle.std.specs.List.{list_all}
use Rattle.std.specs.Cmp.Lexicographic.{pointwise}
use Rattle.std.proofs.lemmas.Bool.Decides.{nat_tests}
use Rattle.std.proofs.lemmas.List.Elements.{All-append, All-cons, All-head, All-map, All-nil, All-tail}
use Rattle.std.proofs.lemmas.List.Folds.{list_all-append}
use Rattle.std.proofs.lemmas.Slice.Eq.{bytes_eq-Decides}
use Rattle.std.proofs.lemmas.Bool.{and_from}
use Rattle.plain_lemmas.proofs.Truths.{both_true}
use Rattle.dap_types.specs.Model.{Member, scalar, array, structure, grid, sequence, Members, no_members, member, Dataset, count, name_of, sizes}
use Rattle.dap_types.specs.declared.bytes.Id.{Id}
use Rattle.dap_types.specs.declared.declarations.ArrayDecl.{ArrayDecl}
use Rattle.dap_types.specs.declared.declarations.Column.{Column}
use Rattle.dap_types.specs.declared.declarations.Dim.{Dim}
use Rattle.dap_model.specs.Dds.{type_word}
use Rattle.dap_model.specs.Grammar.{DdsOf, Judged, Slot, array_slots, closes, colon, column_slots, dataset_slots, dim_slots, fine, head, keyword, map_slots, name, named, scalar_slots, semicolon, sign, size, size_slots, slots, slots_all, spells, whole_slots}
use Rattle.dap_model.specs.Tokens.{Placed, Token, ended, is_plain, is_sign, is_white, is_word, sign_at, tokens_from, tokens_of, whole_tokens}
use Rattle.dap_model.specs.Tokens as token
use Rattle.file_names.proofs.Words.{AreBytes, IsByte}

-- a word, of bytes
abbrev pub OfWord : List ℕ → Type 0
OfWord w = (is_word w ≡ true) × AreBytes w

-- ---- the tokens of a text
abbrev GoodToken : Token → Type 0
GoodToken (token.word w) = OfWord w
GoodToken (token.sign b) = ⊤

abbrev GoodPlaced : Placed → Type 0
GoodPlaced p = GoodToken p.token

plain_of : (b : ℕ) → (is_white b || is_sign b) ≡ false → is_plain b ≡ true
plain_of b e = ap not e

some : (b : ℕ) (bs : List ℕ) → nat_lt 0 (length (b ∷ bs)) ≡ true
some b bs = grind (arith, nat_tests, length_cons b bs)
  where
    length_cons : (b : ℕ) (bs : List ℕ) → 0 < length (b ∷ bs)
    length_cons b bs = omega arith

ended_good : (front : List ℕ) (at : ℕ) → list_all is_plain front ≡ true → AreBytes front → All GoodPlaced (ended front at)
ended_good [] at plain bytes = All-nil GoodPlaced
ended_good (b ∷ bs) at plain bytes =
    let word : is_word (b ∷ bs) ≡ true = and_from (nat_lt 0 (length (b ∷ bs))) (list_all is_plain (b ∷ bs)) (some b bs) plain in
    All-cons GoodPlaced (record { token = token.word (b ∷ bs); place = at - length (b ∷ bs) }) [] (word, bytes) (All-nil GoodPlaced)

sign_good : (b at : ℕ) → All GoodPlaced (sign_at b at)
sign_good b at = by (is_sign b)
  where
    by : (c : Bool) → All GoodPlaced (cond c (record { token = token.sign b; place = at } ∷ []) [])
    by true = All-cons GoodPlaced (record { token = token.sign b; place = at }) [] tt (All-nil GoodPlaced)
    by false = All-nil GoodPlaced

tokens_good : (front : List ℕ) (at : ℕ) (bs : List ℕ) → list_all is_plain front ≡ true → AreBytes front → AreBytes bs → All GoodPlaced (tokens_from front at bs)
tokens_good front at [] plain bytes more = All-nil GoodPlaced
tokens_good front at (b ∷ bs) plain bytes more =
    by (is_white b || is_sign b) refl (tokens_good [] (at + 1) bs refl (All-nil IsByte) (All-tail IsByte b bs more)) (λ is. tokens_good (front ++ b ∷ []) (at + 1) bs (longer is) (All-append IsByte front (b ∷ []) bytes (All-cons IsByte b [] (All-head IsByte b bs more) (All-nil IsByte))) (All-tail IsByte b bs more))
  where
    longer : (is_white b || is_sign b) ≡ false → list_all is_plain (front ++ b ∷ []) ≡ true
    longer is = list_all-append is_plain front (b ∷ []) ∙ and_from (list_all is_plain front) (is_plain b && true) plain (and_from (is_plain b) true (plain_of b is) refl)

    by : (c : Bool) → (is_white b || is_sign b) ≡ c → All GoodPlaced (tokens_from [] (at + 1) bs) → ((is_white b || is_sign b) ≡ false → All GoodPlaced (tokens_from (front ++ b ∷ []) (at + 1) bs))
        → All GoodPlaced (cond c (ended front at ++ sign_at b at ++ tokens_from [] (at + 1) bs) (tokens_from (front ++ b ∷ []) (at + 1) bs))
    by true is rest on = All-append GoodPlaced (ended front at ++ sign_at b at) (tokens_from [] (at + 1) bs) (All-append GoodPlaced (ended front at) (sign_at b at) (ended_good front at plain bytes) (sign_good b at)) rest
    by false is rest on = on is

text_good : (text : List ℕ) → AreBytes text → All GoodToken (tokens_of text)
text_good text bytes = All-map GoodToken (λ (p : Placed). p.token) (whole_tokens text) (tokens_good [] 0 text refl (All-nil IsByte) bytes)

-- ---- the slots that they fill
abbrev GoodSlot : Slot → Type 0
GoodSlot (keyword k) = ⊤
GoodSlot (name n) = OfWord n
GoodSlot (size n) = ⊤
GoodSlot (sign b) = ⊤

abbrev pub GoodSlots : List Judged → Type 0
GoodSlots [] = ⊤
GoodSlots (j ∷ js) = GoodSlot j.slot × GoodSlots js

slot_good : (s : Slot) (t : Token) → spells s t ≡ true → GoodToken t → GoodSlot s
slot_good (keyword k) t is good = tt
slot_good (size n) t is good = tt
slot_good (sign b) t is good = tt
slot_good (name n) (token.word w) is good = subst OfWord (sym ((bytes_eq-Decides n w).0 is)) good
slot_good (name n) (token.sign b) is good = absurd cc

slots_good : (js : List Judged) (ts : List Token) → pointwise spells (map (λ (j : Judged). j.slot) js) ts ≡ true → All GoodToken ts → GoodSlots js
slots_good [] ts is good = tt
slots_good (j ∷ js) [] is good = absurd cc
slots_good (j ∷ js) (t ∷ ts) is good =
    let (here, rest) = both_true (spells j.slot t) (pointwise spells (map (λ (k : Judged). k.slot) js) ts) is in
    (slot_good j.slot t here (All-head GoodToken t ts good), slots_good js ts rest (All-tail GoodToken t ts good))

front : (xs ys : List Judged) → GoodSlots (xs ++ ys) → GoodSlots xs
front [] ys g = tt
front (x ∷ xs) ys g = (g.0, front xs ys g.1)

back : (xs ys : List Judged) → GoodSlots (xs ++ ys) → GoodSlots ys
back [] ys g = g
back (x ∷ xs) ys g = back xs ys g.1

-- ---- the names of a dataset
abbrev pub NamedDim : Option Id → Type 0
NamedDim None = ⊤
NamedDim (Some n) = OfWord n

abbrev pub NamedDims : List Dim → Type 0
NamedDims [] = ⊤
NamedDims (d ∷ dims) = NamedDim d.name × NamedDims dims

abbrev pub NamedArray : ArrayDecl → Type 0
NamedArray a = OfWord a.name × NamedDims a.dims

abbrev pub NamedArrays : List ArrayDecl → Type 0
NamedArrays [] = ⊤
NamedArrays (a ∷ arrays) = NamedArray a × NamedArrays arrays

abbrev pub NamedColumns : List Column → Type 0
NamedColumns [] = ⊤
NamedColumns (c ∷ columns) = OfWord c.name × NamedColumns columns

abbrev mutual
  pub Named : Member → Type 0
  Named (scalar c) = OfWord c.name
  Named (array a) = NamedArray a
  Named (structure own parts) = OfWord own × AllNamed parts
  Named (grid own a maps) = OfWord own × NamedArray a × NamedArrays maps
  Named (sequence own columns) = OfWord own × NamedColumns columns

  pub AllNamed : Members → Type 0
  AllNamed no_members = ⊤
  AllNamed (member m ms) = Named m × AllNamed ms

dims_named : (most : ℕ) (wanted : Option ℕ) (k : ℕ) (dims : List Dim) → GoodSlots (dim_slots most wanted k dims) → NamedDims dims
dims_named most wanted k [] g = tt
dims_named most wanted k (d ∷ dims) g = (own d.name (front (size_slots wanted d.name d.size) (dim_slots most wanted (k + 1) dims) g.1), dims_named most wanted (k + 1) dims (back (size_slots wanted d.name d.size) (dim_slots most wanted (k + 1) dims) g.1))
  where
    own : (o : Option Id) → GoodSlots (size_slots wanted o d.size) → NamedDim o
    own None h = tt
    own (Some n) h = h.0

array_named : (most : ℕ) (wanted : Option ℕ) (first : Judged) (before : List (List ℕ)) (a : ArrayDecl) → GoodSlots (array_slots most wanted first before a) → NamedArray a
array_named most wanted first before a g = (g.1.0, dims_named most wanted 1 a.dims (front (dim_slots most wanted 1 a.dims) (semicolon ∷ []) g.1.1))

columns_named : (depth n : ℕ) (before : List (List ℕ)) (columns : List Column) → GoodSlots (column_slots depth n before columns) → NamedColumns columns
columns_named depth n before [] g = tt
columns_named depth n before (c ∷ columns) g = (g.1.0, columns_named depth (n + 1) (c.name ∷ before) columns (back (scalar_slots depth n before c) (column_slots depth (n + 1) (c.name ∷ before) columns) g))

maps_named : (depth n : ℕ) (before : List (List ℕ)) (wanted : List ℕ) (maps : List ArrayDecl) → GoodSlots (map_slots depth n before wanted maps) → NamedArrays maps
maps_named depth n before wanted [] g = tt
maps_named depth n before [] (m ∷ maps) g =
    let own : List Judged = array_slots 1 None (record { slot = keyword (type_word m.base); broken = true }) before m in
    let rest : List Judged = map_slots depth (n + 1) (m.name ∷ before) [] maps in
    (array_named 1 None (record { slot = keyword (type_word m.base); broken = true }) before m (front own rest g), maps_named depth (n + 1) (m.name ∷ before) [] maps (back own rest g))
maps_named depth n before (w ∷ wanted) (m ∷ maps) g =
    let own : List Judged = array_slots 1 (Some w) (head depth n (type_word m.base)) before m in
    let rest : List Judged = map_slots depth (n + 1) (m.name ∷ before) wanted maps in
    (array_named 1 (Some w) (head depth n (type_word m.base)) before m (front own rest g), maps_named depth (n + 1) (m.name ∷ before) wanted maps (back own rest g))

whole_parts : (first : Judged) (parts : List Judged) (last own : Judged) → GoodSlots (whole_slots first parts last own) → GoodSlots parts
whole_parts first parts last own g = front parts (last ∷ own ∷ semicolon ∷ []) g.1.1

whole_own : (first : Judged) (parts : List Judged) (last own : Judged) → GoodSlots (whole_slots first parts last own) → GoodSlot own.slot
whole_own first parts last own g = (back parts (last ∷ own ∷ semicolon ∷ []) g.1.1).1.0

mutual
  member_named : (depth n : ℕ) (before : List (List ℕ)) (m : Member) → GoodSlots (slots depth n before m) → Named m
  member_named depth n before (scalar c) g = g.1.0
  member_named depth n before (array a) g = array_named 32 None (head depth n (type_word a.base)) before a g
  member_named depth n before (structure own parts) g = (
    whole_own (head depth n (codes "Structure")) (slots_all (depth + 1) (n + 1) [] parts) closes (named before own) g,
    members_named (depth + 1) (n + 1) [] parts (whole_parts (head depth n (codes "Structure")) (slots_all (depth + 1) (n + 1) [] parts) closes (named before own) g),
  )
  member_named depth n before (grid own a maps) g =
      let arrays : List Judged = array_slots 32 None (head (depth + 1) (n + 1) (type_word a.base)) [] a in
      let rest : List Judged = map_slots (depth + 1) (n + 2) (a.name ∷ []) (sizes a) maps in
      let behind : List Judged = fine (keyword (codes "Maps")) ∷ colon ∷ rest in
      let parts : List Judged = fine (keyword (codes "Array")) ∷ colon ∷ (arrays ++ behind) in
      let last : Judged = record { slot = sign 125; broken = nat_lt (length maps) (length a.dims) } in
      let first : Judged = head depth n (codes "Grid") in
      let inside : GoodSlots (arrays ++ behind) = (whole_parts first parts last (named before own) g).1.1 in (
        whole_own first parts last (named before own) g,
        array_named 32 None (head (depth + 1) (n + 1) (type_word a.base)) [] a (front arrays behind inside),
        maps_named (depth + 1) (n + 2) (a.name ∷ []) (sizes a) maps (back arrays behind inside).1.1,
      )
  member_named depth n before (sequence own columns) g = (
    whole_own (head depth n (codes "Sequence")) (column_slots (depth + 1) (n + 1) [] columns) closes (named before own) g,
    columns_named (depth + 1) (n + 1) [] columns (whole_parts (head depth n (codes "Sequence")) (column_slots (depth + 1) (n + 1) [] columns) closes (named before own) g),
  )

  members_named : (depth n : ℕ) (before : List (List ℕ)) (ms : Members) → GoodSlots (slots_all depth n before ms) → AllNamed ms
  members_named depth n before no_members g = tt
  members_named depth n before (member m ms) g =
      (member_named depth n before m (front (slots depth n before m) (slots_all depth (n + count m) (name_of m ∷ before) ms) g), members_named depth (n + count m) (name_of m ∷ before) ms (back (slots depth n before m) (slots_all depth (n + count m) (name_of m ∷ before) ms) g))

-- those of a dataset that a text of bytes stands for
pub names_of_text : (text : List ℕ) (d : Dataset) → AreBytes text → DdsOf text d → AllNamed d.members
names_of_text text d bytes is =
    members_named 1 1 [] d.members (whole_parts (fine (keyword (codes "Dataset"))) (slots_all 1 1 [] d.members) closes (fine (name d.name)) (slots_good (dataset_slots d) (tokens_of text) is.stands.1 (text_good text bytes)))
