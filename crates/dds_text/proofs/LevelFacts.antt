-- What the machine knows of a level is what the grammar counts there.
use Rattle.std.proofs.Common.{◌≡◌, ℕ, zero, suc, ◌+◌, List, [], ◌∷◌, ◌++◌, length, drop, Bool, true, false, ◌||◌, slice_get, Option, Some, None, refl, ap, ◌∙◌, length-append, arith}
use Rattle.std.specs.List.{list_any}
use Rattle.std.specs.Str.{bytes_eq}
use Rattle.dap_types.specs.Model.{Member, Members, no_members, member, name_of, count, count_all, members_of}
use Rattle.dap_types.specs.declared.declarations.ArrayDecl.{ArrayDecl}
use Rattle.dap_types.specs.declared.declarations.Column.{Column}
use Rattle.dds_text.specs.inner.States.{Levels, top, within, depth_of, next_number, members_in, add, is_name_of, is_name_of_column, is_name_of_map}

-- the names before, as a test
abbrev pub SameNames : (List ℕ → Bool) → List (List ℕ) → Type 0
SameNames test before = (w : List ℕ) → test w ≡ list_any (bytes_eq w) before

-- the depth, the number and the names before the next member of a level
abbrev pub Suits : Levels → ℕ → ℕ → List (List ℕ) → Type 0
Suits levels depth n before = (depth ≡ depth_of levels) × (n ≡ next_number levels) × SameNames (is_name_of (members_in levels)) before

or_swap : (a b c : Bool) → (a || (b || c)) ≡ (b || (a || c))
or_swap true true c = refl
or_swap true false c = refl
or_swap false b c = refl

pub any_last : {X : Type 0} (test : X → Bool) (xs : List X) (x : X) → list_any test (xs ++ x ∷ []) ≡ (test x || list_any test xs)
any_last test [] x = refl
any_last test (y ∷ xs) x = ap (λ b. test y || b) (any_last test xs x) ∙ or_swap (test y) (test x) (list_any test xs)

count_last : (ms : List Member) (m : Member) → count_all (members_of (ms ++ m ∷ [])) ≡ count_all (members_of ms) + count m
count_last [] m = omega arith
count_last (l ∷ ms) m = omega (arith, count_last ms m)

names_last : (ms : List Member) (m : Member) (before : List (List ℕ)) → SameNames (is_name_of ms) before → SameNames (is_name_of (ms ++ m ∷ [])) (name_of m ∷ before)
names_last ms m before same w = any_last (λ l. bytes_eq w (name_of l)) ms m ∙ ap (λ b. bytes_eq w (name_of m) || b) (same w)

pub added_suits : (levels : Levels) (m : Member) (depth n : ℕ) (before : List (List ℕ)) → Suits levels depth n before → Suits (add levels m) depth (n + count m) (name_of m ∷ before)
added_suits (top ms) m depth n before (deep, number, names) = (deep, omega (arith, number, count_last ms m), names_last ms m before names)
added_suits (within outer ms) m depth n before (deep, number, names) = (deep, omega (arith, number, count_last ms m), names_last ms m before names)

pub top_suits : Suits (top []) 1 1 []
top_suits = (refl, refl, λ w. refl)

pub within_suits : (levels : Levels) (depth n : ℕ) (before : List (List ℕ)) → Suits levels depth n before → Suits (within levels []) (depth + 1) (n + 1) []
within_suits levels depth n before (deep, number, names) = (ap (λ k. k + 1) deep, omega (arith, number), λ w. refl)

pub columns_last : (cs : List Column) (c : Column) (before : List (List ℕ)) → SameNames (is_name_of_column cs) before → SameNames (is_name_of_column (cs ++ c ∷ [])) (c.name ∷ before)
columns_last cs c before same w = any_last (λ l. bytes_eq w l.name) cs c ∙ ap (λ b. bytes_eq w c.name || b) (same w)

pub maps_last : (a : ArrayDecl) (maps : List ArrayDecl) (m : ArrayDecl) (before : List (List ℕ)) → SameNames (is_name_of_map a maps) before → SameNames (is_name_of_map a (maps ++ m ∷ [])) (m.name ∷ before)
maps_last a maps m before same w = any_last (λ l. bytes_eq w l.name) (a ∷ maps) m ∙ ap (λ b. bytes_eq w m.name || b) (same w)

-- members behind those of a level
abbrev pub add_all : Levels → Members → Levels
add_all levels no_members = levels
add_all levels (member m ms) = add_all (add levels m) ms

abbrev pub list_of : Members → List Member
list_of no_members = []
list_of (member m ms) = m ∷ list_of ms

pub members_of_list : (ms : Members) → members_of (list_of ms) ≡ ms
members_of_list no_members = refl
members_of_list (member m ms) = ap (member m) (members_of_list ms)

append_one : {X : Type 0} (xs : List X) (x : X) (ys : List X) → (xs ++ x ∷ []) ++ ys ≡ xs ++ x ∷ ys
append_one [] x ys = refl
append_one (y ∷ xs) x ys = ap (λ zs. y ∷ zs) (append_one xs x ys)

append_none : {X : Type 0} (xs : List X) → xs ≡ xs ++ []
append_none [] = refl
append_none (x ∷ xs) = ap (λ zs. x ∷ zs) (append_none xs)

pub add_all_top : (done : List Member) (ms : Members) → add_all (top done) ms ≡ top (done ++ list_of ms)
add_all_top done no_members = ap top (append_none done)
add_all_top done (member m ms) = add_all_top (done ++ m ∷ []) ms ∙ ap top (append_one done m (list_of ms))

pub add_all_within : (outer : Levels) (done : List Member) (ms : Members) → add_all (within outer done) ms ≡ within outer (done ++ list_of ms)
add_all_within outer done no_members = ap (within outer) (append_none done)
add_all_within outer done (member m ms) = add_all_within outer (done ++ m ∷ []) ms ∙ ap (within outer) (append_one done m (list_of ms))

pub length_last : {X : Type 0} (xs : List X) (x : X) → length (xs ++ x ∷ []) ≡ length xs + 1
length_last xs x = length-append xs (x ∷ [])

-- the element at a place is the first of those from there on
abbrev pub first_of : List ℕ → Option ℕ
first_of [] = None
first_of (n ∷ ns) = Some n

abbrev pub rest_of : List ℕ → List ℕ
rest_of [] = []
rest_of (n ∷ ns) = ns

pub slice_get-drop : (ns : List ℕ) (k : ℕ) → slice_get ns k ≡ first_of (drop k ns)
slice_get-drop [] zero = refl
slice_get-drop [] (suc k) = refl
slice_get-drop (n ∷ ns) zero = refl
slice_get-drop (n ∷ ns) (suc k) = slice_get-drop ns k

drop-suc : (ns : List ℕ) (k : ℕ) → drop (suc k) ns ≡ rest_of (drop k ns)
drop-suc [] zero = refl
drop-suc [] (suc k) = refl
drop-suc (n ∷ ns) zero = refl
drop-suc (n ∷ ns) (suc k) = drop-suc ns k

pub drop-one : (ns : List ℕ) (k : ℕ) → drop (k + 1) ns ≡ rest_of (drop k ns)
drop-one ns k = let next : k + 1 ≡ suc k = omega arith in ap (λ i. drop i ns) next ∙ drop-suc ns k
