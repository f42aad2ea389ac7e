-- Lists: their first and their others, their parts, what is found in them.
use Rattle.std.proofs.Common.{◌≡◌, ◌≢◌, ℕ, zero, suc, ◌+◌, ◌<◌, ◌≤◌, Bool, true, false, ◌==◌, cond, List, [], ◌∷◌, ◌++◌, length, map, take, drop, get_or, Some, option_map, IsTrue, refl, ap, ◌∙◌, sym, arith, drop-cons, add-one, append_assoc, length-append, take-append-drop}
use Rattle.std.proofs.lemmas.Bool.{ne_eqb}
use Rattle.std.proofs.lemmas.List.Folds.{list_all-append}
use Rattle.std.proofs.lemmas.Slice.Eq.{bytes_eq-Decides}
use Rattle.std.specs.List.{find, list_all, list_any, slice_get}
use Rattle.std.specs.Str.{bytes_eq}
use Rattle.plain_lemmas.proofs.Truths.{both_true}

-- ---- the first and the others

pub cons_first : {X : Type 0} (x y : X) (xs ys : List X) → x ∷ xs ≡ y ∷ ys → x ≡ y
cons_first x y xs ys same = cc

pub cons_rest : {X : Type 0} (x y : X) (xs ys : List X) → x ∷ xs ≡ y ∷ ys → xs ≡ ys
cons_rest x y xs ys same = cc

pub cons_none : {X : Type 0} (x : X) (xs : List X) → x ∷ xs ≡ [] → ⊥
cons_none x xs same = cc

pub some_length : {X : Type 0} (xs : List X) → xs ≢ [] → 0 < length xs
some_length [] some = absurd (some refl)
some_length (x ∷ xs) some = omega arith

pub last_length : (text : List ℕ) (b : ℕ) → (length (text ++ b ∷ []) == 0) ≡ false
last_length text b = ne_eqb (length (text ++ b ∷ [])) 0 (λ none. omega (arith, length-append text (b ∷ []), none))

-- ---- parts

pub drop_next : (text : List ℕ) (i : ℕ) → i < length text → drop i text ≡ get_or text i 0 ∷ drop (i + 1) text
drop_next text i h = rw add-one (drop-cons text i 0 h)

pub drop_here : {X : Type 0} (xs : List X) (i : ℕ) (x : X) → i < length xs → x ≡ get_or xs i x → drop i xs ≡ x ∷ drop (i + 1) xs
drop_here xs i x lt is = drop-cons xs i x lt ∙ ap (λ y. y ∷ drop (suc i) xs) (sym is) ∙ rw add-one refl

pub none_in_front : {X : Type 0} (xs ys : List X) → xs ++ ys ≡ [] → xs ≡ []
none_in_front [] ys e = refl
none_in_front (x ∷ xs) ys e = cc

pub nothing_in_front : {X : Type 0} (xs ys : List X) → xs ≡ [] → xs ++ ys ≡ ys
nothing_in_front xs ys none = ap (λ l. l ++ ys) none

-- a front that is taken from what is left
pub seam : {X : Type 0} (waiting left taken after : List X) → left ≡ taken ++ after → waiting ++ left ≡ (waiting ++ taken) ++ after
seam waiting left taken after is = ap (λ l. waiting ++ l) is ∙ sym (append_assoc waiting taken after)

pub right_of_five : {X : Type 0} (a b c d e : List X) → (((a ++ b) ++ c) ++ d) ++ e ≡ a ++ (b ++ (c ++ (d ++ e)))
right_of_five a b c d e = append_assoc ((a ++ b) ++ c) d e ∙ append_assoc (a ++ b) c (d ++ e) ∙ append_assoc a b (c ++ (d ++ e))

-- of two fronts of the same items the shorter one begins the longer one
pub shorter_front : {X : Type 0} (xs ys rs ss : List X) → xs ++ rs ≡ ys ++ ss → length xs ≤ length ys → (u : List X) × (ys ≡ xs ++ u)
shorter_front [] ys rs ss e le = (ys, refl)
shorter_front (x ∷ xs) [] rs ss e le = absurd (omega (arith, le))
shorter_front (x ∷ xs) (y ∷ ys) rs ss e le =
    let (u, is) = shorter_front xs ys rs ss (cons_rest x y (xs ++ rs) (ys ++ ss) e) (omega (arith, le)) in
    (u, ap (λ z. z ∷ ys) (sym (cons_first x y (xs ++ rs) (ys ++ ss) e)) ∙ ap (λ zs. x ∷ zs) is)

some_behind : {X : Type 0} (xs : List X) (y : X) (ys : List X) → xs ++ y ∷ ys ≡ [] → ⊥
some_behind [] y ys none = cc
some_behind (x ∷ xs) y ys none = cc

-- the last of some items is that of their last part
pub last_part : {X : Type 0} (xs ys w : List X) (y c : X) → xs ++ y ∷ ys ≡ w ++ c ∷ [] → (v : List X) × (y ∷ ys ≡ v ++ c ∷ [])
last_part [] ys w y c e = (w, e)
last_part (x ∷ xs) ys [] y c e = absurd (some_behind xs y ys (cons_rest x c (xs ++ y ∷ ys) [] e))
last_part (x ∷ xs) ys (z ∷ w) y c e = last_part xs ys w y c (cons_rest x z (xs ++ y ∷ ys) (w ++ c ∷ []) e)

-- ---- tests and places

pub any-map : {X Y : Type 0} (p : Y → Bool) (f : X → Y) (xs : List X) → list_any p (map f xs) ≡ list_any (λ x. p (f x)) xs
any-map p f [] = refl
any-map p f (x ∷ xs) = rw (any-map p f xs) refl

pub all_of_take : {X : Type 0} (p : X → Bool) (n : ℕ) (xs : List X) → list_all p xs ≡ true → list_all p (take n xs) ≡ true
all_of_take p n xs all =
    (both_true (list_all p (take n xs)) (list_all p (drop n xs)) (sym (list_all-append p (take n xs) (drop n xs)) ∙ ap (list_all p) (take-append-drop n xs) ∙ all)).0

pub has_item : {X : Type 0} (p : X → Bool) (a : List X) (c : X) (b : List X) → IsTrue (list_all p (a ++ c ∷ b)) → IsTrue (p c)
has_item p [] c b h = (both_true _ _ h).0
has_item p (x ∷ a) c b h = has_item p a c b (both_true _ _ h).1

pub found_passes : {X : Type 0} (p : X → Bool) (xs : List X) (x : X) → find p xs ≡ Some x → p x ≡ true
found_passes p [] x e = cc e
found_passes {X} p (y ∷ xs) x e = chosen (p y) refl e (found_passes p xs x)
  where
    chosen : (b : Bool) → p y ≡ b → cond b (Some y) (find p xs) ≡ Some x → (find p xs ≡ Some x → p x ≡ true) → p x ≡ true
    chosen true is f rest = let same : y ≡ x = cc in ap p (sym same) ∙ is
    chosen false is f rest = rest f

pub slice_get-mapped : {X Y : Type 0} (f : X → Y) (xs : List X) (i : ℕ) (x : X) → slice_get xs i ≡ Some x → slice_get (map f xs) i ≡ Some (f x)
slice_get-mapped f [] i x is = cc is
slice_get-mapped f (y ∷ ys) zero x is = ap (option_map f) is
slice_get-mapped f (y ∷ ys) (suc i) x is = slice_get-mapped f ys i x is

-- the one at a place of two lists, one behind the other
pub front_get : {X : Type 0} (xs ys : List X) (i : ℕ) → i < length xs → slice_get (xs ++ ys) i ≡ slice_get xs i
front_get [] ys i lt = absurd (omega (arith, lt))
front_get (x ∷ xs) ys zero lt = refl
front_get (x ∷ xs) ys (suc i) lt = front_get xs ys i (omega (arith, lt))

-- ---- equal bytes

pub same_bytes : (a b : List ℕ) → bytes_eq a b ≡ true → a ≡ b
same_bytes a b e = (bytes_eq-Decides a b).0 e

pub bytes_itself : (a : List ℕ) → bytes_eq a a ≡ true
bytes_itself a = (bytes_eq-Decides a a).1 refl
