-- The slabs of a constraint that is read have no negative number.
use Rattle.std.proofs.Common.{◌≡◌, List, [], ◌∷◌, ◌++◌, ℕ, map, refl, Bool, true, false, IsTrue, pos, nat_lt, ◌^◌, if◌then◌else◌}
use Rattle.std.specs.List.{list_all}
use Rattle.viable.specs.Numerals.{decimal}
use Rattle.constraint_parse.specs.Language.{SlabTree, index, range, strided, ItemTree, path, call, ItemsTree, no_items, some_items}
use Rattle.constraint_parse.specs.Values.{number_value, slab_value, step_value, item_value, items_value}
use Rattle.constraint_parse.specs.Slabs.{is_index, slab_fits, has_slabs}
use Rattle.constraint_parse.specs.declared.constraint.Number.TheVariants.{Small, Big}

number_fits : (digits : List ℕ) → is_index (number_value digits) ≡ true
number_fits digits = on (nat_lt (decimal digits) (2 ^ 127))
  where
    on : (small : Bool) → is_index (if small then Small (pos (decimal digits)) else Big) ≡ true
    on true = refl
    on false = refl

slab_ok : (t : SlabTree) → slab_fits (slab_value t) ≡ true
slab_ok (index a) = rw (number_fits a) refl
slab_ok (range a b) = rw (number_fits a, number_fits b) refl
slab_ok (strided a s b) = rw (number_fits a, number_fits s, number_fits b) refl

all_of : {A B : Type 0} (p : B → Bool) (f : A → B) → ((a : A) → p (f a) ≡ true) → (xs : List A) → list_all p (map f xs) ≡ true
all_of p f each [] = refl
all_of p f each (x ∷ xs) = rw (each x, all_of p f each xs) refl

item_ok : (t : ItemTree) → has_slabs (item_value t) ≡ true
item_ok (path front last) = all_of (λ s. list_all slab_fits s.slabs) step_value (λ s. all_of slab_fits slab_value slab_ok s.slabs) (front ++ last ∷ [])
item_ok (call label bytes) = refl

pub slabs_fit : (t : ItemsTree) → IsTrue (list_all has_slabs (items_value t))
slabs_fit no_items = refl
slabs_fit (some_items front last) = all_of has_slabs item_value item_ok (front ++ last ∷ [])
