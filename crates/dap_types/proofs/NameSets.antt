-- An ordered set of names, seen as which names are among them.
use Rattle.std.proofs.Common.{◌≡◌, ℕ, Bool, true, false, ◌||◌, List, [], ◌∷◌, ◌++◌, Ordering, Less, Equal, Greater, ap, ◌∙◌, sym, refl}
use Rattle.std.specs.BTreeMap.{is_at}
use Rattle.std.specs.BTreeSet.{insert_key}
use Rattle.std.specs.Cmp.Lexicographic.{slice_cmp}
use Rattle.std.specs.List.{list_any}
use Rattle.std.specs.Ordering.{is_eq, match_ordering, nat_cmp}
use Rattle.std.specs.Str.{bytes_eq}
use Rattle.std.proofs.lemmas.List.Folds.{list_any-append}
use Rattle.std.proofs.lemmas.Map.Text.{is_eq-slice_cmp}
use Rattle.std.proofs.lemmas.Slice.Eq.{bytes_eq-Decides}
use Rattle.dap_types.specs.NameSet.{AreSameNames, HasAlso}

-- a name is found by its order where it is one of them
pub found : (name : List ℕ) (names : List (List ℕ)) → list_any (is_at (slice_cmp nat_cmp name)) names ≡ list_any (bytes_eq name) names
found name [] = refl
found name (x ∷ names) = rw (is_eq-slice_cmp name x, found name names) refl

swapped : (a b c : Bool) → (b || (a || c)) ≡ (a || (b || c))
swapped true true c = refl
swapped true false c = refl
swapped false b c = refl

once : (a c : Bool) → (a || c) ≡ (a || (a || c))
once true c = refl
once false c = refl

turned : (a b : Bool) → (a || b) ≡ (b || (a || false))
turned true true = refl
turned true false = refl
turned false true = refl
turned false false = refl

-- a name at its place in their order is one of them
put_before : (name x : List ℕ) (names more : List (List ℕ)) (n : List ℕ) → list_any (bytes_eq n) more ≡ (bytes_eq n name || list_any (bytes_eq n) names)
    → (o : Ordering) → slice_cmp nat_cmp name x ≡ o
    → list_any (bytes_eq n) (match_ordering o (name ∷ x ∷ names) (x ∷ names) (x ∷ more)) ≡ (bytes_eq n name || (bytes_eq n x || list_any (bytes_eq n) names))
put_before name x names more n behind Less is = refl
put_before name x names more n behind Equal is =
    let same : name ≡ x = (bytes_eq-Decides name x).0 (sym (is_eq-slice_cmp name x) ∙ ap is_eq is) in
    rw same (once (bytes_eq n x) (list_any (bytes_eq n) names))
put_before name x names more n behind Greater is = ap (λ b. bytes_eq n x || b) behind ∙ swapped (bytes_eq n name) (bytes_eq n x) (list_any (bytes_eq n) names)

pub put : (name : List ℕ) (names : List (List ℕ)) (n : List ℕ)
    → list_any (bytes_eq n) (insert_key (slice_cmp nat_cmp) names name) ≡ (bytes_eq n name || list_any (bytes_eq n) names)
put name [] n = refl
put name (x ∷ names) n = put_before name x names (insert_key (slice_cmp nat_cmp) names name) n (put name names n) (slice_cmp nat_cmp name x) refl

-- a name more, behind those in any order
pub behind : (names more others : List (List ℕ)) (name : List ℕ) → HasAlso names name more → AreSameNames names others → AreSameNames more (others ++ name ∷ [])
behind names more others name also same = λ n.
    also n ∙ ap (λ b. bytes_eq n name || b) (same n) ∙ turned (bytes_eq n name) (list_any (bytes_eq n) others) ∙ sym (list_any-append (bytes_eq n) others (name ∷ []))

pub ruleset in_order = (found, put)
