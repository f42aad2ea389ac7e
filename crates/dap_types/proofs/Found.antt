-- What an index answers once a path is added to it.
use Rattle.std.proofs.Common.{◌≡◌, ℕ, Bool, true, false, List, [], ◌∷◌, Option, Some, None, refl, sym, ap, ◌∙◌}
use Rattle.std.specs.Prelude.{if◌then◌else◌, cond}
use Rattle.std.specs.Cmp.{IsEquivalence}
use Rattle.std.specs.Cmp.Lexicographic.{pointwise}
use Rattle.std.specs.Map.{AreApart, IsKeyTest, KeepsOthers, lookup}
use Rattle.std.specs.Option.{is_some, option_or}
use Rattle.std.specs.Str.{bytes_eq}
use Rattle.plain_lemmas.proofs.Lists.{same_bytes}
use Rattle.plain_lemmas.proofs.Truths.{both_true}
use Rattle.indexmap.specs.IndexMap.{IndexMap, UpdatesBy, get_by}

-- tests that agree find the same
lookup-agree : {K X : Type 0} (f g : K → Bool) → ((k : K) → f k ≡ g k) → (es : List (K × X)) → lookup f es ≡ lookup g es
lookup-agree f g same [] = refl
lookup-agree f g same (e ∷ es) = rw (same e.0, lookup-agree f g same es) refl

kept : {K X : Type 0} (eq : K → K → Bool) (test : K → Bool) (old new : List (K × X)) → KeepsOthers eq test old new → (other : K → Bool) → IsKeyTest eq other → AreApart test other
    → lookup other new ≡ lookup other old
unfolding KeepsOthers
kept eq test old new h = h

-- the value of the key that was written, and that of each other key as before
pub updates_seen : {K X S V : Type 0} (view : K → V) (veq : V → V → Bool) (eq : K → K → Bool) → IsEquivalence veq → ((x y : K) → eq x y ≡ veq (view x) (view y))
    → (m n : IndexMap K X S) (k : K) (w : Option X) → UpdatesBy eq (eq k) m n w
    → (q : V) → get_by (λ x. veq q (view x)) n ≡ (if veq (view k) q then w else get_by (λ x. veq q (view x)) m)
updates_seen view veq eq laws same m n k w h q = (elim (veq (view k) q) as (λ b. veq (view k) q ≡ b → get_by (λ x. veq q (view x)) n ≡ (if b then w else get_by (λ x. veq q (view x)) m)) [
  | true ↦ λ e. lookup-agree (λ x. veq q (view x)) (eq k) (λ x. sym (laws.congr (view k) q (view x) e) ∙ sym (same k x)) n.entries ∙ h.1
  | false ↦ λ e. kept eq (eq k) m.entries n.entries h.3 (λ x. veq q (view x)) (λ x y t. laws.congr q (view x) (view y) t ∙ sym (same x y))
      (λ x t. laws.symm q (view x) ∙ sym (laws.congr (view k) (view x) q (sym (same k x) ∙ t)) ∙ e)
]) refl

-- paths that pass the test are the same
pub same_path : (q p : List (List ℕ)) → pointwise bytes_eq q p ≡ true → q ≡ p
same_path [] [] e = refl
same_path [] (y ∷ ys) e = cc
same_path (x ∷ xs) [] e = cc
same_path (x ∷ xs) (y ∷ ys) e = let p = both_true (bytes_eq x y) (pointwise bytes_eq xs ys) e in ap (λ l. l ∷ xs) (same_bytes x y p.0) ∙ ap (λ l. y ∷ l) (same_path xs ys p.1)

pub option_or-none : {X : Type 0} (o : Option X) → o ≡ option_or o None
option_or-none None = refl
option_or-none (Some x) = refl

pub option_or-some : {X : Type 0} (o p : Option X) → is_some o ≡ true → o ≡ option_or o p
option_or-some None p e = cc
option_or-some (Some x) p e = refl

-- a path that has a number keeps it
pub stays : (found : List (List ℕ) → Option ℕ) (path : List (List ℕ)) (n : ℕ) → is_some (found path) ≡ true
    → (q : List (List ℕ)) → found q ≡ option_or (found q) (cond (pointwise bytes_eq q path) (Some n) None)
stays found path n has q = (elim (pointwise bytes_eq q path) as (λ b. pointwise bytes_eq q path ≡ b → found q ≡ option_or (found q) (cond b (Some n) None)) [
  | true ↦ λ e. option_or-some (found q) (Some n) (ap (λ p. is_some (found p)) (same_path q path e) ∙ has)
  | false ↦ λ e. option_or-none (found q)
]) refl

-- one that has none gets this one
pub comes : (found found' : List (List ℕ) → Option ℕ) (path : List (List ℕ)) (n : ℕ) → is_some (found path) ≡ false
    → ((q : List (List ℕ)) → found' q ≡ (if pointwise bytes_eq path q then Some n else found q))
    → IsEquivalence (pointwise bytes_eq)
    → (q : List (List ℕ)) → found' q ≡ option_or (found q) (cond (pointwise bytes_eq q path) (Some n) None)
comes found found' path n has updates laws q = updates q ∙ ap (λ b. if b then Some n else found q) (laws.symm path q) ∙ both
  where
    none : (o : Option ℕ) → is_some o ≡ false → Some n ≡ option_or o (Some n)
    none None e = refl
    none (Some x) e = cc

    both : (if pointwise bytes_eq q path then Some n else found q) ≡ option_or (found q) (cond (pointwise bytes_eq q path) (Some n) None)
    both = (elim (pointwise bytes_eq q path) as (λ b. pointwise bytes_eq q path ≡ b → (if b then Some n else found q) ≡ option_or (found q) (cond b (Some n) None)) [
      | true ↦ λ e. none (found q) (ap (λ p. is_some (found p)) (same_path q path e) ∙ has)
      | false ↦ λ e. option_or-none (found q)
    ]) refl
