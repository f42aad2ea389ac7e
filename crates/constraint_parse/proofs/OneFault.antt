-- A text of symbols has at most one fault, in any language.
use Rattle.std.proofs.Common.{◌≡◌, inl, inr, List, [], ◌∷◌, ◌++◌, ℕ, zero, suc, ◌+◌, ◌<◌, ◌≤◌, length, take, refl, ap, subst, Bool, true, false, ◌&&◌, IsTrue, ◌∙◌, append_assoc, arith}
use Rattle.std.specs.List.{list_all}
use Rattle.std.proofs.lemmas.Bool.{cases_lt}
use Rattle.std.proofs.lemmas.List.Folds.{list_all-append}
use Rattle.viable.proofs.Tests.{and_parts}
use Rattle.viable.specs.Prefix.{IsFault}

both : (a b : Bool) → IsTrue a → IsTrue b → IsTrue (a && b)
both true b h k = k
both false b h k = cc

-- the first m symbols are the first n and some more
record Longer {A : Type 0} (is_symbol : A → Bool) (n m : ℕ) (xs : List A) : Type 0 where
  more : List A
  symbols : IsTrue (list_all is_symbol more)
  whole : take m xs ≡ take n xs ++ more

longer : {A : Type 0} (is_symbol : A → Bool) (n m : ℕ) (xs : List A) → n ≤ m → IsTrue (list_all is_symbol xs) → Longer is_symbol n m xs
longer is_symbol zero zero xs h all = record { more = []; symbols = refl; whole = refl }
longer is_symbol (suc n) zero xs h all = absurd (omega arith)
longer is_symbol zero (suc m) [] h all = record { more = []; symbols = refl; whole = refl }
longer is_symbol (suc n) (suc m) [] h all = record { more = []; symbols = refl; whole = refl }
longer {A} is_symbol zero (suc m) (x ∷ xs) h all =
    let (one, others) = and_parts (is_symbol x) (list_all is_symbol xs) all in
    let l = longer is_symbol 0 m xs (omega arith) others in
    record { more = x ∷ l.more; symbols = both (is_symbol x) (list_all is_symbol l.more) one l.symbols; whole = ap (λ (y : List A). x ∷ y) l.whole }
longer {A} is_symbol (suc n) (suc m) (x ∷ xs) h all =
    let (one, others) = and_parts (is_symbol x) (list_all is_symbol xs) all in
    let l = longer is_symbol n m xs (omega arith) others in
    record { more = l.more; symbols = l.symbols; whole = ap (λ (y : List A). x ∷ y) l.whole }

-- a fault is at no place before another
not_before : {A V : Type 0} (is_symbol : A → Bool) (Language : List A → V → Type 0) (text : List A) (one other : ℕ)
    → IsTrue (list_all is_symbol text) → IsFault is_symbol Language text one → IsFault is_symbol Language text other → one < other → ⊥
not_before {A} {V} is_symbol Language text one other all a b lt =
    let (more, symbols, v, spelled) = b.viable in
    let within : other ≤ length text = b.within in
    let l = longer is_symbol (one + 1) other text (omega arith) all in
    let e : take other text ++ more ≡ take (one + 1) text ++ (l.more ++ more) = ap (λ (y : List A). y ++ more) l.whole ∙ append_assoc (take (one + 1) text) l.more more in
    a.longest (omega arith) (l.more ++ more, rw (list_all-append is_symbol l.more more, l.symbols, symbols) refl, v, subst (λ (y : List A). Language y v) e spelled)

-- a text of symbols has at most one fault
pub one_fault : {A V : Type 0} (is_symbol : A → Bool) (Language : List A → V → Type 0) (text : List A) (one other : ℕ)
    → IsTrue (list_all is_symbol text) → IsFault is_symbol Language text one → IsFault is_symbol Language text other → one ≡ other
one_fault is_symbol Language text one other all a b = elim (cases_lt one other) [
  | inl h ↦ absurd (not_before is_symbol Language text one other all a b h)
  | inr h ↦ elim (cases_lt other one) [
    | inl k ↦ absurd (not_before is_symbol Language text other one all b a k)
    | inr k ↦ omega arith
  ]
]
