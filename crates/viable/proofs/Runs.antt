-- Runs of bytes, as a scanner finds them, and that a text has one of them.
use Rattle.std.proofs.Common.{◌≡◌, List, [], ◌∷◌, ◌++◌, ℕ, ◌+◌, ◌-◌, ◌<◌, ◌≤◌, ◌==◌, length, take, drop, get_or, refl, sym, ap, subst, ◌∙◌, append_assoc, Bool, true, false, not, IsTrue, arith, length-append}
use Rattle.std.proofs.lemmas.List.{drop_all}
use Rattle.std.proofs.lemmas.Bool.{eqb-true}
use Rattle.std.proofs.Math.Seq.{take-append_seam}
use Rattle.std.specs.List.{list_all}
use Rattle.std.proofs.lemmas.List.Folds.{list_all-append}
use Rattle.plain_lemmas.proofs.Lists.{drop_next}
use Rattle.viable.specs.Runs.{is_run, ends_with, IsRunOf, IsRunTo}
use Rattle.viable.specs.inner.Standing.{SameHead}
use Rattle.viable.proofs.Tests.{and_parts}

pub run_starts : (test : ℕ → Bool) (text : List ℕ) (from : ℕ) → IsRunOf test text from from []
run_starts test text from = record { whole = refl; to_is = omega arith; of_class = refl }

pub run_more : (test : ℕ → Bool) (text : List ℕ) (from to : ℕ) (run : List ℕ) → IsRunOf test text from to run → to < length text → IsTrue (test (get_or text to 0))
    → IsRunOf test text from (to + 1) (run ++ get_or text to 0 ∷ [])
run_more test text from to run r h t = record {
  whole = r.whole ∙ ap (λ (x : List ℕ). run ++ x) (drop_next text to h) ∙ sym (append_assoc run (get_or text to 0 ∷ []) (drop (to + 1) text));
  to_is = let p : to ≡ from + length run = r.to_is in omega (arith, length-append run (get_or text to 0 ∷ []), p);
  of_class = rw (list_all-append test run (get_or text to 0 ∷ []), r.of_class, t) refl;
}

pub run_stops : (test : ℕ → Bool) (text : List ℕ) (from to : ℕ) (run : List ℕ) → IsRunOf test text from to run → to < length text → test (get_or text to 0) ≡ false → IsRunTo test text from to run
run_stops test text from to run r h t = record { is_run_of = r; longest = rw (drop_next text to h, t) refl }

pub run_ends : (test : ℕ → Bool) (text : List ℕ) (from to : ℕ) (run : List ℕ) → IsRunOf test text from to run → length text ≤ to → IsRunTo test text from to run
run_ends test text from to run r h = record { is_run_of = r; longest = let next : drop to text ≡ [] = drop_all to text h in rw next refl }

-- the bytes of a run are a slice of the text
pub run_slice : (test : ℕ → Bool) (text : List ℕ) (from to : ℕ) (run : List ℕ) → IsRunOf test text from to run → take (to - from) (drop from text) ≡ run
run_slice test text from to run r =
    let n : to - from ≡ length run = (let p : to ≡ from + length run = r.to_is in omega arith) in
    rw (n, r.whole) (take-append_seam run (drop to text))

pub run_of_some : (test : ℕ → Bool) (xs : List ℕ) → (length xs == 0) ≡ false → is_run test xs ≡ list_all test xs
run_of_some test [] e = cc
run_of_some test (x ∷ xs) e = refl

pub run_of_none : (test : ℕ → Bool) (xs : List ℕ) → (length xs == 0) ≡ true → is_run test xs ≡ false
run_of_none test [] e = refl
run_of_none test (x ∷ xs) e = let z : length (x ∷ xs) ≡ 0 = eqb-true _ 0 e in absurd (omega arith)

pub ruleset run_laws = (run_of_some, run_of_none)

pub run_valid : (test : ℕ → Bool) (xs : List ℕ) → IsTrue (is_run test xs) → IsTrue (list_all test xs)
run_valid test [] h = cc
run_valid test (x ∷ xs) h = h

-- bytes between two different places are a run
pub run_is : (test : ℕ → Bool) (run : List ℕ) (at to : ℕ) → IsTrue (list_all test run) → to ≡ at + length run → at < to → IsTrue (is_run test run)
run_is test [] at to h e lt = absurd (omega arith)
run_is test (x ∷ run) at to h e lt = h

pub run_begins : (test : ℕ → Bool) (run : List ℕ) → IsTrue (is_run test run) → (c : ℕ) × (cs : List ℕ) × (run ≡ c ∷ cs) × IsTrue (test c)
run_begins test [] h = cc
run_begins test (c ∷ cs) h = (c, cs, refl, (and_parts _ _ h).0)

-- a byte in front of which no run of the class goes on
pub same_end : (test : ℕ → Bool) (xs ys : List ℕ) → SameHead xs ys → IsTrue (ends_with test ys) → IsTrue (ends_with test xs)
same_end test [] ys h e = refl
same_end test (x ∷ xs) [] h e = absurd h
same_end test (x ∷ xs) (y ∷ ys) h e = rw h e

-- a text begins with one longest run
pub run_unique : (test : ℕ → Bool) (a b x y : List ℕ) → a ++ x ≡ b ++ y → IsTrue (list_all test a) → IsTrue (list_all test b) → IsTrue (ends_with test x) → IsTrue (ends_with test y) → (a ≡ b) × (y ≡ x)
run_unique test [] [] x y e pa pb ex ey = (refl, sym e)
run_unique test [] (c ∷ b) x y e pa pb ex ey =
    let y1 : test c ≡ true = (and_parts _ _ pb).0 in
    let n : not (test c) ≡ true = subst (λ (z : List ℕ). IsTrue (ends_with test z)) e ex in
    absurd (let q : not true ≡ true = ap not (sym y1) ∙ n in cc)
run_unique test (c ∷ a) [] x y e pa pb ex ey =
    let y1 : test c ≡ true = (and_parts _ _ pa).0 in
    let n : not (test c) ≡ true = subst (λ (z : List ℕ). IsTrue (ends_with test z)) (sym e) ey in
    absurd (let q : not true ≡ true = ap not (sym y1) ∙ n in cc)
run_unique test (c ∷ a) (d ∷ b) x y e pa pb ex ey =
    let tail : a ++ x ≡ b ++ y = cc in
    let head : c ≡ d = cc in
    let (same, rest) = run_unique test a b x y tail (and_parts _ _ pa).1 (and_parts _ _ pb).1 ex ey in
    ((let g : c ∷ a ≡ d ∷ b = cc in g), rest)
