-- Blocks of one length, one after the other.
use Rattle.std.proofs.Common.{◌≡◌, ℕ, ◌+◌, ◌-◌, ◌*◌, ◌<◌, ◌≤◌, List, ◌++◌, length, get_or, sym, ap, ◌∙◌, subst, arith, add-zero}
use Rattle.std.proofs.lemmas.List.{length-append, get_or_append_left, get_or-append_right}
use Rattle.std.specs.List.{flat_map, range_with_len}
use Prim.Native.Nat.{zero, suc}

-- how long they are
pub length-blocks : {X : Type 0} (f : ℕ → List X) (m a c : ℕ) → ((k : ℕ) → length (f k) ≡ m) → length (flat_map f (range_with_len a c)) ≡ c * m
length-blocks f m a zero h = omega arith
length-blocks f m a (suc c) h =
    length-append (f a) (flat_map f (range_with_len (a + 1) c)) ∙ ap (λ x. x + length (flat_map f (range_with_len (a + 1) c))) (h a) ∙ ap (λ x. m + x) (length-blocks f m (a + 1) c h) ∙ omega arith

-- the r-th element of the k-th block
pub get_or-blocks : {X : Type 0} (f : ℕ → List X) (m a c k r : ℕ) (d : X) → ((k : ℕ) → length (f k) ≡ m) → k < c → r < m → get_or (flat_map f (range_with_len a c)) (k * m + r) d ≡ get_or (f (a + k)) r d
get_or-blocks f m a zero k r d h lt below = absurd (omega arith)
get_or-blocks f m a (suc c) zero r d h lt below =
    let z : 0 * m + r ≡ r = omega arith in
    let len : r < length (f a) = subst (λ x. r < x) (sym (h a)) below in
    ap (λ x. get_or (f a ++ flat_map f (range_with_len (a + 1) c)) x d) z ∙ get_or_append_left (f a) (flat_map f (range_with_len (a + 1) c)) d r len ∙ ap (λ x. get_or (f x) r d) (sym (add-zero a))
get_or-blocks f m a (suc c) (suc k) r d h lt below =
    let far : m ≤ suc k * m + r = omega arith in
    let less : suc k * m + r - m ≡ k * m + r = omega arith in
    let next : a + 1 + k ≡ a + suc k = omega arith in
    get_or-append_right (f a) (flat_map f (range_with_len (a + 1) c)) m (suc k * m + r) d (h a) far
    ∙ ap (λ x. get_or (flat_map f (range_with_len (a + 1) c)) x d) less
    ∙ get_or-blocks f m (a + 1) c k r d h (omega arith) below
    ∙ ap (λ x. get_or (f x) r d) next
