-- One byte of a list of files after the other.
use Rattle.std.proofs.Common.{◌≡◌, ◌≢◌, ℕ, ◌+◌, ◌-◌, ◌<◌, ◌≤◌, Bool, true, false, ◌&&◌, cond, nat_lt, IsTrue, List, [], ◌∷◌, ◌++◌, length, take, drop, get_or, Err, ap, ◌∙◌, arith}
use Rattle.std.proofs.lemmas.Bool.{ne_eqb, eq-eqb}
use Rattle.std.proofs.lemmas.List.{take_more, get_or-drop, length-drop}
use Rattle.join_source.specs.Lists.{lines_from, names_from, without_return}
use Rattle.join_source.specs.Names.{is_member_name}
use Rattle.join_source.specs.declared.refusal.ListRefusal.TheVariants.{BadLine}

pub one-name : (names : List (List ℕ)) (line : List ℕ) (lines : List (List ℕ)) → (is_member_name line && nat_lt (length names) 64) ≡ true → names_from names (line ∷ lines) ≡ names_from (names ++ line ∷ []) lines
unfolding names_from
one-name names line lines good = ap (λ b. cond b (names_from (names ++ line ∷ []) lines) (Err (BadLine (length names + 1)))) good

pub bad-name : (names : List (List ℕ)) (line : List ℕ) (lines : List (List ℕ)) → (is_member_name line && nat_lt (length names) 64) ≡ false → names_from names (line ∷ lines) ≡ Err (BadLine (length names + 1))
unfolding names_from
bad-name names line lines bad = ap (λ b. cond b (names_from (names ++ line ∷ []) lines) (Err (BadLine (length names + 1)))) bad

pub true-of : (b : Bool) → IsTrue b → b ≡ true
true-of b t = t

pub line-end : (line bytes : List ℕ) (b : ℕ) → b ≡ 10 → lines_from line (b ∷ bytes) ≡ without_return line ∷ lines_from [] bytes
unfolding lines_from
line-end line bytes b is = ap (λ t. cond t (without_return line ∷ lines_from [] bytes) (lines_from (line ++ b ∷ []) bytes)) (eq-eqb b 10 is)

pub line-more : (line bytes : List ℕ) (b : ℕ) → b ≢ 10 → lines_from line (b ∷ bytes) ≡ lines_from (line ++ b ∷ []) bytes
unfolding lines_from
line-more line bytes b other = ap (λ t. cond t (without_return line ∷ lines_from [] bytes) (lines_from (line ++ b ∷ []) bytes)) (ne_eqb b 10 other)

pub none-left : (line : List ℕ) → length line ≡ 0 → lines_from line [] ≡ []
unfolding lines_from
none-left line e = ap (λ t. cond t [] (line ∷ [])) (eq-eqb (length line) 0 e)

pub last-left : (line : List ℕ) → length line ≢ 0 → lines_from line [] ≡ line ∷ []
unfolding lines_from
last-left line e = ap (λ t. cond t [] (line ∷ [])) (ne_eqb (length line) 0 e)

pub grown : (bytes : List ℕ) (start k : ℕ) → start ≤ k → k < length bytes → take (k + 1 - start) (drop start bytes) ≡ take (k - start) (drop start bytes) ++ get_or bytes k 0 ∷ []
grown bytes start k le lt =
    let next : k + 1 - start ≡ (k - start) + 1 = omega (arith, le) in
    let here : start + (k - start) ≡ k = omega (arith, le) in
    ap (λ n. take n (drop start bytes)) next
    ∙ take_more (drop start bytes) (k - start) 0 (omega (arith, le, lt, length-drop start bytes))
    ∙ ap (λ b. take (k - start) (drop start bytes) ++ b ∷ []) (get_or-drop start bytes (k - start) 0 ∙ ap (λ i. get_or bytes i 0) here)
