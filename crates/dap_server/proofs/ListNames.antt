-- The names in a list are names of netCDF files, at least one and at most 64.
use Rattle.std.proofs.Common.{◌≡◌, ℕ, ◌+◌, ◌≤◌, Bool, true, false, cond, ◌&&◌, ◌==◌, IsTrue, List, [], ◌∷◌, ◌++◌, length, All, Result, Ok, Err, refl, subst, arith, length-append}
use Rattle.std.specs.Prelude.{nat_lt}
use Rattle.std.proofs.lemmas.Bool.{and_parts}
use Rattle.std.proofs.lemmas.Bool.Decides.{nat_tests}
use Rattle.std.proofs.lemmas.List.Elements.{All-append, All-cons, All-nil}
use Rattle.join_source.specs.Lists.{lines_of, list_of, names_from}
use Rattle.join_source.specs.Names.{is_member_name}
use Rattle.join_source.specs.declared.refusal.ListRefusal.{ListRefusal}
use Rattle.join_source.specs.declared.refusal.ListRefusal.TheVariants.{BadLine, TooLong}

abbrev IsName : List ℕ → Type 0
IsName name = IsTrue (is_member_name name)

abbrev pub AreNames : List (List ℕ) → Type 0
AreNames names = All IsName names

pub record GoodNames (names : List (List ℕ)) : Type 0 where
  pub are_names : AreNames names
  pub few : length names ≤ 64
  pub some : 1 ≤ length names

abbrev names_or : List (List ℕ) → Bool → Result (List (List ℕ)) ListRefusal → Result (List (List ℕ)) ListRefusal
names_or names b r = cond b r (Err (BadLine (length names + 1)))

abbrev ok-of : List (List ℕ) → Result (List (List ℕ)) ListRefusal
ok-of names = Ok names

ok-same : (a b : List (List ℕ)) → ok-of a ≡ Ok b → a ≡ b
ok-same a b is = cc is

good-from : (names lines result : List (List ℕ)) → AreNames names → length names ≤ 64 → names_from names lines ≡ Ok result → GoodNames result
unfolding names_from
good-from names [] result all few is = ends (length names == 0) refl is where
  ends : (b : Bool) → (length names == 0) ≡ b → cond b (Err (BadLine 1)) (Ok names) ≡ Ok result → GoodNames result
  ends true none e = cc e
  ends false some e = subst GoodNames (ok-same names result e) (record { are_names = all; few = few; some = grind (arith, nat_tests, some) })
good-from names (line ∷ lines) result all few is = goes (is_member_name line && nat_lt (length names) 64) refl (good-from (names ++ line ∷ []) lines result) is where
  goes : (b : Bool) → (is_member_name line && nat_lt (length names) 64) ≡ b
      → (AreNames (names ++ line ∷ []) → length (names ++ line ∷ []) ≤ 64 → names_from (names ++ line ∷ []) lines ≡ Ok result → GoodNames result)
      → names_or names b (names_from (names ++ line ∷ []) lines) ≡ Ok result → GoodNames result
  goes false bad more e = cc e
  goes true good more e =
      let (named, room) = and_parts _ _ good in
      more (All-append IsName names (line ∷ []) all (All-cons IsName line [] named (All-nil IsName))) (grind (arith, nat_tests, room, length-append names (line ∷ []))) e

pub good-names : (bytes : List ℕ) (names : List (List ℕ)) → list_of bytes ≡ Ok names → GoodNames names
unfolding list_of
good-names bytes names is = go (nat_lt 65536 (length bytes)) is where
  go : (b : Bool) → cond b (Err TooLong) (names_from [] (lines_of bytes)) ≡ Ok names → GoodNames names
  go true e = cc e
  go false e = good-from [] (lines_of bytes) names (All-nil IsName) (omega arith) e
