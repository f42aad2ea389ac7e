-- The name in a target is of bytes.
use Rattle.std.proofs.Common.{◌≡◌, ℕ, ◌<◌, Bool, true, false, cond, List, [], ◌∷◌, All, Option, Some, None, refl, subst, arith, tests}
use Rattle.std.specs.List.{list_all, onto_first, slice_split}
use Rattle.std.proofs.lemmas.Bool.{and_from, and_parts, eqb-true, false≢true}
use Rattle.std.proofs.lemmas.List.Elements.{All-cons, All-nil}
use Rattle.target_names.specs.Names.{is_name, is_name_byte, is_segment, is_slash}
use Rattle.dap_http.specs.Targets.{Asked, asked_in, is_target_long, kind_of, kinded_in, named_in, path_of, query_of, target_of, without_origin, without_slash, without_suffix}
use Rattle.dap_http.specs.declared.kind.Kind.{Kind}
use Rattle.file_names.proofs.Words.{IsByte}
use Rattle.target_names.proofs.NameText.{onto-plain, segments-plain}

byte-small : (b : ℕ) → is_name_byte b ≡ true → b < 256
byte-small b e = grind (arith, tests, e)

split-plain : (x : ℕ) (xs : List ℕ) → list_all (list_all is_name_byte) (slice_split is_slash (x ∷ xs)) ≡ true → (x < 256) × (list_all (list_all is_name_byte) (slice_split is_slash xs) ≡ true)
split-plain x xs e = go (is_slash x) refl e where
  go : (t : Bool) → is_slash x ≡ t → list_all (list_all is_name_byte) (cond t ([] ∷ slice_split is_slash xs) (onto_first x (slice_split is_slash xs))) ≡ true
      → (x < 256) × (list_all (list_all is_name_byte) (slice_split is_slash xs) ≡ true)
  go true is all = (omega (arith, eqb-true x 47 is), all)
  go false is all = let (own, others) = onto-plain x (slice_split is_slash xs) all in (byte-small x own, others)

small-bytes : (xs : List ℕ) → list_all (list_all is_name_byte) (slice_split is_slash xs) ≡ true → All (λ b. b < 256) xs
small-bytes [] e = All-nil IsByte
small-bytes (x ∷ xs) e = let (small, others) = split-plain x xs e in All-cons IsByte x xs small (small-bytes xs others)

name-bytes : (name : List ℕ) → is_name name ≡ true → All (λ b. b < 256) name
unfolding is_name
name-bytes name e =
    let (long, all) = and_parts _ _ e in
    small-bytes name (segments-plain (slice_split is_slash name) all)

named-so : (path query : List ℕ) (kind : Kind) (a : Asked) → named_in path query kind ≡ Some a → is_name a.name ≡ true
named-so path query kind a e = go (is_name (without_suffix kind path)) refl e where
  go : (b : Bool) → is_name (without_suffix kind path) ≡ b → cond b (Some (record { name = without_suffix kind path; kind = kind; query = query })) None ≡ Some a → is_name a.name ≡ true
  go true is same = let one : record { name = without_suffix kind path; kind = kind; query = query } ≡ a = cc in subst (λ (x : Asked). is_name x.name ≡ true) one is
  go false is same = cc same

kinded-so : (path query : List ℕ) (kind : Option Kind) (a : Asked) → kinded_in path query kind ≡ Some a → is_name a.name ≡ true
kinded-so path query None a e = cc e
kinded-so path query (Some kind) a e = named-so path query kind a e

asked-so : (rest : Option (List ℕ)) (a : Asked) → asked_in rest ≡ Some a → is_name a.name ≡ true
asked-so None a e = cc e
asked-so (Some rest) a e = kinded-so (path_of (without_slash rest)) (query_of (without_slash rest)) (kind_of (path_of (without_slash rest))) a e

target-so : (target : List ℕ) (a : Asked) → target_of target ≡ Some a → is_name a.name ≡ true
unfolding target_of
target-so target a e = go (is_target_long target) e where
  go : (b : Bool) → cond b (asked_in (without_origin target)) None ≡ Some a → is_name a.name ≡ true
  go true same = asked-so (without_origin target) a same
  go false same = cc same

pub target-name : (target : List ℕ) (a : Asked) → target_of target ≡ Some a → All (λ b. b < 256) a.name
target-name target a e = name-bytes a.name (target-so target a e)
