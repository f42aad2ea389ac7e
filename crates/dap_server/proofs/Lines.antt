-- The lines of a list, one after the other.
use Rattle.std.proofs.Common.{◌≡◌, ℕ, ◌+◌, ◌≤◌, List, [], ◌∷◌, ◌++◌, drop, length, min, Option, Some, None, Result, Ok, Err, refl, sym, ap, ◌∙◌, inl, inr, subst, arith, append_assoc, append-nil}
use Rattle.std.specs.List.{AllZip}
use Rattle.std.specs.Option.{option_map_or}
use Rattle.dap_errors.specs.declared.cause.Cause.{Cause}
use Rattle.dap_outside.specs.Files.{Told}
use Rattle.dap_server.specs.Costs.{most_of_names}
use Rattle.dap_server.specs.Joins.{IsMember, Member, Members}
use Rattle.dap_server.specs.inner.Members.{most_in_line, most_in_lines}

-- the members of some lines behind those of the lines before them
abbrev pub behind : List Member → Result (List Member) Cause → Result (List Member) Cause
behind ms (Ok rest) = Ok (ms ++ rest)
behind ms (Err cause) = Err cause

-- the first k lines have these members
abbrev pub Reached : Told → List (List ℕ) → ℕ → List Member → Type 0
Reached told names k ms = (r : Result (List Member) Cause) → Members told (k + 1) (drop k names) r → Members told 1 names (behind ms r)

pub begin : (told : Told) (names : List (List ℕ)) → Reached told names 0 []
begin told names (Ok rest) is = is
begin told names (Err cause) is = is

pub one_more : (told : Told) (names : List (List ℕ)) (k : ℕ) (name : List ℕ) (ms : List Member) (m : Member) → drop k names ≡ name ∷ drop (k + 1) names
    → IsMember told (k + 1) name (Ok m) → Reached told names k ms → Reached told names (k + 1) (ms ++ m ∷ [])
one_more told names k name ms m here is reached (Ok rest) given =
    subst (λ l. Members told 1 names (Ok l)) (sym (append_assoc ms (m ∷ []) rest))
    (reached (Ok (m ∷ rest)) (subst (λ l. Members told (k + 1) l (Ok (m ∷ rest))) (sym here) (inl (m, is, inl (rest, given, refl)))))
one_more told names k name ms m here is reached (Err cause) given =
    reached (Err cause) (subst (λ l. Members told (k + 1) l (Err cause)) (sym here) (inl (m, is, inr (cause, given, refl))))

pub bad : (told : Told) (names : List (List ℕ)) (k : ℕ) (name : List ℕ) (ms : List Member) (cause : Cause) → drop k names ≡ name ∷ drop (k + 1) names
    → IsMember told (k + 1) name (Err cause) → Reached told names k ms → Members told 1 names (Err cause)
bad told names k name ms cause here is reached = reached (Err cause) (subst (λ l. Members told (k + 1) l (Err cause)) (sym here) (inr (cause, is, refl)))

pub whole : (told : Told) (names : List (List ℕ)) (k : ℕ) (ms : List Member) → drop k names ≡ [] → Reached told names k ms → Members told 1 names (Ok ms)
whole told names k ms none reached =
    subst (λ l. Members told 1 names (Ok l)) (append-nil ms) (reached (Ok []) (subst (λ l. Members told (k + 1) l (Ok [])) (sym none) refl))

pub zip_push : {A B : Type 0} (R : A → B → Type 0) (xs : List A) (ys : List B) (x : A) (y : B) → AllZip R xs ys → R x y → AllZip R (xs ++ x ∷ []) (ys ++ y ∷ [])
zip_push R [] [] x y all r = (r, tt)
zip_push R [] (b ∷ ys) x y all r = absurd all
zip_push R (a ∷ xs) [] x y all r = absurd all
zip_push R (a ∷ xs) (b ∷ ys) x y all r = (all.0, zip_push R xs ys x y all.1 r)

-- what is asked for a line and for those behind it
pub line_first : (told : Told) (line : ℕ) (name : List ℕ) (names : List (List ℕ)) (m : Member) → IsMember told line name (Ok m) → most_in_line told name + most_in_lines told names ≡ most_in_lines told (name ∷ names)
line_first None line name names m is = omega arith
line_first (Some files) line name names m is =
    let there : files name ≡ Some m.bytes = is.0 in
    ap (λ o. option_map_or (λ file. min (length file) 1048576) o 0 + most_of_names files names) there
    ∙ sym (ap (λ o. option_map_or (λ file. min (length file) 1048576 + most_of_names files names) o 0) there)

pub line_within : (told : Told) (name : List ℕ) (names : List (List ℕ)) → most_in_line told name ≤ most_in_lines told (name ∷ names)
line_within None name names = omega arith
line_within (Some files) name names = go (files name) where
  go : (o : Option (List ℕ)) → option_map_or (λ file. min (length file) 1048576) o 0 ≤ option_map_or (λ file. min (length file) 1048576 + most_of_names files names) o 0
  go None = omega arith
  go (Some file) = omega arith
