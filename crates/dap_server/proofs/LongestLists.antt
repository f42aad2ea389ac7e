-- Whatever came of a list, no more was asked than for a list that the shelf may have. Where it tells no files, one of
-- 64 lines is such a list.
use Rattle.std.proofs.Common.{◌≡◌, ℕ, zero, suc, ◌+◌, ◌*◌, ◌≤◌, true, false, ◌&&◌, cond, List, [], ◌∷◌, ◌++◌, length, Some, None, Ok, Err, refl, ap, ◌∙◌, arith, length-append}
use Rattle.std.specs.Prelude.{nat_lt}
use Rattle.std.proofs.lemmas.Bool.{ne_eqb}
use Rattle.std.proofs.lemmas.Bool.Decides.{nat_tests}
use Rattle.join_source.specs.Lists.{lines_from, list_of, names_from}
use Rattle.join_source.specs.Names.{is_member_name, is_netcdf}
use Rattle.join_source.specs.declared.refusal.ListRefusal.TheVariants.{BadLine, TooLong}
use Rattle.target_names.specs.Names.{is_name}
use Rattle.file_names.specs.Names.{segment}
use Rattle.dap_outside.specs.Files.{Told}
use Rattle.dap_server.proofs.OpeningLists.{found_lines, list_within, untold_first}
use Rattle.dap_server.specs.Costs.{IsWithinAList, most_first}
use Rattle.dap_server.specs.Files.{form_of, joined}

-- the name `a.nc`, and so many lines of it
abbrev line : List ℕ
line = 97 ∷ 46 ∷ 110 ∷ 99 ∷ []

abbrev many_lines : ℕ → List ℕ
many_lines zero = []
many_lines (suc n) = 97 ∷ 46 ∷ 110 ∷ 99 ∷ 10 ∷ many_lines n

abbrev many_names : ℕ → List (List ℕ)
many_names zero = []
many_names (suc n) = line ∷ many_names n

many-bytes : (n : ℕ) → length (many_lines n) ≡ n * 5
many-bytes zero = refl
many-bytes (suc n) = omega (arith, many-bytes n)

are-lines : (n : ℕ) → lines_from [] (many_lines n) ≡ many_names n
unfolding lines_from
are-lines zero = refl
are-lines (suc n) = ap (λ lines. line ∷ lines) (are-lines n)

is-member : is_member_name line ≡ true
unfolding is_member_name is_netcdf is_name segment
is-member = refl

abbrev Lines : List (List ℕ) → List (List ℕ) → ℕ → Type 0
Lines before lines many = (names : List (List ℕ)) × (names_from before lines ≡ Ok names) × (length names ≡ many)

few-lines : (n : ℕ) → n + 1 ≤ 64 → nat_lt n 64 ≡ true
few-lines n few = grind (arith, nat_tests, few)

one-more : (before : List (List ℕ)) (lines : List (List ℕ)) (many : ℕ) → length before + 1 ≤ 64 → Lines (before ++ line ∷ []) lines many → Lines before (line ∷ lines) many
unfolding names_from
one-more before lines many few (names, are, long) =
    let good : (is_member_name line && nat_lt (length before) 64) ≡ true = ap (λ b. b && nat_lt (length before) 64) is-member ∙ few-lines (length before) few in
    (names, ap (λ b. cond b (names_from (before ++ line ∷ []) lines) (Err (BadLine (length before + 1)))) good ∙ are, long)

are-names : (before : List (List ℕ)) (n : ℕ) → length before + n ≤ 64 → 1 ≤ length before + n → Lines before (many_names n) (length before + n)
unfolding names_from
are-names before zero few some =
    (before, ap (λ b. cond b (Err (BadLine 1)) (Ok before)) (ne_eqb (length before) 0 (λ e. omega (arith, some, e))), omega arith)
are-names before (suc n) few some =
    let longer : length (before ++ line ∷ []) ≡ length before + 1 = length-append before (line ∷ []) in
    let (names, are, long) = one-more before (many_names n) (length (before ++ line ∷ []) + n) (omega (arith, few)) (are-names (before ++ line ∷ []) n (omega (arith, few, longer)) (omega (arith, some, longer))) in
    (names, are, omega (arith, long, longer))

abbrev longest : List ℕ
longest = many_lines 64

longest-lists : (names : List (List ℕ)) × (list_of longest ≡ Ok names) × (length names ≡ 64)
unfolding list_of
longest-lists =
    let (names, are, long) = are-names [] 64 (omega arith) (omega arith) in
    let short : nat_lt 65536 (length longest) ≡ false = grind (arith, nat_tests, many-bytes 64) in
    (names, ap (λ b. cond b (Err TooLong) (names_from [] (lines_from [] longest))) short ∙ ap (names_from []) (are-lines 64) ∙ are, long)

pub within_a_list : (told : Told) (name : List ℕ) (before now : ℕ) → form_of name ≡ Some joined → now ≤ before + most_first told name → IsWithinAList told name before now
within_a_list None name before now form asked =
    let (names, is, long) = longest-lists in
    ((λ n. Some longest), tt, omega (arith, asked, untold_first name form, found_lines (λ n. Some longest) name longest (Ok names) refl is, long))
within_a_list (Some files) name before now form asked = (files, refl, omega (arith, asked, list_within files name form))
