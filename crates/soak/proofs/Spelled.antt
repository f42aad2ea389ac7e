-- The text of the constraint spells it.
use Rattle.std.proofs.Common.{◌≡◌, ℕ, ◌-◌, ◌^◌, ◌<◌, ◌≤◌, true, List, [], ◌∷◌, length, refl, sym, ap, subst, ◌∙◌, arith, ltb, rules, None, Some}
use Rattle.std.specs.Prelude.{codes, pos}
use Rattle.std.specs.Fmt.{decimal}
use Rattle.std.specs.List.{list_all, flat_map}
use Rattle.std.proofs.lemmas.Bool.{and_parts, lt-ltb}
use Rattle.std.proofs.lemmas.Fmt.{decimal_is_IsNumeral, digits_decimal, digits_value-decimal}
use Rattle.std.proofs.lemmas.Str.Parse.{IsNumeralModel, numerals_by_fold}
use Rattle.dap_types.specs.Names.{constraint_id}
use Rattle.viable.specs.Numerals as numerals
use Rattle.viable.specs.Runs.{is_run}
use Rattle.constraint_parse.specs.Language.{ConstraintTree, IsSpaced, IsTextOf, Token, constraint_tokens, is_digit, is_token, path as steps, range, some_items, strided, token_bytes}
use Rattle.constraint_parse.specs.Values as values
use Rattle.constraint_parse.specs.Values.{Spells, constraint_value}
use Rattle.constraint_parse.specs.declared.constraint.Constraint.{Constraint}
use Rattle.constraint_parse.specs.declared.constraint.Item.TheVariants.{Path}
use Rattle.constraint_parse.specs.declared.constraint.Number.{Number}
use Rattle.constraint_parse.specs.declared.constraint.Number.TheVariants.{Small}
use Rattle.soak.specs.Asked.{constraint_text, soak_constraint}
use Rattle.grid_projection.specs.Worked.{by, to}

spaced : (tokens : List Token) → list_all is_token tokens ≡ true → IsSpaced (flat_map token_bytes tokens) tokens
spaced [] e = refl
spaced (t ∷ tokens) e = let own = and_parts _ _ e in ([], flat_map token_bytes tokens, refl, own.0, refl, spaced tokens own.1)

-- the tree of the text, by the digits of its last record
abbrev tree : List ℕ → ConstraintTree
tree last = record {
  items = some_items
      (steps [] (record { label = codes "s"; slabs = strided (codes "0") (codes "2") last ∷ range (codes "0") (codes "31") ∷ strided (codes "1") (codes "3") (codes "31") ∷ [] }) ∷ [])
      (steps [] (record { label = codes "i"; slabs = range (codes "0") last ∷ range (codes "31") (codes "31") ∷ range (codes "0") (codes "31") ∷ [] }));
  clauses = [];
}

are_tokens : (last : List ℕ) → is_run is_digit last ≡ true → list_all is_token (constraint_tokens (tree last)) ≡ true
are_tokens last e = rw e refl

text_is : (records : ℕ) → flat_map token_bytes (constraint_tokens (tree (decimal (records - 1)))) ≡ constraint_text records
text_is records = refl

-- ---- the numbers

pub digits : IsNumeralModel (λ ds. list_all is_digit ds ≡ true) (numerals.decimal_from 0)
digits = numerals_by_fold _ (search rules) numerals.decimal_from (search rules)

is-run : (ds : List ℕ) → 0 < length ds → list_all is_digit ds ≡ true → is_run is_digit ds ≡ true
is-run [] some e = absurd (omega arith)
is-run (d ∷ ds) some e = e

decimal-run : (n : ℕ) → n < 2 ^ 64 → is_run is_digit (decimal n) ≡ true
decimal-run n lt = is-run (decimal n) (decimal_is_IsNumeral n lt).0.0 (digits_decimal digits n lt)

number-is : (n : ℕ) → n < 2 ^ 64 → values.number_value (decimal n) ≡ Small (pos n)
number-is n lt =
    let is : numerals.decimal (decimal n) ≡ n = digits_value-decimal digits n lt in
    let fits : ltb n (2 ^ 127) ≡ true = lt-ltb n (2 ^ 127) (omega arith) in
    rw is (rw fits refl)

-- the constraint of the text, by its last record
abbrev built : Number → Constraint
built last = record {
  items = Path (record { name = codes "s"; slabs = record { first = Small (pos 0); middle = Some (Small (pos 2)); last = Some last } ∷ to 0 31 ∷ by 1 3 31 ∷ [] } ∷ [])
      ∷ Path (record { name = codes "i"; slabs = record { first = Small (pos 0); middle = None; last = Some last } ∷ to 31 31 ∷ to 0 31 ∷ [] } ∷ []) ∷ [];
  clauses = [];
}

value-is : (last : List ℕ) → constraint_value (tree last) ≡ built (values.number_value last)
unfolding constraint_id
value-is last = refl

pub is-spelled : (records : ℕ) → records ≤ 4096 → Spells (constraint_text records) (soak_constraint (records - 1))
is-spelled records few =
    let lt : records - 1 < 2 ^ 64 = omega arith in (
      tree (decimal (records - 1)),
      subst (λ text. IsTextOf text (tree (decimal (records - 1)))) (text_is records) (spaced (constraint_tokens (tree (decimal (records - 1)))) (are_tokens (decimal (records - 1)) (decimal-run (records - 1) lt))),
      sym (value-is (decimal (records - 1)) ∙ ap built (number-is (records - 1) lt)),
    )
