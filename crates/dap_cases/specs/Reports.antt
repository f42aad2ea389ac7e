-- The lines of the cases and their count.
use Rattle.std.specs.Prelude.{ℕ, Bool, List, ◌++◌, codes, count_by, length}
use Rattle.std.specs.Fmt.{decimal}
use Rattle.std.specs.List.{flat_map}
use Rattle.dap_cases.specs.Verdicts.{is_agreed}
use Rattle.dap_cases.specs.declared.outcome.Outcome.{Outcome}
use Rattle.dap_cases.specs.declared.verdict.Verdict.{Verdict}
use Rattle.dap_cases.specs.declared.verdict.Verdict.TheVariants.{Agrees, Number, Stdout, Stderr, Unread}

abbrev pub agrees : Outcome → Bool
agrees o = is_agreed o.verdict

-- the rest of a line, behind the name
abbrev pub verdict_text : Verdict → List ℕ
verdict_text Agrees = codes " ok\n"
verdict_text (Number found wanted) = codes " status " ++ (decimal found ++ (codes " and not " ++ (decimal wanted ++ codes "\n")))
verdict_text (Stdout place) = codes " stdout differs at " ++ (decimal place ++ codes "\n")
verdict_text (Stderr place) = codes " stderr differs at " ++ (decimal place ++ codes "\n")
verdict_text Unread = codes " is not read\n"

abbrev pub line_of : Outcome → List ℕ
line_of o = o.name ++ verdict_text o.verdict

abbrev pub passed : List Outcome → ℕ
passed outcomes = count_by agrees outcomes

abbrev pub count_line : ℕ → ℕ → List ℕ
count_line some all = decimal some ++ (codes " of " ++ (decimal all ++ codes " passed\n"))

-- a line for each, and how many of how many agree
abbrev pub report_of : List Outcome → List ℕ
report_of outcomes = flat_map line_of outcomes ++ count_line (passed outcomes) (length outcomes)
