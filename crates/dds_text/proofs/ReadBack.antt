-- A printed dataset is read back.
use Rattle.std.proofs.Common.{◌≡◌, ℕ, ◌+◌, ◌-◌, ◌≤◌, List, ◌++◌, length, take, refl, sym, ap, subst, ◌∙◌, append_assoc, length-append, take-take, take_at, codes, arith}
use Rattle.std.proofs.lemmas.List.{length-take}
use Rattle.dap_types.specs.Model.{Dataset}
use Rattle.dap_types.specs.WellFormed.{IsWellFormed}
use Rattle.dap_model.proofs.PrintedDataset.{reads_print}
use Rattle.dap_model.proofs.PrintedMembers.{dds_text, dds-text}
use Rattle.dap_model.specs.Dds.{dds}
use Rattle.dap_model.specs.Grammar.{DdsOf, HasWords}
use Rattle.dds_text.specs.Reading.{limit, IsDone}

long_front : (k : ℕ) (bytes : List ℕ) (n : ℕ) → n ≤ k → n ≤ length bytes → n ≤ length (take k bytes)
long_front k bytes n le within = omega (arith, length-take k bytes)

read_front : (text more : List ℕ) (d : Dataset) → DdsOf text d → length text ≤ limit → IsDone (text ++ more) (length text) d
read_front text more d is le =
    let same : take (length text) (take limit (text ++ more)) ≡ text = take-take (length text) limit (text ++ more) le ∙ take_at text more (length text) refl in
    record {
      within = long_front limit (text ++ more) (length text) le (omega (arith, length-append text more));
      is_text = subst (λ bs. DdsOf bs d) (sym same) is;
    }

-- up to its last semicolon, whatever follows its line feed
pub read_back : (d : Dataset) (more : List ℕ) → HasWords d → IsWellFormed d → length (dds d) ≤ limit → IsDone (dds d ++ more) (length (dds d) - 1) d
read_back d more words fits le =
    let text : List ℕ = dds_text d in
    let whole : length (dds d) ≡ length text + 1 = ap length (dds-text d) ∙ length-append text (codes "\n") in
    let count : length text ≡ length (dds d) - 1 = omega (arith, whole) in
    let bytes : text ++ (codes "\n" ++ more) ≡ dds d ++ more = sym (append_assoc text (codes "\n") more) ∙ ap (λ z. z ++ more) (sym (dds-text d)) in
    let done = read_front text (codes "\n" ++ more) d (reads_print d words fits) (omega (arith, whole, le)) in
    subst (λ bs. IsDone bs (length (dds d) - 1) d) bytes (subst (λ n. IsDone (text ++ (codes "\n" ++ more)) n d) count done)
