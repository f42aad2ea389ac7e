-- Names by which the members of a level are found.
use Rattle.std.proofs.Common.{◌≡◌, ℕ, Bool, ◌||◌, List, [], ◌∷◌, ◌++◌, ap, ◌∙◌, sym, refl}
use Rattle.std.specs.List.{list_any}
use Rattle.std.specs.Str.{bytes_eq}
use Rattle.std.proofs.lemmas.List.Folds.{list_any-append}
use Rattle.plain_lemmas.proofs.Truths.{or_false, or_comm}
use Rattle.dap_types.specs.Model.{Member, name_of}
use Rattle.dap_types.specs.NameSet.{HasAlso}
use Rattle.dap_types.specs.declared.declarations.Column.{Column}
use Rattle.dds_text.specs.inner.Held.{NamesAre}
use Rattle.dds_text.specs.inner.States.{is_name_of, is_name_of_column}

-- one name more
grown : (names more : List (List ℕ)) (name : List ℕ) (test : List ℕ → Bool) → HasAlso names name more → NamesAre names test → (n : List ℕ)
    → list_any (bytes_eq n) more ≡ (test n || bytes_eq n name)
unfolding NamesAre
grown names more name test also are n = also n ∙ ap (λ b. bytes_eq n name || b) (are n) ∙ or_comm (bytes_eq n name) (test n)

pub no_members_named : NamesAre [] (is_name_of [])
unfolding NamesAre
no_members_named = λ n. refl

pub no_columns_named : NamesAre [] (is_name_of_column [])
unfolding NamesAre
no_columns_named = λ n. refl

pub member_named : (names more : List (List ℕ)) (ms : List Member) (m : Member) → HasAlso names (name_of m) more → NamesAre names (is_name_of ms) → NamesAre more (is_name_of (ms ++ m ∷ []))
unfolding NamesAre
member_named names more ms m also are = λ n.
    grown names more (name_of m) (is_name_of ms) also are n ∙ ap (λ b. is_name_of ms n || b) (sym (or_false (bytes_eq n (name_of m)))) ∙ sym (list_any-append (λ k. bytes_eq n (name_of k)) ms (m ∷ []))

pub column_named : (names more : List (List ℕ)) (cs : List Column) (c : Column) → HasAlso names c.name more → NamesAre names (is_name_of_column cs) → NamesAre more (is_name_of_column (cs ++ c ∷ []))
unfolding NamesAre
column_named names more cs c also are = λ n.
    grown names more c.name (is_name_of_column cs) also are n ∙ ap (λ b. is_name_of_column cs n || b) (sym (or_false (bytes_eq n c.name))) ∙ sym (list_any-append (λ k. bytes_eq n k.name) cs (c ∷ []))

pub ruleset nothing_named = (no_members_named, no_columns_named)

pub ruleset more_named = (member_named, column_named)
