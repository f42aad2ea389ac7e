-- What a table has once something is added to it.
use Rattle.std.proofs.Common.{◌≡◌, ℕ, true, false, List, Option, Some, None, refl, sym, ap, ◌∙◌, if◌then◌else◌}
use Rattle.std.proofs.lemmas.Slice.Eq.{bytes_eq-Decides}
use Rattle.std.specs.Cmp.Lexicographic.{nat_list_eq_equiv}
use Rattle.std.specs.Option.{is_some, option_or}
use Rattle.std.specs.Str.{bytes_eq}
use Rattle.plain_lemmas.proofs.Options.{without_value}
use Rattle.dap_types.proofs.Found.{option_or-none}
use Rattle.netcdf_writer.specs.inner.Tables.{Adds}

-- under a name that was free stands what was added
pub added : {X : Type 0} (old new : List ℕ → Option X) (name : List ℕ) (x : X) → is_some (old name) ≡ false → ((q : List ℕ) → new q ≡ (if bytes_eq name q then Some x else old q)) → Adds old new name x
added old new name x free up q = (elim (bytes_eq q name) as (λ b. bytes_eq q name ≡ b → new q ≡ option_or (old q) (if b then Some x else None)) [
  | true ↦ λ e. up q ∙ ap (λ b. if b then Some x else old q) (nat_list_eq_equiv.symm name q ∙ e) ∙ ap (λ o. option_or o (Some x)) (sym (ap old ((bytes_eq-Decides q name).0 e) ∙ without_value (old name) free))
  | false ↦ λ e. up q ∙ ap (λ b. if b then Some x else old q) (nat_list_eq_equiv.symm name q ∙ e) ∙ option_or-none (old q)
]) refl
