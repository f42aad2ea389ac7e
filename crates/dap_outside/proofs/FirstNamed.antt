-- The first file of a name.
use Rattle.std.proofs.Common.{◌≡◌, ℕ, ◌<◌, List, ◌∷◌, drop, suc, get_or, true, cond, Some, length, refl, sym, ap, ◌∙◌, drop-cons}
use Rattle.std.proofs.lemmas.Option.{slice_get_read}
use Rattle.std.proofs.lemmas.Slice.Eq.{bytes_eq-Decides}
use Rattle.std.specs.Option.{option_map}
use Rattle.std.specs.Str.{bytes_eq}
use Rattle.dap_outside.specs.MemShelf.{bytes_at, bytes_named, name_at}
use Rattle.dap_outside.specs.declared.memory_shelf.MemFile.{MemFile}

pub named_here : (files : List MemFile) (place : ℕ) (name : List ℕ) (f : MemFile) → place < length files → f ≡ get_or files place f → true ≡ bytes_eq f.name name
    → bytes_named files name ≡ bytes_named (drop place files) name → (x : List ℕ) × (bytes_named files name ≡ Some x) × (name_at files place ≡ Some name) × (bytes_at files place ≡ Some x)
named_here files place name f lt is same kept =
    let first : drop place files ≡ f ∷ drop (suc place) files = drop-cons files place f lt ∙ ap (λ g. g ∷ drop (suc place) files) (sym is) in (
      f.bytes,
      kept ∙ ap (λ fs. bytes_named fs name) first ∙ ap (λ b. cond b (Some f.bytes) (bytes_named (drop (suc place) files) name)) (sym same),
      ap (option_map (λ (g : MemFile). g.name)) (slice_get_read files (length files) place f refl lt is) ∙ ap Some ((bytes_eq-Decides f.name name).0 (sym same)),
      ap (option_map (λ (g : MemFile). g.bytes)) (slice_get_read files (length files) place f refl lt is),
    )
