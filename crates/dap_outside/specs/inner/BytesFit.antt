-- What a shelf in memory tells are bytes.
use Rattle.std.proofs.Common.{◌≡◌, ℕ, zero, suc, List, [], ◌∷◌, Bool, true, false, cond, Option, Some, ap, ◌∙◌, subst}
use Rattle.std.proofs.lemmas.List.Elements.{All-head, All-tail}
use Rattle.std.proofs.lemmas.Option.{none-some, same_Some}
use Rattle.std.specs.Str.{bytes_eq}
use Rattle.dap_outside.specs.Files.{IsBytes}
use Rattle.dap_outside.specs.MemShelf.{bytes_at, bytes_named}
use Rattle.dap_outside.specs.Stored.{AreBytes}
use Rattle.dap_outside.specs.declared.memory_shelf.MemFile.{MemFile}

first_fits : (b : Bool) (f : MemFile) (rest : Option (List ℕ)) (bytes : List ℕ) → IsBytes f.bytes → (rest ≡ Some bytes → IsBytes bytes) → cond b (Some f.bytes) rest ≡ Some bytes → IsBytes bytes
first_fits true f rest bytes here later is = subst IsBytes (same_Some f.bytes bytes is) here
first_fits false f rest bytes here later is = later is

pub named_fit : (files : List MemFile) (name bytes : List ℕ) → AreBytes files → bytes_named files name ≡ Some bytes → IsBytes bytes
named_fit [] name bytes fit is = absurd (none-some bytes is)
named_fit (f ∷ files) name bytes fit is =
    let P : MemFile → Type 0 = λ g. IsBytes g.bytes in
    first_fits (bytes_eq f.name name) f (bytes_named files name) bytes (All-head P f files fit) (named_fit files name bytes (All-tail P f files fit)) is

-- the files by name
pub all_named_fit : (files : List MemFile) (named : List ℕ → Option (List ℕ)) (name bytes : List ℕ) → AreBytes files → Some (bytes_named files) ≡ Some named → named name ≡ Some bytes → IsBytes bytes
all_named_fit files named name bytes fit same is = named_fit files name bytes fit (ap (λ (f : List ℕ → Option (List ℕ)). f name) (same_Some (bytes_named files) named same) ∙ is)

-- a file by its place
pub at_fit : (files : List MemFile) (place : ℕ) (bytes : List ℕ) → AreBytes files → bytes_at files place ≡ Some bytes → IsBytes bytes
at_fit [] place bytes fit is = absurd (none-some bytes is)
at_fit (f ∷ files) zero bytes fit is = subst IsBytes (same_Some f.bytes bytes is) (All-head (λ (g : MemFile). IsBytes g.bytes) f files fit)
at_fit (f ∷ files) (suc n) bytes fit is = at_fit files n bytes (All-tail (λ (g : MemFile). IsBytes g.bytes) f files fit) is
