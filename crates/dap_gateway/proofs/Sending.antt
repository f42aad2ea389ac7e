-- What a sink has gained of a reply.
use Rattle.std.proofs.Common.{◌≡◌, ℕ, Bool, List, take, drop, Option, refl, sym, subst, take-append-drop, length-drop, arith}
use Rattle.std.specs.Io.KnownBytes.{Appends}
use Rattle.dap_errors.specs.declared.cause.Cause.TheVariants.{OutOfMemory}
use Rattle.dap_outside.specs.Streams.{AppendsFront}
use Rattle.dap_http.specs.Frames.{IsProperFront}
use Rattle.dap_http.specs.Texts.{memory_error, memory_text}
use Rattle.dap_gateway.specs.Given.{refused, reply}
use Rattle.dap_gateway.specs.Turns.{Puts}
use Rattle.dap_gateway.specs.declared.relayed.Relayed.{Relayed}
use Rattle.dap_gateway.specs.declared.relayed.Relayed.TheVariants.{ReadFault}

abbrev Told : Type 0
Told = Option (List ℕ)

pub memory-reply : (h : Bool) → memory_text h ≡ reply h 1 (refused OutOfMemory)
unfolding memory_text memory_error
memory-reply h = refl

pub puts-as : (x y : List ℕ) (status : ℕ) (hit : Bool) (old new : Told) (result : Relayed) → x ≡ y → Puts x status hit old new result → Puts y status hit old new result
puts-as x y status hit old new result is puts = subst (λ t. Puts t status hit old new result) is puts

pub status-as : (x : List ℕ) (s t : ℕ) (hit : Bool) (old new : Told) (result : Relayed) → s ≡ t → Puts x s hit old new result → Puts x t hit old new result
status-as x s t hit old new result is puts = subst (λ n. Puts x n hit old new result) is puts

pub front-put : (old new : Told) (bytes : List ℕ) → AppendsFront old new bytes → (part : List ℕ) × Appends old new part × IsProperFront part bytes
front-put old new bytes (k, few, appends) = (take k bytes, appends, (drop k bytes, omega (arith, few, length-drop k bytes), sym (take-append-drop k bytes)))

-- ---- no reply that is put is a fault of reading

pub no-read-fault : (x : List ℕ) (status : ℕ) (hit : Bool) (old new : Told) (result : Relayed) → Puts x status hit old new result → result ≡ ReadFault → ⊥
no-read-fault x status hit old new result puts is = subst (λ (r : Relayed). Puts x status hit old new r) is puts
