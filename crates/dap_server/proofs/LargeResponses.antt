-- A file that is too large for a saved response is refused.
use Rattle.std.proofs.Common.{◌≡◌, ℕ, ◌<◌, List, length, Option, Some, None, refl, arith}
use Rattle.std.specs.Prelude.{replicate}
use Rattle.std.proofs.lemmas.List.{length-replicate}
use Rattle.saved_source.specs.declared.refusal.SavedRefusal.TheVariants as responses
use Rattle.dap_errors.specs.declared.cause.Cause.TheVariants.{Damaged}
use Rattle.dap_errors.specs.declared.file_cause.FileCause.TheVariants as causes
use Rattle.dap_outside.specs.Files.{HasSize}
use Rattle.dap_server.specs.Files.{IsSavedCause}
use Rattle.dap_server.specs.inner.Opening.{IsRead, WhereRefused}
use Rattle.dap_server.specs.declared.no_answer.Stop.{Stop}
use Rattle.dap_server.specs.declared.no_answer.Stop.TheVariants.{Refused}

in_bytes : (content : Option (List ℕ)) (name bytes : List ℕ) (s : Stop) → 67108864 < length bytes → IsRead content bytes → s ≡ Refused (Damaged causes.SavedTooLong)
    → WhereRefused (λ cause. (bytes : List ℕ) × IsRead content bytes × IsSavedCause name bytes cause) s
in_bytes content name bytes s large is_read is = rw is (bytes, is_read, (responses.TooLong, causes.SavedTooLong, large, refl, refl))

pub too_long : (content : Option (List ℕ)) (size : ℕ) (name : List ℕ) (s : Stop) → HasSize content size → 67108864 < size → s ≡ Refused (Damaged causes.SavedTooLong)
    → WhereRefused (λ cause. (bytes : List ℕ) × IsRead content bytes × IsSavedCause name bytes cause) s
too_long None size name s has large is =
    in_bytes None name (replicate size 0) s (omega (arith, length-replicate {A = ℕ} size 0, large)) tt is
too_long (Some told) size name s has large is = in_bytes (Some told) name told s (omega (arith, has, large)) refl is
