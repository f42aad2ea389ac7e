-- A file that is too large for a table is refused.
use Rattle.std.proofs.Common.{◌≡◌, ℕ, ◌<◌, List, length, Option, Some, None, Err, true, refl, arith}
use Rattle.std.specs.Prelude.{replicate, nat_lt}
use Rattle.std.proofs.lemmas.List.{length-replicate}
use Rattle.std.proofs.lemmas.Bool.Decides.{nat_tests}
use Rattle.csv_source.specs.Causes.{table_of}
use Rattle.csv_source.specs.declared.refusal.TableRefusal.TheVariants as tables
use Rattle.dap_errors.specs.declared.cause.Cause.TheVariants.{Damaged}
use Rattle.dap_errors.specs.declared.file_cause.FileCause.TheVariants as causes
use Rattle.dap_outside.specs.Files.{HasSize}
use Rattle.dap_server.specs.Files.{IsTableCause}
use Rattle.dap_server.specs.inner.Opening.{IsRead, WhereRefused}
use Rattle.dap_server.specs.declared.no_answer.Stop.{Stop}
use Rattle.dap_server.specs.declared.no_answer.Stop.TheVariants.{Refused}

too_long : (name bytes : List ℕ) → 67108864 < length bytes → table_of name bytes ≡ Err tables.TooLong
unfolding table_of
too_long name bytes large =
    let test : nat_lt 67108864 (length bytes) ≡ true = grind (arith, nat_tests) in
    rw test refl

in_bytes : (content : Option (List ℕ)) (name bytes : List ℕ) (s : Stop) → 67108864 < length bytes → IsRead content bytes → s ≡ Refused (Damaged causes.TooLong)
    → WhereRefused (λ cause. (bytes : List ℕ) × IsRead content bytes × IsTableCause name bytes cause) s
in_bytes content name bytes s large is_read is = rw is (bytes, is_read, (tables.TooLong, causes.TooLong, too_long name bytes large, refl, refl))

pub too_large : (content : Option (List ℕ)) (size : ℕ) (name : List ℕ) (s : Stop) → HasSize content size → 67108864 < size → s ≡ Refused (Damaged causes.TooLong)
    → WhereRefused (λ cause. (bytes : List ℕ) × IsRead content bytes × IsTableCause name bytes cause) s
too_large None size name s has large is =
    in_bytes None name (replicate size 0) s (omega (arith, length-replicate {A = ℕ} size 0, large)) tt is
too_large (Some told) size name s has large is = in_bytes (Some told) name told s (omega (arith, has, large)) refl is
