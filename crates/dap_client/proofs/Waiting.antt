-- What stands behind a piece before the first word is known.
use Rattle.std.proofs.Common.{◌≡◌, ℕ, ◌+◌, ◌-◌, ◌<◌, ◌≤◌, List, ◌++◌, length, take, refl, sym, ap, ◌∙◌, append_assoc, append-nil, ⊎_elim, arith}
use Rattle.std.proofs.Math.Seq.{take-append-add}
use Rattle.std.proofs.lemmas.Bool.{cases_lt}
use Rattle.std.proofs.lemmas.List.{length-take-le, take-append-le, take_all}
use Rattle.dap_errors.specs.Reading.{limit}
use Rattle.dds_text.specs.After as reading
use Rattle.dds_text.specs.declared.reader.DdsReader.{DdsReader}
use Rattle.dds_text.specs.declared.reader.DdsStep.{DdsStep}
use Rattle.dds_text.specs.declared.reader.DdsStep.TheVariants as step
use Rattle.dds_text.specs.Reading.{IsDone}
use Rattle.dap_types.specs.Model.{Dataset}
use Rattle.dap_client.proofs.Texts.{done_token}
use Rattle.error_word.specs.Saying.{says_error}
use Rattle.error_word.specs.inner.FirstWords.{IsError, IsNoError, IsOpenWord}
use Rattle.dap_client.specs.inner.Stages.{IsFirst, IsQuiet, WhereFailed, WhereQuiet}
use Rattle.dap_client.specs.declared.stage.Stage.{Stage}
use Rattle.dap_client.specs.declared.stage.Stage.TheVariants as stage
use Rattle.error_word.specs.declared.first_word.FirstWord.{FirstWord}

take_more : (n : ℕ) (bytes piece : List ℕ) → take n (bytes ++ piece) ≡ take n bytes ++ take (n - length (take n bytes)) piece
take_more n bytes piece = ⊎_elim
    (λ less.
    let all : take n bytes ≡ bytes = take_all n bytes (omega (arith, less)) in
    let room : n ≡ length bytes + (n - length bytes) = omega (arith, less) in
    ap (λ k. take k (bytes ++ piece)) room ∙ take-append-add bytes piece (n - length bytes) ∙ sym (ap (λ l. l ++ take (n - length l) piece) all))
    (λ le.
    let none : n - length (take n bytes) ≡ 0 = omega (arith, length-take-le n bytes le) in
    take-append-le n bytes piece le ∙ sym (ap (λ k. take n bytes ++ take k piece) none ∙ append-nil (take n bytes)))
    (cases_lt (length bytes) n)

pub keep_full : (bytes front piece : List ℕ) → front ≡ take limit bytes → front ++ take (65536 - length front) piece ≡ take limit (bytes ++ piece)
keep_full bytes front piece is = ap (λ l. l ++ take (65536 - length l) piece) is ∙ sym (take_more 65536 bytes piece)

pub keep_short : (bytes front piece : List ℕ) → length piece < 65536 - length front → front ≡ take limit bytes → front ++ piece ≡ take limit (bytes ++ piece)
keep_short bytes front piece short is = ap (λ l. front ++ l) (sym (take_all (65536 - length front) piece (omega (arith, short)))) ∙ keep_full bytes front piece is

-- the reader of the DDS had all
pub first_on : (r : DdsReader) (s : DdsStep) (word : FirstWord) (front bytes piece : List ℕ) → IsOpenWord word (bytes ++ piece) → front ≡ take limit (bytes ++ piece) → reading.DdsStandsAfter r (bytes ++ reading.used_of s piece)
    → reading.WhereDone (λ used. (used ≤ length piece) × ((d : Dataset) × IsDone (bytes ++ piece) (length bytes + used) d)) s → reading.start_of r ≡ 0 → IsFirst word front r (bytes ++ piece)
first_on r step.More word front bytes piece o kept stands done start = record { is_word = o; kept = kept; had = (stands, start) }
first_on r (step.Bad place) word front bytes piece o kept stands done start = record { is_word = o; kept = kept; had = (stands, start) }
first_on r (step.Done used) word front bytes piece o kept stands done start = let (le, (d, is)) = done in absurd (done_token (bytes ++ piece) (length bytes + used) d is o.no_token)

-- ---- a stage that the sink had no part in
pub where_never : (P : Type 0) (s : Stage) → WhereFailed ⊥ s → WhereFailed P s
where_never P (stage.First word front reader) never = tt
where_never P (stage.Error object) never = tt
where_never P (stage.Text reader) never = tt
where_never P (stage.Line dataset line) never = tt
where_never P (stage.Values decoder) never = tt
where_never P (stage.Refused field) never = tt
where_never P (stage.Full field) never = tt
where_never P stage.Failed never = absurd never
where_never P stage.Spent never = tt

-- what the first word is stays so
pub error_on : (bytes piece : List ℕ) → IsError bytes → IsError (bytes ++ piece)
error_on bytes piece error more = ap says_error (append_assoc bytes piece more) ∙ error (piece ++ more)

pub no_error_on : (bytes piece : List ℕ) → IsNoError bytes → IsNoError (bytes ++ piece)
no_error_on bytes piece none more = ap says_error (append_assoc bytes piece more) ∙ none (piece ++ more)

pub own_failed : (s : Stage) → WhereFailed (s ≡ stage.Failed) s
own_failed (stage.First word front reader) = tt
own_failed (stage.Error object) = tt
own_failed (stage.Text reader) = tt
own_failed (stage.Line dataset line) = tt
own_failed (stage.Values decoder) = tt
own_failed (stage.Refused field) = tt
own_failed (stage.Full field) = tt
own_failed stage.Failed = refl
own_failed stage.Spent = tt

-- nothing was put in a stage that goes on without it
pub quiet_never : (P : Type 0) (s : Stage) → WhereQuiet ⊥ s → WhereQuiet P s
quiet_never P (stage.First word front reader) never = absurd never
quiet_never P (stage.Error object) never = absurd never
quiet_never P (stage.Text reader) never = absurd never
quiet_never P (stage.Line dataset line) never = absurd never
quiet_never P (stage.Values decoder) never = tt
quiet_never P (stage.Refused field) never = tt
quiet_never P (stage.Full field) never = tt
quiet_never P stage.Failed never = tt
quiet_never P stage.Spent never = absurd never

pub own_quiet : (s : Stage) → WhereQuiet (IsQuiet s) s
own_quiet (stage.First word front reader) = tt
own_quiet (stage.Error object) = tt
own_quiet (stage.Text reader) = tt
own_quiet (stage.Line dataset line) = tt
own_quiet (stage.Values decoder) = tt
own_quiet (stage.Refused field) = tt
own_quiet (stage.Full field) = tt
own_quiet stage.Failed = tt
own_quiet stage.Spent = tt

pub quiet_with : (P Q : Type 0) (s : Stage) → P → WhereQuiet Q s → WhereQuiet (P × Q) s
quiet_with P Q (stage.First word front reader) p q = (p, q)
quiet_with P Q (stage.Error object) p q = (p, q)
quiet_with P Q (stage.Text reader) p q = (p, q)
quiet_with P Q (stage.Line dataset line) p q = (p, q)
quiet_with P Q (stage.Values decoder) p q = tt
quiet_with P Q (stage.Refused field) p q = tt
quiet_with P Q (stage.Full field) p q = tt
quiet_with P Q stage.Failed p q = tt
quiet_with P Q stage.Spent p q = (p, q)

-- what is so where nothing was put
pub from_quiet : (P : Type 0) (s : Stage) → WhereQuiet P s → IsQuiet s → P
from_quiet P (stage.First word front reader) q quiet = q
from_quiet P (stage.Error object) q quiet = q
from_quiet P (stage.Text reader) q quiet = q
from_quiet P (stage.Line dataset line) q quiet = q
from_quiet P (stage.Values decoder) q quiet = absurd quiet
from_quiet P (stage.Refused field) q quiet = absurd quiet
from_quiet P (stage.Full field) q quiet = absurd quiet
from_quiet P stage.Failed q quiet = absurd quiet
from_quiet P stage.Spent q quiet = q
