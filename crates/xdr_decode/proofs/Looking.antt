-- A piece of which nothing is put, one turn after the other.
use Rattle.std.proofs.Common.{◌≡◌, ℕ, List, [], ◌++◌, None, sym, subst, append-nil}
use Rattle.dap_types.specs.Model.{Dataset}
use Rattle.dap_outside.specs.Buffered.{Passes}
use Rattle.reply_faults.specs.declared.bad.BadField.{BadField}
use Rattle.xdr_decode.proofs.Pushing.{AreBytes, stands_again, stands_then}
use Rattle.xdr_decode.specs.After.{DecoderStandsAfter, UnlessFault, dataset_of, used_of}
use Rattle.xdr_decode.specs.Shown.{ShowsFront}
use Rattle.xdr_decode.specs.inner.Pushing.{IsAnswer, IsPushed}
use Rattle.xdr_decode.specs.declared.decoder.Decoder.{Decoder}
use Rattle.xdr_decode.specs.declared.decoder.Pushed.{Pushed}
use Rattle.xdr_decode.specs.declared.decoder.Pushed.TheVariants as pushed
use Rattle.xdr_decode.specs.declared.decoder.State.TheVariants as state

-- over a sink that tells nothing any text goes through
pub quiet : (text : List ℕ) → Passes None [] None [] text
quiet text = record { front = text; sent = tt; rest = sym (append-nil text) }

-- an answer of the bytes is no fault
pub said_on : (p : Pushed) (P : Type 0) → IsAnswer p → UnlessFault P p → P
said_on (pushed.Done used) P answer holds = holds
said_on (pushed.Refused bad) P answer holds = holds
said_on pushed.More P answer holds = holds
said_on pushed.WriteFault P answer holds = absurd answer

-- where it leaves the decoder
pub all_said : (q : Decoder) (d : Dataset) (piece bytes put : List ℕ) (p : Pushed) → dataset_of q ≡ d → IsAnswer p → AreBytes bytes → AreBytes piece → IsPushed None None q piece bytes put p
    → (text : List ℕ) × DecoderStandsAfter q (bytes ++ used_of p piece) (put ++ text) × ShowsFront d (bytes ++ used_of p piece) (put ++ text)
all_said q d piece bytes put p same answer all more is =
    let both = said_on p (DecoderStandsAfter q (bytes ++ used_of p piece) (put ++ is.gained) × ShowsFront (dataset_of q) (bytes ++ used_of p piece) (put ++ is.gained)) answer
    (stands_then q piece bytes put is.gained p all more is.is_said) in
    (is.gained, both.0, subst (λ e. ShowsFront e (bytes ++ used_of p piece) (put ++ is.gained)) same both.1)

-- a refusal is said again
pub said_again : (r : Decoder) (bad : BadField) (bytes put piece : List ℕ) → r.state ≡ state.Refused bad → DecoderStandsAfter r bytes put
    → (text : List ℕ) × DecoderStandsAfter r (bytes ++ piece) (put ++ text) × ShowsFront (dataset_of r) (bytes ++ piece) (put ++ text)
said_again r bad bytes put piece is stands = let (text, after, shows, sent) = stands_again r bad bytes put piece None is stands in (text, after, shows)
