-- A piece, one turn after the other.
use Rattle.std.proofs.Common.{◌≡◌, ℕ, ◌+◌, ◌≤◌, List, [], ◌++◌, length, take, drop, take-append-drop, Option, Result, Ok, Err, ap, ◌∙◌, sym, subst, append_assoc, append-nil}
use Rattle.std.proofs.Math.Seq.{take-add}
use Rattle.std.specs.Prelude.{IsErr}
use Rattle.dap_types.specs.Model.{Dataset}
use Rattle.dap_outside.specs.declared.failed.Failed.{Failed}
use Rattle.dap_outside.proofs.Passing.{passes_kept, passes_two, front_second}
use Rattle.xdr_decode.specs.After.{IsStopped, Reads, dataset_of}
use Rattle.dap_outside.specs.Buffered.{Passes}
use Rattle.xdr_decode.specs.inner.Turning.{IsBroken, IsGoneThrough, Spelled, Stays, Turns}
use Rattle.xdr_decode.specs.declared.decoder.Decoder.{Decoder}
use Rattle.xdr_decode.specs.declared.decoder.Pushed.{Pushed}
use Rattle.xdr_decode.specs.declared.decoder.Pushed.TheVariants as pushed
use Rattle.xdr_decode.specs.declared.next_field.Turn.{Turn}
use Rattle.xdr_decode.specs.declared.next_field.Turn.TheVariants as turn
use Rattle.reply_faults.specs.declared.bad.BadField.{BadField}

-- the decoder has come so far, and so much was put
pub record IsOn (r : Decoder) (before : Option (List ℕ)) (held : List ℕ) (now : Option (List ℕ)) (left bytes put : List ℕ) : Type 0 where
  pub gained : List ℕ
  pub stays : Stays r bytes (put ++ gained)
  pub passes : Passes before held now left gained

abbrev pub Comes : Decoder → Decoder → Option (List ℕ) → List ℕ → Option (List ℕ) → List ℕ → List ℕ → ℕ → Type 0
Comes r0 r before held now left piece at = (bytes put : List ℕ) → Stays r0 bytes put → IsOn r before held now left (bytes ++ take at piece) put

pub comes_first : (r0 r : Decoder) (before now : Option (List ℕ)) (held left piece : List ℕ) → r ≡ r0 → now ≡ before → left ≡ held → Comes r0 r before held now left piece 0
comes_first r0 r before now held left piece one two three bytes put s =
    record {
      gained = [];
      stays = subst (λ q. Stays q (bytes ++ []) (put ++ [])) (sym one) (subst (λ l. Stays r0 l (put ++ [])) (sym (append-nil bytes)) (subst (Stays r0 bytes) (sym (append-nil put)) s));
      passes = subst (λ w. Passes before held w left []) (sym two) (passes_kept before held left [] (three ∙ sym (append-nil held)));
    }

abbrev pub Turned : Decoder → Decoder → Option (List ℕ) → List ℕ → Option (List ℕ) → List ℕ → List ℕ → Result Turn Failed → Type 0
Turned r q before held now left rest result = (bytes put : List ℕ) → Stays r bytes put → Turns before held now left q rest bytes put result

-- so many bytes more
more_bytes : (bytes piece rest : List ℕ) (at n : ℕ) → rest ≡ drop at piece → (bytes ++ take at piece) ++ take n rest ≡ bytes ++ take (at + n) piece
more_bytes bytes piece rest at n is =
    append_assoc bytes (take at piece) (take n rest) ∙ ap (λ l. bytes ++ (take at piece ++ take n l)) is ∙ ap (λ l. bytes ++ l) (sym (take-add at n piece))

all_bytes : (bytes piece rest : List ℕ) (at : ℕ) → rest ≡ drop at piece → (bytes ++ take at piece) ++ rest ≡ bytes ++ piece
all_bytes bytes piece rest at is =
    append_assoc bytes (take at piece) rest ∙ ap (λ l. bytes ++ (take at piece ++ l)) is ∙ ap (λ l. bytes ++ l) (take-append-drop at piece)

pub comes_on : (r0 r q : Decoder) (w0 w1 w2 : Option (List ℕ)) (h0 h1 h2 piece rest : List ℕ) (at n : ℕ) → rest ≡ drop at piece → Comes r0 r w0 h0 w1 h1 piece at → Turned r q w1 h1 w2 h2 rest (Ok (turn.Went n)) → Comes r0 q w0 h0 w2 h2 piece (at + n)
comes_on r0 r q w0 w1 w2 h0 h1 h2 piece rest at n is comes turned bytes put s =
    let on = comes bytes put s in
    let t = turned (bytes ++ take at piece) (put ++ on.gained) on.stays in
    record {
      gained = on.gained ++ t.gained;
      stays = subst (λ l. Stays q l (put ++ (on.gained ++ t.gained))) (more_bytes bytes piece rest at n is)
          (subst (Stays q ((bytes ++ take at piece) ++ take n rest)) (append_assoc put on.gained t.gained) t.is_left.1);
      passes = passes_two w0 w1 w2 h0 h1 h2 on.gained t.gained on.passes t.puts;
    }

-- the ways out
pub gone_ended : (r0 r q : Decoder) (w0 w1 w2 : Option (List ℕ)) (h0 h1 h2 piece rest : List ℕ) (at : ℕ) → rest ≡ drop at piece → at ≤ length piece → Comes r0 r w0 h0 w1 h1 piece at → Turned r q w1 h1 w2 h2 rest (Ok turn.Ended)
    → (bytes put : List ℕ) → Stays r0 bytes put → IsGoneThrough w0 h0 w2 h2 q piece bytes put (Ok (pushed.Done at))
gone_ended r0 r q w0 w1 w2 h0 h1 h2 piece rest at is le comes turned bytes put s =
    let on = comes bytes put s in
    let t = turned (bytes ++ take at piece) (put ++ on.gained) on.stays in
    record {
      gained = on.gained ++ t.gained;
      is_read = (le, subst (Stays q (bytes ++ take at piece)) (append_assoc put on.gained t.gained) t.is_left.0, t.is_left.1);
      puts = passes_two w0 w1 w2 h0 h1 h2 on.gained t.gained on.passes t.puts;
    }

pub gone_short : (r0 r q : Decoder) (w0 w1 w2 : Option (List ℕ)) (h0 h1 h2 piece rest : List ℕ) (at : ℕ) → rest ≡ drop at piece → Comes r0 r w0 h0 w1 h1 piece at → Turned r q w1 h1 w2 h2 rest (Ok turn.Short)
    → (bytes put : List ℕ) → Stays r0 bytes put → IsGoneThrough w0 h0 w2 h2 q piece bytes put (Ok pushed.More)
gone_short r0 r q w0 w1 w2 h0 h1 h2 piece rest at is comes turned bytes put s =
    let on = comes bytes put s in
    let t = turned (bytes ++ take at piece) (put ++ on.gained) on.stays in
    record {
      gained = on.gained ++ t.gained;
      is_read = (subst (λ l. Reads q l (put ++ (on.gained ++ t.gained))) (all_bytes bytes piece rest at is) (subst (Reads q ((bytes ++ take at piece) ++ rest)) (append_assoc put on.gained t.gained) t.is_left.0), t.is_left.1);
      puts = passes_two w0 w1 w2 h0 h1 h2 on.gained t.gained on.passes t.puts;
    }

pub gone_bad : (r0 r q : Decoder) (w0 w1 w2 : Option (List ℕ)) (h0 h1 h2 piece rest : List ℕ) (at : ℕ) (bad : BadField) → rest ≡ drop at piece → Comes r0 r w0 h0 w1 h1 piece at → Turned r q w1 h1 w2 h2 rest (Ok (turn.Bad bad))
    → (bytes put : List ℕ) → Stays r0 bytes put → IsGoneThrough w0 h0 w2 h2 q piece bytes put (Ok (pushed.Refused bad))
gone_bad r0 r q w0 w1 w2 h0 h1 h2 piece rest at bad is comes turned bytes put s =
    let on = comes bytes put s in
    let t = turned (bytes ++ take at piece) (put ++ on.gained) on.stays in
    record {
      gained = on.gained ++ t.gained;
      is_read = subst (λ l. IsStopped q bad l (put ++ (on.gained ++ t.gained))) (all_bytes bytes piece rest at is) (subst (IsStopped q bad ((bytes ++ take at piece) ++ rest)) (append_assoc put on.gained t.gained) t.is_left);
      puts = passes_two w0 w1 w2 h0 h1 h2 on.gained t.gained on.passes t.puts;
    }

broken_more : (d : Dataset) (bytes piece rest put : List ℕ) (at : ℕ) → rest ≡ drop at piece → IsBroken d rest (bytes ++ take at piece) put → IsBroken d piece bytes put
broken_more d bytes piece rest put at is b =
    record { used = at + b.used; wants = b.wants; own = b.own; spelled = subst (λ l. Spelled d l put b.wants b.own) (more_bytes bytes piece rest at b.used is) b.spelled; is_loose = b.is_loose }

pub gone_failed : (r0 r q : Decoder) (w0 w1 w2 : Option (List ℕ)) (h0 h1 h2 piece rest : List ℕ) (at : ℕ) (e : Failed) (result : Result Pushed Failed) → IsErr result → rest ≡ drop at piece → Comes r0 r w0 h0 w1 h1 piece at → Turned r q w1 h1 w2 h2 rest (Err e)
    → (bytes put : List ℕ) → Stays r0 bytes put → IsGoneThrough w0 h0 w2 h2 q piece bytes put result
gone_failed r0 r q w0 w1 w2 h0 h1 h2 piece rest at e (Ok p) failed is comes turned bytes put s = cc failed
gone_failed r0 r q w0 w1 w2 h0 h1 h2 piece rest at e (Err x) failed is comes turned bytes put s =
    let on = comes bytes put s in
    let t = turned (bytes ++ take at piece) (put ++ on.gained) on.stays in
    record {
      gained = on.gained ++ t.gained;
      is_read = broken_more (dataset_of q) bytes piece rest (put ++ (on.gained ++ t.gained)) at is (subst (IsBroken (dataset_of q) rest (bytes ++ take at piece)) (append_assoc put on.gained t.gained) t.is_left);
      puts = front_second w0 w1 w2 h0 h1 on.gained t.gained on.passes t.puts;
    }
