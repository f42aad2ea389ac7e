-- What a push says of the bytes that came.
use Rattle.std.proofs.Common.{◌≡◌, ℕ, zero, suc, ◌+◌, ◌-◌, ◌^◌, ◌<◌, ◌≤◌, ◌⊎◌, List, [], ◌++◌, length, length-append, get_or, take, drop, take-append-drop, All, Option, Some, None, inl, inr, ⊎_elim, refl, ap, ◌∙◌, sym, subst, arith, append_assoc, append-nil, min}
use Rattle.std.proofs.Math.Seq.{take-add}
use Rattle.std.proofs.lemmas.List.{take-append-le, length-take, length-drop}
use Rattle.std.proofs.lemmas.List.Elements.{All-append, All-from_get_or, All-take}
use Rattle.std.specs.Io.KnownBytes.{Appends}
use Rattle.dap_types.specs.Model.{Dataset}
use Rattle.dap_model.proofs.OneVerdict.{one_bad, bad_not_open, ended_not_bad, ended_not_open}
use Rattle.dap_model.proofs.OneSpelling.{one_spelling}
use Rattle.dap_model.specs.Received.{Fault, IsBadField, IsOpen}
use Rattle.dap_model.specs.Xdr.{Spells}
use Rattle.xdr_fields.proofs.Growing.{prefix_trans}
use Rattle.xdr_decode.specs.Verdict.{kind_of}
use Rattle.reply_faults.specs.declared.bad.Bad.TheVariants.{Cut}
use Rattle.reply_faults.specs.declared.bad.BadField.{BadField}
use Rattle.xdr_decode.proofs.Standing.{ends, opens, puts, stopped}
use Rattle.xdr_decode.specs.After.{EndsBehind, HasFailed, HasFailedBehind, IsFirstBad, IsStopped, Reads, Stands, DecoderStandsAfter, UnlessFault, WhereDone, WhereFault, WhereMore, WhereRefused, dataset_of, start_of, used_of}
use Rattle.xdr_decode.specs.inner.Places.{wants_left}
use Rattle.std.proofs.Common.{Ok, Err}
use Rattle.std.proofs.Math.Seq.{take-length}
use Rattle.std.proofs.KnownBytes.{Appends-nil}
use Rattle.dap_outside.specs.Streams.{AppendsFront}
use Rattle.dap_outside.specs.declared.failed.Failed.{Failed}
use Rattle.xdr_decode.proofs.Breaking.{some_shown}
use Rattle.dap_outside.proofs.Passing.{passed_and_sent, passed_and_stopped, stopped_before}
use Rattle.xdr_decode.proofs.Turning.{own_loose, stays_ended}
use Rattle.dap_model.specs.Received.{IsPrefix}
use Rattle.xdr_decode.specs.After.{place_of}
use Rattle.xdr_decode.specs.inner.Pushing.{IsAnswer, IsPushed, IsSaid, state_behind}
use Rattle.xdr_decode.specs.inner.Turning.{IsBroken, IsGoneThrough, IsLoose, IsRead, Spelled}
use Rattle.xdr_decode.specs.Shown.{ShowsFront, ShowsSome}
use Rattle.xdr_decode.specs.declared.decoder.Decoder.{Decoder}
use Rattle.xdr_decode.specs.declared.decoder.Pushed.{Pushed}
use Rattle.xdr_decode.specs.declared.decoder.Pushed.TheVariants as pushed
use Rattle.xdr_decode.specs.declared.decoder.State.{State}
use Rattle.xdr_decode.specs.declared.decoder.State.TheVariants as state

-- values that end in the front of some bytes end there in all of them
ends_further : (d : Dataset) (bytes more : List ℕ) (n : ℕ) → EndsBehind d bytes n → EndsBehind d (bytes ++ more) n
ends_further d bytes more n (ts, at) = (ts, (omega (arith, at.0, length-append bytes more), subst (Spells d ts) (sym (take-append-le n bytes more at.0)) at.1))

-- they end at one place
end_below : (d : Dataset) (bs : List ℕ) (n k : ℕ) → EndsBehind d bs n → EndsBehind d bs (n + k) → k ≡ 0
end_below d bs n k (ts, one) (us, two) =
    let same : take (n + k) bs ≡ take n bs ++ take k (drop n bs) = take-add n k bs in
    let (_, none) = one_spelling d ts us (take n bs) (take k (drop n bs)) one.1 (subst (Spells d us) same two.1) in
    omega (arith, ap length none, length-take k (drop n bs), length-drop n bs, two.0)

less_or_more : (a b : ℕ) → ((k : ℕ) × (b ≡ a + k)) ⊎ ((k : ℕ) × (a ≡ b + k))
less_or_more zero b = inl (b, omega arith)
less_or_more (suc a) zero = inr (suc a, omega arith)
less_or_more (suc a) (suc b) = ⊎_elim (λ x. inl (x.0, omega (arith, x.1))) (λ x. inr (x.0, omega (arith, x.1))) (less_or_more a b)

one_end : (d : Dataset) (bs : List ℕ) (n m : ℕ) → EndsBehind d bs n → EndsBehind d bs m → n ≡ m
one_end d bs n m a b =
    ⊎_elim (λ x. omega (arith, x.1, end_below d bs n x.0 a (subst (EndsBehind d bs) x.1 b))) (λ x. omega (arith, x.1, end_below d bs m x.0 b (subst (EndsBehind d bs) x.1 a))) (less_or_more n m)

-- by the answer
pub says_done : (q : Decoder) (d : Dataset) (piece bytes put : List ℕ) (p : Pushed) → dataset_of q ≡ d → IsSaid q piece bytes put p → WhereDone (λ used. (used ≤ length piece) × EndsBehind d (bytes ++ piece) (length bytes + used)) p
says_done q d piece bytes put (pushed.Done used) same said =
    let read : EndsBehind (dataset_of q) (bytes ++ take used piece) (length (bytes ++ take used piece)) = ends q (bytes ++ take used piece) put said.1 said.2 in
    let long : length (bytes ++ take used piece) ≡ length bytes + used = omega (arith, length-append bytes (take used piece), length-take used piece, said.0) in
    let whole : (bytes ++ take used piece) ++ drop used piece ≡ bytes ++ piece = append_assoc bytes (take used piece) (drop used piece) ∙ ap (λ l. bytes ++ l) (take-append-drop used piece) in (
      said.0,
      subst (λ e. EndsBehind e (bytes ++ piece) (length bytes + used)) same
          (subst (λ l. EndsBehind (dataset_of q) l (length bytes + used)) whole (ends_further (dataset_of q) (bytes ++ take used piece) (drop used piece) (length bytes + used) (subst (EndsBehind (dataset_of q) (bytes ++ take used piece)) long read))),
    )
says_done q d piece bytes put p same said = tt

pub says_refused : (q : Decoder) (d : Dataset) (start : ℕ) (piece bytes put : List ℕ) (p : Pushed) → dataset_of q ≡ d → start_of q ≡ start → IsSaid q piece bytes put p → WhereRefused (IsFirstBad d start (bytes ++ piece)) p
says_refused q d start piece bytes put (pushed.Refused bad) same from said =
    subst (λ e. IsFirstBad e start (bytes ++ piece) bad) same (subst (λ n. IsFirstBad (dataset_of q) n (bytes ++ piece) bad) from (stopped q bad (bytes ++ piece) put said.0))
says_refused q d start piece bytes put p same from said = tt

pub says_more : (q : Decoder) (d : Dataset) (piece bytes put : List ℕ) (p : Pushed) → dataset_of q ≡ d → IsSaid q piece bytes put p → WhereMore (IsOpen d (bytes ++ piece)) p
says_more q d piece bytes put pushed.More same said = subst (λ e. IsOpen e (bytes ++ piece)) same (opens q (bytes ++ piece) put said.1.0 said.1.1 said.0 said.1.2)
says_more q d piece bytes put p same said = tt

-- and the other way round
pub only_ended : (d : Dataset) (start : ℕ) (piece bytes : List ℕ) (n : ℕ) (p : Pushed) → WhereDone (λ used. (used ≤ length piece) × EndsBehind d (bytes ++ piece) (length bytes + used)) p → WhereRefused (IsFirstBad d start (bytes ++ piece)) p → WhereMore (IsOpen d (bytes ++ piece)) p
    → EndsBehind d (bytes ++ piece) n → UnlessFault ((used : ℕ) × (p ≡ pushed.Done used) × (length bytes + used ≡ n)) p
only_ended d start piece bytes n (pushed.Done used) done refused more ended = (used, refl, one_end d (bytes ++ piece) (length bytes + used) n done.1 ended)
only_ended d start piece bytes n (pushed.Refused bad) done refused more ended = absurd (ended_not_bad d ended.0 (bytes ++ piece) n refused.0 refused.1 ended.1 refused.2)
only_ended d start piece bytes n pushed.More done refused more ended = absurd (ended_not_open d ended.0 (bytes ++ piece) n ended.1 more)
only_ended d start piece bytes n pushed.WriteFault done refused more ended = tt

pub only_bad : (d : Dataset) (start : ℕ) (piece bytes : List ℕ) (fault : Fault) (place : ℕ) (p : Pushed) → WhereDone (λ used. (used ≤ length piece) × EndsBehind d (bytes ++ piece) (length bytes + used)) p → WhereRefused (IsFirstBad d start (bytes ++ piece)) p → WhereMore (IsOpen d (bytes ++ piece)) p
    → IsBadField d (bytes ++ piece) fault place → UnlessFault (p ≡ pushed.Refused (record { kind = kind_of fault; place = start + place })) p
only_bad d start piece bytes fault place (pushed.Done used) done refused more is = absurd (ended_not_bad d done.1.0 (bytes ++ piece) (length bytes + used) fault place done.1.1 is)
only_bad d start piece bytes fault place (pushed.Refused bad) done refused more is =
    let (f, p) = one_bad d (bytes ++ piece) refused.0 fault refused.1 place refused.2 is in
    ap (λ b. pushed.Refused b) (refused.3 ∙ (λ i. record { kind = kind_of (f i); place = start + p i }))
only_bad d start piece bytes fault place pushed.More done refused more is = absurd (bad_not_open d (bytes ++ piece) fault place is more)
only_bad d start piece bytes fault place pushed.WriteFault done refused more is = tt

pub only_open : (d : Dataset) (start : ℕ) (piece bytes : List ℕ) (p : Pushed) → WhereDone (λ used. (used ≤ length piece) × EndsBehind d (bytes ++ piece) (length bytes + used)) p → WhereRefused (IsFirstBad d start (bytes ++ piece)) p
    → IsOpen d (bytes ++ piece) → UnlessFault (p ≡ pushed.More) p
only_open d start piece bytes (pushed.Done used) done refused is = absurd (ended_not_open d done.1.0 (bytes ++ piece) (length bytes + used) done.1.1 is)
only_open d start piece bytes (pushed.Refused bad) done refused is = absurd (bad_not_open d (bytes ++ piece) refused.0 refused.1 refused.2 is)
only_open d start piece bytes pushed.More done refused is = refl
only_open d start piece bytes pushed.WriteFault done refused is = tt

-- where it stands then
abbrev pub AreBytes : List ℕ → Type 0
AreBytes bytes = All (λ b. b < 256) bytes

pub stands_then : (q : Decoder) (piece bytes put gained : List ℕ) (p : Pushed) → AreBytes bytes → AreBytes piece → IsSaid q piece bytes (put ++ gained) p
    → UnlessFault (DecoderStandsAfter q (bytes ++ used_of p piece) (put ++ gained) × ShowsFront (dataset_of q) (bytes ++ used_of p piece) (put ++ gained)) p
unfolding DecoderStandsAfter
stands_then q piece bytes put gained (pushed.Done used) all more said = (
  subst (λ s. Stands q s (bytes ++ take used piece) (put ++ gained)) (sym said.3) (said.1, All-append (λ b. b < 256) bytes (take used piece) all (All-take (λ b. b < 256) used piece more)),
  puts q (bytes ++ take used piece) (put ++ gained) said.1,
)
stands_then q piece bytes put gained pushed.More all more said = (
  subst (λ s. Stands q s (bytes ++ piece) (put ++ gained)) (sym said.2) (said.0, All-append (λ b. b < 256) bytes piece all more),
  puts q (bytes ++ piece) (put ++ gained) said.0,
)
stands_then q piece bytes put gained (pushed.Refused bad) all more said = (
  subst (λ s. Stands q s (bytes ++ piece) (put ++ gained)) (sym said.1) said.0,
  subst (λ l. ShowsFront (dataset_of q) l (put ++ gained)) (append-nil (bytes ++ piece)) (said.0.shows []),
)
stands_then q piece bytes put gained pushed.WriteFault all more said = tt

-- a refusal is said again
pub stopped_more : (r : Decoder) (bad : BadField) (bytes put piece : List ℕ) → IsStopped r bad bytes put → IsStopped r bad (bytes ++ piece) put
stopped_more r bad bytes put piece s =
    record {
      fault = s.fault;
      place = s.place;
      stays = λ more. subst (λ l. IsBadField (dataset_of r) l s.fault s.place) (sym (append_assoc bytes piece more)) (s.stays (piece ++ more));
      shows = λ more. subst (λ l. ShowsFront (dataset_of r) l put) (sym (append_assoc bytes piece more)) (s.shows (piece ++ more));
      is = s.is;
    }

-- the same decoder in another state
abbrev pub in_state : Decoder → State → Decoder
in_state r s = record { start = r.start; dataset = r.dataset; place = r.place; held = r.held; taken = r.taken; state = s }

reads_in : (r : Decoder) (s : State) (bytes put : List ℕ) → Reads r bytes put → Reads (in_state r s) bytes put
reads_in r s bytes put read =
    record {
      well_formed = read.well_formed;
      front = read.front;
      own = read.own;
      fields = read.fields;
      parts = read.parts;
      good = read.good;
      steps = read.steps;
      is_placed = read.is_placed;
      is_own = read.is_own;
      is_put = read.is_put;
      have_marks = read.have_marks;
      is_place = read.is_place;
      small = read.small;
    }

stopped_in : (r : Decoder) (s : State) (bad : BadField) (bytes put : List ℕ) → IsStopped r bad bytes put → IsStopped (in_state r s) bad bytes put
stopped_in r s bad bytes put stop = record { fault = stop.fault; place = stop.place; stays = stop.stays; shows = stop.shows; is = stop.is }

-- the piece was read, and all was sent
said_behind : (q : Decoder) (piece bytes put : List ℕ) (p : Pushed) → IsAnswer p → place_of q < 2 ^ 64 → IsRead q piece bytes put (Ok p) → IsSaid (in_state q (state_behind p)) piece bytes put p
said_behind q piece bytes put (pushed.Done used) answer small read = (read.0, reads_in q state.Reading (bytes ++ take used piece) put (stays_ended q (bytes ++ take used piece) put read.1 read.2 small), read.2, refl)
said_behind q piece bytes put pushed.More answer small read = (reads_in q state.Reading (bytes ++ piece) put read.0, read.1, refl)
said_behind q piece bytes put (pushed.Refused bad) answer small read = (stopped_in q (state.Refused bad) bad (bytes ++ piece) put read, refl)
said_behind q piece bytes put pushed.WriteFault answer small read = absurd answer

pub pushed_all : (q : Decoder) (before mid now : Option (List ℕ)) (held left piece bytes put : List ℕ) (p : Pushed) → held ≡ [] → IsAnswer p → place_of q < 2 ^ 64 → IsGoneThrough before held mid left q piece bytes put (Ok p) → Appends mid now left
    → IsPushed before now (in_state q (state_behind p)) piece bytes put p
pushed_all q before mid now held left piece bytes put p none answer small gone sent =
    record { gained = gone.gained; is_said = said_behind q piece bytes (put ++ gone.gained) p answer small gone.is_read; sent = passed_and_sent before mid now held left gone.gained none gone.puts sent }

-- a front of what was to be sent
front_of : (put gained : List ℕ) (k : ℕ) → IsPrefix (put ++ take k gained) (put ++ gained)
front_of put gained k = (drop k gained, ap (λ l. put ++ l) (sym (take-append-drop k gained)) ∙ sym (append_assoc put (take k gained) (drop k gained)))

all_used : (piece : List ℕ) → take (length piece) piece ≡ piece
all_used piece = take-length piece

-- whatever was said of it, a front of it may be shown where the sink fails
some_said : (q : Decoder) (piece bytes put t : List ℕ) (p : Pushed) → IsAnswer p → AreBytes (bytes ++ piece) → IsRead q piece bytes put (Ok p) → IsPrefix t put → ShowsSome (dataset_of q) (bytes ++ piece) t
some_said q piece bytes put t (pushed.Done used) answer all read front =
    let s = read.1 in
    let b : IsBroken (dataset_of q) piece bytes put =
    record { used = used; wants = wants_left (dataset_of q).members q.place; own = s.own; spelled = s.spelled; is_loose = subst (λ ws. IsLoose ws s.own) (sym read.2) tt } in
    some_shown (dataset_of q) bytes piece put t b all front
some_said q piece bytes put t pushed.More answer all read front =
    let s = read.0 in
    let P : List ℕ → Type 0 = λ l. Spelled (dataset_of q) (bytes ++ l) put (wants_left (dataset_of q).members q.place) s.own in
    let b : IsBroken (dataset_of q) piece bytes put =
    record {
      used = length piece;
      wants = wants_left (dataset_of q).members q.place;
      own = s.own;
      spelled = subst P (sym (all_used piece)) (record { front = s.front; fields = s.fields; parts = s.parts; good = s.good; steps = s.steps; is_put = s.is_put });
      is_loose = own_loose q.place (wants_left (dataset_of q).members q.place) q.held.items s.own s.is_own;
    } in
    some_shown (dataset_of q) bytes piece put t b all front
some_said q piece bytes put t (pushed.Refused bad) answer all read front =
    let shown = subst (λ l. ShowsFront (dataset_of q) l put) (append-nil (bytes ++ piece)) (read.shows []) in
    record { good = shown.good; whole = shown.whole; more = shown.more; has_good = inl shown.has_good; is_front = shown.is_front; within = prefix_trans t put (shown.whole ++ shown.more) front shown.within }
some_said q piece bytes put t pushed.WriteFault answer all read front = absurd answer

-- another decoder of the same dataset says it
some_as : (q s : Decoder) (bytes t : List ℕ) → dataset_of s ≡ dataset_of q → ShowsSome (dataset_of q) bytes t → ShowsSome (dataset_of s) bytes t
some_as q s bytes t same shows = subst (λ d. ShowsSome d bytes t) (sym same) shows

pub pushed_some : (q s : Decoder) (before mid now : Option (List ℕ)) (held left piece bytes put : List ℕ) (p : Pushed) → dataset_of s ≡ dataset_of q → s.state ≡ state.Failed → held ≡ [] → IsAnswer p → AreBytes (bytes ++ piece)
    → IsGoneThrough before held mid left q piece bytes put (Ok p) → AppendsFront mid now left → IsPushed before now s piece bytes put pushed.WriteFault
pushed_some q s before mid now held left piece bytes put p same failed none answer all gone sent =
    let (k, le, front) = passed_and_stopped before mid now held left gone.gained none gone.puts sent in
    record {
      gained = take k gone.gained;
      is_said = (some_as q s (bytes ++ piece) (put ++ take k gone.gained) same (some_said q piece bytes (put ++ gone.gained) (put ++ take k gone.gained) p answer all gone.is_read (front_of put gone.gained k)), failed);
      sent = front;
    }

-- and where it failed before
pub pushed_broken : (q s : Decoder) (before now : Option (List ℕ)) (held left piece bytes put : List ℕ) (e : Failed) → dataset_of s ≡ dataset_of q → s.state ≡ state.Failed → held ≡ [] → AreBytes (bytes ++ piece)
    → IsGoneThrough before held now left q piece bytes put (Err e) → IsPushed before now s piece bytes put pushed.WriteFault
pushed_broken q s before now held left piece bytes put e same failed none all gone =
    let (k, le, front) = stopped_before before now held gone.gained none gone.puts in
    record {
      gained = take k gone.gained;
      is_said = (some_as q s (bytes ++ piece) (put ++ take k gone.gained) same (some_shown (dataset_of q) bytes piece (put ++ gone.gained) (put ++ take k gone.gained) gone.is_read all (front_of put gone.gained k)), failed);
      sent = front;
    }

-- by the state before
pub reading_of : (r : Decoder) (bytes put : List ℕ) → r.state ≡ state.Reading → DecoderStandsAfter r bytes put → Reads r bytes put × AreBytes bytes
unfolding DecoderStandsAfter
reading_of r bytes put is stands = subst (λ s. Stands r s bytes put) is stands

pub refused_of : (r : Decoder) (bad : BadField) (bytes put : List ℕ) → r.state ≡ state.Refused bad → DecoderStandsAfter r bytes put → IsStopped r bad bytes put
unfolding DecoderStandsAfter
refused_of r bad bytes put is stands = subst (λ s. Stands r s bytes put) is stands

pub failed_of : (r : Decoder) (bytes put : List ℕ) → r.state ≡ state.Failed → DecoderStandsAfter r bytes put → ⊥
unfolding DecoderStandsAfter
failed_of r bytes put is stands = subst (λ s. Stands r s bytes put) is stands

pub has_failed : (r : Decoder) → r.state ≡ state.Failed → HasFailed r
unfolding HasFailed
has_failed r is = is

pub not_failed : (r : Decoder) (s : State) → r.state ≡ s → ¬ (s ≡ state.Failed) → HasFailed r → ⊥
unfolding HasFailed
not_failed r s is apart failed = apart (sym is ∙ failed)

-- a refusal is said again
pub refused_again : (r : Decoder) (bad : BadField) (bytes put piece : List ℕ) → r.state ≡ state.Refused bad → DecoderStandsAfter r bytes put → IsFirstBad (dataset_of r) (start_of r) (bytes ++ piece) bad
refused_again r bad bytes put piece is stands = stopped r bad (bytes ++ piece) put (stopped_more r bad bytes put piece (refused_of r bad bytes put is stands))

pub stands_again : (r : Decoder) (bad : BadField) (bytes put piece : List ℕ) (w : Option (List ℕ)) → r.state ≡ state.Refused bad → DecoderStandsAfter r bytes put
    → (gained : List ℕ) × DecoderStandsAfter r (bytes ++ piece) (put ++ gained) × ShowsFront (dataset_of r) (bytes ++ piece) (put ++ gained) × Appends w w gained
unfolding DecoderStandsAfter
stands_again r bad bytes put piece w is stands =
    let stop = stopped_more r bad bytes put piece (subst (λ s. Stands r s bytes put) is stands) in (
      [],
      subst (λ s. Stands r s (bytes ++ piece) (put ++ [])) (sym is) (subst (IsStopped r bad (bytes ++ piece)) (sym (append-nil put)) stop),
      subst (ShowsFront (dataset_of r) (bytes ++ piece)) (sym (append-nil put)) (subst (λ l. ShowsFront (dataset_of r) l put) (append-nil (bytes ++ piece)) (stop.shows [])),
      Appends-nil w,
    )

unless_more : (p : Pushed) (P Q : Type 0) → (P → Q) → UnlessFault P p → UnlessFault Q p
unless_more (pushed.Done used) P Q f h = f h
unless_more (pushed.Refused bad) P Q f h = f h
unless_more pushed.More P Q f h = f h
unless_more pushed.WriteFault P Q f h = tt

pub where_more : (p : Pushed) (P Q : Type 0) → (P → Q) → WhereFault P p → WhereFault Q p
where_more (pushed.Done used) P Q f h = tt
where_more (pushed.Refused bad) P Q f h = tt
where_more pushed.More P Q f h = tt
where_more pushed.WriteFault P Q f h = f h

pub stands_pushed : (q : Decoder) (d : Dataset) (before now : Option (List ℕ)) (piece bytes put : List ℕ) (p : Pushed) → dataset_of q ≡ d → AreBytes bytes → AreBytes piece → IsPushed before now q piece bytes put p
    → UnlessFault ((gained : List ℕ) × DecoderStandsAfter q (bytes ++ used_of p piece) (put ++ gained) × ShowsFront d (bytes ++ used_of p piece) (put ++ gained) × Appends before now gained) p
stands_pushed q d before now piece bytes put p same all more is =
    unless_more p (DecoderStandsAfter q (bytes ++ used_of p piece) (put ++ is.gained) × ShowsFront (dataset_of q) (bytes ++ used_of p piece) (put ++ is.gained)) _
    (λ both. (is.gained, both.0, subst (λ e. ShowsFront e (bytes ++ used_of p piece) (put ++ is.gained)) same both.1, is.sent))
    (stands_then q piece bytes put is.gained p all more is.is_said)

pub some_pushed : (q : Decoder) (d : Dataset) (before now : Option (List ℕ)) (piece bytes put : List ℕ) (p : Pushed) → dataset_of q ≡ d → IsPushed before now q piece bytes put p
    → WhereFault ((gained : List ℕ) × ShowsSome d (bytes ++ piece) (put ++ gained) × Appends before now gained) p
some_pushed q d before now piece bytes put (pushed.Done used) same is = tt
some_pushed q d before now piece bytes put (pushed.Refused bad) same is = tt
some_pushed q d before now piece bytes put pushed.More same is = tt
some_pushed q d before now piece bytes put pushed.WriteFault same is = (is.gained, subst (λ e. ShowsSome e (bytes ++ piece) (put ++ is.gained)) same is.is_said.0, is.sent)

pub front_bytes : (piece : List ℕ) → ((i : ℕ) → i < length piece → get_or piece i 0 < 256) → AreBytes piece
front_bytes piece small = All-from_get_or (λ b. b < 256) piece 0 small

-- by the answer, again
pub where_both : (p : Pushed) (P Q : Type 0) → WhereFault P p → WhereFault Q p → WhereFault (P × Q) p
where_both (pushed.Done used) P Q one two = tt
where_both (pushed.Refused bad) P Q one two = tt
where_both pushed.More P Q one two = tt
where_both pushed.WriteFault P Q one two = (one, two)

pub where_never : (p : Pushed) (P : Type 0) → IsAnswer p → WhereFault P p
where_never (pushed.Done used) P answer = tt
where_never (pushed.Refused bad) P answer = tt
where_never pushed.More P answer = tt
where_never pushed.WriteFault P answer = absurd answer

pub unless_any : (p : Pushed) (P : Type 0) → P → UnlessFault P p
unless_any (pushed.Done used) P holds = holds
unless_any (pushed.Refused bad) P holds = holds
unless_any pushed.More P holds = holds
unless_any pushed.WriteFault P holds = tt

pub either_way : (p : Pushed) (P Q R : Type 0) → (P → R) → (Q → R) → WhereFault P p → UnlessFault Q p → R
either_way (pushed.Done used) P Q R f g one two = g two
either_way (pushed.Refused bad) P Q R f g one two = g two
either_way pushed.More P Q R f g one two = g two
either_way pushed.WriteFault P Q R f g one two = f one

-- the bytes that were pushed are counted
pub failed_behind : (r q : Decoder) (bytes put piece : List ℕ) (p : Pushed) → Reads r bytes put → place_of r + length piece < 2 ^ 63 → start_of q ≡ start_of r → WhereFault (HasFailed q) p → WhereFault (place_of q ≡ place_of r + length piece) p
    → WhereFault (HasFailedBehind q (length (bytes ++ piece))) p
failed_behind r q bytes put piece p reads small from failed place =
    where_more p _ _ (λ both. record {
      failed = both.0;
      place = omega (arith, both.1, reads.is_place, from, length-append bytes piece);
      small = omega (arith, both.1, small);
    }) (where_both p _ _ failed place)

-- where the sink failed the bytes end behind all that was pushed
pub cut_behind : (r : Decoder) (n : ℕ) (bad : BadField) → bad ≡ record { kind = Cut; place = min (place_of r) (2 ^ 64 - 1) } → HasFailedBehind r n → bad ≡ record { kind = Cut; place = start_of r + n }
cut_behind r n bad is f = is ∙ ap (λ p. record { kind = Cut; place = p }) (omega (arith, f.place, f.small))
