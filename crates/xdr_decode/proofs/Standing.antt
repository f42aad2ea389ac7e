-- What a decoder that still reads says of the bytes that it used: their values are ended, or open, and what
-- it has put is what may be shown of them.
use Rattle.std.proofs.Common.{◌≡◌, ℕ, ◌+◌, ◌<◌, List, [], ◌∷◌, ◌++◌, length, min, ◌⊎◌, inl, inr, refl, ap, ◌∙◌, sym, subst, arith, append-nil}
use Rattle.dap_model.specs.Received.{ValuesEndAt, Fault, IsBadField, IsOpen, IsFront, IsPrefix}
use Rattle.xdr_fields.proofs.Fronts.{IsPart, shows}
use Rattle.xdr_fields.proofs.Judged.{ended_at, is_open}
use Rattle.xdr_fields.specs.inner.Reached.{IsEnded}
use Rattle.xdr_fields.specs.Wants.{Want, a_count, a_value, a_byte, a_filler, a_text, a_padding, rows, Steps, room, wants_of}
use Rattle.dap_model.proofs.OneVerdict.{one_bad, bad_not_open, ended_not_bad, ended_not_open}
use Rattle.xdr_decode.specs.Verdict.{kind_of}
use Rattle.reply_faults.specs.declared.bad.BadField.{BadField}
use Rattle.xdr_decode.specs.After.{Reads, IsStopped, IsFirstBad, EndsBehind, Stands, DecoderStandsAfter, dataset_of, start_of}
use Rattle.std.specs.Option.{option_map_or}
use Rattle.std.proofs.Common.{Result, Ok, Err, IfOk, IfErr}
use Rattle.dap_types.specs.Model.{Dataset}
use Rattle.reply_faults.specs.declared.bad.Bad.TheVariants.{Cut}
use Rattle.dap_types.specs.Model.{Members}
use Rattle.xdr_decode.specs.inner.Places.{AsksFirst, IsNext, IsOwn, IsPlaced, spot_at, stage_wants, text_wants, wants_left}
use Rattle.xdr_decode.specs.declared.decoder.State.TheVariants as state
use Rattle.xdr_decode.specs.declared.field.Ask.{Ask}
use Rattle.xdr_decode.specs.declared.place.Next.{Next}
use Rattle.xdr_decode.specs.declared.place.Next.TheVariants as next
use Rattle.xdr_decode.specs.declared.place.Text.TheVariants as texts
use Rattle.xdr_decode.specs.Shown.{ShowsFront}
use Rattle.xdr_decode.specs.declared.decoder.Decoder.{Decoder}
use Rattle.xdr_decode.specs.declared.place.Place.{Place}

own_part : (p : Place) (ws : List Want) (held own : List ℕ) → IsOwn p ws held own → IsPart ws own
own_part p [] held own is = is.1
own_part p (a_text n ∷ ws) held own is = is.1
own_part p (a_count n ∷ ws) held own is = is.1
own_part p (a_value path base ∷ ws) held own is = is.1
own_part p (a_byte path ∷ ws) held own is = is.1
own_part p (a_filler n ∷ ws) held own is = is.1
own_part p (a_padding n ∷ ws) held own is = is.1
own_part p (rows above name columns row ∷ ws) held own is = is.1

pub ends : (r : Decoder) (bytes put : List ℕ) → Reads r bytes put → wants_left (dataset_of r).members r.place ≡ [] → EndsBehind (dataset_of r) bytes (length bytes)
ends r bytes put s none =
    let part = subst (λ ws. IsPart ws s.own) none (own_part r.place (wants_left (dataset_of r).members r.place) r.held.items s.own s.is_own) in
    let front : bytes ≡ s.front = s.parts ∙ ap (λ l. s.front ++ l) part ∙ append-nil s.front in
    let whole : IsEnded (wants_of (dataset_of r)) bytes =
    record { front = s.front; rest = []; leads = record { fields = s.fields; steps = subst (Steps (wants_of (dataset_of r)) s.fields) none s.steps; spelled = s.good }; parts = front ∙ sym (append-nil s.front) } in
    let (ts, at) = ended_at (dataset_of r) bytes whole in
    (ts, subst (λ n. ValuesEndAt (dataset_of r) ts bytes n) (ap length (sym front)) at)

pub opens : (r : Decoder) (bytes put : List ℕ) (w : Want) (ws : List Want) → Reads r bytes put → wants_left (dataset_of r).members r.place ≡ w ∷ ws → IsOpen (dataset_of r) bytes
opens r bytes put w ws s some =
    let short : length s.own < room w = subst (λ vs. IsPart vs s.own) some (own_part r.place (wants_left (dataset_of r).members r.place) r.held.items s.own s.is_own) in
    is_open (dataset_of r) bytes
    (record { front = s.front; own = s.own; wanted = w; behind = ws; leads = record { fields = s.fields; steps = subst (Steps (wants_of (dataset_of r)) s.fields) some s.steps; spelled = s.good }; parts = s.parts; short = short })

-- what it has put is what may be shown of the bytes
pub puts : (r : Decoder) (bytes put : List ℕ) → Reads r bytes put → ShowsFront (dataset_of r) bytes put
puts r bytes put s =
    let d = dataset_of r in
    let ws = wants_left d.members r.place in
    let shown = shows d s.fields ws s.front s.own s.steps s.good (own_part r.place ws r.held.items s.own s.is_own) in
    let P : List ℕ → Type 0 = λ l. IsFront d l shown.whole shown.more in
    record {
      good = bytes;
      whole = shown.whole;
      more = shown.more;
      has_good = record { rest = []; parts = sym (append-nil bytes); whole = inl refl };
      is_front = subst P (sym s.parts) shown.is_front;
      begins = subst (IsPrefix shown.whole) (sym s.is_put) shown.begins;
      within = subst (λ l. IsPrefix l (shown.whole ++ shown.more)) (sym s.is_put) shown.within;
    }

-- a refusal stays
pub stopped_bad : (r : Decoder) (bad : BadField) (bytes put : List ℕ) (s : IsStopped r bad bytes put) → IsBadField (dataset_of r) bytes s.fault s.place
stopped_bad r bad bytes put s = subst (λ l. IsBadField (dataset_of r) l s.fault s.place) (append-nil bytes) (s.stays [])

pub stopped : (r : Decoder) (bad : BadField) (bytes put : List ℕ) → IsStopped r bad bytes put → IsFirstBad (dataset_of r) (start_of r) bytes bad
stopped r bad bytes put s = (s.fault, s.place, stopped_bad r bad bytes put s, s.is)

pub stopped_same : (r : Decoder) (bad : BadField) (bytes put : List ℕ) (fault : Fault) (place : ℕ) → IsStopped r bad bytes put → IsBadField (dataset_of r) bytes fault place → bad ≡ record { kind = kind_of fault; place = start_of r + place }
stopped_same r bad bytes put fault place s is =
    let (f, p) = one_bad (dataset_of r) bytes s.fault fault s.place place (stopped_bad r bad bytes put s) is in
    s.is ∙ (λ i. record { kind = kind_of (f i); place = start_of r + p i })

pub stopped_not_open : (r : Decoder) (bad : BadField) (bytes put : List ℕ) → IsStopped r bad bytes put → IsOpen (dataset_of r) bytes → ⊥
stopped_not_open r bad bytes put s open' = bad_not_open (dataset_of r) bytes s.fault s.place (stopped_bad r bad bytes put s) open'

pub stopped_not_ended : (r : Decoder) (bad : BadField) (bytes put : List ℕ) (n : ℕ) → IsStopped r bad bytes put → EndsBehind (dataset_of r) bytes n → ⊥
stopped_not_ended r bad bytes put n s ended = ended_not_bad (dataset_of r) ended.0 bytes n s.fault s.place ended.1 (stopped_bad r bad bytes put s)

-- what the code says comes next
pub ends_next : (r : Decoder) (bytes put : List ℕ) (n : Next) → Reads r bytes put → (IsPlaced (dataset_of r).members r.place → IsNext n (wants_left (dataset_of r).members r.place) r.place.text) → n ≡ next.Nothing → EndsBehind (dataset_of r) bytes (length bytes)
ends_next r bytes put n s asks is =
    ends r bytes put s (subst (λ k. IsNext k (wants_left (dataset_of r).members r.place) r.place.text) is (asks s.is_placed))

some_want : (ask : Ask) (ws : List Want) → AsksFirst ask ws → (w : Want) × (vs : List Want) × (ws ≡ w ∷ vs)
some_want ask [] asks = absurd asks
some_want ask (w ∷ vs) asks = (w, vs, refl)

text_want : (ms : Members) (p : Place) (left size : ℕ) → p.text ≡ texts.Bytes left size → (w : Want) × (vs : List Want) × (wants_left ms p ≡ w ∷ vs)
unfolding wants_left
text_want ms p left size is =
    (a_text size, _, ap (λ t. text_wants t ++ option_map_or (λ x. stage_wants x.above x.leaf p.stage ++ x.behind) (spot_at ms p) []) is)

more_next : (ms : Members) (p : Place) (n : Next) → IsNext n (wants_left ms p) p.text → ¬ (n ≡ next.Nothing) → (w : Want) × (vs : List Want) × (wants_left ms p ≡ w ∷ vs)
more_next ms p next.Nothing asks apart = absurd (apart refl)
more_next ms p (next.Field ask) asks apart = some_want ask (wants_left ms p) asks
more_next ms p (next.Bytes left) (size, is) apart = text_want ms p left size is

pub opens_next : (r : Decoder) (bytes put : List ℕ) (n : Next) → Reads r bytes put → (IsPlaced (dataset_of r).members r.place → IsNext n (wants_left (dataset_of r).members r.place) r.place.text) → ¬ (n ≡ next.Nothing) → IsOpen (dataset_of r) bytes
opens_next r bytes put n s asks apart =
    let (w, ws, some) = more_next (dataset_of r).members r.place n (asks s.is_placed) apart in opens r bytes put w ws s some

pub cut_place : (r : Decoder) (bytes put : List ℕ) (k n : ℕ) → Reads r bytes put → k ≡ length r.held.items → n ≡ min (r.taken + k) 18446744073709551615 → n ≡ start_of r + length bytes
cut_place r bytes put k n s held is = omega (arith, s.small, s.is_place, held, is)

-- the answer of a decoder that still reads
abbrev pub EndsWhere : {T : Type 0} → Dataset → List ℕ → Result T BadField → Type 0
EndsWhere d bytes r = IfOk r (λ x. EndsBehind d bytes (length bytes))

abbrev pub CutWhere : {T : Type 0} → Dataset → ℕ → List ℕ → Result T BadField → Type 0
CutWhere d start bytes r = IfErr r (λ bad. IsOpen d bytes × (bad ≡ record { kind = Cut; place = start + length bytes }))

pub refuses : {T : Type 0} (d : Dataset) (start : ℕ) (bytes : List ℕ) (r : Result T BadField) → CutWhere d start bytes r
    → IfErr r (λ bad. IsFirstBad d start bytes bad ⊎ (IsOpen d bytes × (bad ≡ record { kind = Cut; place = start + length bytes })))
refuses d start bytes (Ok x) cut = tt
refuses d start bytes (Err bad) cut = inr cut

pub ends_only : {T : Type 0} (d : Dataset) (start : ℕ) (bytes : List ℕ) (r : Result T BadField) → CutWhere d start bytes r → EndsBehind d bytes (length bytes) → (x : T) × (r ≡ Ok x)
ends_only d start bytes (Ok x) cut ended = (x, refl)
ends_only d start bytes (Err bad) cut ended = absurd (ended_not_open d ended.0 bytes (length bytes) ended.1 cut.0)

pub bad_never : {T : Type 0} (d : Dataset) (start : ℕ) (bytes : List ℕ) (fault : Fault) (place : ℕ) (r : Result T BadField) → EndsWhere d bytes r → CutWhere d start bytes r → IsBadField d bytes fault place → ⊥
bad_never d start bytes fault place (Ok x) ends cut bad' = ended_not_bad d ends.0 bytes (length bytes) fault place ends.1 bad'
bad_never d start bytes fault place (Err bad) ends cut bad' = bad_not_open d bytes fault place bad' cut.0

pub cut_only : {T : Type 0} (d : Dataset) (start : ℕ) (bytes : List ℕ) (r : Result T BadField) → EndsWhere d bytes r → CutWhere d start bytes r → IsOpen d bytes → r ≡ Err (record { kind = Cut; place = start + length bytes })
cut_only d start bytes (Ok x) ends cut open' = absurd (ended_not_open d ends.0 bytes (length bytes) ends.1 open')
cut_only d start bytes (Err bad) ends cut open' = ap Err cut.1

pub reads_of : (r : Decoder) (bytes put : List ℕ) → (r.state ≡ state.Reading) ⊎ (r.state ≡ state.Failed) → DecoderStandsAfter r bytes put → Reads r bytes put
unfolding DecoderStandsAfter
reads_of r bytes put (inl is) stands = (subst (λ s. Stands r s bytes put) is stands).0
reads_of r bytes put (inr is) stands = absurd (subst (λ s. Stands r s bytes put) is stands)
