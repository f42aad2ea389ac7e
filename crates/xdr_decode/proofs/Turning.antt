-- One field after the other: what a turn of a decoder makes of what came.
use Rattle.std.proofs.Common.{◌≡◌, ℕ, zero, suc, ◌+◌, ◌-◌, ◌*◌, ◌^◌, ◌<◌, ◌≤◌, ◌⊎◌, List, [], ◌∷◌, ◌++◌, length, length-append, min, take, drop, take-append-drop, replicate, nat_lt, true, if◌then◌else◌, Some, None, Option, Result, Ok, Err, inl, inr, ⊎_elim, refl, ap, ◌∙◌, sym, subst, arith, append_assoc, append-nil}
use Rattle.std.proofs.lemmas.Bool.Decides.{nat_tests}
use Rattle.std.proofs.lemmas.List.{length-take}
use Rattle.std.specs.Prelude.{IsErr}
use Rattle.dap_outside.specs.declared.failed.Failed.{Failed}
use Rattle.reply_faults.specs.declared.bad.BadField.{BadField}
use Rattle.dap_outside.specs.Buffered.{PassesFront}
use Rattle.xdr_decode.specs.declared.next_field.Turn.{Turn}
use Rattle.std.specs.Option.{option_map_or}
use Rattle.std.proofs.lemmas.Grind.{flat_map-append}
use Rattle.std.specs.List.{flat_map}
use Rattle.plain_lemmas.proofs.Lists.{cons_first, cons_none}
use Rattle.plain_lemmas.proofs.Numbers.{zero_or_more, not_less}
use Rattle.dap_types.specs.Model.{Dataset, Members}
use Rattle.dap_types.specs.WellFormed.{IsWellFormed}
use Rattle.dap_types.specs.declared.declarations.BaseType.{BaseType}
use Rattle.dap_types.specs.declared.declarations.BaseType.TheVariants.{Byte, Int16, UInt16, Int32, UInt32, Float32, Float64, Text, Url}
use Rattle.dap_model.specs.Received.{Fault, IsBadField, IsFront, IsPrefix}
use Rattle.dap_model.specs.Shown.{shown_byte}
use Rattle.dap_model.specs.Xdr as xdr
use Rattle.dap_model.specs.Xdr.{Field, text, field_bytes, SpellsField, SpellsFields, fill}
use Rattle.xdr_decode.specs.Verdict.{kind_of}
use Rattle.reply_faults.specs.declared.bad.Bad.{Bad}
use Rattle.xdr_fields.proofs.Fronts.{shows}
use Rattle.xdr_fields.proofs.Judged.{is_bad, no_steps, one_step, steps_join}
use Rattle.xdr_fields.specs.inner.Reached.{IsSpoilt}
use Rattle.xdr_fields.specs.Wants.{Want, a_count, a_value, a_byte, a_filler, a_text, a_padding, rows, Goes, Steps, becomes, room, said, says, says_next, says_part, wants_of}
use Rattle.xdr_decode.proofs.Asking.{value_wide}
use Rattle.xdr_decode.proofs.Beginning.{next_none}
use Rattle.xdr_decode.proofs.Roomy.{roomy}
use Rattle.xdr_decode.specs.After.{IsStopped, Reads, dataset_of, place_of, start_of}
use Rattle.xdr_decode.specs.inner.Asked.{Asks, Is, IsFaulty, width_of}
use Rattle.xdr_decode.specs.inner.Moving.{mark_bytes}
use Rattle.xdr_decode.specs.inner.Places.{AsksFirst, HaveMarks, HaveRoom, IsCutText, IsEarly, IsOwn, IsPlaced, IsStageAt, spot, spot_at, stage_wants, text_behind, text_wants, wants_left}
use Rattle.xdr_decode.specs.inner.Turning.{IsBroken, IsFresh, IsHeld, IsLoose, IsSome, Spelled, Stays, Turns, first_room}
use Rattle.xdr_decode.specs.declared.decoder.Decoder.{Decoder}
use Rattle.xdr_decode.specs.declared.field.Ask.{Ask}
use Rattle.xdr_decode.specs.declared.field.Ask.TheVariants as ask
use Rattle.xdr_decode.specs.declared.field.Token.{Token}
use Rattle.xdr_decode.specs.declared.field.Token.TheVariants as token
use Rattle.xdr_decode.specs.declared.place.Place.{Place}
use Rattle.xdr_decode.specs.declared.place.Stage.{Stage}
use Rattle.xdr_decode.specs.declared.place.Stage.TheVariants as stage
use Rattle.xdr_decode.specs.declared.place.Text.{Text as Texts}
use Rattle.xdr_decode.specs.declared.place.Text.TheVariants as texts

-- one field more
said_one : (ws : List Want) (fs : List Field) (w : Want) (vs : List Want) (f : Field) → Steps ws fs (w ∷ vs) → said ws (fs ++ f ∷ []) ≡ said ws fs ++ says w f
unfolding Steps said
said_one ws [] w vs f steps = ap (λ us. said us (f ∷ [])) steps ∙ append-nil (says w f)
said_one [] (g ∷ fs) w vs f steps = absurd steps
said_one (u ∷ us) (g ∷ fs) w vs f steps = ap (λ l. says u g ++ l) (said_one (becomes u g ++ us) fs w vs f steps.1) ∙ sym (append_assoc (says u g) (said (becomes u g ++ us) fs) (says w f))

spells_one : (fs : List Field) (front : List ℕ) (f : Field) (own : List ℕ) → SpellsFields fs front → SpellsField f own → SpellsFields (fs ++ f ∷ []) (front ++ own)
spells_one [] front f own none good = (own, [], ap (λ l. l ++ own) none ∙ sym (append-nil own), good, refl)
spells_one (g ∷ fs) front f own (a, b, parts, one, more) good = (a, b ++ own, ap (λ l. l ++ own) parts ∙ append_assoc a b own, one, spells_one fs b f own more good)

steps_one : (ws : List Want) (fs : List Field) (w : Want) (vs : List Want) (f : Field) → Steps ws fs (w ∷ vs) → Goes w f → Steps ws (fs ++ f ∷ []) (becomes w f ++ vs)
steps_one ws fs w vs f steps goes = steps_join ws fs (f ∷ []) (w ∷ vs) (becomes w f ++ vs) steps (one_step w vs f [] (becomes w f ++ vs) goes (no_steps (becomes w f ++ vs)))

spelled_one : (d : Dataset) (bytes put put' : List ℕ) (w : Want) (ws : List Want) (own : List ℕ) (f : Field) (s : Spelled d bytes put (w ∷ ws) own) → Goes w f → SpellsField f own
    → said (wants_of d) s.fields ++ says w f ≡ put' → Spelled d bytes put' (becomes w f ++ ws) []
spelled_one d bytes put put' w ws own f s goes good is =
    record {
      front = s.front ++ own;
      fields = s.fields ++ f ∷ [];
      parts = s.parts ∙ sym (append-nil (s.front ++ own));
      good = spells_one s.fields s.front f own s.good good;
      steps = steps_one (wants_of d) s.fields w ws f s.steps goes;
      is_put = sym is ∙ sym (said_one (wants_of d) s.fields w ws f s.steps) ∙ sym (append-nil (said (wants_of d) (s.fields ++ f ∷ [])))
          ∙ ap (λ l. said (wants_of d) (s.fields ++ f ∷ []) ++ l) (sym (next_none (becomes w f ++ ws)));
    }

-- of a field that is no text nothing is said before it is whole
pub spelled_field : (d : Dataset) (bytes put : List ℕ) (w : Want) (ws : List Want) (own : List ℕ) (f : Field) → Spelled d bytes put (w ∷ ws) own → says_part w own ≡ [] → Goes w f → SpellsField f own
    → Spelled d bytes (put ++ says w f) (becomes w f ++ ws) []
spelled_field d bytes put w ws own f s none goes good =
    spelled_one d bytes put (put ++ says w f) w ws own f s goes good
    (ap (λ l. l ++ says w f) (sym (s.is_put ∙ ap (λ l. said (wants_of d) s.fields ++ l) none ∙ append-nil (said (wants_of d) s.fields))))

-- more bytes of it
pub spelled_more : (d : Dataset) (bytes put : List ℕ) (w : Want) (ws : List Want) (own piece : List ℕ) → Spelled d bytes put (w ∷ ws) own → ((l : List ℕ) → says_part w l ≡ []) → Spelled d (bytes ++ piece) put (w ∷ ws) (own ++ piece)
spelled_more d bytes put w ws own piece s none =
    record {
      front = s.front;
      fields = s.fields;
      parts = ap (λ l. l ++ piece) s.parts ∙ append_assoc s.front own piece;
      good = s.good;
      steps = s.steps;
      is_put = s.is_put ∙ ap (λ l. said (wants_of d) s.fields ++ l) (none own ∙ sym (none (own ++ piece)));
    }

-- more bytes of a text
pub spelled_text : (d : Dataset) (bytes put : List ℕ) (n : ℕ) (ws : List Want) (own piece : List ℕ) → Spelled d bytes put (a_text n ∷ ws) own → Spelled d (bytes ++ piece) (put ++ flat_map shown_byte piece) (a_text n ∷ ws) (own ++ piece)
spelled_text d bytes put n ws own piece s =
    record {
      front = s.front;
      fields = s.fields;
      parts = ap (λ l. l ++ piece) s.parts ∙ append_assoc s.front own piece;
      good = s.good;
      steps = s.steps;
      is_put = ap (λ l. l ++ flat_map shown_byte piece) s.is_put ∙ append_assoc (said (wants_of d) s.fields) (flat_map shown_byte own) (flat_map shown_byte piece)
          ∙ ap (λ l. said (wants_of d) s.fields ++ l) (sym (flat_map-append shown_byte own piece));
    }

text_spelled : (own : List ℕ) → SpellsField (text own) own
unfolding field_bytes
text_spelled own = refl

pub spelled_whole : (d : Dataset) (bytes put : List ℕ) (n : ℕ) (ws : List Want) (own : List ℕ) → Spelled d bytes put (a_text n ∷ ws) own → length own ≡ n → Spelled d bytes put ws []
spelled_whole d bytes put n ws own s whole = spelled_one d bytes put put (a_text n) ws own (text own) s whole (text_spelled own) (sym s.is_put)

-- what is asked for is no text
pub asks_no_text : (a : Ask) (n : ℕ) → Asks a (a_text n) → ⊥
asks_no_text (ask.Count k) n asks = asks
asks_no_text (ask.Value b) n asks = asks
asks_no_text ask.Packed n asks = asks
asks_no_text (ask.Filler k) n asks = asks
asks_no_text (ask.Padding k) n asks = asks
asks_no_text ask.Mark n asks = asks

pub asks_silent : (a : Ask) (w : Want) → Asks a w → (l : List ℕ) → says_part w l ≡ []
asks_silent a (a_text n) asks l = absurd (asks_no_text a n asks)
asks_silent a (a_count n) asks l = refl
asks_silent a (a_value path base) asks l = refl
asks_silent a (a_byte path) asks l = refl
asks_silent a (a_filler n) asks l = refl
asks_silent a (a_padding n) asks l = refl
asks_silent a (rows above name columns row) asks l = refl

value_room : (base : BaseType) (path : List ℕ) → width_of (ask.Value base) ≡ room (a_value path base)
value_room Byte path = refl
value_room Int16 path = refl
value_room UInt16 path = refl
value_room Int32 path = refl
value_room UInt32 path = refl
value_room Float32 path = refl
value_room Float64 path = refl
value_room Text path = refl
value_room Url path = refl

pub asks_room : (a : Ask) (w : Want) → Asks a w → width_of a ≡ room w
asks_room (ask.Count k) (a_count n) asks = refl
asks_room (ask.Value b) (a_value path base) asks = value_room b path ∙ ap (λ x. room (a_value path x)) asks
asks_room ask.Packed (a_byte path) asks = refl
asks_room (ask.Filler k) (a_filler n) asks = asks
asks_room (ask.Padding k) (a_padding n) asks = asks
asks_room ask.Mark (rows above name columns row) asks = refl
asks_room a w asks = absurd asks

small_fill : (n : ℕ) → fill n ≤ 8
small_fill n = omega arith

value_small : (base : BaseType) → width_of (ask.Value base) ≤ 8
value_small Byte = omega arith
value_small Int16 = omega arith
value_small UInt16 = omega arith
value_small Int32 = omega arith
value_small UInt32 = omega arith
value_small Float32 = omega arith
value_small Float64 = omega arith
value_small Text = omega arith
value_small Url = omega arith

pub asks_small : (a : Ask) (w : Want) → Asks a w → width_of a ≤ 8
asks_small (ask.Count k) (a_count n) asks = omega arith
asks_small (ask.Value b) (a_value path base) asks = value_small b
asks_small ask.Packed (a_byte path) asks = omega arith
asks_small (ask.Filler k) (a_filler n) asks = omega (arith, asks, small_fill n)
asks_small (ask.Padding k) (a_padding n) asks = omega (arith, asks, small_fill n)
asks_small ask.Mark (rows above name columns row) asks = omega arith
asks_small a w asks = absurd asks

-- a mark has four bytes
row_room : (w : Want) (f : Field) → Goes w f → Is token.Row f → 4 ≤ room w
row_room (rows above name columns row) f goes is = omega arith
row_room w (xdr.mark b) goes is = absurd goes
row_room w f goes is = absurd is

pub marks_fit : (w : Want) (f : Field) (t : Token) → Goes w f → Is t f → mark_bytes t ≤ room w
marks_fit w f token.Row goes is = row_room w f goes is
marks_fit w f token.Count goes is = omega arith
marks_fit w f (token.Whole z) goes is = omega arith
marks_fit w f (token.Bits32 n) goes is = omega arith
marks_fit w f (token.Bits64 n) goes is = omega arith
marks_fit w f (token.Size n) goes is = omega arith
marks_fit w f token.Zeros goes is = omega arith
marks_fit w f token.End goes is = omega arith

pub marks_more : (s : Stage) (n m : ℕ) → n ≤ m → HaveMarks s n → HaveMarks s m
marks_more stage.Start n m le have = tt
marks_more (stage.Again c) n m le have = tt
marks_more (stage.Elements i c) n m le have = tt
marks_more (stage.Filler c) n m le have = tt
marks_more (stage.Rows row) n m le have = omega (arith, have, le)
marks_more (stage.Cells row at) n m le have = omega (arith, have, le)
marks_more stage.Behind n m le have = tt

pub early : (s : Stage) (n : ℕ) → n < 2 ^ 63 → HaveMarks s n → IsEarly s
early stage.Start n small have = tt
early (stage.Again c) n small have = tt
early (stage.Elements i c) n small have = tt
early (stage.Filler c) n small have = tt
early (stage.Rows row) n small have = omega (arith, have, small)
early (stage.Cells row at) n small have = omega (arith, have, small)
early stage.Behind n small have = tt

-- what comes behind the string that is read
abbrev pub later : Members → Place → List Want
later ms p = option_map_or (λ s. stage_wants s.above s.leaf p.stage ++ s.behind) (spot_at ms p) []

pub string_first : (ms : Members) (p : Place) (left size : ℕ) → p.text ≡ texts.Bytes left size → wants_left ms p ≡ a_text size ∷ a_padding size ∷ later ms p
unfolding wants_left
string_first ms p left size is = ap (λ t. text_wants t ++ later ms p) is

pub padding_first : (ms : Members) (p : Place) (size : ℕ) → p.text ≡ texts.Padding size → wants_left ms p ≡ a_padding size ∷ later ms p
unfolding wants_left
padding_first ms p size is = ap (λ t. text_wants t ++ later ms p) is

pub same_later : (ms : Members) (p q : Place) → q.path.items ≡ p.path.items → q.stage ≡ p.stage → later ms q ≡ later ms p
same_later ms p q path stage =
    ap (λ l. option_map_or (λ s. stage_wants s.above s.leaf q.stage ++ s.behind) (spot l [] ms) []) path
    ∙ ap (λ k. option_map_or (λ s. stage_wants s.above s.leaf k ++ s.behind) (spot_at ms p) []) stage

pub same_placed : (ms : Members) (p q : Place) → q.path.items ≡ p.path.items → q.stage ≡ p.stage → IsPlaced ms p → IsPlaced ms q
same_placed ms p q path stage placed =
    let one : IsStageAt (spot_at ms p) q.stage p.path.items = subst (λ s. IsStageAt (spot_at ms p) s p.path.items) (sym stage) placed in
    subst (λ l. IsStageAt (spot l [] ms) q.stage l) (sym path) one

-- where something else is asked for, no string is read
pub no_string : (ms : Members) (p : Place) (a : Ask) (w : Want) (ws : List Want) (left size : ℕ) → wants_left ms p ≡ w ∷ ws → Asks a w → p.text ≡ texts.Bytes left size → ⊥
no_string ms p a w ws left size first asks is =
    asks_no_text a size (subst (Asks a) (cons_first w (a_text size) ws (a_padding size ∷ later ms p) (sym first ∙ string_first ms p left size is)) asks)

pub fresh_of : (ms : Members) (p : Place) (a : Ask) (w : Want) (ws : List Want) → wants_left ms p ≡ w ∷ ws → Asks a w → IsFresh p.text
fresh_of ms p a w ws first asks = inner p.text refl
  where
    inner : (t : Texts) → p.text ≡ t → IsFresh t
    inner texts.Nothing at = tt
    inner (texts.Padding n) at = tt
    inner (texts.Bytes left size) at = absurd (no_string ms p a w ws left size first asks at)

-- what is held of a field that is asked for
pub held_own : (ms : Members) (p : Place) (a : Ask) (w : Want) (ws : List Want) (held own : List ℕ) → wants_left ms p ≡ w ∷ ws → Asks a w → IsHeld p.text (wants_left ms p) held own → (held ≡ own) × (length own ≤ room w)
held_own ms p a w ws held own first asks is = inner p.text refl (subst (λ l. IsHeld p.text l held own) first is)
  where
    inner : (t : Texts) → p.text ≡ t → IsHeld t (w ∷ ws) held own → (held ≡ own) × (length own ≤ room w)
    inner texts.Nothing at is = is
    inner (texts.Padding n) at is = is
    inner (texts.Bytes left size) at is = absurd (no_string ms p a w ws left size first asks at)

pub held_back : (ms : Members) (p : Place) (a : Ask) (w : Want) (ws : List Want) (held own : List ℕ) → wants_left ms p ≡ w ∷ ws → Asks a w → held ≡ own → length own ≤ room w → IsHeld p.text (wants_left ms p) held own
held_back ms p a w ws held own first asks same le = subst (λ l. IsHeld p.text l held own) (sym first) (inner p.text refl)
  where
    inner : (t : Texts) → p.text ≡ t → IsHeld t (w ∷ ws) held own
    inner texts.Nothing at = (same, le)
    inner (texts.Padding n) at = (same, le)
    inner (texts.Bytes left size) at = absurd (no_string ms p a w ws left size first asks at)

own_cases : (p : Place) (a : Ask) (w : Want) (ws : List Want) (held own : List ℕ) → Asks a w → held ≡ own → length own < room w → IsOwn p (w ∷ ws) held own
own_cases p a (a_text n) ws held own asks same lt = absurd (asks_no_text a n asks)
own_cases p a (a_count n) ws held own asks same lt = (same, lt)
own_cases p a (a_value path base) ws held own asks same lt = (same, lt)
own_cases p a (a_byte path) ws held own asks same lt = (same, lt)
own_cases p a (a_filler n) ws held own asks same lt = (same, lt)
own_cases p a (a_padding n) ws held own asks same lt = (same, lt)
own_cases p a (rows above name columns row) ws held own asks same lt = (same, lt)

-- between two fields nothing is held
pub fresh_held : (t : Texts) (ws : List Want) → IsFresh t → IsHeld t ws [] []
fresh_held texts.Nothing ws fresh = (refl, omega arith)
fresh_held (texts.Padding n) ws fresh = (refl, omega arith)
fresh_held (texts.Bytes left size) ws fresh = (refl, omega (arith, fresh))

-- a proper part of a field is a part
own_held : (p : Place) (ws : List Want) (held own : List ℕ) → (IsCutText p.text own → ⊥) → IsOwn p ws held own → (held ≡ own) × (length own ≤ first_room ws)
own_held p [] held own none is = (is.0 ∙ sym is.1, omega (arith, ap length is.1))
own_held p (a_text n ∷ ws) held own none is = absurd (none is.2)
own_held p (a_count n ∷ ws) held own none is = (is.0, omega (arith, is.1))
own_held p (a_value path base ∷ ws) held own none is = (is.0, omega (arith, is.1))
own_held p (a_byte path ∷ ws) held own none is = (is.0, omega (arith, is.1))
own_held p (a_filler n ∷ ws) held own none is = (is.0, omega (arith, is.1))
own_held p (a_padding n ∷ ws) held own none is = (is.0, omega (arith, is.1))
own_held p (rows above name columns row ∷ ws) held own none is = (is.0, omega (arith, is.1))

held_of : (ms : Members) (p : Place) (held own : List ℕ) → IsOwn p (wants_left ms p) held own → IsHeld p.text (wants_left ms p) held own
held_of ms p held own is = inner p.text refl
  where
    inner : (t : Texts) → p.text ≡ t → IsHeld t (wants_left ms p) held own
    inner texts.Nothing at = own_held p (wants_left ms p) held own (λ cut. subst (λ t. IsCutText t own) at cut) is
    inner (texts.Padding n) at = own_held p (wants_left ms p) held own (λ cut. subst (λ t. IsCutText t own) at cut) is
    inner (texts.Bytes left size) at =
        let o : IsOwn p (a_text size ∷ a_padding size ∷ later ms p) held own = subst (λ l. IsOwn p l held own) (string_first ms p left size at) is in
        let cut : IsCutText (texts.Bytes left size) own = subst (λ t. IsCutText t own) at o.2 in (o.0, cut.1)

pub reads_stays : (r : Decoder) (bytes put : List ℕ) → Reads r bytes put → Stays r bytes put
reads_stays r bytes put s =
    record {
      well_formed = s.well_formed;
      own = s.own;
      spelled = record { front = s.front; fields = s.fields; parts = s.parts; good = s.good; steps = s.steps; is_put = s.is_put };
      is_placed = s.is_placed;
      is_held = held_of (dataset_of r).members r.place r.held.items s.own s.is_own;
      have_marks = s.have_marks;
      is_place = s.is_place;
    }

pub stays_reads : (r : Decoder) (bytes put : List ℕ) (s : Stays r bytes put) → IsOwn r.place (wants_left (dataset_of r).members r.place) r.held.items s.own → place_of r < 2 ^ 64 → Reads r bytes put
stays_reads r bytes put s own small =
    record {
      well_formed = s.well_formed;
      front = s.spelled.front;
      own = s.own;
      fields = s.spelled.fields;
      parts = s.spelled.parts;
      good = s.spelled.good;
      steps = s.spelled.steps;
      is_placed = s.is_placed;
      is_own = own;
      is_put = s.spelled.is_put;
      have_marks = s.have_marks;
      is_place = s.is_place;
      small = small;
    }

none_long : (l : List ℕ) → length l ≤ 0 → l ≡ []
none_long [] le = refl
none_long (x ∷ l) le = absurd (omega (arith, le))

-- the values are ended
pub stays_ended : (r : Decoder) (bytes put : List ℕ) → Stays r bytes put → wants_left (dataset_of r).members r.place ≡ [] → place_of r < 2 ^ 64 → Reads r bytes put
stays_ended r bytes put s none small =
    let ms = (dataset_of r).members in
    stays_reads r bytes put s (subst (λ l. IsOwn r.place l r.held.items s.own) (sym none) (inner ms r.place.text refl (subst (λ l. IsHeld r.place.text l r.held.items s.own) none s.is_held))) small
  where
    empty : r.held.items ≡ s.own → length s.own ≤ 0 → IsOwn r.place [] r.held.items s.own
    empty same le = let nil = none_long s.own le in (same ∙ nil, nil)

    inner : (ms : Members) (t : Texts) → r.place.text ≡ t → IsHeld t [] r.held.items s.own → IsOwn r.place [] r.held.items s.own
    inner ms texts.Nothing at is = empty is.0 is.1
    inner ms (texts.Padding n) at is = empty is.0 is.1
    inner ms (texts.Bytes left size) at is = absurd (cons_none (a_text size) (a_padding size ∷ later (dataset_of r).members r.place) (sym (string_first (dataset_of r).members r.place left size at) ∙ none))

-- a field was held, and is read
pub stays_on : (r q : Decoder) (bytes put : List ℕ) (a : Ask) (w : Want) (ws : List Want) (f : Field) (t : Token) → dataset_of q ≡ dataset_of r → start_of q ≡ start_of r → q.held.items ≡ [] → q.taken ≡ min (r.taken + width_of a) 18446744073709551615
    → (HaveRoom 0 (dataset_of r).members → IsPlaced (dataset_of r).members r.place → IsEarly r.place.stage → wants_left (dataset_of r).members r.place ≡ w ∷ ws → Goes w f → Is t f → wants_left (dataset_of r).members q.place ≡ becomes w f ++ ws)
    → (HaveRoom 0 (dataset_of r).members → IsPlaced (dataset_of r).members r.place → IsEarly r.place.stage → wants_left (dataset_of r).members r.place ≡ w ∷ ws → Goes w f → Is t f → IsPlaced (dataset_of r).members q.place)
    → ((n : ℕ) → HaveMarks r.place.stage n → HaveMarks q.place.stage (n + mark_bytes t)) → (IsFresh r.place.text → IsFresh q.place.text)
    → Stays r bytes put → wants_left (dataset_of r).members r.place ≡ w ∷ ws → Asks a w → Goes w f → SpellsField f r.held.items → Is t f → length r.held.items ≡ width_of a → place_of r < 2 ^ 63 → Stays q bytes (put ++ says w f)
stays_on r q bytes put a w ws f t same start none taken wants placed marks fresh s first asks goes good is whole small =
    let d = dataset_of r in
    let room' = roomy d s.well_formed in
    let soon : IsEarly r.place.stage = early r.place.stage r.taken (omega (arith, small)) s.have_marks in
    let own : r.held.items ≡ s.own = (held_own d.members r.place a w ws r.held.items s.own first asks s.is_held).0 in
    let left = wants room' s.is_placed soon first goes is in
    let at = placed room' s.is_placed soon first goes is in
    let before : Spelled d bytes put (w ∷ ws) s.own = subst (λ l. Spelled d bytes put l s.own) first s.spelled in
    let now : Spelled d bytes (put ++ says w f) (becomes w f ++ ws) [] = spelled_field d bytes put w ws s.own f before (asks_silent a w asks s.own) goes (subst (SpellsField f) own good) in
    let then' : Spelled d bytes (put ++ says w f) (wants_left d.members q.place) [] = subst (λ l. Spelled d bytes (put ++ says w f) l []) (sym left) now in
    record {
      well_formed = subst IsWellFormed (sym same) s.well_formed;
      own = [];
      spelled = subst (λ e. Spelled e bytes (put ++ says w f) (wants_left e.members q.place) []) (sym same) then';
      is_placed = subst (λ e. IsPlaced e.members q.place) (sym same) at;
      is_held = subst (λ h. IsHeld q.place.text (wants_left (dataset_of q).members q.place) h []) (sym none) (fresh_held q.place.text (wants_left (dataset_of q).members q.place) (fresh (fresh_of d.members r.place a w ws first asks)));
      have_marks = marks_more q.place.stage (r.taken + mark_bytes t) q.taken (omega (arith, taken, small, marks_fit w f t goes is, asks_room a w asks)) (marks r.taken s.have_marks);
      is_place = omega (arith, ap length none, taken, start, s.is_place, whole, small);
    }

-- more bytes of a field are held
pub stays_held : (r q : Decoder) (bytes put piece : List ℕ) (a : Ask) (w : Want) (ws : List Want) → dataset_of q ≡ dataset_of r → start_of q ≡ start_of r → q.place ≡ r.place → q.taken ≡ r.taken → q.held.items ≡ r.held.items ++ piece → length q.held.items ≤ width_of a
    → Stays r bytes put → wants_left (dataset_of r).members r.place ≡ w ∷ ws → Asks a w → Stays q (bytes ++ piece) put
stays_held r q bytes put piece a w ws same start place taken more le s first asks =
    let d = dataset_of r in
    let own : r.held.items ≡ s.own = (held_own d.members r.place a w ws r.held.items s.own first asks s.is_held).0 in
    let all : q.held.items ≡ s.own ++ piece = more ∙ ap (λ l. l ++ piece) own in
    let before : Spelled d bytes put (w ∷ ws) s.own = subst (λ l. Spelled d bytes put l s.own) first s.spelled in
    let now : Spelled d (bytes ++ piece) put (w ∷ ws) (s.own ++ piece) = spelled_more d bytes put w ws s.own piece before (asks_silent a w asks) in
    let there : Spelled d (bytes ++ piece) put (wants_left d.members r.place) (s.own ++ piece) = subst (λ l. Spelled d (bytes ++ piece) put l (s.own ++ piece)) (sym first) now in
    let fits : length (s.own ++ piece) ≤ room w = omega (arith, ap length all, le, asks_room a w asks) in
    let held : IsHeld r.place.text (wants_left d.members r.place) q.held.items (s.own ++ piece) = held_back d.members r.place a w ws q.held.items (s.own ++ piece) first asks all fits in
    record {
      well_formed = subst IsWellFormed (sym same) s.well_formed;
      own = s.own ++ piece;
      spelled = subst (λ e. Spelled e (bytes ++ piece) put (wants_left e.members q.place) (s.own ++ piece)) (sym same) (subst (λ p. Spelled d (bytes ++ piece) put (wants_left d.members p) (s.own ++ piece)) (sym place) there);
      is_placed = subst (λ e. IsPlaced e.members q.place) (sym same) (subst (λ p. IsPlaced d.members p) (sym place) s.is_placed);
      is_held = subst (λ e. IsHeld q.place.text (wants_left e.members q.place) q.held.items (s.own ++ piece)) (sym same) (subst (λ p. IsHeld p.text (wants_left d.members p) q.held.items (s.own ++ piece)) (sym place) held);
      have_marks = subst (λ n. HaveMarks q.place.stage n) (sym taken) (subst (λ p. HaveMarks p.stage r.taken) (sym place) s.have_marks);
      is_place = omega (arith, taken, start, s.is_place, ap length more, length-append r.held.items piece, length-append bytes piece);
    }

-- and the field is not whole
pub held_reads : (q : Decoder) (bytes put : List ℕ) (a : Ask) (w : Want) (ws : List Want) → Stays q bytes put → wants_left (dataset_of q).members q.place ≡ w ∷ ws → Asks a w → length q.held.items < width_of a → place_of q < 2 ^ 64 → Reads q bytes put
held_reads q bytes put a w ws s first asks short small =
    let own : q.held.items ≡ s.own = (held_own (dataset_of q).members q.place a w ws q.held.items s.own first asks s.is_held).0 in
    stays_reads q bytes put s (subst (λ l. IsOwn q.place l q.held.items s.own) (sym first) (own_cases q.place a w ws q.held.items s.own asks own (omega (arith, short, ap length own, asks_room a w asks)))) small

-- a bad field has bytes
some_value : (base : BaseType) (path : List ℕ) → 0 < room (a_value path base)
some_value base path = omega (arith, value_wide base, value_room base path)

no_filler : (n : ℕ) → fill n ≡ 0 → SpellsField (xdr.filler n) []
unfolding field_bytes
no_filler n none = ap (λ k. replicate k 0) (sym none)

no_padding : (n : ℕ) → fill n ≡ 0 → SpellsField (xdr.padding n) []
unfolding field_bytes
no_padding n none = ap (λ k. replicate k 0) (sym none)

pub faulty_wide : (w : Want) (own : List ℕ) (kind : Bad) → IsFaulty w own kind → length own ≡ room w → 0 < room w
faulty_wide (a_count n) own kind is whole = omega arith
faulty_wide (a_value path base) own kind is whole = some_value base path
faulty_wide (a_byte path) own kind is whole = omega arith
faulty_wide (a_filler n) own kind is whole =
    ⊎_elim (λ none. absurd (is.3 (xdr.filler n) refl (subst (SpellsField (xdr.filler n)) (sym (none_long own (omega (arith, whole, none)))) (no_filler n none)))) (λ some. some) (zero_or_more (fill n))
faulty_wide (a_text n) own kind is whole = no_fault is.0 is.1
  where
    no_fault : (f : Fault) → None ≡ Some f → 0 < n
    no_fault f same = cc
faulty_wide (a_padding n) own kind is whole =
    ⊎_elim (λ none. absurd (is.3 (xdr.padding n) refl (subst (SpellsField (xdr.padding n)) (sym (none_long own (omega (arith, whole, none)))) (no_padding n none)))) (λ some. some) (zero_or_more (fill n))
faulty_wide (rows above name columns row) own kind is whole = omega arith

-- a field was held, and is bad
pub stops : (m : Decoder) (bytes put rest : List ℕ) (a : Ask) (w : Want) (ws : List Want) (kind : Bad) → Stays m bytes put → wants_left (dataset_of m).members m.place ≡ w ∷ ws → Asks a w → length m.held.items ≡ width_of a → IsFaulty w m.held.items kind
    → IsStopped m (record { kind = kind; place = m.taken }) (bytes ++ rest) put
stops m bytes put rest a w ws kind s first asks whole faulty =
    let d = dataset_of m in
    let own : m.held.items ≡ s.own = (held_own d.members m.place a w ws m.held.items s.own first asks s.is_held).0 in
    let sp : Spelled d bytes put (w ∷ ws) s.own = subst (λ l. Spelled d bytes put l s.own) first s.spelled in
    let is' : IsFaulty w s.own kind = subst (λ l. IsFaulty w l kind) own faulty in
    let wide : length s.own ≡ room w = omega (arith, ap length own, whole, asks_room a w asks) in
    let silent : put ≡ said (wants_of d) sp.fields ++ says_next (w ∷ ws) [] = sp.is_put ∙ ap (λ l. said (wants_of d) sp.fields ++ l) (asks_silent a w asks s.own ∙ sym (asks_silent a w asks [])) in
    let parts : (more : List ℕ) → (bytes ++ rest) ++ more ≡ sp.front ++ (s.own ++ (rest ++ more)) = λ more.
    append_assoc bytes rest more ∙ ap (λ l. l ++ (rest ++ more)) sp.parts ∙ append_assoc sp.front s.own (rest ++ more) in
    let spoilt : (more : List ℕ) → IsSpoilt (wants_of d) ((bytes ++ rest) ++ more) = λ more.
    record { front = sp.front; own = s.own; rest = rest ++ more; wanted = w; behind = ws; fault = is'.0; leads = record { fields = sp.fields; steps = sp.steps; spelled = sp.good }; parts = parts more; whole = wide; is_fault = is'.1; none = is'.3 } in
    let bad : (more : List ℕ) → IsBadField d ((bytes ++ rest) ++ more) is'.0 (length sp.front) = λ more. is_bad d ((bytes ++ rest) ++ more) (spoilt more) in
    let shown = shows d sp.fields (w ∷ ws) sp.front [] sp.steps sp.good (faulty_wide w s.own kind is' wide) in
    let at : m.taken ≡ start_of m + length sp.front = omega (arith, s.is_place, ap length sp.parts, length-append sp.front s.own, ap length own) in
    record {
      fault = is'.0;
      place = length sp.front;
      stays = bad;
      shows = λ more. record {
        good = sp.front;
        whole = shown.whole;
        more = shown.more;
        has_good = record { rest = s.own ++ (rest ++ more); parts = parts more; whole = inr (is'.0, bad more) };
        is_front = subst (λ l. IsFront d l shown.whole shown.more) (append-nil sp.front) shown.is_front;
        begins = subst (IsPrefix shown.whole) (sym silent) shown.begins;
        within = subst (λ l. IsPrefix l (shown.whole ++ shown.more)) (sym silent) shown.within;
      };
      is = ap (λ k. record { kind = k; place = m.taken }) is'.2 ∙ ap (λ n. record { kind = kind_of is'.0; place = n }) at;
    }

-- the sink failed at a field that is whole
loose_none : (ws : List Want) → IsLoose ws []
loose_none [] = tt
loose_none (a_text n ∷ ws) = omega arith
loose_none (a_count n ∷ ws) = tt
loose_none (a_value path base ∷ ws) = tt
loose_none (a_byte path ∷ ws) = tt
loose_none (a_filler n ∷ ws) = tt
loose_none (a_padding n ∷ ws) = tt
loose_none (rows above name columns row ∷ ws) = tt

pub own_loose : (p : Place) (ws : List Want) (held own : List ℕ) → IsOwn p ws held own → IsLoose ws own
own_loose p [] held own is = tt
own_loose p (a_text n ∷ ws) held own is = omega (arith, is.1)
own_loose p (a_count n ∷ ws) held own is = tt
own_loose p (a_value path base ∷ ws) held own is = tt
own_loose p (a_byte path ∷ ws) held own is = tt
own_loose p (a_filler n ∷ ws) held own is = tt
own_loose p (a_padding n ∷ ws) held own is = tt
own_loose p (rows above name columns row ∷ ws) held own is = tt

pub breaks : (m : Decoder) (d : Dataset) (bytes put rest : List ℕ) (n : ℕ) (a : Ask) (w : Want) (ws : List Want) (f : Field) → d ≡ dataset_of m → Stays m (bytes ++ take n rest) put → wants_left (dataset_of m).members m.place ≡ w ∷ ws → Asks a w → Goes w f → SpellsField f m.held.items
    → IsBroken d rest bytes (put ++ says w f)
breaks m d bytes put rest n a w ws f same s first asks goes good =
    let own : m.held.items ≡ s.own = (held_own (dataset_of m).members m.place a w ws m.held.items s.own first asks s.is_held).0 in
    let sp : Spelled (dataset_of m) (bytes ++ take n rest) put (w ∷ ws) s.own = subst (λ l. Spelled (dataset_of m) (bytes ++ take n rest) put l s.own) first s.spelled in
    subst (λ e. IsBroken e rest bytes (put ++ says w f)) (sym same)
    (record {
      used = n;
      wants = becomes w f ++ ws;
      own = [];
      spelled = spelled_field (dataset_of m) (bytes ++ take n rest) put w ws s.own f sp (asks_silent a w asks s.own) goes (subst (SpellsField f) own good);
      is_loose = loose_none (becomes w f ++ ws);
    })

-- bytes of a string came
lt_true : (a b : ℕ) → a < b → nat_lt a b ≡ true
lt_true a b lt = grind (arith, nat_tests)

pub text_cut : (count left size : ℕ) → count < left → text_behind count (texts.Bytes left size) ≡ texts.Bytes (left - count) size
text_cut count left size lt = ap (λ b. if b then texts.Bytes (left - count) size else texts.Padding size) (lt_true count left lt)

pub text_whole : (count left size : ℕ) → left ≤ count → text_behind count (texts.Bytes left size) ≡ texts.Padding size
text_whole count left size le = ap (λ b. if b then texts.Bytes (left - count) size else texts.Padding size) (not_less count left le)

-- what came of it
pub string_spelled : (r : Decoder) (bytes put piece : List ℕ) (left size : ℕ) (s : Stays r bytes put) → r.place.text ≡ texts.Bytes left size
    → Spelled (dataset_of r) (bytes ++ piece) (put ++ flat_map shown_byte piece) (a_text size ∷ a_padding size ∷ later (dataset_of r).members r.place) (s.own ++ piece)
string_spelled r bytes put piece left size s is =
    let d = dataset_of r in
    spelled_text d bytes put size (a_padding size ∷ later d.members r.place) s.own piece (subst (λ l. Spelled d bytes put l s.own) (string_first d.members r.place left size is) s.spelled)

string_held : (r : Decoder) (bytes put : List ℕ) (left size : ℕ) (s : Stays r bytes put) → r.place.text ≡ texts.Bytes left size → (r.held.items ≡ []) × (length s.own + left ≡ size)
string_held r bytes put left size s is = subst (λ t. IsHeld t (wants_left (dataset_of r).members r.place) r.held.items s.own) is s.is_held

-- where the sink fails
pub string_breaks : (r : Decoder) (bytes put rest : List ℕ) (left size n : ℕ) → Stays r bytes put → r.place.text ≡ texts.Bytes left size → n ≤ left → IsBroken (dataset_of r) rest bytes (put ++ flat_map shown_byte (take n rest))
string_breaks r bytes put rest left size n s is le =
    let has = string_held r bytes put left size s is in
    record {
      used = n;
      wants = a_text size ∷ a_padding size ∷ later (dataset_of r).members r.place;
      own = s.own ++ take n rest;
      spelled = string_spelled r bytes put (take n rest) left size s is;
      is_loose = omega (arith, has.1, length-append s.own (take n rest), length-take n rest, le);
    }

-- a decoder at the same variable
pub record IsAt (r q : Decoder) (count : ℕ) : Type 0 where
  pub dataset : dataset_of q ≡ dataset_of r
  pub start : start_of q ≡ start_of r
  pub held : q.held.items ≡ r.held.items
  pub taken : q.taken ≡ min (r.taken + count) 18446744073709551615
  pub path : q.place.path.items ≡ r.place.path.items
  pub stage : q.place.stage ≡ r.place.stage

string_stays : (r q : Decoder) (bytes put piece own : List ℕ) (count : ℕ) → IsAt r q count → (s : Stays r bytes put) → r.held.items ≡ [] → length piece ≡ count → place_of r + count < 2 ^ 63
    → Spelled (dataset_of r) (bytes ++ piece) (put ++ flat_map shown_byte piece) (wants_left (dataset_of r).members q.place) own → IsHeld q.place.text (wants_left (dataset_of r).members q.place) [] own
    → Stays q (bytes ++ piece) (put ++ flat_map shown_byte piece)
string_stays r q bytes put piece own count at s none long small spelled held =
    record {
      well_formed = subst IsWellFormed (sym at.dataset) s.well_formed;
      own = own;
      spelled = subst (λ e. Spelled e (bytes ++ piece) (put ++ flat_map shown_byte piece) (wants_left e.members q.place) own) (sym at.dataset) spelled;
      is_placed = subst (λ e. IsPlaced e.members q.place) (sym at.dataset) (same_placed (dataset_of r).members r.place q.place at.path at.stage s.is_placed);
      is_held = subst (λ h. IsHeld q.place.text (wants_left (dataset_of q).members q.place) h own) (sym (at.held ∙ none))
          (subst (λ e. IsHeld q.place.text (wants_left e.members q.place) [] own) (sym at.dataset) held);
      have_marks = subst (λ k. HaveMarks k q.taken) (sym at.stage) (marks_more r.place.stage r.taken q.taken (omega (arith, at.taken, small)) s.have_marks);
      is_place = omega (arith, ap length at.held, ap length none, at.taken, at.start, s.is_place, length-append bytes piece, long, small);
    }

string_cut : (r q : Decoder) (bytes put piece : List ℕ) (left size count : ℕ) → IsAt r q count → q.place.text ≡ text_behind count r.place.text → Stays r bytes put → r.place.text ≡ texts.Bytes left size → length piece ≡ count → count < left → place_of r + count < 2 ^ 63
    → Stays q (bytes ++ piece) (put ++ flat_map shown_byte piece)
string_cut r q bytes put piece left size count at now s is long lt small =
    let ms = (dataset_of r).members in
    let has = string_held r bytes put left size s is in
    let cut : q.place.text ≡ texts.Bytes (left - count) size = now ∙ ap (text_behind count) is ∙ text_cut count left size lt in
    let wants : wants_left ms q.place ≡ a_text size ∷ a_padding size ∷ later ms r.place =
    string_first ms q.place (left - count) size cut ∙ ap (λ l. a_text size ∷ a_padding size ∷ l) (same_later ms r.place q.place at.path at.stage) in
    string_stays r q bytes put piece (s.own ++ piece) count at s has.0 long small
    (subst (λ l. Spelled (dataset_of r) (bytes ++ piece) (put ++ flat_map shown_byte piece) l (s.own ++ piece)) (sym wants) (string_spelled r bytes put piece left size s is))
    (subst (λ t. IsHeld t (wants_left ms q.place) [] (s.own ++ piece)) (sym cut) (refl, omega (arith, has.1, length-append s.own piece, long, lt)))

string_whole : (r q : Decoder) (bytes put piece : List ℕ) (left size count : ℕ) → IsAt r q count → q.place.text ≡ text_behind count r.place.text → Stays r bytes put → r.place.text ≡ texts.Bytes left size → length piece ≡ count → count ≡ left → place_of r + count < 2 ^ 63
    → Stays q (bytes ++ piece) (put ++ flat_map shown_byte piece)
string_whole r q bytes put piece left size count at now s is long all small =
    let ms = (dataset_of r).members in
    let has = string_held r bytes put left size s is in
    let whole : q.place.text ≡ texts.Padding size = now ∙ ap (text_behind count) is ∙ text_whole count left size (omega (arith, all)) in
    let wants : wants_left ms q.place ≡ a_padding size ∷ later ms r.place =
    padding_first ms q.place size whole ∙ ap (λ l. a_padding size ∷ l) (same_later ms r.place q.place at.path at.stage) in
    string_stays r q bytes put piece [] count at s has.0 long small
    (subst (λ l. Spelled (dataset_of r) (bytes ++ piece) (put ++ flat_map shown_byte piece) l []) (sym wants)
    (spelled_whole (dataset_of r) (bytes ++ piece) (put ++ flat_map shown_byte piece) size (a_padding size ∷ later ms r.place) (s.own ++ piece) (string_spelled r bytes put piece left size s is) (omega (arith, has.1, length-append s.own piece, long, all))))
    (subst (λ t. IsHeld t (wants_left ms q.place) [] []) (sym whole) (refl, omega arith))

either_way : (a b : ℕ) → a ≤ b → (a < b) ⊎ (a ≡ b)
either_way a b le = ⊎_elim (λ lt. inl lt) (λ ge. inr (omega (arith, le, ge))) (total a b)
  where
    total : (a b : ℕ) → (a < b) ⊎ (b ≤ a)
    total a zero = inr (omega arith)
    total zero (suc b) = inl (omega arith)
    total (suc a) (suc b) = ⊎_elim (λ lt. inl (omega (arith, lt))) (λ ge. inr (omega (arith, ge))) (total a b)

pub stays_string : (r q : Decoder) (bytes put piece : List ℕ) (left size count : ℕ) → IsAt r q count → q.place.text ≡ text_behind count r.place.text → Stays r bytes put → r.place.text ≡ texts.Bytes left size → length piece ≡ count → count ≤ left → place_of r + count < 2 ^ 63
    → Stays q (bytes ++ piece) (put ++ flat_map shown_byte piece)
stays_string r q bytes put piece left size count at now s is long le small =
    ⊎_elim (λ lt. string_cut r q bytes put piece left size count at now s is long lt small) (λ all. string_whole r q bytes put piece left size count at now s is long all small) (either_way count left le)

-- and it is not whole
pub string_reads : (q : Decoder) (bytes put : List ℕ) (left size : ℕ) → Stays q bytes put → q.place.text ≡ texts.Bytes left size → 0 < left → place_of q < 2 ^ 64 → Reads q bytes put
string_reads q bytes put left size s is some small =
    let ms = (dataset_of q).members in
    let has = string_held q bytes put left size s is in
    stays_reads q bytes put s (subst (λ l. IsOwn q.place l q.held.items s.own) (sym (string_first ms q.place left size is))
    (has.0, omega (arith, has.1, some), subst (λ t. IsCutText t s.own) (sym is) (some, has.1))) small

pub string_some : (ms : Members) (p : Place) (left size : ℕ) → p.text ≡ texts.Bytes left size → IsSome (wants_left ms p)
string_some ms p left size is = (a_text size, a_padding size ∷ later ms p, string_first ms p left size is)

-- a turn at a field: the piece ends within it
pub turn_short : (r q : Decoder) (bytes put rest : List ℕ) (a : Ask) (w : Want) (ws : List Want) → dataset_of q ≡ dataset_of r → start_of q ≡ start_of r → q.place ≡ r.place → q.taken ≡ r.taken
    → (width_of a ≤ 8 → length r.held.items ≤ width_of a → q.held.items ≡ r.held.items ++ rest) → (width_of a ≤ 8 → length r.held.items ≤ width_of a → length q.held.items < width_of a)
    → Stays r bytes put → wants_left (dataset_of r).members r.place ≡ w ∷ ws → Asks a w → place_of r + length rest < 2 ^ 63 → Reads q (bytes ++ rest) (put ++ []) × IsSome (wants_left (dataset_of q).members q.place)
turn_short r q bytes put rest a w ws same start place taken part short s first asks small =
    let d = dataset_of r in
    let own = held_own d.members r.place a w ws r.held.items s.own first asks s.is_held in
    let fits : length r.held.items ≤ width_of a = omega (arith, ap length own.0, own.1, asks_room a w asks) in
    let more = part (asks_small a w asks) fits in
    let less = short (asks_small a w asks) fits in
    let st = stays_held r q bytes put rest a w ws same start place taken more (omega (arith, less)) s first asks in
    let first' : wants_left (dataset_of q).members q.place ≡ w ∷ ws = subst (λ e. wants_left e.members q.place ≡ w ∷ ws) (sym same) (subst (λ p. wants_left d.members p ≡ w ∷ ws) (sym place) first) in
    let read = held_reads q (bytes ++ rest) put a w ws st first' asks less (omega (arith, taken, ap length more, length-append r.held.items rest, small)) in
    (subst (Reads q (bytes ++ rest)) (sym (append-nil put)) read, (w, ws, first'))

-- and the field is whole
pub turn_held : (r q : Decoder) (bytes put rest : List ℕ) (n : ℕ) (a : Ask) (w : Want) (ws : List Want) → dataset_of q ≡ dataset_of r → start_of q ≡ start_of r → q.place ≡ r.place → q.taken ≡ r.taken
    → n ≤ length rest → length r.held.items + n ≡ width_of a → q.held.items ≡ r.held.items ++ take n rest → Stays r bytes put → wants_left (dataset_of r).members r.place ≡ w ∷ ws → Asks a w
    → Stays q (bytes ++ take n rest) put × (length q.held.items ≡ width_of a)
turn_held r q bytes put rest n a w ws same start place taken le wide more s first asks =
    let long : length q.held.items ≡ width_of a = omega (arith, ap length more, length-append r.held.items (take n rest), length-take n rest, le, wide) in
    (stays_held r q bytes put (take n rest) a w ws same start place taken more (omega (arith, long)) s first asks, long)

-- and bad
pub turn_bad : (m : Decoder) (bytes put rest : List ℕ) (n : ℕ) (a : Ask) (w : Want) (ws : List Want) (kind : Bad) → Stays m (bytes ++ take n rest) put → wants_left (dataset_of m).members m.place ≡ w ∷ ws → Asks a w → length m.held.items ≡ width_of a → IsFaulty w m.held.items kind
    → IsStopped m (record { kind = kind; place = m.taken }) (bytes ++ rest) (put ++ [])
turn_bad m bytes put rest n a w ws kind s first asks whole faulty =
    let bad : BadField = record { kind = kind; place = m.taken } in
    subst (λ l. IsStopped m bad l (put ++ [])) (append_assoc bytes (take n rest) (drop n rest) ∙ ap (λ l. bytes ++ l) (take-append-drop n rest))
    (subst (IsStopped m bad ((bytes ++ take n rest) ++ drop n rest)) (sym (append-nil put)) (stops m (bytes ++ take n rest) put (drop n rest) a w ws kind s first asks whole faulty))

pub turns_failed : (r : Result Turn Failed) (before now : Option (List ℕ)) (held left : List ℕ) (q : Decoder) (rest bytes put gained : List ℕ) → IsErr r → IsBroken (dataset_of q) rest bytes (put ++ gained) → PassesFront before held now gained
    → Turns before held now left q rest bytes put r
turns_failed (Ok t) before now held left q rest bytes put gained failed broken passes = cc failed
turns_failed (Err e) before now held left q rest bytes put gained failed broken passes = record { gained = gained; is_left = broken; puts = passes }

pub weight_falls : (q p h h' n : ℕ) → q < p + 6 * min 1 h' → h' ≡ h + n → q < (p + 6 * min 1 h) + 6 * n
weight_falls q p h h' n lt is = omega (arith, lt, is)

pub asked_want : (a : Ask) (ws : List Want) → AsksFirst a ws → (w : Want) × (vs : List Want) × (ws ≡ w ∷ vs) × Asks a w
asked_want a [] asks = absurd asks
asked_want a (w ∷ vs) asks = (w, vs, refl, asks)
