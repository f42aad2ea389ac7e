-- What stands behind a piece of the values, by what the decoder says of it.
use Rattle.std.proofs.Common.{◌≡◌, ℕ, ◌+◌, ◌-◌, ◌<◌, ◌≤◌, true, List, [], ◌∷◌, ◌++◌, length, take, drop, Option, refl, sym, ap, subst, ◌∙◌, append_assoc, append-nil, length-append, length-drop, inl, inr, ◌⊎◌, ⊎_elim, arith}
use Rattle.std.proofs.KnownBytes.{Appends-nil, Appends-trans}
use Rattle.std.proofs.Math.Seq.{take-append-add, take-append_seam}
use Rattle.std.proofs.lemmas.List.{length-take-le, take-append-drop, take_all}
use Rattle.std.specs.Io.KnownBytes.{Appends}
use Rattle.xdr_fields.proofs.Growing.{prefix_behind}
use Rattle.dap_types.specs.Model.{Dataset, Tree}
use Rattle.dap_model.proofs.OneVerdict.{bad_not_open, ended_not_bad, one_bad}
use Rattle.dap_model.specs.Body.{IsHead}
use Rattle.dap_model.specs.Dds.{dds}
use Rattle.dap_model.specs.Partly.{MayShowPart}
use Rattle.dap_model.specs.Received.{ValuesEndAt, Fault, bad_count, bad_word, bad_padding, wrong_mark, IsBadField, IsCut, IsFront, IsOpen, IsPrefix, MayShow}
use Rattle.dap_model.specs.Xdr.{Field, Spells, SpellsFields, fields_all}
use Rattle.xdr_decode.specs.After as decoding
use Rattle.xdr_decode.specs.Shown.{HasGood, ShowsFront, ShowsSome}
use Rattle.xdr_decode.specs.Verdict.{HasHeadOf, HasMore, IsWrong, kind_of}
use Rattle.reply_faults.specs.declared.bad.Bad.TheVariants.{Trailing}
use Rattle.reply_faults.specs.declared.bad.BadField.{BadField}
use Rattle.xdr_decode.specs.declared.decoder.Decoder.{Decoder}
use Rattle.xdr_decode.specs.declared.decoder.State.TheVariants as state
use Rattle.dap_client.specs.Shows.{StopsWithin}
use Rattle.dap_client.specs.Verdict.{is_fault}
use Rattle.error_word.specs.inner.FirstWords.{IsNoError}
use Rattle.dap_client.specs.inner.Stages.{HasValues, IsInValues, IsDataRefused, IsStage, Moves}
use Rattle.dap_client.specs.declared.stage.Stage.{Stage}

-- a good front is not ended, or it is whole
pub front_open : (d : Dataset) (bs whole more : List ℕ) → IsFront d bs whole more → IsOpen d bs ⊎ decoding.EndsBehind d bs (length bs)
front_open d bs whole more f = by f.rest f.in_order f.cut
  where
    by : (rest : List Field) → fields_all d.members f.trees ≡ f.fields ++ rest → IsCut rest (length f.own) → IsOpen d bs ⊎ decoding.EndsBehind d bs (length bs)
    by [] order cut =
        let none : f.own ≡ [] = no_bytes f.own cut in
        let all : bs ≡ f.front = f.parts ∙ ap (λ l. f.front ++ l) none ∙ append-nil f.front in
        let fields : f.fields ≡ fields_all d.members f.trees = sym (order ∙ append-nil f.fields) in
        inr (
          f.trees,
          (
            omega arith,
            record { fit = f.fit; spelled = subst (λ l. SpellsFields (fields_all d.members f.trees) l) (sym (take_all (length bs) bs (omega arith) ∙ all)) (subst (λ fs. SpellsFields fs f.front) fields f.good) },
          ),
        )
      where
        no_bytes : (l : List ℕ) → length l ≡ 0 → l ≡ []
        no_bytes [] is = refl
        no_bytes (b ∷ l) is = absurd (omega (arith, is))
    by (w ∷ rest) order cut =
        inl (record { front = f.front; own = f.own; fields = f.fields; wanted = w; parts = f.parts; good = f.good; may_follow = (f.trees, rest, f.fit, order); cut = cut })

-- what is bad stays bad
pub bad_more : (d : Dataset) (bs more : List ℕ) (fault : Fault) (place : ℕ) → IsBadField d bs fault place → IsBadField d (bs ++ more) fault place
bad_more d bs more fault place b = record {
  front = b.front;
  own = b.own;
  rest = b.rest ++ more;
  fields = b.fields;
  wanted = b.wanted;
  parts = ap (λ l. l ++ more) b.parts ∙ append_assoc (b.front ++ b.own) b.rest more;
  good = b.good;
  may_follow = b.may_follow;
  whole = b.whole;
  bad = b.bad;
  is_fault = b.is_fault;
  is_place = b.is_place;
}

pub trailing_more : (d : Dataset) (bs more : List ℕ) (n : ℕ) → HasMore d bs n → HasMore d (bs ++ more) n
trailing_more d bs more n m = record {
  trees = m.trees;
  whole = m.whole;
  next = m.next;
  rest = m.rest ++ more;
  parts = ap (λ l. l ++ more) m.parts ∙ append_assoc m.whole (m.next ∷ m.rest) more;
  spelled = m.spelled;
  is_place = m.is_place;
}

pub more_at : (d : Dataset) (bs : List ℕ) (n : ℕ) (ts : List Tree) → ValuesEndAt d ts bs n → n < length bs → HasMore d bs n
more_at d bs n ts at less = by (drop n bs) (take-append-drop n bs) (length-drop n bs)
  where
    by : (rest : List ℕ) → take n bs ++ rest ≡ bs → length rest ≡ length bs - n → HasMore d bs n
    by [] is long = absurd (omega (arith, long, less))
    by (b ∷ rest) is long = record {
      trees = ts;
      whole = take n bs;
      next = b;
      rest = rest;
      parts = sym is;
      spelled = at.1;
      is_place = omega (arith, long, less, ap length is, length-append (take n bs) (b ∷ rest));
    }

-- the good bytes of values without a bad field are all
pub all_good : (d : Dataset) (bs good : List ℕ) → HasGood d bs good → ((fault : Fault) (place : ℕ) → IsBadField d bs fault place → ⊥) → bs ≡ good
all_good d bs good has none = ⊎_elim (λ empty. has.parts ∙ ap (λ l. good ++ l) empty ∙ append-nil good) (λ bad. absurd (none bad.0 (length good) bad.1)) has.whole

-- and those of values with one stand before it
good_before : (d : Dataset) (bs good whole more : List ℕ) (fault : Fault) (place : ℕ) → HasGood d bs good → IsFront d good whole more → IsBadField d bs fault place → good ≡ take place bs
good_before d bs good whole more fault place has front bad = ⊎_elim
    (λ empty.
    let all : bs ≡ good = has.parts ∙ ap (λ l. good ++ l) empty ∙ append-nil good in
    let here : IsBadField d good fault place = subst (λ l. IsBadField d l fault place) all bad in
    absurd (⊎_elim (λ o. bad_not_open d good fault place here o) (λ e. ended_not_bad d e.0 good (length good) fault place e.1 here) (front_open d good whole more front)))
    (λ found.
    let places = (one_bad d bs found.0 fault (length good) place found.1 bad).1 in
    sym (take-append_seam good has.rest) ∙ ap (take (length good)) (sym has.parts) ∙ ap (λ n. take n bs) places)
    has.whole

-- ---- what may be shown
lines_within : (text whole more lines : List ℕ) → IsPrefix lines (whole ++ more) → IsPrefix (text ++ lines) (text ++ whole ++ more)
lines_within text whole more lines (rest, is) = (rest, append_assoc text whole more ∙ ap (λ l. text ++ l) is ∙ sym (append_assoc text lines rest))

pub may_show : (d : Dataset) (bytes head good whole more lines put : List ℕ) → bytes ≡ head ++ good → IsHead head d → IsFront d good whole more → IsPrefix whole lines → IsPrefix lines (whole ++ more) → put ≡ dds d ++ lines → MayShow bytes put
may_show d bytes head good whole more lines put parts is_head front begins within is_put = record {
  head = head;
  dataset = d;
  values = good;
  whole = whole;
  more = more;
  parts = parts;
  is_head = is_head;
  is_front = front;
  begins = subst (IsPrefix (dds d ++ whole)) (sym is_put) (prefix_behind (dds d) whole lines begins);
  within = subst (λ l. IsPrefix l (dds d ++ whole ++ more)) (sym is_put) (lines_within (dds d) whole more lines within);
}

pub may_show_part : (d : Dataset) (bytes head good whole more lines put : List ℕ) → bytes ≡ head ++ good → IsHead head d → IsFront d good whole more → IsPrefix lines (whole ++ more) → put ≡ dds d ++ lines → MayShowPart bytes put
may_show_part d bytes head good whole more lines put parts is_head front within is_put = record {
  head = head;
  dataset = d;
  values = good;
  whole = whole;
  more = more;
  parts = parts;
  is_head = is_head;
  is_front = front;
  within = subst (λ l. IsPrefix l (dds d ++ whole ++ more)) (sym is_put) (lines_within (dds d) whole more lines within);
}

-- ---- with a piece behind them
pub piece_head : (d : Dataset) (bytes piece head values : List ℕ) → HasHeadOf bytes d head values → HasHeadOf (bytes ++ piece) d head (values ++ piece)
piece_head d bytes piece head values (h, is) = (h, ap (λ l. l ++ piece) is ∙ append_assoc head values piece)

-- what is wrong with the values is wrong with the bytes, and stays so
refused_at : (d : Dataset) (bytes head values lines put good whole more : List ℕ) (field : BadField) (place : ℕ) → HasHeadOf bytes d head values → IsNoError bytes
    → ((further : List ℕ) → IsWrong d (values ++ further) field.kind place) → is_fault field.kind ≡ true → field.place ≡ length head + place
    → good ≡ take place values → IsFront d good whole more → IsPrefix whole lines → IsPrefix lines (whole ++ more) → put ≡ dds d ++ lines → IsDataRefused field bytes put
refused_at d bytes head values lines put good whole more field place (h, is) none wrong fault place_is good_is front begins within is_put =
    let parts : take field.place bytes ≡ head ++ good =
    ap (λ n. take n bytes) place_is ∙ ap (take (length head + place)) is ∙ take-append-add head values place ∙ ap (λ l. head ++ l) (sym good_is) in
    record {
      stays = λ further. inr (none further, inr (inr (inr (d, head, values ++ further, place, piece_head d bytes further head values (h, is), wrong further, place_is))));
      is_fault = fault;
      shows = inl (may_show d (take field.place bytes) head good whole more lines put parts h front begins within is_put);
    }

kind_faulty : (fault : Fault) → is_fault (kind_of fault) ≡ true
kind_faulty bad_count = refl
kind_faulty bad_word = refl
kind_faulty bad_padding = refl
kind_faulty wrong_mark = refl

-- the decoder met a bad field
pub values_refused : (d : Dataset) (bytes head values lines put : List ℕ) (start : ℕ) (field : BadField) → HasHeadOf bytes d head values → IsNoError bytes → start ≡ length head
    → decoding.IsFirstBad d start values field → ShowsFront d values lines → put ≡ dds d ++ lines → IsDataRefused field bytes put
values_refused d bytes head values lines put start field has none starts (fault, place, bad, is) shows is_put =
    subst (λ f. IsDataRefused f bytes put) (sym is)
    (refused_at d bytes head values lines put shows.good shows.whole shows.more (record { kind = kind_of fault; place = start + place }) place has none
    (λ further. inl (fault, bad_more d values further fault place bad, refl)) (kind_faulty fault) (ap (λ n. n + place) starts)
    (good_before d values shows.good shows.whole shows.more fault place shows.has_good shows.is_front bad) shows.is_front shows.begins shows.within is_put)

-- further bytes follow the values, which ended at a place
pub values_trailing : (d : Dataset) (bytes head values lines put : List ℕ) (place n : ℕ) → HasHeadOf bytes d head values → IsNoError bytes
    → decoding.EndsBehind d values n → n < length values → place ≡ length head + n → ShowsFront d (take n values) lines → put ≡ dds d ++ lines → IsDataRefused (record { kind = Trailing; place = place }) bytes put
values_trailing d bytes head values lines put place n has none (ts, at) less place_is shows is_put =
    let here : ValuesEndAt d ts (take n values) n = (omega (arith, at.0, long_take), subst (Spells d ts) (sym (take_all n (take n values) (omega (arith, long_take)))) at.1) in
    refused_at d bytes head values lines put shows.good shows.whole shows.more (record { kind = Trailing; place = place }) n has none
    (λ further. inr (inl (trailing_more d values further n (more_at d values n ts at less), refl))) refl place_is
    (sym (all_good d (take n values) shows.good shows.has_good (λ fault p bad. ended_not_bad d ts (take n values) n fault p here bad))) shows.is_front shows.begins shows.within is_put
  where
    long_take : length (take n values) ≡ n
    long_take = length-take-le n values (omega (arith, at.0))

-- nothing is wrong
pub values_on : (decoder : Decoder) (d : Dataset) (bytes head values lines put : List ℕ) → decoding.dataset_of decoder ≡ d → HasHeadOf bytes d head values → decoding.DecoderStandsAfter decoder values lines → decoding.start_of decoder ≡ length head
    → decoding.place_of decoder ≤ length bytes → put ≡ dds d ++ lines → IsOpen d values ⊎ decoding.EndsBehind d values (length values) → ShowsFront d values lines → IsInValues decoder bytes put
values_on decoder d bytes head values lines put same has stands starts room is_put good shows = record {
  begun = record {
    head = head;
    values = values;
    lines = lines;
    has_head = subst (λ e. HasHeadOf bytes e head values) (sym same) has;
    stands = stands;
    starts = starts;
    room = room;
    is_put = is_put ∙ ap (λ e. dds e ++ lines) (sym same);
  };
  good = subst (λ e. IsOpen e values ⊎ decoding.EndsBehind e values (length values)) (sym same) good;
  shows = subst (λ e. ShowsFront e values lines) (sym same) shows;
}

-- the sink failed
pub values_fault : (d : Dataset) (bytes head values lines put : List ℕ) → HasHeadOf bytes d head values → ShowsSome d values lines → put ≡ dds d ++ lines → StopsWithin bytes put
values_fault d bytes head values lines put (h, is) some is_put =
    let part : IsPrefix some.good values = ⊎_elim (λ has. (has.rest, has.parts)) (λ e. let (ts, at, front) = e in front) some.has_good in (
      head ++ some.good,
      part.0,
      is ∙ ap (λ l. head ++ l) part.1 ∙ sym (append_assoc head some.good part.0),
      inl (may_show_part d (head ++ some.good) head some.good some.whole some.more lines put refl h some.is_front some.within is_put),
    )

-- ---- by what a decoder says of a piece
not_failed : (r : Decoder) (bytes put : List ℕ) → decoding.DecoderStandsAfter r bytes put → decoding.HasFailed r → ⊥
unfolding Rattle.xdr_decode.specs.After.DecoderStandsAfter Rattle.xdr_decode.specs.After.HasFailed
not_failed r bytes put stands failed = let none : decoding.Stands r state.Failed bytes put = subst (λ s. decoding.Stands r s bytes put) failed stands in none

pub rose_here : (r : Decoder) (bytes put : List ℕ) (Rises : Type 0) → HasValues r bytes put → decoding.HasFailed r ⊎ Rises → Rises
rose_here r bytes put Rises o cause = ⊎_elim (λ failed. absurd (not_failed r o.values o.lines o.stands failed)) (λ rises. rises) cause

put_more : (decoder : Decoder) (bytes put gained : List ℕ) (o : HasValues decoder bytes put) → put ++ gained ≡ dds (decoding.dataset_of decoder) ++ (o.lines ++ gained)
put_more decoder bytes put gained o = ap (λ l. l ++ gained) o.is_put ∙ append_assoc (dds (decoding.dataset_of decoder)) o.lines gained

room_more : (a b c n k : ℕ) → a ≤ b + k → b ≤ n → c ≡ n + k → a ≤ c
room_more a b c n k one two is = omega (arith, one, two, is)

pub on_piece : (decoder next : Decoder) (bytes piece put gained : List ℕ) (o : HasValues decoder bytes put) → decoding.dataset_of next ≡ decoding.dataset_of decoder → decoding.start_of next ≡ decoding.start_of decoder
    → decoding.place_of next ≤ decoding.place_of decoder + length piece → decoding.DecoderStandsAfter next (o.values ++ piece) (o.lines ++ gained) → ShowsFront (decoding.dataset_of decoder) (o.values ++ piece) (o.lines ++ gained)
    → IsOpen (decoding.dataset_of decoder) (o.values ++ piece) ⊎ decoding.EndsBehind (decoding.dataset_of decoder) (o.values ++ piece) (length (o.values ++ piece)) → IsInValues next (bytes ++ piece) (put ++ gained)
on_piece decoder next bytes piece put gained o same start place stands shows good =
    let d = decoding.dataset_of decoder in
    values_on next d (bytes ++ piece) o.head (o.values ++ piece) (o.lines ++ gained) (put ++ gained) same (piece_head d bytes piece o.head o.values o.has_head) stands (start ∙ o.starts)
    (room_more (decoding.place_of next) (decoding.place_of decoder) (length (bytes ++ piece)) (length bytes) (length piece) place o.room (length-append bytes piece)) (put_more decoder bytes put gained o) good shows

pub on_end : (decoder next : Decoder) (bytes piece put gained : List ℕ) (used : ℕ) (o : HasValues decoder bytes put) → decoding.dataset_of next ≡ decoding.dataset_of decoder → decoding.start_of next ≡ decoding.start_of decoder
    → decoding.place_of next ≤ decoding.place_of decoder + length piece → used ≤ length piece → length piece ≤ used → decoding.EndsBehind (decoding.dataset_of decoder) (o.values ++ piece) (length o.values + used)
    → decoding.DecoderStandsAfter next (o.values ++ take used piece) (o.lines ++ gained) → ShowsFront (decoding.dataset_of decoder) (o.values ++ take used piece) (o.lines ++ gained) → IsInValues next (bytes ++ piece) (put ++ gained)
on_end decoder next bytes piece put gained used o same start place le ge ends stands shows =
    let d = decoding.dataset_of decoder in
    let all : take used piece ≡ piece = take_all used piece ge in
    let long : length o.values + used ≡ length (o.values ++ piece) = omega (arith, le, ge, length-append o.values piece) in
    on_piece decoder next bytes piece put gained o same start place (subst (λ l. decoding.DecoderStandsAfter next (o.values ++ l) (o.lines ++ gained)) all stands) (subst (λ l. ShowsFront d (o.values ++ l) (o.lines ++ gained)) all shows)
    (inr (subst (decoding.EndsBehind d (o.values ++ piece)) long ends))

pub trailing_piece : (decoder : Decoder) (bytes piece put gained : List ℕ) (place used : ℕ) (o : HasValues decoder bytes put) → length bytes ≡ place → IsNoError (bytes ++ piece) → used < length piece
    → decoding.EndsBehind (decoding.dataset_of decoder) (o.values ++ piece) (length o.values + used) → ShowsFront (decoding.dataset_of decoder) (o.values ++ take used piece) (o.lines ++ gained)
    → IsDataRefused (record { kind = Trailing; place = place + used }) (bytes ++ piece) (put ++ gained)
trailing_piece decoder bytes piece put gained place used o long none less ends shows =
    let d = decoding.dataset_of decoder in
    let spot : place + used ≡ length o.head + (length o.values + used) = omega (arith, long, ap length (o.has_head.1), length-append o.head o.values) in
    values_trailing d (bytes ++ piece) o.head (o.values ++ piece) (o.lines ++ gained) (put ++ gained) (place + used) (length o.values + used) (piece_head d bytes piece o.head o.values o.has_head) none ends
    (omega (arith, less, length-append o.values piece)) spot (subst (λ l. ShowsFront d l (o.lines ++ gained)) (sym (take-append-add o.values piece used)) shows) (put_more decoder bytes put gained o)

pub refused_piece : (decoder : Decoder) (bytes piece put gained : List ℕ) (field : BadField) (o : HasValues decoder bytes put) → IsNoError (bytes ++ piece)
    → decoding.IsFirstBad (decoding.dataset_of decoder) (decoding.start_of decoder) (o.values ++ piece) field → ShowsFront (decoding.dataset_of decoder) (o.values ++ piece) (o.lines ++ gained) → IsDataRefused field (bytes ++ piece) (put ++ gained)
refused_piece decoder bytes piece put gained field o none bad shows =
    let d = decoding.dataset_of decoder in
    values_refused d (bytes ++ piece) o.head (o.values ++ piece) (o.lines ++ gained) (put ++ gained) (decoding.start_of decoder) field (piece_head d bytes piece o.head o.values o.has_head) none o.starts bad shows (put_more decoder bytes put gained o)

pub fault_piece : (decoder : Decoder) (bytes piece put gained : List ℕ) (o : HasValues decoder bytes put) → ShowsSome (decoding.dataset_of decoder) (o.values ++ piece) (o.lines ++ gained) → StopsWithin (bytes ++ piece) (put ++ gained)
fault_piece decoder bytes piece put gained o some =
    let d = decoding.dataset_of decoder in
    values_fault d (bytes ++ piece) o.head (o.values ++ piece) (o.lines ++ gained) (put ++ gained) (piece_head d bytes piece o.head o.values o.has_head) some (put_more decoder bytes put gained o)

-- ---- before the first piece
pub first_values : (decoder : Decoder) (d : Dataset) (bytes put : List ℕ) (place : ℕ) → decoding.dataset_of decoder ≡ d → decoding.DecoderStandsAfter decoder [] [] → decoding.start_of decoder ≡ place → decoding.place_of decoder ≡ place
    → length bytes ≡ place → IsHead bytes d → put ≡ dds d → HasValues decoder bytes put
first_values decoder d bytes put place same stands start at long h is_put = record {
  head = bytes;
  values = [];
  lines = [];
  has_head = subst (λ e. HasHeadOf bytes e bytes []) (sym same) (h, sym (append-nil bytes));
  stands = stands;
  starts = start ∙ sym long;
  room = same_at (decoding.place_of decoder) place (length bytes) at long;
  is_put = is_put ∙ ap dds (sym same) ∙ sym (append-nil (dds (decoding.dataset_of decoder)));
}
  where
    same_at : (a b c : ℕ) → a ≡ b → c ≡ b → a ≤ c
    same_at a b c one two = omega (arith, one, two)

-- a text was put before
pub moves_on : (before between now : Option (List ℕ)) (first bytes : List ℕ) (s : Stage) → Appends before between first → Moves between now bytes first s → Moves before now bytes [] s
moves_on before between now first bytes s one (text, two, stage) = (first ++ text, Appends-trans before between now first text one two, stage)

pub moves_none : (at : Option (List ℕ)) (bytes : List ℕ) (s : Stage) → IsStage s bytes [] → Moves at at bytes [] s
moves_none at bytes s stage = ([], Appends-nil at, stage)

-- ---- a piece in two parts
pub seam : (bytes piece : List ℕ) (used : ℕ) → (bytes ++ take used piece) ++ drop used piece ≡ bytes ++ piece
seam bytes piece used = append_assoc bytes (take used piece) (drop used piece) ∙ ap (λ l. bytes ++ l) (take-append-drop used piece)

pub taken_front : (bytes piece : List ℕ) (place used : ℕ) → length bytes ≡ place → used ≤ length piece → length (bytes ++ take used piece) ≡ place + used
taken_front bytes piece place used long le = omega (arith, long, length-append bytes (take used piece), length-take-le used piece le)

-- the second part of a piece, as a slice of it is written
pub slice_rest : (piece : List ℕ) (used : ℕ) → used ≤ length piece → take (length piece - used) (drop used piece) ≡ drop used piece
slice_rest piece used le = take_all (length piece - used) (drop used piece) (omega (arith, le, length-drop used piece))

pub slice_small : (piece : List ℕ) (place used most : ℕ) → used ≤ length piece → place + length piece < most → place + used + length (take (length piece - used) (drop used piece)) < most
slice_small piece place used most le small = omega (arith, le, small, ap length (slice_rest piece used le), length-drop used piece)
