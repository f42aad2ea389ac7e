use Rattle.std.proofs.Common.{◌≡◌, ◌<◌, ◌^◌, ◌++◌, ◌+◌, ◌-◌, ℕ, Bool, List, [], Some, take, length, refl, sym, subst, ap, ◌∙◌, arith, append_assoc, append-nil, length-take}
use Rattle.std.proofs.KnownBytes.{Appends-nil, Appends-trans, Consumes-nil, Consumes-trans}
use Rattle.dap_http.specs.Delivered.{HasCome, IsBrokenBody, IsWholeBody}
use Rattle.dap_http.specs.Following.{Follows, IsInTime, body_coding, part_of, waiting}
use Rattle.dap_http.specs.declared.body_parts.Arrived.TheVariants.{Part, ReadFault as SourceFault}
use Rattle.dap_http.specs.declared.body_parts.BodyParts.{BodyParts}
use Rattle.dap_http.specs.declared.coding.Coding.{Coding}
use Rattle.dap_client.specs.After.{IsBrokenOff, IsFinished, IsPushed, BodyStandsAfter, form_in}
use Rattle.dap_client.specs.Replies.{Spoils, form_of}
use Rattle.dap_client.specs.Verdict.{Form}
use Rattle.dap_client.specs.inner.Behind.{TellsBehind}
use Rattle.dap_client.specs.declared.outcome.Outcome.{Outcome}
use Rattle.dap_client.specs.declared.outcome.Outcome.TheVariants.{ReadFault, WriteFault}
use Rattle.dap_client.proofs.Behind.{counted, part-room}
use Rattle.dap_client.proofs.GoesOn.{body-goes-on}
use Rattle.dap_client.proofs.InTime.{part-in-time, stops-in-time, time-as, time-on}
use Rattle.dap_client.proofs.Telling.{broken-told, end-told, no-read-fault, part-told, rose-same, whole-piece}
use Rattle.dap_client.proofs.Wrapped.{some_same}
use Rattle.dap_client.proofs.reply.read_parts.Goals as goal

part-no-fault : Part ≡ SourceFault → ⊥
part-no-fault e = cc e

pub loop-reader-init : goal.loop-reader-init
loop-reader-init g c = record {
  moved = ([], [], [], Consumes-nil _, Appends-nil _, λ bytes f. subst (λ (t : List ℕ). Follows c.args.parts.now t []) (sym (append-nil bytes)) f, λ bytes f t. subst (λ (l : List ℕ). IsInTime (body_coding c.args.parts.now) l []) (sym (append-nil bytes)) t, c.requires.stands);
  short = omega (arith, c.requires.new);
  kind = refl;
  coding = refl;
  reading = refl;
  writing = refl;
  stays = λ e. e;
  whole = refl;
  beside_reading = refl;
  beside_writing = refl;
}

pub next-requires : goal.next-requires
next-requires g c =
    let (bytes, first) = c.requires.follows in
    let (taken, text, body, before, put, on, kept, stands) = c.loop-reader.invariant.moved in
    (bytes ++ taken, body, on bytes first, omega (arith, (counted c.loop-reader.reader body text stands).0, c.loop-reader.invariant.short))

pub push-requires-clause-stands : goal.push-requires-clause-stands
push-requires-clause-stands g c = let (t, x, body, before, put, on, kept, stands) = c.loop-reader.invariant.moved in (body, x, stands)

pub finish-requires : goal.finish-requires
finish-requires g c = let (t, x, body, before, put, on, kept, stands) = c.loop-reader.invariant.moved in (body, x, stands)

pub break_off-requires : goal.break_off-requires
break_off-requires g c = let (t, x, body, before, put, on, kept, stands) = c.loop-reader.invariant.moved in (body, x, stands)

pub push-requires-clause-within : goal.push-requires-clause-within
push-requires-clause-within g c =
    omega (arith, ap length c.looked_at-part.ensures, length-take (2 ^ 40 - c.loop-reader.reader.taken) c.part.result.now, c.loop-reader.invariant.short)

pub push-requires-clause-few : goal.push-requires-clause-few
push-requires-clause-few g c =
    omega (arith, ap length c.looked_at-part.ensures, length-take (2 ^ 40 - c.loop-reader.reader.taken) c.part.result.now, ap length c.part.ensures, part-room c.next.new.self)

-- what is told, by the coding and the kind at the start
as-begun : (form other : Form) (c d : Coding) (p : BodyParts) (bytes text : List ℕ) (ended : Bool) (outcome : Outcome) → form ≡ other → c ≡ d → TellsBehind form c bytes ended p text outcome → TellsBehind other d bytes ended p text outcome
as-begun form other c d p bytes text ended outcome is same told =
    subst (λ (f : Form). TellsBehind f d bytes ended p text outcome) is (subst (λ (e : Coding). TellsBehind form e bytes ended p text outcome) same told)

pub returns-in-Some-clause-tells : goal.returns-in-Some-clause-tells
returns-in-Some-clause-tells g c =
    let (t, x, body, before, put, on, kept, stands) = c.loop-reader.invariant.moved in
    let (u, after, gives, times) = c.in-Part.ensures.arrives in
    let (y, gained, pushed) = c.in-Some.ensures.pushed body x stands in
    let (count, small) = counted c.loop-reader.reader body x stands in
    let piece : c.looked_at-part.result.now ≡ take (2 ^ 40 - length body) (part_of c.next.new.self) =
    c.looked_at-part.ensures ∙ ap (λ n. take (2 ^ 40 - n) c.part.result.now) count ∙ ap (take (2 ^ 40 - length body)) c.part.ensures in
    let form = form_in c.loop-reader.reader in
    let good : ¬ (Spoils (form_in c.args.reader) body) = subst (λ (f : Form). ¬ (Spoils f body)) (ap form_of c.loop-reader.invariant.kind) (body-goes-on c.loop-reader.reader body x stands) in
    let here : IsPushed c.push.new.self form body (body ++ take (2 ^ 40 - length body) (part_of c.next.new.self)) (x ++ y) (Some c.in-Some.outcome) =
    subst (λ (l : List ℕ). IsPushed c.push.new.self form body (body ++ l) (x ++ y) (Some c.in-Some.outcome)) piece pushed in (
      t ++ u,
      x ++ y,
      Consumes-trans _ _ _ t u before after,
      Appends-trans _ _ _ x y put gained,
      λ bytes first begun.
          let time = time-on (body_coding c.args.parts.now) (body_coding c.loop-reader.parts) bytes t u body c.loop-reader.invariant.coding (times (bytes ++ t) body (on bytes first)) (kept bytes first begun) in
          let follows : Follows c.next.new.self (bytes ++ (t ++ u)) (body ++ part_of c.next.new.self) =
          subst (λ (l : List ℕ). Follows c.next.new.self l (body ++ part_of c.next.new.self)) (append_assoc bytes t u) (gives (bytes ++ t) body (on bytes first)).1 in (
            as-begun form (form_in c.args.reader) (body_coding c.next.new.self) (body_coding c.args.parts.now) c.next.new.self (bytes ++ (t ++ u)) (x ++ y) (g.I.Source.ended c.next.new.source) c.in-Some.outcome
                (ap form_of c.loop-reader.invariant.kind) (c.next.ensures.coding ∙ c.loop-reader.invariant.coding)
                (part-told form c.next.new.self c.push.new.self (bytes ++ (t ++ u)) body (x ++ y) (g.I.Source.ended c.next.new.source) c.in-Some.outcome follows small (time-as _ _ _ body (sym (c.next.ensures.coding ∙ c.loop-reader.invariant.coding)) time) here),
            stops-in-time (form_in c.args.reader) (body_coding c.args.parts.now) (bytes ++ (t ++ u)) body time good,
          ),
    )

pub returns-in-Some-clause-read_fault : goal.returns-in-Some-clause-read_fault
returns-in-Some-clause-read_fault g c = λ e.
    let (t, x, body, before, put, on, kept, stands) = c.loop-reader.invariant.moved in
    let (y, gained, pushed) = c.in-Some.ensures.pushed body x stands in
    absurd (no-read-fault c.push.new.self (form_in c.loop-reader.reader) body (body ++ c.looked_at-part.result.now) (x ++ y) c.in-Some.outcome pushed e)

pub returns-in-Some-clause-write_fault : goal.returns-in-Some-clause-write_fault
returns-in-Some-clause-write_fault g c = λ e. rose-same _ _ _ c.loop-reader.invariant.writing (c.in-Some.ensures.fault (ap Some e))

pub returns-in-End-clause-tells : goal.returns-in-End-clause-tells
returns-in-End-clause-tells g c =
    let (t, x, body, before, put, on, kept, stands) = c.loop-reader.invariant.moved in
    let (u, after, gives, times) = c.in-End.ensures.arrives in
    let (y, gained, finished) = c.finish.ensures.finished body x stands in
    let (count, small) = counted c.loop-reader.reader body x stands in
    let form = form_in c.loop-reader.reader in
    let good : ¬ (Spoils (form_in c.args.reader) body) = subst (λ (f : Form). ¬ (Spoils f body)) (ap form_of c.loop-reader.invariant.kind) (body-goes-on c.loop-reader.reader body x stands) in (
      t ++ u,
      x ++ y,
      Consumes-trans _ _ _ t u before after,
      Appends-trans _ _ _ x y put gained,
      λ bytes first begun.
          let time = time-on (body_coding c.args.parts.now) (body_coding c.loop-reader.parts) bytes t u body c.loop-reader.invariant.coding (times (bytes ++ t) body (on bytes first)) (kept bytes first begun) in
          let whole : IsWholeBody (body_coding c.next.new.self) (bytes ++ (t ++ u)) (g.I.Source.ended c.next.new.source) body (waiting c.next.new.self) =
          subst (λ (l : List ℕ). IsWholeBody (body_coding c.next.new.self) l (g.I.Source.ended c.next.new.source) body (waiting c.next.new.self)) (append_assoc bytes t u) (gives (bytes ++ t) body (on bytes first)) in (
            as-begun form (form_in c.args.reader) (body_coding c.next.new.self) (body_coding c.args.parts.now) c.next.new.self (bytes ++ (t ++ u)) (x ++ y) (g.I.Source.ended c.next.new.source) c.finish.result
                (ap form_of c.loop-reader.invariant.kind) (c.next.ensures.coding ∙ c.loop-reader.invariant.coding)
                (end-told form c.next.new.self (bytes ++ (t ++ u)) body (x ++ y) (g.I.Source.ended c.next.new.source) c.finish.result whole small (time-as _ _ _ body (sym (c.next.ensures.coding ∙ c.loop-reader.invariant.coding)) time) finished),
            stops-in-time (form_in c.args.reader) (body_coding c.args.parts.now) (bytes ++ (t ++ u)) body time good,
          ),
    )

pub returns-in-Refused-clause-tells : goal.returns-in-Refused-clause-tells
returns-in-Refused-clause-tells g c =
    let (t, x, body, before, put, on, kept, stands) = c.loop-reader.invariant.moved in
    let (u, after, gives, times) = c.in-Refused.ensures.arrives in
    let form = form_in c.loop-reader.reader in
    let good : ¬ (Spoils (form_in c.args.reader) body) = subst (λ (f : Form). ¬ (Spoils f body)) (ap form_of c.loop-reader.invariant.kind) (body-goes-on c.loop-reader.reader body x stands) in (
      t ++ u,
      x,
      Consumes-trans _ _ _ t u before after,
      put,
      λ bytes first begun.
          let time = time-on (body_coding c.args.parts.now) (body_coding c.loop-reader.parts) bytes t u body c.loop-reader.invariant.coding (times (bytes ++ t) body (on bytes first)) (kept bytes first begun) in
          let broken : IsBrokenBody (body_coding c.next.new.self) (bytes ++ (t ++ u)) (g.I.Source.ended c.next.new.source) body c.in-Refused.wrong =
          subst (λ (l : List ℕ). IsBrokenBody (body_coding c.next.new.self) l (g.I.Source.ended c.next.new.source) body c.in-Refused.wrong) (append_assoc bytes t u) (gives (bytes ++ t) body (on bytes first)) in (
            as-begun form (form_in c.args.reader) (body_coding c.next.new.self) (body_coding c.args.parts.now) c.next.new.self (bytes ++ (t ++ u)) x (g.I.Source.ended c.next.new.source) c.break_off.result
                (ap form_of c.loop-reader.invariant.kind) (c.next.ensures.coding ∙ c.loop-reader.invariant.coding)
                (broken-told form c.next.new.self (bytes ++ (t ++ u)) body x (g.I.Source.ended c.next.new.source) c.in-Refused.wrong c.break_off.result broken (time-as _ _ _ body (sym (c.next.ensures.coding ∙ c.loop-reader.invariant.coding)) time) (c.break_off.ensures body x stands)),
            stops-in-time (form_in c.args.reader) (body_coding c.args.parts.now) (bytes ++ (t ++ u)) body time good,
          ),
    )

pub returns-in-ReadFault-clause-tells : goal.returns-in-ReadFault-clause-tells
returns-in-ReadFault-clause-tells g c =
    let (t, x, body, before, put, on, kept, stands) = c.loop-reader.invariant.moved in
    let (u, after, gives, times) = c.in-ReadFault.ensures.arrives in
    let form = form_in c.loop-reader.reader in
    let good : ¬ (Spoils (form_in c.args.reader) body) = subst (λ (f : Form). ¬ (Spoils f body)) (ap form_of c.loop-reader.invariant.kind) (body-goes-on c.loop-reader.reader body x stands) in (
      t ++ u,
      x,
      Consumes-trans _ _ _ t u before after,
      put,
      λ bytes first begun.
          let time = time-on (body_coding c.args.parts.now) (body_coding c.loop-reader.parts) bytes t u body c.loop-reader.invariant.coding (times (bytes ++ t) body (on bytes first)) (kept bytes first begun) in
          let came : HasCome (body_coding c.next.new.self) (bytes ++ (t ++ u)) body = subst (λ (l : List ℕ). HasCome (body_coding c.next.new.self) l body) (append_assoc bytes t u) (gives (bytes ++ t) body (on bytes first)).1 in (
            subst (λ (o : Outcome). TellsBehind (form_in c.args.reader) (body_coding c.args.parts.now) (bytes ++ (t ++ u)) (g.I.Source.ended c.next.new.source) c.next.new.self x o) (sym c.leave.ensures.fault)
                (as-begun form (form_in c.args.reader) (body_coding c.next.new.self) (body_coding c.args.parts.now) c.next.new.self (bytes ++ (t ++ u)) x (g.I.Source.ended c.next.new.source) ReadFault
                (ap form_of c.loop-reader.invariant.kind) (c.next.ensures.coding ∙ c.loop-reader.invariant.coding)
                (body, came, c.leave.ensures.shows body x stands)),
            stops-in-time (form_in c.args.reader) (body_coding c.args.parts.now) (bytes ++ (t ++ u)) body time good,
          ),
    )

pub loop-reader-smaller : goal.loop-reader-smaller
loop-reader-smaller g c =
    let (bytes, first) = c.requires.follows in
    let (t, x, body, before, put, on, kept, stands) = c.loop-reader.invariant.moved in
    let (u, after, gives, times) = c.in-Part.ensures.arrives in
    omega (arith, (gives (bytes ++ t) body (on bytes first)).0, c.push.ensures.taken, ap length c.looked_at-part.ensures, length-take (2 ^ 40 - c.loop-reader.reader.taken) c.part.result.now, ap length c.part.ensures, c.loop-reader.invariant.short)

pub loop-reader-preserved : goal.loop-reader-preserved
loop-reader-preserved g c =
    let (t, x, body, before, put, on, kept, stands) = c.loop-reader.invariant.moved in
    let (u, after, gives, times) = c.in-Part.ensures.arrives in
    let (y, gained, pushed) = c.in_default.ensures.pushed body x stands in
    let n = 2 ^ 40 - c.loop-reader.reader.taken in
    let cut : c.looked_at-part.result.now ≡ take n c.part.result.now = c.looked_at-part.ensures in
    let short : length (take n c.part.result.now) < n = omega (arith, ap length cut, c.in_default.ensures.open refl, c.push.ensures.taken, c.loop-reader.invariant.short) in
    let piece : c.looked_at-part.result.now ≡ part_of c.next.new.self = cut ∙ whole-piece n c.part.result.now short ∙ c.part.ensures in
    record {
      moved = (
        t ++ u,
        x ++ y,
        body ++ part_of c.next.new.self,
        Consumes-trans _ _ _ t u before after,
        Appends-trans _ _ _ x y put gained,
        λ bytes first. subst (λ (l : List ℕ). Follows c.next.new.self l (body ++ part_of c.next.new.self)) (append_assoc bytes t u) (gives (bytes ++ t) body (on bytes first)).1,
        λ bytes first begun.
            part-in-time (body_coding c.args.parts.now) (bytes ++ (t ++ u)) body (part_of c.next.new.self)
            (time-on (body_coding c.args.parts.now) (body_coding c.loop-reader.parts) bytes t u body c.loop-reader.invariant.coding (times (bytes ++ t) body (on bytes first)) (kept bytes first begun)),
        subst (λ (l : List ℕ). BodyStandsAfter c.push.new.self (body ++ l) (x ++ y)) piece pushed,
      );
      short = c.in_default.ensures.open refl;
      kind = c.push.ensures.kind ∙ c.loop-reader.invariant.kind;
      coding = c.next.ensures.coding ∙ c.loop-reader.invariant.coding;
      reading = c.in-Part.ensures.kept part-no-fault ∙ c.loop-reader.invariant.reading;
      writing = c.in_default.ensures.kept (λ e. cc) ∙ c.loop-reader.invariant.writing;
      stays = λ e. c.next.ensures.stays (c.loop-reader.invariant.stays e);
      whole = c.next.ensures.whole ∙ c.loop-reader.invariant.whole;
      beside_reading = c.next.ensures.beside ∙ c.loop-reader.invariant.beside_reading;
      beside_writing = c.push.ensures.beside ∙ c.loop-reader.invariant.beside_writing;
    }

pub returns-in-Some-clause-later_reading : goal.returns-in-Some-clause-later_reading
returns-in-Some-clause-later_reading g c = omega (arith, c.loop-reader.invariant.reading, c.next.ensures.later)

pub returns-in-Some-clause-later_writing : goal.returns-in-Some-clause-later_writing
returns-in-Some-clause-later_writing g c = omega (arith, c.loop-reader.invariant.writing, c.push.ensures.later)

pub returns-in-Some-clause-stays : goal.returns-in-Some-clause-stays
returns-in-Some-clause-stays g c = λ e. c.next.ensures.stays (c.loop-reader.invariant.stays e)

pub returns-in-Some-clause-whole : goal.returns-in-Some-clause-whole
returns-in-Some-clause-whole g c = c.next.ensures.whole ∙ c.loop-reader.invariant.whole

pub returns-in-Some-clause-beside_reading : goal.returns-in-Some-clause-beside_reading
returns-in-Some-clause-beside_reading g c = c.next.ensures.beside ∙ c.loop-reader.invariant.beside_reading

pub returns-in-Some-clause-beside_writing : goal.returns-in-Some-clause-beside_writing
returns-in-Some-clause-beside_writing g c = c.push.ensures.beside ∙ c.loop-reader.invariant.beside_writing

pub returns-in-End-clause-later_reading : goal.returns-in-End-clause-later_reading
returns-in-End-clause-later_reading g c = omega (arith, c.loop-reader.invariant.reading, c.next.ensures.later)

pub returns-in-End-clause-later_writing : goal.returns-in-End-clause-later_writing
returns-in-End-clause-later_writing g c = omega (arith, c.loop-reader.invariant.writing, c.finish.ensures.later)

pub returns-in-End-clause-stays : goal.returns-in-End-clause-stays
returns-in-End-clause-stays g c = λ e. c.next.ensures.stays (c.loop-reader.invariant.stays e)

pub returns-in-End-clause-whole : goal.returns-in-End-clause-whole
returns-in-End-clause-whole g c = c.next.ensures.whole ∙ c.loop-reader.invariant.whole

pub returns-in-End-clause-beside_reading : goal.returns-in-End-clause-beside_reading
returns-in-End-clause-beside_reading g c = c.next.ensures.beside ∙ c.loop-reader.invariant.beside_reading

pub returns-in-End-clause-beside_writing : goal.returns-in-End-clause-beside_writing
returns-in-End-clause-beside_writing g c = c.finish.ensures.beside ∙ c.loop-reader.invariant.beside_writing

pub returns-in-Refused-clause-later_reading : goal.returns-in-Refused-clause-later_reading
returns-in-Refused-clause-later_reading g c = omega (arith, c.loop-reader.invariant.reading, c.next.ensures.later)

pub returns-in-Refused-clause-later_writing : goal.returns-in-Refused-clause-later_writing
returns-in-Refused-clause-later_writing g c = omega (arith, c.loop-reader.invariant.writing)

pub returns-in-Refused-clause-stays : goal.returns-in-Refused-clause-stays
returns-in-Refused-clause-stays g c = λ e. c.next.ensures.stays (c.loop-reader.invariant.stays e)

pub returns-in-Refused-clause-whole : goal.returns-in-Refused-clause-whole
returns-in-Refused-clause-whole g c = c.next.ensures.whole ∙ c.loop-reader.invariant.whole

pub returns-in-Refused-clause-beside_reading : goal.returns-in-Refused-clause-beside_reading
returns-in-Refused-clause-beside_reading g c = c.next.ensures.beside ∙ c.loop-reader.invariant.beside_reading

pub returns-in-Refused-clause-beside_writing : goal.returns-in-Refused-clause-beside_writing
returns-in-Refused-clause-beside_writing g c = c.loop-reader.invariant.beside_writing

pub returns-in-ReadFault-clause-later_reading : goal.returns-in-ReadFault-clause-later_reading
returns-in-ReadFault-clause-later_reading g c = omega (arith, c.loop-reader.invariant.reading, c.next.ensures.later)

pub returns-in-ReadFault-clause-later_writing : goal.returns-in-ReadFault-clause-later_writing
returns-in-ReadFault-clause-later_writing g c = omega (arith, c.loop-reader.invariant.writing)

pub returns-in-ReadFault-clause-stays : goal.returns-in-ReadFault-clause-stays
returns-in-ReadFault-clause-stays g c = λ e. c.next.ensures.stays (c.loop-reader.invariant.stays e)

pub returns-in-ReadFault-clause-whole : goal.returns-in-ReadFault-clause-whole
returns-in-ReadFault-clause-whole g c = c.next.ensures.whole ∙ c.loop-reader.invariant.whole

pub returns-in-ReadFault-clause-beside_reading : goal.returns-in-ReadFault-clause-beside_reading
returns-in-ReadFault-clause-beside_reading g c = c.next.ensures.beside ∙ c.loop-reader.invariant.beside_reading

pub returns-in-ReadFault-clause-beside_writing : goal.returns-in-ReadFault-clause-beside_writing
returns-in-ReadFault-clause-beside_writing g c = c.loop-reader.invariant.beside_writing

pub returns-in-End-clause-read_fault : goal.returns-in-End-clause-read_fault
returns-in-End-clause-read_fault g c = λ e.
    let (t, x, body, before, put, on, kept, stands) = c.loop-reader.invariant.moved in
    let (y, gained, finished) = c.finish.ensures.finished body x stands in
    absurd (subst (λ (o : Outcome). IsFinished (form_in c.loop-reader.reader) body (x ++ y) o) e finished)

pub returns-in-End-clause-write_fault : goal.returns-in-End-clause-write_fault
returns-in-End-clause-write_fault g c = λ e. rose-same _ _ _ c.loop-reader.invariant.writing (c.finish.ensures.fault e)

pub returns-in-Refused-clause-read_fault : goal.returns-in-Refused-clause-read_fault
returns-in-Refused-clause-read_fault g c = λ e.
    let (t, x, body, before, put, on, kept, stands) = c.loop-reader.invariant.moved in
    absurd (subst (λ (o : Outcome). IsBrokenOff (form_in c.loop-reader.reader) body x c.in-Refused.wrong o) e (c.break_off.ensures body x stands))

pub returns-in-Refused-clause-write_fault : goal.returns-in-Refused-clause-write_fault
returns-in-Refused-clause-write_fault g c = λ e.
    let (t, x, body, before, put, on, kept, stands) = c.loop-reader.invariant.moved in
    absurd (subst (λ (o : Outcome). IsBrokenOff (form_in c.loop-reader.reader) body x c.in-Refused.wrong o) e (c.break_off.ensures body x stands))

pub returns-in-ReadFault-clause-read_fault : goal.returns-in-ReadFault-clause-read_fault
returns-in-ReadFault-clause-read_fault g c = λ e. rose-same _ _ _ c.loop-reader.invariant.reading (c.in-ReadFault.ensures.fault refl)

pub returns-in-ReadFault-clause-write_fault : goal.returns-in-ReadFault-clause-write_fault
returns-in-ReadFault-clause-write_fault g c = λ e. let clash : ReadFault ≡ WriteFault = sym c.leave.ensures.fault ∙ e in absurd (cc)

pub returns-in-Some-clause-kept_reading : goal.returns-in-Some-clause-kept_reading
returns-in-Some-clause-kept_reading g c = λ n. c.in-Part.ensures.kept part-no-fault ∙ c.loop-reader.invariant.reading

pub returns-in-Some-clause-kept_writing : goal.returns-in-Some-clause-kept_writing
returns-in-Some-clause-kept_writing g c = λ n. c.in-Some.ensures.kept (λ e. n (some_same _ _ e)) ∙ c.loop-reader.invariant.writing

pub returns-in-End-clause-kept_reading : goal.returns-in-End-clause-kept_reading
returns-in-End-clause-kept_reading g c = λ n. c.in-End.ensures.kept (λ e. cc e) ∙ c.loop-reader.invariant.reading

pub returns-in-End-clause-kept_writing : goal.returns-in-End-clause-kept_writing
returns-in-End-clause-kept_writing g c = λ n. c.finish.ensures.kept n ∙ c.loop-reader.invariant.writing

pub returns-in-Refused-clause-kept_reading : goal.returns-in-Refused-clause-kept_reading
returns-in-Refused-clause-kept_reading g c = λ n. c.in-Refused.ensures.kept (λ e. cc e) ∙ c.loop-reader.invariant.reading

pub returns-in-Refused-clause-kept_writing : goal.returns-in-Refused-clause-kept_writing
returns-in-Refused-clause-kept_writing g c = λ n. c.loop-reader.invariant.writing

pub returns-in-ReadFault-clause-kept_reading : goal.returns-in-ReadFault-clause-kept_reading
returns-in-ReadFault-clause-kept_reading g c = λ n. absurd (n c.leave.ensures.fault)

pub returns-in-ReadFault-clause-kept_writing : goal.returns-in-ReadFault-clause-kept_writing
returns-in-ReadFault-clause-kept_writing g c = λ n. c.loop-reader.invariant.writing
