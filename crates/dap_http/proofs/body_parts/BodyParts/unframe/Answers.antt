use Rattle.std.proofs.Common.{◌≡◌, ◌≤◌, ◌+◌, ◌-◌, List, ℕ, take, drop, length, arith, refl, sym, ap, ◌∙◌, inl}
use Rattle.dap_http.specs.Following.{waiting}
use Rattle.dap_http.specs.declared.body_parts.BodyParts.{BodyParts}
use Rattle.dap_http.proofs.AlreadyEnded.{already-ended}
use Rattle.dap_http.proofs.Parts.{end-follows, fault-follows, lent-within, more-follows, part-follows, part-lent, piece-long, piece-room, waiting-less}
use Rattle.dap_http.proofs.body_parts.BodyParts.unframe.Goals as goal

abbrev cut : BodyParts → List ℕ → List ℕ
cut s items = take (s.end - s.to) (drop s.to items)

pub next-requires : goal.next-requires
next-requires c =
    let s = c.args.self.now in
    piece-room s (cut s c.deref.result.now) c.requires (ap (cut s) (sym c.deref.ensures.value))

pub overflow_sub-self : goal.overflow_sub-self
overflow_sub-self c =
    let s = c.args.self.now in
    lent-within s (cut s c.deref.result.now) c.in-Part.bytes.now c.in-Part.used c.requires c.in-Part.ensures.part (λ b d stands e. let clash = c.in-Part.ensures.again b d stands e in cc)

pub returns-in-Part-clause-unframes : goal.returns-in-Part-clause-unframes
returns-in-Part-clause-unframes c = λ bytes body follows ended.
    let s = c.args.self.now in
    let piece = cut s c.deref.result.now in
    let used = c.in-Part.used in
    let is : waiting s ≡ piece = ap (cut s) (sym c.deref.ensures.value) in
    let le : s.to + used ≤ s.end = omega (arith, piece-long s piece is, c.in-Part.ensures.within, s.within) in
    part-follows s _ bytes body piece c.in-Part.bytes.now used is c.in-Part.ensures.coding (waiting-less s.room.items s.to s.end used (s.to + used) refl le ∙ ap (drop used) is) follows c.in-Part.ensures.part
    (λ b d stands e. let clash = c.in-Part.ensures.again b d stands e in cc) c.in-Part.ensures.stands
    (λ front e. part-lent s.room.items front c.in-Part.bytes.now s.to s.end used (s.to + (used - length c.in-Part.bytes.now)) (s.to + used) refl le (omega (arith, s.filled, s.size)) refl (ap (take used) is ∙ e))

pub returns-in-More-clause-unframes : goal.returns-in-More-clause-unframes
returns-in-More-clause-unframes c = λ bytes body follows.
    let s = c.args.self.now in
    let piece = cut s c.deref.result.now in
    let is : waiting s ≡ piece = ap (cut s) (sym c.deref.ensures.value) in
    let (stands, goes) =
    more-follows s c.next.new.self bytes body piece is c.in-More.ensures.coding follows c.in-More.ensures.more (λ b d stands e. let clash = c.in-More.ensures.again b d stands e in cc) c.in-More.ensures.stands in
    (refl, stands, goes)

pub returns-in-End-clause-unframes : goal.returns-in-End-clause-unframes
returns-in-End-clause-unframes c = λ bytes body follows ended.
    let s = c.args.self.now in
    let piece = cut s c.deref.result.now in
    let used = c.in-End.used in
    let is : waiting s ≡ piece = ap (cut s) (sym c.deref.ensures.value) in
    let le : s.to + used ≤ s.end = omega (arith, piece-long s piece is, c.in-End.ensures.within, s.within) in
    end-follows s _ bytes body piece _ used ended is c.in-End.ensures.coding (waiting-less s.room.items s.to s.end used (s.to + used) refl le ∙ ap (drop used) is) follows c.in-End.ensures.end
    (λ b d stands e. let same = c.in-End.ensures.again b d stands e in cc)

pub returns-in-Refused-clause-unframes : goal.returns-in-Refused-clause-unframes
returns-in-Refused-clause-unframes c = λ bytes body follows ended.
    let s = c.args.self.now in
    let piece = cut s c.deref.result.now in
    let is : waiting s ≡ piece = ap (cut s) (sym c.deref.ensures.value) in
    inl (fault-follows _ s _ bytes body piece c.in-Refused.bad.place is c.in-Refused.ensures.coding follows c.in-Refused.ensures.refused (λ b d stands e. let clash = c.in-Refused.ensures.again b d stands e in cc))

pub returns-in-Part-clause-ended : goal.returns-in-Part-clause-ended
returns-in-Part-clause-ended c = λ bytes body rest follows whole.
    let s = c.args.self.now in
    let (n, clash) = already-ended s bytes body rest (cut s c.deref.result.now) _ (ap (cut s) (sym c.deref.ensures.value)) follows whole c.in-Part.ensures.ended c.in-Part.ensures.again in
    absurd (cc)

pub returns-in-More-clause-ended : goal.returns-in-More-clause-ended
returns-in-More-clause-ended c = λ bytes body rest follows whole.
    let s = c.args.self.now in
    let (n, clash) = already-ended s bytes body rest (cut s c.deref.result.now) _ (ap (cut s) (sym c.deref.ensures.value)) follows whole c.in-More.ensures.ended c.in-More.ensures.again in
    absurd (cc)

pub returns-in-Refused-clause-ended : goal.returns-in-Refused-clause-ended
returns-in-Refused-clause-ended c = λ bytes body rest follows whole.
    let s = c.args.self.now in
    let (n, clash) = already-ended s bytes body rest (cut s c.deref.result.now) _ (ap (cut s) (sym c.deref.ensures.value)) follows whole c.in-Refused.ensures.ended c.in-Refused.ensures.again in
    absurd (cc)
