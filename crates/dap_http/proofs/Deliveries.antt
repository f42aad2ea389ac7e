-- A reply has one body or breaks off, and what is known of it stays where bytes follow.
use Rattle.std.proofs.Common.{◌≡◌, ℕ, Bool, true, List, [], ◌++◌, length, refl, sym, ap, ◌∙◌, subst, arith, append_assoc, append-nil, inl, inr}
use Rattle.std.specs.Prelude.{IsTrue}
use Rattle.reply_faults.specs.declared.bad.BadField.{BadField}
use Rattle.reply_faults.specs.declared.bad.Bad.{Bad}
use Rattle.reply_faults.specs.declared.bad.Bad.TheVariants.{Cut}
use Rattle.dap_http.specs.Codings.{Ends, Fails, Goes}
use Rattle.dap_http.specs.Delivered.{BreaksOff, Delivers, HasBadHead, HasCoding, IsBrokenBody, IsWholeBody}
use Rattle.dap_http.specs.Reading.{GivesFinal}
use Rattle.dap_http.specs.Replies.{AreCut}
use Rattle.dap_http.specs.declared.coding.Coding.{Coding}
use Rattle.dap_http.specs.declared.coding.Coding.TheVariants.{ToEnd}
use Rattle.dap_http.proofs.Finals.{gives-more, no-reply-final, no-reply-more, one-gives, too-long-more}
use Rattle.dap_http.proofs.Framings.{fault-more, no-end-cut, no-end-fault, no-fault-cut, one-cut, one-end, one-fault}

-- ---- behind a head

same-coding : (reply r q : List ℕ) (c d : Coding) → HasCoding reply c r → HasCoding reply d q → (r ≡ q) × (c ≡ d)
same-coding reply r q c d a b = let (rests, codings) = one-gives reply r q (inr c) (inr d) a b in let same : c ≡ d = cc in (rests, same)

not-to-end : (c : Coding) (f body : List ℕ) → c ≡ ToEnd → Ends c f body → ⊥
not-to-end c f body e ends = subst (λ (d : Coding). Ends d f body) e ends

one-whole : (c : Coding) (behind : List ℕ) (ended : Bool) (body other rest left : List ℕ) → IsWholeBody c behind ended body rest → IsWholeBody c behind ended other left → (body ≡ other) × (rest ≡ left)
one-whole c behind ended body other rest left (inl (f, a, e)) (inl (g, b, d)) = one-end c f g rest left body other a b (sym e ∙ d)
one-whole c behind ended body other rest left (inl (f, a, e)) (inr (is, end, all, none)) = absurd (not-to-end c f body is a)
one-whole c behind ended body other rest left (inr (is, end, all, none)) (inl (g, b, d)) = absurd (not-to-end c g other is b)
one-whole c behind ended body other rest left (inr (is, end, all, none)) (inr (same, stop, whole, empty)) = (sym all ∙ whole, none ∙ sym empty)

no-whole-broken : (c : Coding) (behind : List ℕ) (ended : Bool) (body other rest : List ℕ) (bad : BadField) → IsWholeBody c behind ended body rest → IsBrokenBody c behind ended other bad → ⊥
no-whole-broken c behind ended body other rest bad (inl (f, a, e)) (inl (kind, fails)) = no-end-fault c f rest behind body other bad.place a fails e
no-whole-broken c behind ended body other rest bad (inl (f, a, e)) (inr (goes, framed, end, is)) = no-end-cut c f rest behind body other a goes e
no-whole-broken c behind ended body other rest bad (inr (is, end, all, none)) (inl (kind, fails)) = subst (λ (d : Coding). Fails d behind other bad.place) is fails
no-whole-broken c behind ended body other rest bad (inr (is, end, all, none)) (inr (goes, framed, stop, cut)) = framed is

same-bad : (a b : BadField) → a.kind ≡ b.kind → a.place ≡ b.place → a ≡ b
same-bad a b k p = ap (λ (kind : Bad). record { kind = kind; place = a.place }) k ∙ ap (λ n. record { kind = b.kind; place = n }) p

one-broken : (c : Coding) (behind : List ℕ) (ended : Bool) (body other : List ℕ) (bad wrong : BadField) → IsBrokenBody c behind ended body bad → IsBrokenBody c behind ended other wrong → (body ≡ other) × (bad ≡ wrong)
one-broken c behind ended body other bad wrong (inl (kind, fails)) (inl (same, stops)) =
    let (bodies, places) = one-fault c behind body other bad.place wrong.place fails stops in (bodies, same-bad bad wrong (kind ∙ sym same) places)
one-broken c behind ended body other bad wrong (inl (kind, fails)) (inr (goes, framed, end, is)) = absurd (no-fault-cut c behind body other bad.place fails goes)
one-broken c behind ended body other bad wrong (inr (goes, framed, end, is)) (inl (same, stops)) = absurd (no-fault-cut c behind other body wrong.place stops goes)
one-broken c behind ended body other bad wrong (inr (goes, framed, end, is)) (inr (on, codes, stop, same)) =
    let bodies = one-cut c behind body other goes on in
    (bodies, is ∙ ap (λ t. record { kind = Cut; place = length t }) bodies ∙ sym same)

-- ---- whole replies

pub one-delivery : (reply : List ℕ) (ended : Bool) (body other rest left : List ℕ) → Delivers reply ended body rest → Delivers reply ended other left → (body ≡ other) × (rest ≡ left)
one-delivery reply ended body other rest left a b =
    let (behinds, codings) = same-coding reply a.behind b.behind a.coding b.coding a.has_coding b.has_coding in
    let here = subst (λ (t : List ℕ). IsWholeBody b.coding t ended other left) (sym behinds) b.is_whole in
    let there = subst (λ (c : Coding). IsWholeBody c a.behind ended other left) (sym codings) here in
    one-whole a.coding a.behind ended body other rest left a.is_whole there

-- a head that gives a coding is not wrong
pub good-head : (reply behind : List ℕ) (ended : Bool) (bad : BadField) (c : Coding) → HasCoding reply c behind → HasBadHead reply ended bad → ⊥
good-head reply behind ended bad c (head, final, within, is) (place, inl (kind, none)) = no-reply-final reply behind head none final
good-head reply behind ended bad c (head, final, within, is) (place, inr (inl (kind, long))) = omega (arith, within, long.none head behind final)
good-head reply behind ended bad c (head, final, within, is) (place, inr (inr (inl (kind, end, cut)))) = cut.none head behind final
good-head reply behind ended bad c good (place, inr (inr (inr (rest, gives)))) =
    let (rests, codings) = one-gives reply behind rest (inr c) (inl bad.kind) good gives in cc

broken-behind : (reply behind : List ℕ) (ended : Bool) (body : List ℕ) (bad : BadField) (c : Coding) → HasCoding reply c behind → BreaksOff reply ended body bad → IsBrokenBody c behind ended body bad
broken-behind reply behind ended body bad c good (inl (head, none)) = absurd (good-head reply behind ended bad c good head)
broken-behind reply behind ended body bad c good (inr (d, b, has, broken)) =
    let (behinds, codings) = same-coding reply b behind d c has good in
    subst (λ (e : Coding). IsBrokenBody e behind ended body bad) codings (subst (λ (t : List ℕ). IsBrokenBody d t ended body bad) behinds broken)

pub no-delivery-broken : (reply : List ℕ) (ended : Bool) (body other rest : List ℕ) (bad : BadField) → Delivers reply ended body rest → BreaksOff reply ended other bad → ⊥
no-delivery-broken reply ended body other rest bad a b =
    no-whole-broken a.coding a.behind ended body other rest bad a.is_whole (broken-behind reply a.behind ended other bad a.coding a.has_coding b)

pub one-break : (reply behind : List ℕ) (ended : Bool) (c : Coding) (body other : List ℕ) (bad wrong : BadField) → HasCoding reply c behind → BreaksOff reply ended body bad → BreaksOff reply ended other wrong
    → (body ≡ other) × (bad ≡ wrong)
one-break reply behind ended c body other bad wrong good a b =
    one-broken c behind ended body other bad wrong (broken-behind reply behind ended body bad c good a) (broken-behind reply behind ended other wrong c good b)

-- ---- where bytes follow

nothing-more : (bytes more : List ℕ) (ended : Bool) → IsTrue ended → (IsTrue ended → more ≡ []) → bytes ≡ bytes ++ more
nothing-more bytes more ended is none = sym (append-nil bytes) ∙ ap (λ t. bytes ++ t) (sym (none is))

whole-more : (c : Coding) (behind more : List ℕ) (ended : Bool) (body rest : List ℕ) → (IsTrue ended → more ≡ []) → IsWholeBody c behind ended body rest → IsWholeBody c (behind ++ more) true body (rest ++ more)
whole-more c behind more ended body rest none (inl (f, ends, e)) = inl (f, ends, ap (λ t. t ++ more) e ∙ append_assoc f rest more)
whole-more c behind more ended body rest none (inr (is, end, all, empty)) =
    inr (is, refl, sym (nothing-more behind more ended end none) ∙ all, ap (λ t. rest ++ t) (none end) ∙ append-nil rest ∙ empty)

broken-more : (c : Coding) (behind more : List ℕ) (ended : Bool) (body : List ℕ) (bad : BadField) → (IsTrue ended → more ≡ []) → IsBrokenBody c behind ended body bad → IsBrokenBody c (behind ++ more) true body bad
broken-more c behind more ended body bad none (inl (kind, fails)) = inl (kind, fault-more c behind more body bad.place fails)
broken-more c behind more ended body bad none (inr (goes, framed, end, is)) =
    inr (subst (λ (t : List ℕ). Goes c t body) (nothing-more behind more ended end none) goes, framed, refl, is)

pub delivery-more : (reply more : List ℕ) (ended : Bool) (body rest : List ℕ) → (IsTrue ended → more ≡ []) → Delivers reply ended body rest → Delivers (reply ++ more) true body (rest ++ more)
delivery-more reply more ended body rest none d = record {
  coding = d.coding;
  behind = d.behind ++ more;
  has_coding = gives-more reply more d.behind (inr d.coding) d.has_coding;
  is_whole = whole-more d.coding d.behind more ended body rest none d.is_whole;
}

head-more : (reply more : List ℕ) (ended : Bool) (bad : BadField) → (IsTrue ended → more ≡ []) → HasBadHead reply ended bad → HasBadHead (reply ++ more) true bad
head-more reply more ended bad none (place, inl (kind, never)) = (place, inl (kind, no-reply-more reply more never))
head-more reply more ended bad none (place, inr (inl (kind, long))) = (place, inr (inl (kind, too-long-more reply more long)))
head-more reply more ended bad none (place, inr (inr (inl (kind, end, cut)))) =
    (place, inr (inr (inl (kind, refl, subst (λ (t : List ℕ). AreCut t) (nothing-more reply more ended end none) cut))))
head-more reply more ended bad none (place, inr (inr (inr (rest, gives)))) = (place, inr (inr (inr (rest ++ more, gives-more reply more rest (inl bad.kind) gives))))

pub break-more : (reply more : List ℕ) (ended : Bool) (body : List ℕ) (bad : BadField) → (IsTrue ended → more ≡ []) → BreaksOff reply ended body bad → BreaksOff (reply ++ more) true body bad
break-more reply more ended body bad none (inl (head, empty)) = inl (head-more reply more ended bad none head, empty)
break-more reply more ended body bad none (inr (c, behind, has, broken)) =
    inr (c, behind ++ more, gives-more reply more behind (inr c) has, broken-more c behind more ended body bad none broken)

-- ---- a final head that says wrongly how the body is coded

pub head-breaks : (reply behind more : List ℕ) (ended : Bool) (kind : Bad) → GivesFinal reply behind (inl kind) → BreaksOff (reply ++ more) ended [] (record { kind = kind; place = 0 })
head-breaks reply behind more ended kind gives = inl ((refl, inr (inr (inr (behind ++ more, gives-more reply more behind (inl kind) gives)))), refl)

one-head : (reply behind : List ℕ) (ended : Bool) (kind : Bad) (bad : BadField) → GivesFinal reply behind (inl kind) → HasBadHead reply ended bad → bad ≡ record { kind = kind; place = 0 }
one-head reply behind ended kind bad (head, final, within, is) (place, inl (named, none)) = absurd (no-reply-final reply behind head none final)
one-head reply behind ended kind bad (head, final, within, is) (place, inr (inl (named, long))) = absurd (omega (arith, within, long.none head behind final))
one-head reply behind ended kind bad (head, final, within, is) (place, inr (inr (inl (named, end, cut)))) = absurd (cut.none head behind final)
one-head reply behind ended kind bad own (place, inr (inr (inr (rest, gives)))) =
    let (rests, answers) = one-gives reply rest behind (inl bad.kind) (inl kind) gives own in
    let same : bad.kind ≡ kind = cc in
    same-bad bad (record { kind = kind; place = 0 }) same place

pub head-only : (reply behind body : List ℕ) (ended : Bool) (kind : Bad) (bad : BadField) → GivesFinal reply behind (inl kind) → BreaksOff reply ended body bad → (body ≡ []) × (bad ≡ record { kind = kind; place = 0 })
head-only reply behind body ended kind bad own (inl (head, none)) = (none, one-head reply behind ended kind bad own head)
head-only reply behind body ended kind bad own (inr (coding, rest, has, broken)) =
    let (rests, answers) = one-gives reply rest behind (inr coding) (inl kind) has own in absurd (cc)

pub head-nothing : (reply behind body rest : List ℕ) (ended : Bool) (kind : Bad) → GivesFinal reply behind (inl kind) → Delivers reply ended body rest → ⊥
head-nothing reply behind body rest ended kind own d =
    let (rests, answers) = one-gives reply d.behind behind (inr d.coding) (inl kind) d.has_coding own in cc
