-- What may be shown where the sink fails: a front of the lines of the bytes that came.
use Rattle.std.proofs.Common.{◌≡◌, ℕ, ◌<◌, ◌≤◌, ◌⊎◌, List, [], ◌∷◌, ◌++◌, length, take, drop, take-append-drop, All, Some, None, inl, inr, ⊎_elim, refl, ap, ◌∙◌, sym, subst, arith, append_assoc, append-nil}
use Rattle.std.proofs.lemmas.Grind.{flat_map-append}
use Rattle.std.specs.List.{flat_map}
use Rattle.plain_lemmas.proofs.Lists.{cons_first, shorter_front}
use Rattle.dap_types.specs.Model.{Dataset, Tree}
use Rattle.dap_model.proofs.Values.{all_back}
use Rattle.dap_model.specs.Received.{Fault, ValuesEndAt, IsBadField, IsPrefix}
use Rattle.dap_model.specs.Shown.{shown_byte}
use Rattle.dap_model.specs.Xdr.{Field, text, SpellsFields}
use Rattle.xdr_fields.proofs.Fronts.{IsPart, shows}
use Rattle.xdr_fields.proofs.Growing.{prefix_trans, said_join, prefix_more, text_bytes}
use Rattle.xdr_fields.proofs.Judged.{ended_at, is_bad, judge, steps_join}
use Rattle.xdr_fields.specs.inner.Reached.{IsEnded, IsCut, IsSpoilt}
use Rattle.xdr_fields.specs.Wants.{Want, a_count, a_value, a_byte, a_filler, a_text, a_padding, rows, Steps, becomes, fault_in, said, says_next, wants_of}
use Rattle.xdr_decode.proofs.Turning.{faulty_wide}
use Rattle.xdr_decode.specs.Verdict.{kind_of}
use Rattle.xdr_decode.specs.Shown.{HasGood, ShowsSome}
use Rattle.xdr_decode.specs.inner.Turning.{IsBroken, IsLoose, Spelled}

-- fields one after the other
spells_join : (fs gs : List Field) (a b : List ℕ) → SpellsFields fs a → SpellsFields gs b → SpellsFields (fs ++ gs) (a ++ b)
spells_join [] gs a b none good = subst (λ l. SpellsFields gs (l ++ b)) (sym none) good
spells_join (f ∷ fs) gs a b (x, y, parts, one, more) good = (x, y ++ b, ap (λ l. l ++ b) parts ∙ append_assoc x y b, one, spells_join fs gs y b more good)

-- a string that goes on is shown further
first_text : (n : ℕ) (us : List Want) (own rest front tail : List ℕ) (f : Field) (fs : List Field) (vs : List Want) → length own ≤ n → Steps (a_text n ∷ us) (f ∷ fs) vs → SpellsFields (f ∷ fs) front → own ++ rest ≡ front ++ tail
    → IsPrefix (flat_map shown_byte own) (said (a_text n ∷ us) (f ∷ fs))
unfolding Steps said
first_text n us own rest front tail (text b) fs vs le steps (x, y, parts, one, more) same =
    let is : x ≡ b = text_bytes b x one in
    let long : length own ≤ length x = omega (arith, le, steps.0, ap length is) in
    let (k, whole) = shorter_front own x rest (y ++ tail) (same ∙ ap (λ l. l ++ tail) parts ∙ append_assoc x y tail) long in
    let later' = said (becomes (a_text n) (text b) ++ us) fs in
    (flat_map shown_byte k ++ later', ap (λ l. flat_map shown_byte l ++ later') (sym is ∙ whole) ∙ ap (λ l. l ++ later') (flat_map-append shown_byte own k) ∙ append_assoc (flat_map shown_byte own) (flat_map shown_byte k) later')
first_text n us own rest front tail f fs vs le steps good same = absurd steps.0

nothing : (t : List ℕ) → IsPrefix [] t
nothing t = (t, refl)

-- what was said of what came is a front of what is said of it with what follows
abbrev Continues : List Want → List ℕ → List Field → List Want → List ℕ → Type 0
Continues ws own fs vs last = IsPrefix (says_next ws own) (said ws fs ++ says_next vs last)

-- where the fields that follow are these
continues : (ws : List Want) (own rest front tail : List ℕ) (fs : List Field) (vs : List Want) (last : List ℕ) → IsLoose ws own → Steps ws fs vs → SpellsFields fs front → own ++ rest ≡ front ++ tail
    → ((n : ℕ) → (us : List Want) → ws ≡ a_text n ∷ us → fs ≡ [] → Continues ws own fs vs last) → Continues ws own fs vs last
continues (a_text n ∷ us) own rest front tail [] vs last loose steps good same none = none n us refl refl
continues (a_text n ∷ us) own rest front tail (f ∷ fs) vs last loose steps good same none =
    prefix_more (flat_map shown_byte own) (said (a_text n ∷ us) (f ∷ fs)) (says_next vs last) (first_text n us own rest front tail f fs vs loose steps good same)
continues [] own rest front tail fs vs last loose steps good same none = nothing (said [] fs ++ says_next vs last)
continues (a_count n ∷ us) own rest front tail fs vs last loose steps good same none = nothing (said (a_count n ∷ us) fs ++ says_next vs last)
continues (a_value path base ∷ us) own rest front tail fs vs last loose steps good same none = nothing (said (a_value path base ∷ us) fs ++ says_next vs last)
continues (a_byte path ∷ us) own rest front tail fs vs last loose steps good same none = nothing (said (a_byte path ∷ us) fs ++ says_next vs last)
continues (a_filler n ∷ us) own rest front tail fs vs last loose steps good same none = nothing (said (a_filler n ∷ us) fs ++ says_next vs last)
continues (a_padding n ∷ us) own rest front tail fs vs last loose steps good same none = nothing (said (a_padding n ∷ us) fs ++ says_next vs last)
continues (rows above name columns row ∷ us) own rest front tail fs vs last loose steps good same none = nothing (said (rows above name columns row ∷ us) fs ++ says_next vs last)

-- in the words of the model
finish : (d : Dataset) (bs t : List ℕ) (fields : List Field) (vs : List Want) (good last : List ℕ) → Steps (wants_of d) fields vs → SpellsFields fields good → IsPart vs last → IsPrefix t (said (wants_of d) fields ++ says_next vs last)
    → (HasGood d bs (good ++ last) ⊎ ((ts : List Tree) × ValuesEndAt d ts bs (length (good ++ last)) × IsPrefix (good ++ last) bs)) → ShowsSome d bs t
finish d bs t fields vs good last steps spelled part front has =
    let shown = shows d fields vs good last steps spelled part in
    record { good = good ++ last; whole = shown.whole; more = shown.more; has_good = has; is_front = shown.is_front; within = prefix_trans t (said (wants_of d) fields ++ says_next vs last) (shown.whole ++ shown.more) front shown.within }

-- a text that was put, and what follows it
goes_on : (d : Dataset) (bytes put t : List ℕ) (ws : List Want) (own : List ℕ) (s : Spelled d bytes put ws own) (fs : List Field) (vs : List Want) (last : List ℕ) → IsPrefix t put → Continues ws own fs vs last
    → IsPrefix t (said (wants_of d) (s.fields ++ fs) ++ says_next vs last)
goes_on d bytes put t ws own s fs vs last front (more, is) =
    let w = wants_of d in
    let joined = said_join w s.fields fs ws s.steps in
    prefix_trans t put (said w (s.fields ++ fs) ++ says_next vs last) front (
      more,
      ap (λ l. l ++ says_next vs last) joined ∙ append_assoc (said w s.fields) (said ws fs) (says_next vs last) ∙ ap (λ l. said w s.fields ++ l) is
          ∙ sym (append_assoc (said w s.fields) (says_next ws own) more) ∙ ap (λ l. l ++ more) (sym s.is_put),
    )

cons_none : (w : Want) (ws vs : List Want) → w ∷ ws ≡ vs → vs ≡ [] → ⊥
cons_none w ws vs one two = cc

no_fault : (n : ℕ) (w : Want) (fault : Fault) → a_text n ≡ w → fault_in w ≡ Some fault → ⊥
no_fault n w fault same is = none (ap fault_in same ∙ is)
  where
    none : None ≡ Some fault → ⊥
    none same = cc

steps_none : (ws : List Want) (fs : List Field) (vs : List Want) → Steps ws fs vs → fs ≡ [] → ws ≡ vs
unfolding Steps
steps_none ws fs vs steps none = subst (λ l. Steps ws l vs) none steps

-- the front of it
spelled_none : (fs : List Field) (front : List ℕ) → SpellsFields fs front → fs ≡ [] → front ≡ []
spelled_none fs front good none = subst (λ l. SpellsFields l front) none good

said_nothing : (ws : List Want) (fs : List Field) → fs ≡ [] → said ws fs ≡ []
unfolding said
said_nothing ws fs none = ap (said ws) none

some_ended : (d : Dataset) (bytes put t bs rest : List ℕ) (ws : List Want) (own : List ℕ) (s : Spelled d bytes put ws own) → IsLoose ws own → bs ≡ s.front ++ (own ++ rest) → IsPrefix t put → IsEnded ws (own ++ rest) → ShowsSome d bs t
some_ended d bytes put t bs rest ws own s loose whole front e =
    let fs = e.leads.fields in
    let on = continues ws own rest e.front e.rest fs [] [] loose e.leads.steps e.leads.spelled e.parts (λ n us text' none. absurd (cons_none (a_text n) us [] (sym text' ∙ steps_none ws fs [] e.leads.steps none) refl)) in
    let steps = steps_join (wants_of d) s.fields fs ws [] s.steps e.leads.steps in
    let good = spells_join s.fields fs s.front e.front s.good e.leads.spelled in
    let parts : bs ≡ (s.front ++ e.front) ++ e.rest = whole ∙ ap (λ l. s.front ++ l) e.parts ∙ sym (append_assoc s.front e.front e.rest) in
    let (ts, at) = ended_at d bs (record { front = s.front ++ e.front; rest = e.rest; leads = record { fields = s.fields ++ fs; steps = steps; spelled = good }; parts = parts }) in
    let whole' : s.front ++ e.front ≡ (s.front ++ e.front) ++ [] = sym (append-nil (s.front ++ e.front)) in
    finish d bs t (s.fields ++ fs) [] (s.front ++ e.front) [] steps good refl (goes_on d bytes put t ws own s fs [] [] front on)
    (inr (ts, subst (λ l. ValuesEndAt d ts bs (length l)) whole' at, (e.rest, subst (λ l. bs ≡ l ++ e.rest) whole' parts)))

some_cut : (d : Dataset) (bytes put t bs rest : List ℕ) (ws : List Want) (own : List ℕ) (s : Spelled d bytes put ws own) → IsLoose ws own → bs ≡ s.front ++ (own ++ rest) → IsPrefix t put → IsCut ws (own ++ rest) → ShowsSome d bs t
some_cut d bytes put t bs rest ws own s loose whole front e =
    let fs = e.leads.fields in
    let vs = e.wanted ∷ e.behind in
    let on = continues ws own rest e.front e.own fs vs e.own loose e.leads.steps e.leads.spelled e.parts (λ n us text' none.
    let same : own ++ rest ≡ e.own = e.parts ∙ ap (λ l. l ++ e.own) (spelled_none fs e.front e.leads.spelled none) in
    let all : ws ≡ vs = steps_none ws fs vs e.leads.steps none in
    let put' : says_next ws (own ++ rest) ≡ says_next ws own ++ flat_map shown_byte rest =
    ap (λ l. says_next l (own ++ rest)) text' ∙ flat_map-append shown_byte own rest ∙ ap (λ l. says_next l own ++ flat_map shown_byte rest) (sym text') in
    (flat_map shown_byte rest, ap (λ l. l ++ says_next vs e.own) (said_nothing ws fs none) ∙ ap (λ l. says_next l e.own) (sym all) ∙ ap (says_next ws) (sym same) ∙ put')) in
    let steps = steps_join (wants_of d) s.fields fs ws vs s.steps e.leads.steps in
    let good = spells_join s.fields fs s.front e.front s.good e.leads.spelled in
    let parts : bs ≡ (s.front ++ e.front) ++ e.own = whole ∙ ap (λ l. s.front ++ l) e.parts ∙ sym (append_assoc s.front e.front e.own) in
    finish d bs t (s.fields ++ fs) vs (s.front ++ e.front) e.own steps good e.short (goes_on d bytes put t ws own s fs vs e.own front on)
    (inl (record { rest = []; parts = parts ∙ sym (append-nil ((s.front ++ e.front) ++ e.own)); whole = inl refl }))

some_spoilt : (d : Dataset) (bytes put t bs rest : List ℕ) (ws : List Want) (own : List ℕ) (s : Spelled d bytes put ws own) → IsLoose ws own → bs ≡ s.front ++ (own ++ rest) → IsPrefix t put → IsSpoilt ws (own ++ rest) → ShowsSome d bs t
some_spoilt d bytes put t bs rest ws own s loose whole front e =
    let fs = e.leads.fields in
    let vs = e.wanted ∷ e.behind in
    let on = continues ws own rest e.front (e.own ++ e.rest) fs vs [] loose e.leads.steps e.leads.spelled e.parts (λ n us text' none.
    absurd (no_fault n e.wanted e.fault (cons_first (a_text n) e.wanted us e.behind (sym text' ∙ steps_none ws fs vs e.leads.steps none)) e.is_fault)) in
    let steps = steps_join (wants_of d) s.fields fs ws vs s.steps e.leads.steps in
    let good = spells_join s.fields fs s.front e.front s.good e.leads.spelled in
    let parts : bs ≡ (s.front ++ e.front) ++ (e.own ++ e.rest) = whole ∙ ap (λ l. s.front ++ l) e.parts ∙ sym (append_assoc s.front e.front (e.own ++ e.rest)) in
    let bad : IsBadField d bs e.fault (length (s.front ++ e.front)) =
    is_bad d bs (record { front = s.front ++ e.front; own = e.own; rest = e.rest; wanted = e.wanted; behind = e.behind; fault = e.fault; leads = record { fields = s.fields ++ fs; steps = steps; spelled = good }; parts = parts; whole = e.whole; is_fault = e.is_fault; none = e.none }) in
    finish d bs t (s.fields ++ fs) vs (s.front ++ e.front) [] steps good (faulty_wide e.wanted e.own (kind_of e.fault) (e.fault, e.is_fault, refl, e.none) e.whole) (goes_on d bytes put t ws own s fs vs [] front on)
    (inl (subst (HasGood d bs) (sym (append-nil (s.front ++ e.front))) (record { rest = e.own ++ e.rest; parts = parts; whole = inr (e.fault, bad) })))

pub some_shown : (d : Dataset) (bytes rest put t : List ℕ) → IsBroken d rest bytes put → All (λ b. b < 256) (bytes ++ rest) → IsPrefix t put → ShowsSome d (bytes ++ rest) t
some_shown d bytes rest put t b all front =
    let s = b.spelled in
    let left = drop b.used rest in
    let whole : bytes ++ rest ≡ s.front ++ (b.own ++ left) =
    ap (λ l. bytes ++ l) (sym (take-append-drop b.used rest)) ∙ sym (append_assoc bytes (take b.used rest) left) ∙ ap (λ l. l ++ left) s.parts ∙ append_assoc s.front b.own left in
    let small = all_back (λ b. b < 256) s.front (b.own ++ left) (subst (All (λ b. b < 256)) whole all) in
    ⊎_elim (λ e. some_ended d (bytes ++ take b.used rest) put t (bytes ++ rest) left b.wants b.own s b.is_loose whole front e)
    (λ r. ⊎_elim (λ e. some_cut d (bytes ++ take b.used rest) put t (bytes ++ rest) left b.wants b.own s b.is_loose whole front e) (λ e. some_spoilt d (bytes ++ take b.used rest) put t (bytes ++ rest) left b.wants b.own s b.is_loose whole front e) r)
    (judge b.wants (b.own ++ left) small)
