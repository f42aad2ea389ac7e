-- Runs of the machine over tokens: how they join, and that there is one alone.
use Rattle.std.proofs.Common.{◌≡◌, List, [], ◌∷◌, ◌++◌, map, Bool, true, Some, None, refl, sym, ap, ap₂, subst, ◌∙◌}
use Rattle.std.proofs.lemmas.Bool.{false≢true, and_from}
use Rattle.std.proofs.lemmas.List.{map-append}
use Rattle.std.proofs.lemmas.Option.{none-some, same_Some}
use Rattle.std.specs.Cmp.Lexicographic.{pointwise}
use Rattle.plain_lemmas.proofs.Truths.{both_true}
use Rattle.dap_model.specs.Grammar.{Slot, spells, Judged}
use Rattle.dap_model.specs.Tokens.{Token}
use Rattle.dds_text.specs.inner.Machine.{moved, step, Steps}
use Rattle.dds_text.specs.inner.States.{State}

abbrev pub Spells : List Slot → List Token → Type 0
Spells slots ts = pointwise spells slots ts ≡ true

abbrev pub slots_in : List Judged → List Slot
slots_in js = map (λ j. j.slot) js

abbrev pub flags_in : List Judged → List Bool
flags_in js = map (λ j. j.broken) js

abbrev pub Spelled : List Judged → List Token → Type 0
Spelled js ts = Spells (slots_in js) ts

-- any token that spells the slot leads on, and breaks a rule where the slot does
abbrev pub Goes : State → Judged → State → Type 0
Goes s j next = (t : Token) → spells j.slot t ≡ true → step s t ≡ Some (moved next j.broken)

abbrev pub Runs : State → List Judged → State → Type 0
Runs s js to = (ts : List Token) → Spelled js ts → Steps s ts (flags_in js) to

pub steps_append : (s mid to : State) (ts us : List Token) (bs cs : List Bool) → Steps s ts bs mid → Steps mid us cs to → Steps s (ts ++ us) (bs ++ cs) to
steps_append s mid to [] us [] cs first second = subst (λ z. Steps z us cs to) (sym first) second
steps_append s mid to [] us (b ∷ bs) cs first second = absurd first
steps_append s mid to (t ∷ ts) us [] cs first second = absurd first
steps_append s mid to (t ∷ ts) us (b ∷ bs) cs (next, is, first) second = (next, is, steps_append next mid to ts us bs cs first second)

-- the tokens of two parts
pub spells_apart : (xs ys : List Slot) (ts : List Token) → Spells (xs ++ ys) ts → (us vs : List Token) × (ts ≡ us ++ vs) × Spells xs us × Spells ys vs
spells_apart [] ys ts is = ([], ts, refl, refl, is)
spells_apart (x ∷ xs) ys [] is = absurd (false≢true is)
spells_apart (x ∷ xs) ys (t ∷ ts) is =
    let both = both_true (spells x t) (pointwise spells (xs ++ ys) ts) is in
    let (us, vs, split, first, second) = spells_apart xs ys ts both.1 in
    (t ∷ us, vs, ap (λ (z : List Token). t ∷ z) split, and_from (spells x t) (pointwise spells xs us) both.0 first, second)

pub spells_together : (xs ys : List Slot) (us vs : List Token) → Spells xs us → Spells ys vs → Spells (xs ++ ys) (us ++ vs)
spells_together [] ys [] vs first second = second
spells_together [] ys (u ∷ us) vs first second = absurd (false≢true first)
spells_together (x ∷ xs) ys [] vs first second = absurd (false≢true first)
spells_together (x ∷ xs) ys (u ∷ us) vs first second =
    let both = both_true (spells x u) (pointwise spells xs us) first in
    and_from (spells x u) (pointwise spells (xs ++ ys) (us ++ vs)) both.0 (spells_together xs ys us vs both.1 second)

pub run_none : (s : State) → Runs s [] s
run_none s [] is = refl
run_none s (t ∷ ts) is = absurd (false≢true is)

-- the slot leads on, to where depends on its token
pub run_first : (s to : State) (j : Judged) (js : List Judged) → ((t : Token) → spells j.slot t ≡ true → (next : State) × (step s t ≡ Some (moved next j.broken)) × Runs next js to) → Runs s (j ∷ js) to
run_first s to j js goes [] is = absurd (false≢true is)
run_first s to j js goes (t ∷ ts) is =
    let both = both_true (spells j.slot t) (pointwise spells (slots_in js) ts) is in
    let on = goes t both.0 in (on.0, on.1, on.2 ts both.1)

pub run_one : (s next to : State) (j : Judged) (js : List Judged) → Goes s j next → Runs next js to → Runs s (j ∷ js) to
run_one s next to j js goes runs = run_first s to j js (λ t is. (next, goes t is, runs))

pub run_both : (s mid to : State) (js ks : List Judged) → Runs s js mid → Runs mid ks to → Runs s (js ++ ks) to
run_both s mid to js ks first second ts is =
    let (us, vs, split, a, b) = spells_apart (slots_in js) (slots_in ks) ts (subst (λ (z : List Slot). Spells z ts) (map-append (λ j. j.slot) js ks) is) in
    subst (λ (z : List Token). Steps s z (flags_in (js ++ ks)) to) (sym split)
    (subst (λ (z : List Bool). Steps s (us ++ vs) z to) (sym (map-append (λ j. j.broken) js ks)) (steps_append s mid to us vs (flags_in js) (flags_in ks) (first us a) (second vs b)))

-- a longer run goes on from where a shorter one ends
pub steps_front : (s to to' : State) (ts us : List Token) (bs cs : List Bool) → Steps s ts bs to → Steps s (ts ++ us) cs to' → (ds : List Bool) × (cs ≡ bs ++ ds) × Steps to us ds to'
steps_front s to to' [] us [] cs is whole = (cs, refl, subst (λ z. Steps z us cs to') is whole)
steps_front s to to' [] us (b ∷ bs) cs is whole = absurd is
steps_front s to to' (t ∷ ts) us [] cs is whole = absurd is
steps_front s to to' (t ∷ ts) us (b ∷ bs) [] is whole = absurd whole
steps_front s to to' (t ∷ ts) us (b ∷ bs) (c ∷ cs) (next, is, rest) (next', is', rest') =
    let same : moved next b ≡ moved next' c = same_Some (moved next b) (moved next' c) (sym is ∙ is') in
    let on = steps_front next to to' ts us bs cs rest (subst (λ z. Steps z (ts ++ us) cs to') (sym (ap (λ m. m.next) same)) rest') in
    (on.0, ap₂ (λ (x : Bool) (y : List Bool). x ∷ y) (sym (ap (λ m. m.breaks) same)) on.1, on.2)

-- a run over two parts ends where that over the first one leads
pub steps_apart : (s to : State) (ts us : List Token) (cs : List Bool) → Steps s (ts ++ us) cs to → (mid : State) × (bs ds : List Bool) × Steps s ts bs mid × Steps mid us ds to × (cs ≡ bs ++ ds)
steps_apart s to [] us cs is = (s, [], cs, refl, is, refl)
steps_apart s to (t ∷ ts) us [] is = absurd is
steps_apart s to (t ∷ ts) us (c ∷ cs) (next, is, rest) =
    let (mid, bs, ds, first, second, split) = steps_apart next to ts us cs rest in
    (mid, c ∷ bs, ds, (next, is, first), second, ap (λ (z : List Bool). c ∷ z) split)

-- one more token
pub steps_more : (s to next : State) (ts : List Token) (bs : List Bool) (t : Token) (b : Bool) → Steps s ts bs to → step to t ≡ Some (moved next b) → Steps s (ts ++ t ∷ []) (bs ++ b ∷ []) next
steps_more s to next ts bs t b first is = steps_append s to next ts (t ∷ []) bs (b ∷ []) first (next, is, refl)

pub steps_last : (s to : State) (t : Token) (ts : List Token) (bs : List Bool) → Steps s (t ∷ ts) bs to → step s t ≡ None → ⊥
steps_last s to t ts [] is none = is
steps_last s to t ts (b ∷ bs) (next, is, rest) none = none-some (moved next b) (sym none ∙ is)
