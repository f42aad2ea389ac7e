-- What the machine's verdicts say of tokens: none of those that it goes on over is bad, the one that it
-- refuses is the first bad one, and at its end the tokens stand for a well-formed dataset.
use Rattle.std.proofs.Common.{◌≡◌, ℕ, zero, suc, ◌+◌, ◌<◌, ◌⊎◌, inl, inr, List, [], ◌∷◌, ◌++◌, length, map, take, drop, Bool, true, false, ◌||◌, slice_get, Option, Some, None, refl, sym, ap, subst, ◌∙◌, append_assoc, append-nil, length-append, take-append-drop, take_at, arith}
use Rattle.std.proofs.lemmas.Bool.{false≢true, or_parts}
use Rattle.std.specs.List.{list_any}
use Rattle.std.specs.Option.{option_map_or}
use Rattle.dap_types.specs.Model.{Dataset}
use Rattle.dap_types.specs.WellFormed.{IsWellFormed}
use Rattle.dap_model.proofs.Unbroken.{well_formed_unbroken, unbroken_well_formed}
use Rattle.dap_model.specs.Grammar.{Judged, dataset_slots, StandsFor, Begins, Breaks, IsBad, IsFirstBad}
use Rattle.dap_model.specs.Tokens.{Token}
use Rattle.dds_text.specs.inner.Machine.{Moved, moved, step, refuses, Steps, Keeps}
use Rattle.dds_text.specs.inner.States.{State, begun, ended}
use Rattle.dds_text.proofs.Complete.{complete}
use Rattle.dds_text.proofs.Live.{live}
use Rattle.dds_text.proofs.Runs.{flags_in, steps_append, steps_front, steps_more, steps_last}
use Rattle.dds_text.proofs.Sound.{reached, sound}

-- none of these tokens breaks a rule
abbrev pub none_of : List Token → List Bool
none_of ts = map (λ t. false) ts

pub keeps_steps : (s to : State) (ts : List Token) → Keeps s ts to → Steps s ts (none_of ts) to
keeps_steps s to [] is = is
keeps_steps s to (t ∷ ts) (next, is, rest) = (next, is, keeps_steps next to ts rest)

keeps_apart : (s to : State) (ts us : List Token) → Keeps s (ts ++ us) to → (mid : State) × Keeps s ts mid × Keeps mid us to
keeps_apart s to [] us is = (s, refl, is)
keeps_apart s to (t ∷ ts) us (next, is, rest) = let (mid, first, second) = keeps_apart next to ts us rest in (mid, (next, is, first), second)

-- whether flag k is there and up
abbrev flag_at : List Bool → ℕ → Bool
flag_at bs k = option_map_or (λ b. b) (slice_get bs k) false

broken_flag : (js : List Judged) (k : ℕ) → option_map_or (λ j. j.broken) (slice_get js k) false ≡ flag_at (flags_in js) k
broken_flag [] k = refl
broken_flag (j ∷ js) zero = refl
broken_flag (j ∷ js) (suc k) = broken_flag js k

none_flagged : (ts : List Token) (ds : List Bool) (k : ℕ) → k < length ts → flag_at (none_of ts ++ ds) k ≡ false
none_flagged [] ds k lt = absurd (omega arith)
none_flagged (t ∷ ts) ds zero lt = refl
none_flagged (t ∷ ts) ds (suc k) lt = none_flagged ts ds k (omega arith)

last_flagged : (ts : List Token) (ds : List Bool) → flag_at ((none_of ts ++ true ∷ []) ++ ds) (length ts) ≡ true
last_flagged [] ds = refl
last_flagged (t ∷ ts) ds = last_flagged ts ds

none_raised : (ts : List Token) → list_any (λ b. b) (none_of ts) ≡ false
none_raised [] = refl
none_raised (t ∷ ts) = none_raised ts

any_flag : (js : List Judged) → list_any (λ j. j.broken) js ≡ list_any (λ b. b) (flags_in js)
any_flag [] = refl
any_flag (j ∷ js) = ap (λ b. j.broken || b) (any_flag js)

-- what is reached begins a text, whose first slots are broken where the machine says so
pub begins : (ts : List Token) (bs : List Bool) (s : State) → Steps begun ts bs s → (more : List Token) × (d : Dataset) × (ds : List Bool) × StandsFor (ts ++ more) d × (flags_in (dataset_slots d) ≡ bs ++ ds)
begins ts bs s is =
    let (more, cs, d, rest) = live s (reached s ts bs is).1 in
    let stands = sound (ts ++ more) (bs ++ cs) d (steps_append begun s (ended d) ts more bs cs is rest) in
    let on = steps_front begun s (ended d) ts more bs (flags_in (dataset_slots d)) is (complete (ts ++ more) d stands) in
    (more, d, on.0, stands, on.1)

-- and any text that begins so
flags_of : (ts more : List Token) (bs : List Bool) (s : State) (d : Dataset) → Steps begun ts bs s → StandsFor (ts ++ more) d → (ds : List Bool) × (flags_in (dataset_slots d) ≡ bs ++ ds)
flags_of ts more bs s d is stands = let on = steps_front begun s (ended d) ts more bs (flags_in (dataset_slots d)) is (complete (ts ++ more) d stands) in (on.0, on.1)

not_last_bad : (ts : List Token) (k : ℕ) (s : State) → Keeps begun ts s → k < length ts → (¬ Begins ts) ⊎ Breaks k ts → ⊥
not_last_bad ts k s is lt (inl never) = let (more, d, ds, stands, flags) = begins ts (none_of ts) s (keeps_steps begun s ts is) in never (more, d, stands)
not_last_bad ts k s is lt (inr (more, d, stands, broken)) =
    let (ds, flags) = flags_of ts more (none_of ts) s d (keeps_steps begun s ts is) stands in
    false≢true (sym (broken_flag (dataset_slots d) k ∙ ap (λ bs. flag_at bs k) flags ∙ none_flagged ts ds k lt) ∙ broken)

take_front : (ts rest : List Token) (k : ℕ) → k < length ts → take (k + 1) (ts ++ rest) ≡ take (k + 1) ts
take_front ts rest k lt = let next : k + 1 ≡ suc k = omega arith in subst (λ n. take n (ts ++ rest) ≡ take n ts) (sym next) (front ts k lt)
  where
    front : (ts : List Token) (k : ℕ) → k < length ts → take (suc k) (ts ++ rest) ≡ take (suc k) ts
    front [] k lt = absurd (omega arith)
    front (t ∷ ts) zero lt = refl
    front (t ∷ ts) (suc k) lt = ap (λ us. t ∷ us) (front ts k (omega arith))

take_long : (ts : List Token) (k : ℕ) → k < length ts → k < length (take (k + 1) ts)
take_long ts k lt = let next : k + 1 ≡ suc k = omega arith in subst (λ n. k < length (take n ts)) (sym next) (long ts k lt)
  where
    long : (ts : List Token) (k : ℕ) → k < length ts → k < length (take (suc k) ts)
    long [] k lt = absurd (omega arith)
    long (t ∷ ts) zero lt = omega arith
    long (t ∷ ts) (suc k) lt = omega (arith, long ts k (omega arith))

-- no token that the machine goes on over is bad, whatever follows
pub none_bad : (ts rest : List Token) (s : State) (k : ℕ) → Keeps begun ts s → k < length ts → ¬ (IsBad (ts ++ rest) k)
none_bad ts rest s k is lt bad =
    let (mid, first, second) = keeps_apart begun s (take (k + 1) ts) (drop (k + 1) ts) (subst (λ us. Keeps begun us s) (sym (take-append-drop (k + 1) ts)) is) in
    not_last_bad (take (k + 1) ts) k mid first (take_long ts k lt) (subst (λ us. (¬ Begins us) ⊎ Breaks k us) (take_front ts rest k lt) bad)

-- the last of these tokens
front_last : (ts rest : List Token) (t : Token) → take (length ts + 1) (ts ++ t ∷ rest) ≡ ts ++ t ∷ []
front_last ts rest t =
    ap (take (length ts + 1)) (sym (append_assoc ts (t ∷ []) rest)) ∙ take_at (ts ++ t ∷ []) rest (length ts + 1) (length-append ts (t ∷ []))

refused_bad : (ts : List Token) (t : Token) (s : State) → Keeps begun ts s → (o : Option Moved) → step s t ≡ o → option_map_or (λ m. m.breaks) o true ≡ true → (¬ Begins (ts ++ t ∷ [])) ⊎ Breaks (length ts) (ts ++ t ∷ [])
refused_bad ts t s is None none refused = inl never
  where
    never : ¬ Begins (ts ++ t ∷ [])
    never (more, d, stands) =
        let whole = complete (ts ++ t ∷ more) d (subst (λ us. StandsFor us d) (append_assoc ts (t ∷ []) more) stands) in
        let on = steps_front begun s (ended d) ts (t ∷ more) (none_of ts) (flags_in (dataset_slots d)) (keeps_steps begun s ts is) whole in
        steps_last s (ended d) t more on.0 on.2 none
refused_bad ts t s is (Some m) some refused =
    let one = steps_more begun s m.next ts (none_of ts) t true (keeps_steps begun s ts is) (some ∙ ap (λ b. Some (moved m.next b)) refused) in
    let (more, d, ds, stands, flags) = begins (ts ++ t ∷ []) (none_of ts ++ true ∷ []) m.next one in
    inr (more, d, stands, broken_flag (dataset_slots d) (length ts) ∙ ap (λ bs. flag_at bs (length ts)) flags ∙ last_flagged ts ds)

-- the token that the machine refuses is the first bad one, whatever follows
pub first_refused : (ts rest : List Token) (t : Token) (s : State) → Keeps begun ts s → refuses s t ≡ true → IsFirstBad (ts ++ t ∷ rest) (length ts)
first_refused ts rest t s is refused =
    record {
      within = omega (arith, length-append ts (t ∷ rest));
      bad = subst (λ us. (¬ Begins us) ⊎ Breaks (length ts) us) (sym (front_last ts rest t)) (refused_bad ts t s is (step s t) refl refused);
      first = λ j lt. none_bad ts (t ∷ rest) s j is lt;
    }

-- at its end the tokens stand for a well-formed dataset
pub ended_stands : (ts : List Token) (d : Dataset) → Keeps begun ts (ended d) → StandsFor ts d × IsWellFormed d
ended_stands ts d is =
    let steps = keeps_steps begun (ended d) ts is in
    let stands = sound ts (none_of ts) d steps in
    (stands, well_formed_unbroken ts d stands (any_flag (dataset_slots d) ∙ ap (list_any (λ b. b)) (flags_are ts d steps stands) ∙ none_raised ts))
  where
    flags_are : (ts : List Token) (d : Dataset) → Steps begun ts (none_of ts) (ended d) → StandsFor ts d → flags_in (dataset_slots d) ≡ none_of ts
    flags_are ts d steps stands =
        let on = steps_front begun (ended d) (ended d) ts [] (none_of ts) (flags_in (dataset_slots d)) steps (subst (λ us. Steps begun us (flags_in (dataset_slots d)) (ended d)) (sym (append-nil ts)) (complete ts d stands)) in
        on.1 ∙ no_more (none_of ts) on.0 on.2
      where
        no_more : (bs ds : List Bool) → Steps (ended d) [] ds (ended d) → bs ++ ds ≡ bs
        no_more bs [] is = append-nil bs
        no_more bs (b ∷ ds) is = absurd is

-- and every such text is read to its end
all_kept : (s to : State) (ts : List Token) (bs : List Bool) → Steps s ts bs to → list_any (λ b. b) bs ≡ false → Keeps s ts to
all_kept s to [] [] is none = is
all_kept s to [] (b ∷ bs) is none = absurd is
all_kept s to (t ∷ ts) [] is none = absurd is
all_kept s to (t ∷ ts) (b ∷ bs) (next, is, rest) none =
    let both = or_parts b (list_any (λ c. c) bs) none in
    (next, is ∙ ap (λ c. Some (moved next c)) both.0, all_kept next to ts bs rest both.1)

pub reads_all : (ts : List Token) (d : Dataset) → StandsFor ts d → IsWellFormed d → Keeps begun ts (ended d)
reads_all ts d stands fits =
    all_kept begun (ended d) ts (flags_in (dataset_slots d)) (complete ts d stands) (sym (any_flag (dataset_slots d)) ∙ unbroken_well_formed d fits)

-- nothing goes on behind a dataset, whether or not it is well formed
pub none_behind : (ts more : List Token) (t : Token) (d d' : Dataset) → StandsFor ts d → StandsFor (ts ++ t ∷ more) d' → ⊥
none_behind ts more t d d' stands stands' =
    let on = steps_front begun (ended d) (ended d') ts (t ∷ more) (flags_in (dataset_slots d)) (flags_in (dataset_slots d')) (complete ts d stands) (complete (ts ++ t ∷ more) d' stands') in
    steps_last (ended d) (ended d') t more on.0 on.2 refl

pub behind_end : (ts more : List Token) (t : Token) (d : Dataset) → StandsFor ts d → ¬ Begins (ts ++ t ∷ more)
behind_end ts more t d stands (rest, d', stands') = none_behind ts (more ++ rest) t d d' stands (subst (λ us. StandsFor us d') (append_assoc ts (t ∷ more) rest) stands')
