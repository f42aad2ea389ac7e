-- Bytes are always one of these: ended, refused or open.
use Rattle.std.proofs.Common.{◌≡◌, ℕ, ◌+◌, ◌-◌, ◌⊎◌, inl, inr, ⊎_elim, List, [], ◌∷◌, ◌++◌, length, map, take, Bool, true, false, if◌then◌else◌, Option, Some, None, refl, sym, ap, subst, ◌∙◌, append_assoc, append-nil, length-append, take_at, take_all, codes, arith}
use Rattle.std.proofs.lemmas.Bool.{false≢true, cases_lt}
use Rattle.std.proofs.lemmas.List.{map-append}
use Rattle.std.specs.Cmp.Lexicographic.{pointwise}
use Rattle.std.specs.Option.{option_map_or}
use Rattle.plain_lemmas.proofs.Truths.{both_true}
use Rattle.dap_types.specs.Model.{Dataset}
use Rattle.dap_model.specs.Grammar.{Slot, keyword, name, sign, spells, StandsFor}
use Rattle.dap_model.specs.Tokens.{Token, Placed, is_sign, is_plain, ended as ended_word, sign_at, tokens_from, whole_tokens, tokens_of}
use Rattle.dap_model.specs.Tokens as token
use Rattle.dds_text.specs.inner.Machine.{Moved, moved, keeps, step, refuses, Keeps}
use Rattle.dds_text.specs.Reading.{IsEnded, IsDdsRefused, IsOpen, limit, IsDone, IsBadText, IsUnfinished}
use Rattle.dds_text.specs.inner.States.{State, begun, ended, IsOpenState}
use Rattle.dds_text.specs.inner.Words.{left}
use Rattle.dds_text.proofs.Bytes.{tokens-plain, tokens-stop}
use Rattle.dds_text.proofs.Readings.{keeps_more, open_text, ended_text, refused_text}
use Rattle.dds_text.proofs.Runs.{Spells}
use Rattle.dds_text.proofs.SlotSteps.{sign_is}
use Rattle.dds_text.proofs.Spelling.{spelling_all, dataset_told}
use Rattle.dds_text.proofs.Verdicts.{ended_stands}

abbrev token_list : List Placed → List Token
token_list ps = map (λ p. p.token) ps

-- the last token of a text is a semicolon
last_spelled : (xs : List Slot) (x : Slot) (ts : List Token) (t : Token) → Spells (xs ++ x ∷ []) (ts ++ t ∷ []) → spells x t ≡ true
last_spelled [] x [] t is = (both_true (spells x t) true is).0
last_spelled [] x (u ∷ []) t is = absurd (false≢true (both_true (spells x u) false is).1)
last_spelled [] x (u ∷ v ∷ ts) t is = absurd (false≢true (both_true (spells x u) false is).1)
last_spelled (y ∷ []) x [] t is = absurd (false≢true (both_true (spells y t) false is).1)
last_spelled (y ∷ z ∷ xs) x [] t is = absurd (false≢true (both_true (spells y t) false is).1)
last_spelled (y ∷ xs) x (u ∷ ts) t is = last_spelled xs x ts t (both_true (spells y u) (pointwise spells (xs ++ x ∷ []) (ts ++ t ∷ [])) is).1

pub last_semicolon : (ts : List Token) (t : Token) (d : Dataset) → StandsFor (ts ++ t ∷ []) d → t ≡ token.sign 59
last_semicolon ts t d stands =
    let front : List Slot = (keyword (codes "Dataset") ∷ sign 123 ∷ spelling_all d.members) ++ sign 125 ∷ name d.name ∷ [] in
    let last = append_assoc (keyword (codes "Dataset") ∷ sign 123 ∷ spelling_all d.members) (sign 125 ∷ name d.name ∷ []) (sign 59 ∷ []) in
    sign_is 59 t (last_spelled front (sign 59) ts t (subst (λ slots. Spells slots (ts ++ t ∷ [])) (dataset_told d ∙ sym last) stands.1))

open_or_ended : (s : State) → IsOpenState s ⊎ ((d : Dataset) × (s ≡ ended d))
open_or_ended (ended d) = inr (d, refl)
open_or_ended s = inl tt

kept_or_refused : (s : State) (t : Token) → (refuses s t ≡ true) ⊎ ((next : State) × (step s t ≡ Some (keeps next)))
kept_or_refused s t = from (step s t) refl
  where
    flag : (o : Option Moved) (next : State) (b : Bool) → o ≡ Some (moved next b) → (option_map_or (λ m. m.breaks) o true ≡ true) ⊎ ((next : State) × (o ≡ Some (keeps next)))
    flag o next true is = inl (ap (λ x. option_map_or (λ m. m.breaks) x true) is)
    flag o next false is = inr (next, is)

    from : (o : Option Moved) → step s t ≡ o → (option_map_or (λ m. m.breaks) (step s t) true ≡ true) ⊎ ((next : State) × (step s t ≡ Some (keeps next)))
    from None is = inl (ap (λ x. option_map_or (λ m. m.breaks) x true) is)
    from (Some m) is = flag (step s t) m.next m.breaks is

-- one more token
judged : (bytes : List ℕ) (before more : List Placed) (p : Placed) (s : State) → whole_tokens bytes ≡ before ++ p ∷ more → Keeps begun (token_list before) s → IsOpenState s
    → IsDdsRefused bytes p.place ⊎ ((next : State) × Keeps begun (token_list (before ++ p ∷ [])) next)
judged bytes before more p s split is open' = on (kept_or_refused s p.token)
  where
    on : (refuses s p.token ≡ true) ⊎ ((next : State) × (step s p.token ≡ Some (keeps next))) → IsDdsRefused bytes p.place ⊎ ((next : State) × Keeps begun (token_list (before ++ p ∷ [])) next)
    on (inl refused) = inl (refused_text bytes before more p s split is open' refused)
    on (inr (next, goes)) = inr (next, subst (λ ts. Keeps begun ts next) (sym (map-append (λ p. p.token) before (p ∷ []))) (keeps_more begun s next (token_list before) (p.token ∷ []) is (next, goes, refl)))

abbrev pub Verdict : List ℕ → Type 0
Verdict bytes = ((n : ℕ) × (d : Dataset) × IsEnded bytes n d) ⊎ ((place : ℕ) × IsDdsRefused bytes place) ⊎ IsOpen bytes

-- these tokens lead to a state that is open
abbrev Leads : List Placed → Type 0
Leads ps = (s : State) × Keeps begun (token_list ps) s × IsOpenState s

word_not_last : (ts : List Token) (w : List ℕ) (s : State) (d : Dataset) → Keeps begun (ts ++ token.word w ∷ []) s → s ≡ ended d → ⊥
word_not_last ts w s d is same = let last = last_semicolon ts (token.word w) d (ended_stands (ts ++ token.word w ∷ []) d (subst (λ z. Keeps begun (ts ++ token.word w ∷ []) z) same is)).0 in cc

-- behind the word that ends
behind_word : (bytes : List ℕ) (before more : List Placed) (w : List ℕ) (at : ℕ) (s : State) → whole_tokens bytes ≡ before ++ (ended_word w at ++ more) → Keeps begun (token_list before) s → IsOpenState s
    → ((place : ℕ) × IsDdsRefused bytes place) ⊎ Leads (before ++ ended_word w at)
behind_word bytes before more [] at s split is open' = inr (s, subst (λ ps. Keeps begun (token_list ps) s) (sym (append-nil before)) is, open')
behind_word bytes before more (b ∷ bs) at s split is open' = on (judged bytes before more p s split is open')
  where
    p : Placed
    p = record { token = token.word (b ∷ bs); place = at - length (b ∷ bs) }

    on : IsDdsRefused bytes p.place ⊎ ((next : State) × Keeps begun (token_list (before ++ p ∷ [])) next) → ((place : ℕ) × IsDdsRefused bytes place) ⊎ Leads (before ++ p ∷ [])
    on (inl refused) = inl (p.place, refused)
    on (inr (next, kept)) =
        ⊎_elim (λ o. inr (next, kept, o))
        (λ e. absurd (word_not_last (token_list before) (b ∷ bs) next e.0 (subst (λ ts. Keeps begun ts next) (map-append (λ p. p.token) before (p ∷ [])) kept) e.1))
        (open_or_ended next)

-- the end of the bytes that were read, in all
front_of_all : (done rest : List ℕ) (b : ℕ) → take (length done + 1) (done ++ b ∷ rest) ≡ done ++ b ∷ []
front_of_all done rest b = ap (take (length done + 1)) (sym (append_assoc done (b ∷ []) rest)) ∙ take_at (done ++ b ∷ []) rest (length done + 1) (length-append done (b ∷ []))

-- what goes on behind one more byte
abbrev GoesOn : List ℕ → ℕ → List ℕ → Type 0
GoesOn done b rest = (s : State) → Keeps begun (tokens_of (done ++ b ∷ [])) s → IsOpenState s → Verdict (done ++ b ∷ rest)

ended_by : (done rest : List ℕ) (b : ℕ) (ts : List Token) (s : State) (d : Dataset) → tokens_of (done ++ b ∷ []) ≡ ts ++ token.sign b ∷ [] → Keeps begun (tokens_of (done ++ b ∷ [])) s → s ≡ ended d → IsEnded (done ++ b ∷ rest) (length done + 1) d
ended_by done rest b ts s d grown is same =
    let whole = front_of_all done rest b in
    let kept : Keeps begun (tokens_of (done ++ b ∷ [])) (ended d) = subst (λ z. Keeps begun (tokens_of (done ++ b ∷ [])) z) same is in
    let last = last_semicolon ts (token.sign b) d (subst (λ us. StandsFor us d) grown (ended_stands (tokens_of (done ++ b ∷ [])) d kept).0) in
    let byte : b ≡ 59 = cc in
    ended_text (done ++ b ∷ rest) (length done + 1) d (omega (arith, length-append done (b ∷ rest))) (subst (λ bs. Keeps begun (tokens_of bs) (ended d)) (sym whole) kept)
    (done, whole ∙ ap (λ c. done ++ c ∷ []) byte)

-- behind the byte that ends a word
behind_byte : (done rest : List ℕ) (b : ℕ) (before more : List Placed) (at : ℕ) (c : Bool) (s : State)
    → tokens_of (done ++ b ∷ []) ≡ token_list (before ++ (if c then record { token = token.sign b; place = at } ∷ [] else []))
    → whole_tokens (done ++ b ∷ rest) ≡ before ++ ((if c then record { token = token.sign b; place = at } ∷ [] else []) ++ more) → Keeps begun (token_list before) s → IsOpenState s → GoesOn done b rest → Verdict (done ++ b ∷ rest)
behind_byte done rest b before more at false s grown split is open' goes_on = goes_on s (subst (λ ts. Keeps begun ts s) (sym (grown ∙ ap token_list (append-nil before))) is) open'
behind_byte done rest b before more at true s grown split is open' goes_on = on (judged (done ++ b ∷ rest) before more p s split is open')
  where
    p : Placed
    p = record { token = token.sign b; place = at }

    on : IsDdsRefused (done ++ b ∷ rest) p.place ⊎ ((next : State) × Keeps begun (token_list (before ++ p ∷ [])) next) → Verdict (done ++ b ∷ rest)
    on (inl refused) = inr (inl (p.place, refused))
    on (inr (next, kept)) =
        let here : Keeps begun (tokens_of (done ++ b ∷ [])) next = subst (λ ts. Keeps begun ts next) (sym grown) kept in
        ⊎_elim (λ o. goes_on next here o)
        (λ e. inl (length done + 1, e.0, ended_by done rest b (token_list before) next e.0 (grown ∙ map-append (λ p. p.token) before (p ∷ [])) here e.1))
        (open_or_ended next)

one_byte : (done rest : List ℕ) (b : ℕ) (s : State) → Keeps begun (tokens_of done) s → IsOpenState s → GoesOn done b rest → Verdict (done ++ b ∷ rest)
one_byte done rest b s is open' goes_on = from (is_plain b) refl
  where
    bytes : List ℕ
    bytes = done ++ b ∷ rest

    whole : List Placed
    whole = whole_tokens done

    word_end : List Placed
    word_end = ended_word (left done) (length done)

    own : List Placed
    own = sign_at b (length done)

    later : List Placed
    later = tokens_from [] (length done + 1) rest

    grown : is_plain b ≡ false → tokens_of (done ++ b ∷ []) ≡ token_list ((whole ++ word_end) ++ own)
    grown stops = ap token_list (tokens-stop done b [] stops ∙ ap (λ ps. whole ++ ps) (append-nil (word_end ++ own)) ∙ sym (append_assoc whole word_end own))

    split : is_plain b ≡ false → whole_tokens bytes ≡ whole ++ (word_end ++ (own ++ later))
    split stops = tokens-stop done b rest stops ∙ ap (λ ps. whole ++ ps) (append_assoc word_end own later)

    behind : is_plain b ≡ false → ((place : ℕ) × IsDdsRefused bytes place) ⊎ Leads (whole ++ word_end) → Verdict bytes
    behind stops (inl refused) = inr (inl refused)
    behind stops (inr (next, kept, o)) =
        behind_byte done rest b (whole ++ word_end) later (length done) (is_sign b) next (grown stops) (split stops ∙ sym (append_assoc whole word_end (own ++ later))) kept o goes_on

    from : (c : Bool) → is_plain b ≡ c → Verdict bytes
    from true plain = goes_on s (subst (λ ts. Keeps begun ts s) (sym (tokens-plain done b plain)) is) open'
    from false stops = behind stops (behind_word bytes whole (own ++ later) (left done) (length done) s (split stops) is open')

classify : (done rest : List ℕ) (s : State) → Keeps begun (tokens_of done) s → IsOpenState s → Verdict (done ++ rest)
classify done [] s is open' = inr (inr (subst IsOpen (sym (append-nil done)) (open_text done s is open')))
classify done (b ∷ rest) s is open' = one_byte done rest b s is open' (λ next kept o. subst Verdict (append_assoc done (b ∷ []) rest) (classify (done ++ b ∷ []) rest next kept o))

-- with the limit
pub every_reading : (bytes : List ℕ) → ((n : ℕ) × (d : Dataset) × IsDone bytes n d) ⊎ ((place : ℕ) × IsBadText bytes place) ⊎ IsUnfinished bytes
every_reading bytes = from (classify [] (take limit bytes) begun refl tt)
  where
    from : Verdict (take limit bytes) → ((n : ℕ) × (d : Dataset) × IsDone bytes n d) ⊎ ((place : ℕ) × IsBadText bytes place) ⊎ IsUnfinished bytes
    from (inl done) = inl done
    from (inr (inl (place, refused))) = inr (inl (place, inl refused))
    from (inr (inr open')) =
        ⊎_elim (λ short. inr (inr (subst IsOpen (take_all limit bytes (omega arith)) open', short))) (λ long. inr (inl (limit, inr (open', long, refl)))) (cases_lt (length bytes) limit)
