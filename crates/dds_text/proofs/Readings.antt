-- What bytes are, by the state that their tokens lead to.
use Rattle.std.proofs.Common.{◌≡◌, ℕ, ◌≤◌, ◌⊎◌, inl, inr, List, [], ◌∷◌, ◌++◌, length, map, take, drop, true, false, slice_get, Some, option_map, refl, sym, ap, subst, ◌∙◌, append-nil, take-append-drop, codes}
use Rattle.std.proofs.lemmas.List.{map-append, length-map}
use Rattle.std.proofs.lemmas.Option.{same_Some}
use Rattle.std.specs.Option.{option_map_or}
use Rattle.dap_types.specs.Model.{Dataset}
use Rattle.dap_model.specs.Grammar.{IsBad, IsFirstBad}
use Rattle.dap_model.specs.Tokens.{Token, Placed, tokens_from, whole_tokens, tokens_of}
use Rattle.dds_text.specs.inner.Machine.{Moved, keeps, step, refuses, Keeps}
use Rattle.dds_text.specs.Reading.{IsEnded, IsDdsRefused, IsOpen, Unended}
use Rattle.dds_text.specs.inner.States.{State, begun, ended, IsOpenState}
use Rattle.dds_text.specs.inner.Words.{left}
use Rattle.dds_text.proofs.Bytes.{whole_tokens-append}
use Rattle.dds_text.proofs.Verdicts.{begins, keeps_steps, none_bad, first_refused, ended_stands, reads_all}

-- a longer run goes on from where a shorter one ends
pub keeps_on : (s mid to : State) (ts us : List Token) → Keeps s ts mid → Keeps s (ts ++ us) to → Keeps mid us to
keeps_on s mid to [] us is whole = subst (λ z. Keeps z us to) is whole
keeps_on s mid to (t ∷ ts) us (next, is, rest) (next', is', rest') =
    let on : next ≡ next' = ap (λ (m : Moved). m.next) (same_Some (keeps next) (keeps next') (sym is ∙ is')) in
    keeps_on next mid to ts us rest (subst (λ z. Keeps z (ts ++ us) to) (sym on) rest')

pub keeps_more : (s mid to : State) (ts us : List Token) → Keeps s ts mid → Keeps mid us to → Keeps s (ts ++ us) to
keeps_more s mid to [] us is second = subst (λ z. Keeps z us to) (sym is) second
keeps_more s mid to (t ∷ ts) us (next, is, rest) second = (next, is, keeps_more next mid to ts us rest second)

-- behind the end nothing goes on
pub behind_ended : (d : Dataset) (ts : List Token) (to : State) → Keeps (ended d) ts to → (ts ≡ []) × (ended d ≡ to)
behind_ended d [] to is = (refl, is)
behind_ended d (t ∷ ts) to (next, is, rest) = cc

not_open : (s : State) (d : Dataset) → IsOpenState s → ended d ≡ s → ⊥
not_open s d open' same = subst IsOpenState (sym same) open'

pub same_dataset : (d e : Dataset) → ended d ≡ ended e → d ≡ e
same_dataset d e same = cc

-- the tokens of more bytes
pub tokens_grow : (text more : List ℕ) → tokens_of (text ++ more) ≡ tokens_of text ++ map (λ (p : Placed). p.token) (tokens_from (left text) (length text) more)
tokens_grow text more = ap (map (λ (p : Placed). p.token)) (whole_tokens-append text more) ∙ map-append (λ p. p.token) (whole_tokens text) (tokens_from (left text) (length text) more)

-- the machine reads a text to its end
pub ended_kept : (bytes : List ℕ) (n : ℕ) (d : Dataset) → IsEnded bytes n d → Keeps begun (tokens_of (take n bytes)) (ended d)
ended_kept bytes n d is = reads_all (tokens_of (take n bytes)) d is.is_text.stands is.is_text.well_formed

pub tokens_split : (bytes : List ℕ) (n : ℕ) → (more : List Token) × (tokens_of bytes ≡ tokens_of (take n bytes) ++ more)
tokens_split bytes n = (
  map (λ (p : Placed). p.token) (tokens_from (left (take n bytes)) (length (take n bytes)) (drop n bytes)),
  ap tokens_of (sym (take-append-drop n bytes)) ∙ tokens_grow (take n bytes) (drop n bytes),
)

-- an open state
pub open_text : (bytes : List ℕ) (s : State) → Keeps begun (tokens_of bytes) s → IsOpenState s → IsOpen bytes
open_text bytes s is open' =
    let (more, d, ds, stands, flags) = begins (tokens_of bytes) (map (λ t. false) (tokens_of bytes)) s (keeps_steps begun s (tokens_of bytes) is) in
    record {
      begins = (more, d, stands);
      good = λ k lt bad. none_bad (tokens_of bytes) [] s k is lt (subst (λ ts. IsBad ts k) (sym (append-nil (tokens_of bytes))) bad);
      unended = none_ends;
    }
  where
    none_ends : Unended bytes
    none_ends n d is_ended =
        let (more, split) = tokens_split bytes n in
        let rest = keeps_on begun (ended d) s (tokens_of (take n bytes)) more (ended_kept bytes n d is_ended) (subst (λ ts. Keeps begun ts s) split is) in
        not_open s d open' (behind_ended d more s rest).1

-- the end
pub ended_text : (bytes : List ℕ) (n : ℕ) (d : Dataset) → n ≤ length bytes → Keeps begun (tokens_of (take n bytes)) (ended d) → ((w : List ℕ) × (take n bytes ≡ w ++ codes ";")) → IsEnded bytes n d
ended_text bytes n d le is last =
    let (stands, fits) = ended_stands (tokens_of (take n bytes)) d is in
    record { within = le; is_text = record { stands = stands; ends = last; well_formed = fits } }

-- a token that is refused
token_at : (before more : List Placed) (bad : Placed) → slice_get (before ++ bad ∷ more) (length before) ≡ Some bad
token_at [] more bad = refl
token_at (p ∷ before) more bad = token_at before more bad

-- of two fronts of one list one goes on to the other
apart : (xs us vs : List Token) (ys zs : List Token) (t : Token) → us ++ vs ≡ xs → ys ++ t ∷ zs ≡ xs → ((ws : List Token) × (ys ≡ us ++ ws)) ⊎ ((ws : List Token) × (us ≡ ys ++ t ∷ ws))
apart xs [] vs ys zs t a b = inl (ys, refl)
apart xs (u ∷ us) vs [] zs t a b = let same : u ≡ t = cc in inr (us, ap (λ x. x ∷ us) same)
apart [] (u ∷ us) vs (y ∷ ys) zs t a b = cc
apart (x ∷ xs) (u ∷ us) vs (y ∷ ys) zs t a b =
    let here : y ≡ u = cc in
    let first : us ++ vs ≡ xs = cc in
    let second : ys ++ t ∷ zs ≡ xs = cc in
    on here (apart xs us vs ys zs t first second)
  where
    on : y ≡ u → ((ws : List Token) × (ys ≡ us ++ ws)) ⊎ ((ws : List Token) × (us ≡ ys ++ t ∷ ws)) → ((ws : List Token) × (y ∷ ys ≡ u ∷ us ++ ws)) ⊎ ((ws : List Token) × (u ∷ us ≡ y ∷ ys ++ t ∷ ws))
    on here (inl (ws, is)) = inl (ws, (let g : y ∷ ys ≡ u ∷ us ++ ws = cc in g))
    on here (inr (ws, is)) = inr (ws, (let g : u ∷ us ≡ y ∷ ys ++ t ∷ ws = cc in g))

kept_not_refused : (s next : State) (t : Token) → step s t ≡ Some (keeps next) → refuses s t ≡ true → ⊥
kept_not_refused s next t is refused = let none : false ≡ true = ap (λ o. option_map_or (λ m. m.breaks) o true) (sym is) ∙ refused in cc

pub refused_text : (bytes : List ℕ) (before more : List Placed) (bad : Placed) (s : State) → whole_tokens bytes ≡ before ++ bad ∷ more → Keeps begun (map (λ p. p.token) before) s → IsOpenState s → refuses s bad.token ≡ true
    → IsDdsRefused bytes bad.place
refused_text bytes before more bad s split is open' refused =
    let first = first_refused (map (λ p. p.token) before) (map (λ (p : Placed). p.token) more) bad.token s is refused in
    let tokens : tokens_of bytes ≡ map (λ (p : Placed). p.token) before ++ bad.token ∷ map (λ (p : Placed). p.token) more = ap (map (λ (p : Placed). p.token)) split ∙ map-append (λ p. p.token) before (bad ∷ more) in
    let count : length (map (λ (p : Placed). p.token) before) ≡ length before = length-map before (λ p. p.token) in
    record {
      bad = (
        length before,
        subst (λ k. IsFirstBad (tokens_of bytes) k) count (subst (λ ts. IsFirstBad ts (length (map (λ (p : Placed). p.token) before))) (sym tokens) first),
        ap (λ ps. option_map (λ p. p.place) (slice_get ps (length before))) split ∙ ap (option_map (λ p. p.place)) (token_at before more bad),
      );
      unended = none_ends tokens;
    }
  where
    none_ends : tokens_of bytes ≡ map (λ (p : Placed). p.token) before ++ bad.token ∷ map (λ (p : Placed). p.token) more → Unended bytes
    none_ends tokens n d is_ended =
        let (rest, split') = tokens_split bytes n in
        on (apart (tokens_of bytes) (tokens_of (take n bytes)) rest (map (λ (p : Placed). p.token) before) (map (λ (p : Placed). p.token) more) bad.token (sym split') (sym tokens))
      where
        kept : Keeps begun (tokens_of (take n bytes)) (ended d)
        kept = ended_kept bytes n d is_ended

        on : ((ws : List Token) × (map (λ (p : Placed). p.token) before ≡ tokens_of (take n bytes) ++ ws)) ⊎ ((ws : List Token) × (tokens_of (take n bytes) ≡ map (λ (p : Placed). p.token) before ++ bad.token ∷ ws)) → ⊥
        on (inl (ws, same)) =
            let rest = keeps_on begun (ended d) s (tokens_of (take n bytes)) ws kept (subst (λ ts. Keeps begun ts s) same is) in
            not_open s d open' (behind_ended d ws s rest).1
        on (inr (ws, same)) =
            let (next, goes, rest) = keeps_on begun s (ended d) (map (λ (p : Placed). p.token) before) (bad.token ∷ ws) is (subst (λ ts. Keeps begun ts (ended d)) same kept) in
            kept_not_refused s next bad.token goes refused
