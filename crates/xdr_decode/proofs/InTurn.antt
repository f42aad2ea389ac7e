-- Things that are read in turn, each with its own values.
use Rattle.std.proofs.Common.{◌≡◌, ℕ, zero, suc, ◌+◌, ◌<◌, ◌≤◌, List, [], ◌∷◌, ◌++◌, length, take, drop, get_or, ap, ◌∙◌, sym, subst, arith, append_assoc, append-nil}
use Rattle.std.proofs.lemmas.List.{take_all, take_more}
use Rattle.std.specs.List.{AllZip, flat_map}
use Rattle.dap_types.specs.Model.{Tree}
use Rattle.dap_model.specs.Xdr.{Field, in_turn}
use Rattle.xdr_fields.proofs.Judged.{no_steps, steps_join}
use Rattle.xdr_fields.specs.Wants.{Want, Steps}
use Rattle.xdr_decode.specs.declared.values.Stop.{Stop}
use Rattle.xdr_decode.specs.inner.Taken.{Spelt, Stops}
use Rattle.xdr_decode.proofs.Stopping.{spelt_none, spelt_then, stops_before, stops_behind}

-- the values of the first ones were read
pub record Read {X : Type 0} (P : X → Tree → Type 0) (form : X → Tree → List Field) (xs : List X) (i : ℕ) (ts : List Tree) (start rest : List ℕ) : Type 0 where
  pub fit : AllZip P (take i xs) ts
  pub read : Spelt (in_turn form (take i xs) ts) start rest

zip_push : {X : Type 0} (P : X → Tree → Type 0) (xs : List X) (ts : List Tree) (x : X) (t : Tree) → AllZip P xs ts → P x t → AllZip P (xs ++ x ∷ []) (ts ++ t ∷ [])
zip_push P [] [] x t fit also = (also, tt)
zip_push P [] (u ∷ ts) x t fit also = absurd fit
zip_push P (y ∷ xs) [] x t fit also = absurd fit
zip_push P (y ∷ xs) (u ∷ ts) x t fit also = (fit.0, zip_push P xs ts x t fit.1 also)

form_push : {X : Type 0} (P : X → Tree → Type 0) (form : X → Tree → List Field) (xs : List X) (ts : List Tree) (x : X) (t : Tree) → AllZip P xs ts → in_turn form (xs ++ x ∷ []) (ts ++ t ∷ []) ≡ in_turn form xs ts ++ form x t
form_push P form [] [] x t fit = append-nil (form x t)
form_push P form [] (u ∷ ts) x t fit = absurd fit
form_push P form (y ∷ xs) [] x t fit = absurd fit
form_push P form (y ∷ xs) (u ∷ ts) x t fit = ap (λ l. form y u ++ l) (form_push P form xs ts x t fit.1) ∙ sym (append_assoc (form y u) (in_turn form xs ts) (form x t))

turn_lead : {X : Type 0} (P : X → Tree → Type 0) (form : X → Tree → List Field) (want : X → List Want) → ((x : X) (t : Tree) (vs : List Want) → P x t → Steps (want x ++ vs) (form x t) vs)
    → (xs : List X) (ts : List Tree) (vs : List Want) → AllZip P xs ts → Steps (flat_map want xs ++ vs) (in_turn form xs ts) vs
turn_lead P form want lead [] [] vs fit = no_steps vs
turn_lead P form want lead [] (t ∷ ts) vs fit = absurd fit
turn_lead P form want lead (x ∷ xs) [] vs fit = absurd fit
turn_lead P form want lead (x ∷ xs) (t ∷ ts) vs fit =
    let later : List Want = flat_map want xs ++ vs in
    subst (λ ws. Steps ws (in_turn form (x ∷ xs) (t ∷ ts)) vs) (sym (append_assoc (want x) (flat_map want xs) vs))
    (steps_join (want x ++ later) (form x t) (in_turn form xs ts) later vs (lead x t later fit.0) (turn_lead P form want lead xs ts vs fit.1))

pub turn_start : {X : Type 0} (P : X → Tree → Type 0) (form : X → Tree → List Field) (xs : List X) (ts : List Tree) (start : List ℕ) → ts ≡ [] → Read P form xs 0 ts start start
turn_start P form xs ts start none =
    subst (λ us. Read P form xs 0 us start start) (sym none) (record { fit = tt; read = spelt_none start })

pub turn_push : {X : Type 0} (P : X → Tree → Type 0) (form : X → Tree → List Field) (xs : List X) (i : ℕ) (ts us : List Tree) (start mid rest : List ℕ) (x : X) (t : Tree)
    → Read P form xs i ts start mid → i < length xs → x ≡ get_or xs i x → us ≡ ts ++ t ∷ [] → P x t → Spelt (form x t) mid rest → Read P form xs (i + 1) us start rest
turn_push P form xs i ts us start mid rest x t so lt is us_is fit read =
    let more : take (i + 1) xs ≡ take i xs ++ x ∷ [] = take_more xs i x lt ∙ ap (λ y. take i xs ++ y ∷ []) (sym is) in
    let whole : Spelt (in_turn form (take i xs ++ x ∷ []) (ts ++ t ∷ [])) start rest =
    subst (λ fs. Spelt fs start rest) (sym (form_push P form (take i xs) ts x t so.fit)) (spelt_then (in_turn form (take i xs) ts) (form x t) start mid rest so.read read) in
    subst (λ vs. Read P form xs (i + 1) vs start rest) (sym us_is) (record {
      fit = subst (λ ys. AllZip P ys (ts ++ t ∷ [])) (sym more) (zip_push P (take i xs) ts x t so.fit fit);
      read = subst (λ ys. Spelt (in_turn form ys (ts ++ t ∷ [])) start rest) (sym more) whole;
    })

all_apart : {X : Type 0} (want : X → List Want) (xs : List X) (i : ℕ) (x : X) → i < length xs → x ≡ get_or xs i x → flat_map want xs ≡ flat_map want (take i xs) ++ (want x ++ flat_map want (drop (suc i) xs))
all_apart want [] i x lt is = absurd (omega (arith, lt))
all_apart want (y ∷ xs) zero x lt is = ap (λ z. want z ++ flat_map want xs) (sym is)
all_apart want (y ∷ xs) (suc i) x lt is =
    ap (λ l. want y ++ l) (all_apart want xs i x (omega (arith, lt)) is) ∙ sym (append_assoc (want y) (flat_map want (take i xs)) (want x ++ flat_map want (drop (suc i) xs)))

pub turn_stop : {X : Type 0} (P : X → Tree → Type 0) (form : X → Tree → List Field) (want : X → List Want) → ((x : X) (t : Tree) (vs : List Want) → P x t → Steps (want x ++ vs) (form x t) vs)
    → (xs : List X) (i : ℕ) (ts : List Tree) (start mid : List ℕ) (x : X) (e : Stop)
    → Read P form xs i ts start mid → i < length xs → x ≡ get_or xs i x → Stops (want x) mid e → Stops (flat_map want xs) start e
turn_stop P form want lead xs i ts start mid x e so lt is stop =
    let later : List Want = want x ++ flat_map want (drop (suc i) xs) in
    subst (λ ws. Stops ws start e) (sym (all_apart want xs i x lt is))
    (stops_behind (flat_map want (take i xs) ++ later) later (in_turn form (take i xs) ts) start mid e so.read (turn_lead P form want lead (take i xs) ts later so.fit)
    (stops_before (want x) (flat_map want (drop (suc i) xs)) mid e stop))

pub turn_fit : {X : Type 0} (P : X → Tree → Type 0) (form : X → Tree → List Field) (xs : List X) (i : ℕ) (ts : List Tree) (start rest : List ℕ) → Read P form xs i ts start rest → length xs ≤ i → AllZip P xs ts
turn_fit P form xs i ts start rest so all = subst (λ ys. AllZip P ys ts) (take_all i xs all) so.fit

pub turn_read : {X : Type 0} (P : X → Tree → Type 0) (form : X → Tree → List Field) (xs : List X) (i : ℕ) (ts : List Tree) (start rest : List ℕ) → Read P form xs i ts start rest → length xs ≤ i → Spelt (in_turn form xs ts) start rest
turn_read P form xs i ts start rest so all = subst (λ ys. Spelt (in_turn form ys ts) start rest) (take_all i xs all) so.read
