-- What was read and what was not, joined.
use Rattle.std.proofs.Common.{◌≡◌, ℕ, ◌<◌, List, [], ◌∷◌, ◌++◌, length, inl, inr, refl, ap, ◌∙◌, sym, subst, append_assoc, append-nil}
use Rattle.dap_model.specs.Xdr.{Field, SpellsField, SpellsFields}
use Rattle.xdr_fields.proofs.Judged.{leads_nowhere, steps_join}
use Rattle.xdr_fields.specs.Wants.{Want, Goes, Steps, becomes, room}
use Rattle.reply_faults.specs.declared.bad.Bad.{Bad}
use Rattle.reply_faults.specs.declared.bad.Bad.TheVariants.{Cut}
use Rattle.xdr_decode.specs.declared.field.Token.{Token}
use Rattle.xdr_decode.specs.declared.values.Stop.{Stop}
use Rattle.xdr_decode.specs.declared.values.Stop.TheVariants.{Wrong, Memory}
use Rattle.xdr_decode.specs.inner.Asked.{Is, IsFaulty}
use Rattle.xdr_decode.specs.inner.Taken.{IsTaken, Spelt, Stops}

pub spells_join : (fs gs : List Field) (a b : List ℕ) → SpellsFields fs a → SpellsFields gs b → SpellsFields (fs ++ gs) (a ++ b)
spells_join [] gs a b one two = subst (λ l. SpellsFields gs (l ++ b)) (sym one) two
spells_join (f ∷ fs) gs a b (x, y, parts, first, rest) two = (x, y ++ b, ap (λ l. l ++ b) parts ∙ append_assoc x y b, first, spells_join fs gs y b rest two)

pub spelt_none : (bytes : List ℕ) → Spelt [] bytes bytes
spelt_none bytes = ([], refl, refl)

pub spelt_then : (fs gs : List Field) (a b c : List ℕ) → Spelt fs a b → Spelt gs b c → Spelt (fs ++ gs) a c
spelt_then fs gs a b c (x, is, one) (y, also, two) = (x ++ y, is ∙ ap (λ l. x ++ l) also ∙ sym (append_assoc x y c), spells_join fs gs x y one two)

pub spelt_one : (f : Field) (own rest : List ℕ) → SpellsField f own → Spelt (f ∷ []) (own ++ rest) rest
spelt_one f own rest spelled = (own, refl, (own, [], sym (append-nil own), spelled, refl))

-- a field that was read
pub taken_spelt : (w : Want) (t : Token) (a b : List ℕ) → IsTaken w t a b → (f : Field) × Goes w f × Is t f × Spelt (f ∷ []) a b
taken_spelt w t a b (own, parts, (f, goes, spelled, is)) = (f, goes, is, (own, parts, (own, [], sym (append-nil own), spelled, refl)))

steps_more : (ws : List Want) (fs : List Field) (us vs : List Want) → Steps ws fs us → Steps (ws ++ vs) fs (us ++ vs)
unfolding Steps
steps_more ws [] us vs steps = ap (λ l. l ++ vs) steps
steps_more [] (f ∷ fs) us vs steps = absurd steps
steps_more (w ∷ ws) (f ∷ fs) us vs steps = (steps.0, subst (λ l. Steps l fs (us ++ vs)) (append_assoc (becomes w f) ws vs) (steps_more (becomes w f ++ ws) fs us vs steps.1))

-- behind what was read
pub stops_behind : (ws vs : List Want) (fs : List Field) (a b : List ℕ) (e : Stop) → Spelt fs a b → Steps ws fs vs → Stops vs b e → Stops ws a e
stops_behind ws vs fs a b Memory spelt steps stop = tt
stops_behind ws vs fs a b (Wrong kind left) (own, is, spelled) steps (inl (c, kind_is, left_is)) =
    inl (
      record {
        front = own ++ c.front;
        own = c.own;
        wanted = c.wanted;
        behind = c.behind;
        leads = record { fields = fs ++ c.leads.fields; steps = steps_join ws fs c.leads.fields vs (c.wanted ∷ c.behind) steps c.leads.steps; spelled = spells_join fs c.leads.fields own c.front spelled c.leads.spelled };
        parts = is ∙ ap (λ l. own ++ l) c.parts ∙ sym (append_assoc own c.front c.own);
        short = c.short;
      },
      kind_is,
      left_is,
    )
stops_behind ws vs fs a b (Wrong kind left) (own, is, spelled) steps (inr (c, kind_is, left_is)) =
    inr (
      record {
        front = own ++ c.front;
        own = c.own;
        rest = c.rest;
        wanted = c.wanted;
        behind = c.behind;
        fault = c.fault;
        leads = record { fields = fs ++ c.leads.fields; steps = steps_join ws fs c.leads.fields vs (c.wanted ∷ c.behind) steps c.leads.steps; spelled = spells_join fs c.leads.fields own c.front spelled c.leads.spelled };
        parts = is ∙ ap (λ l. own ++ l) c.parts ∙ sym (append_assoc own c.front (c.own ++ c.rest));
        whole = c.whole;
        is_fault = c.is_fault;
        none = c.none;
      },
      kind_is,
      left_is,
    )

-- before something else
pub stops_before : (ws vs : List Want) (a : List ℕ) (e : Stop) → Stops ws a e → Stops (ws ++ vs) a e
stops_before ws vs a Memory stop = tt
stops_before ws vs a (Wrong kind left) (inl (c, kind_is, left_is)) =
    inl (
      record {
        front = c.front;
        own = c.own;
        wanted = c.wanted;
        behind = c.behind ++ vs;
        leads = record { fields = c.leads.fields; steps = steps_more ws c.leads.fields (c.wanted ∷ c.behind) vs c.leads.steps; spelled = c.leads.spelled };
        parts = c.parts;
        short = c.short;
      },
      kind_is,
      left_is,
    )
stops_before ws vs a (Wrong kind left) (inr (c, kind_is, left_is)) =
    inr (
      record {
        front = c.front;
        own = c.own;
        rest = c.rest;
        wanted = c.wanted;
        behind = c.behind ++ vs;
        fault = c.fault;
        leads = record { fields = c.leads.fields; steps = steps_more ws c.leads.fields (c.wanted ∷ c.behind) vs c.leads.steps; spelled = c.leads.spelled };
        parts = c.parts;
        whole = c.whole;
        is_fault = c.is_fault;
        none = c.none;
      },
      kind_is,
      left_is,
    )

-- here
pub stops_short : (w : Want) (ws : List Want) (bytes : List ℕ) → length bytes < room w → Stops (w ∷ ws) bytes (Wrong Cut 0)
stops_short w ws bytes short = inl (record { front = []; own = bytes; wanted = w; behind = ws; leads = leads_nowhere (w ∷ ws); parts = refl; short = short }, refl, refl)

pub stops_bad : (w : Want) (ws : List Want) (own rest : List ℕ) (kind : Bad) → length own ≡ room w → IsFaulty w own kind → Stops (w ∷ ws) (own ++ rest) (Wrong kind (length (own ++ rest)))
stops_bad w ws own rest kind whole (fault, is_fault, kind_is, none) =
    inr (record { front = []; own = own; rest = rest; wanted = w; behind = ws; fault = fault; leads = leads_nowhere (w ∷ ws); parts = refl; whole = whole; is_fault = is_fault; none = none }, kind_is, refl)
