-- From the steps of the parser to its tokens.
use Rattle.std.proofs.Common.{◌≡◌, Some, refl, sym, ap, subst, ◌∙◌}
use Rattle.dap_types.specs.declared.declarations.Dataset.{Dataset}
use Rattle.dap_model.specs.Tokens.{Token}
use Rattle.dds_text.specs.inner.Held.{state_view, IsSound, IsNotLast, MovesTo, go}
use Rattle.dds_text.specs.inner.Machine.{step}
use Rattle.dds_text.specs.inner.States.{State}
use Rattle.dds_text.specs.declared.level.Levels.{Levels}
use Rattle.dds_text.specs.declared.parser.Parser.{Parser}
use Rattle.dds_text.specs.declared.state.State as code
use Rattle.dds_text.specs.declared.state.State.TheVariants as state

pub not_last : (s : code.State) → ((d : Dataset) → s ≡ state.DatasetCalled d → ⊥) → IsNotLast s
not_last state.Begun h = tt
not_last state.Headed h = tt
not_last state.Inside h = tt
not_last (state.Declaring r t) h = tt
not_last (state.Opening k) h = tt
not_last (state.InSequence cs) h = tt
not_last (state.InGrid g) h = tt
not_last (state.InMaps m) h = tt
not_last (state.Closed w) h = tt
not_last (state.Called m) h = tt
not_last (state.DatasetClosed ms) h = tt
not_last (state.DatasetCalled d) h = h d refl

-- the parser holds the state that a token leads to
pub moved_on : (l l' : Levels) (st out next : code.State) (p : Parser) (s : State) (t : Token) → out ≡ st → (s ≡ state_view l st) × IsSound l st → p ≡ record { levels = l'; state = next }
    → (IsSound l out → MovesTo (step (state_view l out) t) l' (Some next)) → (x : State) × (go s t ≡ Some x) × ((x ≡ state_view p.levels p.state) × IsSound p.levels p.state)
moved_on l l' st out next p s t e holds rests moves =
    let (goes, sound) = moves (subst (IsSound l) (sym e) holds.1) in (
      state_view l' next,
      ap (λ z. go z t) (holds.0 ∙ ap (state_view l) (sym e)) ∙ goes,
      subst (λ (q : Parser). (state_view l' next ≡ state_view q.levels q.state) × IsSound q.levels q.state) (sym rests) (refl, sound),
    )
