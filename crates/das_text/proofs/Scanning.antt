-- How the reader goes over the tokens of a DAS, and what its answers say of the text.
use Rattle.std.proofs.Common.{◌≡◌, ℕ, ◌+◌, ◌<◌, ◌≤◌, List, ◌∷◌, ◌++◌, length, drop, get_or, refl, sym, ap, ◌∙◌, append-nil, IsTrue, arith, inl, inr, length-take, Option, Some, None}
use Rattle.std.specs.Prelude.{option_map}
use Rattle.std.specs.List.{list_all}
use Rattle.std.proofs.lemmas.List.{drop_all}
use Rattle.plain_lemmas.proofs.Lists.{drop_next}
use Rattle.viable.specs.Runs.{IsRunTo}
use Rattle.text_tokens.specs.Tokens.{Token, Next, NoToken, is_white}
use Rattle.text_tokens.proofs.Machines.{moves, starts, spells_of, bad_of, breaks_of}
use Rattle.das_text.specs.Grammar.{signs, IsDas}
use Rattle.das_text.specs.inner.Held.{state_view}
use Rattle.das_text.specs.inner.Machine.{State, start, step, ended, IsOpenState}
use Rattle.das_text.specs.Model.{Attributes}
use Rattle.das_text.specs.Reading.{front, limit, DasOf, HasBehind, IsTrailing, IsBad, IsUnended}
use Rattle.das_text.specs.inner.Standing.{Stands, StopsAt}
use Rattle.das_text.specs.declared.entries.Attributes as code
use Rattle.das_text.specs.declared.levels.Levels.{Levels}
use Rattle.das_text.specs.declared.state.State as code_state
use Rattle.das_text.specs.declared.state.State.TheVariants as state
use Rattle.das_text.specs.declared.state.Stop.TheVariants.{Bad, End}
use Rattle.das_text.proofs.Language.{machine}

pub is_open : (l : Levels) (s : code_state.State) → ((a : code.Attributes) → s ≡ state.Ended a → ⊥) → IsOpenState (state_view l s)
is_open l state.Begun h = tt
is_open l state.Headed h = tt
is_open l state.Inside h = tt
is_open l (state.Worded w) h = tt
is_open l (state.Named a) h = tt
is_open l (state.Valued a) h = tt
is_open l (state.Parted a) h = tt
is_open l (state.Ended a) h = absurd (h a refl)

-- over a token to the next state
pub goes_on : (text : List ℕ) (at place behind : ℕ) (t : Token) (s : State) (l : Levels) (next : code_state.State) (found : Option code_state.State) → Stands text at s → Next signs text at place behind t → option_map (state_view l) found ≡ step s t → found ≡ Some next → Stands text behind (state_view l next)
goes_on text at place behind t s l next found st n e f = moves signs step start text at place behind t s (state_view l next) st n (sym e ∙ ap (option_map (state_view l)) f)

pub stops : (text : List ℕ) (at place behind : ℕ) (t : Token) (s : State) (l : Levels) (found : Option code_state.State) → Stands text at s → IsOpenState s → Next signs text at place behind t → option_map (state_view l) found ≡ step s t → found ≡ None → StopsAt text (Bad place)
stops text at place behind t s l found st o n e f = (at, behind, t, s, st, o, n, sym e ∙ ap (option_map (state_view l)) f)

pub stops_end : (text : List ℕ) (at : ℕ) (s : State) → Stands text at s → IsOpenState s → NoToken signs (drop at text) → StopsAt text End
stops_end text at s st o n = (at, s, st, o, n)

pub starts_here : (text : List ℕ) → Stands text 0 start
starts_here text = starts signs step start text

-- what stands behind

abbrev pub White : List ℕ → ℕ → ℕ → Type 0
White text from to = (run : List ℕ) × IsRunTo is_white text from to run

pub nothing_behind : (text : List ℕ) (from to : ℕ) → White text from to → length text ≤ to → IsTrue (list_all is_white (drop from text))
nothing_behind text from to (run, r) h =
    let e : drop from text ≡ run = r.is_run_of.whole ∙ ap (λ (x : List ℕ). run ++ x) (drop_all to text h) ∙ append-nil run in
    (rw e r.is_run_of.of_class)

pub something_behind : (text : List ℕ) (from to : ℕ) → White text from to → to < length text → HasBehind text from to
something_behind text from to (run, r) h = record {
  white = run;
  byte = get_or text to 0;
  rest = drop (to + 1) text;
  bytes_are = r.is_run_of.whole ∙ ap (λ (x : List ℕ). run ++ x) (drop_next text to h);
  all_white = r.is_run_of.of_class;
  other = (let d : drop to text ≡ get_or text to 0 ∷ drop (to + 1) text = drop_next text to h in (rw d at r.longest));
  place_is = r.is_run_of.to_is;
}

-- what the reader's answers say of the whole text

pub das_of : (text : List ℕ) (behind : ℕ) (a : Attributes) → Stands (front text) behind (ended a) → IsTrue (list_all is_white (drop behind text)) → DasOf text a
das_of text behind a st white = record { behind = behind; ends = spells_of signs IsDas step start ended IsOpenState machine (front text) behind a st; white = white }

pub trailing_of : (text : List ℕ) (behind place : ℕ) (a : Attributes) → Stands (front text) behind (ended a) → HasBehind text behind place → IsTrailing text place
trailing_of text behind place a st h = record { behind = behind; attributes = a; ends = spells_of signs IsDas step start ended IsOpenState machine (front text) behind a st; trails = h }

pub is_bad : (text : List ℕ) (place : ℕ) → StopsAt (front text) (Bad place) → IsBad text place
is_bad text place s = inl (bad_of signs IsDas step start ended IsOpenState machine (front text) place s)

pub is_unended : (text : List ℕ) → StopsAt (front text) End → IsUnended text
is_unended text s = breaks_of signs IsDas step start ended IsOpenState machine (front text) s

pub is_long : (text : List ℕ) → StopsAt (front text) End → limit ≤ length text → IsBad text limit
is_long text s le = inr (is_unended text s, le, refl)

pub front_within : (text : List ℕ) (behind : ℕ) → behind ≤ length (front text) → behind ≤ length text
front_within text behind le = omega (arith, le, length-take limit text)
