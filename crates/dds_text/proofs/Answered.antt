-- What the answers of the reader's parts say of the bytes.
use Rattle.std.proofs.Common.{◌≡◌, ℕ, ◌≤◌, inr, List, [], ◌∷◌, ◌++◌, length, map, take, Bool, true, false, Option, Some, None, if◌then◌else◌, refl, sym, subst, ◌∙◌, length-append, take-take, take_at, arith}
use Rattle.std.proofs.lemmas.List.{length-take}
use Rattle.std.specs.Option.{option_and_then, option_map_or}
use Rattle.dap_types.specs.Model.{Dataset}
use Rattle.dap_model.specs.Tokens.{Token, Placed, whole_tokens, tokens_of}
use Rattle.dds_text.specs.inner.Held.{go, unbroken, state_view}
use Rattle.dds_text.specs.inner.Machine.{Moved, keeps, step, refuses, Keeps}
use Rattle.dds_text.specs.Reading.{IsDdsRefused, IsOpen, limit, IsDone, IsBadText}
use Rattle.dds_text.specs.inner.Standing.{run, EndsDds}
use Rattle.dds_text.specs.inner.States.{State, begun, ended, IsOpenState}
use Rattle.dds_text.specs.declared.level.Levels as code_levels
use Rattle.dds_text.specs.declared.state.State as code_state
use Rattle.dds_text.specs.declared.state.State.TheVariants as state
use Rattle.dds_text.proofs.Readings.{open_text, ended_text, refused_text}

-- one more token, kept or refused
unbroken_some : (o : Option Moved) (next : State) → option_and_then unbroken o ≡ Some next → o ≡ Some (keeps next)
unbroken_some None next is = cc
unbroken_some (Some m) next is = from m.breaks refl is
  where
    from : (b : Bool) → m.breaks ≡ b → (if b then None else Some m.next) ≡ Some next → Some m ≡ Some (keeps next)
    from true broken same = cc
    from false whole same = let to : m.next ≡ next = cc in (λ i. Some (record { next = to i; breaks = whole i }))

unbroken_none : (o : Option Moved) → option_and_then unbroken o ≡ None → option_map_or (λ m. m.breaks) o true ≡ true
unbroken_none None is = refl
unbroken_none (Some m) is = from m.breaks is
  where
    from : (b : Bool) → (if b then None else Some m.next) ≡ None → b ≡ true
    from true same = refl
    from false same = cc

pub stop_refuses : (s : State) (t : Token) → go s t ≡ None → refuses s t ≡ true
stop_refuses s t is = unbroken_none (step s t) is

pub run_keeps : (s to : State) (ts : List Token) → run s ts ≡ Some to → Keeps s ts to
run_keeps s to [] is = cc
run_keeps s to (t ∷ ts) is = from (go s t) refl is (λ next. run_keeps next to ts)
  where
    from : (o : Option State) → go s t ≡ o → option_and_then (λ next. run next ts) o ≡ Some to → ((next : State) → run next ts ≡ Some to → Keeps next ts to) → Keeps s (t ∷ ts) to
    from None none same rest = cc
    from (Some next) some same rest = (next, unbroken_some (step s t) next some, rest next same)

-- what is held is open
pub held_open : (levels : code_levels.Levels) (s : code_state.State) → IsOpenState (state_view levels s)
held_open levels state.Begun = tt
held_open levels s = tt

pub open_read : (bytes : List ℕ) (s : State) → run begun (tokens_of bytes) ≡ Some s → IsOpenState s → IsOpen bytes
open_read bytes s is open' = open_text bytes s (run_keeps begun s (tokens_of bytes) is) open'

pub stopped_read : (bytes : List ℕ) (before more : List Placed) (bad : Placed) (s : State) → whole_tokens bytes ≡ before ++ bad ∷ more → run begun (map (λ p. p.token) before) ≡ Some s → IsOpenState s → go s bad.token ≡ None
    → IsDdsRefused bytes bad.place
stopped_read bytes before more bad s split is open' none =
    refused_text bytes before more bad s split (run_keeps begun s (map (λ (p : Placed). p.token) before) is) open' (stop_refuses s bad.token none)

-- the end of a text within the limit, whatever follows
pub done_read : (bytes more : List ℕ) (d : Dataset) → EndsDds bytes d → length bytes ≤ limit → IsDone (bytes ++ more) (length bytes) d
done_read bytes more d (is, last) le =
    let n : ℕ = length bytes in
    let all : List ℕ = bytes ++ more in
    let same : take n (take limit all) ≡ bytes = take-take n limit all le ∙ take_at bytes more n refl in
    let within : n ≤ length (take limit all) = long_front limit all n le (omega (arith, length-append bytes more)) in
    ended_text (take limit all) n d within (subst (λ bs. Keeps begun (tokens_of bs) (ended d)) (sym same) (run_keeps begun (ended d) (tokens_of bytes) is)) (last.0, same ∙ last.1)
  where
    long_front : (k : ℕ) (bytes : List ℕ) (n : ℕ) → n ≤ k → n ≤ length bytes → n ≤ length (take k bytes)
    long_front k bytes n le within = omega (arith, length-take k bytes)

-- bytes that reach the limit and are open
pub long_read : (bytes more : List ℕ) → IsOpen bytes → length bytes ≡ limit → IsBadText (bytes ++ more) limit
long_read bytes more is long =
    let same : take limit (bytes ++ more) ≡ bytes = take_at bytes more limit long in
    inr (subst IsOpen (sym same) is, omega (arith, length-append bytes more, long), refl)
