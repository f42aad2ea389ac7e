-- A decoder that has read nothing.
use Rattle.std.proofs.Common.{◌≡◌, ℕ, ◌<◌, ◌^◌, codes, List, [], ◌∷◌, ◌++◌, length, refl, sym, ap, ◌∙◌, subst, arith}
use Rattle.std.specs.Bool.{⊤}
use Rattle.dap_types.specs.Model.{Member, Members, scalar, array, structure, grid, sequence, no_members, member, product, sizes}
use Rattle.dap_types.specs.declared.declarations.ArrayDecl.{ArrayDecl}
use Rattle.dap_types.specs.declared.declarations.BaseType.{BaseType}
use Rattle.dap_types.specs.declared.declarations.BaseType.TheVariants.{Byte, Int16, UInt16, Int32, UInt32, Float32, Float64, Text, Url}
use Rattle.dap_types.specs.WellFormed.{IsWellFormed}
use Rattle.xdr_fields.specs.Wants.{Want, a_count, a_value, a_byte, a_filler, a_text, a_padding, rows, Steps, array_wants, room, said, says_next, wants, wants_all, wants_of, wants_of_array, wants_of_arrays}
use Rattle.dap_model.specs.Xdr.{SpellsFields}
use Rattle.xdr_fields.proofs.Judged.{no_steps}
use Rattle.xdr_decode.specs.After.{Reads, Stands, DecoderStandsAfter, dataset_of}
use Rattle.xdr_decode.specs.inner.Places.{HaveMarks, IsOwn, IsPlaced, wants_left}
use Rattle.xdr_decode.specs.declared.decoder.Decoder.{Decoder}
use Rattle.xdr_decode.specs.declared.decoder.State.TheVariants as state
use Rattle.xdr_decode.specs.declared.place.Place.{Place}
use Rattle.xdr_decode.specs.declared.place.Stage.TheVariants as stage
use Rattle.std.proofs.lemmas.List.Elements.{All-nil}

pub spells_none : SpellsFields [] []
spells_none = refl

pub said_none : (ws : List Want) → said ws [] ≡ []
unfolding said
said_none ws = refl

pub next_none : (ws : List Want) → says_next ws [] ≡ []
next_none [] = refl
next_none (a_count n ∷ ws) = refl
next_none (a_value path base ∷ ws) = refl
next_none (a_byte path ∷ ws) = refl
next_none (a_filler n ∷ ws) = refl
next_none (a_text n ∷ ws) = refl
next_none (a_padding n ∷ ws) = refl
next_none (rows above name columns row ∷ ws) = refl

-- the first field of a variable is no string, and has bytes
abbrev IsBeginner : Want → Type 0
IsBeginner (a_count n) = ⊤
IsBeginner (a_value path base) = ⊤
IsBeginner (rows above name columns row) = ⊤
IsBeginner w = ⊥

abbrev Begin : List Want → Type 0
Begin [] = ⊤
Begin (w ∷ ws) = IsBeginner w

begin_more : (us vs : List Want) → Begin us → Begin vs → Begin (us ++ vs)
begin_more [] vs b c = c
begin_more (u ∷ us) vs b c = b

begin_array : (base : BaseType) (path ns : List ℕ) (n : ℕ) → Begin (array_wants base path ns n)
begin_array Byte path ns n = tt
begin_array Int16 path ns n = tt
begin_array UInt16 path ns n = tt
begin_array Int32 path ns n = tt
begin_array UInt32 path ns n = tt
begin_array Float32 path ns n = tt
begin_array Float64 path ns n = tt
begin_array Text path ns n = tt
begin_array Url path ns n = tt

begin_arrays : (above : List ℕ) (arrays : List ArrayDecl) → Begin (wants_of_arrays above arrays)
begin_arrays above [] = tt
begin_arrays above (a ∷ arrays) = begin_more (wants_of_array above a) (wants_of_arrays above arrays) (begin_array a.base (above ++ a.name) (sizes a) (product (sizes a))) (begin_arrays above arrays)

mutual
  begin_member : (above : List ℕ) (m : Member) → Begin (wants above m)
  begin_member above (scalar column) = tt
  begin_member above (array a) = begin_array a.base (above ++ a.name) (sizes a) (product (sizes a))
  begin_member above (structure name parts) = begin_members (above ++ name ++ codes ".") parts
  begin_member above (grid name a maps) = begin_arrays (above ++ name ++ codes ".") (a ∷ maps)
  begin_member above (sequence name columns) = tt

  begin_members : (above : List ℕ) (ms : Members) → Begin (wants_all above ms)
  begin_members above no_members = tt
  begin_members above (member m ms) = begin_more (wants above m) (wants_all above ms) (begin_member above m) (begin_members above ms)

some_room : (base : BaseType) (path : List ℕ) → 0 < room (a_value path base)
some_room Byte path = omega arith
some_room Int16 path = omega arith
some_room UInt16 path = omega arith
some_room Int32 path = omega arith
some_room UInt32 path = omega arith
some_room Float32 path = omega arith
some_room Float64 path = omega arith
some_room Text path = omega arith
some_room Url path = omega arith

own_none : (p : Place) (ws : List Want) → Begin ws → IsOwn p ws [] []
own_none p [] b = (refl, refl)
own_none p (a_count n ∷ ws) b = (refl, omega arith)
own_none p (a_value path base ∷ ws) b = (refl, some_room base path)
own_none p (rows above name columns row ∷ ws) b = (refl, omega arith)
own_none p (w ∷ ws) b = absurd b

pub begins_own : (p : Place) (ws : List Want) (ms : Members) (held : List ℕ) → ws ≡ wants_all [] ms → held ≡ [] → IsOwn p ws held []
begins_own p ws ms held is none =
    subst (λ h. IsOwn p ws h []) (sym none) (own_none p ws (subst Begin (sym is) (begin_members [] ms)))

pub begins : (r : Decoder) → IsWellFormed (dataset_of r) → r.state ≡ state.Reading → r.held.items ≡ [] → r.taken ≡ r.start → r.start < 2 ^ 64
    → r.place.stage ≡ stage.Start → wants_left (dataset_of r).members r.place ≡ wants_of (dataset_of r) → IsPlaced (dataset_of r).members r.place → DecoderStandsAfter r [] []
unfolding DecoderStandsAfter
begins r well reading none taken small started left placed =
    let own = begins_own r.place (wants_left (dataset_of r).members r.place) (dataset_of r).members r.held.items left none in
    let read : Reads r [] [] =
    record {
      well_formed = well;
      front = [];
      own = [];
      fields = [];
      parts = refl;
      good = spells_none;
      steps = no_steps_to (wants_of (dataset_of r)) (wants_left (dataset_of r).members r.place) (sym left);
      is_placed = placed;
      is_own = own;
      is_put = sym (ap (λ l. l ++ says_next (wants_left (dataset_of r).members r.place) []) (said_none (wants_of (dataset_of r))) ∙ next_none (wants_left (dataset_of r).members r.place));
      have_marks = subst (λ s. HaveMarks s r.taken) (sym started) tt;
      is_place = omega (arith, taken, ap length none);
      small = omega (arith, taken, ap length none, small);
    } in
    subst (λ s. Stands r s [] []) (sym reading) (read, All-nil (λ b. b < 256))
  where
    no_steps_to : (ws vs : List Want) → ws ≡ vs → Steps ws [] vs
    no_steps_to ws vs is = subst (Steps ws []) is (no_steps ws)
