-- Where the token of a slot leads.
use Rattle.std.proofs.Common.{◌≡◌, ℕ, List, [], ◌∷◌, ◌++◌, length, Bool, true, false, nat_lt, if◌then◌else◌, Option, Some, None, option_map, refl, sym, ap, subst, ◌∙◌, append_assoc, append-nil, ◌+◌, arith}
use Rattle.std.proofs.lemmas.Bool.{false≢true}
use Rattle.std.proofs.lemmas.Bool.Decides.{Decides-eqb}
use Rattle.std.proofs.lemmas.Slice.Eq.{bytes_eq-Decides}
use Rattle.std.specs.Option.{option_or}
use Rattle.dap_types.specs.declared.declarations.ArrayDecl.{ArrayDecl}
use Rattle.dap_types.specs.declared.declarations.BaseType.{BaseType}
use Rattle.dap_types.specs.declared.declarations.Column.{Column}
use Rattle.dap_types.specs.declared.declarations.Dim.{Dim}
use Rattle.dap_model.specs.Dds.{type_word}
use Rattle.dap_model.specs.Grammar.{Slot, keyword, name, size, sign, spells, Judged, fine, equals, end_of_dim, semicolon, is_other, size_slots, dim_slots, has_dims}
use Rattle.dap_model.specs.Tokens.{Token}
use Rattle.dap_model.specs.Tokens as token
use Rattle.dds_text.specs.inner.Machine.{moved, keeps, step, wants, begin, open_whole, end_size, take_size, kind_word, kind_of_word}
use Rattle.dds_text.specs.inner.States.{Levels, Role, variable, column, grid_array, grid_map, typed, named, bracketed, worded, equated, measured, Kind, State, inside, declaring, opening, in_sequence, in_grid, in_maps, ready, depth_of, next_number, is_past, is_out, repeats, wanted_size, may_have_dims, most_dims, with_dim, declared, behind_array, behind_scalar}
use Rattle.dds_text.proofs.LevelFacts.{length_last}
use Rattle.dds_text.proofs.Runs.{Goes, Runs, run_none, run_one, run_first, run_both}
use Rattle.dds_text.proofs.WordKinds.{is_type_word, is_kind_word, is_size}

pub sign_is : (b : ℕ) (t : Token) → spells (sign b) t ≡ true → t ≡ token.sign b
sign_is b (token.sign c) is = ap token.sign (sym ((Decides-eqb b c).0 is))
sign_is b (token.word w) is = absurd (false≢true is)

pub name_is : (n : List ℕ) (t : Token) → spells (name n) t ≡ true → t ≡ token.word n
name_is n (token.word w) is = ap token.word (sym ((bytes_eq-Decides n w).0 is))
name_is n (token.sign c) is = absurd (false≢true is)

-- a sign and a name have one token
pub by_sign : (s next : State) (b : ℕ) (breaks : Bool) → step s (token.sign b) ≡ Some (moved next breaks) → Goes s (record { slot = sign b; broken = breaks }) next
by_sign s next b breaks leads t is = subst (λ z. step s z ≡ Some (moved next breaks)) (sym (sign_is b t is)) leads

pub by_name : (s next : State) (n : List ℕ) (breaks : Bool) → step s (token.word n) ≡ Some (moved next breaks) → Goes s (record { slot = name n; broken = breaks }) next
by_name s next n breaks leads t is = subst (λ z. step s z ≡ Some (moved next breaks)) (sym (name_is n t is)) leads

pub wanted_goes : (slot : Slot) (next : State) (t : Token) → spells slot t ≡ true → wants slot next t ≡ Some (keeps next)
wanted_goes slot next t is = rw is refl

some_moved : (next : State) (b c : Bool) → b ≡ c → Some (moved next b) ≡ Some (moved next c)
some_moved next b c same = ap (λ z. Some (moved next z)) same

-- a type word in each of its places
pub type_in_level : (levels : Levels) (base : BaseType) (breaks : Bool) → is_out levels variable ≡ breaks → Goes (inside levels) (record { slot = keyword (type_word base); broken = breaks }) (declaring levels variable (typed base))
type_in_level levels base breaks same (token.sign c) is = absurd (false≢true is)
type_in_level levels base breaks same (token.word w) is =
    ap (λ o. option_or (option_map (begin levels variable) o) (option_map (open_whole levels) (kind_of_word w))) (is_type_word base w is)
    ∙ some_moved (declaring levels variable (typed base)) (is_out levels variable) breaks same

pub type_in_sequence : (levels : Levels) (cs : List Column) (base : BaseType) (breaks : Bool) → is_out levels (column cs) ≡ breaks
    → Goes (in_sequence levels cs) (record { slot = keyword (type_word base); broken = breaks }) (declaring levels (column cs) (typed base))
type_in_sequence levels cs base breaks same (token.sign c) is = absurd (false≢true is)
type_in_sequence levels cs base breaks same (token.word w) is =
    ap (λ o. option_map (begin levels (column cs)) o) (is_type_word base w is) ∙ some_moved (declaring levels (column cs) (typed base)) (is_out levels (column cs)) breaks same

pub type_in_grid : (levels : Levels) (base : BaseType) (breaks : Bool) → is_out levels grid_array ≡ breaks
    → Goes (in_grid levels ready) (record { slot = keyword (type_word base); broken = breaks }) (declaring levels grid_array (typed base))
type_in_grid levels base breaks same (token.sign c) is = absurd (false≢true is)
type_in_grid levels base breaks same (token.word w) is =
    ap (λ o. option_map (begin levels grid_array) o) (is_type_word base w is) ∙ some_moved (declaring levels grid_array (typed base)) (is_out levels grid_array) breaks same

pub type_in_maps : (levels : Levels) (g : ArrayDecl) (maps : List ArrayDecl) (base : BaseType) (breaks : Bool) → is_out levels (grid_map g maps) ≡ breaks
    → Goes (in_maps levels g maps) (record { slot = keyword (type_word base); broken = breaks }) (declaring levels (grid_map g maps) (typed base))
type_in_maps levels g maps base breaks same (token.sign c) is = absurd (false≢true is)
type_in_maps levels g maps base breaks same (token.word w) is =
    ap (λ o. option_map (begin levels (grid_map g maps)) o) (is_type_word base w is) ∙ some_moved (declaring levels (grid_map g maps) (typed base)) (is_out levels (grid_map g maps)) breaks same

pub kind_in_level : (levels : Levels) (kind : Kind) (breaks : Bool) → is_past (depth_of levels) (next_number levels) ≡ breaks
    → Goes (inside levels) (record { slot = keyword (kind_word kind); broken = breaks }) (opening levels kind)
kind_in_level levels kind breaks same (token.sign c) is = absurd (false≢true is)
kind_in_level levels kind breaks same (token.word w) is =
    let (no_type, found) = is_kind_word kind w is in
    ap (λ o. option_or (option_map (begin levels variable) o) (option_map (open_whole levels) (kind_of_word w))) no_type
    ∙ ap (λ o. option_map (open_whole levels) o) found
    ∙ some_moved (opening levels kind) (is_past (depth_of levels) (next_number levels)) breaks same

-- a name and the dimensions behind it
abbrev pub with_dims : ArrayDecl → List Dim → ArrayDecl
with_dims a dims = record { name = a.name; base = a.base; dims = a.dims ++ dims }

size_run : (levels : Levels) (role : Role) (a : ArrayDecl) (own : Option (List ℕ)) (n : ℕ)
    → Runs (declaring levels role (bracketed a)) (size_slots (wanted_size role) own n) (declaring levels role (named (with_dim a (record { name = own; size = n }))))
size_run levels role a None n =
    let to = declaring levels role (named (with_dim a (record { name = None; size = n }))) in
    run_first (declaring levels role (bracketed a)) to (fine (size n)) (record { slot = sign 93; broken = is_other (wanted_size role) n } ∷ []) first
  where
    last : (w : List ℕ) → spells (size n) (token.word w) ≡ true
        → Runs (declaring levels role (worded a w)) (record { slot = sign 93; broken = is_other (wanted_size role) n } ∷ []) (declaring levels role (named (with_dim a (record { name = None; size = n }))))
    last w is =
        let to = declaring levels role (named (with_dim a (record { name = None; size = n }))) in
        run_one (declaring levels role (worded a w)) to to (record { slot = sign 93; broken = is_other (wanted_size role) n }) []
        (by_sign (declaring levels role (worded a w)) to 93 (is_other (wanted_size role) n) (ap (option_map (end_size levels role a)) (is_size n w is)))
        (run_none to)

    first : (t : Token) → spells (size n) t ≡ true
        → (next : State) × (step (declaring levels role (bracketed a)) t ≡ Some (moved next false))
        × Runs next (record { slot = sign 93; broken = is_other (wanted_size role) n } ∷ []) (declaring levels role (named (with_dim a (record { name = None; size = n }))))
    first (token.sign c) is = absurd (false≢true is)
    first (token.word w) is = (declaring levels role (worded a w), refl, last w is)
size_run levels role a (Some dim) n =
    let to = declaring levels role (named (with_dim a (record { name = Some dim; size = n }))) in
    let third = declaring levels role (measured a (record { name = Some dim; size = n })) in
    let second = declaring levels role (equated a dim) in
    let first = declaring levels role (worded a dim) in
    let own : Judged = record { slot = size n; broken = is_other (wanted_size role) n } in
    run_one (declaring levels role (bracketed a)) first to (fine (name dim)) (equals ∷ own ∷ end_of_dim ∷ []) (by_name (declaring levels role (bracketed a)) first dim false refl)
    (run_one first second to equals (own ∷ end_of_dim ∷ []) (by_sign first second 61 false refl)
    (run_one second third to own (end_of_dim ∷ []) sized (run_one third to to end_of_dim [] (by_sign third to 93 false refl) (run_none to))))
  where
    sized : Goes (declaring levels role (equated a dim)) (record { slot = size n; broken = is_other (wanted_size role) n }) (declaring levels role (measured a (record { name = Some dim; size = n })))
    sized (token.sign c) is = absurd (false≢true is)
    sized (token.word w) is = ap (option_map (take_size levels role a dim)) (is_size n w is)

-- `[` of the dimension that comes next
bracket : (levels : Levels) (role : Role) (a : ArrayDecl) (most k : ℕ) → may_have_dims role ≡ true → most ≡ most_dims role → k ≡ length a.dims + 1
    → Goes (declaring levels role (named a)) (record { slot = sign 91; broken = nat_lt most k }) (declaring levels role (bracketed a))
bracket levels role a most k may same count =
    by_sign (declaring levels role (named a)) (declaring levels role (bracketed a)) 91 (nat_lt most k)
    (ap (λ b. if b then Some (moved (declaring levels role (bracketed a)) (nat_lt (most_dims role) (length a.dims + 1))) else None) may
    ∙ ap (λ i. Some (moved (declaring levels role (bracketed a)) (nat_lt i (length a.dims + 1)))) (sym same)
    ∙ ap (λ i. Some (moved (declaring levels role (bracketed a)) (nat_lt most i))) (sym count))

pub dims_run : (levels : Levels) (role : Role) (a : ArrayDecl) (most k : ℕ) (dims : List Dim) → may_have_dims role ≡ true → most ≡ most_dims role → k ≡ length a.dims + 1
    → Runs (declaring levels role (named a)) (dim_slots most (wanted_size role) k dims) (declaring levels role (named (with_dims a dims)))
dims_run levels role a most k [] may same count =
    subst (λ dims. Runs (declaring levels role (named a)) [] (declaring levels role (named (record { name = a.name; base = a.base; dims = dims })))) (sym (append-nil a.dims)) (run_none (declaring levels role (named a)))
dims_run levels role a most k (dim ∷ dims) may same count =
    let own : Judged = record { slot = sign 91; broken = nat_lt most k } in
    let from = declaring levels role (named a) in
    let opened = declaring levels role (bracketed a) in
    let one = declaring levels role (named (with_dim a dim)) in
    let all = declaring levels role (named (with_dims (with_dim a dim) dims)) in
    let here = size_slots (wanted_size role) dim.name dim.size in
    let later = dim_slots most (wanted_size role) (k + 1) dims in
    let counted : k + 1 ≡ length (a.dims ++ dim ∷ []) + 1 = omega (arith, count, length_last a.dims dim) in
    let run : Runs from (own ∷ here ++ later) all = run_one from opened all own (here ++ later) (bracket levels role a most k may same count)
    (run_both opened one all here later (size_run levels role a dim.name dim.size) (dims_run levels role (with_dim a dim) most (k + 1) dims may same counted)) in
    subst (λ ds. Runs from (own ∷ here ++ later) (declaring levels role (named (record { name = a.name; base = a.base; dims = ds })))) (append_assoc a.dims (dim ∷ []) dims) run

-- a declaration behind its type word
pub scalar_run : (levels : Levels) (role : Role) (c : Column) (breaks : Bool) (to : State) → repeats levels role c.name ≡ breaks → behind_scalar levels role c ≡ Some to
    → Runs (declaring levels role (typed c.base)) (record { slot = name c.name; broken = breaks } ∷ semicolon ∷ []) to
scalar_run levels role c breaks to same leads =
    let from = declaring levels role (typed c.base) in
    let called = declaring levels role (named (declared c.base c.name)) in
    run_one from called to (record { slot = name c.name; broken = breaks }) (semicolon ∷ []) (by_name from called c.name breaks (some_moved called (repeats levels role c.name) breaks same))
    (run_one called to to semicolon [] (by_sign called to 59 false (ap (option_map keeps) leads)) (run_none to))

pub array_run : (levels : Levels) (role : Role) (a : ArrayDecl) (most : ℕ) (breaks : Bool) (to : State) → may_have_dims role ≡ true → most ≡ most_dims role → has_dims a ≡ true → repeats levels role a.name ≡ breaks
    → behind_array levels role a ≡ Some to → Runs (declaring levels role (typed a.base)) (record { slot = name a.name; broken = breaks } ∷ dim_slots most (wanted_size role) 1 a.dims ++ semicolon ∷ []) to
array_run levels role a most breaks to may same some repeated leads =
    let from = declaring levels role (typed a.base) in
    let called = declaring levels role (named (declared a.base a.name)) in
    let all = declaring levels role (named a) in
    run_one from called to (record { slot = name a.name; broken = breaks }) (dim_slots most (wanted_size role) 1 a.dims ++ semicolon ∷ [])
    (by_name from called a.name breaks (some_moved called (repeats levels role a.name) breaks repeated))
    (run_both called all to (dim_slots most (wanted_size role) 1 a.dims) (semicolon ∷ []) (dims_run levels role (declared a.base a.name) most 1 a.dims may same refl)
    (run_one all to to semicolon [] (by_sign all to 59 false (rw some (ap (option_map keeps) leads))) (run_none to)))
