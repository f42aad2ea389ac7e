-- The variable at a path, index by index.
use Rattle.std.proofs.Common.{◌≡◌, ℕ, zero, suc, ◌+◌, ◌<◌, ◌≤◌, List, [], ◌∷◌, ◌++◌, length, drop, take, ◌-◌, get_or, codes, false, true, ◌==◌, slice_get, Option, Some, None, option_map, MatchOption, refl, ap, ◌∙◌, sym, subst, arith}
use Rattle.std.proofs.lemmas.Bool.{false≢true}
use Rattle.std.proofs.lemmas.Bool.Decides.{Decides-eqb}
use Rattle.dap_types.proofs.Views.{members-here, members-end, view-Base, view-Array, view-Structure, view-Grid, view-Sequence}
use Rattle.dap_types.specs.Model.{Member, scalar, array, structure, grid, sequence, Members, no_members, member}
use Rattle.dap_types.specs.View.{member_view, members_view}
use Rattle.dap_types.specs.declared.bytes.Id.{Id}
use Rattle.dap_types.specs.declared.declarations.ArrayDecl.{ArrayDecl}
use Rattle.dap_types.specs.declared.declarations.Column.{Column}
use Rattle.dap_types.specs.declared.declarations.Decl.{Decl, Base, Array, Structure, Grid, Sequence}
use Rattle.xdr_decode.proofs.Texts.{part-rest}
use Rattle.xdr_decode.specs.inner.Leaves.{IsLeaf}
use Rattle.xdr_decode.specs.inner.Places.{Spot, members_from, followed, spot_first, alone, of_grid, spot_of, spot}
use Rattle.xdr_decode.specs.declared.path.Leaf.{Leaf}

pub from-drop : (i : ℕ) (decls : List Decl) → members_from i (members_view decls) ≡ members_view (drop i decls)
from-drop zero decls = refl
from-drop (suc i) [] = refl
from-drop (suc i) (d ∷ decls) = from-drop i decls

pub split_path : (path : List ℕ) → ¬ (length path ≡ 0) → path ≡ get_or path 0 0 ∷ drop 1 path
split_path [] some = absurd (some refl)
split_path (i ∷ path) some = refl

pub some_of : {X : Type 0} (path : List X) → false ≡ (length path == 0) → ¬ (length path ≡ 0)
some_of path is same = false≢true (is ∙ (Decides-eqb (length path) 0).1 same)

pub none_of : {X : Type 0} (path : List X) → true ≡ (length path == 0) → length path ≡ 0
none_of path is = (Decides-eqb (length path) 0).0 (sym is)

-- past the end there is none
pub past : (path above : List ℕ) (decls : List Decl) → ¬ (length path ≡ 0) → length decls ≤ get_or path 0 0 → spot path above (members_view decls) ≡ None
past path above decls some le =
    let i = get_or path 0 0 in
    let none : members_from i (members_view decls) ≡ no_members = from-drop i decls ∙ members-end decls i le in
    ap (λ p. spot p above (members_view decls)) (split_path path some) ∙ ap (spot_first (spot_of (drop 1 path)) above) none

-- at an index
pub here : (path above : List ℕ) (decls : List Decl) (d : Decl) (m : Member) → ¬ (length path ≡ 0) → get_or path 0 0 < length decls → d ≡ get_or decls (get_or path 0 0) d → member_view d ≡ m
    → spot path above (members_view decls) ≡ option_map (followed above (members_view (drop (get_or path 0 0 + 1) decls))) (spot_of (drop 1 path) above m)
here path above decls d m some lt is view =
    let i = get_or path 0 0 in
    let first : members_from i (members_view decls) ≡ member (member_view d) (members_view (drop (i + 1) decls)) = from-drop i decls ∙ members-here decls i d lt is in
    ap (λ p. spot p above (members_view decls)) (split_path path some) ∙ ap (spot_first (spot_of (drop 1 path)) above) first
    ∙ ap (λ n. option_map (followed above (members_view (drop (i + 1) decls))) (spot_of (drop 1 path) above n)) view

abbrev pub Lends : Option Leaf → Option Spot → Type 0
Lends o x = MatchOption o (x ≡ None) (λ leaf. (s : Spot) × (x ≡ Some s) × IsLeaf leaf s.leaf)

-- others may come behind
pub behind : (above : List ℕ) (ms : Members) (o : Option Leaf) (x y : Option Spot) → y ≡ option_map (followed above ms) x → Lends o x → Lends o y
behind above ms None x y is lends = is ∙ ap (option_map (followed above ms)) lends
behind above ms (Some leaf) x y is lends = (followed above ms lends.0, is ∙ ap (option_map (followed above ms)) lends.1, lends.2)

pub found : (above : List ℕ) (ms : Members) (m : Member) (y : Option Spot) → y ≡ option_map (followed above ms) (alone above m) → (s : Spot) × (y ≡ Some s) × (s.leaf ≡ m)
found above ms m y is = (followed above ms (record { above = above; leaf = m; behind = [] }), is, refl)

pub scalar_alone : (path above : List ℕ) (c : Column) → spot_of path above (scalar c) ≡ alone above (scalar c)
scalar_alone [] above c = refl
scalar_alone (i ∷ path) above c = refl

pub array_alone : (path above : List ℕ) (a : ArrayDecl) → spot_of path above (array a) ≡ alone above (array a)
array_alone [] above a = refl
array_alone (i ∷ path) above a = refl

pub sequence_alone : (path above name : List ℕ) (cs : List Column) → spot_of path above (sequence name cs) ≡ alone above (sequence name cs)
sequence_alone [] above name cs = refl
sequence_alone (i ∷ path) above name cs = refl

pub inside : (path above name : List ℕ) (parts : Members) → spot_of path above (structure name parts) ≡ spot path (above ++ name ++ codes ".") parts
inside [] above name parts = refl
inside (i ∷ path) above name parts = refl

abbrev At : List ℕ → List Decl → Decl → Type 0
At path decls d = d ≡ get_or decls (get_or path 0 0) d

pub at_base : (path above : List ℕ) (decls : List Decl) (d : Decl) (c : Column) → ¬ (length path ≡ 0) → get_or path 0 0 < length decls → At path decls d → d ≡ Base c
    → (s : Spot) × (spot path above (members_view decls) ≡ Some s) × (s.leaf ≡ scalar c)
at_base path above decls d c some lt is base =
    let i = get_or path 0 0 in let rest = members_view (drop (i + 1) decls) in
    found above rest (scalar c) (spot path above (members_view decls)) (here path above decls d (scalar c) some lt is (ap member_view base ∙ view-Base c) ∙ ap (option_map (followed above rest)) (scalar_alone (drop 1 path) above c))

pub at_array : (path above : List ℕ) (decls : List Decl) (d : Decl) (a : ArrayDecl) → ¬ (length path ≡ 0) → get_or path 0 0 < length decls → At path decls d → d ≡ Array a
    → (s : Spot) × (spot path above (members_view decls) ≡ Some s) × (s.leaf ≡ array a)
at_array path above decls d a some lt is base =
    let i = get_or path 0 0 in let rest = members_view (drop (i + 1) decls) in
    found above rest (array a) (spot path above (members_view decls)) (here path above decls d (array a) some lt is (ap member_view base ∙ view-Array a) ∙ ap (option_map (followed above rest)) (array_alone (drop 1 path) above a))

pub at_sequence : (path above : List ℕ) (decls : List Decl) (d : Decl) (name : Id) (cs : List Column) → ¬ (length path ≡ 0) → get_or path 0 0 < length decls → At path decls d → d ≡ Sequence name cs
    → (s : Spot) × (spot path above (members_view decls) ≡ Some s) × (s.leaf ≡ sequence name cs)
at_sequence path above decls d name cs some lt is base =
    let i = get_or path 0 0 in let rest = members_view (drop (i + 1) decls) in
    found above rest (sequence name cs) (spot path above (members_view decls)) (here path above decls d (sequence name cs) some lt is (ap member_view base ∙ view-Sequence name cs) ∙ ap (option_map (followed above rest)) (sequence_alone (drop 1 path) above name cs))

pub at_structure : (path above : List ℕ) (decls : List Decl) (d : Decl) (name : Id) (parts : List Decl) (o : Option Leaf) → ¬ (length path ≡ 0) → get_or path 0 0 < length decls → At path decls d → d ≡ Structure name parts
    → ((up : List ℕ) → Lends o (spot (take (length path - 1) (drop 1 path)) up (members_view parts))) → Lends o (spot path above (members_view decls))
at_structure path above decls d name parts o some lt is base lends =
    let i = get_or path 0 0 in
    let rest = members_view (drop (i + 1) decls) in
    let up = above ++ name ++ codes "." in
    behind above rest o (spot (drop 1 path) up (members_view parts)) (spot path above (members_view decls))
    (here path above decls d (structure name (members_view parts)) some lt is (ap member_view base ∙ view-Structure name parts) ∙ ap (option_map (followed above rest)) (inside (drop 1 path) above name (members_view parts)))
    (subst (λ p. Lends o (spot p up (members_view parts))) (part-rest 1 path) (lends up))

-- the array of a Grid
grid_spot : (path above : List ℕ) (name : Id) (a : ArrayDecl) (maps : List ArrayDecl) → 2 ≤ length path
    → spot_of (drop 1 path) above (grid name a maps) ≡ option_map (of_grid (above ++ name ++ codes ".") (drop (get_or path 1 0) maps)) (slice_get (a ∷ maps) (get_or path 1 0))
grid_spot [] above name a maps long = absurd (omega (arith, long))
grid_spot (i ∷ []) above name a maps long = absurd (omega (arith, long))
grid_spot (i ∷ j ∷ path) above name a maps long = refl

pub at_grid : (path above : List ℕ) (decls : List Decl) (d : Decl) (name : Id) (a : ArrayDecl) (maps : List ArrayDecl) (b : ArrayDecl) → ¬ (length path ≡ 0) → get_or path 0 0 < length decls → At path decls d → d ≡ Grid name a maps
    → 2 ≤ length path → slice_get (a ∷ maps) (get_or path 1 0) ≡ Some b → (s : Spot) × (spot path above (members_view decls) ≡ Some s) × (s.leaf ≡ array b)
at_grid path above decls d name a maps b some lt is base long one =
    let i = get_or path 0 0 in
    let rest = members_view (drop (i + 1) decls) in
    let up = above ++ name ++ codes "." in
    let later = drop (get_or path 1 0) maps in (
      followed above rest (of_grid up later b),
      here path above decls d (grid name a maps) some lt is (ap member_view base ∙ view-Grid name a maps) ∙ ap (option_map (followed above rest)) (grid_spot path above name a maps long ∙ ap (option_map (of_grid up later)) one),
      refl,
    )

pub past_grid : (path above : List ℕ) (decls : List Decl) (d : Decl) (name : Id) (a : ArrayDecl) (maps : List ArrayDecl) → ¬ (length path ≡ 0) → get_or path 0 0 < length decls → At path decls d → d ≡ Grid name a maps
    → 2 ≤ length path → slice_get (a ∷ maps) (get_or path 1 0) ≡ None → spot path above (members_view decls) ≡ None
past_grid path above decls d name a maps some lt is base long none =
    let i = get_or path 0 0 in
    let rest = members_view (drop (i + 1) decls) in
    let up = above ++ name ++ codes "." in
    here path above decls d (grid name a maps) some lt is (ap member_view base ∙ view-Grid name a maps)
    ∙ ap (option_map (followed above rest)) (grid_spot path above name a maps long ∙ ap (option_map (of_grid up (drop (get_or path 1 0) maps))) none)

pub short_grid : (path above : List ℕ) (decls : List Decl) (d : Decl) (name : Id) (a : ArrayDecl) (maps : List ArrayDecl) → ¬ (length path ≡ 0) → get_or path 0 0 < length decls → At path decls d → d ≡ Grid name a maps
    → length path < 2 → spot path above (members_view decls) ≡ None
short_grid path above decls d name a maps some lt is base short =
    let i = get_or path 0 0 in
    let rest = members_view (drop (i + 1) decls) in
    here path above decls d (grid name a maps) some lt is (ap member_view base ∙ view-Grid name a maps) ∙ ap (λ p. option_map (followed above rest) (spot_of p above (grid name a maps))) (no_more path short)
  where
    no_more : (path : List ℕ) → length path < 2 → drop 1 path ≡ []
    no_more [] short = refl
    no_more (i ∷ []) short = refl
    no_more (i ∷ j ∷ path) short = absurd (omega (arith, short))
