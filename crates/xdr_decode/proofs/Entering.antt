-- The first variable with values.
use Rattle.std.proofs.Common.{◌≡◌, ℕ, ◌+◌, ◌%◌, ◌<◌, ◌≤◌, ◌^◌, Bool, true, false, MatchBool, List, [], ◌∷◌, ◌++◌, length, length-append, drop, take, get_or, codes, option_map, refl, ap, ◌∙◌, sym, subst, arith, append_assoc, append-nil}
use Rattle.std.proofs.Math.Seq.{take-append_seam}
use Rattle.dap_types.proofs.Views.{members-here, members-end}
use Rattle.dap_types.specs.Model.{Member, scalar, array, structure, grid, sequence, Members}
use Rattle.dap_types.specs.View.{member_view, members_view}
use Rattle.dap_types.specs.declared.declarations.ArrayDecl.{ArrayDecl}
use Rattle.dap_types.specs.declared.declarations.Column.{Column}
use Rattle.dap_types.specs.declared.declarations.Decl.{Decl}
use Rattle.xdr_fields.specs.Wants.{wants, wants_all, wants_of_array}
use Rattle.xdr_decode.proofs.Rooms.{first_room, grid_room, inner_room, many, parts_room, room_from}
use Rattle.xdr_decode.proofs.Spots.{from-drop}
use Rattle.xdr_decode.specs.inner.Places.{AreEmpty, HasRoom, HaveRoom, IsEmpty, IsEntered, IsInside, Spot, followed, from_start, of_grid, spot_first, spot_of, stage_wants}
use Rattle.xdr_decode.specs.declared.place.Stage.TheVariants as stage

pub start_followed : (above : List ℕ) (ms : Members) (s : Spot) → from_start (followed above ms s) ≡ from_start s ++ wants_all above ms
start_followed above ms s = sym (append_assoc (stage_wants s.above s.leaf stage.Start) s.behind (wants_all above ms))

-- inside a variable that has values itself
pub start_scalar : (old : List ℕ) (m : Member) (c : Column) → m ≡ scalar c → IsInside m old old
start_scalar old m c is = subst (λ n. IsInside n old old) (sym is) ([], sym (append-nil old), λ above. (record { above = above; leaf = scalar c; behind = [] }, refl, refl))

pub start_array : (old : List ℕ) (m : Member) (a : ArrayDecl) → m ≡ array a → IsInside m old old
start_array old m a is = subst (λ n. IsInside n old old) (sym is) ([], sym (append-nil old), λ above. (record { above = above; leaf = array a; behind = [] }, refl, append-nil (wants_of_array above a)))

pub start_sequence : (old : List ℕ) (m : Member) (name : List ℕ) (cs : List Column) → m ≡ sequence name cs → IsInside m old old
start_sequence old m name cs is = subst (λ n. IsInside n old old) (sym is) ([], sym (append-nil old), λ above. (record { above = above; leaf = sequence name cs; behind = [] }, refl, refl))

-- inside a Structure, and a Grid
abbrev pub Enters : Bool → Member → List ℕ → List ℕ → Type 0
Enters r m old new = MatchBool r (IsInside m old new) ((rest : List ℕ) × (new ≡ old ++ rest) × IsEmpty m)

inside_structure : (r : Bool) (old new name : List ℕ) (parts : Members) (m : Member) → m ≡ structure name parts
    → MatchBool r (IsEntered 0 parts old new) ((new ≡ old) × AreEmpty parts) → Enters r m old new
inside_structure true old new name parts m is (k, rest, path, found) =
    subst (λ n. IsInside n old new) (sym is) (k ∷ rest, path ∙ ap (λ i. old ++ i ∷ rest) (omega arith), λ above. found (above ++ name ++ codes "."))
inside_structure false old new name parts m is (same, empty) =
    ([], same ∙ sym (append-nil old), λ above. ap (wants above) is ∙ empty (above ++ name ++ codes "."))

pub start_structure : (r : Bool) (old new name : List ℕ) (items parts : List Decl) (m : Member) → m ≡ structure name (members_view parts) → items ≡ parts → HasRoom (length old) m
    → (HaveRoom (length old) (members_view items) → 0 + length items < 2 ^ 32 → MatchBool r (IsEntered 0 (members_view items) old new) ((new ≡ old) × AreEmpty (members_view items)))
    → Enters r m old new
start_structure r old new name items parts m is same room goes =
    let within = parts_room (length old) name (members_view items) (subst (HasRoom (length old)) (is ∙ ap (λ ds. structure name (members_view ds)) (sym same)) room) in
    inside_structure r old new name (members_view items) m (is ∙ ap (λ ds. structure name (members_view ds)) (sym same)) (goes within (omega (arith, within.1, many items)))

pub start_grid : (r : Bool) (old new name : List ℕ) (a : ArrayDecl) (maps : List ArrayDecl) (m : Member) → m ≡ grid name a maps → HasRoom (length old) m
    → MatchBool r ((0 < 2 ^ 32) × (new ≡ old ++ 0 ∷ [])) ((new ≡ old) × (0 < 2 ^ 32 → 16 ≤ length old)) → Enters r m old new
start_grid true old new name a maps m is room (fits, path) =
    subst (λ n. IsInside n old new) (sym is) (0 ∷ [], path, λ above. (of_grid (above ++ name ++ codes ".") maps a, refl, refl))
start_grid false old new name a maps m is room (same, full) =
    absurd (omega (arith, (grid_room (length old) name a maps (subst (HasRoom (length old)) is room)).0, full (omega arith)))

-- the room at an index
pub at_room : (used i : ℕ) (decls : List Decl) (d : Decl) → i < length decls → d ≡ get_or decls i d → HaveRoom used (members_view decls) → (used < 16) × HasRoom (used + 1) (member_view d)
at_room used i decls d lt is room =
    let later = members_view (drop (i + 1) decls) in
    let here = subst (HaveRoom used) (members-here decls i d lt is) (room_from used i decls room) in
    (first_room used (member_view d) later here, inner_room used (member_view d) later here)

-- the first behind some that have none
abbrev pub NoneBefore : List Decl → ℕ → Type 0
NoneBefore decls i = (above : List ℕ) → wants_all above (members_view decls) ≡ wants_all above (members_view (drop i decls))

pub entered : (old new : List ℕ) (from i : ℕ) (decls : List Decl) (d : Decl) → i < length decls → d ≡ get_or decls i d → IsInside (member_view d) (old ++ (from + i) ∷ []) new → NoneBefore decls i → IsEntered from (members_view decls) old new
entered old new from i decls d lt is (rest, path, found) none =
    let later = members_view (drop (i + 1) decls) in
    let here = members-here decls i d lt is in (
      i,
      rest,
      path ∙ append_assoc old ((from + i) ∷ []) rest,
      λ above. let (s, at, start) = found above in (
        followed above later s,
        ap (spot_first (spot_of rest) above) (from-drop i decls ∙ here) ∙ ap (option_map (followed above later)) at,
        start_followed above later s ∙ ap (λ l. l ++ wants_all above later) start ∙ sym (ap (wants_all above) here) ∙ sym (none above),
      ),
    )

pub none_more : (i : ℕ) (decls : List Decl) (d : Decl) → i < length decls → d ≡ get_or decls i d → IsEmpty (member_view d) → NoneBefore decls i → NoneBefore decls (i + 1)
none_more i decls d lt is empty none = λ above. none above ∙ ap (wants_all above) (members-here decls i d lt is) ∙ ap (λ l. l ++ wants_all above (members_view (drop (i + 1) decls))) (empty above)

pub none_at_all : (i : ℕ) (decls : List Decl) → length decls ≤ i → NoneBefore decls i → AreEmpty (members_view decls)
none_at_all i decls le none = λ above. none above ∙ ap (wants_all above) (members-end decls i le)

-- where an index was put, it is gone where nothing was found
pub put_back : (old mid new rest : List ℕ) (i n : ℕ) → mid ≡ old ++ i ∷ [] → new ≡ mid ++ rest → n ≡ length old → take n new ≡ old
put_back old mid new rest i n one more is =
    ap (λ k. take k new) is ∙ ap (take (length old)) (more ∙ ap (λ l. l ++ rest) one ∙ append_assoc old (i ∷ []) rest) ∙ take-append_seam old (i ∷ rest)

pub room_behind : (old mid : List ℕ) (i : ℕ) (m : Member) → mid ≡ old ++ i ∷ [] → HasRoom (length old + 1) m → HasRoom (length mid) m
room_behind old mid i m one room = subst (λ k. HasRoom k m) (sym (ap length one ∙ length-append old (i ∷ []))) room

-- the same as the loop has it: an index is counted in 64 bits
index_is : (from i n : ℕ) (decls : List Decl) → i < length decls → from + length decls < 2 ^ 32 → n ≡ (from + i) % 2 ^ 64 → (n ≡ from + i) × (n < 2 ^ 32)
index_is from i n decls lt fits is = let same : n ≡ from + i = omega (arith, lt, fits, is) in (same, omega (arith, lt, fits, same))

pub entered_loop : (old mid new : List ℕ) (from i n : ℕ) (decls : List Decl) (d : Decl) → i < length decls → d ≡ get_or decls i d → HaveRoom (length old) (members_view decls) → from + length decls < 2 ^ 32
    → mid ≡ old → NoneBefore decls i → n ≡ (from + i) % 2 ^ 64 → (length mid < 16 → HasRoom (length mid + 1) (member_view d) → n < 2 ^ 32 → IsInside (member_view d) (mid ++ n ∷ []) new) → IsEntered from (members_view decls) old new
entered_loop old mid new from i n decls d lt is room fits same none index goes =
    let at = at_room (length old) i decls d lt is room in
    let (one, small) = index_is from i n decls lt fits index in
    let short : length mid < 16 = omega (arith, at.0, ap length same) in
    let inner : HasRoom (length mid + 1) (member_view d) = subst (λ l. HasRoom (length l + 1) (member_view d)) (sym same) at.1 in
    let inside : IsInside (member_view d) (old ++ (from + i) ∷ []) new = subst (λ l. IsInside (member_view d) l new) (ap (λ l. l ++ n ∷ []) same ∙ ap (λ k. old ++ k ∷ []) one) (goes short inner small) in
    entered old new from i decls d lt is inside none

pub preserved_loop : (old mid new : List ℕ) (from i n : ℕ) (decls : List Decl) (d : Decl) → i < length decls → d ≡ get_or decls i d → HaveRoom (length old) (members_view decls) → from + length decls < 2 ^ 32
    → mid ≡ old → NoneBefore decls i → n ≡ (from + i) % 2 ^ 64 → (length mid < 16 → HasRoom (length mid + 1) (member_view d) → n < 2 ^ 32 → (new ≡ mid) × IsEmpty (member_view d)) → (new ≡ old) × NoneBefore decls (i + 1)
preserved_loop old mid new from i n decls d lt is room fits same none index goes =
    let at = at_room (length old) i decls d lt is room in
    let (one, small) = index_is from i n decls lt fits index in
    let short : length mid < 16 = omega (arith, at.0, ap length same) in
    let inner : HasRoom (length mid + 1) (member_view d) = subst (λ l. HasRoom (length l + 1) (member_view d)) (sym same) at.1 in
    let (stays, empty) = goes short inner small in
    (stays ∙ same, none_more i decls d lt is empty none)
