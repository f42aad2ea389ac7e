-- The variable with values that is the first behind another.
use Rattle.std.proofs.Common.{◌≡◌, ℕ, suc, ◌+◌, ◌<◌, ◌≤◌, ◌^◌, Bool, true, false, MatchBool, List, [], ◌∷◌, ◌++◌, length, length-append, length-drop, drop, drop-cons, take, get_or, codes, Option, Some, None, option_map, slice_get, refl, ap, ◌∙◌, sym, subst, arith, append_assoc, append-nil}
use Rattle.std.proofs.Math.Seq.{take-append_seam, get_or-append_seam}
use Rattle.std.proofs.lemmas.List.{drop-drop, drop_all}
use Rattle.std.proofs.lemmas.Option.{slice_get-get_or}
use Rattle.plain_lemmas.proofs.Options.{same_value}
use Rattle.dap_types.proofs.Views.{members-here}
use Rattle.dap_types.specs.Model.{Member, scalar, array, structure, grid, sequence, Members}
use Rattle.dap_types.specs.View.{member_view, members_view}
use Rattle.dap_types.specs.declared.declarations.ArrayDecl.{ArrayDecl}
use Rattle.dap_types.specs.declared.declarations.Column.{Column}
use Rattle.dap_types.specs.declared.declarations.Decl.{Decl}
use Rattle.xdr_fields.specs.Wants.{wants_all, wants_of_arrays}
use Rattle.xdr_decode.proofs.Entering.{at_room, start_followed}
use Rattle.xdr_decode.proofs.Rooms.{grid_room, many, parts_room, room_from}
use Rattle.xdr_decode.proofs.Spots.{from-drop, inside, past, scalar_alone, array_alone, sequence_alone}
use Rattle.xdr_decode.specs.inner.Places.{AreEmpty, HasRoom, HaveRoom, IsBehind, IsBehindIn, IsEntered, IsLast, IsLastIn, Spot, followed, from_start, members_from, of_grid, spot, spot_first, spot_of}

-- where a map gives something, it was given something
pub mapped : {X Y : Type 0} (f : X → Y) (o : Option X) (y : Y) → option_map f o ≡ Some y → (x : X) × (o ≡ Some x) × (f x ≡ y)
mapped f None y is = cc
mapped f (Some x) y is = (x, refl, same_value (f x) y is)

-- an index of a path, and those behind it
pub split : (items up at : List ℕ) (level : ℕ) → items ≡ up ++ at → length up ≡ level → level < length items → (rest : List ℕ) × (at ≡ get_or items level 0 ∷ rest)
split items up [] level is long lt = absurd (omega (arith, lt, long, ap length is ∙ length-append up []))
split items up (i ∷ rest) level is long lt =
    (rest, ap (λ n. n ∷ rest) (sym (ap (λ l. get_or l level 0) is ∙ ap (λ k. get_or (up ++ i ∷ rest) k 0) (sym long) ∙ get_or-append_seam up i rest 0)))

pub cut_back : (items up at : List ℕ) (level : ℕ) → items ≡ up ++ at → length up ≡ level → take level items ≡ up
cut_back items up at level is long = ap (take level) is ∙ ap (λ k. take k (up ++ at)) (sym long) ∙ take-append_seam up at

-- past the last variable
pub past_last : (items up at : List ℕ) (level : ℕ) (decls : List Decl) → items ≡ up ++ at → length up ≡ level → level < length items → length decls ≤ get_or items level 0 → IsLast (members_view decls) at
past_last items up at level decls is long lt le = λ above s found.
    let (rest, at_is) = split items up at level is long lt in
    let none = past (get_or items level 0 ∷ rest) above decls (λ empty. cc) le in
    let P : List ℕ → Type 0 = λ p. spot p above (members_view decls) ≡ Some s in
    absurd (none_some (sym none ∙ subst P at_is found))
  where
    none_some : {s : Spot} → None ≡ Some s → ⊥
    none_some same = cc

-- inside the variable at an index
spot_here : (i : ℕ) (rest above : List ℕ) (decls : List Decl) (d : Decl) → i < length decls → d ≡ get_or decls i d
    → spot (i ∷ rest) above (members_view decls) ≡ option_map (followed above (members_view (drop (i + 1) decls))) (spot_of rest above (member_view d))
spot_here i rest above decls d lt is = ap (spot_first (spot_of rest) above) (from-drop i decls ∙ members-here decls i d lt is)

behind_inside : (i : ℕ) (rest now : List ℕ) (decls : List Decl) (d : Decl) → i < length decls → d ≡ get_or decls i d → IsBehindIn (member_view d) rest now → IsBehind (members_view decls) (i ∷ rest) (i ∷ now)
behind_inside i rest now decls d lt is next above s found =
    let later = members_view (drop (i + 1) decls) in
    let (s0, at, same) = mapped (followed above later) (spot_of rest above (member_view d)) s (sym (spot_here i rest above decls d lt is) ∙ found) in
    let (t, at', start) = next above s0 at in (
      followed above later t,
      spot_here i now above decls d lt is ∙ ap (option_map (followed above later)) at',
      start_followed above later t ∙ ap (λ l. l ++ wants_all above later) start ∙ ap (λ x. x.behind) same,
    )

-- what comes behind one that is the last inside its variable
behind_all : (i : ℕ) (rest : List ℕ) (decls : List Decl) (d : Decl) → i < length decls → d ≡ get_or decls i d → IsLastIn (member_view d) rest
    → (above : List ℕ) (s : Spot) → spot (i ∷ rest) above (members_view decls) ≡ Some s → s.behind ≡ wants_all above (members_view (drop (i + 1) decls))
behind_all i rest decls d lt is last above s found =
    let later = members_view (drop (i + 1) decls) in
    let (s0, at, same) = mapped (followed above later) (spot_of rest above (member_view d)) s (sym (spot_here i rest above decls d lt is) ∙ found) in
    sym (ap (λ x. x.behind) same) ∙ ap (λ l. l ++ wants_all above later) (last above s0 at)

behind_entered : (i k : ℕ) (rest next : List ℕ) (decls : List Decl) (d : Decl) → i < length decls → d ≡ get_or decls i d → IsLastIn (member_view d) rest
    → ((above : List ℕ) → (s : Spot) × (spot (k ∷ next) above (members_view (drop (i + 1) decls)) ≡ Some s) × (from_start s ≡ wants_all above (members_view (drop (i + 1) decls))))
    → IsBehind (members_view decls) (i ∷ rest) ((i + 1 + k) ∷ next)
behind_entered i k rest next decls d lt is last goes above s found =
    let (t, at, start) = goes above in
    let same : members_from (i + 1 + k) (members_view decls) ≡ members_from k (members_view (drop (i + 1) decls)) =
    from-drop (i + 1 + k) decls ∙ ap members_view (sym (drop-drop k (i + 1) decls)) ∙ sym (from-drop k (drop (i + 1) decls)) in
    (t, ap (spot_first (spot_of next) above) same ∙ at, start ∙ sym (behind_all i rest decls d lt is last above s found))

-- the same as the code has it
abbrev pub Goes : Bool → Member → ℕ → List ℕ → List ℕ → Type 0
Goes r m level items new = (up at : List ℕ) → items ≡ up ++ at → length up ≡ level → HasRoom level m → MatchBool r
    ((now : List ℕ) × (new ≡ up ++ now) × IsBehindIn m at now)
    ((now : List ℕ) × (new ≡ up ++ now) × IsLastIn m at)

abbrev pub GoesAll : Bool → Members → ℕ → List ℕ → List ℕ → Type 0
GoesAll r ms level items new = (up at : List ℕ) → items ≡ up ++ at → length up ≡ level → HaveRoom level ms → MatchBool r
    ((now : List ℕ) × (new ≡ up ++ now) × IsBehind ms at now)
    ((new ≡ up) × IsLast ms at)

one_up : (items up rest : List ℕ) (i : ℕ) → items ≡ up ++ i ∷ rest → items ≡ (up ++ i ∷ []) ++ rest
one_up items up rest i is = is ∙ sym (append_assoc up (i ∷ []) rest)

longer : (up : List ℕ) (i level : ℕ) → length up ≡ level → length (up ++ i ∷ []) ≡ level + 1
longer up i level long = omega (arith, length-append up (i ∷ []), long)

pub went_inside : (items slice new : List ℕ) (level : ℕ) (decls : List Decl) (d : Decl) → slice ≡ items → level < length items → get_or slice level 0 < length decls → d ≡ get_or decls (get_or slice level 0) d
    → Goes true (member_view d) (level + 1) items new → GoesAll true (members_view decls) level items new
went_inside items slice new level decls d same lt below is goes up at whole long room =
    let i = get_or slice level 0 in
    let (rest, at_is) = split items up at level whole long lt in
    let at_is' : at ≡ i ∷ rest = at_is ∙ ap (λ l. get_or l level 0 ∷ rest) (sym same) in
    let inner = (at_room level i decls d below is room).1 in
    let (now, new_is, next) = goes (up ++ i ∷ []) rest (one_up items up rest i (whole ∙ ap (λ l. up ++ l) at_is')) (longer up i level long) inner in
    (i ∷ now, new_is ∙ append_assoc up (i ∷ []) now, subst (λ l. IsBehind (members_view decls) l (i ∷ now)) (sym at_is') (behind_inside i rest now decls d below is next))

pub went_on : (r : Bool) (items slice mid cut new : List ℕ) (level : ℕ) (decls later : List Decl) (d : Decl) → slice ≡ items → level < length items → get_or slice level 0 < length decls → d ≡ get_or decls (get_or slice level 0) d
    → Goes false (member_view d) (level + 1) items mid → cut ≡ take level mid → later ≡ drop (get_or slice level 0 + 1) decls
    → (HaveRoom (length cut) (members_view later) → get_or slice level 0 + 1 + length later < 2 ^ 32 → MatchBool r (IsEntered (get_or slice level 0 + 1) (members_view later) cut new) ((new ≡ cut) × AreEmpty (members_view later)))
    → GoesAll r (members_view decls) level items new
went_on r items slice mid cut new level decls later d same lt below is goes cut_is later_is enters up at whole long room =
    let i = get_or slice level 0 in
    let (rest, at_is) = split items up at level whole long lt in
    let at_is' : at ≡ i ∷ rest = at_is ∙ ap (λ l. get_or l level 0 ∷ rest) (sym same) in
    let inner = (at_room level i decls d below is room).1 in
    let (now, mid_is, last) = goes (up ++ i ∷ []) rest (one_up items up rest i (whole ∙ ap (λ l. up ++ l) at_is')) (longer up i level long) inner in
    let cut_up : cut ≡ up = cut_is ∙ cut_back mid up (i ∷ now) level (mid_is ∙ append_assoc up (i ∷ []) now) long in
    let short : length cut ≡ level = ap length cut_up ∙ long in
    let rest_room : HaveRoom (length cut) (members_view later) = subst (λ n. HaveRoom n (members_view later)) (sym short) (subst (λ ds. HaveRoom level (members_view ds)) (sym later_is) (room_from level (i + 1) decls room)) in
    let fits : i + 1 + length later < 2 ^ 32 = omega (arith, below, many decls, room.1, ap length later_is, length-drop (i + 1) decls) in
    subst (λ l. MatchBool r ((now : List ℕ) × (new ≡ up ++ now) × IsBehind (members_view decls) l now) ((new ≡ up) × IsLast (members_view decls) l)) (sym at_is')
    (choose r i rest cut_up last later_is (enters rest_room fits) below is)
  where
    choose : (r : Bool) (i : ℕ) (rest : List ℕ) → cut ≡ up → IsLastIn (member_view d) rest → later ≡ drop (i + 1) decls → MatchBool r (IsEntered (i + 1) (members_view later) cut new) ((new ≡ cut) × AreEmpty (members_view later))
        → i < length decls → d ≡ get_or decls i d → MatchBool r ((now : List ℕ) × (new ≡ up ++ now) × IsBehind (members_view decls) (i ∷ rest) now) ((new ≡ up) × IsLast (members_view decls) (i ∷ rest))
    choose true i rest cut_up last later_is (k, next, path, found) below is = (
      (i + 1 + k) ∷ next,
      path ∙ ap (λ l. l ++ (i + 1 + k) ∷ next) cut_up,
      behind_entered i k rest next decls d below is last
          (subst (λ ds. (above : List ℕ) → (s : Spot) × (spot (k ∷ next) above (members_view ds) ≡ Some s) × (from_start s ≡ wants_all above (members_view ds))) later_is found),
    )
    choose false i rest cut_up last later_is (stays, empty) below is =
        (stays ∙ cut_up, λ above s found. behind_all i rest decls d below is last above s found ∙ ap (λ ds. wants_all above (members_view ds)) (sym later_is) ∙ empty above)

-- inside a variable that has values itself
pub no_scalar : (at : List ℕ) (m : Member) (c : Column) → m ≡ scalar c → IsLastIn m at
no_scalar at m c is = λ above s found.
    ap (λ x. x.behind) (same_value s _ (sym found ∙ ap (spot_of at above) is ∙ scalar_alone at above c))

pub no_array : (at : List ℕ) (m : Member) (a : ArrayDecl) → m ≡ array a → IsLastIn m at
no_array at m a is = λ above s found.
    ap (λ x. x.behind) (same_value s _ (sym found ∙ ap (spot_of at above) is ∙ array_alone at above a))

pub no_sequence : (at : List ℕ) (m : Member) (name : List ℕ) (cs : List Column) → m ≡ sequence name cs → IsLastIn m at
no_sequence at m name cs is = λ above s found.
    ap (λ x. x.behind) (same_value s _ (sym found ∙ ap (spot_of at above) is ∙ sequence_alone at above name cs))

-- inside a Structure
behind_parts : (at now name : List ℕ) (parts : Members) → IsBehind parts at now → IsBehindIn (structure name parts) at now
behind_parts at now name parts next above s found =
    let up = above ++ name ++ codes "." in
    let (t, at', start) = next up s (sym (inside at above name parts) ∙ found) in
    (t, inside now above name parts ∙ at', start)

last_part : (at name : List ℕ) (parts : Members) → IsLast parts at → IsLastIn (structure name parts) at
last_part at name parts last above s found = last (above ++ name ++ codes ".") s (sym (inside at above name parts) ∙ found)

in_structure : (r : Bool) (level : ℕ) (items new name : List ℕ) (parts : Members) → GoesAll r parts level items new → Goes r (structure name parts) level items new
in_structure true level items new name parts goes up at whole long room =
    let (now, path, next) = goes up at whole long (parts_room level name parts room) in (now, path, behind_parts at now name parts next)
in_structure false level items new name parts goes up at whole long room =
    let (path, last) = goes up at whole long (parts_room level name parts room) in ([], path ∙ sym (append-nil up), last_part at name parts last)

pub went_structure : (r : Bool) (level : ℕ) (path new name : List ℕ) (items parts : List Decl) (m : Member) → m ≡ structure name (members_view parts) → items ≡ parts
    → GoesAll r (members_view items) level path new → Goes r m level path new
went_structure r level path new name items parts m is same goes =
    subst (λ n. Goes r n level path new) (sym (is ∙ ap (λ ds. structure name (members_view ds)) (sym same))) (in_structure r level path new name (members_view items) goes)

-- inside a Grid
next_map : (i : ℕ) (rest name : List ℕ) (a : ArrayDecl) (maps : List ArrayDecl) → i < length maps → IsBehindIn (grid name a maps) (i ∷ rest) ((i + 1) ∷ [])
next_map i rest name a maps lt above s found =
    let up = above ++ name ++ codes "." in
    let b = get_or maps i a in
    let (x, at, same) = mapped (of_grid up (drop i maps)) (slice_get (a ∷ maps) i) s found in
    let here : drop i maps ≡ b ∷ drop (i + 1) maps = drop-here' maps i a lt in
    let more : i + 1 ≡ suc i = omega arith in
    let one : slice_get (a ∷ maps) (i + 1) ≡ Some b = ap (slice_get (a ∷ maps)) more ∙ slice_get-get_or maps i a lt in
    (of_grid up (drop (i + 1) maps) b, ap (option_map (of_grid up (drop (i + 1) maps))) one, sym (ap (wants_of_arrays up) here) ∙ ap (λ y. y.behind) same)
  where
    drop-here' : (maps : List ArrayDecl) (i : ℕ) (a : ArrayDecl) → i < length maps → drop i maps ≡ get_or maps i a ∷ drop (i + 1) maps
    drop-here' maps i a lt = drop-cons maps i a lt ∙ ap (λ k. get_or maps i a ∷ drop k maps) more
      where
        more : suc i ≡ i + 1
        more = omega arith

last_map : (i : ℕ) (rest name : List ℕ) (a : ArrayDecl) (maps : List ArrayDecl) → length maps ≤ i → IsLastIn (grid name a maps) (i ∷ rest)
last_map i rest name a maps le above s found =
    let up = above ++ name ++ codes "." in
    let (x, at, same) = mapped (of_grid up (drop i maps)) (slice_get (a ∷ maps) i) s found in
    sym (ap (λ y. y.behind) same) ∙ ap (wants_of_arrays up) (drop_all i maps le)

no_map : (at name : List ℕ) (a : ArrayDecl) (maps : List ArrayDecl) → ((i : ℕ) (rest : List ℕ) → at ≡ i ∷ rest → length maps ≤ i) → IsLastIn (grid name a maps) at
no_map [] name a maps far above s found = cc
no_map (i ∷ rest) name a maps far above s found = last_map i rest name a maps (far i rest refl) above s found

abbrev GoesMap : Bool → ℕ → ℕ → List ℕ → List ℕ → Type 0
GoesMap r maps level items new = (up at : List ℕ) → items ≡ up ++ at → length up ≡ level → level < 16 → maps + 2 < 2 ^ 32 → MatchBool r
    ((i : ℕ) × (rest : List ℕ) × (at ≡ i ∷ rest) × (i < maps) × (new ≡ up ++ (i + 1) ∷ []))
    ((new ≡ up) × ((i : ℕ) (rest : List ℕ) → at ≡ i ∷ rest → maps ≤ i))

in_grid : (r : Bool) (level : ℕ) (items new name : List ℕ) (a : ArrayDecl) (maps : List ArrayDecl) → GoesMap r (length maps) level items new → Goes r (grid name a maps) level items new
in_grid true level items new name a maps goes up at whole long room =
    let fits = grid_room level name a maps room in
    let (i, rest, at_is, lt, path) = goes up at whole long fits.0 fits.1 in
    ((i + 1) ∷ [], path, subst (λ l. IsBehindIn (grid name a maps) l ((i + 1) ∷ [])) (sym at_is) (next_map i rest name a maps lt))
in_grid false level items new name a maps goes up at whole long room =
    let fits = grid_room level name a maps room in
    let (path, far) = goes up at whole long fits.0 fits.1 in
    ([], path ∙ sym (append-nil up), no_map at name a maps far)

pub went_grid : (r : Bool) (level : ℕ) (path new name : List ℕ) (a : ArrayDecl) (items maps : List ArrayDecl) (n : ℕ) (m : Member) → m ≡ grid name a maps → items ≡ maps → n ≡ length items → GoesMap r n level path new → Goes r m level path new
went_grid r level path new name a items maps n m is same count goes =
    subst (λ x. Goes r x level path new) (sym is) (in_grid r level path new name a maps (subst (λ k. GoesMap r k level path new) (count ∙ ap length same) goes))
