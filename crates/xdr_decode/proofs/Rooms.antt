-- The path to a variable of a well formed dataset has room: none is deeper than 16, and each index is
-- below the number of members.
use Rattle.std.proofs.Common.{ℕ, zero, suc, ◌+◌, ◌<◌, ◌≤◌, ◌^◌, List, [], ◌∷◌, ◌++◌, length, drop, map, arith}
use Rattle.std.proofs.lemmas.List.Elements.{All-nil, All-cons, All-head, All-tail, All-append}
use Rattle.std.specs.List.{All}
use Rattle.dap_model.proofs.Values.{all_front, all_back}
use Rattle.dap_types.specs.Model.{Member, scalar, array, structure, grid, sequence, Members, no_members, member, count, count_all, name_of}
use Rattle.dap_types.specs.View.{member_view, members_view}
use Rattle.dap_types.specs.WellFormed.{places, part_places, leaf_places}
use Rattle.dap_types.specs.declared.declarations.ArrayDecl.{ArrayDecl}
use Rattle.dap_types.specs.declared.declarations.Decl.{Decl}
use Rattle.xdr_decode.specs.inner.Places.{HaveRoom, HasRoom, IsShallow}

-- the names before do not count, and a level less is as good as an index less
leaf_rooms : (u v d e : ℕ) (xs ys : List (List ℕ)) (ms : List Member) → e + v ≤ d + u → All (IsShallow u) (leaf_places d xs ms) → All (IsShallow v) (leaf_places e ys ms)
leaf_rooms u v d e xs ys [] le all = All-nil (IsShallow v)
leaf_rooms u v d e xs ys (m ∷ ms) le all =
    All-cons (IsShallow v) _ _ (omega (arith, le, All-head (IsShallow u) _ (leaf_places d (name_of m ∷ xs) ms) all))
    (leaf_rooms u v d e (name_of m ∷ xs) (name_of m ∷ ys) ms le (All-tail (IsShallow u) _ (leaf_places d (name_of m ∷ xs) ms) all))

mutual
  pub part_rooms : (u v d e : ℕ) (m : Member) → e + v ≤ d + u → All (IsShallow u) (part_places d m) → All (IsShallow v) (part_places e m)
  part_rooms u v d e (scalar column) le all = All-nil (IsShallow v)
  part_rooms u v d e (array a) le all = All-nil (IsShallow v)
  part_rooms u v d e (structure name parts) le all = rooms u v d e [] [] parts le all
  part_rooms u v d e (grid name a maps) le all = leaf_rooms u v d e [] [] (map array (a ∷ maps)) le all
  part_rooms u v d e (sequence name columns) le all = leaf_rooms u v d e [] [] (map scalar columns) le all

  pub rooms : (u v d e : ℕ) (xs ys : List (List ℕ)) (ms : Members) → e + v ≤ d + u → All (IsShallow u) (places d xs ms) → All (IsShallow v) (places e ys ms)
  rooms u v d e xs ys no_members le all = All-nil (IsShallow v)
  rooms u v d e xs ys (member m ms) le all =
      let later = All-tail (IsShallow u) _ (part_places (d + 1) m ++ places d (name_of m ∷ xs) ms) all in
      All-cons (IsShallow v) _ _ (omega (arith, le, All-head (IsShallow u) _ (part_places (d + 1) m ++ places d (name_of m ∷ xs) ms) all))
      (All-append (IsShallow v) _ _
      (part_rooms u v (d + 1) (e + 1) m (omega (arith, le)) (all_front (IsShallow u) (part_places (d + 1) m) (places d (name_of m ∷ xs) ms) later))
      (rooms u v d e (name_of m ∷ xs) (name_of m ∷ ys) ms le (all_back (IsShallow u) (part_places (d + 1) m) (places d (name_of m ∷ xs) ms) later)))

-- room for the first index
pub first_room : (used : ℕ) (m : Member) (ms : Members) → HaveRoom used (member m ms) → used < 16
first_room used m ms room = omega (arith, All-head (IsShallow used) _ (part_places 2 m ++ places 1 (name_of m ∷ []) ms) room.0)

-- and for those behind it
pub inner_room : (used : ℕ) (m : Member) (ms : Members) → HaveRoom used (member m ms) → HasRoom (used + 1) m
inner_room used m ms room = (
  part_rooms used (used + 1) 2 1 m (omega arith) (all_front (IsShallow used) (part_places 2 m) (places 1 (name_of m ∷ []) ms) (All-tail (IsShallow used) _ (part_places 2 m ++ places 1 (name_of m ∷ []) ms) room.0)),
  omega (arith, room.1),
)

pub rest_room : (used : ℕ) (m : Member) (ms : Members) → HaveRoom used (member m ms) → HaveRoom used ms
rest_room used m ms room = (
  rooms used used 1 1 (name_of m ∷ []) [] ms (omega arith) (all_back (IsShallow used) (part_places 2 m) (places 1 (name_of m ∷ []) ms) (All-tail (IsShallow used) _ (part_places 2 m ++ places 1 (name_of m ∷ []) ms) room.0)),
  omega (arith, room.1),
)

pub room_from : (used i : ℕ) (decls : List Decl) → HaveRoom used (members_view decls) → HaveRoom used (members_view (drop i decls))
room_from used zero decls room = room
room_from used (suc i) [] room = room
room_from used (suc i) (d ∷ decls) room = room_from used i decls (rest_room used (member_view d) (members_view decls) room)

-- an index is below the number of members
counted : (m : Member) → 1 ≤ count m
counted (scalar column) = omega arith
counted (array a) = omega arith
counted (structure name parts) = omega arith
counted (grid name a maps) = omega arith
counted (sequence name columns) = omega arith

pub many : (decls : List Decl) → length decls ≤ count_all (members_view decls)
many [] = omega arith
many (d ∷ decls) = omega (arith, counted (member_view d), many decls)

-- the parts of a Structure, and the arrays of a Grid
pub parts_room : (used : ℕ) (name : List ℕ) (parts : Members) → HasRoom used (structure name parts) → HaveRoom used parts
parts_room used name parts room = (room.0, omega (arith, room.1))

pub grid_room : (used : ℕ) (name : List ℕ) (a : ArrayDecl) (maps : List ArrayDecl) → HasRoom used (grid name a maps) → (used < 16) × (length maps + 2 < 2 ^ 32)
grid_room used name a maps room = (omega (arith, All-head (IsShallow used) _ (leaf_places 1 (a.name ∷ []) (map array maps)) room.0), room.1)
