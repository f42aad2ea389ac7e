-- How a place goes on behind a field.
use Rattle.std.proofs.Common.{◌≡◌, ℕ, suc, ◌+◌, ◌-◌, ◌<◌, ◌≤◌, ◌^◌, ◌==◌, if◌then◌else◌, Bool, true, false, MatchBool, List, [], ◌∷◌, ◌++◌, length, length-drop, drop, codes, Some, None, slice_get, refl, ap, ◌∙◌, sym, subst, arith, append_assoc, append-nil}
use Rattle.std.specs.Option.{option_map_or}
use Rattle.std.proofs.lemmas.List.{drop-drop}
use Rattle.plain_lemmas.proofs.Lists.{cons_first, cons_rest}
use Rattle.plain_lemmas.proofs.Options.{same_value}
use Rattle.dap_types.specs.Model.{Member, scalar, array, structure, grid, sequence, Members, no_members, member, sizes, product}
use Rattle.dap_types.specs.declared.declarations.ArrayDecl.{ArrayDecl}
use Rattle.dap_types.specs.declared.declarations.BaseType.{BaseType}
use Rattle.dap_types.specs.declared.declarations.BaseType.TheVariants.{Byte, Int16, UInt16, Int32, UInt32, Float32, Float64, Text, Url}
use Rattle.dap_types.specs.declared.declarations.Column.{Column}
use Rattle.dap_types.specs.declared.declarations.Decl.{Decl}
use Rattle.dap_types.specs.View.{members_view}
use Rattle.dap_model.specs.Xdr as xdr
use Rattle.dap_model.specs.Xdr.{Field, number, packed, filler, size, text, padding, mark}
use Rattle.xdr_fields.specs.Wants.{Want, a_value, a_byte, a_filler, a_text, a_padding, rows, Goes, array_wants, becomes, cell_wants, elements_left, index_texts, row_path, wants_all}
use Rattle.xdr_decode.proofs.Advancing.{GoesAll, mapped}
use Rattle.xdr_decode.proofs.Asking.{leaf_array, next_none, next_some}
use Rattle.xdr_decode.proofs.Rooms.{many}
use Rattle.xdr_decode.proofs.Spots.{scalar_alone, array_alone, sequence_alone}
use Rattle.xdr_decode.specs.inner.Asked.{Is}
use Rattle.xdr_decode.specs.inner.Leaves.{IsLeaf}
use Rattle.xdr_decode.specs.inner.Moving.{IsSettled, Moves, string_behind}
use Rattle.xdr_decode.specs.inner.Places.{AreEmpty, HaveRoom, IsEntered, IsPlaced, IsStage, IsStageAt, IsStageOr, Spot, elements_wants, followed, members_from, of_grid, spot, spot_at, spot_first, spot_of, stage_wants, text_wants, wants_left}
use Rattle.xdr_decode.specs.declared.field.Token.{Token}
use Rattle.xdr_decode.specs.declared.field.Token.TheVariants as token
use Rattle.xdr_decode.specs.declared.path.Leaf.{Leaf}
use Rattle.xdr_decode.specs.declared.path.Leaf.TheVariants as leaf
use Rattle.xdr_decode.specs.declared.place.Place.{Place}
use Rattle.xdr_decode.specs.declared.place.Stage.{Stage}
use Rattle.xdr_decode.specs.declared.place.Stage.TheVariants as stage
use Rattle.xdr_decode.specs.declared.place.Text.TheVariants as texts

-- the elements of an array
left_step : (want : List ℕ → Want) (path ns : List ℕ) (at count : ℕ) → at < count → elements_left want path ns at (count - at) ≡ want (path ++ index_texts ns at) ∷ elements_left want path ns (at + 1) (count - (at + 1))
unfolding elements_left
left_step want path ns at count lt =
    let more : count - at ≡ suc (count - (at + 1)) = omega (arith, lt) in ap (elements_left want path ns at) more

left_none : (want : List ℕ → Want) (path ns : List ℕ) (at count : ℕ) → count ≤ at → elements_left want path ns at (count - at) ≡ []
unfolding elements_left
left_none want path ns at count le = let none : count - at ≡ 0 = omega (arith, le) in ap (elements_left want path ns at) none

abbrev pub element_want : BaseType → List ℕ → Want
element_want Byte p = a_byte p
element_want base p = a_value p base

pub elements_more : (base : BaseType) (path ns : List ℕ) (at count : ℕ) → at < count → elements_wants base path ns at count ≡ element_want base (path ++ index_texts ns at) ∷ elements_wants base path ns (at + 1) count
elements_more Byte path ns at count lt = ap (λ l. l ++ a_filler count ∷ []) (left_step a_byte path ns at count lt)
elements_more Int16 path ns at count lt = left_step (λ p. a_value p Int16) path ns at count lt
elements_more UInt16 path ns at count lt = left_step (λ p. a_value p UInt16) path ns at count lt
elements_more Int32 path ns at count lt = left_step (λ p. a_value p Int32) path ns at count lt
elements_more UInt32 path ns at count lt = left_step (λ p. a_value p UInt32) path ns at count lt
elements_more Float32 path ns at count lt = left_step (λ p. a_value p Float32) path ns at count lt
elements_more Float64 path ns at count lt = left_step (λ p. a_value p Float64) path ns at count lt
elements_more Text path ns at count lt = left_step (λ p. a_value p Text) path ns at count lt
elements_more Url path ns at count lt = left_step (λ p. a_value p Url) path ns at count lt

pub bytes_done : (base : BaseType) (path ns : List ℕ) (at count : ℕ) → base ≡ Byte → count ≤ at → a_filler count ∷ [] ≡ elements_wants base path ns at count
bytes_done base path ns at count is le =
    sym (ap (λ b. elements_wants b path ns at count) is ∙ ap (λ l. l ++ a_filler count ∷ []) (left_none a_byte path ns at count le))

pub values_done : (base : BaseType) (path ns : List ℕ) (at count : ℕ) → ¬ (base ≡ Byte) → count ≤ at → [] ≡ elements_wants base path ns at count
values_done Byte path ns at count apart le = absurd (apart refl)
values_done Int16 path ns at count apart le = sym (left_none (λ p. a_value p Int16) path ns at count le)
values_done UInt16 path ns at count apart le = sym (left_none (λ p. a_value p UInt16) path ns at count le)
values_done Int32 path ns at count apart le = sym (left_none (λ p. a_value p Int32) path ns at count le)
values_done UInt32 path ns at count apart le = sym (left_none (λ p. a_value p UInt32) path ns at count le)
values_done Float32 path ns at count apart le = sym (left_none (λ p. a_value p Float32) path ns at count le)
values_done Float64 path ns at count apart le = sym (left_none (λ p. a_value p Float64) path ns at count le)
values_done Text path ns at count apart le = sym (left_none (λ p. a_value p Text) path ns at count le)
values_done Url path ns at count apart le = sym (left_none (λ p. a_value p Url) path ns at count le)

-- behind a value: nothing more of it, or the bytes of a string
pub value_text : (path : List ℕ) (base : BaseType) (t : Token) (f : Field) → Goes (a_value path base) f → Is t f → text_wants (string_behind t) ≡ becomes (a_value path base) f
value_text path base (token.Whole z) (number b v) goes is = refl
value_text path base (token.Bits32 n) (number b v) goes is = refl
value_text path base (token.Bits64 n) (number b v) goes is = refl
value_text path base (token.Size n) (size m) goes is = ap (λ k. a_text k ∷ a_padding k ∷ []) is
value_text path base t (number b v) goes is = absurd is
value_text path base t (size m) goes is = absurd is
value_text path base t f goes is = absurd goes

byte_text : (path : List ℕ) (t : Token) (f : Field) → Goes (a_byte path) f → Is t f → text_wants (string_behind t) ≡ becomes (a_byte path) f
byte_text path (token.Whole z) (packed v) goes is = refl
byte_text path t (packed v) goes is = absurd is
byte_text path t f goes is = absurd goes

element_text : (base : BaseType) (path : List ℕ) (t : Token) (f : Field) → Goes (element_want base path) f → Is t f → text_wants (string_behind t) ≡ becomes (element_want base path) f
element_text Byte path t f goes is = byte_text path t f goes is
element_text Int16 path t f goes is = value_text path Int16 t f goes is
element_text UInt16 path t f goes is = value_text path UInt16 t f goes is
element_text Int32 path t f goes is = value_text path Int32 t f goes is
element_text UInt32 path t f goes is = value_text path UInt32 t f goes is
element_text Float32 path t f goes is = value_text path Float32 t f goes is
element_text Float64 path t f goes is = value_text path Float64 t f goes is
element_text Text path t f goes is = value_text path Text t f goes is
element_text Url path t f goes is = value_text path Url t f goes is

-- a move by what comes first
moves_by : (above : List ℕ) (m : Member) (old new : Stage) (t : Token) (w : Want) (ws : List Want) → stage_wants above m old ≡ w ∷ ws
    → ((f : Field) → Goes w f → Is t f → (text_wants (string_behind t) ++ stage_wants above m new ≡ becomes w f ++ ws) × IsStageOr m new)
    → Moves above m old t new
moves_by above m old new t w ws is goes u us f is' goes_on read =
    let same = sym is ∙ is' in
    let one = cons_first w u ws us same in
    let others = cons_rest w u ws us same in
    let (wants, stays) = goes f (subst (λ x. Goes x f) (sym one) goes_on) read in
    (wants ∙ ap (λ x. becomes x f ++ ws) one ∙ ap (λ l. becomes u f ++ l) others, stays)

pub moves_element : (above : List ℕ) (a : ArrayDecl) (old new : Stage) (t : Token) (at count next : ℕ) → old ≡ stage.Elements at count → IsStage (array a) old → next ≡ at + 1
    → (next ≤ count → stage_wants above (array a) new ≡ elements_wants a.base (above ++ a.name) (sizes a) next count) → (next ≤ count → count ≡ product (sizes a) → IsStageOr (array a) new)
    → Moves above (array a) old t new
moves_element above a old new t at count next is placed more wants stays =
    let placed' = subst (IsStage (array a)) is placed in
    let p = (above ++ a.name) ++ index_texts (sizes a) at in
    let le : next ≤ count = omega (arith, placed'.1, more) in
    moves_by above (array a) old new t (element_want a.base p) (elements_wants a.base (above ++ a.name) (sizes a) (at + 1) count)
    (ap (stage_wants above (array a)) is ∙ elements_more a.base (above ++ a.name) (sizes a) at count placed'.1)
    (λ f goes read. (
      ap (λ l. l ++ stage_wants above (array a) new) (element_text a.base p t f goes read)
          ∙ ap (λ l. becomes (element_want a.base p) f ++ l) (wants le ∙ ap (λ k. elements_wants a.base (above ++ a.name) (sizes a) k count) more),
      stays le placed'.0,
    ))

-- the rows of a Sequence
pub moves_row : (above name : List ℕ) (cs : List Column) (row : ℕ) (new : Stage)
    → stage_wants above (sequence name cs) new ≡ cell_wants (row_path above name row) cs ++ rows above name cs (row + 1) ∷ [] → IsStageOr (sequence name cs) new
    → Moves above (sequence name cs) (stage.Rows row) token.Row new
moves_row above name cs row new wants stays =
    moves_by above (sequence name cs) (stage.Rows row) new token.Row (rows above name cs row) [] refl (λ f goes read. (marked f goes read, stays))
  where
    marked : (f : Field) → Goes (rows above name cs row) f → Is token.Row f → stage_wants above (sequence name cs) new ≡ becomes (rows above name cs row) f ++ []
    marked (mark b) goes is = wants ∙ sym (append-nil _) ∙ ap (λ k. (if k == 0x5a then cell_wants (row_path above name row) cs ++ rows above name cs (row + 1) ∷ [] else []) ++ []) (sym is)
    marked f goes is = absurd goes

pub moves_start : (above name : List ℕ) (cs : List Column) (s new : Stage) (t : Token) → IsStage (sequence name cs) s → ((row : ℕ) → ¬ (s ≡ stage.Rows row)) → ((row at : ℕ) → ¬ (s ≡ stage.Cells row at))
    → Moves above (sequence name cs) (stage.Rows 0) t new → Moves above (sequence name cs) s t new
moves_start above name cs stage.Start new t placed no_rows no_cells moves = moves
moves_start above name cs (stage.Rows row) new t placed no_rows no_cells moves = absurd (no_rows row refl)
moves_start above name cs (stage.Cells row at) new t placed no_rows no_cells moves = absurd (no_cells row at refl)
moves_start above name cs s new t placed no_rows no_cells moves = absurd placed

pub moves_cell : (above name : List ℕ) (cs : List Column) (old new : Stage) (t : Token) (row at next : ℕ) → old ≡ stage.Cells row at → IsStage (sequence name cs) old → next ≡ at + 1
    → stage_wants above (sequence name cs) new ≡ cell_wants (row_path above name row) (drop next cs) ++ rows above name cs (row + 1) ∷ [] → IsStageOr (sequence name cs) new
    → Moves above (sequence name cs) old t new
moves_cell above name cs old new t row at next is placed more wants stays = inner (drop at cs) refl
  where
    inner : (l : List Column) → l ≡ drop at cs → Moves above (sequence name cs) old t new
    inner [] none = absurd (omega (arith, subst (IsStage (sequence name cs)) is placed, ap length none, length-drop at cs))
    inner (c ∷ l) some =
        let others : l ≡ drop (at + 1) cs = ap (drop 1) some ∙ drop-drop 1 at cs in
        let p = row_path above name row ++ c.name in
        let behind = rows above name cs (row + 1) ∷ [] in
        moves_by above (sequence name cs) old new t (a_value p c.base) (cell_wants (row_path above name row) l ++ behind)
        (ap (stage_wants above (sequence name cs)) is ∙ ap (λ ds. cell_wants (row_path above name row) ds ++ behind) (sym some))
        (λ f goes read. (
          ap (λ k. k ++ stage_wants above (sequence name cs) new) (value_text p c.base t f goes read)
              ∙ ap (λ k. becomes (a_value p c.base) f ++ k) (wants ∙ ap (λ ds. cell_wants (row_path above name row) ds ++ behind) (ap (λ n. drop n cs) more ∙ sym others)),
          stays,
        ))

pub leaf_sequence : (l : Leaf) (own : _) (cs : _) (m : Member) → l ≡ leaf.Sequence own cs → IsLeaf l m → sequence own.now cs.now ≡ m
leaf_sequence l own cs m is same = inner m (subst (λ x. IsLeaf x m) is same)
  where
    inner : (m : Member) → IsLeaf (leaf.Sequence own cs) m → sequence own.now cs.now ≡ m
    inner (sequence name columns) same = ap (λ n. sequence n cs.now) same.0 ∙ ap (sequence name) same.1
    inner (array b) same = absurd same
    inner (scalar c) same = absurd same
    inner (structure name parts) same = absurd same
    inner (grid name b maps) same = absurd same

-- a path leads to a variable that has values itself
abbrev IsLeafAt : List ℕ → Type 0
IsLeafAt path = (above : List ℕ) (m : Member) (s : Spot) → spot_of path above m ≡ Some s → IsStage s.leaf stage.Start

leaf_first : (path above : List ℕ) (ms : Members) (s : Spot) → IsLeafAt path → spot_first (spot_of path) above ms ≡ Some s → IsStage s.leaf stage.Start
leaf_first path above no_members s inner is = cc
leaf_first path above (member m ms) s inner is =
    let (s0, at, same) = mapped (followed above ms) (spot_of path above m) s is in subst (λ x. IsStage x.leaf stage.Start) same (inner above m s0 at)

leaf_of : (path above : List ℕ) (m : Member) (s : Spot) → spot_of path above m ≡ Some s → IsStage s.leaf stage.Start
leaf_of path above (scalar c) s is = subst (λ x. IsStage x.leaf stage.Start) (same_value _ s (sym (scalar_alone path above c) ∙ is)) tt
leaf_of path above (array a) s is = subst (λ x. IsStage x.leaf stage.Start) (same_value _ s (sym (array_alone path above a) ∙ is)) tt
leaf_of [] above (structure name parts) s is = cc
leaf_of (i ∷ path) above (structure name parts) s is = leaf_first path (above ++ name ++ codes ".") (members_from i parts) s (λ up m t at. leaf_of path up m t at) is
leaf_of [] above (grid name a maps) s is = cc
leaf_of (i ∷ path) above (grid name a maps) s is =
    let up = above ++ name ++ codes "." in
    let (b, at, same) = mapped (of_grid up (drop i maps)) (slice_get (a ∷ maps) i) s is in subst (λ x. IsStage x.leaf stage.Start) same tt
leaf_of path above (sequence name cs) s is = subst (λ x. IsStage x.leaf stage.Start) (same_value _ s (sym (sequence_alone path above name cs) ∙ is)) tt

pub leaf_at_path : (path above : List ℕ) (ms : Members) (s : Spot) → spot path above ms ≡ Some s → IsStage s.leaf stage.Start
leaf_at_path [] above ms s is = cc
leaf_at_path (i ∷ path) above ms s is = leaf_first path above (members_from i ms) s (leaf_of path) is

-- a place with a variable there
pub placed_at : (ms : Members) (p : Place) (s : Spot) → spot_at ms p ≡ Some s → IsStage s.leaf p.stage → (wants_left ms p ≡ text_wants p.text ++ (stage_wants s.above s.leaf p.stage ++ s.behind)) × IsPlaced ms p
unfolding wants_left
placed_at ms p s is stays = (
  ap (λ o. text_wants p.text ++ option_map_or (λ x. stage_wants x.above x.leaf p.stage ++ x.behind) o []) is,
  subst (λ o. IsStageAt o p.stage p.path.items) (sym is) stays,
)

-- and with none
pub placed_nowhere : (ms : Members) (p : Place) → p.path.items ≡ [] → (wants_left ms p ≡ text_wants p.text) × IsPlaced ms p
unfolding wants_left
placed_nowhere ms p is =
    let none : spot_at ms p ≡ None = ap (λ l. spot l [] ms) is in (
      ap (λ o. text_wants p.text ++ option_map_or (λ x. stage_wants x.above x.leaf p.stage ++ x.behind) o []) none ∙ append-nil (text_wants p.text),
      subst (λ o. IsStageAt o p.stage p.path.items) (sym none) is,
    )

nothing_behind : (above : List ℕ) (m : Member) → stage_wants above m stage.Behind ≡ []
nothing_behind above (scalar c) = refl
nothing_behind above (array a) = refl
nothing_behind above (structure name parts) = refl
nothing_behind above (grid name a maps) = refl
nothing_behind above (sequence name cs) = refl

pub settled_behind : (r : Bool) (ms : Members) (p q : Place) → q.stage ≡ stage.Start → q.text ≡ p.text → GoesAll r ms 0 p.path.items q.path.items → HaveRoom 0 ms → IsSettled ms p stage.Behind q
settled_behind true ms p q start same goes room at is stays =
    let (now, path, next) = goes [] p.path.items refl refl room in
    let (s, found, begins) = next [] at is in
    let here : spot_at ms q ≡ Some s = ap (λ l. spot l [] ms) path ∙ found in
    let (wants, placed) = placed_at ms q s here (subst (IsStage s.leaf) (sym start) (leaf_at_path now [] ms s found)) in (
      wants ∙ ap (λ t. text_wants t ++ (stage_wants s.above s.leaf q.stage ++ s.behind)) same ∙ ap (λ l. text_wants p.text ++ l) (ap (λ k. stage_wants s.above s.leaf k ++ s.behind) start ∙ begins)
          ∙ ap (λ l. text_wants p.text ++ (l ++ at.behind)) (sym (nothing_behind at.above at.leaf)),
      placed,
    )
settled_behind false ms p q start same goes room at is stays =
    let (path, last) = goes [] p.path.items refl refl room in
    let (wants, placed) = placed_nowhere ms q path in
    (wants ∙ ap text_wants same ∙ sym (append-nil (text_wants p.text)) ∙ ap (λ l. text_wants p.text ++ l) (sym (ap (λ l. l ++ at.behind) (nothing_behind at.above at.leaf) ∙ last [] at is)), placed)

stage_or : (m : Member) (s : Stage) → ¬ (s ≡ stage.Behind) → IsStageOr m s → IsStage m s
stage_or m stage.Behind apart stays = absurd (apart refl)
stage_or m stage.Start apart stays = stays
stage_or m (stage.Again n) apart stays = stays
stage_or m (stage.Elements at n) apart stays = stays
stage_or m (stage.Filler n) apart stays = stays
stage_or m (stage.Rows row) apart stays = stays
stage_or m (stage.Cells row at) apart stays = stays

pub settled_within : (ms : Members) (p q : Place) (s : Stage) → ¬ (s ≡ stage.Behind) → q.stage ≡ s → q.text ≡ p.text → q.path.items ≡ p.path.items → IsSettled ms p s q
settled_within ms p q s apart same_stage same same_path at is stays =
    let here : spot_at ms q ≡ Some at = ap (λ l. spot l [] ms) same_path ∙ is in
    let (wants, placed) = placed_at ms q at here (subst (IsStage at.leaf) (sym same_stage) (stage_or at.leaf s apart stays)) in
    (wants ∙ ap (λ t. text_wants t ++ (stage_wants at.above at.leaf q.stage ++ at.behind)) same ∙ ap (λ k. text_wants p.text ++ (stage_wants at.above at.leaf k ++ at.behind)) same_stage, placed)

-- something is to come of a variable that is not read
pub record Some_left (ws : List Want) : Type 0 where
  pub first : Want
  pub rest : List Want
  pub is : ws ≡ first ∷ rest

some_elements : (base : BaseType) (path ns : List ℕ) (at count : ℕ) → at < count → Some_left (elements_wants base path ns at count)
some_elements base path ns at count lt = record { first = element_want base (path ++ index_texts ns at); rest = elements_wants base path ns (at + 1) count; is = elements_more base path ns at count lt }

some_array : (base : BaseType) (path ns : List ℕ) (n : ℕ) → Some_left (array_wants base path ns n)
some_array Byte path ns n = record { first = _; rest = _; is = refl }
some_array Int16 path ns n = record { first = _; rest = _; is = refl }
some_array UInt16 path ns n = record { first = _; rest = _; is = refl }
some_array Int32 path ns n = record { first = _; rest = _; is = refl }
some_array UInt32 path ns n = record { first = _; rest = _; is = refl }
some_array Float32 path ns n = record { first = _; rest = _; is = refl }
some_array Float64 path ns n = record { first = _; rest = _; is = refl }
some_array Text path ns n = record { first = _; rest = _; is = refl }
some_array Url path ns n = record { first = _; rest = _; is = refl }

some_cells : (above : List ℕ) (cs l : List Column) (at : ℕ) (w : Want) → l ≡ drop at cs → at < length cs → Some_left (cell_wants above (drop at cs) ++ w ∷ [])
some_cells above cs [] at w is lt = absurd (omega (arith, lt, ap length is, length-drop at cs))
some_cells above cs (c ∷ l) at w is lt = record { first = a_value (above ++ c.name) c.base; rest = cell_wants above l ++ w ∷ []; is = ap (λ ds. cell_wants above ds ++ w ∷ []) (sym is) }

pub some_left : (above : List ℕ) (m : Member) (s : Stage) → IsStage m s → Some_left (stage_wants above m s)
some_left above (scalar column) stage.Start stays = record { first = _; rest = _; is = refl }
some_left above (array a) stage.Start stays = some_array a.base (above ++ a.name) (sizes a) (product (sizes a))
some_left above (array a) (stage.Again n) stays = record { first = _; rest = _; is = refl }
some_left above (array a) (stage.Elements at n) stays = some_elements a.base (above ++ a.name) (sizes a) at n stays.1
some_left above (array a) (stage.Filler n) stays = record { first = _; rest = _; is = refl }
some_left above (sequence name cs) stage.Start stays = record { first = _; rest = _; is = refl }
some_left above (sequence name cs) (stage.Rows row) stays = record { first = _; rest = _; is = refl }
some_left above (sequence name cs) (stage.Cells row at) stays = some_cells (row_path above name row) cs (drop at cs) at (rows above name cs (row + 1)) refl stays
some_left above m s stays = absurd stays

pub stepped : (ms : Members) (p q r : Place) (t : Token) (s : Stage) (at : Spot) (w : Want) (ws : List Want) (f : Field) → p.text ≡ texts.Nothing → IsPlaced ms p → spot_at ms p ≡ Some at
    → Moves at.above at.leaf p.stage t s → IsSettled ms q s r → q.text ≡ string_behind t → spot_at ms q ≡ Some at → wants_left ms p ≡ w ∷ ws → Goes w f → Is t f → (wants_left ms r ≡ becomes w f ++ ws) × IsPlaced ms r
stepped ms p q r t s at w ws f none placed is moves settled read there first goes is_read =
    let (left, stays) = next_some ms p at none is placed in
    let some = some_left at.above at.leaf p.stage stays in
    let same : some.first ∷ (some.rest ++ at.behind) ≡ w ∷ ws = ap (λ l. l ++ at.behind) (sym some.is) ∙ sym left ∙ first in
    let one = cons_first some.first w (some.rest ++ at.behind) ws same in
    let others = cons_rest some.first w (some.rest ++ at.behind) ws same in
    let (wants, stays') = moves some.first some.rest f some.is (subst (λ x. Goes x f) (sym one) goes) is_read in
    let (left', placed') = settled at there stays' in (
      left' ∙ ap (λ x. text_wants x ++ (stage_wants at.above at.leaf s ++ at.behind)) read ∙ sym (append_assoc (text_wants (string_behind t)) (stage_wants at.above at.leaf s) at.behind)
          ∙ ap (λ l. l ++ at.behind) wants ∙ append_assoc (becomes some.first f) some.rest at.behind ∙ ap (λ x. becomes x f ++ (some.rest ++ at.behind)) one ∙ ap (λ l. becomes w f ++ l) others,
      placed',
    )

pub stepped_nowhere : (ms : Members) (p : Place) (w : Want) (ws : List Want) → p.text ≡ texts.Nothing → spot_at ms p ≡ None → ¬ (wants_left ms p ≡ w ∷ ws)
stepped_nowhere ms p w ws none is some = cons_nil (sym some ∙ next_none ms p none is)
  where
    cons_nil : w ∷ ws ≡ [] → ⊥
    cons_nil same = cc

-- zero bytes behind a string
pub stepped_padding : (ms : Members) (p q : Place) (n : ℕ) (t : Token) (w : Want) (ws : List Want) (f : Field) → p.text ≡ texts.Padding n → q.text ≡ texts.Nothing → q.path.items ≡ p.path.items → q.stage ≡ p.stage
    → wants_left ms p ≡ w ∷ ws → Goes w f → wants_left ms q ≡ becomes w f ++ ws
unfolding wants_left
stepped_padding ms p q n t w ws f padding' none same_path same_stage first goes =
    let rest : List Want = option_map_or (λ x. stage_wants x.above x.leaf p.stage ++ x.behind) (spot_at ms p) [] in
    let whole : a_padding n ∷ rest ≡ w ∷ ws = ap (λ t. text_wants t ++ rest) (sym padding') ∙ first in
    let one = cons_first (a_padding n) w rest ws whole in
    let others = cons_rest (a_padding n) w rest ws whole in
    ap (λ t. text_wants t ++ option_map_or (λ x. stage_wants x.above x.leaf q.stage ++ x.behind) (spot_at ms q) []) none
    ∙ ap (λ l. option_map_or (λ x. stage_wants x.above x.leaf q.stage ++ x.behind) (spot l [] ms) []) same_path
    ∙ ap (λ k. option_map_or (λ x. stage_wants x.above x.leaf k ++ x.behind) (spot_at ms p) []) same_stage
    ∙ others ∙ ap (λ l. l ++ ws) (sym (closes f (subst (λ x. Goes x f) (sym one) goes)) ∙ ap (λ x. becomes x f) one)
  where
    closes : (f : Field) → Goes (a_padding n) f → becomes (a_padding n) f ≡ []
    closes f goes = nothing f
      where
        nothing : (f : Field) → becomes (a_padding n) f ≡ []
        nothing (xdr.count m) = refl
        nothing (number b v) = refl
        nothing (packed v) = refl
        nothing (filler m) = refl
        nothing (size m) = refl
        nothing (text bytes) = refl
        nothing (padding m) = refl
        nothing (mark b) = refl

pub not_stepped : (ms : Members) (p : Place) (left n : ℕ) (t : Token) (w : Want) (ws : List Want) (f : Field) → p.text ≡ texts.Bytes left n → wants_left ms p ≡ w ∷ ws → Goes w f → Is t f → ⊥
unfolding wants_left
not_stepped ms p left n t w ws f bytes' first goes is =
    let rest : List Want = option_map_or (λ x. stage_wants x.above x.leaf p.stage ++ x.behind) (spot_at ms p) [] in
    let whole : a_text n ∷ a_padding n ∷ rest ≡ w ∷ ws = ap (λ t. text_wants t ++ rest) (sym bytes') ∙ first in
    none t f (subst (λ x. Goes x f) (sym (cons_first (a_text n) w (a_padding n ∷ rest) ws whole)) goes) is
  where
    none : (t : Token) (f : Field) → Goes (a_text n) f → Is t f → ⊥
    none token.Count (text bytes) goes is = is
    none (token.Whole z) (text bytes) goes is = is
    none (token.Bits32 k) (text bytes) goes is = is
    none (token.Bits64 k) (text bytes) goes is = is
    none (token.Size k) (text bytes) goes is = is
    none token.Zeros (text bytes) goes is = is
    none token.Row (text bytes) goes is = is
    none token.End (text bytes) goes is = is
    none t f goes is = absurd goes

-- before the first value
pub placed_first : (r : Bool) (ms : Members) (old new : List ℕ) (p : Place) → old ≡ [] → p.path.items ≡ new → p.stage ≡ stage.Start → p.text ≡ texts.Nothing
    → MatchBool r (IsEntered 0 ms old new) ((new ≡ old) × AreEmpty ms) → (wants_left ms p ≡ wants_all [] ms) × IsPlaced ms p
placed_first true ms old new p none path start no_text (k, rest, whole, found) =
    let (s, at, begins) = found [] in
    let same : p.path.items ≡ k ∷ rest = path ∙ whole ∙ ap (λ l. l ++ (0 + k) ∷ rest) none ∙ ap (λ i. i ∷ rest) (omega arith) in
    let here : spot_at ms p ≡ Some s = ap (λ l. spot l [] ms) same ∙ at in
    let (wants, placed) = placed_at ms p s here (subst (IsStage s.leaf) (sym start) (leaf_at_path (k ∷ rest) [] ms s at)) in
    (wants ∙ ap (λ t. text_wants t ++ (stage_wants s.above s.leaf p.stage ++ s.behind)) no_text ∙ ap (λ q. stage_wants s.above s.leaf q ++ s.behind) start ∙ begins, placed)
placed_first false ms old new p none path start no_text (whole, empty) =
    let (wants, placed) = placed_nowhere ms p (path ∙ whole ∙ none) in
    (wants ∙ ap text_wants no_text ∙ sym (empty []), placed)

pub placed_new : (r : Bool) (decls : List Decl) (old new : List ℕ) (p : Place) → old ≡ [] → p.path.items ≡ new → p.stage ≡ stage.Start → p.text ≡ texts.Nothing
    → (HaveRoom (length old) (members_view decls) → 0 + length decls < 2 ^ 32 → MatchBool r (IsEntered 0 (members_view decls) old new) ((new ≡ old) × AreEmpty (members_view decls)))
    → HaveRoom 0 (members_view decls) → (wants_left (members_view decls) p ≡ wants_all [] (members_view decls)) × IsPlaced (members_view decls) p
placed_new r decls old new p none path start no_text enters room =
    placed_first r (members_view decls) old new p none path start no_text (enters (subst (λ l. HaveRoom (length l) (members_view decls)) (sym none) room) (omega (arith, many decls, room.1)))

-- behind some elements of an array
pub passed : (ms : Members) (p q : Place) (s : Spot) (a : ArrayDecl) (new : Stage) (at n : ℕ) → p.text ≡ texts.Nothing → spot_at ms p ≡ Some s → s.leaf ≡ array a
    → IsSettled ms p new q → (stage_wants s.above (array a) new ≡ elements_wants a.base (s.above ++ a.name) (sizes a) at n) → IsStageOr (array a) new
    → (wants_left ms q ≡ elements_wants a.base (s.above ++ a.name) (sizes a) at n ++ s.behind) × IsPlaced ms q
passed ms p q s a new at n none is leaf settled wants stays =
    let (left, placed) = settled s is (subst (λ m. IsStageOr m new) (sym leaf) stays) in
    (left ∙ ap (λ t. text_wants t ++ (stage_wants s.above s.leaf new ++ s.behind)) none ∙ ap (λ m. stage_wants s.above m new ++ s.behind) leaf ∙ ap (λ l. l ++ s.behind) wants, placed)

array_in : ArrayDecl → Member → ArrayDecl
array_in d (array a) = a
array_in d m = d

array_of : (a b : ArrayDecl) → array a ≡ array b → a ≡ b
unfolding array_in
array_of a b same = ap (array_in a) same

-- the variable that the code lends is the one at the place
pub lent_array : (path items : List ℕ) (ms : Members) (l : Leaf) (b : _) (s t : Spot) (a : ArrayDecl) → path ≡ items → spot path [] ms ≡ Some t → IsLeaf l t.leaf → l ≡ leaf.Array b → spot items [] ms ≡ Some s → s.leaf ≡ array a → b.now ≡ a
lent_array path items ms l b s t a same lent is variant at leaf_is =
    let one : t ≡ s = same_value t s (sym lent ∙ ap (λ p. spot p [] ms) same ∙ at) in
    array_of b.now a (leaf_array l b t.leaf variant is ∙ ap (λ x. x.leaf) one ∙ leaf_is)

pub other_leaf : (path items : List ℕ) (ms : Members) (l : Leaf) (s t : Spot) (a : ArrayDecl) → path ≡ items → spot path [] ms ≡ Some t → IsLeaf l t.leaf → ((b : _) → ¬ (l ≡ leaf.Array b)) → spot items [] ms ≡ Some s → s.leaf ≡ array a → ⊥
other_leaf path items ms l s t a same lent is variant at leaf_is =
    let one : t ≡ s = same_value t s (sym lent ∙ ap (λ p. spot p [] ms) same ∙ at) in
    only l (subst (IsLeaf l) (ap (λ x. x.leaf) one ∙ leaf_is) is) variant
  where
    only : (l : Leaf) → IsLeaf l (array a) → ((b : _) → ¬ (l ≡ leaf.Array b)) → ⊥
    only (leaf.Array b) is variant = variant b refl
    only l is variant = is
