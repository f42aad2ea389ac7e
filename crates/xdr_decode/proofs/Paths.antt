-- The path that is put is that of the element that comes.
use Rattle.std.proofs.Common.{◌≡◌, ℕ, zero, suc, ◌+◌, ◌<◌, List, [], ◌∷◌, ◌++◌, length, length-drop, drop, codes, slice_get, Option, Some, None, refl, ap, ◌∙◌, sym, subst, arith, append_assoc}
use Rattle.std.specs.Bool.{⊤}
use Rattle.std.specs.Option.{option_map_or}
use Rattle.plain_lemmas.proofs.Lists.{cons_first}
use Rattle.plain_lemmas.proofs.Options.{same_value}
use Rattle.dap_types.specs.Model.{Member, scalar, array, structure, grid, sequence, Members, no_members, member, sizes, product}
use Rattle.dap_types.specs.declared.declarations.BaseType.{BaseType}
use Rattle.dap_types.specs.declared.declarations.BaseType.TheVariants.{Byte, Int16, UInt16, Int32, UInt32, Float32, Float64, Text, Url}
use Rattle.dap_types.specs.declared.declarations.Column.{Column}
use Rattle.dap_types.specs.declared.values.Value.{Value}
use Rattle.dap_types.specs.declared.values.Value.TheVariants as values
use Rattle.dap_model.specs.Shown.{index_text, shown_value}
use Rattle.dap_model.specs.Xdr.{Field, number, packed, size, padding}
use Rattle.xdr_fields.specs.Wants.{Want, a_count, a_value, a_byte, a_filler, a_padding, rows, Goes, array_wants, cell_wants, index_texts, row_path, says}
use Rattle.xdr_decode.proofs.Advancing.{mapped}
use Rattle.xdr_decode.proofs.Asking.{next_none, next_some}
use Rattle.xdr_decode.proofs.Moving.{Some_left, element_want, elements_more, some_left}
use Rattle.xdr_decode.proofs.Spots.{scalar_alone, array_alone, sequence_alone}
use Rattle.xdr_decode.proofs.Turning.{later, no_string, padding_first}
use Rattle.xdr_decode.specs.inner.Asked.{Asks, Is, IsElement}
use Rattle.xdr_decode.specs.inner.Lines.{array_text, cell_text, path_text, text_first, text_in, token_text}
use Rattle.xdr_decode.specs.inner.Places.{IsPlaced, IsStage, Spot, alone, elements_wants, followed, members_from, of_grid, spot, spot_at, spot_first, spot_of, stage_wants, wants_left}
use Rattle.xdr_decode.specs.declared.field.Ask.{Ask}
use Rattle.xdr_decode.specs.declared.field.Ask.TheVariants as ask
use Rattle.xdr_decode.specs.declared.field.Token.{Token}
use Rattle.xdr_decode.specs.declared.field.Token.TheVariants as token
use Rattle.xdr_decode.specs.declared.place.Place.{Place}
use Rattle.xdr_decode.specs.declared.place.Stage.{Stage}
use Rattle.xdr_decode.specs.declared.place.Stage.TheVariants as stage
use Rattle.xdr_decode.specs.declared.place.Text.{Text as Texts}
use Rattle.xdr_decode.specs.declared.place.Text.TheVariants as texts

-- the path of the element that comes of a variable
abbrev leaf_text : Stage → List ℕ → Member → List ℕ
leaf_text s above (scalar column) = above ++ column.name
leaf_text s above (array a) = above ++ array_text s a
leaf_text s above (structure name parts) = above
leaf_text s above (grid name a maps) = above
leaf_text s above (sequence name columns) = above ++ (name ++ cell_text columns s)

abbrev Leads : Stage → List ℕ → Type 0
Leads k path = (above : List ℕ) (m : Member) (s : Spot) → spot_of path above m ≡ Some s → above ++ text_in path k m ≡ leaf_text k s.above s.leaf

leads_first : (k : Stage) (path above : List ℕ) (ms : Members) (s : Spot) → Leads k path → spot_first (spot_of path) above ms ≡ Some s → above ++ text_first (text_in path k) ms ≡ leaf_text k s.above s.leaf
leads_first k path above no_members s leads is = cc
leads_first k path above (member m ms) s leads is =
    let (s0, at, same) = mapped (followed above ms) (spot_of path above m) s is in leads above m s0 at ∙ ap (λ x. leaf_text k x.above x.leaf) same

leads_one : (k : Stage) (above : List ℕ) (m : Member) (s : Spot) (text : List ℕ) (o : Option Spot) → o ≡ alone above m → o ≡ Some s → text ≡ leaf_text k above m → text ≡ leaf_text k s.above s.leaf
leads_one k above m s text o same is here = here ∙ ap (λ x. leaf_text k x.above x.leaf) (same_value (record { above = above; leaf = m; behind = [] }) s (sym same ∙ is))

leads : (k : Stage) (path : List ℕ) → Leads k path
leads k [] above (scalar c) s is = leads_one k above (scalar c) s _ _ (scalar_alone [] above c) is refl
leads k (i ∷ path) above (scalar c) s is = leads_one k above (scalar c) s _ _ (scalar_alone (i ∷ path) above c) is refl
leads k [] above (array a) s is = leads_one k above (array a) s _ _ (array_alone [] above a) is refl
leads k (i ∷ path) above (array a) s is = leads_one k above (array a) s _ _ (array_alone (i ∷ path) above a) is refl
leads k [] above (structure name parts) s is = cc
leads k (i ∷ path) above (structure name parts) s is =
    ap (λ l. above ++ l) (append_assoc name (codes ".") (text_first (text_in path k) (members_from i parts)))
    ∙ sym (append_assoc above name (codes "." ++ text_first (text_in path k) (members_from i parts)))
    ∙ sym (append_assoc (above ++ name) (codes ".") (text_first (text_in path k) (members_from i parts)))
    ∙ leads_first k path (above ++ name ++ codes ".") (members_from i parts) s (leads k path) is
leads k [] above (grid name a maps) s is = cc
leads k (i ∷ path) above (grid name a maps) s is =
    let up = above ++ name ++ codes "." in
    let (b, at, same) = mapped (of_grid up (drop i maps)) (slice_get (a ∷ maps) i) s is in
    let text = array_text k b in
    ap (λ o. above ++ ((name ++ codes ".") ++ option_map_or (array_text k) o [])) at
    ∙ ap (λ l. above ++ l) (append_assoc name (codes ".") text)
    ∙ sym (append_assoc above name (codes "." ++ text))
    ∙ sym (append_assoc (above ++ name) (codes ".") text)
    ∙ ap (λ x. leaf_text k x.above x.leaf) same
leads k [] above (sequence name cs) s is = leads_one k above (sequence name cs) s _ _ (sequence_alone [] above name cs) is refl
leads k (i ∷ path) above (sequence name cs) s is = leads_one k above (sequence name cs) s _ _ (sequence_alone (i ∷ path) above name cs) is refl

leads_all : (k : Stage) (path : List ℕ) (ms : Members) (s : Spot) → spot path [] ms ≡ Some s → path_text ms path k ≡ leaf_text k s.above s.leaf
leads_all k [] ms s is = cc
leads_all k (i ∷ path) ms s is = leads_first k path [] (members_from i ms) s (leads k path) is

-- what comes is an element with this path
abbrev IsElementAt : List ℕ → Want → Type 0
IsElementAt p (a_value path base) = p ≡ path
IsElementAt p (a_byte path) = p ≡ path
IsElementAt p w = ⊥

element_at : (base : BaseType) (p : List ℕ) → IsElementAt p (element_want base p)
element_at Byte p = refl
element_at Int16 p = refl
element_at UInt16 p = refl
element_at Int32 p = refl
element_at UInt32 p = refl
element_at Float32 p = refl
element_at Float64 p = refl
element_at Text p = refl
element_at Url p = refl

array_count : (base : BaseType) (path ns : List ℕ) (n : ℕ) → (ws : List Want) × (array_wants base path ns n ≡ a_count n ∷ ws)
array_count Byte path ns n = (_, refl)
array_count Int16 path ns n = (_, refl)
array_count UInt16 path ns n = (_, refl)
array_count Int32 path ns n = (_, refl)
array_count UInt32 path ns n = (_, refl)
array_count Float32 path ns n = (_, refl)
array_count Float64 path ns n = (_, refl)
array_count Text path ns n = (_, refl)
array_count Url path ns n = (_, refl)

no_count : (a : Ask) (n : ℕ) → Asks a (a_count n) → IsElement a → ⊥
no_count (ask.Count k) n asks el = el
no_count a n asks el = absurd asks

no_filler : (a : Ask) (n : ℕ) → Asks a (a_filler n) → IsElement a → ⊥
no_filler (ask.Filler k) n asks el = el
no_filler a n asks el = absurd asks

no_padding : (a : Ask) (n : ℕ) → Asks a (a_padding n) → IsElement a → ⊥
no_padding (ask.Padding k) n asks el = el
no_padding a n asks el = absurd asks

no_rows : (a : Ask) (above name : List ℕ) (cs : List Column) (row : ℕ) → Asks a (rows above name cs row) → IsElement a → ⊥
no_rows ask.Mark above name cs row asks el = el
no_rows a above name cs row asks el = absurd asks

got : (cs : List Column) (at : ℕ) (c : Column) (l : List Column) → c ∷ l ≡ drop at cs → slice_get cs at ≡ Some c
got [] zero c l is = cc
got [] (suc at) c l is = cc
got (x ∷ cs) zero c l is = ap Some (sym (same_column c x l cs is))
  where
    same_column : (c x : Column) (l cs : List Column) → c ∷ l ≡ x ∷ cs → c ≡ x
    same_column c x l cs same = cc
got (x ∷ cs) (suc at) c l is = got cs at c l is

regroup : (a b c d e : List ℕ) → a ++ (b ++ (c ++ (d ++ e))) ≡ (((a ++ b) ++ c) ++ d) ++ e
regroup a b c d e = simp append_assoc

cell_at : (above name : List ℕ) (cs l : List Column) (row at : ℕ) (w : Want) (ws : List Want) → l ≡ drop at cs → at < length cs → cell_wants (row_path above name row) l ++ rows above name cs (row + 1) ∷ [] ≡ w ∷ ws
    → IsElementAt (above ++ (name ++ cell_text cs (stage.Cells row at))) w
cell_at above name cs [] row at w ws none lt is = absurd (omega (arith, lt, ap length none, length-drop at cs))
cell_at above name cs (c ∷ l) row at w ws some lt is =
    let p = row_path above name row ++ c.name in
    let path : above ++ (name ++ cell_text cs (stage.Cells row at)) ≡ p =
    ap (λ o. above ++ (name ++ (index_text row ++ (codes "." ++ option_map_or (λ x. x.name) o [])))) (got cs at c l some) ∙ regroup above name (index_text row) (codes ".") c.name in
    subst (IsElementAt (above ++ (name ++ cell_text cs (stage.Cells row at)))) (cons_first (a_value p c.base) w (cell_wants (row_path above name row) l ++ rows above name cs (row + 1) ∷ []) ws is) path

at_stage : (a : Ask) (above : List ℕ) (m : Member) (k : Stage) (w : Want) (ws : List Want) → IsStage m k → IsElement a → Asks a w → stage_wants above m k ≡ w ∷ ws → IsElementAt (leaf_text k above m) w
at_stage a above (scalar c) stage.Start w ws stays el asks is = subst (IsElementAt (above ++ c.name)) (cons_first (a_value (above ++ c.name) c.base) w [] ws is) refl
at_stage a above (array b) stage.Start w ws stays el asks is =
    let (vs, first) = array_count b.base (above ++ b.name) (sizes b) (product (sizes b)) in
    absurd (no_count a (product (sizes b)) (subst (Asks a) (sym (cons_first (a_count (product (sizes b))) w vs ws (sym first ∙ is))) asks) el)
at_stage a above (array b) (stage.Again n) w ws stays el asks is = absurd (no_count a n (subst (Asks a) (sym (cons_first (a_count n) w (elements_wants b.base (above ++ b.name) (sizes b) 0 n) ws is)) asks) el)
at_stage a above (array b) (stage.Elements at n) w ws stays el asks is =
    let p = (above ++ b.name) ++ index_texts (sizes b) at in
    let first : element_want b.base p ≡ w = cons_first (element_want b.base p) w (elements_wants b.base (above ++ b.name) (sizes b) (at + 1) n) ws (sym (elements_more b.base (above ++ b.name) (sizes b) at n stays.1) ∙ is) in
    subst (λ l. IsElementAt l w) (append_assoc above b.name (index_texts (sizes b) at)) (subst (IsElementAt p) first (element_at b.base p))
at_stage a above (array b) (stage.Filler n) w ws stays el asks is = absurd (no_filler a n (subst (Asks a) (sym (cons_first (a_filler n) w [] ws is)) asks) el)
at_stage a above (sequence name cs) stage.Start w ws stays el asks is = absurd (no_rows a above name cs 0 (subst (Asks a) (sym (cons_first (rows above name cs 0) w [] ws is)) asks) el)
at_stage a above (sequence name cs) (stage.Rows row) w ws stays el asks is = absurd (no_rows a above name cs row (subst (Asks a) (sym (cons_first (rows above name cs row) w [] ws is)) asks) el)
at_stage a above (sequence name cs) (stage.Cells row at) w ws stays el asks is = cell_at above name cs (drop at cs) row at w ws refl stays is
at_stage a above m k w ws stays el asks is = absurd stays

-- what is still to come of the variable comes first
first_in : (us vs ws : List Want) (w : Want) → Some_left us → us ++ vs ≡ w ∷ ws → (rest : List Want) × (us ≡ w ∷ rest)
first_in us vs ws w some is = (some.rest, some.is ∙ ap (λ x. x ∷ some.rest) (cons_first some.first w (some.rest ++ vs) ws (ap (λ l. l ++ vs) (sym some.is) ∙ is)))

element_path : (ms : Members) (p : Place) (a : Ask) (w : Want) (ws : List Want) → IsPlaced ms p → wants_left ms p ≡ w ∷ ws → IsElement a → Asks a w → IsElementAt (path_text ms p.path.items p.stage) w
element_path ms p a w ws placed first el asks = inner p.text refl (spot_at ms p) refl
  where
    inner : (t : Texts) → p.text ≡ t → (o : Option Spot) → spot_at ms p ≡ o → IsElementAt (path_text ms p.path.items p.stage) w
    inner (texts.Bytes left total) at o is = absurd (no_string ms p a w ws left total first asks at)
    inner (texts.Padding n) at o is = absurd (no_padding a n (subst (Asks a) (cons_first w (a_padding n) ws (later ms p) (sym first ∙ padding_first ms p n at)) asks) el)
    inner texts.Nothing at None is = absurd (cons_none (sym first ∙ next_none ms p at is))
      where
        cons_none : w ∷ ws ≡ [] → ⊥
        cons_none same = cc
    inner texts.Nothing at (Some s) is =
        let (left, stays) = next_some ms p s at is placed in
        let (rest, here) = first_in (stage_wants s.above s.leaf p.stage) s.behind ws w (some_left s.above s.leaf p.stage stays) (sym left ∙ first) in
        subst (λ l. IsElementAt l w) (sym (leads_all p.stage p.path.items ms s is)) (at_stage a s.above s.leaf p.stage w rest stays el asks here)

-- what is put of it
joined : (a b c d : List ℕ) → a ++ (b ++ (c ++ d)) ≡ ((a ++ b) ++ c) ++ d
joined a b c d = simp append_assoc

value_line : (p path : List ℕ) (v u : Value) → p ≡ path → v ≡ u → p ++ (codes " = " ++ (shown_value u ++ codes "\n")) ≡ path ++ codes " = " ++ shown_value v ++ codes "\n"
value_line p path v u at is =
    joined p (codes " = ") (shown_value u) (codes "\n") ∙ ap (λ x. p ++ codes " = " ++ shown_value x ++ codes "\n") (sym is) ∙ ap (λ q. q ++ codes " = " ++ shown_value v ++ codes "\n") at

says_element : (p : List ℕ) (w : Want) (f : Field) (t : Token) → IsElementAt p w → Goes w f → Is t f → p ++ token_text t ≡ says w f
says_element p (a_value path base) (number b v) (token.Whole z) at goes is = value_line p path v (values.Whole z) at is
says_element p (a_value path base) (number b v) (token.Bits32 n) at goes is = value_line p path v (values.Bits32 n) at is
says_element p (a_value path base) (number b v) (token.Bits64 n) at goes is = value_line p path v (values.Bits64 n) at is
says_element p (a_value path base) (number b v) t at goes is = absurd is
says_element p (a_value path base) (size n) (token.Size k) at goes is = ap (λ q. q ++ codes " = \"") at
says_element p (a_value path base) (size n) t at goes is = absurd is
says_element p (a_value path base) f t at goes is = absurd goes
says_element p (a_byte path) (packed v) (token.Whole z) at goes is = value_line p path v (values.Whole z) at is
says_element p (a_byte path) (packed v) t at goes is = absurd is
says_element p (a_byte path) f t at goes is = absurd goes
says_element p w f t at goes is = absurd at

pub says_all : (ms : Members) (p : Place) (a : Ask) (w : Want) (ws : List Want) (f : Field) (t : Token) → IsPlaced ms p → wants_left ms p ≡ w ∷ ws → IsElement a → Asks a w → Goes w f → Is t f
    → path_text ms p.path.items p.stage ++ token_text t ≡ says w f
says_all ms p a w ws f t placed first el asks goes is = says_element (path_text ms p.path.items p.stage) w f t (element_path ms p a w ws placed first el asks) goes is

-- of the padding of a string the closing quote is put
pub says_padding : (k : ℕ) (w : Want) (f : Field) → Asks (ask.Padding k) w → Goes w f → codes "\"\n" ≡ says w f
says_padding k (a_padding n) (padding m) asks goes = refl
says_padding k (a_padding n) f asks goes = absurd goes
says_padding k w f asks goes = absurd asks

-- and of the others nothing
says_count : (k : ℕ) (w : Want) (f : Field) → Asks (ask.Count k) w → [] ≡ says w f
says_count k (a_count n) f asks = refl
says_count k w f asks = absurd asks

says_filler : (k : ℕ) (w : Want) (f : Field) → Asks (ask.Filler k) w → [] ≡ says w f
says_filler k (a_filler n) f asks = refl
says_filler k w f asks = absurd asks

says_mark : (w : Want) (f : Field) → Asks ask.Mark w → [] ≡ says w f
says_mark (rows above name cs row) f asks = refl
says_mark w f asks = absurd asks

-- what does not stand for an element
abbrev pub IsSilent : Ask → Type 0
IsSilent (ask.Count k) = ⊤
IsSilent (ask.Filler k) = ⊤
IsSilent ask.Mark = ⊤
IsSilent a = ⊥

pub says_none : (a : Ask) (w : Want) (f : Field) → IsSilent a → Asks a w → [] ≡ says w f
says_none (ask.Count k) w f silent asks = says_count k w f asks
says_none (ask.Filler k) w f silent asks = says_filler k w f asks
says_none ask.Mark w f silent asks = says_mark w f asks
says_none a w f silent asks = absurd silent
