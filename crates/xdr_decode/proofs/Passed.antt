-- Elements of an array that were read at once: what is still to come behind them.
use Rattle.std.proofs.Common.{◌≡◌, ℕ, zero, suc, ◌+◌, ◌-◌, ◌*◌, ◌^◌, ◌<◌, ◌≤◌, List, [], ◌∷◌, ◌++◌, length, length-append, take, drop, min, All, Option, Some, None, IfSome, refl, ap, ◌∙◌, sym, subst, arith, append_assoc, append-nil}
use Rattle.std.proofs.Math.Seq.{take-append_seam}
use Rattle.dap_types.specs.Model.{Dataset, Member, Members, scalar, array, structure, grid, sequence, product, sizes}
use Rattle.dap_types.specs.WellFormed.{IsWellFormed}
use Rattle.dap_types.specs.declared.declarations.ArrayDecl.{ArrayDecl}
use Rattle.dap_types.specs.declared.declarations.BaseType.{BaseType}
use Rattle.dap_types.specs.declared.declarations.BaseType.TheVariants.{Byte, Int16, UInt16, Int32, UInt32, Float32, Float64, Text, Url}
use Rattle.dap_types.specs.declared.values.Value.{Value}
use Rattle.dap_model.specs.Fits.{IsOf}
use Rattle.dap_model.specs.Laws.{IsNumber, element_width}
use Rattle.dap_model.specs.Xdr.{Field, SpellsFields}
use Rattle.xdr_fields.proofs.Growing.{said_join}
use Rattle.xdr_fields.proofs.Judged.{steps_join}
use Rattle.xdr_fields.specs.Wants.{Want, IsTextType, Steps, a_filler, elements_left, said, wants_of}
use Rattle.xdr_decode.proofs.ArrayElements.{left_split}
use Rattle.xdr_decode.proofs.Asking.{next_none as place_none, next_some}
use Rattle.xdr_decode.proofs.Beginning.{next_none}
use Rattle.xdr_decode.proofs.Leading.{elements_lead}
use Rattle.xdr_decode.proofs.Moving.{elements_more, passed}
use Rattle.xdr_decode.proofs.Roomy.{roomy}
use Rattle.xdr_decode.proofs.Stopping.{spells_join}
use Rattle.xdr_decode.specs.After.{dataset_of, place_of, start_of}
use Rattle.xdr_decode.specs.inner.Leaves.{IsLeaf}
use Rattle.xdr_decode.specs.inner.Moving.{IsSettled}
use Rattle.xdr_decode.specs.inner.Places.{HaveMarks, HaveRoom, IsPlaced, IsStage, IsStageOr, Spot, elements_wants, spot_at, stage_wants, wants_left}
use Rattle.xdr_decode.specs.inner.Runs.{AreElements, Begins, HasElements}
use Rattle.xdr_decode.specs.inner.Taken.{element_want, elements_fields}
use Rattle.xdr_decode.specs.inner.Turning.{IsHeld, Spelled, Stays, rank, stage_rank, text_rank}
use Rattle.xdr_decode.specs.declared.decoder.Decoder.{Decoder}
use Rattle.xdr_decode.specs.declared.path.Leaf.{Leaf}
use Rattle.xdr_decode.specs.declared.place.Place.{Place}
use Rattle.xdr_decode.specs.declared.place.Run.{Run}
use Rattle.xdr_decode.specs.declared.place.Stage.{Stage}
use Rattle.xdr_decode.specs.declared.place.Stage.TheVariants as stage
use Rattle.xdr_decode.specs.declared.place.Text.TheVariants as texts

pub number_type : (base : BaseType) → ¬ IsTextType base → IsNumber base
number_type Text apart = absurd (apart tt)
number_type Url apart = absurd (apart tt)
number_type Byte apart = tt
number_type Int16 apart = tt
number_type UInt16 apart = tt
number_type Int32 apart = tt
number_type UInt32 apart = tt
number_type Float32 apart = tt
number_type Float64 apart = tt

-- what comes behind the elements of an array
abbrev behind_all : BaseType → ℕ → List Want
behind_all Byte count = a_filler count ∷ []
behind_all base count = []

wants_elements : (base : BaseType) (path ns : List ℕ) (at count : ℕ) → elements_wants base path ns at count ≡ elements_left (element_want base) path ns at (count - at) ++ behind_all base count
wants_elements Byte path ns at count = refl
wants_elements Int16 path ns at count = sym (append-nil _)
wants_elements UInt16 path ns at count = sym (append-nil _)
wants_elements Int32 path ns at count = sym (append-nil _)
wants_elements UInt32 path ns at count = sym (append-nil _)
wants_elements Float32 path ns at count = sym (append-nil _)
wants_elements Float64 path ns at count = sym (append-nil _)
wants_elements Text path ns at count = sym (append-nil _)
wants_elements Url path ns at count = sym (append-nil _)

-- a place before an element of an array
pub elements_array : (m : Member) (s : Stage) (at count : ℕ) → s ≡ stage.Elements at count → IsStage m s → (a : ArrayDecl) × (m ≡ array a) × (count ≡ product (sizes a)) × (at < count)
elements_array m s at count is placed = inner m (subst (IsStage m) is placed)
  where
    inner : (m : Member) → IsStage m (stage.Elements at count) → (a : ArrayDecl) × (m ≡ array a) × (count ≡ product (sizes a)) × (at < count)
    inner (array a) placed = (a, refl, placed.0, placed.1)
    inner (scalar c) placed = absurd placed
    inner (structure name parts) placed = absurd placed
    inner (grid name a maps) placed = absurd placed
    inner (sequence name columns) placed = absurd placed

array_in : ArrayDecl → Member → ArrayDecl
array_in d (array a) = a
array_in d m = d

same_array : (a b : ArrayDecl) → array a ≡ array b → a ≡ b
unfolding array_in
same_array a b same = ap (array_in a) same

pub come_elements : (ms : Members) (p : Place) (s : Spot) (base : BaseType) (at all count : ℕ) → p.text ≡ texts.Nothing → spot_at ms p ≡ Some s → IsPlaced ms p → p.stage ≡ stage.Elements at all → count ≡ all - at
    → (a : ArrayDecl) × (s.leaf ≡ array a) × (a.base ≡ base) → AreElements base count (wants_left ms p)
come_elements ms p s base at all count none is placed here many (a, leaf, same) =
    let left = (next_some ms p s none is placed).0 in
    let path : List ℕ = s.above ++ a.name in
    let wants : stage_wants s.above s.leaf p.stage ≡ elements_wants a.base path (sizes a) at all = ap (λ m. stage_wants s.above m p.stage) leaf ∙ ap (stage_wants s.above (array a)) here in
    record {
      path = path;
      sizes = sizes a;
      at = at;
      behind = behind_all base all ++ s.behind;
      parts = left ∙ ap (λ l. l ++ s.behind) (wants ∙ ap (λ b. elements_wants b path (sizes a) at all) same ∙ wants_elements base path (sizes a) at all)
          ∙ append_assoc (elements_left (element_want base) path (sizes a) at (all - at)) (behind_all base all) s.behind
          ∙ ap (λ k. elements_left (element_want base) path (sizes a) at k ++ (behind_all base all ++ s.behind)) (sym many);
    }

-- some of the elements are passed over
dropped : (base : BaseType) (path ns : List ℕ) (from k count : ℕ) (r : List Want) → from + k ≤ count → drop k (elements_wants base path ns from count ++ r) ≡ elements_wants base path ns (from + k) count ++ r
dropped base path ns from zero count r le =
    let e : from ≡ from + 0 = omega arith in ap (λ j. elements_wants base path ns j count ++ r) e
dropped base path ns from (suc k) count r le =
    let e : (from + 1) + k ≡ from + suc k = omega arith in
    ap (λ l. drop (suc k) (l ++ r)) (elements_more base path ns from count (omega (arith, le))) ∙ dropped base path ns (from + 1) k count r (omega (arith, le)) ∙ ap (λ j. elements_wants base path ns j count ++ r) e

pub passed_to : (ms : Members) (p q : Place) (s : Spot) (l : Leaf) (new : Stage) (from at count : ℕ) → p.text ≡ texts.Nothing → spot_at ms p ≡ Some s → IsLeaf l s.leaf → IsPlaced ms p → p.stage ≡ stage.Elements from count → from ≤ at → at - from ≤ count - from
    → ((above : List ℕ) (a : ArrayDecl) → IsLeaf l (array a) → at ≤ count → stage_wants above (array a) new ≡ elements_wants a.base (above ++ a.name) (sizes a) at count)
    → ((a : ArrayDecl) → IsLeaf l (array a) → at ≤ count → count ≡ product (sizes a) → IsStageOr (array a) new) → IsSettled ms p new q
    → (wants_left ms q ≡ drop (at - from) (wants_left ms p)) × IsPlaced ms q
passed_to ms p q s l new from at count none is lent placed here low fits wants stays settled =
    let (left, stage_is) = next_some ms p s none is placed in
    let (a, leaf, many, few) = elements_array s.leaf p.stage from count here stage_is in
    let lent' : IsLeaf l (array a) = subst (IsLeaf l) leaf lent in
    let high : at ≤ count = omega (arith, low, fits, few) in
    let path : List ℕ = s.above ++ a.name in
    let (now, placed') = passed ms p q s a new at count none is leaf settled (wants s.above a lent' high) (stays a lent' high many) in
    let old : wants_left ms p ≡ elements_wants a.base path (sizes a) from count ++ s.behind =
    left ∙ ap (λ m. stage_wants s.above m p.stage ++ s.behind) leaf ∙ ap (λ k. stage_wants s.above (array a) k ++ s.behind) here in
    let e : from + (at - from) ≡ at = omega (arith, low) in (
      now ∙ ap (λ j. elements_wants a.base path (sizes a) j count ++ s.behind) (sym e) ∙ sym (dropped a.base path (sizes a) from (at - from) count s.behind (omega (arith, low, high))) ∙ ap (drop (at - from)) (sym old),
      placed',
    )

-- what the code says of a run
pub runs : (ms : Members) (p : Place) (s : Spot) (o : Option Run) (at all count : ℕ) → p.text ≡ texts.Nothing → spot_at ms p ≡ Some s → IsPlaced ms p → p.stage ≡ stage.Elements at all → count ≡ all - at
    → IfSome o (λ run. (a : ArrayDecl) × (s.leaf ≡ array a) × (a.base ≡ run.base)) → IfSome o (λ run. run.count ≡ count) → IfSome o (λ run. AreElements run.base run.count (wants_left ms p))
runs ms p s None at all count none is placed here many there counts = tt
runs ms p s (Some run) at all count none is placed here many there counts = come_elements ms p s run.base at all run.count none is placed here (counts ∙ many) there

-- where there is no variable no element comes
drop_none : (k : ℕ) (l : List Want) → l ≡ [] → l ≡ drop k l
drop_none zero l is = refl
drop_none (suc k) l is = is ∙ ap (drop (suc k)) (sym is)

pub passed_nowhere : (ms : Members) (p : Place) (k : ℕ) → p.text ≡ texts.Nothing → spot_at ms p ≡ None → IsPlaced ms p → (wants_left ms p ≡ drop k (wants_left ms p)) × IsPlaced ms p
passed_nowhere ms p k none is placed = (drop_none k (wants_left ms p) (place_none ms p none is), placed)

-- a place before an element of an array that is not read
at_of : Stage → ℕ
at_of (stage.Elements at count) = at
at_of s = 0

count_of : Stage → ℕ
count_of (stage.Elements at count) = count
count_of s = 0

pub same_stage : (at from count all : ℕ) → stage.Elements at count ≡ stage.Elements from all → (at ≡ from) × (count ≡ all)
unfolding at_of count_of
same_stage at from count all same = (ap at_of same, ap count_of same)

-- the first of some elements
drop_left : (want : List ℕ → Want) (path ns : List ℕ) (at n : ℕ) (r : List Want) → drop n (elements_left want path ns at n ++ r) ≡ r
unfolding elements_left
drop_left want path ns at zero r = refl
drop_left want path ns at (suc n) r = drop_left want path ns (at + 1) n r

behind_first : (base : BaseType) (n most : ℕ) (ws : List Want) → n ≤ most → (e : AreElements base most ws) → ws ≡ elements_left (element_want base) e.path e.sizes e.at n ++ drop n ws
behind_first base n most ws le e =
    let later : List Want = elements_left (element_want base) e.path e.sizes (e.at + n) (most - n) ++ e.behind in
    let split : ws ≡ elements_left (element_want base) e.path e.sizes e.at n ++ later =
    e.parts ∙ ap (λ l. l ++ e.behind) (left_split (element_want base) e.path e.sizes e.at n (most - n) most (omega (arith, le)))
    ∙ append_assoc (elements_left (element_want base) e.path e.sizes e.at n) (elements_left (element_want base) e.path e.sizes (e.at + n) (most - n)) e.behind in
    split ∙ ap (λ l. elements_left (element_want base) e.path e.sizes e.at n ++ l) (sym (ap (drop n) split ∙ drop_left (element_want base) e.path e.sizes e.at n later))

steps_behind : (base : BaseType) (most : ℕ) (ws : List Want) (vs : List Value) → length vs ≤ most → AreElements base most ws → All (IsOf base) vs → Steps ws (elements_fields base vs) (drop (length vs) ws)
steps_behind base most ws vs le e all =
    subst (λ l. Steps l (elements_fields base vs) (drop (length vs) ws)) (sym (behind_first base (length vs) most ws le e)) (elements_lead base e.path e.sizes e.at vs (drop (length vs) ws) all)

-- what came and what would be put of it, with some fields more
spelled_on : (d : Dataset) (bytes put own : List ℕ) (ws vs : List Want) (fs : List Field) → Spelled d bytes put ws [] → SpellsFields fs own → Steps ws fs vs → Spelled d (bytes ++ own) (put ++ said ws fs) vs []
spelled_on d bytes put own ws vs fs s good steps =
    record {
      front = s.front ++ own;
      fields = s.fields ++ fs;
      parts = ap (λ l. l ++ own) (s.parts ∙ append-nil s.front) ∙ sym (append-nil (s.front ++ own));
      good = spells_join s.fields fs s.front own s.good good;
      steps = steps_join (wants_of d) s.fields fs ws vs s.steps steps;
      is_put = ap (λ l. l ++ said ws fs) (s.is_put ∙ ap (λ l. said (wants_of d) s.fields ++ l) (next_none ws) ∙ append-nil (said (wants_of d) s.fields))
          ∙ sym (said_join (wants_of d) s.fields fs ws s.steps) ∙ sym (append-nil (said (wants_of d) (s.fields ++ fs))) ∙ ap (λ l. said (wants_of d) (s.fields ++ fs) ++ l) (sym (next_none vs));
    }

none_own : (r : Decoder) (bytes put : List ℕ) (s : Stays r bytes put) → r.place.text ≡ texts.Nothing → r.held.items ≡ [] → s.own ≡ []
none_own r bytes put s none held =
    let is = subst (λ t. IsHeld t (wants_left (dataset_of r).members r.place) r.held.items s.own) none s.is_held in sym is.0 ∙ held

pub stays_passed : (r q : Decoder) (bytes put rest : List ℕ) (base : BaseType) (n most width : ℕ) → dataset_of q ≡ dataset_of r → start_of q ≡ start_of r → q.held.items ≡ r.held.items → r.held.items ≡ [] → r.place.text ≡ texts.Nothing → q.place.text ≡ r.place.text
    → width ≡ element_width base → q.taken ≡ min (r.taken + n * width) 18446744073709551615 → n ≤ most → (behind : List ℕ) × Begins base n rest behind
    → (HaveRoom 0 (dataset_of r).members → IsPlaced (dataset_of r).members r.place → (wants_left (dataset_of r).members q.place ≡ drop n (wants_left (dataset_of r).members r.place)) × IsPlaced (dataset_of r).members q.place)
    → ((m : ℕ) → HaveMarks q.place.stage m) → place_of r + length rest < 2 ^ 63 → Stays r bytes put → AreElements base most (wants_left (dataset_of r).members r.place)
    → (text : List ℕ) × Stays q (bytes ++ take (n * width) rest) (put ++ text)
stays_passed r q bytes put rest base n most width same start held none no_text text_same wide taken le (behind, b) passes marks small s e =
    let d = dataset_of r in
    let ws = wants_left d.members r.place in
    let (own, parts, good) = b.spelt in
    let (now, placed) = passes (roomy d s.well_formed) s.is_placed in
    let as_many : n * width ≡ n * element_width base = ap (λ w. n * w) wide in
    let long : length own ≡ n * width = omega (arith, b.long, ap length parts, length-append own behind, as_many) in
    let front : take (n * width) rest ≡ own = ap (take (n * width)) parts ∙ ap (λ k. take k (own ++ behind)) (sym long) ∙ take-append_seam own behind in
    let steps : Steps ws (elements_fields base b.values) (drop n ws) =
    subst (λ k. Steps ws (elements_fields base b.values) (drop k ws)) b.are_many (steps_behind base most ws b.values (omega (arith, b.are_many, le)) e b.are_of) in
    let before : Spelled d bytes put ws [] = subst (Spelled d bytes put ws) (none_own r bytes put s no_text none) s.spelled in
    let after : Spelled d (bytes ++ own) (put ++ said ws (elements_fields base b.values)) (drop n ws) [] = spelled_on d bytes put own ws (drop n ws) (elements_fields base b.values) before good steps in
    let text : List ℕ = said ws (elements_fields base b.values) in
    let there : Spelled d (bytes ++ take (n * width) rest) (put ++ text) (wants_left d.members q.place) [] =
    subst (λ l. Spelled d (bytes ++ l) (put ++ text) (wants_left d.members q.place) []) (sym front) (subst (λ l. Spelled d (bytes ++ own) (put ++ text) l []) (sym now) after) in
    let empty : q.held.items ≡ [] = held ∙ none in (
      text,
      record {
        well_formed = subst IsWellFormed (sym same) s.well_formed;
        own = [];
        spelled = subst (λ x. Spelled x (bytes ++ take (n * width) rest) (put ++ text) (wants_left x.members q.place) []) (sym same) there;
        is_placed = subst (λ x. IsPlaced x.members q.place) (sym same) placed;
        is_held = subst (λ t. IsHeld t (wants_left (dataset_of q).members q.place) q.held.items []) (sym (text_same ∙ no_text)) (empty, omega arith);
        have_marks = marks q.taken;
        is_place = omega (arith, ap length empty, ap length none, taken, start, s.is_place, small, b.long, as_many, length-append bytes (take (n * width) rest), ap length front, long);
      },
    )

pub fewer_elements : (p : Place) (n most : ℕ) → n ≤ most → HasElements p most → HasElements p n
fewer_elements p n most le has = record { at = has.at; count = has.count; is_stage = has.is_stage; no_text = has.no_text; within = omega (arith, le, has.within) }

-- numbers that were passed over have bytes
some_bytes : (base : BaseType) (n w : ℕ) → w ≡ element_width base → n ≤ n * w
some_bytes Byte n w is = omega (arith, ap (λ k. n * k) is)
some_bytes Int16 n w is = omega (arith, ap (λ k. n * k) is)
some_bytes UInt16 n w is = omega (arith, ap (λ k. n * k) is)
some_bytes Int32 n w is = omega (arith, ap (λ k. n * k) is)
some_bytes UInt32 n w is = omega (arith, ap (λ k. n * k) is)
some_bytes Float32 n w is = omega (arith, ap (λ k. n * k) is)
some_bytes Float64 n w is = omega (arith, ap (λ k. n * k) is)
some_bytes Text n w is = omega (arith, ap (λ k. n * k) is)
some_bytes Url n w is = omega (arith, ap (λ k. n * k) is)

pub run_falls : (p q : Place) (most n w held : ℕ) (base : BaseType) → HasElements p most → w ≡ element_width base → ¬ (n ≡ 0) → stage_rank q.stage ≤ 1 → q.text ≡ p.text → held ≡ 0
    → rank q + 6 * min 1 held < (rank p + 6 * min 1 held) + 6 * (n * w)
run_falls p q most n w held base has is some low same none =
    omega (arith, low, ap text_rank (same ∙ has.no_text), none, some, some_bytes base n w is)
