-- The XDR of an array of numbers: its two counts, the forms of its elements, and zero bytes.
use Rattle.std.proofs.Common.{◌≡◌, ℕ, ◌+◌, ◌-◌, ◌≤◌, List, [], ◌∷◌, ◌++◌, All, Option, length, map, take, refl, sym, ap, ◌∙◌, subst, arith, append_assoc, append-nil, length-append}
use Rattle.std.proofs.KnownBytes.{Appends-trans}
use Rattle.std.proofs.Math.Seq.{take-append-add}
use Rattle.std.proofs.lemmas.List.{take-append-le}
use Rattle.std.proofs.lemmas.List.Elements.{All-append, All-nil, All-cons}
use Rattle.std.proofs.lemmas.List.FromFn.{length-map-range_with_len}
use Rattle.std.specs.Io.KnownBytes.{Appends}
use Rattle.std.specs.List.{flat_map}
use Rattle.dap_types.specs.declared.declarations.BaseType.{BaseType}
use Rattle.dap_types.specs.declared.declarations.BaseType.TheVariants.{Byte, Int16, UInt16, Int32, UInt32, Float32, Float64, Text, Url}
use Rattle.dap_types.specs.declared.values.Value.{Value}
use Rattle.dap_model.proofs.Values.{bytes_of-append}
use Rattle.dap_model.specs.Xdr.{Field, count, packed, filler, value_fields, array_fields, bytes_of, field_bytes, word, zeros}
use Rattle.dap_outside.specs.Streams.{AppendsFront}
use Rattle.hyperslab_plan.specs.Batches.{InTurn}
use Rattle.hyperslab_plan.specs.declared.batch.Batch.{Batch}
use Rattle.hyperslab_plan.specs.declared.plan.Plan.{Plan}
use Rattle.slab_fill.specs.Elements.{element_fields}
use Rattle.xdr_encode.proofs.Sending.{forms-next, turn-more, read-push}
use Rattle.xdr_encode.specs.Elements.{value_in, values_from, forms_from, AsksUpTo, StopsAt}
use Rattle.xdr_encode.specs.Leaves.{array_xdr, begins_in, counts_of, filler_of, LeafStops}

same-flat : {X Y : Type 0} (f g : X → List Y) → ((x : X) → f x ≡ g x) → (xs : List X) → flat_map f xs ≡ flat_map g xs
same-flat f g same [] = refl
same-flat f g same (x ∷ xs) = ap (λ ys. ys ++ flat_map f xs) (same x) ∙ ap (λ ys. g x ++ ys) (same-flat f g same xs)

all-packed : (vs : List Value) → flat_map (element_fields Byte) vs ≡ map packed vs
all-packed [] = refl
all-packed (v ∷ vs) = ap (λ fs. packed v ∷ fs) (all-packed vs)

plain : (base : BaseType) (vs : List Value) → (element_same : (v : Value) → element_fields base v ≡ value_fields base v)
    → bytes_of (count (length vs) ∷ count (length vs) ∷ flat_map (value_fields base) vs) ≡ (word (length vs) ++ word (length vs)) ++ (bytes_of (flat_map (element_fields base) vs) ++ [])
unfolding bytes_of field_bytes
plain base vs element_same =
    sym (append_assoc (word (length vs)) (word (length vs)) (bytes_of (flat_map (value_fields base) vs)))
    ∙ ap (λ bs. (word (length vs) ++ word (length vs)) ++ bs) (ap bytes_of (sym (same-flat (element_fields base) (value_fields base) element_same vs)) ∙ sym (append-nil (bytes_of (flat_map (element_fields base) vs))))

pub two_counts : (n : ℕ) (fs : List Field) → bytes_of (count n ∷ count n ∷ fs) ≡ (word n ++ word n) ++ bytes_of fs
unfolding bytes_of field_bytes
two_counts n fs = sym (append_assoc (word n) (word n) (bytes_of fs))

pub last : (n : ℕ) → bytes_of (filler n ∷ []) ≡ zeros n
unfolding bytes_of field_bytes
last n = append-nil (zeros n)

packed-array : (vs : List Value) → bytes_of (array_fields Byte vs) ≡ (word (length vs) ++ word (length vs)) ++ (bytes_of (flat_map (element_fields Byte) vs) ++ zeros (length vs))
packed-array vs =
    two_counts (length vs) (map packed vs ++ filler (length vs) ∷ [])
    ∙ ap (λ bs. (word (length vs) ++ word (length vs)) ++ bs)
    (bytes_of-append (map packed vs) (filler (length vs) ∷ []) ∙ ap (λ bs. bytes_of (map packed vs) ++ bs) (last (length vs)) ∙ ap (λ fs. bytes_of fs ++ zeros (length vs)) (sym (all-packed vs)))

texts : (base : BaseType) (vs : List Value) → ((v : Value) → element_fields base v ≡ value_fields base v)
    → bytes_of (count (length vs) ∷ flat_map (value_fields base) vs) ≡ word (length vs) ++ (bytes_of (flat_map (element_fields base) vs) ++ [])
unfolding bytes_of field_bytes
texts base vs same =
    ap (λ bs. word (length vs) ++ bs) (ap bytes_of (sym (same-flat (element_fields base) (value_fields base) same vs)) ∙ sym (append-nil (bytes_of (flat_map (element_fields base) vs))))

pub parts : (base : BaseType) (vs : List Value) → bytes_of (array_fields base vs) ≡ counts_of base (length vs) ++ (bytes_of (flat_map (element_fields base) vs) ++ filler_of base (length vs))
unfolding filler_of counts_of
parts Byte vs = packed-array vs
parts Int16 vs = plain Int16 vs (λ v. refl)
parts UInt16 vs = plain UInt16 vs (λ v. refl)
parts Int32 vs = plain Int32 vs (λ v. refl)
parts UInt32 vs = plain UInt32 vs (λ v. refl)
parts Float32 vs = plain Float32 vs (λ v. refl)
parts Float64 vs = plain Float64 vs (λ v. refl)
parts Text vs = texts Text vs (λ v. refl)
parts Url vs = texts Url vs (λ v. refl)

pub array-parts : (plan : Plan) (file : List ℕ) → array_xdr plan file ≡ counts_of plan.base plan.total ++ (forms_from plan file 0 plan.total ++ filler_of plan.base plan.total)
unfolding array_xdr forms_from
array-parts plan file =
    subst (λ n. bytes_of (array_fields plan.base (values_from plan file 0 plan.total)) ≡ counts_of plan.base n ++ (bytes_of (flat_map (element_fields plan.base) (values_from plan file 0 plan.total)) ++ filler_of plan.base n))
    (length-map-range_with_len (value_in plan file) 0 plan.total) (parts plan.base (values_from plan file 0 plan.total))

-- ---- where an array stops

turn-up : (plan : Plan) (bs : List Batch) (from upto : ℕ) → InTurn plan bs from upto → from ≤ upto
turn-up plan [] from upto turn = omega (arith, turn)
turn-up plan (b ∷ bs) from upto turn = omega (arith, turn-up plan bs (from + b.count) upto turn.2)

forms-up : (plan : Plan) (file : List ℕ) (a b : ℕ) → a ≤ b → length (forms_from plan file 0 a) ≤ length (forms_from plan file 0 b)
forms-up plan file a b le =
    let e : a + (b - a) ≡ b = omega arith in
    let split : forms_from plan file 0 b ≡ forms_from plan file 0 a ++ forms_from plan file a (b - a) = ap (forms_from plan file 0) (sym e) ∙ forms-next plan file a (b - a) in
    omega (arith, ap length split, length-append (forms_from plan file 0 a) (forms_from plan file a (b - a)))

-- batches up to a position begin at or before the form of its element
pub all-begun : (plan : Plan) (file : List ℕ) (bs : List Batch) (from upto put : ℕ) → InTurn plan bs from upto → length (counts_of plan.base plan.total) + length (forms_from plan file 0 upto) ≤ put → All (λ b. begins_in plan file b.first ≤ put) bs
unfolding begins_in
all-begun plan file [] from upto put turn le = All-nil (λ b. length (counts_of plan.base plan.total) + length (forms_from plan file 0 b.first) ≤ put)
all-begun plan file (b ∷ bs) from upto put turn le =
    All-cons (λ b. length (counts_of plan.base plan.total) + length (forms_from plan file 0 b.first) ≤ put) b bs
    (let up : b.first ≤ upto = omega (arith, turn.1, turn-up plan bs (from + b.count) upto turn.2) in omega (arith, le, forms-up plan file b.first upto up))
    (all-begun plan file bs (from + b.count) upto put turn.2 le)

last-begun : (plan : Plan) (file : List ℕ) (first put : ℕ) → length (forms_from plan file 0 first) ≤ put → begins_in plan file first ≤ length (counts_of plan.base plan.total) + put
unfolding begins_in
last-begun plan file first put le = omega (arith, le)

module _ (plan : Plan) (file : List ℕ) (w0 w w' : Option (List ℕ)) (asked asked' : ℕ) where
  -- within the counts
  pub stops-before : AppendsFront w0 w' (counts_of plan.base plan.total) → asked' ≤ asked → LeafStops plan (begins_in plan file) (array_xdr plan file) w0 w' asked asked'
  stops-before (k, le, front) same =
      let all : array_xdr plan file ≡ counts_of plan.base plan.total ++ (forms_from plan file 0 plan.total ++ filler_of plan.base plan.total) = array-parts plan file in
      let cut : take k (array_xdr plan file) ≡ take k (counts_of plan.base plan.total)
      = ap (take k) all ∙ take-append-le k (counts_of plan.base plan.total) (forms_from plan file 0 plan.total ++ filler_of plan.base plan.total) (omega (arith, le)) in
      record {
        batches = [];
        upto = 0;
        in_turn = refl;
        few = omega (arith, same);
        put = k;
        begun = All-nil (λ b. begins_in plan file b.first ≤ k);
        within = omega (arith, le, ap length all, length-append (counts_of plan.base plan.total) (forms_from plan file 0 plan.total ++ filler_of plan.base plan.total));
        front = subst (Appends w0 w') (sym cut) front;
      }

  -- within the elements
  pub stops-within : Appends w0 w (counts_of plan.base plan.total) → StopsAt plan file w w' asked asked' → LeafStops plan (begins_in plan file) (array_xdr plan file) w0 w' asked asked'
  stops-within counted s =
      let all : array_xdr plan file ≡ counts_of plan.base plan.total ++ (forms_from plan file 0 plan.total ++ filler_of plan.base plan.total) = array-parts plan file in
      let cut : take (length (counts_of plan.base plan.total) + s.put) (array_xdr plan file) ≡ counts_of plan.base plan.total ++ take s.put (forms_from plan file 0 plan.total)
      = ap (take (length (counts_of plan.base plan.total) + s.put)) all
      ∙ take-append-add (counts_of plan.base plan.total) (forms_from plan file 0 plan.total ++ filler_of plan.base plan.total) s.put
      ∙ ap (λ xs. counts_of plan.base plan.total ++ xs) (take-append-le s.put (forms_from plan file 0 plan.total) (filler_of plan.base plan.total) (omega (arith, s.within))) in
      record {
        batches = s.before ++ s.batch ∷ [];
        upto = s.batch.first + s.batch.count;
        in_turn = turn-more plan s.before s.batch 0 s.batch.first s.in_turn s.is_batch refl;
        few = omega (arith, s.few, read-push plan s.before s.batch s.is_batch);
        put = length (counts_of plan.base plan.total) + s.put;
        begun = All-append (λ b. begins_in plan file b.first ≤ length (counts_of plan.base plan.total) + s.put) s.before (s.batch ∷ [])
            (all-begun plan file s.before 0 s.batch.first (length (counts_of plan.base plan.total) + s.put) s.in_turn (omega (arith, s.begun)))
            (All-cons (λ b. begins_in plan file b.first ≤ length (counts_of plan.base plan.total) + s.put) s.batch [] (last-begun plan file s.batch.first s.put s.begun) (All-nil (λ b. begins_in plan file b.first ≤ length (counts_of plan.base plan.total) + s.put)));
        within = omega (
          arith,
          s.within,
          ap length all,
          length-append (counts_of plan.base plan.total) (forms_from plan file 0 plan.total ++ filler_of plan.base plan.total),
          length-append (forms_from plan file 0 plan.total) (filler_of plan.base plan.total),
        );
        front = subst (Appends w0 w') (sym cut) (Appends-trans w0 w w' (counts_of plan.base plan.total) (take s.put (forms_from plan file 0 plan.total)) counted s.front);
      }

  -- within the zero bytes
  pub stops-behind : (w1 : Option (List ℕ)) → Appends w0 w1 (counts_of plan.base plan.total) → Appends w1 w (forms_from plan file 0 plan.total) → AppendsFront w w' (filler_of plan.base plan.total)
      → AsksUpTo plan plan.total asked asked' → LeafStops plan (begins_in plan file) (array_xdr plan file) w0 w' asked asked'
  stops-behind w1 counted formed (k, le, front) asks =
      let all : array_xdr plan file ≡ counts_of plan.base plan.total ++ (forms_from plan file 0 plan.total ++ filler_of plan.base plan.total) = array-parts plan file in
      let cut : take (length (counts_of plan.base plan.total) + (length (forms_from plan file 0 plan.total) + k)) (array_xdr plan file) ≡ counts_of plan.base plan.total ++ (forms_from plan file 0 plan.total ++ take k (filler_of plan.base plan.total))
      = ap (take (length (counts_of plan.base plan.total) + (length (forms_from plan file 0 plan.total) + k))) all
      ∙ take-append-add (counts_of plan.base plan.total) (forms_from plan file 0 plan.total ++ filler_of plan.base plan.total) (length (forms_from plan file 0 plan.total) + k)
      ∙ ap (λ xs. counts_of plan.base plan.total ++ xs) (take-append-add (forms_from plan file 0 plan.total) (filler_of plan.base plan.total) k) in
      record {
        batches = asks.batches;
        upto = plan.total;
        in_turn = asks.in_turn;
        few = asks.few;
        put = length (counts_of plan.base plan.total) + (length (forms_from plan file 0 plan.total) + k);
        begun = all-begun plan file asks.batches 0 plan.total (length (counts_of plan.base plan.total) + (length (forms_from plan file 0 plan.total) + k)) asks.in_turn (omega arith);
        within = omega (
          arith,
          le,
          ap length all,
          length-append (counts_of plan.base plan.total) (forms_from plan file 0 plan.total ++ filler_of plan.base plan.total),
          length-append (forms_from plan file 0 plan.total) (filler_of plan.base plan.total),
        );
        front = subst (Appends w0 w') (sym cut)
            (Appends-trans w0 w1 w' (counts_of plan.base plan.total) (forms_from plan file 0 plan.total ++ take k (filler_of plan.base plan.total)) counted
            (Appends-trans w1 w w' (forms_from plan file 0 plan.total) (take k (filler_of plan.base plan.total)) formed front));
      }

  -- all of it
  pub whole-array : (w1 : Option (List ℕ)) → Appends w0 w1 (counts_of plan.base plan.total) → Appends w1 w (forms_from plan file 0 plan.total) → Appends w w' (filler_of plan.base plan.total) → Appends w0 w' (array_xdr plan file)
  whole-array w1 counted formed filled =
      subst (Appends w0 w') (sym (array-parts plan file))
      (Appends-trans w0 w1 w' (counts_of plan.base plan.total) (forms_from plan file 0 plan.total ++ filler_of plan.base plan.total) counted
      (Appends-trans w1 w w' (forms_from plan file 0 plan.total) (filler_of plan.base plan.total) formed filled))
