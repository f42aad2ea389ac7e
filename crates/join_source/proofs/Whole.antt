-- The pieces of a leaf of joined files are what is sent of its variable.
use Rattle.std.proofs.Common.{◌≡◌, ℕ, suc, Bool, true, false, cond, eqb, List, [], ◌∷◌, ◌++◌, length, map, refl, sym, ap, ◌∙◌, arith}
use Rattle.std.proofs.lemmas.Bool.Decides.{nat_tests}
use Rattle.std.specs.List.{flat_map}
use Rattle.dap_types.specs.Model.{Tree}
use Rattle.dap_types.specs.declared.declarations.BaseType.{BaseType}
use Rattle.dap_types.specs.declared.slabs.Slab.{Slab}
use Rattle.dap_types.specs.declared.values.Value.{Value}
use Rattle.dap_model.specs.Cutting.{AreWithin, cut}
use Rattle.dap_model.specs.Fits.{values_in}
use Rattle.dap_model.specs.Xdr.{Field, array_fields, bytes_of, scalar_fields, value_fields}
use Rattle.hyperslab_plan.specs.Picked.{count_of}
use Rattle.hyperslab_plan.specs.Plans.{base_in, total_of}
use Rattle.hyperslab_plan.specs.declared.plan.Plan.{Plan}
use Rattle.netcdf_source.specs.File.{FileHeader}
use Rattle.netcdf_source.specs.Laws.{HasHeader}
use Rattle.netcdf_source.specs.Mapping.{base_of, element_dimensions, is_empty, size_at}
use Rattle.netcdf_source.specs.Values.{tree_of}
use Rattle.netcdf_source.specs.declared.header.Contents.{Contents}
use Rattle.slab_fill.specs.Elements.{element_fields}
use Rattle.xdr_encode.proofs.ArrayParts.{parts}
use Rattle.xdr_encode.proofs.Placing.{plans_cut}
use Rattle.xdr_encode.proofs.ScalarParts.{scalar-parts}
use Rattle.xdr_encode.specs.Elements.{forms_from, values_from}
use Rattle.xdr_encode.specs.Leaves.{counts_of, filler_of, scalar_xdr, zeros_before}
use Rattle.join_source.proofs.Twins.{forms-are, total-is, values-are}
use Rattle.join_source.proofs.Walk.{pieces-append, pieces-cons, pieces-one}
use Rattle.join_source.specs.Pieces.{piece_xdr, pieces_xdr}
use Rattle.join_source.specs.Wanted.{IsOwnPlan, whole_pieces}
use Rattle.join_source.specs.declared.piece.Piece.{Piece}
use Rattle.join_source.specs.declared.piece.Piece.TheVariants.{Text, Elements}

-- of a variable without dimensions, and of another one
abbrev pub fields_of : Bool → BaseType → List Slab → Tree → List Field
fields_of is_scalar base slabs t = cond is_scalar (scalar_fields base t) (array_fields base (values_in (cut slabs t)))

pub text-piece : (text : List ℕ) (files : List (List ℕ)) → piece_xdr (Text text) files ≡ text
unfolding piece_xdr
text-piece text files = refl

elements-piece : (plan : Plan) (file : List ℕ) (files : List (List ℕ)) → piece_xdr (Elements 0 plan) (file ∷ files) ≡ forms_from plan file 0 (total_of plan)
unfolding piece_xdr
elements-piece plan file files = refl

-- counts, elements and filler
pub array-sent : (base : BaseType) (values : List Value) (count : ℕ) (inner : List Piece) (files : List (List ℕ)) → length values ≡ count → pieces_xdr inner files ≡ bytes_of (flat_map (element_fields base) values)
    → pieces_xdr (Text (counts_of base count) ∷ inner ++ Text (filler_of base count) ∷ []) files ≡ bytes_of (array_fields base values)
array-sent base values count inner files long text =
    pieces-cons (Text (counts_of base count)) (inner ++ Text (filler_of base count) ∷ []) files
    ∙ ap (λ bs. bs ++ pieces_xdr (inner ++ Text (filler_of base count) ∷ []) files) (text-piece (counts_of base count) files)
    ∙ ap (λ bs. counts_of base count ++ bs)
    (pieces-append inner (Text (filler_of base count) ∷ []) files ∙ ap (λ bs. bs ++ pieces_xdr (Text (filler_of base count) ∷ []) files) text
    ∙ ap (λ bs. bytes_of (flat_map (element_fields base) values) ++ bs) (pieces-one (Text (filler_of base count)) files ∙ text-piece (filler_of base count) files))
    ∙ sym (ap (λ n. counts_of base n ++ (bytes_of (flat_map (element_fields base) values) ++ filler_of base n)) long)
    ∙ sym (parts base values)

-- a scalar has no hyperslabs
pub no-dimensions : (c : Contents) (ids : List ℕ) → AreWithin [] (map (size_at c) ids) → is_empty ids ≡ true
no-dimensions c [] within = refl
no-dimensions c (i ∷ ids) within = absurd within

pub some-dimensions : (c : Contents) (ids : List ℕ) (s : Slab) (slabs : List Slab) → AreWithin (s ∷ slabs) (map (size_at c) ids) → is_empty ids ≡ false
some-dimensions c [] s slabs within = absurd within
some-dimensions c (i ∷ ids) s slabs within = let some : eqb (suc (length ids)) 0 ≡ false = grind (arith, nat_tests) in some

pub whole-sent : (h : FileHeader) (leaf : ℕ) (base : BaseType) (slabs : List Slab) (plan : Plan) (file : List ℕ) (files : List (List ℕ)) → HasHeader h.contents file → (planned : IsOwnPlan h leaf slabs plan) → base ≡ base_of planned.variable.external_type
    → pieces_xdr (whole_pieces base slabs plan) (file ∷ files) ≡ bytes_of (fields_of (is_empty (element_dimensions h.contents planned.variable)) base slabs (tree_of h.contents file planned.variable))
unfolding scalar_xdr
whole-sent h leaf base [] plan file files have planned base-is =
    let v = planned.variable in
    let single : total_of plan ≡ 1 = total-is h.contents v [] plan planned.of_plan planned.within in
    let of-base : base_in plan ≡ base = planned.of_plan.base ∙ sym base-is in
    pieces-cons (Text (zeros_before base)) (Elements 0 plan ∷ []) (file ∷ files)
    ∙ ap (λ bs. bs ++ pieces_xdr (Elements 0 plan ∷ []) (file ∷ files)) (text-piece (zeros_before base) (file ∷ files))
    ∙ ap (λ bs. zeros_before base ++ bs) (pieces-one (Elements 0 plan) (file ∷ files) ∙ elements-piece plan file files)
    ∙ sym (ap (λ b. zeros_before b ++ forms_from plan file 0 (total_of plan)) of-base)
    ∙ sym (scalar-parts plan file single have.0)
    ∙ ap (λ b. bytes_of (flat_map (value_fields b) (values_from plan file 0 (total_of plan)))) of-base
    ∙ ap (λ vs. bytes_of (flat_map (value_fields base) vs)) (plans_cut h.contents file leaf v [] plan have planned.is planned.within planned.of_plan)
    ∙ sym (ap (λ b. bytes_of (fields_of b base [] (tree_of h.contents file v))) (no-dimensions h.contents (element_dimensions h.contents v) planned.within))
whole-sent h leaf base (s ∷ slabs) plan file files have planned base-is =
    let v = planned.variable in
    array-sent base (values_in (cut (s ∷ slabs) (tree_of h.contents file v))) (count_of (s ∷ slabs)) (Elements 0 plan ∷ []) (file ∷ files)
    (values-are h.contents file leaf v (s ∷ slabs) plan have planned.is planned.within planned.of_plan)
    (pieces-one (Elements 0 plan) (file ∷ files) ∙ elements-piece plan file files ∙ forms-are h.contents file leaf v (s ∷ slabs) plan have planned.is planned.within planned.of_plan
    ∙ sym (ap (λ b. bytes_of (flat_map (element_fields b) (values_in (cut (s ∷ slabs) (tree_of h.contents file v))))) base-is))
    ∙ sym (ap (λ b. bytes_of (fields_of b base (s ∷ slabs) (tree_of h.contents file v))) (some-dimensions h.contents (element_dimensions h.contents v) s slabs planned.within))
