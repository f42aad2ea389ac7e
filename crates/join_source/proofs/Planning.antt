-- The plan of a leaf of one of the files.
use Rattle.std.proofs.Common.{◌≡◌, ℕ, ◌+◌, ◌<◌, ◌≤◌, ◌^◌, List, Option, Some, Result, Ok, Err, IfOk, sym, ap, ◌∙◌, subst}
use Rattle.std.specs.Prelude.{option_map}
use Rattle.dap_types.specs.declared.declarations.BaseType.{BaseType}
use Rattle.dap_types.specs.declared.slabs.Layout.{Layout}
use Rattle.dap_types.specs.declared.slabs.Slab.{Slab}
use Rattle.dap_model.specs.Cutting.{AreWithin}
use Rattle.hyperslab_plan.proofs.LawLemmas.{plans_are_within}
use Rattle.hyperslab_plan.specs.Batches.{spent}
use Rattle.hyperslab_plan.specs.Picked.{cost_of, picked}
use Rattle.hyperslab_plan.specs.Plans.{base_in, place_of, places, size_in, total_of}
use Rattle.hyperslab_plan.specs.declared.plan.Plan.{Plan}
use Rattle.netcdf_source.specs.File.{FileHeader}
use Rattle.netcdf_source.specs.Layouts.{element_sizes, layout_of, steps_of, IsPlaced, IsShaped, LeafIsPlaced, LeafIsShaped}
use Rattle.netcdf_source.specs.Mapping.{base_of, element_size, leaf_variable}
use Rattle.netcdf_source.specs.declared.header.Variable.{Variable}
use Rattle.xdr_encode.proofs.Gathering.{ready, Ready}
use Rattle.xdr_encode.proofs.Inside.{all_within, slab_steps}
use Rattle.xdr_encode.specs.Elements.{AreInside}
use Rattle.join_source.specs.Wanted.{IsOwnPlan}

-- a leaf is one variable
same-variable : (o : Option Variable) (v w : Variable) → o ≡ Some v → o ≡ Some w → v ≡ w
same-variable o v w e f = same (sym e ∙ f)
  where
    same : ◌≡◌ {A = Option Variable} (Some v) (Some w) → v ≡ w
    same p = cc

record Known (h : FileHeader) (leaf : ℕ) (slabs : List Slab) (layout : Layout) (base : BaseType) : Type 0 where
  pub variable : Variable
  pub is : leaf_variable h.contents leaf ≡ Some variable
  pub within : AreWithin slabs (element_sizes h.contents variable)
  pub layout_is : layout ≡ layout_of h.contents variable
  pub base_is : base ≡ base_of variable.external_type
  pub placed : IsPlaced h.contents h.length variable layout
  pub shaped : IsShaped h.contents variable layout

module _ (h : FileHeader) (leaf : ℕ) (slabs : List Slab) (layout : Layout) (base : BaseType)
    (asked : (v : Variable) × (leaf_variable h.contents leaf ≡ Some v) × AreWithin slabs (element_sizes h.contents v))
    (layout_found : ◌≡◌ {A = Option Layout} (Some layout) (option_map (layout_of h.contents) (leaf_variable h.contents leaf))) (short : h.length < 2 ^ 63)
    (placed : LeafIsPlaced h.contents h.length leaf (Some layout)) (shaped : LeafIsShaped h.contents leaf (Some layout))
    (base_found : ◌≡◌ {A = Option BaseType} (Some base) (option_map (λ v. base_of v.external_type) (leaf_variable h.contents leaf))) where
  known : Known h leaf slabs layout base
  unfolding LeafIsPlaced LeafIsShaped
  known = record {
    variable = asked.0;
    is = asked.1;
    within = asked.2;
    layout_is = one (layout_of h.contents asked.0) (layout_found ∙ ap (option_map (layout_of h.contents)) asked.1);
    base_is = other (base_of asked.0.external_type) (base_found ∙ ap (option_map (λ v. base_of v.external_type)) asked.1);
    placed = subst (λ v. IsPlaced h.contents h.length v layout) (same-variable (leaf_variable h.contents leaf) placed.0 asked.0 placed.1 asked.1) placed.2;
    shaped = subst (λ v. IsShaped h.contents v layout) (same-variable (leaf_variable h.contents leaf) shaped.0 asked.0 shaped.1 asked.1) shaped.2;
  }
    where
      one : (l : Layout) → ◌≡◌ {A = Option Layout} (Some layout) (Some l) → layout ≡ l
      one l e = cc

      other : (b : BaseType) → ◌≡◌ {A = Option BaseType} (Some base) (Some b) → base ≡ b
      other b e = cc

  pub plan-ready : Ready layout base slabs
  plan-ready = ready h.contents h.length known.variable layout base slabs known.layout_is known.base_is known.placed known.shaped short known.within

  own-plan : (plan : Plan) → base_in plan ≡ base → size_in plan ≡ layout.size → places plan ≡ picked slabs layout.steps layout.base → spent plan (total_of plan) ≤ cost_of slabs layout.size → IsOwnPlan h leaf slabs plan
  unfolding AreInside
  own-plan plan base-is size-is places-are cheap =
      let size : size_in plan ≡ element_size h.contents known.variable = size-is ∙ ap (λ l. l.size) known.layout_is in
      let at : places plan ≡ picked slabs (steps_of h.contents known.variable) known.variable.begin = places-are ∙ ap (λ l. picked slabs l.steps l.base) known.layout_is in
      let v = known.variable in
      record {
        variable = known.variable;
        is = known.is;
        within = known.within;
        of_plan = record { base = base-is ∙ known.base_is; size = size; places = at };
        inside = λ p lt. subst (λ n. place_of plan p + n ≤ h.length) (sym size)
            (plans_are_within plan slabs (element_sizes h.contents known.variable) (steps_of h.contents known.variable) known.variable.begin (element_size h.contents known.variable) h.length known.within
            (slab_steps h.contents known.variable slabs known.within) (all_within h.contents h.length known.variable (subst (IsPlaced h.contents h.length known.variable) known.layout_is known.placed)) at p lt);
        cost = subst (λ l. spent plan (total_of plan) ≤ cost_of slabs l.size) known.layout_is cheap;
      }

  pub plan-is : {E : Type 0} (r : Result Plan E) → IfOk r (λ plan. base_in plan ≡ base) → IfOk r (λ plan. size_in plan ≡ layout.size) → IfOk r (λ plan. places plan ≡ picked slabs layout.steps layout.base)
      → IfOk r (λ plan. spent plan (total_of plan) ≤ cost_of slabs layout.size) → IfOk r (λ plan. IsOwnPlan h leaf slabs plan)
  plan-is (Ok plan) base-is size-is places-are cheap = own-plan plan base-is size-is places-are cheap
  plan-is (Err e) base-is size-is places-are cheap = tt
