-- What is stored of top members, one after the other, and why not.
use Rattle.std.proofs.Common.{Result, Ok, Err, IfOk, ◌≡◌, ℕ, ◌+◌, Bool, true, false, not, ◌&&◌, ◌||◌, List, [], ◌∷◌, ◌++◌, filter, cond, Option, Some, None, option_map, is_some, is_none, refl, ap, sym, ◌∙◌, append-nil, append_assoc, arith, subst, if◌then◌else◌}
use Rattle.std.proofs.lemmas.Grind.{flat_map-append}
use Rattle.std.specs.List.{list_any}
use Rattle.std.specs.Option.{option_map_or, option_or}
use Rattle.plain_lemmas.proofs.Lists.{any-map}
use Rattle.dap_types.specs.Model.{count}
use Rattle.dap_types.specs.declared.declarations.Dim.{Dim}
use Rattle.dap_types.specs.declared.memory.Memory as want
use Rattle.netcdf_writer.specs.Causes.{is_other_kind, lacks_name, has_bad_name, is_bad_grid, clashes, has_bad_zero, map_clashes, dims_clash, records_clash, is_other_than, why, first_cause}
use Rattle.netcdf_writer.specs.Variables.{Variable, Top, all_dims, all_maps, is_array, is_new, is_same, maps_of, own, stored, stored_from, top_named}
use Rattle.netcdf_writer.specs.declared.lent.Lent.{Lent}
use Rattle.netcdf_writer.specs.declared.plan.Plan.{Plan}
use Rattle.netcdf_writer.specs.declared.stored.Why.{Why}
use Rattle.netcdf_writer.specs.declared.stored.Why.TheVariants.{Kind, NoName, BadName, BadGrid, Clash, Zero}
use Rattle.netcdf_writer.specs.declared.table.Table.{Table}
use Rattle.netcdf_writer.specs.declared.tops.Top as lent_top
use Rattle.netcdf_writer.specs.inner.Planned.{AreDims, AreMaps, AreTops, IsPlanned, IsRecord, StepsBeside, StepsTo, clash_in, new_in, why_alone, why_beside}
use Rattle.netcdf_writer.specs.inner.Tables.{top_view, under, variable_view, variable_views}

-- ---- what is stored

pub stored_none : (all : List Top) → stored_from all [] [] ≡ []
unfolding stored_from
stored_none all = refl

stored_more : (all earlier us vs : List Top) → stored_from all earlier (us ++ vs) ≡ stored_from all earlier us ++ stored_from all (earlier ++ us) vs
unfolding stored_from
stored_more all earlier [] vs = ap (λ l. stored_from all l vs) (sym (append-nil earlier))
stored_more all earlier (u ∷ us) vs =
    ap (λ l. stored all earlier u ++ l) (stored_more all (earlier ++ u ∷ []) us vs ∙ ap (λ l. stored_from all (earlier ++ u ∷ []) us ++ stored_from all l vs) (append_assoc earlier (u ∷ []) us))
    ∙ sym (append_assoc (stored all earlier u) (stored_from all (earlier ++ u ∷ []) us) (stored_from all (earlier ++ u ∷ us) vs))

stored_here : (all earlier : List Top) (top : Top) → stored_from all earlier (top ∷ []) ≡ stored all earlier top
unfolding stored_from
stored_here all earlier top = append-nil (stored all earlier top)

pub stored_one : (all earlier : List Top) (top : Top) → stored_from all [] (earlier ++ top ∷ []) ≡ stored_from all [] earlier ++ stored all earlier top
stored_one all earlier top = stored_more all [] earlier (top ∷ []) ∙ ap (λ l. stored_from all [] earlier ++ l) (stored_here all earlier top)

pub maps_one : (earlier : List Top) (top : Top) → all_maps (earlier ++ top ∷ []) ≡ all_maps earlier ++ maps_of top
maps_one earlier top = flat_map-append maps_of earlier (top ∷ []) ∙ ap (λ l. all_maps earlier ++ l) (append-nil (maps_of top))

-- ---- tables

pub or_of_map : {X Y Z : Type 0} (g : Y → Z) (f : X → Y) (o : Option X) (d : Z) → option_map_or (λ x. g (f x)) o d ≡ option_map_or g (option_map f o) d
or_of_map g f None d = refl
or_of_map g f (Some x) d = refl

none_of_map : {X Y : Type 0} (f : X → Y) (o : Option X) → is_none o ≡ not (is_some (option_map f o))
none_of_map f None = refl
none_of_map f (Some x) = refl

new_same : (names : Table lent_top.Top) (maps : Table Lent) (all earlier : List Top) → AreTops names all → AreMaps maps (all_maps earlier) → (v : Variable) → new_in names maps v ≡ is_new all earlier v
unfolding new_in is_new AreTops AreMaps
new_same names maps all earlier tops are v =
    ap (λ b. not b && is_none (under maps v.name)) (or_of_map is_array top_view (under names v.name) false ∙ ap (λ o. option_map_or is_array o false) (tops v.name))
    ∙ ap (λ b. not (option_map_or is_array (top_named v.name all) false) && b) (none_of_map variable_view (under maps v.name) ∙ ap (λ o. not (is_some o)) (are v.name))

clash_same : (names : Table lent_top.Top) (maps : Table Lent) (all earlier : List Top) → AreTops names all → AreMaps maps (all_maps earlier) → (v : Variable) → clash_in names maps v ≡ map_clashes all earlier v
unfolding clash_in map_clashes AreTops AreMaps
clash_same names maps all earlier tops are v =
    ap (λ b. b || option_map_or (λ m. not (is_same v (variable_view m))) (under maps v.name) false) (or_of_map (is_other_than v) top_view (under names v.name) false ∙ ap (λ o. option_map_or (is_other_than v) o false) (tops v.name))
    ∙ ap (λ b. option_map_or (is_other_than v) (top_named v.name all) false || b) (or_of_map (λ m. not (is_same v m)) variable_view (under maps v.name) false ∙ ap (λ o. option_map_or (λ m. not (is_same v m)) o false) (are v.name))

filter_same : (p q : Variable → Bool) → ((v : Variable) → p v ≡ q v) → (vs : List Variable) → filter p vs ≡ filter q vs
filter_same p q same [] = refl
filter_same p q same (v ∷ vs) = ap (λ b. cond b (v ∷ filter p vs) (filter p vs)) (same v) ∙ ap (λ l. cond (q v) (v ∷ l) l) (filter_same p q same vs)

any_same : (p q : Variable → Bool) → ((v : Variable) → p v ≡ q v) → (vs : List Variable) → list_any p vs ≡ list_any q vs
any_same p q same [] = refl
any_same p q same (v ∷ vs) = ap (λ b. b || list_any p vs) (same v) ∙ ap (λ b. q v || b) (any_same p q same vs)

pub own_stored : (names : Table lent_top.Top) (maps : Table Lent) (all earlier : List Top) (top : Top) (of_maps own_ones : List Variable) → AreTops names all → AreMaps maps (all_maps earlier)
    → of_maps ≡ maps_of top → own_ones ≡ filter (new_in names maps) of_maps ++ own top → own_ones ≡ stored all earlier top
unfolding stored
own_stored names maps all earlier top of_maps own_ones tops are is so =
    so ∙ ap (λ l. l ++ own top) (filter_same (new_in names maps) (is_new all earlier) (new_same names maps all earlier tops are) of_maps ∙ ap (filter (is_new all earlier)) is)

pub maps_clash : (names : Table lent_top.Top) (maps : Table Lent) (all earlier : List Top) (top : Top) (own_maps : List Lent) (b : Bool) → AreTops names all → AreMaps maps (all_maps earlier)
    → variable_views own_maps ≡ maps_of top → b ≡ list_any (λ m. clash_in names maps (variable_view m)) own_maps → list_any (map_clashes all earlier) (maps_of top) ≡ b
maps_clash names maps all earlier top own_maps b tops are is so =
    sym (so ∙ sym (any-map (clash_in names maps) variable_view own_maps) ∙ any_same (clash_in names maps) (map_clashes all earlier) (clash_same names maps all earlier tops are) (variable_views own_maps)
    ∙ ap (list_any (map_clashes all earlier)) is)

-- ---- causes

beside_is : (all earlier : List Top) (top : Top)
    → why_beside all earlier top ≡ (if list_any (map_clashes all earlier) (maps_of top) || dims_clash (all_dims (stored_from all [] earlier)) (all_dims (stored all earlier top)) then Some Clash else if records_clash (stored_from all [] earlier) (stored all earlier top) then Some Zero else None)
unfolding why_beside clashes has_bad_zero
beside_is all earlier top = refl

pub beside_at : (all earlier : List Top) (top : Top) (m d z : Bool) → list_any (map_clashes all earlier) (maps_of top) ≡ m → dims_clash (all_dims (stored_from all [] earlier)) (all_dims (stored all earlier top)) ≡ d
    → records_clash (stored_from all [] earlier) (stored all earlier top) ≡ z → why_beside all earlier top ≡ (if m || d then Some Clash else if z then Some Zero else None)
beside_at all earlier top m d z a b e = rw (beside_is all earlier top, a, b, e) refl

pub beside_maps : (all earlier : List Top) (top : Top) → list_any (map_clashes all earlier) (maps_of top) ≡ true → Some Clash ≡ why_beside all earlier top
beside_maps all earlier top a = sym (beside_at all earlier top true _ _ a refl refl)

pub beside_dims : (all earlier : List Top) (top : Top) → list_any (map_clashes all earlier) (maps_of top) ≡ false → dims_clash (all_dims (stored_from all [] earlier)) (all_dims (stored all earlier top)) ≡ true
    → Some Clash ≡ why_beside all earlier top
beside_dims all earlier top a b = sym (beside_at all earlier top false true _ a b refl)

chain_some : (k n b g : Bool) (behind : Option Why) (w : Why) → (if k then Some Kind else if n then Some NoName else if b then Some BadName else if g then Some BadGrid else None) ≡ Some w
    → Some w ≡ (if k then Some Kind else if n then Some NoName else if b then Some BadName else if g then Some BadGrid else behind)
chain_some true n b g behind w e = sym e
chain_some false true b g behind w e = sym e
chain_some false false true g behind w e = sym e
chain_some false false false true behind w e = sym e
chain_some false false false false behind w e = cc

chain_none : (k n b g : Bool) (behind : Option Why) → (if k then Some Kind else if n then Some NoName else if b then Some BadName else if g then Some BadGrid else None) ≡ None
    → (if k then Some Kind else if n then Some NoName else if b then Some BadName else if g then Some BadGrid else behind) ≡ behind
chain_none true n b g behind e = cc
chain_none false true b g behind e = cc
chain_none false false true g behind e = cc
chain_none false false false true behind e = cc
chain_none false false false false behind e = refl

pub why_some : (all earlier : List Top) (top : Top) (w : Why) → why_alone top.0 ≡ Some w → Some w ≡ why all earlier top
unfolding why_alone why
why_some all earlier top w e =
    chain_some (is_other_kind top.0) (lacks_name top.0) (has_bad_name top.0) (is_bad_grid top.0) (if clashes all earlier top then Some Clash else if has_bad_zero all earlier top then Some Zero else None) w e

pub why_rest : (all earlier : List Top) (top : Top) → why_alone top.0 ≡ None → why_beside all earlier top ≡ why all earlier top
unfolding why_alone why why_beside
why_rest all earlier top e =
    sym (chain_none (is_other_kind top.0) (lacks_name top.0) (has_bad_name top.0) (is_bad_grid top.0) (if clashes all earlier top then Some Clash else if has_bad_zero all earlier top then Some Zero else None) e)

kind_none : (k : Bool) (behind : Option Why) → (if k then Some Kind else behind) ≡ None → k ≡ false
kind_none true behind e = cc
kind_none false behind e = refl

pub no_other_kind : (all earlier : List Top) (top : Top) → why all earlier top ≡ None → is_other_kind top.0 ≡ false
unfolding why
no_other_kind all earlier top e = kind_none (is_other_kind top.0) _ e

-- ---- the plan

pub none_planned : (p : Plan) (all : List Top) → p.variables.items ≡ [] → AreDims p.dims [] → AreMaps p.maps [] → p.record.dim ≡ None → p.record.bytes ≡ 0 → IsPlanned p all []
none_planned p all empty dims maps dim bytes =
    let none = stored_none all in
    record {
      variables = ap variable_views empty ∙ sym none;
      dims = rw none dims;
      maps = maps;
      records = rw none (record { dim = ap (option_map (λ d. d.now)) dim; bytes = bytes; few = rw bytes (omega arith) });
    }

pub one_planned : (old new : Plan) (all earlier : List Top) (top : Top) (own_ones of_maps : List Variable) → IsPlanned old all earlier → own_ones ≡ stored all earlier top → of_maps ≡ maps_of top
    → variable_views new.variables.items ≡ variable_views old.variables.items ++ own_ones → AreDims new.dims (all_dims (stored_from all [] earlier) ++ all_dims own_ones)
    → AreMaps new.maps (all_maps earlier ++ of_maps) → IsRecord new.record (stored_from all [] earlier ++ own_ones) → IsPlanned new all (earlier ++ top ∷ [])
one_planned old new all earlier top own_ones of_maps so own_is maps_is views dims maps records =
    let more : stored_from all [] earlier ++ own_ones ≡ stored_from all [] (earlier ++ top ∷ []) = ap (λ l. stored_from all [] earlier ++ l) own_is ∙ sym (stored_one all earlier top) in
    record {
      variables = views ∙ ap (λ l. l ++ own_ones) so.variables ∙ more;
      dims = subst (AreDims new.dims) (sym (flat_map-append (λ w. w.dims) (stored_from all [] earlier) own_ones) ∙ ap all_dims more) dims;
      maps = subst (AreMaps new.maps) (ap (λ l. all_maps earlier ++ l) maps_is ∙ sym (maps_one earlier top)) maps;
      records = subst (IsRecord new.record) more records;
    }

-- ---- the walk

pub cause_step : (all earlier : List Top) (n : ℕ) (top : Top) (tops : List Top)
    → first_cause all earlier n (top ∷ tops) ≡ option_or (option_map {U = ℕ × Why} (λ w. (n, w)) (why all earlier top)) (first_cause all (earlier ++ top ∷ []) (n + count top.0) tops)
unfolding first_cause
cause_step all earlier n top tops = refl

pub cause_none : (all earlier : List Top) (n : ℕ) → first_cause all earlier n [] ≡ None
unfolding first_cause
cause_none all earlier n = refl

pub cause_here : (all earlier : List Top) (n : ℕ) (top : Top) (tops rest : List Top) (w : Why) → rest ≡ top ∷ tops → Some w ≡ why all earlier top → first_cause all earlier n rest ≡ Some (n, w)
cause_here all earlier n top tops rest w is e = ap (first_cause all earlier n) is ∙ cause_step all earlier n top tops ∙ ap (λ o. option_or (option_map {U = ℕ × Why} (λ x. (n, x)) o) (first_cause all (earlier ++ top ∷ []) (n + count top.0) tops)) (sym e)

pub cause_behind : (all earlier : List Top) (n : ℕ) (top : Top) (tops rest : List Top) → rest ≡ top ∷ tops → None ≡ why all earlier top → first_cause all earlier n rest ≡ first_cause all (earlier ++ top ∷ []) (n + count top.0) tops
cause_behind all earlier n top tops rest is e = ap (first_cause all earlier n) is ∙ cause_step all earlier n top tops ∙ ap (λ o. option_or (option_map {U = ℕ × Why} (λ x. (n, x)) o) (first_cause all (earlier ++ top ∷ []) (n + count top.0) tops)) (sym e)

-- ---- what calls told

not_is : (fine x b : Bool) → fine ≡ not x → fine ≡ b → x ≡ not b
not_is fine true b e f = ap not (sym e ∙ f)
not_is fine false b e f = ap not (sym e ∙ f)

pub dims_told : (before : List Dim) (vs ws : List Variable) (fine b : Bool) → ws ≡ vs → fine ≡ not (dims_clash before (all_dims ws)) → fine ≡ b → dims_clash before (all_dims vs) ≡ not b
dims_told before vs ws fine b is e f = ap (λ l. dims_clash before (all_dims l)) (sym is) ∙ not_is fine (dims_clash before (all_dims ws)) b e f

pub records_told : (before vs ws : List Variable) (fine b : Bool) → ws ≡ vs → fine ≡ not (records_clash before ws) → fine ≡ b → records_clash before vs ≡ not b
records_told before vs ws fine b is e f = ap (records_clash before) (sym is) ∙ not_is fine (records_clash before ws) b e f

pub steps_to : (r : Result (Option Why) want.Memory) (new : Plan) (all earlier : List Top) (top : Top) → why_alone top.0 ≡ None → IfOk r (StepsBeside new all earlier top) → IfOk r (StepsTo new all earlier top)
steps_to (Ok w) new all earlier top none step = (step.0 ∙ why_rest all earlier top none, step.1)
steps_to (Err e) new all earlier top none step = step
