-- A file is its header and its values.
use Rattle.std.proofs.Common.{◌≡◌, ℕ, ◌+◌, ◌≤◌, ◌^◌, Bool, true, false, List, [], ◌∷◌, ◌++◌, length, refl, ap, sym, ◌∙◌, arith, subst, length-append, if◌then◌else◌}
use Rattle.std.proofs.lemmas.List.{length-replicate}
use Rattle.std.proofs.lemmas.List.Sums.{sum_by-cons}
use Rattle.dap_model.specs.Fits.{values_in}
use Rattle.dap_model.specs.Xdr.{fill, padded, zeros}
use Rattle.netcdf_writer.specs.File.{cdf, data_bytes, header_length, header_tree, part_bytes, values_bytes}
use Rattle.netcdf_writer.specs.Printer.{header_bytes}
use Rattle.netcdf_writer.specs.Variables.{Variable, Top, all_dims, fixed_bytes, is_record, part, record_bytes, room, room_by_itself}
use Rattle.netcdf_writer.specs.declared.plan.Plan.{Plan}
use Rattle.netcdf_writer.specs.inner.Parts.{AreFilled, IsFilled, fixed_part}
use Rattle.netcdf_writer.specs.inner.Planned.{AreDims, IsPlanned}
use Rattle.netcdf_writer.specs.inner.Tables.{variable_views}
use Rattle.netcdf_writer.proofs.Listing.{data_more, data_none, filled_both}
use Rattle.netcdf_writer.proofs.ValueBytes.{part_parts}

part_length : (v : Variable) → length (values_bytes v.base (values_in v.tree)) ≡ part v → length (part_bytes v) ≡ room v
part_length v is =
    ap length (part_parts v) ∙ length-append (values_bytes v.base (values_in v.tree)) (zeros (length (values_bytes v.base (values_in v.tree))))
    ∙ ap (λ n. length (values_bytes v.base (values_in v.tree)) + n) (length-replicate (fill (length (values_bytes v.base (values_in v.tree)))) 0) ∙ ap padded is

fixed_length : (v : Variable) → IsFilled v → length (fixed_part v) ≡ room_by_itself v
fixed_length v filled = chosen (is_record v) (λ e. part_length v (filled e).0)
  where
    chosen : (r : Bool) → (r ≡ false → length (part_bytes v) ≡ room v) → length (if r then [] else part_bytes v) ≡ (if r then 0 else room v)
    chosen true is = refl
    chosen false is = is refl

pub data_length : (vs : List Variable) → AreFilled vs → length (data_bytes vs) ≡ fixed_bytes vs
data_length [] filled = ap length data_none
data_length (v ∷ vs) filled =
    let both = filled_both v vs filled in
    let parts = ap length (data_more v vs) ∙ length-append (fixed_part v) (data_bytes vs) in
    let here = fixed_length v both.0 in
    let rest = data_length vs both.1 in
    let sums = sum_by-cons room_by_itself v vs in
    omega (arith, parts, here, rest, sums)

pub cdf_is : (vs : List Variable) (header : List ℕ) → header ≡ header_bytes (header_tree (header_length vs) vs) → header ++ data_bytes vs ≡ cdf vs
unfolding cdf
cdf_is vs header is = ap (λ l. l ++ data_bytes vs) is

pub cdf_length : (vs : List Variable) (header : List ℕ) → AreFilled vs → header ++ data_bytes vs ≡ cdf vs → length header + fixed_bytes vs ≡ length (cdf vs)
cdf_length vs header filled is = ap (λ n. length header + n) (sym (data_length vs filled)) ∙ sym (length-append header (data_bytes vs)) ∙ ap length is

-- ---- what a plan tells

pub planned_dims : (p : Plan) (tops : List Top) → IsPlanned p tops tops → AreDims p.dims (all_dims (variable_views p.variables.items))
planned_dims p tops so = subst (λ l. AreDims p.dims (all_dims l)) (sym so.variables) so.dims

pub planned_records : (p : Plan) (tops : List Top) → IsPlanned p tops tops → record_bytes (variable_views p.variables.items) ≤ 2 ^ 30
planned_records p tops so =
    let e = ap record_bytes so.variables in
    let f = so.records.bytes in
    let few = so.records.few in
    omega (arith, e, f, few)
