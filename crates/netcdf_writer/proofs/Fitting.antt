-- The variables of a dataset whose trees fit: their values, and how many bytes they have.
use Rattle.std.proofs.Common.{◌≡◌, ℕ, ◌+◌, ◌*◌, ◌<◌, ◌≤◌, ◌^◌, Bool, true, false, not, ◌||◌, List, [], ◌∷◌, ◌++◌, length, map, filter, cond, drop, All, flat_map, sum_by, Option, Some, None, option_map, refl, ap, sym, ◌∙◌, arith, subst, length-append, mul-le-mul_left, ◌==◌, if◌then◌else◌}
use Rattle.std.proofs.lemmas.List.Sums.{sum_by-append, sum_by-cons}
use Rattle.std.specs.List.{AllByRecursion, AllZip, list_any}
use Rattle.std.specs.Option.{option_or}
use Rattle.std.proofs.lemmas.Bool.{not-false}
use Rattle.dap_types.specs.Model.{Member, scalar, array, structure, grid, sequence, Members, no_members, member, Dataset, Tree, one, many, kids, count, count_all, product, sizes}
use Rattle.dap_types.specs.WellFormed.{IsWellFormed}
use Rattle.dap_types.specs.declared.declarations.ArrayDecl.{ArrayDecl}
use Rattle.dap_types.specs.declared.declarations.BaseType.{BaseType}
use Rattle.dap_types.specs.declared.declarations.BaseType.TheVariants.{Byte, Int16, UInt16, Int32, UInt32, Float32, Float64, Text, Url}
use Rattle.dap_types.specs.declared.declarations.Dim.{Dim}
use Rattle.dap_types.specs.declared.values.Value.{Value}
use Rattle.dap_types.specs.declared.values.Value.TheVariants as values
use Rattle.dap_model.proofs.Lengths.{length-array_fields}
use Rattle.dap_model.proofs.Numbering.{members_are_counted}
use Rattle.dap_model.proofs.Values.{all_first, all_rest, bytes_of-append, length-values_in, values_of_fit}
use Rattle.dap_model.specs.Fits.{Fits, FitsAll, FitsArray, IsOf, values_in}
use Rattle.dap_model.specs.Laws.{IsNumber, element_width, is_number}
use Rattle.dap_model.specs.Xdr.{array_fields, array_fields_of_each, bytes_of, field_bytes, fields, fields_all, padded, scalar_fields, value_fields, xdr}
use Rattle.netcdf_source.specs.Parts.{inner}
use Rattle.netcdf_writer.specs.Causes.{first_cause, is_other_kind, why}
use Rattle.netcdf_writer.specs.File.{value_bytes, values_bytes}
use Rattle.netcdf_writer.specs.Variables.{Variable, Top, array_variable, array_variables, fixed_bytes, is_empty_dim, is_new, is_record, maps_of, own, part, room_by_itself, sizes_of, stored, stored_from, tops_of, width_of}
use Rattle.netcdf_writer.specs.declared.stored.Why.{Why}
use Rattle.netcdf_writer.specs.inner.Parts.{AreFilled, IsFilled}
use Rattle.netcdf_writer.proofs.Planning.{cause_step, no_other_kind}

-- ---- one variable

-- a value has the bytes of its type
one_value : (base : BaseType) (v : Value) → is_number base ≡ true → IsOf base v → length (value_bytes base v) ≡ width_of base
one_value Byte (values.Whole z) e is = refl
one_value Int16 (values.Whole z) e is = refl
one_value UInt16 (values.Whole z) e is = refl
one_value Int32 (values.Whole z) e is = refl
one_value UInt32 (values.Whole z) e is = refl
one_value Float32 (values.Bits32 n) e is = refl
one_value Float64 (values.Bits64 n) e is = refl
one_value Text v e is = cc
one_value Url v e is = cc
one_value base v e is = absurd is

pub values_length : (base : BaseType) (vs : List Value) → is_number base ≡ true → All (IsOf base) vs → length (values_bytes base vs) ≡ length vs * width_of base
unfolding values_bytes
values_length base [] e all = omega arith
values_length base (v ∷ vs) e all =
    let parts = length-append (value_bytes base v) (flat_map (value_bytes base) vs) in
    let here = one_value base v e (all_first (IsOf base) v vs all) in
    let rest = values_length base vs e (all_rest (IsOf base) v vs all) in
    omega (arith, parts, here, rest)

-- no dimension has size 0, so that the part is all of it
whole_part : (dims : List Dim) → list_any is_empty_dim dims ≡ false → inner (map (λ d. d.size) dims) ≡ map (λ d. d.size) dims
whole_part [] e = refl
whole_part (d ∷ dims) e = chosen (d.size == 0) e
  where
    chosen : (b : Bool) → (b || list_any is_empty_dim dims) ≡ false → (if b then map (λ d. d.size) dims else d.size ∷ map (λ d. d.size) dims) ≡ d.size ∷ map (λ d. d.size) dims
    chosen true f = cc
    chosen false f = refl

abbrev HasValues : Variable → Type 0
HasValues v = is_record v ≡ false → length (values_bytes v.base (values_in v.tree)) ≡ part v

part_is : (v : Variable) → is_record v ≡ false → part v ≡ product (sizes_of v) * width_of v.base
unfolding part
part_is v e = ap (λ ns. product ns * width_of v.base) (whole_part v.dims e)

has_values : (v : Variable) → is_number v.base ≡ true → FitsArray v.base (sizes_of v) v.tree → HasValues v
has_values v e fit single =
    values_length v.base (values_in v.tree) e (values_of_fit v.base (sizes_of v) v.tree fit) ∙ ap (λ n. n * width_of v.base) (length-values_in v.base (sizes_of v) v.tree fit) ∙ sym (part_is v single)

narrow : (base : BaseType) → width_of base ≤ element_width base
narrow Byte = omega arith
narrow Int16 = omega arith
narrow UInt16 = omega arith
narrow Int32 = omega arith
narrow UInt32 = omega arith
narrow Float32 = omega arith
narrow Float64 = omega arith
narrow Text = omega arith
narrow Url = omega arith

padded_le : (a b : ℕ) → a ≤ b → padded a ≤ padded b
padded_le a b le = omega arith

number_is : (base : BaseType) → is_number base ≡ true → IsNumber base
number_is Text e = cc
number_is Url e = cc
number_is base e = tt

room_by : (v : Variable) (n : ℕ) → (is_record v ≡ false → padded (part v) ≤ n) → room_by_itself v ≤ n
room_by v n le = chosen (is_record v) le
  where
    chosen : (r : Bool) → (r ≡ false → padded (part v) ≤ n) → (if r then 0 else padded (part v)) ≤ n
    chosen true f = omega arith
    chosen false f = f refl

array_room : (v : Variable) → is_number v.base ≡ true → FitsArray v.base (sizes_of v) v.tree → room_by_itself v ≤ length (bytes_of (array_fields v.base (values_in v.tree)))
array_room v e fit = room_by v _ (λ single.
    let long = length-array_fields v.base (sizes_of v) v.tree (number_is v.base e) fit in
    let is = ap padded (part_is v single) in
    let few = padded_le (product (sizes_of v) * width_of v.base) (product (sizes_of v) * element_width v.base) (mul-le-mul_left (product (sizes_of v)) (narrow v.base)) in
    omega (arith, long, is, few))

-- a scalar has at least as many bytes in XDR
scalar_length : (base : BaseType) (v : Value) → is_number base ≡ true → IsOf base v → padded (1 * width_of base) ≤ length (bytes_of (value_fields base v ++ []))
unfolding bytes_of field_bytes
scalar_length Byte (values.Whole z) e is = omega arith
scalar_length Int16 (values.Whole z) e is = omega arith
scalar_length UInt16 (values.Whole z) e is = omega arith
scalar_length Int32 (values.Whole z) e is = omega arith
scalar_length UInt32 (values.Whole z) e is = omega arith
scalar_length Float32 (values.Bits32 n) e is = omega arith
scalar_length Float64 (values.Bits64 n) e is = omega arith
scalar_length Text v e is = cc
scalar_length Url v e is = cc
scalar_length base v e is = absurd is

-- ---- one top member

-- what holds of some variables over so many bytes
abbrev Held : List Variable → ℕ → Type 0
Held vs n = AllByRecursion HasValues vs × (fixed_bytes vs ≤ n)

held_array : (a : ArrayDecl) (t : Tree) → is_number a.base ≡ true → FitsArray a.base (sizes a) t → Held (array_variable a t ∷ []) (length (bytes_of (array_fields a.base (values_in t))))
held_array a t e fit =
    let v = array_variable a t in
    let room = array_room v e fit in
    let sum = sum_by-cons room_by_itself v [] in
    ((has_values v e fit, tt), omega (arith, room, sum))

more_held : (v : Variable) (vs : List Variable) (m n : ℕ) → Held (v ∷ []) m → Held vs n → Held (v ∷ vs) (m + n)
more_held v vs m n a b =
    let one = sum_by-cons room_by_itself v [] in
    let both = sum_by-cons room_by_itself v vs in
    let la = a.1 in
    let lb = b.1 in
    ((a.0.0, b.0), omega (arith, one, both, la, lb))

number_of : (b c : Bool) → (not b || c) ≡ false → (b ≡ true) × (c ≡ false)
number_of true c e = (refl, e)
number_of false c e = cc

arrays_held : (arrays : List ArrayDecl) (ts : List Tree) → list_any (λ b. not (is_number b.base)) arrays ≡ false → AllZip (λ b u. FitsArray b.base (sizes b) u) arrays ts
    → Held (array_variables arrays ts) (length (bytes_of (array_fields_of_each arrays ts)))
arrays_held [] [] e fit = (tt, omega arith)
arrays_held [] (t ∷ ts) e fit = absurd fit
arrays_held (a ∷ arrays) [] e fit = absurd fit
arrays_held (a ∷ arrays) (t ∷ ts) e fit =
    let both = number_of (is_number a.base) (list_any (λ b. not (is_number b.base)) arrays) e in
    let all = more_held (array_variable a t) (array_variables arrays ts) _ _ (held_array a t both.0 fit.0) (arrays_held arrays ts both.1 fit.1) in
    let long = ap length (bytes_of-append (array_fields a.base (values_in t)) (array_fields_of_each arrays ts)) ∙ length-append (bytes_of (array_fields a.base (values_in t))) (bytes_of (array_fields_of_each arrays ts)) in
    let le = all.1 in
    (all.0, omega (arith, le, long))

held_scalar : (name : List ℕ) (base : BaseType) (t : Tree) → is_number base ≡ true → FitsArray base [] t → Held (record { name = name; base = base; dims = []; tree = t } ∷ []) (length (bytes_of (scalar_fields base t)))
held_scalar name base (many ts) e fit = absurd fit
held_scalar name base (one v) e fit =
    let w : Variable = record { name = name; base = base; dims = []; tree = one v } in
    let long = scalar_length base v e fit in
    let room = room_by w (length (bytes_of (scalar_fields base (one v)))) (λ single. let is = ap padded (part_is w single) in omega (arith, is, long)) in
    let sum = sum_by-cons room_by_itself w [] in
    ((has_values w e fit, tt), omega (arith, room, sum))

-- what a top member is stored as, before maps are left out
top_held : (m : Member) (t : Tree) → is_other_kind m ≡ false → Fits m t → Held (own (m, t) ++ maps_of (m, t)) (length (bytes_of (fields m t)))
unfolding is_other_kind own maps_of
top_held (scalar c) t e fit = held_scalar c.name c.base t (not-false (is_number c.base) e) fit
top_held (array a) t e fit = held_array a t (not-false (is_number a.base) e) fit
top_held (structure name parts) t e fit = cc
top_held (sequence name columns) t e fit = cc
top_held (grid name a maps) t e fit = arrays_held' (kids t) fit.1
  where
    arrays_held' : (ts : List Tree) → AllZip (λ b u. FitsArray b.base (sizes b) u) (a ∷ maps) ts → Held (array_variables (a ∷ []) ts ++ array_variables maps (drop 1 ts)) (length (bytes_of (array_fields_of_each (a ∷ maps) ts)))
    arrays_held' [] zip = absurd zip
    arrays_held' (u ∷ us) zip = arrays_held (a ∷ maps) (u ∷ us) e zip

-- ---- those that are stored

all_left : (xs ys : List Variable) → AllByRecursion HasValues (xs ++ ys) → AllByRecursion HasValues xs
all_left [] ys all = tt
all_left (x ∷ xs) ys all = (all.0, all_left xs ys all.1)

all_right : (xs ys : List Variable) → AllByRecursion HasValues (xs ++ ys) → AllByRecursion HasValues ys
all_right [] ys all = all
all_right (x ∷ xs) ys all = all_right xs ys all.1

all_join : (xs ys : List Variable) → AllByRecursion HasValues xs → AllByRecursion HasValues ys → AllByRecursion HasValues (xs ++ ys)
all_join [] ys a b = b
all_join (x ∷ xs) ys a b = (a.0, all_join xs ys a.1 b)

all_kept : (p : Variable → Bool) (xs : List Variable) → AllByRecursion HasValues xs → AllByRecursion HasValues (filter p xs)
all_kept p [] all = tt
all_kept p (x ∷ xs) all = chosen (p x) (all_kept p xs all.1)
  where
    chosen : (b : Bool) → AllByRecursion HasValues (filter p xs) → AllByRecursion HasValues (cond b (x ∷ filter p xs) (filter p xs))
    chosen true rest = (all.0, rest)
    chosen false rest = rest

sum_kept : (p : Variable → Bool) (xs : List Variable) → fixed_bytes (filter p xs) ≤ fixed_bytes xs
sum_kept p [] = omega arith
sum_kept p (x ∷ xs) = chosen (p x) (sum_kept p xs)
  where
    chosen : (b : Bool) → fixed_bytes (filter p xs) ≤ fixed_bytes xs → fixed_bytes (cond b (x ∷ filter p xs) (filter p xs)) ≤ fixed_bytes (x ∷ xs)
    chosen true rest = let e = sum_by-cons room_by_itself x (filter p xs) in let f = sum_by-cons room_by_itself x xs in omega (arith, e, f, rest)
    chosen false rest = let f = sum_by-cons room_by_itself x xs in omega (arith, f, rest)

joined : (xs ys : List Variable) (m n : ℕ) → Held xs m → Held ys n → Held (xs ++ ys) (m + n)
joined xs ys m n a b =
    let sum = sum_by-append room_by_itself xs ys in
    let la = a.1 in
    let lb = b.1 in
    (all_join xs ys a.0 b.0, omega (arith, sum, la, lb))

held_kept : (p : Variable → Bool) (own_ones of_maps : List Variable) (n : ℕ) → Held (own_ones ++ of_maps) n → Held (filter p of_maps ++ own_ones) n
held_kept p own_ones of_maps n held =
    let before = sum_by-append room_by_itself own_ones of_maps in
    let after = sum_by-append room_by_itself (filter p of_maps) own_ones in
    let less = sum_kept p of_maps in
    let le = held.1 in
    (all_join (filter p of_maps) own_ones (all_kept p of_maps (all_right own_ones of_maps held.0)) (all_left own_ones of_maps held.0), omega (arith, before, after, less, le))

held_stored : (all earlier : List Top) (top : Top) (n : ℕ) → Held (own top ++ maps_of top) n → Held (stored all earlier top) n
unfolding stored
held_stored all earlier top n held = held_kept (is_new all earlier) (own top) (maps_of top) n held

-- ---- all top members

pub first_none : (n : ℕ) (o : Option Why) (rest : Option (ℕ × Why)) → option_or (option_map {U = ℕ × Why} (λ w. (n, w)) o) rest ≡ None → (o ≡ None) × (rest ≡ None)
first_none n None rest e = (refl, e)
first_none n (Some w) rest e = cc

tops_held : (all earlier : List Top) (n : ℕ) (ms : Members) (ts : List Tree) → first_cause all earlier n (tops_of ms ts) ≡ None → FitsAll ms ts → Held (stored_from all earlier (tops_of ms ts)) (length (bytes_of (fields_all ms ts)))
unfolding stored_from
tops_held all earlier n no_members [] e fit = (tt, omega arith)
tops_held all earlier n no_members (t ∷ ts) e fit = absurd fit
tops_held all earlier n (member m ms) [] e fit = absurd fit
tops_held all earlier n (member m ms) (t ∷ ts) e fit =
    let both = first_none n (why all earlier (m, t)) _ (sym (cause_step all earlier n (m, t) (tops_of ms ts)) ∙ e) in
    let here = held_stored all earlier (m, t) _ (top_held m t (no_other_kind all earlier (m, t) both.0) fit.0) in
    let rest = tops_held all (earlier ++ (m, t) ∷ []) (n + count m) ms ts both.1 fit.1 in
    let whole = joined (stored all earlier (m, t)) (stored_from all (earlier ++ (m, t) ∷ []) (tops_of ms ts)) _ _ here rest in
    let long = ap length (bytes_of-append (fields m t) (fields_all ms ts)) ∙ length-append (bytes_of (fields m t)) (bytes_of (fields_all ms ts)) in
    let le = whole.1 in
    (whole.0, omega (arith, le, long))

-- ---- the whole dataset

one_filled : (v : Variable) (n : ℕ) → HasValues v → room_by_itself v ≤ n → n ≤ 16777216 → IsFilled v
one_filled v n has le few single =
    let room : room_by_itself v ≡ padded (part v) = ap (λ r. if r then 0 else padded (part v)) single in
    (has single, omega (arith, room, le, few))

all_filled : (vs : List Variable) → AllByRecursion HasValues vs → fixed_bytes vs ≤ 16777216 → AreFilled vs
unfolding AreFilled
all_filled [] all few = tt
all_filled (v ∷ vs) all few =
    let sum = sum_by-cons room_by_itself v vs in
    let here : room_by_itself v ≤ 16777216 = omega (arith, sum, few) in
    let rest : fixed_bytes vs ≤ 16777216 = omega (arith, sum, few) in
    (one_filled v 16777216 all.0 here (omega arith), all_filled vs all.1 rest)

pub stored_filled : (d : Dataset) (ts : List Tree) (tops : List Top) (vs : List Variable) → tops ≡ tops_of d.members ts → vs ≡ stored_from tops [] tops → first_cause tops [] 1 tops ≡ None
    → FitsAll d.members ts → length (xdr d ts) ≤ 16777216 → AreFilled vs × (fixed_bytes vs ≤ 16777216)
stored_filled d ts tops vs is so none fit few =
    let all = tops_of d.members ts in
    let held = tops_held all [] 1 d.members ts (ap (λ l. first_cause l [] 1 l) (sym is) ∙ none) fit in
    let same : stored_from all [] all ≡ vs = ap (λ l. stored_from l [] l) (sym is) ∙ sym so in
    let le = held.1 in
    let small : fixed_bytes (stored_from all [] all) ≤ 16777216 = omega (arith, le, few) in
    (subst AreFilled same (all_filled (stored_from all [] all) held.0 small), subst (λ l. fixed_bytes l ≤ 16777216) same small)

-- ---- how many members they are

tops_counted : (ms : Members) (ts : List Tree) → sum_by (λ (top : Top). count top.0) (tops_of ms ts) ≤ count_all ms
tops_counted no_members ts = omega arith
tops_counted (member m ms) [] = omega arith
tops_counted (member m ms) (t ∷ ts) =
    let rest = tops_counted ms ts in
    let sum = sum_by-cons (λ (top : Top). count top.0) (m, t) (tops_of ms ts) in
    omega (arith, rest, sum)

pub tops_few : (d : Dataset) (ts : List Tree) (tops : List Top) → tops ≡ tops_of d.members ts → IsWellFormed d → 1 + sum_by (λ (top : Top). count top.0) tops < 2 ^ 32
tops_few d ts tops is well =
    let all = members_are_counted d in
    let few = well.few in
    let within = tops_counted d.members ts in
    let same : sum_by (λ (top : Top). count top.0) tops ≡ sum_by (λ (top : Top). count top.0) (tops_of d.members ts) = ap (sum_by (λ (top : Top). count top.0)) is in
    omega (arith, all, few, within, same)
