-- The header of a file is read to its end.
use Rattle.std.proofs.Common.{◌≡◌, ℕ, ◌+◌, ◌<◌, ◌≤◌, ◌^◌, List, [], ◌∷◌, ◌++◌, length, flat_map, None, Ok, refl, ap, sym, subst, ◌∙◌, append-nil, append_assoc, length-append, arith}
use Rattle.std.proofs.lemmas.List.{length-map}
use Rattle.dap_model.specs.Xdr.{word}
use Rattle.netcdf_source.specs.Fields.{judged}
use Rattle.netcdf_source.specs.Grammar.{VariableTree, attribute, attribute_fields, dimension_fields, header_fields, list_fields, records_fault, tag_fault, variable, variable_fields}
use Rattle.netcdf_source.specs.Header.{Stands, magic}
use Rattle.netcdf_source.specs.Parts.{shares}
use Rattle.netcdf_source.specs.Versions.{bytes_in, number_bytes, number_width, place_width}
use Rattle.netcdf_source.specs.declared.header.Dimension.{Dimension}
use Rattle.netcdf_source.specs.declared.version.Version.{Version}
use Rattle.netcdf_source.specs.declared.version.Width.{Width}
use Rattle.netcdf_source.specs.declared.version.Width.TheVariants.{Four, Eight}
use Rattle.netcdf_writer.proofs.DimsBack.{dims_turn, first_all, fits_width, fresh, no_second}
use Rattle.netcdf_writer.proofs.Headers.{length-trees, listed_bytes}
use Rattle.netcdf_writer.proofs.Prints.{Prints, prints_both, prints_list, prints_none, prints_number, prints_turn}
use Rattle.netcdf_writer.proofs.Storable.{IsGoodVariable, IsStorable, all_set}
use Rattle.netcdf_writer.proofs.VarsBack.{IsBehind, dims_in, none_print, variables_turn}
use Rattle.netcdf_writer.proofs.Apart.{all_join}
use Rattle.netcdf_writer.proofs.DimsBack.{IsGoodDim}
use Rattle.netcdf_writer.specs.File.{absent, dimension, header_length, header_tree, listed, variable_tree, variable_trees, version_of}
use Rattle.netcdf_writer.specs.Printer.{attribute_bytes, dimension_bytes, header_bytes, ids_bytes, list_bytes, name_bytes, variable_bytes}
use Rattle.netcdf_writer.specs.Variables.{Variable, all_dims, dims_of, first_uses}
use Rattle.netcdf_writer.specs.inner.Printing.{head_bytes}
use Rattle.std.specs.List.{AllByRecursion}

-- ---- how many things there are

number_length : (w : Width) (n : ℕ) → length (number_bytes w n) ≡ bytes_in w
number_length Four n = refl
number_length Eight n = refl

some_bytes : (w : Width) → 1 ≤ bytes_in w
some_bytes Four = omega arith
some_bytes Eight = omega arith

flat_many : {X : Type 0} (f : X → List ℕ) → ((x : X) → 1 ≤ length (f x)) → (xs : List X) → length xs ≤ length (flat_map f xs)
flat_many f some [] = omega arith
flat_many f some (x ∷ xs) = let parts = length-append (f x) (flat_map f xs) in let one = some x in let rest = flat_many f some xs in omega (arith, parts, one, rest)

list_many : {X : Type 0} (w : Width) (f : X → List ℕ) (tag : ℕ) (xs : List X) → ((x : X) → 1 ≤ length (f x)) → length xs ≤ length (list_bytes w f (listed tag xs))
list_many w f tag xs some =
    let is = ap length (listed_bytes w f tag xs (length xs) refl) ∙ length-append (head_bytes w tag (length xs)) (flat_map f xs) in
    let many = flat_many f some xs in
    omega (arith, is, many)

dimension_some : (w : Width) (d : Dimension) → 1 ≤ length (dimension_bytes w d)
unfolding dimension_bytes
dimension_some w d = let parts = length-append (name_bytes w d.name) (number_bytes w d.length) in let long = number_length w d.length in let some = some_bytes w in omega (arith, parts, long, some)

variable_some : (version : Version) (t : VariableTree) → 1 ≤ length (variable_bytes version t)
unfolding variable_bytes
variable_some version t =
    let w = number_width version in
    let parts = length-append (name_bytes w t.name ++ ids_bytes w t.dimensions ++ list_bytes w (attribute_bytes w) t.attributes ++ word t.number ++ number_bytes w t.size) (number_bytes (place_width version) t.begin) in
    let long = number_length (place_width version) t.begin in
    let some = some_bytes (place_width version) in
    omega (arith, parts, long, some)

-- the parts of a header
abbrev number_part : List Variable → List ℕ
number_part vs = number_bytes (number_width (version_of vs)) 0

abbrev dims_part : List Variable → List ℕ
dims_part vs = list_bytes (number_width (version_of vs)) (dimension_bytes (number_width (version_of vs))) (listed 10 (dims_in vs))

abbrev none_part : List Variable → List ℕ
none_part vs = list_bytes (number_width (version_of vs)) (attribute_bytes (number_width (version_of vs))) absent

abbrev variables_part : ℕ → List Variable → List ℕ
variables_part front vs = list_bytes (number_width (version_of vs)) (variable_bytes (version_of vs)) (listed 11 (variable_trees front vs [] vs))

header_parts : (front : ℕ) (vs : List Variable) → header_bytes (header_tree front vs) ≡ (((magic (version_of vs) ++ number_part vs) ++ dims_part vs) ++ none_part vs) ++ variables_part front vs
unfolding header_bytes header_tree
header_parts front vs = refl

header_is : (front : ℕ) (vs : List Variable) → header_bytes (header_tree front vs) ≡ magic (version_of vs) ++ (number_part vs ++ (dims_part vs ++ (none_part vs ++ (variables_part front vs ++ []))))
header_is front vs =
    let m = magic (version_of vs) in
    header_parts front vs ∙ append_assoc ((m ++ number_part vs) ++ dims_part vs) (none_part vs) (variables_part front vs) ∙ append_assoc (m ++ number_part vs) (dims_part vs) (none_part vs ++ variables_part front vs)
    ∙ append_assoc m (number_part vs) (dims_part vs ++ (none_part vs ++ variables_part front vs)) ∙ ap (λ l. m ++ (number_part vs ++ (dims_part vs ++ (none_part vs ++ l)))) (sym (append-nil (variables_part front vs)))

header_sum : (front : ℕ) (vs : List Variable) → (length (dims_part vs) ≤ length (header_bytes (header_tree front vs))) × (length (variables_part front vs) ≤ length (header_bytes (header_tree front vs)))
header_sum front vs =
    let m = magic (version_of vs) ++ number_part vs in
    let is = ap length (header_parts front vs) in
    let a = length-append ((m ++ dims_part vs) ++ none_part vs) (variables_part front vs) in
    let b = length-append (m ++ dims_part vs) (none_part vs) in
    let c = length-append m (dims_part vs) in
    (omega (arith, is, a, b, c), omega (arith, is, a))

header_length_is : (vs : List Variable) → header_length vs ≡ length (header_bytes (header_tree 0 vs))
unfolding header_length
header_length_is vs = refl

pub few_dims : (vs : List Variable) → header_length vs ≤ 1048576 → length (dims_of vs) < 2 ^ 32
few_dims vs short =
    let is = header_length_is vs in
    let within = (header_sum 0 vs).0 in
    let many = list_many (number_width (version_of vs)) (dimension_bytes (number_width (version_of vs))) 10 (dims_in vs) (dimension_some (number_width (version_of vs))) in
    let same = length-map (dims_of vs) dimension in
    omega (arith, is, within, many, same, short)

few_variables : (vs : List Variable) → header_length vs ≤ 1048576 → length vs < 2 ^ 32
few_variables vs short =
    let is = header_length_is vs in
    let within = (header_sum 0 vs).1 in
    let many = list_many (number_width (version_of vs)) (variable_bytes (version_of vs)) 11 (variable_trees 0 vs [] vs) (variable_some (version_of vs)) in
    let same = length-trees 0 vs [] vs in
    omega (arith, is, within, many, same, short)

-- ---- its length does not depend on where the values begin

variable_same : (version : Version) (front : ℕ) (all earlier : List Variable) (v : Variable) → length (variable_bytes version (variable_tree front all earlier v)) ≡ length (variable_bytes version (variable_tree 0 all earlier v))
unfolding variable_bytes variable_tree
variable_same version front all earlier v =
    last_same _ (number_bytes (place_width version) _) (number_bytes (place_width version) _) (number_length (place_width version) _ ∙ sym (number_length (place_width version) _))
  where
    last_same : (a b c : List ℕ) → length b ≡ length c → length (a ++ b) ≡ length (a ++ c)
    last_same a b c e = length-append a b ∙ ap (λ n. length a + n) e ∙ sym (length-append a c)

trees_same : (version : Version) (front : ℕ) (all earlier vs : List Variable) → length (flat_map (variable_bytes version) (variable_trees front all earlier vs)) ≡ length (flat_map (variable_bytes version) (variable_trees 0 all earlier vs))
unfolding variable_trees
trees_same version front all earlier [] = refl
trees_same version front all earlier (v ∷ vs) =
    let each = variable_bytes version in
    length-append (each (variable_tree front all earlier v)) (flat_map each (variable_trees front all (earlier ++ v ∷ []) vs))
    ∙ ap (λ n. n + length (flat_map each (variable_trees front all (earlier ++ v ∷ []) vs))) (variable_same version front all earlier v)
    ∙ ap (λ n. length (each (variable_tree 0 all earlier v)) + n) (trees_same version front all (earlier ++ v ∷ []) vs)
    ∙ sym (length-append (each (variable_tree 0 all earlier v)) (flat_map each (variable_trees 0 all (earlier ++ v ∷ []) vs)))

variables_long : (front : ℕ) (vs : List Variable) → length (variables_part front vs) ≡ length (head_bytes (number_width (version_of vs)) 11 (length vs)) + length (flat_map (variable_bytes (version_of vs)) (variable_trees front vs [] vs))
variables_long front vs =
    ap length (listed_bytes (number_width (version_of vs)) (variable_bytes (version_of vs)) 11 (variable_trees front vs [] vs) (length vs) (length-trees front vs [] vs))
    ∙ length-append (head_bytes (number_width (version_of vs)) 11 (length vs)) (flat_map (variable_bytes (version_of vs)) (variable_trees front vs [] vs))

pub header_same : (front : ℕ) (vs : List Variable) → length (header_bytes (header_tree front vs)) ≡ header_length vs
header_same front vs =
    let a = (((magic (version_of vs) ++ number_part vs) ++ dims_part vs) ++ none_part vs) in
    let each = variable_bytes (version_of vs) in
    ap length (header_parts front vs) ∙ length-append a (variables_part front vs)
    ∙ ap (λ n. length a + n) (variables_long front vs ∙ ap (λ n. length (head_bytes (number_width (version_of vs)) 11 (length vs)) + n) (trees_same (version_of vs) front vs [] vs) ∙ sym (variables_long 0 vs))
    ∙ sym (length-append a (variables_part 0 vs)) ∙ sym (ap length (header_parts 0 vs)) ∙ sym (header_length_is vs)

-- ---- its fields

no_records : (w : Width) → records_fault w 0 ≡ None
unfolding records_fault
no_records Four = refl
no_records Eight = refl

good_dims : (vs : List Variable) → AllByRecursion IsGoodVariable vs → AllByRecursion IsGoodDim (all_dims vs)
good_dims [] all = tt
good_dims (v ∷ vs) all = all_join IsGoodDim v.dims (all_dims vs) all.0.dims (good_dims vs all.1)

dims_print : (vs : List Variable) (w : Width) → IsStorable vs → Prints (list_fields w 10 (dimension_fields w) (λ d. d) (listed 10 (dims_in vs))) (list_bytes w (dimension_bytes w) (listed 10 (dims_in vs)))
unfolding tag_fault first_uses
dims_print vs w so =
    let many = few_dims vs so.short in
    let same = length-map (dims_of vs) dimension in
    prints_list w 10 (dimension_fields w) (λ d. d) (dimension_bytes w) (dims_in vs) refl refl (omega arith) (fits_width w (length (dims_in vs)) (omega (arith, many, same)))
    (prints_turn (dimension_fields w) (λ d. d) (dimension_bytes w) [] (dims_in vs)
    (dims_turn w [] (dims_of vs) tt (first_all IsGoodDim [] (all_dims vs) (good_dims vs so.good)) (fresh [] (all_dims vs) (no_second [] vs so.records))))

none_behind : (vs : List Variable) → IsBehind vs [] []
unfolding shares
none_behind vs = record { names = refl; valid = tt; bytes = refl; records = omega arith; fixed = omega arith }

variables_print : (front : ℕ) (vs : List Variable) → front ≤ 1048576 → IsStorable vs
    → Prints (list_fields (number_width (version_of vs)) 11 (variable_fields (version_of vs) (dims_in vs)) variable (listed 11 (variable_trees front vs [] vs))) (variables_part front vs)
unfolding tag_fault
variables_print front vs short so =
    let w = number_width (version_of vs) in
    let trees = variable_trees front vs [] vs in
    let many = few_variables vs so.short in
    let same = length-trees front vs [] vs in
    prints_list w 11 (variable_fields (version_of vs) (dims_in vs)) variable (variable_bytes (version_of vs)) trees refl refl (omega arith) (fits_width w (length trees) (omega (arith, many, same)))
    (prints_turn (variable_fields (version_of vs) (dims_in vs)) variable (variable_bytes (version_of vs)) [] trees
    (variables_turn front vs [] vs [] refl (all_set vs so) (none_behind vs) (few_dims vs so.short) so.few short))

fields_is : (front : ℕ) (vs : List Variable) → header_fields (header_tree front vs) ≡
    (judged (number_width (version_of vs)) (records_fault (number_width (version_of vs))) 0 ∷ []) ++ (list_fields (number_width (version_of vs)) 10 (dimension_fields (number_width (version_of vs))) (λ d. d) (listed 10 (dims_in vs))
    ++ (list_fields (number_width (version_of vs)) 12 (attribute_fields (version_of vs)) attribute absent
    ++ (list_fields (number_width (version_of vs)) 11 (variable_fields (version_of vs) (listed 10 (dims_in vs)).items) variable (listed 11 (variable_trees front vs [] vs)) ++ [])))
unfolding header_fields header_tree
fields_is front vs = refl

header_prints : (front : ℕ) (vs : List Variable) → front ≤ 1048576 → IsStorable vs → Prints (header_fields (header_tree front vs)) (number_part vs ++ (dims_part vs ++ (none_part vs ++ (variables_part front vs ++ []))))
unfolding listed
header_prints front vs short so =
    let version = version_of vs in
    let w = number_width version in
    subst (λ js. Prints js (number_part vs ++ (dims_part vs ++ (none_part vs ++ (variables_part front vs ++ []))))) (sym (fields_is front vs))
    (prints_both (judged w (records_fault w) 0 ∷ []) _ (number_part vs) _ (prints_number w (records_fault w) 0 (no_records w) (fits_width w 0 (omega arith)))
    (prints_both (list_fields w 10 (dimension_fields w) (λ d. d) (listed 10 (dims_in vs))) _ (dims_part vs) _ (dims_print vs w so)
    (prints_both (list_fields w 12 (attribute_fields version) attribute absent) _ (none_part vs) _ (none_print version)
    (prints_both (list_fields w 11 (variable_fields version (dims_in vs)) variable (listed 11 (variable_trees front vs [] vs))) [] (variables_part front vs) [] (variables_print front vs short so) prints_none))))

version_is : (front : ℕ) (vs : List Variable) → (header_tree front vs).version ≡ version_of vs
unfolding header_tree
version_is front vs = refl

-- whatever stands behind it
pub header_stands : (front : ℕ) (vs : List Variable) (rest : List ℕ) → front ≤ 1048576 → IsStorable vs → Stands (header_tree front vs) (header_bytes (header_tree front vs) ++ rest) (Ok rest)
header_stands front vs rest short so =
    let body = number_part vs ++ (dims_part vs ++ (none_part vs ++ (variables_part front vs ++ []))) in
    record {
      body = body ++ rest;
      begins = ap (λ l. l ++ rest) (header_is front vs) ∙ append_assoc (magic (version_of vs)) body rest ∙ ap (λ m. magic m ++ (body ++ rest)) (sym (version_is front vs));
      ends = (header_prints front vs short so).ends rest;
    }
