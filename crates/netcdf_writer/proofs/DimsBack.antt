-- The dimensions of a file: each name once, each found again by its name, and their fields in the header.
use Rattle.std.proofs.Common.{◌≡◌, ℕ, zero, suc, ◌+◌, ◌<◌, ◌≤◌, ◌^◌, Bool, true, false, not, ◌&&◌, ◌||◌, ◌==◌, cond, List, [], ◌∷◌, ◌++◌, length, map, find, drop, Option, Some, None, is_some, refl, ap, sym, subst, ◌∙◌, append-nil, append_assoc, arith, nat_lt, if◌then◌else◌}
use Rattle.std.specs.Bool.{⊤}
use Rattle.std.specs.Prelude.{slice_get}
use Rattle.std.proofs.lemmas.Bool.{true≢false, or_parts}
use Rattle.std.proofs.lemmas.Bool.Decides.{nat_tests}
use Rattle.std.proofs.lemmas.List.{map-append}
use Rattle.std.proofs.lemmas.List.Folds.{find-append}
use Rattle.std.proofs.lemmas.Slice.Eq.{bytes_eq-Decides}
use Rattle.std.specs.List.{AllByRecursion, list_any, position_from}
use Rattle.std.specs.Option.{option_map_or, option_or}
use Rattle.std.specs.Str.{bytes_eq}
use Rattle.plain_lemmas.proofs.Lists.{any-map, found_passes, bytes_itself}
use Rattle.plain_lemmas.proofs.Numbers.{from_zero}
use Rattle.dap_types.specs.declared.declarations.Dim.{Dim}
use Rattle.netcdf_source.specs.Fields.{bad_if, judged, run}
use Rattle.netcdf_source.specs.Grammar.{dimension_fields, is_record_dimension, length_fault, name_fault, new_name_fields, repeat_fault}
use Rattle.netcdf_source.specs.Versions.{bytes_in, largest, limit_of, number_bytes}
use Rattle.netcdf_source.specs.declared.version.Width.{Width}
use Rattle.netcdf_source.specs.declared.version.Width.TheVariants.{Four, Eight}
use Rattle.netcdf_writer.proofs.Dimensions.{first_one}
use Rattle.netcdf_writer.proofs.FileNames.{name_fits, name_good, none_named}
use Rattle.netcdf_writer.proofs.Prints.{AllTurn, Prints, prints_both, prints_number, prints_run}
use Rattle.netcdf_writer.proofs.Records.{dims_more}
use Rattle.netcdf_writer.specs.Causes.{dims_clash, is_inner_record, is_second_record, most_record, records_clash}
use Rattle.netcdf_writer.specs.File.{dimension, id_of}
use Rattle.netcdf_writer.specs.Names.{file_name, is_file_name}
use Rattle.netcdf_writer.specs.Printer.{dimension_bytes, name_bytes, run_bytes}
use Rattle.netcdf_writer.specs.Variables.{Variable, all_dims, dim_name, first_uses, is_empty_dim, is_named, is_record, record_bytes}

-- a dimension whose name stands in a file
pub record IsGoodDim (d : Dim) : Type 0 where
  pub named : d.name ≡ Some (dim_name d)
  pub file : is_file_name (dim_name d) ≡ true
  pub few : d.size ≤ 2147483647

-- ---- what is found

pub find_any : {X : Type 0} (p : X → Bool) (xs : List X) → is_some (find p xs) ≡ list_any p xs
find_any p [] = refl
find_any p (x ∷ xs) = chosen (p x) (find_any p xs)
  where
    chosen : (b : Bool) → is_some (find p xs) ≡ list_any p xs → is_some (cond b (Some x) (find p xs)) ≡ (b || list_any p xs)
    chosen true e = refl
    chosen false e = e

pub found_other : {X : Type 0} (p r : X → Bool) (xs : List X) (x : X) → find p xs ≡ Some x → r x ≡ true → list_any r xs ≡ true
found_other p r [] x e is = cc e
found_other {X} p r (y ∷ xs) x e is = chosen (p y) e (λ f. found_other p r xs x f is)
  where
    or_yes : (b c : Bool) → c ≡ true → (b || c) ≡ true
    or_yes true c e = refl
    or_yes false c e = e

    chosen : (b : Bool) → cond b (Some y) (find p xs) ≡ Some x → (find p xs ≡ Some x → list_any r xs ≡ true) → (r y || list_any r xs) ≡ true
    chosen true f rest = let same : y ≡ x = cc in ap (λ b. b || list_any r xs) (ap r same ∙ is)
    chosen false f rest = or_yes (r y) (list_any r xs) (rest f)

pub place_of : {X : Type 0} (p : X → Bool) (xs : List X) (i : ℕ) (x : X) → find p xs ≡ Some x → (k : ℕ) × (position_from p i xs ≡ Some (i + k)) × (slice_get xs k ≡ Some x) × (k < length xs)
place_of p [] i x e = cc e
place_of {X} p (y ∷ xs) i x e = chosen (p y) e (place_of p xs (i + 1) x)
  where
    chosen : (b : Bool) → cond b (Some y) (find p xs) ≡ Some x → (find p xs ≡ Some x → (k : ℕ) × (position_from p (i + 1) xs ≡ Some (i + 1 + k)) × (slice_get xs k ≡ Some x) × (k < length xs))
        → (k : ℕ) × (cond b (Some i) (position_from p (i + 1) xs) ≡ Some (i + k)) × (slice_get (y ∷ xs) k ≡ Some x) × (k < length (y ∷ xs))
    chosen true f rest = (zero, ap (λ n. Some n) (omega arith), f, omega arith)
    chosen false f rest = let (k, at, get, few) = rest f in (suc k, at ∙ ap (λ n. Some n) (omega arith), get, omega (arith, few))

-- ---- each name once

pub first_all : (P : Dim → Type 0) (earlier ds : List Dim) → AllByRecursion P ds → AllByRecursion P (first_uses earlier ds)
unfolding first_uses
first_all P earlier [] all = tt
first_all P earlier (d ∷ ds) all = chosen (is_some (find (is_named (dim_name d)) earlier)) (first_all P (earlier ++ d ∷ []) ds all.1)
  where
    chosen : (b : Bool) → AllByRecursion P (first_uses (earlier ++ d ∷ []) ds) → AllByRecursion P ((if b then [] else d ∷ []) ++ first_uses (earlier ++ d ∷ []) ds)
    chosen true rest = rest
    chosen false rest = (all.0, rest)

none_first : (p : Dim → Bool) (earlier ds : List Dim) → list_any p ds ≡ false → list_any p (first_uses earlier ds) ≡ false
unfolding first_uses
none_first p earlier [] none = refl
none_first p earlier (d ∷ ds) none =
    let both = or_parts (p d) (list_any p ds) none in
    chosen (is_some (find (is_named (dim_name d)) earlier)) both.0 (none_first p (earlier ++ d ∷ []) ds both.1)
  where
    chosen : (b : Bool) → p d ≡ false → list_any p (first_uses (earlier ++ d ∷ []) ds) ≡ false → list_any p ((if b then [] else d ∷ []) ++ first_uses (earlier ++ d ∷ []) ds) ≡ false
    chosen true e rest = rest
    chosen false e rest = ap (λ b. b || list_any p (first_uses (earlier ++ d ∷ []) ds)) e ∙ rest

-- a dimension of size 0 behind another one has its name
abbrev pub NoSecond : List Dim → List Dim → Type 0
NoSecond earlier [] = ⊤
NoSecond earlier (d ∷ ds) = ((d.size == 0) ≡ true → list_any is_empty_dim earlier ≡ true → is_some (find (is_named (dim_name d)) earlier) ≡ true) × NoSecond (earlier ++ d ∷ []) ds

-- names that are new, and at most one dimension of size 0
abbrev pub Fresh : List Dim → List Dim → Type 0
Fresh earlier [] = ⊤
Fresh earlier (d ∷ ds) = (list_any (is_named (dim_name d)) earlier ≡ false) × ((d.size == 0 && list_any is_empty_dim earlier) ≡ false) × Fresh (earlier ++ d ∷ []) ds

one_empty : (earlier : List Dim) (d : Dim) → ((d.size == 0) ≡ true → list_any is_empty_dim earlier ≡ true → is_some (find (is_named (dim_name d)) earlier) ≡ true)
    → is_some (find (is_named (dim_name d)) earlier) ≡ false → (d.size == 0 && list_any is_empty_dim (first_uses [] earlier)) ≡ false
one_empty earlier d second free = chosen (d.size == 0) refl (list_any is_empty_dim earlier) refl
  where
    chosen : (b : Bool) → (d.size == 0) ≡ b → (c : Bool) → list_any is_empty_dim earlier ≡ c → (b && list_any is_empty_dim (first_uses [] earlier)) ≡ false
    chosen false e c f = refl
    chosen true e false f = none_first is_empty_dim [] earlier f
    chosen true e true f = absurd (true≢false (sym (second e f) ∙ free))

pub fresh : (earlier ds : List Dim) → NoSecond earlier ds → Fresh (first_uses [] earlier) (first_uses earlier ds)
unfolding first_uses
fresh earlier [] second = tt
fresh earlier (d ∷ ds) second = chosen (is_some (find (is_named (dim_name d)) earlier)) refl (fresh (earlier ++ d ∷ []) ds second.1)
  where
    chosen : (b : Bool) → is_some (find (is_named (dim_name d)) earlier) ≡ b → Fresh (first_uses [] (earlier ++ d ∷ [])) (first_uses (earlier ++ d ∷ []) ds)
        → Fresh (first_uses [] earlier) ((if b then [] else d ∷ []) ++ first_uses (earlier ++ d ∷ []) ds)
    chosen true e rest = subst (λ l. Fresh l (first_uses (earlier ++ d ∷ []) ds)) (first_one earlier d true e ∙ append-nil (first_uses [] earlier)) rest
    chosen false e rest =
        (none_first (is_named (dim_name d)) [] earlier (sym (find_any (is_named (dim_name d)) earlier) ∙ e), one_empty earlier d second.0 e, subst (λ l. Fresh l (first_uses (earlier ++ d ∷ []) ds)) (first_one earlier d false e) rest)

-- ---- each is found by its name

merged : (f r s : Option Dim) (t : Bool) (d : Dim) → (t ≡ true → is_some f ≡ true) → option_or (option_or f (cond t (Some d) None)) r ≡ option_or (option_or f (cond t (Some d) None)) s
    → option_or f r ≡ option_or f (cond t (Some d) s)
merged (Some x) r s t d there e = refl
merged None r s true d there e = cc (there refl)
merged None r s false d there e = e

kept : (f r s : Option Dim) (t : Bool) (d : Dim) → option_or (option_or f (cond t (Some d) None)) r ≡ option_or (option_or f (cond t (Some d) None)) s
    → option_or f (cond t (Some d) r) ≡ option_or f (cond t (Some d) s)
kept (Some x) r s t d e = refl
kept None r s true d e = refl
kept None r s false d e = e

first_found_from : (q : List ℕ) (earlier ds : List Dim) → option_or (find (is_named q) earlier) (find (is_named q) (first_uses earlier ds)) ≡ option_or (find (is_named q) earlier) (find (is_named q) ds)
unfolding first_uses
first_found_from q earlier [] = refl
first_found_from q earlier (d ∷ ds) =
    let more = find-append (is_named q) earlier (d ∷ []) in
    let rest = find (is_named q) (first_uses (earlier ++ d ∷ []) ds) in
    chosen (is_some (find (is_named (dim_name d)) earlier)) refl
    (ap (λ o. option_or o rest) (sym more) ∙ first_found_from q (earlier ++ d ∷ []) ds ∙ ap (λ o. option_or o (find (is_named q) ds)) more)
  where
    chosen : (b : Bool) → is_some (find (is_named (dim_name d)) earlier) ≡ b
        → option_or (option_or (find (is_named q) earlier) (cond (is_named q d) (Some d) None)) (find (is_named q) (first_uses (earlier ++ d ∷ []) ds)) ≡ option_or (option_or (find (is_named q) earlier) (cond (is_named q d) (Some d) None)) (find (is_named q) ds)
        → option_or (find (is_named q) earlier) (find (is_named q) ((if b then [] else d ∷ []) ++ first_uses (earlier ++ d ∷ []) ds)) ≡ option_or (find (is_named q) earlier) (find (is_named q) (d ∷ ds))
    chosen true there e =
        merged (find (is_named q) earlier) (find (is_named q) (first_uses (earlier ++ d ∷ []) ds)) (find (is_named q) ds) (is_named q d) d
        (λ is. ap (λ n. is_some (find (is_named n) earlier)) ((bytes_eq-Decides q (dim_name d)).0 is) ∙ there) e
    chosen false there e = kept (find (is_named q) earlier) (find (is_named q) (first_uses (earlier ++ d ∷ []) ds)) (find (is_named q) ds) (is_named q d) d e

-- the first dimension of a name has the size of this one
abbrev IsSized : List Dim → Dim → Type 0
IsSized all d = (e : Dim) × (find (is_named (dim_name d)) all ≡ Some e) × (e.size ≡ d.size)

sized_here : (earlier ds : List Dim) (d : Dim) → option_map_or (λ e. not (e.size == d.size)) (find (is_named (dim_name d)) earlier) false ≡ false → IsSized (earlier ++ d ∷ ds) d
sized_here earlier ds d none = chosen (find (is_named (dim_name d)) earlier) refl none
  where
    same_size : (n m : ℕ) → not (n == m) ≡ false → n ≡ m
    same_size n m f = grind (arith, nat_tests, f)

    chosen : (o : Option Dim) → find (is_named (dim_name d)) earlier ≡ o → option_map_or (λ e. not (e.size == d.size)) o false ≡ false → IsSized (earlier ++ d ∷ ds) d
    chosen None is f =
        (d, find-append (is_named (dim_name d)) earlier (d ∷ ds) ∙ ap (λ o. option_or o (find (is_named (dim_name d)) (d ∷ ds))) is ∙ ap (λ b. cond b (Some d) (find (is_named (dim_name d)) ds)) (bytes_itself (dim_name d)), refl)
    chosen (Some e) is f =
        (e, find-append (is_named (dim_name d)) earlier (d ∷ ds) ∙ ap (λ o. option_or o (find (is_named (dim_name d)) (d ∷ ds))) is, same_size e.size d.size f)

sized : (earlier ds : List Dim) → dims_clash earlier ds ≡ false → AllByRecursion (IsSized (earlier ++ ds)) ds
unfolding dims_clash
sized earlier [] none = tt
sized earlier (d ∷ ds) none =
    let both = or_parts (option_map_or (λ e. not (e.size == d.size)) (find (is_named (dim_name d)) earlier) false) (dims_clash (earlier ++ d ∷ []) ds) none in
    (sized_here earlier ds d both.0, subst (λ l. AllByRecursion (IsSized l) ds) (append_assoc earlier (d ∷ []) ds) (sized (earlier ++ d ∷ []) ds both.1))

-- a dimension among those of the file
pub record IsLocated (ds : List Dim) (d : Dim) : Type 0 where
  pub found : Dim
  pub get : slice_get ds (id_of ds d) ≡ Some found
  pub name : dim_name found ≡ dim_name d
  pub size : found.size ≡ d.size
  pub within : id_of ds d < length ds

located : (all : List Dim) (d : Dim) → IsSized all d → IsLocated (first_uses [] all) d
located all d (e, is, same) =
    let there : find (is_named (dim_name d)) (first_uses [] all) ≡ Some e = first_found_from (dim_name d) [] all ∙ is in
    let (k, at, get, few) = place_of (is_named (dim_name d)) (first_uses [] all) 0 e there in
    let number : id_of (first_uses [] all) d ≡ k = ap (λ o. option_map_or (λ i. i) o 0) at ∙ from_zero k in
    record {
      found = e;
      get = ap (slice_get (first_uses [] all)) number ∙ get;
      name = sym ((bytes_eq-Decides (dim_name d) (dim_name e)).0 (found_passes (is_named (dim_name d)) (first_uses [] all) e there));
      size = same;
      within = omega (arith, number, few);
    }

all_located : (all ds : List Dim) → AllByRecursion (IsSized all) ds → AllByRecursion (IsLocated (first_uses [] all)) ds
all_located all [] each = tt
all_located all (d ∷ ds) each = (located all d each.0, all_located all ds each.1)

pub dims_located : (all : List Dim) → dims_clash [] all ≡ false → AllByRecursion (IsLocated (first_uses [] all)) all
dims_located all none = all_located all all (sized [] all none)

-- ---- one record dimension

none_second : (earlier ds : List Dim) → list_any is_empty_dim ds ≡ false → NoSecond earlier ds
none_second earlier [] none = tt
none_second earlier (d ∷ ds) none =
    let both = or_parts (d.size == 0) (list_any is_empty_dim ds) none in
    (λ e _. absurd (true≢false (sym e ∙ both.0)), none_second (earlier ++ d ∷ []) ds both.1)

second_both : (earlier xs ys : List Dim) → NoSecond earlier xs → NoSecond (earlier ++ xs) ys → NoSecond earlier (xs ++ ys)
second_both earlier [] ys a b = subst (λ l. NoSecond l ys) (append-nil earlier) b
second_both earlier (x ∷ xs) ys a b = (a.0, second_both (earlier ++ x ∷ []) xs ys a.1 (subst (λ l. NoSecond l ys) (sym (append_assoc earlier (x ∷ []) xs)) b))

second_head : (earlier : List Dim) (d : Dim) → (d.size == 0 && option_map_or (λ e. not (bytes_eq (dim_name e) (dim_name d))) (find is_empty_dim earlier) false) ≡ false
    → (d.size == 0) ≡ true → list_any is_empty_dim earlier ≡ true → is_some (find (is_named (dim_name d)) earlier) ≡ true
second_head earlier d none empty there = chosen (find is_empty_dim earlier) refl (ap (λ b. b && option_map_or (λ e. not (bytes_eq (dim_name e) (dim_name d))) (find is_empty_dim earlier) false) (sym empty) ∙ none)
  where
    unnot : (b : Bool) → not b ≡ false → b ≡ true
    unnot true e = refl
    unnot false e = cc e

    chosen : (o : Option Dim) → find is_empty_dim earlier ≡ o → option_map_or (λ e. not (bytes_eq (dim_name e) (dim_name d))) (find is_empty_dim earlier) false ≡ false → is_some (find (is_named (dim_name d)) earlier) ≡ true
    chosen None is f = absurd (true≢false (sym there ∙ sym (find_any is_empty_dim earlier) ∙ ap is_some is))
    chosen (Some e) is f =
        let same : bytes_eq (dim_name e) (dim_name d) ≡ true = unnot (bytes_eq (dim_name e) (dim_name d)) (ap (λ o. option_map_or (λ e. not (bytes_eq (dim_name e) (dim_name d))) o false) (sym is) ∙ f) in
        let turned : bytes_eq (dim_name d) (dim_name e) ≡ true = (bytes_eq-Decides (dim_name d) (dim_name e)).1 (sym ((bytes_eq-Decides (dim_name e) (dim_name d)).0 same)) in
        find_any (is_named (dim_name d)) earlier ∙ found_other is_empty_dim (is_named (dim_name d)) earlier e is turned

second_own : (earlier ds : List Dim) → list_any is_empty_dim (drop 1 ds) ≡ false
    → list_any (λ d. d.size == 0 && option_map_or (λ e. not (bytes_eq (dim_name e) (dim_name d))) (find is_empty_dim earlier) false) ds ≡ false → NoSecond earlier ds
second_own earlier [] single none = tt
second_own earlier (d ∷ ds) single none =
    (second_head earlier d (or_parts (d.size == 0 && option_map_or (λ e. not (bytes_eq (dim_name e) (dim_name d))) (find is_empty_dim earlier) false) _ none).0, none_second (earlier ++ d ∷ []) ds single)

-- what holds of the variables where no record clashes
pub record IsSingle (earlier : List Variable) (v : Variable) : Type 0 where
  pub first : is_inner_record v ≡ false
  pub second : is_second_record (all_dims earlier) v ≡ false
  pub few : is_record v ≡ true → record_bytes (earlier ++ v ∷ []) ≤ most_record

within_record : (b : Bool) (n : ℕ) → (b && nat_lt most_record n) ≡ false → b ≡ true → n ≤ most_record
within_record true n e is = grind (arith, nat_tests, e)
within_record false n e is = cc is

pub single : (earlier vs : List Variable) (v : Variable) → records_clash earlier (v ∷ vs) ≡ false → IsSingle earlier v × (records_clash (earlier ++ v ∷ []) vs ≡ false)
unfolding records_clash
single earlier vs v none =
    let bytes = record_bytes (earlier ++ v ∷ []) in
    let a = or_parts (is_inner_record v || is_second_record (all_dims earlier) v || is_record v && nat_lt most_record bytes) (records_clash (earlier ++ v ∷ []) vs) none in
    let b = or_parts (is_inner_record v || is_second_record (all_dims earlier) v) (is_record v && nat_lt most_record bytes) a.0 in
    let c = or_parts (is_inner_record v) (is_second_record (all_dims earlier) v) b.0 in
    (record { first = c.0; second = c.1; few = within_record (is_record v) bytes b.1 }, a.1)

pub no_second : (earlier vs : List Variable) → records_clash earlier vs ≡ false → NoSecond (all_dims earlier) (all_dims vs)
no_second earlier [] none = tt
no_second earlier (v ∷ vs) none =
    let both = single earlier vs v none in
    second_both (all_dims earlier) v.dims (all_dims vs) (second_own (all_dims earlier) v.dims both.0.first both.0.second)
    (subst (λ l. NoSecond l (all_dims vs)) (dims_more earlier v) (no_second (earlier ++ v ∷ []) vs both.1))

-- ---- their fields

pub fits_width : (w : Width) (n : ℕ) → n < 2 ^ 32 → n < limit_of w
fits_width Four n few = few
fits_width Eight n few = omega (arith, few)

small_length : (w : Width) (n : ℕ) (b : Bool) → n ≤ 2147483647 → (n == 0 && b) ≡ false → length_fault w b n ≡ None
unfolding length_fault
small_length w n b few none = ap (λ t. bad_if (t || n == 0 && b) 0) (low w few) ∙ ap (λ t. bad_if t 0) none
  where
    low : (w : Width) → n ≤ 2147483647 → nat_lt (largest w) n ≡ false
    low Four few = grind (arith, nat_tests, few)
    low Eight few = grind (arith, nat_tests, few)

earlier_names : (ds : List Dim) → map (λ b. b.name) (map dimension ds) ≡ map file_name (map dim_name ds)
earlier_names [] = refl
earlier_names (d ∷ ds) = ap (λ l. file_name (dim_name d) ∷ l) (earlier_names ds)

earlier_valid : (ds : List Dim) → AllByRecursion IsGoodDim ds → AllByRecursion (λ b. is_file_name b ≡ true) (map dim_name ds)
earlier_valid [] all = tt
earlier_valid (d ∷ ds) all = (all.0.file, earlier_valid ds all.1)

pub new_name_prints : (w : Width) (earlier : List (List ℕ)) (name : List ℕ) → name_fault (length name) ≡ None → length name ≤ 256 → list_any (bytes_eq name) earlier ≡ false → Prints (new_name_fields w earlier name) (name_bytes w name)
unfolding name_bytes repeat_fault
new_name_prints w earlier name good few new =
    prints_both (judged w name_fault (length name) ∷ []) (record { field = run (length name) name; fault = repeat_fault w earlier name } ∷ []) (number_bytes w (length name)) (run_bytes name)
    (prints_number w name_fault (length name) good (fits_width w (length name) (omega (arith, few)))) (prints_run name (repeat_fault w earlier name) (ap (λ b. bad_if b (bytes_in w)) new))

dimension_prints : (w : Width) (earlier : List Dim) (d : Dim) → AllByRecursion IsGoodDim earlier → IsGoodDim d → list_any (is_named (dim_name d)) earlier ≡ false → (d.size == 0 && list_any is_empty_dim earlier) ≡ false
    → Prints (dimension_fields w (map dimension earlier) (dimension d)) (dimension_bytes w (dimension d))
unfolding dimension_fields dimension_bytes
dimension_prints w earlier d all good new single =
    let name = file_name (dim_name d) in
    let has = list_any is_record_dimension (map dimension earlier) in
    let has_is : has ≡ list_any is_empty_dim earlier = any-map is_record_dimension dimension earlier in
    let none = none_named (dim_name d) (map dim_name earlier) good.file (earlier_valid earlier all) (any-map (bytes_eq (dim_name d)) dim_name earlier ∙ new) in
    prints_both (new_name_fields w (map (λ b. b.name) (map dimension earlier)) name) (judged w (length_fault w has) d.size ∷ []) (name_bytes w name) (number_bytes w d.size)
    (new_name_prints w (map (λ b. b.name) (map dimension earlier)) name (name_good (dim_name d) good.file) (name_fits (dim_name d) good.file).1 (ap (list_any (bytes_eq name)) (earlier_names earlier) ∙ none))
    (prints_number w (length_fault w has) d.size (small_length w d.size has good.few (ap (λ b. d.size == 0 && b) has_is ∙ single)) (fits_width w d.size (let few = good.few in omega (arith, few))))

push_good : (P : Dim → Type 0) (xs : List Dim) (x : Dim) → AllByRecursion P xs → P x → AllByRecursion P (xs ++ x ∷ [])
push_good P [] x all own = (own, tt)
push_good P (y ∷ xs) x all own = (all.0, push_good P xs x all.1 own)

pub dims_turn : (w : Width) (earlier ds : List Dim) → AllByRecursion IsGoodDim earlier → AllByRecursion IsGoodDim ds → Fresh earlier ds
    → AllTurn (λ before d. Prints (dimension_fields w before d) (dimension_bytes w d)) (λ d. d) (map dimension earlier) (map dimension ds)
dims_turn w earlier [] known all new = tt
dims_turn w earlier (d ∷ ds) known all new = (
  dimension_prints w earlier d known all.0 new.0 new.1,
  subst (λ l. AllTurn (λ before e. Prints (dimension_fields w before e) (dimension_bytes w e)) (λ e. e) l (map dimension ds)) (map-append dimension earlier (d ∷ []))
      (dims_turn w (earlier ++ d ∷ []) ds (push_good IsGoodDim earlier d known all.0) all.1 new.2),
)
