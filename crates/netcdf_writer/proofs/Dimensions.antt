-- The dimensions of some variables, one after the other.
use Rattle.std.proofs.Common.{◌≡◌, ℕ, ◌+◌, Bool, true, false, not, ◌&&◌, ◌||◌, List, [], ◌∷◌, ◌++◌, map, length, cond, find, Option, Some, None, option_map, is_some, refl, ap, sym, ◌∙◌, ◌==◌, append-nil, append_assoc, arith, if◌then◌else◌, Bor}
use Rattle.std.proofs.lemmas.List.{map-append, length-map}
use Rattle.std.proofs.lemmas.List.Folds.{find-append}
use Rattle.std.proofs.lemmas.Slice.Eq.{bytes_eq-Decides}
use Rattle.std.specs.List.{position_from}
use Rattle.std.specs.Option.{option_map_or, option_or}
use Rattle.std.specs.Str.{bytes_eq}
use Rattle.dap_types.proofs.Numbering.{position_from-append}
use Rattle.dap_types.proofs.Found.{option_or-some, option_or-none}
use Rattle.dap_types.specs.declared.declarations.Dim.{Dim}
use Rattle.netcdf_writer.specs.Causes.{dims_clash}
use Rattle.netcdf_writer.specs.Variables.{first_uses, dim_name, is_named}
use Rattle.netcdf_writer.specs.declared.dims.Dims.{Dims}
use Rattle.netcdf_writer.specs.declared.dims.Known.{Known}
use Rattle.netcdf_writer.specs.inner.Planned.{AreDims, is_second}
use Rattle.netcdf_writer.specs.inner.Tables.{Adds, under}
use Rattle.netcdf_writer.proofs.Listing.{option_added}

pub no_dims : (d : Dims) → d.list.items ≡ [] → ((q : List ℕ) → under d.known q ≡ None) → AreDims d []
unfolding first_uses
no_dims d empty none = record { list = ap (map (λ b. b.now)) empty; numbers = λ q. ap (option_map (λ k. k.number)) (none q); sizes = λ q. ap (option_map (λ k. k.size)) (none q) }

and_false : (b c : Bool) → c ≡ false → ((b && false) || c) ≡ false
and_false true c e = e
and_false false c e = e

pub second_none : (dims : List Dim) → is_second None dims ≡ false
second_none [] = refl
second_none (d ∷ dims) = and_false (d.size == 0) (is_second None dims) (second_none dims)

-- ---- one after the other

first_more : (earlier us vs : List Dim) → first_uses earlier (us ++ vs) ≡ first_uses earlier us ++ first_uses (earlier ++ us) vs
unfolding first_uses
first_more earlier [] vs = ap (λ l. first_uses l vs) (sym (append-nil earlier))
first_more earlier (u ∷ us) vs =
    ap (λ l. here ++ l) (first_more (earlier ++ u ∷ []) us vs ∙ ap (λ l. first_uses (earlier ++ u ∷ []) us ++ first_uses l vs) (append_assoc earlier (u ∷ []) us))
    ∙ sym (append_assoc here (first_uses (earlier ++ u ∷ []) us) (first_uses (earlier ++ u ∷ us) vs))
  where
    here : List Dim
    here = if is_some (find (is_named (dim_name u)) earlier) then [] else u ∷ []

pub dims_clash_more : (earlier us vs : List Dim) → dims_clash earlier (us ++ vs) ≡ (dims_clash earlier us || dims_clash (earlier ++ us) vs)
unfolding dims_clash
dims_clash_more earlier [] vs = ap (λ l. dims_clash l vs) (sym (append-nil earlier))
dims_clash_more earlier (u ∷ us) vs =
    ap (λ b. here || b) (dims_clash_more (earlier ++ u ∷ []) us vs ∙ ap (λ l. dims_clash (earlier ++ u ∷ []) us || dims_clash l vs) (append_assoc earlier (u ∷ []) us))
    ∙ or_assoc here (dims_clash (earlier ++ u ∷ []) us) (dims_clash (earlier ++ u ∷ us) vs)
  where
    here : Bool
    here = option_map_or (λ e. not (e.size == u.size)) (find (is_named (dim_name u)) earlier) false

    or_assoc : (x y z : Bool) → (x || (y || z)) ≡ ((x || y) || z)
    or_assoc true y z = refl
    or_assoc false y z = refl

pub no_dims_clash : (earlier : List Dim) → dims_clash earlier [] ≡ false
unfolding dims_clash
no_dims_clash earlier = refl

pub first_one : (earlier : List Dim) (d : Dim) (b : Bool) → is_some (find (is_named (dim_name d)) earlier) ≡ b → first_uses [] (earlier ++ d ∷ []) ≡ first_uses [] earlier ++ (if b then [] else d ∷ [])
unfolding first_uses
first_one earlier d b is = first_more [] earlier (d ∷ []) ∙ ap (λ l. first_uses [] earlier ++ l) (append-nil (if is_some (find (is_named (dim_name d)) earlier) then [] else d ∷ []) ∙ ap (λ t. if t then [] else d ∷ []) is)

clash_one : (earlier : List Dim) (d : Dim) → dims_clash earlier (d ∷ []) ≡ (option_map_or (λ e. not (e.size == d.size)) (find (is_named (dim_name d)) earlier) false || false)
unfolding dims_clash
clash_one earlier d = refl

-- ---- a name that is there

abbrev size_or : Option ℕ → ℕ
size_or None = 0
size_or (Some n) = n

not_not : (b : Bool) → b ≡ not (not b || false)
not_not true = refl
not_not false = refl

old_clash : (o : Option Dim) (n m : ℕ) → Some n ≡ option_map (λ d. d.size) o → (n == m) ≡ not (option_map_or (λ e. not (e.size == m)) o false || false)
old_clash None n m e = cc
old_clash (Some d) n m e = ap (λ k. k == m) (ap size_or e) ∙ not_not (d.size == m)

old_there : (o : Option Dim) (n : ℕ) → Some n ≡ option_map (λ d. d.size) o → is_some o ≡ true
old_there None n e = cc
old_there (Some d) n e = refl

seen_old : (earlier : List Dim) (d : Dim) (q : List ℕ) → is_some (find (is_named (dim_name d)) earlier) ≡ true → find (is_named q) earlier ≡ find (is_named q) (earlier ++ d ∷ [])
seen_old earlier d q there = chosen (bytes_eq q (dim_name d)) refl ∙ sym (find-append (is_named q) earlier (d ∷ []))
  where
    chosen : (b : Bool) → bytes_eq q (dim_name d) ≡ b → find (is_named q) earlier ≡ option_or (find (is_named q) earlier) (cond (bytes_eq q (dim_name d)) (Some d) None)
    chosen true e = option_or-some (find (is_named q) earlier) (cond (bytes_eq q (dim_name d)) (Some d) None) (ap (λ n. is_some (find (is_named n) earlier)) ((bytes_eq-Decides q (dim_name d)).0 e) ∙ there)
    chosen false e = option_or-none (find (is_named q) earlier) ∙ ap (λ b. option_or (find (is_named q) earlier) (cond b (Some d) None)) (sym e)

pub added_old : (dims : Dims) (earlier : List Dim) (d : Dim) (k : Known) → AreDims dims earlier → under dims.known (dim_name d) ≡ Some k
    → ((k.size == d.size) ≡ not (dims_clash earlier (d ∷ []))) × ((k.size == d.size) ≡ true → AreDims dims (earlier ++ d ∷ []))
added_old dims earlier d k so is =
    let size : Some k.size ≡ option_map (λ e. e.size) (find (is_named (dim_name d)) earlier) = ap (option_map (λ x. x.size)) (sym is) ∙ so.sizes (dim_name d) in
    let there = old_there (find (is_named (dim_name d)) earlier) k.size size in
    let same : first_uses [] (earlier ++ d ∷ []) ≡ first_uses [] earlier = first_one earlier d true there ∙ append-nil (first_uses [] earlier) in (
      old_clash (find (is_named (dim_name d)) earlier) k.size d.size size ∙ ap not (sym (clash_one earlier d)),
      λ _. record {
        list = so.list ∙ sym same;
        numbers = λ q. so.numbers q ∙ ap (position_from (is_named q) 0) (sym same);
        sizes = λ q. so.sizes q ∙ ap (option_map (λ e. e.size)) (seen_old earlier d q there);
      },
    )

-- ---- a name that is new

none_there : (o : Option Dim) → Path (Option ℕ) None (option_map (λ d. d.size) o) → o ≡ None
none_there None e = refl
none_there (Some d) e = cc

pub added_new : (old new : Dims) (earlier : List Dim) (b : Bor Dim) → AreDims old earlier → under old.known (dim_name b.now) ≡ None
    → new.list.items ≡ old.list.items ++ b ∷ [] → Adds (under old.known) (under new.known) (dim_name b.now) (record { number = length old.list.items; size = b.now.size })
    → (dims_clash earlier (b.now ∷ []) ≡ false) × AreDims new (earlier ++ b.now ∷ [])
added_new old new earlier b so none pushed adds =
    let d = b.now in
    let free : find (is_named (dim_name d)) earlier ≡ None = none_there (find (is_named (dim_name d)) earlier) (ap (option_map (λ x. x.size)) (sym none) ∙ so.sizes (dim_name d)) in
    let more : first_uses [] (earlier ++ d ∷ []) ≡ first_uses [] earlier ++ d ∷ [] = first_one earlier d false (ap is_some free) in
    let count : length old.list.items ≡ 0 + length (first_uses [] earlier) = sym (length-map old.list.items (λ (x : Bor Dim). x.now)) ∙ ap length so.list ∙ omega arith in (
      clash_one earlier d ∙ ap (λ o. option_map_or (λ e. not (e.size == d.size)) o false || false) free,
      record {
        list = ap (map (λ x. x.now)) pushed ∙ map-append (λ x. x.now) old.list.items (b ∷ []) ∙ ap (λ l. l ++ d ∷ []) so.list ∙ sym more;
        numbers = λ q.
            ap (option_map (λ k. k.number)) (adds q) ∙ option_added (λ k. k.number) (under old.known q) (bytes_eq q (dim_name d)) _
            ∙ ap (λ o. option_or o (if bytes_eq q (dim_name d) then Some (length old.list.items) else None)) (so.numbers q)
            ∙ ap (λ n. option_or (position_from (is_named q) 0 (first_uses [] earlier)) (if bytes_eq q (dim_name d) then Some n else None)) count
            ∙ sym (position_from-append (is_named q) 0 (first_uses [] earlier) (d ∷ [])) ∙ ap (position_from (is_named q) 0) (sym more);
        sizes = λ q.
            ap (option_map (λ k. k.size)) (adds q) ∙ option_added (λ k. k.size) (under old.known q) (bytes_eq q (dim_name d)) _
            ∙ ap (λ o. option_or o (if bytes_eq q (dim_name d) then Some d.size else None)) (so.sizes q)
            ∙ sym (option_added (λ e. e.size) (find (is_named q) earlier) (bytes_eq q (dim_name d)) d) ∙ ap (option_map (λ e. e.size)) (sym (find-append (is_named q) earlier (d ∷ [])));
      },
    )
