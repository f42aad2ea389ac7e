-- Lists of variables where they stand, and as contracts see them.
use Rattle.std.proofs.Common.{◌≡◌, ℕ, ◌+◌, ◌<◌, ◌≤◌, Bool, true, false, not, List, [], ◌∷◌, ◌++◌, filter, drop, take, length, get_or, Option, Some, None, option_map, cond, refl, ap, sym, ◌∙◌, append-nil, append_assoc, subst, sum_by, arith, take-append-drop}
use Rattle.std.proofs.lemmas.List.{drop_all, map-append, take_more, take_all}
use Rattle.std.proofs.lemmas.List.Folds.{find-append}
use Rattle.std.specs.List.{list_any, flat_map}
use Rattle.std.specs.Option.{option_or}
use Rattle.std.specs.Prelude.{find, if◌then◌else◌}
use Rattle.std.specs.Str.{bytes_eq}
use Rattle.netcdf_writer.specs.File.{data_bytes, part_bytes, is_five, is_unsigned}
use Rattle.netcdf_writer.specs.Variables.{Variable, Top, has_name, is_record, is_fixed}
use Rattle.netcdf_writer.specs.inner.Parts.{AreFilled, IsFilled, fixed_part}
use Rattle.netcdf_writer.specs.inner.Planned.{AreMaps, AreTops}
use Rattle.netcdf_writer.specs.inner.Tables.{Adds, under, top_view, top_views, variable_view, variable_views}
use Rattle.netcdf_writer.specs.declared.lent.Lent.{Lent}
use Rattle.netcdf_writer.specs.declared.table.Table.{Table}
use Rattle.netcdf_writer.specs.declared.tops.Top as lent_top
use Rattle.std.proofs.lemmas.List.Sums.{sum_by-append, sum_by-cons, sum_by_push}
use Rattle.plain_lemmas.proofs.Lists.{drop_here, any-map}
use Rattle.dap_types.specs.Model.{count, name_of}

pub five_views : (vs : List Lent) → list_any (λ l. is_unsigned l.base) vs ≡ is_five (variable_views vs)
unfolding is_five
five_views vs = sym (any-map (λ v. is_unsigned v.base) variable_view vs)

pub views_here : (vs : List Lent) (i : ℕ) (v : Lent) → i < length vs → v ≡ get_or vs i v → variable_views (drop i vs) ≡ variable_view v ∷ variable_views (drop (i + 1) vs)
views_here vs i v lt is = ap variable_views (drop_here vs i v lt is)

-- ---- values

pub data_none : data_bytes [] ≡ []
unfolding data_bytes
data_none = refl

pub data_more : (v : Variable) (vs : List Variable) → data_bytes (v ∷ vs) ≡ fixed_part v ++ data_bytes vs
unfolding data_bytes
data_more v vs = chosen (is_record v)
  where
    chosen : (b : Bool) → flat_map part_bytes (cond (not b) (v ∷ filter is_fixed vs) (filter is_fixed vs)) ≡ (if b then [] else part_bytes v) ++ flat_map part_bytes (filter is_fixed vs)
    chosen true = refl
    chosen false = refl

pub data_step : (vs : List Lent) (i : ℕ) (v : Lent) → i < length vs → v ≡ get_or vs i v
    → data_bytes (variable_views (drop i vs)) ≡ fixed_part (variable_view v) ++ data_bytes (variable_views (drop (i + 1) vs))
data_step vs i v lt is = ap data_bytes (views_here vs i v lt is) ∙ data_more (variable_view v) (variable_views (drop (i + 1) vs))

pub data_end : (vs : List Lent) (i : ℕ) → length vs ≤ i → data_bytes (variable_views (drop i vs)) ≡ []
data_end vs i le = ap (λ l. data_bytes (variable_views l)) (drop_all i vs le) ∙ data_none

pub filled_both : (v : Variable) (vs : List Variable) → AreFilled (v ∷ vs) → IsFilled v × AreFilled vs
unfolding AreFilled
filled_both v vs filled = filled

pub filled_step : (vs : List Lent) (i : ℕ) (v : Lent) → i < length vs → v ≡ get_or vs i v → AreFilled (variable_views (drop i vs)) → IsFilled (variable_view v) × AreFilled (variable_views (drop (i + 1) vs))
filled_step vs i v lt is filled = filled_both (variable_view v) (variable_views (drop (i + 1) vs)) (rw (views_here vs i v lt is) at filled)

-- ---- tables

pub option_added : {X Y : Type 0} (f : X → Y) (o : Option X) (b : Bool) (x : X) → option_map f (option_or o (if b then Some x else None)) ≡ option_or (option_map f o) (if b then Some (f x) else None)
option_added f None true x = refl
option_added f None false x = refl
option_added f (Some y) b x = refl

find_one : {X : Type 0} (p : X → Bool) (x : X) → find p (x ∷ []) ≡ (if p x then Some x else None)
find_one p x = refl

-- one more thing under its name
seen_more : {X Y : Type 0} (f : X → Y) (named : List ℕ → Y → Bool) (old new : List ℕ → Option X) (name : List ℕ) (x : X) (ys : List Y)
    → ((q : List ℕ) → option_map f (old q) ≡ find (named q) ys) → Adds old new name x → ((q : List ℕ) → bytes_eq q name ≡ named q (f x)) → (q : List ℕ) → option_map f (new q) ≡ find (named q) (ys ++ f x ∷ [])
seen_more f named old new name x ys are adds is q =
    ap (option_map f) (adds q) ∙ option_added f (old q) (bytes_eq q name) x ∙ ap (λ b. option_or (option_map f (old q)) (if b then Some (f x) else None)) (is q)
    ∙ ap (λ o. option_or o (if named q (f x) then Some (f x) else None)) (are q) ∙ sym (find-append (named q) ys (f x ∷ []))

pub maps_more : (old new : Table Lent) (name : List ℕ) (x : Lent) (vs : List Variable) → AreMaps old vs → Adds (under old) (under new) name x → name ≡ x.name.now → AreMaps new (vs ++ variable_view x ∷ [])
unfolding AreMaps
maps_more old new name x vs are adds is = seen_more variable_view has_name (under old) (under new) name x vs are adds (λ q. ap (bytes_eq q) is)

-- ---- what is kept of a list

filter_both : {X : Type 0} (p : X → Bool) (x : X) (xs : List X) → filter p (x ∷ xs) ≡ filter p (x ∷ []) ++ filter p xs
filter_both p x xs = chosen (p x)
  where
    chosen : (b : Bool) → cond b (x ∷ filter p xs) (filter p xs) ≡ cond b (x ∷ []) [] ++ filter p xs
    chosen true = refl
    chosen false = refl

pub keep_step : (p : Variable → Bool) (own : List Lent) (i : ℕ) (v : Lent) (out new all : List Variable) → i < length own → v ≡ get_or own i v
    → out ++ filter p (variable_views (drop i own)) ≡ all → new ≡ out ++ filter p (variable_view v ∷ []) → new ++ filter p (variable_views (drop (i + 1) own)) ≡ all
keep_step p own i v out new all lt is so more =
    ap (λ l. l ++ filter p (variable_views (drop (i + 1) own))) more ∙ append_assoc out (filter p (variable_view v ∷ [])) (filter p (variable_views (drop (i + 1) own)))
    ∙ ap (λ l. out ++ l) (sym (filter_both p (variable_view v) (variable_views (drop (i + 1) own))) ∙ ap (filter p) (sym (views_here own i v lt is))) ∙ so

pub keep_end : (p : Variable → Bool) (own : List Lent) (i : ℕ) (out all : List Variable) → length own ≤ i → out ++ filter p (variable_views (drop i own)) ≡ all → out ≡ all
keep_end p own i out all le so = sym (append-nil out) ∙ ap (λ l. out ++ filter p (variable_views l)) (sym (drop_all i own le)) ∙ so

pub keep_yes : (p : Variable → Bool) (v : Variable) (out : List Variable) → p v ≡ true → out ++ v ∷ [] ≡ out ++ filter p (v ∷ [])
keep_yes p v out kept = ap (λ b. out ++ cond b (v ∷ []) []) (sym kept)

pub keep_no : (p : Variable → Bool) (v : Variable) (out : List Variable) → p v ≡ false → out ≡ out ++ filter p (v ∷ [])
keep_no p v out left = sym (append-nil out) ∙ ap (λ b. out ++ cond b (v ∷ []) []) (sym left)

pub ruleset keeping = (keep_yes, keep_no)

-- ---- more of a table

pub tops_more : (old new : Table lent_top.Top) (name : List ℕ) (x : lent_top.Top) (ts : List Top) → AreTops old ts → Adds (under old) (under new) name x → name ≡ name_of (top_view x).0 → AreTops new (ts ++ top_view x ∷ [])
unfolding AreTops
tops_more old new name x ts are adds is = seen_more top_view (λ q top. bytes_eq q (name_of top.0)) (under old) (under new) name x ts are adds (λ q. ap (bytes_eq q) is)

pub no_tops : (table : Table lent_top.Top) → ((q : List ℕ) → under table q ≡ None) → AreTops table []
unfolding AreTops
no_tops table none q = ap (option_map top_view) (none q)

pub no_maps : (table : Table Lent) → ((q : List ℕ) → under table q ≡ None) → AreMaps table []
unfolding AreMaps
no_maps table none q = ap (option_map variable_view) (none q)

pub views_more : (vs : List Lent) (i : ℕ) (v : Lent) → i < length vs → v ≡ get_or vs i v → variable_views (take (i + 1) vs) ≡ variable_views (take i vs) ++ variable_view v ∷ []
views_more vs i v lt is = ap variable_views (take_more vs i v lt) ∙ map-append variable_view (take i vs) (get_or vs i v ∷ []) ∙ ap (λ x. variable_views (take i vs) ++ variable_view x ∷ []) (sym is)

pub top_views_more : (ts : List lent_top.Top) (i : ℕ) (t : lent_top.Top) → i < length ts → t ≡ get_or ts i t → top_views (take (i + 1) ts) ≡ top_views (take i ts) ++ top_view t ∷ []
top_views_more ts i t lt is = ap top_views (take_more ts i t lt) ∙ map-append top_view (take i ts) (get_or ts i t ∷ []) ∙ ap (λ x. top_views (take i ts) ++ top_view x ∷ []) (sym is)

pub tops_all : (table : Table lent_top.Top) (ts : List lent_top.Top) (i : ℕ) → length ts ≤ i → AreTops table (top_views (take i ts)) → AreTops table (top_views ts)
tops_all table ts i le are = subst (λ l. AreTops table (top_views l)) (take_all i ts le) are

pub top_views_split : (ts : List lent_top.Top) (i : ℕ) (t : lent_top.Top) → i < length ts → t ≡ get_or ts i t → top_views ts ≡ top_views (take i ts) ++ top_view t ∷ top_views (drop (i + 1) ts)
top_views_split ts i t lt is = ap top_views (sym (take-append-drop i ts) ∙ ap (λ l. take i ts ++ l) (drop_here ts i t lt is)) ∙ map-append top_view (take i ts) (t ∷ drop (i + 1) ts)

pub top_views_here : (ts : List lent_top.Top) (i : ℕ) (t : lent_top.Top) → i < length ts → t ≡ get_or ts i t → top_views (drop i ts) ≡ top_view t ∷ top_views (drop (i + 1) ts)
top_views_here ts i t lt is = ap top_views (drop_here ts i t lt is)

-- how many members they are
pub counted : (ts : List lent_top.Top) (i : ℕ) (t : lent_top.Top) → i < length ts → t ≡ get_or ts i t
    → (sum_by (λ top. count top.0) (top_views (take (i + 1) ts)) ≡ sum_by (λ top. count top.0) (top_views (take i ts)) + count (top_view t).0)
    × (sum_by (λ top. count top.0) (top_views (take i ts)) + count (top_view t).0 ≤ sum_by (λ top. count top.0) (top_views ts))
counted ts i t lt is =
    let one = ap (sum_by (λ top. count top.0)) (top_views_more ts i t lt is) ∙ sum_by_push (λ top. count top.0) (top_views (take i ts)) (top_view t) in
    let all : sum_by (λ top. count top.0) (top_views ts) ≡ sum_by (λ top. count top.0) (top_views (take i ts)) + sum_by (λ top. count top.0) (top_view t ∷ top_views (drop (i + 1) ts)) =
    ap (sum_by (λ top. count top.0)) (top_views_split ts i t lt is) ∙ sum_by-append (λ top. count top.0) (top_views (take i ts)) (top_view t ∷ top_views (drop (i + 1) ts)) in
    let here : sum_by (λ top. count top.0) (top_view t ∷ top_views (drop (i + 1) ts)) ≡ count (top_view t).0 + sum_by (λ top. count top.0) (top_views (drop (i + 1) ts)) =
    sum_by-cons (λ top. count top.0) (top_view t) (top_views (drop (i + 1) ts)) in
    (one, omega (arith, all, here))
