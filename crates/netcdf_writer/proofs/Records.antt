-- Variables over the record dimension, one after the other.
use Rattle.std.proofs.Common.{◌≡◌, ℕ, ◌+◌, ◌-◌, ◌^◌, ◌<◌, ◌≤◌, min, leb, Bool, true, false, not, ◌&&◌, ◌||◌, List, [], ◌∷◌, ◌++◌, find, option_map, refl, ap, sym, ◌∙◌, append-nil, append_assoc, arith, nat_lt}
use Rattle.std.proofs.lemmas.Bool.Decides.{nat_tests}
use Rattle.std.proofs.lemmas.Grind.{flat_map-append}
use Rattle.std.proofs.lemmas.List.Folds.{find-append}
use Rattle.std.proofs.lemmas.List.Sums.{sum_by_push}
use Rattle.std.specs.Option.{option_or}
use Rattle.plain_lemmas.proofs.Truths.{or_false}
use Rattle.netcdf_writer.specs.Causes.{records_clash, most_record, is_inner_record, is_second_record}
use Rattle.netcdf_writer.specs.Variables.{Variable, all_dims, is_empty_dim, is_record, room_in_record, record_bytes}
use Rattle.netcdf_writer.specs.inner.Planned.{IsRecord, is_second}
use Rattle.netcdf_writer.specs.declared.plan.Record.{Record}

pub dims_more : (vs : List Variable) (v : Variable) → all_dims (vs ++ v ∷ []) ≡ all_dims vs ++ v.dims
dims_more vs v = flat_map-append (λ w. w.dims) vs (v ∷ []) ∙ ap (λ l. all_dims vs ++ l) (append-nil v.dims)

one_clash : (earlier : List Variable) (v : Variable)
    → records_clash earlier (v ∷ []) ≡ (is_inner_record v || is_second_record (all_dims earlier) v || is_record v && nat_lt most_record (record_bytes (earlier ++ v ∷ [])) || false)
unfolding records_clash
one_clash earlier v = refl

pub inner_clash : (earlier : List Variable) (v : Variable) → is_inner_record v ≡ true → records_clash earlier (v ∷ []) ≡ true
inner_clash earlier v e = one_clash earlier v ∙ ap (λ b. b || is_second_record (all_dims earlier) v || is_record v && nat_lt most_record (record_bytes (earlier ++ v ∷ [])) || false) e

pub second_clash : (earlier : List Variable) (v : Variable) → is_inner_record v ≡ false → is_second_record (all_dims earlier) v ≡ true → records_clash earlier (v ∷ []) ≡ true
second_clash earlier v i e = one_clash earlier v ∙ ap (λ b. b || is_second_record (all_dims earlier) v || is_record v && nat_lt most_record (record_bytes (earlier ++ v ∷ [])) || false) i
    ∙ ap (λ b. b || is_record v && nat_lt most_record (record_bytes (earlier ++ v ∷ [])) || false) e

bytes_clash : (earlier : List Variable) (v : Variable) → is_inner_record v ≡ false → is_second_record (all_dims earlier) v ≡ false
    → records_clash earlier (v ∷ []) ≡ (is_record v && nat_lt most_record (record_bytes (earlier ++ v ∷ [])))
bytes_clash earlier v i s = one_clash earlier v ∙ ap (λ b. b || is_second_record (all_dims earlier) v || is_record v && nat_lt most_record (record_bytes (earlier ++ v ∷ [])) || false) i
    ∙ ap (λ b. b || is_record v && nat_lt most_record (record_bytes (earlier ++ v ∷ [])) || false) s ∙ or_false (is_record v && nat_lt most_record (record_bytes (earlier ++ v ∷ [])))

none_by_itself : (v : Variable) → is_record v ≡ false → room_in_record v ≡ 0
none_by_itself v e = rw e refl

within_few : (b : Bool) (old room now : ℕ) → old ≤ most_record → (b ≡ false → room ≡ 0) → (now ≤ most_record → now ≡ old + room) → (most_record < now → most_record < old + room)
    → leb now most_record ≡ not (b && nat_lt most_record (old + room))
within_few true old room now few none same more = grind (arith, nat_tests)
within_few false old room now few none same more =
    let e : room ≡ 0 = none refl in
    grind (arith, nat_tests)

summed : (old room add now : ℕ) → old ≤ most_record → (room < 2 ^ 32 → add ≡ room) → (2 ^ 32 ≤ room → 2 ^ 32 ≤ add) → now ≡ min (old + add) (2 ^ 64 - 1) → (now ≤ most_record → now ≡ old + room) × (most_record < now → most_record < old + room)
summed old room add now few small large is = (λ h. grind arith, λ h. grind arith)

-- a variable that has no inner nor second record dimension
pub added_record : (old new : Record) (v : Variable) (add : ℕ) (earlier : List Variable) → IsRecord old earlier
    → is_inner_record v ≡ false → is_second (option_map (λ d. d.now) old.dim) v.dims ≡ false
    → option_map (λ d. d.now) new.dim ≡ option_or (option_map (λ d. d.now) old.dim) (find is_empty_dim v.dims)
    → (room_in_record v < 2 ^ 32 → add ≡ room_in_record v) → (2 ^ 32 ≤ room_in_record v → 2 ^ 32 ≤ add) → new.bytes ≡ min (old.bytes + add) (2 ^ 64 - 1)
    → (leb new.bytes most_record ≡ not (records_clash earlier (v ∷ []))) × (leb new.bytes most_record ≡ true → IsRecord new (earlier ++ v ∷ []))
added_record old new v add earlier so i s dim small large is =
    let both = summed old.bytes (room_in_record v) add new.bytes so.few small large is in
    let sum : old.bytes + room_in_record v ≡ record_bytes (earlier ++ v ∷ []) = ap (λ n. n + room_in_record v) so.bytes ∙ sym (sum_by_push room_in_record earlier v) in
    let second : is_second_record (all_dims earlier) v ≡ false = ap (λ o. is_second o v.dims) (sym so.dim) ∙ s in (
      within_few (is_record v) old.bytes (room_in_record v) new.bytes so.few (none_by_itself v) both.0 both.1 ∙ ap (λ n. not (is_record v && nat_lt most_record n)) sum ∙ sym (ap not (bytes_clash earlier v i second)),
      λ fine. let few : new.bytes ≤ most_record = grind (arith, nat_tests) in record {
        dim = dim ∙ ap (λ o. option_or o (find is_empty_dim v.dims)) so.dim ∙ sym (find-append is_empty_dim (all_dims earlier) v.dims) ∙ ap (find is_empty_dim) (sym (dims_more earlier v));
        bytes = both.0 few ∙ sum;
        few = few;
      },
    )

-- ---- one after the other

pub clash_more : (earlier us vs : List Variable) → records_clash earlier (us ++ vs) ≡ (records_clash earlier us || records_clash (earlier ++ us) vs)
unfolding records_clash
clash_more earlier [] vs = ap (λ l. records_clash l vs) (sym (append-nil earlier))
clash_more earlier (u ∷ us) vs =
    ap (λ b. own || b) (clash_more (earlier ++ u ∷ []) us vs ∙ ap (λ l. records_clash (earlier ++ u ∷ []) us || records_clash l vs) (append_assoc earlier (u ∷ []) us))
    ∙ or_assoc own (records_clash (earlier ++ u ∷ []) us) (records_clash (earlier ++ u ∷ us) vs)
  where
    own : Bool
    own = is_inner_record u || is_second_record (all_dims earlier) u || is_record u && nat_lt most_record (record_bytes (earlier ++ u ∷ []))

    or_assoc : (x y z : Bool) → (x || (y || z)) ≡ ((x || y) || z)
    or_assoc true y z = refl
    or_assoc false y z = refl

pub none_clash : (earlier : List Variable) → records_clash earlier [] ≡ false
unfolding records_clash
none_clash earlier = refl
