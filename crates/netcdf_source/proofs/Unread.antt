-- Attributes that are read one at a time are those of their list, and stand in the bytes that it is
-- read from, cut behind the last of them.
use Rattle.std.proofs.Common.{◌≡◌, ◌≢◌, ℕ, zero, suc, ◌-◌, ◌+◌, ◌≤◌, ◌<◌, inl, inr, List, [], ◌∷◌, ◌++◌, length, map, take, Option, Some, None, Result, Ok, Err, MatchOption, refl, sym, ap, subst, ◌∙◌, append_assoc, length-append, arith}
use Rattle.std.proofs.lemmas.List.{append-nil}
use Rattle.std.proofs.Math.Seq.{take-append_seam}
use Rattle.netcdf_source.specs.Attribute.{Attribute}
use Rattle.netcdf_source.specs.Fields.{Judged, Fault, failure, Ends}
use Rattle.netcdf_source.specs.Grammar.{AttributeTree, attribute, attribute_fields, in_turn}
use Rattle.netcdf_source.specs.inner.Reading.{◌>>=◌, attribute_at, next_attribute, times}
use Rattle.netcdf_source.specs.inner.Unread.{first_then, attributes_in, behind_at}
use Rattle.netcdf_source.specs.declared.failure.Failure.{Failure}
use Rattle.netcdf_source.specs.declared.failure.Failure.TheVariants.{Cut}
use Rattle.netcdf_source.specs.declared.version.Version.{Version}
use Rattle.netcdf_source.proofs.Ends.{IsBytes, with_value}
use Rattle.netcdf_source.proofs.Items.{times_again, times_found}
use Rattle.netcdf_source.proofs.Trees.{attribute_again, attribute_sound}

-- ---- one attribute

pub next-is : (version : Version) (n : ℕ) (bytes rest : List ℕ) (a : Attribute) → n ≢ 0 → attribute_at version bytes ≡ Ok (a, rest) → attributes_in version n bytes ≡ a ∷ attributes_in version (n - 1) rest
unfolding attributes_in
next-is version n bytes rest a some is =
    let k : n ≡ suc (n - 1) = omega arith in
    let one : attributes_in version (suc (n - 1)) bytes ≡ a ∷ attributes_in version (n - 1) rest = rw is refl in
    subst (λ (m : ℕ). attributes_in version m bytes ≡ a ∷ attributes_in version (n - 1) rest) (sym k) one

pub none-left : (version : Version) (n : ℕ) (bytes : List ℕ) (f : Failure) → attribute_at version bytes ≡ Err f → attributes_in version n bytes ≡ []
unfolding attributes_in
none-left version zero bytes f is = refl
none-left version (suc n) bytes f is = rw is refl

-- ---- what stands behind them, as a loop comes to it

pub behind-goes_on : (version : Version) (count i : ℕ) (bytes after : List ℕ) (a : Attribute) (total : Result (List ℕ) Failure)
    → i < count → attribute_at version bytes ≡ Ok (a, after) → behind_at version (count - i) bytes ≡ total → behind_at version (count - (i + 1)) after ≡ total
unfolding behind_at
behind-goes_on version count i bytes after a total lt is so_far =
    let k : count - i ≡ suc (count - (i + 1)) = omega arith in
    let one : behind_at version (count - i) bytes ≡ behind_at version (count - (i + 1)) after = rw (k, is) refl in
    sym one ∙ so_far

pub behind-ends : (version : Version) (count i : ℕ) (bytes : List ℕ) (f : Failure) (total : Result (List ℕ) Failure)
    → i < count → attribute_at version bytes ≡ Err f → behind_at version (count - i) bytes ≡ total → total ≡ Err f
unfolding behind_at
behind-ends version count i bytes f total lt is so_far =
    let k : count - i ≡ suc (count - (i + 1)) = omega arith in
    let one : behind_at version (count - i) bytes ≡ Err f = rw (k, is) refl in
    sym so_far ∙ one

pub behind-is_done : (version : Version) (count i : ℕ) (bytes : List ℕ) (total : Result (List ℕ) Failure)
    → count ≤ i → behind_at version (count - i) bytes ≡ total → total ≡ Ok bytes
unfolding behind_at
behind-is_done version count i bytes total le so_far =
    let k : count - i ≡ 0 = omega arith in
    let one : behind_at version (count - i) bytes ≡ Ok bytes = rw k refl in
    sym so_far ∙ one

-- ---- the list

abbrev listed : List Attribute → Result (List ℕ) Failure → Result (List Attribute × List ℕ) Failure
listed items behind = behind >>= λ rest. Ok (items, rest)

times-listed : (version : Version) (n : ℕ) (before : List Attribute) (bytes : List ℕ)
    → times (next_attribute version) n before bytes ≡ listed (before ++ attributes_in version n bytes) (behind_at version n bytes)
unfolding times behind_at attributes_in
times-listed version zero before bytes = ap (λ (items : List Attribute). Ok (items, bytes)) (sym (append-nil before))
times-listed version (suc n) before bytes = go (attribute_at version bytes) (λ x. times-listed version n (before ++ x.0 ∷ []) x.1)
  where
    go : (r : Result (Attribute × List ℕ) Failure)
        → ((x : Attribute × List ℕ) → times (next_attribute version) n (before ++ x.0 ∷ []) x.1 ≡ listed ((before ++ x.0 ∷ []) ++ attributes_in version n x.1) (behind_at version n x.1))
        → (r >>= λ x. times (next_attribute version) n (before ++ x.0 ∷ []) x.1) ≡ listed (before ++ first_then r (attributes_in version n)) (r >>= λ x. behind_at version n x.1)
    go (Ok x) others = others x ∙ ap (λ (items : List Attribute). listed items (behind_at version n x.1)) (append_assoc before (x.0 ∷ []) (attributes_in version n x.1))
    go (Err f) others = refl

-- ---- cut behind the last

abbrev After : Option Fault → ℕ → List Judged → List ℕ → Result (List ℕ) Failure → Type 0
After o left js rest end = MatchOption o (Ends js rest end) (λ f. end ≡ Err (failure f left))

cut_after : (o : Option Fault) (left : ℕ) (js : List Judged) (bytes rest : List ℕ)
    → (Ends js bytes (Ok rest) → (front : List ℕ) × (bytes ≡ front ++ rest) × Ends js front (Ok []))
    → After o left js bytes (Ok rest) → (front : List ℕ) × (bytes ≡ front ++ rest) × ((n : ℕ) → After o n js front (Ok []))
cut_after None left js bytes rest go h = let a = go h in (a.0, a.1, λ n. a.2)
cut_after (Some f) left js bytes rest go h = absurd cc

cut_ends : (js : List Judged) (bytes rest : List ℕ) → Ends js bytes (Ok rest) → (front : List ℕ) × (bytes ≡ front ++ rest) × Ends js front (Ok [])
unfolding Ends
cut_ends [] bytes rest h = ([], ok_is bytes rest h, refl)
  where
    ok_is : (x y : List ℕ) → Path (Result (List ℕ) Failure) (Ok y) (Ok x) → x ≡ y
    ok_is x y e = cc
cut_ends (j ∷ js) bytes rest (inl cut) = absurd (not_cut cut.1)
  where
    not_cut : Path (Result (List ℕ) Failure) (Ok rest) (Err Cut) → ⊥
    not_cut e = cc
cut_ends (j ∷ js) bytes rest (inr m) =
    let a = cut_after j.fault (length bytes) js m.1 rest (cut_ends js m.1 rest) m.4 in
    (m.0 ++ a.0, m.2 ∙ ap (λ (bs : List ℕ). m.0 ++ bs) a.1 ∙ sym (append_assoc m.0 a.0 rest), inr (m.0, a.0, refl, m.3, a.2 (length (m.0 ++ a.0))))

abbrev fields_of : Version → List AttributeTree → List Judged
fields_of version ts = in_turn (attribute_fields version) attribute [] ts

same_value : (xs ys : List Attribute) (end : Result (List ℕ) Failure) (rest : List ℕ) → with_value xs end ≡ Ok (ys, rest) → (xs ≡ ys) × (end ≡ Ok rest)
same_value xs ys (Ok r) rest e =
    let p : Path (List Attribute × List ℕ) (xs, r) (ys, rest) = cc in
    (ap (λ (q : List Attribute × List ℕ). q.0) p, ap (λ (q : List Attribute × List ℕ). Ok q.1) p)
same_value xs ys (Err f) rest e = absurd cc

same_list : (xs ys : List Attribute) (behind : Result (List ℕ) Failure) (rest : List ℕ) → listed xs behind ≡ Ok (ys, rest) → (xs ≡ ys) × (behind ≡ Ok rest)
same_list xs ys (Ok r) rest e =
    let p : Path (List Attribute × List ℕ) (xs, r) (ys, rest) = cc in
    (ap (λ (q : List Attribute × List ℕ). q.0) p, ap (λ (q : List Attribute × List ℕ). Ok q.1) p)
same_list xs ys (Err f) rest e = absurd cc

-- what is read from the bytes is read from those in front of what is left, and takes all of these
cut_list : (version : Version) (n : ℕ) (bytes rest : List ℕ) → IsBytes bytes → behind_at version n bytes ≡ Ok rest
    → (front : List ℕ) × (bytes ≡ front ++ rest) × (attributes_in version n front ≡ attributes_in version n bytes) × (behind_at version n front ≡ Ok [])
cut_list version n bytes rest fits is =
    let f = times_found (attribute_fields version) attribute (next_attribute version) (attribute_sound version) n [] bytes fits in
    let whole : times (next_attribute version) n [] bytes ≡ Ok (attributes_in version n bytes, rest) = times-listed version n [] bytes ∙ ap (listed (attributes_in version n bytes)) is in
    go f.0 f.1 f.2 f.3 (sym f.4 ∙ whole)
  where
    go : (ts : List AttributeTree) → length ts ≡ n → (end : Result (List ℕ) Failure) → Ends (fields_of version ts) bytes end → with_value (map attribute ts) end ≡ Ok (attributes_in version n bytes, rest)
        → (front : List ℕ) × (bytes ≡ front ++ rest) × (attributes_in version n front ≡ attributes_in version n bytes) × (behind_at version n front ≡ Ok [])
    go ts count end ends e =
        let s = same_value (map attribute ts) (attributes_in version n bytes) end rest e in
        let c = cut_ends (fields_of version ts) bytes rest (subst (λ (r : Result (List ℕ) Failure). Ends (fields_of version ts) bytes r) s.1 ends) in
        let again : times (next_attribute version) (length ts) [] c.0 ≡ Ok (map attribute ts, []) = (times_again (attribute_fields version) attribute (next_attribute version) (attribute_again version) [] ts).at c.0 (Ok []) c.2 in
        let short : times (next_attribute version) n [] c.0 ≡ Ok (map attribute ts, []) = subst (λ (m : ℕ). times (next_attribute version) m [] c.0 ≡ Ok (map attribute ts, [])) count again in
        let all = same_list (attributes_in version n c.0) (map attribute ts) (behind_at version n c.0) [] (sym (times-listed version n [] c.0) ∙ short) in
        (c.0, c.1, all.0 ∙ s.0, all.1)

-- ---- as the code takes them

pub read-list : (version : Version) (n : ℕ) (bytes rest : List ℕ) → behind_at version n bytes ≡ Ok rest → times (next_attribute version) n [] bytes ≡ Ok (attributes_in version n bytes, rest)
read-list version n bytes rest is = times-listed version n [] bytes ∙ ap (listed (attributes_in version n bytes)) is

pub failed-list : (version : Version) (n : ℕ) (bytes : List ℕ) (f : Failure) → behind_at version n bytes ≡ Err f → times (next_attribute version) n [] bytes ≡ Err f
failed-list version n bytes f is = times-listed version n [] bytes ∙ ap (listed (attributes_in version n bytes)) is

-- no more is left than there was
pub left-le : (version : Version) (n : ℕ) (bytes rest : List ℕ) → IsBytes bytes → behind_at version n bytes ≡ Ok rest → length rest ≤ length bytes
left-le version n bytes rest fits is =
    let c = cut_list version n bytes rest fits is in
    omega (arith, ap length c.1, length-append c.0 rest)

take_front : (bytes front rest : List ℕ) → bytes ≡ front ++ rest → take (length bytes - length rest) bytes ≡ front
take_front bytes front rest is =
    let n : length bytes - length rest ≡ length front = omega (arith, ap length is, length-append front rest) in
    ap (λ (k : ℕ). take k bytes) n ∙ ap (take (length front)) is ∙ take-append_seam front rest

pub front-list : (version : Version) (n : ℕ) (bytes rest : List ℕ) → IsBytes bytes → behind_at version n bytes ≡ Ok rest → attributes_in version n (take (length bytes - length rest) bytes) ≡ attributes_in version n bytes
front-list version n bytes rest fits is =
    let c = cut_list version n bytes rest fits is in
    ap (attributes_in version n) (take_front bytes c.0 rest c.1) ∙ c.2

-- and nothing stands behind them there
pub front-whole : (version : Version) (n : ℕ) (bytes rest : List ℕ) → IsBytes bytes → behind_at version n bytes ≡ Ok rest → behind_at version n (take (length bytes - length rest) bytes) ≡ Ok []
front-whole version n bytes rest fits is =
    let c = cut_list version n bytes rest fits is in
    ap (behind_at version n) (take_front bytes c.0 rest c.1) ∙ c.3
