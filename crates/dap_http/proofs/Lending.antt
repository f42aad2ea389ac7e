-- Bytes of a chunk that are lent at once.
use Rattle.std.proofs.Common.{◌≡◌, ℕ, ◌+◌, ◌-◌, ◌<◌, List, [], ◌∷◌, ◌++◌, length, refl, sym, ap, ◌∙◌, arith, append_assoc, length-append, subst}
use Rattle.dap_http.specs.After.{UnframerStandsAfter}
use Rattle.dap_http.specs.inner.Tracking.{StandsIn, Tracks}
use Rattle.dap_http.specs.inner.Steps.{Known, run}
use Rattle.dap_http.specs.declared.chunk_step.At.TheVariants.{Line, Data, EndCr}
use Rattle.dap_http.specs.declared.coding.Coding.{Coding}
use Rattle.dap_http.specs.declared.coding.Coding.TheVariants.{Chunked, Length, ToEnd}
use Rattle.dap_http.specs.declared.unframer.Unframer.{Unframer}
use Rattle.dap_http.proofs.Runs.{known}
use Rattle.dap_http.proofs.Stages.{run-data, run-part, step-more, takes}

run-some : (xs : List ℕ) (left r u f v : ℕ) (body : List ℕ) → left ≡ r + length xs → 0 < r → 0 < length xs → v ≡ u + length xs
    → run (known (Data left) u f body) xs ≡ known (Data r) v v (body ++ xs)
run-some [] left r u f v body p some more q = absurd (omega (arith, more))
run-some (x ∷ xs) left r u f v body p some more q =
    let first = takes (Data left) (Data (left - 1)) u f body x (step-more left x (omega (arith, p, some))) refl refl refl in
    ap (λ k. run k xs) first ∙ run-part xs (left - 1) r (u + 1) v (body ++ x ∷ []) (omega (arith, p)) some (omega (arith, q))
    ∙ ap (known (Data r) v v) (append_assoc body (x ∷ []) xs)

pub lent-all : (u v : Unframer) (k : Known) (left : ℕ) (bytes : List ℕ) → Tracks u k → u.at ≡ Data left → length bytes ≡ left → 0 < left
    → v.at ≡ EndCr → v.used ≡ u.used + left → v.from ≡ u.used + left → v.lent ≡ u.lent + left → Tracks v (run k bytes) × ((run k bytes).body ≡ k.body ++ bytes)
lent-all u v k left bytes t data_at long some at used from lent =
    let k_at : k.at ≡ Data left = sym t.at ∙ data_at in
    let all : run k bytes ≡ known EndCr (k.used + left) (k.used + left) (k.body ++ bytes) =
    ap (λ a. run (known a k.used k.from k.body) bytes) k_at ∙ run-data bytes left k.used k.from (k.used + left) k.body (sym long) some (omega (arith, long)) in (
      record {
        at = at ∙ sym (ap (λ (m : Known). m.at) all);
        used = omega (arith, used, t.used, ap (λ (m : Known). m.used) all);
        from = omega (arith, from, t.used, ap (λ (m : Known). m.from) all);
        lent = omega (arith, lent, t.lent, ap (λ (m : Known). length m.body) all, length-append k.body bytes, long);
      },
      ap (λ (m : Known). m.body) all,
    )

pub lent-some : (u v : Unframer) (k : Known) (left most : ℕ) (bytes : List ℕ) → Tracks u k → u.at ≡ Data left → length bytes ≡ most → 0 < most → most < left
    → v.at ≡ Data (left - most) → v.used ≡ u.used + most → v.from ≡ u.used + most → v.lent ≡ u.lent + most → Tracks v (run k bytes) × ((run k bytes).body ≡ k.body ++ bytes)
lent-some u v k left most bytes t data_at long some more at used from lent =
    let k_at : k.at ≡ Data left = sym t.at ∙ data_at in
    let all : run k bytes ≡ known (Data (left - most)) (k.used + most) (k.used + most) (k.body ++ bytes) =
    ap (λ a. run (known a k.used k.from k.body) bytes) k_at
    ∙ run-some bytes left (left - most) k.used k.from (k.used + most) k.body (omega (arith, long, more)) (omega (arith, more)) (omega (arith, long, some)) (omega (arith, long)) in (
      record {
        at = at ∙ sym (ap (λ (m : Known). m.at) all);
        used = omega (arith, used, t.used, ap (λ (m : Known). m.used) all);
        from = omega (arith, from, t.used, ap (λ (m : Known). m.from) all);
        lent = omega (arith, lent, t.lent, ap (λ (m : Known). length m.body) all, length-append k.body bytes, long);
      },
      ap (λ (m : Known). m.body) all,
    )

pub stands-new : (u : Unframer) → u.at ≡ Line → u.used ≡ 0 → u.from ≡ 0 → u.lent ≡ 0 → UnframerStandsAfter u []
unfolding UnframerStandsAfter
stands-new u at used from lent = go u.coding where
  go : (c : Coding) → StandsIn c u []
  go Chunked = (record { at = at; used = used; from = from; lent = lent }, used)
  go (Length n) = (lent, used, omega arith)
  go ToEnd = (lent, used)

-- what it stands after, by its coding
pub stands-in : (u : Unframer) (c : Coding) (bytes : List ℕ) → u.coding ≡ c → UnframerStandsAfter u bytes → StandsIn c u bytes
unfolding UnframerStandsAfter
stands-in u c bytes e stands = subst (λ (d : Coding). StandsIn d u bytes) e stands

pub in-stands : (u : Unframer) (c : Coding) (bytes : List ℕ) → u.coding ≡ c → StandsIn c u bytes → UnframerStandsAfter u bytes
unfolding UnframerStandsAfter
in-stands u c bytes e stands = subst (λ (d : Coding). StandsIn d u bytes) (sym e) stands
