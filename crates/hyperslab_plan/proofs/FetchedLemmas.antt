-- The raw bytes at an element's place are the file's.
use Rattle.std.proofs.Common.{◌≡◌, ℕ, ◌+◌, ◌-◌, ◌<◌, ◌≤◌, List, take, drop, sym, ap, ◌∙◌, arith}
use Rattle.std.proofs.lemmas.List.{drop-drop, drop-take, take-take}
use Rattle.hyperslab_plan.specs.Batches.{run_of, IsBatch, Fetched, Held}
use Rattle.hyperslab_plan.specs.Plans.{place_of, place_in}
use Rattle.hyperslab_plan.specs.declared.batch.Batch.{Batch}
use Rattle.hyperslab_plan.specs.declared.plan.Plan.{Plan}
use Rattle.hyperslab_plan.proofs.RunLemmas.{held}

pub slice-same : (xs ys : List ℕ) (len d s : ℕ) → d + s ≤ len → take len xs ≡ take len ys → take s (drop d xs) ≡ take s (drop d ys)
slice-same xs ys len d s inside same =
    let e : d + (len - d) ≡ len = omega arith in
    let fits : s ≤ len - d = omega arith in
    let cutx : take s (drop d xs) ≡ take s (drop d (take len xs)) = sym (ap (λ zs. take s zs) (ap (λ x. drop d (take x xs)) (sym e) ∙ drop-take d (len - d) xs) ∙ take-take s (len - d) (drop d xs) fits) in
    let cuty : take s (drop d ys) ≡ take s (drop d (take len ys)) = sym (ap (λ zs. take s zs) (ap (λ x. drop d (take x ys)) (sym e) ∙ drop-take d (len - d) ys) ∙ take-take s (len - d) (drop d ys) fits) in
    cutx ∙ ap (λ zs. take s (drop d zs)) same ∙ sym cuty

pub fetched : (plan : Plan) (b : Batch) (j : ℕ) (file raw : List ℕ) → IsBatch plan b → j < b.count → Fetched plan b file raw →
    take plan.size (drop (place_in plan j) raw) ≡ take plan.size (drop (place_of plan (b.first + j)) file)
fetched plan b j file raw is below got = by_held (held plan b j is below)
  where
    by_held : Held plan b j → take plan.size (drop (place_in plan j) raw) ≡ take plan.size (drop (place_of plan (b.first + j)) file)
    by_held h =
        let d : ℕ = place_in plan j - (run_of plan b h.run).into in
        let in_raw : (run_of plan b h.run).into + (place_in plan j - (run_of plan b h.run).into) ≡ place_in plan j = omega (arith, h.from) in
        let in_file : (run_of plan b h.run).at + (place_in plan j - (run_of plan b h.run).into) ≡ place_of plan (b.first + j) = omega (arith, h.from, h.at) in
        let inside : place_in plan j - (run_of plan b h.run).into + plan.size ≤ (run_of plan b h.run).len = omega (arith, h.from, h.to) in
        let same : take plan.size (drop (place_in plan j - (run_of plan b h.run).into) (drop (run_of plan b h.run).into raw)) ≡ take plan.size (drop (place_in plan j - (run_of plan b h.run).into) (drop (run_of plan b h.run).at file))
        = slice-same (drop (run_of plan b h.run).into raw) (drop (run_of plan b h.run).at file) (run_of plan b h.run).len (place_in plan j - (run_of plan b h.run).into) plan.size inside (got h.run h.is_run) in
        ap (λ x. take plan.size (drop x raw)) (sym in_raw) ∙ ap (λ zs. take plan.size zs) (sym (drop-drop (place_in plan j - (run_of plan b h.run).into) (run_of plan b h.run).into raw)) ∙ same
        ∙ ap (λ zs. take plan.size zs) (drop-drop (place_in plan j - (run_of plan b h.run).into) (run_of plan b h.run).at file) ∙ ap (λ x. take plan.size (drop x file)) in_file
