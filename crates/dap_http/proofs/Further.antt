-- As many bytes of a body come as bytes, at most.
use Rattle.std.proofs.Common.{◌≡◌, ℕ, ◌<◌, ◌≤◌, ◌⊎◌, inl, inr, Bool, true, false, if◌then◌else◌, List, [], ◌∷◌, ◌++◌, length, refl, ap, ◌∙◌, sym, subst, arith, append_assoc, append-nil, length-append}
use Rattle.std.proofs.lemmas.Bool.{cases_lt}
use Rattle.dap_http.proofs.Framings.{no-end-cut, one-end}
use Rattle.dap_http.proofs.Runs.{run-append}
use Rattle.dap_http.proofs.Seams.{split}
use Rattle.dap_http.proofs.Whole.{ends-known, goes-known}
use Rattle.dap_http.specs.Codings.{Ends, Goes}
use Rattle.dap_http.specs.Delivered.{HasCome}
use Rattle.dap_http.specs.inner.Steps.{Known, advance, is_data, run, start}
use Rattle.dap_http.specs.declared.coding.Coding.{Coding}
use Rattle.dap_http.specs.declared.coding.Coding.TheVariants.{Chunked, Length, ToEnd}

pub grown : (d : Bool) (body : List ℕ) (b : ℕ) → (x : List ℕ) × ((if d then body ++ (b ∷ []) else body) ≡ body ++ x) × (length x ≤ 1)
grown true body b = (b ∷ [], refl, omega arith)
grown false body b = ([], sym (append-nil body), omega arith)

pub grows-few : (k : Known) (bytes : List ℕ) → (x : List ℕ) × ((run k bytes).body ≡ k.body ++ x) × (length x ≤ length bytes)
grows-few k [] = ([], sym (append-nil k.body), omega arith)
grows-few k (b ∷ bytes) =
    let (x, first, one) = grown (is_data k.at) k.body b in
    let (y, more, few) = grows-few (advance k b) bytes in
    (x ++ y, more ∙ ap (λ t. t ++ y) first ∙ append_assoc k.body x y, omega (arith, length-append x y, one, few))

abbrev pub Further : List ℕ → List ℕ → ℕ → Type 0
Further b other n = (y : List ℕ) × (other ≡ b ++ y) × (length y ≤ n)

pub run-further : (used w b other : List ℕ) → (run start used).body ≡ b → (run start (used ++ w)).body ≡ other → Further b other (length w)
run-further used w b other is same =
    let (y, more, few) = grows-few (run start used) w in
    (y, sym same ∙ ap (λ (k : Known). k.body) (run-append start used w) ∙ more ∙ ap (λ t. t ++ y) is, few)

pub goes-further : (c : Coding) (used w b other : List ℕ) → Goes c used b → Goes c (used ++ w) other → Further b other (length w)
goes-further Chunked used w b other goes on = run-further used w b other (goes-known used b goes).body (goes-known (used ++ w) other on).body
goes-further (Length n) used w b other (is, few) (same, long) = (w, same ∙ ap (λ t. t ++ w) (sym is), omega arith)
goes-further ToEnd used w b other is same = (w, same ∙ ap (λ t. t ++ w) (sym is), omega arith)

pub ends-further : (c : Coding) (used w b other : List ℕ) → Goes c used b → Ends c (used ++ w) other → Further b other (length w)
ends-further Chunked used w b other goes ends = run-further used w b other (goes-known used b goes).body (ends-known (used ++ w) other ends).body
ends-further (Length n) used w b other (is, few) (same, long) = (w, same ∙ ap (λ t. t ++ w) (sym is), omega arith)
ends-further ToEnd used w b other is none = absurd none

pub to-end : (c : Coding) (used w b other front rest : List ℕ) → Goes c used b → Ends c front other → used ++ w ≡ front ++ rest → Further b other (length w)
to-end c used w b other front rest goes ends e = go (cases_lt (length front) (length used)) where
  go : (length front < length used) ⊎ (length used ≤ length front) → Further b other (length w)
  go (inl less) =
      let (x, is, tail) = split front rest used w (sym e) (omega (arith, less)) in
      absurd (no-end-cut c front x used other b ends goes is)
  go (inr le) =
      let (x, is, tail) = split used w front rest e le in
      let (y, more, few) = ends-further c used x b other goes (subst (λ (t : List ℕ). Ends c t other) is ends) in
      (y, more, omega (arith, few, ap length tail, length-append x rest))

pub come-further : (c : Coding) (used w b other : List ℕ) → Goes c used b ⊎ Ends c used b → HasCome c (used ++ w) other → Further b other (length w)
come-further c used w b other now come = go now come.comes where
  go : Goes c used b ⊎ Ends c used b → (Goes c come.front other × (come.rest ≡ [])) ⊎ Ends c come.front other → Further b other (length w)
  go (inl goes) (inl (on, none)) =
      let all : come.front ≡ used ++ w = sym (append-nil come.front) ∙ ap (λ t. come.front ++ t) (sym none) ∙ sym come.parts in
      goes-further c used w b other goes (subst (λ (t : List ℕ). Goes c t other) all on)
  go (inl goes) (inr ends) = to-end c used w b other come.front come.rest goes ends come.parts
  go (inr ended) (inl (on, none)) =
      let all : come.front ≡ used ++ w = sym (append-nil come.front) ∙ ap (λ t. come.front ++ t) (sym none) ∙ sym come.parts in
      absurd (no-end-cut c used w come.front b other ended on all)
  go (inr ended) (inr ends) =
      let (same, rests) = one-end c used come.front w come.rest b other ended ends come.parts in
      ([], sym same ∙ sym (append-nil b), omega arith)
