-- What is fetched for one constraint.
use Rattle.std.proofs.Common.{◌≡◌, ℕ, ◌⊎◌, inl, inr, List, [], ◌∷◌, sym, ap, ◌∙◌, subst, arith}
use Rattle.dap_outside.specs.Links.{LinkState}
use Rattle.dap_http.specs.Urls.{UrlParts}
use Rattle.dap_http.specs.declared.kind.Kind.{Kind}
use Rattle.dap_client.specs.Fetched.{DialState, Fetches, IsAsked, IsUnasked, SinkState, count_of}
use Rattle.dap_client.specs.Verdict.{Form}
use Rattle.dap_client.specs.declared.fetching.Fetched.{Fetched}

over-one : (form : Form) (request : List ℕ) (came back : LinkState) (before now : SinkState) (f : Fetched)
    → IsUnasked request came back before now f ⊎ IsAsked form 1 request came back before now f → f.whole ≡ count_of f.last
over-one form request came back before now f (inl none) = none.whole ∙ sym (ap count_of none.is_last)
over-one form request came back before now f (inr asked) =
    let c = asked.read.counted in
    omega (arith, c.whole, c.most, ap count_of c.is_last)

module _ {W : Type 0} (state : W → LinkState) (u : UrlParts) (kind : Kind) (ce : List ℕ) (a b : DialState W) (before now : SinkState) where
  counts-one : (f : Fetched) → Fetches state u kind (ce ∷ []) a b before now f → f.whole ≡ count_of f.last
  counts-one f (inl (back, put, whole, inl (is, rose))) = whole ∙ sym (ap count_of is)
  counts-one f (inl (back, put, whole, inr (is, same))) = whole ∙ sym (ap count_of is)
  counts-one f (inr c) = over-one _ _ _ _ before now f c.over.asked

  pub single : (asked : List ℕ) (f : Fetched) → asked ≡ ce → Fetches state u kind (asked ∷ []) a b before now f → Fetches state u kind (ce ∷ []) a b before now (record { whole = count_of f.last; last = f.last })
  single asked f same fetched =
      let here : Fetches state u kind (ce ∷ []) a b before now f = subst (λ (x : List ℕ). Fetches state u kind (x ∷ []) a b before now f) same fetched in
      subst (λ (n : ℕ). Fetches state u kind (ce ∷ []) a b before now (record { whole = n; last = f.last })) (counts-one f here) here
