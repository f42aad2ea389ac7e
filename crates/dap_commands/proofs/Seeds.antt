-- The words of `soak`, and what is said of them.
use Rattle.std.proofs.Common.{◌≡◌, ℕ, List, [], ◌∷◌, inl, inr, get_or, codes, sym, ap, ◌∙◌, subst, arith}
use Rattle.std.specs.Str.Parse.{digits_value}
use Rattle.dap_commands.specs.Soak.{SoakSays}
use Rattle.dap_commands.specs.Words.{AreSoak, IsCommand, IsNumber, IsSeed}
use Rattle.dap_commands.specs.declared.status.Status.{Status}

no-answer : codes "soak" ≡ codes "answer" → ⊥
no-answer e = let first : 115 ≡ 97 = ap (λ xs. get_or xs 0 0) e in omega (arith, first)

no-fetch : codes "soak" ≡ codes "fetch" → ⊥
no-fetch e = let first : 115 ≡ 102 = ap (λ xs. get_or xs 0 0) e in omega (arith, first)

no-save : codes "soak" ≡ codes "save" → ⊥
no-save e = let second : 111 ≡ 97 = ap (λ xs. get_or xs 1 0) e in omega (arith, second)

-- three words that begin so are a command only with a seed and a number of records
pub soak-only : (s r : List ℕ) → IsCommand (codes "soak" ∷ s ∷ r ∷ []) → ((n : ℕ) × IsSeed s n) × ((n : ℕ) × IsNumber 4096 r n)
soak-only s r (inl (target, workers, inl (is, one))) = cc is
soak-only s r (inl (target, workers, inr (word, is, number))) = absurd (no-answer (ap (λ words. get_or words 0 []) is))
soak-only s r (inr (inl is)) = cc is
soak-only s r (inr (inr (inl (port, workers, requests, (port_word, workers_word, requests_word, is, a, b, c))))) = cc is
soak-only s r (inr (inr (inr (inl is)))) = cc is
soak-only s r (inr (inr (inr (inr (inl (u, kind, ces, (url, (word, is, is_kind, some, few), known))))))) = absurd (no-fetch (ap (λ words. get_or words 0 []) is))
soak-only s r (inr (inr (inr (inr (inr (inr (inl (host, upport, port, room, requests, (w1, w2, w3, w4, is, named, a, b, c, d))))))))) = cc is
soak-only s r (inr (inr (inr (inr (inr (inr (inr (inl is)))))))) = cc is
soak-only s r (inr (inr (inr (inr (inr (inr (inr (inr (u, ce, (url, is, known)))))))))) = absurd (no-save (ap (λ words. get_or words 0 []) is))
soak-only s r (inr (inr (inr (inr (inr (inl (start, records, (start_word, size_word, is, a, b)))))))) = (
  (start, subst (λ word. IsSeed word start) (sym (ap (λ words. get_or words 1 []) is)) a),
  (records, subst (λ word. IsNumber 4096 word records) (sym (ap (λ words. get_or words 2 []) is)) b),
)

-- words have one seed, and one number of records
pub same-soak : (words : List (List ℕ)) (s r s2 r2 : ℕ) → AreSoak words s r → AreSoak words s2 r2 → (s ≡ s2) × (r ≡ r2)
same-soak words s r s2 r2 (a, b, is, na, nb) (a2, b2, is2, na2, nb2) = (
  na.1 ∙ ap (λ ws. digits_value 10 (get_or ws 1 [])) (sym is ∙ is2) ∙ sym na2.1,
  nb.1 ∙ ap (λ ws. digits_value 10 (get_or ws 2 [])) (sym is ∙ is2) ∙ sym nb2.1,
)

-- what is said of one seed and number of records is said of these words
pub soak-for : (words : List (List ℕ)) (s r s2 r2 : ℕ) (Out Front : List ℕ → Type 0) (status : Status) → AreSoak words s r → SoakSays s r Out Front status → AreSoak words s2 r2
    → SoakSays s2 r2 Out Front status
soak-for words s r s2 r2 Out Front status are says other =
    let (p, q) = same-soak words s r s2 r2 are other in
    subst (λ n. SoakSays n r2 Out Front status) p (subst (λ n. SoakSays s n Out Front status) q says)
