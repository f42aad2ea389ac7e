-- The words of `serve`.
use Rattle.std.proofs.Common.{◌≡◌, ℕ, length, arith, List, [], ◌∷◌, inl, inr, get_or, codes, sym, ap, ◌∙◌, subst}
use Rattle.std.specs.Str.Parse.{digits_value}
use Rattle.dap_commands.specs.Words.{AreServe, IsCommand, IsNumber}

no-fetch : codes "serve" ≡ codes "fetch" → ⊥
no-fetch e = let first : 115 ≡ 102 = ap (λ xs. get_or xs 0 0) e in omega (arith, first)

-- four words that begin so are a command only with three numbers
pub serve-only : (p w r : List ℕ) → IsCommand (codes "serve" ∷ p ∷ w ∷ r ∷ [])
    → ((n : ℕ) × IsNumber 65535 p n) × ((n : ℕ) × IsNumber 64 w n) × ((n : ℕ) × IsNumber 1000000000 r n)
serve-only p w r (inl (target, workers, inl (is, one))) = cc is
serve-only p w r (inl (target, workers, inr (word, is, number))) = cc is
serve-only p w r (inr (inl is)) = cc is
serve-only p w r (inr (inr (inl (port, workers, requests, (port_word, workers_word, requests_word, is, a, b, c))))) = (
  (port, subst (λ word. IsNumber 65535 word port) (sym (ap (λ words. get_or words 1 []) is)) a),
  (workers, subst (λ word. IsNumber 64 word workers) (sym (ap (λ words. get_or words 2 []) is)) b),
  (requests, subst (λ word. IsNumber 1000000000 word requests) (sym (ap (λ words. get_or words 3 []) is)) c),
)
serve-only p w r (inr (inr (inr (inl is)))) = cc is
serve-only p w r (inr (inr (inr (inr (inl (u, kind, ces, (url, (word, is, is_kind, some, few), known))))))) = absurd (no-fetch (ap (λ words. get_or words 0 []) is))
serve-only p w r (inr (inr (inr (inr (inr (inl (start, records, (start_word, size_word, is, a, b)))))))) = cc is
serve-only p w r (inr (inr (inr (inr (inr (inr (inl (host, upport, port, room, requests, (w1, w2, w3, w4, is, named, a, b, c, d))))))))) = cc is
serve-only p w r (inr (inr (inr (inr (inr (inr (inr (inl is)))))))) = cc is
serve-only p w r (inr (inr (inr (inr (inr (inr (inr (inr (u, ce, (url, is, known)))))))))) = cc is

-- words have one port, and one number of links
pub same-serve : (words : List (List ℕ)) (p w r p2 w2 r2 : ℕ) → AreServe words p w r → AreServe words p2 w2 r2 → (p ≡ p2) × (r ≡ r2)
same-serve words p w r p2 w2 r2 (a, b, c, is, na, nb, nc) (a2, b2, c2, is2, na2, nb2, nc2) = (
  na.1 ∙ ap (λ ws. digits_value 10 (get_or ws 1 [])) (sym is ∙ is2) ∙ sym na2.1,
  nc.1 ∙ ap (λ ws. digits_value 10 (get_or ws 3 [])) (sym is ∙ is2) ∙ sym nc2.1,
)

-- a list of one
pub one-item : (xs : List (List ℕ)) (x : List ℕ) → length xs ≡ 1 → x ≡ get_or xs 0 x → xs ≡ x ∷ []
one-item [] x e is = cc e
one-item (y ∷ []) x e is = ap (λ z. z ∷ []) (sym is)
one-item (y ∷ z ∷ xs) x e is = absurd (omega (arith, e))

-- the words of `serve` in their pieces
pub serve-words : (word name first second third item : List ℕ) (rest : List (List ℕ)) → word ≡ name → third ≡ item → rest ≡ item ∷ [] → word ∷ first ∷ second ∷ third ∷ [] ≡ name ∷ first ∷ second ∷ rest
serve-words word name first second third item rest p q r = ap (λ w. w ∷ first ∷ second ∷ third ∷ []) p ∙ ap (λ x. name ∷ first ∷ second ∷ x ∷ []) q ∙ ap (λ xs. name ∷ first ∷ second ∷ xs) (sym r)
