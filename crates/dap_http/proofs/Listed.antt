-- An input has one list of requests.
use Rattle.std.proofs.Common.{◌≡◌, ℕ, ◌+◌, Bool, true, false, List, [], ◌∷◌, refl, sym, ◌∙◌, subst}
use Rattle.std.specs.Prelude.{MatchBool}
use Rattle.httparse.specs.Grammar.{RequestHead}
use Rattle.httparse.proofs.GrammarLemmas.{request_unique}
use Rattle.dap_http.specs.Requests.{Requests, ends_connection}

abbrev GoesOn : ℕ → RequestHead → List ℕ → List RequestHead → List ℕ → Type 0
GoesOn k head rest heads left = MatchBool (ends_connection k head) ((heads ≡ []) × (left ≡ rest)) (Requests (k + 1) rest heads left)

both : (b : Bool) (k : ℕ) (rest left behind : List ℕ) (heads others : List RequestHead)
    → MatchBool b ((heads ≡ []) × (left ≡ rest)) (Requests (k + 1) rest heads left) → MatchBool b ((others ≡ []) × (behind ≡ rest)) (Requests (k + 1) rest others behind)
    → (Requests (k + 1) rest heads left → Requests (k + 1) rest others behind → (heads ≡ others) × (left ≡ behind)) → (heads ≡ others) × (left ≡ behind)
both true k rest left behind heads others (a, b) (c, d) again = (a ∙ sym c, b ∙ sym d)
both false k rest left behind heads others m n again = again m n

one-more : (h o : RequestHead) (hs os : List RequestHead) (l m : List ℕ) → h ≡ o → (hs ≡ os) × (l ≡ m) → (h ∷ hs ≡ o ∷ os) × (l ≡ m)
one-more h o hs os l m e (f, g) = (cc, g)

pub one-list : (heads others : List RequestHead) (k : ℕ) (input left behind : List ℕ) → Requests k input heads left → Requests k input others behind → (heads ≡ others) × (left ≡ behind)
one-list [] [] k input left behind (a, none) (b, none2) = (refl, a ∙ sym b)
one-list [] (o ∷ os) k input left behind (a, none) (rest, first, more) = absurd (none o rest first)
one-list (h ∷ hs) [] k input left behind (rest, first, more) (b, none) = absurd (none h rest first)
one-list (h ∷ hs) (o ∷ os) k input left behind (r, f, m) (q, g, n) =
    let (same, rest) = request_unique input h o r q f.0.0 g.0.0 in
    let here : GoesOn k o r hs left = subst (λ (x : RequestHead). GoesOn k x r hs left) same m in
    let there : GoesOn k o q hs left = subst (λ (x : List ℕ). GoesOn k o x hs left) rest here in
    one-more h o hs os left behind same (both (ends_connection k o) k q left behind hs os there n (one-list hs os (k + 1) q left behind))
