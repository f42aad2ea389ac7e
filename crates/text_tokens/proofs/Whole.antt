-- A text has whole tokens, and one list of them.
use Rattle.std.proofs.Common.{◌≡◌, List, [], ◌∷◌, ℕ, sym, ◌∙◌, append-nil, inl, inr}
use Rattle.text_tokens.specs.Tokens.{Placed, AreTokens}
use Rattle.text_tokens.proofs.Every.{whole}
use Rattle.text_tokens.proofs.Unique.{no_next, Compares, reads_compare}

pub some_list : (signs text : List ℕ) → (tokens : List Placed) × AreTokens signs text tokens
some_list signs text = let (tokens, to, r, none) = whole signs text in (tokens, (to, r, none))

pub one_list : (signs text : List ℕ) (tokens other : List Placed) → AreTokens signs text tokens → AreTokens signs text other → tokens ≡ other
one_list signs text tokens other (to, r, none) (to', s, no_more) = from (reads_compare signs text 0 to to' tokens other r s)
  where
    from : Compares signs text tokens other to to' → tokens ≡ other
    from (inl ([], is, rest)) = sym (is ∙ append-nil tokens)
    from (inl (v ∷ vs, is, (behind, next, rest))) = absurd (no_next signs text to v.place behind v.token next none)
    from (inr (v, vs, is, (behind, next, rest))) = absurd (no_next signs text to' v.place behind v.token next no_more)
