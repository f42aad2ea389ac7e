-- A text is one thing alone to a language of tokens in which no text goes on behind its end.
use Rattle.std.proofs.Common.{◌≡◌, List, [], ◌∷◌, ◌++◌, ℕ, drop, sym, ap, subst, ◌∙◌, append_assoc, append-nil, IsTrue, inl, inr}
use Rattle.std.specs.List.{list_all}
use Rattle.std.proofs.lemmas.List.{map-append}
use Rattle.std.proofs.lemmas.List.Folds.{list_all-append, list_all-map}
use Rattle.text_tokens.specs.Tokens.{Token, Placed, is_token, Next, NoToken, Reads}
use Rattle.text_tokens.specs.Languages.{tokens_of, BeginsOne, Unended, SpellsTo, BadToken, Breaks}
use Rattle.text_tokens.proofs.Unique.{next_same, no_next, Compares, reads_compare, reads_valid}

-- no text of the language goes on behind its end
abbrev pub IsPrefixFree : {V : Type 0} → (List Token → V → Type 0) → Type 0
IsPrefixFree {V} Language = (a us : List Token) (t : Token) (v w : V) → Language a v → Language (a ++ t ∷ us) w → ⊥

of_both : (ts vs : List Placed) → tokens_of (ts ++ vs) ≡ tokens_of ts ++ tokens_of vs
of_both ts vs = map-append (λ t. t.token) ts vs

valid_of : (signs text : List ℕ) (at to : ℕ) (vs : List Placed) → Reads signs text at vs to → IsTrue (list_all (is_token signs) (tokens_of vs))
valid_of signs text at to vs r = list_all-map (is_token signs) (λ t. t.token) vs ∙ reads_valid signs text at to vs r

module _ {V : Type 0} (signs : List ℕ) (Language : List Token → V → Type 0) (free : IsPrefixFree Language) where
  longer : (a vs more : List Token) (t : Token) (v w : V) → Language a v → Language (a ++ (vs ++ t ∷ more)) w → ⊥
  longer a [] more t v w x y = free a more t v w x y
  longer a (u ∷ vs) more t v w x y = free a (vs ++ t ∷ more) u v w x y

  ended_no_more : (a vs : List Token) (v : V) → Language a v → Unended signs Language (a ++ vs) → ⊥
  ended_no_more a vs v x (t, valid, (more, valids, w, y)) =
      longer a vs more t v w x (subst (λ (z : List Token). Language z w) (append_assoc (a ++ vs) (t ∷ []) more ∙ append_assoc a vs (t ∷ more)) y)

  -- a text has one end
  pub same_end : (text : List ℕ) (to to' : ℕ) (v w : V) (a : SpellsTo signs Language text to v) (b : SpellsTo signs Language text to' w) → (a.tokens ≡ b.tokens) × (to ≡ to')
  same_end text to to' v w a b = from (reads_compare signs text 0 to to' a.tokens b.tokens a.read b.read)
    where
      from : Compares signs text a.tokens b.tokens to to' → (a.tokens ≡ b.tokens) × (to ≡ to')
      from (inl ([], is, rest)) = (sym (is ∙ append-nil a.tokens), sym rest)
      from (inl (u ∷ vs, is, rest)) = absurd (free (tokens_of a.tokens) (tokens_of vs) u.token v w a.says (subst (λ (z : List Token). Language z w) (ap tokens_of is ∙ of_both a.tokens (u ∷ vs)) b.says))
      from (inr (u, vs, is, rest)) = absurd (free (tokens_of b.tokens) (tokens_of vs) u.token w v b.says (subst (λ (z : List Token). Language z v) (ap tokens_of is ∙ of_both b.tokens (u ∷ vs)) a.says))

  pub spells_no_bad : (text : List ℕ) (to place : ℕ) (v : V) → SpellsTo signs Language text to v → BadToken signs Language text place → ⊥
  spells_no_bad text to place v a b = from (reads_compare signs text 0 to b.at a.tokens b.tokens a.read b.read)
    where
      from : Compares signs text a.tokens b.tokens to b.at → ⊥
      from (inl (vs, is, rest)) = ended_no_more (tokens_of a.tokens) (tokens_of vs) v a.says (subst (Unended signs Language) (ap tokens_of is ∙ of_both a.tokens vs) b.unended)
      from (inr (u, vs, is, (behind, n, rest))) =
          let (token, where_is, at) = next_same signs text b.at u.place behind place b.behind u.token b.bad n b.next in
          let whole : Language (tokens_of b.tokens ++ u.token ∷ tokens_of vs) v = subst (λ (z : List Token). Language z v) (ap tokens_of is ∙ of_both b.tokens (u ∷ vs)) a.says in
          let same : Language ((tokens_of b.tokens ++ b.bad ∷ []) ++ tokens_of vs) v = subst (λ (z : List Token). Language z v) (ap (λ (x : Token). tokens_of b.tokens ++ x ∷ tokens_of vs) token ∙ sym (append_assoc (tokens_of b.tokens) (b.bad ∷ []) (tokens_of vs))) whole in
          b.ends (tokens_of vs, valid_of signs text behind to vs rest, v, same)

  pub spells_no_break : (text : List ℕ) (to : ℕ) (v : V) → SpellsTo signs Language text to v → Breaks signs Language text → ⊥
  spells_no_break text to v a b = from (reads_compare signs text 0 to b.at a.tokens b.tokens a.read b.read)
    where
      from : Compares signs text a.tokens b.tokens to b.at → ⊥
      from (inl (vs, is, rest)) = ended_no_more (tokens_of a.tokens) (tokens_of vs) v a.says (subst (Unended signs Language) (ap tokens_of is ∙ of_both a.tokens vs) b.unended)
      from (inr (u, vs, is, (behind, n, rest))) = no_next signs text b.at u.place behind u.token n b.no_more

  -- a bad token begins nothing, also not with what was read behind it
  goes_past : (text : List ℕ) (ts : List Placed) (bad : Token) (behind to : ℕ) (vs : List Placed) (u : Placed) → (BeginsOne signs Language (tokens_of ts ++ bad ∷ []) → ⊥) → u.token ≡ bad → Reads signs text behind vs to
      → Unended signs Language (tokens_of (ts ++ u ∷ vs)) → ⊥
  goes_past text ts bad behind to vs u ends same rest (t, valid, (more, valids, v, x)) =
      let tail : List Token = tokens_of vs ++ t ∷ more in
      let all : IsTrue (list_all (is_token signs) tail) = (rw (list_all-append (is_token signs) (tokens_of vs) (t ∷ more), valid_of signs text behind to vs rest, valid) valids) in
      let split : (tokens_of (ts ++ u ∷ vs) ++ t ∷ []) ++ more ≡ (tokens_of ts ++ bad ∷ []) ++ tail =
      append_assoc (tokens_of (ts ++ u ∷ vs)) (t ∷ []) more ∙ ap (λ (z : List Token). z ++ t ∷ more) (of_both ts (u ∷ vs)) ∙ append_assoc (tokens_of ts) (u.token ∷ tokens_of vs) (t ∷ more)
      ∙ ap (λ (x : Token). tokens_of ts ++ x ∷ tail) same ∙ sym (append_assoc (tokens_of ts) (bad ∷ []) tail) in
      ends (tail, all, v, subst (λ (z : List Token). Language z v) split x)

  pub bads_same : (text : List ℕ) (place place' : ℕ) → BadToken signs Language text place → BadToken signs Language text place' → place ≡ place'
  bads_same text place place' b d = from (reads_compare signs text 0 b.at d.at b.tokens d.tokens b.read d.read)
    where
      from : Compares signs text b.tokens d.tokens b.at d.at → place ≡ place'
      from (inl ([], is, rest)) =
          let there : Next signs text b.at place' d.behind d.bad = subst (λ (k : ℕ). Next signs text k place' d.behind d.bad) rest d.next in
          (next_same signs text b.at place b.behind place' d.behind b.bad d.bad b.next there).1
      from (inl (u ∷ vs, is, (behind, n, rest))) =
          let (token, where_is, at) = next_same signs text b.at u.place behind place b.behind u.token b.bad n b.next in
          absurd (goes_past text b.tokens b.bad behind d.at vs u b.ends token rest (subst (λ (z : List Placed). Unended signs Language (tokens_of z)) is d.unended))
      from (inr (u, vs, is, (behind, n, rest))) =
          let (token, where_is, at) = next_same signs text d.at u.place behind place' d.behind u.token d.bad n d.next in
          absurd (goes_past text d.tokens d.bad behind b.at vs u d.ends token rest (subst (λ (z : List Placed). Unended signs Language (tokens_of z)) is b.unended))

  pub bad_no_break : (text : List ℕ) (place : ℕ) → BadToken signs Language text place → Breaks signs Language text → ⊥
  bad_no_break text place b d = from (reads_compare signs text 0 b.at d.at b.tokens d.tokens b.read d.read)
    where
      from : Compares signs text b.tokens d.tokens b.at d.at → ⊥
      from (inl ([], is, rest)) =
          let there : NoToken signs (drop b.at text) = subst (λ (k : ℕ). NoToken signs (drop k text)) rest d.no_more in
          no_next signs text b.at place b.behind b.bad b.next there
      from (inl (u ∷ vs, is, (behind, n, rest))) =
          let (token, where_is, at) = next_same signs text b.at u.place behind place b.behind u.token b.bad n b.next in
          goes_past text b.tokens b.bad behind d.at vs u b.ends token rest (subst (λ (z : List Placed). Unended signs Language (tokens_of z)) is d.unended)
      from (inr (u, vs, is, (behind, n, rest))) = no_next signs text d.at u.place behind u.token n d.no_more
