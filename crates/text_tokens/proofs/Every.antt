-- From each place on stands a whole token or none, and so each text is one thing to a language that a
-- machine reads.
use Rattle.std.proofs.Common.{◌≡◌, List, [], ◌∷◌, ◌++◌, ℕ, zero, suc, ◌+◌, ◌<◌, ◌≤◌, length, drop, refl, sym, ap, subst, ◌∙◌, append_assoc, append-nil, Bool, true, false, ◌==◌, IsTrue, ◌⊎◌, inl, inr, arith, length-append, Option, Some, None}
use Rattle.std.specs.List.{list_all}
use Rattle.std.proofs.lemmas.Bool.{eqb-true}
use Rattle.std.proofs.lemmas.List.{drop_at}
use Rattle.viable.specs.Quoted.{Piece, plain, escaped, is_piece, spelling, IsOpen}
use Rattle.viable.specs.Runs.{ends_with}
use Rattle.text_tokens.specs.Languages.{SpellsTo, BadToken, Breaks}
use Rattle.text_tokens.specs.inner.Machines.{IsMachine, StandsAt}
use Rattle.text_tokens.specs.Tokens.{Token, sign, word, quoted, is_white, is_sign, is_word_byte, token_bytes, is_token, is_whole, Next, NoToken, IsPart, Placed, Reads}
use Rattle.text_tokens.proofs.Machines.{moves, starts, spells_of, bad_of, breaks_of}
use Rattle.text_tokens.proofs.Spelling.{first_is}

-- the longest run of bytes of a class at the front
abbrev Split : (ℕ → Bool) → List ℕ → Type 0
Split test l = (run rest : List ℕ) × (l ≡ run ++ rest) × IsTrue (list_all test run) × IsTrue (ends_with test rest)

split : (test : ℕ → Bool) (l : List ℕ) → Split test l
split test [] = ([], [], refl, refl, refl)
split test (b ∷ l) = on (test b) refl (split test l)
  where
    on : (c : Bool) → test b ≡ c → Split test l → Split test (b ∷ l)
    on true e (run, rest, is, all, end) = (b ∷ run, rest, ap (λ (z : List ℕ). b ∷ z) is, rw (e, all) refl, end)
    on false e s = ([], b ∷ l, refl, refl, rw e refl)

-- the pieces of a quoted text, up to its last quote or to the end
abbrev Pieces : List ℕ → Type 0
Pieces l = (pieces : List Piece) × (rest : List ℕ) × (l ≡ spelling pieces ++ rest) × IsTrue (list_all is_piece pieces) × (((y : List ℕ) × (rest ≡ 34 ∷ y)) ⊎ IsOpen rest)

quote_first : (b : ℕ) (l : List ℕ) → (b == 34) ≡ true → Pieces (b ∷ l)
quote_first b l e = ([], b ∷ l, refl, refl, inl (l, ap (λ (z : ℕ). z ∷ l) (eqb-true b 34 e)))

plain_first : (b : ℕ) (l : List ℕ) → (b == 34) ≡ false → (b == 92) ≡ false → Pieces l → Pieces (b ∷ l)
plain_first b l e f (pieces, rest, is, all, how) = (plain b ∷ pieces, rest, ap (λ (z : List ℕ). b ∷ z) is, rw (e, f, all) refl, how)

pair_first : (b c : ℕ) (l : List ℕ) → (b == 92) ≡ true → Pieces l → Pieces (b ∷ c ∷ l)
pair_first b c l e (pieces, rest, is, all, how) = (escaped c ∷ pieces, rest, ap (λ (z : ℕ). z ∷ c ∷ l) (eqb-true b 92 e) ∙ ap (λ (z : List ℕ). 92 ∷ c ∷ z) is, all, how)

pieces_of : (l : List ℕ) → Pieces l
pieces_of [] = ([], [], refl, refl, inr (inl refl))
pieces_of (b ∷ []) = on (b == 34) (b == 92) refl refl
  where
    on : (q s : Bool) → (b == 34) ≡ q → (b == 92) ≡ s → Pieces (b ∷ [])
    on true s e f = quote_first b [] e
    on false true e f = ([], b ∷ [], refl, refl, inr (inr (ap (λ (z : ℕ). z ∷ []) (eqb-true b 92 f))))
    on false false e f = plain_first b [] e f ([], [], refl, refl, inr (inl refl))
pieces_of (b ∷ c ∷ l) = on (b == 34) (b == 92) refl refl (pieces_of (c ∷ l)) (pieces_of l)
  where
    on : (q s : Bool) → (b == 34) ≡ q → (b == 92) ≡ s → Pieces (c ∷ l) → Pieces l → Pieces (b ∷ c ∷ l)
    on true s e f one two = quote_first b (c ∷ l) e
    on false true e f one two = pair_first b c l f two
    on false false e f one two = plain_first b (c ∷ l) e f one

-- a whole token stands at the front, or the front of one is left
abbrev Begun : List ℕ → List ℕ → Type 0
Begun signs l = ((t : Token) × (more : List ℕ) × IsTrue (is_token signs t) × IsTrue (is_whole signs t more) × (l ≡ token_bytes t ++ more)) ⊎ IsPart signs l

token_or_part : (signs l : List ℕ) → IsTrue (ends_with is_white l) → Begun signs l
token_or_part signs [] unwhite = inr (inl refl)
token_or_part signs (b ∷ l) unwhite = by_quote (b == 34) refl
  where
    in_quotes : b ≡ 34 → Pieces l → Begun signs (b ∷ l)
    in_quotes e (pieces, rest, is, all, inl (y, quote)) =
        inl (quoted pieces, y, all, refl, ap (λ (z : ℕ). z ∷ l) e ∙ ap (λ (z : List ℕ). 34 ∷ z) (is ∙ ap (λ (z : List ℕ). spelling pieces ++ z) quote ∙ sym (append_assoc (spelling pieces) (34 ∷ []) y)))
    in_quotes e (pieces, rest, is, all, inr left) = inr (inr (pieces, rest, all, left, ap (λ (z : ℕ). z ∷ l) e ∙ ap (λ (z : List ℕ). 34 ∷ z) is))

    in_word : IsTrue (is_word_byte signs b) → Split (is_word_byte signs) l → Begun signs (b ∷ l)
    in_word one (run, [], is, all, end) = inr (inl (let e : l ≡ run = is ∙ append-nil run in (rw (e, one, all) refl)))
    in_word one (run, c ∷ rest, is, all, end) = inl (word (b ∷ run), c ∷ rest, rw (one, all) refl, end, ap (λ (z : List ℕ). b ∷ z) is)

    by_sign : (s : Bool) → is_sign signs b ≡ s → (b == 34) ≡ false → Begun signs (b ∷ l)
    by_sign true s q = inl (sign b, l, rw (unwhite, q, s) refl, refl, refl)
    by_sign false s q = in_word (rw (unwhite, q, s) refl) (split (is_word_byte signs) l)

    by_quote : (q : Bool) → (b == 34) ≡ q → Begun signs (b ∷ l)
    by_quote true q = in_quotes (eqb-true b 34 q) (pieces_of l)
    by_quote false q = by_sign (is_sign signs b) refl q

pub some_bytes : (signs : List ℕ) (t : Token) → IsTrue (is_token signs t) → 0 < length (token_bytes t)
some_bytes signs (sign b) ok = omega arith
some_bytes signs (word []) ok = cc
some_bytes signs (word (b ∷ w)) ok = omega arith
some_bytes signs (quoted p) ok = omega arith

-- the next whole token, and the bytes behind it
record Following (signs before l : List ℕ) : Type 0 where
  token : Token
  place : ℕ
  used : List ℕ
  rest : List ℕ
  split_is : l ≡ used ++ rest
  some : 0 < length used
  next : Next signs (before ++ l) (length before) place (length (before ++ used)) token

following : (signs before l : List ℕ) → Following signs before l ⊎ NoToken signs (drop (length before) (before ++ l))
following signs before l = on (split is_white l)
  where
    on : Split is_white l → Following signs before l ⊎ NoToken signs (drop (length before) (before ++ l))
    on (white, rest, is, all, unwhite) = by (token_or_part signs rest unwhite)
      where
        by : Begun signs rest → Following signs before l ⊎ NoToken signs (drop (length before) (before ++ l))
        by (inl (t, more, ok, whole, e)) =
            let at : l ≡ white ++ (token_bytes t ++ more) = is ∙ ap (λ (z : List ℕ). white ++ z) e in
            inl (record {
              token = t;
              place = length before + length white;
              used = white ++ token_bytes t;
              rest = more;
              split_is = at ∙ sym (append_assoc white (token_bytes t) more);
              some = omega (arith, some_bytes signs t ok, length-append white (token_bytes t));
              next = first_is signs before l white more t all ok whole at;
            })
        by (inr part) = inr (record { white = white; left = rest; all_white = all; bytes_are = drop_at before l (length before) refl ∙ is; part = part })

-- the whole tokens from a place on, behind which none is left
abbrev pub WholeFrom : List ℕ → List ℕ → ℕ → Type 0
WholeFrom signs text at = (tokens : List Placed) × (to : ℕ) × Reads signs text at tokens to × NoToken signs (drop to text)

whole_once : (signs before l : List ℕ) → ((f : Following signs before l) → WholeFrom signs (before ++ l) (length (before ++ f.used))) → WholeFrom signs (before ++ l) (length before)
whole_once signs before l again = on (following signs before l)
  where
    on : Following signs before l ⊎ NoToken signs (drop (length before) (before ++ l)) → WholeFrom signs (before ++ l) (length before)
    on (inr none) = ([], length before, refl, none)
    on (inl f) = let (tokens, to, r, none) = again f in (record { token = f.token; place = f.place } ∷ tokens, to, (length (before ++ f.used), f.next, r), none)

whole_from : (n : ℕ) (signs before l : List ℕ) → length l ≤ n → WholeFrom signs (before ++ l) (length before)
whole_from zero signs before l le = whole_once signs before l (λ f. absurd (omega (arith, le, f.some, ap length f.split_is ∙ length-append f.used f.rest)))
whole_from (suc n) signs before l le = whole_once signs before l (λ f.
    let same : (before ++ f.used) ++ f.rest ≡ before ++ l = append_assoc before f.used f.rest ∙ ap (λ (z : List ℕ). before ++ z) (sym f.split_is) in
    subst (λ (z : List ℕ). WholeFrom signs z (length (before ++ f.used))) same
    (whole_from n signs (before ++ f.used) f.rest (omega (arith, le, f.some, ap length f.split_is ∙ length-append f.used f.rest))))

-- each text has whole tokens
pub whole : (signs text : List ℕ) → WholeFrom signs text 0
whole signs text = whole_from (length text) signs [] text (omega arith)

module _ {S V : Type 0} (signs : List ℕ) (Language : List Token → V → Type 0) (step : S → Token → Option S) (start : S) (ended : V → S) (IsOpen : S → Type 0) (m : IsMachine signs Language step start ended IsOpen) where
  abbrev pub Verdict : List ℕ → Type 0
  Verdict text = ((to : ℕ) × (v : V) × SpellsTo signs Language text to v) ⊎ ((place : ℕ) × BadToken signs Language text place) ⊎ Breaks signs Language text

  -- what is said of a text with fewer bytes left
  abbrev Again : List ℕ → Type 0
  Again l = (before less : List ℕ) (s : S) → length less < length l → StandsAt signs step start (before ++ less) (length before) s → Verdict (before ++ less)

  once : (before l : List ℕ) (s : S) → StandsAt signs step start (before ++ l) (length before) s → Again l → Verdict (before ++ l)
  once before l s st again = by_end (m.ends s)
    where
      by_step : (f : Following signs before l) → IsOpen s → (o : Option S) → step s f.token ≡ o → Verdict (before ++ l)
      by_step f is_open None e = inr (inl (f.place, bad_of signs Language step start ended IsOpen m (before ++ l) f.place (length before, length (before ++ f.used), f.token, s, st, is_open, f.next, e)))
      by_step f is_open (Some next) e =
          let whole : (before ++ f.used) ++ f.rest ≡ before ++ l = append_assoc before f.used f.rest ∙ ap (λ (z : List ℕ). before ++ z) (sym f.split_is) in
          let shorter : length f.rest < length l = omega (arith, f.some, ap length f.split_is ∙ length-append f.used f.rest) in
          subst Verdict whole
          (again (before ++ f.used) f.rest next shorter
          (subst (λ (z : List ℕ). StandsAt signs step start z (length (before ++ f.used)) next) (sym whole) (moves signs step start (before ++ l) (length before) f.place (length (before ++ f.used)) f.token s next st f.next e)))

      by_next : IsOpen s → Following signs before l ⊎ NoToken signs (drop (length before) (before ++ l)) → Verdict (before ++ l)
      by_next is_open (inl f) = by_step f is_open (step s f.token) refl
      by_next is_open (inr none) = inr (inr (breaks_of signs Language step start ended IsOpen m (before ++ l) (length before, s, st, is_open, none)))

      by_end : IsOpen s ⊎ ((v : V) × (s ≡ ended v)) → Verdict (before ++ l)
      by_end (inl is_open) = by_next is_open (following signs before l)
      by_end (inr (v, e)) = inl (length before, v, spells_of signs Language step start ended IsOpen m (before ++ l) (length before) v (subst (λ (z : S). StandsAt signs step start (before ++ l) (length before) z) e st))

  go : (n : ℕ) (before l : List ℕ) (s : S) → length l ≤ n → StandsAt signs step start (before ++ l) (length before) s → Verdict (before ++ l)
  go zero before l s le st = once before l s st (λ before' less next lt st'. absurd (omega (arith, le, lt)))
  go (suc n) before l s le st = once before l s st (λ before' less next lt st'. go n before' less next (omega (arith, le, lt)) st')

  -- each text spells something, or has a bad token, or breaks off
  pub every : (text : List ℕ) → Verdict text
  every text = go (length text) [] text start (omega arith) (starts signs step start text)
