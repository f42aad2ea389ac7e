-- A text that spells tokens one behind the other is read as them.
use Rattle.std.proofs.Common.{◌≡◌, List, [], ◌∷◌, ◌++◌, ℕ, ◌+◌, length, map, drop, refl, sym, ap, subst, ◌∙◌, append_assoc, IsTrue, arith, length-append}
use Rattle.std.specs.List.{list_all}
use Rattle.std.proofs.lemmas.List.{drop_at}
use Rattle.text_tokens.specs.Tokens.{Token, Placed, is_white, token_bytes, is_token, is_whole, Next, Reads}

-- the text is these whole tokens with white space before each, and then `rest`
abbrev pub Spelled : List ℕ → List ℕ → List Token → List ℕ → Type 0
Spelled signs text [] rest = text ≡ rest
Spelled signs text (t ∷ ts) rest =
    (white more : List ℕ) × IsTrue (list_all is_white white) × IsTrue (is_token signs t) × IsTrue (is_whole signs t more)
    × (text ≡ white ++ (token_bytes t ++ more)) × Spelled signs more ts rest

-- the tokens with their places, and the place behind them
abbrev pub ReadsAll : List ℕ → List ℕ → ℕ → List Token → List ℕ → Type 0
ReadsAll signs text at ts rest = (placed : List Placed) × (to : ℕ) × (map (λ p. p.token) placed ≡ ts) × Reads signs text at placed to × (drop to text ≡ rest)

pub first_is : (signs before text white more : List ℕ) (t : Token) → IsTrue (list_all is_white white) → IsTrue (is_token signs t) → IsTrue (is_whole signs t more) → text ≡ white ++ (token_bytes t ++ more)
    → Next signs (before ++ text) (length before) (length before + length white) (length (before ++ (white ++ token_bytes t))) t
first_is signs before text white more t w ok wh e = record {
  white = white;
  all_white = w;
  white_is = drop_at before text (length before) refl ∙ e ∙ ap (λ (z : List ℕ). white ++ z) (sym behind_white);
  place_is = refl;
  token_at = record {
    bytes_are = behind_white ∙ ap (λ (z : List ℕ). token_bytes t ++ z) (sym behind_token);
    behind_is = omega (arith, length-append before (white ++ token_bytes t), length-append white (token_bytes t));
    is_one = ok;
    whole = subst (λ (z : List ℕ). IsTrue (is_whole signs t z)) (sym behind_token) wh;
  };
}
  where
    behind_white : drop (length before + length white) (before ++ text) ≡ token_bytes t ++ more
    behind_white =
        ap (drop (length before + length white)) (ap (λ (z : List ℕ). before ++ z) e ∙ sym (append_assoc before white (token_bytes t ++ more)))
        ∙ drop_at (before ++ white) (token_bytes t ++ more) (length before + length white) (length-append before white)

    behind_token : drop (length (before ++ (white ++ token_bytes t))) (before ++ text) ≡ more
    behind_token =
        ap (drop (length (before ++ (white ++ token_bytes t)))) (ap (λ (z : List ℕ). before ++ z) (e ∙ sym (append_assoc white (token_bytes t) more)) ∙ sym (append_assoc before (white ++ token_bytes t) more))
        ∙ drop_at (before ++ (white ++ token_bytes t)) more (length (before ++ (white ++ token_bytes t))) refl

pub reads_of : (signs before text : List ℕ) (ts : List Token) (rest : List ℕ) → Spelled signs text ts rest → ReadsAll signs (before ++ text) (length before) ts rest
reads_of signs before text [] rest e = ([], length before, refl, refl, drop_at before text (length before) refl ∙ e)
reads_of signs before text (t ∷ ts) rest (white, more, w, ok, wh, e, s) =
    let whole : (before ++ (white ++ token_bytes t)) ++ more ≡ before ++ text =
    append_assoc before (white ++ token_bytes t) more ∙ ap (λ (z : List ℕ). before ++ z) (append_assoc white (token_bytes t) more ∙ sym e) in
    let (placed, to, is, r, d) = subst (λ (z : List ℕ). ReadsAll signs z (length (before ++ (white ++ token_bytes t))) ts rest) whole (reads_of signs (before ++ (white ++ token_bytes t)) more ts rest s) in (
      record { token = t; place = length before + length white } ∷ placed,
      to,
      ap (λ (z : List Token). t ∷ z) is,
      (length (before ++ (white ++ token_bytes t)), first_is signs before text white more t w ok wh e, r),
      d,
    )
