-- How a reader of tokens finds the one at a place.
use Rattle.std.proofs.Common.{◌≡◌, List, [], ◌∷◌, ◌++◌, ℕ, ◌+◌, ◌<◌, ◌≤◌, length, drop, get_or, refl, sym, ap, ◌∙◌, append_assoc, Bool, true, false, not, IsTrue, arith, inl, inr, length-append}
use Rattle.std.proofs.lemmas.Bool.{ne_eqb, cases_lt}
use Rattle.std.proofs.lemmas.List.{drop_all}
use Rattle.std.proofs.Common.{append-nil}
use Rattle.plain_lemmas.proofs.Lists.{drop_next}
use Rattle.viable.specs.Quoted.{Piece, spelling, ArePieces, IsOpen, Stops}
use Rattle.viable.specs.Runs.{ends_with, IsRunTo}
use Rattle.text_tokens.specs.Tokens.{Token, sign, word, quoted, is_white, is_sign, is_word_byte, TokenAt, Next, NoToken, IsPart}
use Rattle.viable.proofs.Runs.{run_is}

-- the quoted text whose last quote stands at a place
pub quoted_token : (signs text : List ℕ) (place end : ℕ) → place < length text → get_or text place 0 ≡ 34 → (p : (pieces : List Piece) × ArePieces text (place + 1) end pieces) → end < length text → get_or text end 0 ≡ 34
    → TokenAt signs text place (end + 1) (quoted p.0)
quoted_token signs text place end h quote (pieces, a) h' quote' = record {
  bytes_are =
      drop_next text place h ∙ ap (λ (x : ℕ). x ∷ drop (place + 1) text) quote
      ∙ ap (λ (x : List ℕ). 34 ∷ x) (a.whole ∙ ap (λ (x : List ℕ). spelling pieces ++ x) (drop_next text end h' ∙ ap (λ (x : ℕ). x ∷ drop (end + 1) text) quote') ∙ sym (append_assoc (spelling pieces) (34 ∷ []) (drop (end + 1) text)));
  behind_is = let t : end ≡ (place + 1) + length (spelling pieces) = a.to_is in omega (arith, t, length-append (spelling pieces) (34 ∷ []));
  is_one = a.each;
  whole = refl;
}

-- no quote ends the quoted text
pub quoted_part : (signs text : List ℕ) (place end : ℕ) → place < length text → get_or text place 0 ≡ 34 → (pieces : List Piece) × ArePieces text (place + 1) end pieces → IsOpen (drop end text) → IsPart signs (drop place text)
quoted_part signs text place end h quote (pieces, a) left =
    inr (pieces, drop end text, a.each, left, drop_next text place h ∙ ap (λ (x : ℕ). x ∷ drop (place + 1) text) quote ∙ ap (λ (x : List ℕ). 34 ∷ x) a.whole)

pub stops_open : (text : List ℕ) (end : ℕ) → Stops text end → (end < length text → get_or text end 0 ≡ 34 → ⊥) → IsOpen (drop end text)
stops_open text end (inl quote) none = absurd (none quote.0 quote.1)
stops_open text end (inr left) none = left

-- a run of a word that a byte ends
pub word_token : (signs text : List ℕ) (place to : ℕ) (r : (run : List ℕ) × IsRunTo (is_word_byte signs) text place to run) → place < to → to < length text → TokenAt signs text place to (word r.0)
word_token signs text place to (run, r) lt h = record {
  bytes_are = r.is_run_of.whole;
  behind_is = r.is_run_of.to_is;
  is_one = run_is (is_word_byte signs) run place to r.is_run_of.of_class r.is_run_of.to_is lt;
  whole =
      let d : drop to text ≡ get_or text to 0 ∷ drop (to + 1) text = drop_next text to h in
      let n : IsTrue (ends_with (is_word_byte signs) (get_or text to 0 ∷ drop (to + 1) text)) = rw d at r.longest in
      rw d n;
}

-- a run of a word up to the end of the text
pub word_part : (signs text : List ℕ) (place to : ℕ) → (run : List ℕ) × IsRunTo (is_word_byte signs) text place to run → length text ≤ to → IsPart signs (drop place text)
word_part signs text place to (run, r) h =
    let e : drop place text ≡ run = r.is_run_of.whole ∙ ap (λ (x : List ℕ). run ++ x) (drop_all to text h) ∙ append-nil run in
    inl (rw e r.is_run_of.of_class)

-- a run begins with the byte that stands there
pub run_moves : (test : ℕ → Bool) (text : List ℕ) (from to : ℕ) → (run : List ℕ) × IsRunTo test text from to run → from ≤ to → from < length text → IsTrue (test (get_or text from 0)) → from < to
run_moves test text from to (run, r) le h t = elim (cases_lt from to) [
  | inl lt ↦ lt
  | inr ge ↦ (let same : to ≡ from = omega arith in
      let d : drop to text ≡ get_or text from 0 ∷ drop (from + 1) text = ap (λ (k : ℕ). drop k text) same ∙ drop_next text from h in
      let n : not (test (get_or text from 0)) ≡ true = rw d at r.longest in
      absurd (let q : not true ≡ true = ap not (sym t) ∙ n in cc))
]

pub sign_token : (signs text : List ℕ) (place : ℕ) → place < length text → IsTrue (not (is_white (get_or text place 0))) → (get_or text place 0 ≡ 34 → ⊥) → IsTrue (is_sign signs (get_or text place 0))
    → TokenAt signs text place (place + 1) (sign (get_or text place 0))
sign_token signs text place h unwhite unquote is = record {
  bytes_are = drop_next text place h;
  behind_is = refl;
  is_one = rw (unwhite, ne_eqb _ 34 unquote, is) refl;
  whole = refl;
}

pub in_word : (signs : List ℕ) (b : ℕ) → IsTrue (not (is_white b)) → (b ≡ 34 → ⊥) → is_sign signs b ≡ false → IsTrue (is_word_byte signs b)
in_word signs b unwhite unquote not_sign = rw (unwhite, ne_eqb b 34 unquote, not_sign) refl

-- nothing stands at the end
pub nothing_part : (signs text : List ℕ) (place : ℕ) → length text ≤ place → IsPart signs (drop place text)
nothing_part signs text place h = let d : drop place text ≡ [] = drop_all place text h in inl (rw d refl)

-- no white space stands where the longest run of it ends
pub unwhite_at : (text : List ℕ) (at place : ℕ) → (run : List ℕ) × IsRunTo is_white text at place run → place < length text → IsTrue (not (is_white (get_or text place 0)))
unwhite_at text at place (run, r) h =
    let d : drop place text ≡ get_or text place 0 ∷ drop (place + 1) text = drop_next text place h in
    (rw d at r.longest)

pub next_is : (signs text : List ℕ) (at place behind : ℕ) (token : Token) → (run : List ℕ) × IsRunTo is_white text at place run → TokenAt signs text place behind token → Next signs text at place behind token
next_is signs text at place behind token (run, r) t = record { white = run; all_white = r.is_run_of.of_class; white_is = r.is_run_of.whole; place_is = r.is_run_of.to_is; token_at = t }

pub none_is : (signs text : List ℕ) (at place : ℕ) → (run : List ℕ) × IsRunTo is_white text at place run → IsPart signs (drop place text) → NoToken signs (drop at text)
none_is signs text at place (run, r) part = record { white = run; left = drop place text; all_white = r.is_run_of.of_class; bytes_are = r.is_run_of.whole; part = part }
