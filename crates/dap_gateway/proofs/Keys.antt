-- No request to the other server is a front of another.
use Rattle.std.proofs.Common.{◌≡◌, ℕ, ◌/◌, ◌%◌, Bool, true, false, not, cond, List, [], ◌∷◌, ◌++◌, take, drop, refl, sym, ap, ◌∙◌, arith, tests, append_assoc, take-append-drop}
use Rattle.std.specs.Prelude.{IsTrue, codes, ◌==◌}
use Rattle.std.specs.List.{list_all, onto_first, slice_split}
use Rattle.std.specs.Fmt.{digit_glyph}
use Rattle.std.proofs.lemmas.Bool.{and_from, and_parts, eqb-true, false≢true}
use Rattle.plain_lemmas.proofs.Lists.{cons_first, cons_rest}
use Rattle.target_names.specs.Names.{is_name, is_name_byte, is_slash}
use Rattle.dap_http.specs.Targets.{Asked, suffix_of}
use Rattle.dap_http.specs.Texts.{close_line, escaped, escaped_byte, host_lines, is_plain, query_text, request_text}
use Rattle.dap_http.specs.declared.kind.Kind.{Kind}
use Rattle.dap_http.specs.declared.kind.Kind.TheVariants.{Dds, Das, Dods, Ver}
use Rattle.target_names.proofs.NameText.{onto-plain, segments-plain}

-- ---- bytes without a line feed

abbrev no_feed : ℕ → Bool
no_feed b = not (b == 10)

abbrev NoFeeds : List ℕ → Type 0
NoFeeds xs = list_all no_feed xs ≡ true

both : (xs ys : List ℕ) → NoFeeds xs → NoFeeds ys → NoFeeds (xs ++ ys)
both [] ys a b = b
both (x ∷ xs) ys a b = let (one, more) = and_parts (no_feed x) (list_all no_feed xs) a in and_from (no_feed x) (list_all no_feed (xs ++ ys)) one (both xs ys more b)

other : (x : ℕ) → no_feed x ≡ true → x ≡ 10 → ⊥
other x is ten = false≢true (sym (ap no_feed ten) ∙ is)

-- texts with the same first line have the same rest
first-feed : (xs ys us vs : List ℕ) → NoFeeds xs → NoFeeds us → xs ++ 10 ∷ ys ≡ us ++ 10 ∷ vs → (xs ≡ us) × (ys ≡ vs)
first-feed [] ys [] vs a b e = (refl, cons_rest 10 10 ys vs e)
first-feed [] ys (u ∷ us) vs a b e = absurd (other u (and_parts (no_feed u) (list_all no_feed us) b).0 (sym (cons_first 10 u ys (us ++ 10 ∷ vs) e)))
first-feed (x ∷ xs) ys [] vs a b e = absurd (other x (and_parts (no_feed x) (list_all no_feed xs) a).0 (cons_first x 10 (xs ++ 10 ∷ ys) vs e))
first-feed (x ∷ xs) ys (u ∷ us) vs a b e =
    let (same, rest) = first-feed xs ys us vs (and_parts (no_feed x) (list_all no_feed xs) a).1 (and_parts (no_feed u) (list_all no_feed us) b).1 (cons_rest x u (xs ++ 10 ∷ ys) (us ++ 10 ∷ vs) e) in
    let one : x ≡ u = cons_first x u (xs ++ 10 ∷ ys) (us ++ 10 ∷ vs) e in
    (ap (λ y. y ∷ xs) one ∙ ap (λ ws. u ∷ ws) same, rest)

-- ---- the first line of a request has none but its own

-- each byte of a name is a slash or one of a segment
pub record IsOfNames (p : ℕ → Bool) : Type 0 where
  pub byte : (b : ℕ) → is_name_byte b ≡ true → p b ≡ true
  pub slash : (b : ℕ) → is_slash b ≡ true → p b ≡ true

split-plain : (p : ℕ → Bool) → IsOfNames p → (x : ℕ) (xs : List ℕ) → list_all (list_all is_name_byte) (slice_split is_slash (x ∷ xs)) ≡ true → (p x ≡ true) × (list_all (list_all is_name_byte) (slice_split is_slash xs) ≡ true)
split-plain p of x xs e = go (is_slash x) refl e where
  go : (t : Bool) → is_slash x ≡ t → list_all (list_all is_name_byte) (cond t ([] ∷ slice_split is_slash xs) (onto_first x (slice_split is_slash xs))) ≡ true
      → (p x ≡ true) × (list_all (list_all is_name_byte) (slice_split is_slash xs) ≡ true)
  go true is all = (of.slash x is, all)
  go false is all = let (own, others) = onto-plain x (slice_split is_slash xs) all in (of.byte x own, others)

parts-plain : (p : ℕ → Bool) → IsOfNames p → (xs : List ℕ) → list_all (list_all is_name_byte) (slice_split is_slash xs) ≡ true → list_all p xs ≡ true
parts-plain p of [] e = refl
parts-plain p of (x ∷ xs) e = let (one, more) = split-plain p of x xs e in and_from (p x) (list_all p xs) one (parts-plain p of xs more)

pub name-all : (p : ℕ → Bool) → IsOfNames p → (name : List ℕ) → IsTrue (is_name name) → list_all p name ≡ true
unfolding is_name
name-all p of name e = let (long, all) = and_parts _ _ e in parts-plain p of name (segments-plain (slice_split is_slash name) all)

name-byte : (b : ℕ) → is_name_byte b ≡ true → no_feed b ≡ true
name-byte b e = grind (arith, tests, e)

slash : (b : ℕ) → is_slash b ≡ true → no_feed b ≡ true
slash b e = grind (arith, tests, e)

name-plain : (name : List ℕ) → IsTrue (is_name name) → NoFeeds name
name-plain name e = name-all no_feed (record { byte = name-byte; slash = slash }) name e

suffix-plain : (kind : Kind) → NoFeeds (suffix_of kind)
suffix-plain Dds = refl
suffix-plain Das = refl
suffix-plain Dods = refl
suffix-plain Ver = refl

plain-byte : (b : ℕ) → is_plain b ≡ true → no_feed b ≡ true
unfolding is_plain
plain-byte b e = go (b == 10) refl where
  go : (t : Bool) → (b == 10) ≡ t → not t ≡ true
  go true is = absurd (false≢true (ap is_plain (sym (eqb-true b 10 is)) ∙ e))
  go false is = refl

glyph : (d : ℕ) → no_feed (digit_glyph true d) ≡ true
glyph d = grind (arith, tests)

escaped-byte : (b : ℕ) → NoFeeds (escaped_byte b)
escaped-byte b = go (is_plain b) refl where
  go : (t : Bool) → is_plain b ≡ t → NoFeeds (cond t (b ∷ []) (37 ∷ digit_glyph true (b / 16 % 16) ∷ digit_glyph true (b % 16) ∷ []))
  go true is = and_from (no_feed b) true (plain-byte b is) refl
  go false is = and_from (no_feed (digit_glyph true (b / 16 % 16))) _ (glyph (b / 16 % 16)) (and_from (no_feed (digit_glyph true (b % 16))) true (glyph (b % 16)) refl)

escaped-plain : (xs : List ℕ) → NoFeeds (escaped xs)
escaped-plain [] = refl
escaped-plain (x ∷ xs) = both (escaped_byte x) (escaped xs) (escaped-byte x) (escaped-plain xs)

query-plain : (ce : List ℕ) → NoFeeds (query_text ce)
query-plain [] = refl
query-plain (b ∷ ce) = escaped-plain (b ∷ ce)

-- ---- a request is its first line, a line feed, and the rest

unfoldable pub first-line : Asked → List ℕ
first-line a = codes "GET " ++ (47 ∷ a.name) ++ suffix_of a.kind ++ query_text a.query ++ codes " HTTP/1.1\r"

line-plain : (a : Asked) → IsTrue (is_name a.name) → NoFeeds (first-line a)
unfolding first-line
line-plain a named =
    let g = codes "GET " in
    let p = 47 ∷ a.name in
    let s = suffix_of a.kind in
    let q = query_text a.query in
    both (g ++ p ++ s ++ q) (codes " HTTP/1.1\r") (both (g ++ p ++ s) q (both (g ++ p) s (both g p refl (name-plain a.name named)) (suffix-plain a.kind)) (query-plain a.query)) refl

lay : (g p s q e h c n : List ℕ) → (g ++ p ++ s ++ q ++ (e ++ 10 ∷ [])) ++ h ++ c ++ n ≡ (g ++ p ++ s ++ q ++ e) ++ 10 ∷ (h ++ c ++ n)
lay g p s q e h c n = simp append_assoc

behind : List ℕ → ℕ → List ℕ
behind host port = host_lines host port ++ close_line true ++ codes "\r\n"

laid : (host : List ℕ) (port : ℕ) (a : Asked) → request_text host port (47 ∷ a.name) a.kind a.query true ≡ first-line a ++ 10 ∷ behind host port
unfolding first-line behind request_text
laid host port a = lay (codes "GET ") (47 ∷ a.name) (suffix_of a.kind) (query_text a.query) (codes " HTTP/1.1\r") (host_lines host port) (close_line true) (codes "\r\n")

nothing-more : (xs more : List ℕ) → xs ≡ xs ++ more → more ≡ []
nothing-more [] more e = sym e
nothing-more (x ∷ xs) more e = nothing-more xs more (cons_rest x x xs (xs ++ more) e)

-- equal requests have equal first lines
pub same-line : (host : List ℕ) (port : ℕ) (a b : Asked) → IsTrue (is_name a.name) → IsTrue (is_name b.name)
    → request_text host port (47 ∷ a.name) a.kind a.query true ≡ request_text host port (47 ∷ b.name) b.kind b.query true → first-line a ≡ first-line b
same-line host port a b na nb is =
    (first-feed (first-line a) (behind host port) (first-line b) (behind host port) (line-plain a na) (line-plain b nb) (sym (laid host port a) ∙ is ∙ laid host port b)).0

pub no-front : (host : List ℕ) (port k : ℕ) (a b : Asked) → IsTrue (is_name a.name) → IsTrue (is_name b.name)
    → take k (request_text host port (47 ∷ b.name) b.kind b.query true) ≡ request_text host port (47 ∷ a.name) a.kind a.query true
    → request_text host port (47 ∷ b.name) b.kind b.query true ≡ request_text host port (47 ∷ a.name) a.kind a.query true
no-front host port k a b na nb is =
    let whole = request_text host port (47 ∷ b.name) b.kind b.query true in
    let own = request_text host port (47 ∷ a.name) a.kind a.query true in
    let parts : whole ≡ own ++ drop k whole = sym (take-append-drop k whole) ∙ ap (λ t. t ++ drop k whole) is in
    let lines : first-line b ++ 10 ∷ behind host port ≡ first-line a ++ 10 ∷ (behind host port ++ drop k whole) =
    sym (laid host port b) ∙ parts ∙ ap (λ t. t ++ drop k whole) (laid host port a) ∙ append_assoc (first-line a) (10 ∷ behind host port) (drop k whole) in
    let (same, rest) = first-feed (first-line b) (behind host port) (first-line a) (behind host port ++ drop k whole) (line-plain b nb) (line-plain a na) lines in
    laid host port b ∙ ap (λ l. l ++ 10 ∷ behind host port) same ∙ sym (laid host port a)
