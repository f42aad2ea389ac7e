-- What follows an Error object, byte by byte.
use Rattle.std.proofs.Common.{◌≡◌, ℕ, ◌+◌, ◌<◌, ◌≤◌, Bool, true, false, not, ◌&&◌, List, [], ◌∷◌, ◌++◌, length, take, drop, get_or, refl, sym, ap, subst, ◌∙◌, append_assoc, length-append, length-drop, length-take-le, take_all, IsTrue, inl, inr, ◌⊎◌, arith}
use Rattle.std.proofs.lemmas.Bool.{false≢true}
use Rattle.std.proofs.lemmas.List.{drop-append-le, take-append-le}
use Rattle.std.proofs.lemmas.List.Folds.{list_all-append}
use Rattle.std.specs.List.{list_all}
use Rattle.dds_text.proofs.Stops.{text_more, text_whole}
use Rattle.text_tokens.proofs.Every.{some_bytes}
use Rattle.dap_model.specs.Tokens as dds
use Rattle.text_tokens.specs.Languages.{BadToken, Breaks}
use Rattle.text_tokens.specs.Tokens.{Placed, Reads, Token, TokenAt, is_white, token_bytes}
use Rattle.dap_errors.proofs.Reading.{front_within}
use Rattle.dap_errors.proofs.Single.{object_no_bad}
use Rattle.dap_errors.specs.Object.{IsObject, signs}
use Rattle.dap_errors.specs.Reading.{ObjectEndsAt, ErrorOf, IsBad, IsEnd, IsStray, front, limit}
use Rattle.dap_errors.specs.declared.object.ErrorObject.{ErrorObject}
use Rattle.dap_client.specs.inner.Objects.{IsBehind, IsTrail}
use Rattle.das_text.proofs.SameTokens.{white_same}

abbrev AllWhite : List ℕ → Type 0
AllWhite bytes = IsTrue (list_all is_white bytes)

white_more : (xs ys : List ℕ) → AllWhite xs → AllWhite ys → AllWhite (xs ++ ys)
white_more xs ys a b = list_all-append is_white xs ys ∙ ap (λ c. c && list_all is_white ys) a ∙ b

-- with more behind it
pub behind_more : (bytes : List ℕ) (at : ℕ) (more : List ℕ) → at ≤ length bytes → drop at (bytes ++ more) ≡ drop at bytes ++ more
behind_more bytes at more le = drop-append-le at bytes more le

pub front_more : (bytes more : List ℕ) → limit ≤ length bytes → front (bytes ++ more) ≡ front bytes
front_more bytes more long = take-append-le limit bytes more long

ends_more : (bytes more : List ℕ) (at : ℕ) (e : ErrorObject) → limit ≤ length bytes → ObjectEndsAt bytes at e → ObjectEndsAt (bytes ++ more) at e
ends_more bytes more at e long is = subst (λ z. Rattle.text_tokens.specs.Languages.SpellsTo Rattle.dap_errors.specs.Object.signs Rattle.dap_errors.specs.Object.IsObject z at e) (sym (front_more bytes more long)) is

-- a whole token ends within the text
pub token_within : (signs text : List ℕ) (place behind : ℕ) (t : Token) → TokenAt signs text place behind t → behind ≤ length text
token_within signs text place behind t is =
    let some = some_bytes signs t is.is_one in
    let lengths : length (drop place text) ≡ length (token_bytes t) + length (drop behind text) = ap length is.bytes_are ∙ length-append (token_bytes t) (drop behind text) in
    omega (arith, some, lengths, is.behind_is, length-drop place text, length-drop behind text)

pub reads_within : (marks text : List ℕ) (at : ℕ) (ts : List Placed) (to : ℕ) → Reads marks text at ts to → at ≤ length text → to ≤ length text
reads_within marks text at [] to is le = subst (λ n. n ≤ length text) (sym is) le
reads_within marks text at (t ∷ ts) to (behind, next, rest) le = reads_within marks text behind ts to rest (token_within marks text t.place behind t.token next.token_at)

pub ends_within : (bytes : List ℕ) (at : ℕ) (e : ErrorObject) → ObjectEndsAt bytes at e → at ≤ length bytes
ends_within bytes at e is = front_within bytes at (reads_within signs (front bytes) 0 is.tokens at is.read (omega arith))

trail_more : (s : Bool) (xs : List ℕ) (b : ℕ) → IsTrail s xs → is_white b ≡ true → IsTrail s (xs ++ b ∷ [])
trail_more false xs b all w = white_more xs (b ∷ []) all (rw w refl)
trail_more true xs b (before, after, wb, wa, is) w =
    (before, after ++ b ∷ [], wb, white_more after (b ∷ []) wa (rw w refl), ap (λ l. l ++ b ∷ []) is ∙ append_assoc before (59 ∷ after) (b ∷ []))

pub trail_white : (bytes : List ℕ) (e : ErrorObject) (s : Bool) (b : ℕ) → IsBehind bytes e s → dds.is_white b ≡ true → IsBehind (bytes ++ b ∷ []) e s
trail_white bytes e s b o w = record {
  behind = o.behind;
  within = omega (arith, o.within, length-append bytes (b ∷ []));
  long = omega (arith, o.long, length-append bytes (b ∷ []));
  ends = ends_more bytes (b ∷ []) o.behind e o.long o.ends;
  trail = subst (IsTrail s) (sym (behind_more bytes o.behind (b ∷ []) o.within)) (trail_more s (drop o.behind bytes) b o.trail (sym (white_same b) ∙ w));
}

pub trail_semicolon : (bytes : List ℕ) (e : ErrorObject) (b : ℕ) → IsBehind bytes e false → b ≡ 59 → IsBehind (bytes ++ b ∷ []) e true
trail_semicolon bytes e b o is = record {
  behind = o.behind;
  within = omega (arith, o.within, length-append bytes (b ∷ []));
  long = omega (arith, o.long, length-append bytes (b ∷ []));
  ends = ends_more bytes (b ∷ []) o.behind e o.long o.ends;
  trail = (drop o.behind bytes, [], o.trail, refl, behind_more bytes o.behind (b ∷ []) o.within ∙ ap (λ c. drop o.behind bytes ++ c ∷ []) is);
}

stray_how : (s : Bool) (xs : List ℕ) (b : ℕ) → IsTrail s xs → (b ≡ 59 → s ≡ true) → (AllWhite xs × (b ≡ 59 → ⊥)) ⊎ ((before after : List ℕ) × AllWhite before × AllWhite after × (xs ≡ before ++ 59 ∷ after))
stray_how false xs b all two = inl (all, λ is. false≢true (two is))
stray_how true xs b parts two = inr parts

pub trail_bad : (bytes : List ℕ) (e : ErrorObject) (s : Bool) (b : ℕ) → IsBehind bytes e s → dds.is_white b ≡ false → (b ≡ 59 → s ≡ true) → (more : List ℕ) → IsBad (bytes ++ b ∷ more) (length bytes)
trail_bad bytes e s b o other two more = inr (inl (record {
  behind = o.behind;
  error = e;
  count = length (drop o.behind bytes);
  ends = ends_more bytes (b ∷ more) o.behind e o.long o.ends;
  stray = (drop o.behind bytes, more, b, behind_more bytes o.behind (b ∷ more) o.within, refl, ap not (sym (white_same b) ∙ other), stray_how s (drop o.behind bytes) b o.trail two);
  place_is = omega (arith, o.within, length-drop o.behind bytes);
}))

behind_of : (bytes : List ℕ) (e : ErrorObject) (s : Bool) → limit ≤ length bytes → (w : ErrorOf bytes e) → IsTrail s (drop w.behind bytes) → IsBehind bytes e s
behind_of bytes e s long w trail = record { behind = w.behind; within = ends_within bytes w.behind e w.ends; long = long; ends = w.ends; trail = trail }

-- where a semicolon may follow, none came
pub open_trail : (bytes : List ℕ) (e found : ErrorObject) → limit ≤ length bytes → ErrorOf bytes e → ErrorOf (bytes ++ 59 ∷ []) found → IsBehind bytes e false
open_trail bytes e found long w on = by w.end
  where
    by : IsEnd (drop w.behind bytes) → IsBehind bytes e false
    by (inl all) = behind_of bytes e false long w all
    by (inr parts) = absurd (object_no_bad (bytes ++ 59 ∷ []) found (length bytes) on (trail_bad bytes e true 59 (behind_of bytes e true long w parts) refl (λ is. refl) []))

-- where none may follow, one came
pub closed_trail : (bytes : List ℕ) (e : ErrorObject) → limit ≤ length bytes → ErrorOf bytes e → (ErrorOf (bytes ++ 59 ∷ []) e → ⊥) → IsBehind bytes e true
closed_trail bytes e long w off = by w.end
  where
    by : IsEnd (drop w.behind bytes) → IsBehind bytes e true
    by (inr parts) = behind_of bytes e true long w parts
    by (inl all) = absurd (off (record {
      behind = w.behind;
      ends = ends_more bytes (59 ∷ []) w.behind e long w.ends;
      end = inr (drop w.behind bytes, [], all, refl, behind_more bytes w.behind (59 ∷ []) (ends_within bytes w.behind e w.ends));
    }))

stray_more : (xs more : List ℕ) (n : ℕ) → IsStray xs n → IsStray (xs ++ more) n
stray_more xs more n (trail, rest, b, is, count, other, how) = (trail, rest ++ more, b, ap (λ l. l ++ more) is ∙ append_assoc trail (b ∷ rest) more, count, other, how)

-- what is bad at the limit stays bad
pub bad_stays : (bytes : List ℕ) (place : ℕ) → limit ≤ length bytes → IsBad bytes place → (more : List ℕ) → IsBad (bytes ++ more) place
bad_stays bytes place long (inl b) more = inl (subst (λ z. BadToken signs IsObject z place) (sym (front_more bytes more long)) b)
bad_stays bytes place long (inr (inl b)) more = inr (inl (record {
  behind = b.behind;
  error = b.error;
  count = b.count;
  ends = ends_more bytes more b.behind b.error long b.ends;
  stray = subst (λ z. IsStray z b.count) (sym (behind_more bytes b.behind more (ends_within bytes b.behind b.error b.ends))) (stray_more (drop b.behind bytes) more b.count b.stray);
  place_is = b.place_is;
}))
bad_stays bytes place long (inr (inr (b, at, is))) more = inr (inr (subst (λ z. Breaks signs IsObject z) (sym (front_more bytes more long)) b, omega (arith, at, length-append bytes more), is))

piece_place : (bytes piece : List ℕ) (i : ℕ) → i < length piece → length (bytes ++ take i piece) ≡ length bytes + i
piece_place bytes piece i lt = length-append bytes (take i piece) ∙ ap (λ k. length bytes + k) (length-take-le i piece (omega (arith, lt)))

-- a byte within a piece
pub stray_in : (bytes piece : List ℕ) (i : ℕ) → i < length piece → ((more : List ℕ) → IsBad ((bytes ++ take i piece) ++ get_or piece i 0 ∷ more) (length (bytes ++ take i piece))) → (more : List ℕ) → IsBad ((bytes ++ piece) ++ more) (length bytes + i)
stray_in bytes piece i lt is more =
    let whole : (bytes ++ take i piece) ++ get_or piece i 0 ∷ (drop (i + 1) piece ++ more) ≡ (bytes ++ piece) ++ more =
    sym (append_assoc (bytes ++ take i piece) (get_or piece i 0 ∷ drop (i + 1) piece) more) ∙ ap (λ l. l ++ more) (text_whole bytes piece i lt) in
    subst (λ n. IsBad ((bytes ++ piece) ++ more) n) (piece_place bytes piece i lt) (subst (λ l. IsBad l (length (bytes ++ take i piece))) whole (is (drop (i + 1) piece ++ more)))

pub piece_step : (bytes piece : List ℕ) (i : ℕ) (e : ErrorObject) (s : Bool) → i < length piece → IsBehind ((bytes ++ take i piece) ++ get_or piece i 0 ∷ []) e s → IsBehind (bytes ++ take (i + 1) piece) e s
piece_step bytes piece i e s lt is = subst (λ l. IsBehind l e s) (text_more bytes piece i lt) is

pub piece_end : (bytes piece : List ℕ) (i : ℕ) (e : ErrorObject) (s : Bool) → length piece ≤ i → IsBehind (bytes ++ take i piece) e s → IsBehind (bytes ++ piece) e s
piece_end bytes piece i e s le is = subst (λ l. IsBehind (bytes ++ l) e s) (take_all i piece le) is
