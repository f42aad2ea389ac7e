-- What is wrong with a body stands within its bytes.
use Rattle.std.proofs.Common.{◌≡◌, ℕ, zero, suc, ◌+◌, ◌-◌, ◌≤◌, Bool, true, false, ◌||◌, if◌then◌else◌, List, [], ◌∷◌, ◌++◌, length, take, drop, Some, sym, ap, subst, length-append, length-drop, length-take, inl, inr, arith}
use Rattle.std.proofs.lemmas.List.Elements.{All-append, All-cons, All-head, All-nil, All-tail}
use Rattle.std.proofs.lemmas.Option.{none-some, same_Some}
use Rattle.std.specs.List.{All, slice_get}
use Rattle.std.specs.Option.{option_map}
use Rattle.text_tokens.specs.Languages.{BadToken}
use Rattle.text_tokens.specs.Tokens as tokens
use Rattle.dap_errors.specs.Object as object
use Rattle.dap_errors.specs.Reading as errors
use Rattle.das_text.specs.Grammar as das_grammar
use Rattle.das_text.specs.Reading as das
use Rattle.dap_model.specs.Tokens.{Placed, Token, ended, is_sign, is_white, sign, sign_at, tokens_from, tokens_of, whole_tokens}
use Rattle.dds_text.specs.Reading.{IsBadText, limit}
use Rattle.xdr_decode.specs.Verdict.{HasWrongValues, IsBadLine, budget}
use Rattle.reply_faults.specs.declared.bad.Bad.{Bad}
use Rattle.dap_client.specs.Verdict.{Form, HasStray, IsVerdict, Judges, JudgesDas, JudgesDasText, JudgesDds, JudgesDods, JudgesError, bad, das_form, dds_form, dods_form}

-- ---- the tokens of a DDS
abbrev To : ℕ → Placed → Type 0
To high p = p.place ≤ high

word_to : (high : ℕ) (front : List ℕ) (at : ℕ) → at ≤ high → All (To high) (ended front at)
word_to high [] at le = All-nil (To high)
word_to high (b ∷ bs) at le = All-cons (To high) _ [] (omega (arith, le)) (All-nil (To high))

sign_to : (high b at : ℕ) → at ≤ high → All (To high) (sign_at b at)
sign_to high b at le = by (is_sign b)
  where
    by : (c : Bool) → All (To high) (if c then record { token = sign b; place = at } ∷ [] else [])
    by true = All-cons (To high) _ [] le (All-nil (To high))
    by false = All-nil (To high)

tokens_to : (high : ℕ) (front : List ℕ) (at : ℕ) (bytes : List ℕ) → at + length bytes ≤ high → All (To high) (tokens_from front at bytes)
tokens_to high front at [] le = All-nil (To high)
tokens_to high front at (b ∷ bytes) le =
    by (is_white b || is_sign b) (tokens_to high [] (at + 1) bytes (omega (arith, le))) (tokens_to high (front ++ b ∷ []) (at + 1) bytes (omega (arith, le)))
  where
    by : (c : Bool) → All (To high) (tokens_from [] (at + 1) bytes) → All (To high) (tokens_from (front ++ b ∷ []) (at + 1) bytes)
        → All (To high) (if c then ended front at ++ sign_at b at ++ tokens_from [] (at + 1) bytes else tokens_from (front ++ b ∷ []) (at + 1) bytes)
    by true behind inside =
        All-append (To high) (ended front at ++ sign_at b at) (tokens_from [] (at + 1) bytes)
        (All-append (To high) (ended front at) (sign_at b at) (word_to high front at (omega (arith, le))) (sign_to high b at (omega (arith, le)))) behind
    by false behind inside = inside

place_to : (high : ℕ) (ps : List Placed) (k place : ℕ) → All (To high) ps → option_map (λ p. p.place) (slice_get ps k) ≡ Some place → place ≤ high
place_to high [] k place all is = absurd (none-some place is)
place_to high (p ∷ ps) zero place all is = subst (λ n. n ≤ high) (same_Some p.place place is) (All-head (To high) p ps all)
place_to high (p ∷ ps) (suc k) place all is = place_to high ps k place (All-tail (To high) p ps all) is

front_to : (n : ℕ) (bytes : List ℕ) → length (take n bytes) ≤ length bytes
front_to n bytes = omega (arith, length-take n bytes)

bad_text : (bytes : List ℕ) (place : ℕ) → IsBadText bytes place → place ≤ length bytes
bad_text bytes place (inl refused) =
    let (k, first, at) = refused.bad in
    let within : place ≤ length (take limit bytes) = place_to (length (take limit bytes)) (whole_tokens (take limit bytes)) k place (tokens_to (length (take limit bytes)) [] 0 (take limit bytes) (omega arith)) at in
    omega (arith, within, front_to limit bytes)
bad_text bytes place (inr (open', long, is)) = omega (arith, long, is)

-- ---- the tokens of an Error object and of a DAS
token_to : (signs text : List ℕ) (at place behind : ℕ) (t : tokens.Token) → tokens.Next signs text at place behind t → at ≤ length text → place ≤ length text
token_to signs text at place behind t next le = omega (arith, le, next.place_is, ap length next.white_is, length-append next.white (drop place text), length-drop at text, length-drop place text)

reads_to : (signs text : List ℕ) (at : ℕ) (ts : List tokens.Placed) (to : ℕ) → tokens.Reads signs text at ts to → at ≤ length text → to ≤ length text
reads_to signs text at [] to is le = subst (λ n. n ≤ length text) (sym is) le
reads_to signs text at (t ∷ ts) to (behind, next, rest) le = reads_to signs text behind ts to rest (behind_to next.token_at (token_to signs text at t.place behind t.token next le))
  where
    behind_to : tokens.TokenAt signs text t.place behind t.token → t.place ≤ length text → behind ≤ length text
    behind_to is from = omega (arith, from, ap length is.bytes_are, is.behind_is, length-append (tokens.token_bytes t.token) (drop behind text), length-drop t.place text, length-drop behind text)

bad_token : {V : Type 0} (signs : List ℕ) (Language : List tokens.Token → V → Type 0) (text : List ℕ) (place : ℕ) → BadToken signs Language text place → place ≤ length text
bad_token signs Language text place b = token_to signs text b.at place b.behind b.bad b.next (reads_to signs text 0 b.tokens b.at b.read (omega arith))

bad_object : (bytes : List ℕ) (place : ℕ) → errors.IsBad bytes place → place ≤ length bytes
bad_object bytes place (inl b) = omega (arith, bad_token object.signs object.IsObject (errors.front bytes) place b, front_to errors.limit bytes)
bad_object bytes place (inr (inl b)) =
    let within : b.behind ≤ length (errors.front bytes) = reads_to object.signs (errors.front bytes) 0 b.ends.tokens b.behind b.ends.read (omega arith) in
    let (trail, rest, c, is, long, other, more) = b.stray in
    omega (arith, within, front_to errors.limit bytes, b.place_is, long, ap length is, length-append trail (c ∷ rest), length-drop b.behind bytes)
bad_object bytes place (inr (inr (unended, long, is))) = omega (arith, long, is)

bad_das : (bytes : List ℕ) (place : ℕ) → das.IsBad bytes place → place ≤ length bytes
bad_das bytes place (inl b) = omega (arith, bad_token das_grammar.signs das_grammar.IsDas (das.front bytes) place b, front_to das.limit bytes)
bad_das bytes place (inr (unended, long, is)) = omega (arith, long, is)

trailing_das : (bytes : List ℕ) (place : ℕ) → das.IsTrailing bytes place → place ≤ length bytes
trailing_das bytes place t =
    let within : t.behind ≤ length (das.front bytes) = reads_to das_grammar.signs (das.front bytes) 0 t.ends.tokens t.behind t.ends.read (omega arith) in
    omega (arith, within, front_to das.limit bytes, t.trails.place_is, ap length t.trails.bytes_are, length-append t.trails.white (t.trails.byte ∷ t.trails.rest), length-drop t.behind bytes)

-- ---- the line behind a DDS, and the values
bad_line : (bytes : List ℕ) (place : ℕ) → IsBadLine bytes place → place ≤ length bytes
bad_line bytes place (d, text, rest, at, has, wrong, is) =
    omega (arith, is, ap length has.parts, length-append text rest, wrong.is_place, ap length wrong.parts, length-append wrong.front (wrong.next ∷ wrong.rest))

bad_values : (bytes : List ℕ) (kind : Bad) (place : ℕ) → HasWrongValues bytes kind place → place ≤ length bytes
bad_values bytes kind place (d, head, values, at, (is_head, parts), inl (fault, wrong, k), is) =
    omega (arith, is, ap length parts, length-append head values, wrong.is_place, ap length wrong.parts, length-append (wrong.front ++ wrong.own) wrong.rest, length-append wrong.front wrong.own)
bad_values bytes kind place (d, head, values, at, (is_head, parts), inr (inl (more, k)), is) =
    omega (arith, is, ap length parts, length-append head values, more.is_place, ap length more.parts, length-append more.whole (more.next ∷ more.rest))
bad_values bytes kind place (d, head, values, at, (is_head, parts), inr (inr (on, end, k)), is) = omega (arith, is, end, ap length parts, length-append head values)

-- ---- by the form
error_within : (bytes : List ℕ) (kind : Bad) (place : ℕ) → JudgesError bytes (bad kind place) → place ≤ length bytes
error_within bytes kind place (inl (b, k)) = bad_object bytes place b
error_within bytes kind place (inr (cut, end, k)) = omega (arith, end)

dods_within : (bytes : List ℕ) (kind : Bad) (place : ℕ) → JudgesDods bytes (bad kind place) → place ≤ length bytes
dods_within bytes kind place (inl (b, k)) = bad_text bytes place b
dods_within bytes kind place (inr (inl (b, k))) = bad_line bytes place b
dods_within bytes kind place (inr (inr (inl (cut, end, k)))) = omega (arith, end)
dods_within bytes kind place (inr (inr (inr b))) = bad_values bytes kind place b

stray_within : (bytes : List ℕ) (place : ℕ) → HasStray bytes place → place ≤ length bytes
stray_within bytes place s = omega (arith, s.is_place, ap length s.has_text.parts, length-append s.text (s.white ++ s.next ∷ s.rest), length-append s.white (s.next ∷ s.rest))

dds_within : (bytes : List ℕ) (kind : Bad) (place : ℕ) → JudgesDds bytes (bad kind place) → place ≤ length bytes
dds_within bytes kind place (inl (b, k)) = bad_text bytes place b
dds_within bytes kind place (inr (inl (s, k))) = stray_within bytes place s
dds_within bytes kind place (inr (inr (cut, end, k))) = omega (arith, end)

das_text_within : (bytes : List ℕ) (kind : Bad) (place : ℕ) → JudgesDasText bytes (bad kind place) → place ≤ length bytes
das_text_within bytes kind place (inl (b, k)) = bad_das bytes place b
das_text_within bytes kind place (inr (inl (t, k))) = trailing_das bytes place t
das_text_within bytes kind place (inr (inr (cut, end, k))) = omega (arith, end)

same_place : (kind other : Bad) (place spot : ℕ) → bad kind place ≡ bad other spot → place ≡ spot
same_place kind other place spot is = cc

das_within : (ts : List Token) (bytes : List ℕ) (kind : Bad) (place : ℕ) → JudgesDas ts bytes (bad kind place) → place ≤ length bytes
das_within [] bytes kind place (inl (short, is)) = omega (arith, same_place kind _ place (length bytes) is)
das_within [] bytes kind place (inr (long, is)) = das_text_within bytes kind place is
das_within (t ∷ ts) bytes kind place is = das_text_within bytes kind place is

pub judged_within : (form : Form) (bytes : List ℕ) (kind : Bad) (place : ℕ) → Judges form bytes (bad kind place) → place ≤ length bytes
judged_within form bytes kind place (inl (says, error)) = error_within bytes kind place error
judged_within dods_form bytes kind place (inr (says, judged)) = dods_within bytes kind place judged
judged_within dds_form bytes kind place (inr (says, judged)) = dds_within bytes kind place judged
judged_within das_form bytes kind place (inr (says, judged)) = das_within (tokens_of bytes) bytes kind place judged

pub verdict_within : (form : Form) (bytes : List ℕ) (kind : Bad) (place : ℕ) → IsVerdict form bytes (bad kind place) → place ≤ length bytes
verdict_within form bytes kind place (inl (small, judged)) = judged_within form bytes kind place judged
verdict_within form bytes kind place (inr (long, front, judged, inl (final, same))) =
    omega (arith, judged_within form (take budget bytes) kind place (subst (Judges form (take budget bytes)) (sym same) judged), front_to budget bytes)
verdict_within form bytes kind place (inr (long, front, judged, inr (other, same))) = omega (arith, long, same_place kind _ place budget same)
