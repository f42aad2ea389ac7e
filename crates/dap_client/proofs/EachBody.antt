-- All bytes are a data response, or an Error object, or something is wrong with them first.
use Rattle.std.proofs.Common.{◌≡◌, ℕ, ◌+◌, ◌<◌, ◌≤◌, Bool, true, false, ◌==◌, List, [], ◌∷◌, ◌++◌, length, take, drop, get_or, codes, refl, ap, ◌∙◌, sym, subst, arith, append_assoc, append-nil, length-take, inl, inr, ◌⊎◌}
use Rattle.std.proofs.lemmas.Bool.{cases_lt, eqb-false, eqb-true}
use Rattle.std.proofs.lemmas.List.{take-append-drop, take-take, take_all}
use Rattle.std.proofs.lemmas.List.Elements.{All-nil}
use Rattle.dap_types.specs.Model.{Dataset, Tree}
use Rattle.dap_model.proofs.Values.{all_back}
use Rattle.dap_model.specs.Body.{IsHead}
use Rattle.dap_model.specs.Grammar.{DdsOf}
use Rattle.dap_model.specs.Received.{ValuesEndAt, Fault, IsBadField, IsOpen}
use Rattle.dap_model.specs.Tokens.{is_white}
use Rattle.dap_model.specs.Xdr.{Spells}
use Rattle.dds_text.proofs.EveryReading.{every_reading}
use Rattle.dds_text.specs.Reading.{IsBadText, IsDone, IsUnfinished, limit}
use Rattle.xdr_fields.proofs.Judged.{each_is_judged}
use Rattle.xdr_decode.specs.Verdict.{EndsInDataLine, HasHeadOf, HasText, IsBadDataLine, IsDataLine, IsWrong, kind_of}
use Rattle.reply_faults.specs.declared.bad.Bad.{Bad}
use Rattle.reply_faults.specs.declared.bad.Bad.TheVariants.{BadDataLine, BadDds, BadError, Cut, Trailing}
use Rattle.dap_client.proofs.DataLines.{differs, line_ends, more_blank, one_byte, unended}
use Rattle.dap_client.proofs.EveryObject.{Answer, every_object}
use Rattle.dap_client.proofs.Values.{more_at}
use Rattle.dap_client.specs.Answered.{good_part}
use Rattle.dap_client.specs.GoodParts.{IsGoodPart}
use Rattle.error_word.specs.Saying.{says_error}
use Rattle.dap_client.specs.Verdict.{JudgesDods, Verdict, bad, good, server_error}
use Rattle.dap_client.specs.inner.DataLines.{HasCome}
use Rattle.xdr_decode.proofs.Pushing.{AreBytes}

-- ---- the line behind a DDS
abbrev Line : List ℕ → Type 0
Line bytes = ((line : List ℕ) × (rest : List ℕ) × IsDataLine line × (bytes ≡ line ++ rest)) ⊎ (EndsInDataLine bytes ⊎ ((at : ℕ) × IsBadDataLine bytes at))

-- with one more byte
next_line : (n : ℕ) (come : List ℕ) (b : ℕ) (rest : List ℕ) → HasCome n come → ((k : ℕ) → HasCome k (come ++ b ∷ []) → Line ((come ++ b ∷ []) ++ rest)) → Line (come ++ b ∷ rest)
next_line n come b rest o on = first (n == 0) refl (is_white b) refl
  where
    seam : (come ++ b ∷ []) ++ rest ≡ come ++ b ∷ rest
    seam = append_assoc come (b ∷ []) rest

    bad_byte : (n ≡ 0 → is_white b ≡ false) → (5 ≤ n → b ≡ 10 → ⊥) → (n < 6 → b ≡ get_or (codes "Data:\r") n 0 → ⊥) → Line (come ++ b ∷ rest)
    bad_byte blank end next = inr (inr (length come, record { front = come; next = b; rest = rest; parts = refl; begun = unended n come o; bad = differs come n b o blank end next; is_place = refl }))

    letter : (n ≡ 0 → is_white b ≡ false) → (5 ≤ n → b ≡ 10 → ⊥) → (n < 6) ⊎ (6 ≤ n) → (e : Bool) → (b == get_or (codes "Data:\r") n 0) ≡ e → Line (come ++ b ∷ rest)
    letter blank end (inl lt) true is = subst Line seam (on (n + 1) (one_byte come n b o lt (eqb-true b (get_or (codes "Data:\r") n 0) is)))
    letter blank end (inl lt) false is = bad_byte blank end (λ l same. eqb-false b (get_or (codes "Data:\r") n 0) is same)
    letter blank end (inr le) e is = bad_byte blank end (λ lt same. omega (arith, lt, le))

    feed : (n ≡ 0 → is_white b ≡ false) → (n < 5) ⊎ (5 ≤ n) → (e : Bool) → (b == 10) ≡ e → Line (come ++ b ∷ rest)
    feed blank (inr le) true is = inl (come ++ b ∷ [], rest, line_ends come n b o le (eqb-true b 10 is), sym seam)
    feed blank (inr le) false is = letter blank (λ long same. eqb-false b 10 is same) (cases_lt n 6) (b == get_or (codes "Data:\r") n 0) refl
    feed blank (inl lt) e is = letter blank (λ long same. omega (arith, lt, long)) (cases_lt n 6) (b == get_or (codes "Data:\r") n 0) refl

    first : (z : Bool) → (n == 0) ≡ z → (w : Bool) → is_white b ≡ w → Line (come ++ b ∷ rest)
    first true none true white = subst Line seam (on n (more_blank come n b o (eqb-true n 0 none) white))
    first true none false white = feed (λ e. white) (cases_lt n 5) (b == 10) refl
    first false some w white = feed (λ e. absurd (eqb-false n 0 some e)) (cases_lt n 5) (b == 10) refl

line_from : (n : ℕ) (come rest : List ℕ) → HasCome n come → Line (come ++ rest)
line_from n come [] o = inr (inl (subst EndsInDataLine (sym (append-nil come)) (unended n come o)))
line_from n come (b ∷ rest) o = next_line n come b rest o (λ k next. line_from k (come ++ b ∷ []) rest next)

every_line : (bytes : List ℕ) → Line bytes
every_line bytes = line_from 0 [] bytes (record { white = []; parts = refl; is_white = All-nil (λ b. is_white b ≡ true); most = omega arith })

-- ---- the values
abbrev Values : Dataset → List ℕ → Type 0
Values d values = ((ts : List Tree) × Spells d ts values) ⊎ ((kind : Bad) × (at : ℕ) × IsWrong d values kind at)

every_values : (d : Dataset) (values : List ℕ) → AreBytes values → Values d values
every_values d values all = by (each_is_judged d values all)
  where
    ended : (ts : List Tree) (n : ℕ) → ValuesEndAt d ts values n → (n < length values) ⊎ (length values ≤ n) → Values d values
    ended ts n at (inl less) = inr (Trailing, n, inr (inl (more_at d values n ts at less, refl)))
    ended ts n at (inr all') = inl (ts, subst (Spells d ts) (take_all n values all') at.1)

    by : ((ts : List Tree) × (n : ℕ) × ValuesEndAt d ts values n) ⊎ (IsOpen d values ⊎ ((fault : Fault) × (place : ℕ) × IsBadField d values fault place)) → Values d values
    by (inl (ts, n, at)) = ended ts n at (cases_lt n (length values))
    by (inr (inl o)) = inr (Cut, length values, inr (inr (o, refl, refl)))
    by (inr (inr (fault, place, b))) = inr (kind_of fault, place, inl (fault, b, refl))

-- ---- behind a text
abbrev Judged : List ℕ → Type 0
Judged bytes = (v : Verdict) × JudgesDods bytes v

with_values : (bytes head values : List ℕ) (d : Dataset) → HasHeadOf bytes d head values → Values d values → Judged bytes
with_values bytes head values d has (inl (ts, s)) = (good d ts, (head, values, has, s))
with_values bytes head values d has (inr (kind, at, w)) = (bad kind (length head + at), inr (inr (inr (d, head, values, at, has, w, refl))))

head_of : (d : Dataset) (bytes text rest line : List ℕ) → HasText bytes d text rest → IsDataLine line → IsHead (text ++ line) d
head_of d bytes text rest line has l = record {
  text = text;
  white = l.white;
  end = l.end;
  parts = ap (λ k. text ++ k) l.parts ∙ sym (append_assoc text l.white (codes "Data:" ++ l.end)) ∙ sym (append_assoc (text ++ l.white) (codes "Data:") l.end);
  is_text = has.is_text;
  is_white = l.is_white;
  is_end = l.is_end;
  text_limit = has.text_limit;
}

with_line : (bytes text rest : List ℕ) (d : Dataset) → HasText bytes d text rest → AreBytes rest → Line rest → Judged bytes
with_line bytes text rest d has all (inl (line, values, l, is)) =
    with_values bytes (text ++ line) values d (head_of d bytes text rest line has l, has.parts ∙ ap (λ k. text ++ k) is ∙ sym (append_assoc text line values))
    (every_values d values (all_back (λ b. b < 256) line values (subst AreBytes is all)))
with_line bytes text rest d has all (inr (inl c)) = (bad Cut (length bytes), inr (inr (inl (inr (d, text, rest, has, c), refl, refl))))
with_line bytes text rest d has all (inr (inr (at, b))) = (bad BadDataLine (length text + at), inr (inl ((d, text, rest, at, has, b, refl), refl)))

text_of : (bytes : List ℕ) (n : ℕ) (d : Dataset) → IsDone bytes n d → HasText bytes d (take n bytes) (drop n bytes)
text_of bytes n d done =
    let few : n ≤ 16777216 = omega (arith, done.within, length-take limit bytes) in
    record {
      parts = sym (take-append-drop n bytes);
      is_text = subst (λ t. DdsOf t d) (take-take n limit bytes few) done.is_text;
      text_limit = omega (arith, few, length-take n bytes);
    }

every_body : (bytes : List ℕ) → AreBytes bytes → Judged bytes
every_body bytes all = by (every_reading bytes)
  where
    by : ((n : ℕ) × (d : Dataset) × IsDone bytes n d) ⊎ ((place : ℕ) × IsBadText bytes place) ⊎ IsUnfinished bytes → Judged bytes
    by (inl (n, d, done)) =
        with_line bytes (take n bytes) (drop n bytes) d (text_of bytes n d done) (all_back (λ b. b < 256) (take n bytes) (drop n bytes) (subst AreBytes (sym (take-append-drop n bytes)) all)) (every_line (drop n bytes))
    by (inr (inl (place, b))) = (bad BadDds place, inl (b, refl))
    by (inr (inr u)) = (bad Cut (length bytes), inr (inr (inl (inl u, refl, refl))))

pub each_has_good_part : (bytes : List ℕ) → AreBytes bytes → (part : List ℕ) × IsGoodPart bytes part
each_has_good_part bytes all = by (says_error bytes) refl
  where
    object : says_error bytes ≡ true → Answer bytes → (part : List ℕ) × IsGoodPart bytes part
    object says (inl (e, is)) = (bytes, (server_error e, inl (says, is), refl))
    object says (inr (inl (place, b))) = (take place bytes, (bad BadError place, inl (says, inl (b, refl)), refl))
    object says (inr (inr c)) = (take (length bytes) bytes, (bad Cut (length bytes), inl (says, inr (c, refl, refl)), refl))

    by : (c : Bool) → says_error bytes ≡ c → (part : List ℕ) × IsGoodPart bytes part
    by true says = object says (every_object bytes)
    by false says = let (v, judged) = every_body bytes all in (good_part v bytes, (v, inr (says, judged), refl))
