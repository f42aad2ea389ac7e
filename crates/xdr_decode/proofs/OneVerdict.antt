-- There is one verdict on a body.
use Rattle.std.proofs.Common.{◌≡◌, ℕ, ◌+◌, ◌-◌, ◌<◌, ◌≤◌, ◌⊎◌, inl, inr, ⊎_elim, List, [], ◌∷◌, ◌++◌, length, take, drop, Result, Ok, Err, IfOk, IfErr, codes, refl, ap, ◌∙◌, sym, subst, arith, append_assoc, length-append, length-take, length-drop}
use Rattle.std.proofs.lemmas.Bool.{cases_lt}
use Rattle.std.proofs.lemmas.List.{take-take, take_all}
use Rattle.std.proofs.Math.Seq.{take-add, take-append_seam}
use Rattle.plain_lemmas.proofs.Lists.{cons_first, cons_rest}
use Rattle.dap_types.specs.Model.{Dataset, Tree}
use Rattle.dap_model.proofs.OneBody.{one_head, not_none, one_body}
use Rattle.dap_model.proofs.OneSpelling.{one_spelling}
use Rattle.dap_model.proofs.OneVerdict.{bad_not_open, ended_not_bad, ended_not_open, one_bad}
use Rattle.dap_model.specs.Body.{IsBody}
use Rattle.dap_model.specs.Grammar.{DdsOf}
use Rattle.dap_model.specs.Received.{ValuesEndAt}
use Rattle.dap_model.specs.Xdr.{Spells}
use Rattle.dds_text.proofs.OneReading.{bad_not_unfinished, done_not_bad, done_not_unfinished, one_end, one_place}
use Rattle.dds_text.specs.Reading.{IsBadText, IsDone, IsUnfinished, limit}
use Rattle.xdr_decode.proofs.Lined.{line_alone}
use Rattle.xdr_decode.specs.Verdict.{EndsInDataLine, EndsInHead, Gives, HasHeadOf, HasMore, HasText, HasWrongValues, IsBadDataLine, IsBadLine, IsDataLine, IsGood, IsRefusal, IsBadBody, IsTooLong, IsVerdict, IsWrong, IsWrongIn, Verdict, budget, good, good_of, kind_of, wrong}
use Rattle.reply_faults.specs.declared.bad.Bad.{Bad}
use Rattle.reply_faults.specs.declared.bad.Bad.TheVariants.{Cut}
use Rattle.xdr_decode.specs.declared.filled.AllRefusal.{AllRefusal}
use Rattle.xdr_decode.specs.declared.filled.AllRefusal.TheVariants.{Refused, Memory}
use Rattle.xdr_decode.specs.declared.filled.Filled.{Filled}

-- ---- the values
more_ends : (d : Dataset) (values : List ℕ) (place : ℕ) → HasMore d values place → (ts : List Tree) × ValuesEndAt d ts values place × (place < length values)
more_ends d values place m =
    let long : length values ≡ length m.whole + length (m.next ∷ m.rest) = ap length m.parts ∙ length-append m.whole (m.next ∷ m.rest) in
    let front : take place values ≡ m.whole = ap (λ n. take n values) m.is_place ∙ ap (take (length m.whole)) m.parts ∙ take-append_seam m.whole (m.next ∷ m.rest) in
    (m.trees, (omega (arith, long, m.is_place), subst (Spells d m.trees) (sym front) m.spelled), omega (arith, long, m.is_place))

spelt_ends : (d : Dataset) (ts : List Tree) (values : List ℕ) → Spells d ts values → ValuesEndAt d ts values (length values)
spelt_ends d ts values s = (omega arith, subst (Spells d ts) (sym (take_all (length values) values (omega arith))) s)

ends_further : (d : Dataset) (ts us : List Tree) (bs : List ℕ) (n k : ℕ) → ValuesEndAt d ts bs n → ValuesEndAt d us bs (n + k) → k ≡ 0
ends_further d ts us bs n k (le, s) (more, r) =
    let none = (one_spelling d ts us (take n bs) (take k (drop n bs)) s (subst (Spells d us) (take-add n k bs) r)).1 in
    omega (arith, ap length none, length-take k (drop n bs), length-drop n bs, more)

ends_once : (d : Dataset) (ts us : List Tree) (bs : List ℕ) (n m : ℕ) → ValuesEndAt d ts bs n → ValuesEndAt d us bs m → n ≤ m → n ≡ m
ends_once d ts us bs n m a b le =
    let parts : m ≡ n + (m - n) = omega (arith, le) in
    let none = ends_further d ts us bs n (m - n) a (subst (ValuesEndAt d us bs) parts b) in
    omega (arith, none, le)

ends_same : (d : Dataset) (ts us : List Tree) (bs : List ℕ) (n m : ℕ) → ValuesEndAt d ts bs n → ValuesEndAt d us bs m → n ≡ m
ends_same d ts us bs n m a b = ⊎_elim (λ lt. ends_once d ts us bs n m a b (omega (arith, lt))) (λ le. sym (ends_once d us ts bs m n b a le)) (cases_lt n m)

one_wrong : (d : Dataset) (values : List ℕ) (kind other : Bad) (place spot : ℕ) → IsWrong d values kind place → IsWrong d values other spot → (kind ≡ other) × (place ≡ spot)
one_wrong d values kind other place spot (inl (f, b, k)) (inl (g, a, l)) = let (faults, places) = one_bad d values f g place spot b a in (k ∙ ap kind_of faults ∙ sym l, places)
one_wrong d values kind other place spot (inl (f, b, k)) (inr (inl (m, l))) = let (ts, e, less) = more_ends d values spot m in absurd (ended_not_bad d ts values spot f place e b)
one_wrong d values kind other place spot (inl (f, b, k)) (inr (inr (o, p, l))) = absurd (bad_not_open d values f place b o)
one_wrong d values kind other place spot (inr (inl (m, k))) (inl (g, a, l)) = let (ts, e, less) = more_ends d values place m in absurd (ended_not_bad d ts values place g spot e a)
one_wrong d values kind other place spot (inr (inl (m, k))) (inr (inl (n, l))) =
    let (ts, e, less) = more_ends d values place m in let (us, f, also) = more_ends d values spot n in (k ∙ sym l, ends_same d ts us values place spot e f)
one_wrong d values kind other place spot (inr (inl (m, k))) (inr (inr (o, p, l))) = let (ts, e, less) = more_ends d values place m in absurd (ended_not_open d ts values place e o)
one_wrong d values kind other place spot (inr (inr (o, p, k))) (inl (g, a, l)) = absurd (bad_not_open d values g spot a o)
one_wrong d values kind other place spot (inr (inr (o, p, k))) (inr (inl (n, l))) = let (ts, e, less) = more_ends d values spot n in absurd (ended_not_open d ts values spot e o)
one_wrong d values kind other place spot (inr (inr (o, p, k))) (inr (inr (u, q, l))) = (k ∙ sym l, p ∙ sym q)

not_both : (d : Dataset) (ts : List Tree) (values : List ℕ) (kind : Bad) (place : ℕ) → Spells d ts values → IsWrong d values kind place → ⊥
not_both d ts values kind place s (inl (f, b, k)) = ended_not_bad d ts values (length values) f place (spelt_ends d ts values s) b
not_both d ts values kind place s (inr (inl (m, k))) =
    let (us, e, less) = more_ends d values place m in
    omega (arith, less, ends_same d us ts values place (length values) e (spelt_ends d ts values s))
not_both d ts values kind place s (inr (inr (o, p, k))) = ended_not_open d ts values (length values) (spelt_ends d ts values s) o

-- of two fronts the one begins the other
split_front : (l x front : List ℕ) (next : ℕ) (r : List ℕ) → l ++ x ≡ front ++ next ∷ r → ((u : List ℕ) × (front ≡ l ++ u)) ⊎ ((u : List ℕ) × (l ≡ front ++ next ∷ u))
split_front [] x front next r same = inl (front, refl)
split_front (a ∷ l) x [] next r same = inr (l, ap (λ b. b ∷ l) (cons_first a next (l ++ x) r same))
split_front (a ∷ l) x (b ∷ front) next r same =
    let first : a ≡ b = cons_first a b (l ++ x) (front ++ next ∷ r) same in
    ⊎_elim (λ e. inl (e.0, ap (λ c. c ∷ front) (sym first) ∙ ap (λ k. a ∷ k) e.1)) (λ e. inr (e.0, ap (λ c. c ∷ l) first ∙ ap (λ k. b ∷ k) e.1)) (split_front l x front next r (cons_rest a b (l ++ x) (front ++ next ∷ r) same))

line_not_cut : (l x rest : List ℕ) → IsDataLine l → rest ≡ l ++ x → EndsInDataLine rest → ⊥
line_not_cut l x rest a is (next, more, b) =
    not_none x more next (line_alone l (x ++ next ∷ more) a (subst IsDataLine (ap (λ k. k ++ next ∷ more) is ∙ append_assoc l x (next ∷ more)) b))

line_not_bad : (l x rest : List ℕ) (at : ℕ) → IsDataLine l → rest ≡ l ++ x → IsBadDataLine rest at → ⊥
line_not_bad l x rest at a is b =
    ⊎_elim (λ e. line_not_cut l e.0 b.front a e.1 b.begun) (λ e. b.bad e.0 (subst IsDataLine e.1 a)) (split_front l x b.front b.next b.rest (sym is ∙ b.parts))

cut_not_bad : (rest : List ℕ) (at : ℕ) → EndsInDataLine rest → IsBadDataLine rest at → ⊥
cut_not_bad rest at (next, more, a) b = b.bad (b.rest ++ next ∷ more) (subst IsDataLine (ap (λ k. k ++ next ∷ more) b.parts ∙ append_assoc b.front (b.next ∷ b.rest) (next ∷ more)) a)

bad_shorter : (rest : List ℕ) (p q : ℕ) (a : IsBadDataLine rest p) (b : IsBadDataLine rest q) → length a.front ≤ length b.front
bad_shorter rest p q a b =
    ⊎_elim (λ e. omega (arith, ap length e.1, length-append a.front e.0))
    (λ e.
    let (next, more, line) = a.begun in
    absurd (b.bad (e.0 ++ next ∷ more) (subst IsDataLine (ap (λ k. k ++ next ∷ more) e.1 ∙ append_assoc b.front (b.next ∷ e.0) (next ∷ more)) line)))
    (split_front a.front (a.next ∷ a.rest) b.front b.next b.rest (sym a.parts ∙ b.parts))

one_bad_line : (rest : List ℕ) (p q : ℕ) → IsBadDataLine rest p → IsBadDataLine rest q → p ≡ q
one_bad_line rest p q a b = omega (arith, a.is_place, b.is_place, bad_shorter rest p q a b, bad_shorter rest q p b a)

-- ---- the text
pub text_done : (bytes text rest : List ℕ) (d : Dataset) → HasText bytes d text rest → IsDone bytes (length text) d
text_done bytes text rest d h =
    let short : length text ≤ 16777216 = h.text_limit in
    let long : length bytes ≡ length text + length rest = ap length h.parts ∙ length-append text rest in
    let front : take (length text) (take limit bytes) ≡ text = take-take (length text) limit bytes short ∙ ap (take (length text)) h.parts ∙ take-append_seam text rest in
    record { within = omega (arith, length-take limit bytes, long, short); is_text = subst (λ t. DdsOf t d) (sym front) h.is_text }

same_front : (a b x y : List ℕ) → length a ≡ length b → a ++ x ≡ b ++ y → (a ≡ b) × (x ≡ y)
same_front [] [] x y long same = (refl, same)
same_front [] (c ∷ b) x y long same = absurd (omega (arith, long))
same_front (c ∷ a) [] x y long same = absurd (omega (arith, long))
same_front (c ∷ a) (e ∷ b) x y long same =
    let (front, rest) = same_front a b x y (omega (arith, long)) (cons_rest c e (a ++ x) (b ++ y) same) in
    (ap (λ h. h ∷ a) (cons_first c e (a ++ x) (b ++ y) same) ∙ ap (λ l. e ∷ l) front, rest)

one_text : (bytes : List ℕ) (d e : Dataset) (text rest own more : List ℕ) → HasText bytes d text rest → HasText bytes e own more → (text ≡ own) × (rest ≡ more)
one_text bytes d e text rest own more a b =
    let long = (one_end (take limit bytes) (length text) (length own) d e (text_done bytes text rest d a) (text_done bytes own more e b)).0 in
    same_front text own rest more long (sym a.parts ∙ b.parts)

-- the text and the line of a head
record Headed (bytes : List ℕ) (d : Dataset) (values : List ℕ) : Type 0 where
  text : List ℕ
  line : List ℕ
  has_text : HasText bytes d text (line ++ values)
  is_line : IsDataLine line

headed : (bytes : List ℕ) (d : Dataset) (head values : List ℕ) → HasHeadOf bytes d head values → Headed bytes d values
headed bytes d head values (h, is) =
    let line : List ℕ = h.white ++ (codes "Data:" ++ h.end) in
    let laid : head ++ values ≡ h.text ++ (line ++ values) =
    ap (λ l. l ++ values) h.parts ∙ append_assoc (h.text ++ h.white ++ codes "Data:") h.end values ∙ append_assoc (h.text ++ h.white) (codes "Data:") (h.end ++ values)
    ∙ append_assoc h.text h.white (codes "Data:" ++ (h.end ++ values)) ∙ ap (λ l. h.text ++ l) (sym (append_assoc h.white (codes "Data:" ++ h.end) values)) in
    record {
      text = h.text;
      line = line;
      has_text = record { parts = is ∙ laid; is_text = h.is_text; text_limit = h.text_limit };
      is_line = record { white = h.white; end = h.end; parts = refl; is_white = h.is_white; is_end = h.is_end };
    }

-- ---- a body of any length
bad_alone : (bytes : List ℕ) (p : ℕ) (d : Dataset) (text rest : List ℕ) → IsBadText bytes p → HasText bytes d text rest → ⊥
bad_alone bytes p d text rest a b = done_not_bad bytes (length text) p d (text_done bytes text rest d b) a

open_alone : (bytes : List ℕ) (d : Dataset) (text rest : List ℕ) → IsUnfinished bytes → HasText bytes d text rest → ⊥
open_alone bytes d text rest a b = done_not_unfinished bytes (length text) d (text_done bytes text rest d b) a

bad_line_cut : (bytes : List ℕ) (p : ℕ) → IsBadLine bytes p → EndsInHead bytes → ⊥
bad_line_cut bytes p (d, text, rest, at, h, b, is) (inl o) = open_alone bytes d text rest o h
bad_line_cut bytes p (d, text, rest, at, h, b, is) (inr (e, own, more, g, c)) =
    let (texts, rests) = one_text bytes d e text rest own more h g in cut_not_bad rest at (subst EndsInDataLine (sym rests) c) b

pub bad_line_head : (bytes : List ℕ) (p : ℕ) (d : Dataset) (head values : List ℕ) → IsBadLine bytes p → HasHeadOf bytes d head values → ⊥
bad_line_head bytes p d head values (e, text, rest, at, h, b, is) a =
    let whole = headed bytes d head values a in
    let (texts, rests) = one_text bytes e d text rest whole.text (whole.line ++ values) h whole.has_text in
    line_not_bad whole.line values rest at whole.is_line rests b

pub cut_head : (bytes : List ℕ) (d : Dataset) (head values : List ℕ) → EndsInHead bytes → HasHeadOf bytes d head values → ⊥
cut_head bytes d head values (inl o) a = let whole = headed bytes d head values a in open_alone bytes d whole.text (whole.line ++ values) o whole.has_text
cut_head bytes d head values (inr (e, text, rest, h, c)) a =
    let whole = headed bytes d head values a in
    let (texts, rests) = one_text bytes e d text rest whole.text (whole.line ++ values) h whole.has_text in
    line_not_cut whole.line values rest whole.is_line rests c

bad_cut : (bytes : List ℕ) (p : ℕ) → IsBadText bytes p → EndsInHead bytes → ⊥
bad_cut bytes p a (inl o) = bad_not_unfinished bytes p a o
bad_cut bytes p a (inr (e, text, rest, h, c)) = bad_alone bytes p e text rest a h

pub bad_head : (bytes : List ℕ) (p : ℕ) (d : Dataset) (head values : List ℕ) → IsBadText bytes p → HasHeadOf bytes d head values → ⊥
bad_head bytes p d head values a b = let whole = headed bytes d head values b in bad_alone bytes p d whole.text (whole.line ++ values) a whole.has_text

bad_bad_line : (bytes : List ℕ) (p q : ℕ) → IsBadText bytes p → IsBadLine bytes q → ⊥
bad_bad_line bytes p q a (d, text, rest, at, h, b, is) = bad_alone bytes p d text rest a h

one_line_fault : (bytes : List ℕ) (p q : ℕ) → IsBadLine bytes p → IsBadLine bytes q → p ≡ q
one_line_fault bytes p q (d, text, rest, at, h, b, is) (e, own, more, spot, g, c, also) =
    let (texts, rests) = one_text bytes d e text rest own more h g in
    let places = one_bad_line rest at spot b (subst (λ l. IsBadDataLine l spot) (sym rests) c) in
    omega (arith, is, also, places, ap length texts)

same_values : (bytes : List ℕ) (kind other : Bad) (place spot : ℕ) → HasWrongValues bytes kind place → HasWrongValues bytes other spot → (kind ≡ other) × (place ≡ spot)
same_values bytes kind other place spot (d, head, values, at, (h, is), w, place_is) (e, own, more, at', (g, also), v, spot_is) =
    let (heads, datasets, rests) = one_head head own values more d e h g (sym is ∙ also) in
    let (kinds, places) = one_wrong d values kind other at at' w (subst (λ x. IsWrong x values other at') (sym datasets) (subst (λ l. IsWrong e l other at') (sym rests) v)) in
    (kinds, omega (arith, place_is, spot_is, places, ap length heads))

same_wrong : (bytes : List ℕ) (kind other : Bad) (place spot : ℕ) → IsWrongIn bytes kind place → IsWrongIn bytes other spot → (kind ≡ other) × (place ≡ spot)
same_wrong bytes kind other place spot (inl (a, k)) (inl (b, l)) = (k ∙ sym l, one_place bytes place spot a b)
same_wrong bytes kind other place spot (inl (a, k)) (inr (inl (b, l))) = absurd (bad_bad_line bytes place spot a b)
same_wrong bytes kind other place spot (inl (a, k)) (inr (inr (inl (b, p, l)))) = absurd (bad_cut bytes place a b)
same_wrong bytes kind other place spot (inl (a, k)) (inr (inr (inr (d, head, values, at, h, w, is)))) = absurd (bad_head bytes place d head values a h)
same_wrong bytes kind other place spot (inr (inl (a, k))) (inl (b, l)) = absurd (bad_bad_line bytes spot place b a)
same_wrong bytes kind other place spot (inr (inl (a, k))) (inr (inl (b, l))) = (k ∙ sym l, one_line_fault bytes place spot a b)
same_wrong bytes kind other place spot (inr (inl (a, k))) (inr (inr (inl (b, p, l)))) = absurd (bad_line_cut bytes place a b)
same_wrong bytes kind other place spot (inr (inl (a, k))) (inr (inr (inr (d, head, values, at, h, w, is)))) = absurd (bad_line_head bytes place d head values a h)
same_wrong bytes kind other place spot (inr (inr (inl (a, p, k)))) (inl (b, l)) = absurd (bad_cut bytes spot b a)
same_wrong bytes kind other place spot (inr (inr (inl (a, p, k)))) (inr (inl (b, l))) = absurd (bad_line_cut bytes spot b a)
same_wrong bytes kind other place spot (inr (inr (inl (a, p, k)))) (inr (inr (inl (b, q, l)))) = (k ∙ sym l, p ∙ sym q)
same_wrong bytes kind other place spot (inr (inr (inl (a, p, k)))) (inr (inr (inr (d, head, values, at, h, w, is)))) = absurd (cut_head bytes d head values a h)
same_wrong bytes kind other place spot (inr (inr (inr (d, head, values, at, h, w, is)))) (inl (b, l)) = absurd (bad_head bytes spot d head values b h)
same_wrong bytes kind other place spot (inr (inr (inr (d, head, values, at, h, w, is)))) (inr (inl (b, l))) = absurd (bad_line_head bytes spot d head values b h)
same_wrong bytes kind other place spot (inr (inr (inr (d, head, values, at, h, w, is)))) (inr (inr (inl (b, q, l)))) = absurd (cut_head bytes d head values b h)
same_wrong bytes kind other place spot (inr (inr (inr a))) (inr (inr (inr b))) = same_values bytes kind other place spot a b

good_not_wrong : (bytes : List ℕ) (d : Dataset) (ts : List Tree) (kind : Bad) (place : ℕ) → IsGood bytes d ts → IsWrongIn bytes kind place → ⊥
good_not_wrong bytes d ts kind place (head, values, h, s) (inl (a, k)) = bad_head bytes place d head values a h
good_not_wrong bytes d ts kind place (head, values, h, s) (inr (inl (a, k))) = bad_line_head bytes place d head values a h
good_not_wrong bytes d ts kind place (head, values, h, s) (inr (inr (inl (a, p, k)))) = cut_head bytes d head values a h
good_not_wrong bytes d ts kind place (head, values, (h, is), s) (inr (inr (inr (e, own, more, at, (g, also), w, p)))) =
    let (heads, datasets, rests) = one_head head own values more d e h g (sym is ∙ also) in
    not_both d ts values kind at s (subst (λ x. IsWrong x values kind at) (sym datasets) (subst (λ l. IsWrong e l kind at) (sym rests) w))

-- ---- the limit
pub body_good : (bytes : List ℕ) (d : Dataset) (ts : List Tree) → IsBody bytes d ts → IsGood bytes d ts
body_good bytes d ts b = (b.head, b.values, (b.is_head, b.parts), b.is_values)

pub good_body : (bytes : List ℕ) (d : Dataset) (ts : List Tree) → IsGood bytes d ts → length bytes < budget → IsBody bytes d ts
unfolding budget
good_body bytes d ts (head, values, (h, is), s) small = record { head = head; values = values; parts = is; is_head = h; is_values = s; limit = small }

body_small : (bytes : List ℕ) (d : Dataset) (ts : List Tree) → IsBody bytes d ts → length bytes < budget
unfolding budget
body_small bytes d ts b = b.limit

pub small_first : (bytes : List ℕ) → length bytes < budget → take budget bytes ≡ bytes
small_first bytes small = take_all budget bytes (omega arith)

good_refused : (bytes : List ℕ) (d : Dataset) (ts : List Tree) (kind : Bad) (place : ℕ) → IsBody bytes d ts → IsBadBody bytes kind place → ⊥
good_refused bytes d ts kind place b (inl (w, side)) =
    good_not_wrong bytes d ts kind place (body_good bytes d ts b) (subst (λ l. IsWrongIn l kind place) (small_first bytes (body_small bytes d ts b)) w)
good_refused bytes d ts kind place b (inr (long, kind_is, place_is)) = omega (arith, long.0, body_small bytes d ts b)

wrong_long : (bytes : List ℕ) (kind : Bad) (place : ℕ) → IsWrongIn (take budget bytes) kind place → (length bytes < budget) ⊎ (¬ (kind ≡ Cut)) → IsTooLong bytes → ⊥
wrong_long bytes kind place w side (large, inl (d, ts, g)) = good_not_wrong (take budget bytes) d ts kind place g w
wrong_long bytes kind place w (inl small) (large, inr (spot, cut)) = omega (arith, large, small)
wrong_long bytes kind place w (inr other) (large, inr (spot, cut)) = other (same_wrong (take budget bytes) kind Cut place spot w cut).0

same_refused : (bytes : List ℕ) (kind other : Bad) (place spot : ℕ) → IsBadBody bytes kind place → IsBadBody bytes other spot → (kind ≡ other) × (place ≡ spot)
same_refused bytes kind other place spot (inl (w, side)) (inl (v, also)) = same_wrong (take budget bytes) kind other place spot w v
same_refused bytes kind other place spot (inl (w, side)) (inr (long, kind_is, spot_is)) = absurd (wrong_long bytes kind place w side long)
same_refused bytes kind other place spot (inr (long, kind_is, place_is)) (inl (v, also)) = absurd (wrong_long bytes other spot v also long)
same_refused bytes kind other place spot (inr (long, kind_is, place_is)) (inr (also, other_is, spot_is)) = (kind_is ∙ sym other_is, place_is ∙ sym spot_is)

-- a body has one verdict at most
pub one_verdict : (bytes : List ℕ) (v w : Verdict) → IsVerdict bytes v → IsVerdict bytes w → v ≡ w
one_verdict bytes (good d ts) (good e us) a b = let (dataset, trees) = one_body bytes d e ts us a b in ap (λ x. good x ts) dataset ∙ ap (good e) trees
one_verdict bytes (good d ts) (wrong kind place) a b = absurd (good_refused bytes d ts kind place a b)
one_verdict bytes (wrong kind place) (good d ts) a b = absurd (good_refused bytes d ts kind place b a)
one_verdict bytes (wrong kind place) (wrong other spot) a b = let (kinds, places) = same_refused bytes kind other place spot a b in ap (λ k. wrong k place) kinds ∙ ap (wrong other) places

-- an answer that is the verdict is the only one
pub only_answer : (bytes : List ℕ) (r : Result Filled AllRefusal) → IfOk r (λ f. IsVerdict bytes (good_of f)) → IfErr r (IsRefusal bytes) → (v : Verdict) → IsVerdict bytes v → Gives r v
only_answer bytes (Ok f) whole refused v is = one_verdict bytes v (good_of f) is whole
only_answer bytes (Err (Refused b)) whole refused v is = one_verdict bytes v (wrong b.kind b.place) is refused
only_answer bytes (Err Memory) whole refused v is = tt
