-- Bytes have one verdict at most.
use Rattle.std.proofs.Common.{◌≡◌, ℕ, ◌+◌, ◌<◌, ◌≤◌, Bool, true, false, not, List, [], ◌∷◌, ◌++◌, length, take, drop, refl, sym, ap, subst, ◌∙◌, IsTrue, inl, inr, ◌⊎◌, arith}
use Rattle.std.proofs.lemmas.Bool.{false≢true}
use Rattle.std.proofs.lemmas.List.{drop_at}
use Rattle.std.proofs.lemmas.List.Elements.{All-head, All-tail}
use Rattle.std.specs.Bool.{⊤}
use Rattle.std.specs.List.{AllPass}
use Rattle.dap_client.proofs.Ending.{faulty_other}
use Rattle.plain_lemmas.proofs.Lists.{cons_first, cons_rest}
use Rattle.dap_types.specs.Model.{Dataset}
use Rattle.dap_model.specs.Tokens.{Token, is_white, tokens_of}
use Rattle.dap_errors.proofs.Single.{bad_no_cut, object_no_bad, object_no_cut, one_object, one_place as one_error_place}
use Rattle.dap_errors.specs.declared.object.ErrorObject.{ErrorObject}
use Rattle.das_text.proofs.Single.{bad_not_cut, bad_not_trailing, das_not_bad, das_not_cut, das_not_trailing, one_bad_place, one_das, one_trailing_place, trailing_not_cut}
use Rattle.das_text.specs.Model.{Attributes}
use Rattle.dds_text.proofs.OneReading.{bad_not_unfinished, done_not_bad, done_not_unfinished, one_end, one_place}
use Rattle.dds_text.specs.Reading.{IsDone, limit}
use Rattle.xdr_decode.proofs.OneVerdict.{good_body, one_verdict as one_body_verdict, small_first, text_done}
use Rattle.xdr_decode.specs.Verdict.{HasText, IsWrongIn, budget}
use Rattle.xdr_decode.specs.Verdict as body
use Rattle.reply_faults.specs.declared.bad.Bad.{Bad}
use Rattle.reply_faults.specs.declared.bad.Bad.TheVariants.{BadHead, HeadTooLong, Coded, BadChunk, BadDds, BadDataLine, BadDas, BadError, BadCount, BadWord, BadPadding, WrongMark, Cut, Trailing, TooLong}
use Rattle.error_word.specs.Saying.{says_error}
use Rattle.dap_client.specs.Verdict.{Form, HasStray, IsVerdict, Judges, JudgesDas, JudgesDasText, JudgesDds, JudgesDods, JudgesError, JudgesForm, Verdict, bad, das_form, dds_form, dods_form, good, good_das, good_dds, is_fault, is_final, server_error}

same_bad : (k l : Bad) (p q : ℕ) → k ≡ l → p ≡ q → bad k p ≡ bad l q
same_bad k l p q kinds places = ap (λ x. bad x p) kinds ∙ ap (bad l) places

-- ---- an Error object
error_and : (bytes : List ℕ) (e : ErrorObject) (k : Bad) (p : ℕ) → JudgesError bytes (server_error e) → JudgesError bytes (bad k p) → ⊥
error_and bytes e k p a (inl b) = object_no_bad bytes e p a b.0
error_and bytes e k p a (inr c) = object_no_cut bytes e a c.0

error_bads : (bytes : List ℕ) (k l : Bad) (p q : ℕ) → JudgesError bytes (bad k p) → JudgesError bytes (bad l q) → bad k p ≡ bad l q
error_bads bytes k l p q (inl a) (inl b) = same_bad k l p q (a.1 ∙ sym b.1) (one_error_place bytes p q a.0 b.0)
error_bads bytes k l p q (inl a) (inr b) = absurd (bad_no_cut bytes p a.0 b.0)
error_bads bytes k l p q (inr a) (inl b) = absurd (bad_no_cut bytes q b.0 a.0)
error_bads bytes k l p q (inr a) (inr b) = same_bad k l p q (a.2 ∙ sym b.2) (a.1 ∙ sym b.1)

one_error : (bytes : List ℕ) (v w : Verdict) → JudgesError bytes v → JudgesError bytes w → v ≡ w
one_error bytes (good d ts) w a b = absurd a
one_error bytes (good_dds d) w a b = absurd a
one_error bytes (good_das d) w a b = absurd a
one_error bytes (server_error e) (good d ts) a b = absurd b
one_error bytes (server_error e) (good_dds d) a b = absurd b
one_error bytes (server_error e) (good_das d) a b = absurd b
one_error bytes (server_error e) (server_error f) a b = ap server_error (one_object bytes e f a b)
one_error bytes (server_error e) (bad l q) a b = absurd (error_and bytes e l q a b)
one_error bytes (bad k p) (good d ts) a b = absurd b
one_error bytes (bad k p) (good_dds d) a b = absurd b
one_error bytes (bad k p) (good_das d) a b = absurd b
one_error bytes (bad k p) (server_error f) a b = absurd (error_and bytes f k p b a)
one_error bytes (bad k p) (bad l q) a b = error_bads bytes k l p q a b

not_white : (x : ℕ) → IsTrue (not (is_white x)) → is_white x ≡ true → ⊥
not_white x other white = false≢true (ap not (sym white) ∙ other)

white_before : (w x : ℕ) (ws xs : List ℕ) → AllPass is_white (w ∷ ws) → w ∷ ws ≡ x ∷ xs → is_white x ≡ true
white_before w x ws xs all e = subst (λ y. is_white y ≡ true) (cons_first w x ws xs e) (All-head (λ y. is_white y ≡ true) w ws all)

none_among : (ws vs rs : List ℕ) (x : ℕ) → AllPass is_white vs → IsTrue (not (is_white x)) → vs ≡ ws ++ x ∷ rs → ⊥
none_among [] [] rs x all other e = cc
none_among [] (v ∷ vs) rs x all other e = not_white x other (white_before v x vs rs all e)
none_among (w ∷ ws) [] rs x all other e = cc
none_among (w ∷ ws) (v ∷ vs) rs x all other e = none_among ws vs rs x (All-tail (λ y. is_white y ≡ true) v vs all) other (cons_rest v w vs (ws ++ x ∷ rs) e)

first_other : (ws vs rs ss : List ℕ) (x y : ℕ) → AllPass is_white ws → AllPass is_white vs → IsTrue (not (is_white x)) → IsTrue (not (is_white y)) → ws ++ x ∷ rs ≡ vs ++ y ∷ ss → length ws ≡ length vs
first_other [] [] rs ss x y a b other also e = refl
first_other [] (v ∷ vs) rs ss x y a b other also e = absurd (not_white x other (subst (λ z. is_white z ≡ true) (sym (cons_first x v rs (vs ++ y ∷ ss) e)) (All-head (λ z. is_white z ≡ true) v vs b)))
first_other (w ∷ ws) [] rs ss x y a b other also e = absurd (not_white y also (subst (λ z. is_white z ≡ true) (cons_first w y (ws ++ x ∷ rs) ss e) (All-head (λ z. is_white z ≡ true) w ws a)))
first_other (w ∷ ws) (v ∷ vs) rs ss x y a b other also e =
    let rest = first_other ws vs rs ss x y (All-tail (λ z. is_white z ≡ true) w ws a) (All-tail (λ z. is_white z ≡ true) v vs b) other also (cons_rest w v (ws ++ x ∷ rs) (vs ++ y ∷ ss) e) in
    omega (arith, rest)

-- two texts that bytes begin with are one
record Same (d e : Dataset) (text own rest more : List ℕ) : Type 0 where
  dataset : d ≡ e
  lengths : length text ≡ length own
  rests : rest ≡ more

same_text : (bytes : List ℕ) (d e : Dataset) (text own rest more : List ℕ) → HasText bytes d text rest → HasText bytes e own more → Same d e text own rest more
same_text bytes d e text own rest more a b =
    let ends = one_end (take limit bytes) (length text) (length own) d e (text_done bytes text rest d a) (text_done bytes own more e b) in
    let left : drop (length text) bytes ≡ rest = ap (drop (length text)) a.parts ∙ drop_at text rest (length text) refl in
    let also : drop (length own) bytes ≡ more = ap (drop (length own)) b.parts ∙ drop_at own more (length own) refl in
    record { dataset = ends.1; lengths = ends.0; rests = sym left ∙ ap (λ n. drop n bytes) ends.0 ∙ also }

dds_and : (bytes : List ℕ) (d : Dataset) (k : Bad) (p : ℕ) → JudgesDds bytes (good_dds d) → JudgesDds bytes (bad k p) → ⊥
dds_and bytes d k p (text, white, h, all) (inl b) = done_not_bad bytes (length text) p d (text_done bytes text white d h) b.0
dds_and bytes d k p (text, white, h, all) (inr (inl (s, kind))) =
    let same = same_text bytes d s.dataset text s.text white (s.white ++ s.next ∷ s.rest) h s.has_text in
    none_among s.white white s.rest s.next all s.other same.rests
dds_and bytes d k p (text, white, h, all) (inr (inr c)) = done_not_unfinished bytes (length text) d (text_done bytes text white d h) c.0

stray_done : (bytes : List ℕ) (p : ℕ) (s : HasStray bytes p) → IsDone bytes (length s.text) s.dataset
stray_done bytes p s = text_done bytes s.text (s.white ++ s.next ∷ s.rest) s.dataset s.has_text

stray_once : (bytes : List ℕ) (p q : ℕ) → HasStray bytes p → HasStray bytes q → p ≡ q
stray_once bytes p q s t =
    let same = same_text bytes s.dataset t.dataset s.text t.text (s.white ++ s.next ∷ s.rest) (t.white ++ t.next ∷ t.rest) s.has_text t.has_text in
    let whites = first_other s.white t.white s.rest t.rest s.next t.next s.all_white t.all_white s.other t.other same.rests in
    omega (arith, s.is_place, t.is_place, same.lengths, whites)

dds_bads : (bytes : List ℕ) (k l : Bad) (p q : ℕ) → JudgesDds bytes (bad k p) → JudgesDds bytes (bad l q) → bad k p ≡ bad l q
dds_bads bytes k l p q (inl a) (inl b) = same_bad k l p q (a.1 ∙ sym b.1) (one_place bytes p q a.0 b.0)
dds_bads bytes k l p q (inl a) (inr (inl (s, kind))) = absurd (done_not_bad bytes (length s.text) p s.dataset (stray_done bytes q s) a.0)
dds_bads bytes k l p q (inl a) (inr (inr b)) = absurd (bad_not_unfinished bytes p a.0 b.0)
dds_bads bytes k l p q (inr (inl (s, kind))) (inl b) = absurd (done_not_bad bytes (length s.text) q s.dataset (stray_done bytes p s) b.0)
dds_bads bytes k l p q (inr (inl (s, kind))) (inr (inl (t, also))) = same_bad k l p q (kind ∙ sym also) (stray_once bytes p q s t)
dds_bads bytes k l p q (inr (inl (s, kind))) (inr (inr b)) = absurd (done_not_unfinished bytes (length s.text) s.dataset (stray_done bytes p s) b.0)
dds_bads bytes k l p q (inr (inr a)) (inl b) = absurd (bad_not_unfinished bytes q b.0 a.0)
dds_bads bytes k l p q (inr (inr a)) (inr (inl (s, kind))) = absurd (done_not_unfinished bytes (length s.text) s.dataset (stray_done bytes q s) a.0)
dds_bads bytes k l p q (inr (inr a)) (inr (inr b)) = same_bad k l p q (a.2 ∙ sym b.2) (a.1 ∙ sym b.1)

one_dds : (bytes : List ℕ) (v w : Verdict) → JudgesDds bytes v → JudgesDds bytes w → v ≡ w
one_dds bytes (good d ts) w a b = absurd a
one_dds bytes (good_das d) w a b = absurd a
one_dds bytes (server_error e) w a b = absurd a
one_dds bytes (good_dds d) (good e ts) a b = absurd b
one_dds bytes (good_dds d) (good_das e) a b = absurd b
one_dds bytes (good_dds d) (server_error e) a b = absurd b
one_dds bytes (good_dds d) (good_dds e) (text, white, h, all) (own, more, g, also) = ap good_dds (same_text bytes d e text own white more h g).dataset
one_dds bytes (good_dds d) (bad l q) a b = absurd (dds_and bytes d l q a b)
one_dds bytes (bad k p) (good e ts) a b = absurd b
one_dds bytes (bad k p) (good_das e) a b = absurd b
one_dds bytes (bad k p) (server_error e) a b = absurd b
one_dds bytes (bad k p) (good_dds e) a b = absurd (dds_and bytes e k p b a)
one_dds bytes (bad k p) (bad l q) a b = dds_bads bytes k l p q a b

-- ---- a DAS
das_and : (bytes : List ℕ) (d : Attributes) (k : Bad) (p : ℕ) → JudgesDasText bytes (good_das d) → JudgesDasText bytes (bad k p) → ⊥
das_and bytes d k p a (inl b) = das_not_bad bytes d p a b.0
das_and bytes d k p a (inr (inl b)) = das_not_trailing bytes d p a b.0
das_and bytes d k p a (inr (inr b)) = das_not_cut bytes d a b.0

das_bads : (bytes : List ℕ) (k l : Bad) (p q : ℕ) → JudgesDasText bytes (bad k p) → JudgesDasText bytes (bad l q) → bad k p ≡ bad l q
das_bads bytes k l p q (inl a) (inl b) = same_bad k l p q (a.1 ∙ sym b.1) (one_bad_place bytes p q a.0 b.0)
das_bads bytes k l p q (inl a) (inr (inl b)) = absurd (bad_not_trailing bytes p q a.0 b.0)
das_bads bytes k l p q (inl a) (inr (inr b)) = absurd (bad_not_cut bytes p a.0 b.0)
das_bads bytes k l p q (inr (inl a)) (inl b) = absurd (bad_not_trailing bytes q p b.0 a.0)
das_bads bytes k l p q (inr (inl a)) (inr (inl b)) = same_bad k l p q (a.1 ∙ sym b.1) (one_trailing_place bytes p q a.0 b.0)
das_bads bytes k l p q (inr (inl a)) (inr (inr b)) = absurd (trailing_not_cut bytes p a.0 b.0)
das_bads bytes k l p q (inr (inr a)) (inl b) = absurd (bad_not_cut bytes q b.0 a.0)
das_bads bytes k l p q (inr (inr a)) (inr (inl b)) = absurd (trailing_not_cut bytes q b.0 a.0)
das_bads bytes k l p q (inr (inr a)) (inr (inr b)) = same_bad k l p q (a.2 ∙ sym b.2) (a.1 ∙ sym b.1)

one_das_text : (bytes : List ℕ) (v w : Verdict) → JudgesDasText bytes v → JudgesDasText bytes w → v ≡ w
one_das_text bytes (good d ts) w a b = absurd a
one_das_text bytes (good_dds d) w a b = absurd a
one_das_text bytes (server_error e) w a b = absurd a
one_das_text bytes (good_das d) (good e ts) a b = absurd b
one_das_text bytes (good_das d) (good_dds e) a b = absurd b
one_das_text bytes (good_das d) (server_error e) a b = absurd b
one_das_text bytes (good_das d) (good_das e) a b = ap good_das (one_das bytes d e a b)
one_das_text bytes (good_das d) (bad l q) a b = absurd (das_and bytes d l q a b)
one_das_text bytes (bad k p) (good e ts) a b = absurd b
one_das_text bytes (bad k p) (good_dds e) a b = absurd b
one_das_text bytes (bad k p) (server_error e) a b = absurd b
one_das_text bytes (bad k p) (good_das e) a b = absurd (das_and bytes e k p b a)
one_das_text bytes (bad k p) (bad l q) a b = das_bads bytes k l p q a b

one_attributes : (ts : List Token) (bytes : List ℕ) (v w : Verdict) → JudgesDas ts bytes v → JudgesDas ts bytes w → v ≡ w
one_attributes [] bytes v w (inl (short, a)) (inl (also, b)) = a ∙ sym b
one_attributes [] bytes v w (inl (short, a)) (inr (long, b)) = absurd (omega (arith, short, long))
one_attributes [] bytes v w (inr (long, a)) (inl (short, b)) = absurd (omega (arith, short, long))
one_attributes [] bytes v w (inr (long, a)) (inr (also, b)) = one_das_text bytes v w a b
one_attributes (t ∷ ts) bytes v w a b = one_das_text bytes v w a b

-- ---- a data response, as the reader of whole bodies judges it
abbrev as_body : Verdict → body.Verdict
as_body (good d ts) = body.good d ts
as_body (bad k p) = body.wrong k p
as_body v = body.wrong Cut 0

-- a verdict on a data response is one of these
abbrev IsOne : Verdict → Type 0
IsOne (good d ts) = ⊤
IsOne (bad k p) = ⊤
IsOne v = ⊥

is_one : (bytes : List ℕ) (v : Verdict) → JudgesDods bytes v → IsOne v
is_one bytes (good d ts) a = tt
is_one bytes (bad k p) a = tt
is_one bytes (good_dds d) a = a
is_one bytes (good_das d) a = a
is_one bytes (server_error e) a = a

-- as such it says the same
back : (v w : Verdict) → IsOne v → IsOne w → as_body v ≡ as_body w → v ≡ w
back (good d ts) (good e us) a b is = cc
back (good d ts) (bad l q) a b is = cc
back (bad k p) (good e us) a b is = cc
back (bad k p) (bad l q) a b is = cc
back (good_dds d) w a b is = absurd a
back (good_das d) w a b is = absurd a
back (server_error e) w a b is = absurd a
back (good d ts) (good_dds e) a b is = absurd b
back (good d ts) (good_das e) a b is = absurd b
back (good d ts) (server_error e) a b is = absurd b
back (bad k p) (good_dds e) a b is = absurd b
back (bad k p) (good_das e) a b is = absurd b
back (bad k p) (server_error e) a b is = absurd b

short_body : (bytes : List ℕ) (v : Verdict) → length bytes < budget → JudgesDods bytes v → body.IsVerdict bytes (as_body v)
short_body bytes (good d ts) small a = good_body bytes d ts a small
short_body bytes (bad k p) small a = inl (subst (λ l. IsWrongIn l k p) (sym (small_first bytes small)) a, inl small)
short_body bytes (good_dds d) small a = absurd a
short_body bytes (good_das d) small a = absurd a
short_body bytes (server_error e) small a = absurd a

no_fault : (k : Bad) → is_fault k ≡ false → k ≡ Cut
no_fault BadHead e = cc
no_fault HeadTooLong e = cc
no_fault Coded e = cc
no_fault BadChunk e = cc
no_fault BadDds e = cc
no_fault BadDataLine e = cc
no_fault BadDas e = cc
no_fault BadError e = cc
no_fault BadCount e = cc
no_fault BadWord e = cc
no_fault BadPadding e = cc
no_fault WrongMark e = cc
no_fault Cut e = refl
no_fault Trailing e = cc
no_fault TooLong e = cc

-- what is said of more bytes than are looked at, by what is said of the first
abbrev Long : Verdict → Verdict → Type 0
Long front v = ((is_final front ≡ true) × (v ≡ front)) ⊎ ((is_final front ≡ false) × (v ≡ bad TooLong budget))

long_body : (bytes : List ℕ) (front v : Verdict) → budget ≤ length bytes → JudgesDods (take budget bytes) front → Long front v → body.IsVerdict bytes (as_body v) × IsOne v
long_body bytes (good d ts) v long a (inl (final, is)) = absurd (false≢true final)
long_body bytes (good d ts) v long a (inr (final, is)) = subst (λ x. body.IsVerdict bytes (as_body x) × IsOne x) (sym is) (inr ((long, inl (d, ts, a)), refl, refl), tt)
long_body bytes (bad k p) v long a (inl (final, is)) = subst (λ x. body.IsVerdict bytes (as_body x) × IsOne x) (sym is) (inl (a, inr (faulty_other k final)), tt)
long_body bytes (bad k p) v long a (inr (final, is)) =
    subst (λ x. body.IsVerdict bytes (as_body x) × IsOne x) (sym is) (inr ((long, inr (p, subst (λ x. IsWrongIn (take budget bytes) x p) (no_fault k final) a)), refl, refl), tt)
long_body bytes (good_dds d) v long a l = absurd a
long_body bytes (good_das d) v long a l = absurd a
long_body bytes (server_error e) v long a l = absurd a

-- ---- each form
long_same : (front other v w : Verdict) → front ≡ other → Long front v → Long other w → v ≡ w
long_same front other v w same (inl (a, is)) (inl (b, also)) = is ∙ same ∙ sym also
long_same front other v w same (inl (a, is)) (inr (b, also)) = absurd (false≢true (sym b ∙ sym (ap is_final same) ∙ a))
long_same front other v w same (inr (a, is)) (inl (b, also)) = absurd (false≢true (sym a ∙ ap is_final same ∙ b))
long_same front other v w same (inr (a, is)) (inr (b, also)) = is ∙ sym also

both_ways : (c : Bool) → c ≡ true → c ≡ false → ⊥
both_ways c a b = false≢true (sym b ∙ a)

short_one : (form : Form) (bytes : List ℕ) (v w : Verdict) → length bytes < budget → JudgesForm form bytes v → JudgesForm form bytes w → v ≡ w
short_one dods_form bytes v w small a b =
    back v w (is_one bytes v a) (is_one bytes w b) (one_body_verdict bytes (as_body v) (as_body w) (short_body bytes v small a) (short_body bytes w small b))
short_one dds_form bytes v w small a b = one_dds bytes v w a b
short_one das_form bytes v w small a b = one_attributes (tokens_of bytes) bytes v w a b

short_both : (form : Form) (bytes : List ℕ) (v w : Verdict) → length bytes < budget → Judges form bytes v → Judges form bytes w → v ≡ w
short_both form bytes v w small (inl (s, a)) (inl (t, b)) = one_error bytes v w a b
short_both form bytes v w small (inl (s, a)) (inr (t, b)) = absurd (both_ways (says_error bytes) s t)
short_both form bytes v w small (inr (s, a)) (inl (t, b)) = absurd (both_ways (says_error bytes) t s)
short_both form bytes v w small (inr (s, a)) (inr (t, b)) = short_one form bytes v w small a b

long_one : (form : Form) (bytes : List ℕ) (front other v w : Verdict) → budget ≤ length bytes → JudgesForm form (take budget bytes) front → JudgesForm form (take budget bytes) other → Long front v → Long other w → v ≡ w
long_one dods_form bytes front other v w long a b l m =
    let (this, one) = long_body bytes front v long a l in
    let (that, also) = long_body bytes other w long b m in
    back v w one also (one_body_verdict bytes (as_body v) (as_body w) this that)
long_one dds_form bytes front other v w long a b l m = long_same front other v w (one_dds (take budget bytes) front other a b) l m
long_one das_form bytes front other v w long a b l m = long_same front other v w (one_attributes (tokens_of (take budget bytes)) (take budget bytes) front other a b) l m

long_both : (form : Form) (bytes : List ℕ) (front other v w : Verdict) → budget ≤ length bytes → Judges form (take budget bytes) front → Judges form (take budget bytes) other → Long front v → Long other w → v ≡ w
long_both form bytes front other v w long (inl (s, a)) (inl (t, b)) l m = long_same front other v w (one_error (take budget bytes) front other a b) l m
long_both form bytes front other v w long (inl (s, a)) (inr (t, b)) l m = absurd (both_ways (says_error (take budget bytes)) s t)
long_both form bytes front other v w long (inr (s, a)) (inl (t, b)) l m = absurd (both_ways (says_error (take budget bytes)) t s)
long_both form bytes front other v w long (inr (s, a)) (inr (t, b)) l m = long_one form bytes front other v w long a b l m

pub one_verdict : (form : Form) (bytes : List ℕ) (v w : Verdict) → IsVerdict form bytes v → IsVerdict form bytes w → v ≡ w
one_verdict form bytes v w (inl (small, a)) (inl (also, b)) = short_both form bytes v w small a b
one_verdict form bytes v w (inl (small, a)) (inr (long, other, b, m)) = absurd (omega (arith, small, long))
one_verdict form bytes v w (inr (long, front, a, l)) (inl (small, b)) = absurd (omega (arith, small, long))
one_verdict form bytes v w (inr (long, front, a, l)) (inr (also, other, b, m)) = long_both form bytes front other v w long a b l m
