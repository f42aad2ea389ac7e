-- Heads of replies in buffers that grow.
use Rattle.std.proofs.Common.{◌≡◌, ℕ, ◌+◌, ◌<◌, ◌≤◌, Bool, true, false, not, List, [], ◌∷◌, ◌++◌, length, take, drop, map, Some, Option, Result, Ok, Err, refl, sym, ap, ◌∙◌, subst, arith, append-nil, length-append, length-drop, inl, inr}
use Rattle.std.proofs.lemmas.Bool.{cases_lt, false≢true}
use Rattle.std.proofs.lemmas.List.{drop-append-le, drop-drop, length-map, length-take}
use Rattle.std.proofs.lemmas.List.Sums.{count_by-le-length}
use Rattle.std.specs.Prelude.{IsTrue, ◌==◌, nat_le, nat_lt, ◌&&◌}
use Rattle.httparse.specs.Grammar.{HasNoResponse, NeverHasResponse, ResponseHead, print_response, print_section, status_code}
use Rattle.httparse.specs.Spans.{IsResponseOf, IsResponseWithin, ResponseOverflows, header_bytes, name_and_value}
use Rattle.httparse.specs.declared.spans.HeaderSpan.{HeaderSpan}
use Rattle.httparse.specs.declared.spans.ResponseSpans.{ResponseSpans}
use Rattle.httparse.proofs.GrammarLemmas.{ReadsResponse-append, response_unique}
use Rattle.reply_faults.specs.declared.bad.Bad.{Bad}
use Rattle.dap_http.specs.Reading.{Answers, GivesFinal, AnswersFinalHead}
use Rattle.dap_http.specs.Replies.{AreCut, AreTooLong, HasFinal, HasNoFinal, Interim, IsNoReply, NoMoreReply, ReadsReply, coding_by, coding_in, is_interim}
use Rattle.dap_http.specs.inner.ReplyJudging.{HasNoReplyHead, HeadOf, IsPast, IsReadOf, IsReplyJudged, as_sum}
use Rattle.dap_http.specs.Requests.{feeds}
use Rattle.dap_http.specs.declared.coding.Coding.{Coding}
use Rattle.dap_http.specs.declared.reply_judge.ReplyJudged.TheVariants as judged
use Rattle.dap_http.specs.declared.reply_reader.ReplyRead.{ReplyRead}
use Rattle.dap_http.proofs.Feeds.{feeds-append, feeds-section, no-feed}
use Rattle.std.specs.Io.KnownBytes.{Consumes, IsAtEnd}
use Rattle.dap_http.proofs.HeadReading.{front-of, left-behind}
use Rattle.dap_http.proofs.ReplyFeeds.{print_start, reply-feed, reply_parts}

pub no-head : (bytes : List ℕ) → HasNoResponse bytes → HasNoReplyHead bytes
no-head bytes none head rest reads = none head rest reads.0

pub no-more : (bytes : List ℕ) → NeverHasResponse bytes → NoMoreReply bytes
no-more bytes never more rest head reads = never more head rest reads.0

pub no-room : (bytes : List ℕ) → ResponseOverflows 128 bytes → NoMoreReply bytes
no-room bytes over more rest head reads = omega (arith, over more head rest reads.0, reads.1)

-- ---- a head that the parser's spans cover

some-bytes : (h : ResponseHead) → 0 < length (print_response h)
some-bytes h =
    let e : length (print_response h) ≡ length (print_start h ++ print_section h.fields h.last) = ap length (reply_parts h) in
    omega (arith, e, length-append (print_start h) (print_section h.fields h.last), count_by-le-length (λ b. b == 10) (print_section h.fields h.last), feeds-section h.fields h.last)

pub told-reply : (bytes : List ℕ) (headers : List HeaderSpan) (spans : ResponseSpans) → length headers ≡ 128 → IsResponseWithin bytes headers spans → IsResponseOf bytes headers spans
    → (head : ResponseHead) × HeadOf bytes spans.len head × (status_code head ≡ spans.code) × (coding_in head ≡ coding_by (map (header_bytes bytes) (take spans.headers headers)))
unfolding coding_in
told-reply bytes headers spans room within (head, at) =
    let count : length (map (header_bytes bytes) (take spans.headers headers)) ≡ length (map name_and_value head.fields) = ap length at.fields in
    let a = length-map (take spans.headers headers) (header_bytes bytes) in
    let b = length-map head.fields name_and_value in
    let few : length head.fields ≤ 128 = omega (arith, count, a, b, room, length-take spans.headers headers) in
    (head, (omega (arith, some-bytes head, at.len), within.section.len_fits, (at.reads, few)), sym at.code, ap coding_by (sym at.fields))

-- ---- heads of status 100 to 199

pub reads-append : (bytes rest more : List ℕ) (head : ResponseHead) → ReadsReply bytes head rest → ReadsReply (bytes ++ more) head (rest ++ more)
reads-append bytes rest more head (reads, few) = (ReadsResponse-append bytes head rest more reads, few)

interim-push : (hs : List ResponseHead) (bytes rest behind : List ℕ) (head : ResponseHead) → Interim hs bytes rest → ReadsReply rest head behind → IsTrue (is_interim head)
    → (all : List ResponseHead) × Interim all bytes behind
interim-push [] bytes rest behind head e reads is = (head ∷ [], (behind, subst (λ (b : List ℕ). ReadsReply b head behind) (sym e) reads, is, refl))
interim-push (h ∷ hs) bytes rest behind head (b, r, i, more) reads is =
    let (all, m) = interim-push hs b rest behind head more reads is in (h ∷ all, (b, r, i, m))

pub interim-append : (hs : List ResponseHead) (bytes rest more : List ℕ) → Interim hs bytes rest → Interim hs (bytes ++ more) (rest ++ more)
interim-append [] bytes rest more e = ap (λ t. t ++ more) e
interim-append (h ∷ hs) bytes rest more (b, r, i, m) = (b ++ more, reads-append bytes b more h r, i, interim-append hs b rest more m)

pub past-none : (bytes : List ℕ) → IsPast bytes 0
past-none bytes = record { within = omega arith; heads = ([], refl) }

pub past-head : (bytes : List ℕ) (at len : ℕ) → IsPast bytes at → IsReplyJudged (drop at bytes) (judged.Interim len) → IsPast bytes (at + len)
past-head bytes at len past (head, (some, fits, reads), is) =
    let (hs, before) = past.heads in
    let there : ReadsReply (drop at bytes) head (drop (at + len) bytes) = subst (ReadsReply (drop at bytes) head) (drop-drop len at bytes) reads in
    record { within = omega (arith, past.within, fits, length-drop at bytes); heads = interim-push hs bytes (drop at bytes) (drop (at + len) bytes) head before there is }

pub past-more : (bytes x : List ℕ) (at : ℕ) → IsPast bytes at → IsPast (bytes ++ x) at
past-more bytes x at past =
    let (hs, before) = past.heads in
    let grown : Interim hs (bytes ++ x) (drop at bytes ++ x) = interim-append hs bytes (drop at bytes) x before in
    record { within = omega (arith, past.within, length-append bytes x); heads = (hs, subst (Interim hs (bytes ++ x)) (sym (drop-append-le at bytes x past.within)) grown) }

pub reads-same : (bytes r q : List ℕ) (h k : ResponseHead) → ReadsReply bytes h r → ReadsReply bytes k q → (h ≡ k) × (r ≡ q)
reads-same bytes r q h k x y = response_unique bytes h k r q x.0 y.0

pub clash : (h k : ResponseHead) → h ≡ k → IsTrue (is_interim h) → IsTrue (not (is_interim k)) → ⊥
clash h k e is final_one = go (is_interim k) (subst (λ (x : ResponseHead). IsTrue (is_interim x)) e is) final_one where
  go : (b : Bool) → IsTrue b → IsTrue (not b) → ⊥
  go true p q = false≢true q
  go false p q = false≢true p

-- behind interim heads stands the same final one
pub final-behind : (hs : List ResponseHead) (bytes behind rest : List ℕ) (head : ResponseHead) → Interim hs bytes behind → HasFinal bytes head rest → HasFinal behind head rest
final-behind [] bytes behind rest head e f = subst (λ (b : List ℕ). HasFinal b head rest) e f
final-behind (h ∷ hs) bytes behind rest head (b, r, i, more) f = final-behind hs b behind rest head more (go f.before f.interim) where
  go : (ks : List ResponseHead) → Interim ks bytes f.behind → HasFinal b head rest
  go [] e = absurd (clash h head (reads-same bytes b rest h head r (subst (λ (x : List ℕ). ReadsReply x head rest) (sym e) f.reads)).0 i f.is_final)
  go (k ∷ ks) (b2, r2, i2, more2) =
      record { before = ks; behind = f.behind; interim = subst (λ (x : List ℕ). Interim ks x f.behind) (sym (reads-same bytes b b2 h k r r2).1) more2; reads = f.reads; is_final = f.is_final }

pub reads-long : (bytes rest : List ℕ) (head : ResponseHead) → ReadsReply bytes head rest → length rest ≤ length bytes
reads-long bytes rest head ((valid, is), few) = omega (arith, ap length is, length-append (print_response head) rest)

pub interim-long : (hs : List ResponseHead) (bytes rest : List ℕ) → Interim hs bytes rest → length rest ≤ length bytes
interim-long [] bytes rest e = omega (arith, ap length e)
interim-long (h ∷ hs) bytes rest (b, r, i, more) = omega (arith, reads-long bytes b h r, interim-long hs b rest more)

-- a first head, and the final one ends no sooner
pub first-of : (bytes rest : List ℕ) (head : ResponseHead) → HasFinal bytes head rest → (h : ResponseHead) × (b : List ℕ) × ReadsReply bytes h b × (length rest ≤ length b)
first-of bytes rest head f = go f.before f.interim where
  go : (ks : List ResponseHead) → Interim ks bytes f.behind → (h : ResponseHead) × (b : List ℕ) × ReadsReply bytes h b × (length rest ≤ length b)
  go [] e = (head, rest, subst (λ (x : List ℕ). ReadsReply x head rest) (sym e) f.reads, omega arith)
  go (k ∷ ks) (b, r, i, more) = (k, b, r, omega (arith, interim-long ks b f.behind more, reads-long f.behind rest head f.reads))

-- a head that ends within the bytes stands in them
pub within-first : (bytes more rest : List ℕ) (head : ResponseHead) → ReadsReply (bytes ++ more) head rest → length (bytes ++ more) ≤ length rest + length bytes → (left : List ℕ) × ReadsReply bytes head left
within-first bytes more rest head ((valid, is), few) le =
    let fits : length (print_response head) ≤ length bytes = omega (arith, ap length is, length-append (print_response head) rest, le) in
    (drop (length (print_response head)) bytes, ((valid, front-of bytes more (print_response head) rest is fits), few))

-- ---- what a turn answers

past-final : (bytes more rest : List ℕ) (at : ℕ) (head : ResponseHead) → IsPast bytes at → HasFinal (bytes ++ more) head rest → HasFinal (drop at bytes ++ more) head rest
past-final bytes more rest at head past f =
    let (hs, before) = past.heads in
    final-behind hs (bytes ++ more) (drop at bytes ++ more) rest head (interim-append hs bytes (drop at bytes) more before) f

pub none-past : (bytes : List ℕ) (at : ℕ) → IsPast bytes at → HasNoReplyHead (drop at bytes) → HasNoFinal bytes
none-past bytes at past none head rest f =
    let (hs, before) = past.heads in
    let (h, b, reads, le) = first-of (drop at bytes) rest head (final-behind hs bytes (drop at bytes) rest head before f) in
    none h b reads

pub too-long : (bytes : List ℕ) (at : ℕ) → IsPast bytes at → HasNoReplyHead (drop at bytes) → 65536 ≤ length bytes → AreTooLong (bytes ++ [])
too-long bytes at past none many =
    subst AreTooLong (sym (append-nil bytes)) (record { many = many; none = λ head rest f. absurd (none-past bytes at past none head rest f) })

pub too-long-final : (bytes more rest : List ℕ) (at : ℕ) (head : ResponseHead) → IsPast bytes at → HasNoReplyHead (drop at bytes) → 65536 ≤ length bytes → HasFinal (bytes ++ more) head rest
    → length rest + 65536 < length (bytes ++ more)
too-long-final bytes more rest at head past none many f = elim (cases_lt (length rest + 65536) (length (bytes ++ more))) [
  | inl lt ↦ lt
  | inr ge ↦
      let (h, b, reads, le) = first-of (drop at bytes ++ more) rest head (past-final bytes more rest at head past f) in
      let (left, stands) = within-first (drop at bytes) more b h reads
      (omega (arith, ge, le, many, past.within, length-append bytes more, length-append (drop at bytes) more, length-drop at bytes)) in
      absurd (none h left stands)
]

no-more-bytes : (bytes x : List ℕ) → length (bytes ++ x) ≡ length bytes → bytes ≡ bytes ++ x
no-more-bytes bytes [] e = sym (append-nil bytes)
no-more-bytes bytes (b ∷ x) e = absurd (omega (arith, e, length-append bytes (b ∷ x)))

-- bytes without a line feed end no head
none-still : (bytes x : List ℕ) → HasNoReplyHead bytes → feeds (bytes ++ x) ≡ feeds bytes → HasNoReplyHead (bytes ++ x)
none-still bytes x none same head rest ((valid, is), few) =
    let (front, ends) = reply-feed head in
    let le = no-feed bytes x (print_response head) rest front is ends same in
    let fits : length (bytes ++ x) ≤ length rest + length bytes = omega (arith, ap length is, length-append (print_response head) rest, le) in
    let (left, within) = within-first bytes x rest head ((valid, is), few) fits in
    none head left within

pub none-yet : (bytes x : List ℕ) (at : ℕ) → IsPast bytes at → HasNoReplyHead (drop at bytes) → feeds (bytes ++ x) ≡ feeds bytes → HasNoFinal (bytes ++ x)
none-yet bytes x at past none same =
    let grown = drop-append-le at bytes x past.within in
    let plain : feeds (drop at bytes ++ x) ≡ feeds (drop at bytes) = omega (arith, same, feeds-append bytes x, feeds-append (drop at bytes) x) in
    none-past (bytes ++ x) at (past-more bytes x at past) (subst HasNoReplyHead (sym grown) (none-still (drop at bytes) x none plain))

pub are-cut : (bytes x : List ℕ) (at : ℕ) → IsPast bytes at → IsReplyJudged (drop at bytes) judged.Partial → length (bytes ++ x) ≡ length bytes → length bytes < 65536 → AreCut (bytes ++ x)
are-cut bytes x at past (none, why) same few =
    let (hs, before) = past.heads in
    subst AreCut (no-more-bytes bytes x same)
    (record { few = few; none = none-past bytes at past none; before = hs; behind = drop at bytes; interim = before; last = none; why = why })

pub no-reply : (bytes : List ℕ) (at : ℕ) → IsPast bytes at → IsReplyJudged (drop at bytes) judged.Bad → IsNoReply (bytes ++ [])
no-reply bytes at past (never, why) =
    let (hs, before) = past.heads in
    subst IsNoReply (sym (append-nil bytes)) (record { before = hs; behind = drop at bytes; interim = before; never = never; why = why })

pub never-final : (bytes more rest : List ℕ) (at : ℕ) (head : ResponseHead) → IsPast bytes at → NoMoreReply (drop at bytes) → HasFinal (bytes ++ more) head rest → ⊥
never-final bytes more rest at head past never f =
    let (h, b, reads, le) = first-of (drop at bytes ++ more) rest head (past-final bytes more rest at head past f) in never more b h reads

-- the final head that stands in the bytes is the one that stands in the input
pub same-final : (bytes more rest : List ℕ) (at len : ℕ) (head : ResponseHead) (coding : Result Coding Bad) → IsPast bytes at → IsReplyJudged (drop at bytes) (judged.Final coding len)
    → HasFinal (bytes ++ more) head rest → coding_in head ≡ as_sum coding
same-final bytes more rest at len head coding past (own, (some, fits, reads), own_final, is) f = same (past-final bytes more rest at head past f) where
  there : ReadsReply (drop at bytes ++ more) own (drop len (drop at bytes) ++ more)
  there = reads-append (drop at bytes) (drop len (drop at bytes)) more own reads

  go : (behind : List ℕ) → ReadsReply behind head rest → (ks : List ResponseHead) → Interim ks (drop at bytes ++ more) behind → coding_in head ≡ as_sum coding
  go behind last [] e = ap coding_in (sym (reads-same (drop at bytes ++ more) (drop len (drop at bytes) ++ more) rest own head there (subst (λ (x : List ℕ). ReadsReply x head rest) (sym e) last)).0) ∙ is
  go behind last (k ∷ ks) (b, r, i, m) = absurd (clash k own (sym (reads-same (drop at bytes ++ more) (drop len (drop at bytes) ++ more) b own k there r).0) i own_final)

  same : HasFinal (drop at bytes ++ more) head rest → coding_in head ≡ as_sum coding
  same g = go g.behind g.reads g.before g.interim

pub gives-final : (bytes kept : List ℕ) (at len : ℕ) (coding : Result Coding Bad) → IsPast bytes at → IsReplyJudged (drop at bytes) (judged.Final coding len) → kept ≡ drop (at + len) bytes → length bytes ≤ 65536
    → GivesFinal (bytes ++ []) kept (as_sum coding)
gives-final bytes kept at len coding past (own, (some, fits, reads), own_final, is) e few =
    let (hs, before) = past.heads in
    let tail : drop len (drop at bytes) ≡ kept = drop-drop len at bytes ∙ sym e in
    let f : HasFinal bytes own kept = record { before = hs; behind = drop at bytes; interim = before; reads = subst (ReadsReply (drop at bytes) own) tail reads; is_final = own_final } in
    (own, subst (λ (b : List ℕ). HasFinal b own kept) (sym (append-nil bytes)) f, omega (arith, few, ap length (append-nil bytes)), is)

pub answers-final : (bytes kept : List ℕ) (ended : Bool) (coding : Result Coding Bad) (read : ReplyRead) → IsReadOf coding read → GivesFinal bytes kept (as_sum coding) → Answers bytes kept ended read
answers-final bytes kept ended (Ok c) read e gives = subst (Answers bytes kept ended) (sym e) gives
answers-final bytes kept ended (Err kind) read e gives = subst (Answers bytes kept ended) (sym e) (refl, inr (inr (inr gives)))

pub answered-final : (input rest : List ℕ) (head : ResponseHead) (coding : Result Coding Bad) (read : ReplyRead) → IsReadOf coding read → coding_in head ≡ as_sum coding → AnswersFinalHead input head rest read
answered-final input rest head (Ok c) read e is = subst (AnswersFinalHead input head rest) (sym e) is
answered-final input rest head (Err kind) read e is = subst (AnswersFinalHead input head rest) (sym e) (inl is)

pub interim-is : (head : ResponseHead) (n : ℕ) (b : Bool) → status_code head ≡ n → b ≡ (nat_le 100 n && nat_lt n 200) → is_interim head ≡ b
interim-is head n b e is = ap (λ m. nat_le 100 m && nat_lt m 200) e ∙ sym is

-- what is left is what was taken where nothing is left
at-end : (a b : Option (List ℕ)) (left x : List ℕ) → a ≡ Some left → Consumes a b x → IsAtEnd b → left ≡ x
at-end a b left x e consumes ended =
    let (behind, now, is) = left-behind a b left x e consumes in
    let none : behind ≡ [] = subst IsAtEnd now ended in
    is ∙ ap (λ t. x ++ t) none ∙ append-nil x

pub cut-final : (a b : Option (List ℕ)) (bytes left x rest : List ℕ) (at : ℕ) (head : ResponseHead) → a ≡ Some left → Consumes a b x → IsAtEnd b → length (bytes ++ x) ≡ length bytes
    → IsPast bytes at → HasNoReplyHead (drop at bytes) → HasFinal (bytes ++ left) head rest → ⊥
cut-final a b bytes left x rest at head e consumes ended same past none f =
    let all : bytes ++ left ≡ bytes = ap (λ t. bytes ++ t) (at-end a b left x e consumes ended) ∙ sym (no-more-bytes bytes x same) in
    none-past bytes at past none head rest (subst (λ (t : List ℕ). HasFinal t head rest) all f)

pub never-now : (bytes : List ℕ) → NoMoreReply bytes → HasNoReplyHead bytes
never-now bytes never head rest reads = never [] rest head (subst (λ (t : List ℕ). ReadsReply t head rest) (sym (append-nil bytes)) reads)
