-- Final heads of replies: there is one, and it stays where bytes follow.
use Rattle.std.proofs.Common.{◌≡◌, ℕ, ◌+◌, ◌<◌, ◌≤◌, ◌⊎◌, List, [], ◌∷◌, ◌++◌, length, refl, sym, ap, ◌∙◌, subst, arith, append_assoc, append-nil, length-append, inl, inr}
use Rattle.std.proofs.lemmas.Bool.{cases_lt}
use Rattle.std.specs.Prelude.{IsTrue, not}
use Rattle.httparse.specs.Grammar.{NeverHasResponse, ReadsResponse, ResponseHead, print_response}
use Rattle.reply_faults.specs.declared.bad.Bad.{Bad}
use Rattle.dap_http.specs.Reading.{GivesFinal}
use Rattle.dap_http.specs.Replies.{AreTooLong, HasFinal, Interim, IsNoReply, ReadsReply, coding_in, is_interim}
use Rattle.dap_http.specs.Requests.{feeds}
use Rattle.dap_http.specs.declared.coding.Coding.{Coding}
use Rattle.dap_http.proofs.Feeds.{feeds-append}
use Rattle.dap_http.proofs.ReplyReading.{clash, final-behind, first-of, interim-append, interim-long, reads-append, reads-long, reads-same, within-first}

pub final-more : (bytes more rest : List ℕ) (head : ResponseHead) → HasFinal bytes head rest → HasFinal (bytes ++ more) head (rest ++ more)
final-more bytes more rest head f = record {
  before = f.before;
  behind = f.behind ++ more;
  interim = interim-append f.before bytes f.behind more f.interim;
  reads = reads-append f.behind rest more head f.reads;
  is_final = f.is_final;
}

first-final : (ks : List ResponseHead) (behind there r q : List ℕ) (h k : ResponseHead) → ReadsReply behind h r → IsTrue (not (is_interim h)) → Interim ks behind there → ReadsReply there k q → (h ≡ k) × (r ≡ q)
first-final [] behind there r q h k reads is e last = reads-same behind r q h k reads (subst (λ (x : List ℕ). ReadsReply x k q) (sym e) last)
first-final (x ∷ ks) behind there r q h k reads is (b, read, i, more) last = absurd (clash x h (sym (reads-same behind r b h x reads read).0) i is)

pub one-final : (bytes r q : List ℕ) (h k : ResponseHead) → HasFinal bytes h r → HasFinal bytes k q → (h ≡ k) × (r ≡ q)
one-final bytes r q h k f g =
    let there = final-behind f.before bytes f.behind q k f.interim g in
    first-final there.before f.behind there.behind r q h k f.reads f.is_final there.interim there.reads

pub gives-more : (bytes more rest : List ℕ) (answer : Bad ⊎ Coding) → GivesFinal bytes rest answer → GivesFinal (bytes ++ more) (rest ++ more) answer
gives-more bytes more rest answer (head, final, within, is) =
    (head, final-more bytes more rest head final, omega (arith, within, length-append bytes more, length-append rest more), is)

pub one-gives : (bytes r q : List ℕ) (a b : Bad ⊎ Coding) → GivesFinal bytes r a → GivesFinal bytes q b → (r ≡ q) × (a ≡ b)
one-gives bytes r q a b (h, f, w, is) (k, g, v, same) =
    let (heads, rests) = one-final bytes r q h k f g in
    (rests, sym is ∙ ap coding_in heads ∙ same)

-- ---- no final head

pub no-reply-final : (bytes rest : List ℕ) (head : ResponseHead) → IsNoReply bytes → HasFinal bytes head rest → ⊥
no-reply-final bytes rest head none f =
    let (h, b, reads, le) = first-of none.behind rest head (final-behind none.before bytes none.behind rest head none.interim f) in
    none.never [] b h (subst (λ (x : List ℕ). ReadsReply x h b) (sym (append-nil none.behind)) reads)

pub no-reply-more : (bytes more : List ℕ) → IsNoReply bytes → IsNoReply (bytes ++ more)
no-reply-more bytes more none = record {
  before = none.before;
  behind = none.behind ++ more;
  interim = interim-append none.before bytes none.behind more none.interim;
  never = λ m rest head reads. none.never (more ++ m) rest head (subst (λ (x : List ℕ). ReadsReply x head rest) (append_assoc none.behind more m) reads);
  why = go none.why;
} where
  go : NeverHasResponse none.behind ⊎ (130 ≤ feeds none.behind) → NeverHasResponse (none.behind ++ more) ⊎ (130 ≤ feeds (none.behind ++ more))
  go (inl never) = inl (λ m head rest reads. never (more ++ m) head rest (subst (λ (x : List ℕ). ReadsResponse x head rest) (append_assoc none.behind more m) reads))
  go (inr many) = inr (omega (arith, many, feeds-append none.behind more))

-- heads that end within the bytes stand in them
pub record Within (hs : List ResponseHead) (bytes more rest : List ℕ) (head : ResponseHead) : Type 0 where
  pub behind : List ℕ
  pub left : List ℕ
  pub interim : Interim hs bytes behind
  pub reads : ReadsReply behind head left
  pub rest_is : rest ≡ left ++ more

final-within : (hs : List ResponseHead) (bytes more behind rest : List ℕ) (head : ResponseHead) → Interim hs (bytes ++ more) behind → ReadsReply behind head rest
    → length (bytes ++ more) ≤ length rest + length bytes → Within hs bytes more rest head
final-within [] bytes more behind rest head e reads le =
    let here = subst (λ (x : List ℕ). ReadsReply x head rest) (sym e) reads in
    let (left, stands) = within-first bytes more rest head here le in
    record { behind = bytes; left = left; interim = refl; reads = stands; rest_is = (reads-same (bytes ++ more) rest (left ++ more) head head here (reads-append bytes left more head stands)).1 }
final-within (h ∷ hs) bytes more behind rest head (b, r, i, m) reads le =
    let short = interim-long hs b behind m in
    let last = reads-long behind rest head reads in
    let (left, stands) = within-first bytes more b h r (omega (arith, le, short, last)) in
    let same : b ≡ left ++ more = (reads-same (bytes ++ more) b (left ++ more) h h r (reads-append bytes left more h stands)).1 in
    let count : length bytes ≡ length (print_response h) + length left = ap length stands.0.1 ∙ length-append (print_response h) left in
    let w = final-within hs left more behind rest head (subst (λ (x : List ℕ). Interim hs x behind) same m) reads (omega (arith, le, count, length-append bytes more, length-append left more)) in
    record { behind = w.behind; left = w.left; interim = (left, stands, i, w.interim); reads = w.reads; rest_is = w.rest_is }

pub too-long-more : (bytes more : List ℕ) → AreTooLong bytes → AreTooLong (bytes ++ more)
too-long-more bytes more long = record { many = omega (arith, long.many, length-append bytes more); none = λ head rest f. go head rest f (cases_lt (length rest + 65536) (length (bytes ++ more))) } where
  go : (head : ResponseHead) (rest : List ℕ) → HasFinal (bytes ++ more) head rest → (length rest + 65536 < length (bytes ++ more)) ⊎ (length (bytes ++ more) ≤ length rest + 65536) → length rest + 65536 < length (bytes ++ more)
  go head rest f (inl lt) = lt
  go head rest f (inr ge) =
      let w = final-within f.before bytes more f.behind rest head f.interim f.reads (omega (arith, ge, long.many)) in
      let less = long.none head w.left (record { before = f.before; behind = w.behind; interim = w.interim; reads = w.reads; is_final = f.is_final }) in
      omega (arith, less, ap length w.rest_is, length-append w.left more, length-append bytes more)
