-- Heads in buffers that grow.
use Rattle.std.specs.Prelude.{Bool, codes}
use Rattle.std.specs.Str.{bytes_eq}
use Rattle.std.proofs.Common.{◌≡◌, ℕ, ◌+◌, ◌<◌, ◌≤◌, List, [], ◌∷◌, ◌++◌, length, take, drop, map, Some, None, Option, refl, sym, ap, ◌∙◌, subst, arith, append_assoc, append-nil, length-append, ◌⊎◌, inl, inr}
use Rattle.std.proofs.lemmas.List.{length-map, length-take, take-append-le, take-append-drop}
use Rattle.std.proofs.Math.Seq.{take-append_seam}
use Rattle.std.specs.Io.KnownBytes.{Consumes}
use Rattle.httparse.specs.Grammar.{HasNoRequest, NeverHasRequest, ReadsRequest, RequestHead, print_request}
use Rattle.httparse.specs.Spans.{IsRequestOf, IsRequestWithin, RequestOverflows, header_bytes, name_and_value, span_bytes}
use Rattle.httparse.specs.declared.spans.HeaderSpan.{HeaderSpan}
use Rattle.httparse.specs.declared.spans.RequestSpans.{RequestSpans}
use Rattle.dap_http.specs.Reading.{IsHead}
use Rattle.dap_http.specs.declared.head_reader.Head.{Head}
use Rattle.dap_http.specs.inner.Judging.{IsJudged}
use Rattle.dap_http.specs.declared.head_judge.Judged.TheVariants.{Bad, Memory as Wanted, Partial, Whole}
use Rattle.dap_http.specs.Requests.{FirstRequest, HasNoHead, HasNoRequest as HasNoFirst, NeverHasHead, ReadsHead, IsBadRequest, IsTooLong, IsGone, ends_by, ends_itself, feeds}
use Rattle.dap_http.proofs.Feeds.{feeds-append, no-feed, request-feed}

pub no-head : (bytes : List ℕ) → HasNoRequest bytes → HasNoHead bytes
no-head bytes none head rest reads = none head rest reads.0

pub never-head : (bytes : List ℕ) → NeverHasRequest bytes → NeverHasHead bytes
never-head bytes never more head rest reads = never more head rest reads.0

pub never-fits : (bytes : List ℕ) → RequestOverflows 64 bytes → NeverHasHead bytes
never-fits bytes over more head rest reads = omega (arith, over more head rest reads.0, reads.1)

pub none-now : (bytes : List ℕ) → NeverHasHead bytes → HasNoHead bytes
none-now bytes never head rest reads = never [] head rest (subst (λ (b : List ℕ). ReadsHead b head rest) (sym (append-nil bytes)) reads)

-- a front that is as long as what stands before some rest
pub front-of : (a b c d : List ℕ) → a ++ b ≡ c ++ d → length c ≤ length a → a ≡ c ++ drop (length c) a
front-of a b c d e le =
    let first : take (length c) (a ++ b) ≡ c = ap (take (length c)) e ∙ take-append_seam c d in
    let same : take (length c) a ≡ c = sym (take-append-le (length c) a b le) ∙ first in
    sym (take-append-drop (length c) a) ∙ ap (λ t. t ++ drop (length c) a) same

-- a head that ends within the bytes stands in them, whatever follows
pub head-within : (bytes more rest : List ℕ) (head : RequestHead) → ReadsHead (bytes ++ more) head rest → length (bytes ++ more) ≤ length rest + length bytes
    → (left : List ℕ) × ReadsHead bytes head left
head-within bytes more rest head ((valid, is), few) le =
    let long : length (bytes ++ more) ≡ length (print_request head ++ rest) = ap length is in
    let fits : length (print_request head) ≤ length bytes = omega (arith, long, length-append (print_request head) rest, le) in
    (drop (length (print_request head)) bytes, ((valid, front-of bytes more (print_request head) rest is fits), few))

pub none-within : (bytes more rest : List ℕ) (head : RequestHead) → HasNoHead bytes → 16384 ≤ length bytes → FirstRequest (bytes ++ more) head rest → ⊥
none-within bytes more rest head none long (reads, le) =
    let (left, within) = head-within bytes more rest head reads (omega (arith, le, long)) in none head left within

pub too-long : (bytes : List ℕ) → HasNoHead bytes → 16384 ≤ length bytes → IsTooLong bytes
too-long bytes none long = record { many = long; none = λ head rest first. none head rest first.0 }

-- bytes without a line feed end no head
pub none-still : (bytes x : List ℕ) → HasNoHead bytes → feeds (bytes ++ x) ≡ feeds bytes → HasNoHead (bytes ++ x)
none-still bytes x none same head rest ((valid, is), few) =
    let (front, ends) = request-feed head in
    let le = no-feed bytes x (print_request head) rest front is ends same in
    let fits : length (bytes ++ x) ≤ length rest + length bytes = omega (arith, ap length is, length-append (print_request head) rest, le) in
    let (left, within) = head-within bytes x rest head ((valid, is), few) fits in
    none head left within

pub no-request : (bytes : List ℕ) → HasNoHead bytes → HasNoFirst bytes
no-request bytes none head rest first = none head rest first.0

no-more : (bytes x : List ℕ) → length (bytes ++ x) ≡ length bytes → bytes ≡ bytes ++ x
no-more bytes [] e = sym (append-nil bytes)
no-more bytes (b ∷ x) e = absurd (omega (arith, e, length-append bytes (b ∷ x)))

pub gone : (bytes x : List ℕ) → IsJudged bytes Partial → length (bytes ++ x) ≡ length bytes → length bytes < 16384 → IsGone (bytes ++ x)
gone bytes x (none, why) same few =
    subst IsGone (no-more bytes x same) (record { few = few; none = none; why = why })

-- what is left behind what was taken
pub left-behind : (a b : Option (List ℕ)) (left taken : List ℕ) → a ≡ Some left → Consumes a b taken → (behind : List ℕ) × (b ≡ Some behind) × (left ≡ taken ++ behind)
left-behind a b left taken e consumes = go b (subst (λ (o : Option (List ℕ)). Consumes o b taken) e consumes) where
  go : (c : Option (List ℕ)) → Consumes (Some left) c taken → (behind : List ℕ) × (c ≡ Some behind) × (left ≡ taken ++ behind)
  go None is = elim is [ ]
  go (Some behind) is = (behind, refl, is)

-- the head that the parser's spans cover
pub told-head : (bytes : List ℕ) (headers : List HeaderSpan) (spans : RequestSpans) (h : Head) → length headers ≡ 64 → IsRequestWithin bytes headers spans → IsRequestOf bytes headers spans
    → h.method ≡ span_bytes bytes spans.method → h.target ≡ span_bytes bytes spans.path → h.minor ≡ spans.version
    → h.ends ≡ ends_by spans.version (span_bytes bytes spans.method) (map (header_bytes bytes) (take spans.headers headers))
    → IsJudged bytes (Whole h spans.len)
unfolding ends_itself
told-head bytes headers spans h room within (tree, at) method target minor ends =
    let count : length (map (header_bytes bytes) (take spans.headers headers)) ≡ length (map name_and_value tree.fields) = ap length at.fields in
    let a = length-map (take spans.headers headers) (header_bytes bytes) in
    let b = length-map tree.fields name_and_value in
    let few : length tree.fields ≤ 64 = omega (arith, count, a, b, room, length-take spans.headers headers) in
    let same : ends_by spans.version (span_bytes bytes spans.method) (map (header_bytes bytes) (take spans.headers headers)) ≡ ends_by tree.minor tree.method (map name_and_value tree.fields) =
    ap (λ v. ends_by v (span_bytes bytes spans.method) (map (header_bytes bytes) (take spans.headers headers))) at.version
    ∙ ap (λ m. ends_by tree.minor m (map (header_bytes bytes) (take spans.headers headers))) at.method ∙ ap (ends_by tree.minor tree.method) at.fields in
    (within.section.len_fits, (tree, (at.reads, few), record { method = method ∙ at.method; target = target ∙ at.path; minor = minor ∙ at.version; ends = ends ∙ same }))

-- it is the first request of the bytes, which are few
pub first-request : (bytes kept : List ℕ) (h : Head) (len : ℕ) → IsJudged bytes (Whole h len) → kept ≡ drop len bytes → length bytes ≤ 16384
    → (tree : RequestHead) × FirstRequest (bytes ++ []) tree kept × IsHead h tree
first-request bytes kept h len (fits, (tree, reads, told)) is few =
    let whole = append-nil bytes in
    (tree, (subst (λ (b : List ℕ). ReadsHead b tree kept) (sym whole) (subst (ReadsHead bytes tree) (sym is) reads), omega (arith, few, ap length whole)), told)

-- and so it is where memory is wanted for it
pub wanted-request : (bytes : List ℕ) (is_head : Bool) → IsJudged bytes (Wanted is_head) → length bytes ≤ 16384
    → ((tree : RequestHead) × (rest : List ℕ) × FirstRequest (bytes ++ []) tree rest × (is_head ≡ bytes_eq tree.method (codes "HEAD"))) × (bytes ≡ bytes ++ [])
wanted-request bytes is_head (tree, rest, reads, is) few =
    let whole = append-nil bytes in
    ((tree, rest, (subst (λ (b : List ℕ). ReadsHead b tree rest) (sym whole) reads, omega (arith, few, ap length whole)), is), sym whole)

pub bad-request : (bytes : List ℕ) → IsJudged bytes Bad → IsBadRequest (bytes ++ []) × (bytes ≡ bytes ++ [])
bad-request bytes (never, why) = (subst IsBadRequest (sym (append-nil bytes)) (record { never = never; why = why }), sym (append-nil bytes))

-- what is refused stays so
pub never-still : (bytes more : List ℕ) → NeverHasHead bytes → NeverHasHead (bytes ++ more)
never-still bytes more never behind head rest reads =
    never (more ++ behind) head rest (subst (λ (b : List ℕ). ReadsHead b head rest) (append_assoc bytes more behind) reads)

pub bad-still : (bytes more : List ℕ) → IsBadRequest bytes → IsBadRequest (bytes ++ more)
bad-still bytes more bad = record { never = never-still bytes more bad.never; why = go bad.why } where
  go : NeverHasRequest bytes ⊎ ((66 ≤ feeds bytes) × HasNoHead bytes) → NeverHasRequest (bytes ++ more) ⊎ ((66 ≤ feeds (bytes ++ more)) × HasNoHead (bytes ++ more))
  go (inl never) = inl (λ behind head rest reads.
      never (more ++ behind) head rest (subst (λ (b : List ℕ). ReadsRequest b head rest) (append_assoc bytes more behind) reads))
  go (inr (many, none)) = inr (omega (arith, many, feeds-append bytes more), bad.never more)

-- what is too long stays so
pub too-long-still : (bytes more rest : List ℕ) (head : RequestHead) → IsTooLong bytes → FirstRequest (bytes ++ more) head rest → ⊥
too-long-still bytes more rest head long (reads, le) =
    let (left, within) = head-within bytes more rest head reads (omega (arith, le, long.many)) in
    let whole : length (bytes ++ more) ≡ length (print_request head ++ rest) = ap length reads.0.1 in
    let part : length bytes ≡ length (print_request head ++ left) = ap length within.0.1 in
    long.none head left (within, omega (arith, le, whole, part, length-append (print_request head) rest, length-append (print_request head) left))

pub long-still : (bytes more : List ℕ) → IsTooLong bytes → IsTooLong (bytes ++ more)
long-still bytes more long =
    record { many = omega (arith, long.many, length-append bytes more); none = λ head rest first. too-long-still bytes more rest head long first }

-- no bytes hold no request
pub nothing-requested : (head : RequestHead) (rest : List ℕ) → FirstRequest [] head rest → ⊥
nothing-requested head rest first =
    let long : length (print_request head ++ rest) ≡ 0 = sym (ap length first.0.0.1) in
    omega (arith, long, length-append (print_request head) rest, some-bytes head)
  where
    some-bytes : (h : RequestHead) → 0 < length (print_request h)
    some-bytes h = let (front, ends) = request-feed h in let long : length (print_request h) ≡ length (front ++ 10 ∷ []) = ap length ends in omega (arith, long, length-append front (10 ∷ []))
