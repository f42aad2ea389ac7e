-- The same of a reply head.
use Rattle.std.proofs.Common.{append_assoc, [], ◌≡◌, ◌≤◌, ◌+◌, ◌⊎◌, ℕ, List, ◌∷◌, ◌++◌, length, take, refl, sym, ap, arith, ◌∙◌, inl, inr, append-nil}
use Rattle.std.proofs.lemmas.List.{length-take-le}
use Rattle.std.proofs.lemmas.List.Elements.{All-take}
use Rattle.std.proofs.lemmas.Bool.{cases_lt}
use Rattle.httparse.specs.Grammar.{IsField, MayBecomeResponse, ResponseHead, lf, print_blank, print_end, print_reason, print_response, print_section, print_version}
use Rattle.httparse.specs.Spans.{ResponseExceeds}
use Rattle.dap_http.specs.Requests.{feeds}
use Rattle.dap_http.specs.inner.ReplyJudging.{MayBecomeReply}
use Rattle.std.specs.List.{flat_map}
use Rattle.httparse.specs.Grammar.{print_field}
use Rattle.dap_http.proofs.Feeds.{cut, end-feed, feeds-append, feeds-end, feeds-section}

abbrev pub print_start : ResponseHead → List ℕ
print_start h = print_blank h.blank ++ print_version h.minor ++ 32 ∷ h.digits ++ print_reason h.reason ++ print_end h.line_end

pub reply_parts : (h : ResponseHead) → print_response h ≡ print_start h ++ print_section h.fields h.last
unfolding print_response
reply_parts h = refl

pub reply-feed : (h : ResponseHead) → (front : List ℕ) × (print_response h ≡ front ++ 10 ∷ [])
reply-feed h =
    let (e, is) = end-feed h.last in (
      print_start h ++ (flat_map print_field h.fields ++ e),
      reply_parts h ∙ ap (λ t. print_start h ++ (flat_map print_field h.fields ++ t)) is
          ∙ ap (λ t. print_start h ++ t) (sym (append_assoc (flat_map print_field h.fields) e (10 ∷ [])))
          ∙ sym (append_assoc (print_start h) (flat_map print_field h.fields ++ e) (10 ∷ [])),
    )

feeds-start : (h : ResponseHead) → 1 ≤ feeds (print_start h)
feeds-start h =
    let e = feeds-append (print_blank h.blank ++ print_version h.minor ++ 32 ∷ h.digits ++ print_reason h.reason) (print_end h.line_end) in
    let one = feeds-end h.line_end in
    omega (arith, e, one)

pub exceeds-feeds : (room : ℕ) (buf : List ℕ) → ResponseExceeds room buf → room + 2 ≤ feeds buf
exceeds-feeds room buf (front, rest, is, h, reads, many) =
    let whole : feeds (front ++ print_end lf) ≡ feeds (print_response h) = ap feeds (reads.1 ∙ append-nil _) in
    let a = feeds-append front (print_end lf) in
    let one = feeds-end lf in
    let parts : feeds (print_response h) ≡ feeds (print_start h ++ print_section h.fields h.last) = ap feeds (reply_parts h) in
    let b = feeds-append (print_start h) (print_section h.fields h.last) in
    let s = feeds-start h in
    let f = feeds-section h.fields h.last in
    let c : feeds buf ≡ feeds (front ++ rest) = ap feeds is in
    let d = feeds-append front rest in
    omega (arith, whole, a, one, parts, b, s, f, c, d, many)

pub may-become : (room : ℕ) (buf : List ℕ) → room ≡ 128 → MayBecomeResponse buf → MayBecomeReply buf ⊎ (room + 1 ≤ feeds buf)
may-become room buf room_is (more, h, reads) = elim (cases_lt room (length h.fields)) [
  | inl many ↦
      let is : buf ++ more ≡ print_start h ++ print_section h.fields h.last = reads.1 ∙ append-nil _ ∙ reply_parts h in
      elim (cut (print_start h) buf more h.fields h.last room many (feeds-start h) is) [
        | inl enough ↦ inr enough
        | inr other ↦
            let cut_head : ResponseHead = record h { fields = take room h.fields; last = lf } in
            let n = length-take-le room h.fields (omega (arith, many)) in
            inl (
              other.0,
              cut_head,
              (
                (
                  record { minor = reads.0.minor; digits = reads.0.digits; reason = reads.0.reason; fields = All-take IsField room h.fields reads.0.fields },
                  other.1 ∙ sym (reply_parts cut_head) ∙ sym (append-nil _),
                ),
                omega (arith, n, room_is),
              ),
            )
      ]
  | inr fits ↦ inl (more, h, (reads, omega (arith, fits, room_is)))
]
