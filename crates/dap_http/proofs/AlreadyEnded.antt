-- A body whose end waits is told to have ended.
use Rattle.std.proofs.Common.{◌≡◌, ℕ, ◌≤◌, ◌<◌, ◌⊎◌, false, List, ◌++◌, length, take, sym, ap, ◌∙◌, arith, length-append, inl, inr, subst}
use Rattle.std.proofs.Math.Seq.{take-append_seam}
use Rattle.std.proofs.lemmas.Bool.{cases_lt, false≢true}
use Rattle.dap_http.specs.After.{UnframerStandsAfter}
use Rattle.dap_http.specs.Codings.{Ends, Goes}
use Rattle.dap_http.specs.Delivered.{IsWholeBody}
use Rattle.dap_http.specs.Following.{Follows, body_coding, waiting}
use Rattle.dap_http.specs.declared.body_parts.BodyParts.{BodyParts}
use Rattle.dap_http.specs.declared.coding.Coding.{Coding}
use Rattle.dap_http.specs.declared.unframer.Unframed.{Unframed}
use Rattle.dap_http.specs.declared.unframer.Unframed.TheVariants as unframed
use Rattle.dap_http.proofs.Framings.{no-end-cut}
use Rattle.dap_http.proofs.Parts.{Opened, opened, parted}
use Rattle.dap_http.proofs.Seams.{split}

-- the framed body is what was used and the front of what waits
behind-used : (c : Coding) (b piece framed rest body : List ℕ) → Goes c b body → Ends c framed body → b ++ piece ≡ framed ++ rest → (n : ℕ) × (n ≤ length piece) × (framed ≡ b ++ take n piece)
behind-used c b piece framed rest body goes ends e = go (cases_lt (length framed) (length b)) where
  go : (length framed < length b) ⊎ (length b ≤ length framed) → (n : ℕ) × (n ≤ length piece) × (framed ≡ b ++ take n piece)
  go (inl less) =
      let (x, is, tail) = split framed rest b piece (sym e) (omega (arith, less)) in
      absurd (no-end-cut c framed x b body body ends goes is)
  go (inr le) =
      let (x, is, tail) = split b piece framed rest e le in
      (length x, omega (arith, ap length tail, length-append x rest), is ∙ ap (λ t. b ++ t) (sym (ap (take (length x)) tail ∙ take-append_seam x rest)))

pub already-ended : (p : BodyParts) (bytes body rest piece : List ℕ) (answer : Unframed) → waiting p ≡ piece → Follows p bytes body → IsWholeBody (body_coding p) bytes false body rest
    → ((b d : List ℕ) (n : ℕ) → UnframerStandsAfter p.unframer b → Goes (body_coding p) b d → n ≤ length piece → Ends (body_coding p) (b ++ take n piece) d → answer ≡ unframed.End n)
    → ((b d : List ℕ) → UnframerStandsAfter p.unframer b → Ends (body_coding p) b d → answer ≡ unframed.End 0) → (n : ℕ) × (answer ≡ unframed.End n)
already-ended p bytes body rest piece answer is follows (inr (codes, ended, all, none)) says again = absurd (false≢true ended)
already-ended p bytes body rest piece answer is follows (inl (framed, ends, parts)) says again = go (opened p bytes body follows) where
  go : Opened p bytes body → (n : ℕ) × (answer ≡ unframed.End n)
  go o = elim o.comes [
    | inl goes ↦
        let (n, le, whole) = behind-used (body_coding p) o.used piece framed rest body goes ends (sym (parted p bytes o.used piece is o.parts) ∙ parts) in
        (n, says o.used body n o.stands goes le (subst (λ (t : List ℕ). Ends (body_coding p) t body) whole ends))
    | inr over ↦ (0, again o.used body o.stands over)
  ]
