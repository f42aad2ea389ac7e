-- What comes of a body with the bytes behind its head.
use Rattle.std.proofs.Common.{◌≡◌, ℕ, ◌+◌, ◌-◌, ◌<◌, ◌≤◌, ◌⊎◌, inl, inr, Bool, List, [], ◌++◌, length, refl, ap, ◌∙◌, sym, subst, arith, append_assoc, append-nil}
use Rattle.std.proofs.lemmas.List.Edits.{length-between}
use Rattle.xdr_decode.specs.Verdict.{budget}
use Rattle.reply_faults.specs.declared.bad.BadField.{BadField}
use Rattle.dap_http.proofs.Framings.{no-end-fault}
use Rattle.dap_http.proofs.Parts.{Opened}
use Rattle.dap_http.proofs.Whole.{fails-known, goes-known}
use Rattle.dap_http.specs.Codings.{Ends, Fails, Goes}
use Rattle.dap_http.specs.Delivered.{HasCome, IsBrokenBody, IsWholeBody}
use Rattle.dap_http.specs.Following.{body_coding, part_of, waiting}
use Rattle.dap_http.specs.declared.body_parts.BodyParts.{BodyParts}
use Rattle.dap_http.specs.declared.coding.Coding.{Coding}
use Rattle.dap_http.specs.declared.coding.Coding.TheVariants.{Chunked, Length, ToEnd}
use Rattle.dap_client.specs.After.{BodyStandsAfter}
use Rattle.dap_client.specs.declared.body.Body.{Body}
use Rattle.dap_http.proofs.Further.{Further, come-further, run-further}

-- ---- as many bytes of the body come as bytes, at most

-- of a whole body, and of one that breaks off, what came with the first bytes is a front

fails-further : (c : Coding) (used w b other : List ℕ) (place : ℕ) → Goes c used b → Fails c (used ++ w) other place → Further b other (length w)
fails-further Chunked used w b other place goes fails = run-further used w b other (goes-known used b goes).body (fails-known (used ++ w) other place fails).body
fails-further (Length n) used w b other place goes none = absurd none
fails-further ToEnd used w b other place goes none = absurd none

come-parts : (c : Coding) (front body : List ℕ) (h : HasCome c front body) → (Goes c h.front body × (h.rest ≡ [])) ⊎ Ends c h.front body → Goes c h.front body ⊎ Ends c h.front body
come-parts c front body h (inl (goes, none)) = inl goes
come-parts c front body h (inr ends) = inr ends

pub further-come : (c : Coding) (front w body other : List ℕ) → HasCome c front body → HasCome c (front ++ w) other → (y : List ℕ) × (other ≡ body ++ y)
further-come c front w body other h come =
    let laid : front ++ w ≡ h.front ++ (h.rest ++ w) = ap (λ t. t ++ w) h.parts ∙ append_assoc h.front h.rest w in
    let (y, is, few) = come-further c h.front (h.rest ++ w) body other (come-parts c front body h h.comes) (subst (λ (t : List ℕ). HasCome c t other) laid come) in
    (y, is)

pub brought-whole : (c : Coding) (front w body other rest : List ℕ) (ended : Bool) → HasCome c front body → IsWholeBody c (front ++ w) ended other rest → (y : List ℕ) × (other ≡ body ++ y)
brought-whole c front w body other rest ended h (inl (framed, ends, parts)) = further-come c front w body other h (record { front = framed; rest = rest; parts = parts; comes = inr ends })
brought-whole c front w body other rest ended h (inr (coding, end, same, nothing)) =
    further-come c front w body other h (record { front = front ++ w; rest = []; parts = sym (append-nil (front ++ w)); comes = inl (subst (λ (d : Coding). Goes d (front ++ w) other) (sym coding) (sym same), refl) })

broke-further : (c : Coding) (front w body other : List ℕ) (place : ℕ) (h : HasCome c front body) → (Goes c h.front body × (h.rest ≡ [])) ⊎ Ends c h.front body → Fails c (front ++ w) other place → (y : List ℕ) × (other ≡ body ++ y)
broke-further c front w body other place h (inl (goes, none)) fails =
    let laid : front ++ w ≡ h.front ++ (h.rest ++ w) = ap (λ t. t ++ w) h.parts ∙ append_assoc h.front h.rest w in
    let (y, is, few) = fails-further c h.front (h.rest ++ w) body other place goes (subst (λ (t : List ℕ). Fails c t other place) laid fails) in
    (y, is)
broke-further c front w body other place h (inr ends) fails =
    absurd (no-end-fault c h.front (h.rest ++ w) (front ++ w) body other place ends fails (ap (λ t. t ++ w) h.parts ∙ append_assoc h.front h.rest w))

pub brought-broken : (c : Coding) (front w body other : List ℕ) (wrong : BadField) (ended : Bool) → HasCome c front body → IsBrokenBody c (front ++ w) ended other wrong → (y : List ℕ) × (other ≡ body ++ y)
brought-broken c front w body other wrong ended h (inl (kind, fails)) = broke-further c front w body other wrong.place h h.comes fails
brought-broken c front w body other wrong ended h (inr (goes, framed, end, cut)) =
    further-come c front w body other h (record { front = front ++ w; rest = []; parts = sym (append-nil (front ++ w)); comes = inl (goes, refl) })

-- ---- before any byte of the body was read

-- ---- the reader of the parts

pub come-now : (p : BodyParts) (bytes body : List ℕ) (o : Opened p bytes body) → HasCome (body_coding p) o.used body
come-now p bytes body o = record {
  front = o.used;
  rest = [];
  parts = sym (append-nil o.used);
  comes = elim o.comes [
    | inl goes ↦ inl (goes, refl)
    | inr ends ↦ inr ends
  ];
}

pub part-room : (p : BodyParts) → length (part_of p) + length (waiting p) ≤ 65536
part-room p =
    omega (arith, length-between p.room.items p.from p.to (omega (arith, p.within, p.filled, p.size)), length-between p.room.items p.to p.end (omega (arith, p.filled, p.size)), p.filled, p.within, p.lent)

-- ---- the reader of the body

pub counted : (r : Body) (body put : List ℕ) → BodyStandsAfter r body put → (r.taken ≡ length body) × (length body < budget)
unfolding BodyStandsAfter
counted r body put (stage, taken, small) = (taken, small)
