-- The body of a hit is that of each reply to its request.
use Rattle.std.proofs.Common.{◌≡◌, ◌≤◌, ◌∷◌, ℕ, Bool, true, false, cond, List, [], length, Some, refl, sym, ap, ◌∙◌, subst, arith}
use Rattle.std.specs.List.{All, Contains}
use Rattle.std.specs.Map.{lookup}
use Rattle.std.specs.Str.{bytes_eq}
use Rattle.std.proofs.lemmas.List.Elements.{All-head, All-tail, Contains-append_right}
use Rattle.std.proofs.lemmas.Slice.Eq.{bytes_eq-Decides}
use Rattle.plain_lemmas.proofs.Options.{same_value}
use Rattle.dap_types.specs.Limits.{most_body, most_kept}
use Rattle.dap_client.specs.Held.{IsLong, IsTold, IsExact}
use Rattle.dap_client.specs.Replies.{form_of}
use Rattle.dap_client.specs.Verdict.{Form}
use Rattle.dap_client.specs.declared.body_outcome.BodyOutcome.{BodyOutcome}
use Rattle.dap_client.specs.declared.body_outcome.BodyOutcome.TheVariants.{Good}
use Rattle.dap_http.specs.declared.kind.Kind.{Kind}
use Rattle.dap_gateway.proofs.OneKind.{same-kind}
use Rattle.dap_gateway.proofs.Worth.{has-name}
use Rattle.dap_gateway.specs.Backed.{Exchange, IsBacked, IsGoodReply, IsLast}
use Rattle.dap_gateway.specs.Steady.{HitIsMiss, HitIsReplied, HitIsTold}
use Rattle.dap_gateway.specs.declared.wanted.Wanted.{Wanted}

abbrev Pair : Type 0
Pair = List ℕ × List ℕ

record IsKept (host : List ℕ) (port : ℕ) (es : List Exchange) (key body : List ℕ) : Type 0 where
  pub pair : Pair
  pub backed : IsBacked host port es pair
  pub same : key ≡ pair.0
  pub value : pair.1 ≡ body

kept : (host : List ℕ) (port : ℕ) (es : List Exchange) (key body : List ℕ) (ps : List Pair) → All (IsBacked host port es) ps → lookup (bytes_eq key) ps ≡ Some body → IsKept host port es key body
kept host port es key body [] all is = cc is
kept host port es key body (p ∷ ps) all is = go (bytes_eq key p.0) refl is (λ more. kept host port es key body ps (All-tail (IsBacked host port es) p ps all) more) where
  go : (t : Bool) → bytes_eq key p.0 ≡ t → cond t (Some p.1) (lookup (bytes_eq key) ps) ≡ Some body → (lookup (bytes_eq key) ps ≡ Some body → IsKept host port es key body) → IsKept host port es key body
  go true t here more = record { pair = p; backed = All-head (IsBacked host port es) p ps all; same = (bytes_eq-Decides key p.0).0 t; value = same_value p.1 body here }
  go false t here more = more here

there : (e : Exchange) (after : List Exchange) → Contains (e ∷ after) e
there e after = (0, omega arith, refl)

among : (es : List Exchange) (key : List ℕ) (e : Exchange) → IsLast es key e → Contains es e
among es key e last = subst (λ l. Contains l e) (sym last.parts) (Contains-append_right last.before (e ∷ last.after) e (there e last.after))

pub hit-is-replied : HitIsReplied
hit-is-replied host port es ps bytes w body steady all wants is =
    let k = kept host port es w.key body ps all is in
    let b = k.backed in
    let in_list = among es k.pair.0 b.exchange b.last in
    let own : b.exchange.written ≡ w.key = b.last.is_written ∙ sym k.same in
    let kind : b.asked.kind ≡ w.kind =
    same-kind host port b.asked wants.asked b.named (has-name wants.head.target wants.asked wants.target) (sym b.is_key ∙ sym k.same ∙ ap (λ (v : Wanted). v.key) wants.is_wanted) ∙ sym (ap (λ (v : Wanted). v.kind) wants.is_wanted) in (
      (b.exchange, in_list, own),
      λ e inside written.
          subst (λ r. IsGoodReply (form_of w.kind) r body) (steady b.exchange e in_list inside (own ∙ sym written))
          (subst (λ v. IsGoodReply (form_of w.kind) b.exchange.reply v) k.value (subst (λ (j : Kind). IsGoodReply (form_of j) b.exchange.reply k.pair.1) kind b.good)),
    )

small-is-not-long : (form : Form) (body : List ℕ) → length body ≤ most_kept → ¬ (IsLong form most_body body)
small-is-not-long form body few long = absurd (omega (arith, few, long.longer))

told : (form : Form) (body reply : List ℕ) (o : BodyOutcome) → length body ≤ most_kept → IsGoodReply form reply body → IsExact form most_body reply o → IsTold (Good body) o
told form body reply o few (rest, delivers, judged) exact =
    subst (λ g. IsTold g o) judged.2 (exact.whole body rest judged.0 delivers judged.1 (small-is-not-long form body few))

pub hit-is-told : HitIsTold
hit-is-told host port es ps bytes w body steady all wants is =
    let k = kept host port es w.key body ps all is in
    let few = subst (λ (v : List ℕ). length v ≤ most_kept) k.value k.backed.small in
    let brought = (hit-is-replied host port es ps bytes w body steady all wants is).1 in
    λ e o inside written exact. told (form_of w.kind) body e.reply o few (brought e inside written) exact

pub hit-is-miss : HitIsMiss
hit-is-miss w body = (refl, refl)
