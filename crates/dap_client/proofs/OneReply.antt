-- A reply whose head tells a coding has one verdict.
use Rattle.std.proofs.Common.{◌≡◌, ℕ, inl, inr, true, List, length, ap, ◌∙◌, sym, subst}
use Rattle.reply_faults.specs.declared.bad.BadField.{BadField}
use Rattle.dap_http.proofs.Deliveries.{no-delivery-broken, one-break, one-delivery}
use Rattle.dap_http.specs.Delivered.{HasCoding}
use Rattle.dap_http.specs.declared.coding.Coding.{Coding}
use Rattle.dap_client.proofs.OneVerdict.{one_verdict}
use Rattle.dap_client.specs.Replies.{IsReplyVerdict, first_of}
use Rattle.dap_client.specs.Verdict.{Form, IsVerdict, Verdict}

pub one_reply : (form : Form) (reply behind : List ℕ) (coding : Coding) (n m : ℕ) (v w : Verdict) → HasCoding reply coding behind → IsReplyVerdict form reply n v → IsReplyVerdict form reply m w → (n ≡ m) × (v ≡ w)
one_reply form reply behind coding n m v w has (inl (body, rest, a, long, is)) (inl (other, left, b, count, same)) =
    let (bodies, rests) = one-delivery reply true body other rest left a b in
    (long ∙ ap length bodies ∙ sym count, one_verdict form body v w is (subst (λ (t : List ℕ). IsVerdict form t w) (sym bodies) same))
one_reply form reply behind coding n m v w has (inl (body, rest, a, long, is)) (inr (other, wrong, front, b, count, same, first)) = absurd (no-delivery-broken reply true body other rest wrong a b)
one_reply form reply behind coding n m v w has (inr (other, wrong, front, b, count, same, first)) (inl (body, rest, a, long, is)) = absurd (no-delivery-broken reply true body other rest wrong a b)
one_reply form reply behind coding n m v w has (inr (body, bad_field, front, a, long, is, first)) (inr (other, wrong, part, b, count, same, also)) =
    let (bodies, fields) = one-break reply behind true coding body other bad_field wrong has a b in
    let fronts = one_verdict form body front part is (subst (λ (t : List ℕ). IsVerdict form t part) (sym bodies) same) in
    (long ∙ ap length bodies ∙ sym count, first ∙ ap (λ (x : Verdict). first_of x bad_field) fronts ∙ ap (λ (f : BadField). first_of part f) fields ∙ sym also)
