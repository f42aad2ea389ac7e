-- Framed bodies: there is one at the front of some bytes, and it stays where bytes follow.
use Rattle.std.proofs.Common.{◌≡◌, ℕ, List, ◌++◌, length, take, sym, ap, ◌∙◌, arith, append_assoc, length-append}
use Rattle.std.proofs.Math.Seq.{drop-append_seam, take-append_seam}
use Rattle.std.proofs.Common.{drop}
use Rattle.std.proofs.lemmas.Bool.{true≢false}
use Rattle.dap_http.specs.Chunks.{IsWhole, print_stage}
use Rattle.dap_http.specs.Codings.{Ends, Fails, Goes}
use Rattle.dap_http.specs.inner.Steps.{Known, is_open, run, start}
use Rattle.dap_http.specs.declared.chunk_step.At.TheVariants.{Done, Bad}
use Rattle.dap_http.specs.declared.coding.Coding.{Coding}
use Rattle.dap_http.specs.declared.coding.Coding.TheVariants.{Chunked, Length, ToEnd}
use Rattle.dap_http.proofs.Runs.{done-stays, run-append}
use Rattle.dap_http.proofs.Whole.{ends-known, fails-known, goes-known}

-- what a run over a whole coded body and a rest knows
record Ended (k : Known) (body : List ℕ) (n : ℕ) : Type 0 where
  at : k.at ≡ Done
  used : k.used ≡ n
  body_is : k.body ≡ body

ended : (f rest body : List ℕ) → IsWhole f body → Ended (run start (f ++ rest)) body (length f)
ended f rest body w =
    let e = ends-known f body w in
    let same = done-stays (run start f) rest e.at in
    let all = run-append start f rest in
    record {
      at = ap (λ (k : Known). k.at) all ∙ same.at ∙ e.at;
      used = ap (λ (k : Known). k.used) all ∙ same.used ∙ e.used;
      body_is = ap (λ (k : Known). k.body) all ∙ same.body ∙ e.body;
    }

same-length : (f g r q : List ℕ) → f ++ r ≡ g ++ q → length f ≡ length g → (f ≡ g) × (r ≡ q)
same-length f g r q e n = (
  sym (take-append_seam f r) ∙ ap (take (length f)) e ∙ ap (λ m. take m (g ++ q)) n ∙ take-append_seam g q,
  sym (drop-append_seam f r) ∙ ap (drop (length f)) e ∙ ap (λ m. drop m (g ++ q)) n ∙ drop-append_seam g q,
)

pub one-end : (c : Coding) (f g r q body other : List ℕ) → Ends c f body → Ends c g other → f ++ r ≡ g ++ q → (body ≡ other) × (r ≡ q)
one-end Chunked f g r q body other a b e =
    let x = ended f r body a in
    let y = ended g q other b in
    let n : length f ≡ length g = sym x.used ∙ ap (λ t. (run start t).used) e ∙ y.used in
    (sym x.body_is ∙ ap (λ t. (run start t).body) e ∙ y.body_is, (same-length f g r q e n).1)
one-end (Length n) f g r q body other (a, m) (b, k) e =
    let (same, rest) = same-length f g r q e (m ∙ sym k) in
    (a ∙ same ∙ sym b, rest)
one-end ToEnd f g r q body other a b e = absurd a

pub no-end-fault : (c : Coding) (f r bytes body other : List ℕ) (place : ℕ) → Ends c f body → Fails c bytes other place → bytes ≡ f ++ r → ⊥
no-end-fault Chunked f r bytes body other place a b e =
    let x = ended f r body a in
    let y = fails-known bytes other place b in
    let clash : Done ≡ Bad = sym x.at ∙ ap (λ t. (run start t).at) (sym e) ∙ y.at in
    absurd (cc)
no-end-fault (Length n) f r bytes body other place a b e = b
no-end-fault ToEnd f r bytes body other place a b e = b

pub no-end-cut : (c : Coding) (f r bytes body other : List ℕ) → Ends c f body → Goes c bytes other → bytes ≡ f ++ r → ⊥
no-end-cut Chunked f r bytes body other a b e =
    let x = ended f r body a in
    let y = goes-known bytes other b in
    true≢false (sym y.at ∙ ap (λ t. is_open (run start t).at) e ∙ ap is_open x.at)
no-end-cut (Length n) f r bytes body other (a, m) (b, k) e = omega (arith, m, k, ap length e, length-append f r)
no-end-cut ToEnd f r bytes body other a b e = a

pub one-fault : (c : Coding) (bytes body other : List ℕ) (place at : ℕ) → Fails c bytes body place → Fails c bytes other at → (body ≡ other) × (place ≡ at)
one-fault Chunked bytes body other place at a b =
    let x = fails-known bytes body place a in
    let y = fails-known bytes other at b in
    (sym x.body ∙ y.body, sym x.from ∙ y.from)
one-fault (Length n) bytes body other place at a b = absurd a
one-fault ToEnd bytes body other place at a b = absurd a

pub no-fault-cut : (c : Coding) (bytes body other : List ℕ) (place : ℕ) → Fails c bytes body place → Goes c bytes other → ⊥
no-fault-cut Chunked bytes body other place a b =
    let x = fails-known bytes body place a in
    let y = goes-known bytes other b in
    true≢false (sym y.at ∙ ap is_open x.at)
no-fault-cut (Length n) bytes body other place a b = a
no-fault-cut ToEnd bytes body other place a b = a

pub one-cut : (c : Coding) (bytes body other : List ℕ) → Goes c bytes body → Goes c bytes other → body ≡ other
one-cut Chunked bytes body other a b =
    let x = goes-known bytes body a in
    let y = goes-known bytes other b in
    sym x.body ∙ y.body
one-cut (Length n) bytes body other a b = a.0 ∙ sym b.0
one-cut ToEnd bytes body other a b = a ∙ sym b

pub fault-more : (c : Coding) (bytes more body : List ℕ) (place : ℕ) → Fails c bytes body place → Fails c (bytes ++ more) body place
fault-more Chunked bytes more body place f = record {
  stage = f.stage;
  rest = f.rest ++ more;
  is_stage = f.is_stage;
  bytes_are = ap (λ t. t ++ more) f.bytes_are ∙ append_assoc (print_stage f.stage) f.rest more;
  some = omega (arith, f.some, length-append f.rest more);
  never = λ m text behind fits e. f.never (more ++ m) text behind fits (sym (append_assoc f.rest more m) ∙ e);
  place_is = f.place_is;
  body_is = f.body_is;
}
fault-more (Length n) bytes more body place f = f
fault-more ToEnd bytes more body place f = f
