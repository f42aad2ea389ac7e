-- The reply to GET carries a data response, and nothing else.
use Rattle.std.proofs.Common.{◌≡◌, ℕ, ◌+◌, ◌<◌, ◌≤◌, ◌^◌, inl, inr, Bool, true, false, if◌then◌else◌, List, [], ◌++◌, length, codes, Some, None, Ok, refl, sym, ap, ◌∙◌, subst, arith, append_assoc, append-nil, length-append, lit≤}
use Rattle.std.specs.Prelude.{◌==◌}
use Rattle.std.proofs.lemmas.Bool.{true≢false}
use Rattle.std.proofs.lemmas.List.Sums.{AllPass-from_list_all}
use Rattle.httparse.specs.Grammar.{AllPass, is_value_byte}
use Rattle.dap_http.proofs.Carrying.{is-final}
use Rattle.dap_http.proofs.FramedWhole.{framed-whole}
use Rattle.dap_http.specs.Carried.{said}
use Rattle.dap_http.specs.Delivered.{Delivers, IsWholeBody}
use Rattle.dap_http.specs.Frames.{chunked, framed}
use Rattle.dap_http.specs.Replies.{HasFinal}
use Rattle.dap_http.specs.Texts.{head_text}
use Rattle.dap_http.specs.declared.kind.Kind.TheVariants.{Dods}
use Rattle.dap_server.specs.Replies.{Request, is_head, is_last, reply_of}
use Rattle.dap_server.specs.Results.{result_text}
use Rattle.both_ends.specs.Ends.{ReplyDelivers, ReplyIsJudged}

abbrev head : Bool → Bool → List ℕ
head in_chunks close = head_text 200 (codes "dods_data") None in_chunks close

head-short : (in_chunks close : Bool) → length (head in_chunks close) ≤ 65536
unfolding head_text
head-short true true = lit≤ tt
head-short true false = lit≤ tt
head-short false true = lit≤ tt
head-short false false = lit≤ tt

value-bytes : AllPass is_value_byte (codes "dods_data")
value-bytes = AllPass-from_list_all is_value_byte (codes "dods_data") refl

no-length : (n : ℕ) → None ≡ Some n → n < 10 ^ 18
no-length n e = cc e

whole : (in_chunks : Bool) (text more : List ℕ) → (in_chunks ≡ false → more ≡ []) → IsWholeBody (said None in_chunks) (framed in_chunks text ++ more) true text more
whole true text more none = inl (chunked text, framed-whole text, refl)
whole false text more none = inr (refl, refl, ap (λ (l : List ℕ). text ++ l) (none refl) ∙ append-nil text, none refl)

delivers : (in_chunks close : Bool) (text more : List ℕ) → (in_chunks ≡ false → more ≡ []) → Delivers ((head in_chunks close ++ framed in_chunks text) ++ more) true text more
delivers in_chunks close text more none =
    let behind = framed in_chunks text ++ more in
    let (tree, final, is) = is-final 200 (codes "dods_data") None in_chunks close behind (inl refl) value-bytes no-length in
    let laid : head in_chunks close ++ behind ≡ (head in_chunks close ++ framed in_chunks text) ++ more = sym (append_assoc (head in_chunks close) (framed in_chunks text) more) in
    let long : length ((head in_chunks close ++ framed in_chunks text) ++ more) ≤ length behind + 65536 = omega (arith, ap length laid, length-append (head in_chunks close) behind, head-short in_chunks close) in
    record {
      coding = said None in_chunks;
      behind = behind;
      has_coding = (tree, subst (λ (l : List ℕ). HasFinal l tree behind) laid final, long, is);
      is_whole = whole in_chunks text more none;
    }

-- the reply, in its parts
laid-out : (q : Request) (text : List ℕ) → is_head q ≡ false
    → reply_of q (Ok (result_text Dods text)) ≡ head (q.minor == 1) (is_last q (Ok (result_text Dods text))) ++ framed (q.minor == 1) text
laid-out q text get = ap (λ b. head (q.minor == 1) (is_last q (Ok (result_text Dods text))) ++ (if b then [] else framed (q.minor == 1) text)) get

one-is : (n : ℕ) → n ≡ 1 → (n == 1) ≡ true
one-is n e = ap (λ m. m == 1) e

pub reply_delivers : ReplyDelivers
reply_delivers q text get = (
  subst (λ (l : List ℕ). Delivers l true text []) (append-nil _ ∙ sym (laid-out q text get)) (delivers (q.minor == 1) (is_last q (Ok (result_text Dods text))) text [] (λ e. refl)),
  λ more one. subst (λ (l : List ℕ). Delivers (l ++ more) true text more) (sym (laid-out q text get))
      (delivers (q.minor == 1) (is_last q (Ok (result_text Dods text))) text more (λ e. absurd (true≢false (sym (one-is q.minor one) ∙ e)))),
)

pub reply_is_judged : ReplyIsJudged
reply_is_judged q text v get is = inl (text, [], (reply_delivers q text get).0, refl, is)
