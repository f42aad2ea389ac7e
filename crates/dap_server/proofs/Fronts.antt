-- A file whose bytes may not be told has some bytes that begin as those that were read.
use Rattle.std.proofs.Common.{◌≡◌, ℕ, ◌+◌, ◌-◌, ◌≤◌, List, ◌++◌, length, take, drop, min, Option, Some, None, Result, IfOk, refl, sym, ap, ◌∙◌, arith, length-append, append_assoc, subst}
use Rattle.std.specs.Prelude.{IfSome, replicate}
use Rattle.std.proofs.Math.Seq.{take-add, take-append_seam}
use Rattle.std.proofs.lemmas.List.{length-replicate, length-take, take_all}
use Rattle.dap_outside.specs.Files.{HasSize, Reads}
use Rattle.netcdf_source.specs.Header.{IsHeader}
use Rattle.netcdf_source.specs.File.{FileHeader}
use Rattle.dap_errors.specs.declared.cause.Cause.{Cause}
use Rattle.dap_server.specs.Files.{IsHeaderCause, front}
use Rattle.dap_server.specs.inner.Opening.{IsRead, WhereRefused}
use Rattle.dap_server.specs.declared.no_answer.Stop.{Stop}
use Rattle.dap_server.specs.declared.no_answer.Stop.TheVariants.{Refused, ShelfFault, Memory}

-- what was read begins the front of these bytes
pub record Front (content : Option (List ℕ)) (size : ℕ) (v : List ℕ) : Type 0 where
  pub bytes : List ℕ
  pub is_read : IsRead content bytes
  pub is_size : size ≡ length bytes
  pub more : List ℕ
  pub is_front : front bytes ≡ v ++ more

begins : (xs v : List ℕ) → v ≡ take (length v) xs → length v ≤ 1048576 → take 1048576 xs ≡ v ++ take (1048576 - length v) (drop (length v) xs)
begins xs v is few =
    ap (λ n. take n xs) {x = 1048576} {y = length v + (1048576 - length v)} (omega (arith, few)) ∙ take-add (length v) (1048576 - length v) xs
    ∙ ap (λ f. f ++ take (1048576 - length v) (drop (length v) xs)) (sym is)

pub found : (content : Option (List ℕ)) (size : ℕ) (v : List ℕ) → HasSize content size → Reads content 0 v → length v ≤ min size 1048576 → Front content size v
found None size v has reads few =
    let more : List ℕ = replicate (size - length v) 0 in
    let whole : length (v ++ more) ≡ size = omega (arith, length-append v more, length-replicate {A = ℕ} (size - length v) 0, few) in
    record {
      bytes = v ++ more;
      is_read = tt;
      is_size = sym whole;
      more = take (1048576 - length v) (drop (length v) (v ++ more));
      is_front = begins (v ++ more) v (sym (take-append_seam v more)) (omega (arith, few));
    }
found (Some told) size v has reads few =
    record { bytes = told; is_read = refl; is_size = has; more = take (1048576 - length v) (drop (length v) told); is_front = begins told v reads (omega (arith, few)) }

-- all that the front has
whole-front : (content : Option (List ℕ)) (size : ℕ) (v : List ℕ) (f : Front content size v) → length (v ++ f.more) ≡ min size 1048576
whole-front content size v f = ap length (sym f.is_front) ∙ length-take 1048576 f.bytes ∙ omega (arith, f.is_size)

moved : (P : List ℕ → ℕ → Type 0) (f g : List ℕ) (n m : ℕ) → f ≡ g → n ≡ m → P g n → P f m
moved P f g n m same is p = subst (λ t. P t m) (sym same) (subst (P g) is p)

pub opened : (content : Option (List ℕ)) (n size : ℕ) (v : List ℕ) (h : FileHeader) → n ≡ size → Front content size v
    → ((more : List ℕ) → IsHeader h.contents (v ++ more) size) × (h.length ≡ size)
    → (bytes : List ℕ) × IsRead content bytes × (n ≡ length bytes) × IsHeader h.contents (front bytes) (length bytes) × (h.length ≡ length bytes)
opened content n size v h same f (is, len) =
    (f.bytes, f.is_read, same ∙ f.is_size, moved (IsHeader h.contents) (front f.bytes) (v ++ f.more) size (length f.bytes) f.is_front f.is_size (is f.more), len ∙ f.is_size)

refusal : (content : Option (List ℕ)) (size : ℕ) (v : List ℕ) (cause : Cause) → Front content size v → ((more : List ℕ) → length (v ++ more) ≡ min size 1048576 → IsHeaderCause (v ++ more) size cause)
    → (bytes : List ℕ) × IsRead content bytes × IsHeaderCause (front bytes) (length bytes) cause
refusal content size v cause f is =
    (f.bytes, f.is_read, moved (λ first len. IsHeaderCause first len cause) (front f.bytes) (v ++ f.more) size (length f.bytes) f.is_front f.is_size (is f.more (whole-front content size v f)))

pub refused : (content : Option (List ℕ)) (size : ℕ) (v : List ℕ) (s : Stop) → HasSize content size
    → WhereRefused (λ cause. Reads content 0 v × (length v ≤ min size 1048576) × ((more : List ℕ) → length (v ++ more) ≡ min size 1048576 → IsHeaderCause (v ++ more) size cause)) s
    → WhereRefused (λ cause. (bytes : List ℕ) × IsRead content bytes × IsHeaderCause (front bytes) (length bytes) cause) s
refused content size v (Refused cause) has (reads, few, is) = refusal content size v cause (found content size v has reads few) is
refused content size v ShelfFault has is = tt
refused content size v Memory has is = tt

-- bytes that were read behind others, of which both are read
pub read-on : (content : Option (List ℕ)) (v w : List ℕ) → Reads content 0 v → Reads content (length v) w → Reads content 0 (v ++ w)
read-on None v w one other = tt
read-on (Some bytes) v w one other =
    ap (λ t. t ++ w) one ∙ ap (λ t. take (length v) bytes ++ t) other ∙ sym (take-add (length v) (length w) bytes) ∙ ap (λ n. take n bytes) (sym (length-append v w))

-- the same where they stand in a buffer behind those
pub tail-read : (content : Option (List ℕ)) (v xs ys post rest : List ℕ) (d n : ℕ) → take d xs ≡ v → length v ≡ d → n ≡ d + length ys → Reads content 0 v → Reads content d ys
    → Reads content 0 (take n ((take d xs ++ (ys ++ post)) ++ rest)) × (length (take n ((take d xs ++ (ys ++ post)) ++ rest)) ≡ n)
tail-read content v xs ys post rest d n is len all reads more =
    let joined : (take d xs ++ (ys ++ post)) ++ rest ≡ (v ++ ys) ++ (post ++ rest) =
    ap (λ t. (t ++ (ys ++ post)) ++ rest) is ∙ ap (λ t. t ++ rest) (sym (append_assoc v ys post)) ∙ append_assoc (v ++ ys) post rest in
    let size : n ≡ length (v ++ ys) = omega (arith, all, len, length-append v ys) in
    let same : take n ((take d xs ++ (ys ++ post)) ++ rest) ≡ v ++ ys =
    ap (take n) joined ∙ ap (λ k. take k ((v ++ ys) ++ (post ++ rest))) size ∙ take-append_seam (v ++ ys) (post ++ rest) in
    (subst (Reads content 0) (sym same) (read-on content v ys reads (subst (λ k. Reads content k ys) (sym len) more)), ap length same ∙ sym size)

-- what a buffer held stands at its front when it is longer
pub resized : (v items : List ℕ) (len m d : ℕ) → d ≡ length v → length v ≤ len → items ≡ take len v ++ replicate (len - m) 0 → take d items ≡ v
resized v items len m d is few e =
    ap (take d) (e ∙ ap (λ t. t ++ replicate (len - m) 0) (take_all len v few)) ∙ ap (λ k. take k (v ++ replicate (len - m) 0)) is ∙ take-append_seam v (replicate (len - m) 0)

-- a header that is found in a buffer
pub in-buffer : {E : Type 0} (r : Result (Option FileHeader) E) (v w : List ℕ) (size : ℕ) → v ≡ w
    → IfOk r (λ found. IfSome found (λ h. ((more : List ℕ) → IsHeader h.contents (v ++ more) size) × (h.length ≡ size)))
    → IfOk r (λ found. IfSome found (λ h. ((more : List ℕ) → IsHeader h.contents (w ++ more) size) × (h.length ≡ size)))
in-buffer r v w size same is = subst (λ t. IfOk r (λ found. IfSome found (λ h. ((more : List ℕ) → IsHeader h.contents (t ++ more) size) × (h.length ≡ size)))) same is

pub refused_as : (other content : Option (List ℕ)) (size : ℕ) (v : List ℕ) (s : Stop) → other ≡ content → HasSize content size
    → WhereRefused (λ cause. Reads other 0 v × (length v ≤ min size 1048576) × ((more : List ℕ) → length (v ++ more) ≡ min size 1048576 → IsHeaderCause (v ++ more) size cause)) s
    → WhereRefused (λ cause. (bytes : List ℕ) × IsRead content bytes × IsHeaderCause (front bytes) (length bytes) cause) s
refused_as other content size v s same has is =
    refused content size v s has
    (subst (λ o. WhereRefused (λ cause. Reads o 0 v × (length v ≤ min size 1048576) × ((more : List ℕ) → length (v ++ more) ≡ min size 1048576 → IsHeaderCause (v ++ more) size cause)) s) same is)
