-- From a front of the line `Data:` to one with another byte.
use Rattle.std.proofs.Common.{◌≡◌, ℕ, zero, suc, ◌+◌, ◌<◌, ◌≤◌, true, false, List, [], ◌∷◌, ◌++◌, length, take, drop, codes, get_or, refl, sym, ap, subst, ◌∙◌, append_assoc, append-nil, length-append, length-take-le, inl, inr, ◌⊎◌, arith}
use Rattle.std.proofs.lemmas.Bool.{false≢true}
use Rattle.std.proofs.lemmas.List.Elements.{All-cons, All-nil, All-append, All-head, All-tail}
use Rattle.std.specs.List.{AllPass}
use Rattle.dds_text.proofs.Stops.{text_more, text_whole}
use Rattle.plain_lemmas.proofs.Lists.{cons_first, cons_rest}
use Rattle.dap_model.specs.Tokens.{is_white}
use Rattle.xdr_decode.specs.Verdict.{EndsInDataLine, IsBadDataLine, IsDataLine}
use Rattle.dap_client.specs.inner.DataLines.{HasCome}
use Rattle.dap_model.proofs.OneBody.{white_d}

pub more_blank : (bytes : List ℕ) (n b : ℕ) → HasCome n bytes → n ≡ 0 → is_white b ≡ true → HasCome n (bytes ++ b ∷ [])
more_blank bytes n b o none w = record {
  white = o.white ++ b ∷ [];
  parts = ap (λ l. l ++ b ∷ []) (o.parts ∙ ap (λ k. o.white ++ take k (codes "Data:\r")) none ∙ append-nil o.white) ∙ sym (append-nil (o.white ++ b ∷ [])) ∙ ap (λ k. (o.white ++ b ∷ []) ++ take k (codes "Data:\r")) (sym none);
  is_white = All-append (λ c. is_white c ≡ true) o.white (b ∷ []) o.is_white (All-cons (λ c. is_white c ≡ true) b [] w (All-nil (λ c. is_white c ≡ true)));
  most = o.most;
}

next_come : (n : ℕ) → n < 6 → take n (codes "Data:\r") ++ get_or (codes "Data:\r") n 0 ∷ [] ≡ take (n + 1) (codes "Data:\r")
next_come zero lt = refl
next_come (suc zero) lt = refl
next_come (suc (suc zero)) lt = refl
next_come (suc (suc (suc zero))) lt = refl
next_come (suc (suc (suc (suc zero)))) lt = refl
next_come (suc (suc (suc (suc (suc zero))))) lt = refl
next_come (suc (suc (suc (suc (suc (suc n)))))) lt = absurd (omega (arith, lt))

pub one_byte : (bytes : List ℕ) (n b : ℕ) → HasCome n bytes → n < 6 → b ≡ get_or (codes "Data:\r") n 0 → HasCome (n + 1) (bytes ++ b ∷ [])
one_byte bytes n b o lt is = record {
  white = o.white;
  parts =
      ap (λ l. l ++ b ∷ []) o.parts ∙ append_assoc o.white (take n (codes "Data:\r")) (b ∷ [])
      ∙ ap (λ c. o.white ++ (take n (codes "Data:\r") ++ c ∷ [])) is ∙ ap (λ l. o.white ++ l) (next_come n lt);
  is_white = o.is_white;
  most = omega (arith, lt);
}

pub line_ends : (bytes : List ℕ) (n b : ℕ) → HasCome n bytes → 5 ≤ n → b ≡ 10 → IsDataLine (bytes ++ b ∷ [])
line_ends bytes n b o long is = by n refl
  where
    whole : bytes ++ b ∷ [] ≡ o.white ++ (take n (codes "Data:\r") ++ 10 ∷ [])
    whole = ap (λ l. l ++ b ∷ []) o.parts ∙ append_assoc o.white (take n (codes "Data:\r")) (b ∷ []) ∙ ap (λ c. o.white ++ (take n (codes "Data:\r") ++ c ∷ [])) is

    by : (k : ℕ) → k ≡ n → IsDataLine (bytes ++ b ∷ [])
    by (suc (suc (suc (suc (suc zero))))) e = record {
      white = o.white;
      end = codes "\n";
      parts = whole ∙ ap (λ k. o.white ++ (take k (codes "Data:\r") ++ 10 ∷ [])) (sym e);
      is_white = o.is_white;
      is_end = inl refl;
    }
    by (suc (suc (suc (suc (suc (suc zero)))))) e = record {
      white = o.white;
      end = codes "\r\n";
      parts = whole ∙ ap (λ k. o.white ++ (take k (codes "Data:\r") ++ 10 ∷ [])) (sym e);
      is_white = o.is_white;
      is_end = inr refl;
    }
    by zero e = absurd (omega (arith, long, e))
    by (suc zero) e = absurd (omega (arith, long, e))
    by (suc (suc zero)) e = absurd (omega (arith, long, e))
    by (suc (suc (suc zero))) e = absurd (omega (arith, long, e))
    by (suc (suc (suc (suc zero)))) e = absurd (omega (arith, long, e))
    by (suc (suc (suc (suc (suc (suc (suc k))))))) e = absurd (omega (arith, o.most, e))

-- behind white space stands the same
pub same_behind : (ws vs : List ℕ) (x : ℕ) (rs ss : List ℕ) → AllPass is_white ws → AllPass is_white vs → is_white x ≡ false → ws ++ x ∷ rs ≡ vs ++ 68 ∷ ss → x ∷ rs ≡ 68 ∷ ss
same_behind [] [] x rs ss a b other e = e
same_behind [] (v ∷ vs) x rs ss a b other e = absurd (false≢true (sym other ∙ subst (λ y. is_white y ≡ true) (sym (cons_first x v rs (vs ++ 68 ∷ ss) e)) (All-head (λ y. is_white y ≡ true) v vs b)))
same_behind (w ∷ ws) [] x rs ss a b other e = absurd (white_d (subst (λ y. is_white y ≡ true) (cons_first w 68 (ws ++ x ∷ rs) ss e) (All-head (λ y. is_white y ≡ true) w ws a)))
same_behind (w ∷ ws) (v ∷ vs) x rs ss a b other e = same_behind ws vs x rs ss (All-tail (λ y. is_white y ≡ true) w ws a) (All-tail (λ y. is_white y ≡ true) v vs b) other (cons_rest w v (ws ++ x ∷ rs) (vs ++ 68 ∷ ss) e)

pub differs : (bytes : List ℕ) (n b : ℕ) → HasCome n bytes → (n ≡ 0 → is_white b ≡ false) → (5 ≤ n → b ≡ 10 → ⊥) → (n < 6 → b ≡ get_or (codes "Data:\r") n 0 → ⊥)
    → (more : List ℕ) → IsDataLine (bytes ++ b ∷ more) → ⊥
differs bytes n b o first end next more l = by n refl
  where
    laid : (k : ℕ) → k ≡ n → o.white ++ (take k (codes "Data:\r") ++ b ∷ more) ≡ l.white ++ 68 ∷ (codes "ata:" ++ l.end)
    laid k e =
        ap (λ j. o.white ++ (take j (codes "Data:\r") ++ b ∷ more)) e ∙ sym (append_assoc o.white (take n (codes "Data:\r")) (b ∷ more))
        ∙ ap (λ z. z ++ b ∷ more) (sym o.parts) ∙ l.parts

    begun : (k : ℕ) (rs : List ℕ) → k ≡ n → take k (codes "Data:\r") ++ b ∷ more ≡ 68 ∷ rs → rs ≡ codes "ata:" ++ l.end
    begun k rs e is = cons_rest 68 68 rs (codes "ata:" ++ l.end) (same_behind o.white l.white 68 rs (codes "ata:" ++ l.end) o.is_white l.is_white refl (ap (λ z. o.white ++ z) (sym is) ∙ laid k e))

    at_end : (end : List ℕ) → (end ≡ codes "\n") ⊎ (end ≡ codes "\r\n") → b ∷ more ≡ end → (b ≡ 10) ⊎ (b ≡ 13)
    at_end end (inl f) e = inl (cons_first b 10 more [] (e ∙ f))
    at_end end (inr f) e = inr (cons_first b 13 more (codes "\n") (e ∙ f))

    at_feed : (end : List ℕ) → (end ≡ codes "\n") ⊎ (end ≡ codes "\r\n") → 13 ∷ b ∷ more ≡ end → b ≡ 10
    at_feed end (inl f) e = absurd (apart (cons_first 13 10 (b ∷ more) [] (e ∙ f)))
      where
        apart : Path ℕ 13 10 → ⊥
        apart p = cc
    at_feed end (inr f) e = cons_first b 10 more [] (cons_rest 13 13 (b ∷ more) (codes "\n") (e ∙ f))

    by : (k : ℕ) → k ≡ n → ⊥
    by zero e = next (omega (arith, e)) (cons_first b 68 more (codes "ata:" ++ l.end) (same_behind o.white l.white b more (codes "ata:" ++ l.end) o.is_white l.is_white (first (sym e)) (laid zero e)) ∙ ap (λ j. get_or (codes "Data:\r") j 0) e)
    by (suc zero) e = next (omega (arith, e)) (cons_first b 97 more (codes "ta:" ++ l.end) (begun 1 (b ∷ more) e refl) ∙ ap (λ j. get_or (codes "Data:\r") j 0) e)
    by (suc (suc zero)) e = next (omega (arith, e)) (cons_first b 116 more (codes "a:" ++ l.end) (cons_rest 97 97 _ _ (begun 2 (97 ∷ b ∷ more) e refl)) ∙ ap (λ j. get_or (codes "Data:\r") j 0) e)
    by (suc (suc (suc zero))) e = next (omega (arith, e)) (cons_first b 97 more (codes ":" ++ l.end) (cons_rest 116 116 _ _ (cons_rest 97 97 _ _ (begun 3 (97 ∷ 116 ∷ b ∷ more) e refl))) ∙ ap (λ j. get_or (codes "Data:\r") j 0) e)
    by (suc (suc (suc (suc zero)))) e = next (omega (arith, e)) (cons_first b 58 more l.end (cons_rest 97 97 _ _ (cons_rest 116 116 _ _ (cons_rest 97 97 _ _ (begun 4 (97 ∷ 116 ∷ 97 ∷ b ∷ more) e refl)))) ∙ ap (λ j. get_or (codes "Data:\r") j 0) e)
    by (suc (suc (suc (suc (suc zero))))) e = on (at_end l.end l.is_end (cons_rest 58 58 _ _ (cons_rest 97 97 _ _ (cons_rest 116 116 _ _ (cons_rest 97 97 _ _ (begun 5 (97 ∷ 116 ∷ 97 ∷ 58 ∷ b ∷ more) e refl))))))
      where
        on : (b ≡ 10) ⊎ (b ≡ 13) → ⊥
        on (inl f) = end (omega (arith, e)) f
        on (inr f) = next (omega (arith, e)) (f ∙ ap (λ j. get_or (codes "Data:\r") j 0) e)
    by (suc (suc (suc (suc (suc (suc zero)))))) e = end (omega (arith, e)) (at_feed l.end l.is_end (cons_rest 58 58 _ _ (cons_rest 97 97 _ _ (cons_rest 116 116 _ _ (cons_rest 97 97 _ _ (begun 6 (97 ∷ 116 ∷ 97 ∷ 58 ∷ 13 ∷ b ∷ more) e refl))))))
    by (suc (suc (suc (suc (suc (suc (suc k))))))) e = absurd (omega (arith, o.most, e))

line_rest : (n : ℕ) → n ≤ 6 → (next : ℕ) × (more end : List ℕ) × ((end ≡ codes "\n") ⊎ (end ≡ codes "\r\n")) × (take n (codes "Data:\r") ++ next ∷ more ≡ codes "Data:" ++ end)
line_rest zero most = (68, codes "ata:\n", codes "\n", inl refl, refl)
line_rest (suc zero) most = (97, codes "ta:\n", codes "\n", inl refl, refl)
line_rest (suc (suc zero)) most = (116, codes "a:\n", codes "\n", inl refl, refl)
line_rest (suc (suc (suc zero))) most = (97, codes ":\n", codes "\n", inl refl, refl)
line_rest (suc (suc (suc (suc zero)))) most = (58, codes "\n", codes "\n", inl refl, refl)
line_rest (suc (suc (suc (suc (suc zero))))) most = (10, [], codes "\n", inl refl, refl)
line_rest (suc (suc (suc (suc (suc (suc zero)))))) most = (10, [], codes "\r\n", inr refl, refl)
line_rest (suc (suc (suc (suc (suc (suc (suc n))))))) most = absurd (omega (arith, most))

-- the line is not ended
pub unended : (n : ℕ) (bytes : List ℕ) → HasCome n bytes → EndsInDataLine bytes
unended n bytes o =
    let (next, more, end, is_end, whole) = line_rest n o.most in (
      next,
      more,
      record {
        white = o.white;
        end = end;
        parts = ap (λ l. l ++ next ∷ more) o.parts ∙ append_assoc o.white (take n (codes "Data:\r")) (next ∷ more) ∙ ap (λ l. o.white ++ l) whole;
        is_white = o.is_white;
        is_end = is_end;
      },
    )

pub ended_in : (bytes piece : List ℕ) (i : ℕ) → i < length piece → IsDataLine ((bytes ++ take i piece) ++ get_or piece i 0 ∷ []) → (i + 1 ≤ length piece) × IsDataLine (bytes ++ take (i + 1) piece)
ended_in bytes piece i lt is = (omega (arith, lt), subst IsDataLine (text_more bytes piece i lt) is)

pub bad_in : (n : ℕ) (bytes piece : List ℕ) (i : ℕ) → i < length piece → HasCome n (bytes ++ take i piece) → ((more : List ℕ) → IsDataLine ((bytes ++ take i piece) ++ get_or piece i 0 ∷ more) → ⊥)
    → IsBadDataLine (bytes ++ piece) (length bytes + i)
bad_in n bytes piece i lt front bad = record {
  front = bytes ++ take i piece;
  next = get_or piece i 0;
  rest = drop (i + 1) piece;
  parts = sym (text_whole bytes piece i lt);
  begun = unended n (bytes ++ take i piece) front;
  bad = bad;
  is_place = sym (length-append bytes (take i piece) ∙ ap (λ k. length bytes + k) (length-take-le i piece (omega (arith, lt))));
}
