-- From a front of the first token of a body to one with another byte.
use Rattle.std.proofs.Common.{◌≡◌, ℕ, ◌+◌, ◌<◌, Bool, true, false, if◌then◌else◌, List, [], ◌∷◌, ◌++◌, length, take, drop, get_or, refl, sym, ap, subst, ◌∙◌, append_assoc}
use Rattle.dap_model.specs.Tokens.{Placed, ended, is_plain, is_sign, is_white, sign, sign_at, tokens_from, tokens_of}
use Rattle.dds_text.specs.inner.Words.{left}
use Rattle.dds_text.proofs.Bytes.{left-plain, left-stop, tokens-plain}
use Rattle.error_word.proofs.FirstWords.{seam, sign_byte, some_more, stopped, white_byte, white_no_sign}
use Rattle.dap_model.proofs.OneBody.{bare}

pub white_on : (bytes : List ℕ) (b : ℕ) → (tokens_of bytes ≡ []) × (left bytes ≡ []) → is_white b ≡ true → (tokens_of (bytes ++ b ∷ []) ≡ []) × (left (bytes ++ b ∷ []) ≡ [])
white_on bytes b (none, empty) w = (
  stopped bytes b [] none (white_byte b w) ∙ ap (λ l. bare (ended l (length bytes) ++ sign_at b (length bytes) ++ [])) empty
      ∙ ap (λ c. bare ((if c then record { token = sign b; place = length bytes } ∷ [] else []) ++ [])) (white_no_sign b w),
  left-stop bytes b (white_byte b w),
)

pub word_begins : (bytes : List ℕ) (b : ℕ) → (tokens_of bytes ≡ []) × (left bytes ≡ []) → is_plain b ≡ true → (tokens_of (bytes ++ b ∷ []) ≡ []) × ¬ (left (bytes ++ b ∷ []) ≡ [])
word_begins bytes b (none, empty) on = (tokens-plain bytes b on ∙ none, λ e. some_more (left bytes) b (sym (left-plain bytes b on) ∙ e))

pub word_on : (bytes : List ℕ) (b : ℕ) → (tokens_of bytes ≡ []) × ¬ (left bytes ≡ []) → is_plain b ≡ true → (tokens_of (bytes ++ b ∷ []) ≡ []) × ¬ (left (bytes ++ b ∷ []) ≡ [])
word_on bytes b (none, some) on = (tokens-plain bytes b on ∙ none, λ e. some_more (left bytes) b (sym (left-plain bytes b on) ∙ e))

at_sign : (c : Bool) (b at : ℕ) (rest : List Placed) → c ≡ true → bare ((if c then record { token = sign b; place = at } ∷ [] else []) ++ rest) ≡ [] → ⊥
at_sign true b at rest is e = cc
at_sign false b at rest is e = cc

pub sign_whole : (bytes : List ℕ) (b : ℕ) → (tokens_of bytes ≡ []) × (left bytes ≡ []) → is_white b ≡ false → is_sign b ≡ true → (more : List ℕ) → ¬ (tokens_of ((bytes ++ b ∷ []) ++ more) ≡ [])
sign_whole bytes b (none, empty) w s more e =
    let laid : tokens_of ((bytes ++ b ∷ []) ++ more) ≡ bare (ended [] (length bytes) ++ sign_at b (length bytes) ++ tokens_from [] (length bytes + 1) more) =
    ap tokens_of (append_assoc bytes (b ∷ []) more) ∙ stopped bytes b more none (sign_byte b w s) ∙ ap (λ l. bare (ended l (length bytes) ++ sign_at b (length bytes) ++ tokens_from [] (length bytes + 1) more)) empty in
    at_sign (is_sign b) b (length bytes) (tokens_from [] (length bytes + 1) more) s (sym laid ∙ e)

at_word : (w : List ℕ) (at : ℕ) (signs rest : List Placed) → (w ≡ [] → ⊥) → bare (ended w at ++ signs ++ rest) ≡ [] → ⊥
at_word [] at signs rest some e = some refl
at_word (b ∷ w) at signs rest some e = cc

word_whole : (bytes : List ℕ) (b : ℕ) → (tokens_of bytes ≡ []) × ¬ (left bytes ≡ []) → is_plain b ≡ false → (more : List ℕ) → ¬ (tokens_of ((bytes ++ b ∷ []) ++ more) ≡ [])
word_whole bytes b (none, some) stop more e =
    let laid : tokens_of ((bytes ++ b ∷ []) ++ more) ≡ bare (ended (left bytes) (length bytes) ++ sign_at b (length bytes) ++ tokens_from [] (length bytes + 1) more) =
    ap tokens_of (append_assoc bytes (b ∷ []) more) ∙ stopped bytes b more none stop in
    at_word (left bytes) (length bytes) (sign_at b (length bytes)) (tokens_from [] (length bytes + 1) more) some (sym laid ∙ e)

pub word_white : (bytes : List ℕ) (b : ℕ) → (tokens_of bytes ≡ []) × ¬ (left bytes ≡ []) → is_white b ≡ true → (more : List ℕ) → ¬ (tokens_of ((bytes ++ b ∷ []) ++ more) ≡ [])
word_white bytes b o w = word_whole bytes b o (white_byte b w)

pub word_sign : (bytes : List ℕ) (b : ℕ) → (tokens_of bytes ≡ []) × ¬ (left bytes ≡ []) → is_white b ≡ false → is_sign b ≡ true → (more : List ℕ) → ¬ (tokens_of ((bytes ++ b ∷ []) ++ more) ≡ [])
word_sign bytes b o w s = word_whole bytes b o (sign_byte b w s)

-- a whole token stays, whatever follows
pub whole_on : (bytes piece : List ℕ) → ((more : List ℕ) → ¬ (tokens_of (bytes ++ more) ≡ [])) → (more : List ℕ) → ¬ (tokens_of ((bytes ++ piece) ++ more) ≡ [])
whole_on bytes piece whole more e = whole (piece ++ more) (ap tokens_of (sym (append_assoc bytes piece more)) ∙ e)

pub whole_in : (bytes piece : List ℕ) (i : ℕ) → i < length piece → ((more : List ℕ) → ¬ (tokens_of (((bytes ++ take i piece) ++ get_or piece i 0 ∷ []) ++ more) ≡ [])) → (more : List ℕ) → ¬ (tokens_of ((bytes ++ piece) ++ more) ≡ [])
whole_in bytes piece i lt whole =
    subst (λ l. (more : List ℕ) → ¬ (tokens_of (l ++ more) ≡ [])) (seam bytes piece i lt) (whole_on ((bytes ++ take i piece) ++ get_or piece i 0 ∷ []) (drop (i + 1) piece) whole)
