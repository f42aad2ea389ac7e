-- A body that begins with the text of a dataset is no Error object.
use Rattle.std.proofs.Common.{◌≡◌, ℕ, true, false, List, [], ◌∷◌, ◌++◌, length, map, codes, sym, ap, ◌∙◌, append_assoc, IsTrue}
use Rattle.std.specs.Cmp.Lexicographic.{pointwise, same_text}
use Rattle.std.specs.Str.{bytes_eq, str_eq_ignore_ascii_case, str_to_ascii_lowercase}
use Rattle.viable.proofs.Tests.{and_parts}
use Rattle.dap_types.specs.Model.{Dataset, Tree}
use Rattle.dap_model.specs.Body.{IsBody, IsHead}
use Rattle.dap_model.specs.Grammar.{DdsOf, Judged, Slot, closes, fine, keyword, name, opens, semicolon, slots_all, spells}
use Rattle.dap_model.specs.Tokens.{Placed, Token, sign, tokens_from, tokens_of, word}
use Rattle.dds_text.proofs.Readings.{tokens_grow}
use Rattle.dds_text.specs.inner.Words.{left}
use Rattle.dap_errors.specs.Object.{is_error_word}
use Rattle.error_word.specs.Saying.{begins_error, says_error}

keyword_other : (w : List ℕ) → str_eq_ignore_ascii_case (codes "Dataset") w ≡ true → is_error_word w ≡ false
unfolding is_error_word
keyword_other w is = ap (bytes_eq (codes "error")) (sym (same_text (codes "dataset") (str_to_ascii_lowercase w) (sym is)))

first_other : (ts more : List Token) (slots : List Slot) → IsTrue (pointwise spells (keyword (codes "Dataset") ∷ slots) ts) → begins_error (ts ++ more) ≡ false
first_other [] more slots is = cc
first_other (word w ∷ ts) more slots is = keyword_other w (and_parts (str_eq_ignore_ascii_case (codes "Dataset") w) (pointwise spells slots ts) is).0
first_other (sign b ∷ ts) more slots is = cc

-- a text of a dataset is none, whatever follows
pub text_no_error : (text more : List ℕ) (d : Dataset) → DdsOf text d → says_error (text ++ more) ≡ false
unfolding says_error
text_no_error text more d is = ap begins_error (tokens_grow text more) ∙ first_other (tokens_of text) (map (λ (p : Placed). p.token) (tokens_from (left text) (length text) more)) (map (λ (j : Judged). j.slot) (opens ∷ (slots_all 1 1 [] d.members ++ closes ∷ fine (name d.name) ∷ semicolon ∷ []))) is.stands.1

-- a data response is none
pub body_no_error : (bytes : List ℕ) (d : Dataset) (ts : List Tree) → IsBody bytes d ts → says_error bytes ≡ false
body_no_error bytes d ts b =
    let h : IsHead b.head d = b.is_head in
    let laid : bytes ≡ h.text ++ (h.white ++ (codes "Data:" ++ (h.end ++ b.values))) =
    b.parts ∙ ap (λ l. l ++ b.values) h.parts ∙ append_assoc (h.text ++ h.white ++ codes "Data:") h.end b.values
    ∙ append_assoc (h.text ++ h.white) (codes "Data:") (h.end ++ b.values) ∙ append_assoc h.text h.white (codes "Data:" ++ (h.end ++ b.values)) in
    ap says_error laid ∙ text_no_error h.text (h.white ++ (codes "Data:" ++ (h.end ++ b.values))) d h.is_text
