-- From a front of the body of a DAS to one with another piece.
use Rattle.std.proofs.Common.{◌≡◌, ℕ, ◌+◌, ◌-◌, ◌<◌, ◌≤◌, false, not, ◌&&◌, List, ◌∷◌, ◌++◌, length, take, drop, get_or, sym, ap, subst, ◌∙◌, append_assoc, length-append, length-drop, length-take-le, IsTrue, inl, inr, arith}
use Rattle.std.proofs.lemmas.Grind.{common_steps}
use Rattle.std.proofs.lemmas.List.Folds.{list_all-append}
use Rattle.std.specs.List.{AllPass, list_all}
use Rattle.std.proofs.lemmas.List.{take-append-le}
use Rattle.dap_client.proofs.Objects.{behind_more, reads_within}
use Rattle.dap_model.specs.Tokens as dds
use Rattle.text_tokens.specs.Languages.{BadToken, Breaks, SpellsTo}
use Rattle.text_tokens.specs.Tokens.{is_white}
use Rattle.das_text.specs.Grammar.{IsDas, signs}
use Rattle.das_text.specs.Model.{Attributes}
use Rattle.das_text.specs.Reading.{DasOf, DasEndsAt, IsBad, IsTrailing, front, limit}
use Rattle.dap_client.proofs.Begun.{whites}
use Rattle.das_text.proofs.SameTokens.{white_same}

front_more : (bytes more : List ℕ) → limit ≤ length bytes → front (bytes ++ more) ≡ front bytes
front_more bytes more long = take-append-le limit bytes more long

ends_within : (bytes : List ℕ) (at : ℕ) (a : Attributes) → limit ≤ length bytes → DasEndsAt bytes at a → at ≤ length bytes
ends_within bytes at a long is =
    let within : at ≤ length (front bytes) = reads_within signs (front bytes) 0 is.tokens at is.read (omega arith) in
    omega (arith, within, long, length-take-le limit bytes long)

ends_more : (bytes more : List ℕ) (at : ℕ) (a : Attributes) → limit ≤ length bytes → DasEndsAt bytes at a → DasEndsAt (bytes ++ more) at a
ends_more bytes more at a long is = subst (λ z. SpellsTo signs IsDas z at a) (sym (front_more bytes more long)) is

pub bad_stays : (bytes : List ℕ) (place : ℕ) → limit ≤ length bytes → IsBad bytes place → (more : List ℕ) → IsBad (bytes ++ more) place
bad_stays bytes place long (inl b) more = inl (subst (λ z. BadToken signs IsDas z place) (sym (front_more bytes more long)) b)
bad_stays bytes place long (inr (b, at, is)) more = inr (subst (λ z. Breaks signs IsDas z) (sym (front_more bytes more long)) b, omega (arith, at, length-append bytes more), is)

pub trailing_stays : (bytes : List ℕ) (place : ℕ) → limit ≤ length bytes → IsTrailing bytes place → (more : List ℕ) → IsTrailing (bytes ++ more) place
trailing_stays bytes place long t more = record {
  behind = t.behind;
  attributes = t.attributes;
  ends = ends_more bytes more t.behind t.attributes long t.ends;
  trails = record {
    white = t.trails.white;
    byte = t.trails.byte;
    rest = t.trails.rest ++ more;
    bytes_are = behind_more bytes t.behind more (ends_within bytes t.behind t.attributes long t.ends) ∙ ap (λ l. l ++ more) t.trails.bytes_are ∙ append_assoc t.trails.white (t.trails.byte ∷ t.trails.rest) more;
    all_white = t.trails.all_white;
    other = t.trails.other;
    place_is = t.trails.place_is;
  };
}

white_both : (xs ys : List ℕ) → IsTrue (list_all is_white xs) → IsTrue (list_all is_white ys) → IsTrue (list_all is_white (xs ++ ys))
white_both xs ys a b = list_all-append is_white xs ys ∙ ap (λ c. c && list_all is_white ys) a ∙ b

pub das_more : (bytes piece : List ℕ) (a : Attributes) → limit ≤ length bytes → DasOf bytes a → AllPass dds.is_white piece → (limit ≤ length (bytes ++ piece)) × DasOf (bytes ++ piece) a
das_more bytes piece a long w all = (
  omega (arith, long, length-append bytes piece),
  record {
    behind = w.behind;
    ends = ends_more bytes piece w.behind a long w.ends;
    white = subst (λ l. IsTrue (list_all is_white l)) (sym (behind_more bytes w.behind piece (ends_within bytes w.behind a long w.ends))) (white_both (drop w.behind bytes) piece w.white (whites piece all));
  },
)

piece_whole : (white piece more : List ℕ) (at : ℕ) → at < length piece → white ++ (piece ++ more) ≡ (white ++ take at piece) ++ get_or piece at 0 ∷ (drop (at + 1) piece ++ more)
piece_whole white piece more at lt = grind (arith, common_steps)

pub das_stray : (bytes piece : List ℕ) (a : Attributes) (at : ℕ) → limit ≤ length bytes → DasOf bytes a → at < length piece → AllPass dds.is_white (take at piece) → dds.is_white (get_or piece at 0) ≡ false
    → (more : List ℕ) → IsTrailing ((bytes ++ piece) ++ more) (length bytes + at)
das_stray bytes piece a at long w lt all other more =
    let within = ends_within bytes w.behind a long w.ends in
    let here : IsTrailing (bytes ++ (piece ++ more)) (length bytes + at) = record {
      behind = w.behind;
      attributes = a;
      ends = ends_more bytes (piece ++ more) w.behind a long w.ends;
      trails = record {
        white = drop w.behind bytes ++ take at piece;
        byte = get_or piece at 0;
        rest = drop (at + 1) piece ++ more;
        bytes_are = behind_more bytes w.behind (piece ++ more) within ∙ piece_whole (drop w.behind bytes) piece more at lt;
        all_white = white_both (drop w.behind bytes) (take at piece) w.white (whites (take at piece) all);
        other = ap not (sym (white_same (get_or piece at 0)) ∙ other);
        place_is = omega (arith, within, length-drop w.behind bytes, length-append (drop w.behind bytes) (take at piece), length-take-le at piece (omega (arith, lt)));
      };
    } in subst (λ l. IsTrailing l (length bytes + at)) (sym (append_assoc bytes piece more)) here
