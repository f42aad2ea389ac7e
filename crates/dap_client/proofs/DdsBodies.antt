-- From a front of the body of a DDS to one with another piece.
use Rattle.std.proofs.Common.{◌≡◌, ℕ, ◌+◌, ◌-◌, ◌<◌, ◌≤◌, true, false, not, List, [], ◌∷◌, ◌++◌, length, take, drop, get_or, refl, sym, ap, subst, ◌∙◌, append_assoc, append-nil, length-append, length-drop, length-take, length-take-le, take-append-drop, take_all, inl, inr, arith}
use Rattle.std.proofs.lemmas.Grind.{common_steps}
use Rattle.std.proofs.lemmas.List.{take_more}
use Rattle.std.proofs.lemmas.List.Elements.{All-append, All-cons, All-nil}
use Rattle.std.specs.List.{AllPass}
use Rattle.dap_types.specs.Model.{Dataset}
use Rattle.dap_model.specs.Grammar.{DdsOf}
use Rattle.dap_model.specs.Tokens.{is_white}
use Rattle.dds_text.proofs.Readings.{open_text}
use Rattle.dds_text.specs.Reading.{IsDone, IsUnfinished, limit}
use Rattle.dds_text.specs.inner.States.{begun}
use Rattle.xdr_decode.specs.Verdict.{HasText}
use Rattle.reply_faults.specs.declared.bad.Bad.TheVariants.{Trailing}
use Rattle.dap_client.specs.Verdict.{JudgesDds, bad, good_dds}

abbrev White : ℕ → Type 0
White b = is_white b ≡ true

pub none_white : (piece : List ℕ) → AllPass is_white (take 0 piece)
none_white piece = All-nil White

pub more_white : (piece : List ℕ) (at : ℕ) → at < length piece → AllPass is_white (take at piece) → is_white (get_or piece at 0) ≡ true → AllPass is_white (take (at + 1) piece)
more_white piece at lt all one = subst (AllPass is_white) (sym (take_more piece at 0 lt)) (All-append White (take at piece) (get_or piece at 0 ∷ []) all (All-cons White (get_or piece at 0) [] one (All-nil White)))

pub all_white : (piece : List ℕ) (at : ℕ) → length piece ≤ at → AllPass is_white (take at piece) → AllPass is_white piece
all_white piece at le all = subst (AllPass is_white) (take_all at piece le) all

-- no bytes are a front of a text
pub no_bytes : IsUnfinished []
no_bytes = (open_text [] begun refl tt, omega arith)

text_more : (bytes piece : List ℕ) (d : Dataset) (text white : List ℕ) → HasText bytes d text white → HasText (bytes ++ piece) d text (white ++ piece)
text_more bytes piece d text white h = record { parts = ap (λ l. l ++ piece) h.parts ∙ append_assoc text white piece; is_text = h.is_text; text_limit = h.text_limit }

pub white_on : (bytes piece : List ℕ) (d : Dataset) → JudgesDds bytes (good_dds d) → AllPass is_white piece → JudgesDds (bytes ++ piece) (good_dds d)
white_on bytes piece d (text, white, h, all) also = (text, white ++ piece, text_more bytes piece d text white h, All-append White white piece all also)

piece_whole : (white piece more : List ℕ) (at : ℕ) → at < length piece → (white ++ piece) ++ more ≡ (white ++ take at piece) ++ get_or piece at 0 ∷ (drop (at + 1) piece ++ more)
piece_whole white piece more at lt = grind (arith, common_steps)

pub stray_on : (bytes piece : List ℕ) (d : Dataset) (at : ℕ) → JudgesDds bytes (good_dds d) → at < length piece → AllPass is_white (take at piece) → is_white (get_or piece at 0) ≡ false
    → (more : List ℕ) → JudgesDds ((bytes ++ piece) ++ more) (bad Trailing (length bytes + at))
stray_on bytes piece d at (text, white, h, all) lt also other more =
    let whole = text_more (bytes ++ piece) more d text (white ++ piece) (text_more bytes piece d text white h) in
    inr (inl (
      record {
        dataset = d;
        text = text;
        white = white ++ take at piece;
        next = get_or piece at 0;
        rest = drop (at + 1) piece ++ more;
        has_text = subst (HasText ((bytes ++ piece) ++ more) d text) (piece_whole white piece more at lt) whole;
        all_white = All-append White white (take at piece) all also;
        other = ap not other;
        is_place = omega (arith, ap length h.parts, length-append text white, length-append white (take at piece), length-take-le at piece (omega (arith, lt)));
      },
      refl,
    ))

-- a text that just ended
pub just_ended : (bytes : List ℕ) (d : Dataset) → IsDone bytes (length bytes) d → JudgesDds bytes (good_dds d)
just_ended bytes d done =
    let within : length bytes ≤ length (take limit bytes) = done.within in
    let short : length bytes ≤ 16777216 = omega (arith, within, length-take limit bytes) in
    let all : take limit bytes ≡ bytes = take_all limit bytes (omega (arith, short)) in (
      bytes,
      [],
      record {
        parts = sym (append-nil bytes);
        is_text = subst (λ t. DdsOf t d) (ap (take (length bytes)) all ∙ take_all (length bytes) bytes (omega arith)) done.is_text;
        text_limit = short;
      },
      All-nil White,
    )

-- a piece up to where its text ended, and the rest of it
pub piece_parts : (bytes piece : List ℕ) (used : ℕ) → used ≤ length piece → (bytes ++ take used piece) ++ take (length piece - used) (drop used piece) ≡ bytes ++ piece
piece_parts bytes piece used le =
    ap (λ l. (bytes ++ take used piece) ++ l) (take_all (length piece - used) (drop used piece) (omega (arith, length-drop used piece))) ∙ append_assoc bytes (take used piece) (drop used piece) ∙ ap (λ l. bytes ++ l) (take-append-drop used piece)
