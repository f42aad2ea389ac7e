-- Bodies that are cut or bad, and what is shown of them.
use Rattle.std.proofs.Common.{◌≡◌, ℕ, pos, negsuc, List, [], ◌∷◌, ◌++◌, take, drop, All, Bool, true, false, ◌==◌, nat_lt, codes, ⊎_elim, lit≤, refl, ◌∙◌, sym, subst, arith}
use Rattle.std.proofs.lemmas.Bool.{false≢true}
use Rattle.std.proofs.lemmas.Bool.Decides.{nat_tests, Decides-eqb}
use Rattle.std.proofs.lemmas.Int.{ints}
use Rattle.std.proofs.lemmas.List.Elements.{All-cons, All-nil}
use Rattle.std.specs.Fmt.{digits}
use Rattle.std.specs.List.{list_all}
use Rattle.plain_lemmas.proofs.Truths.{both_true}
use Rattle.dap_types.specs.Model.{Tree}
use Rattle.dap_types.specs.declared.declarations.BaseType.TheVariants.{Int32, Text}
use Rattle.dap_model.proofs.FieldKinds.{SameKind}
use Rattle.dap_model.proofs.Files.{column, buoys, buoys_rows, list, text, whole, words}
use Rattle.dap_model.proofs.OneSpelling.{next_kind}
use Rattle.dap_model.proofs.Spelling.{Small, spelled}
use Rattle.dap_model.specs.Fits.{FitsRow, FitsAll}
use Rattle.dap_model.specs.Received.{IsOpen, IsBadField, IsFront, lines, open_line, wrong_mark}
use Rattle.dap_model.specs.Xdr as field
use Rattle.dap_model.specs.Xdr.{Field, bytes_of, field_bytes, fields_all, SpellsField, SpellsFields}

pub differ : (n m : ℕ) → (n == m) ≡ false → n ≡ m → ⊥
differ n m apart same = false≢true (sym apart ∙ (Decides-eqb n m).1 same)

-- fields whose counts are words are spelled by their bytes
abbrev is_small : Field → Bool
is_small (field.count n) = nat_lt n 4294967296
is_small f = true

small_field : (f : Field) → is_small f ≡ true → Small f
small_field (field.count n) is = grind (arith, nat_tests)
small_field f is = tt

small_fields : (fs : List Field) → list_all is_small fs ≡ true → All Small fs
small_fields [] all = All-nil Small
small_fields (f ∷ fs) all = let both = both_true (is_small f) (list_all is_small fs) all in All-cons Small f fs (small_field f both.0) (small_fields fs both.1)

pub spelled_by : (fs : List Field) (bs : List ℕ) → list_all is_small fs ≡ true → bytes_of fs ≡ bs → SpellsFields fs bs
spelled_by fs bs small is = subst (SpellsFields fs) is (spelled fs (small_fields fs small))

-- the rows of buoys.csv fit
fits_buoys : FitsAll buoys.members buoys_rows
fits_buoys =
    let first : Tree = list (text (codes "A1") ∷ whole (pos 5) ∷ []) in
    let second : Tree = list (text (codes "B22") ∷ whole (negsuc 6) ∷ []) in
    let columns = column Text (codes "station") ∷ column Int32 (codes "depth") ∷ [] in (
      (
        tt,
        All-cons (FitsRow columns) first (second ∷ [])
            (tt, (omega arith, ((omega (arith, ints), omega (arith, ints)), tt)))
            (All-cons (FitsRow columns) second [] (tt, (omega arith, ((omega (arith, ints), omega (arith, ints)), tt))) (All-nil (FitsRow columns))),
      ),
      tt,
    )

abbrev buoys_fields : List Field
buoys_fields = fields_all buoys.members buoys_rows

-- without the last byte the values are cut in the last mark
abbrev eight_words : List ℕ
eight_words = words (0x5a000000 ∷ 2 ∷ 0x41310000 ∷ 5 ∷ 0x5a000000 ∷ 3 ∷ 0x42323200 ∷ 0xfffffff9 ∷ [])

ten_fields : bytes_of (take 10 buoys_fields) ≡ eight_words
unfolding bytes_of field_bytes
ten_fields = refl

cut_mark_open : IsOpen buoys (eight_words ++ 0xa5 ∷ 0 ∷ 0 ∷ [])
cut_mark_open = record {
  front = eight_words;
  own = 0xa5 ∷ 0 ∷ 0 ∷ [];
  fields = take 10 buoys_fields;
  wanted = field.mark 0xa5;
  parts = refl;
  good = spelled_by (take 10 buoys_fields) eight_words refl ten_fields;
  may_follow = (buoys_rows, [], fits_buoys, refl);
  cut = lit≤ tt;
}

cut_mark_lines : lines buoys buoys_rows (take 10 buoys_fields)
    ≡ codes "buoys[0].station = \"A1\"\nbuoys[0].depth = 5\nbuoys[1].station = \"B22\"\nbuoys[1].depth = -7\n"
unfolding digits
cut_mark_lines = refl

cut_mark_part : open_line buoys buoys_rows (take 10 buoys_fields) (drop 10 buoys_fields) 3 ≡ []
cut_mark_part = refl

cut_mark : IsFront buoys (eight_words ++ 0xa5 ∷ 0 ∷ 0 ∷ []) (codes "buoys[0].station = \"A1\"\nbuoys[0].depth = 5\nbuoys[1].station = \"B22\"\nbuoys[1].depth = -7\n") []
cut_mark = record {
  trees = buoys_rows;
  fields = take 10 buoys_fields;
  rest = drop 10 buoys_fields;
  front = eight_words;
  own = 0xa5 ∷ 0 ∷ 0 ∷ [];
  parts = refl;
  fit = fits_buoys;
  in_order = refl;
  good = spelled_by (take 10 buoys_fields) eight_words refl ten_fields;
  cut = lit≤ tt;
  are_own = tt;
  are_lines = sym cut_mark_lines;
  is_begun = refl;
}

-- the second mark is 5b000000, at 16 of the values
abbrev four_words : List ℕ
four_words = words (0x5a000000 ∷ 2 ∷ 0x41310000 ∷ 5 ∷ [])

five_fields : bytes_of (take 5 buoys_fields) ≡ four_words
unfolding bytes_of field_bytes
five_fields = refl

no_mark : (f : Field) → SameKind f (field.mark 0x5a) → SpellsField f (0x5b ∷ 0 ∷ 0 ∷ 0 ∷ []) → ⊥
unfolding field_bytes
no_mark (field.mark b) kind spelled' =
    let is : 0x5b ≡ b = cc in
    ⊎_elim (λ a. differ 0x5b 0x5a refl (is ∙ a)) (λ a. differ 0x5b 0xa5 refl (is ∙ a)) kind.0
no_mark f kind spelled' = absurd kind

second_mark : IsBadField buoys (words (0x5a000000 ∷ 2 ∷ 0x41310000 ∷ 5 ∷ 0x5b000000 ∷ 3 ∷ 0x42323200 ∷ 0xfffffff9 ∷ 0xa5000000 ∷ [])) wrong_mark 16
second_mark = record {
  front = four_words;
  own = 0x5b ∷ 0 ∷ 0 ∷ 0 ∷ [];
  rest = words (3 ∷ 0x42323200 ∷ 0xfffffff9 ∷ 0xa5000000 ∷ []);
  fields = take 5 buoys_fields;
  wanted = field.mark 0x5a;
  parts = refl;
  good = spelled_by (take 5 buoys_fields) four_words refl five_fields;
  may_follow = (buoys_rows, drop 6 buoys_fields, fits_buoys, refl);
  whole = refl;
  bad = λ f may. no_mark f (next_kind buoys (take 5 buoys_fields) f (field.mark 0x5a) may (buoys_rows, drop 6 buoys_fields, fits_buoys, refl));
  is_fault = refl;
  is_place = refl;
}

second_mark_lines : lines buoys buoys_rows (take 5 buoys_fields) ≡ codes "buoys[0].station = \"A1\"\nbuoys[0].depth = 5\n"
unfolding digits
second_mark_lines = refl

second_mark_part : open_line buoys buoys_rows (take 5 buoys_fields) (drop 5 buoys_fields) 0 ≡ []
second_mark_part = refl

-- cut in the second station, behind its second byte
cut_in_text : open_line buoys buoys_rows (take 7 buoys_fields) (drop 7 buoys_fields) 2 ≡ codes "buoys[1].station = \"B2"
unfolding digits
cut_in_text = refl
