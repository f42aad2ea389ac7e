-- A body in the other spelling of a Byte, and bodies with one bad field.
use Rattle.std.proofs.Common.{◌≡◌, ℕ, pos, negsuc, suc, ◌+◌, ◌-◌, ◌≤◌, List, [], ◌∷◌, ◌++◌, length, All, true, None, codes, ◌⊎◌, inl, inr, lit≤, refl, ap, ◌∙◌, subst, arith}
use Rattle.std.proofs.lemmas.Int.{ints}
use Rattle.std.proofs.lemmas.List.Elements.{All-cons, All-nil}
use Rattle.std.specs.Fmt.{digits}
use Rattle.dap_types.proofs.Rules.{well_formed_without_fault}
use Rattle.dap_types.specs.Model.{Member, scalar, array, Dataset}
use Rattle.dap_types.specs.WellFormed.{fault}
use Rattle.dap_types.specs.declared.declarations.BaseType.TheVariants.{Byte, Int16, Int32, Text}
use Rattle.dap_types.specs.declared.values.Value.{Value}
use Rattle.dap_types.specs.declared.values.Value.TheVariants as values
use Rattle.dap_model.proofs.FieldKinds.{SameKind, word_same}
use Rattle.dap_model.proofs.Files.{dataset, column, array_of, numbers, text, whole, words}
use Rattle.dap_model.proofs.Fronts.{differ, spelled_by}
use Rattle.dap_model.proofs.OneSpelling.{next_kind}
use Rattle.dap_model.specs.Body.{IsHead, IsBody}
use Rattle.dap_model.specs.Dds.{line, column_text, closing, dds}
use Rattle.dap_model.specs.Fits.{IsOf, FitsArray, FitsAll}
use Rattle.dap_model.specs.Grammar.{StandsFor}
use Rattle.dap_model.specs.Received.{MayFollow, IsBadField, bad_count, bad_word, bad_padding}
use Rattle.dap_model.specs.Shown.{shown}
use Rattle.dap_model.specs.Tokens.{is_white, tokens_of}
use Rattle.dap_model.specs.Xdr as field
use Rattle.dap_model.specs.Xdr.{Field, word, zeros, bytes_of, field_bytes, SpellsField}

-- a dataset f of one variable
abbrev one_variable : Member → Dataset
one_variable m = dataset (codes "f") (m ∷ [])

abbrev byte_q : Dataset
byte_q = one_variable (scalar (column Byte (codes "q")))

abbrev short_q : Dataset
short_q = one_variable (scalar (column Int16 (codes "q")))

abbrev string_q : Dataset
string_q = one_variable (scalar (column Text (codes "q")))

abbrev pair_q : Dataset
pair_q = one_variable (array (array_of Int32 (codes "q") (record { name = None; size = 2 } ∷ [])))

no_faults : (fault byte_q ≡ None) × (fault short_q ≡ None) × (fault string_q ≡ None) × (fault pair_q ≡ None)
unfolding fault
no_faults = (refl, refl, refl, refl)

-- a head from a text whose tokens stand for the dataset
one_white : All (λ b. is_white b ≡ true) (codes "\n")
one_white = All-cons (λ b. is_white b ≡ true) 10 [] refl (All-nil (λ b. is_white b ≡ true))

head_of : (text front : List ℕ) (d : Dataset) (end : List ℕ) → StandsFor (tokens_of text) d → text ≡ front ++ codes ";" → fault d ≡ None → (end ≡ codes "\n") ⊎ (end ≡ codes "\r\n") → length text ≤ 16777216
    → IsHead (text ++ codes "\n" ++ codes "Data:" ++ end) d
head_of text front d end stands ends none is_end short = record {
  text = text;
  white = codes "\n";
  end = end;
  parts = refl;
  is_text = record { stands = stands; ends = (front, ends); well_formed = well_formed_without_fault d none };
  is_white = one_white;
  is_end = is_end;
  text_limit = short;
}

-- the word ffffff80 is the Byte 128
extended_byte : IsBody (codes "Dataset {\n    Byte q;\n} f;\nData:\r\n" ++ words (0xffffff80 ∷ [])) byte_q (whole (pos 128) ∷ [])
extended_byte = record {
  head = codes "Dataset {\n    Byte q;\n} f;\nData:\r\n";
  values = words (0xffffff80 ∷ []);
  parts = refl;
  is_head = head_of (codes "Dataset {\n    Byte q;\n} f;") (codes "Dataset {\n    Byte q;\n} f") byte_q (codes "\r\n") (refl, refl) refl no_faults.0 (inr refl) (lit≤ tt);
  is_values = record { fit = ((omega (arith, ints), omega (arith, ints)), tt); spelled = (words (0xffffff80 ∷ []), [], refl, inr (lit≤ tt, refl), refl) };
  limit = lit≤ tt;
}

extended_byte_shown : shown byte_q (whole (pos 128) ∷ []) 38 ≡ codes "Dataset {\n    Byte q;\n} f;\nq = 128\ncomplete 38\n"
unfolding dds line column_text closing digits
extended_byte_shown = refl

-- an Int16 out of range, at 34
short_head : IsHead (codes "Dataset {\n    Int16 q;\n} f;\nData:\n") short_q
short_head = head_of (codes "Dataset {\n    Int16 q;\n} f;") (codes "Dataset {\n    Int16 q;\n} f") short_q (codes "\n") (refl, refl) refl no_faults.1 (inl refl) (lit≤ tt)

short_place : length (codes "Dataset {\n    Int16 q;\n} f;\nData:\n") + 0 ≡ 34
short_place = refl

no_short_word : (v : Value) → IsOf Int16 v → SpellsField (field.number Int16 v) (words (0x10000 ∷ [])) → ⊥
unfolding field_bytes
no_short_word (values.Whole (pos n)) is spelled = let same : 0x10000 ≡ n = word_same 0x10000 n (lit≤ tt) (omega (arith, ints)) spelled in omega (arith, ints)
no_short_word (values.Whole (negsuc n)) is spelled =
    let same : 0x10000 ≡ 4294967296 - (n + 1) = word_same 0x10000 (4294967296 - (n + 1)) (lit≤ tt) (omega (arith, ints)) (spelled ∙ ap (λ k. word (4294967296 - k)) (suc_is n)) in omega (arith, ints)
  where
    suc_is : (k : ℕ) → suc k ≡ k + 1
    suc_is k = omega arith
no_short_word v is spelled = absurd is

no_short : (f : Field) → SameKind f (field.number Int16 (values.Whole (pos 0))) → SpellsField f (words (0x10000 ∷ [])) → ⊥
no_short (field.number b v) kind spelled =
    no_short_word v (subst (λ c. IsOf c v) kind.0 kind.2) (subst (λ c. SpellsField (field.number c v) (words (0x10000 ∷ []))) kind.0 spelled)
no_short f kind spelled = absurd kind

short_word : IsBadField short_q (words (0x10000 ∷ [])) bad_word 0
short_word =
    let may : MayFollow short_q [] (field.number Int16 (values.Whole (pos 0))) = (whole (pos 0) ∷ [], [], ((omega (arith, ints), omega (arith, ints)), tt), refl) in
    record {
      front = [];
      own = words (0x10000 ∷ []);
      rest = [];
      fields = [];
      wanted = field.number Int16 (values.Whole (pos 0));
      parts = refl;
      good = refl;
      may_follow = may;
      whole = refl;
      bad = λ f follows. no_short f (next_kind short_q [] f (field.number Int16 (values.Whole (pos 0))) follows may);
      is_fault = refl;
      is_place = refl;
    }

-- a padding that is not zero, at 41
no_padding : (f : Field) → SameKind f (field.padding 2) → SpellsField f (0 ∷ 1 ∷ []) → ⊥
unfolding field_bytes
no_padding (field.padding n) kind spelled = let is : 0 ∷ 1 ∷ [] ≡ zeros 2 = spelled ∙ ap zeros kind in cc
no_padding f kind spelled = absurd kind

fits_string : FitsAll string_q.members (text (codes "ab") ∷ [])
fits_string = (lit≤ tt, tt)

abbrev size_and_text : List Field
size_and_text = field.size 2 ∷ field.text (codes "ab") ∷ []

size_and_text_bytes : bytes_of size_and_text ≡ words (2 ∷ []) ++ codes "ab"
unfolding bytes_of field_bytes
size_and_text_bytes = refl

string_padding : IsBadField string_q (words (2 ∷ 0x61620001 ∷ [])) bad_padding 6
string_padding =
    let may : MayFollow string_q (size_and_text) (field.padding 2) = (text (codes "ab") ∷ [], [], fits_string, refl) in
    record {
      front = words (2 ∷ []) ++ codes "ab";
      own = 0 ∷ 1 ∷ [];
      rest = [];
      fields = size_and_text;
      wanted = field.padding 2;
      parts = refl;
      good = spelled_by size_and_text (words (2 ∷ []) ++ codes "ab") refl size_and_text_bytes;
      may_follow = may;
      whole = refl;
      bad = λ f follows. no_padding f (next_kind string_q (size_and_text) f (field.padding 2) follows may);
      is_fault = refl;
      is_place = refl;
    }

string_place : length (codes "Dataset {\n    String q;\n} f;\nData:\n") + 6 ≡ 41
string_place = refl

string_head : IsHead (codes "Dataset {\n    String q;\n} f;\nData:\n") string_q
string_head = head_of (codes "Dataset {\n    String q;\n} f;") (codes "Dataset {\n    String q;\n} f") string_q (codes "\n") (refl, refl) refl no_faults.2 (inl refl) (lit≤ tt)

-- a second count that is not that of the array, at 41
no_count : (f : Field) → SameKind f (field.count 2) → SpellsField f (words (3 ∷ [])) → ⊥
no_count (field.count n) kind spelled = differ 3 2 refl (word_same 3 2 (lit≤ tt) (lit≤ tt) (spelled.1 ∙ ap word kind))
no_count f kind spelled = absurd kind

fits_pair : FitsAll pair_q.members (numbers (0 ∷ 0 ∷ []) ∷ [])
fits_pair =
    let zero_fits : FitsArray Int32 [] (whole (pos 0)) = (omega (arith, ints), omega (arith, ints)) in
    ((refl, All-cons (FitsArray Int32 []) (whole (pos 0)) (whole (pos 0) ∷ []) zero_fits (All-cons (FitsArray Int32 []) (whole (pos 0)) [] zero_fits (All-nil (FitsArray Int32 [])))), tt)

one_count : bytes_of (field.count 2 ∷ []) ≡ words (2 ∷ [])
unfolding bytes_of field_bytes
one_count = refl

pair_count : IsBadField pair_q (words (2 ∷ 3 ∷ [])) bad_count 4
pair_count =
    let may : MayFollow pair_q (field.count 2 ∷ []) (field.count 2) =
    (numbers (0 ∷ 0 ∷ []) ∷ [], field.number Int32 (values.Whole (pos 0)) ∷ field.number Int32 (values.Whole (pos 0)) ∷ [], fits_pair, refl) in
    record {
      front = words (2 ∷ []);
      own = words (3 ∷ []);
      rest = [];
      fields = field.count 2 ∷ [];
      wanted = field.count 2;
      parts = refl;
      good = spelled_by (field.count 2 ∷ []) (words (2 ∷ [])) refl one_count;
      may_follow = may;
      whole = refl;
      bad = λ f follows. no_count f (next_kind pair_q (field.count 2 ∷ []) f (field.count 2) follows may);
      is_fault = refl;
      is_place = refl;
    }

pair_place : length (codes "Dataset {\n    Int32 q[2];\n} f;\nData:\n") + 4 ≡ 41
pair_place = refl

pair_head : IsHead (codes "Dataset {\n    Int32 q[2];\n} f;\nData:\n") pair_q
pair_head = head_of (codes "Dataset {\n    Int32 q[2];\n} f;") (codes "Dataset {\n    Int32 q[2];\n} f") pair_q (codes "\n") (refl, refl) refl no_faults.3 (inl refl) (lit≤ tt)
