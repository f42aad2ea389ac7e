-- Printed attributes are read back.
use Rattle.std.proofs.Common.{◌≡◌, List, [], ◌∷◌, ◌++◌, ℕ, zero, suc, ◌+◌, ◌*◌, ◌≤◌, length, refl, sym, ap, subst, ◌∙◌, append_assoc, append-nil, IsTrue, Some}
use Rattle.std.specs.Prelude.{codes, replicate}
use Rattle.std.specs.List.{flat_map, list_all}
use Rattle.std.proofs.lemmas.List.{take_all}
use Rattle.std.proofs.lemmas.List.Folds.{list_all-append}
use Rattle.viable.proofs.Escaped.{pieces_of, escape_is, pieces_fit, pieces_value}
use Rattle.dap_types.specs.declared.declarations.BaseType.{BaseType}
use Rattle.dap_types.specs.declared.declarations.BaseType.TheVariants.{Byte, Int16, UInt16, Int32, UInt32, Float32, Float64, Text, Url}
use Rattle.dap_model.specs.Dds.{type_word, line, typed}
use Rattle.text_lines.specs.TypeWords.{base_of_word}
use Rattle.text_tokens.specs.Tokens.{Token, sign, word, quoted, is_white, token_bytes, is_token, is_whole, Reads}
use Rattle.text_tokens.proofs.Spelling.{Spelled, reads_of}
use Rattle.das_text.specs.Das.{word_text, later_value, values_text, attribute_text, entry_text, entries_text, das}
use Rattle.das_text.specs.Grammar.{signs, IsValue, LaterOf, ValuesOf, EntryOf, EntriesOf, IsDas}
use Rattle.das_text.specs.Model.{Attributes, Entry, attribute, container, Entries, no_entries, entry}
use Rattle.das_text.specs.Reading.{front, limit, DasOf}
use Rattle.das_text.specs.Words.{IsWord, AreValues, EntryHasWords, HaveWords, HasWords}
use Rattle.das_text.specs.declared.entries.Attribute.{Attribute}
use Rattle.das_text.specs.declared.entries.Word.{Word}
use Rattle.das_text.specs.declared.entries.Word.TheVariants.{Plain, Quoted}

-- the tokens of printed attributes

value_token : Word → Token
value_token (Plain bytes) = word bytes
value_token (Quoted text) = quoted (pieces_of text)

later_tokens : List Word → List Token
later_tokens [] = []
later_tokens (v ∷ values) = sign 44 ∷ value_token v ∷ later_tokens values

values_tokens : List Word → List Token
values_tokens [] = []
values_tokens (v ∷ values) = value_token v ∷ later_tokens values

mutual
  entry_tokens : Entry → List Token
  entry_tokens (attribute a) = word (type_word a.base) ∷ word a.name ∷ (values_tokens a.values ++ sign 59 ∷ [])
  entry_tokens (container name entries) = word name ∷ sign 123 ∷ (entries_tokens entries ++ sign 125 ∷ [])

  entries_tokens : Entries → List Token
  entries_tokens no_entries = []
  entries_tokens (entry e entries) = entry_tokens e ++ entries_tokens entries

-- they are those of the grammar

value_is : (v : Word) → IsValue (value_token v) v
unfolding value_token
value_is (Plain bytes) = refl
value_is (Quoted text) = ap Quoted (sym (pieces_value text))

later_are : (values : List Word) → LaterOf (later_tokens values) values
unfolding later_tokens
later_are [] = refl
later_are (v ∷ values) = (value_token v, later_tokens values, value_is v, later_are values, refl)

values_are : (values : List Word) → ValuesOf (values_tokens values) values
unfolding values_tokens
values_are [] = refl
values_are (v ∷ values) = (value_token v, later_tokens values, value_is v, later_are values, refl)

type_is : (base : BaseType) → base_of_word (type_word base) ≡ Some base
type_is Byte = refl
type_is Int16 = refl
type_is UInt16 = refl
type_is Int32 = refl
type_is UInt32 = refl
type_is Float32 = refl
type_is Float64 = refl
type_is Text = refl
type_is Url = refl

mutual
  unfolding entry_tokens entries_tokens

  entry_is : (depth : ℕ) (e : Entry) → EntryHasWords depth e → EntryOf depth (entry_tokens e) e
  entry_is depth (attribute a) (deep, name, values) = (deep, type_word a.base, type_is a.base, values_tokens a.values, values_are a.values, refl)
  entry_is depth (container name entries) (deep, named, words) = (deep, entries_tokens entries, entries_are (depth + 1) entries words, refl)

  entries_are : (depth : ℕ) (es : Entries) → HaveWords depth es → EntriesOf depth (entries_tokens es) es
  entries_are depth no_entries words = refl
  entries_are depth (entry e es) (first, later) = (entry_tokens e, entries_tokens es, entry_is depth e first, entries_are depth es later, refl)

-- the text spells them

abbrev HasOne : List Token → Type 0
HasOne [] = ⊥
HasOne (t ∷ ts) = Unit {0}

one_behind : (xs ts : List Token) → HasOne ts → HasOne (xs ++ ts)
one_behind [] ts one = one
one_behind (x ∷ xs) ts one = tt

-- white space may stand before a token
after_white : (white text : List ℕ) (t : Token) (ts : List Token) (rest : List ℕ) → IsTrue (list_all is_white white) → Spelled signs text (t ∷ ts) rest → Spelled signs (white ++ text) (t ∷ ts) rest
after_white white text t ts rest w (inner, more, w', ok, wh, is, s) =
    (white ++ inner, more, (rw (list_all-append is_white white inner, w, w') refl), ok, wh, ap (λ (z : List ℕ). white ++ z) is ∙ sym (append_assoc white inner (token_bytes t ++ more)), s)

before_some : (white text : List ℕ) (ts : List Token) (rest : List ℕ) → HasOne ts → IsTrue (list_all is_white white) → Spelled signs text ts rest → Spelled signs (white ++ text) ts rest
before_some white text [] rest one w s = absurd one
before_some white text (t ∷ ts) rest one w s = after_white white text t ts rest w s

-- one token and what follows
one_token : (t : Token) (more : List ℕ) (ts : List Token) (rest : List ℕ) → IsTrue (is_token signs t) → IsTrue (is_whole signs t more) → Spelled signs more ts rest → Spelled signs (token_bytes t ++ more) (t ∷ ts) rest
one_token t more ts rest ok wh s = ([], more, refl, ok, wh, refl, s)

value_bytes : (v : Word) → word_text v ≡ token_bytes (value_token v)
unfolding value_token
value_bytes (Plain bytes) = refl
value_bytes (Quoted text) = ap (λ (z : List ℕ). 34 ∷ (z ++ 34 ∷ [])) (escape_is text)

value_spelled : (v : Word) (values : List Word) (more : List ℕ) (ts : List Token) (rest : List ℕ) → AreValues (v ∷ values) → ((bytes : List ℕ) → IsTrue (is_whole signs (word bytes) more)) → Spelled signs more ts rest
    → Spelled signs (word_text v ++ more) (value_token v ∷ ts) rest
unfolding value_token
value_spelled (Plain bytes) values more ts rest words wh s = one_token (word bytes) more ts rest words.0 (wh bytes) s
value_spelled (Quoted text) values more ts rest words wh s =
    subst (λ (z : List ℕ). Spelled signs (z ++ more) (quoted (pieces_of text) ∷ ts) rest) (sym (value_bytes (Quoted text))) (one_token (quoted (pieces_of text)) more ts rest (pieces_fit text) refl s)

tail_values : (v : Word) (values : List Word) → AreValues (v ∷ values) → AreValues values
tail_values (Plain bytes) values words = words.1
tail_values (Quoted text) values words = words

-- what follows a word is no part of it
ends_word : (values : List Word) (more bytes : List ℕ) → IsTrue (is_whole signs (word bytes) (flat_map later_value values ++ 59 ∷ more))
ends_word [] more bytes = refl
ends_word (v ∷ values) more bytes = refl

later_spelled : (values : List Word) (more : List ℕ) (ts : List Token) (rest : List ℕ) → AreValues values → Spelled signs more ts rest
    → Spelled signs (flat_map later_value values ++ 59 ∷ more) (later_tokens values ++ sign 59 ∷ ts) rest
unfolding later_tokens
later_spelled [] more ts rest words s = one_token (sign 59) more ts rest refl refl s
later_spelled (v ∷ values) more ts rest words s =
    let tail : List ℕ = flat_map later_value values ++ 59 ∷ more in
    let after : Spelled signs (32 ∷ (word_text v ++ tail)) (value_token v ∷ (later_tokens values ++ sign 59 ∷ ts)) rest =
    after_white (32 ∷ []) (word_text v ++ tail) (value_token v) (later_tokens values ++ sign 59 ∷ ts) rest refl
    (value_spelled v values tail (later_tokens values ++ sign 59 ∷ ts) rest words (ends_word values more) (later_spelled values more ts rest (tail_values v values words) s)) in
    let whole : 44 ∷ 32 ∷ (word_text v ++ tail) ≡ flat_map later_value (v ∷ values) ++ 59 ∷ more =
    ap (λ (z : List ℕ). 44 ∷ 32 ∷ z) (sym (append_assoc (word_text v) (flat_map later_value values) (59 ∷ more))) in
    subst (λ (z : List ℕ). Spelled signs z (sign 44 ∷ value_token v ∷ (later_tokens values ++ sign 59 ∷ ts)) rest) whole
    (one_token (sign 44) (32 ∷ (word_text v ++ tail)) (value_token v ∷ (later_tokens values ++ sign 59 ∷ ts)) rest refl refl after)

values_spelled : (values : List Word) (more : List ℕ) (ts : List Token) (rest : List ℕ) → AreValues values → Spelled signs more ts rest
    → Spelled signs (values_text values ++ 59 ∷ more) (values_tokens values ++ sign 59 ∷ ts) rest
unfolding values_tokens
values_spelled [] more ts rest words s = one_token (sign 59) more ts rest refl refl s
values_spelled (v ∷ values) more ts rest words s =
    let tail : List ℕ = flat_map later_value values ++ 59 ∷ more in
    let after : Spelled signs (32 ∷ (word_text v ++ tail)) (value_token v ∷ (later_tokens values ++ sign 59 ∷ ts)) rest =
    after_white (32 ∷ []) (word_text v ++ tail) (value_token v) (later_tokens values ++ sign 59 ∷ ts) rest refl
    (value_spelled v values tail (later_tokens values ++ sign 59 ∷ ts) rest words (ends_word values more) (later_spelled values more ts rest (tail_values v values words) s)) in
    subst (λ (z : List ℕ). Spelled signs (32 ∷ z) (value_token v ∷ (later_tokens values ++ sign 59 ∷ ts)) rest) (sym (append_assoc (word_text v) (flat_map later_value values) (59 ∷ more))) after

-- what follows a name
ends_name : (values : List Word) (more bytes : List ℕ) → IsTrue (is_whole signs (word bytes) (values_text values ++ 59 ∷ more))
ends_name [] more bytes = refl
ends_name (v ∷ values) more bytes = refl

type_fits : (base : BaseType) → IsWord (type_word base)
type_fits Byte = refl
type_fits Int16 = refl
type_fits UInt16 = refl
type_fits Int32 = refl
type_fits UInt32 = refl
type_fits Float32 = refl
type_fits Float64 = refl
type_fits Text = refl
type_fits Url = refl

spaces_white : (n : ℕ) → IsTrue (list_all is_white (replicate n 32))
spaces_white zero = refl
spaces_white (suc n) = spaces_white n

-- the pieces of a printed line, one behind the other
attribute_line : (n : ℕ) (a : Attribute) (more : List ℕ) → line n (typed a.base a.name ++ values_text a.values ++ codes ";") ++ more ≡ replicate n 32 ++ (type_word a.base ++ (32 ∷ (a.name ++ (values_text a.values ++ 59 ∷ 10 ∷ more))))
unfolding line
attribute_line n a more = simp append_assoc

opening_line : (n : ℕ) (name more : List ℕ) → line n (name ++ codes " {") ++ more ≡ replicate n 32 ++ (name ++ (32 ∷ 123 ∷ 10 ∷ more))
unfolding line
opening_line n name more = simp append_assoc

closing_line : (n : ℕ) (more : List ℕ) → line n (codes "}") ++ more ≡ replicate n 32 ++ (125 ∷ 10 ∷ more)
unfolding line
closing_line n more = simp append_assoc

attribute_spelled : (depth : ℕ) (a : Attribute) (more : List ℕ) (ts : List Token) (rest : List ℕ) → HasOne ts → IsWord a.name → AreValues a.values → Spelled signs more ts rest
    → Spelled signs (attribute_text depth a ++ more) (word (type_word a.base) ∷ word a.name ∷ (values_tokens a.values ++ sign 59 ∷ ts)) rest
unfolding attribute_text
attribute_spelled depth a more ts rest one name words s =
    let behind : List ℕ = values_text a.values ++ 59 ∷ 10 ∷ more in
    let tokens : List Token = values_tokens a.values ++ sign 59 ∷ ts in
    subst (λ (z : List ℕ). Spelled signs z (word (type_word a.base) ∷ word a.name ∷ tokens) rest) (sym (attribute_line (4 * depth) a more))
    (after_white (replicate (4 * depth) 32) (type_word a.base ++ (32 ∷ (a.name ++ behind))) (word (type_word a.base)) (word a.name ∷ tokens) rest (spaces_white (4 * depth))
    (one_token (word (type_word a.base)) (32 ∷ (a.name ++ behind)) (word a.name ∷ tokens) rest (type_fits a.base) refl
    (after_white (32 ∷ []) (a.name ++ behind) (word a.name) tokens rest refl
    (one_token (word a.name) behind tokens rest name (ends_name a.values (10 ∷ more) a.name)
    (values_spelled a.values (10 ∷ more) ts rest words (before_some (10 ∷ []) more ts rest one refl s))))))

-- the last line of a container, and of the DAS
closing_spelled : (n : ℕ) (more : List ℕ) (ts : List Token) (rest : List ℕ) → Spelled signs (10 ∷ more) ts rest → Spelled signs (line n (codes "}") ++ more) (sign 125 ∷ ts) rest
closing_spelled n more ts rest s =
    subst (λ (z : List ℕ). Spelled signs z (sign 125 ∷ ts) rest) (sym (closing_line n more))
    (after_white (replicate n 32) (125 ∷ 10 ∷ more) (sign 125) ts rest (spaces_white n) (one_token (sign 125) (10 ∷ more) ts rest refl refl s))

-- the first line
opening_spelled : (n : ℕ) (name more : List ℕ) (ts : List Token) (rest : List ℕ) → HasOne ts → IsWord name → Spelled signs more ts rest → Spelled signs (line n (name ++ codes " {") ++ more) (word name ∷ sign 123 ∷ ts) rest
opening_spelled n name more ts rest one named s =
    subst (λ (z : List ℕ). Spelled signs z (word name ∷ sign 123 ∷ ts) rest) (sym (opening_line n name more))
    (after_white (replicate n 32) (name ++ (32 ∷ 123 ∷ 10 ∷ more)) (word name) (sign 123 ∷ ts) rest (spaces_white n)
    (one_token (word name) (32 ∷ 123 ∷ 10 ∷ more) (sign 123 ∷ ts) rest named refl
    (after_white (32 ∷ []) (123 ∷ 10 ∷ more) (sign 123) ts rest refl
    (one_token (sign 123) (10 ∷ more) ts rest refl refl (before_some (10 ∷ []) more ts rest one refl s)))))

pieces_join : (a b c d : List ℕ) → a ++ (b ++ (c ++ d)) ≡ (a ++ b ++ c) ++ d
pieces_join a b c d = simp append_assoc

mutual
  unfolding entry_tokens entries_tokens

  entry_spelled : (depth around : ℕ) (e : Entry) (more : List ℕ) (ts : List Token) (rest : List ℕ) → HasOne ts → EntryHasWords around e → Spelled signs more ts rest
      → Spelled signs (entry_text depth e ++ more) (entry_tokens e ++ ts) rest
  entry_spelled depth around (attribute a) more ts rest one (deep, name, words) s =
      subst (λ (z : List Token). Spelled signs (attribute_text depth a ++ more) (word (type_word a.base) ∷ word a.name ∷ z) rest) (sym (append_assoc (values_tokens a.values) (sign 59 ∷ []) ts))
      (attribute_spelled depth a more ts rest one name words s)
  entry_spelled depth around (container name entries) more ts rest one (deep, named, words) s =
      let inner : List ℕ = entries_text (depth + 1) entries in
      let last : List ℕ = line (4 * depth) (codes "}") ++ more in
      let closed : Spelled signs last (sign 125 ∷ ts) rest = closing_spelled (4 * depth) more ts rest (before_some (10 ∷ []) more ts rest one refl s) in
      let body : Spelled signs (inner ++ last) (entries_tokens entries ++ sign 125 ∷ ts) rest = entries_spelled (depth + 1) (around + 1) entries last (sign 125 ∷ ts) rest tt words closed in
      let opened : Spelled signs (line (4 * depth) (name ++ codes " {") ++ (inner ++ last)) (word name ∷ sign 123 ∷ (entries_tokens entries ++ sign 125 ∷ ts)) rest =
      opening_spelled (4 * depth) name (inner ++ last) (entries_tokens entries ++ sign 125 ∷ ts) rest (one_behind (entries_tokens entries) (sign 125 ∷ ts) tt) named body in
      subst (λ (z : List ℕ). Spelled signs z (word name ∷ sign 123 ∷ ((entries_tokens entries ++ sign 125 ∷ []) ++ ts)) rest) (pieces_join (line (4 * depth) (name ++ codes " {")) inner (line (4 * depth) (codes "}")) more)
      (subst (λ (z : List Token). Spelled signs (line (4 * depth) (name ++ codes " {") ++ (inner ++ last)) (word name ∷ sign 123 ∷ z) rest) (sym (append_assoc (entries_tokens entries) (sign 125 ∷ []) ts)) opened)

  entries_spelled : (depth around : ℕ) (es : Entries) (more : List ℕ) (ts : List Token) (rest : List ℕ) → HasOne ts → HaveWords around es → Spelled signs more ts rest
      → Spelled signs (entries_text depth es ++ more) (entries_tokens es ++ ts) rest
  entries_spelled depth around no_entries more ts rest one words s = s
  entries_spelled depth around (entry e es) more ts rest one (first, later) s =
      let behind : Spelled signs (entries_text depth es ++ more) (entries_tokens es ++ ts) rest = entries_spelled depth around es more ts rest one later s in
      let both : Spelled signs (entry_text depth e ++ (entries_text depth es ++ more)) (entry_tokens e ++ (entries_tokens es ++ ts)) rest =
      entry_spelled depth around e (entries_text depth es ++ more) (entries_tokens es ++ ts) rest (one_behind (entries_tokens es) ts one) first behind in
      subst (λ (z : List ℕ). Spelled signs z ((entry_tokens e ++ entries_tokens es) ++ ts) rest) (sym (append_assoc (entry_text depth e) (entries_text depth es) more))
      (subst (λ (z : List Token). Spelled signs (entry_text depth e ++ (entries_text depth es ++ more)) z rest) (sym (append_assoc (entry_tokens e) (entries_tokens es) ts)) both)

das_tokens : Attributes → List Token
das_tokens a = word (codes "Attributes") ∷ sign 123 ∷ (entries_tokens a.containers ++ sign 125 ∷ [])

das_spelled : (a : Attributes) → HasWords a → Spelled signs (das a) (das_tokens a) (codes "\n")
unfolding das das_tokens
das_spelled a words =
    let inner : List ℕ = entries_text 1 a.containers in
    let last : List ℕ = line 0 (codes "}") ++ [] in
    let closed : Spelled signs last (sign 125 ∷ []) (codes "\n") = closing_spelled 0 [] [] (codes "\n") refl in
    let body : Spelled signs (inner ++ last) (entries_tokens a.containers ++ sign 125 ∷ []) (codes "\n") = entries_spelled 1 0 a.containers last (sign 125 ∷ []) (codes "\n") tt words closed in
    let opened : Spelled signs (line 0 (codes "Attributes" ++ codes " {") ++ (inner ++ last)) (word (codes "Attributes") ∷ sign 123 ∷ (entries_tokens a.containers ++ sign 125 ∷ [])) (codes "\n") =
    opening_spelled 0 (codes "Attributes") (inner ++ last) (entries_tokens a.containers ++ sign 125 ∷ []) (codes "\n") (one_behind (entries_tokens a.containers) (sign 125 ∷ []) tt) refl body in
    subst (λ (z : List ℕ). Spelled signs z (word (codes "Attributes") ∷ sign 123 ∷ (entries_tokens a.containers ++ sign 125 ∷ [])) (codes "\n"))
    (pieces_join (line 0 (codes "Attributes {")) inner (line 0 (codes "}")) [] ∙ append-nil (line 0 (codes "Attributes {") ++ inner ++ line 0 (codes "}"))) opened

das_is : (a : Attributes) → HasWords a → IsDas (das_tokens a) a
unfolding das_tokens
das_is a words = (entries_tokens a.containers, entries_are 0 a.containers words, refl)

pub read_back : (a : Attributes) → HasWords a → length (das a) ≤ limit → DasOf (das a) a
read_back a words short =
    let (placed, to, is, r, d) = reads_of signs [] (das a) (das_tokens a) (codes "\n") (das_spelled a words) in
    let whole : front (das a) ≡ das a = take_all limit (das a) short in
    record {
      behind = to;
      ends = record { tokens = placed; read = subst (λ (z : List ℕ). Reads signs z 0 placed to) (sym whole) r; says = subst (λ (z : List Token). IsDas z a) (sym is) (das_is a words) };
      white = subst (λ (z : List ℕ). IsTrue (list_all is_white z)) (sym d) refl;
    }
