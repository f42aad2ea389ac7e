-- The machine reads the tokens of each DAS to their end.
use Rattle.std.proofs.Common.{◌≡◌, List, [], ◌∷◌, ◌++◌, ℕ, ◌+◌, ◌<◌, length, refl, sym, ap, subst, ◌∙◌, append_assoc, append-nil, Option, Some, Bool, true, false, ◌||◌, nat_lt, arith}
use Rattle.std.specs.Prelude.{option_map}
use Rattle.std.specs.Option.{is_some, option_and_then}
use Rattle.std.proofs.lemmas.Bool.Decides.{nat_tests}
use Rattle.text_lines.specs.TypeWords.{base_of_word}
use Rattle.dap_types.specs.declared.declarations.BaseType.{BaseType}
use Rattle.text_tokens.specs.Tokens.{Token, sign, word, quoted}
use Rattle.text_tokens.specs.inner.Machines.{run}
use Rattle.das_text.specs.Grammar.{IsValue, LaterOf, ValuesOf, EntryOf, EntriesOf, IsDas}
use Rattle.das_text.specs.inner.Machine.{Around, State, start, inside, worded, named, valued, parted, ended, may_begin, attribute_of, with_value, enter, add, step}
use Rattle.das_text.specs.Model.{Attributes, Entry, attribute, container, Entries, no_entries, entry, entries_of}
use Rattle.das_text.specs.declared.entries.Attribute.{Attribute}
use Rattle.das_text.specs.declared.entries.Word.{Word}
use Rattle.das_text.proofs.OpenContainers.{begins}
use Rattle.dap_types.specs.Limits.{most_depth}

abbrev pub list_of : Entries → List Entry
list_of no_entries = []
list_of (entry e es) = e ∷ list_of es

pub entries_of_list : (es : Entries) → entries_of (list_of es) ≡ es
entries_of_list no_entries = refl
entries_of_list (entry e es) = ap (entry e) (entries_of_list es)

-- one step, and the run behind it
pub run_step : (s next : State) (t : Token) (rest : List Token) → step s t ≡ Some next → run step s (t ∷ rest) ≡ run step next rest
run_step s next t rest e = ap (λ (o : Option State). option_and_then (λ n. run step n rest) o) e

first_step : (outer : List Around) (inner : List Entry) (a : Attribute) (t : Token) (v : Word) → IsValue t v → step (named outer inner a) t ≡ Some (valued outer inner (with_value a v))
first_step outer inner a (word w) v x = ap (λ (z : Word). Some (valued outer inner (with_value a z))) (sym x)
first_step outer inner a (quoted p) v x = ap (λ (z : Word). Some (valued outer inner (with_value a z))) (sym x)
first_step outer inner a (sign b) v x = absurd x

later_step : (outer : List Around) (inner : List Entry) (a : Attribute) (t : Token) (v : Word) → IsValue t v → step (parted outer inner a) t ≡ Some (valued outer inner (with_value a v))
later_step outer inner a (word w) v x = ap (λ (z : Word). Some (valued outer inner (with_value a z))) (sym x)
later_step outer inner a (quoted p) v x = ap (λ (z : Word). Some (valued outer inner (with_value a z))) (sym x)
later_step outer inner a (sign b) v x = absurd x

abbrev with_values : Attribute → List Word → Attribute
with_values a values = record a { values = a.values ++ values }

later_run : (outer : List Around) (inner : List Entry) (a : Attribute) (ts : List Token) (values : List Word) (rest : List Token) → LaterOf ts values
    → run step (valued outer inner a) ((ts ++ sign 59 ∷ []) ++ rest) ≡ run step (add outer inner (with_values a values)) rest
later_run outer inner a ts [] rest is = ap (λ (z : List Token). run step (valued outer inner a) ((z ++ sign 59 ∷ []) ++ rest)) is ∙ ap (λ (z : List Word). run step (add outer inner (record a { values = z })) rest) (sym (append-nil a.values))
later_run outer inner a ts (v ∷ values) rest (t, later, x, l, is) =
    ap (λ (z : List Token). run step (valued outer inner a) ((z ++ sign 59 ∷ []) ++ rest)) is
    ∙ run_step (parted outer inner a) (valued outer inner (with_value a v)) t ((later ++ sign 59 ∷ []) ++ rest) (later_step outer inner a t v x)
    ∙ later_run outer inner (with_value a v) later values rest l
    ∙ ap (λ (z : List Word). run step (add outer inner (record a { values = z })) rest) (append_assoc a.values (v ∷ []) values)

values_run : (outer : List Around) (inner : List Entry) (name : List ℕ) (base : BaseType) (ts : List Token) (values : List Word) (rest : List Token) → ValuesOf ts values
    → run step (named outer inner (attribute_of name base)) ((ts ++ sign 59 ∷ []) ++ rest) ≡ run step (add outer inner (record { base = base; name = name; values = values })) rest
values_run outer inner name base ts [] rest is = ap (λ (z : List Token). run step (named outer inner (attribute_of name base)) ((z ++ sign 59 ∷ []) ++ rest)) is
values_run outer inner name base ts (v ∷ values) rest (t, later, x, l, is) =
    ap (λ (z : List Token). run step (named outer inner (attribute_of name base)) ((z ++ sign 59 ∷ []) ++ rest)) is
    ∙ run_step (named outer inner (attribute_of name base)) (valued outer inner (with_value (attribute_of name base) v)) t ((later ++ sign 59 ∷ []) ++ rest) (first_step outer inner (attribute_of name base) t v x)
    ∙ later_run outer inner (with_value (attribute_of name base) v) later values rest l

type_step : (outer : List Around) (inner : List Entry) (type : List ℕ) (base : BaseType) → base_of_word type ≡ Some base → step (inside outer inner) (word type) ≡ Some (worded outer inner type)
type_step outer inner type base is = let m : may_begin outer type ≡ true = or_true (nat_lt (length outer) most_depth) (is_some (base_of_word type)) (ap is_some is) in rw m refl
  where
    or_true : (p q : Bool) → q ≡ true → (p || q) ≡ true
    or_true true q h = refl
    or_true false q h = h

pub name_step : (outer : List Around) (inner : List Entry) (type name : List ℕ) (base : BaseType) → base_of_word type ≡ Some base → 0 < length outer → step (worded outer inner type) (word name) ≡ Some (named outer inner (attribute_of name base))
name_step outer inner type name base is pos =
    begins outer inner type name (λ z. absurd (omega (arith, z, pos))) ∙ ap (option_map (λ b. named outer inner (attribute_of name b))) is

pub open_step : (outer : List Around) (inner : List Entry) (w : List ℕ) → length outer < most_depth → (step (inside outer inner) (word w) ≡ Some (worded outer inner w)) × (step (worded outer inner w) (sign 123) ≡ Some (enter outer inner w))
open_step outer inner w lt =
    let deep : nat_lt (length outer) most_depth ≡ true = grind (arith, nat_tests) in
    (rw deep refl, rw deep refl)

mutual
  entry_run : (outer : List Around) (inner : List Entry) (ts : List Token) (e : Entry) (rest : List Token) → EntryOf (length outer) ts e → run step (inside outer inner) (ts ++ rest) ≡ run step (inside outer (inner ++ e ∷ [])) rest
  entry_run outer inner ts (attribute a) rest (pos, type, base, values, vs, is) =
      ap (λ (z : List Token). run step (inside outer inner) (z ++ rest)) is
      ∙ run_step (inside outer inner) (worded outer inner type) (word type) (word a.name ∷ ((values ++ sign 59 ∷ []) ++ rest)) (type_step outer inner type a.base base)
      ∙ run_step (worded outer inner type) (named outer inner (attribute_of a.name a.base)) (word a.name) ((values ++ sign 59 ∷ []) ++ rest) (name_step outer inner type a.name a.base base pos)
      ∙ values_run outer inner a.name a.base values a.values rest vs
  entry_run outer inner ts (container name entries) rest (lt, own, o, is) =
      let deeper : length outer + 1 ≡ length (record { entries = inner; name = name } ∷ outer) = omega arith in
      let steps = open_step outer inner name lt in
      ap (λ (z : List Token). run step (inside outer inner) (z ++ rest)) is
      ∙ run_step (inside outer inner) (worded outer inner name) (word name) (sign 123 ∷ ((own ++ sign 125 ∷ []) ++ rest)) steps.0
      ∙ run_step (worded outer inner name) (enter outer inner name) (sign 123) ((own ++ sign 125 ∷ []) ++ rest) steps.1
      ∙ ap (run step (enter outer inner name)) (append_assoc own (sign 125 ∷ []) rest)
      ∙ entries_run (record { entries = inner; name = name } ∷ outer) [] own entries (sign 125 ∷ rest) (subst (λ (k : ℕ). EntriesOf k own entries) deeper o)
      ∙ ap (λ (z : Entries). run step (inside outer (inner ++ container name z ∷ [])) rest) (entries_of_list entries)

  entries_run : (outer : List Around) (inner : List Entry) (ts : List Token) (es : Entries) (rest : List Token) → EntriesOf (length outer) ts es → run step (inside outer inner) (ts ++ rest) ≡ run step (inside outer (inner ++ list_of es)) rest
  entries_run outer inner ts no_entries rest is = ap (λ (z : List Token). run step (inside outer inner) (z ++ rest)) is ∙ ap (λ (z : List Entry). run step (inside outer z) rest) (sym (append-nil inner))
  entries_run outer inner ts (entry e es) rest (first, later, f, l, is) =
      ap (λ (z : List Token). run step (inside outer inner) (z ++ rest)) is
      ∙ ap (run step (inside outer inner)) (append_assoc first later rest)
      ∙ entry_run outer inner first e (later ++ rest) f
      ∙ entries_run outer (inner ++ e ∷ []) later es rest l
      ∙ ap (λ (z : List Entry). run step (inside outer z) rest) (append_assoc inner (e ∷ []) (list_of es))

-- the machine reads a DAS to its end
pub complete : (tokens : List Token) (a : Attributes) → IsDas tokens a → run step start tokens ≡ Some (ended a)
complete tokens a (own, o, is) =
    ap (run step start) is
    ∙ entries_run [] [] own a.containers (sign 125 ∷ []) o
    ∙ ap (λ (z : Entries). Some (ended (record { containers = z }))) (entries_of_list a.containers)
