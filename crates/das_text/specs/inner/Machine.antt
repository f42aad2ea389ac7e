-- The grammar of a DAS as a machine over tokens.
use Rattle.std.specs.Prelude.{ℕ, Bool, ◌&&◌, ◌||◌, List, [], ◌∷◌, ◌++◌, length, nat_lt, ◌==◌, Option, Some, None, option_map, codes, if◌then◌else◌}
use Rattle.std.specs.Option.{is_some}
use Rattle.std.specs.Str.{bytes_eq}
use Rattle.text_lines.specs.TypeWords.{base_of_word}
use Rattle.dap_types.specs.declared.declarations.BaseType.{BaseType}
use Rattle.viable.specs.Characters.{byte}
use Rattle.viable.specs.Quoted.{quoted_value}
use Rattle.text_tokens.specs.Tokens.{Token, sign, word, quoted}
use Rattle.das_text.specs.Model.{Attributes, Entry, attribute, container, entries_of}
use Rattle.das_text.specs.declared.entries.Attribute.{Attribute}
use Rattle.das_text.specs.declared.entries.Word.{Word}
use Rattle.das_text.specs.declared.entries.Word.TheVariants.{Plain, Quoted}
use Rattle.dap_types.specs.Limits.{most_depth}

-- the entries before an open container, and its name
pub record Around : Type 0 where
  pub entries : List Entry
  pub name : List ℕ

-- How much of a DAS was read: nothing, its word; then the entry that has begun. In each state there are
-- what stands around each open container, the innermost first, and the entries of the innermost, or of
-- the DAS itself.
pub data State : Type 0 where
  begun headed inside : List Around → List Entry → State
  worded : List Around → List Entry → List ℕ → State
  named valued parted : List Around → List Entry → Attribute → State
  ended : Attributes → State

-- a container may be opened, or the word is a type
abbrev pub may_begin : List Around → List ℕ → Bool
may_begin outer w = nat_lt (length outer) most_depth || is_some (base_of_word w)

abbrev pub attribute_of : List ℕ → BaseType → Attribute
attribute_of name base = record { base = base; name = name; values = [] }

abbrev pub with_value : Attribute → Word → Attribute
with_value a v = record a { values = a.values ++ v ∷ [] }

-- an attribute begins, where a container is open
abbrev pub begin_attribute : List Around → List Entry → List ℕ → List ℕ → Option State
begin_attribute [] inner type name = None
begin_attribute (a ∷ outer) inner type name = option_map (λ base. named (a ∷ outer) inner (attribute_of name base)) (base_of_word type)

-- behind the `}` of the innermost container, or of the DAS itself
abbrev pub leave : List Around → List Entry → State
leave [] inner = ended (record { containers = entries_of inner })
leave (a ∷ outer) inner = inside outer (a.entries ++ container a.name (entries_of inner) ∷ [])

abbrev pub enter : List Around → List Entry → List ℕ → State
enter outer inner name = inside (record { entries = inner; name = name } ∷ outer) []

abbrev pub next_when : Bool → State → Option State
next_when b s = if b then Some s else None

abbrev pub add : List Around → List Entry → Attribute → State
add outer inner a = inside outer (inner ++ attribute a ∷ [])

-- the state after one more token
abbrev pub step : State → Token → Option State
step (begun outer inner) (word w) = next_when (bytes_eq w (codes "Attributes")) (headed outer inner)
step (begun outer inner) (sign b) = None
step (begun outer inner) (quoted p) = None
step (headed outer inner) (sign b) = next_when (b == byte "{") (inside outer inner)
step (headed outer inner) (word w) = None
step (headed outer inner) (quoted p) = None
step (inside outer inner) (word w) = next_when (may_begin outer w) (worded outer inner w)
step (inside outer inner) (sign b) = next_when (b == byte "}") (leave outer inner)
step (inside outer inner) (quoted p) = None
step (worded outer inner w) (sign b) = next_when (b == byte "{" && nat_lt (length outer) most_depth) (enter outer inner w)
step (worded outer inner w) (word v) = begin_attribute outer inner w v
step (worded outer inner w) (quoted p) = None
step (named outer inner a) (sign b) = next_when (b == byte ";") (add outer inner a)
step (named outer inner a) (word w) = Some (valued outer inner (with_value a (Plain w)))
step (named outer inner a) (quoted p) = Some (valued outer inner (with_value a (Quoted (quoted_value p))))
step (valued outer inner a) (sign b) = if b == byte ";" then Some (add outer inner a) else next_when (b == byte ",") (parted outer inner a)
step (valued outer inner a) (word w) = None
step (valued outer inner a) (quoted p) = None
step (parted outer inner a) (sign b) = None
step (parted outer inner a) (word w) = Some (valued outer inner (with_value a (Plain w)))
step (parted outer inner a) (quoted p) = Some (valued outer inner (with_value a (Quoted (quoted_value p))))
step (ended a) t = None

-- before the first token
abbrev pub start : State
start = begun [] []

-- the DAS is not read to its end
abbrev pub IsOpenState : State → Type 0
IsOpenState (ended a) = ⊥
IsOpenState s = Unit {0}
