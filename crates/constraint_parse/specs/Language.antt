-- The constraint language (DAP 2.0, constraint expressions; which bytes a name may have, and where
-- blanks may stand, is this project's profile), as trees: a tree has tokens, and a text is the tokens of a
-- tree with blanks between them.
--
--   constraint = (item ("," item)*)? ("&" clause)*
--   item       = step ("." step)* | name "(" argument ")"
--   step       = name slab*
--   slab       = "[" number "]" | "[" number ":" number "]" | "[" number ":" number ":" number "]"
--   clause     = name ("." name)* op right | name "(" argument ")"
--   op         = "=" | "!=" | "<" | "<=" | ">" | ">=" | "=~"
--   right      = value | "{" value ("," value)* "}"
--   value      = quoted | word
use Rattle.viable.specs.Characters.{byte}
use Rattle.viable.specs.Quoted.{Piece, is_piece, spelling}
use Rattle.viable.specs.Runs.{is_run}
use Rattle.std.specs.Prelude.{◌≡◌, ℕ, Bool, true, ◌&&◌, ◌||◌, not, List, [], ◌∷◌, ◌++◌, ◌==◌, nat_lt, nat_le, IsTrue, codes}
use Rattle.std.specs.List.{flat_map, list_all, list_any}

-- a tab or a space
abbrev pub is_blank : ℕ → Bool
is_blank b = b == byte "\t" || b == byte " "

abbrev pub is_digit : ℕ → Bool
is_digit b = nat_le (byte "0") b && nat_le b (byte "9")

-- a byte of a name: no control byte, no blank and none of , & . [ ] { } ( ) < > = ! ~ " : ;
abbrev pub is_name_byte : ℕ → Bool
is_name_byte b = nat_lt (byte " ") b && not (b == 127) && not (list_any (λ c. c == b) (codes ",&.[]{}()<>=!~\":;"))

-- a byte of an unquoted value
abbrev pub is_word_byte : ℕ → Bool
is_word_byte b = is_name_byte b || b == byte "." || b == byte ":"

-- a byte between the parentheses of a call
abbrev pub is_argument_byte : ℕ → Bool
is_argument_byte b = not (b == byte "(" || b == byte ")")

-- `=~` matches a regular expression
pub data Operator : Type 0 where
  equal not_equal less less_equal greater greater_equal matches : Operator

-- An argument has its parentheses, and a quoted text its quotes, though not among its bytes or pieces.
pub data Token : Type 0 where
  name number word argument : List ℕ → Token
  quoted : List Piece → Token
  operator : Operator → Token
  comma ampersand dot colon open_bracket close_bracket open_brace close_brace : Token

abbrev pub operator_bytes : Operator → List ℕ
operator_bytes equal = codes "="
operator_bytes not_equal = codes "!="
operator_bytes less = codes "<"
operator_bytes less_equal = codes "<="
operator_bytes greater = codes ">"
operator_bytes greater_equal = codes ">="
operator_bytes matches = codes "=~"

abbrev pub token_bytes : Token → List ℕ
token_bytes (name bytes) = bytes
token_bytes (number digits) = digits
token_bytes (word bytes) = bytes
token_bytes (argument bytes) = codes "(" ++ bytes ++ codes ")"
token_bytes (quoted pieces) = codes "\"" ++ spelling pieces ++ codes "\""
token_bytes (operator o) = operator_bytes o
token_bytes comma = codes ","
token_bytes ampersand = codes "&"
token_bytes dot = codes "."
token_bytes colon = codes ":"
token_bytes open_bracket = codes "["
token_bytes close_bracket = codes "]"
token_bytes open_brace = codes "{"
token_bytes close_brace = codes "}"

-- a name, a number and a word are not empty
abbrev pub is_token : Token → Bool
is_token (name bytes) = is_run is_name_byte bytes
is_token (number digits) = is_run is_digit digits
is_token (word bytes) = is_run is_word_byte bytes
is_token (argument bytes) = list_all is_argument_byte bytes
is_token (quoted pieces) = list_all is_piece pieces
is_token (operator o) = true
is_token comma = true
is_token ampersand = true
is_token dot = true
is_token colon = true
is_token open_bracket = true
is_token close_bracket = true
is_token open_brace = true
is_token close_brace = true

-- the text is these tokens, with blanks between them and at both ends
abbrev pub IsSpaced : List ℕ → List Token → Type 0
IsSpaced text [] = IsTrue (list_all is_blank text)
IsSpaced text (t ∷ tokens) =
    (blanks : List ℕ) × (rest : List ℕ)
    × IsTrue (list_all is_blank blanks) × IsTrue (is_token t)
    × (text ≡ blanks ++ (token_bytes t ++ rest)) × IsSpaced rest tokens

pub data SlabTree : Type 0 where
  index : List ℕ → SlabTree
  range : List ℕ → List ℕ → SlabTree
  strided : List ℕ → List ℕ → List ℕ → SlabTree

pub record StepTree : Type 0 where
  pub label : List ℕ
  pub slabs : List SlabTree

-- the steps before the last one, and the last; or a call
pub data ItemTree : Type 0 where
  path : List StepTree → StepTree → ItemTree
  call : List ℕ → List ℕ → ItemTree

pub data ValueTree : Type 0 where
  text : List Piece → ValueTree
  bare : List ℕ → ValueTree

-- the names before the last one, the last, the operator, and a value; or the values in braces before the last one, and the last; or a call
pub data ClauseTree : Type 0 where
  compare : List (List ℕ) → List ℕ → Operator → ValueTree → ClauseTree
  among : List (List ℕ) → List ℕ → Operator → List ValueTree → ValueTree → ClauseTree
  call_clause : List ℕ → List ℕ → ClauseTree

-- the items before the last one, and the last
pub data ItemsTree : Type 0 where
  no_items : ItemsTree
  some_items : List ItemTree → ItemTree → ItemsTree

pub record ConstraintTree : Type 0 where
  pub items : ItemsTree
  pub clauses : List ClauseTree

-- the tokens of each, with a token after each
abbrev pub followed : {A : Type 0} → Token → (A → List Token) → List A → List Token
followed after tokens xs = flat_map (λ x. tokens x ++ after ∷ []) xs

abbrev pub slab_tokens : SlabTree → List Token
slab_tokens (index a) = open_bracket ∷ number a ∷ close_bracket ∷ []
slab_tokens (range a b) = open_bracket ∷ number a ∷ colon ∷ number b ∷ close_bracket ∷ []
slab_tokens (strided a s b) = open_bracket ∷ number a ∷ colon ∷ number s ∷ colon ∷ number b ∷ close_bracket ∷ []

abbrev pub step_tokens : StepTree → List Token
step_tokens s = name s.label ∷ flat_map slab_tokens s.slabs

abbrev pub item_tokens : ItemTree → List Token
item_tokens (path front last) = followed dot step_tokens front ++ step_tokens last
item_tokens (call label bytes) = name label ∷ argument bytes ∷ []

abbrev pub value_token : ValueTree → Token
value_token (text pieces) = quoted pieces
value_token (bare bytes) = word bytes

abbrev pub path_tokens : List (List ℕ) → List ℕ → List Token
path_tokens front last = followed dot (λ label. name label ∷ []) front ++ name last ∷ []

abbrev pub clause_tokens : ClauseTree → List Token
clause_tokens (compare front last o value) = path_tokens front last ++ operator o ∷ value_token value ∷ []
clause_tokens (among front last o values value) =
    path_tokens front last ++ operator o ∷ open_brace ∷ (followed comma (λ v. value_token v ∷ []) values ++ value_token value ∷ close_brace ∷ [])
clause_tokens (call_clause label bytes) = name label ∷ argument bytes ∷ []

abbrev pub items_tokens : ItemsTree → List Token
items_tokens no_items = []
items_tokens (some_items front last) = followed comma item_tokens front ++ item_tokens last

abbrev pub constraint_tokens : ConstraintTree → List Token
constraint_tokens t = items_tokens t.items ++ flat_map (λ c. ampersand ∷ clause_tokens c) t.clauses

-- the text is a text of this tree
abbrev pub IsTextOf : List ℕ → ConstraintTree → Type 0
IsTextOf bytes t = IsSpaced bytes (constraint_tokens t)
