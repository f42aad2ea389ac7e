-- The grammar as a machine over tokens.
use Rattle.std.specs.Prelude.{ℕ, List, [], ◌∷◌, ◌++◌, Option, Some, None}
use Rattle.std.specs.Option.{option_and_then}
use Rattle.constraint_parse.specs.Language.{Token, name, number, word, argument, quoted, operator, comma, ampersand, dot, colon, open_bracket, close_bracket, open_brace, close_brace, Operator, SlabTree, index, range, strided, StepTree, ItemTree, path, call, ValueTree, text, bare, ClauseTree, compare, among, call_clause, ItemsTree, no_items, some_items, ConstraintTree}

-- How much of a constraint was read: what is whole, and the parts of what is not. Start is before the
-- first token; Naming wants a name of an item, Stepped has it and its slabs, the Opened ones want a
-- number of a slab and the Numbered ones have it, Called has a call. ClauseNaming wants a name of a
-- clause and ClauseNamed has it, Compared wants a value, Bracing wants one of a set and Braced has it,
-- Clausal has whole clauses alone behind the items.
pub data State : Type 0 where
  Start : State
  Naming : List ItemTree → List StepTree → State
  Stepped : List ItemTree → List StepTree → List ℕ → List SlabTree → State
  Opened : List ItemTree → List StepTree → List ℕ → List SlabTree → State
  SecondOpened : List ItemTree → List StepTree → List ℕ → List SlabTree → List ℕ → State
  ThirdOpened : List ItemTree → List StepTree → List ℕ → List SlabTree → List ℕ → List ℕ → State
  Numbered : List ItemTree → List StepTree → List ℕ → List SlabTree → List ℕ → State
  SecondNumbered : List ItemTree → List StepTree → List ℕ → List SlabTree → List ℕ → List ℕ → State
  ThirdNumbered : List ItemTree → List StepTree → List ℕ → List SlabTree → List ℕ → List ℕ → List ℕ → State
  Called : List ItemTree → List ℕ → List ℕ → State
  ClauseNaming : ItemsTree → List ClauseTree → List (List ℕ) → State
  ClauseNamed : ItemsTree → List ClauseTree → List (List ℕ) → List ℕ → State
  Compared : ItemsTree → List ClauseTree → List (List ℕ) → List ℕ → Operator → State
  Bracing : ItemsTree → List ClauseTree → List (List ℕ) → List ℕ → Operator → List ValueTree → State
  Braced : ItemsTree → List ClauseTree → List (List ℕ) → List ℕ → Operator → List ValueTree → ValueTree → State
  Clausal : ItemsTree → List ClauseTree → State

abbrev pub step_of : List ℕ → List SlabTree → StepTree
step_of label slabs = record { label = label; slabs = slabs }

abbrev pub tree_of : ItemsTree → List ClauseTree → ConstraintTree
tree_of items clauses = record { items = items; clauses = clauses }

abbrev pub with_last : {A : Type 0} → List A → A → List A
with_last xs x = xs ++ x ∷ []

-- the state after one more token
abbrev pub step : State → Token → Option State
step Start (name n) = Some (Stepped [] [] n [])
step Start ampersand = Some (ClauseNaming no_items [] [])
step Start _ = None
step (Naming items steps) (name n) = Some (Stepped items steps n [])
step (Naming items steps) _ = None
step (Stepped items steps n slabs) open_bracket = Some (Opened items steps n slabs)
step (Stepped items steps n slabs) dot = Some (Naming items (with_last steps (step_of n slabs)))
step (Stepped items steps n slabs) comma = Some (Naming (with_last items (path steps (step_of n slabs))) [])
step (Stepped items steps n slabs) ampersand = Some (ClauseNaming (some_items items (path steps (step_of n slabs))) [] [])
step (Stepped items [] n []) (argument a) = Some (Called items n a)
step (Stepped items steps n slabs) _ = None
step (Opened items steps n slabs) (number a) = Some (Numbered items steps n slabs a)
step (Opened items steps n slabs) _ = None
step (SecondOpened items steps n slabs a) (number b) = Some (SecondNumbered items steps n slabs a b)
step (SecondOpened items steps n slabs a) _ = None
step (ThirdOpened items steps n slabs a s) (number b) = Some (ThirdNumbered items steps n slabs a s b)
step (ThirdOpened items steps n slabs a s) _ = None
step (Numbered items steps n slabs a) colon = Some (SecondOpened items steps n slabs a)
step (Numbered items steps n slabs a) close_bracket = Some (Stepped items steps n (with_last slabs (index a)))
step (Numbered items steps n slabs a) _ = None
step (SecondNumbered items steps n slabs a b) colon = Some (ThirdOpened items steps n slabs a b)
step (SecondNumbered items steps n slabs a b) close_bracket = Some (Stepped items steps n (with_last slabs (range a b)))
step (SecondNumbered items steps n slabs a b) _ = None
step (ThirdNumbered items steps n slabs a s b) close_bracket = Some (Stepped items steps n (with_last slabs (strided a s b)))
step (ThirdNumbered items steps n slabs a s b) _ = None
step (Called items n a) comma = Some (Naming (with_last items (call n a)) [])
step (Called items n a) ampersand = Some (ClauseNaming (some_items items (call n a)) [] [])
step (Called items n a) _ = None
step (ClauseNaming items clauses labels) (name n) = Some (ClauseNamed items clauses labels n)
step (ClauseNaming items clauses labels) _ = None
step (ClauseNamed items clauses labels n) dot = Some (ClauseNaming items clauses (with_last labels n))
step (ClauseNamed items clauses labels n) (operator o) = Some (Compared items clauses labels n o)
step (ClauseNamed items clauses [] n) (argument a) = Some (Clausal items (with_last clauses (call_clause n a)))
step (ClauseNamed items clauses labels n) _ = None
step (Compared items clauses labels n o) (quoted p) = Some (Clausal items (with_last clauses (compare labels n o (text p))))
step (Compared items clauses labels n o) (word w) = Some (Clausal items (with_last clauses (compare labels n o (bare w))))
step (Compared items clauses labels n o) open_brace = Some (Bracing items clauses labels n o [])
step (Compared items clauses labels n o) _ = None
step (Bracing items clauses labels n o values) (quoted p) = Some (Braced items clauses labels n o values (text p))
step (Bracing items clauses labels n o values) (word w) = Some (Braced items clauses labels n o values (bare w))
step (Bracing items clauses labels n o values) _ = None
step (Braced items clauses labels n o values value) comma = Some (Bracing items clauses labels n o (with_last values value))
step (Braced items clauses labels n o values value) close_brace = Some (Clausal items (with_last clauses (among labels n o values value)))
step (Braced items clauses labels n o values value) _ = None
step (Clausal items clauses) ampersand = Some (ClauseNaming items clauses [])
step (Clausal items clauses) _ = None

-- the tree, where the tokens may end here
abbrev pub finish : State → Option ConstraintTree
finish Start = Some (tree_of no_items [])
finish (Stepped items steps n slabs) = Some (tree_of (some_items items (path steps (step_of n slabs))) [])
finish (Called items n a) = Some (tree_of (some_items items (call n a)) [])
finish (Clausal items clauses) = Some (tree_of items clauses)
finish _ = None

-- the tree that the tokens give from this state on
abbrev pub read : State → List Token → Option ConstraintTree
read s [] = finish s
read s (t ∷ tokens) = option_and_then (λ next. read next tokens) (step s t)
