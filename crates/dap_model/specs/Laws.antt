-- What the definitions promise of one another, each as a statement over all datasets and values. They
-- show that the definitions are not empty, and that they are not the code again.
use Rattle.std.specs.Prelude.{◌≡◌, ℕ, ◌+◌, ◌*◌, ◌^◌, ◌<◌, ◌≤◌, ◌≢◌, Bool, T, true, false, List, [], ◌∷◌, ◌++◌, All, AllPairs, length, None, codes, slice_get}
use Rattle.std.specs.List.{flat_map, list_any}
use Rattle.std.specs.Option.{option_map_or}
use Rattle.dap_types.specs.Limits.{body_limit, most_text}
use Rattle.dap_types.specs.Model.{Dataset, Tree, kids, sizes, product}
use Rattle.dap_types.specs.WellFormed.{IsWellFormed, fault, paths, places_of, elements_of}
use Rattle.dap_types.specs.declared.declarations.ArrayDecl.{ArrayDecl}
use Rattle.dap_types.specs.declared.declarations.BaseType.{BaseType}
use Rattle.dap_types.specs.declared.declarations.BaseType.TheVariants.{Byte, Float64, Text, Url}
use Rattle.dap_types.specs.declared.slabs.Slab.{Slab}
use Rattle.dap_types.specs.declared.values.Value.{Value}
use Rattle.dap_model.specs.Cutting.{Nested, array_tree, counted, cut, cut_nested, flatten, pick, AreWithin}
use Rattle.dap_model.specs.Filter.{Marks, Keeps, SuitsAll, MarksAllWhole, all_leaves_everywhere, constrained, constrained_trees}
use Rattle.dap_model.specs.Fits.{FitsArray, FitsAll, values_in}
use Rattle.dap_model.specs.Grammar.{DdsOf, HasWords, StandsFor, dataset_slots}
use Rattle.dap_model.specs.Body.{body, IsBody}
use Rattle.dap_model.specs.Dds.{dds}
use Rattle.dap_model.specs.Tokens.{Token}
use Rattle.dap_model.specs.Received.{MayFollow, Fault, fault_of, width, ValuesEndAt, IsOpen, IsBadField}
use Rattle.dap_model.specs.Xdr.{Field, array_fields, bytes_of, xdr, Spells, padded}

-- a dataset is well formed exactly where it has no fault
abbrev pub WellFormedWithoutFault : Type 0
WellFormedWithoutFault = (d : Dataset) → (IsWellFormed d → fault d ≡ None) × (fault d ≡ None → IsWellFormed d)

-- what is left of values that fit, fits what is left of their dataset
abbrev pub ConstrainedFits : Type 0
ConstrainedFits = (marks : Marks) (keeps : Keeps) (d : Dataset) (ts : List Tree) → SuitsAll marks 1 d.members → FitsAll d.members ts →
    FitsAll (constrained marks d).members (constrained_trees marks keeps d ts)

-- what is left of a well-formed dataset is well formed
abbrev pub ConstrainedIsWellFormed : Type 0
ConstrainedIsWellFormed = (marks : Marks) (d : Dataset) → IsWellFormed d → SuitsAll marks 1 d.members → IsWellFormed (constrained marks d)

-- where everything is marked whole and every row is kept, all is left. A whole without a leaf would be
-- left out
abbrev pub WholeStays : Type 0
WholeStays = (marks : Marks) (d : Dataset) (ts : List Tree) → IsWellFormed d → all_leaves_everywhere d.members ≡ true → MarksAllWhole marks 1 d.members → FitsAll d.members ts →
    (constrained marks d ≡ d) × (constrained_trees marks (λ n row. true) d ts ≡ ts)

-- a cut array has as many elements as the product of its counts
abbrev pub CutHasCounts : Type 0
CutHasCounts = (a : ArrayDecl) (slabs : List Slab) (t : Tree) → AreWithin slabs (sizes a) → FitsArray a.base (sizes a) t →
    length (values_in (cut slabs t)) ≡ product (sizes (counted slabs a))

-- the values of a cut array in order are those that its hyperslabs pick, dimension by dimension
abbrev pub CutPicks : Type 0
CutPicks = (s : Slab) (rest : List Slab) (t : Tree) → values_in (cut (s ∷ rest) t) ≡ flat_map (λ u. values_in (cut rest u)) (pick s (kids t))

-- a tree that fits an array is that of a nested list, and to cut the tree is to cut the list
abbrev pub CutIsNested : Type 0
CutIsNested = (base : BaseType) (ns : List ℕ) (t : Tree) → FitsArray base ns t →
    (vs : Nested Value (length ns)) × (t ≡ array_tree (length ns) vs)
    × ((slabs : List Slab) → length slabs ≤ length ns → values_in (cut slabs t) ≡ flatten Value (length ns) (cut_nested Value (length ns) slabs vs))

-- where every array's count is a word, the XDR of values is one of their spellings
abbrev pub XdrSpells : Type 0
XdrSpells = (d : Dataset) (ts : List Tree) → All (λ p. elements_of p.variable < 2 ^ 32) (places_of d) → FitsAll d.members ts → Spells d ts (xdr d ts)

-- a type of numbers
abbrev pub is_number : BaseType → Bool
is_number Text = false
is_number Url = false
is_number base = true

abbrev pub IsNumber : BaseType → Type 0
IsNumber base = T (is_number base)

-- the bytes of an element in an array of numbers; 1 for a text
abbrev pub element_width : BaseType → ℕ
element_width Byte = 1
element_width Text = 1
element_width Url = 1
element_width Float64 = 8
element_width base = 4

-- an array of numbers has the bytes of its two counts and of its elements, up to a multiple of four
abbrev pub NumbersHaveLength : Type 0
NumbersHaveLength = (base : BaseType) (ns : List ℕ) (t : Tree) → IsNumber base → FitsArray base ns t →
    length (bytes_of (array_fields base (values_in t))) ≡ 8 + padded (product ns * element_width base)

-- in a well-formed dataset different members have different paths
abbrev pub PathsDiffer : Type 0
PathsDiffer = (d : Dataset) → IsWellFormed d → AllPairs (λ p q. p ≢ q) (paths d.members)

-- a token list stands for at most one dataset
abbrev pub OneDataset : Type 0
OneDataset = (ts : List Token) (d d' : Dataset) → StandsFor ts d → StandsFor ts d' → d ≡ d'

-- a token list of the grammar breaks no rule exactly where its dataset is well formed
abbrev pub UnbrokenIsWellFormed : Type 0
UnbrokenIsWellFormed = (ts : List Token) (d : Dataset) → StandsFor ts d →
    (list_any (λ j. j.broken) (dataset_slots d) ≡ false → IsWellFormed d) × (IsWellFormed d → list_any (λ j. j.broken) (dataset_slots d) ≡ false)

-- whether token k breaks a rule does not depend on what follows it
abbrev pub BrokenByFront : Type 0
BrokenByFront = (ts more more' : List Token) (d d' : Dataset) (k : ℕ) → StandsFor (ts ++ more) d → StandsFor (ts ++ more') d' → k < length ts →
    option_map_or (λ j. j.broken) (slice_get (dataset_slots d) k) false ≡ option_map_or (λ j. j.broken) (slice_get (dataset_slots d') k) false

-- a printed DDS of words is a DDS text of its dataset, up to the line feed behind its last `;`
abbrev pub PrintIsRead : Type 0
PrintIsRead = (d : Dataset) → HasWords d → IsWellFormed d → (text : List ℕ) × (dds d ≡ text ++ codes "\n") × DdsOf text d

-- two well-formed datasets of words with one DDS text are the same
abbrev pub OneText : Type 0
OneText = (d d' : Dataset) → HasWords d → HasWords d' → IsWellFormed d → IsWellFormed d' → dds d ≡ dds d' → d ≡ d'

-- a body that is sent is one that is read, within the limits
abbrev pub BodyIsRead : Type 0
BodyIsRead = (d : Dataset) (ts : List Tree) → HasWords d → IsWellFormed d → FitsAll d.members ts → All (λ p. elements_of p.variable < 2 ^ 32) (places_of d) →
    length (dds d) ≤ most_text → length (body d ts) < body_limit → IsBody (body d ts) d ts

-- bytes spell at most one list of values of a dataset, and no spelling is a proper front of another
abbrev pub OneSpelling : Type 0
OneSpelling = (d : Dataset) (ts us : List Tree) (bs more : List ℕ) → Spells d ts bs → Spells d us (bs ++ more) → (ts ≡ us) × (more ≡ [])

-- the fields that may follow good fields have one width, and the same is wrong with bytes that spell none
abbrev pub OneKindFollows : Type 0
OneKindFollows = (d : Dataset) (fields : List Field) (f g : Field) → MayFollow d fields f → MayFollow d fields g → (width f ≡ width g) × (fault_of f ≡ fault_of g)

-- the values that bytes hold have one bad field at most, and are bad, open or ended in one way only
abbrev pub OneVerdict : Type 0
OneVerdict = (d : Dataset) (bs : List ℕ) →
    ((f g : Fault) (p q : ℕ) → IsBadField d bs f p → IsBadField d bs g q → (f ≡ g) × (p ≡ q))
    × ((f : Fault) (p : ℕ) → IsBadField d bs f p → ¬ (IsOpen d bs))
    × ((ts : List Tree) (n : ℕ) (f : Fault) (p : ℕ) → ValuesEndAt d ts bs n → ¬ (IsBadField d bs f p))
    × ((ts : List Tree) (n : ℕ) → ValuesEndAt d ts bs n → ¬ (IsOpen d bs))
