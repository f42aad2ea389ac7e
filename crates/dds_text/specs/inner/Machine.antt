-- The grammar of a DDS as a machine over tokens. It takes no notice of the rules, and only says which
-- tokens break one.
use Rattle.std.specs.Prelude.{◌≡◌, ℕ, Bool, true, false, ◌&&◌, ◌+◌, List, [], ◌∷◌, length, nat_lt, nat_le, ◌==◌, Option, Some, None, option_map, if◌then◌else◌, find, codes}
use Rattle.std.specs.Option.{option_or, option_map_or}
use Rattle.std.specs.Str.{str_eq_ignore_ascii_case}
use Rattle.std.specs.Str.Parse.{digits_value}
use Rattle.viable.specs.Characters.{byte}
use Rattle.viable.specs.Numerals.{is_numeral}
use Rattle.dap_types.specs.Limits.{most_elements}
use Rattle.dap_types.specs.Model.{members_of}
use Rattle.dap_types.specs.declared.declarations.ArrayDecl.{ArrayDecl}
use Rattle.dap_types.specs.declared.declarations.BaseType.{BaseType}
use Rattle.dap_types.specs.declared.declarations.BaseType.TheVariants.{Int32}
use Rattle.dap_model.specs.Grammar.{Slot, keyword, sign, spells, is_other}
use Rattle.dap_model.specs.Tokens.{Token}
use Rattle.dap_model.specs.Tokens as token
use Rattle.text_lines.specs.TypeWords.{base_of_word}
use Rattle.dds_text.specs.inner.States.{Levels, top, Role, variable, column, grid_array, grid_map, Stage, typed, named, bracketed, worded, equated, measured, Kind, structures, sequences, grids, GridStage, entered, arrayed, ready, filled, mapping, whole_sequence, whole_grid, State, begun, headed, inside, declaring, opening, in_sequence, in_grid, in_maps, closed, called, dataset_closed, dataset_called, ended, depth_of, next_number, members_in, add, is_name_of, repeats, is_past, wanted_size, is_out, may_have_dims, most_dims, with_dim, declared, behind_declaration, behind_brace, behind_level, with_name}

-- the state behind a token, which may break a rule
pub record Moved : Type 0 where
  pub next : State
  pub breaks : Bool

-- it breaks no rule
abbrev pub keeps : State → Moved
keeps s = record { next = s; breaks = false }

abbrev pub moved : State → Bool → Moved
moved s b = record { next = s; breaks = b }

abbrev pub kind_word : Kind → List ℕ
kind_word structures = codes "Structure"
kind_word sequences = codes "Sequence"
kind_word grids = codes "Grid"

abbrev pub kind_of_word : List ℕ → Option Kind
kind_of_word w = find (λ kind. str_eq_ignore_ascii_case (kind_word kind) w) (structures ∷ sequences ∷ grids ∷ [])

-- 1 to 10 digits, with a value that is an Int32
abbrev pub is_size_word : List ℕ → Bool
is_size_word w = is_numeral 10 w && nat_le (digits_value 10 w) most_elements

abbrev pub size_of_word : List ℕ → Option ℕ
size_of_word w = if is_size_word w then Some (digits_value 10 w) else None

-- where only one keyword or sign goes on
abbrev pub wants : Slot → State → Token → Option Moved
wants slot next t = if spells slot t then Some (keeps next) else None

-- a type word goes on
abbrev pub begin : Levels → Role → BaseType → Moved
begin levels role base = moved (declaring levels role (typed base)) (is_out levels role)

-- `Structure`, `Sequence` or `Grid` goes on
abbrev pub open_whole : Levels → Kind → Moved
open_whole levels kind = moved (opening levels kind) (is_past (depth_of levels) (next_number levels))

-- the `]` behind a size without a name, and a size behind `=`
abbrev pub end_size : Levels → Role → ArrayDecl → ℕ → Moved
end_size levels role a n = moved (declaring levels role (named (with_dim a (record { name = None; size = n })))) (is_other (wanted_size role) n)

abbrev pub take_size : Levels → Role → ArrayDecl → List ℕ → ℕ → Moved
take_size levels role a dim n = moved (declaring levels role (measured a (record { name = Some dim; size = n }))) (is_other (wanted_size role) n)

-- `[` goes on
abbrev pub open_dim : Levels → Role → ArrayDecl → Option Moved
open_dim levels role a = if may_have_dims role then Some (moved (declaring levels role (bracketed a)) (nat_lt (most_dims role) (length a.dims + 1))) else None

abbrev pub declare_step : Levels → Role → Stage → Token → Option Moved
declare_step levels role (typed base) (token.word w) = Some (moved (declaring levels role (named (declared base w))) (repeats levels role w))
declare_step levels role (typed base) (token.sign b) = None
declare_step levels role (named a) (token.sign b) =
    if byte ";" == b then option_map keeps (behind_declaration levels role a)
    else if byte "[" == b then open_dim levels role a
    else None
declare_step levels role (named a) (token.word w) = None
declare_step levels role (bracketed a) (token.word w) = Some (keeps (declaring levels role (worded a w)))
declare_step levels role (bracketed a) (token.sign b) = None
declare_step levels role (worded a w) (token.sign b) =
    if byte "]" == b then option_map (end_size levels role a) (size_of_word w)
    else if byte "=" == b then Some (keeps (declaring levels role (equated a w)))
    else None
declare_step levels role (worded a w) (token.word v) = None
declare_step levels role (equated a dim) (token.word w) = option_map (take_size levels role a dim) (size_of_word w)
declare_step levels role (equated a dim) (token.sign b) = None
declare_step levels role (measured a dim) t = wants (sign (byte "]")) (declaring levels role (named (with_dim a dim))) t

abbrev pub grid_step : Levels → GridStage → Token → Option Moved
grid_step levels entered t = wants (keyword (codes "Array")) (in_grid levels arrayed) t
grid_step levels arrayed t = wants (sign (byte ":")) (in_grid levels ready) t
grid_step levels ready (token.word w) = option_map (begin levels grid_array) (base_of_word w)
grid_step levels ready (token.sign b) = None
grid_step levels (filled a) t = wants (keyword (codes "Maps")) (in_grid levels (mapping a)) t
grid_step levels (mapping a) t = wants (sign (byte ":")) (in_maps levels a []) t

-- the state after one more token, and whether the token breaks a rule
abbrev pub step : State → Token → Option Moved
step begun t = wants (keyword (codes "Dataset")) headed t
step headed t = wants (sign (byte "{")) (inside (top [])) t
step (inside levels) (token.word w) = option_or (option_map (begin levels variable) (base_of_word w)) (option_map (open_whole levels) (kind_of_word w))
step (inside levels) (token.sign b) = wants (sign (byte "}")) (behind_level levels) (token.sign b)
step (declaring levels role stage) t = declare_step levels role stage t
step (opening levels kind) t = wants (sign (byte "{")) (behind_brace levels kind) t
step (in_sequence levels cs) (token.word w) = option_map (begin levels (column cs)) (base_of_word w)
step (in_sequence levels cs) (token.sign b) = wants (sign (byte "}")) (closed levels (whole_sequence cs)) (token.sign b)
step (in_grid levels stage) t = grid_step levels stage t
step (in_maps levels a maps) (token.word w) = option_map (begin levels (grid_map a maps)) (base_of_word w)
step (in_maps levels a maps) (token.sign b) = if byte "}" == b then Some (moved (closed levels (whole_grid a maps)) (nat_lt (length maps) (length a.dims))) else None
step (closed levels whole) (token.word w) = Some (moved (called levels (with_name whole w)) (is_name_of (members_in levels) w))
step (closed levels whole) (token.sign b) = None
step (called levels m) t = wants (sign (byte ";")) (inside (add levels m)) t
step (dataset_closed ms) (token.word w) = Some (keeps (dataset_called (record { name = w; members = members_of ms })))
step (dataset_closed ms) (token.sign b) = None
step (dataset_called d) t = wants (sign (byte ";")) (ended d) t
step (ended d) t = None

-- no text of the grammar goes on with the token, or the token breaks a rule
abbrev pub refuses : State → Token → Bool
refuses s t = option_map_or (λ m. m.breaks) (step s t) true

-- the tokens lead from one state to another, and these of them break a rule
abbrev pub Steps : State → List Token → List Bool → State → Type 0
Steps s [] [] to = s ≡ to
Steps s [] (b ∷ bs) to = ⊥
Steps s (t ∷ ts) [] to = ⊥
Steps s (t ∷ ts) (b ∷ bs) to = (next : State) × (step s t ≡ Some (moved next b)) × Steps next ts bs to

-- the same where no token breaks a rule
abbrev pub Keeps : State → List Token → State → Type 0
Keeps s [] to = s ≡ to
Keeps s (t ∷ ts) to = (next : State) × (step s t ≡ Some (keeps next)) × Keeps next ts to
