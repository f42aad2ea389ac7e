-- What is shown of an element, in the order in which it is put (this project's).
use Rattle.std.specs.Prelude.{ℕ, List, [], ◌∷◌, ◌++◌, codes, slice_get}
use Rattle.std.specs.Option.{option_map_or}
use Rattle.dap_model.specs.Shown.{index_text, shown_value}
use Rattle.dap_types.specs.Model.{Member, scalar, array, structure, grid, sequence, Members, no_members, member, sizes}
use Rattle.dap_types.specs.declared.declarations.ArrayDecl.{ArrayDecl}
use Rattle.dap_types.specs.declared.declarations.Column.{Column}
use Rattle.dap_types.specs.declared.values.Value.TheVariants as values
use Rattle.xdr_fields.specs.Wants.{index_texts}
use Rattle.xdr_decode.specs.inner.Places.{members_from}
use Rattle.xdr_decode.specs.declared.field.Token.{Token}
use Rattle.xdr_decode.specs.declared.field.Token.TheVariants as token
use Rattle.xdr_decode.specs.declared.place.Stage.{Stage}
use Rattle.xdr_decode.specs.declared.place.Stage.TheVariants as stage

-- the indexes of the element that comes
abbrev pub stage_text : List ℕ → Stage → List ℕ
stage_text ns (stage.Elements at n) = index_texts ns at
stage_text ns s = []

abbrev pub array_text : Stage → ArrayDecl → List ℕ
array_text s a = a.name ++ stage_text (sizes a) s

abbrev pub column_text : List Column → ℕ → List ℕ
column_text cs at = option_map_or (λ c. c.name) (slice_get cs at) []

abbrev pub cell_text : List Column → Stage → List ℕ
cell_text cs (stage.Cells row at) = index_text row ++ (codes "." ++ column_text cs at)
cell_text cs s = []

abbrev pub text_first : (Member → List ℕ) → Members → List ℕ
text_first f no_members = []
text_first f (member m ms) = f m

-- the path of the element that comes, without the names above
abbrev pub text_in : List ℕ → Stage → Member → List ℕ
text_in path s (scalar column) = column.name
text_in path s (array a) = array_text s a
text_in [] s (structure name parts) = []
text_in (i ∷ path) s (structure name parts) = (name ++ codes ".") ++ text_first (text_in path s) (members_from i parts)
text_in [] s (grid name a maps) = []
text_in (i ∷ path) s (grid name a maps) = (name ++ codes ".") ++ option_map_or (array_text s) (slice_get (a ∷ maps) i) []
text_in path s (sequence name columns) = name ++ cell_text columns s

abbrev pub path_text : Members → List ℕ → Stage → List ℕ
path_text ms [] s = []
path_text ms (i ∷ path) s = text_first (text_in path s) (members_from i ms)

-- the value itself
abbrev pub shown_token : Token → List ℕ
shown_token (token.Whole z) = shown_value (values.Whole z)
shown_token (token.Bits32 n) = shown_value (values.Bits32 n)
shown_token (token.Bits64 n) = shown_value (values.Bits64 n)
shown_token t = []

-- what is put behind the path
abbrev pub token_text : Token → List ℕ
token_text (token.Size n) = codes " = \""
token_text t = codes " = " ++ (shown_token t ++ codes "\n")
