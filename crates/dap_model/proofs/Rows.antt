-- The worked examples, computed.
use Rattle.std.proofs.Common.{◌≡◌, pos, negsuc, [], ◌∷◌, true, codes, refl}
use Rattle.std.specs.Fmt.{digits}
use Rattle.std.specs.Ordering.{is_eq, is_gt, is_lt}
use Rattle.dap_types.specs.Model.{scalar, structure, members_of, one}
use Rattle.dap_types.specs.declared.declarations.BaseType.TheVariants.{Byte, Int16, Float32, Text}
use Rattle.dap_types.specs.declared.values.Value.TheVariants as values
use Rattle.dap_model.specs.Dds.{line, column_text, array_text, closing, dds}
use Rattle.dap_model.specs.Filter.{Marks, Keeps, constrained}
use Rattle.dap_model.specs.Raw.{value_of}
use Rattle.dap_model.specs.Rows.{kept}
use Rattle.dap_model.specs.Shown.{shown}
use Rattle.dap_model.specs.Xdr.{bytes_of, field_bytes, xdr}
use Rattle.dap_model.proofs.Files.{dataset, column, buoys, buoys_rows, v, v_values, g, g_values, r, b, z, c, e, slab, list, numbers, text, words, marks_of, on_depth, left}

table : dds buoys ≡ codes "Dataset {\n    Sequence {\n        String station;\n        Int32 depth;\n    } buoys;\n} buoys.csv;\n"
unfolding dds line column_text closing
table = refl

table_values : xdr buoys buoys_rows ≡ words (0x5a000000 ∷ 2 ∷ 0x41310000 ∷ 5 ∷ 0x5a000000 ∷ 3 ∷ 0x42323200 ∷ 0xfffffff9 ∷ 0xa5000000 ∷ [])
unfolding bytes_of field_bytes
table_values = refl

-- no rows
empty_table_values : xdr buoys (list [] ∷ []) ≡ words (0xa5000000 ∷ [])
unfolding bytes_of field_bytes
empty_table_values = refl

abbrev every_row : Keeps
every_row n row = true

-- buoys.depth&buoys.depth<0
abbrev depths : Marks
depths = marks_of ((3, []) ∷ [])

rows_below_zero : dds (constrained depths buoys) ≡ codes "Dataset {\n    Sequence {\n        Int32 depth;\n    } buoys;\n} buoys.csv;\n"
unfolding dds line column_text closing
rows_below_zero = refl

rows_below_zero_values : left depths (on_depth is_lt (pos 0 ∷ [])) buoys buoys_rows ≡ words (0x5a000000 ∷ 0xfffffff9 ∷ 0xa5000000 ∷ [])
unfolding bytes_of field_bytes
rows_below_zero_values = refl

-- buoys.station&buoys.depth={5,9}
rows_of_a_set_values : left (marks_of ((2, []) ∷ [])) (on_depth is_eq (pos 5 ∷ pos 9 ∷ [])) buoys buoys_rows ≡ words (0x5a000000 ∷ 2 ∷ 0x41310000 ∷ 0xa5000000 ∷ [])
unfolding bytes_of field_bytes
rows_of_a_set_values = refl

-- v[0:2:2][1:3]
abbrev strided : Marks
strided = marks_of ((1, slab 0 2 2 ∷ slab 1 1 3 ∷ []) ∷ [])

strided_array : dds (constrained strided v) ≡ codes "Dataset {\n    Int32 v[y = 2][x = 3];\n} v.nc;\n"
unfolding dds line array_text closing digits
strided_array = refl

strided_array_values : left strided every_row v v_values ≡ words (6 ∷ 6 ∷ 1 ∷ 2 ∷ 3 ∷ 9 ∷ 10 ∷ 11 ∷ [])
unfolding bytes_of field_bytes
strided_array_values = refl

-- v[2][3]
abbrev corner : Marks
corner = marks_of ((1, slab 2 1 1 ∷ slab 3 1 1 ∷ []) ∷ [])

corner_element : dds (constrained corner v) ≡ codes "Dataset {\n    Int32 v[y = 1][x = 1];\n} v.nc;\n"
unfolding dds line array_text closing digits
corner_element = refl

corner_element_values : left corner every_row v v_values ≡ words (1 ∷ 1 ∷ 11 ∷ [])
unfolding bytes_of field_bytes
corner_element_values = refl

-- g.g[0:0][1:2],g.lon[1:2]
abbrev two_parts : Marks
two_parts = marks_of ((4, slab 0 1 1 ∷ slab 1 1 2 ∷ []) ∷ (6, slab 1 1 2 ∷ []) ∷ [])

grid_in_parts : dds (constrained two_parts g) ≡ codes "Dataset {\n    Structure {\n        Int16 g[lat = 1][lon = 2];\n        Int32 lon[lon = 2];\n    } g;\n} g.nc;\n"
unfolding dds line array_text closing digits
grid_in_parts = refl

grid_in_parts_values : left two_parts every_row g g_values ≡ words (2 ∷ 2 ∷ 0x7fff ∷ 3 ∷ 2 ∷ 2 ∷ 2 ∷ 3 ∷ [])
unfolding bytes_of field_bytes
grid_in_parts_values = refl

-- g[0:0][1:2]
abbrev whole_grid : Marks
whole_grid = marks_of ((4, slab 0 1 1 ∷ slab 1 1 2 ∷ []) ∷ (5, slab 0 1 1 ∷ []) ∷ (6, slab 1 1 2 ∷ []) ∷ [])

cut_grid : dds (constrained whole_grid g)
    ≡ codes "Dataset {\n    Grid {\n      Array:\n        Int16 g[lat = 1][lon = 2];\n      Maps:\n        Int32 lat[lat = 1];\n        Int32 lon[lon = 2];\n    } g;\n} g.nc;\n"
unfolding dds line array_text closing digits
cut_grid = refl

cut_grid_values : left whole_grid every_row g g_values ≡ words (2 ∷ 2 ∷ 0x7fff ∷ 3 ∷ 1 ∷ 1 ∷ 10 ∷ 2 ∷ 2 ∷ 2 ∷ 3 ∷ [])
unfolding bytes_of field_bytes
cut_grid_values = refl

record_variable : dds r ≡ codes "Dataset {\n    Int16 s[t = 3];\n} r.nc;\n"
unfolding dds line array_text closing digits
record_variable = refl

record_variable_values : xdr r (numbers (1 ∷ 2 ∷ 3 ∷ []) ∷ []) ≡ words (3 ∷ 3 ∷ 1 ∷ 2 ∷ 3 ∷ [])
unfolding bytes_of field_bytes
record_variable_values = refl

bytes_packed : dds b ≡ codes "Dataset {\n    Byte b[n = 5];\n} b.nc;\n"
unfolding dds line array_text closing digits
bytes_packed = refl

bytes_packed_values : xdr b (numbers (1 ∷ 2 ∷ 255 ∷ 0 ∷ 7 ∷ []) ∷ []) ≡ words (5 ∷ 5 ∷ 0x0102ff00 ∷ 0x07000000 ∷ [])
unfolding bytes_of field_bytes
bytes_packed_values = refl

-- g.g[0:0][0:1]
array_of_a_grid : dds (constrained (marks_of ((4, slab 0 1 1 ∷ slab 0 1 2 ∷ []) ∷ [])) g) ≡ codes "Dataset {\n    Structure {\n        Int16 g[lat = 1][lon = 2];\n    } g;\n} g.nc;\n"
unfolding dds line array_text closing digits
array_of_a_grid = refl

array_of_a_grid_values : left (marks_of ((4, slab 0 1 1 ∷ slab 0 1 2 ∷ []) ∷ [])) every_row g g_values ≡ words (2 ∷ 2 ∷ 0xffffffff ∷ 0x7fff ∷ [])
unfolding bytes_of field_bytes
array_of_a_grid_values = refl

table_shown : shown buoys buoys_rows 138
    ≡ codes "Dataset {\n    Sequence {\n        String station;\n        Int32 depth;\n    } buoys;\n} buoys.csv;\nbuoys[0].station = \"A1\"\nbuoys[0].depth = 5\nbuoys[1].station = \"B22\"\nbuoys[1].depth = -7\ncomplete 138\n"
unfolding dds line column_text closing digits
table_shown = refl

two_records : dds z ≡ codes "Dataset {\n    Int16 a[t = 2];\n    Int16 b[t = 2];\n} z.nc;\n"
unfolding dds line array_text closing digits
two_records = refl

two_records_values : xdr z (numbers (1 ∷ 2 ∷ []) ∷ numbers (10 ∷ 11 ∷ []) ∷ []) ≡ words (2 ∷ 2 ∷ 1 ∷ 2 ∷ 2 ∷ 2 ∷ 10 ∷ 11 ∷ [])
unfolding bytes_of field_bytes
two_records_values = refl

texts : dds c ≡ codes "Dataset {\n    String c[k = 2];\n} c.nc;\n"
unfolding dds line array_text closing digits
texts = refl

texts_values : xdr c (list (text (codes "ab") ∷ text (codes "wxyz") ∷ []) ∷ []) ≡ words (2 ∷ 2 ∷ 0x61620000 ∷ 4 ∷ 0x7778797a ∷ [])
unfolding bytes_of field_bytes
texts_values = refl

-- no records
no_records : dds e ≡ codes "Dataset {\n    Int16 s[t = 0];\n} e.nc;\n"
unfolding dds line array_text closing digits
no_records = refl

no_records_values : xdr e (list [] ∷ []) ≡ words (0 ∷ 0 ∷ [])
unfolding bytes_of field_bytes
no_records_values = refl

-- g.g[0:0][0:1],g.lat[0:0],g.lon[1:2]: a map that picks as many indexes as the array, but others
other_indexes : dds (constrained (marks_of ((4, slab 0 1 1 ∷ slab 0 1 2 ∷ []) ∷ (5, slab 0 1 1 ∷ []) ∷ (6, slab 1 1 2 ∷ []) ∷ [])) g)
    ≡ codes "Dataset {\n    Structure {\n        Int16 g[lat = 1][lon = 2];\n        Int32 lat[lat = 1];\n        Int32 lon[lon = 2];\n    } g;\n} g.nc;\n"
unfolding dds line array_text closing digits
other_indexes = refl

-- buoys.station&buoys.station>"A1"
texts_by_their_bytes : left (marks_of ((2, []) ∷ [])) (kept (record { column = 2; relation = is_gt; values = values.Text (codes "A1") ∷ [] } ∷ [])) buoys buoys_rows ≡ words (0x5a000000 ∷ 3 ∷ 0x42323200 ∷ 0xa5000000 ∷ [])
unfolding bytes_of field_bytes
texts_by_their_bytes = refl

-- the indexes of an array; quotes, a backslash and a line feed in a text; the bits of a float below a name
array_shown : shown z (numbers (1 ∷ 2 ∷ []) ∷ numbers (10 ∷ 11 ∷ []) ∷ []) 96 ≡ codes "Dataset {\n    Int16 a[t = 2];\n    Int16 b[t = 2];\n} z.nc;\na[0] = 1\na[1] = 2\nb[0] = 10\nb[1] = 11\ncomplete 96\n"
unfolding dds line array_text closing digits
array_shown = refl

parts_shown : shown (dataset (codes "f") (structure (codes "s") (members_of (scalar (column Text (codes "q")) ∷ scalar (column Float32 (codes "x")) ∷ [])) ∷ [])) (list (text (34 ∷ 92 ∷ 10 ∷ []) ∷ one (values.Bits32 0x3f800000) ∷ []) ∷ []) 80
    ≡ codes "Dataset {\n    Structure {\n        String q;\n        Float32 x;\n    } s;\n} f;\ns.q = \"\\\"\\\\\\x0a\"\ns.x = 0x3f800000\ncomplete 80\n"
unfolding dds line column_text closing digits
parts_shown = refl

-- an Int16 and a Byte as they stand in a file
short_in_a_file : value_of Int16 (0xff ∷ 0xfe ∷ []) ≡ values.Whole (negsuc 1)
short_in_a_file = refl

byte_in_a_file : value_of Byte (0xff ∷ []) ≡ values.Whole (pos 255)
byte_in_a_file = refl
