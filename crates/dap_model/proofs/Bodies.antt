-- The bodies of the worked examples, computed.
use Rattle.std.proofs.Common.{◌≡◌, pos, [], ◌∷◌, ◌++◌, length, true, codes, refl}
use Rattle.std.specs.Fmt.{digits}
use Rattle.std.specs.Ordering.{is_eq, is_lt}
use Rattle.dap_model.specs.Body.{body}
use Rattle.dap_model.specs.Dds.{line, column_text, array_text, closing, dds}
use Rattle.dap_model.specs.Filter.{Keeps, constrained, constrained_trees}
use Rattle.dap_model.specs.Xdr.{bytes_of, field_bytes}
use Rattle.dap_model.proofs.Files.{buoys, buoys_rows, v, v_values, g, g_values, r, b, z, c, e, slab, list, numbers, text, words, marks_of, on_depth}

abbrev every_row : Keeps
every_row n row = true

-- table
table : body buoys buoys_rows
    ≡ codes "Dataset {\n    Sequence {\n        String station;\n        Int32 depth;\n    } buoys;\n} buoys.csv;\nData:\n" ++ words (0x5a000000 ∷ 2 ∷ 0x41310000 ∷ 5 ∷ 0x5a000000 ∷ 3 ∷ 0x42323200 ∷ 0xfffffff9 ∷ 0xa5000000 ∷ [])
unfolding dds line column_text closing bytes_of field_bytes
table = refl

table_length : length (body buoys buoys_rows) ≡ 138
unfolding dds line column_text closing bytes_of field_bytes
table_length = refl

-- buoys.depth&buoys.depth<0
rows_below_zero : body (constrained (marks_of ((3, []) ∷ [])) buoys) (constrained_trees (marks_of ((3, []) ∷ [])) (on_depth is_lt (pos 0 ∷ [])) buoys buoys_rows)
    ≡ codes "Dataset {\n    Sequence {\n        Int32 depth;\n    } buoys;\n} buoys.csv;\nData:\n" ++ words (0x5a000000 ∷ 0xfffffff9 ∷ 0xa5000000 ∷ [])
unfolding dds line column_text closing bytes_of field_bytes
rows_below_zero = refl

rows_below_zero_length : length (body (constrained (marks_of ((3, []) ∷ [])) buoys) (constrained_trees (marks_of ((3, []) ∷ [])) (on_depth is_lt (pos 0 ∷ [])) buoys buoys_rows)) ≡ 90
unfolding dds line column_text closing bytes_of field_bytes
rows_below_zero_length = refl

-- buoys.station&buoys.depth={5,9}
rows_of_a_set : body (constrained (marks_of ((2, []) ∷ [])) buoys) (constrained_trees (marks_of ((2, []) ∷ [])) (on_depth is_eq (pos 5 ∷ pos 9 ∷ [])) buoys buoys_rows)
    ≡ codes "Dataset {\n    Sequence {\n        String station;\n    } buoys;\n} buoys.csv;\nData:\n" ++ words (0x5a000000 ∷ 2 ∷ 0x41310000 ∷ 0xa5000000 ∷ [])
unfolding dds line column_text closing bytes_of field_bytes
rows_of_a_set = refl

rows_of_a_set_length : length (body (constrained (marks_of ((2, []) ∷ [])) buoys) (constrained_trees (marks_of ((2, []) ∷ [])) (on_depth is_eq (pos 5 ∷ pos 9 ∷ [])) buoys buoys_rows)) ≡ 97
unfolding dds line column_text closing bytes_of field_bytes
rows_of_a_set_length = refl

-- v[0:2:2][1:3]
strided : body (constrained (marks_of ((1, slab 0 2 2 ∷ slab 1 1 3 ∷ []) ∷ [])) v) (constrained_trees (marks_of ((1, slab 0 2 2 ∷ slab 1 1 3 ∷ []) ∷ [])) every_row v v_values)
    ≡ codes "Dataset {\n    Int32 v[y = 2][x = 3];\n} v.nc;\nData:\n" ++ words (6 ∷ 6 ∷ 1 ∷ 2 ∷ 3 ∷ 9 ∷ 10 ∷ 11 ∷ [])
unfolding dds line array_text closing digits bytes_of field_bytes
strided = refl

strided_length : length (body (constrained (marks_of ((1, slab 0 2 2 ∷ slab 1 1 3 ∷ []) ∷ [])) v) (constrained_trees (marks_of ((1, slab 0 2 2 ∷ slab 1 1 3 ∷ []) ∷ [])) every_row v v_values)) ≡ 83
unfolding dds line array_text closing digits bytes_of field_bytes
strided_length = refl

-- v[2][3]
corner_element : body (constrained (marks_of ((1, slab 2 1 1 ∷ slab 3 1 1 ∷ []) ∷ [])) v) (constrained_trees (marks_of ((1, slab 2 1 1 ∷ slab 3 1 1 ∷ []) ∷ [])) every_row v v_values)
    ≡ codes "Dataset {\n    Int32 v[y = 1][x = 1];\n} v.nc;\nData:\n" ++ words (1 ∷ 1 ∷ 11 ∷ [])
unfolding dds line array_text closing digits bytes_of field_bytes
corner_element = refl

corner_element_length : length (body (constrained (marks_of ((1, slab 2 1 1 ∷ slab 3 1 1 ∷ []) ∷ [])) v) (constrained_trees (marks_of ((1, slab 2 1 1 ∷ slab 3 1 1 ∷ []) ∷ [])) every_row v v_values)) ≡ 63
unfolding dds line array_text closing digits bytes_of field_bytes
corner_element_length = refl

-- g.g[0:0][1:2],g.lon[1:2]
grid_in_parts : body (constrained (marks_of ((4, slab 0 1 1 ∷ slab 1 1 2 ∷ []) ∷ (6, slab 1 1 2 ∷ []) ∷ [])) g) (constrained_trees (marks_of ((4, slab 0 1 1 ∷ slab 1 1 2 ∷ []) ∷ (6, slab 1 1 2 ∷ []) ∷ [])) every_row g g_values)
    ≡ codes "Dataset {\n    Structure {\n        Int16 g[lat = 1][lon = 2];\n        Int32 lon[lon = 2];\n    } g;\n} g.nc;\nData:\n" ++ words (2 ∷ 2 ∷ 0x7fff ∷ 3 ∷ 2 ∷ 2 ∷ 2 ∷ 3 ∷ [])
unfolding dds line array_text closing digits bytes_of field_bytes
grid_in_parts = refl

grid_in_parts_length : length (body (constrained (marks_of ((4, slab 0 1 1 ∷ slab 1 1 2 ∷ []) ∷ (6, slab 1 1 2 ∷ []) ∷ [])) g) (constrained_trees (marks_of ((4, slab 0 1 1 ∷ slab 1 1 2 ∷ []) ∷ (6, slab 1 1 2 ∷ []) ∷ [])) every_row g g_values)) ≡ 144
unfolding dds line array_text closing digits bytes_of field_bytes
grid_in_parts_length = refl

-- g[0:0][1:2]
cut_grid : body (constrained (marks_of ((4, slab 0 1 1 ∷ slab 1 1 2 ∷ []) ∷ (5, slab 0 1 1 ∷ []) ∷ (6, slab 1 1 2 ∷ []) ∷ [])) g) (constrained_trees (marks_of ((4, slab 0 1 1 ∷ slab 1 1 2 ∷ []) ∷ (5, slab 0 1 1 ∷ []) ∷ (6, slab 1 1 2 ∷ []) ∷ [])) every_row g g_values)
    ≡ codes "Dataset {\n    Grid {\n      Array:\n        Int16 g[lat = 1][lon = 2];\n      Maps:\n        Int32 lat[lat = 1];\n        Int32 lon[lon = 2];\n    } g;\n} g.nc;\nData:\n" ++ words (2 ∷ 2 ∷ 0x7fff ∷ 3 ∷ 1 ∷ 1 ∷ 10 ∷ 2 ∷ 2 ∷ 2 ∷ 3 ∷ [])
unfolding dds line array_text closing digits bytes_of field_bytes
cut_grid = refl

cut_grid_length : length (body (constrained (marks_of ((4, slab 0 1 1 ∷ slab 1 1 2 ∷ []) ∷ (5, slab 0 1 1 ∷ []) ∷ (6, slab 1 1 2 ∷ []) ∷ [])) g) (constrained_trees (marks_of ((4, slab 0 1 1 ∷ slab 1 1 2 ∷ []) ∷ (5, slab 0 1 1 ∷ []) ∷ (6, slab 1 1 2 ∷ []) ∷ [])) every_row g g_values)) ≡ 204
unfolding dds line array_text closing digits bytes_of field_bytes
cut_grid_length = refl

-- record variable
record_variable : body r (numbers (1 ∷ 2 ∷ 3 ∷ []) ∷ [])
    ≡ codes "Dataset {\n    Int16 s[t = 3];\n} r.nc;\nData:\n" ++ words (3 ∷ 3 ∷ 1 ∷ 2 ∷ 3 ∷ [])
unfolding dds line array_text closing digits bytes_of field_bytes
record_variable = refl

record_variable_length : length (body r (numbers (1 ∷ 2 ∷ 3 ∷ []) ∷ [])) ≡ 64
unfolding dds line array_text closing digits bytes_of field_bytes
record_variable_length = refl

-- bytes packed
bytes_packed : body b (numbers (1 ∷ 2 ∷ 255 ∷ 0 ∷ 7 ∷ []) ∷ [])
    ≡ codes "Dataset {\n    Byte b[n = 5];\n} b.nc;\nData:\n" ++ words (5 ∷ 5 ∷ 0x0102ff00 ∷ 0x07000000 ∷ [])
unfolding dds line array_text closing digits bytes_of field_bytes
bytes_packed = refl

bytes_packed_length : length (body b (numbers (1 ∷ 2 ∷ 255 ∷ 0 ∷ 7 ∷ []) ∷ [])) ≡ 59
unfolding dds line array_text closing digits bytes_of field_bytes
bytes_packed_length = refl

-- g.g[0:0][0:1]
array_of_a_grid : body (constrained (marks_of ((4, slab 0 1 1 ∷ slab 0 1 2 ∷ []) ∷ [])) g) (constrained_trees (marks_of ((4, slab 0 1 1 ∷ slab 0 1 2 ∷ []) ∷ [])) every_row g g_values)
    ≡ codes "Dataset {\n    Structure {\n        Int16 g[lat = 1][lon = 2];\n    } g;\n} g.nc;\nData:\n" ++ words (2 ∷ 2 ∷ 0xffffffff ∷ 0x7fff ∷ [])
unfolding dds line array_text closing digits bytes_of field_bytes
array_of_a_grid = refl

array_of_a_grid_length : length (body (constrained (marks_of ((4, slab 0 1 1 ∷ slab 0 1 2 ∷ []) ∷ [])) g) (constrained_trees (marks_of ((4, slab 0 1 1 ∷ slab 0 1 2 ∷ []) ∷ [])) every_row g g_values)) ≡ 100
unfolding dds line array_text closing digits bytes_of field_bytes
array_of_a_grid_length = refl

-- two records
two_records : body z (numbers (1 ∷ 2 ∷ []) ∷ numbers (10 ∷ 11 ∷ []) ∷ [])
    ≡ codes "Dataset {\n    Int16 a[t = 2];\n    Int16 b[t = 2];\n} z.nc;\nData:\n" ++ words (2 ∷ 2 ∷ 1 ∷ 2 ∷ 2 ∷ 2 ∷ 10 ∷ 11 ∷ [])
unfolding dds line array_text closing digits bytes_of field_bytes
two_records = refl

two_records_length : length (body z (numbers (1 ∷ 2 ∷ []) ∷ numbers (10 ∷ 11 ∷ []) ∷ [])) ≡ 96
unfolding dds line array_text closing digits bytes_of field_bytes
two_records_length = refl

-- texts
texts : body c (list (text (codes "ab") ∷ text (codes "wxyz") ∷ []) ∷ [])
    ≡ codes "Dataset {\n    String c[k = 2];\n} c.nc;\nData:\n" ++ words (2 ∷ 2 ∷ 0x61620000 ∷ 4 ∷ 0x7778797a ∷ [])
unfolding dds line array_text closing digits bytes_of field_bytes
texts = refl

texts_length : length (body c (list (text (codes "ab") ∷ text (codes "wxyz") ∷ []) ∷ [])) ≡ 65
unfolding dds line array_text closing digits bytes_of field_bytes
texts_length = refl

-- no records
no_records : body e (list [] ∷ [])
    ≡ codes "Dataset {\n    Int16 s[t = 0];\n} e.nc;\nData:\n" ++ words (0 ∷ 0 ∷ [])
unfolding dds line array_text closing digits bytes_of field_bytes
no_records = refl

no_records_length : length (body e (list [] ∷ [])) ≡ 52
unfolding dds line array_text closing digits bytes_of field_bytes
no_records_length = refl
