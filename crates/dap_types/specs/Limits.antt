-- The limits of this project, by name. The standards that stand behind the formats name none of them, but for the
-- sizes of arrays, which are Int32s (DAP 2.0, Array).
use Rattle.std.specs.Prelude.{ℕ, ◌^◌}

-- ---- datasets

-- the members of a dataset
abbrev pub most_members : ℕ
most_members = 1000000

-- how deep a member stands, where a top member has depth 1
abbrev pub most_depth : ℕ
most_depth = 16

-- the dimensions of an array
abbrev pub most_dimensions : ℕ
most_dimensions = 32

-- the size of a dimension, and the elements of an array that is sent
abbrev pub most_elements : ℕ
most_elements = 2147483647

-- ---- constraints

-- the items of a projection
abbrev pub most_items : ℕ
most_items = 1024

-- the clauses of a selection
abbrev pub most_clauses : ℕ
most_clauses = 1024

-- the values of a clause
abbrev pub most_values : ℕ
most_values = 1024

-- ---- texts and bodies

-- the bytes of a DDS or a DAS
abbrev pub most_text : ℕ
most_text = 16777216

-- the bytes of an Error object
abbrev pub most_error : ℕ
most_error = 65536

-- a body has fewer bytes
abbrev pub body_limit : ℕ
body_limit = 2 ^ 40

-- what is read or written at a time
abbrev pub most_piece : ℕ
most_piece = 65536

-- ---- stored files

-- the bytes of a table's file
abbrev pub most_table : ℕ
most_table = 67108864

-- the columns of a table
abbrev pub most_columns : ℕ
most_columns = 1024

-- the bytes of a netCDF file's header
abbrev pub most_header : ℕ
most_header = 1048576

-- the bytes of a name in a netCDF file
abbrev pub most_name : ℕ
most_name = 256

-- the bytes of a netCDF file's variable, and of one of its records
abbrev pub most_variable : ℕ
most_variable = 2 ^ 62

-- the files that are joined
abbrev pub most_lines : ℕ
most_lines = 64

-- the bytes of a saved data response that is served
abbrev pub most_saved : ℕ
most_saved = 67108864

-- the bytes of a data response that is written as a netCDF file
abbrev pub most_written : ℕ
most_written = 16777216

-- the records of a generated file
abbrev pub most_records : ℕ
most_records = 4096

-- ---- commands

-- the workers that fill a data response
abbrev pub most_workers : ℕ
most_workers = 64

-- the constraints that are fetched one after the other
abbrev pub most_constraints : ℕ
most_constraints = 16

-- the links that are served before the program ends
abbrev pub most_links : ℕ
most_links = 1000000000

-- ---- HTTP

-- the bytes of a host's name (RFC 1035, section 2.3.4)
abbrev pub most_host : ℕ
most_host = 255

-- the greatest port (RFC 9293, section 3.1)
abbrev pub most_port : ℕ
most_port = 65535

-- the requests of a connection
abbrev pub most_requests : ℕ
most_requests = 1000

-- the bytes of a request's head
abbrev pub most_request_head : ℕ
most_request_head = 16384

-- the bytes of a request's target
abbrev pub most_target : ℕ
most_target = 16384

-- the bytes of the heads of a reply, interim ones with them
abbrev pub most_reply_heads : ℕ
most_reply_heads = 65536

-- the bytes of the line of a chunk, and of all trailers
abbrev pub most_chunk_line : ℕ
most_chunk_line = 1024

abbrev pub most_trailers : ℕ
most_trailers = 16384

-- ---- the gateway

-- the bytes of a body that is relayed
abbrev pub most_body : ℕ
most_body = 67108864

-- the bodies that are kept
abbrev pub most_room : ℕ
most_room = 1024

-- the bytes of a body that is kept
abbrev pub most_kept : ℕ
most_kept = 1048576
