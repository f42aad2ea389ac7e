-- The causes for which a request is refused: code, message and HTTP status of each. All of them are
-- this project's own.
use Rattle.std.specs.Prelude.{ℕ, List, ◌++◌, codes}
use Rattle.std.specs.Fmt.{decimal}
use Rattle.dap_errors.specs.declared.spot.Spot.{Spot}
use Rattle.dap_errors.specs.declared.spot.Spot.TheVariants.{Item, Clause}
use Rattle.dap_errors.specs.declared.file_cause.FileCause.{FileCause}
use Rattle.dap_errors.specs.declared.file_cause.FileCause.TheVariants.{NotCdf, Streaming, BadField, HeaderCut, HeaderTooLong, PastEnd, TooLong, NoHeader, TooWide, RepeatedColumn, Ragged, BadCell, SavedTooLong, BadBody, RepeatedName, JoinTooLong, BadLine, NoMember, BadMember, NoRecord, Differs, TooManyRecords}
use Rattle.dap_errors.specs.declared.cause.Cause.{Cause}
use Rattle.dap_errors.specs.declared.cause.Cause.TheVariants.{Syntax, UnknownName, NotArray, SlabCount, BadSlab, TwoSlabs, TooMany, NotColumn, TypeMismatch, FloatCompared, Unsupported, BigNumber, TooLarge, BadTarget, NoFile, BadMethod, BadRequest, HeadTooLong, Damaged, ReadFailed, OutOfMemory, UpstreamBad, UpstreamFault, UpstreamLarge}

abbrev pub spot_text : Spot → List ℕ
spot_text (Item n) = codes "item " ++ decimal n
spot_text (Clause n) = codes "clause " ++ decimal n

abbrev pub file_cause_text : FileCause → List ℕ
file_cause_text NotCdf = codes "not netCDF classic"
file_cause_text Streaming = codes "streaming record count"
file_cause_text (BadField place) = codes "bad field at " ++ decimal place
file_cause_text HeaderCut = codes "header cut"
file_cause_text HeaderTooLong = codes "header too long"
file_cause_text (PastEnd var) = codes "variable " ++ decimal var ++ codes " past the end"
file_cause_text TooLong = codes "table too long"
file_cause_text NoHeader = codes "no header record"
file_cause_text TooWide = codes "too many columns"
file_cause_text (RepeatedColumn column) = codes "repeated column " ++ decimal column
file_cause_text (Ragged row) = codes "ragged row " ++ decimal row
file_cause_text (BadCell row column) = codes "bad cell in row " ++ decimal row ++ codes " column " ++ decimal column
file_cause_text SavedTooLong = codes "saved response too long"
file_cause_text (BadBody place) = codes "bad body at " ++ decimal place
file_cause_text (RepeatedName member) = codes "repeated name in member " ++ decimal member
file_cause_text JoinTooLong = codes "join too long"
file_cause_text (BadLine line) = codes "bad line " ++ decimal line
file_cause_text (NoMember line) = codes "no member in line " ++ decimal line
file_cause_text (BadMember line) = codes "bad member in line " ++ decimal line
file_cause_text NoRecord = codes "no record dimension"
file_cause_text (Differs line) = codes "member " ++ decimal line ++ codes " differs"
file_cause_text TooManyRecords = codes "too many records"

abbrev pub error_code : Cause → ℕ
error_code (Syntax place) = 1
error_code (UnknownName spot) = 2
error_code (NotArray spot) = 3
error_code (SlabCount spot) = 4
error_code (BadSlab spot) = 5
error_code (TwoSlabs spot) = 6
error_code (TooMany spot) = 7
error_code (NotColumn spot) = 8
error_code (TypeMismatch spot) = 9
error_code (FloatCompared spot) = 10
error_code (Unsupported spot) = 11
error_code (BigNumber spot) = 12
error_code (TooLarge leaf) = 13
error_code BadTarget = 14
error_code NoFile = 15
error_code BadMethod = 16
error_code BadRequest = 17
error_code HeadTooLong = 18
error_code (Damaged cause) = 19
error_code ReadFailed = 20
error_code OutOfMemory = 21
error_code (UpstreamBad place) = 22
error_code UpstreamFault = 23
error_code UpstreamLarge = 24

abbrev pub message_text : Cause → List ℕ
message_text (Syntax place) = codes "syntax at " ++ decimal place
message_text (UnknownName spot) = codes "unknown name in " ++ spot_text spot
message_text (NotArray spot) = codes "not an array in " ++ spot_text spot
message_text (SlabCount spot) = codes "slab count in " ++ spot_text spot
message_text (BadSlab spot) = codes "bad slab in " ++ spot_text spot
message_text (TwoSlabs spot) = codes "two slabs in " ++ spot_text spot
message_text (TooMany spot) = codes "too many in " ++ spot_text spot
message_text (NotColumn spot) = codes "not a column in " ++ spot_text spot
message_text (TypeMismatch spot) = codes "type mismatch in " ++ spot_text spot
message_text (FloatCompared spot) = codes "float compared in " ++ spot_text spot
message_text (Unsupported spot) = codes "unsupported in " ++ spot_text spot
message_text (BigNumber spot) = codes "big number in " ++ spot_text spot
message_text (TooLarge leaf) = codes "too large: leaf " ++ decimal leaf
message_text BadTarget = codes "bad target"
message_text NoFile = codes "no such file"
message_text BadMethod = codes "bad method"
message_text BadRequest = codes "bad request"
message_text HeadTooLong = codes "head too long"
message_text (Damaged cause) = codes "damaged file: " ++ file_cause_text cause
message_text ReadFailed = codes "read failed"
message_text OutOfMemory = codes "out of memory"
message_text (UpstreamBad place) = codes "bad upstream reply at " ++ decimal place
message_text UpstreamFault = codes "upstream fault"
message_text UpstreamLarge = codes "upstream reply too large"

-- 400 but for what the client is not to blame for, or what has a status of its own (RFC 9110, RFC 6585)
abbrev pub http_status : Cause → ℕ
http_status (Syntax place) = 400
http_status (UnknownName spot) = 400
http_status (NotArray spot) = 400
http_status (SlabCount spot) = 400
http_status (BadSlab spot) = 400
http_status (TwoSlabs spot) = 400
http_status (TooMany spot) = 400
http_status (NotColumn spot) = 400
http_status (TypeMismatch spot) = 400
http_status (FloatCompared spot) = 400
http_status (Unsupported spot) = 400
http_status (BigNumber spot) = 400
http_status (TooLarge leaf) = 400
http_status BadTarget = 400
http_status NoFile = 404
http_status BadMethod = 405
http_status BadRequest = 400
http_status HeadTooLong = 431
http_status (Damaged cause) = 500
http_status ReadFailed = 500
http_status OutOfMemory = 503
http_status (UpstreamBad place) = 502
http_status UpstreamFault = 502
http_status UpstreamLarge = 502
