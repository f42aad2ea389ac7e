-- What contracts see of a body: the text that it is over a file with some bytes, its DDS, which files it
-- fits, and what it asks of them.
use Rattle.std.specs.Prelude.{◌≡◌, ℕ, List, [], ◌++◌, All, length, take}
use Rattle.xdr_encode.specs.Begun.{HaveBegun}
use Rattle.xdr_encode.specs.Rows.{front_text}
use Rattle.xdr_encode.specs.Sent.{IsInside, leaves_cost, leaves_xdr}
use Rattle.xdr_encode.specs.declared.body.Body.{Body}
use Rattle.xdr_encode.specs.declared.leaf.Leaf.{Leaf}

-- what stands before the values of the file, and these
abbrev pub front_in : Body → List ℕ
front_in b = front_text b.head b.rows

abbrev pub leaves_in : Body → List Leaf
leaves_in b = b.leaves

-- all of it
unfoldable pub text_in : Body → List ℕ → List ℕ
text_in b file = front_in b ++ leaves_xdr (leaves_in b) file

-- its DDS
unfoldable pub dds_in : Body → List ℕ
dds_in b = take b.dds_len b.head

-- it has no values of a file
unfoldable pub HasNoFile : Body → Type 0
HasNoFile b = leaves_in b ≡ []

-- all that it reads stands within a file of so many bytes
unfoldable pub FitsFile : Body → ℕ → Type 0
FitsFile b file_len = All (IsInside file_len) (leaves_in b)

-- the bytes that it may ask
unfoldable pub cost_in : Body → ℕ
cost_in b = leaves_cost (leaves_in b)

-- so many bytes may have been asked where so many of it were put
unfoldable pub MayAsk : Body → List ℕ → ℕ → ℕ → Type 0
MayAsk b file put asked = HaveBegun (leaves_in b) file (length (front_in b)) put asked
