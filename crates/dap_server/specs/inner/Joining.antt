-- A list of files that were opened together, and why none were.
use Rattle.std.specs.Prelude.{◌≡◌, ℕ, List, nat_lt, if◌then◌else◌, Option, Some, Result, Ok}
use Rattle.dap_types.specs.Limits.{most_piece}
use Rattle.dap_outside.specs.Files.{Told}
use Rattle.dap_errors.specs.declared.cause.Cause.{Cause}
use Rattle.join_source.specs.Joins.{headers_in, name_in}
use Rattle.join_source.specs.Lists.{list_of}
use Rattle.join_source.specs.Members.{CanJoin}
use Rattle.join_source.specs.declared.joined.Joined.{Joined}
use Rattle.dap_server.specs.Costs.{IsWithinLines}
use Rattle.dap_server.specs.Files.{Files, MayHave, Stored}
use Rattle.dap_server.specs.Joins.{Member, Members, contents_in}
use Rattle.dap_server.specs.Results.{OpensAmong}
use Rattle.dap_server.specs.inner.Members.{AreFilesOf, AreHeadersOf}

-- files that the shelf may have are opened so
abbrev pub MayOpen : Told → List ℕ → Result Stored Cause → Type 0
MayOpen told name r = (files : Files) × MayHave told files × OpensAmong told files name r

-- and no more was asked than what their list of this name has lines for
abbrev pub MayOpenWithin : Told → List ℕ → ℕ → ℕ → Result Stored Cause → Type 0
MayOpenWithin told name before now r = (files : Files) × MayHave told files × OpensAmong told files name r × IsWithinLines files name before now

-- These files of a shelf are those that a list of this name joins, which the shelf may have.
pub record IsJoinOf {F : Type 0} (told : Told) (content : F → Option (List ℕ)) (size_of : F → ℕ) (name : List ℕ) (j : Joined) (joined_files : List F) : Type 0 where
  pub files : Files
  pub may_have : MayHave told files
  pub bytes : List ℕ
  pub there : files name ≡ Some bytes
  pub names : List (List ℕ)
  pub lists : list_of bytes ≡ Ok names
  pub ms : List Member
  pub members : Members told 1 names (Ok ms)
  pub can_join : CanJoin (contents_in ms)
  pub headers : AreHeadersOf (headers_in j) ms
  pub are_files : AreFilesOf told content size_of joined_files ms
  pub named : name_in j ≡ name

-- a list of so many bytes is read whole, or not where it is too long
abbrev pub most_of_size : ℕ → ℕ
most_of_size size = if nat_lt most_piece size then 0 else size
