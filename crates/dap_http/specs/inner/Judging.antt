-- What the bytes of a buffer begin with.
use Rattle.std.specs.Prelude.{◌≡◌, ℕ, ◌≤◌, ◌⊎◌, Bool, List, length, drop, Option, Some, None, codes}
use Rattle.std.specs.Str.{bytes_eq}
use Rattle.httparse.specs.Grammar.{NeverHasRequest, RequestHead}
use Rattle.dap_http.specs.Requests.{HasNoHead, IsFirstLine, MayBecomeHead, NeverHasHead, ReadsHead, feeds}
use Rattle.dap_http.specs.Reading.{Gives, IsFound, IsHead}
use Rattle.dap_http.specs.declared.head_judge.Judged.{Judged}
use Rattle.dap_http.specs.declared.head_judge.Judged.TheVariants as judged
use Rattle.dap_http.specs.declared.head_reader.HeadRead.{HeadRead}

-- a head of so many bytes; none yet; none, whatever follows; a head for which memory is wanted
abbrev pub IsJudged : List ℕ → Judged → Type 0
IsJudged bytes (judged.Whole h len) = (len ≤ length bytes) × ((tree : RequestHead) × ReadsHead bytes tree (drop len bytes) × IsHead h tree)
IsJudged bytes judged.Partial = HasNoHead bytes × (MayBecomeHead bytes ⊎ (IsFirstLine bytes ⊎ (65 ≤ feeds bytes)))
IsJudged bytes judged.Bad = NeverHasHead bytes × (NeverHasRequest bytes ⊎ ((66 ≤ feeds bytes) × HasNoHead bytes))
IsJudged bytes (judged.Memory is_head) = (tree : RequestHead) × (rest : List ℕ) × ReadsHead bytes tree rest × (is_head ≡ bytes_eq tree.method (codes "HEAD"))

-- what a turn of the reader gives: an answer, or more bytes kept
abbrev pub Turns : List ℕ → List ℕ → Bool → Option HeadRead → Type 0
Turns bytes kept ended (Some read) = Gives bytes kept ended read
Turns bytes kept ended None = kept ≡ bytes

-- a turn finds the first request, or goes on
abbrev pub Finds : Option HeadRead → Type 0
Finds (Some read) = IsFound read
Finds None = Unit {0}
