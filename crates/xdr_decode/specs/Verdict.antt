-- How the client judges a data response (DAP 2.0, DODS; RFC 4506 for the fields): a DDS, the line
-- `Data:` and the values. The first thing that is wrong decides, with its kind and its place, which are
-- this project's, as is the limit. An Error object is a DDS that is bad at its first word.
use Rattle.std.specs.Prelude.{◌≡◌, ℕ, ◌+◌, ◌<◌, ◌≤◌, ◌⊎◌, List, ◌∷◌, ◌++◌, length, take, codes, Result, Ok, Err, ⊤, map}
use Rattle.std.specs.List.{AllPass}
use Rattle.dap_types.specs.Limits.{body_limit, most_text}
use Rattle.dap_types.specs.Model.{Dataset, Tree}
use Rattle.dap_types.specs.View.{dataset_view, tree_view}
use Rattle.dap_model.specs.Body.{IsBody, IsHead}
use Rattle.dap_model.specs.Grammar.{DdsOf}
use Rattle.dap_model.specs.Received.{Fault, bad_count, bad_word, bad_padding, wrong_mark, IsBadField, IsOpen}
use Rattle.dap_model.specs.Tokens.{is_white}
use Rattle.dap_model.specs.Xdr.{Spells}
use Rattle.dds_text.specs.Reading.{IsBadText, IsUnfinished}
use Rattle.reply_faults.specs.declared.bad.Bad.{Bad}
use Rattle.reply_faults.specs.declared.bad.Bad.TheVariants.{BadDds, BadDataLine, BadCount, BadWord, BadPadding, WrongMark, Cut, Trailing, TooLong}
use Rattle.xdr_decode.specs.declared.filled.AllRefusal.{AllRefusal}
use Rattle.xdr_decode.specs.declared.filled.AllRefusal.TheVariants.{Refused, Memory}
use Rattle.xdr_decode.specs.declared.filled.Filled.{Filled}

-- a body has fewer bytes
unfoldable pub budget : ℕ
budget = body_limit

-- the kind of a bad field
abbrev pub kind_of : Fault → Bad
kind_of bad_count = BadCount
kind_of bad_word = BadWord
kind_of bad_padding = BadPadding
kind_of wrong_mark = WrongMark

-- behind whole values, which end at a place, stands another byte
pub record HasMore (d : Dataset) (values : List ℕ) (place : ℕ) : Type 0 where
  pub trees : List Tree
  pub whole : List ℕ
  pub next : ℕ
  pub rest : List ℕ
  pub parts : values ≡ whole ++ next ∷ rest
  pub spelled : Spells d trees whole
  pub is_place : place ≡ length whole

-- what is wrong with the values of a dataset, and where
abbrev pub IsWrong : Dataset → List ℕ → Bad → ℕ → Type 0
IsWrong d values kind place =
    ((fault : Fault) × IsBadField d values fault place × (kind ≡ kind_of fault))
    ⊎ (HasMore d values place × (kind ≡ Trailing)
    ⊎ (IsOpen d values × (place ≡ length values) × (kind ≡ Cut)))

-- what stands between a DDS and the values: white space may stand before `Data:`, and a carriage return
-- behind it
pub record IsDataLine (line : List ℕ) : Type 0 where
  pub white : List ℕ
  pub end : List ℕ
  pub parts : line ≡ white ++ (codes "Data:" ++ end)
  pub is_white : AllPass is_white white
  pub is_end : (end ≡ codes "\n") ⊎ (end ≡ codes "\r\n")

-- the bytes end inside such a line
abbrev pub EndsInDataLine : List ℕ → Type 0
EndsInDataLine bytes = (next : ℕ) × (more : List ℕ) × IsDataLine (bytes ++ next ∷ more)

-- the first byte with which they begin none
pub record IsBadDataLine (bytes : List ℕ) (place : ℕ) : Type 0 where
  pub front : List ℕ
  pub next : ℕ
  pub rest : List ℕ
  pub parts : bytes ≡ front ++ next ∷ rest
  pub begun : EndsInDataLine front
  pub bad : (more : List ℕ) → ¬ (IsDataLine (front ++ next ∷ more))
  pub is_place : place ≡ length front

-- the text of a dataset, and what stands behind it
pub record HasText (bytes : List ℕ) (d : Dataset) (text rest : List ℕ) : Type 0 where
  pub parts : bytes ≡ text ++ rest
  pub is_text : DdsOf text d
  pub text_limit : length text ≤ most_text

-- the text of a dataset and the line behind it, and the values
abbrev pub HasHeadOf : List ℕ → Dataset → List ℕ → List ℕ → Type 0
HasHeadOf bytes d head values = IsHead head d × (bytes ≡ head ++ values)

-- the line behind the DDS is bad
abbrev pub IsBadLine : List ℕ → ℕ → Type 0
IsBadLine bytes place = (d : Dataset) × (text : List ℕ) × (rest : List ℕ) × (at : ℕ) × HasText bytes d text rest × IsBadDataLine rest at × (place ≡ length text + at)

-- the bytes end inside the DDS, or inside the line behind it
abbrev pub EndsInHead : List ℕ → Type 0
EndsInHead bytes = IsUnfinished bytes ⊎ ((d : Dataset) × (text : List ℕ) × (rest : List ℕ) × HasText bytes d text rest × EndsInDataLine rest)

-- the values are wrong
abbrev pub HasWrongValues : List ℕ → Bad → ℕ → Type 0
HasWrongValues bytes kind place = (d : Dataset) × (head : List ℕ) × (values : List ℕ) × (at : ℕ) × HasHeadOf bytes d head values × IsWrong d values kind at × (place ≡ length head + at)

-- what is wrong with the bytes, however many they are
abbrev pub IsWrongIn : List ℕ → Bad → ℕ → Type 0
IsWrongIn bytes kind place =
    (IsBadText bytes place × (kind ≡ BadDds))
    ⊎ ((IsBadLine bytes place × (kind ≡ BadDataLine))
    ⊎ ((EndsInHead bytes × (place ≡ length bytes) × (kind ≡ Cut))
    ⊎ HasWrongValues bytes kind place))

-- a head, and a spelling of trees of its dataset
abbrev pub IsGood : List ℕ → Dataset → List Tree → Type 0
IsGood bytes d ts = (head : List ℕ) × (values : List ℕ) × HasHeadOf bytes d head values × Spells d ts values

pub data Verdict : Type 0 where
  -- a whole body of the dataset and its trees
  good : Dataset → List Tree → Verdict
  -- what is wrong, and the number of bytes before it
  wrong : Bad → ℕ → Verdict

-- there are as many bytes as the budget, and nothing in them is wrong
abbrev pub IsTooLong : List ℕ → Type 0
IsTooLong bytes =
    (budget ≤ length bytes)
    × (((d : Dataset) × (ts : List Tree) × IsGood (take budget bytes) d ts) ⊎ ((place : ℕ) × IsWrongIn (take budget bytes) Cut place))

-- what is wrong with a body: of more bytes than the budget only so many are looked at
abbrev pub IsBadBody : List ℕ → Bad → ℕ → Type 0
IsBadBody bytes kind place =
    (IsWrongIn (take budget bytes) kind place × ((length bytes < budget) ⊎ (¬ (kind ≡ Cut))))
    ⊎ (IsTooLong bytes × (kind ≡ TooLong) × (place ≡ budget))

-- the verdict on a body
abbrev pub IsVerdict : List ℕ → Verdict → Type 0
IsVerdict bytes (good d ts) = IsBody bytes d ts
IsVerdict bytes (wrong kind place) = IsBadBody bytes kind place

-- a dataset and its values, as the verdict on a body
abbrev pub good_of : Filled → Verdict
good_of f = good (dataset_view f.dataset) (map tree_view f.values)

-- a refusal is the verdict. Want of memory says nothing
abbrev pub IsRefusal : List ℕ → AllRefusal → Type 0
IsRefusal bytes (Refused b) = IsVerdict bytes (wrong b.kind b.place)
IsRefusal bytes Memory = ⊤

-- the answer gives that verdict, or memory was wanted
abbrev pub Gives : Result Filled AllRefusal → Verdict → Type 0
Gives (Ok f) v = v ≡ good_of f
Gives (Err (Refused b)) v = v ≡ wrong b.kind b.place
Gives (Err Memory) v = ⊤
