-- A front of an Error object, in pieces.
use Rattle.std.specs.Prelude.{◌≡◌, ℕ, ◌≤◌, ◌<◌, ⊤, Bool, true, false, List, ◌∷◌, ◌++◌, length, drop, IsTrue}
use Rattle.std.specs.List.{list_all}
use Rattle.text_tokens.specs.Tokens.{is_white}
use Rattle.dap_errors.specs.Reading.{ObjectEndsAt, IsBad, limit}
use Rattle.dap_errors.specs.declared.object.ErrorObject.{ErrorObject}
use Rattle.dap_client.specs.declared.object.Object.{Object}
use Rattle.dap_client.specs.declared.object.Object.TheVariants.{Front, Behind, Bad}

-- white space, and a semicolon among it where one came
abbrev pub IsTrail : Bool → List ℕ → Type 0
IsTrail false bytes = IsTrue (list_all is_white bytes)
IsTrail true bytes = (before after : List ℕ) × IsTrue (list_all is_white before) × IsTrue (list_all is_white after) × (bytes ≡ before ++ 59 ∷ after)

-- an object ended within the limit, which is reached
pub record IsBehind (bytes : List ℕ) (object : ErrorObject) (semicolon : Bool) : Type 0 where
  pub behind : ℕ
  pub within : behind ≤ length bytes
  pub long : limit ≤ length bytes
  pub ends : ObjectEndsAt bytes behind object
  pub trail : IsTrail semicolon (drop behind bytes)

-- what it says apart from any bytes: a front is shorter than the limit
abbrev pub IsShort : Object → Type 0
IsShort (Front front) = length front.items < limit
IsShort object = ⊤

abbrev pub IsObjectOf : List ℕ → Object → Type 0
IsObjectOf bytes (Front front) = (front.items ≡ bytes) × (length bytes < limit)
IsObjectOf bytes (Behind object semicolon) = IsBehind bytes object semicolon
IsObjectOf bytes (Bad place) = (more : List ℕ) → IsBad (bytes ++ more) place
