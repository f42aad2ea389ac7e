-- What a text is to a reader of Error objects: an object, cut, or bad at a place. The object stands in
-- the first 65,536 bytes, this project's limit.
use Rattle.std.specs.Prelude.{◌≡◌, ◌≢◌, ◌⊎◌, ℕ, ◌+◌, ◌<◌, ◌≤◌, not, List, ◌∷◌, ◌++◌, length, take, drop, IsTrue}
use Rattle.std.specs.List.{list_all}
use Rattle.text_tokens.specs.Languages.{SpellsTo, BadToken, Breaks}
use Rattle.text_tokens.specs.Tokens.{is_white}
use Rattle.dap_errors.specs.Object.{signs, IsObject}
use Rattle.dap_errors.specs.declared.object.ErrorObject.{ErrorObject}
use Rattle.dap_types.specs.Limits.{most_error}
use Rattle.viable.specs.Characters.{byte}

abbrev pub limit : ℕ
limit = most_error

abbrev pub front : List ℕ → List ℕ
front text = take limit text

-- behind the object: white space, and at most one semicolon
abbrev pub IsEnd : List ℕ → Type 0
IsEnd bytes =
    IsTrue (list_all is_white bytes)
    ⊎ ((before after : List ℕ) × IsTrue (list_all is_white before) × IsTrue (list_all is_white after) × (bytes ≡ before ++ byte ";" ∷ after))

-- behind the object: the first byte that may not stand there comes behind so many others
abbrev pub IsStray : List ℕ → ℕ → Type 0
IsStray bytes n = (trail rest : List ℕ) × (b : ℕ) × (bytes ≡ trail ++ b ∷ rest) × (n ≡ length trail) × IsTrue (not (is_white b))
    × ((IsTrue (list_all is_white trail) × (b ≢ byte ";"))
    ⊎ ((before after : List ℕ) × IsTrue (list_all is_white before) × IsTrue (list_all is_white after) × (trail ≡ before ++ byte ";" ∷ after)))

-- an object of this code and message ends at a place
abbrev pub ObjectEndsAt : List ℕ → ℕ → ErrorObject → Type 0
ObjectEndsAt bytes behind error = SpellsTo signs IsObject (front bytes) behind error

-- the text is an Error object of this code and message
pub record ErrorOf (bytes : List ℕ) (error : ErrorObject) : Type 0 where
  pub behind : ℕ
  pub ends : ObjectEndsAt bytes behind error
  pub end : IsEnd (drop behind bytes)

-- the first byte behind an Error object that may not stand there
pub record BadEnd (bytes : List ℕ) (place : ℕ) : Type 0 where
  pub behind : ℕ
  pub error : ErrorObject
  pub count : ℕ
  pub ends : ObjectEndsAt bytes behind error
  pub stray : IsStray (drop behind bytes) count
  pub place_is : place ≡ behind + count

-- the whole tokens within the limit begin an Error object and do not end it
abbrev pub IsUnended : List ℕ → Type 0
IsUnended bytes = Breaks signs IsObject (front bytes)

-- the text is bad at this place: behind the token there no Error object goes on, or the byte there may not stand
-- behind one, or no object ends within the limit
abbrev pub IsBad : List ℕ → ℕ → Type 0
IsBad bytes place = BadToken signs IsObject (front bytes) place ⊎ BadEnd bytes place ⊎ (IsUnended bytes × (limit ≤ length bytes) × (place ≡ limit))

-- the text ends within an Error object
abbrev pub IsCut : List ℕ → Type 0
IsCut bytes = IsUnended bytes × (length bytes < limit)
