-- Numbers of an array that stand one after the other, and what is said of a piece of which nothing is put.
use Rattle.std.specs.Prelude.{◌≡◌, ℕ, ◌+◌, ◌*◌, ◌-◌, ◌≤◌, List, [], ◌++◌, length, All, None, Ok, ⊤}
use Rattle.dap_types.specs.declared.declarations.BaseType.{BaseType}
use Rattle.dap_types.specs.declared.declarations.BaseType.TheVariants.{Int16, UInt16}
use Rattle.dap_types.specs.declared.values.Value.{Value}
use Rattle.dap_model.specs.Fits.{IsOf}
use Rattle.dap_model.specs.Laws.{element_width}
use Rattle.xdr_fields.specs.Wants.{Want, elements_left}
use Rattle.xdr_decode.specs.inner.Taken.{Spelt, element_want, elements_fields}
use Rattle.xdr_decode.specs.inner.Turning.{IsGoneThrough, Turns}
use Rattle.xdr_decode.specs.declared.decoder.Decoder.{Decoder}
use Rattle.xdr_decode.specs.declared.decoder.Pushed.{Pushed}
use Rattle.xdr_decode.specs.declared.next_field.Turn.{Turn}
use Rattle.xdr_decode.specs.declared.place.Place.{Place}
use Rattle.xdr_decode.specs.declared.place.Stage.TheVariants as stage
use Rattle.xdr_decode.specs.declared.place.Text.TheVariants as text

-- so many numbers of a type stand at the front of some bytes, and the rest behind them
pub record Begins (base : BaseType) (n : ℕ) (bytes rest : List ℕ) : Type 0 where
  pub values : List Value
  pub are_many : length values ≡ n
  pub are_of : All (IsOf base) values
  pub spelt : Spelt (elements_fields base values) bytes rest
  pub long : length bytes ≡ n * element_width base + length rest

-- an integer of 16 bits, of which not every word is one
abbrev pub IsShort : BaseType → Type 0
IsShort Int16 = ⊤
IsShort UInt16 = ⊤
IsShort base = ⊥

-- so many elements of a type come first
pub record AreElements (base : BaseType) (n : ℕ) (wants : List Want) : Type 0 where
  pub path : List ℕ
  pub sizes : List ℕ
  pub at : ℕ
  pub behind : List Want
  pub parts : wants ≡ elements_left (element_want base) path sizes at n ++ behind

-- a reader stands before an element of an array, and so many come at least
pub record HasElements (p : Place) (n : ℕ) : Type 0 where
  pub at : ℕ
  pub count : ℕ
  pub is_stage : p.stage ≡ stage.Elements at count
  pub no_text : p.text ≡ text.Nothing
  pub within : n ≤ count - at

-- where a look at what comes next, and at a whole piece, leaves a decoder: as a turn and a reading do, over
-- a sink that tells nothing
abbrev pub Looks : Decoder → List ℕ → List ℕ → List ℕ → Turn → Type 0
Looks r rest bytes put turn = Turns None [] None [] r rest bytes put (Ok turn)

abbrev pub Sees : Decoder → List ℕ → List ℕ → List ℕ → Pushed → Type 0
Sees r piece bytes put pushed = IsGoneThrough None [] None [] r piece bytes put (Ok pushed)
