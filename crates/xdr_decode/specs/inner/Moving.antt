-- How a place goes on behind a field.
use Rattle.std.specs.Prelude.{◌≡◌, ℕ, List, ◌∷◌, ◌++◌, Some}
use Rattle.dap_types.specs.Model.{Member, Members}
use Rattle.dap_model.specs.Xdr.{Field}
use Rattle.xdr_fields.specs.Wants.{Want, Goes, becomes}
use Rattle.xdr_decode.specs.inner.Asked.{Is}
use Rattle.xdr_decode.specs.inner.Places.{IsPlaced, IsStageOr, Spot, spot_at, stage_wants, text_wants, wants_left}
use Rattle.xdr_decode.specs.declared.field.Token.{Token}
use Rattle.xdr_decode.specs.declared.field.Token.TheVariants as token
use Rattle.xdr_decode.specs.declared.place.Place.{Place}
use Rattle.xdr_decode.specs.declared.place.Stage.{Stage}
use Rattle.xdr_decode.specs.declared.place.Text.{Text}
use Rattle.xdr_decode.specs.declared.place.Text.TheVariants as text

-- behind a length come the bytes of a string
abbrev pub string_behind : Token → Text
string_behind (token.Size n) = text.Bytes n n
string_behind t = text.Nothing

-- how many bytes of rows a token has
abbrev pub mark_bytes : Token → ℕ
mark_bytes token.Row = 4
mark_bytes t = 0

-- from one stage of a variable to the next: what is still to come of it
abbrev pub Moves : List ℕ → Member → Stage → Token → Stage → Type 0
Moves above m old t new = (w : Want) (ws : List Want) (f : Field) → stage_wants above m old ≡ w ∷ ws → Goes w f → Is t f →
    (text_wants (string_behind t) ++ stage_wants above m new ≡ becomes w f ++ ws) × IsStageOr m new

-- the variable at a place is at this stage
abbrev pub IsSettled : Members → Place → Stage → Place → Type 0
IsSettled ms old s new = (at : Spot) → spot_at ms old ≡ Some at → IsStageOr at.leaf s →
    (wants_left ms new ≡ text_wants old.text ++ (stage_wants at.above at.leaf s ++ at.behind)) × IsPlaced ms new
