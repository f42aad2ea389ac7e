-- What the reader's answers say of the whole text.
use Rattle.std.proofs.Common.{◌≡◌, ℕ, ◌+◌, ◌≤◌, List, length, drop, refl, arith, inl, inr, length-take}
use Rattle.text_tokens.proofs.Machines as machines
use Rattle.dap_errors.specs.Object.{signs, IsObject}
use Rattle.dap_errors.specs.inner.Machine.{Start, Ended, step, IsOpenState}
use Rattle.dap_errors.specs.Reading.{front, limit, ObjectEndsAt, IsEnd, IsStray, IsUnended, ErrorOf, IsBad}
use Rattle.dap_errors.specs.inner.Standing.{StandsAt, StopsAt}
use Rattle.dap_errors.specs.declared.object.ErrorObject.{ErrorObject}
use Rattle.dap_errors.specs.declared.object.Stop.TheVariants.{Bad, End}
use Rattle.dap_errors.proofs.Live.{machine}

ends_at : (text : List ℕ) (error : ErrorObject) (behind : ℕ) → StandsAt (front text) behind (Ended error) → ObjectEndsAt text behind error
ends_at text error behind st = machines.spells_of signs IsObject step Start Ended IsOpenState machine (front text) behind error st

pub object_of : (text : List ℕ) (error : ErrorObject) (behind : ℕ) → StandsAt (front text) behind (Ended error) → IsEnd (drop behind text) → ErrorOf text error
object_of text error behind st end = record { behind = behind; ends = ends_at text error behind st; end = end }

pub stray_of : (text : List ℕ) (error : ErrorObject) (behind place : ℕ) → StandsAt (front text) behind (Ended error) → (count : ℕ) × IsStray (drop behind text) count × (place ≡ behind + count) → IsBad text place
stray_of text error behind place st (count, stray, is) = inr (inl (record { behind = behind; error = error; count = count; ends = ends_at text error behind st; stray = stray; place_is = is }))

pub bad_of : (text : List ℕ) (place : ℕ) → StopsAt (front text) (Bad place) → IsBad text place
bad_of text place s = inl (machines.bad_of signs IsObject step Start Ended IsOpenState machine (front text) place s)

pub unended_of : (text : List ℕ) → StopsAt (front text) End → IsUnended text
unended_of text s = machines.breaks_of signs IsObject step Start Ended IsOpenState machine (front text) s

pub long_of : (text : List ℕ) → StopsAt (front text) End → limit ≤ length text → IsBad text limit
long_of text s le = inr (inr (unended_of text s, le, refl))

pub front_within : (text : List ℕ) (behind : ℕ) → behind ≤ length (front text) → behind ≤ length text
front_within text behind le = omega (arith, le, length-take 65536 text)
