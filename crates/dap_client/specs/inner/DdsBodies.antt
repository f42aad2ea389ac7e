-- A front of the body of a DDS, in pieces.
use Rattle.std.specs.Prelude.{◌≡◌, ℕ, ◌<◌, false, List, ◌++◌, length, take, get_or}
use Rattle.std.specs.List.{AllPass}
use Rattle.dap_types.specs.View.{dataset_view}
use Rattle.dap_model.specs.Tokens.{is_white}
use Rattle.dds_text.specs.Reading.{IsUnfinished}
use Rattle.dap_client.specs.Verdict.{JudgesDds, bad, good_dds}
use Rattle.dap_client.specs.declared.dds_body.DdsBody.{DdsBody}
use Rattle.dap_client.specs.declared.dds_body.DdsBody.TheVariants.{Text, White, Wrong}
use Rattle.dap_client.specs.inner.Stages.{HadAll}

-- the text goes on; or it ended and white space came; or this is wrong, whatever follows
abbrev pub IsDdsBody : List ℕ → DdsBody → Type 0
IsDdsBody bytes (Text reader) = HadAll reader bytes × IsUnfinished bytes
IsDdsBody bytes (White dataset) = JudgesDds bytes (good_dds (dataset_view dataset))
IsDdsBody bytes (Wrong field) = (more : List ℕ) → JudgesDds (bytes ++ more) (bad field.kind field.place)

-- the first byte other than white space
pub record IsFirstOther (piece : List ℕ) (at : ℕ) : Type 0 where
  pub within : at < length piece
  pub white : AllPass is_white (take at piece)
  pub other : is_white (get_or piece at 0) ≡ false
