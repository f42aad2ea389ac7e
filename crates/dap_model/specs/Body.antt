-- A data response (DAP 2.0, DODS): the DDS, a line `Data:`, and the values.
use Rattle.std.specs.Prelude.{◌≡◌, ℕ, ◌<◌, ◌≤◌, ◌⊎◌, List, ◌++◌, length, nat_lt, if◌then◌else◌, Option, Some, codes}
use Rattle.std.specs.List.{AllPass, position_from}
use Rattle.dap_types.specs.Limits.{body_limit, most_elements, most_text}
use Rattle.dap_types.specs.Model.{Dataset, Tree}
use Rattle.dap_types.specs.WellFormed.{elements_of, leaves_of}
use Rattle.dap_model.specs.Dds.{dds}
use Rattle.dap_model.specs.Grammar.{DdsOf}
use Rattle.dap_model.specs.Tokens.{is_white}
use Rattle.dap_model.specs.Xdr.{xdr, Spells}

-- as it is sent
abbrev pub body : Dataset → List Tree → List ℕ
body d ts = dds d ++ codes "Data:\n" ++ xdr d ts

-- Why a dataset is not sent, which is this project's: 0 where its DDS is too long, else the number of
-- the first leaf with too many elements, among the leaves in order
abbrev pub too_large : Dataset → Option ℕ
too_large d =
    if nat_lt most_text (length (dds d)) then Some 0
    else position_from (λ leaf. nat_lt most_elements (elements_of leaf.1)) 1 (leaves_of d)

-- what stands before the values, as it is read: white space may stand before `Data:`, and a carriage
-- return behind it. The limit is this project's
pub record IsHead (bs : List ℕ) (d : Dataset) : Type 0 where
  pub text : List ℕ
  pub white : List ℕ
  pub end : List ℕ
  pub parts : bs ≡ text ++ white ++ codes "Data:" ++ end
  pub is_text : DdsOf text d
  pub is_white : AllPass is_white white
  pub is_end : (end ≡ codes "\n") ⊎ (end ≡ codes "\r\n")
  pub text_limit : length text ≤ most_text

-- a whole response, as it is read. The limit is this project's
pub record IsBody (bs : List ℕ) (d : Dataset) (ts : List Tree) : Type 0 where
  pub head : List ℕ
  pub values : List ℕ
  pub parts : bs ≡ head ++ values
  pub is_head : IsHead head d
  pub is_values : Spells d ts values
  pub limit : length bs < body_limit
