-- How much of the first token of a DDS some bytes have.
use Rattle.std.specs.Prelude.{◌≡◌, ℕ, List, [], ◌++◌}
use Rattle.dap_model.specs.Tokens.{tokens_of}
use Rattle.dds_text.specs.inner.Words.{left}
use Rattle.dap_client.specs.declared.opening.Opening.{Opening}
use Rattle.dap_client.specs.declared.opening.Opening.TheVariants.{White, Word, Whole}

-- none; the front of a word; or a whole token, whatever follows
abbrev pub IsOpening : Opening → List ℕ → Type 0
IsOpening White bytes = (tokens_of bytes ≡ []) × (left bytes ≡ [])
IsOpening Word bytes = (tokens_of bytes ≡ []) × ¬ (left bytes ≡ [])
IsOpening Whole bytes = (more : List ℕ) → ¬ (tokens_of (bytes ++ more) ≡ [])
