use Rattle.das_text.proofs.SameTokens as same
use Rattle.das_text.proofs.dds_tokens.dds_tokens_agree.Goals as goal

pub returns : goal.returns
returns c = record { next = same.next_agrees; all = same.tokens_agree }
