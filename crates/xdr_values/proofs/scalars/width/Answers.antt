use Rattle.std.proofs.Common.{subst}
use Rattle.xdr_values.proofs.Values.{is_text, long_eight, long_four, long_text}
use Rattle.xdr_values.specs.Walked.{IsValue}
use Rattle.xdr_values.proofs.scalars.width.Goals as goal

pub returns-in-Text : goal.returns-in-Text
returns-in-Text c = λ v own rest is parts. long_text c.args.base v own c.args.bytes.now rest c.string_width.result (is_text c.args.base c.in-Text.is) is parts c.string_width.ensures

pub returns-in-Float64 : goal.returns-in-Float64
returns-in-Float64 c = λ v own rest is parts. long_eight v own (subst (λ b. IsValue b v own) c.in-Float64.is is)

pub returns-in_default : goal.returns-in_default
returns-in_default c = λ v own rest is parts. long_four c.args.base v own c.in_default.not-Text c.in_default.not-Url c.in_default.not-Float64 is
