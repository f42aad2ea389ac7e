use Rattle.dap_model.specs.Xdr.{bytes_of}
use Rattle.xdr_decode.specs.inner.Taken.{elements_fields}
use Rattle.xdr_values.proofs.ElementRuns.{elements_wide}
use Rattle.xdr_values.proofs.elements.behind.Goals as goal

pub returns-in_default : goal.returns-in_default
returns-in_default c = λ vs rest long small st.
    c.behind_bytes.ensures (bytes_of (elements_fields c.args.base vs)) rest (elements_wide c.args.base vs c.args.count c.width.result c.saturating_mul.result c.in_default.not-Text c.in_default.not-Url st.are_of long small c.width.ensures c.saturating_mul.ensures) st.parts
