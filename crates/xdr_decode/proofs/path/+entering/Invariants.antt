use Rattle.std.proofs.Common.{◌≡◌, ◌+◌, ◌<◌, ◌^◌, ℕ, List, length, drop}
use Rattle.dap_types.specs.View.{members_view}
use Rattle.xdr_fields.specs.Wants.{wants_all}
use Rattle.xdr_decode.specs.inner.Places.{HaveRoom}
use Rattle.xdr_decode.proofs.path.+entering.Given as goal

-- none before has values
abbrev pub invariant-enter_first-loop-at : goal.invariant-enter_first-loop-at
invariant-enter_first-loop-at l = HaveRoom (length l.fn.path.items) (members_view l.decls) → l.fn.from + length l.decls < 2 ^ 32 → record {
  same : l.path.items ≡ l.fn.path.items;
  empty : (above : List ℕ) → wants_all above (members_view l.decls) ≡ wants_all above (members_view (drop l.at l.decls));
}
