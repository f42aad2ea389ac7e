use Rattle.std.proofs.Common.{◌≡◌, ◌++◌, ◌+◌, ◌*◌, ◌%◌, ◌^◌, ap, sym, ◌∙◌, append-nil, append_assoc}
use Rattle.soak.specs.File.{bytes_at, header, state, value_bytes, values}
use Rattle.soak.proofs.Values.{state-more, state-none, values-more, values-none}
use Rattle.soak.proofs.file.soak_file.Goals as goal

pub loop-value-init : goal.loop-value-init
loop-value-init c = record {
  so_far = c.in_ok-bytes.ensures ∙ sym (append-nil (header c.args.records)) ∙ ap (λ xs. header c.args.records ++ xs) (sym (values-none c.args.start));
  steps = sym (state-none c.args.start);
}

pub loop-value-preserved : goal.loop-value-preserved
loop-value-preserved c =
    let k = c.loop-value.value in
    let front = header c.args.records in
    let steps : c.next-state.result ≡ state c.args.start (k + 1) =
    c.next-state.ensures ∙ ap (λ x. (6364136223846793005 * x + 1442695040888963407) % 2 ^ 64) c.loop-value.invariant.steps ∙ sym (state-more c.args.start k) in
    record {
      so_far = c.in_ok-push_value.ensures
          ∙ ap (λ xs. xs ++ bytes_at (k % 2048) c.next-state.result) c.loop-value.invariant.so_far
          ∙ ap (λ x. (front ++ values c.args.start k) ++ bytes_at (k % 2048) x) steps
          ∙ append_assoc front (values c.args.start k) (value_bytes c.args.start k)
          ∙ ap (λ xs. front ++ xs) (sym (values-more c.args.start k));
      steps = steps;
    }
