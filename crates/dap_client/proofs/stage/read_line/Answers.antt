use Rattle.std.proofs.Common.{arith, ◌^◌, ◌+◌, ◌++◌, [], take, refl, sym, subst}
use Rattle.std.proofs.KnownBytes.{Appends-nil}
use Rattle.dap_client.proofs.DdsBodies.{piece_parts}
use Rattle.dap_types.specs.View.{dataset_view}
use Rattle.dap_client.proofs.Lines.{differs_within, line_head, line_on, line_refused}
use Rattle.dap_client.proofs.Values.{slice_small, taken_front}
use Rattle.error_word.specs.inner.FirstWords.{IsNoError}
use Rattle.dap_client.specs.inner.Stages.{IsStage, Moves}
use Rattle.dap_client.proofs.stage.read_line.Goals as goal

pub returns-in-On-clause-stage : goal.returns-in-On-clause-stage
returns-in-On-clause-stage g c bytes long none o =
    ([], Appends-nil (g.O.Sink.written c.args.out.now), (none, line_on (dataset_view c.args.dataset) c.args.line c.in-On.line bytes c.args.piece.now o (c.in-On.ensures o.rest o.is_front), refl))

pub returns-in-Ended-clause-stage : goal.returns-in-Ended-clause-stage
returns-in-Ended-clause-stage g c bytes long none o =
    let used = c.in-Ended.used in
    let piece = c.args.piece.now in
    let (le, line) = c.in-Ended.ensures o.rest o.is_front in
    let same = piece_parts bytes piece used le in
    subst (λ l. Moves (g.O.Sink.written c.args.out.now) (g.O.Sink.written c.begin_values.new.out) l [] c.begin_values.result) same
    (c.begin_values.ensures.stage (bytes ++ take used piece) (taken_front bytes piece c.args.place used long le) (subst IsNoError (sym same) none)
    (line_head (dataset_view c.args.dataset) c.args.line bytes (take used piece) o line))

pub returns-in-Differs-clause-stage : goal.returns-in-Differs-clause-stage
returns-in-Differs-clause-stage g c bytes long none o = (
  [],
  Appends-nil (g.O.Sink.written c.args.out.now),
  subst (λ s. IsStage s (bytes ++ c.args.piece.now) []) (sym c.refused.ensures)
      (line_refused (dataset_view c.args.dataset) c.args.line bytes c.args.piece.now c.args.place c.in-Differs.at o long none (c.in-Differs.ensures o.rest o.is_front)),
)

pub begin_values-requires-clause-stands : goal.begin_values-requires-clause-stands
begin_values-requires-clause-stands g c =
    let used = c.in-Ended.used in
    let piece = c.args.piece.now in
    let (bytes, long, o) = c.requires.stands in
    let (le, line) = c.in-Ended.ensures o.rest o.is_front in
    (bytes ++ take used piece, taken_front bytes piece c.args.place used long le, line_head (dataset_view c.args.dataset) c.args.line bytes (take used piece) o line, o.well_formed)

pub overflow_add-place : goal.overflow_add-place
overflow_add-place g c =
    let (bytes, long, o) = c.requires.stands in
    let (le, line) = c.in-Ended.ensures o.rest o.is_front in omega (arith, le, c.requires.small)

pub slice_bounds-begin_values-count : goal.slice_bounds-begin_values-count
slice_bounds-begin_values-count g c =
    let (bytes, long, o) = c.requires.stands in
    let (le, line) = c.in-Ended.ensures o.rest o.is_front in omega (arith, le)

pub slice_bounds-begin_values-start : goal.slice_bounds-begin_values-start
slice_bounds-begin_values-start g c =
    let (bytes, long, o) = c.requires.stands in
    let (le, line) = c.in-Ended.ensures o.rest o.is_front in omega (arith, le)

pub begin_values-requires-clause-small : goal.begin_values-requires-clause-small
begin_values-requires-clause-small g c =
    let (bytes, long, o) = c.requires.stands in
    let (le, line) = c.in-Ended.ensures o.rest o.is_front in slice_small c.args.piece.now c.args.place c.in-Ended.used (2 ^ 63) le c.requires.small

pub overflow_add-place-in-Differs : goal.overflow_add-place-in-Differs
overflow_add-place-in-Differs g c =
    let (bytes, long, o) = c.requires.stands in
    let less = differs_within o.rest c.args.piece.now c.in-Differs.at (c.in-Differs.ensures o.rest o.is_front) in omega (arith, less, c.requires.small)
