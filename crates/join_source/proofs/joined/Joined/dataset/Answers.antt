use Rattle.std.proofs.Common.{slice_index_or, ap, ◌∙◌, sym}
use Rattle.plain_lemmas.proofs.Options.{if_ok-map}
use Rattle.netcdf_source.specs.Mapping.{dataset_of, with_records}
use Rattle.join_source.proofs.First.{first-is}
use Rattle.join_source.specs.Members.{all_records, contents_of, first_of, joined_contents}
use Rattle.join_source.proofs.joined.Joined.dataset.Goals as goal

pub returns-clause-joined : goal.returns-clause-joined
unfolding joined_contents
returns-clause-joined c =
    let j = c.args.self.now in
    if_ok-map c.dataset_with.result (λ d e.
    e ∙ ap (λ h. dataset_of (with_records j.records h.contents) c.bytes.result.now) (c.index-items-0.is ∙ ap (λ hs. slice_index_or hs 0 c.index-items-0.result) c.items.ensures)
    ∙ ap (λ c0. dataset_of (with_records j.records c0) c.bytes.result.now) (sym (first-is j.headers c.index-items-0.result j.some))
    ∙ ap (λ n. dataset_of (with_records n (first_of (contents_of j.headers))) c.bytes.result.now) j.sum
    ∙ ap (dataset_of (with_records (all_records (contents_of j.headers)) (first_of (contents_of j.headers)))) c.bytes.ensures) c.dataset_with.ensures.mapped
