-- What may be shown of a body that was refused, or of which no more was read or put.
use Rattle.std.proofs.Common.{ℕ, inl, inr, List, [], ◌++◌, refl, sym, ap, ◌∙◌, append_assoc, append-nil}
use Rattle.plain_lemmas.proofs.Lists.{none_in_front}
use Rattle.dap_model.specs.Dds.{dds}
use Rattle.dap_model.specs.Partly.{MayShowPart, ShowsLines, ShowsPart}
use Rattle.dap_model.specs.Received.{HasHead, IsPrefix, MayShow}

-- a front of a front
pub prefix_of : (xs ys zs : List ℕ) → IsPrefix xs ys → IsPrefix ys zs → IsPrefix xs zs
prefix_of xs ys zs (r, a) (s, b) = (r ++ s, b ∙ ap (λ l. l ++ s) a ∙ append_assoc xs r s)

part_lines : (good out : List ℕ) → MayShowPart good out → (text : List ℕ) × ShowsLines good text × IsPrefix out text
part_lines good out p =
    let text : List ℕ = dds p.dataset ++ p.whole ++ p.more in
    let all : MayShow good text = record {
      head = p.head;
      dataset = p.dataset;
      values = p.values;
      whole = p.whole;
      more = p.more;
      parts = p.parts;
      is_head = p.is_head;
      is_front = p.is_front;
      begins = (p.more, refl);
      within = ([], sym (append-nil text));
    } in
    (text, inl all, p.within)

pub part_is_of_lines : (good out : List ℕ) →
    (ShowsPart good out → (text : List ℕ) × ShowsLines good text × IsPrefix out text)
    × ((text : List ℕ) → ShowsLines good text → IsPrefix out text → ShowsPart good out)
part_is_of_lines good out = (there, back)
  where
    there : ShowsPart good out → (text : List ℕ) × ShowsLines good text × IsPrefix out text
    there (inl part) = part_lines good out part
    there (inr nothing) = (out, inr nothing, ([], sym (append-nil out)))

    back : (text : List ℕ) → ShowsLines good text → IsPrefix out text → ShowsPart good out
    back text (inl all) front = inl (record {
      head = all.head;
      dataset = all.dataset;
      values = all.values;
      whole = all.whole;
      more = all.more;
      parts = all.parts;
      is_head = all.is_head;
      is_front = all.is_front;
      within = prefix_of out text (dds all.dataset ++ all.whole ++ all.more) front all.within;
    })
    back text (inr (none, empty)) (rest, is) = inr (none, none_in_front out rest (sym is ∙ empty))

pub nothing_without_head : (good out : List ℕ) → (MayShow good out → HasHead good) × (MayShowPart good out → HasHead good)
nothing_without_head good out = (λ all. (all.head, all.values, all.dataset, all.parts, all.is_head), λ part. (part.head, part.values, part.dataset, part.parts, part.is_head))
