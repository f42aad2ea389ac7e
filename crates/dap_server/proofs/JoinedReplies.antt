-- What is put of the data response of joined files.
use Rattle.std.proofs.Common.{◌≡◌, ℕ, ◌+◌, ◌≤◌, false, List, Some, None, Ok, IsSome, refl, ap}
use Rattle.std.specs.Io.KnownBytes.{Appends}
use Rattle.dap_http.specs.Frames.{framed}
use Rattle.dap_http.specs.Requests.{is_other}
use Rattle.dap_http.specs.Targets.{Asked, target_of}
use Rattle.dap_http.specs.Texts.{is_chunked}
use Rattle.dap_http.specs.declared.kind.Kind.TheVariants.{Dods}
use Rattle.dap_outside.specs.Files.{Told}
use Rattle.dap_server.proofs.DataText.{data-some}
use Rattle.dap_server.proofs.Replying.{failed-values, gives, known-values, late, values-cost, values-hidden}
use Rattle.dap_server.specs.Costs.{IsCost}
use Rattle.dap_server.specs.Files.{form_of, is_read_first, joined}
use Rattle.dap_server.specs.Prepared.{MayGive}
use Rattle.dap_server.specs.Replies.{Request, is_head}
use Rattle.dap_server.specs.Results.{result_text}
use Rattle.dap_server.specs.inner.Serving.{AnswersWith, Costs, PutsValues, SaysWhole, ShelfRose, Stand, data_front}
use Rattle.dap_server.specs.declared.reply_outcome.Answered.{Answered}

-- the values of a data response, where its files' bytes are known or not
pub joined-answer : (told : Told) (q : Request) (a : Asked) (front : List ℕ) (AreThese : List (List ℕ) → Type 0) (text_over : List (List ℕ) → List ℕ) (s z : Stand) (result : Answered)
    → is_head q ≡ false → front ≡ data_front q → is_other q.method ≡ false → target_of q.target ≡ Some a
    → ((contents : List (List ℕ)) → AreThese contents → PutsValues front (framed (is_chunked Dods q.minor) (text_over contents)) q.ends s.written z.written result) → SaysWhole q.ends result
    → ((put : List ℕ) × Appends s.written z.written put)
    → ((contents : List (List ℕ)) → AreThese contents → MayGive told a (Ok (result_text Dods (text_over contents)))) → ((text : List ℕ) × MayGive told a (Ok (result_text Dods text)))
    → form_of a.name ≡ Some joined → (IsSome told → (contents : List (List ℕ)) × AreThese contents) → ShelfRose result s.faults z.faults
    → ((cost : ℕ) × IsCost told a cost × (z.asked ≤ s.asked + cost)) → AnswersWith (Costs told a q) told q s z result
joined-answer None q a front AreThese text_over s z result get is served target puts says (put, appends) over (text, may) named tells rose costs = (
  Ok (result_text Dods text),
  gives None q a (Ok (result_text Dods text)) served target may,
  (put, appends, values-hidden None q text put result get (data-some None a text may) (late q a text get target (ap is_read_first named)) says),
  failed-values q text result s.faults z.faults get rose,
  values-cost None q a text s.asked z.asked get costs,
)
joined-answer (Some files) q a front AreThese text_over s z result get is served target puts says grows over accepted named tells rose costs =
    let (contents, these) = tells refl in
    known-values (Some files) q a front (text_over contents) s z result get is served target (puts contents these) says (over contents these) rose costs
