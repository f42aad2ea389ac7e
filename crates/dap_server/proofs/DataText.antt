-- A data response is not empty.
use Rattle.std.proofs.Common.{◌≡◌, ℕ, ◌<◌, List, [], ◌++◌, length, Bool, true, false, Option, Some, None, option_map, Result, Ok, Err, if◌then◌else◌, codes, ap, subst, sym, arith, length-append, inl, inr}
use Rattle.dap_types.specs.Model.{Dataset, Tree}
use Rattle.dap_model.specs.Body.{body, too_large}
use Rattle.dap_model.specs.Dds.{dds}
use Rattle.dap_model.specs.Xdr.{xdr}
use Rattle.dap_errors.specs.declared.cause.Cause.{Cause}
use Rattle.dap_errors.specs.declared.cause.Cause.TheVariants.{TooLarge}
use Rattle.dap_http.specs.Targets.{Asked}
use Rattle.dap_http.specs.declared.kind.Kind.{Kind}
use Rattle.dap_http.specs.declared.kind.Kind.TheVariants.{Dds, Das, Dods, Ver}
use Rattle.dap_outside.specs.Files.{Told}
use Rattle.dap_server.specs.Files.{Files}
use Rattle.dap_server.specs.Prepared.{MayGive}
use Rattle.dap_server.specs.Results.{AnswersAmong, Text, result_text}
use Rattle.dap_server.specs.Steps.{unless}

abbrev kind_in : Result Text Cause → Kind
kind_in (Ok t) = t.kind
kind_in (Err cause) = Ver

body-some : (d : Dataset) (ts : List Tree) → 0 < length (body d ts)
body-some d ts = omega (arith, length-append (dds d ++ codes "Data:\n") (xdr d ts), length-append (dds d) (codes "Data:\n"))

no-dds : (long : Bool) (text other : List ℕ) → Ok (result_text Dods text) ≡ (if long then Err (TooLarge 0) else Ok (result_text Dds other)) → ⊥
no-dds true text other is = cc is
no-dds false text other is = cc (ap kind_in is)

abbrev text_in : Result Text Cause → List ℕ
text_in (Ok t) = t.text
text_in (Err cause) = []

text-is : (text : List ℕ) (r : Result Text Cause) → Ok (result_text Dods text) ≡ r → text ≡ text_in r
text-is text r is = ap text_in is

of-body : (o : Option ℕ) (d : Dataset) (ts : List Tree) (text : List ℕ) → Ok (result_text Dods text) ≡ unless (option_map (λ leaf. TooLarge leaf) o) (result_text Dods (body d ts)) → 0 < length text
of-body None d ts text is = subst (λ t. 0 < length t) (sym (text-is text (Ok (result_text Dods (body d ts))) is)) (body-some d ts)
of-body (Some leaf) d ts text is = cc is

given : (told : Told) (kind : Kind) (files : Files) (name query text : List ℕ) → AnswersAmong told kind files name query (Ok (result_text Dods text)) → 0 < length text
given told Ver files name query text is = cc (ap kind_in is)
given told Das files name query text (inl (s, opens, is)) = cc (ap kind_in is)
given told Das files name query text (inr (cause, opens, is)) = cc is
given told Dds files name query text (inl (s, opens, inl (left, leaves, is))) = absurd (no-dds _ text _ is)
given told Dds files name query text (inl (s, opens, inr (cause, leaves, is))) = cc is
given told Dds files name query text (inr (cause, opens, is)) = cc is
given told Dods files name query text (inl (s, opens, inl (left, leaves, is))) = of-body (too_large left.dataset) left.dataset left.trees text is
given told Dods files name query text (inl (s, opens, inr (cause, leaves, is))) = cc is
given told Dods files name query text (inr (cause, opens, is)) = cc is

pub data-some : (told : Told) (a : Asked) (text : List ℕ) → MayGive told a (Ok (result_text Dods text)) → 0 < length text
data-some told a text (files, has, answers) = given told a.kind files a.name a.query text answers
