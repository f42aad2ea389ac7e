-- What one end writes is good for the other, over the bytes that were written.
use Rattle.std.proofs.Common.{◌≡◌, ℕ, List, inl, inr, Option, Some, None, Ok, ap, subst, option_map}
use Rattle.soak.proofs.Answering.{answers}
use Rattle.dap_model.specs.Body.{body, too_large}
use Rattle.dap_errors.specs.declared.cause.Cause.TheVariants.{TooLarge}
use Rattle.dap_http.specs.declared.kind.Kind.{Kind}
use Rattle.dap_http.specs.declared.kind.Kind.TheVariants.{Dods}
use Rattle.dap_server.specs.Files.{Files, Stored}
use Rattle.dap_server.specs.Results.{AnswersAsked, DodsAnswers, Left, Results, Text, result_text}
use Rattle.dap_server.specs.Steps.{unless}
use Rattle.both_ends.proofs.Resulting.{result_is_good}
use Rattle.dap_commands.proofs.Headlines.{told}
use Rattle.dap_commands.specs.Laws.{AnsweredIsGood}

-- a text for data is a data response
dods-kind : (left : Left) (t : Text) → Ok t ≡ unless (option_map (λ (leaf : ℕ). TooLarge leaf) (too_large left.dataset)) (result_text Dods (body left.dataset left.trees)) → t.kind ≡ Dods
dods-kind left t e = go (too_large left.dataset) e where
  go : (o : Option ℕ) → Ok t ≡ unless (option_map (λ (leaf : ℕ). TooLarge leaf) o) (result_text Dods (body left.dataset left.trees)) → t.kind ≡ Dods
  go None s = let same : t ≡ result_text Dods (body left.dataset left.trees) = cc in ap (λ (x : Text). x.kind) same
  go (Some leaf) s = cc s

data-kind : (s : Stored) (query : List ℕ) (t : Text) → DodsAnswers s query (Ok t) → t.kind ≡ Dods
data-kind s query t (inl (left, leaves, is)) = dods-kind left t is
data-kind s query t (inr (why, leaves, is)) = cc is

asked-kind : (files : Files) (name query : List ℕ) (t : Text) → AnswersAsked files (record { name = name; kind = Dods; query = query }) (Ok t) → t.kind ≡ Dods
asked-kind files name query t (inl (s, opens, answered)) = data-kind s query t answered
asked-kind files name query t (inr (why, opens, is)) = cc is

pub answered-is-good : AnsweredIsGood
answered-is-good target name query files a is hold w =
    let (t, may, out) = w.says in
    let results : Results target files (Ok t) = told files target (Ok t) may in
    let kind = asked-kind files name query t (answers files target (record { name = name; kind = Dods; query = query }) (Ok t) is results) in
    (t.text, out, λ short. result_is_good target files t.text hold (subst (λ (k : Kind). Results target files (Ok (result_text k t.text))) kind results) short)
