-- What is served of a stored file is a data response of what the constraint leaves, and the reply to GET carries it.
use Rattle.std.proofs.Common.{ℕ, ◌<◌, ◌≤◌, ◌^◌, List, [], length}
use Rattle.constraint_parse.specs.declared.constraint.Constraint.{Constraint}
use Rattle.dap_http.specs.declared.kind.Kind.TheVariants.{Dods}
use Rattle.dap_server.specs.Files.{Files, Stored}
use Rattle.dap_server.specs.Replies.{request}
use Rattle.dap_server.specs.Results.{left_of}
use Rattle.dap_client.proofs.Bodies.{good_is_body}
use Rattle.both_ends.proofs.Names.{target-name}
use Rattle.dap_client.specs.Verdict.{IsVerdict, bad, dods_form}
use Rattle.reply_faults.specs.declared.bad.Bad.TheVariants.{TooLong}
use Rattle.both_ends.proofs.Replying.{reply_delivers, reply_is_judged}
use Rattle.both_ends.proofs.Resulting.{left-good, left-long, opened}
use Rattle.both_ends.specs.Ends.{HoldBytes}
use Rattle.dap_commands.proofs.ShownWhole.{shown-too-long}
use Rattle.dap_commands.specs.Headline.{IsReadBack, IsTooLong}
use Rattle.dap_commands.specs.ServerHalf.{Asks, IsAccepted, served_body}
use Rattle.both_ends.proofs.Standing.{no-head}

pub read-back : (target query : List ℕ) (files : Files) (s : Stored) (c : Constraint) → Asks target query files s → IsAccepted query s c → HoldBytes files → length (served_body s c) < 2 ^ 40 → IsReadBack s c
read-back target query files s c a (spells, none, small) hold short =
    let left = left_of s c in
    let response = good_is_body (served_body s c) left.dataset left.trees
    (left-good s c (opened files a.name s hold (target-name target (record { name = a.name; kind = Dods; query = query }) a.is_target) a.is_stored) none small short) in
    record {
      is_response = response;
      alone = λ k head get. ([], (reply_delivers (request k head) (served_body s c) (no-head (request k head) get)).0, response, tt);
      before = λ k head rs more get one others. (more, (reply_delivers (request k head) (served_body s c) (no-head (request k head) get)).1 more one, response, others);
    }

pub too-long : (target query : List ℕ) (files : Files) (s : Stored) (c : Constraint) → Asks target query files s → IsAccepted query s c → HoldBytes files → 2 ^ 40 ≤ length (served_body s c) → IsTooLong s c
too-long target query files s c a (spells, none, small) hold long =
    let v : IsVerdict dods_form (served_body s c) (bad TooLong (2 ^ 40)) =
    left-long s c (opened files a.name s hold (target-name target (record { name = a.name; kind = Dods; query = query }) a.is_target) a.is_stored) none small long in
    record {
      verdict = v;
      carried = λ k head get. reply_is_judged (request k head) (served_body s c) (bad TooLong (2 ^ 40)) (no-head (request k head) get) v;
      shown = λ w status runs is. shown-too-long w status (served_body s c) runs is v;
    }
