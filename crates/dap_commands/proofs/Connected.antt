-- What a connection answers GET for a target.
use Rattle.std.proofs.Common.{◌≡◌, ℕ, ◌+◌, inl, inr, Bool, true, false, List, ◌++◌, length, Some, MatchBool, Result, ap, ◌∙◌, subst, arith, append_assoc}
use Rattle.dap_errors.specs.declared.cause.Cause.{Cause}
use Rattle.dap_http.specs.Frames.{IsProperFront}
use Rattle.dap_http.specs.Requests.{Requests}
use Rattle.dap_server.proofs.WholeConnections.{heads}
use Rattle.dap_server.specs.Connections.{AreTurns, Behind, IsClosed, MayAnswer, Stops, behind_text, ends_after, part_of_reply}
use Rattle.dap_server.specs.Files.{Files}
use Rattle.dap_server.specs.Replies.{AreAnswered, IsRequestAnsweredAmong, Turn, replies, reply_of, request}
use Rattle.dap_server.specs.Results.{Text}
use Rattle.dap_server.specs.declared.served.Ending.{Ending}
use Rattle.dap_server.specs.declared.served.Ending.TheVariants.{Closed, Gone, ReadFault, WriteFault, Broken}
use Rattle.both_ends.proofs.Standing.{reached, reached-all, replies-split}
use Rattle.both_ends.specs.Ends.{reply_behind}
use Rattle.dap_commands.specs.ServerHalf.{AnswersGet, Gets, HasResult, IsOrFailed}

module _ (target : List ℕ) (files : Files) (r : Result Text Cause) (has : HasResult target files r) where
  or-failed : (k : ℕ) (t : Turn) → Gets target t → MayAnswer (Some files) (request k t.head) t.answer → IsOrFailed r t.answer
  or-failed k t gets (inl (others, same, answered)) = inl (has.get k t.head t.answer gets.0 gets.1 (subst (λ (fs : Files). IsRequestAnsweredAmong (Some files) fs (request k t.head) t.answer) same answered))
  or-failed k t gets (inr (inl (failed, served, looks))) = inr (inl failed)
  or-failed k t gets (inr (inr wanted)) = inr (inr wanted)

  -- a reply that broke off
  abbrev Off : List Turn → Turn → List ℕ → Type 0
  Off turns t part = IsOrFailed r t.answer × IsProperFront part (reply_behind turns t)

  behind-turns : (turns : List Turn) (t : Turn) (k : ℕ) (part : List ℕ) → k ≡ length turns + 1 → IsProperFront part (reply_of (request k t.head) t.answer) → IsProperFront part (reply_behind turns t)
  behind-turns turns t k part e is = subst (λ (n : ℕ). IsProperFront part (reply_of (request n t.head) t.answer)) e is

  off : (turns : List Turn) (t : Turn) (k : ℕ) (part left : List ℕ) (ended : Bool) (ending : Ending) → k ≡ length turns + 1 → Gets target t
      → Stops (Some files) k left ended ending (part_of_reply t part) → Off turns t part
  off turns t k part left ended WriteFault e gets ((rest, (first, may)), breaks) = (or-failed k t gets may, behind-turns turns t k part e breaks)
  off turns t k part left ended Broken e gets ((rest, (first, may)), broken) = (or-failed k t gets may, behind-turns turns t k part e broken.breaks_off)
  off turns t k part left ended Closed e gets stops = absurd stops
  off turns t k part left ended Gone e gets stops = absurd stops
  off turns t k part left ended ReadFault e gets stops = absurd stops

  closed : (turns : List Turn) (t : Turn) (part : List ℕ) (ending : Ending) → IsClosed ending (part_of_reply t part) → Off turns t part
  closed turns t part Closed is = absurd is
  closed turns t part Gone is = absurd is
  closed turns t part ReadFault is = absurd is
  closed turns t part WriteFault is = absurd is
  closed turns t part Broken is = absurd is

  ends-off : (b : Bool) (turns : List Turn) (t : Turn) (k : ℕ) (part left : List ℕ) (ended : Bool) (ending : Ending) → k ≡ length turns + 1 → Gets target t
      → MatchBool b (IsClosed ending (part_of_reply t part)) (Stops (Some files) k left ended ending (part_of_reply t part)) → Off turns t part
  ends-off true turns t k part left ended ending e gets is = closed turns t part ending is
  ends-off false turns t k part left ended ending e gets is = off turns t k part left ended ending e gets is

  pub answers-get : AnswersGet target files r
  answers-get = record {
    whole = λ taken ended c served is before after t parts gets.
        let j : ℕ = length before + 1 in
        let at = reached (Some files) 1 j taken c.left before after t (omega arith) (subst (λ (l : List Turn). AreTurns (Some files) 1 taken l c.left) parts is.turns) in
        record {
          rest = replies (j + 1) after ++ behind_text c.behind;
          stands = ap (λ (l : List Turn). replies 1 l ++ behind_text c.behind) parts
              ∙ ap (λ (l : List ℕ). l ++ behind_text c.behind) (replies-split 1 j before after t (omega arith))
              ∙ append_assoc (replies 1 before) (reply_behind before t ++ replies (j + 1) after) (behind_text c.behind)
              ∙ ap (λ (l : List ℕ). replies 1 before ++ l) (append_assoc (reply_behind before t) (replies (j + 1) after) (behind_text c.behind));
          answer = or-failed j t gets at.may;
        };
    broken_off = λ taken ended c served is t part same gets.
        ends-off (ends_after false 1 c.turns) c.turns t (1 + length c.turns) part c.left ended served.ending (omega arith) gets
        (subst (λ (b : Behind). MatchBool (ends_after false 1 c.turns) (IsClosed served.ending b) (Stops (Some files) (1 + length c.turns) c.left ended served.ending b)) same is.ends);
    no_fault = λ input gained served all before after t parts gets.
        let j : ℕ = length before + 1 in
        let at = reached-all files 1 j input all.replies.behind before after t (omega arith) (subst (λ (l : List Turn). Requests 1 input (heads l) all.replies.behind) parts all.replies.requests)
        (subst (λ (l : List Turn). AreAnswered files 1 l) parts all.replies.answered) in
        record {
          rest = replies (j + 1) after ++ all.tail;
          stands = all.gained_is ∙ ap (λ (l : List ℕ). l ++ all.tail) (all.replies.are_these ∙ ap (λ (l : List Turn). replies 1 l) parts)
              ∙ ap (λ (l : List ℕ). l ++ all.tail) (replies-split 1 j before after t (omega arith))
              ∙ append_assoc (replies 1 before) (reply_behind before t ++ replies (j + 1) after) all.tail
              ∙ ap (λ (l : List ℕ). replies 1 before ++ l) (append_assoc (reply_behind before t) (replies (j + 1) after) all.tail);
          answer = has.get j t.head t.answer gets.0 gets.1 at.answers;
        };
  }
