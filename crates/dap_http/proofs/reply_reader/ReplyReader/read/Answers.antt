use Rattle.std.proofs.Common.{◌≡◌, ◌∙◌, sym, ap, subst, List, ℕ, ◌++◌, append_assoc}
use Rattle.std.proofs.KnownBytes.{Consumes-trans}
use Rattle.dap_http.specs.Reading.{AnswersFinalHead, rest_of}
use Rattle.dap_http.specs.Replies.{HasFinal}
use Rattle.dap_http.proofs.HeadReading.{left-behind}
use Rattle.dap_http.proofs.reply_reader.ReplyReader.read.Goals as goal

pub returns-in-Done-clause-reads : goal.returns-in-Done-clause-reads
returns-in-Done-clause-reads g c =
    let (x, before, kept) = c.loop-read.invariant.taken in
    let (y, after, gives, few) = c.in-Done.ensures.reads in
    let all : rest_of c.loop-read.self ++ y ≡ rest_of c.args.self.now ++ (x ++ y) = ap (λ l. l ++ y) kept ∙ append_assoc (rest_of c.args.self.now) x y in
    (x ++ y, Consumes-trans _ _ _ x y before after, rw (← all) gives, rw (← all) few)

pub returns-in-Done-clause-found : goal.returns-in-Done-clause-found
returns-in-Done-clause-found g c = λ left rest head e first.
    let (x, before, kept) = c.loop-read.invariant.taken in
    let (behind, now, is) = left-behind _ _ left x e before in
    let all : rest_of c.args.self.now ++ left ≡ rest_of c.loop-read.self ++ behind =
    ap (λ l. rest_of c.args.self.now ++ l) is ∙ sym (append_assoc (rest_of c.args.self.now) x behind) ∙ ap (λ l. l ++ behind) (sym kept) in
    subst (λ (b : List ℕ). AnswersFinalHead b head rest c.in-Done.read) (sym all) (c.in-Done.ensures.found behind rest head now (subst (λ (b : List ℕ). HasFinal b head rest) all first))
