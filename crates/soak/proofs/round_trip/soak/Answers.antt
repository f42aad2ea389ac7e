use Rattle.std.proofs.Common.{◌≡◌, ℕ}
use Rattle.soak.specs.Numbers.{numbers}
use Rattle.soak.specs.Reply.{reply}
use Rattle.soak.specs.declared.numbers.Numbers.{Numbers}
use Rattle.soak.proofs.Answering.{if-ok}
use Rattle.soak.proofs.round_trip.soak.Goals as goal

pub returns : goal.returns
returns g c =
    if-ok (λ (n : Numbers). (start : ℕ) → c.in_ok-reply.reply ≡ reply start c.args.records → n ≡ numbers start c.args.records) (λ n. n ≡ numbers c.args.start c.args.records)
    c.read.result (λ n says. says c.args.start c.in_ok-reply.ensures) c.read.ensures
