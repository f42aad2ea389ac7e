use Rattle.text_tokens.proofs.Slices.{quoted_ok}
use Rattle.text_tokens.proofs.tokens.Token.quoted.Goals as goal

pub returns : goal.returns
returns c = quoted_ok (λ v. v.items) c.args.text.now c.args.self.now.place c.args.self.now.behind c.unescaped.result c.unescaped.ensures
