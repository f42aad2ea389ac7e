use Rattle.std.proofs.Common.{◌+◌, ◌++◌, [], refl, sym, ap, subst, ◌∙◌, inl}
use Rattle.std.proofs.Common.{append-nil}
use Rattle.dap_model.specs.Tokens.{tokens_of}
use Rattle.reply_faults.specs.declared.bad.Bad.TheVariants.{Cut}
use Rattle.dap_client.proofs.Filling.{first_bad, first_cut}
use Rattle.dap_client.proofs.Texts.{done_token, few_nothing, open_no_head}
use Rattle.dap_client.specs.inner.Readers.{IsEnded, WhereWriteFault}
use Rattle.dap_client.specs.declared.reader.Ended.TheVariants as ended
use Rattle.dap_client.proofs.reader.end_first.Goals as goal

pub returns-in-Ok-Bad-clause-ended : goal.returns-in-Ok-Bad-clause-ended
returns-in-Ok-Bad-clause-ended c word bytes long small o had =
    let (p, is, bad) = rw c.in-Ok-Bad.field-0-is at (c.in-Ok-Bad.ensures.bad bytes had.0) in
    let (judged, shows) = first_bad word bytes c.in-Ok-Bad.place p _ o had.1 is bad in
    subst (λ e. IsEnded bytes [] e) (sym c.bad.ensures) (inl (small, judged), shows)

pub returns-in-Ok-More-clause-ended : goal.returns-in-Ok-More-clause-ended
returns-in-Ok-More-clause-ended c word bytes long small o had =
    let (judged, shows) = first_cut word bytes o (rw c.in-Ok-More.field-0-is at (c.in-Ok-More.ensures.more bytes had.0)) in
    subst (λ e. IsEnded bytes [] e) (sym c.bad-in-Ok-More.ensures) (subst (λ n. IsEnded bytes [] (ended.Bad (record { kind = Cut; place = n }))) long (inl (small, judged), shows))

pub returns-in-Ok-Done-clause-ended : goal.returns-in-Ok-Done-clause-ended
returns-in-Ok-Done-clause-ended c word bytes long small o had =
    let (le, (d, done)) = rw c.in-Ok-Done.field-0-is at (c.in-Ok-Done.ensures.done bytes had.0) in absurd (done_token (bytes ++ []) _ d done (ap tokens_of (append-nil bytes) ∙ o.no_token))

pub returns-clause-ended : goal.returns-clause-ended
returns-clause-ended c word bytes long small o had = (few_nothing bytes (open_no_head word bytes o), refl)

pub returns-in-Ok-Bad-clause-failed : goal.returns-in-Ok-Bad-clause-failed
returns-in-Ok-Bad-clause-failed c = subst (WhereWriteFault ⊥) (sym c.bad.ensures) tt

pub returns-in-Ok-More-clause-failed : goal.returns-in-Ok-More-clause-failed
returns-in-Ok-More-clause-failed c = subst (WhereWriteFault ⊥) (sym c.bad-in-Ok-More.ensures) tt

pub returns-in-Ok-Done-clause-failed : goal.returns-in-Ok-Done-clause-failed
returns-in-Ok-Done-clause-failed c = subst (WhereWriteFault ⊥) (sym c.bad-in-Ok-Done.ensures) tt
