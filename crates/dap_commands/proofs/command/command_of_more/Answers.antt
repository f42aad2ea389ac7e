use Rattle.std.proofs.Common.{rules, ◌≡◌, List, ℕ, codes, subst, arith}
use Rattle.dap_commands.proofs.Commanding.{one-item, serve-words}
use Rattle.dap_commands.proofs.RelayWords.{relay-words, three-items}
use Rattle.dap_commands.specs.Words.{Reads}
use Rattle.dap_commands.proofs.command.command_of_more.Goals as goal

pub returns-in-len1 : goal.returns-in-len1
returns-in-len1 c =
    let one = one-item c.args.rest.now c.third-item.result (omega (arith, c.in-len1.len_at_least, c.in-len1.len_below)) c.third-item.is in
    let same : c.as_str.result.now ≡ c.third-item.result = c.as_str.ensures in
    let named : codes "serve" ≡ c.args.name.now = search (rules, c.if-eq-2.ensures, c.if-eq-2.true, c.eq-then-rest-lt2.ensures) in
    subst (λ (words : List (List ℕ)). Reads words c.serve_of.result) (serve-words _ _ c.args.first.now c.args.second.now _ _ _ named same one) c.serve_of.ensures

pub returns-in-len3 : goal.returns-in-len3
returns-in-len3 c =
    let three = three-items c.args.rest.now c.third-item-then-rest-lt4.result c.fourth-item.result c.fifth-item.result (omega (arith, c.in-len3.len_at_least, c.in-len3.len_below)) c.third-item-then-rest-lt4.is c.fourth-item.is c.fifth-item.is in
    let third : c.as_str-in-len3.result.now ≡ c.third-item-then-rest-lt4.result = c.as_str-in-len3.ensures in
    let fourth : c.as_str-in-len3-2.result.now ≡ c.fourth-item.result = c.as_str-in-len3-2.ensures in
    let fifth : c.as_str-in-len3-3.result.now ≡ c.fifth-item.result = c.as_str-in-len3-3.ensures in
    let named : codes "relay" ≡ c.args.name.now = search (rules, c.if-eq-3.ensures, c.if-eq-3.true, c.eq-then-rest-lt4.ensures) in
    subst (λ (words : List (List ℕ)). Reads words c.relay_of.result) (relay-words _ _ c.args.first.now c.args.second.now _ _ _ _ _ _ _ named third fourth fifth three) c.relay_of.ensures
