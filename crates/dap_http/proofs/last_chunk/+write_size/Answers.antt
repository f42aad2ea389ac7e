use Rattle.std.proofs.Common.{◌≡◌, ◌∙◌, ◌+◌, ◌-◌, ◌/◌, ◌%◌, ◌<◌, ◌^◌, [], ◌∷◌, ◌++◌, append_assoc, sym, ap, arith, drop, false, refl, rules, ◌≤◌}
use Rattle.std.specs.Fmt.{digit_glyph, digits}
use Rattle.std.proofs.lemmas.Grind.{drop-set_at}
use Rattle.std.proofs.lemmas.List.{length-set}
use Rattle.dap_http.proofs.Hex.{last-digit, one-digit}
use Rattle.dap_http.proofs.Sizes.{one, one-less, some}
use Rattle.dap_http.proofs.last_chunk.+write_size.Goals as goal

pub overflow_sub-at : goal.overflow_sub-at
overflow_sub-at t c = omega (arith, some c.args.size (omega (arith, c.ranges.size.fits)), c.requires.room)

pub index_mut-requires : goal.index_mut-requires
index_mut-requires t c = omega (arith, some c.args.size (omega (arith, c.ranges.size.fits)), c.requires.room, c.requires.inside)

pub returns-then-size-lt16-clause-place : goal.returns-then-size-lt16-clause-place
returns-then-size-lt16-clause-place t c = omega (arith, one c.args.size c.if-size-lt16.true, c.requires.room)

pub returns-then-size-lt16-clause-behind : goal.returns-then-size-lt16-clause-behind
returns-then-size-lt16-clause-behind t c =
    let f = c.args.frame.now.items in
    let at = c.args.end - 1 in
    let some_one = some c.args.size (omega (arith, c.ranges.size.fits)) in
    let next : at + 1 ≡ c.args.end = omega (arith, some_one, c.requires.room) in
    let same : c.args.size % 16 ≡ c.args.size = omega (arith, c.if-size-lt16.true) in
    drop-set_at f at at c.hex_digit.result refl (omega (arith, some_one, c.requires.room, c.requires.inside))
    ∙ ap (λ n. c.hex_digit.result ∷ drop n f) next
    ∙ ap (λ d. d ∷ drop c.args.end f) (c.hex_digit.ensures ∙ ap (digit_glyph false) same)
    ∙ ap (λ d. d ++ drop c.args.end f) (sym (one-digit c.args.size c.if-size-lt16.true))

pub write_size-requires : goal.write_size-requires
write_size-requires t c =
    let more : 16 ≤ c.args.size = omega (arith, c.if-size-lt16.false) in
    let less = one-less c.args.size more (omega (arith, c.ranges.size.fits)) in
    let f = c.args.frame.now.items in
    (search (rules, c.if-size-lt16.false), (omega (arith, less, c.requires.room), omega (arith, length-set f (c.args.end - 1) c.hex_digit.result, c.requires.inside)))

pub returns-clause-place : goal.returns-clause-place
returns-clause-place t c =
    let less = one-less c.args.size (omega (arith, c.if-size-lt16.false)) (omega (arith, c.ranges.size.fits)) in
    omega (arith, less, c.requires.room, c.write_size.ensures.place)

pub returns-clause-behind : goal.returns-clause-behind
returns-clause-behind t c =
    let f = c.args.frame.now.items in
    let at = c.args.end - 1 in
    let fits : c.args.size < 2 ^ 64 = omega (arith, c.ranges.size.fits) in
    let some_one = some c.args.size fits in
    let next : at + 1 ≡ c.args.end = omega (arith, some_one, c.requires.room) in
    let front = digits 16 false (c.args.size / 16) in
    c.write_size.ensures.behind
    ∙ ap (λ t. front ++ t) (drop-set_at f at at c.hex_digit.result refl (omega (arith, some_one, c.requires.room, c.requires.inside)) ∙ ap (λ n. c.hex_digit.result ∷ drop n f) next)
    ∙ ap (λ d. front ++ (d ∷ drop c.args.end f)) c.hex_digit.ensures
    ∙ sym (append_assoc front (digit_glyph false (c.args.size % 16) ∷ []) (drop c.args.end f))
    ∙ ap (λ d. d ++ drop c.args.end f) (sym (last-digit c.args.size (omega (arith, c.if-size-lt16.false)) fits))
