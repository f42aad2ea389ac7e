use Rattle.std.proofs.Common.{◌≡◌, ◌∙◌, ◌+◌, ◌-◌, ◌<◌, ◌≤◌, ◌++◌, [], ap, arith, drop, false, length, length-append, length-drop, sym, take, List, ℕ}
use Rattle.std.specs.Fmt.{digits}
use Rattle.std.proofs.Math.Seq.{drop-drop}
use Rattle.std.proofs.lemmas.Bool.{ne_eqb}
use Rattle.std.proofs.lemmas.List.{drop-append-le}
use Rattle.httparse.specs.Ascii.{crlf_bytes}
use Rattle.dap_http.specs.Frames.{chunk, chunked, last_chunk}
use Rattle.dap_http.specs.inner.UnderWay.{full_head}
use Rattle.dap_http.proofs.Ends.{chunked-rest}
use Rattle.dap_http.proofs.Sizes.{copied, four, taken-front, together}
use Rattle.dap_http.proofs.last_chunk.end_chunk.Goals as goal

pub write_size-at-requires-clause-room : goal.write_size-at-requires-clause-room
write_size-at-requires-clause-room c =
    let size = (c.len.result - c.args.lead) - 7 in
    omega (arith, four size (omega (arith, c.len.ensures, c.requires.few)))

pub overflow_sub-at : goal.overflow_sub-at
overflow_sub-at c =
    let size = (c.len.result - c.args.lead) - 7 in
    omega (arith, four size (omega (arith, c.len.ensures, c.requires.few)), c.write_size-at.ensures.place)

pub copy_within-requires-clause-in_bounds : goal.copy_within-requires-clause-in_bounds
copy_within-requires-clause-in_bounds c = omega (arith, c.requires.headed, c.write_size-at.ensures.len)

pub copy_within-requires-clause-dest_in_bounds : goal.copy_within-requires-clause-dest_in_bounds
copy_within-requires-clause-dest_in_bounds c =
    let size = (c.len.result - c.args.lead) - 7 in
    let few = four size (omega (arith, c.len.ensures, c.requires.few)) in
    omega (arith, few, c.write_size-at.ensures.place, c.write_size-at.ensures.len, c.requires.headed)

pub keep-requires : goal.keep-requires
keep-requires c = omega (arith, c.copy_within.ensures.len, c.copy_within.ensures.capacity, c.write_size-at.ensures.len, c.write_size-at.ensures.room, c.requires.few, c.requires.room)

pub overflow_sub-result : goal.overflow_sub-result
overflow_sub-result c =
    let size = (c.len.result - c.args.lead) - 7 in
    omega (arith, four size (omega (arith, c.len.ensures, c.requires.few)), c.write_size-at.ensures.place)

pub returns-clause-inside : goal.returns-clause-inside
returns-clause-inside c =
    let size = (c.len.result - c.args.lead) - 7 in
    let few = four size (omega (arith, c.len.ensures, c.requires.few)) in
    let long = ap length c.keep.ensures.items ∙ length-append c.copy_within.new.self.items (crlf_bytes ++ last_chunk) in
    omega (arith, long, c.copy_within.ensures.len, few, c.write_size-at.ensures.place, c.write_size-at.ensures.len, c.requires.headed)

pub returns-clause-ended : goal.returns-clause-ended
returns-clause-ended c =
    let f = c.args.frame.now.items in
    let l = c.args.lead in
    let at = c.write_size-at.result in
    let size = (c.len.result - l) - 7 in
    let held = drop (l + 7) f in
    let few = four size (omega (arith, c.len.ensures, c.requires.few)) in
    let from = at - l in
    let on : from + l ≡ at = omega (arith, few, c.write_size-at.ensures.place) in
    let d = c.write_size-at.new.frame.items in
    let inside : at ≤ length d = omega (arith, c.write_size-at.ensures.place, c.write_size-at.ensures.len, c.requires.headed) in
    let size_is : size ≡ length held = omega (arith, c.len.ensures, length-drop (l + 7) f) in
    let line : drop (l + 5) f ≡ crlf_bytes ++ held = sym (drop-drop 5 l f) ∙ ap (drop 5) c.requires.head in
    let moved : drop from c.copy_within.new.self.items ≡ take l d ++ drop at d =
    ap (drop from) c.copy_within.ensures.items ∙ copied d from l (omega (arith, inside, on)) (omega (arith, inside, on)) ∙ ap (λ n. take l d ++ drop n d) on in
    let front : take l d ≡ take l f = taken-front l at d f (omega (arith, on)) c.write_size-at.ensures.before in
    let tail : drop at d ≡ digits 16 false (length held) ++ (crlf_bytes ++ held) =
    c.write_size-at.ensures.behind ∙ ap (λ n. digits 16 false n ++ drop (l + 5) f) size_is ∙ ap (λ t. digits 16 false (length held) ++ t) line in
    let long : from ≤ length c.copy_within.new.self.items = omega (arith, c.copy_within.ensures.len, inside, on) in
    let end = crlf_bytes ++ last_chunk in
    ap (drop from) c.keep.ensures.items
    ∙ drop-append-le from c.copy_within.new.self.items end long
    ∙ ap (λ t. t ++ end) (moved ∙ ap (λ t. t ++ drop at d) front ∙ ap (λ t. take l f ++ t) tail)
    ∙ together (take l f) (digits 16 false (length held)) crlf_bytes held last_chunk
    ∙ ap (λ t. take l f ++ t) (sym (chunked-rest held (ne_eqb (length held) 0 (λ e. omega (arith, e, length-drop (l + 7) f, c.requires.headed))) (omega (arith, length-drop (l + 7) f, c.requires.few))))
