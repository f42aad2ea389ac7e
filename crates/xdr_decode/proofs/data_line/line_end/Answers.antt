use Rattle.std.proofs.Common.{arith, get_or, refl, subst, sym}
use Rattle.std.proofs.lemmas.List.{nil_from_length}
use Rattle.plain_lemmas.proofs.Options.{if_ok-map, if_err-map}
use Rattle.xdr_decode.proofs.ArrayElements.{some_is}
use Rattle.xdr_decode.proofs.Lined.{end_cut, end_differs, end_feed, end_return, end_stop}
use Rattle.xdr_decode.proofs.Spots.{none_of, some_of}
use Rattle.xdr_decode.proofs.Texts.{part-rest}
use Rattle.xdr_decode.specs.inner.Lined.{Behind, EndLines}
use Rattle.xdr_decode.proofs.data_line.line_end.Goals as goal

pub returns-then-is_empty-clause-stop : goal.returns-then-is_empty-clause-stop
returns-then-is_empty-clause-stop c = end_cut c.args.bytes.now (nil_from_length c.args.bytes.now (none_of c.args.bytes.now c.if-is_empty.ensures))

pub returns-in-10-clause-read : goal.returns-in-10-clause-read
returns-in-10-clause-read c =
    subst (Behind EndLines c.args.bytes.now) (sym (part-rest 1 c.args.bytes.now)) (end_feed c.args.bytes.now (some_is c.args.bytes.now (some_of c.args.bytes.now c.if-is_empty.ensures)) c.in-10.is)

pub returns-in-13-clause-read : goal.returns-in-13-clause-read
returns-in-13-clause-read c = if_ok-map c.literal.result (λ rest read. end_return c.args.bytes.now rest.now read) c.literal.ensures.read

pub returns-in-13-clause-stop : goal.returns-in-13-clause-stop
returns-in-13-clause-stop c = if_err-map c.literal.result (λ e stop. end_stop c.args.bytes.now e c.in-13.is stop) c.literal.ensures.stop

pub returns-in_default-clause-stop : goal.returns-in_default-clause-stop
returns-in_default-clause-stop c =
    end_differs c.args.bytes.now (get_or c.args.bytes.now 0 0) _ (some_is c.args.bytes.now (some_of c.args.bytes.now c.if-is_empty.ensures)) refl (λ same. omega (arith, same, c.in_default)) (λ same. omega (arith, same, c.in_default)) refl
