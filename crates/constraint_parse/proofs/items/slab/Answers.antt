use Rattle.std.proofs.Common.{refl}
use Rattle.std.proofs.lemmas.Result.{err_from_is_err_and}
use Rattle.constraint_parse.specs.Language.{index, range, strided}
use Rattle.constraint_parse.specs.inner.Machine.{Opened, SecondOpened, ThirdOpened}
use Rattle.constraint_parse.proofs.Moves.{numbered_close, numbered2_close, numbered3_close, numbered_colon, numbered2_colon, numbered_faults, numbered2_faults, numbered3_faults}
use Rattle.constraint_parse.proofs.items.slab.Goals as goal

pub returns-in_err-first-clause-spelled : goal.returns-in_err-first-clause-spelled
returns-in_err-first-clause-spelled c = λ items steps n slabs st.
    let p = err_from_is_err_and c.from_residual.result c.from_residual.ensures.1 in
    rw (p.1, p.2) (c.in_err-first.ensures.spelled (Opened items steps n slabs) tt st)

pub returns-then-is_at-clause-spelled : goal.returns-then-is_at-clause-spelled
returns-then-is_at-clause-spelled c = λ items steps n slabs st.
    let (a, va, first) = c.in_ok-first.ensures.spelled (Opened items steps n slabs) tt st in
    (index a, rw va refl, c.skip_blanks.ensures.stands _ (numbered_close (first _ refl) c.if-is_at.ensures.0 c.if-is_at.ensures.1))

pub returns-then-not-is_at-clause-spelled : goal.returns-then-not-is_at-clause-spelled
returns-then-not-is_at-clause-spelled c = λ items steps n slabs st.
    let (a, va, first) = c.in_ok-first.ensures.spelled (Opened items steps n slabs) tt st in
    rw c.at.ensures (numbered_faults (first _ refl) c.in_ok-first.ensures.onward.1 c.if-not-is_at.ensures c.if-is_at.ensures)

pub returns-in_err-second-clause-spelled : goal.returns-in_err-second-clause-spelled
returns-in_err-second-clause-spelled c = λ items steps n slabs st.
    let (a, va, first) = c.in_ok-first.ensures.spelled (Opened items steps n slabs) tt st in
    let p = err_from_is_err_and c.from_residual-in_err-second.result c.from_residual-in_err-second.ensures.1 in
    rw (p.1, p.2) (c.in_err-second.ensures.spelled (SecondOpened items steps n slabs a) tt (c.skip_blanks-2.ensures.stands _ (numbered_colon (first _ refl) c.if-not-is_at.ensures.0 c.if-not-is_at.ensures.1)))

pub returns-then-is_at-2-clause-spelled : goal.returns-then-is_at-2-clause-spelled
returns-then-is_at-2-clause-spelled c = λ items steps n slabs st.
    let (a, va, first) = c.in_ok-first.ensures.spelled (Opened items steps n slabs) tt st in
    let (b, vb, second) = c.in_ok-second.ensures.spelled (SecondOpened items steps n slabs a) tt (c.skip_blanks-2.ensures.stands _ (numbered_colon (first _ refl) c.if-not-is_at.ensures.0 c.if-not-is_at.ensures.1)) in
    (range a b, rw (va, vb) refl, c.skip_blanks-then-is_at-2.ensures.stands _ (numbered2_close (second _ refl) c.if-is_at-2.ensures.0 c.if-is_at-2.ensures.1))

pub returns-then-not-is_at-2-clause-spelled : goal.returns-then-not-is_at-2-clause-spelled
returns-then-not-is_at-2-clause-spelled c = λ items steps n slabs st.
    let (a, va, first) = c.in_ok-first.ensures.spelled (Opened items steps n slabs) tt st in
    let (b, vb, second) = c.in_ok-second.ensures.spelled (SecondOpened items steps n slabs a) tt (c.skip_blanks-2.ensures.stands _ (numbered_colon (first _ refl) c.if-not-is_at.ensures.0 c.if-not-is_at.ensures.1)) in
    rw c.at-then-not-is_at-2.ensures (numbered2_faults (second _ refl) c.in_ok-second.ensures.onward.1 c.if-not-is_at-2.ensures c.if-is_at-2.ensures)

pub returns-in_err-third-clause-spelled : goal.returns-in_err-third-clause-spelled
returns-in_err-third-clause-spelled c = λ items steps n slabs st.
    let (a, va, first) = c.in_ok-first.ensures.spelled (Opened items steps n slabs) tt st in
    let (b, vb, second) = c.in_ok-second.ensures.spelled (SecondOpened items steps n slabs a) tt (c.skip_blanks-2.ensures.stands _ (numbered_colon (first _ refl) c.if-not-is_at.ensures.0 c.if-not-is_at.ensures.1)) in
    let p = err_from_is_err_and c.from_residual-in_err-third.result c.from_residual-in_err-third.ensures.1 in
    rw (p.1, p.2) (c.in_err-third.ensures.spelled (ThirdOpened items steps n slabs a b) tt (c.skip_blanks-3.ensures.stands _ (numbered2_colon (second _ refl) c.if-not-is_at-2.ensures.0 c.if-not-is_at-2.ensures.1)))

pub returns-then-not-is_at-3-clause-spelled : goal.returns-then-not-is_at-3-clause-spelled
returns-then-not-is_at-3-clause-spelled c = λ items steps n slabs st.
    let (a, va, first) = c.in_ok-first.ensures.spelled (Opened items steps n slabs) tt st in
    let (b, vb, second) = c.in_ok-second.ensures.spelled (SecondOpened items steps n slabs a) tt (c.skip_blanks-2.ensures.stands _ (numbered_colon (first _ refl) c.if-not-is_at.ensures.0 c.if-not-is_at.ensures.1)) in
    let (d, vd, third) = c.in_ok-third.ensures.spelled (ThirdOpened items steps n slabs a b) tt (c.skip_blanks-3.ensures.stands _ (numbered2_colon (second _ refl) c.if-not-is_at-2.ensures.0 c.if-not-is_at-2.ensures.1)) in
    rw c.at-then-not-is_at-3.ensures (numbered3_faults (third _ refl) c.in_ok-third.ensures.onward.1 c.if-not-is_at-3.ensures)

pub returns-clause-spelled : goal.returns-clause-spelled
returns-clause-spelled c = λ items steps n slabs st.
    let (a, va, first) = c.in_ok-first.ensures.spelled (Opened items steps n slabs) tt st in
    let (b, vb, second) = c.in_ok-second.ensures.spelled (SecondOpened items steps n slabs a) tt (c.skip_blanks-2.ensures.stands _ (numbered_colon (first _ refl) c.if-not-is_at.ensures.0 c.if-not-is_at.ensures.1)) in
    let (d, vd, third) = c.in_ok-third.ensures.spelled (ThirdOpened items steps n slabs a b) tt (c.skip_blanks-3.ensures.stands _ (numbered2_colon (second _ refl) c.if-not-is_at-2.ensures.0 c.if-not-is_at-2.ensures.1)) in
    (strided a b d, rw (va, vb, vd) refl, c.skip_blanks-4.ensures.stands _ (numbered3_close (third _ refl) c.if-not-is_at-3.ensures.0 c.if-not-is_at-3.ensures.1))
