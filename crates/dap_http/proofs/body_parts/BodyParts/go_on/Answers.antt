use Rattle.std.proofs.Common.{[], ◌++◌, take, refl, sym, ap, inl, inr}
use Rattle.std.proofs.lemmas.Bool.{true≢false}
use Rattle.std.proofs.lemmas.Slice.{between_from_start}
use Rattle.dap_http.proofs.InTime.{takes-piece}
use Rattle.dap_http.proofs.Parts.{closed, ended-cut, ended-whole, filled, nothing-between, takes-none, takes-nothing}
use Rattle.dap_http.proofs.body_parts.BodyParts.go_on.Goals as goal

pub returns-in-Ok-finish-clause-turns : goal.returns-in-Ok-finish-clause-turns
returns-in-Ok-finish-clause-turns g c =
    let s = c.args.self.now in
    let (ended, at_end) = c.in-Ok-eq0.ensures.end c.in-Ok-eq0.field-0-test in (
      [],
      takes-none _ _ c.in-Ok-eq0.field-0 c.fill.new.room.items c.in-Ok-eq0.field-0-test c.in-Ok-eq0.ensures.bytes,
      λ bytes body up. elim (c.in-Ok-finish.ensures.cut bytes body up.1 up.2) [
        | inl is ↦ (ended-whole _ bytes body _ _ up.2 is ended (nothing-between c.fill.new.room.items s.to s.end up.0), inl refl)
        | inr clash ↦ absurd (cc)
      ],
    )

pub returns-in-Err-finish-clause-turns : goal.returns-in-Err-finish-clause-turns
returns-in-Err-finish-clause-turns g c =
    let s = c.args.self.now in
    let (ended, at_end) = c.in-Ok-eq0.ensures.end c.in-Ok-eq0.field-0-test in (
      [],
      takes-none _ _ c.in-Ok-eq0.field-0 c.fill.new.room.items c.in-Ok-eq0.field-0-test c.in-Ok-eq0.ensures.bytes,
      λ bytes body up. elim (c.in-Err-finish.ensures.cut bytes body up.1 up.2) [
        | inl is ↦ absurd (true≢false (sym (c.in-Err-finish.ensures.to_end is)))
        | inr is ↦ (ended-cut _ bytes body c.in-Err-finish.bad _ up.2 (λ e. true≢false (sym (c.in-Err-finish.ensures.to_end e))) ended (cc), inl refl)
      ],
    )

pub returns-in-Ok-clause-turns : goal.returns-in-Ok-clause-turns
returns-in-Ok-clause-turns g c =
    let s = c.args.self.now in
    let items = c.fill.new.room.items in
    let n = c.in-Ok.count in
    let most = c.piece_length-most.ensures in (
      take n items,
      c.in-Ok.ensures.bytes,
      λ bytes body up. (
        filled s _ bytes body _ refl (between_from_start items n) up,
        takes-piece s.unframer bytes body items n c.piece_length-most.result c.lent.result up.1 up.2 c.lent.ensures c.in-Ok.ensures.most most.most most.left,
      ),
    )

pub returns-in-Err-clause-turns : goal.returns-in-Err-clause-turns
returns-in-Err-clause-turns g c =
    let s = c.args.self.now in (
      [],
      takes-nothing _ _ c.in-Err.ensures.err,
      λ bytes body up. (
        (
          closed _ (bytes ++ []) body bytes up.1 (ap (λ t. bytes ++ t) (sym (nothing-between c.fill.new.room.items s.to s.end up.0))) (inl up.2),
          record { front = bytes; rest = []; parts = refl; comes = inl (up.2, refl) },
        ),
        inl refl,
      ),
    )
