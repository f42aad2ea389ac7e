-- Steps of which each has one result at most have one together.
use Rattle.std.proofs.Common.{◌≡◌, Result, Ok, Err, refl, sym, ◌∙◌, inl, inr, subst}
use Rattle.dap_errors.specs.declared.cause.Cause.{Cause}
use Rattle.dap_server.specs.Steps.{Is, Then}

-- at most one result has this
abbrev pub One : {V : Type 0} → (Result V Cause → Type 0) → Type 0
One {V} P = (x y : Result V Cause) → P x → P y → x ≡ y

pub is_one : {V : Type 0} (r : Result V Cause) → One (Is r)
is_one r x y is_x is_y = is_x ∙ sym is_y

pub same_value : {V E : Type 0} (v w : V) (r : Result V E) → r ≡ Ok v → r ≡ Ok w → v ≡ w
same_value v w r is_v is_w = cc (is_v, is_w)

-- where the second step has one for each value that the first one may have
pub then_one_of : {V W : Type 0} (first : Result V Cause → Type 0) (next : V → Result W Cause → Type 0) → One first → ((v : V) → first (Ok v) → One (next v)) → One (Then first next)
then_one_of first next one nexts x y (inl (v, fv, nx)) (inl (w, fw, ny)) =
    nexts v fv x y nx (subst (λ u. next u y) (sym (same_value v w (Ok v) refl (one (Ok v) (Ok w) fv fw))) ny)
then_one_of first next one nexts x y (inl (v, fv, nx)) (inr (k, fk, is_y)) = cc (one (Ok v) (Err k) fv fk)
then_one_of first next one nexts x y (inr (k, fk, is_x)) (inl (w, fw, ny)) = cc (one (Err k) (Ok w) fk fw)
then_one_of first next one nexts x y (inr (k, fk, is_x)) (inr (l, fl, is_y)) = cc (one (Err k) (Err l) fk fl, is_x, is_y)

pub then_one : {V W : Type 0} (first : Result V Cause → Type 0) (next : V → Result W Cause → Type 0) → One first → ((v : V) → One (next v)) → One (Then first next)
then_one first next one nexts = then_one_of first next one (λ v fv. nexts v)
