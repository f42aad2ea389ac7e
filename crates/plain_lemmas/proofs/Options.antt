-- Options, and results in which something holds of the value or of the error.
use Rattle.std.proofs.Common.{◌≡◌, false, Option, Some, None, Result, Ok, Err, IfOk, IfErr, refl}
use Rattle.std.specs.Option.{is_some}

pub same_value : {X : Type 0} (x y : X) → Some x ≡ Some y → x ≡ y
same_value x y same = cc

pub without_value : {X : Type 0} (o : Option X) → is_some o ≡ false → o ≡ None
without_value None none = refl
without_value (Some x) none = cc none

pub if_ok-map : {T E : Type 0} {P Q : T → Type 0} (r : Result T E) → ((x : T) → P x → Q x) → IfOk r P → IfOk r Q
if_ok-map (Ok x) f p = f x p
if_ok-map (Err e) f p = tt

pub if_err-map : {T E : Type 0} {P Q : E → Type 0} (r : Result T E) → ((e : E) → P e → Q e) → IfErr r P → IfErr r Q
if_err-map (Ok x) f p = tt
if_err-map (Err e) f p = f e p
