-- Fronts of bytes that are appended piece by piece.
use Rattle.std.proofs.Common.{ℕ, ◌+◌, List, ◌++◌, length, take, Option, sym, subst, arith, length-append, Result, Ok, Err, OnErr, OnOk}
use Rattle.std.proofs.KnownBytes.{Appends-trans}
use Rattle.std.proofs.Math.Seq.{take-append-add, take-length}
use Rattle.std.proofs.lemmas.List.{take-append-le}
use Rattle.std.specs.Io.KnownBytes.{Appends}
use Rattle.dap_outside.specs.Streams.{AppendsFront, AppendsSome}

-- a front of a front
pub front_of : (a b : Option (List ℕ)) (xs ys : List ℕ) → AppendsFront a b xs → AppendsFront a b (xs ++ ys)
front_of a b xs ys (k, le, appends) =
    (k, omega (arith, le, length-append xs ys), subst (Appends a b) (sym (take-append-le k xs ys (omega (arith, le)))) appends)

-- a piece, and a front of the next
pub front_more : (a b c : Option (List ℕ)) (xs ys : List ℕ) → Appends a b xs → AppendsFront b c ys → AppendsFront a c (xs ++ ys)
front_more a b c xs ys first (k, le, second) =
    (length xs + k, omega (arith, le, length-append xs ys), subst (Appends a c) (sym (take-append-add xs ys k)) (Appends-trans a b c xs (take k ys) first second))

pub on_err : {T E : Type 0} (r : Result T E) (P : Type 0) → P → OnErr r P
on_err (Ok x) P p = tt
on_err (Err e) P p = p

pub err_front : {T E : Type 0} (r : Result T E) (a b c : Option (List ℕ)) (xs ys : List ℕ) → Appends a b xs → OnErr r (AppendsFront b c ys) → OnErr r (AppendsFront a c (xs ++ ys))
err_front (Ok x) a b c xs ys first second = tt
err_front (Err e) a b c xs ys first second = front_more a b c xs ys first second

pub ok_more : {T E : Type 0} (r : Result T E) (a b c : Option (List ℕ)) (xs ys : List ℕ) → Appends a b xs → OnOk r (Appends b c ys) → OnOk r (Appends a c (xs ++ ys))
ok_more (Ok x) a b c xs ys first second = Appends-trans a b c xs ys first second
ok_more (Err e) a b c xs ys first second = tt

-- all of the bytes, or a front of them
pub either_front : {T E : Type 0} (r : Result T E) (a b : Option (List ℕ)) (xs : List ℕ) → OnOk r (Appends a b xs) → OnErr r (AppendsFront a b xs) → AppendsSome a b xs
either_front (Ok x) a b xs ok err = (length xs, omega arith, subst (Appends a b) (sym (take-length xs)) ok)
either_front (Err x) a b xs ok (k, less, appends) = (k, omega (arith, less), appends)
