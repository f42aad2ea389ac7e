-- A body is its head, and then its pieces.
use Rattle.std.proofs.Common.{ℕ, ◌+◌, ◌≤◌, List, ◌++◌, Option, Result, Ok, Err, OnOk, OnErr, length, take, sym, subst, arith, length-append}
use Rattle.std.proofs.KnownBytes.{Appends-trans}
use Rattle.std.proofs.Math.Seq.{take-append-add}
use Rattle.std.proofs.lemmas.List.{take-append-le}
use Rattle.std.specs.Io.KnownBytes.{Appends}
use Rattle.dap_outside.specs.Streams.{AppendsFront}
use Rattle.xdr_encode.specs.Streamed.{Stops, StopsAtFault, Streams, streamed_of}
use Rattle.xdr_encode.specs.declared.fault.Fault.{Fault}
use Rattle.xdr_encode.specs.declared.fault.Fault.TheVariants.{Shelf, Sink}
use Rattle.join_source.proofs.Walk.{nothing-begun}
use Rattle.join_source.specs.Begun.{HaveBegun}
use Rattle.join_source.specs.Pieces.{pieces_xdr}
use Rattle.join_source.specs.declared.piece.Piece.{Piece}

module _ (head : List ℕ) (pieces : List Piece) (files : List (List ℕ)) (w0 w w' : Option (List ℕ)) (a a' : ℕ) where
  -- in the head
  pub stops-in-head : AppendsFront w0 w' head → a' ≤ a → Stops (head ++ pieces_xdr pieces files) (λ put asked. HaveBegun pieces files (length head) put asked) w0 w' a a'
  stops-in-head (k, le, front) same = record {
    put = k;
    within = omega (arith, le, length-append head (pieces_xdr pieces files));
    front = subst (Appends w0 w') (sym (take-append-le k head (pieces_xdr pieces files) (omega (arith, le)))) front;
    most = 0;
    may = nothing-begun files pieces (length head) k;
    few = omega (arith, same);
  }

  stops-behind : Appends w0 w head → Stops (pieces_xdr pieces files) (λ put asked. HaveBegun pieces files (length head) (length head + put) asked) w w' a a'
      → Stops (head ++ pieces_xdr pieces files) (λ put asked. HaveBegun pieces files (length head) put asked) w0 w' a a'
  stops-behind gone s = record {
    put = length head + s.put;
    within = omega (arith, s.within, length-append head (pieces_xdr pieces files));
    front = subst (Appends w0 w') (sym (take-append-add head (pieces_xdr pieces files) s.put)) (Appends-trans w0 w w' head (take s.put (pieces_xdr pieces files)) gone s.front);
    most = s.most;
    may = s.may;
    few = s.few;
  }

  front-of : Stops (head ++ pieces_xdr pieces files) (λ put asked. HaveBegun pieces files (length head) put asked) w0 w' a a' → AppendsFront w0 w' (head ++ pieces_xdr pieces files)
  front-of s = (s.put, s.within, s.front)

  pub body-streams : {T : Type 0} (r : Result T Fault) → Appends w0 w head → OnOk r (Appends w w' (pieces_xdr pieces files))
      → OnErr r (Stops (pieces_xdr pieces files) (λ put asked. HaveBegun pieces files (length head) (length head + put) asked) w w' a a') → Streams (streamed_of r) w0 w' (head ++ pieces_xdr pieces files)
  body-streams (Ok x) gone put stops = Appends-trans w0 w w' head (pieces_xdr pieces files) gone put
  body-streams (Err Shelf) gone put stops = front-of (stops-behind gone stops)
  body-streams (Err Sink) gone put stops = front-of (stops-behind gone stops)

  pub body-stops : {T : Type 0} (r : Result T Fault) → Appends w0 w head
      → OnErr r (Stops (pieces_xdr pieces files) (λ put asked. HaveBegun pieces files (length head) (length head + put) asked) w w' a a')
      → StopsAtFault (streamed_of r) (head ++ pieces_xdr pieces files) (λ put asked. HaveBegun pieces files (length head) put asked) w0 w' a a'
  body-stops (Ok x) gone stops = tt
  body-stops (Err Shelf) gone stops = stops-behind gone stops
  body-stops (Err Sink) gone stops = stops-behind gone stops
