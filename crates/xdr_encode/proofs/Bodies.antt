-- What stands before the values is put, and then the leaves.
use Rattle.std.proofs.Common.{◌≡◌, ◌≢◌, ℕ, List, ◌++◌, Option, length, sym, ap, ◌∙◌, subst, Result, Ok, Err, OnOk, OnErr, IsOk}
use Rattle.std.proofs.KnownBytes.{Appends-trans}
use Rattle.std.specs.Io.KnownBytes.{Appends}
use Rattle.dap_outside.proofs.Fronts.{front_of, front_more}
use Rattle.dap_outside.specs.Streams.{AppendsFront}
use Rattle.xdr_encode.proofs.Beginning.{parts-xdr, stops-in-leaves}
use Rattle.xdr_encode.specs.Begun.{HaveBegun}
use Rattle.xdr_encode.specs.Faults.{HasCauses}
use Rattle.xdr_encode.specs.Sent.{LeavesStop, leaf_xdr, leaves_xdr}
use Rattle.xdr_encode.specs.Streamed.{streamed_of, Streams, RoseFor, StopsAtFault, StreamsAlone}
use Rattle.xdr_encode.specs.declared.fault.Fault.{Fault}
use Rattle.xdr_encode.specs.declared.fault.Fault.TheVariants.{Shelf, Sink}
use Rattle.xdr_encode.specs.declared.leaf.Leaf.{Leaf}
use Rattle.xdr_encode.specs.declared.streamed.Streamed.{Streamed}
use Rattle.xdr_encode.specs.declared.streamed.Streamed.TheVariants.{ShelfFault, WriteFault}

-- leaves that stop in part are a front
pub leaves-front : (leaves : List Leaf) (file : List ℕ) (w w' : Option (List ℕ)) (a a' : ℕ) → LeavesStop leaves file w w' a a' → AppendsFront w w' (leaves_xdr leaves file)
leaves-front leaves file w w' a a' s =
    subst (λ xs. AppendsFront w w' xs) (sym (ap (λ ls. leaves_xdr ls file) s.parts ∙ parts-xdr s.before s.leaf s.behind file))
    (front_more w s.then_written w' (leaves_xdr s.before file) (leaf_xdr s.leaf file ++ leaves_xdr s.behind file) s.gone
    (front_of s.then_written w' (leaf_xdr s.leaf file) (leaves_xdr s.behind file) (s.stops.put, s.stops.within, s.stops.front)))

module _ (r : Result (Unit {0}) Fault) (head : List ℕ) (leaves : List Leaf) (file : List ℕ) (w0 w w' : Option (List ℕ)) (a a' : ℕ) (gone : Appends w0 w head) where
  pub body-streams : OnOk r (Appends w w' (leaves_xdr leaves file)) → OnErr r (LeavesStop leaves file w w' a a') → Streams (streamed_of r) w0 w' (head ++ leaves_xdr leaves file)
  body-streams ok err = go r ok err
    where
      go : (r : Result (Unit {0}) Fault) → OnOk r (Appends w w' (leaves_xdr leaves file)) → OnErr r (LeavesStop leaves file w w' a a') → Streams (streamed_of r) w0 w' (head ++ leaves_xdr leaves file)
      go (Ok x) ok err = Appends-trans w0 w w' head (leaves_xdr leaves file) gone ok
      go (Err Shelf) ok err = front_more w0 w w' head (leaves_xdr leaves file) gone (leaves-front leaves file w w' a a' err)
      go (Err Sink) ok err = front_more w0 w w' head (leaves_xdr leaves file) gone (leaves-front leaves file w w' a a' err)

  pub body-stops : OnErr r (LeavesStop leaves file w w' a a') → StopsAtFault (streamed_of r) (head ++ leaves_xdr leaves file) (λ put asked. HaveBegun leaves file (length head) put asked) w0 w' a a'
  body-stops err = go r err
    where
      go : (r : Result (Unit {0}) Fault) → OnErr r (LeavesStop leaves file w w' a a') → StopsAtFault (streamed_of r) (head ++ leaves_xdr leaves file) (λ put asked. HaveBegun leaves file (length head) put asked) w0 w' a a'
      go (Ok x) err = tt
      go (Err Shelf) err = stops-in-leaves head leaves file w0 w w' a a' gone err
      go (Err Sink) err = stops-in-leaves head leaves file w0 w w' a a' gone err

-- without leaves
not-shelf-fault : (r : Result (Unit {0}) Fault) → IsOk r → streamed_of r ≢ ShelfFault
not-shelf-fault (Ok x) ok e = cc
not-shelf-fault (Err e) ok f = absurd cc

pub streams-alone : (r : Result (Unit {0}) Fault) (answer : Streamed) (text : List ℕ) (w0 w : Option (List ℕ)) → IsOk r → answer ≡ streamed_of r → Appends w0 w text → StreamsAlone answer w0 w text
streams-alone r answer text w0 w ok is put = subst (λ s. StreamsAlone s w0 w text) (sym is) (go r ok)
  where
    go : (r : Result (Unit {0}) Fault) → IsOk r → StreamsAlone (streamed_of r) w0 w text
    go (Ok x) ok = (put, not-shelf-fault (Ok x) ok)
    go (Err e) ok = absurd cc

pub write-fault-alone : (text : List ℕ) (w0 w : Option (List ℕ)) → AppendsFront w0 w text → StreamsAlone WriteFault w0 w text
write-fault-alone text w0 w front = (front, λ e. cc)

pub stream-causes : (r : Result (Unit {0}) Fault) (reads reads' puts puts' : ℕ) → HasCauses reads reads' puts puts' r → RoseFor (streamed_of r) reads reads' puts puts'
stream-causes (Ok x) reads reads' puts puts' c = c.kept
stream-causes (Err Shelf) reads reads' puts puts' c = c.failed
stream-causes (Err Sink) reads reads' puts puts' c = c.failed

-- what an answer says of each file
pub at-file : {T E : Type 0} (r : Result T E) (P : List ℕ → Type 0) (file : List ℕ) → OnOk r ((bytes : List ℕ) → P bytes) → OnOk r (P file)
at-file (Ok x) P file all = all file
at-file (Err e) P file all = tt

pub at-file-err : {T E : Type 0} (r : Result T E) (P : List ℕ → Type 0) (file : List ℕ) → OnErr r ((bytes : List ℕ) → P bytes) → OnErr r (P file)
at-file-err (Ok x) P file all = tt
at-file-err (Err e) P file all = all file

pub apply-ok : {T E : Type 0} (r : Result T E) (A B P : Type 0) → A → B → OnOk r (A → B → P) → OnOk r P
apply-ok (Ok x) A B P a b f = f a b
apply-ok (Err e) A B P a b f = tt

pub apply-err : {T E : Type 0} (r : Result T E) (A B P : Type 0) → A → B → OnErr r (A → B → P) → OnErr r P
apply-err (Ok x) A B P a b f = tt
apply-err (Err e) A B P a b f = f a b
