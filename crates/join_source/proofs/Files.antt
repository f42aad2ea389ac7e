-- One of several files is read, and the others stay as they are.
use Rattle.std.proofs.Common.{◌≡◌, ℕ, zero, suc, ◌<◌, List, [], ◌∷◌, length, map, get_or, Option, Some, Result, Ok, Err, OnOk, OnErr, slice_index_or, slice_set, refl, sym, ap, ◌∙◌, subst, arith}
use Rattle.std.proofs.lemmas.List.{length-map}
use Rattle.std.specs.Io.KnownBytes.{Appends}
use Rattle.hyperslab_plan.specs.declared.plan.Plan.{Plan}
use Rattle.xdr_encode.specs.Elements.{AreInside, StopsAt, forms_from}
use Rattle.join_source.specs.Pieces.{AreTold, IsInside, PieceStops, file_in, piece_xdr}
use Rattle.join_source.specs.declared.piece.Piece.{Piece}
use Rattle.join_source.specs.declared.piece.Piece.TheVariants.{Elements}

pub on_ok-map : {T E P Q : Type 0} (r : Result T E) → (P → Q) → OnOk r P → OnOk r Q
on_ok-map (Ok x) f p = f p
on_ok-map (Err e) f p = tt

pub on_err-map : {T E P Q : Type 0} (r : Result T E) → (P → Q) → OnErr r P → OnErr r Q
on_err-map (Ok x) f p = tt
on_err-map (Err e) f p = f p

module _ {A B : Type 0} where
  set-same : (f : A → B) (xs : List A) (i : ℕ) (d x : A) → f x ≡ f (slice_index_or xs i d) → map f (slice_set xs i x) ≡ map f xs
  set-same f [] i d x same = refl
  set-same f (y ∷ ys) zero d x same = ap (λ z. z ∷ map f ys) same
  set-same f (y ∷ ys) (suc i) d x same = ap (λ zs. f y ∷ zs) (set-same f ys i d x same)

  -- an item is replaced by one that is told alike
  pub replaced : (f g : A → B) (xs : List A) (i : ℕ) (d x : A) → g ≡ f → g x ≡ f (slice_index_or xs i d) → map g (slice_set xs i x) ≡ map f xs
  replaced f g xs i d x is same = ap (λ h. map h (slice_set xs i x)) is ∙ set-same f xs i d x (sym (ap (λ h. h x) is) ∙ same)

pub told-at : {A : Type 0} (f : A → Option (List ℕ)) (xs : List A) (contents : List (List ℕ)) (i : ℕ) (d : A) → AreTold (map f xs) contents → i < length xs → f (slice_index_or xs i d) ≡ Some (file_in contents i)
told-at f [] contents i d told lt = absurd (omega (arith, lt))
told-at f (x ∷ xs) [] i d told lt = absurd cc
told-at f (x ∷ xs) (bytes ∷ contents) zero d told lt = head told
  where
    head : f x ∷ map f xs ≡ Some bytes ∷ map Some contents → f x ≡ Some bytes
    head e = cc
told-at f (x ∷ xs) (bytes ∷ contents) (suc i) d told lt = told-at f xs contents i d (tail told) (omega (arith, lt))
  where
    tail : f x ∷ map f xs ≡ Some bytes ∷ map Some contents → map f xs ≡ map Some contents
    tail e = cc

size-at : {A : Type 0} (f : A → ℕ) (xs : List A) (i : ℕ) (d : A) → i < length xs → get_or (map f xs) i 0 ≡ f (slice_index_or xs i d)
size-at f [] i d lt = absurd (omega (arith, lt))
size-at f (x ∷ xs) zero d lt = refl
size-at f (x ∷ xs) (suc i) d lt = size-at f xs i d (omega (arith, lt))

module _ {A : Type 0} (size : A → ℕ) (files : List A) (piece : Piece) (member : ℕ) (plan : Plan) (is : piece ≡ Elements member plan) (inside : IsInside (map size files) piece) where
  parts : (member < length (map size files)) × AreInside plan (get_or (map size files) member 0)
  unfolding IsInside
  parts = subst (IsInside (map size files)) is inside

  pub is-member : member < length files
  is-member = omega (arith, parts.0, length-map files size)

  pub are-inside : (d : A) → AreInside plan (size (slice_index_or files member d))
  are-inside d = subst (AreInside plan) (size-at size files member d is-member) parts.1

-- what a piece of elements is, and where it stops
pub elements-put : (piece : Piece) (member : ℕ) (plan : Plan) (contents : List (List ℕ)) (old new : Option (List ℕ)) → piece ≡ Elements member plan
    → Appends old new (forms_from plan (file_in contents member) 0 plan.total) → Appends old new (piece_xdr piece contents)
unfolding piece_xdr
elements-put piece member plan contents old new is put = subst (λ p. Appends old new (piece_xdr p contents)) (sym is) put

pub elements-stop : (piece : Piece) (member : ℕ) (plan : Plan) (contents : List (List ℕ)) (old new : Option (List ℕ)) (asked asked' : ℕ) → piece ≡ Elements member plan
    → StopsAt plan (file_in contents member) old new asked asked' → PieceStops piece contents old new asked asked'
unfolding PieceStops
elements-stop piece member plan contents old new asked asked' is stops = subst (λ p. PieceStops p contents old new asked asked') (sym is) stops
