-- A name is undone escape by escape.
use Rattle.std.proofs.Common.{◌≡◌, ℕ, ◌+◌, ◌<◌, ◌≤◌, Bool, true, false, List, [], ◌∷◌, ◌++◌, length, drop, Option, Some, None, option_map, ◌==◌, refl, sym, ap, ◌∙◌, arith, append_assoc, append-nil, if◌then◌else◌}
use Rattle.std.proofs.lemmas.List.{drop_all, drop-drop}
use Rattle.netcdf_writer.specs.Names.{before, plain, escaped, undone}
use Rattle.netcdf_writer.specs.inner.Undoing.{first_byte}

-- the bytes so far, before those of the rest
abbrev pub behind : List ℕ → Option (List ℕ) → Option (List ℕ)
behind front (Some rest) = Some (front ++ rest)
behind front None = None

abbrev same_pair : ℕ → ℕ → Option ℕ → ℕ → Type 0
same_pair b n o m = option_map {U = ℕ × ℕ} (λ x. (x, m)) o ≡ Some (b, n)

abbrev first_or : Option (ℕ × ℕ) → ℕ
first_or None = 0
first_or (Some p) = p.0

abbrev second_or : Option (ℕ × ℕ) → ℕ
second_or None = 0
second_or (Some p) = p.1

step_of : (o : Option ℕ) (m b n : ℕ) (name : List ℕ) → same_pair b n o m → before o (undone (drop m name)) ≡ before (Some b) (undone (drop n name))
step_of None m b n name e = cc
step_of (Some x) m b n name e =
    let p : x ≡ b = ap first_or e in
    let q : m ≡ n = ap second_or e in
    rw (p, q) refl

none_of : (o : Option ℕ) (m : ℕ) (r : Option (List ℕ)) → Path (Option (ℕ × ℕ)) (option_map {U = ℕ × ℕ} (λ x. (x, m)) o) None → before o r ≡ None
none_of None m r e = refl
none_of (Some x) m r e = cc

pub undone_step : (name : List ℕ) (b n : ℕ) → first_byte name ≡ Some (b, n) → undone name ≡ before (Some b) (undone (drop n name))
unfolding undone
undone_step [] b n e = cc
undone_step (a ∷ []) b n e = step_of (plain a) 1 b n (a ∷ []) e
undone_step (a ∷ c ∷ []) b n e = step_of (plain a) 1 b n (a ∷ c ∷ []) e
undone_step (a ∷ c ∷ d ∷ rest) b n e = chosen (a == 37) e
  where
    chosen : (k : Bool) → (if k then option_map {U = ℕ × ℕ} (λ x. (x, 3)) (escaped c d) else option_map {U = ℕ × ℕ} (λ x. (x, 1)) (plain a)) ≡ Some (b, n)
        → (if k then before (escaped c d) (undone rest) else before (plain a) (undone (c ∷ d ∷ rest))) ≡ before (Some b) (undone (drop n (a ∷ c ∷ d ∷ rest)))
    chosen true e = step_of (escaped c d) 3 b n (a ∷ c ∷ d ∷ rest) e
    chosen false e = step_of (plain a) 1 b n (a ∷ c ∷ d ∷ rest) e

pub undone_none : (name : List ℕ) → 0 < length name → first_byte name ≡ None → undone name ≡ None
unfolding undone
undone_none [] lt e = absurd (omega arith)
undone_none (a ∷ []) lt e = none_of (plain a) 1 (Some []) e
undone_none (a ∷ c ∷ []) lt e = none_of (plain a) 1 (undone (c ∷ [])) e
undone_none (a ∷ c ∷ d ∷ rest) lt e = chosen (a == 37) e
  where
    chosen : (k : Bool) → (if k then option_map {U = ℕ × ℕ} (λ x. (x, 3)) (escaped c d) else option_map {U = ℕ × ℕ} (λ x. (x, 1)) (plain a)) ≡ None
        → (if k then before (escaped c d) (undone rest) else before (plain a) (undone (c ∷ d ∷ rest))) ≡ None
    chosen true e = none_of (escaped c d) 3 (undone rest) e
    chosen false e = none_of (plain a) 1 (undone (c ∷ d ∷ rest)) e

pub undone_end : undone [] ≡ Some []
unfolding undone
undone_end = refl

-- one more byte behind those before
behind_before : (front : List ℕ) (b : ℕ) (r : Option (List ℕ)) → behind front (before (Some b) r) ≡ behind (front ++ b ∷ []) r
behind_before front b (Some rest) = ap Some (sym (append_assoc front (b ∷ []) rest))
behind_before front b None = refl

pub undo_more : (name front new : List ℕ) (at b n : ℕ) → undone name ≡ behind front (undone (drop at name)) → first_byte (drop at name) ≡ Some (b, n) → new ≡ front ++ b ∷ []
    → undone name ≡ behind new (undone (drop (at + n) name))
undo_more name front new at b n so step is =
    so ∙ ap (behind front) (undone_step (drop at name) b n step) ∙ behind_before front b (undone (drop n (drop at name))) ∙ ap (λ l. behind l (undone (drop n (drop at name)))) (sym is) ∙ ap (λ l. behind new (undone l)) (drop-drop n at name)

pub undo_stops : (name front : List ℕ) (at : ℕ) → undone name ≡ behind front (undone (drop at name)) → 0 < length (drop at name) → first_byte (drop at name) ≡ None → undone name ≡ None
undo_stops name front at so lt none = so ∙ ap (behind front) (undone_none (drop at name) lt none)

pub undo_ends : (name front : List ℕ) (at : ℕ) → undone name ≡ behind front (undone (drop at name)) → length name ≤ at → undone name ≡ Some front
undo_ends name front at so le = so ∙ ap (λ l. behind front (undone l)) (drop_all at name le) ∙ ap (behind front) undone_end ∙ ap Some (append-nil front)
