-- How a parser that reads from the left shows where a text first goes wrong.
use Rattle.std.proofs.Common.{◌≡◌, ℕ, ◌+◌, ◌<◌, List, [], ◌∷◌, ◌++◌, length, take, refl, sym, ap, Bool, IsTrue, ◌∙◌, append_assoc, arith, length-append, append-nil}
use Rattle.std.proofs.Math.Seq.{take-append_seam, take-append-add}
use Rattle.std.specs.List.{list_all}
use Rattle.viable.specs.Prefix.{Begins, IsFault}
use Rattle.viable.specs.inner.Standing.{SameHead, Stands}

pub same_head_itself : {A : Type 0} (xs : List A) → SameHead xs xs
same_head_itself [] = tt
same_head_itself (x ∷ xs) = refl

pub same_head_append : {A : Type 0} (front : List A) (xs ys : List A) → SameHead xs ys → SameHead (front ++ xs) (front ++ ys)
same_head_append [] xs ys h = h
same_head_append (x ∷ front) xs ys h = refl

-- the parser goes on over `front` to another state
pub moves : {A V S : Type 0} {Rest : S → List A → V → Type 0} {Language : List A → V → Type 0} {text : List A} {at : ℕ} {state : S}
    (st : Stands Rest Language text at state) (front rest : List A) (at' : ℕ) (next : S)
    → st.after ≡ front ++ rest
    → at' ≡ at + length front
    → ((more : List A) (v : V) → Rest next more v → Rest state (front ++ more) v)
    → ((more : List A) (v : V) → SameHead more rest → Rest state (front ++ more) v → Rest next more v)
    → Stands Rest Language text at' next
moves {A} {V} {S} {Rest} {Language} {text} {at} {state} st front rest at' next e p back on = record {
  before = st.before ++ front;
  after = rest;
  whole = st.whole ∙ ap (λ (x : List A). st.before ++ x) e ∙ sym (append_assoc st.before front rest);
  place = let q : at ≡ length st.before = st.place in omega (arith, length-append st.before front, p, q);
  sound = λ more v r. rw append_assoc (st.sound (front ++ more) v (back more v r));
  complete = λ more v h r.
      on more v h (st.complete (front ++ more) v
      (rw e (same_head_append front more rest h))
      (rw append_assoc at r));
}

-- Nothing goes on behind `inside`, which stands after what was read.
pub faults_inside : {A V S : Type 0} {is_symbol : A → Bool} {Rest : S → List A → V → Type 0} {Language : List A → V → Type 0} {text : List A} {at : ℕ} {state : S}
    (st : Stands Rest Language text at state) (inside rest : List A) (place : ℕ)
    → st.after ≡ inside ++ rest
    → place ≡ at + length inside
    → ((more : List A) × IsTrue (list_all is_symbol more) × (v : V) × Rest state (inside ++ more) v)
    → (rest ≡ [] → (v : V) → Rest state inside v → ⊥)
    → ((b : A) (bs : List A) → rest ≡ b ∷ bs → (more : List A) (v : V) → Rest state (inside ++ b ∷ more) v → ⊥)
    → IsFault is_symbol Language text place
faults_inside {A} {V} {S} {is_symbol} {Rest} {Language} {text} {at} {state} st inside rest place e p live at_end dead =
    record {
      spells_none = none rest e at_end dead;
      within = let w : length text ≡ length ((st.before ++ inside) ++ rest) = ap length whole' in omega (arith, w, length-append (st.before ++ inside) rest, places);
      viable = (live.0, live.1, live.2, rw (front_is, append_assoc) (st.sound (inside ++ live.0) live.2 live.3));
      longest = longest rest e dead whole';
    }
  where
    whole' : text ≡ (st.before ++ inside) ++ rest
    whole' = st.whole ∙ ap (λ (x : List A). st.before ++ x) e ∙ sym (append_assoc st.before inside rest)

    places : place ≡ length (st.before ++ inside)
    places = let q : at ≡ length st.before = st.place in omega (arith, length-append st.before inside, p, q)

    front_is : take place text ≡ st.before ++ inside
    front_is = rw (places, whole') (take-append_seam (st.before ++ inside) rest)

    none : (rest' : List A) → st.after ≡ inside ++ rest'
        → (rest' ≡ [] → (v : V) → Rest state inside v → ⊥)
        → ((b : A) (bs : List A) → rest' ≡ b ∷ bs → (more : List A) (v : V) → Rest state (inside ++ b ∷ more) v → ⊥)
        → (v : V) → Language text v → ⊥
    none [] e' h g v r = h refl v (rw append-nil at (rw e' at (st.complete st.after v (same_head_itself st.after) (rw st.whole at r))))
    none (b ∷ bs) e' h g v r = g b bs refl bs v (rw e' at (st.complete st.after v (same_head_itself st.after) (rw st.whole at r)))

    longest : (rest' : List A) → st.after ≡ inside ++ rest'
        → ((b : A) (bs : List A) → rest' ≡ b ∷ bs → (more : List A) (v : V) → Rest state (inside ++ b ∷ more) v → ⊥)
        → text ≡ (st.before ++ inside) ++ rest'
        → place < length text → Begins is_symbol Language (take (place + 1) text) → ⊥
    longest [] e' g w lt begins =
        let n : length text ≡ length ((st.before ++ inside) ++ []) = ap length w in
        omega (arith, n, length-append (st.before ++ inside) [], places)
    longest (b ∷ bs) e' g w lt (more, symbols, v, r) =
        let front : take (place + 1) text ≡ (st.before ++ inside) ++ b ∷ [] = rw (places, w) (take-append-add (st.before ++ inside) (b ∷ bs) 1) in
        let spelled : Language (st.before ++ (inside ++ b ∷ more)) v = simp append_assoc at (rw front at r) in
        g b bs refl more v (st.complete (inside ++ b ∷ more) v (rw e' (same_head_append inside (b ∷ more) (b ∷ bs) refl)) spelled)
