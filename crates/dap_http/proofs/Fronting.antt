-- What a sink has gained of a body that is put framed to it.
use Rattle.std.proofs.Common.{◌≡◌, ℕ, ◌<◌, Bool, List, [], ◌++◌, length, take, drop, Option, Some, None, inl, ap, sym, ◌∙◌, subst, arith, length-drop, take-append-drop}
use Rattle.std.specs.Io.KnownBytes.{Appends}
use Rattle.dap_outside.specs.Streams.{AppendsFront}
use Rattle.dap_http.specs.Frames.{IsProperFront, framed}
use Rattle.dap_http.specs.Framings.{IsUnfinished}

pub start-same : {A G : Type 0} (x y : A × G × Option (List ℕ) × Bool × List ℕ) → x ≡ y → x.2 ≡ y.2
start-same {A} {G} x y e = ap (λ (t : A × G × Option (List ℕ) × Bool × List ℕ). t.2) e

pub chunked-same : {A G : Type 0} (x y : A × G × Option (List ℕ) × Bool × List ℕ) → x ≡ y → x.3 ≡ y.3
chunked-same {A} {G} x y e = ap (λ (t : A × G × Option (List ℕ) × Bool × List ℕ). t.3) e

pub front-same : {A G : Type 0} (x y : A × G × Option (List ℕ) × Bool × List ℕ) → x ≡ y → x.4 ≡ y.4
front-same {A} {G} x y e = ap (λ (t : A × G × Option (List ℕ) × Bool × List ℕ). t.4) e

-- the body that was put
told-body : (fr fr' : Option (List ℕ)) (text : List ℕ) → fr ≡ Some [] → Appends fr fr' text → fr' ≡ Some text
told-body fr fr' text e p = go fr' (subst (λ (o : Option (List ℕ)). Appends o fr' text) e p) where
  go : (o : Option (List ℕ)) → Appends (Some []) o text → o ≡ Some text
  go None q = elim q [ ]
  go (Some ys) q = ap Some q

-- it is ended
pub end-whole : (w fr fr' start start' out : Option (List ℕ)) (ck ck' : Bool) (front front' text : List ℕ) → fr ≡ Some [] → start ≡ w → start' ≡ start → ck' ≡ ck → front' ≡ front → Appends fr fr' text
    → ((body : List ℕ) → fr' ≡ Some body → Appends start' out (front' ++ framed ck' body)) → Appends w out (front ++ framed ck text)
end-whole w fr fr' start start' out ck ck' front front' text e s s' k f p law =
    let all = law text (told-body fr fr' text e p) in
    subst (λ o. Appends o out (front ++ framed ck text)) (s' ∙ s) (subst (Appends start' out) (ap (λ t. t ++ framed ck' text) f ∙ ap (λ b. front ++ framed b text) k) all)

-- its end failed
pub end-front : (w fr fr' start start' out : Option (List ℕ)) (ck ck' : Bool) (front front' text : List ℕ) → fr ≡ Some [] → start ≡ w → start' ≡ start → ck' ≡ ck → front' ≡ front → Appends fr fr' text
    → ((body : List ℕ) → fr' ≡ Some body → (part : List ℕ) × Appends start' out part × IsProperFront part (front' ++ framed ck' body)) → (part : List ℕ) × Appends w out part × IsProperFront part (front ++ framed ck text)
end-front w fr fr' start start' out ck ck' front front' text e s s' k f p law =
    let (part, appends, proper) = law text (told-body fr fr' text e p) in
    (part, subst (λ o. Appends o out part) (s' ∙ s) appends, subst (IsProperFront part) (ap (λ t. t ++ framed ck' text) f ∙ ap (λ b. front ++ framed b text) k) proper)

-- it was let go before its end
pub stop-front : (w fr fr' start start' out : Option (List ℕ)) (ck ck' : Bool) (front front' text : List ℕ) → fr ≡ Some [] → start ≡ w → start' ≡ start → ck' ≡ ck → front' ≡ front → AppendsFront fr fr' text
    → ((body more : List ℕ) → fr' ≡ Some body → IsUnfinished ck' more → (part : List ℕ) × Appends start' out part × IsProperFront part (front' ++ framed ck' (body ++ more)))
    → (part : List ℕ) × Appends w out part × IsProperFront part (front ++ framed ck text)
stop-front w fr fr' start start' out ck ck' front front' text e s s' k f (n, less, p) law =
    let some : 0 < length (drop n text) = omega (arith, less, length-drop n text) in
    let (part, appends, proper) = law (take n text) (drop n text) (told-body fr fr' (take n text) e p) (inl some) in
    let whole : IsProperFront part (front' ++ framed ck' text) = subst (λ l. IsProperFront part (front' ++ framed ck' l)) (take-append-drop n text) proper in
    (part, subst (λ o. Appends o out part) (s' ∙ s) appends, subst (IsProperFront part) (ap (λ t. t ++ framed ck' text) f ∙ ap (λ b. front ++ framed b text) k) whole)

-- it was broken off before its end
pub broken-front : (w fr fr' start start' out : Option (List ℕ)) (ck ck' : Bool) (front front' text : List ℕ) → fr ≡ Some [] → start ≡ w → start' ≡ start → ck' ≡ ck → front' ≡ front → AppendsFront fr fr' text
    → ((body more : List ℕ) → fr' ≡ Some body → IsUnfinished ck' more → (part : List ℕ) × Appends start' out (front' ++ part) × IsProperFront part (framed ck' (body ++ more)))
    → (part : List ℕ) × Appends w out (front ++ part) × IsProperFront part (framed ck text)
broken-front w fr fr' start start' out ck ck' front front' text e s s' k f (n, less, p) law =
    let some : 0 < length (drop n text) = omega (arith, less, length-drop n text) in
    let (part, appends, proper) = law (take n text) (drop n text) (told-body fr fr' (take n text) e p) (inl some) in
    let whole : IsProperFront part (framed ck' text) = subst (λ l. IsProperFront part (framed ck' l)) (take-append-drop n text) proper in
    (part, subst (λ o. Appends o out (front ++ part)) (s' ∙ s) (subst (λ t. Appends start' out (t ++ part)) f appends), subst (λ b. IsProperFront part (framed b text)) k whole)
