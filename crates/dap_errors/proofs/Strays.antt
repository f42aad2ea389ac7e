-- What stands behind an object, as a reader finds it.
use Rattle.std.proofs.Common.{◌≡◌, ◌≢◌, List, ◌∷◌, ◌++◌, ℕ, ◌+◌, ◌<◌, ◌≤◌, length, drop, get_or, refl, sym, ap, ◌∙◌, append_assoc, append-nil, not, IsTrue, arith, inl, inr, length-append}
use Rattle.std.proofs.lemmas.List.{drop_all}
use Rattle.plain_lemmas.proofs.Lists.{drop_next}
use Rattle.viable.specs.Runs.{IsRunTo}
use Rattle.text_tokens.specs.Tokens.{is_white}
use Rattle.dap_errors.specs.Reading.{IsEnd, IsStray}

abbrev pub White : List ℕ → ℕ → ℕ → Type 0
White text from to = (run : List ℕ) × IsRunTo is_white text from to run

unwhite : (text : List ℕ) (from to : ℕ) → White text from to → to < length text → IsTrue (not (is_white (get_or text to 0)))
unwhite text from to (run, r) h = let d : drop to text ≡ get_or text to 0 ∷ drop (to + 1) text = drop_next text to h in (rw d at r.longest)

pub white_end_is : (text : List ℕ) (from to : ℕ) → White text from to → length text ≤ to → IsEnd (drop from text)
white_end_is text from to (run, r) h =
    let e : drop from text ≡ run = r.is_run_of.whole ∙ ap (λ (x : List ℕ). run ++ x) (drop_all to text h) ∙ append-nil run in
    inl (rw e r.is_run_of.of_class)

pub stray_is : (text : List ℕ) (from to : ℕ) → White text from to → to < length text → get_or text to 0 ≢ 59 → (count : ℕ) × IsStray (drop from text) count × (to ≡ from + count)
stray_is text from to (run, r) h other =
    (length run, (run, drop (to + 1) text, get_or text to 0, r.is_run_of.whole ∙ ap (λ (x : List ℕ). run ++ x) (drop_next text to h), refl, unwhite text from to (run, r) h, inl (r.is_run_of.of_class, other)), r.is_run_of.to_is)

-- white space, a semicolon and white space stand before `end`
behind_semicolon : (text : List ℕ) (from semicolon end : ℕ) (a : White text from semicolon) (b : White text (semicolon + 1) end) → semicolon < length text → get_or text semicolon 0 ≡ 59 → drop from text ≡ (a.0 ++ 59 ∷ b.0) ++ drop end text
behind_semicolon text from semicolon end (before, a) (after, b) h is =
    a.is_run_of.whole ∙ ap (λ (x : List ℕ). before ++ x) (drop_next text semicolon h ∙ ap (λ (x : ℕ). x ∷ drop (semicolon + 1) text) is ∙ ap (λ (x : List ℕ). 59 ∷ x) b.is_run_of.whole)
    ∙ sym (append_assoc before (59 ∷ after) (drop end text))

pub semicolon_end_is : (text : List ℕ) (from semicolon end : ℕ) → White text from semicolon → White text (semicolon + 1) end → semicolon < length text → get_or text semicolon 0 ≡ 59 → length text ≤ end → IsEnd (drop from text)
semicolon_end_is text from semicolon end a b h is over =
    inr (
      a.0,
      b.0,
      a.1.is_run_of.of_class,
      b.1.is_run_of.of_class,
      behind_semicolon text from semicolon end a b h is ∙ ap (λ (x : List ℕ). (a.0 ++ 59 ∷ b.0) ++ x) (drop_all end text over) ∙ append-nil (a.0 ++ 59 ∷ b.0),
    )

pub semicolon_stray_is : (text : List ℕ) (from semicolon end : ℕ) → White text from semicolon → White text (semicolon + 1) end → semicolon < length text → get_or text semicolon 0 ≡ 59 → end < length text
    → (count : ℕ) × IsStray (drop from text) count × (end ≡ from + count)
semicolon_stray_is text from semicolon end a b h is lt = (
  length (a.0 ++ 59 ∷ b.0),
  (
    a.0 ++ 59 ∷ b.0,
    drop (end + 1) text,
    get_or text end 0,
    behind_semicolon text from semicolon end a b h is ∙ ap (λ (x : List ℕ). (a.0 ++ 59 ∷ b.0) ++ x) (drop_next text end lt),
    refl,
    unwhite text (semicolon + 1) end b lt,
    inr (a.0, b.0, a.1.is_run_of.of_class, b.1.is_run_of.of_class, refl),
  ),
  let p : semicolon ≡ from + length a.0 = a.1.is_run_of.to_is in let q : end ≡ (semicolon + 1) + length b.0 = b.1.is_run_of.to_is in omega (arith, p, q, length-append a.0 (59 ∷ b.0)),
)
