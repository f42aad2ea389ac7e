-- Tests of fields.
use Rattle.std.proofs.Common.{◌≡◌, ℕ, suc, codes, take, drop, drop-cons, inl, inr, ◌⊎◌, ◌<◌, Bool, true, false, cond, not, List, [], ◌∷◌, ◌++◌, length, map, get_or, refl, sym, ap, ◌∙◌}
use Rattle.std.specs.Prelude.{◌||◌, ◌&&◌}
use Rattle.std.specs.List.{list_all, list_any}
use Rattle.std.proofs.lemmas.List.Folds.{list_all-append, list_any-append}
use Rattle.std.proofs.lemmas.Grind.{flat_map-append}
use Rattle.dap_http.specs.Fields.{is_named, value_of, values_of}
use Rattle.std.specs.Str.{bytes_eq, str_eq_ignore_ascii_case}
use Rattle.std.specs.Str.Parse.{digits_value}
use Rattle.std.proofs.lemmas.List.{map-append, take-append-drop}
use Rattle.std.proofs.lemmas.Slice.Eq.{bytes_eq-Decides}
use Rattle.reply_faults.specs.declared.bad.Bad.TheVariants as bad
use Rattle.dap_http.specs.Replies.{coding_by, is_length, length_of}
use Rattle.dap_http.specs.inner.ReplyJudging.{differs, is_otherwise}
use Rattle.dap_http.specs.declared.coding.Coding.TheVariants.{Chunked, Length}
use Rattle.dap_http.specs.declared.coding.Coding.{Coding}
use Rattle.reply_faults.specs.declared.bad.Bad.{Bad}

or-false : (b : Bool) (c : Bool) → ((b || false) || c) ≡ (b || c)
or-false true c = refl
or-false false c = refl

-- a test on the values of a name, as one on fields
pub any-values : (p : List ℕ → Bool) (name : List ℕ) (fields : List (List ℕ × List ℕ)) → list_any p (values_of name fields) ≡ list_any (λ f. is_named name f && p f.1) fields
any-values p name [] = refl
any-values p name (f ∷ fields) = list_any-append p (value_of name f) (values_of name fields) ∙ ap (λ b. list_any p (value_of name f) || b) (any-values p name fields) ∙ go (is_named name f) where
  go : (t : Bool) → (list_any p (cond t (f.1 ∷ []) []) || list_any (λ g. is_named name g && p g.1) fields) ≡ ((t && p f.1) || list_any (λ g. is_named name g && p g.1) fields)
  go true = or-false (p f.1) (list_any (λ g. is_named name g && p g.1) fields)
  go false = refl

pub all-values : (p : List ℕ → Bool) (name : List ℕ) (fields : List (List ℕ × List ℕ)) → list_all p (values_of name fields) ≡ not (list_any (λ f. is_named name f && not (p f.1)) fields)
all-values p name [] = refl
all-values p name (f ∷ fields) = list_all-append p (value_of name f) (values_of name fields) ∙ ap (λ b. list_all p (value_of name f) && b) (all-values p name fields) ∙ go (is_named name f) (p f.1) refl where
  go : (t q : Bool) → p f.1 ≡ q → (list_all p (cond t (f.1 ∷ []) []) && not (list_any (λ g. is_named name g && not (p g.1)) fields)) ≡ not ((t && not q) || list_any (λ g. is_named name g && not (p g.1)) fields)
  go true true e = rw e refl
  go true false e = rw e refl
  go false q e = refl

pub values-more : (name : List ℕ) (f : List ℕ × List ℕ) (a b : List (List ℕ × List ℕ)) → values_of name a ≡ [] → is_named name f ≡ true → values_of name (a ++ f ∷ b) ≡ f.1 ∷ values_of name b
values-more name f a b none is =
    flat_map-append (value_of name) a (f ∷ b) ∙ ap (λ l. l ++ (value_of name f ++ values_of name b)) none ∙ ap (λ t. cond t (f.1 ∷ []) [] ++ values_of name b) is

pub first-there : {X : Type 0} (h : X → List ℕ × List ℕ) (name : List ℕ) (xs : List X) (i : ℕ) (d : X) → i < length xs → values_of name (map h (take i xs)) ≡ [] → is_named name (h (get_or xs i d)) ≡ true
    → values_of name (map h xs) ≡ (h (get_or xs i d)).1 ∷ values_of name (map h (drop (suc i) xs))
first-there h name xs i d lt none is =
    let cut : xs ≡ take i xs ++ get_or xs i d ∷ drop (suc i) xs = sym (take-append-drop i xs) ∙ ap (λ t. take i xs ++ t) (drop-cons xs i d lt) in
    ap (λ t. values_of name (map h t)) cut ∙ ap (values_of name) (map-append h (take i xs) (get_or xs i d ∷ drop (suc i) xs))
    ∙ values-more name (h (get_or xs i d)) (map h (take i xs)) (map h (drop (suc i) xs)) none is

pub told-length : (fields : List (List ℕ × List ℕ)) (v : List ℕ) (vs : List (List ℕ)) (t : Bool) → values_of (codes "Content-Length") fields ≡ v ∷ vs
    → t ≡ (is_length v && not (list_any (differs (codes "Content-Length") v) fields))
    → length_of (values_of (codes "Content-Length") fields) ≡ cond t (inr (Length (digits_value 10 v))) (inl bad.BadHead)
told-length fields v vs t e is =
    let own : bytes_eq v v ≡ true = (bytes_eq-Decides v v).1 refl in
    let all : list_all (λ o. bytes_eq o v) vs ≡ not (list_any (differs (codes "Content-Length") v) fields) =
    sym (ap (λ b. b && list_all (λ o. bytes_eq o v) vs) own) ∙ ap (list_all (λ o. bytes_eq o v)) (sym e) ∙ all-values (λ o. bytes_eq o v) (codes "Content-Length") fields in
    ap length_of e ∙ ap (λ b. cond (is_length v && b) (inr (Length (digits_value 10 v))) (inl bad.BadHead)) all ∙ ap (λ b. cond b (inr (Length (digits_value 10 v))) (inl bad.BadHead)) (sym is)

abbrev pub by-cases : List (List ℕ × List ℕ) → Bool → Bad ⊎ Coding
by-cases fields t =
    cond t (inl bad.Coded) (cond (list_any (λ v. true) (values_of (codes "Transfer-Encoding") fields)) (inr Chunked) (length_of (values_of (codes "Content-Length") fields)))

pub coding-is : (fields : List (List ℕ × List ℕ)) (t : Bool)
    → t ≡ (list_any (is_otherwise (codes "Transfer-Encoding") (codes "chunked")) fields || list_any (is_otherwise (codes "Content-Encoding") (codes "identity")) fields)
    → coding_by fields ≡ by-cases fields t
coding-is fields t is =
    let a = any-values (λ v. not (str_eq_ignore_ascii_case v (codes "chunked"))) (codes "Transfer-Encoding") fields in
    let b = any-values (λ v. not (str_eq_ignore_ascii_case v (codes "identity"))) (codes "Content-Encoding") fields in
    ap (λ x. by-cases fields (x || list_any (λ v. not (str_eq_ignore_ascii_case v (codes "identity"))) (values_of (codes "Content-Encoding") fields))) a
    ∙ ap (λ x. by-cases fields (list_any (is_otherwise (codes "Transfer-Encoding") (codes "chunked")) fields || x)) b ∙ ap (by-cases fields) (sym is)
