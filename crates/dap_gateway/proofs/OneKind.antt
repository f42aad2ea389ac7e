-- A request to the other server tells its kind.
use Rattle.std.proofs.Common.{◌≡◌, ℕ, Bool, true, false, not, ◌||◌, List, [], ◌∷◌, ◌++◌, length, drop, get_or, if◌then◌else◌, refl, sym, ap, ◌∙◌, arith, tests, append_assoc, length-append}
use Rattle.std.specs.Prelude.{IsTrue, codes, ◌==◌}
use Rattle.std.specs.List.{list_all}
use Rattle.std.proofs.Math.Seq.{drop-append_seam}
use Rattle.std.proofs.lemmas.Bool.{and_from, and_parts, false≢true}
use Rattle.plain_lemmas.proofs.Lists.{cons_first, cons_rest}
use Rattle.target_names.specs.Names.{is_name, is_name_byte, is_slash}
use Rattle.dap_http.specs.Targets.{Asked, suffix_of}
use Rattle.dap_http.specs.Texts.{escaped, query_text}
use Rattle.dap_http.specs.declared.kind.Kind.{Kind}
use Rattle.dap_http.specs.declared.kind.Kind.TheVariants.{Dds, Das, Dods, Ver}
use Rattle.dap_gateway.proofs.Keys.{first-line, name-all, same-line}
use Rattle.dap_gateway.specs.Upstream.{key_of}

-- ---- the path ends at the first `?` or blank

abbrev goes_on : ℕ → Bool
goes_on b = not (b == 63 || b == 32)

abbrev GoOn : List ℕ → Type 0
GoOn xs = list_all goes_on xs ≡ true

both : (xs ys : List ℕ) → GoOn xs → GoOn ys → GoOn (xs ++ ys)
both [] ys a b = b
both (x ∷ xs) ys a b = let (one, more) = and_parts (goes_on x) (list_all goes_on xs) a in and_from (goes_on x) (list_all goes_on (xs ++ ys)) one (both xs ys more b)

clash : (x s : ℕ) → goes_on x ≡ true → goes_on s ≡ false → x ≡ s → ⊥
clash x s on stop same = false≢true (sym stop ∙ sym (ap goes_on same) ∙ on)

first-stop : (xs ys us vs : List ℕ) (s t : ℕ) → GoOn xs → GoOn us → goes_on s ≡ false → goes_on t ≡ false → xs ++ s ∷ ys ≡ us ++ t ∷ vs → xs ≡ us
first-stop [] ys [] vs s t a b p q e = refl
first-stop [] ys (u ∷ us) vs s t a b p q e = absurd (clash u s (and_parts (goes_on u) (list_all goes_on us) b).0 p (sym (cons_first s u ys (us ++ t ∷ vs) e)))
first-stop (x ∷ xs) ys [] vs s t a b p q e = absurd (clash x t (and_parts (goes_on x) (list_all goes_on xs) a).0 q (cons_first x t (xs ++ s ∷ ys) vs e))
first-stop (x ∷ xs) ys (u ∷ us) vs s t a b p q e =
    let same = first-stop xs ys us vs s t (and_parts (goes_on x) (list_all goes_on xs) a).1 (and_parts (goes_on u) (list_all goes_on us) b).1 p q (cons_rest x u (xs ++ s ∷ ys) (us ++ t ∷ vs) e) in
    let one : x ≡ u = cons_first x u (xs ++ s ∷ ys) (us ++ t ∷ vs) e in
    ap (λ y. y ∷ xs) one ∙ ap (λ ws. u ∷ ws) same

record Stops (query : List ℕ) : Type 0 where
  pub stop : ℕ
  pub rest : List ℕ
  pub is_stop : goes_on stop ≡ false
  pub parts : query_text query ++ codes " HTTP/1.1\r" ≡ stop ∷ rest

stops : (query : List ℕ) → Stops query
stops [] = record { stop = 32; rest = codes "HTTP/1.1\r"; is_stop = refl; parts = refl }
stops (b ∷ ce) = record { stop = 63; rest = escaped (b ∷ ce) ++ codes " HTTP/1.1\r"; is_stop = refl; parts = refl }

name-byte : (b : ℕ) → is_name_byte b ≡ true → goes_on b ≡ true
name-byte b e = grind (arith, tests, e)

slash : (b : ℕ) → is_slash b ≡ true → goes_on b ≡ true
slash b e = grind (arith, tests, e)

suffix-on : (kind : Kind) → GoOn (suffix_of kind)
suffix-on Dds = refl
suffix-on Das = refl
suffix-on Dods = refl
suffix-on Ver = refl

path-on : (a : Asked) → IsTrue (is_name a.name) → GoOn (a.name ++ suffix_of a.kind)
path-on a named = both a.name (suffix_of a.kind) (name-all goes_on (record { byte = name-byte; slash = slash }) a.name named) (suffix-on a.kind)

lay : (g p s q e : List ℕ) → g ++ p ++ s ++ q ++ e ≡ g ++ ((p ++ s) ++ (q ++ e))
lay g p s q e = simp append_assoc

line-parts : (a : Asked) → first-line a ≡ codes "GET /" ++ ((a.name ++ suffix_of a.kind) ++ (query_text a.query ++ codes " HTTP/1.1\r"))
unfolding first-line
line-parts a = lay (codes "GET ") (47 ∷ a.name) (suffix_of a.kind) (query_text a.query) (codes " HTTP/1.1\r")

-- equal first lines have equal paths
same-path : (a b : Asked) → IsTrue (is_name a.name) → IsTrue (is_name b.name) → first-line a ≡ first-line b → a.name ++ suffix_of a.kind ≡ b.name ++ suffix_of b.kind
same-path a b na nb is =
    let s = stops a.query in
    let t = stops b.query in
    let p = a.name ++ suffix_of a.kind in
    let q = b.name ++ suffix_of b.kind in
    let whole : p ++ (query_text a.query ++ codes " HTTP/1.1\r") ≡ q ++ (query_text b.query ++ codes " HTTP/1.1\r") = ap (drop 5) (sym (line-parts a) ∙ is ∙ line-parts b) in
    first-stop p s.rest q t.rest s.stop t.stop (path-on a na) (path-on b nb) s.is_stop t.is_stop (ap (λ x. p ++ x) (sym s.parts) ∙ whole ∙ ap (λ x. q ++ x) t.parts)

-- ---- the last three bytes of a suffix tell the kind

end_of : Kind → List ℕ
end_of Dds = codes "dds"
end_of Das = codes "das"
end_of Dods = codes "ods"
end_of Ver = codes "ver"

start_of : Kind → List ℕ
start_of Dds = codes "."
start_of Das = codes "."
start_of Dods = codes ".d"
start_of Ver = codes "."

suffix-parts : (kind : Kind) → suffix_of kind ≡ start_of kind ++ end_of kind
unfolding start_of end_of
suffix-parts Dds = refl
suffix-parts Das = refl
suffix-parts Dods = refl
suffix-parts Ver = refl

three : (kind : Kind) → length (end_of kind) ≡ 3
unfolding end_of
three Dds = refl
three Das = refl
three Dods = refl
three Ver = refl

kind_at : List ℕ → Kind
kind_at xs = if get_or xs 2 0 == 114 then Ver else (if get_or xs 0 0 == 111 then Dods else (if get_or xs 1 0 == 97 then Das else Dds))

kind-back : (kind : Kind) → kind_at (end_of kind) ≡ kind
unfolding end_of kind_at
kind-back Dds = refl
kind-back Das = refl
kind-back Dods = refl
kind-back Ver = refl

same-end : (xs ys u v : List ℕ) → length u ≡ 3 → length v ≡ 3 → xs ++ u ≡ ys ++ v → u ≡ v
same-end xs ys u v a b is =
    let both_long : length (xs ++ u) ≡ length (ys ++ v) = ap length is in
    let long : length xs ≡ length ys = omega (arith, both_long, length-append xs u, length-append ys v, a, b) in
    sym (drop-append_seam xs u) ∙ ap (drop (length xs)) is ∙ ap (λ n. drop n (ys ++ v)) long ∙ drop-append_seam ys v

kind-of-path : (m n : List ℕ) (j k : Kind) → m ++ suffix_of j ≡ n ++ suffix_of k → j ≡ k
kind-of-path m n j k is =
    let apart : (m ++ start_of j) ++ end_of j ≡ (n ++ start_of k) ++ end_of k =
    append_assoc m (start_of j) (end_of j) ∙ sym (ap (λ s. m ++ s) (suffix-parts j)) ∙ is ∙ ap (λ s. n ++ s) (suffix-parts k) ∙ sym (append_assoc n (start_of k) (end_of k)) in
    sym (kind-back j) ∙ ap kind_at (same-end (m ++ start_of j) (n ++ start_of k) (end_of j) (end_of k) (three j) (three k) apart) ∙ kind-back k

pub same-kind : (host : List ℕ) (port : ℕ) (a b : Asked) → IsTrue (is_name a.name) → IsTrue (is_name b.name) → key_of host port a ≡ key_of host port b → a.kind ≡ b.kind
same-kind host port a b na nb is = kind-of-path a.name b.name a.kind b.kind (same-path a b na nb (same-line host port a b na nb is))
