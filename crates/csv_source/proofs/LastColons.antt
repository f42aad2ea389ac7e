-- The type of a header's field is the word behind its last `:`.
use Rattle.std.proofs.Common.{◌≡◌, ℕ, ◌-◌, Bool, true, false, ◌||◌, List, [], ◌∷◌, ◌++◌, length, take, drop, inl, inr, refl, sym, ap, ◌∙◌, subst, arith, length-append, find, Option, Some}
use Rattle.std.specs.Prelude.{◌==◌}
use Rattle.std.specs.List.{list_any}
use Rattle.std.specs.Str.{bytes_eq}
use Rattle.std.proofs.Math.Bool.{or-true}
use Rattle.std.proofs.Math.Seq.{drop-append_seam}
use Rattle.std.proofs.lemmas.List.{take-append-drop}
use Rattle.std.proofs.lemmas.Option.{same_Some}
use Rattle.std.proofs.lemmas.Slice.Eq.{bytes_eq-Decides}
use Rattle.dap_model.specs.Dds.{type_word}
use Rattle.dap_types.specs.declared.declarations.BaseType.{BaseType}
use Rattle.dap_types.specs.declared.declarations.BaseType.TheVariants.{Byte, Int16, UInt16, Int32, UInt32, Float32, Float64, Text, Url}
use Rattle.csv_source.specs.Header.{all_types, type_mark, typed, typed_by}
use Rattle.csv_source.specs.LastColon.{HasTypeWord, IsNameAndType}
use Rattle.csv_source.specs.Laws.{TypedByLastColon}
use Rattle.csv_source.specs.Names.{before_suffix, has_suffix}

-- ---- suffixes

ends-so : (mark field : List ℕ) → has_suffix mark field ≡ true → field ≡ before_suffix mark field ++ mark
ends-so mark field is =
    let k = length field - length mark in
    let rest : drop k field ≡ mark = (bytes_eq-Decides (drop k field) mark).0 is in
    sym (take-append-drop k field) ∙ ap (λ l. take k field ++ l) rest

suffix-of : (before mark : List ℕ) → has_suffix mark (before ++ mark) ≡ true
suffix-of before mark =
    let k : length (before ++ mark) - length mark ≡ length before = omega (arith, length-append before mark) in
    rw (k, drop-append_seam before mark) ((bytes_eq-Decides mark mark).1 refl)

-- ---- words

no-colon : (base : BaseType) → list_any (λ b. b == 58) (type_word base) ≡ false
no-colon Byte = refl
no-colon Int16 = refl
no-colon UInt16 = refl
no-colon Int32 = refl
no-colon UInt32 = refl
no-colon Float32 = refl
no-colon Float64 = refl
no-colon Text = refl
no-colon Url = refl

abbrev base_of : List ℕ → Option BaseType
base_of word = find (λ base. bytes_eq (type_word base) word) all_types

base-of-its-word : (base : BaseType) → base_of (type_word base) ≡ Some base
base-of-its-word Byte = refl
base-of-its-word Int16 = refl
base-of-its-word UInt16 = refl
base-of-its-word Int32 = refl
base-of-its-word UInt32 = refl
base-of-its-word Float32 = refl
base-of-its-word Float64 = refl
base-of-its-word Text = refl
base-of-its-word Url = refl

one-type : (a b : BaseType) → type_word a ≡ type_word b → a ≡ b
one-type a b is = same_Some a b (sym (base-of-its-word a) ∙ ap base_of is ∙ base-of-its-word b)

-- ---- the last colon

has-colon : (before behind : List ℕ) → list_any (λ b. b == 58) (before ++ 58 ∷ behind) ≡ true
has-colon [] behind = refl
has-colon (x ∷ before) behind = rw (has-colon before behind) (or-true (x == 58))

no-parts : (word before behind : List ℕ) → word ≡ before ++ 58 ∷ behind → list_any (λ b. b == 58) word ≡ false → ⊥
no-parts word before behind is none = cc (none, ap (list_any (λ b. b == 58)) is, has-colon before behind)

one-split : (a b v w : List ℕ) → a ++ 58 ∷ v ≡ b ++ 58 ∷ w → list_any (λ x. x == 58) v ≡ false → list_any (λ x. x == 58) w ≡ false → (a ≡ b) × (v ≡ w)
one-split [] [] v w is p q = (refl, cc is)
one-split [] (y ∷ b) v w is p q = absurd (no-parts v b w (cc is) p)
one-split (x ∷ a) [] v w is p q = absurd (no-parts w a v (cc is) q)
one-split (x ∷ a) (y ∷ b) v w is p q =
    let head : x ≡ y = cc is in
    let rest : a ++ 58 ∷ v ≡ b ++ 58 ∷ w = cc is in
    let (same, behind) = one-split a b v w rest p q in
    (ap (λ l. x ∷ l) same ∙ ap (λ z. z ∷ b) head, behind)

-- ---- the walk over the types

any-type : (P : BaseType → Bool) (base : BaseType) → P base ≡ true → list_any P all_types ≡ true
any-type P Byte is = rw is refl
any-type P Int16 is = simp (is, or-true)
any-type P UInt16 is = simp (is, or-true)
any-type P Int32 is = simp (is, or-true)
any-type P UInt32 is = simp (is, or-true)
any-type P Float32 is = simp (is, or-true)
any-type P Float64 is = simp (is, or-true)
any-type P Text is = simp (is, or-true)
any-type P Url is = simp (is, or-true)

abbrev is_marked : List ℕ → BaseType → Bool
is_marked field base = has_suffix (type_mark base) field

typed-none : (bases : List BaseType) (field : List ℕ) → list_any (is_marked field) bases ≡ false → typed_by bases field ≡ (field, Text)
unfolding typed_by
typed-none [] field none = refl
typed-none (base ∷ bases) field none = by_test (is_marked field base) refl none (typed-none bases field)
  where
    by_test : (b : Bool) → is_marked field base ≡ b → (b || list_any (is_marked field) bases) ≡ false
        → (list_any (is_marked field) bases ≡ false → typed_by bases field ≡ (field, Text)) → typed_by (base ∷ bases) field ≡ (field, Text)
    by_test true is rest later = cc rest
    by_test false is rest later = rw is (later rest)

record IsMarked (field : List ℕ) (answer : List ℕ × BaseType) : Type 0 where
  base : BaseType
  has : is_marked field base ≡ true
  answer_is : answer ≡ (before_suffix (type_mark base) field, base)

typed-some : (bases : List BaseType) (field : List ℕ) → list_any (is_marked field) bases ≡ true → IsMarked field (typed_by bases field)
unfolding typed_by
typed-some [] field some = cc some
typed-some (base ∷ bases) field some = by_test (is_marked field base) refl some (typed-some bases field)
  where
    by_test : (b : Bool) → is_marked field base ≡ b → (b || list_any (is_marked field) bases) ≡ true
        → (list_any (is_marked field) bases ≡ true → IsMarked field (typed_by bases field)) → IsMarked field (typed_by (base ∷ bases) field)
    by_test true is rest later = record { base = base; has = is; answer_is = rw is refl }
    by_test false is rest later =
        let r = later rest in
        record { base = r.base; has = r.has; answer_is = rw is r.answer_is }

-- ---- both ways

marked : (field before : List ℕ) (base : BaseType) → HasTypeWord field before base → list_any (is_marked field) all_types ≡ true
marked field before base splits = any-type (is_marked field) base (rw splits.parts (suffix-of before (type_mark base)))

named : (field : List ℕ) → IsNameAndType field (typed field).0 (typed field).1
named field = by_test (list_any (is_marked field) all_types) refl
  where
    by_test : (b : Bool) → list_any (is_marked field) all_types ≡ b → IsNameAndType field (typed field).0 (typed field).1
    by_test true some =
        let r = typed-some all_types field some in
        subst (λ t. IsNameAndType field t.0 t.1) (sym r.answer_is) (inl (record { parts = ends-so (type_mark r.base) field r.has; last = no-colon r.base }))
    by_test false none =
        subst (λ t. IsNameAndType field t.0 t.1) (sym (typed-none all_types field none)) (inr (refl, refl, λ before other splits. cc (none, marked field before other splits)))

pair-of : (n m : List ℕ) (a b : BaseType) → n ≡ m → a ≡ b → ◌≡◌ {A = List ℕ × BaseType} (n, a) (m, b)
pair-of n m a b name base = rw (name, base) refl

one-name : (field n m : List ℕ) (a b : BaseType) → IsNameAndType field n a → IsNameAndType field m b → ◌≡◌ {A = List ℕ × BaseType} (n, a) (m, b)
one-name field n m a b (inl x) (inl y) =
    let (name, word) = one-split n m (type_word a) (type_word b) (sym x.parts ∙ y.parts) x.last y.last in
    let base : a ≡ b = one-type a b word in
    pair-of n m a b name base
one-name field n m a b (inl x) (inr y) = absurd (y.2 n a x)
one-name field n m a b (inr x) (inl y) = absurd (x.2 m b y)
one-name field n m a b (inr x) (inr y) = pair-of n m a b (x.0 ∙ sym y.0) (x.1 ∙ sym y.1)

pub typed-by-last-colon : TypedByLastColon
typed-by-last-colon field name base =
    (λ is. subst (λ t. IsNameAndType field t.0 t.1) is (named field), λ is. one-name field (typed field).0 name (typed field).1 base (named field) is)
