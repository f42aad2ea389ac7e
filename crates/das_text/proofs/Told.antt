-- What the machine has read in each state.
use Rattle.std.proofs.Common.{◌≡◌, List, [], ◌∷◌, ◌++◌, ℕ, ◌+◌, ◌<◌, length, refl, sym, ap, subst, ◌∙◌, append_assoc, append-nil, Option, Some, None, Bool, true, false, ◌==◌, nat_lt, IsTrue, if◌then◌else◌, arith}
use Rattle.std.specs.Prelude.{codes, option_map}
use Rattle.std.proofs.lemmas.Bool.{eqb-true}
use Rattle.std.proofs.lemmas.Bool.Decides.{nat_tests}
use Rattle.std.proofs.lemmas.Slice.Eq.{bytes_eq-Decides}
use Rattle.text_lines.specs.TypeWords.{base_of_word}
use Rattle.dap_types.specs.declared.declarations.BaseType.{BaseType}
use Rattle.viable.specs.Quoted.{quoted_value}
use Rattle.viable.proofs.Tests.{and_parts}
use Rattle.text_tokens.specs.Tokens.{Token, sign, word, quoted}
use Rattle.das_text.specs.Grammar.{IsValue, LaterOf, ValuesOf, EntryOf, EntriesOf, IsDas}
use Rattle.das_text.specs.inner.Machine.{Around, State, begun, headed, inside, worded, named, valued, parted, ended, may_begin, attribute_of, with_value, begin_attribute, leave, enter, next_when, add, step}
use Rattle.das_text.specs.Model.{Entry, attribute, container, entries_of}
use Rattle.das_text.specs.declared.entries.Attribute.{Attribute}
use Rattle.das_text.specs.declared.entries.Word.{Word}
use Rattle.das_text.specs.declared.entries.Word.TheVariants.{Plain, Quoted}
use Rattle.dap_types.specs.Limits.{most_depth}

abbrev pub opening : List Token
opening = word (codes "Attributes") ∷ sign 123 ∷ []

-- the tokens open these containers, and read these entries of the innermost
abbrev pub Opens : List Around → List Entry → List Token → Type 0
Opens [] inner ts = (own : List Token) × EntriesOf 0 own (entries_of inner) × (ts ≡ opening ++ own)
Opens (a ∷ outer) inner ts =
    (before own : List Token) × Opens outer a.entries before × (length outer < most_depth) × EntriesOf (length (a ∷ outer)) own (entries_of inner) × (ts ≡ before ++ (word a.name ∷ sign 123 ∷ own))

-- an attribute has begun, with these tokens behind its name
abbrev pub Begins : List Around → List Entry → Attribute → List Token → List Token → Type 0
Begins outer inner a values ts =
    (before : List Token) × (type : List ℕ) × Opens outer inner before × (0 < length outer) × (base_of_word type ≡ Some a.base) × (ts ≡ before ++ (word type ∷ word a.name ∷ values))

abbrev pub HasSome : List Word → Type 0
HasSome [] = ⊥
HasSome (v ∷ values) = Unit {0}

abbrev pub Told : State → List Token → Type 0
Told (begun outer inner) ts = (outer ≡ []) × (inner ≡ []) × (ts ≡ [])
Told (headed outer inner) ts = (outer ≡ []) × (inner ≡ []) × (ts ≡ word (codes "Attributes") ∷ [])
Told (inside outer inner) ts = Opens outer inner ts
Told (worded outer inner w) ts = (before : List Token) × Opens outer inner before × IsTrue (may_begin outer w) × (ts ≡ before ++ word w ∷ [])
Told (named outer inner a) ts = Begins outer inner a [] ts × (a.values ≡ [])
Told (valued outer inner a) ts = (values : List Token) × Begins outer inner a values ts × HasSome a.values × ValuesOf values a.values
Told (parted outer inner a) ts = (values : List Token) × Begins outer inner a (values ++ sign 44 ∷ []) ts × HasSome a.values × ValuesOf values a.values
Told (ended a) ts = IsDas ts a

entries_last : (depth : ℕ) (own ts : List Token) (es : List Entry) (e : Entry) → EntriesOf depth own (entries_of es) → EntryOf depth ts e → EntriesOf depth (own ++ ts) (entries_of (es ++ e ∷ []))
entries_last depth own ts [] e o x = (ts, [], x, refl, ap (λ (z : List Token). z ++ ts) o ∙ sym (append-nil ts))
entries_last depth own ts (y ∷ es) e (first, later, f, l, is) x =
    (first, later ++ ts, f, entries_last depth later ts es e l x, ap (λ (z : List Token). z ++ ts) is ∙ append_assoc first later ts)

opens_add : (outer : List Around) (inner : List Entry) (ts own : List Token) (e : Entry) → Opens outer inner ts → EntryOf (length outer) own e → Opens outer (inner ++ e ∷ []) (ts ++ own)
opens_add [] inner ts own e (mine, o, is) x = (mine ++ own, entries_last 0 mine own inner e o x, ap (λ (z : List Token). z ++ own) is ∙ append_assoc opening mine own)
opens_add (a ∷ outer) inner ts own e (before, mine, b, lt, o, is) x =
    (before, mine ++ own, b, lt, entries_last (length (a ∷ outer)) mine own inner e o x, ap (λ (z : List Token). z ++ own) is ∙ append_assoc before (word a.name ∷ sign 123 ∷ mine) own)

opens_leave : (a : Around) (outer : List Around) (inner : List Entry) (ts : List Token) → Opens (a ∷ outer) inner ts → Opens outer (a.entries ++ container a.name (entries_of inner) ∷ []) (ts ++ sign 125 ∷ [])
opens_leave a outer inner ts (before, own, b, lt, o, is) =
    let deeper : length (a ∷ outer) ≡ length outer + 1 = omega arith in
    let e : EntryOf (length outer) (word a.name ∷ sign 123 ∷ (own ++ sign 125 ∷ [])) (container a.name (entries_of inner)) = (lt, own, subst (λ (k : ℕ). EntriesOf k own (entries_of inner)) deeper o, refl) in
    subst (Opens outer (a.entries ++ container a.name (entries_of inner) ∷ [])) (sym (ap (λ (z : List Token). z ++ sign 125 ∷ []) is ∙ append_assoc before (word a.name ∷ sign 123 ∷ own) (sign 125 ∷ [])))
    (opens_add outer a.entries before (word a.name ∷ sign 123 ∷ (own ++ sign 125 ∷ [])) (container a.name (entries_of inner)) b e)

later_last : (later : List Token) (values : List Word) (t : Token) (v : Word) → LaterOf later values → IsValue t v → LaterOf (later ++ sign 44 ∷ t ∷ []) (values ++ v ∷ [])
later_last later [] t v l x = (t, [], x, refl, ap (λ (z : List Token). z ++ sign 44 ∷ t ∷ []) l)
later_last later (w ∷ values) t v (u, more, y, l, is) x = (u, more ++ sign 44 ∷ t ∷ [], y, later_last more values t v l x, ap (λ (z : List Token). z ++ sign 44 ∷ t ∷ []) is)

values_last : (ts : List Token) (values : List Word) (t : Token) (v : Word) → HasSome values → ValuesOf ts values → IsValue t v → ValuesOf (ts ++ sign 44 ∷ t ∷ []) (values ++ v ∷ [])
values_last ts [] t v some l x = absurd some
values_last ts (w ∷ values) t v some (u, later, y, l, is) x = (u, later ++ sign 44 ∷ t ∷ [], y, later_last later values t v l x, ap (λ (z : List Token). z ++ sign 44 ∷ t ∷ []) is)

some_last : (values : List Word) (v : Word) → HasSome (values ++ v ∷ [])
some_last [] v = tt
some_last (w ∷ values) v = tt

pub when_some : (b : Bool) (s next : State) → next_when b s ≡ Some next → IsTrue b × (s ≡ next)
when_some true s next e = (refl, (let f : s ≡ next = cc in f))
when_some false s next e = cc

byte_is : (b n : ℕ) → IsTrue (b == n) → sign b ≡ sign n
byte_is b n is = ap sign (eqb-true b n is)

-- the tokens with one more behind the name of an attribute
begins_more : (outer : List Around) (inner : List Entry) (a : Attribute) (values ts : List Token) (t : Token) → Begins outer inner a values ts → Begins outer inner a (values ++ t ∷ []) (ts ++ t ∷ [])
begins_more outer inner a values ts t (before, type, o, pos, base, is) =
    (before, type, o, pos, base, ap (λ (z : List Token). z ++ t ∷ []) is ∙ append_assoc before (word type ∷ word a.name ∷ values) (t ∷ []))

-- the first value, and a later one
first_value : (outer : List Around) (inner : List Entry) (a : Attribute) (ts : List Token) (t : Token) (v : Word) → IsValue t v → Told (named outer inner a) ts → Told (valued outer inner (with_value a v)) (ts ++ t ∷ [])
first_value outer inner a ts t v x (b, none) =
    let is : (with_value a v).values ≡ v ∷ [] = ap (λ (z : List Word). z ++ v ∷ []) none in
    (t ∷ [], begins_more outer inner a [] ts t b, subst HasSome (sym is) tt, subst (ValuesOf (t ∷ [])) (sym is) (t, [], x, refl, refl))

later_value : (outer : List Around) (inner : List Entry) (a : Attribute) (ts : List Token) (t : Token) (v : Word) → IsValue t v → Told (parted outer inner a) ts → Told (valued outer inner (with_value a v)) (ts ++ t ∷ [])
later_value outer inner a ts t v x (values, b, some, vs) = (
  values ++ sign 44 ∷ t ∷ [],
  subst (λ (z : List Token). Begins outer inner a z (ts ++ t ∷ [])) (append_assoc values (sign 44 ∷ []) (t ∷ [])) (begins_more outer inner a (values ++ sign 44 ∷ []) ts t b),
  some_last a.values v,
  values_last values a.values t v some vs x,
)

-- the end of an attribute
end_attribute : (outer : List Around) (inner : List Entry) (a : Attribute) (values ts : List Token) → Begins outer inner a values ts → ValuesOf values a.values → Opens outer (inner ++ attribute a ∷ []) (ts ++ sign 59 ∷ [])
end_attribute outer inner a values ts (before, type, o, pos, base, is) vs =
    subst (Opens outer (inner ++ attribute a ∷ [])) (sym (ap (λ (z : List Token). z ++ sign 59 ∷ []) is ∙ append_assoc before (word type ∷ word a.name ∷ values) (sign 59 ∷ [])))
    (opens_add outer inner before (word type ∷ word a.name ∷ (values ++ sign 59 ∷ [])) (attribute a) o (pos, type, base, values, vs, refl))

-- an attribute begins
name_attribute : (outer : List Around) (inner : List Entry) (w v : List ℕ) (next : State) (ts : List Token) → Told (worded outer inner w) ts → begin_attribute outer inner w v ≡ Some next → Told next (ts ++ word v ∷ [])
name_attribute [] inner w v next ts told e = cc
name_attribute (a ∷ outer) inner w v next ts (before, o, may, is) e = on (base_of_word w) refl e
  where
    on : (found : Option BaseType) → base_of_word w ≡ found → option_map (λ base. named (a ∷ outer) inner (attribute_of v base)) found ≡ Some next → Told next (ts ++ word v ∷ [])
    on None is' e' = cc
    on (Some base) is' e' =
        let same : named (a ∷ outer) inner (attribute_of v base) ≡ next = cc in
        subst (λ (z : State). Told z (ts ++ word v ∷ [])) same
        ((before, w, o, omega arith, is', ap (λ (z : List Token). z ++ word v ∷ []) is ∙ append_assoc before (word w ∷ []) (word v ∷ [])), refl)

pub told_leave : (outer : List Around) (inner : List Entry) (ts : List Token) → Opens outer inner ts → Told (leave outer inner) (ts ++ sign 125 ∷ [])
told_leave [] inner ts (own, o, is) = (own, o, ap (λ (z : List Token). z ++ sign 125 ∷ []) is ∙ append_assoc opening own (sign 125 ∷ []))
told_leave (a ∷ outer) inner ts o = opens_leave a outer inner ts o

is_deep : (n : ℕ) → IsTrue (nat_lt n most_depth) → n < most_depth
is_deep n h = grind (arith, nat_tests)

end_or_part : (outer : List Around) (inner : List Entry) (a : Attribute) (next : State) (ts : List Token) (b : ℕ) (c : Bool) → (b == 59) ≡ c → (if c then Some (add outer inner a) else next_when (b == 44) (parted outer inner a)) ≡ Some next → Told (valued outer inner a) ts → Told next (ts ++ sign b ∷ [])
end_or_part outer inner a next ts b true is e (values, begins, some, vs) =
    let same : add outer inner a ≡ next = cc in
    subst (λ (z : State). Told z (ts ++ sign b ∷ [])) same (subst (λ (z : Token). Opens outer (inner ++ attribute a ∷ []) (ts ++ z ∷ [])) (sym (byte_is b 59 is)) (end_attribute outer inner a values ts begins vs))
end_or_part outer inner a next ts b false is e (values, begins, some, vs) =
    let (comma, same) = when_some (b == 44) (parted outer inner a) next e in
    subst (λ (z : State). Told z (ts ++ sign b ∷ [])) same (subst (λ (z : Token). Told (parted outer inner a) (ts ++ z ∷ [])) (sym (byte_is b 44 comma)) (values, begins_more outer inner a values ts (sign 44) begins, some, vs))

pub told_step : (s next : State) (ts : List Token) (t : Token) → Told s ts → step s t ≡ Some next → Told next (ts ++ t ∷ [])
told_step (begun outer inner) next ts (word w) (o, i, is) e =
    let (spelled, same) = when_some _ (headed outer inner) next e in
    let w_is : w ≡ codes "Attributes" = (bytes_eq-Decides w (codes "Attributes")).0 spelled in
    subst (λ (z : State). Told z (ts ++ word w ∷ [])) same (o, i, ap (λ (z : List Token). z ++ word w ∷ []) is ∙ ap (λ (z : List ℕ). word z ∷ []) w_is)
told_step (begun outer inner) next ts (sign b) told e = cc
told_step (begun outer inner) next ts (quoted p) told e = cc
told_step (headed outer inner) next ts (sign b) (o, i, is) e =
    let (brace, same) = when_some _ (inside outer inner) next e in
    subst (λ (z : State). Told z (ts ++ sign b ∷ [])) same
    (subst (λ (z : List Around). Opens z inner (ts ++ sign b ∷ [])) (sym o) (subst (λ (z : List Entry). Opens [] z (ts ++ sign b ∷ [])) (sym i)
    ([], refl, ap (λ (z : List Token). z ++ sign b ∷ []) is ∙ ap (λ (z : Token). word (codes "Attributes") ∷ z ∷ []) (byte_is b 123 brace))))
told_step (headed outer inner) next ts (word w) told e = cc
told_step (headed outer inner) next ts (quoted p) told e = cc
told_step (inside outer inner) next ts (word w) o e =
    let (may, same) = when_some _ (worded outer inner w) next e in
    subst (λ (z : State). Told z (ts ++ word w ∷ [])) same (ts, o, may, refl)
told_step (inside outer inner) next ts (sign b) o e =
    let (brace, same) = when_some _ (leave outer inner) next e in
    subst (λ (z : State). Told z (ts ++ sign b ∷ [])) same (subst (λ (z : Token). Told (leave outer inner) (ts ++ z ∷ [])) (sym (byte_is b 125 brace)) (told_leave outer inner ts o))
told_step (inside outer inner) next ts (quoted p) told e = cc
told_step (worded outer inner w) next ts (sign b) (before, o, may, is) e =
    let (both, same) = when_some _ (enter outer inner w) next e in
    let (brace, deep) = and_parts _ _ both in
    subst (λ (z : State). Told z (ts ++ sign b ∷ [])) same
    (before, [], o, is_deep (length outer) deep, refl, ap (λ (z : List Token). z ++ sign b ∷ []) is ∙ append_assoc before (word w ∷ []) (sign b ∷ []) ∙ ap (λ (z : Token). before ++ (word w ∷ z ∷ [])) (byte_is b 123 brace))
told_step (worded outer inner w) next ts (word v) told e = name_attribute outer inner w v next ts told e
told_step (worded outer inner w) next ts (quoted p) told e = cc
told_step (named outer inner a) next ts (sign b) (begins, none) e =
    let (semicolon, same) = when_some _ (add outer inner a) next e in
    subst (λ (z : State). Told z (ts ++ sign b ∷ [])) same
    (subst (λ (z : Token). Opens outer (inner ++ attribute a ∷ []) (ts ++ z ∷ [])) (sym (byte_is b 59 semicolon)) (end_attribute outer inner a [] ts begins (subst (ValuesOf []) (sym none) refl)))
told_step (named outer inner a) next ts (word w) told e =
    let same : valued outer inner (with_value a (Plain w)) ≡ next = cc in
    subst (λ (z : State). Told z (ts ++ word w ∷ [])) same (first_value outer inner a ts (word w) (Plain w) refl told)
told_step (named outer inner a) next ts (quoted p) told e =
    let same : valued outer inner (with_value a (Quoted (quoted_value p))) ≡ next = cc in
    subst (λ (z : State). Told z (ts ++ quoted p ∷ [])) same (first_value outer inner a ts (quoted p) (Quoted (quoted_value p)) refl told)
told_step (valued outer inner a) next ts (sign b) told e = end_or_part outer inner a next ts b (b == 59) refl e told
told_step (valued outer inner a) next ts (word w) told e = cc
told_step (valued outer inner a) next ts (quoted p) told e = cc
told_step (parted outer inner a) next ts (sign b) told e = cc
told_step (parted outer inner a) next ts (word w) told e =
    let same : valued outer inner (with_value a (Plain w)) ≡ next = cc in
    subst (λ (z : State). Told z (ts ++ word w ∷ [])) same (later_value outer inner a ts (word w) (Plain w) refl told)
told_step (parted outer inner a) next ts (quoted p) told e =
    let same : valued outer inner (with_value a (Quoted (quoted_value p))) ≡ next = cc in
    subst (λ (z : State). Told z (ts ++ quoted p ∷ [])) same (later_value outer inner a ts (quoted p) (Quoted (quoted_value p)) refl told)
told_step (ended a) next ts t told e = cc
