-- The values that bytes hold are ended, open or bad in one way only.
use Rattle.std.proofs.Common.{◌≡◌, ℕ, ◌+◌, List, [], ◌∷◌, ◌++◌, length, take, drop, Some, ◌⊎◌, ⊎_elim, inl, inr, refl, ap, ◌∙◌, sym, subst, arith, append_assoc, append-nil, length-append, take-append-drop}
use Rattle.dap_types.specs.Model.{Dataset, Tree}
use Rattle.dap_model.proofs.Decoding.{cons_same, split_same}
use Rattle.dap_model.proofs.FieldKinds.{SameKind, spelled_width, same_width, spelled_same, kinds_back}
use Rattle.dap_model.proofs.OneSpelling.{next_kind, none_follows}
use Rattle.dap_model.specs.Fits.{FitsAll}
use Rattle.dap_model.specs.Received.{MayFollow, Fault, fault_of, width, ValuesEndAt, IsOpen, IsBadField}
use Rattle.dap_model.specs.Xdr.{Field, count, number, packed, filler, size, text, padding, mark, fields_all, SpellsField, SpellsFields}

-- some values of the dataset begin with these fields
abbrev Begin : Dataset → List Field → Type 0
Begin d fs = (ts : List Tree) × (rest : List Field) × FitsAll d.members ts × (fields_all d.members ts ≡ fs ++ rest)

begin_before : (d : Dataset) (fs : List Field) (f : Field) → MayFollow d fs f → Begin d fs
begin_before d fs f may = (may.0, f ∷ may.1, may.2, may.3)

begin_all : (d : Dataset) (ts : List Tree) → FitsAll d.members ts → Begin d (fields_all d.members ts)
begin_all d ts fit = (ts, [], fit, sym (append-nil (fields_all d.members ts)))

-- a field among them may follow those before it
follows_before : (d : Dataset) (before : List Field) (f : Field) (fs : List Field) → Begin d (before ++ f ∷ fs) → MayFollow d before f
follows_before d before f fs begin = (begin.0, fs ++ begin.1, begin.2, begin.3 ∙ append_assoc before (f ∷ fs) begin.1)

-- good fields go on behind others, with one that is spelled by the next bytes
record GoesOn (fs gs : List Field) (a b : List ℕ) : Type 0 where
  next : Field
  more : List Field
  own : List ℕ
  rest : List ℕ
  fields : gs ≡ fs ++ next ∷ more
  bytes : b ≡ a ++ (own ++ rest)
  spelled : SpellsField next own

first_on : (q : Field) (gs : List Field) (a b : List ℕ) → SpellsFields [] a → SpellsFields (q ∷ gs) b → GoesOn [] (q ∷ gs) a b
first_on q gs a b none some = record {
  next = q;
  more = gs;
  own = some.0;
  rest = some.1;
  fields = refl;
  bytes = some.2 ∙ ap (λ l. l ++ (some.0 ++ some.1)) (sym none);
  spelled = some.3;
}

later_on : (p q : Field) (fs gs : List Field) (a b u v w z : List ℕ) → p ≡ q → u ≡ w → a ≡ u ++ v → b ≡ w ++ z → GoesOn fs gs v z → GoesOn (p ∷ fs) (q ∷ gs) a b
later_on p q fs gs a b u v w z field front is is' on = record {
  next = on.next;
  more = on.more;
  own = on.own;
  rest = on.rest;
  fields = cons_same q p gs (fs ++ on.next ∷ on.more) (sym field) on.fields;
  bytes = is' ∙ ap (λ l. w ++ l) on.bytes ∙ sym (append_assoc w v (on.own ++ on.rest)) ∙ ap (λ l. (l ++ v) ++ (on.own ++ on.rest)) (sym front) ∙ ap (λ l. l ++ (on.own ++ on.rest)) (sym is);
  spelled = on.spelled;
}

-- two lists of good fields of the same bytes are the same, or one goes on where the other ends
compared : (d : Dataset) (before fs gs : List Field) (a b x y : List ℕ) → Begin d (before ++ fs) → Begin d (before ++ gs) → SpellsFields fs a → SpellsFields gs b → a ++ x ≡ b ++ y
    → ((fs ≡ gs) × (a ≡ b)) ⊎ (GoesOn fs gs a b ⊎ GoesOn gs fs b a)
compared d before [] [] a b x y begin begin' one two same = inl (refl, one ∙ sym two)
compared d before [] (q ∷ gs) a b x y begin begin' one two same = inr (inl (first_on q gs a b one two))
compared d before (p ∷ fs) [] a b x y begin begin' one two same = inr (inr (first_on p fs b a two one))
compared d before (p ∷ fs) (q ∷ gs) a b x y begin begin' one two same =
    let kind = next_kind d before p q (follows_before d before p fs begin) (follows_before d before q gs begin') in
    let wide : length one.0 ≡ length two.0 = spelled_width p q one.0 kind one.3 ∙ same_width p q kind ∙ sym (spelled_width q p two.0 (kinds_back p q kind) two.3) in
    let whole : one.0 ++ (one.1 ++ x) ≡ two.0 ++ (two.1 ++ y) =
    sym (append_assoc one.0 one.1 x) ∙ ap (λ l. l ++ x) (sym one.2) ∙ same ∙ ap (λ l. l ++ y) two.2 ∙ append_assoc two.0 two.1 y in
    let both = split_same one.0 two.0 (one.1 ++ x) (two.1 ++ y) wide whole in
    let field : p ≡ q = spelled_same p q one.0 kind one.3 (subst (SpellsField q) (sym both.0) two.3) in
    let left : Begin d ((before ++ p ∷ []) ++ fs) = subst (Begin d) (sym (append_assoc before (p ∷ []) fs)) begin in
    let right : Begin d ((before ++ p ∷ []) ++ gs) = subst (λ h. Begin d ((before ++ h ∷ []) ++ gs)) (sym field) (subst (Begin d) (sym (append_assoc before (q ∷ []) gs)) begin') in
    ⊎_elim
    (λ e. inl (cons_same p q fs gs field e.0, one.2 ∙ ap (λ l. l ++ one.1) both.0 ∙ ap (λ l. two.0 ++ l) e.1 ∙ sym two.2))
    (λ on. inr (⊎_elim
    (λ r. inl (later_on p q fs gs a b one.0 one.1 two.0 two.1 field both.0 one.2 two.2 r))
    (λ r. inr (later_on q p gs fs b a two.0 two.1 one.0 one.1 (sym field) (sym both.0) two.2 one.2 r)) on))
    (compared d (before ++ p ∷ []) fs gs one.1 two.1 x y left right one.4 two.4 both.1)

-- the bytes of a list that goes on: those of its next field come behind the first list's
next_bytes : (fs gs : List Field) (a b x y : List ℕ) (on : GoesOn fs gs a b) → a ++ x ≡ b ++ y → x ≡ on.own ++ (on.rest ++ y)
next_bytes fs gs a b x y on same =
    let shifted : a ++ x ≡ a ++ (on.own ++ (on.rest ++ y)) =
    same ∙ ap (λ l. l ++ y) on.bytes ∙ append_assoc a (on.own ++ on.rest) y ∙ ap (λ l. a ++ l) (append_assoc on.own on.rest y) in
    (split_same a a x (on.own ++ (on.rest ++ y)) refl shifted).1

next_follows : (d : Dataset) (fs gs : List Field) (a b : List ℕ) (on : GoesOn fs gs a b) → Begin d gs → MayFollow d fs on.next
next_follows d fs gs a b on begin = follows_before d fs on.next on.more (subst (Begin d) on.fields begin)

-- no good fields go on where a bad field stands
bad_stops : (d : Dataset) (bs : List ℕ) (fault : Fault) (place : ℕ) (bad : IsBadField d bs fault place) (gs : List Field) (b y : List ℕ) → Begin d gs → bs ≡ b ++ y → GoesOn bad.fields gs bad.front b → ⊥
bad_stops d bs fault place bad gs b y begin is on =
    let follows = next_follows d bad.fields gs bad.front b on begin in
    let kind = next_kind d bad.fields on.next bad.wanted follows bad.may_follow in
    let whole : bad.front ++ (bad.own ++ bad.rest) ≡ b ++ y = sym (append_assoc bad.front bad.own bad.rest) ∙ sym bad.parts ∙ is in
    let here = next_bytes bad.fields gs bad.front b (bad.own ++ bad.rest) y on whole in
    let wide : length bad.own ≡ length on.own = bad.whole ∙ sym (same_width on.next bad.wanted kind) ∙ sym (spelled_width on.next bad.wanted on.own kind on.spelled) in
    let own = (split_same bad.own on.own bad.rest (on.rest ++ y) wide here).0 in
    bad.bad on.next follows (subst (SpellsField on.next) (sym own) on.spelled)

-- nor where the field that follows is not whole
open_stops : (d : Dataset) (bs : List ℕ) (open' : IsOpen d bs) (gs : List Field) (b y : List ℕ) → Begin d gs → bs ≡ b ++ y → GoesOn open'.fields gs open'.front b → ⊥
open_stops d bs open' gs b y begin is on =
    let follows = next_follows d open'.fields gs open'.front b on begin in
    let kind = next_kind d open'.fields on.next open'.wanted follows open'.may_follow in
    let here = next_bytes open'.fields gs open'.front b open'.own y on (sym open'.parts ∙ is) in
    let wide : length on.own ≡ width open'.wanted = spelled_width on.next open'.wanted on.own kind on.spelled ∙ same_width on.next open'.wanted kind in
    let long : length open'.own ≡ length on.own + length (on.rest ++ y) = ap length here ∙ length-append on.own (on.rest ++ y) in
    let cut = open'.cut in absurd (omega arith)

pub kind_fault : (f g : Field) → SameKind f g → fault_of f ≡ fault_of g
kind_fault (count n) (count m) kind = refl
kind_fault (number b v) (number c w) kind = refl
kind_fault (packed v) (packed w) kind = refl
kind_fault (filler n) (filler m) kind = refl
kind_fault (size n) (size m) kind = refl
kind_fault (text a) (text b) kind = refl
kind_fault (padding n) (padding m) kind = refl
kind_fault (mark a) (mark b) kind = refl
kind_fault f g kind = absurd kind

some_same : (a b : Fault) → Some a ≡ Some b → a ≡ b
some_same a b same = cc

-- the bad field is one
pub one_bad : (d : Dataset) (bs : List ℕ) (f g : Fault) (p q : ℕ) → IsBadField d bs f p → IsBadField d bs g q → (f ≡ g) × (p ≡ q)
one_bad d bs f g p q one two =
    let left : bs ≡ one.front ++ (one.own ++ one.rest) = one.parts ∙ append_assoc one.front one.own one.rest in
    let right : bs ≡ two.front ++ (two.own ++ two.rest) = two.parts ∙ append_assoc two.front two.own two.rest in
    let begin = begin_before d one.fields one.wanted one.may_follow in
    let begin' = begin_before d two.fields two.wanted two.may_follow in
    ⊎_elim
    (λ e. let kind = next_kind d one.fields one.wanted two.wanted one.may_follow (subst (λ fs. MayFollow d fs two.wanted) (sym e.0) two.may_follow) in
    (some_same f g (sym one.is_fault ∙ kind_fault one.wanted two.wanted kind ∙ two.is_fault), one.is_place ∙ ap length e.1 ∙ sym two.is_place))
    (λ on. absurd (⊎_elim (bad_stops d bs f p one two.fields two.front (two.own ++ two.rest) begin' right) (bad_stops d bs g q two one.fields one.front (one.own ++ one.rest) begin left) on))
    (compared d [] one.fields two.fields one.front two.front (one.own ++ one.rest) (two.own ++ two.rest) begin begin' one.good two.good (sym left ∙ right))

-- values with a bad field are not open
pub bad_not_open : (d : Dataset) (bs : List ℕ) (f : Fault) (p : ℕ) → IsBadField d bs f p → IsOpen d bs → ⊥
bad_not_open d bs f p bad open' =
    let left : bs ≡ bad.front ++ (bad.own ++ bad.rest) = bad.parts ∙ append_assoc bad.front bad.own bad.rest in
    let begin = begin_before d bad.fields bad.wanted bad.may_follow in
    let begin' = begin_before d open'.fields open'.wanted open'.may_follow in
    let whole : bad.front ++ (bad.own ++ bad.rest) ≡ open'.front ++ open'.own = sym left ∙ open'.parts in
    ⊎_elim
    (λ e. let kind = next_kind d bad.fields bad.wanted open'.wanted bad.may_follow (subst (λ fs. MayFollow d fs open'.wanted) (sym e.0) open'.may_follow) in
    let same : bad.own ++ bad.rest ≡ open'.own = (split_same bad.front open'.front (bad.own ++ bad.rest) open'.own (ap length e.1) whole).1 in
    let wide : length bad.own ≡ width open'.wanted = bad.whole ∙ same_width bad.wanted open'.wanted kind in
    let long : length bad.own + length bad.rest ≡ length open'.own = sym (length-append bad.own bad.rest) ∙ ap length same in
    let cut = open'.cut in absurd (omega arith))
    (λ on. ⊎_elim (bad_stops d bs f p bad open'.fields open'.front open'.own begin' open'.parts) (open_stops d bs open' bad.fields bad.front (bad.own ++ bad.rest) begin left) on)
    (compared d [] bad.fields open'.fields bad.front open'.front (bad.own ++ bad.rest) open'.own begin begin' bad.good open'.good whole)

-- the bytes that end the values, and those behind them
ended_parts : (bs : List ℕ) (n : ℕ) → bs ≡ take n bs ++ drop n bs
ended_parts bs n = sym (take-append-drop n bs)

none_after : (d : Dataset) (ts : List Tree) (gs : List Field) (a b : List ℕ) → FitsAll d.members ts → Begin d gs → GoesOn (fields_all d.members ts) gs a b → ⊥
none_after d ts gs a b fit begin on = none_follows d ts on.next fit (next_follows d (fields_all d.members ts) gs a b on begin)

-- values that are ended have no bad field and are not open
pub ended_not_bad : (d : Dataset) (ts : List Tree) (bs : List ℕ) (n : ℕ) (f : Fault) (p : ℕ) → ValuesEndAt d ts bs n → IsBadField d bs f p → ⊥
ended_not_bad d ts bs n f p ended bad =
    let left : bs ≡ bad.front ++ (bad.own ++ bad.rest) = bad.parts ∙ append_assoc bad.front bad.own bad.rest in
    let begin = begin_before d bad.fields bad.wanted bad.may_follow in
    let begin' = begin_all d ts ended.1.fit in
    ⊎_elim
    (λ e. none_follows d ts bad.wanted ended.1.fit (subst (λ fs. MayFollow d fs bad.wanted) e.0 bad.may_follow))
    (λ on. ⊎_elim (bad_stops d bs f p bad (fields_all d.members ts) (take n bs) (drop n bs) begin' (ended_parts bs n)) (none_after d ts bad.fields (take n bs) bad.front ended.1.fit begin) on)
    (compared d [] bad.fields (fields_all d.members ts) bad.front (take n bs) (bad.own ++ bad.rest) (drop n bs) begin begin' bad.good ended.1.spelled (sym left ∙ ended_parts bs n))

pub ended_not_open : (d : Dataset) (ts : List Tree) (bs : List ℕ) (n : ℕ) → ValuesEndAt d ts bs n → IsOpen d bs → ⊥
ended_not_open d ts bs n ended open' =
    let begin = begin_before d open'.fields open'.wanted open'.may_follow in
    let begin' = begin_all d ts ended.1.fit in
    ⊎_elim
    (λ e. none_follows d ts open'.wanted ended.1.fit (subst (λ fs. MayFollow d fs open'.wanted) e.0 open'.may_follow))
    (λ on. ⊎_elim (open_stops d bs open' (fields_all d.members ts) (take n bs) (drop n bs) begin' (ended_parts bs n)) (none_after d ts open'.fields (take n bs) open'.front ended.1.fit begin) on)
    (compared d [] open'.fields (fields_all d.members ts) open'.front (take n bs) open'.own (drop n bs) begin begin' open'.good ended.1.spelled (sym open'.parts ∙ ended_parts bs n))
