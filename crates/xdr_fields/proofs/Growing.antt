-- Of more bytes of the values more is shown: what may be shown of a front of them begins what may be shown of all
-- that is good.
use Rattle.std.proofs.Common.{◌≡◌, ℕ, zero, suc, ◌<◌, ◌≤◌, List, [], ◌∷◌, ◌++◌, length, take, drop, codes, refl, ap, ◌∙◌, sym, subst, arith, append_assoc, append-nil, length-append}
use Rattle.std.proofs.lemmas.Grind.{flat_map-append}
use Rattle.std.specs.Bool.{⊤}
use Rattle.std.specs.List.{flat_map}
use Rattle.plain_lemmas.proofs.Lists.{cons_first, cons_rest, nothing_in_front}
use Rattle.dap_types.specs.Model.{Dataset, Tree}
use Rattle.dap_types.specs.declared.declarations.BaseType.{BaseType}
use Rattle.dap_types.specs.declared.values.Value.{Value}
use Rattle.dap_model.proofs.Decoding.{cons_same, split_same}
use Rattle.dap_model.proofs.FieldKinds.{spelled_same}
use Rattle.dap_model.specs.Fits.{FitsAll}
use Rattle.dap_model.specs.Received.{IsFront, IsPrefix}
use Rattle.dap_model.specs.Shown.{shown_byte, shown_value}
use Rattle.dap_model.specs.Xdr.{Field, count, number, packed, filler, size, text, padding, mark, field_bytes, fields_all, string_fields, SpellsField, SpellsFields}
use Rattle.xdr_fields.proofs.Complete.{all_complete}
use Rattle.xdr_fields.proofs.Fronts.{IsPart, after, after_steps, all_said, opens, pending, shows, silent_leaves, whole_lines}
use Rattle.xdr_fields.proofs.Judged.{finished, one_step, steps_join}
use Rattle.xdr_fields.proofs.OneFront.{one_front, one_parse, own_long, same_kind, told}
use Rattle.xdr_fields.proofs.Walk.{Silent, all_walked}
use Rattle.xdr_fields.specs.Wants.{Want, a_count, a_value, a_byte, a_filler, a_text, a_padding, rows, Goes, becomes, Steps, room, said, says, says_next, wants_of}

-- ---- fronts of lists
prefix_self : (a : List ℕ) → IsPrefix a a
prefix_self a = ([], sym (append-nil a))

pub prefix_more : (a b c : List ℕ) → IsPrefix a b → IsPrefix a (b ++ c)
prefix_more a b c (x, is) = (x ++ c, ap (λ l. l ++ c) is ∙ append_assoc a x c)

pub prefix_behind : (a b c : List ℕ) → IsPrefix b c → IsPrefix (a ++ b) (a ++ c)
prefix_behind a b c (x, is) = (x, ap (λ l. a ++ l) is ∙ sym (append_assoc a b x))

pub prefix_trans : (a b c : List ℕ) → IsPrefix a b → IsPrefix b c → IsPrefix a c
prefix_trans a b c (x, one) (y, two) = (x ++ y, two ∙ ap (λ l. l ++ y) one ∙ append_assoc a x y)

-- of two fronts of the same bytes the longer begins with the shorter
shorter : (own x rest z : List ℕ) → own ++ rest ≡ x ++ z → length own ≤ length x → IsPrefix own x
shorter [] x rest z same le = (x, refl)
shorter (o ∷ own) [] rest z same le = absurd (omega (arith, le))
shorter (o ∷ own) (b ∷ x) rest z same le =
    let (k, is) = shorter own x rest z (cons_rest o b (own ++ rest) (x ++ z) same) (omega (arith, le)) in
    (k, ap (λ c. c ∷ x) (sym (cons_first o b (own ++ rest) (x ++ z) same)) ∙ ap (λ l. o ∷ l) is)

-- ---- a line is begun before the bytes of a text and before its padding alone
abbrev Quiet : Field → List ℕ → Type 0
Quiet (text bytes) p = ⊤
Quiet (padding n) p = ⊤
Quiet f p = p ≡ []

quiet_none : (f : Field) → Quiet f []
quiet_none (count n) = refl
quiet_none (number b v) = refl
quiet_none (packed v) = refl
quiet_none (filler n) = refl
quiet_none (size n) = refl
quiet_none (text bytes) = tt
quiet_none (padding n) = tt
quiet_none (mark b) = refl

abbrev IsQuiet : List Want → List Field → Type 0
IsQuiet ws fs = (k : ℕ) (g : Field) (rest : List Field) → drop k fs ≡ g ∷ rest → Quiet g (pending [] ws (take k fs))

silent_quiet : (w : Want) (ws : List Want) (f : Field) (fs : List Field) → Silent f → IsQuiet (becomes w f ++ ws) fs → IsQuiet (w ∷ ws) (f ∷ fs)
unfolding pending
silent_quiet w ws f fs silent next zero g rest is = quiet_none g
silent_quiet w ws f fs silent next (suc k) g rest is =
    subst (λ p. Quiet g (pending p (becomes w f ++ ws) (take k fs))) (sym (silent_leaves w f silent).1) (next k g rest is)

number_quiet : (path : List ℕ) (base : BaseType) (v : Value) (ws : List Want) (fs : List Field) → IsQuiet ws fs → IsQuiet (a_value path base ∷ ws) (number base v ∷ fs)
unfolding pending
number_quiet path base v ws fs next zero g rest is = quiet_none g
number_quiet path base v ws fs next (suc k) g rest is = next k g rest is

byte_quiet : (path : List ℕ) (v : Value) (ws : List Want) (fs : List Field) → IsQuiet ws fs → IsQuiet (a_byte path ∷ ws) (packed v ∷ fs)
unfolding pending
byte_quiet path v ws fs next zero g rest is = quiet_none g
byte_quiet path v ws fs next (suc k) g rest is = next k g rest is

first_field : (f g : Field) (fs gs : List Field) → f ∷ fs ≡ g ∷ gs → f ≡ g
first_field f g fs gs same = cc

text_quiet : (path : List ℕ) (base : BaseType) (bytes : List ℕ) (ws : List Want) (fs : List Field) → IsQuiet ws fs → IsQuiet (a_value path base ∷ ws) (string_fields bytes ++ fs)
unfolding pending
text_quiet path base bytes ws fs next zero g rest is = quiet_none g
text_quiet path base bytes ws fs next (suc zero) g rest is =
    subst (λ h. Quiet h (pending [] (a_value path base ∷ ws) (take 1 (string_fields bytes ++ fs)))) (first_field (text bytes) g (padding (length bytes) ∷ fs) rest is) tt
text_quiet path base bytes ws fs next (suc (suc zero)) g rest is =
    subst (λ h. Quiet h (pending [] (a_value path base ∷ ws) (take 2 (string_fields bytes ++ fs)))) (first_field (padding (length bytes)) g fs rest is) tt
text_quiet path base bytes ws fs next (suc (suc (suc k))) g rest is = next k g rest is

never : (g : Field) (rest : List Field) → [] ≡ g ∷ rest → ⊥
never g rest same = cc

all_quiet : (d : Dataset) (ts : List Tree) → FitsAll d.members ts → IsQuiet (wants_of d) (fields_all d.members ts)
all_quiet d ts fit =
    all_walked (λ ws fs es. IsQuiet ws fs)
    (λ w ws f fs es goes silent next. silent_quiet w ws f fs silent next)
    (λ path base v ws fs es num is next. number_quiet path base v ws fs next)
    (λ path v ws fs es is next. byte_quiet path v ws fs next)
    (λ path base bytes ws fs es txt short next. text_quiet path base bytes ws fs next)
    d.members ts fit ended
  where
    ended : IsQuiet [] []
    ended zero g rest is = absurd (never g rest is)
    ended (suc k) g rest is = absurd (never g rest is)

drop_seam : (xs ys : List Field) → drop (length xs) (xs ++ ys) ≡ ys
drop_seam [] ys = refl
drop_seam (x ∷ xs) ys = drop_seam xs ys

take_seam : (xs ys : List Field) → take (length xs) (xs ++ ys) ≡ xs
take_seam [] ys = refl
take_seam (x ∷ xs) ys = ap (λ l. x ∷ l) (take_seam xs ys)

quiet_before : (d : Dataset) (fs : List Field) (w : Want) (us : List Want) (g : Field) → Steps (wants_of d) fs (w ∷ us) → Goes w g → Quiet g (pending [] (wants_of d) fs)
quiet_before d fs w us g steps goes =
    let (rest, end) = finished (becomes w g ++ us) in
    let (ts, fit, is) = all_complete d.members (fs ++ g ∷ rest) (steps_join (wants_of d) fs (g ∷ rest) (w ∷ us) [] steps (one_step w us g rest [] goes end)) in
    let front : take (length fs) (fields_all d.members ts) ≡ fs = ap (take (length fs)) (sym is) ∙ take_seam fs (g ∷ rest) in
    subst (λ l. Quiet g (pending [] (wants_of d) l)) front (all_quiet d ts fit (length fs) g rest (ap (drop (length fs)) (sym is) ∙ drop_seam fs (g ∷ rest)))

-- ---- two readings of the same bytes
-- no field that may come next is spelled by the first bytes
abbrev pub Stuck : List Want → List ℕ → Type 0
Stuck [] y = ⊤
Stuck (w ∷ ws) y = (f : Field) (own rest : List ℕ) → Goes w f → SpellsField f own → y ≡ own ++ rest → ⊥

pub short_stuck : (w : Want) (ws : List Want) (y : List ℕ) → length y < room w → Stuck (w ∷ ws) y
short_stuck w ws y short f own rest goes spelled is = omega (arith, short, own_long w f own goes spelled, ap length is, length-append own rest)

pub bad_stuck : (w : Want) (ws : List Want) (own rest : List ℕ) → length own ≡ room w → ((f : Field) → Goes w f → SpellsField f own → ⊥) → Stuck (w ∷ ws) (own ++ rest)
bad_stuck w ws own rest whole none f x y goes spelled is =
    let both = split_same own x rest y (whole ∙ sym (own_long w f x goes spelled)) is in none f goes (subst (SpellsField f) (sym both.0) spelled)

-- the fields of the one go on where those of the other end
record Further (fs gs : List Field) (us vs : List Want) (x y : List ℕ) : Type 0 where
  more : List Field
  bytes : List ℕ
  fields : gs ≡ fs ++ more
  steps : Steps us more vs
  spelled : SpellsFields more bytes
  parts : x ≡ bytes ++ y

further : (ws : List Want) (fs gs : List Field) (us vs : List Want) (a b x y : List ℕ) → Steps ws fs us → Steps ws gs vs → SpellsFields fs a → SpellsFields gs b → a ++ x ≡ b ++ y → Stuck vs y → Further fs gs us vs x y
unfolding Steps
further ws [] gs us vs a b x y s t p q same stuck =
    record { more = gs; bytes = b; fields = refl; steps = subst (λ l. Steps l gs vs) s t; spelled = q; parts = sym (nothing_in_front a x p) ∙ same }
further [] (f ∷ fs) gs us vs a b x y s t p q same stuck = absurd s
further (w ∷ ws) (f ∷ fs) [] us vs a b x y s t p q same stuck =
    let here : Stuck (w ∷ ws) y = subst (λ l. Stuck l y) (sym t) stuck in
    absurd (here f p.0 (p.1 ++ x) s.0 p.3 (sym (nothing_in_front b y q) ∙ sym same ∙ ap (λ l. l ++ x) p.2 ∙ append_assoc p.0 p.1 x))
further (w ∷ ws) (f ∷ fs) (g ∷ gs) us vs a b x y s t p q same stuck =
    let wide : length p.0 ≡ length q.0 = own_long w f p.0 s.0 p.3 ∙ sym (own_long w g q.0 t.0 q.3) in
    let whole : p.0 ++ (p.1 ++ x) ≡ q.0 ++ (q.1 ++ y) = sym (append_assoc p.0 p.1 x) ∙ ap (λ l. l ++ x) (sym p.2) ∙ same ∙ ap (λ l. l ++ y) q.2 ∙ append_assoc q.0 q.1 y in
    let both = split_same p.0 q.0 (p.1 ++ x) (q.1 ++ y) wide whole in
    let field : f ≡ g = spelled_same f g p.0 (same_kind w f g s.0 t.0) p.3 (subst (SpellsField g) (sym both.0) q.3) in
    let on : Steps (becomes w f ++ ws) gs vs = subst (λ h. Steps (becomes w h ++ ws) gs vs) (sym field) t.1 in
    let rest = further (becomes w f ++ ws) fs gs us vs p.1 q.1 x y s.1 on p.4 q.4 both.1 stuck in
    record { more = rest.more; bytes = rest.bytes; fields = cons_same g f gs (fs ++ rest.more) (sym field) rest.fields; steps = rest.steps; spelled = rest.spelled; parts = rest.parts }

-- ---- the line that is open
-- of a text that goes on, these are all the bytes
abbrev pub Reaches : List Want → List ℕ → List ℕ → Type 0
Reaches (a_text n ∷ vs) y last = y ≡ last
Reaches vs y last = ⊤

abbrev Longer : List Want → List ℕ → List ℕ → Type 0
Longer (a_text n ∷ vs) own last = IsPrefix own last
Longer vs own last = ⊤

longer : (us : List Want) (own rest y last : List ℕ) → own ++ rest ≡ y → Reaches us y last → Longer us own last
longer [] own rest y last is reaches = tt
longer (a_text n ∷ us) own rest y last is reaches = (rest, sym (is ∙ reaches))
longer (a_count n ∷ us) own rest y last is reaches = tt
longer (a_value path base ∷ us) own rest y last is reaches = tt
longer (a_byte path ∷ us) own rest y last is reaches = tt
longer (a_filler n ∷ us) own rest y last is reaches = tt
longer (a_padding n ∷ us) own rest y last is reaches = tt
longer (rows above name columns row ∷ us) own rest y last is reaches = tt

opens_more : (p : List ℕ) (us : List Want) (own last : List ℕ) → Longer us own last → IsPrefix (opens p us own) (opens p us last)
opens_more p [] own last l = ([], refl)
opens_more p (a_text n ∷ us) own last l = (
  flat_map shown_byte l.0,
  ap (λ t. p ++ flat_map shown_byte t) l.1 ∙ ap (λ t. p ++ t) (flat_map-append shown_byte own l.0) ∙ sym (append_assoc p (flat_map shown_byte own) (flat_map shown_byte l.0)),
)
opens_more p (a_count n ∷ us) own last l = ([], refl)
opens_more p (a_value path base ∷ us) own last l = prefix_self (path ++ codes " = ")
opens_more p (a_byte path ∷ us) own last l = prefix_self (path ++ codes " = ")
opens_more p (a_filler n ∷ us) own last l = ([], refl)
opens_more p (a_padding n ∷ us) own last l = prefix_self (p ++ codes "\"\n")
opens_more p (rows above name columns row ∷ us) own last l = ([], refl)

-- the bytes that came of a text begin it
abbrev Begins : Field → List ℕ → Type 0
Begins (text bytes) own = IsPrefix own bytes
Begins f own = ⊤

pub text_bytes : (b x : List ℕ) → SpellsField (text b) x → x ≡ b
unfolding field_bytes
text_bytes b x is = is

begins : (w : Want) (own rest : List ℕ) (h : Field) (hs : List Field) (z y : List ℕ) → Goes w h → length own < room w → SpellsFields (h ∷ hs) z → own ++ rest ≡ z ++ y → Begins h own
begins (a_text n) own rest (text bytes) hs z y goes short spelled same =
    let is : spelled.0 ≡ bytes = text_bytes bytes spelled.0 spelled.3 in
    let few : length own < n = short in
    let long : length bytes ≡ n = goes in
    let (k, whole) = shorter own spelled.0 rest (spelled.1 ++ y) (same ∙ ap (λ l. l ++ y) spelled.2 ∙ append_assoc spelled.0 spelled.1 y) (omega (arith, few, long, ap length is)) in
    (k, sym is ∙ whole)
begins w own rest (count n) hs z y goes short spelled same = tt
begins w own rest (number b v) hs z y goes short spelled same = tt
begins w own rest (packed v) hs z y goes short spelled same = tt
begins w own rest (filler n) hs z y goes short spelled same = tt
begins w own rest (size n) hs z y goes short spelled same = tt
begins w own rest (padding n) hs z y goes short spelled same = tt
begins w own rest (mark b) hs z y goes short spelled same = tt
begins w own rest (text bytes) hs z y goes short spelled same = absurd goes

line_front : (path : List ℕ) (v : Value) (rest : List ℕ) → IsPrefix (path ++ codes " = ") ((path ++ codes " = " ++ shown_value v ++ codes "\n") ++ rest)
line_front path v rest =
    let front : List ℕ = path ++ codes " = " in
    prefix_more front (front ++ shown_value v ++ codes "\n") rest (prefix_more front (front ++ shown_value v) (codes "\n") (prefix_more front front (shown_value v) (prefix_self front)))

-- what is said of the next field goes on with it
opens_said : (p : List ℕ) (w : Want) (us : List Want) (own : List ℕ) (h : Field) (hs : List Field) → Goes w h → Begins h own → Quiet h p → IsPrefix (opens p (w ∷ us) own) (p ++ said (w ∷ us) (h ∷ hs))
unfolding said
opens_said p (a_value path base) us own (number b v) hs goes begun quiet =
    subst (λ q. IsPrefix (path ++ codes " = ") (q ++ said (a_value path base ∷ us) (number b v ∷ hs))) (sym quiet) (line_front path v (said us hs))
opens_said p (a_value path base) us own (size n) hs goes begun quiet =
    subst (λ q. IsPrefix (path ++ codes " = ") (q ++ said (a_value path base ∷ us) (size n ∷ hs))) (sym quiet)
    (prefix_more (path ++ codes " = ") (path ++ codes " = \"") (said (a_text n ∷ a_padding n ∷ us) hs) (codes "\"", sym (append_assoc path (codes " = ") (codes "\""))))
opens_said p (a_byte path) us own (packed v) hs goes begun quiet =
    subst (λ q. IsPrefix (path ++ codes " = ") (q ++ said (a_byte path ∷ us) (packed v ∷ hs))) (sym quiet) (line_front path v (said us hs))
opens_said p (a_text n) us own (text bytes) hs goes begun quiet =
    let more : List ℕ = said us hs in (
      flat_map shown_byte begun.0 ++ more,
      ap (λ l. p ++ (flat_map shown_byte l ++ more)) begun.1 ∙ ap (λ l. p ++ (l ++ more)) (flat_map-append shown_byte own begun.0)
          ∙ ap (λ l. p ++ l) (append_assoc (flat_map shown_byte own) (flat_map shown_byte begun.0) more) ∙ sym (append_assoc p (flat_map shown_byte own) (flat_map shown_byte begun.0 ++ more)),
    )
opens_said p (a_padding n) us own (padding m) hs goes begun quiet = (said us hs, sym (append_assoc p (codes "\"\n") (said us hs)))
opens_said p (a_count n) us own h hs goes begun quiet = (p ++ said (a_count n ∷ us) (h ∷ hs), refl)
opens_said p (a_filler n) us own h hs goes begun quiet = (p ++ said (a_filler n ∷ us) (h ∷ hs), refl)
opens_said p (rows above name columns row) us own h hs goes begun quiet = (p ++ said (rows above name columns row ∷ us) (h ∷ hs), refl)
opens_said p w us own h hs goes begun quiet = absurd goes

pub said_join : (ws : List Want) (fs gs : List Field) (us : List Want) → Steps ws fs us → said ws (fs ++ gs) ≡ said ws fs ++ said us gs
unfolding Steps said
said_join ws [] gs us steps = ap (λ l. said l gs) steps
said_join [] (f ∷ fs) gs us steps = absurd steps
said_join (w ∷ ws) (f ∷ fs) gs us steps = ap (λ l. says w f ++ l) (said_join (becomes w f ++ ws) fs gs us steps.1) ∙ sym (append_assoc (says w f) (said (becomes w f ++ ws) fs) (said us gs))

-- ---- what is shown
grown_by : (d : Dataset) (fs more : List Field) (us vs : List Want) (own rest z y last out : List ℕ) → Steps (wants_of d) fs us → Steps us more vs → SpellsFields more z → own ++ rest ≡ z ++ y → IsPart us own → Reaches vs y last
    → IsPrefix (said (wants_of d) (fs ++ more) ++ says_next vs last) out → out ≡ whole_lines [] (wants_of d) (fs ++ more) ++ opens (pending [] (wants_of d) (fs ++ more)) vs last
    → IsPrefix (whole_lines [] (wants_of d) fs ++ opens (pending [] (wants_of d) fs) us own) out
unfolding Steps
grown_by d fs [] us vs own rest z y last out steps on spelled same part reaches within is =
    let ws = wants_of d in
    let all : own ++ rest ≡ y = same ∙ nothing_in_front z y spelled in
    let further' = opens_more (pending [] ws fs) us own last (longer us own rest y last all (subst (λ l. Reaches l y last) (sym on) reaches)) in
    let end : whole_lines [] ws fs ++ opens (pending [] ws fs) us last ≡ out =
    ap (λ l. whole_lines [] ws fs ++ opens (pending [] ws fs) l last) on ∙ ap (λ l. whole_lines [] ws l ++ opens (pending [] ws l) vs last) (sym (append-nil fs)) ∙ sym is in
    subst (IsPrefix (whole_lines [] ws fs ++ opens (pending [] ws fs) us own)) end (prefix_behind (whole_lines [] ws fs) (opens (pending [] ws fs) us own) (opens (pending [] ws fs) us last) further')
grown_by d fs (h ∷ hs) [] vs own rest z y last out steps on spelled same part reaches within is = absurd on
grown_by d fs (h ∷ hs) (w ∷ us) vs own rest z y last out steps on spelled same part reaches within is =
    let ws = wants_of d in
    let p = pending [] ws fs in
    let lines = whole_lines [] ws fs in
    let later = said (w ∷ us) (h ∷ hs) in
    let one = opens_said p w us own h hs on.0 (begins w own rest h hs z y on.0 part spelled same) (quiet_before d fs w us h steps on.0) in
    let two : IsPrefix (lines ++ opens p (w ∷ us) own) (lines ++ (p ++ later)) = prefix_behind lines (opens p (w ∷ us) own) (p ++ later) one in
    let all : said ws (fs ++ h ∷ hs) ≡ lines ++ (p ++ later) = said_join ws fs (h ∷ hs) (w ∷ us) steps ∙ ap (λ l. l ++ later) (all_said [] ws fs) ∙ append_assoc lines p later in
    prefix_trans (lines ++ opens p (w ∷ us) own) (said ws (fs ++ h ∷ hs) ++ says_next vs last) out
    (prefix_more (lines ++ opens p (w ∷ us) own) (said ws (fs ++ h ∷ hs)) (says_next vs last) (subst (IsPrefix (lines ++ opens p (w ∷ us) own)) (sym all) two)) within

-- the lines of a front by its fields
front_lines : (d : Dataset) (fs : List Field) (vs : List Want) (front own whole more : List ℕ) → Steps (wants_of d) fs vs → SpellsFields fs front → IsPart vs own → IsFront d (front ++ own) whole more
    → (whole ≡ whole_lines [] (wants_of d) fs) × (more ≡ opens (pending [] (wants_of d) fs) vs own)
front_lines d fs vs front own whole more steps spelled part is =
    let ws = wants_of d in
    let t = told d (front ++ own) whole more is in
    let (fields, owns) = one_parse ws t.fields fs t.vs vs t.front front t.own own t.steps steps t.spelled spelled (sym t.parts) t.part part in (
      t.whole_is ∙ ap (λ l. whole_lines [] ws l) fields,
      t.more_is ∙ ap (λ l. opens (pending [] ws l) (after ws l) t.own) fields ∙ ap (λ l. opens (pending [] ws fs) (after ws fs) l) owns ∙ ap (λ l. opens (pending [] ws fs) l own) (after_steps ws fs vs steps),
    )

-- these bytes are a good front, and what may be shown of them begins with this text
pub record Grown (d : Dataset) (good text : List ℕ) : Type 0 where
  pub whole : List ℕ
  pub more : List ℕ
  pub is_front : IsFront d good whole more
  pub within : IsPrefix text (whole ++ more)

-- behind a front stand further bytes: good fields and no more, and of the next one these bytes
pub grown : (d : Dataset) (bs rest whole more : List ℕ) (gs : List Field) (vs : List Want) (b y good last : List ℕ) → IsFront d bs whole more → Steps (wants_of d) gs vs → SpellsFields gs b → bs ++ rest ≡ b ++ y
    → Stuck vs y → IsPart vs last → Reaches vs y last → good ≡ b ++ last → Grown d good (whole ++ more)
grown d bs rest whole more gs vs b y good last is steps spelled same stuck part reaches good_is =
    let ws = wants_of d in
    let t = told d bs whole more is in
    let all : t.front ++ (t.own ++ rest) ≡ b ++ y = sym (append_assoc t.front t.own rest) ∙ ap (λ l. l ++ rest) (sym t.parts) ∙ same in
    let f = further ws t.fields gs t.vs vs t.front b (t.own ++ rest) y t.steps steps t.spelled spelled all stuck in
    let new = shows d gs vs b last steps spelled part in
    let (wholes, mores) = front_lines d gs vs b last new.whole new.more steps spelled part new.is_front in
    let out : new.whole ++ new.more ≡ whole_lines [] ws gs ++ opens (pending [] ws gs) vs last = ap (λ l. l ++ new.more) wholes ∙ ap (λ l. whole_lines [] ws gs ++ l) mores in
    let old : whole ++ more ≡ whole_lines [] ws t.fields ++ opens (pending [] ws t.fields) t.vs t.own =
    ap (λ l. l ++ more) t.whole_is ∙ ap (λ l. whole_lines [] ws t.fields ++ l) (t.more_is ∙ ap (λ l. opens (pending [] ws t.fields) l t.own) (after_steps ws t.fields t.vs t.steps)) in
    record {
      whole = new.whole;
      more = new.more;
      is_front = subst (λ l. IsFront d l new.whole new.more) (sym good_is) new.is_front;
      within = subst (λ l. IsPrefix l (new.whole ++ new.more)) (sym old)
          (grown_by d t.fields f.more t.vs vs t.own rest f.bytes y last (new.whole ++ new.more) t.steps f.steps f.spelled f.parts t.part reaches
          (subst (λ l. IsPrefix (said ws l ++ says_next vs last) (new.whole ++ new.more)) f.fields new.within)
          (out ∙ ap (λ l. whole_lines [] ws l ++ opens (pending [] ws l) vs last) f.fields));
    }

-- all bytes of the field that is not whole
pub reaches_all : (vs : List Want) (y : List ℕ) → Reaches vs y y
reaches_all [] y = tt
reaches_all (a_text n ∷ vs) y = refl
reaches_all (a_count n ∷ vs) y = tt
reaches_all (a_value path base ∷ vs) y = tt
reaches_all (a_byte path ∷ vs) y = tt
reaches_all (a_filler n ∷ vs) y = tt
reaches_all (a_padding n ∷ vs) y = tt
reaches_all (rows above name columns row ∷ vs) y = tt

part_stuck : (vs : List Want) (own : List ℕ) → IsPart vs own → Stuck vs own
part_stuck [] own part = tt
part_stuck (w ∷ ws) own part = short_stuck w ws own part

pub fronts_grow : (d : Dataset) (bs rest whole more whole' more' : List ℕ) → IsFront d bs whole more → IsFront d (bs ++ rest) whole' more' → IsPrefix (whole ++ more) (whole' ++ more')
fronts_grow d bs rest whole more whole' more' one two =
    let t = told d (bs ++ rest) whole' more' two in
    let g = grown d bs rest whole more t.fields t.vs t.front t.own (bs ++ rest) t.own one t.steps t.spelled t.parts (part_stuck t.vs t.own t.part) t.part (reaches_all t.vs t.own) t.parts in
    let (wholes, mores) = one_front d (bs ++ rest) g.whole g.more whole' more' g.is_front two in
    subst (IsPrefix (whole ++ more)) (ap (λ l. l ++ g.more) wholes ∙ ap (λ l. whole' ++ l) mores) g.within
