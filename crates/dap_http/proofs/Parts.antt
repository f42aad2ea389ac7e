-- What a reader of the body of a reply stands after, step by step.
use Rattle.std.proofs.Common.{◌≡◌, ℕ, ◌+◌, ◌-◌, ◌^◌, ◌<◌, ◌≤◌, ◌⊎◌, Bool, List, [], ◌++◌, length, take, drop, Option, refl, sym, ap, ◌∙◌, arith, append_assoc, append-nil, length-append, inl, inr, subst}
use Rattle.std.specs.Prelude.{IsTrue}
use Rattle.std.specs.List.{between}
use Rattle.std.specs.Io.KnownBytes.{Consumes}
use Rattle.std.proofs.KnownBytes.{Consumes-nil}
use Rattle.std.proofs.Math.Seq.{drop-append_seam}
use Rattle.std.proofs.lemmas.Bool.{cases_lt}
use Rattle.std.proofs.lemmas.List.{drop-drop, drop-take, length-take-le, take-append-drop, take-take}
use Rattle.std.proofs.lemmas.List.Edits.{length-between}
use Rattle.reply_faults.specs.declared.bad.BadField.{BadField}
use Rattle.reply_faults.specs.declared.bad.Bad.TheVariants.{Cut}
use Rattle.dap_types.specs.Limits.{body_limit}
use Rattle.dap_http.specs.After.{UnframerStandsAfter, coding_of, used_by}
use Rattle.dap_http.specs.Codings.{Ends, Fails, Goes}
use Rattle.dap_http.specs.Delivered.{IsBrokenBody, IsWholeBody}
use Rattle.dap_http.specs.Following.{Arrives, Follows, IsShort, body_coding, part_of, waiting}
use Rattle.dap_http.specs.inner.Parting.{IsUsedUp, taken_by}
use Rattle.dap_http.specs.inner.Tracking.{StandsIn}
use Rattle.dap_http.specs.declared.body_parts.Arrived.{Arrived}
use Rattle.dap_http.specs.declared.body_parts.BodyParts.{BodyParts}
use Rattle.dap_http.specs.declared.coding.Coding.{Coding}
use Rattle.dap_http.specs.declared.coding.Coding.TheVariants.{Chunked, Length, ToEnd}
use Rattle.dap_http.specs.declared.unframer.Unframer.{Unframer}
use Rattle.dap_http.proofs.FewLines.{few-lines}
use Rattle.dap_http.proofs.Lending.{stands-in}
use Rattle.dap_http.proofs.Whole.{known-goes}

-- ---- parts of a room

pub nothing-between : (room : List ℕ) (to end : ℕ) → to ≡ end → between to end room ≡ []
nothing-between room to end e = let none : end - to ≡ 0 = omega (arith, e) in ap (λ n. take n (drop to room)) none

pub waiting-less : (room : List ℕ) (to end used now : ℕ) → now ≡ to + used → now ≤ end → between now end room ≡ drop used (between to end room)
waiting-less room to end used now e le =
    let m = end - now in
    let count : end - to ≡ used + m = omega (arith, e, le) in
    let here : drop now room ≡ drop used (drop to room) = ap (λ n. drop n room) e ∙ sym (drop-drop used to room) in
    ap (take m) here ∙ sym (drop-take used m (drop to room)) ∙ ap (λ n. drop used (take n (drop to room))) (sym count)

pub part-lent : (room front lent : List ℕ) (to end used from now : ℕ) → now ≡ to + used → now ≤ end → end ≤ length room → from ≡ to + (used - length lent) → take used (between to end room) ≡ front ++ lent
    → between from now room ≡ lent
part-lent room front lent to end used from now e le fits starts is =
    let all : length (between to end room) ≡ end - to = length-between room to end fits in
    let count : length (take used (between to end room)) ≡ used = length-take-le used (between to end room) (omega (arith, all, e, le)) in
    let total : used ≡ length front + length lent = sym count ∙ ap length is ∙ length-append front lent in
    let k = length front in
    let begins : from ≡ to + k = omega (arith, starts, total) in
    let len : now - from ≡ length lent = omega (arith, begins, e, total) in
    let few : used ≤ end - to = omega (arith, e, le) in
    let short : take used (between to end room) ≡ take used (drop to room) = take-take used (end - to) (drop to room) few in
    let cut : drop k (take used (drop to room)) ≡ take (length lent) (drop k (drop to room)) = ap (λ n. drop k (take n (drop to room))) total ∙ drop-take k (length lent) (drop to room) in
    let mine : drop k (take used (drop to room)) ≡ lent = ap (drop k) (sym short ∙ is) ∙ drop-append_seam front lent in
    let place : drop from room ≡ drop k (drop to room) = ap (λ n. drop n room) begins ∙ sym (drop-drop k to room) in
    ap (λ n. take n (drop from room)) len ∙ ap (take (length lent)) place ∙ sym cut ∙ mine

-- ---- what is followed

pub record Opened (p : BodyParts) (bytes body : List ℕ) : Type 0 where
  pub used : List ℕ
  pub stands : UnframerStandsAfter p.unframer used
  pub parts : bytes ≡ used ++ waiting p
  pub comes : Goes (body_coding p) used body ⊎ Ends (body_coding p) used body

pub opened : (p : BodyParts) (bytes body : List ℕ) → Follows p bytes body → Opened p bytes body
unfolding Follows
opened p bytes body (used, stands, parts, comes) = record { used = used; stands = stands; parts = parts; comes = comes }

pub closed : (p : BodyParts) (bytes body used : List ℕ) → UnframerStandsAfter p.unframer used → bytes ≡ used ++ waiting p → Goes (body_coding p) used body ⊎ Ends (body_coding p) used body → Follows p bytes body
unfolding Follows
closed p bytes body used stands parts comes = (used, stands, parts, comes)

pub start-goes : (c : Coding) → Goes c [] [] ⊎ Ends c [] []
start-goes Chunked = inl (known-goes [] refl)
start-goes ToEnd = inl refl
start-goes (Length n) = elim (cases_lt 0 n) [
  | inl some ↦ inl (refl, some)
  | inr none ↦ inr (refl, omega (arith, none))
]

pub follows-new : (p : BodyParts) (first : List ℕ) → UnframerStandsAfter p.unframer [] → waiting p ≡ first → Follows p first []
follows-new p first stands is = closed p first [] [] stands (sym is) (start-goes (body_coding p))

-- the bytes that it has used are as many as it counts
count-in : (u : Unframer) (c : Coding) (bytes : List ℕ) → StandsIn c u bytes → u.used ≡ length bytes
count-in u Chunked bytes (tracks, all) = all
count-in u (Length n) bytes (lent, all, few) = all
count-in u ToEnd bytes (lent, all) = all

pub used-is : (u : Unframer) (bytes : List ℕ) → UnframerStandsAfter u bytes → u.used ≡ length bytes
used-is u bytes stands = count-in u u.coding bytes (stands-in u u.coding bytes refl stands)

-- and few where the body is short
pub limit-is : body_limit ≡ 1099511627776
limit-is = refl

pub short-room : (p : BodyParts) → IsShort p → used_by p.unframer + 65536 < 2 ^ 52
short-room p (bytes, body, follows, short) =
    let o = opened p bytes body follows in
    omega (arith, short, limit-is, few-lines (body_coding p) o.used body o.comes, used-is p.unframer o.used o.stands)

-- ---- what the waiting bytes give

-- what an unframer's clause says of bytes of the body
abbrev pub Lends : BodyParts → List ℕ → List ℕ → ℕ → Type 0
Lends p piece lent used =
    (b d : List ℕ) → UnframerStandsAfter p.unframer b → Goes (body_coding p) b d
    → (used ≤ length piece) × (0 < length lent) × ((front : List ℕ) × (take used piece ≡ front ++ lent))
    × (Goes (body_coding p) (b ++ take used piece) (d ++ lent) ⊎ Ends (body_coding p) (b ++ take used piece) (d ++ lent))

-- the body has not ended
abbrev pub HasNotEnded : BodyParts → Type 0
HasNotEnded p = (b d : List ℕ) → UnframerStandsAfter p.unframer b → Ends (body_coding p) b d → ⊥

pub piece-long : (p : BodyParts) (piece : List ℕ) → waiting p ≡ piece → length piece ≡ p.end - p.to
piece-long p piece is = ap length (sym is) ∙ length-between p.room.items p.to p.end (omega (arith, p.filled, p.size))

pub piece-room : (p : BodyParts) (piece : List ℕ) → IsShort p → waiting p ≡ piece → used_by p.unframer + length piece < 2 ^ 63
piece-room p piece short is = omega (arith, short-room p short, piece-long p piece is, p.filled)

split : (bytes b piece rest : List ℕ) (used : ℕ) → bytes ≡ b ++ piece → rest ≡ drop used piece → bytes ≡ (b ++ take used piece) ++ rest
split bytes b piece rest used e is =
    e ∙ ap (λ t. b ++ t) (sym (take-append-drop used piece) ∙ ap (λ t. take used piece ++ t) (sym is)) ∙ sym (append_assoc b (take used piece) rest)

pub parted : (p : BodyParts) (bytes b piece : List ℕ) → waiting p ≡ piece → bytes ≡ b ++ waiting p → bytes ≡ b ++ piece
parted p bytes b piece is e = e ∙ ap (λ t. b ++ t) is

pub lent-within : (old : BodyParts) (piece lent : List ℕ) (used : ℕ) → IsShort old → Lends old piece lent used → HasNotEnded old → length lent ≤ used
lent-within old piece lent used (bytes, body, follows, short) part no_end = go (opened old bytes body follows) where
  go : Opened old bytes body → length lent ≤ used
  go o = elim o.comes [
    | inl goes ↦
        let (within, some, (front, ends), comes) = part o.used body o.stands goes in
        omega (arith, length-take-le used piece within, ap length ends, length-append front lent)
    | inr ends ↦ absurd (no_end o.used body o.stands ends)
  ]

-- bytes of the body
pub part-follows : (old new : BodyParts) (bytes body piece lent : List ℕ) (used : ℕ) → waiting old ≡ piece → body_coding new ≡ body_coding old → waiting new ≡ drop used piece
    → Follows old bytes body → Lends old piece lent used → HasNotEnded old → ((b : List ℕ) → UnframerStandsAfter old.unframer b → UnframerStandsAfter new.unframer (b ++ take used piece))
    → ((front : List ℕ) → take used piece ≡ front ++ lent → part_of new ≡ lent)
    → (0 < length (part_of new)) × Follows new bytes (body ++ part_of new)
part-follows old new bytes body piece lent used is coding rest follows part no_end stands lends = go (opened old bytes body follows) where
  go : Opened old bytes body → (0 < length (part_of new)) × Follows new bytes (body ++ part_of new)
  go o = elim o.comes [
    | inl goes ↦
        let (within, some, (front, ends), comes) = part o.used body o.stands goes in
        let same : part_of new ≡ lent = lends front ends in (
          omega (arith, ap length same, some),
          closed new bytes (body ++ part_of new) (o.used ++ take used piece) (stands o.used o.stands) (split bytes o.used piece (waiting new) used (parted old bytes o.used piece is o.parts) rest)
              (subst (λ (c : Coding). Goes c (o.used ++ take used piece) (body ++ part_of new) ⊎ Ends c (o.used ++ take used piece) (body ++ part_of new)) (sym coding)
              (subst (λ (t : List ℕ). Goes (body_coding old) (o.used ++ take used piece) (body ++ t) ⊎ Ends (body_coding old) (o.used ++ take used piece) (body ++ t)) (sym same) comes)),
        )
    | inr ends ↦ absurd (no_end o.used body o.stands ends)
  ]

-- nothing more: all is used
pub more-follows : (old : BodyParts) (u : Unframer) (bytes body piece : List ℕ) → waiting old ≡ piece → coding_of u ≡ body_coding old → Follows old bytes body
    → ((b d : List ℕ) → UnframerStandsAfter old.unframer b → Goes (body_coding old) b d → Goes (body_coding old) (b ++ piece) d)
    → HasNotEnded old → ((b : List ℕ) → UnframerStandsAfter old.unframer b → UnframerStandsAfter u (b ++ piece)) → UnframerStandsAfter u bytes × Goes (coding_of u) bytes body
more-follows old u bytes body piece is coding follows more no_end stands = go (opened old bytes body follows) where
  go : Opened old bytes body → UnframerStandsAfter u bytes × Goes (coding_of u) bytes body
  go o = elim o.comes [
    | inl goes ↦
        let all : bytes ≡ o.used ++ piece = parted old bytes o.used piece is o.parts in (
          subst (λ (t : List ℕ). UnframerStandsAfter u t) (sym all) (stands o.used o.stands),
          subst (λ (c : Coding). Goes c bytes body) (sym coding) (subst (λ (t : List ℕ). Goes (body_coding old) t body) (sym all) (more o.used body o.stands goes)),
        )
    | inr ends ↦ absurd (no_end o.used body o.stands ends)
  ]

-- the end
pub end-follows : (old : BodyParts) (coding : Coding) (bytes body piece rest : List ℕ) (used : ℕ) (ended : Bool) → waiting old ≡ piece → coding ≡ body_coding old → rest ≡ drop used piece → Follows old bytes body
    → ((b d : List ℕ) → UnframerStandsAfter old.unframer b → Goes (body_coding old) b d → (used ≤ length piece) × Ends (body_coding old) (b ++ take used piece) d)
    → ((b d : List ℕ) → UnframerStandsAfter old.unframer b → Ends (body_coding old) b d → used ≡ 0)
    → IsWholeBody coding bytes ended body rest
end-follows old coding bytes body piece rest used ended is same left follows ends again = go (opened old bytes body follows) where
  coded : (f : List ℕ) → Ends (body_coding old) f body → Ends coding f body
  coded f e = subst (λ (c : Coding). Ends c f body) (sym same) e

  go : Opened old bytes body → IsWholeBody coding bytes ended body rest
  go o = elim o.comes [
    | inl goes ↦ inl (o.used ++ take used piece, coded (o.used ++ take used piece) (ends o.used body o.stands goes).1, split bytes o.used piece rest used (parted old bytes o.used piece is o.parts) left)
    | inr over ↦
        let none : used ≡ 0 = again o.used body o.stands over in
        let all : rest ≡ piece = left ∙ ap (λ n. drop n piece) none in
        inl (o.used, coded o.used over, parted old bytes o.used piece is o.parts ∙ ap (λ t. o.used ++ t) (sym all))
  ]

-- a fault
pub fault-follows : (X : Type 0) (old : BodyParts) (coding : Coding) (bytes body piece : List ℕ) (place : ℕ) → waiting old ≡ piece → coding ≡ body_coding old → Follows old bytes body
    → ((b d : List ℕ) → UnframerStandsAfter old.unframer b → Goes (body_coding old) b d → X × Fails (body_coding old) (b ++ piece) d place)
    → HasNotEnded old → X × Fails coding bytes body place
fault-follows X old coding bytes body piece place is same follows fails no_end = go (opened old bytes body follows) where
  go : Opened old bytes body → X × Fails coding bytes body place
  go o = elim o.comes [
    | inl goes ↦
        let all : bytes ≡ o.used ++ piece = parted old bytes o.used piece is o.parts in
        let (kind, there) = fails o.used body o.stands goes in
        (kind, subst (λ (c : Coding). Fails c bytes body place) (sym same) (subst (λ (t : List ℕ). Fails (body_coding old) t body place) (sym all) there))
    | inr ends ↦ absurd (no_end o.used body o.stands ends)
  ]

-- ---- more bytes, and the end of the source

pub filled : (old new : BodyParts) (bytes body taken : List ℕ) → new.unframer ≡ old.unframer → waiting new ≡ taken → IsUsedUp old bytes body → Follows new (bytes ++ taken) body
filled old new bytes body taken same is (empty, stands, goes) =
    closed new (bytes ++ taken) body bytes (subst (λ (u : Unframer). UnframerStandsAfter u bytes) (sym same) stands) (ap (λ t. bytes ++ t) (sym is))
    (inl (subst (λ (u : Unframer). Goes (coding_of u) bytes body) (sym same) goes))

-- the source has ended
pub ended-whole : (coding : Coding) (bytes body rest : List ℕ) (ended : Bool) → Goes coding bytes body → coding ≡ ToEnd → IsTrue ended → rest ≡ [] → IsWholeBody coding (bytes ++ []) ended body rest
ended-whole coding bytes body rest ended goes is end none =
    let same : body ≡ bytes = subst (λ (c : Coding). Goes c bytes body) is goes in
    inr (is, end, append-nil bytes ∙ sym same, none)

pub ended-cut : (coding : Coding) (bytes body : List ℕ) (bad : BadField) (ended : Bool) → Goes coding bytes body → ¬ (coding ≡ ToEnd) → IsTrue ended → bad ≡ record { kind = Cut; place = length body }
    → IsBrokenBody coding (bytes ++ []) ended body bad
ended-cut coding bytes body bad ended goes framed end is = inr (subst (λ (t : List ℕ). Goes coding t body) (sym (append-nil bytes)) goes, framed, end, is)

pub takes-none : (a b : Option (List ℕ)) (n : ℕ) (items : List ℕ) → n ≡ 0 → Consumes a b (take n items) → Consumes a b []
takes-none a b n items e consumes = subst (λ (m : ℕ). Consumes a b (take m items)) e consumes

-- nothing is taken
pub arrives-now : (p : BodyParts) (bytes body : List ℕ) (ended : Bool) (answer : Arrived) → Arrives p bytes body ended answer → Arrives p (bytes ++ []) body ended answer
arrives-now p bytes body ended answer arrives = subst (λ (t : List ℕ). Arrives p t body ended answer) (sym (append-nil bytes)) arrives

pub takes-nothing : (a b : Option (List ℕ)) → b ≡ a → Consumes a b []
takes-nothing a b e = subst (λ (o : Option (List ℕ)). Consumes a o []) (sym e) (Consumes-nil a)

-- what is followed stays short while no more comes of the body
pub still-short : (start now : BodyParts) (x : List ℕ) → IsShort start → ((bytes body : List ℕ) → Follows start bytes body → Follows now (bytes ++ x) body) → IsShort now
still-short start now x (bytes, body, follows, short) on = (bytes ++ x, body, on bytes body follows, short)

pub few-taken : (p : BodyParts) → IsShort p → taken_by p < 2 ^ 53
few-taken p short = omega (arith, short-room p short, p.filled)
