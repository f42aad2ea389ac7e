-- A cache stays backed.
use Rattle.std.proofs.Common.{◌≡◌, ◌≢◌, ◌≤◌, ℕ, ◌-◌, ◌⊎◌, inl, inr, Bool, true, false, cond, List, [], ◌∷◌, ◌++◌, length, take, map, Option, Some, None, refl, sym, ap, ◌∙◌, subst, arith, append_assoc}
use Rattle.std.specs.Prelude.{IsSome, IsTrue}
use Rattle.std.specs.Io.KnownBytes.{Appends}
use Rattle.std.specs.List.{All, Contains}
use Rattle.std.specs.Map.{lookup}
use Rattle.std.specs.Option.{option_and_then, option_map}
use Rattle.std.specs.Str.{bytes_eq}
use Rattle.std.proofs.lemmas.Bool.{false≢true}
use Rattle.std.proofs.lemmas.List.{take_all}
use Rattle.std.proofs.lemmas.List.Elements.{All-append, All-cons, All-contains, All-contains_itself, All-head, All-nil, All-tail, All-take, All-weaker}
use Rattle.std.proofs.lemmas.Slice.Eq.{bytes_eq-Decides}
use Rattle.dap_client.proofs.Lasts.{at-end}
use Rattle.dap_http.proofs.HeadReading.{left-behind}
use Rattle.plain_lemmas.proofs.Options.{same_value}
use Rattle.lru.proofs.CallerLemmas.{Contains-promoted}
use Rattle.lru.specs.LruCache.{promoted}
use Rattle.target_names.specs.Names.{is_name}
use Rattle.dap_types.specs.Limits.{most_kept}
use Rattle.dap_outside.specs.Links.{IsNew, LinkState}
use Rattle.dap_http.proofs.Deliveries.{delivery-more}
use Rattle.dap_http.specs.Delivered.{Delivers}
use Rattle.dap_http.specs.Targets.{Asked}
use Rattle.dap_client.specs.Fetched.{DialState}
use Rattle.dap_client.specs.Replies.{form_of}
use Rattle.dap_client.specs.Verdict.{Form}
use Rattle.dap_client.specs.declared.body_outcome.BodyOutcome.{BodyOutcome}
use Rattle.dap_client.specs.declared.body_outcome.BodyOutcome.TheVariants.{Good, ReadFault}
use Rattle.dap_gateway.proofs.Keys.{no-front}
use Rattle.dap_gateway.specs.Backed.{AreBacked, Exchange, IsBacked, IsGoodReply, IsLast, all_of, exchange_of, history}
use Rattle.dap_gateway.specs.Upstream.{Dials, IsAsked, IsAskedOver, IsUnasked, key_of}

abbrev Pair : Type 0
Pair = List ℕ × List ℕ

-- ---- the history with one more link

abbrev with_last : List Exchange → Exchange → List Exchange
with_last es e = es ++ e ∷ []

step : (x : Exchange) (o : Option (List Exchange)) (y : Option Exchange)
    → option_map (λ es. x ∷ es) (option_and_then (λ es. option_map (with_last es) y) o) ≡ option_and_then (λ es. option_map (with_last es) y) (option_map (λ es. x ∷ es) o)
step x None y = refl
step x (Some es) None = refl
step x (Some es) (Some y) = refl

all-more : (xs : List (Option Exchange)) (y : Option Exchange) → all_of (xs ++ y ∷ []) ≡ option_and_then (λ es. option_map (with_last es) y) (all_of xs)
all-more [] None = refl
all-more [] (Some e) = refl
all-more (None ∷ xs) y = refl
all-more (Some x ∷ xs) y = ap (option_map (λ es. x ∷ es)) (all-more xs y) ∙ step x (all_of xs) y

map-more : {A B : Type 0} (f : A → B) (xs : List A) (y : A) → map f (xs ++ y ∷ []) ≡ map f xs ++ f y ∷ []
map-more f [] y = refl
map-more f (x ∷ xs) y = ap (λ l. f x ∷ l) (map-more f xs y)

abbrev Back : Type 0 → Type 0
Back W = Option (List ((List ℕ × ℕ) × W))

pub history-more : {W : Type 0} (state : W → LinkState) (back : Back W) (pair : (List ℕ × ℕ) × W)
    → history state (option_map (λ links. links ++ pair ∷ []) back) ≡ option_and_then (λ es. option_map (with_last es) (exchange_of state pair)) (history state back)
history-more {W} state None pair = refl
history-more {W} state (Some links) pair = ap all_of (map-more (exchange_of state) links pair) ∙ all-more (map (exchange_of state) links) (exchange_of state pair)

-- ---- one pair

last-more : (es : List Exchange) (x e : Exchange) (key : List ℕ) → x.written ≢ key → IsLast es key e → IsLast (es ++ x ∷ []) key e
last-more es x e key other l = record {
  before = l.before;
  after = l.after ++ x ∷ [];
  parts = ap (λ t. t ++ x ∷ []) l.parts ∙ append_assoc l.before (e ∷ l.after) (x ∷ []);
  is_written = l.is_written;
  later = All-append (λ y. y.written ≢ key) l.after (x ∷ []) l.later (All-cons (λ y. y.written ≢ key) x [] other (All-nil (λ y. y.written ≢ key)));
}

new-last : (es : List Exchange) (x : Exchange) (key : List ℕ) → x.written ≡ key → IsLast (es ++ x ∷ []) key x
new-last es x key is = record { before = es; after = []; parts = refl; is_written = is; later = All-nil (λ y. y.written ≢ key) }

backed-more : (host : List ℕ) (port : ℕ) (es : List Exchange) (x : Exchange) (p : Pair) → x.written ≢ p.0 → IsBacked host port es p → IsBacked host port (es ++ x ∷ []) p
backed-more host port es x p other b = record {
  asked = b.asked;
  is_key = b.is_key;
  named = b.named;
  exchange = b.exchange;
  last = last-more es x b.exchange p.0 other b.last;
  good = b.good;
  small = b.small;
}

-- what was written of a request is no request that is kept
abbrev IsFrontOf : List ℕ → List ℕ → Type 0
IsFrontOf key written = (k : ℕ) × (written ≡ take k key)

not-kept : (host : List ℕ) (port : ℕ) (asked : Asked) (key written : List ℕ) (p : Pair) (es : List Exchange) → key ≡ key_of host port asked → IsTrue (is_name asked.name) → IsFrontOf key written
    → IsBacked host port es p → bytes_eq key p.0 ≡ false → written ≢ p.0
not-kept host port asked key written p es is named (k, front) b other same =
    let own : take k (key_of host port asked) ≡ key_of host port b.asked = ap (take k) (sym is) ∙ sym front ∙ same ∙ b.is_key in
    let one : key ≡ p.0 = is ∙ no-front host port k b.asked asked b.named named own ∙ sym b.is_key in
    false≢true (sym other ∙ (bytes_eq-Decides key p.0).1 one)

all-more-pairs : (host : List ℕ) (port : ℕ) (asked : Asked) (key : List ℕ) (es : List Exchange) (x : Exchange) (ps : List Pair) → key ≡ key_of host port asked → IsTrue (is_name asked.name) → IsFrontOf key x.written
    → lookup (bytes_eq key) ps ≡ None → All (IsBacked host port es) ps → All (IsBacked host port (es ++ x ∷ [])) ps
all-more-pairs host port asked key es x [] is named front none all = All-nil (IsBacked host port (es ++ x ∷ []))
all-more-pairs host port asked key es x (p ∷ ps) is named front none all =
    go (bytes_eq key p.0) refl none (λ gone. all-more-pairs host port asked key es x ps is named front gone (All-tail (IsBacked host port es) p ps all)) where
      go : (t : Bool) → bytes_eq key p.0 ≡ t → cond t (Some p.1) (lookup (bytes_eq key) ps) ≡ None → (lookup (bytes_eq key) ps ≡ None → All (IsBacked host port (es ++ x ∷ [])) ps) → All (IsBacked host port (es ++ x ∷ [])) (p ∷ ps)
      go true same gone more = cc gone
      go false other gone more =
          let here = All-head (IsBacked host port es) p ps all in
          All-cons (IsBacked host port (es ++ x ∷ [])) p ps (backed-more host port es x p (not-kept host port asked key x.written p es is named front here other) here)
          (more gone)

-- ---- the link of this call

-- what a new link has written is what was appended
written-is : (came back : Option (List ℕ)) (bytes w : List ℕ) → IsSome came → came ≡ option_map (λ _. []) came → Appends came back bytes → back ≡ Some w → w ≡ bytes
written-is None back bytes w some new appends is = cc some
written-is (Some xs) None bytes w some new appends is = absurd appends
written-is (Some xs) (Some ys) bytes w some new appends is =
    let nothing : xs ≡ [] = same_value xs [] new in
    sym (same_value ys w is) ∙ appends ∙ ap (λ l. l ++ bytes) nothing

front-written : (form : Form) (key : List ℕ) (came back : LinkState) (outcome : BodyOutcome) (w : List ℕ) → IsSome came.written → IsAskedOver form key came back outcome → back.written ≡ Some w → IsFrontOf key w
front-written form key came back outcome w some over is = go over.asked where
  go : IsUnasked key came back outcome ⊎ IsAsked form key came back outcome → IsFrontOf key w
  go (inl unasked) = let (k, few, appends) = unasked.sent in (k, written-is came.written back.written (take k key) w some over.is_new.none_written appends is)
  go (inr asked) = (length key, written-is came.written back.written key w some over.is_new.none_written asked.sent is ∙ sym (take_all (length key) key (omega arith)))

told-parts : {W : Type 0} (state : W → LinkState) (host : List ℕ) (port : ℕ) (link : W) (x : Exchange) → exchange_of state ((host, port), link) ≡ Some x → ((state link).written ≡ Some x.written) × ((state link).whole ≡ Some x.reply)
told-parts {W} state host port link x is = go (state link).written (state link).whole refl refl is where
  go : (w r : Option (List ℕ)) → (state link).written ≡ w → (state link).whole ≡ r
      → option_and_then (λ written. option_map (λ reply. record { host = host; port = port; written = written; reply = reply }) r) w ≡ Some x → ((state link).written ≡ Some x.written) × ((state link).whole ≡ Some x.reply)
  go None r a b e = cc e
  go (Some w) None a b e = cc e
  go (Some w) (Some r) a b e =
      let same : record { host = host; port = port; written = w; reply = r } ≡ x = cc e in
      (a ∙ ap (λ (y : Exchange). Some y.written) same, b ∙ ap (λ (y : Exchange). Some y.reply) same)

-- ---- the pairs that were there

pub backed-dialled : {W : Type 0} (state : W → LinkState) (host : List ℕ) (port : ℕ) (asked : Asked) (form : Form) (key : List ℕ) (a b : DialState W) (outcome : BodyOutcome) (ps : List Pair) → ((l : W) → IsNew (state l) → IsSome (state l).written)
    → key ≡ key_of host port asked → IsTrue (is_name asked.name) → lookup (bytes_eq key) ps ≡ None → Dials state host port form key a b outcome
    → AreBacked host port (history state a.back) ps → AreBacked host port (history state b.back) ps
backed-dialled {W} state host port asked form key a b outcome ps tells is named none (inl not) backed = subst (λ h. AreBacked host port (history state h) ps) (sym not.back) backed
backed-dialled {W} state host port asked form key a b outcome ps tells is named none (inr c) backed =
    subst (λ h. AreBacked host port (history state h) ps) (sym c.back)
    (subst (λ h. AreBacked host port h ps) (sym (history-more state a.back ((host, port), c.link))) (go (history state a.back) (exchange_of state ((host, port), c.link)) refl backed)) where
      go : (h : Option (List Exchange)) (y : Option Exchange) → exchange_of state ((host, port), c.link) ≡ y → AreBacked host port h ps → AreBacked host port (option_and_then (λ es. option_map (with_last es) y) h) ps
      go None y same all = tt
      go (Some es) None same all = tt
      go (Some es) (Some x) same all =
          let (written, reply) = told-parts state host port c.link x same in
          all-more-pairs host port asked key es x ps is named (front-written form key (state c.came) (state c.link) outcome x.written (tells c.came c.over.is_new) c.over written) none all

-- ---- a new pair

good-reply : (form : Form) (key : List ℕ) (came back : LinkState) (body reply : List ℕ) → IsAskedOver form key came back (Good body) → back.whole ≡ Some reply → IsGoodReply form reply body
good-reply form key came back body reply over is = go over.asked where
  left : came.left ≡ Some reply
  left = over.is_new.all_left ∙ sym over.whole ∙ is

  go : IsUnasked key came back (Good body) ⊎ IsAsked form key came back (Good body) → IsGoodReply form reply body
  go (inl unasked) = cc (unasked.is_fault)
  go (inr asked) =
      let (taken, consumes, says) = asked.says in
      let ((rest, delivers), told, few) = says in
      let (more, now, whole) = left-behind came.left back.left reply taken left consumes in
      (rest ++ more, subst (λ l. Delivers l true body (rest ++ more)) (sym whole) (delivery-more taken more back.ended body rest (λ e. at-end back.left more now (over.end e)) delivers), told)

new-backed : (host : List ℕ) (port : ℕ) (asked : Asked) (key body : List ℕ) (es : List Exchange) (x : Exchange) → length body ≤ most_kept → key ≡ key_of host port asked → IsTrue (is_name asked.name) → x.written ≡ key
    → IsGoodReply (form_of asked.kind) x.reply body → IsBacked host port (es ++ x ∷ []) (key, body)
new-backed host port asked key body es x few is named written good = record {
  asked = asked;
  is_key = is;
  named = named;
  exchange = x;
  last = new-last es x key written;
  good = good;
  small = few;
}

whole-written : (form : Form) (key : List ℕ) (came back : LinkState) (body w : List ℕ) → IsSome came.written → IsAskedOver form key came back (Good body) → back.written ≡ Some w → w ≡ key
whole-written form key came back body w some over is = go over.asked where
  go : IsUnasked key came back (Good body) ⊎ IsAsked form key came back (Good body) → w ≡ key
  go (inl unasked) = cc (unasked.is_fault)
  go (inr asked) = written-is came.written back.written key w some over.is_new.none_written asked.sent is

not-fault : (body : List ℕ) → Good body ≡ ReadFault → ⊥
not-fault body is = cc is

pub backed-kept : {W : Type 0} (state : W → LinkState) (host : List ℕ) (port : ℕ) (asked : Asked) (key body : List ℕ) (room : ℕ) (a b : DialState W) (ps : List Pair) → ((l : W) → IsNew (state l) → IsSome (state l).written)
    → length body ≤ most_kept → key ≡ key_of host port asked → IsTrue (is_name asked.name) → lookup (bytes_eq key) ps ≡ None → Dials state host port (form_of asked.kind) key a b (Good body)
    → AreBacked host port (history state a.back) ps → AreBacked host port (history state b.back) ((key, body) ∷ take (room - 1) ps)
backed-kept {W} state host port asked key body room a b ps tells few is named none (inl not) backed = absurd (not-fault body not.is_fault)
backed-kept {W} state host port asked key body room a b ps tells few is named none (inr c) backed =
    subst (λ h. AreBacked host port (history state h) ((key, body) ∷ take (room - 1) ps)) (sym c.back)
    (subst (λ h. AreBacked host port h ((key, body) ∷ take (room - 1) ps)) (sym (history-more state a.back ((host, port), c.link))) (go (history state a.back) (exchange_of state ((host, port), c.link)) refl backed)) where
      form : Form
      form = form_of asked.kind

      go : (h : Option (List Exchange)) (y : Option Exchange) → exchange_of state ((host, port), c.link) ≡ y → AreBacked host port h ps
          → AreBacked host port (option_and_then (λ es. option_map (with_last es) y) h) ((key, body) ∷ take (room - 1) ps)
      go None y same all = tt
      go (Some es) None same all = tt
      go (Some es) (Some x) same all =
          let (written, reply) = told-parts state host port c.link x same in
          let P = IsBacked host port (es ++ x ∷ []) in
          All-cons P (key, body) (take (room - 1) ps)
          (new-backed host port asked key body es x few is named (whole-written (form_of asked.kind) key (state c.came) (state c.link) body x.written (tells c.came c.over.is_new) c.over written)
          (good-reply (form_of asked.kind) key (state c.came) (state c.link) body x.reply c.over reply))
          (All-take P (room - 1) ps
          (all-more-pairs host port asked key es x ps is named (front-written (form_of asked.kind) key (state c.came) (state c.link) (Good body) x.written (tells c.came c.over.is_new) c.over written) none all))

-- ---- a pair that moves to the front

pub backed-promoted : (host : List ℕ) (port : ℕ) (key : List ℕ) (h : Option (List Exchange)) (ps : List Pair) → AreBacked host port h ps → AreBacked host port h (promoted (bytes_eq key) ps)
backed-promoted host port key None ps backed = tt
backed-promoted host port key (Some es) ps backed =
    let P = IsBacked host port es in
    All-weaker (Contains (promoted (bytes_eq key) ps)) P (λ p c. All-contains P ps p backed (Contains-promoted (bytes_eq key) ps p c)) (promoted (bytes_eq key) ps) (All-contains_itself (promoted (bytes_eq key) ps))
