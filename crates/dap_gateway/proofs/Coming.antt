-- What a connection comes to, from the reply that was put and the cache behind it.
use Rattle.std.proofs.Common.{◌≡◌, ◌≢◌, ◌++◌, ◌⊎◌, ℕ, inl, inr, Bool, true, false, List, [], Option, Some, None, refl, sym, ap, ◌∙◌, subst}
use Rattle.std.specs.Prelude.{is_some}
use Rattle.std.specs.Io.KnownBytes.{Consumes}
use Rattle.std.specs.Map.{lookup}
use Rattle.std.specs.Str.{bytes_eq}
use Rattle.plain_lemmas.proofs.Lists.{nothing_in_front}
use Rattle.httparse.specs.Grammar.{RequestHead}
use Rattle.lru.specs.LruCache.{promoted}
use Rattle.dap_errors.specs.declared.cause.Cause.TheVariants.{OutOfMemory}
use Rattle.dap_outside.specs.Links.{LinkState}
use Rattle.dap_http.proofs.HeadReading.{none-now}
use Rattle.dap_http.specs.Requests.{FirstRequest, HasNoRequest, IsBadRequest, is_other}
use Rattle.dap_http.specs.Targets.{target_of, asked_of}
use Rattle.dap_http.specs.Reading.{IsHead}
use Rattle.dap_http.specs.declared.head_reader.Head.{Head}
use Rattle.dap_http.specs.declared.kind.Kind.TheVariants.{Ver}
use Rattle.dap_http.specs.declared.target.Target.{Target}
use Rattle.dap_client.specs.Fetched.{DialState}
use Rattle.dap_client.specs.Replies.{form_of}
use Rattle.dap_client.specs.declared.body_outcome.BodyOutcome.{BodyOutcome}
use Rattle.dap_client.specs.declared.body_outcome.BodyOutcome.TheVariants.{Memory}
use Rattle.dap_gateway.specs.Given.{Given, given_for, refused, reply, given_status, text}
use Rattle.dap_gateway.specs.Turns.{ComesTo, IsAlone, IsEarly, MayPut, Puts, Standing, Wants, early, hit, is_head, is_head_method, kept_with, miss, no_memory, wanted_of}
use Rattle.dap_gateway.specs.declared.wanted.Wanted.{Wanted}
use Rattle.dap_gateway.specs.Upstream.{Dials}
use Rattle.dap_gateway.specs.declared.relayed.Relayed.{Relayed}

abbrev Told : Type 0
Told = Option (List ℕ)

abbrev pub Pairs : Type 0
Pairs = List (List ℕ × List ℕ)

-- ---- before anything was taken

pub nothing-taken : (old new : Told) → new ≡ old → Consumes old new []
nothing-taken None new e = tt
nothing-taken (Some xs) None e = cc e
nothing-taken (Some xs) (Some ys) e = cc e

-- ---- a request of which the head alone is wanted

bad-none : (bytes : List ℕ) → IsBadRequest bytes → HasNoRequest bytes
bad-none bytes bad head rest first = none-now bytes bad.never head rest first.0

early-alone : (bytes : List ℕ) (h : Bool) (given : Given) → IsEarly bytes h given → IsAlone bytes h
early-alone bytes h given (inl (is, inl (g, bad))) = inl (is, bad-none bytes bad)
early-alone bytes h given (inl (is, inr (g, long))) = inl (is, long.none)
early-alone bytes h given (inr (head, rest, first, is, answers)) = inr (head, rest, first, is)

pub wants-alone : (host : List ℕ) (port : ℕ) (bytes : List ℕ) (w : Wanted) → Wants host port bytes w → IsAlone bytes w.head_alone
wants-alone host port bytes w wants = inr (wants.head, wants.rest, wants.first, ap (λ (v : Wanted). v.head_alone) wants.is_wanted)

pub wanted : (host : List ℕ) (port : ℕ) (bytes : List ℕ) (head : Head) (target : Target) (h : Bool) (tree : RequestHead) (rest : List ℕ) → FirstRequest bytes tree rest → IsHead head tree → is_other head.method ≡ false
    → target_of head.target ≡ Some (asked_of target) → h ≡ is_head_method head.method → target.kind ≢ Ver → Wants host port bytes (wanted_of host port target head.minor h)
wanted host port bytes head target h tree rest first is other read alone file = record {
  head = tree;
  rest = rest;
  asked = asked_of target;
  first = first;
  served = ap is_other (sym is.method) ∙ other;
  target = ap target_of (sym is.target) ∙ read;
  file = file;
  is_wanted = ap (λ x. wanted_of host port target head.minor x) (alone ∙ ap is_head_method is.method) ∙ ap (λ m. wanted_of host port target m (is_head tree)) is.minor;
}

-- ---- what a lookup says

none-there : (o : Option (List ℕ)) → is_some o ≡ false → o ≡ None
none-there None is = refl
none-there (Some v) is = cc is

-- ---- a want of memory, and what asks nothing

pub memory-comes : {W : Type 0} (state : W → LinkState) (NotCalled : Type 0) (host : List ℕ) (port room : ℕ) (bytes : List ℕ) (before now : Standing) (a b : DialState W) (result : Relayed) (h : Bool) → IsAlone bytes h
    → Puts (reply h 1 (refused OutOfMemory)) 503 false before.written now.written result → NotCalled → now.pairs ≡ before.pairs → ComesTo state NotCalled host port room bytes before now a b result
memory-comes state NotCalled host port room bytes before now a b result h alone puts same is = record {
  turn = no_memory h;
  is_turn = alone;
  puts = puts;
  asks = inl same;
  keeps = is;
}

pub early-comes : {W : Type 0} (state : W → LinkState) (NotCalled : Type 0) (host : List ℕ) (port room : ℕ) (bytes : List ℕ) (before now : Standing) (a b : DialState W) (result : Relayed) (h : Bool) (given : Given) → IsEarly bytes h given
    → MayPut (reply h 1 given) (given_status given) h before.written now.written result → NotCalled → now.pairs ≡ before.pairs → ComesTo state NotCalled host port room bytes before now a b result
early-comes state NotCalled host port room bytes before now a b result h given is_early (inl puts) same is = record {
  turn = early h given;
  is_turn = is_early;
  puts = puts;
  asks = same;
  keeps = is;
}
early-comes state NotCalled host port room bytes before now a b result h given is_early (inr puts) same is =
    memory-comes state NotCalled host port room bytes before now a b result h (early-alone bytes h given is_early) puts same is

-- ---- a hit

abbrev PutsHit : Wanted → Standing → Standing → Relayed → List ℕ → Type 0
PutsHit w before now result key = (body : List ℕ) → lookup (bytes_eq key) before.pairs ≡ Some body
    → (Puts (reply w.head_alone w.minor (text w.kind body)) 200 true before.written now.written result × (now.pairs ≡ promoted (bytes_eq key) before.pairs))
    ⊎ (Puts (reply w.head_alone 1 (refused OutOfMemory)) 503 false before.written now.written result × (now.pairs ≡ before.pairs))

pub hit-comes : {W : Type 0} (state : W → LinkState) (NotCalled : Type 0) (host : List ℕ) (port room : ℕ) (bytes : List ℕ) (before now : Standing) (a b : DialState W) (result : Relayed) (w : Wanted) (k1 k2 : List ℕ) → k1 ≡ w.key → k2 ≡ w.key
    → Wants host port bytes w → is_some (lookup (bytes_eq k1) before.pairs) ≡ true → PutsHit w before now result k2 → NotCalled → ComesTo state NotCalled host port room bytes before now a b result
hit-comes {W} state NotCalled host port room bytes before now a b result w k1 k2 is1 is2 wants there puts same =
    go (lookup (bytes_eq w.key) before.pairs) refl (subst (λ k. is_some (lookup (bytes_eq k) before.pairs) ≡ true) is1 there) (subst (PutsHit w before now result) is2 puts) where
      turned : (body : List ℕ) → lookup (bytes_eq w.key) before.pairs ≡ Some body
          → (Puts (reply w.head_alone w.minor (text w.kind body)) 200 true before.written now.written result × (now.pairs ≡ promoted (bytes_eq w.key) before.pairs))
          ⊎ (Puts (reply w.head_alone 1 (refused OutOfMemory)) 503 false before.written now.written result × (now.pairs ≡ before.pairs)) → ComesTo state NotCalled host port room bytes before now a b result
      turned body is (inl (put, keeps)) = record { turn = hit w body; is_turn = (wants, is); puts = put; asks = same; keeps = keeps }
      turned body is (inr (put, keeps)) = memory-comes state NotCalled host port room bytes before now a b result w.head_alone (wants-alone host port bytes w wants) put same keeps

      go : (o : Told) → lookup (bytes_eq w.key) before.pairs ≡ o → is_some (lookup (bytes_eq w.key) before.pairs) ≡ true → PutsHit w before now result w.key → ComesTo state NotCalled host port room bytes before now a b result
      go None is some all = absurd (cc (rw is at some))
      go (Some body) is some all = turned body is (all body is)

-- ---- a miss

abbrev PutsMiss : Wanted → ℕ → Standing → Standing → Relayed → BodyOutcome → List ℕ → Type 0
PutsMiss w room before now result outcome key =
    ((outcome ≢ Memory) × Puts (reply w.head_alone w.minor (given_for w.kind outcome)) (given_status (given_for w.kind outcome)) false before.written now.written result
    × (now.pairs ≡ kept_with room key (given_for w.kind outcome) before.pairs))
    ⊎ (Puts (reply w.head_alone 1 (refused OutOfMemory)) 503 false before.written now.written result × (now.pairs ≡ before.pairs))

pub miss-comes : {W : Type 0} (state : W → LinkState) (NotCalled : Type 0) (host : List ℕ) (port room : ℕ) (bytes : List ℕ) (before now : Standing) (a b : DialState W) (result : Relayed) (w : Wanted) (outcome : BodyOutcome) (k1 k2 k3 : List ℕ)
    → k1 ≡ w.key → k2 ≡ w.key → k3 ≡ w.key → Wants host port bytes w → is_some (lookup (bytes_eq k1) before.pairs) ≡ false → Dials state host port (form_of w.kind) k2 a b outcome → PutsMiss w room before now result outcome k3
    → ComesTo state NotCalled host port room bytes before now a b result
miss-comes {W} state NotCalled host port room bytes before now a b result w outcome k1 k2 k3 is1 is2 is3 wants none dials puts =
    turned (subst (PutsMiss w room before now result outcome) is3 puts) where
      gone : lookup (bytes_eq w.key) before.pairs ≡ None
      gone = none-there (lookup (bytes_eq w.key) before.pairs) (subst (λ k. is_some (lookup (bytes_eq k) before.pairs) ≡ false) is1 none)

      dialled : Dials state host port (form_of w.kind) w.key a b outcome
      dialled = subst (λ k. Dials state host port (form_of w.kind) k a b outcome) is2 dials

      turned : PutsMiss w room before now result outcome w.key → ComesTo state NotCalled host port room bytes before now a b result
      turned (inl (other, put, keeps)) = record { turn = miss w outcome; is_turn = (wants, gone, other); puts = put; asks = dialled; keeps = keeps }
      turned (inr (put, keeps)) = record {
        turn = no_memory w.head_alone;
        is_turn = wants-alone host port bytes w wants;
        puts = put;
        asks = inr (w, outcome, wants, gone, dialled);
        keeps = keeps;
      }

-- ---- from the link as it came

pub comes-from : {W : Type 0} (state : W → LinkState) (NotCalled : Type 0) (host : List ℕ) (port room : ℕ) (bytes : List ℕ) (old mid : Told) (ps : Pairs) (now : Standing) (a b : DialState W) (result : Relayed) → mid ≡ old
    → ComesTo state NotCalled host port room bytes (record { written = mid; pairs = ps }) now a b result → ComesTo state NotCalled host port room bytes (record { written = old; pairs = ps }) now a b result
comes-from state NotCalled host port room bytes old mid ps now a b result is comes = subst (λ (w : Told). ComesTo state NotCalled host port room bytes (record { written = w; pairs = ps }) now a b result) is comes

pub first-from : (kept taken : List ℕ) (tree : RequestHead) (rest : List ℕ) → kept ≡ [] → FirstRequest (kept ++ taken) tree rest → FirstRequest taken tree rest
first-from kept taken tree rest is first = subst (λ (b : List ℕ). FirstRequest b tree rest) (nothing_in_front kept taken is) first
