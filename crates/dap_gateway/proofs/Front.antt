-- A pair that was looked up, once it stands in front; and a reply that stands ready with its body.
use Rattle.std.proofs.Common.{◌≡◌, ◌∷◌, ℕ, Bool, true, false, List, [], cond, Option, Some, None, refl, ap}
use Rattle.std.specs.Prelude.{IsSome}
use Rattle.std.specs.Map.{lookup, lookup_entry}
use Rattle.std.specs.Str.{bytes_eq}
use Rattle.std.proofs.lemmas.Slice.Eq.{bytes_eq-Decides}
use Rattle.lru.specs.LruCache.{promoted}
use Rattle.dap_http.specs.declared.kind.Kind.{Kind}
use Rattle.dap_gateway.proofs.Sending.{puts-as, status-as}
use Rattle.dap_gateway.specs.Given.{reply, server_error, text}
use Rattle.dap_gateway.specs.Turns.{IsReady, Puts, ready_text}
use Rattle.dap_gateway.specs.declared.ready.Ready.{Ready}
use Rattle.dap_gateway.specs.declared.relayed.Relayed.{Relayed}

abbrev Pair : Type 0
Pair = List ℕ × List ℕ

pub record IsFound (test : List ℕ → Bool) (es : List Pair) (v : List ℕ) : Type 0 where
  pub entry : Pair
  pub there : lookup_entry test es ≡ Some entry
  pub passes : test entry.0 ≡ true
  pub value : entry.1 ≡ v

pub found : (test : List ℕ → Bool) (es : List Pair) (v : List ℕ) → lookup test es ≡ Some v → IsFound test es v
found test [] v is = cc is
found test (e ∷ es) v is = go (test e.0) refl is (λ more. found test es v more) where
  go : (t : Bool) → test e.0 ≡ t → cond t (Some e.1) (lookup test es) ≡ Some v → (lookup test es ≡ Some v → IsFound test es v) → IsFound test (e ∷ es) v
  go true t here more = record { entry = e; there = rw t refl; passes = t; value = cc here }
  go false t here more = let f = more here in record { entry = f.entry; there = rw t f.there; passes = f.passes; value = f.value }

pub lookup-promoted : (test : List ℕ → Bool) (es : List Pair) (v : List ℕ) → lookup test es ≡ Some v → lookup test (promoted test es) ≡ Some v
lookup-promoted test es v is =
    let f = found test es v is in
    rw (f.there, f.passes) (ap Some f.value)

pub some-promoted : (test : List ℕ → Bool) (es : List Pair) → IsSome (lookup test es) → IsSome (lookup test (promoted test es))
some-promoted test es some = go (lookup test es) refl some where
  go : (o : Option (List ℕ)) → lookup test es ≡ o → IsSome o → IsSome (lookup test (promoted test es))
  go None is s = absurd (cc s)
  go (Some v) is s = rw (lookup-promoted test es v is) refl

pub lookup-front : (key body : List ℕ) (ps : List Pair) → lookup (bytes_eq key) ((key, body) ∷ ps) ≡ Some body
lookup-front key body ps = rw ((bytes_eq-Decides key key).1 refl) refl

pub ready-puts : (kind : Kind) (minor : ℕ) (body : List ℕ) (r : Ready) (h hit : Bool) (a b : Option (List ℕ)) (result : Relayed) → IsReady kind minor h body r
    → Puts (ready_text r body) r.status hit a b result → Puts (reply h minor (text kind body)) 200 hit a b result
ready-puts kind minor body r h hit a b result (is, status) puts =
    status-as _ r.status 200 hit a b result status
    (puts-as (ready_text r body) (reply h minor (text kind body)) r.status hit a b result is puts)

pub object-puts : (minor : ℕ) (object : List ℕ) (r : Ready) (h hit : Bool) (a b : Option (List ℕ)) (result : Relayed) → ready_text r object ≡ reply h minor (server_error object) → r.status ≡ 400
    → Puts (ready_text r object) r.status hit a b result → Puts (reply h minor (server_error object)) 400 hit a b result
object-puts minor object r h hit a b result is status puts =
    status-as _ r.status 400 hit a b result status
    (puts-as (ready_text r object) (reply h minor (server_error object)) r.status hit a b result is puts)
