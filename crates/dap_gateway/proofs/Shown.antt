-- What the words of maps give of the pairs as bytes.
use Rattle.std.proofs.Common.{◌≡◌, ℕ, zero, suc, ◌-◌, Bool, true, false, List, [], ◌∷◌, take, map, Option, Some, None, refl, sym, Vec, Global}
use Rattle.std.specs.Prelude.{option_map}
use Rattle.std.specs.Option.{option_map_or}
use Rattle.std.specs.Map.{lookup, lookup_entry, remove_entry}
use Rattle.std.specs.Str.{bytes_eq}
use Rattle.std.specs.Cmp.Lexicographic.{pointwise}
use Rattle.std.specs.Prelude.{nat_eq}
use Rattle.lru.specs.LruCache.{LruCache, promoted, put_entries}
use Rattle.dap_gateway.specs.Pairs.{shown}

abbrev Entry : Type 0
Entry = Vec ℕ Global × List ℕ

-- the test of a key by its bytes
abbrev pub has_bytes : List ℕ → Vec ℕ Global → Bool
has_bytes q k = pointwise nat_eq q k.items

pub lookup-shown : (q : List ℕ) (es : List Entry) → lookup (bytes_eq q) (map shown es) ≡ lookup (has_bytes q) es
lookup-shown q [] = refl
lookup-shown q (e ∷ es) = (elim (has_bytes q e.0) as (λ y. has_bytes q e.0 ≡ y → lookup (bytes_eq q) (map shown (e ∷ es)) ≡ lookup (has_bytes q) (e ∷ es)) [
  | true ↦ λ t. rw t refl
  | false ↦ λ t. rw (t, lookup-shown q es) refl
]) refl

pub entry-shown : (q : List ℕ) (es : List Entry) → lookup_entry (bytes_eq q) (map shown es) ≡ option_map shown (lookup_entry (has_bytes q) es)
entry-shown q [] = refl
entry-shown q (e ∷ es) = (elim (has_bytes q e.0) as (λ y. has_bytes q e.0 ≡ y → lookup_entry (bytes_eq q) (map shown (e ∷ es)) ≡ option_map shown (lookup_entry (has_bytes q) (e ∷ es))) [
  | true ↦ λ t. rw t refl
  | false ↦ λ t. rw (t, entry-shown q es) refl
]) refl

pub without-shown : (q : List ℕ) (es : List Entry) → remove_entry (bytes_eq q) (map shown es) ≡ map shown (remove_entry (has_bytes q) es)
without-shown q [] = refl
without-shown q (e ∷ es) = (elim (has_bytes q e.0) as (λ y. has_bytes q e.0 ≡ y → remove_entry (bytes_eq q) (map shown (e ∷ es)) ≡ map shown (remove_entry (has_bytes q) (e ∷ es))) [
  | true ↦ λ t. rw t refl
  | false ↦ λ t. rw (t, without-shown q es) refl
]) refl

to_front : (o : Option Entry) (rest es : List Entry)
    → option_map_or (λ e. e ∷ map shown rest) (option_map shown o) (map shown es) ≡ map shown (option_map_or (λ e. e ∷ rest) o es)
to_front None rest es = refl
to_front (Some e) rest es = refl

pub promoted-shown : (q : List ℕ) (es : List Entry) → promoted (bytes_eq q) (map shown es) ≡ map shown (promoted (has_bytes q) es)
promoted-shown q es = rw (entry-shown q es, without-shown q es) (to_front (lookup_entry (has_bytes q) es) (remove_entry (has_bytes q) es) es)

take-shown : (n : ℕ) (es : List Entry) → take n (map shown es) ≡ map shown (take n es)
take-shown zero es = refl
take-shown (suc n) [] = refl
take-shown (suc n) (e ∷ es) = rw (take-shown n es) refl

no-entry : (q : List ℕ) (es : List Entry) → lookup (has_bytes q) es ≡ None → lookup_entry (has_bytes q) es ≡ None
no-entry q [] none = refl
no-entry q (e ∷ es) none = (elim (has_bytes q e.0) as (λ y. has_bytes q e.0 ≡ y → lookup_entry (has_bytes q) (e ∷ es) ≡ None) [
  | true ↦ λ t. absurd (cc (rw t at none))
  | false ↦ λ t. rw t (no-entry q es (rw t at none))
]) refl

-- a pair whose key was not there goes in front
pub put-shown : (c : LruCache (Vec ℕ Global) (List ℕ)) (k : Vec ℕ Global) (v : List ℕ) → lookup (bytes_eq k.items) (map shown c.entries) ≡ None
    → map shown (put_entries (λ a b. has_bytes a.items b) c k v) ≡ (k.items, v) ∷ take (c.cap - 1) (map shown c.entries)
put-shown c k v none =
    let gone : lookup (has_bytes k.items) c.entries ≡ None = rw (sym (lookup-shown k.items c.entries)) none in
    rw (no-entry k.items c.entries gone, take-shown (c.cap - 1) c.entries) refl
