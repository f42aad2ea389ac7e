-- The words of `relay`, and what is said of them.
use Rattle.std.proofs.Common.{◌≡◌, ◌≢◌, ℕ, List, [], ◌∷◌, inl, inr, get_or, length, codes, Option, Some, sym, ap, ◌∙◌, subst, arith}
use Rattle.std.specs.Prelude.{IsTrue}
use Rattle.std.specs.Io.KnownBytes.{Appends}
use Rattle.std.specs.Str.Parse.{digits_value}
use Rattle.dap_outside.specs.Links.{LinkState}
use Rattle.dap_outside.specs.Streams.{AppendsFront}
use Rattle.dap_http.specs.Urls.{is_host}
use Rattle.dap_client.specs.Fetched.{DialState}
use Rattle.dap_commands.specs.Relay.{Gateway, RelaySays, RelayedLink, Relays, RelayStanding, lines_from}
use Rattle.dap_commands.specs.Words.{AreRelay, IsCommand, IsNumber}
use Rattle.dap_commands.specs.declared.status.Status.{Status}
use Rattle.dap_commands.specs.declared.status.Status.TheVariants.{Words}

no-fetch : codes "relay" ≡ codes "fetch" → ⊥
no-fetch e = let first : 114 ≡ 102 = ap (λ xs. get_or xs 0 0) e in omega (arith, first)

-- what six words have to be that begin so
pub record HasWords (h u p r q : List ℕ) : Type 0 where
  pub host : IsTrue (is_host h)
  pub upport : (n : ℕ) × IsNumber 65535 u n
  pub port : (n : ℕ) × IsNumber 65535 p n
  pub room : (n : ℕ) × IsNumber 1024 r n
  pub requests : (n : ℕ) × IsNumber 1000000000 q n

-- they are a command only with a host and four numbers
pub relay-only : (h u p r q : List ℕ) → IsCommand (codes "relay" ∷ h ∷ u ∷ p ∷ r ∷ q ∷ []) → HasWords h u p r q
relay-only h u p r q (inl (target, workers, inl (is, one))) = cc is
relay-only h u p r q (inl (target, workers, inr (word, is, number))) = cc is
relay-only h u p r q (inr (inl is)) = cc is
relay-only h u p r q (inr (inr (inl (port, workers, requests, (port_word, workers_word, requests_word, is, a, b, c))))) = cc is
relay-only h u p r q (inr (inr (inr (inl is)))) = cc is
relay-only h u p r q (inr (inr (inr (inr (inl (v, kind, ces, (url, (word, is, is_kind, some, few), known))))))) = absurd (no-fetch (ap (λ words. get_or words 0 []) is))
relay-only h u p r q (inr (inr (inr (inr (inr (inl (start, records, (start_word, size_word, is, a, b)))))))) = cc is
relay-only h u p r q (inr (inr (inr (inr (inr (inr (inl (host, upport, port, room, requests, (w1, w2, w3, w4, is, named, a, b, c, d))))))))) = record {
  host = subst (λ word. IsTrue (is_host word)) (sym (ap (λ words. get_or words 1 []) is)) named;
  upport = (upport, subst (λ word. IsNumber 65535 word upport) (sym (ap (λ words. get_or words 2 []) is)) a);
  port = (port, subst (λ word. IsNumber 65535 word port) (sym (ap (λ words. get_or words 3 []) is)) b);
  room = (room, subst (λ word. IsNumber 1024 word room) (sym (ap (λ words. get_or words 4 []) is)) c);
  requests = (requests, subst (λ word. IsNumber 1000000000 word requests) (sym (ap (λ words. get_or words 5 []) is)) d);
}
relay-only h u p r q (inr (inr (inr (inr (inr (inr (inr (inl is)))))))) = cc is
relay-only h u p r q (inr (inr (inr (inr (inr (inr (inr (inr (v, ce, (url, is, known)))))))))) = cc is

-- words have one host, and one of each number
pub record SameRelay (h h2 : List ℕ) (u u2 p p2 r r2 q q2 : ℕ) : Type 0 where
  pub host : h ≡ h2
  pub upport : u ≡ u2
  pub port : p ≡ p2
  pub room : r ≡ r2
  pub requests : q ≡ q2

pub same-relay : (words : List (List ℕ)) (h h2 : List ℕ) (u u2 p p2 r r2 q q2 : ℕ) → AreRelay words h u p r q → AreRelay words h2 u2 p2 r2 q2 → SameRelay h h2 u u2 p p2 r r2 q q2
same-relay words h h2 u u2 p p2 r r2 q q2 (w1, w2, w3, w4, is, named, a, b, c, d) (v1, v2, v3, v4, is2, named2, a2, b2, c2, d2) =
    let all = sym is ∙ is2 in
    record {
      host = ap (λ ws. get_or ws 1 []) all;
      upport = a.1 ∙ ap (λ ws. digits_value 10 (get_or ws 2 [])) all ∙ sym a2.1;
      port = b.1 ∙ ap (λ ws. digits_value 10 (get_or ws 3 [])) all ∙ sym b2.1;
      room = c.1 ∙ ap (λ ws. digits_value 10 (get_or ws 4 [])) all ∙ sym c2.1;
      requests = d.1 ∙ ap (λ ws. digits_value 10 (get_or ws 5 [])) all ∙ sym d2.1;
    }

abbrev gateway : {V W C : Type 0} → (V → LinkState) → (W → LinkState) → (C → DialState W) → List ℕ → ℕ → ℕ → Gateway V W C
gateway door_link dial_link dial host port room = record { door_link = door_link; dial_link = dial_link; dial = dial; host = host; port = port; room = room }

-- what is said of a host and numbers is said of these words
pub relay-for : {V W C : Type 0} (door_link : V → LinkState) (dial_link : W → LinkState) (dial : C → DialState W) (words : List (List ℕ)) (h h2 : List ℕ) (u u2 p p2 r r2 q q2 : ℕ) (a b : RelayStanding V C) (status : Status) (listens : Option ℕ)
    → AreRelay words h u p r q
    → (relays : List (RelayedLink V W C)) × Relays (record { door_link = door_link; dial_link = dial_link; dial = dial; host = h; port = u; room = r }) q a b relays status × (relays ≢ [] → listens ≡ Some p)
    → AreRelay words h2 u2 p2 r2 q2
    → (relays : List (RelayedLink V W C)) × Relays (record { door_link = door_link; dial_link = dial_link; dial = dial; host = h2; port = u2; room = r2 }) q2 a b relays status × (relays ≢ [] → listens ≡ Some p2)
relay-for door_link dial_link dial words h h2 u u2 p p2 r r2 q q2 a b status listens are (relays, says, at) other =
    let one = same-relay words h h2 u u2 p p2 r r2 q q2 are other in (
      relays,
      subst (λ n. Relays (gateway door_link dial_link dial h2 u2 r2) n a b relays status) one.requests
          (subst (λ n. Relays (gateway door_link dial_link dial h2 u2 n) q a b relays status) one.room
          (subst (λ n. Relays (gateway door_link dial_link dial h2 n r) q a b relays status) one.upport
          (subst (λ n. Relays (gateway door_link dial_link dial n u r) q a b relays status) one.host says))),
      λ some. at some ∙ ap (λ n. Some n) one.port,
    )

relay-no-words : (requests came : ℕ) (lines : List ℕ) (Out Front : List ℕ → Type 0) (status : Status) → RelaySays requests came lines Out Front status → status ≡ Words → ⊥
relay-no-words requests came lines Out Front status says is = subst (RelaySays requests came lines Out Front) is says

pub relays-no-words : {V W C : Type 0} (g : Gateway V W C) (requests : ℕ) (a b : RelayStanding V C) (relays : List (RelayedLink V W C)) (status : Status) → Relays g requests a b relays status → status ≡ Words → ⊥
relays-no-words g requests a b relays status relayed is = relay-no-words requests (length relays) (lines_from g 1 relays) (Appends a.written b.written) (AppendsFront a.written b.written) status relayed.all.says is

-- the host in other words that are the same
pub relay-host : (words : List (List ℕ)) (h heard : List ℕ) (u p r q : ℕ) → AreRelay words h u p r q → heard ≡ h → IsTrue (is_host heard)
relay-host words h heard u p r q (w1, w2, w3, w4, is, named, a, b, c, d) same = subst (λ word. IsTrue (is_host word)) (sym same) named

pub relay-as : (words : List (List ℕ)) (h heard : List ℕ) (u p r q : ℕ) → AreRelay words h u p r q → heard ≡ h → AreRelay words heard u p r q
relay-as words h heard u p r q are same = subst (λ word. AreRelay words word u p r q) (sym same) are

-- a list of three
pub three-items : (xs : List (List ℕ)) (x y z : List ℕ) → length xs ≡ 3 → x ≡ get_or xs 0 x → y ≡ get_or xs 1 y → z ≡ get_or xs 2 z → xs ≡ x ∷ y ∷ z ∷ []
three-items [] x y z e p q r = cc e
three-items (a ∷ []) x y z e p q r = absurd (omega (arith, e))
three-items (a ∷ b ∷ []) x y z e p q r = absurd (omega (arith, e))
three-items (a ∷ b ∷ c ∷ []) x y z e p q r = ap (λ l. l ∷ b ∷ c ∷ []) (sym p) ∙ ap (λ l. x ∷ l ∷ c ∷ []) (sym q) ∙ ap (λ l. x ∷ y ∷ l ∷ []) (sym r)
three-items (a ∷ b ∷ c ∷ d ∷ xs) x y z e p q r = absurd (omega (arith, e))

-- the words of `relay` in their pieces
pub relay-words : (word name first second x y z a b d : List ℕ) (rest : List (List ℕ)) → word ≡ name → x ≡ a → y ≡ b → z ≡ d → rest ≡ a ∷ b ∷ d ∷ [] → word ∷ first ∷ second ∷ x ∷ y ∷ z ∷ [] ≡ name ∷ first ∷ second ∷ rest
relay-words word name first second x y z a b d rest p q r s t =
    ap (λ w. w ∷ first ∷ second ∷ x ∷ y ∷ z ∷ []) p ∙ ap (λ w. name ∷ first ∷ second ∷ w ∷ y ∷ z ∷ []) q ∙ ap (λ w. name ∷ first ∷ second ∷ a ∷ w ∷ z ∷ []) r
    ∙ ap (λ w. name ∷ first ∷ second ∷ a ∷ b ∷ w ∷ []) s ∙ ap (λ xs. name ∷ first ∷ second ∷ xs) (sym t)
