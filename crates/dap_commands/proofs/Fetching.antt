-- What the words of `fetch` are, and what is said of them.
use Rattle.std.proofs.Common.{◌≡◌, ℕ, ◌⊎◌, inl, inr, List, [], ◌∷◌, get_or, Option, Some, None, codes, refl, sym, ap, ◌∙◌, subst, arith}
use Rattle.dap_outside.specs.Links.{LinkState}
use Rattle.dap_http.specs.Urls.{UrlParts, url_of}
use Rattle.dap_http.specs.declared.kind.Kind.{Kind}
use Rattle.dap_http.specs.declared.kind.Kind.TheVariants as kinds
use Rattle.dap_client.specs.Fetched.{DialState, SinkState}
use Rattle.dap_client.specs.declared.outcome.Outcome.{Outcome}
use Rattle.dap_client.specs.declared.outcome.Outcome.TheVariants as outcomes
use Rattle.dap_commands.specs.Fetch.{FetchSays, FetchedLine, status_of_outcome}
use Rattle.dap_commands.specs.Lines.{line_of}
use Rattle.dap_commands.specs.Words.{AreAnswer, AreFetch, AreRelay, AreServe, AreSoak, HaveFetchForm, HaveSaveForm, IsCommand, IsFetch, IsKindWord, IsSave, IsShow, IsVer}
use Rattle.dap_commands.specs.declared.status.Status.{Status}
use Rattle.dap_commands.specs.declared.status.Status.TheVariants.{Memory}

-- where memory was wanted before a link was connected
pub memory-says : {W : Type 0} (state : W → LinkState) (u : UrlParts) (kind : Kind) (ces : List (List ℕ)) (a : DialState W) (before : SinkState) (Line : List ℕ → Type 0)
    → FetchSays state u kind ces a a before before Line Memory
memory-says state u kind ces a before Line = (record { whole = 0; last = outcomes.Memory }, inl (refl, refl, refl, inr (refl, refl)), refl, tt)

-- ---- words of one command

pub no-words : (words : List (List ℕ)) (x y : List ℕ) (a b : ℕ) → get_or words 0 [] ≡ x → get_or words 0 [] ≡ y → get_or x 0 0 ≡ a → get_or y 0 0 ≡ b → a ≡ b
no-words words x y a b p q r s = sym r ∙ ap (λ (l : List ℕ). get_or l 0 0) (sym p ∙ q) ∙ s

fetch-named : (words : List (List ℕ)) (url : List ℕ) (kind : Kind) (ces : List (List ℕ)) → HaveFetchForm words url kind ces → get_or words 0 [] ≡ codes "fetch"
fetch-named words url kind ces (word, is, is_kind, some, few) = ap (λ (l : List (List ℕ)). get_or l 0 []) is

pub answer-named : (words : List (List ℕ)) (target : List ℕ) (workers : ℕ) → AreAnswer words target workers → get_or words 0 [] ≡ codes "answer"
answer-named words target workers (inl (is, one)) = ap (λ (l : List (List ℕ)). get_or l 0 []) is
answer-named words target workers (inr (word, is, number)) = ap (λ (l : List (List ℕ)). get_or l 0 []) is

serve-named : (words : List (List ℕ)) (port workers requests : ℕ) → AreServe words port workers requests → get_or words 0 [] ≡ codes "serve"
serve-named words port workers requests (p, w, r, is, a, b, c) = ap (λ (l : List (List ℕ)). get_or l 0 []) is

pub no-answer : (words : List (List ℕ)) (target : List ℕ) (workers : ℕ) (url : List ℕ) (kind : Kind) (ces : List (List ℕ)) → AreAnswer words target workers → HaveFetchForm words url kind ces → ⊥
no-answer words target workers url kind ces a f =
    let same : 97 ≡ 102 = no-words words (codes "answer") (codes "fetch") 97 102 (answer-named words target workers a) (fetch-named words url kind ces f) refl refl in omega (arith, same)

pub no-show : (words : List (List ℕ)) (url : List ℕ) (kind : Kind) (ces : List (List ℕ)) → IsShow words → HaveFetchForm words url kind ces → ⊥
no-show words url kind ces s f =
    let same : 115 ≡ 102 = no-words words (codes "show") (codes "fetch") 115 102 (ap (λ (l : List (List ℕ)). get_or l 0 []) s) (fetch-named words url kind ces f) refl refl in omega (arith, same)

pub no-serve : (words : List (List ℕ)) (port workers requests : ℕ) (url : List ℕ) (kind : Kind) (ces : List (List ℕ)) → AreServe words port workers requests → HaveFetchForm words url kind ces → ⊥
no-serve words port workers requests url kind ces s f =
    let same : 115 ≡ 102 = no-words words (codes "serve") (codes "fetch") 115 102 (serve-named words port workers requests s) (fetch-named words url kind ces f) refl refl in omega (arith, same)

pub no-ver : (words : List (List ℕ)) (url : List ℕ) (kind : Kind) (ces : List (List ℕ)) → IsVer words → HaveFetchForm words url kind ces → ⊥
no-ver words url kind ces v f =
    let same : 118 ≡ 102 = no-words words (codes "ver") (codes "fetch") 118 102 (ap (λ (l : List (List ℕ)). get_or l 0 []) v) (fetch-named words url kind ces f) refl refl in omega (arith, same)

pub soak-named : (words : List (List ℕ)) (start records : ℕ) → AreSoak words start records → get_or words 0 [] ≡ codes "soak"
soak-named words start records (s, r, is, a, b) = ap (λ (l : List (List ℕ)). get_or l 0 []) is

pub no-soak : (words : List (List ℕ)) (start records : ℕ) (url : List ℕ) (kind : Kind) (ces : List (List ℕ)) → AreSoak words start records → HaveFetchForm words url kind ces → ⊥
no-soak words start records url kind ces s f =
    let same : 115 ≡ 102 = no-words words (codes "soak") (codes "fetch") 115 102 (soak-named words start records s) (fetch-named words url kind ces f) refl refl in omega (arith, same)

relay-named : (words : List (List ℕ)) (host : List ℕ) (upport port room requests : ℕ) → AreRelay words host upport port room requests → get_or words 0 [] ≡ codes "relay"
relay-named words host upport port room requests (w1, w2, w3, w4, is, named, a, b, c, d) = ap (λ (l : List (List ℕ)). get_or l 0 []) is

pub no-relay : (words : List (List ℕ)) (host : List ℕ) (upport port room requests : ℕ) (url : List ℕ) (kind : Kind) (ces : List (List ℕ)) → AreRelay words host upport port room requests → HaveFetchForm words url kind ces → ⊥
no-relay words host upport port room requests url kind ces r f =
    let same : 114 ≡ 102 = no-words words (codes "relay") (codes "fetch") 114 102 (relay-named words host upport port room requests r) (fetch-named words url kind ces f) refl refl in omega (arith, same)

pub soak-no-answer : (words : List (List ℕ)) (target : List ℕ) (workers start records : ℕ) → AreAnswer words target workers → AreSoak words start records → ⊥
soak-no-answer words target workers start records a s =
    let same : 97 ≡ 115 = no-words words (codes "answer") (codes "soak") 97 115 (answer-named words target workers a) (soak-named words start records s) refl refl in omega (arith, same)

pub no-save : (words : List (List ℕ)) (url : List ℕ) (kind : Kind) (ces : List (List ℕ)) → IsSave words → HaveFetchForm words url kind ces → ⊥
no-save words url kind ces s f =
    let same : 115 ≡ 102 = no-words words (codes "save") (codes "fetch") 115 102 (ap (λ (l : List (List ℕ)). get_or l 0 []) s) (fetch-named words url kind ces f) refl refl in omega (arith, same)

pub no-save-url : (words : List (List ℕ)) (other ce url : List ℕ) (kind : Kind) (ces : List (List ℕ)) → HaveSaveForm words other ce → HaveFetchForm words url kind ces → ⊥
no-save-url words other ce url kind ces s f =
    let same : 115 ≡ 102 = no-words words (codes "save") (codes "fetch") 115 102 (ap (λ (l : List (List ℕ)). get_or l 0 []) s) (fetch-named words url kind ces f) refl refl in omega (arith, same)

-- the form of a `fetch` in the words of one
pub form-of : (words : List (List ℕ)) (u : UrlParts) (kind : Kind) (ces : List (List ℕ)) → AreFetch words u kind ces → (url : List ℕ) × HaveFetchForm words url kind ces
form-of words u kind ces (url, form, is) = (url, form)

pub no-kind-ver : (word : List ℕ) (kind : Kind) → IsKindWord word kind → kind ≡ kinds.Ver → ⊥
no-kind-ver word kind is same = subst (λ (k : Kind). IsKindWord word k) same is

pub form-kind : (words : List (List ℕ)) (url : List ℕ) (kind : Kind) (ces : List (List ℕ)) → HaveFetchForm words url kind ces → kind ≡ kinds.Ver → ⊥
form-kind words url kind ces (word, is, is_kind, some, few) same = no-kind-ver word kind is_kind same

-- words of that form have one URL, one kind and one list of constraints
same-word : (word : List ℕ) (a b : Kind) → IsKindWord word a → IsKindWord word b → a ≡ b
same-word word kinds.Dds kinds.Dds p q = refl
same-word word kinds.Das kinds.Das p q = refl
same-word word kinds.Dods kinds.Dods p q = refl
same-word word kinds.Dds kinds.Das p q = let third : 100 ≡ 97 = ap (λ (l : List ℕ). get_or l 1 0) (sym p ∙ q) in absurd (omega (arith, third))
same-word word kinds.Dds kinds.Dods p q = let third : 100 ≡ 111 = ap (λ (l : List ℕ). get_or l 1 0) (sym p ∙ q) in absurd (omega (arith, third))
same-word word kinds.Das kinds.Dds p q = let third : 97 ≡ 100 = ap (λ (l : List ℕ). get_or l 1 0) (sym p ∙ q) in absurd (omega (arith, third))
same-word word kinds.Das kinds.Dods p q = let third : 97 ≡ 111 = ap (λ (l : List ℕ). get_or l 1 0) (sym p ∙ q) in absurd (omega (arith, third))
same-word word kinds.Dods kinds.Dds p q = let third : 111 ≡ 100 = ap (λ (l : List ℕ). get_or l 1 0) (sym p ∙ q) in absurd (omega (arith, third))
same-word word kinds.Dods kinds.Das p q = let third : 111 ≡ 97 = ap (λ (l : List ℕ). get_or l 1 0) (sym p ∙ q) in absurd (omega (arith, third))
same-word word kinds.Ver b p q = absurd p
same-word word a kinds.Ver p q = absurd q

behind-three : List (List ℕ) → List (List ℕ)
behind-three [] = []
behind-three (a ∷ []) = []
behind-three (a ∷ b ∷ []) = []
behind-three (a ∷ b ∷ c ∷ rest) = rest

pub record SameForm (url other : List ℕ) (kind mode : Kind) (ces rest : List (List ℕ)) : Type 0 where
  pub url_is : url ≡ other
  pub kind_is : kind ≡ mode
  pub ces_are : ces ≡ rest

pub one-form : (words : List (List ℕ)) (url other : List ℕ) (kind mode : Kind) (ces rest : List (List ℕ)) → HaveFetchForm words url kind ces → HaveFetchForm words other mode rest → SameForm url other kind mode ces rest
unfolding behind-three
one-form words url other kind mode ces rest (word, is, is_kind, some, few) (mark, same, is_mode, one, most) =
    let all = sym is ∙ same in
    record {
      url_is = ap (λ (l : List (List ℕ)). get_or l 1 []) all;
      kind_is = same-word word kind mode is_kind (subst (λ (w : List ℕ). IsKindWord w mode) (sym (ap (λ (l : List (List ℕ)). get_or l 2 []) all)) is_mode);
      ces_are = ap behind-three all;
    }

-- what is said of a `fetch` is said of these words
pub for-words : {W : Type 0} (state : W → LinkState) (words : List (List ℕ)) (url : List ℕ) (kind mode : Kind) (ces rest : List (List ℕ)) (u : UrlParts) (a b : DialState W) (before now : SinkState) (Line : List ℕ → Type 0) (status : Status)
    → HaveFetchForm words url kind ces → ((v : UrlParts) → url_of url ≡ Some v → FetchSays state v kind ces a b before now Line status) → AreFetch words u mode rest
    → FetchSays state u mode rest a b before now Line status
for-words state words url kind mode ces rest u a b before now Line status form says (other, same, is) =
    let one = one-form words url other kind mode ces rest form same in
    subst (λ (c : List (List ℕ)). FetchSays state u mode c a b before now Line status) one.ces_are
    (subst (λ (k : Kind). FetchSays state u k ces a b before now Line status) one.kind_is (says u (ap url_of one.url_is ∙ is)))

-- words of the form whose URL is none are no command, and no others are
pub some-or-none : (o : Option UrlParts) → (o ≡ None) ⊎ ((u : UrlParts) × (o ≡ Some u))
some-or-none None = inl refl
some-or-none (Some u) = inr (u, refl)

pub no-url : (words : List (List ℕ)) (url : List ℕ) (kind : Kind) (ces : List (List ℕ)) → HaveFetchForm words url kind ces → ¬ (IsFetch words) → url_of url ≡ None
no-url words url kind ces form no_fetch = go (some-or-none (url_of url)) where
  go : (url_of url ≡ None) ⊎ ((u : UrlParts) × (url_of url ≡ Some u)) → url_of url ≡ None
  go (inl none) = none
  go (inr (u, is)) = absurd (no_fetch (u, kind, ces, (url, form, is)))

pub no-command-url : (words : List (List ℕ)) (url : List ℕ) (kind : Kind) (ces : List (List ℕ)) → HaveFetchForm words url kind ces → ¬ (IsCommand words) → url_of url ≡ None
no-command-url words url kind ces form no_one = no-url words url kind ces form (λ is. no_one (inr (inr (inr (inr (inl is))))))

pub no-command : (words : List (List ℕ)) (url : List ℕ) (kind : Kind) (ces : List (List ℕ)) → HaveFetchForm words url kind ces → url_of url ≡ None → IsCommand words → ⊥
no-command words url kind ces form none (inl (target, workers, are)) = no-answer words target workers url kind ces are form
no-command words url kind ces form none (inr (inl is)) = no-show words url kind ces is form
no-command words url kind ces form none (inr (inr (inl (port, workers, requests, are)))) = no-serve words port workers requests url kind ces are form
no-command words url kind ces form none (inr (inr (inr (inl is)))) = no-ver words url kind ces is form
no-command words url kind ces form none (inr (inr (inr (inr (inl (u, mode, rest, (other, same, is))))))) =
    let one = one-form words url other kind mode ces rest form same in
    let clash : None ≡ Some u = sym none ∙ ap url_of one.url_is ∙ is in
    cc clash
no-command words url kind ces form none (inr (inr (inr (inr (inr (inl (start, records, are))))))) = no-soak words start records url kind ces are form
no-command words url kind ces form none (inr (inr (inr (inr (inr (inr (inl (host, upport, port, room, requests, are)))))))) = no-relay words host upport port room requests url kind ces are form
no-command words url kind ces form none (inr (inr (inr (inr (inr (inr (inr (inl is)))))))) = no-save words url kind ces is form
no-command words url kind ces form none (inr (inr (inr (inr (inr (inr (inr (inr (u, ce, (other, is, known)))))))))) = no-save-url words other ce url kind ces is form

-- what is said on another line, where the status has no line of its own
why-other : (o : Outcome) (status : Status) (Line Other : List ℕ → Type 0) → status ≡ status_of_outcome o → (line_of status ≡ None → (l : List ℕ) → Line l → Other l) → FetchedLine o Line → FetchedLine o Other
why-other (outcomes.ServerError code message) status Line Other is pass why = pass (ap line_of is) _ why
why-other (outcomes.BadReply field) status Line Other is pass why = pass (ap line_of is) _ why
why-other (outcomes.Complete bytes) status Line Other is pass why = tt
why-other outcomes.ReadFault status Line Other is pass why = tt
why-other outcomes.WriteFault status Line Other is pass why = tt
why-other outcomes.LinkFault status Line Other is pass why = tt
why-other outcomes.Memory status Line Other is pass why = tt

pub another-fetch-line : {W : Type 0} (state : W → LinkState) (u : UrlParts) (kind : Kind) (ces : List (List ℕ)) (a b : DialState W) (before now : SinkState) (Line Other : List ℕ → Type 0) (status : Status)
    → (line_of status ≡ None → (l : List ℕ) → Line l → Other l) → FetchSays state u kind ces a b before now Line status → FetchSays state u kind ces a b before now Other status
another-fetch-line state u kind ces a b before now Line Other status pass (fetched, fetches, is, why) = (fetched, fetches, is, why-other fetched.last status Line Other is pass why)
