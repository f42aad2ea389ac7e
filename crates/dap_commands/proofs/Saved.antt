-- What is said of a data response that is saved, and of the words of `save`.
use Rattle.std.proofs.Common.{◌≡◌, ◌≢◌, ℕ, List, [], ◌∷◌, inl, inr, get_or, codes, Some, None, refl, sym, ap, ◌∙◌, subst, arith, ◌⊎◌}
use Rattle.dap_outside.specs.Links.{LinkState}
use Rattle.dap_http.specs.Urls.{UrlParts, url_of}
use Rattle.dap_client.specs.Fetched.{DialState, SinkState}
use Rattle.netcdf_writer.specs.Fetching.{SavesUrl}
use Rattle.netcdf_writer.specs.Outcomes.{OnLinkFault, OnReadFault, OnWriteFault}
use Rattle.netcdf_writer.specs.declared.stored.Stored.{Stored}
use Rattle.netcdf_writer.specs.declared.stored.Stored.TheVariants as stored
use Rattle.dap_commands.proofs.Fetching.{answer-named, no-save, no-save-url, no-words, soak-named, some-or-none}
use Rattle.dap_commands.specs.Lines.{line_of}
use Rattle.dap_commands.specs.Save.{SaveSays, SavedLine, status_of_stored}
use Rattle.dap_commands.specs.Words.{AreAnswer, AreSaveUrl, AreSoak, HaveSaveForm, IsCommand, IsFetch, IsSave, IsSaveUrl}
use Rattle.dap_commands.specs.declared.status.Status.{Status}
use Rattle.dap_commands.specs.declared.status.Status.TheVariants.{BadReply, ServerError, ReadFault, WriteFault, LinkFault, Memory}

-- ---- a status and its answer

read_answer : (s : Stored) → status_of_stored s ≡ ReadFault → s ≡ stored.ReadFault
read_answer (stored.Written bytes) is = cc is
read_answer (stored.Unsavable member why) is = cc is
read_answer stored.BodyTooLarge is = cc is
read_answer stored.HeaderTooLong is = cc is
read_answer (stored.ServerError code message) is = cc is
read_answer (stored.BadReply field) is = cc is
read_answer stored.ReadFault is = refl
read_answer stored.WriteFault is = cc is
read_answer stored.LinkFault is = cc is
read_answer stored.Memory is = cc is

write_answer : (s : Stored) → status_of_stored s ≡ WriteFault → s ≡ stored.WriteFault
write_answer (stored.Written bytes) is = cc is
write_answer (stored.Unsavable member why) is = cc is
write_answer stored.BodyTooLarge is = cc is
write_answer stored.HeaderTooLong is = cc is
write_answer (stored.ServerError code message) is = cc is
write_answer (stored.BadReply field) is = cc is
write_answer stored.ReadFault is = cc is
write_answer stored.WriteFault is = refl
write_answer stored.LinkFault is = cc is
write_answer stored.Memory is = cc is

link_answer : (s : Stored) → status_of_stored s ≡ LinkFault → s ≡ stored.LinkFault
link_answer (stored.Written bytes) is = cc is
link_answer (stored.Unsavable member why) is = cc is
link_answer stored.BodyTooLarge is = cc is
link_answer stored.HeaderTooLong is = cc is
link_answer (stored.ServerError code message) is = cc is
link_answer (stored.BadReply field) is = cc is
link_answer stored.ReadFault is = cc is
link_answer stored.WriteFault is = cc is
link_answer stored.LinkFault is = refl
link_answer stored.Memory is = cc is

pub read-fault : (P : Type 0) (s : Stored) (status : Status) → status ≡ status_of_stored s → OnReadFault P s → status ≡ ReadFault → P
read-fault P s status told on is = subst (OnReadFault P) (read_answer s (sym told ∙ is)) on

pub write-fault : (P : Type 0) (s : Stored) (status : Status) → status ≡ status_of_stored s → OnWriteFault P s → status ≡ WriteFault → P
write-fault P s status told on is = subst (OnWriteFault P) (write_answer s (sym told ∙ is)) on

pub no-link : (s : Stored) (status : Status) → status ≡ status_of_stored s → OnLinkFault ⊥ s → status ≡ LinkFault → ⊥
no-link s status told on is = subst (OnLinkFault ⊥) (link_answer s (sym told ∙ is)) on

pub link-fault : (P : Type 0) (s : Stored) (status : Status) → status ≡ status_of_stored s → (s ≡ stored.LinkFault → P) → status ≡ LinkFault → P
link-fault P s status told on is = on (link_answer s (sym told ∙ is))

-- with another status comes another answer
pub other-read : (s : Stored) (status : Status) → status ≡ status_of_stored s → status ≢ ReadFault → ¬ (s ≡ stored.ReadFault)
other-read s status told other is = other (told ∙ ap status_of_stored is)

pub other-write : (s : Stored) (status : Status) → status ≡ status_of_stored s → status ≢ WriteFault → ¬ (s ≡ stored.WriteFault)
other-write s status told other is = other (told ∙ ap status_of_stored is)

pub other-link : (s : Stored) (status : Status) → status ≡ status_of_stored s → status ≢ LinkFault → ¬ (s ≡ stored.LinkFault)
other-link s status told other is = other (told ∙ ap status_of_stored is)

-- ---- what is said of a URL

-- where memory was wanted before a link was connected
pub memory-saves : {W : Type 0} (state : W → LinkState) (u : UrlParts) (ce : List ℕ) (a : DialState W) (before : SinkState) (Line : List ℕ → Type 0) → SaveSays (SavesUrl state u ce a a before before) Line Memory
memory-saves state u ce a before Line = (stored.Memory, inl (record { back = refl; none_put = refl; is_fault = inr (refl, refl) }), refl, tt)

pub saves-as : {W : Type 0} (state : W → LinkState) (u : UrlParts) (ce heard : List ℕ) (a b : DialState W) (before now : SinkState) (s : Stored) → heard ≡ ce → SavesUrl state u heard a b before now s → SavesUrl state u ce a b before now s
saves-as state u ce heard a b before now s same says = subst (λ (l : List ℕ). SavesUrl state u l a b before now s) same says

-- ---- another line, where the status has no line of its own

why-other : (s : Stored) (status : Status) (Line Other : List ℕ → Type 0) → status ≡ status_of_stored s → (line_of status ≡ None → (l : List ℕ) → Line l → Other l) → SavedLine s Line → SavedLine s Other
why-other (stored.Unsavable member why) status Line Other is pass says = pass (ap line_of is) _ says
why-other stored.BodyTooLarge status Line Other is pass says = pass (ap line_of is) _ says
why-other stored.HeaderTooLong status Line Other is pass says = pass (ap line_of is) _ says
why-other (stored.ServerError code message) status Line Other is pass says = pass (ap line_of is) _ says
why-other (stored.BadReply field) status Line Other is pass says = pass (ap line_of is) _ says
why-other (stored.Written bytes) status Line Other is pass says = tt
why-other stored.ReadFault status Line Other is pass says = tt
why-other stored.WriteFault status Line Other is pass says = tt
why-other stored.LinkFault status Line Other is pass says = tt
why-other stored.Memory status Line Other is pass says = tt

pub another-save-line : (Saves : Stored → Type 0) (Line Other : List ℕ → Type 0) (status : Status) → (line_of status ≡ None → (l : List ℕ) → Line l → Other l) → SaveSays Saves Line status → SaveSays Saves Other status
another-save-line Saves Line Other status pass (s, saves, is, why) = (s, saves, is, why-other s status Line Other is pass why)

-- ---- words of one command

save-named : (words : List (List ℕ)) (url ce : List ℕ) → HaveSaveForm words url ce → get_or words 0 [] ≡ codes "save"
save-named words url ce is = ap (λ (l : List (List ℕ)). get_or l 0 []) is

pub save-no-answer : (words : List (List ℕ)) (target : List ℕ) (workers : ℕ) (url ce : List ℕ) → AreAnswer words target workers → HaveSaveForm words url ce → ⊥
save-no-answer words target workers url ce a s =
    let same : 97 ≡ 115 = no-words words (codes "answer") (codes "save") 97 115 (answer-named words target workers a) (save-named words url ce s) refl refl in omega (arith, same)

pub save-no-soak : (words : List (List ℕ)) (start records : ℕ) (url ce : List ℕ) → AreSoak words start records → HaveSaveForm words url ce → ⊥
save-no-soak words start records url ce a s =
    let same : codes "soak" ≡ codes "save" = sym (soak-named words start records a) ∙ save-named words url ce s in
    let second : 111 ≡ 97 = ap (λ (l : List ℕ). get_or l 1 0) same in omega (arith, second)

pub save-no-fetch : (words : List (List ℕ)) (url ce : List ℕ) → HaveSaveForm words url ce → ¬ (IsFetch words)
save-no-fetch words url ce s (u, kind, ces, (other, form, is)) = no-save-url words url ce other kind ces s form

pub input-no-fetch : (words : List (List ℕ)) → IsSave words → ¬ (IsFetch words)
input-no-fetch words s (u, kind, ces, (other, form, is)) = no-save words other kind ces s form

pub input-no-save : (words : List (List ℕ)) → IsSave words → ¬ (IsSaveUrl words)
input-no-save words s (u, ce, (url, form, is)) = let clash : codes "save" ∷ [] ≡ codes "save" ∷ url ∷ ce ∷ [] = sym s ∙ form in cc clash

-- words of that form have one URL and one constraint
pub record SameSave (url other ce rest : List ℕ) : Type 0 where
  pub url_is : url ≡ other
  pub ce_is : ce ≡ rest

pub one-save : (words : List (List ℕ)) (url other ce rest : List ℕ) → HaveSaveForm words url ce → HaveSaveForm words other rest → SameSave url other ce rest
one-save words url other ce rest is same = let all = sym is ∙ same in record { url_is = ap (λ (l : List (List ℕ)). get_or l 1 []) all; ce_is = ap (λ (l : List (List ℕ)). get_or l 2 []) all }

-- what is said of a URL and a constraint is said of these words
pub save-for : {W : Type 0} (state : W → LinkState) (words : List (List ℕ)) (url ce : List ℕ) (u : UrlParts) (rest : List ℕ) (a b : DialState W) (before now : SinkState) (Line : List ℕ → Type 0) (status : Status)
    → HaveSaveForm words url ce → ((v : UrlParts) → url_of url ≡ Some v → SaveSays (SavesUrl state v ce a b before now) Line status) → AreSaveUrl words u rest
    → SaveSays (SavesUrl state u rest a b before now) Line status
save-for state words url ce u rest a b before now Line status form says (other, same, is) =
    let one = one-save words url other ce rest form same in
    subst (λ (c : List ℕ). SaveSays (SavesUrl state u c a b before now) Line status) one.ce_is (says u (ap url_of one.url_is ∙ is))

-- words of the form whose URL is none are no command, and no others are
pub no-save-known : (words : List (List ℕ)) (url ce : List ℕ) → HaveSaveForm words url ce → ¬ (IsSaveUrl words) → url_of url ≡ None
no-save-known words url ce form none = go (some-or-none (url_of url))
  where
    go : (url_of url ≡ None) ⊎ ((u : UrlParts) × (url_of url ≡ Some u)) → url_of url ≡ None
    go (inl is) = is
    go (inr (u, is)) = absurd (none (u, ce, (url, form, is)))

pub no-save-command : (words : List (List ℕ)) (url ce : List ℕ) → HaveSaveForm words url ce → ¬ (IsCommand words) → url_of url ≡ None
no-save-command words url ce form none = no-save-known words url ce form (λ is. none (inr (inr (inr (inr (inr (inr (inr (inr is)))))))))

pub save-only : (words : List (List ℕ)) (url ce : List ℕ) → HaveSaveForm words url ce → url_of url ≡ None → IsCommand words → ⊥
save-only words url ce form none (inl (target, workers, are)) = save-no-answer words target workers url ce are form
save-only words url ce form none (inr (inl is)) = let clash : codes "show" ∷ [] ≡ codes "save" ∷ url ∷ ce ∷ [] = sym is ∙ form in cc clash
save-only words url ce form none (inr (inr (inl (port, workers, requests, (p, w, r, is, a, b, c))))) = let clash : codes "serve" ∷ p ∷ w ∷ r ∷ [] ≡ codes "save" ∷ url ∷ ce ∷ [] = sym is ∙ form in cc clash
save-only words url ce form none (inr (inr (inr (inl is)))) = let clash : codes "ver" ∷ [] ≡ codes "save" ∷ url ∷ ce ∷ [] = sym is ∙ form in cc clash
save-only words url ce form none (inr (inr (inr (inr (inl is))))) = save-no-fetch words url ce form is
save-only words url ce form none (inr (inr (inr (inr (inr (inl (start, records, are))))))) = save-no-soak words start records url ce are form
save-only words url ce form none (inr (inr (inr (inr (inr (inr (inl (host, upport, port, room, requests, (w1, w2, w3, w4, is, named, a, b, c, d))))))))) = let clash : codes "relay" ∷ host ∷ w1 ∷ w2 ∷ w3 ∷ w4 ∷ [] ≡ codes "save" ∷ url ∷ ce ∷ [] = sym is ∙ form in cc clash
save-only words url ce form none (inr (inr (inr (inr (inr (inr (inr (inl is)))))))) = let clash : codes "save" ∷ [] ≡ codes "save" ∷ url ∷ ce ∷ [] = sym is ∙ form in cc clash
save-only words url ce form none (inr (inr (inr (inr (inr (inr (inr (inr (u, rest, (other, same, is)))))))))) =
    let clash : None ≡ Some u = sym none ∙ ap url_of (one-save words url other ce rest form same).url_is ∙ is in cc clash
