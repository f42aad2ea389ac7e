-- The steps of a connection, together.
use Rattle.std.proofs.Common.{◌≡◌, ◌≢◌, ℕ, ◌+◌, ◌<◌, ◌≤◌, Bool, false, true, ◌||◌, ◌==◌, List, [], ◌∷◌, ◌++◌, Option, Some, None, IsSome, IsTrue, refl, sym, ap, ◌∙◌, subst, arith, append_assoc, inl, inr}
use Rattle.std.proofs.lemmas.Bool.{cases_lt, true≢false}
use Rattle.std.specs.Io.KnownBytes.{Appends, Consumes, IsAtEnd}
use Rattle.std.specs.Prelude.{is_some}
use Rattle.dap_http.proofs.HeadReading.{nothing-requested}
use Rattle.dap_errors.specs.declared.cause.Cause.TheVariants.{OutOfMemory}
use Rattle.dap_http.specs.declared.head_reader.Head.{Head}
use Rattle.dap_outside.specs.Causes.{Rose}
use Rattle.dap_outside.specs.Files.{Told}
use Rattle.dap_server.specs.Connections.{ArePut, Behind, Connection, ConnectionMayAsk, FailedBy, IsConnectionServed, IsPut, RoseFor, behind_text, failures, leaves_open, nothing, part_of_refusal, part_of_reply, put_from, refusal}
use Rattle.dap_server.specs.Files.{Files}
use Rattle.dap_server.specs.Replies.{Turn, replies, reply_of, request}
use Rattle.dap_server.specs.Whole.{AnswersAll}
use Rattle.dap_server.specs.declared.served.Served.{Served}
use Rattle.dap_server.specs.declared.reply_outcome.Answered.{Answered}
use Rattle.dap_server.specs.declared.reply_outcome.Answered.TheVariants as answered
use Rattle.dap_server.specs.declared.reply_outcome.Next.{Next}
use Rattle.dap_server.specs.inner.Serving.{Answers, GoesOn, GoesOnFew, PutsLast, PutsRefusal, RoseNext, ServesFrom, SinkRose, Stand, next_of, request_in}
use Rattle.dap_server.proofs.Ends.{refused}
use Rattle.dap_server.proofs.Requesting.{last-put, no-memory, stand}
use Rattle.dap_server.proofs.Turning.{goes-on}
use Rattle.dap_server.proofs.WholeConnections.{whole}

-- ---- what comes behind a request

pub next-rose : (n before : ℕ) (a : Answered) (r : Next) (t t1 t' p p1 p' : ℕ) → r ≡ next_of n before a → t1 ≡ t → t' ≡ t1 → p1 ≡ p → SinkRose a p1 p' → RoseNext r t t' p p'
next-rose n before (answered.Whole status false) r t t1 t' p p1 p' is took takes same rose = subst (λ x. RoseNext x t t' p p') (sym is) (takes ∙ took, rose ∙ same)
next-rose n before (answered.Whole status true) r t t1 t' p p1 p' is took takes same rose = subst (λ x. RoseNext x t t' p p') (sym is) (takes ∙ took, rose ∙ same)
next-rose n before answered.Broken r t t1 t' p p1 p' is took takes same rose = subst (λ x. RoseNext x t t' p p') (sym is) (takes ∙ took, rose ∙ same)
next-rose n before answered.WriteFault r t t1 t' p p1 p' is took takes same rose = subst (λ x. RoseNext x t t' p p') (sym is) (subst (λ m. Rose m p') same rose, takes ∙ took)

few-more : (n : ℕ) → n < 1000 → (n + 1 == 1000) ≡ false → n + 1 < 1000
few-more n few other = elim (cases_lt (n + 1) 1000) [
  | inl less ↦ less
  | inr most ↦ (let is : n + 1 ≡ 1000 = omega (arith, few, most) in absurd (true≢false (sym (ap (λ m. m == 1000) is) ∙ other)))
]

or-left : (a b : Bool) → false ≡ (a || b) → a ≡ false
or-left true b is = cc is
or-left false b is = refl

or-right : (a b : Bool) → false ≡ (a || b) → b ≡ false
or-right true b is = cc is
or-right false b is = sym is

pub next-few : (n before : ℕ) (told : Told) (h : Head) (ends : Bool) (s z : Stand) (a : Answered) (r : Next) → r ≡ next_of n before a → n < 1000 → ends ≡ (h.ends || (n + 1 == 1000))
    → Answers told (request_in h ends) s z a → GoesOnFew n r
next-few n before told h ends s z (answered.Whole status false) r is few e (answer, may, (put, appends, (st, last, known)), failed, asks) =
    let open_end : ends ≡ false = or-left ends (Rattle.dap_server.specs.Replies.wants answer) last in
    subst (GoesOnFew n) (sym is) (few-more n few (or-right h.ends (n + 1 == 1000) (sym open_end ∙ e)))
next-few n before told h ends s z (answered.Whole status true) r is few e answers = subst (GoesOnFew n) (sym is) tt
next-few n before told h ends s z answered.Broken r is few e answers = subst (GoesOnFew n) (sym is) tt
next-few n before told h ends s z answered.WriteFault r is few e answers = subst (GoesOnFew n) (sym is) tt

pub last-rose : (bytes : List ℕ) (status n before : ℕ) (old new : Option (List ℕ)) (served : Served) (t t1 t' p p1 p' : ℕ) → PutsLast bytes status n before old new served → t1 ≡ t → t' ≡ t1 → p1 ≡ p
    → RoseFor served.ending 0 0 p1 p' → RoseFor served.ending t t' p p'
last-rose bytes status n before old new served t t1 t' p p1 p' (inl (is, appends)) took takes same rose =
    subst (λ (x : Served). RoseFor x.ending t t' p p') (sym is) (takes ∙ took, (subst (λ (x : Served). RoseFor x.ending 0 0 p1 p') is rose).1 ∙ same)
last-rose bytes status n before old new served t t1 t' p p1 p' (inr (is, cut)) took takes same rose =
    subst (λ (x : Served). RoseFor x.ending t t' p p') (sym is) (subst (λ m. Rose m p') same (subst (λ (x : Served). RoseFor x.ending 0 0 p1 p') is rose).0, takes ∙ took)

pub refusal-rose : (cause : Rattle.dap_errors.specs.declared.cause.Cause.Cause) (n before : ℕ) (old new : Option (List ℕ)) (served : Served) (t t1 t' p p1 p' : ℕ) → PutsRefusal cause n before old new served
    → t1 ≡ t → t' ≡ t1 → p1 ≡ p → RoseFor served.ending 0 0 p1 p' → RoseFor served.ending t t' p p'
refusal-rose cause n before old new served t t1 t' p p1 p' (final, why, puts) took takes same rose = last-rose _ _ n before old new served t t1 t' p p1 p' puts took takes same rose

-- ---- the whole connection

-- it was refused before anything was taken
pub never-read : (told : Told) (l l1 w w1 : Option (List ℕ)) (f s : ℕ) (ended : Bool) (bytes : List ℕ) (served : Served) → l1 ≡ l → bytes ≡ Rattle.dap_http.specs.Texts.memory_text false → PutsLast bytes 503 0 0 w w1 served
    → ServesFrom 0 0 told [] l l1 (stand w f s) (stand w1 f s) ended served
never-read told l l1 w w1 f s ended bytes served same is puts =
    refused 0 0 told [] [] l l1 (stand w f s) (stand w1 f s) ended OutOfMemory served (nothing-taken l l1 same) (inr (inr (refl, nothing-requested)))
    (last-put bytes _ 503 _ 0 0 w w1 served (is ∙ no-memory) refl puts) refl (omega arith)
  where
    nothing-taken : (old new : Option (List ℕ)) → new ≡ old → Consumes old new []
    nothing-taken None new e = tt
    nothing-taken (Some xs) None e = cc e
    nothing-taken (Some xs) (Some ys) e = cc e

-- where the shelf tells its files all that was put is known
told-turns : (files : Files) (k : ℕ) (turns : List Turn) (behind : Behind) (put : List ℕ) → ArePut (Some files) k turns behind put → put ≡ replies k turns ++ behind_text behind
told-turns files k [] nothing put is = is
told-turns files k [] (refusal cause) put is = is
told-turns files k [] (part_of_reply t part) put is = is refl
told-turns files k [] (part_of_refusal cause part) put is = is
told-turns files k (t ∷ turns) behind put (own, others, is, known, rest) =
    is ∙ ap (λ o. o ++ others) (known refl) ∙ ap (λ o. reply_of (request k t.head) t.answer ++ o) (told-turns files (k + 1) turns behind others rest)
    ∙ sym (append_assoc (reply_of (request k t.head) t.answer) (replies (k + 1) turns) (behind_text behind))

pub told-put : (told : Told) (k : ℕ) (c : Connection) (w w1 : Option (List ℕ)) → IsSome told → ((put : List ℕ) × Appends w w1 put × IsPut told k c put) → Appends w w1 (put_from k c)
told-put None k c w w1 some puts = cc some
told-put (Some files) k c w w1 some (put, appends, is) = subst (Appends w w1) (told-turns files k c.turns c.behind put is) appends

pub served-so : (told : Told) (l l1 w w1 : Option (List ℕ)) (f f1 s s1 : ℕ) (ended : Bool) (served : Served) → ServesFrom 0 0 told [] l l1 (stand w f s) (stand w1 f1 s1) ended served
    → (c : Connection) × (taken : List ℕ) × Consumes l l1 taken × ((put : List ℕ) × Appends w w1 put × IsPut told 1 c put) × IsConnectionServed told taken ended c served
    × FailedBy (failures c served.ending) (leaves_open c.turns served.ending c.behind) f f1 × ((n : ℕ) × ConnectionMayAsk told c n × (s1 ≤ s + n))
served-so told l l1 w w1 f f1 s s1 ended served serves = serves

pub whole-so : (told : Told) (l l1 w w1 : Option (List ℕ)) (f f1 s s1 : ℕ) (ended : Bool) (served : Served) (d e g h : ℕ) → ServesFrom 0 0 told [] l l1 (stand w f s) (stand w1 f1 s1) ended served
    → RoseFor served.ending d e g h → (IsTrue ended → IsAtEnd l1)
    → (files : Files) (input : List ℕ) → told ≡ Some files → l ≡ Some input → ¬ (Rose f f1) → ¬ (Rose d e) → ¬ (Rose g h) → served.status ≢ 503
    → (gained : List ℕ) × Appends w w1 gained × AnswersAll input files gained served
whole-so told l l1 w w1 f f1 s s1 ended served d e g h (c, taken, consumes, puts, is, failed, asks) causes at_end files input is_told is_left no_shelf no_take no_put calm =
    whole told files input l l1 w w1 served ended f f1 d e g h
    (c, taken, consumes, told-put told 1 c w w1 (ap is_some is_told) puts, is, failed.0) causes at_end is_told is_left no_shelf no_take no_put calm

-- ---- the loop: what comes of the requests from here on is what comes of the whole connection

abbrev pub Whole-from : Told → Option (List ℕ) → Stand → ℕ → ℕ → List ℕ → Option (List ℕ) → Stand → Type 0
Whole-from told l0 a0 n before kept l a =
    (left' : Option (List ℕ)) (z : Stand) (ended : Bool) (served : Served) → ServesFrom n before told kept l left' a z ended served → ServesFrom 0 0 told [] l0 left' a0 z ended served

pub loop-start : (told : Told) (l0 : Option (List ℕ)) (a0 : Stand) (kept : List ℕ) → kept ≡ [] → Whole-from told l0 a0 0 0 kept l0 a0
loop-start told l0 a0 kept is = λ left' z ended served rest. subst (λ k. ServesFrom 0 0 told k l0 left' a0 z ended served) is rest

pub loop-step : (told told1 : Told) (l0 l l' : Option (List ℕ)) (a0 a b : Stand) (n before status : ℕ) (kept kept' : List ℕ) → told1 ≡ told → Whole-from told l0 a0 n before kept l a
    → GoesOn n told1 kept kept' l l' a b status → Whole-from told l0 a0 (n + 1) status kept' l' b
loop-step told told1 l0 l l' a0 a b n before status kept kept' same so_far step = λ left' z ended served rest.
    so_far left' z ended served (goes-on n before told kept kept' l l' left' a b z ended served status (subst (λ t. GoesOn n t kept kept' l l' a b status) same step) rest)

pub loop-end : (told told1 : Told) (l0 l l' : Option (List ℕ)) (a0 a z : Stand) (n before : ℕ) (kept : List ℕ) (ended : Bool) (served : Served) → told1 ≡ told → Whole-from told l0 a0 n before kept l a
    → ServesFrom n before told1 kept l l' a z ended served → ServesFrom 0 0 told [] l0 l' a0 z ended served
loop-end told told1 l0 l l' a0 a z n before kept ended served same so_far last = so_far l' z ended served (subst (λ t. ServesFrom n before t kept l l' a z ended served) same last)
