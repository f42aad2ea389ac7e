-- What is told of the bytes that were taken is the verdict on all that stand there.
use Rattle.std.proofs.Common.{◌≡◌, ℕ, ◌-◌, ◌<◌, ◌≤◌, ◌⊎◌, inl, inr, Bool, true, IsTrue, if◌then◌else◌, List, [], ◌∷◌, ◌++◌, length, take, drop, refl, ap, ◌∙◌, sym, subst, arith, append_assoc, append-nil, length-append, length-take-le, take-append-drop}
use Rattle.std.proofs.lemmas.Bool.{cases_lt}
use Rattle.dap_client.proofs.Only.{verdict_end}
use Rattle.dap_http.proofs.Deliveries.{break-more, delivery-more}
use Rattle.dap_http.proofs.Finals.{gives-more}
use Rattle.dap_http.proofs.Inside.{open-is}
use Rattle.dap_http.proofs.Runs.{body-grows, run-append}
use Rattle.dap_http.proofs.Told as told
use Rattle.dap_http.proofs.Whole.{goes-known, known-goes}
use Rattle.dap_http.specs.Chunks.{GoesOn, IsFaulty, IsWhole}
use Rattle.dap_http.specs.Codings.{Ends, Goes}
use Rattle.dap_http.specs.Delivered.{HasCoding, HasCome, IsBrokenBody, IsWholeBody}
use Rattle.dap_http.specs.inner.Steps.{Known, is_open, run, start}
use Rattle.dap_http.specs.declared.coding.Coding.{Coding}
use Rattle.dap_http.specs.declared.coding.Coding.TheVariants.{Chunked, Length, ToEnd}
use Rattle.reply_faults.specs.declared.bad.Bad.{Bad}
use Rattle.reply_faults.specs.declared.bad.Bad.TheVariants.{BadChunk, Cut}
use Rattle.reply_faults.specs.declared.bad.BadField.{BadField}
use Rattle.dap_client.specs.Answered.{BringsBad, Tells}
use Rattle.dap_client.specs.Fetched.{IsFirst, SaysVerdict}
use Rattle.dap_client.specs.Outcomes.{outcome_of}
use Rattle.dap_client.specs.Replies.{BringsFirst, IsReplyVerdict, first_of}
use Rattle.dap_client.specs.Verdict.{Form, Verdict, IsVerdict, bad, is_fault, server_error}
use Rattle.dap_client.specs.declared.outcome.Outcome.{Outcome}
use Rattle.dap_client.specs.declared.outcome.Outcome.TheVariants.{Complete, ServerError, BadReply, ReadFault, WriteFault, LinkFault, Memory}

-- ---- a body that has come in part ends somewhere, or breaks off

abbrev Comes : Coding → List ℕ → List ℕ → Type 0
Comes c bytes body =
    ((x : List ℕ) × (rest : List ℕ) × IsWholeBody c bytes true (body ++ x) rest)
    ⊎ ((x : List ℕ) × (wrong : BadField) × IsBrokenBody c bytes true (body ++ x) wrong)

goes-on : (front w body : List ℕ) → GoesOn front body → Comes Chunked (front ++ w) body
goes-on front w body g = go (told.tells bytes) where
  bytes : List ℕ
  bytes = front ++ w

  k : Known
  k = run start bytes

  more : (x : List ℕ) × ((run (run start front) w).body ≡ (run start front).body ++ x)
  more = body-grows (run start front) w

  all : k.body ≡ body ++ more.0
  all = ap (λ (m : Known). m.body) (run-append start front w) ∙ more.1 ∙ ap (λ t. t ++ more.0) (goes-known front body g).body

  go : told.Tells k bytes → Comes Chunked bytes body
  go (told.going s part is printed same state) =
      let (done, opens) = open-is (told.there s part).at s part state.holds in
      let goes : GoesOn bytes k.body = known-goes bytes (ap (λ (m : Known). is_open m.at) same ∙ opens) in
      inr (more.0, record { kind = Cut; place = length (body ++ more.0) }, inr (subst (λ (t : List ℕ). GoesOn bytes t) all goes, λ e. cc e, refl, refl))
  go (told.over f rest e whole done count) = inl (more.0, rest, inl (f, subst (λ (t : List ℕ). IsWhole f t) all whole, e))
  go (told.wrong f at count) = inr (more.0, record { kind = BadChunk; place = k.from }, inl (refl, subst (λ (t : List ℕ). IsFaulty bytes t k.from) all f))

goes-far : (n : ℕ) (front w : List ℕ) → length front < n → Comes (Length n) (front ++ w) front
goes-far n front w few = go (cases_lt (length (front ++ w)) n) where
  go : (length (front ++ w) < n) ⊎ (n ≤ length (front ++ w)) → Comes (Length n) (front ++ w) front
  go (inl less) = inr (w, record { kind = Cut; place = length (front ++ w) }, inr ((refl, less), λ e. cc e, refl, refl))
  go (inr le) =
      let left = n - length front in
      let enough : left ≤ length w = omega (arith, le, few, length-append front w) in
      inl (
        take left w,
        drop left w,
        inl (
          front ++ take left w,
          (refl, omega (arith, few, length-append front (take left w), length-take-le left w enough)),
          sym (append_assoc front (take left w) (drop left w) ∙ ap (λ t. front ++ t) (take-append-drop left w)),
        ),
      )

stays-whole : (c : Coding) (used rest w body : List ℕ) → Ends c used body → Comes c ((used ++ rest) ++ w) body
stays-whole c used rest w body ends =
    inl ([], rest ++ w, inl (used, subst (λ (t : List ℕ). Ends c used t) (sym (append-nil body)) ends, append_assoc used rest w))

comes-further : (c : Coding) (used w body : List ℕ) → Goes c used body → Comes c (used ++ w) body
comes-further Chunked used w body goes = goes-on used w body goes
comes-further (Length n) used w body (same, few) = subst (λ (t : List ℕ). Comes (Length n) (used ++ w) t) (sym same) (goes-far n used w few)
comes-further ToEnd used w body same = inl (w, [], inr (refl, refl, ap (λ t. t ++ w) (sym same), refl))

comes : (c : Coding) (front w body : List ℕ) → HasCome c front body → Comes c (front ++ w) body
comes c front w body come = subst (λ (t : List ℕ). Comes c (t ++ w) body) (sym come.parts) (go come.comes) where
  go : (Goes c come.front body × (come.rest ≡ [])) ⊎ Ends c come.front body → Comes c ((come.front ++ come.rest) ++ w) body
  go (inl (goes, none)) = subst (λ (t : List ℕ). Comes c (t ++ w) body) (sym (ap (λ t. come.front ++ t) none ∙ append-nil come.front)) (comes-further c come.front w body goes)
  go (inr ends) = stays-whole c come.front come.rest w body ends

-- ---- only at the end of the bytes a body is cut

-- what is wrong whatever follows is more than that the bytes end
lasts : (form : Form) (body : List ℕ) (kind : Bad) (place : ℕ) → ((more : List ℕ) → IsVerdict form (body ++ more) (bad kind place)) → is_fault kind ≡ true
lasts form body Cut place lasting =
    absurd (omega (arith, verdict_end form (body ++ []) place (lasting []), verdict_end form (body ++ 0 ∷ []) place (lasting (0 ∷ [])), length-append body [], length-append body (0 ∷ [])))
lasts form body kind place lasting = refl

first-is : (kind : Bad) (place : ℕ) (wrong : BadField) → is_fault kind ≡ true → bad kind place ≡ first_of (bad kind place) wrong
first-is kind place wrong is = sym (ap (λ b. if b then bad kind place else bad wrong.kind wrong.place) is)

-- ---- what is told of a reply

brought : (form : Form) (bytes more : List ℕ) (field : BadField) (text : List ℕ) → BringsBad form (λ body. BringsFirst bytes body) field text → (n : ℕ) × IsReplyVerdict form (bytes ++ more) n (bad field.kind field.place)
brought form bytes more field text b = go (comes coding front (after ++ more) b.body come) where
  coding : Coding
  coding = b.brings.0

  front : List ℕ
  front = b.brings.1

  after : List ℕ
  after = b.brings.2

  come : HasCome coding front b.body
  come = b.brings.4

  has : HasCoding (bytes ++ more) coding (front ++ (after ++ more))
  has = subst (λ (t : List ℕ). HasCoding (bytes ++ more) coding t) (append_assoc front after more) (gives-more bytes more (front ++ after) (inr coding) b.brings.3)

  go : Comes coding (front ++ (after ++ more)) b.body → (n : ℕ) × IsReplyVerdict form (bytes ++ more) n (bad field.kind field.place)
  go (inl (x, rest, whole)) = (length (b.body ++ x), inl (b.body ++ x, rest, record { coding = coding; behind = front ++ (after ++ more); has_coding = has; is_whole = whole }, refl, b.lasting x))
  go (inr (x, wrong, broken)) = (
    length (b.body ++ x),
    inr (b.body ++ x, wrong, bad field.kind field.place, inr (coding, front ++ (after ++ more), has, broken), refl, b.lasting x, first-is field.kind field.place wrong (lasts form b.body field.kind field.place b.lasting)),
  )

-- a whole reply, and what stands behind it
pub stands : (form : Form) (bytes more rest text : List ℕ) (ended : Bool) (n : ℕ) → (IsTrue ended → more ≡ []) → Tells form bytes ended rest text (Complete n)
    → (m : ℕ) × (v : Verdict) × IsFirst form (bytes ++ more) v m (rest ++ more) × (Complete n ≡ outcome_of m v)
stands form bytes more rest text ended n none (body, v, delivers, is, told, shown) =
    (length body, v, record { body = body; delivers = delivery-more bytes more ended body rest none delivers; verdict = is; count = refl }, sym told)

pub says : (form : Form) (bytes more rest text : List ℕ) (ended : Bool) (outcome : Outcome) → (IsTrue ended → more ≡ []) → Tells form bytes ended rest text outcome → SaysVerdict form (bytes ++ more) outcome
says form bytes more rest text ended (Complete n) none (body, v, delivers, is, told, shown) = λ sound.
    (length body, v, inl (body, rest ++ more, delivery-more bytes more ended body rest none delivers, refl, is), sym told)
says form bytes more rest text ended (ServerError code message) none (body, delivers, is, shown) = λ sound.
    (length body, server_error (record { code = code; message = message }), inl (body, rest ++ more, delivery-more bytes more ended body rest none delivers, refl, is), refl)
says form bytes more rest text ended (BadReply field) none (inl b) = λ sound. let (n, is) = brought form bytes more field text b in (n, bad field.kind field.place, is, refl)
says form bytes more rest text ended (BadReply field) none (inr (inl b)) = λ sound.
    (length b.body, bad field.kind field.place, inl (b.body, rest ++ more, delivery-more bytes more ended b.body rest none b.delivers, refl, b.verdict), refl)
says form bytes more rest text ended (BadReply field) none (inr (inr b)) = λ sound.
    (length b.body, bad field.kind field.place, inr (b.body, b.wrong, b.front, break-more bytes more ended b.body b.wrong none b.breaks, refl, b.verdict, b.is_first), refl)
says form bytes more rest text ended ReadFault none t = λ sound. cc sound
says form bytes more rest text ended WriteFault none t = λ sound. cc sound
says form bytes more rest text ended LinkFault none t = absurd t
says form bytes more rest text ended Memory none t = λ sound. cc sound
