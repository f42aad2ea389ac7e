-- What is said of a body that is held, by the bytes behind the heads of its reply and by the reply, and what is told.
use Rattle.std.proofs.Common.{◌≡◌, ◌<◌, ◌≤◌, ℕ, ◌⊎◌, inl, inr, Bool, true, List, [], ◌++◌, length, Err, IsTrue, refl, ap, ◌∙◌, sym, subst, arith, append_assoc, length-append}
use Rattle.std.proofs.lemmas.Bool.{cases_lt}
use Rattle.std.proofs.lemmas.List.{take-append-le}
use Rattle.dap_http.proofs.Deliveries.{break-more, delivery-more, no-delivery-broken, one-break, one-delivery, good-head}
use Rattle.dap_http.proofs.Finals.{gives-more, one-gives}
use Rattle.dap_http.proofs.Parts.{opened}
use Rattle.dap_http.proofs.Seams.{split}
use Rattle.dap_http.specs.Delivered.{BreaksOff, Delivers, HasBadHead, HasCoding, HasCome, IsBrokenBody, IsWholeBody}
use Rattle.dap_http.specs.Following.{Follows, body_coding, waiting}
use Rattle.dap_http.specs.declared.body_parts.BodyParts.{BodyParts}
use Rattle.dap_http.specs.declared.coding.Coding.{Coding}
use Rattle.reply_faults.specs.declared.bad.BadField.{BadField}
use Rattle.dap_client.proofs.Behind.{brought-broken, brought-whole, come-now, further-come}
use Rattle.dap_client.proofs.HeldBodies.{not-now, said-taken, says-so}
use Rattle.dap_client.proofs.OneVerdict.{one_verdict}
use Rattle.dap_client.proofs.Only.{lasting_end}
use Rattle.dap_client.proofs.TextBodies.{goes_first}
use Rattle.dap_client.specs.Held.{IsLong, IsTold, Says, told_of}
use Rattle.dap_client.specs.Replies.{BringsFirst, first_of}
use Rattle.dap_client.specs.Verdict.{Form, Verdict, IsVerdict, bad}
use Rattle.dap_client.specs.inner.Holding.{IsTaken, SaysBehind, SaysBroken, SaysWhole}
use Rattle.dap_client.specs.declared.body_outcome.BodyOutcome.{BodyOutcome}
use Rattle.dap_client.specs.declared.body_outcome.BodyOutcome.TheVariants.{Good, ServerError, Bad, TooLarge, ReadFault, Memory}

-- ---- by the bytes behind the heads

pub whole-behind : (form : Form) (limit : ℕ) (coding : Coding) (bytes : List ℕ) (ended : Bool) (body rest : List ℕ) (o : BodyOutcome) → IsWholeBody coding bytes ended body rest → SaysWhole form limit body o
    → SaysBehind form limit coding bytes ended o
whole-behind form limit coding bytes ended body rest o whole says =
    says-so form limit o (λ b. b ≡ body) (λ b. (r : List ℕ) × IsWholeBody coding bytes ended b r) (λ b. ⊥) (λ b. (front : List ℕ) × (behind : List ℕ) × (bytes ≡ front ++ behind) × HasCome coding front b)
    (λ b w. ⊥) (λ b w. IsBrokenBody coding bytes ended b w)
    (λ b is. (rest, subst (λ (l : List ℕ). IsWholeBody coding bytes ended l rest) (sym is) whole)) (λ b w none. absurd none) (λ b none. absurd none) says

pub broken-behind : (form : Form) (limit : ℕ) (coding : Coding) (bytes : List ℕ) (ended : Bool) (body : List ℕ) (wrong : BadField) (o : BodyOutcome) → IsBrokenBody coding bytes ended body wrong → SaysBroken form limit body wrong o
    → SaysBehind form limit coding bytes ended o
broken-behind form limit coding bytes ended body wrong o broken says =
    says-so form limit o (λ b. ⊥) (λ b. (r : List ℕ) × IsWholeBody coding bytes ended b r) (λ b. ⊥) (λ b. (front : List ℕ) × (behind : List ℕ) × (bytes ≡ front ++ behind) × HasCome coding front b)
    (λ b w. (b ≡ body) × (w ≡ wrong)) (λ b w. IsBrokenBody coding bytes ended b w)
    (λ b none. absurd none)
    (λ b w both. subst (λ (f : BadField). IsBrokenBody coding bytes ended b f) (sym both.1) (subst (λ (l : List ℕ). IsBrokenBody coding bytes ended l wrong) (sym both.0) broken))
    (λ b none. absurd none) says

pub taken-behind : (form : Form) (limit : ℕ) (p : BodyParts) (bytes body : List ℕ) (ended : Bool) (e : BodyOutcome) → Follows p bytes body → IsTaken form limit body (Err e) → SaysBehind form limit (body_coding p) bytes ended e
taken-behind form limit p bytes body ended e follows taken =
    let o = opened p bytes body follows in
    said-taken form limit body e (λ b. (r : List ℕ) × IsWholeBody (body_coding p) bytes ended b r)
    (λ b. (front : List ℕ) × (behind : List ℕ) × (bytes ≡ front ++ behind) × HasCome (body_coding p) front b) (λ b w. IsBrokenBody (body_coding p) bytes ended b w)
    (o.used, waiting p, o.parts, come-now p bytes body o) taken

pub behind-as : (form : Form) (limit : ℕ) (c d : Coding) (bytes : List ℕ) (ended : Bool) (o : BodyOutcome) → c ≡ d → SaysBehind form limit c bytes ended o → SaysBehind form limit d bytes ended o
behind-as form limit c d bytes ended o same says = subst (λ (e : Coding). SaysBehind form limit e bytes ended o) same says

-- ---- by the reply

pub lifted-held : (form : Form) (limit : ℕ) (c : Coding) (reply behind : List ℕ) (ended : Bool) (o : BodyOutcome) → HasCoding reply c behind → SaysBehind form limit c behind ended o → Says form limit reply ended o
lifted-held form limit c reply behind ended o has says =
    says-so form limit o (λ b. (r : List ℕ) × IsWholeBody c behind ended b r) (λ b. (r : List ℕ) × Delivers reply ended b r)
    (λ b. (front : List ℕ) × (more : List ℕ) × (behind ≡ front ++ more) × HasCome c front b) (λ b. BringsFirst reply b)
    (λ b w. IsBrokenBody c behind ended b w) (λ b w. BreaksOff reply ended b w)
    (λ b whole. let (r, is) = whole in (r, record { coding = c; behind = behind; has_coding = has; is_whole = is }))
    (λ b w broken. inr (c, behind, has, broken))
    (λ b brings. let (front, more, parts, come) = brings in (c, front, more, subst (λ (l : List ℕ). HasCoding reply c l) parts has, come)) says

pub head-held : (form : Form) (limit : ℕ) (reply : List ℕ) (ended : Bool) (wrong : BadField) (o : BodyOutcome) → HasBadHead reply ended wrong → SaysBroken form limit [] wrong o → Says form limit reply ended o
head-held form limit reply ended wrong o head says =
    says-so form limit o (λ b. ⊥) (λ b. (r : List ℕ) × Delivers reply ended b r) (λ b. ⊥) (λ b. BringsFirst reply b) (λ b w. (b ≡ []) × (w ≡ wrong)) (λ b w. BreaksOff reply ended b w)
    (λ b none. absurd none)
    (λ b w both. inl (subst (λ (f : BadField). HasBadHead reply ended f) (sym both.1) head, both.0))
    (λ b none. absurd none) says

-- ---- what came of one reply

brings-more : (taken more body : List ℕ) → BringsFirst taken body → BringsFirst (taken ++ more) body
brings-more taken more body (c, front, tail, has, come) =
    (c, front, tail ++ more, subst (λ (l : List ℕ). HasCoding (taken ++ more) c l) (append_assoc front tail more) (gives-more taken more (front ++ tail) (inr c) has), come)

one-coding : (reply : List ℕ) (c d : Coding) (r q : List ℕ) → HasCoding reply c r → HasCoding reply d q → (r ≡ q) × (c ≡ d)
one-coding reply c d r q one two = let (rests, codings) = one-gives reply r q (inr c) (inr d) one two in let same : c ≡ d = cc in (rests, same)

abbrev Along : List ℕ → List ℕ → Type 0
Along body held = ((y : List ℕ) × (body ≡ held ++ y)) ⊎ ((y : List ℕ) × (held ≡ body ++ y))

two-fronts : (c : Coding) (front more other tail body held : List ℕ) → front ++ more ≡ other ++ tail → HasCome c front body → HasCome c other held → Along body held
two-fronts c front more other tail body held same come also = go (cases_lt (length front) (length other)) where
  go : (length front < length other) ⊎ (length other ≤ length front) → Along body held
  go (inl less) =
      let (x, is, rest) = split front more other tail same (omega (arith, less)) in
      inr (further-come c front x body held come (subst (λ (l : List ℕ). HasCome c l held) is also))
  go (inr le) =
      let (x, is, rest) = split other tail front more (sym same) le in
      inl (further-come c other x held body also (subst (λ (l : List ℕ). HasCome c l body) is come))

two-brought : (reply body held : List ℕ) → BringsFirst reply body → BringsFirst reply held → Along body held
two-brought reply body held (c, front, more, has, come) (d, other, tail, given, came) =
    let (rests, codings) = one-coding reply c d (front ++ more) (other ++ tail) has given in
    two-fronts c front more other tail body held rests come (subst (λ (e : Coding). HasCome e other held) (sym codings) came)

brought-by-whole : (reply body held rest : List ℕ) → BringsFirst reply held → Delivers reply true body rest → (y : List ℕ) × (body ≡ held ++ y)
brought-by-whole reply body held rest (c, front, more, has, come) d =
    let (rests, codings) = one-coding reply c d.coding (front ++ more) d.behind has d.has_coding in
    brought-whole c front more held body rest true come
    (subst (λ (e : Coding). IsWholeBody e (front ++ more) true body rest) (sym codings) (subst (λ l. IsWholeBody d.coding l true body rest) (sym rests) d.is_whole))

brought-by-break : (reply body held : List ℕ) (wrong : BadField) → BringsFirst reply held → BreaksOff reply true body wrong → (y : List ℕ) × (body ≡ held ++ y)
brought-by-break reply body held wrong (c, front, more, has, come) (inl (head, none)) = absurd (good-head reply (front ++ more) true wrong c has head)
brought-by-break reply body held wrong (c, front, more, has, come) (inr (d, behind, given, broken)) =
    let (rests, codings) = one-coding reply c d (front ++ more) behind has given in
    brought-broken c front more held body wrong true come
    (subst (λ (e : Coding). IsBrokenBody e (front ++ more) true body wrong) (sym codings) (subst (λ l. IsBrokenBody d l true body wrong) (sym rests) broken))

-- what is long stays so, with more behind it
long-more : (form : Form) (limit : ℕ) (body all y : List ℕ) → all ≡ body ++ y → IsLong form limit body → IsLong form limit all
long-more form limit body all y is long = subst (λ (l : List ℕ). IsLong form limit l) (sym is) (record {
  longer = omega (arith, long.longer, length-append body y);
  front = long.front;
  verdict = subst (λ (l : List ℕ). IsVerdict form l long.front) (sym (take-append-le limit body y (omega (arith, long.longer)))) long.verdict;
  going = long.going;
})

-- ---- what is told

too-few : (limit : ℕ) (body all y : List ℕ) → all ≡ body ++ y → length all ≤ limit → limit < length body → ⊥
too-few limit body all y is few long = omega (arith, few, long, ap length is, length-append body y)

pub told-large : (form : Form) (limit : ℕ) (taken more : List ℕ) (ended : Bool) (o : BodyOutcome) (body : List ℕ) → (IsTrue ended → more ≡ []) → BringsFirst (taken ++ more) body → IsLong form limit body
    → Says form limit taken ended o → IsTold TooLarge o
told-large form limit taken more ended (Good b) body stop brings long ((rest, d), told, few) =
    let (y, is) = brought-by-whole (taken ++ more) b body (rest ++ more) brings (delivery-more taken more ended b rest stop d) in
    absurd (too-few limit body b y is few long.longer)
told-large form limit taken more ended (ServerError b) body stop brings long ((rest, d), told, few) =
    let (y, is) = brought-by-whole (taken ++ more) b body (rest ++ more) brings (delivery-more taken more ended b rest stop d) in
    absurd (too-few limit body b y is few long.longer)
told-large form limit taken more ended (Bad field) body stop brings long (inl (b, first, lasting, never)) =
    absurd (go (two-brought (taken ++ more) body b brings (brings-more taken more b first)))
  where
    go : Along body b → ⊥
    go (inl (y, is)) = never y (subst (λ (l : List ℕ). IsLong form limit l) is long)
    go (inr (y, is)) = not-now form limit b never (long-more form limit body b y is long)
told-large form limit taken more ended (Bad field) body stop brings long (inr (inl (b, (rest, d), verdict, not_long))) =
    let (y, is) = brought-by-whole (taken ++ more) b body (rest ++ more) brings (delivery-more taken more ended b rest stop d) in
    absurd (not_long (long-more form limit body b y is long))
told-large form limit taken more ended (Bad field) body stop brings long (inr (inr (b, wrong, front, broken, verdict, first, not_long))) =
    let (y, is) = brought-by-break (taken ++ more) b body wrong brings (break-more taken more ended b wrong stop broken) in
    absurd (not_long (long-more form limit body b y is long))
told-large form limit taken more ended TooLarge body stop brings long says = refl
told-large form limit taken more ended ReadFault body stop brings long says = tt
told-large form limit taken more ended Memory body stop brings long says = tt

by-told : (b body : List ℕ) (w v : Verdict) (o : BodyOutcome) → b ≡ body → w ≡ v → told_of b w ≡ o → o ≡ told_of body v
by-told b body w v o bodies same told = sym told ∙ ap (λ l. told_of l w) bodies ∙ ap (told_of body) same

whole-so : (form : Form) (reply body b rest left : List ℕ) (v w : Verdict) (o : BodyOutcome) → Delivers reply true body rest → Delivers reply true b left → IsVerdict form body v → IsVerdict form b w → told_of b w ≡ o → o ≡ told_of body v
whole-so form reply body b rest left v w o delivers d is also told =
    let (bodies, rests) = one-delivery reply true b body left rest d delivers in
    by-told b body w v o bodies (one_verdict form body w v (subst (λ (l : List ℕ). IsVerdict form l w) bodies also) is) told

lasting-so : (form : Form) (body b y : List ℕ) (v : Verdict) (field : BadField) → body ≡ b ++ y → ((more : List ℕ) → IsVerdict form (b ++ more) (bad field.kind field.place)) → IsVerdict form body v → bad field.kind field.place ≡ v
lasting-so form body b y v field further lasting is =
    one_verdict form body (bad field.kind field.place) v (subst (λ (l : List ℕ). IsVerdict form l (bad field.kind field.place)) (sym further) (lasting y)) is

pub told-whole : (form : Form) (limit : ℕ) (taken more : List ℕ) (ended : Bool) (o : BodyOutcome) (body rest : List ℕ) (v : Verdict) → (IsTrue ended → more ≡ []) → Delivers (taken ++ more) true body rest → IsVerdict form body v
    → ¬ (IsLong form limit body) → Says form limit taken ended o → IsTold (told_of body v) o
told-whole form limit taken more ended (Good b) body rest v stop delivers is short ((left, d), (w, also, told), few) =
    whole-so form (taken ++ more) body b rest (left ++ more) v w (Good b) delivers (delivery-more taken more ended b left stop d) is also told
told-whole form limit taken more ended (ServerError b) body rest v stop delivers is short ((left, d), (w, also, told), few) =
    whole-so form (taken ++ more) body b rest (left ++ more) v w (ServerError b) delivers (delivery-more taken more ended b left stop d) is also told
told-whole form limit taken more ended (Bad field) body rest v stop delivers is short (inl (b, first, lasting, never)) =
    let (y, further) = brought-by-whole (taken ++ more) body b rest (brings-more taken more b first) delivers in
    ap (told_of body) (lasting-so form body b y v field further lasting is)
told-whole form limit taken more ended (Bad field) body rest v stop delivers is short (inr (inl (b, (left, d), also, not_long))) =
    whole-so form (taken ++ more) body b rest (left ++ more) v (bad field.kind field.place) (Bad field) delivers (delivery-more taken more ended b left stop d) is also refl
told-whole form limit taken more ended (Bad field) body rest v stop delivers is short (inr (inr (b, wrong, front, broken, also, first, not_long))) =
    absurd (no-delivery-broken (taken ++ more) true body b rest wrong delivers (break-more taken more ended b wrong stop broken))
told-whole form limit taken more ended TooLarge body rest v stop delivers is short (b, first, long) =
    let (y, further) = brought-by-whole (taken ++ more) body b rest (brings-more taken more b first) delivers in
    absurd (short (long-more form limit b body y further long))
told-whole form limit taken more ended ReadFault body rest v stop delivers is short says = tt
told-whole form limit taken more ended Memory body rest v stop delivers is short says = tt

pub told-broken : (form : Form) (limit : ℕ) (taken more : List ℕ) (ended : Bool) (o : BodyOutcome) (behind body : List ℕ) (coding : Coding) (wrong : BadField) (v : Verdict) → (IsTrue ended → more ≡ []) → HasCoding (taken ++ more) coding behind
    → BreaksOff (taken ++ more) true body wrong → IsVerdict form body v → ¬ (IsLong form limit body) → Says form limit taken ended o → IsTold (told_of body (first_of v wrong)) o
told-broken form limit taken more ended (Good b) behind body coding wrong v stop has breaks is short ((left, d), told, few) =
    absurd (no-delivery-broken (taken ++ more) true b body (left ++ more) wrong (delivery-more taken more ended b left stop d) breaks)
told-broken form limit taken more ended (ServerError b) behind body coding wrong v stop has breaks is short ((left, d), told, few) =
    absurd (no-delivery-broken (taken ++ more) true b body (left ++ more) wrong (delivery-more taken more ended b left stop d) breaks)
told-broken form limit taken more ended (Bad field) behind body coding wrong v stop has breaks is short (inl (b, first, lasting, never)) =
    let (y, further) = brought-by-break (taken ++ more) body b wrong (brings-more taken more b first) breaks in
    ap (told_of body) (goes_first field wrong (lasting_end form b field lasting) ∙ ap (λ x. first_of x wrong) (lasting-so form body b y v field further lasting is))
told-broken form limit taken more ended (Bad field) behind body coding wrong v stop has breaks is short (inr (inl (b, (left, d), also, not_long))) =
    absurd (no-delivery-broken (taken ++ more) true b body (left ++ more) wrong (delivery-more taken more ended b left stop d) breaks)
told-broken form limit taken more ended (Bad field) behind body coding wrong v stop has breaks is short (inr (inr (b, other, front, broken, also, first, not_long))) =
    let (bodies, fields) = one-break (taken ++ more) behind true coding b body other wrong has (break-more taken more ended b other stop broken) breaks in
    let fronts : front ≡ v = one_verdict form body front v (subst (λ (l : List ℕ). IsVerdict form l front) bodies also) is in
    ap (told_of body) (first ∙ ap (λ x. first_of x other) fronts ∙ ap (λ (f : BadField). first_of v f) fields)
told-broken form limit taken more ended TooLarge behind body coding wrong v stop has breaks is short (b, first, long) =
    let (y, further) = brought-by-break (taken ++ more) body b wrong (brings-more taken more b first) breaks in
    absurd (short (long-more form limit b body y further long))
told-broken form limit taken more ended ReadFault behind body coding wrong v stop has breaks is short says = tt
told-broken form limit taken more ended Memory behind body coding wrong v stop has breaks is short says = tt
