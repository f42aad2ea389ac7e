-- How much is taken of a reply, and how much of it behind what settles the reply or behind a `Data:` line.
use Rattle.std.proofs.Common.{◌≡◌, ℕ, ◌+◌, ◌<◌, ◌≤◌, ◌⊎◌, inl, inr, false, List, [], ◌++◌, length, refl, ap, ◌∙◌, sym, subst, arith, append_assoc, append-nil, length-append}
use Rattle.std.proofs.lemmas.Bool.{cases_lt}
use Rattle.dap_http.proofs.Parts.{start-goes}
use Rattle.httparse.specs.Grammar.{ResponseHead}
use Rattle.dap_http.proofs.Finals.{gives-more, one-gives}
use Rattle.dap_http.proofs.Framings.{fault-more, no-end-cut, no-fault-cut}
use Rattle.dap_http.proofs.ReplyReading.{first-of, reads-long}
use Rattle.dap_http.proofs.Seams.{split}
use Rattle.dap_http.specs.Codings.{Fails, Goes}
use Rattle.dap_http.specs.Delivered.{HasCoding, HasCome}
use Rattle.dap_http.specs.Following.{IsInTime}
use Rattle.dap_http.specs.Replies.{HasFinal}
use Rattle.dap_http.specs.declared.coding.Coding.{Coding}
use Rattle.dap_model.specs.Received.{HasHead}
use Rattle.dap_model.specs.Tokens.{tokens_of}
use Rattle.error_word.specs.Saying.{says_error}
use Rattle.dap_client.specs.Answered.{TakesFewValues}
use Rattle.dap_client.specs.Replies.{Brings, Settles, Spoils, StopsInTime}
use Rattle.dap_client.specs.Verdict.{Form, JudgesDods, bad, das_form, dds_form, dods_form}
use Rattle.dap_client.specs.inner.Behind.{StopsBehind, TakesFewValuesBehind}
use Rattle.dap_client.proofs.Behind.{further-come}
use Rattle.dap_client.proofs.GoodParts.{head_more}
use Rattle.dap_http.proofs.Further.{come-further}

-- ---- behind a head

-- what stands behind a front of some bytes is no more than their last piece, or the front ends before that
abbrev Fronts : List ℕ → List ℕ → List ℕ → List ℕ → Type 0
Fronts front more before last = (length more ≤ length last) ⊎ ((x : List ℕ) × (before ≡ front ++ x))

fronts : (bytes front more before last : List ℕ) → bytes ≡ before ++ last → bytes ≡ front ++ more → Fronts front more before last
fronts bytes front more before last parts e = go (cases_lt (length before) (length front)) where
  go : (length before < length front) ⊎ (length front ≤ length before) → Fronts front more before last
  go (inl less) = inl (omega (arith, less, ap length parts, ap length e, length-append before last, length-append front more))
  go (inr le) = let (x, is, tail) = split front more before last (sym e ∙ parts) le in inr (x, is)

-- what is bad whatever follows is so with all that came
bad-on : (form : Form) (b x : List ℕ) → Spoils form b → Spoils form (b ++ x)
bad-on dods_form b x (field, stays) =
    (field, λ more. subst (λ (l : List ℕ). ¬ (tokens_of l ≡ []) × (says_error l ≡ false) × JudgesDods l (bad field.kind field.place)) (sym (append_assoc b x more)) (stays (x ++ more)))
bad-on dds_form b x none = none
bad-on das_form b x none = none

-- what came with a front came with all
came-in : (c : Coding) (whole front x came b body later : List ℕ) → whole ≡ front ++ x → Goes c whole came → body ≡ came ++ later → HasCome c front b → (y : List ℕ) × (body ≡ b ++ y)
came-in c whole front x came b body later is goes parts come =
    let all : HasCome c (front ++ x) came = subst (λ (l : List ℕ). HasCome c l came) is (record { front = whole; rest = []; parts = sym (append-nil whole); comes = inl (goes, refl) }) in
    let (y, grown) = further-come c front x b came come all in
    (y ++ later, parts ∙ ap (λ l. l ++ later) grown ∙ append_assoc b y later)

settled : (form : Form) (c : Coding) (bytes body front more : List ℕ) → IsInTime c bytes body → ¬ (Spoils form body) → bytes ≡ front ++ more → Settles form c front → length more ≤ 65536
settled form c bytes body front more t good e settles = go (fronts bytes front more t.front t.more t.parts e) where
  before : (x : List ℕ) → t.front ≡ front ++ x → ((t.front ≡ []) × (t.came ≡ [])) ⊎ Goes c t.front t.came → Settles form c front → length more ≤ 65536
  before x is (inl (empty, none)) s = omega (arith, t.few, ap length t.parts, ap length e, ap length empty, length-append t.front t.more, length-append front more)
  before x is (inr goes) (inl (b, ends)) = absurd (no-end-cut c front x t.front b t.came ends goes is)
  before x is (inr goes) (inr (inl (b, place, fails))) =
      absurd (no-fault-cut c t.front b t.came place (subst (λ (l : List ℕ). Fails c l b place) (sym is) (fault-more c front x b place fails)) goes)
  before x is (inr goes) (inr (inr (b, come, spoils))) =
      let (y, grown) = came-in c t.front front x t.came b body t.later is goes t.body_parts come in
      absurd (good (subst (Spoils form) (sym grown) (bad-on form b y spoils)))

  go : Fronts front more t.front t.more → length more ≤ 65536
  go (inl few) = omega (arith, few, t.few)
  go (inr (x, is)) = before x is t.goes settles

pub stops-in-time : (form : Form) (c : Coding) (bytes body : List ℕ) → IsInTime c bytes body → ¬ (Spoils form body) → StopsBehind form c bytes
stops-in-time form c bytes body t good = record { settled = λ front more e s. settled form c bytes body front more t good e s; body = t.short }

few-behind-line : (c : Coding) (bytes body front more b : List ℕ) → IsInTime c bytes body → ¬ (HasHead body) → bytes ≡ front ++ more → HasCome c front b → HasHead b → length more ≤ 65536
few-behind-line c bytes body front more b t none e come line = go (fronts bytes front more t.front t.more t.parts e) where
  before : (x : List ℕ) → t.front ≡ front ++ x → ((t.front ≡ []) × (t.came ≡ [])) ⊎ Goes c t.front t.came → length more ≤ 65536
  before x is (inl (empty, nothing)) = omega (arith, t.few, ap length t.parts, ap length e, ap length empty, length-append t.front t.more, length-append front more)
  before x is (inr goes) = let (y, grown) = came-in c t.front front x t.came b body t.later is goes t.body_parts come in absurd (none (head_more body b y grown line))

  go : Fronts front more t.front t.more → length more ≤ 65536
  go (inl few) = omega (arith, few, t.few)
  go (inr (x, is)) = before x is t.goes

pub line-in-time : (c : Coding) (bytes body : List ℕ) → IsInTime c bytes body → ¬ (HasHead body) → TakesFewValuesBehind c bytes
line-in-time c bytes body t none front more b e come line = few-behind-line c bytes body front more b t none e come line

-- with more of the body, which had been taken before
pub part-in-time : (c : Coding) (bytes body part : List ℕ) → IsInTime c bytes body → IsInTime c bytes (body ++ part)
part-in-time c bytes body part t = record {
  front = t.front;
  more = t.more;
  came = t.came;
  later = t.later ++ part;
  parts = t.parts;
  body_parts = ap (λ l. l ++ part) t.body_parts ∙ append_assoc t.came t.later part;
  goes = t.goes;
  few = t.few;
  short = t.short;
}

-- by the coding at the start, with what is taken next
pub time-on : (c d : Coding) (bytes t u body : List ℕ) → d ≡ c → (IsInTime d (bytes ++ t) body → IsInTime d ((bytes ++ t) ++ u) body) → IsInTime c (bytes ++ t) body → IsInTime c (bytes ++ (t ++ u)) body
time-on c d bytes t u body same on now =
    subst (λ (l : List ℕ). IsInTime c l body) (append_assoc bytes t u)
    (subst (λ (e : Coding). IsInTime e ((bytes ++ t) ++ u) body) same (on (subst (λ (e : Coding). IsInTime e (bytes ++ t) body) (sym same) now)))

pub time-as : (c d : Coding) (bytes body : List ℕ) → c ≡ d → IsInTime c bytes body → IsInTime d bytes body
time-as c d bytes body same t = subst (λ (e : Coding). IsInTime e bytes body) same t

pub stops-as : (form other : Form) (c d : Coding) (bytes all : List ℕ) → form ≡ other → c ≡ d → bytes ≡ all → StopsBehind form c bytes → StopsBehind other d all
stops-as form other c d bytes all forms codings same stops =
    subst (λ (f : Form). StopsBehind f d all) forms (subst (λ (e : Coding). StopsBehind form e all) codings (subst (λ (t : List ℕ). StopsBehind form c t) same stops))

-- with the bytes that were taken with the heads
few-come : (c : Coding) (first body : List ℕ) → HasCome c first body → length body ≤ length first
few-come c first body come = let (y, e, few) = come-further c [] first [] body (start-goes c) come in omega (arith, few, ap length e)

pub stops-begun : (form : Form) (c : Coding) (bytes : List ℕ) → length bytes ≤ 65536 → StopsBehind form c bytes
stops-begun form c bytes room = record {
  settled = λ front more e s. omega (arith, room, ap length e, length-append front more);
  body = λ body come. omega (arith, room, few-come c bytes body come);
}

pub line-begun : (c : Coding) (bytes : List ℕ) → length bytes ≤ 65536 → TakesFewValuesBehind c bytes
line-begun c bytes room front more body e come line = omega (arith, room, ap length e, length-append front more)

-- ---- of a reply

-- what stands behind a front with its final head stands there behind that head
behind-front : (c d : Coding) (reply behind front more after : List ℕ) → HasCoding reply c behind → reply ≡ front ++ more → HasCoding front d after → (behind ≡ after ++ more) × (d ≡ c)
behind-front c d reply behind front more after has e found =
    let on : HasCoding reply d (after ++ more) = subst (λ (l : List ℕ). HasCoding l d (after ++ more)) (sym e) (gives-more front more after (inr d) found) in
    let (behinds, codings) = one-gives reply behind (after ++ more) (inr c) (inr d) has on in
    let same : d ≡ c = cc in
    (behinds, same)

few-brought : (form : Form) (c : Coding) (reply behind : List ℕ) → HasCoding reply c behind → StopsBehind form c behind → (body : List ℕ) → Brings reply body → length body ≤ 1099511627776
few-brought form c reply behind has stops body (inl (d, after, found, come)) =
    let (behinds, codings) = one-gives reply after behind (inr d) (inr c) found has in
    let same : d ≡ c = cc in
    stops.body body (subst (λ (e : Coding). HasCome e behind body) same (subst (λ (t : List ℕ). HasCome d t body) behinds come))
few-brought form c reply behind has stops body (inr (none, empty)) = omega (arith, empty)

pub stops-lifted : (form : Form) (c : Coding) (reply behind : List ℕ) → HasCoding reply c behind → StopsBehind form c behind → StopsInTime form reply
stops-lifted form c reply behind has stops = record {
  heads = λ none. absurd (none c behind has);
  settled = λ front more e s.
      let (behinds, same) = behind-front c s.coding reply behind front more s.behind has e s.has_coding in
      stops.settled s.behind more behinds (subst (λ (d : Coding). Settles form d s.behind) same s.settles);
  body = few-brought form c reply behind has stops;
}

final-long : (bytes rest : List ℕ) (head : ResponseHead) → HasFinal bytes head rest → length rest ≤ length bytes
final-long bytes rest head final = let (h, b, reads, less) = first-of bytes rest head final in omega (arith, less, reads-long bytes b h reads)

few-short : (reply : List ℕ) → length reply ≤ 65536 → (body : List ℕ) → Brings reply body → length body ≤ 1099511627776
few-short reply room body (inl (c, behind, (head, final, within, coding), come)) = omega (arith, room, final-long reply behind head final, few-come c behind body come)
few-short reply room body (inr (none, empty)) = omega (arith, empty)

pub stops-short : (form : Form) (reply : List ℕ) → length reply ≤ 65536 → StopsInTime form reply
stops-short form reply room = record {
  heads = λ none. omega (arith, room);
  settled = λ front more e s. omega (arith, room, ap length e, length-append front more);
  body = few-short reply room;
}

pub line-lifted : (form : Form) (c : Coding) (reply behind : List ℕ) → HasCoding reply c behind → (form ≡ dods_form → TakesFewValuesBehind c behind) → form ≡ dods_form → TakesFewValues reply
line-lifted form c reply behind has few is front more e line =
    let (behinds, same) = behind-front c line.coding reply behind front more line.behind has e line.has_coding in
    few is line.behind more line.body behinds (subst (λ (d : Coding). HasCome d line.behind line.body) same line.comes) line.has_line

pub line-short : (reply : List ℕ) → length reply ≤ 65536 → TakesFewValues reply
line-short reply room front more e line = omega (arith, room, ap length e, length-append front more)
