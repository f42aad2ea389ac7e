-- A run of `show` shows a data response from exactly its bytes, and nothing else is complete.
use Rattle.std.proofs.Common.{◌≡◌, ℕ, ◌^◌, inl, inr, List, [], ◌++◌, length, Option, Some, None, IsTrue, refl, sym, ap, ◌∙◌, subst, append-nil}
use Rattle.std.specs.Io.KnownBytes.{Appends, Consumes, IsAtEnd}
use Rattle.dap_types.specs.Model.{Dataset, Tree}
use Rattle.dap_model.specs.Shown.{shown}
use Rattle.dap_client.proofs.Bodies.{body_good, good_is_body}
use Rattle.dap_client.proofs.OneVerdict.{one_verdict}
use Rattle.dap_client.specs.Shows.{IsWrongTaken}
use Rattle.dap_client.specs.Verdict.{IsVerdict, bad, dods_form, good}
use Rattle.reply_faults.specs.declared.bad.Bad.{Bad}
use Rattle.reply_faults.specs.declared.bad.Bad.TheVariants.{TooLong}
use Rattle.reply_faults.specs.declared.bad.BadField.{BadField}
use Rattle.dap_commands.specs.ClientHalf.{IsResponse, IsShown, IsShownTooLong, Response, Showing, Shows, text_of}
use Rattle.dap_commands.specs.Lines.{bad_reply_line}
use Rattle.dap_commands.specs.ServerHalf.{SaysLine}
use Rattle.dap_commands.specs.Show.{ShowSays}
use Rattle.dap_commands.specs.declared.status.Status.{Status}
use Rattle.dap_commands.specs.declared.status.Status.TheVariants.{BadReply, Complete}

-- what was taken of bytes, of which nothing is left, is all of them
all-taken : (left now : Option (List ℕ)) (bytes taken : List ℕ) → left ≡ Some bytes → Consumes left now taken → IsAtEnd now → (taken ≡ bytes) × (now ≡ Some [])
all-taken None now bytes taken is took end = cc is
all-taken (Some xs) None bytes taken is took end = absurd took
all-taken (Some xs) (Some ys) bytes taken is took end =
    let same : xs ≡ bytes = cc in
    (sym (append-nil taken) ∙ ap (λ (l : List ℕ). taken ++ l) (sym end) ∙ sym took ∙ same, ap (λ (l : List ℕ). Some l) end)

pub same-dataset : (d e : Dataset) (ts us : List Tree) → good d ts ≡ good e us → (d ≡ e) × (ts ≡ us)
same-dataset d e ts us is = (cc, cc)

-- one dataset and one list of values at most
pub one-response : (bytes : List ℕ) (d e : Dataset) (ts us : List Tree) → IsVerdict dods_form bytes (good d ts) → IsVerdict dods_form bytes (good e us) → (d ≡ e) × (ts ≡ us)
one-response bytes d e ts us a b = same-dataset d e ts us (one_verdict dods_form bytes (good d ts) (good e us) a b)

-- what a complete run has taken and put
record Whole (s : Showing) (bytes : List ℕ) : Type 0 where
  dataset : Dataset
  trees : List Tree
  verdict : IsVerdict dods_form bytes (good dataset trees)
  put : Appends s.puts.out s.puts.out_then (shown dataset trees (length bytes))
  nothing_left : s.left_then ≡ Some []

whole : (s : Showing) (bytes : List ℕ) → s.left ≡ Some bytes → ShowSays s.left s.left_then (IsTrue s.is_ended_then) (IsAtEnd s.left_then) s.puts.out s.puts.out_then (SaysLine s.puts) Complete → Whole s bytes
whole s bytes is (ended, end, (taken, took, (d, ts, verdict, put))) =
    let (same, nothing) = all-taken s.left s.left_then bytes taken is took end in
    record {
      dataset = d;
      trees = ts;
      verdict = subst (λ (b : List ℕ). IsVerdict dods_form b (good d ts)) same verdict;
      put = subst (λ (b : List ℕ). Appends s.puts.out s.puts.out_then (shown d ts (length b))) same put;
      nothing_left = nothing;
    }

whole-for : (s : Showing) (status : Status) (bytes : List ℕ) → Shows s status → s.left ≡ Some bytes → status ≡ Complete → Whole s bytes
whole-for s status bytes runs is complete =
    whole s bytes is (subst (λ (x : Status). ShowSays s.left s.left_then (IsTrue s.is_ended_then) (IsAtEnd s.left_then) s.puts.out s.puts.out_then (SaysLine s.puts) x) complete runs.says)

pub shown-whole : (s : Showing) (status : Status) (r : Response) → Shows s status → s.left ≡ Some r.bytes → IsResponse r → IsShown s status (text_of r)
shown-whole s status r runs is response =
    let v = body_good r.bytes r.dataset r.trees response in
    record {
      complete = λ takes puts memory. runs.comes r.bytes (good r.dataset r.trees) is v takes puts memory;
      put = λ complete.
          let w = whole-for s status r.bytes runs is complete in
          let (datasets, values) = one-response r.bytes w.dataset r.dataset w.trees r.trees w.verdict v in (
            subst (λ (x : List Tree). Appends s.puts.out s.puts.out_then (shown r.dataset x (length r.bytes))) values
                (subst (λ (x : Dataset). Appends s.puts.out s.puts.out_then (shown x w.trees (length r.bytes))) datasets w.put),
            w.nothing_left,
          );
    }

pub shown-alone : (s : Showing) (bytes : List ℕ) → Shows s Complete → s.left ≡ Some bytes → (r : Response) × (r.bytes ≡ bytes) × IsResponse r
shown-alone s bytes runs is =
    let w = whole-for s Complete bytes runs is refl in
    (record { bytes = bytes; dataset = w.dataset; trees = w.trees }, refl, good_is_body bytes w.dataset w.trees w.verdict)

-- ---- too long

-- what was taken of bytes stands before what is left
front-taken : (left now : Option (List ℕ)) (bytes taken : List ℕ) → left ≡ Some bytes → Consumes left now taken → (rest : List ℕ) × (taken ++ rest ≡ bytes)
front-taken None now bytes taken is took = cc is
front-taken (Some xs) None bytes taken is took = absurd took
front-taken (Some xs) (Some ys) bytes taken is took = let same : xs ≡ bytes = cc in (ys, sym took ∙ same)

-- what is wrong with the bytes that were taken is wrong with all
wrong-whole : (Ended : Type 0) (left now : Option (List ℕ)) (bytes taken : List ℕ) (field : BadField) → left ≡ Some bytes → Consumes left now taken → IsWrongTaken Ended (IsAtEnd now) field taken
    → IsVerdict dods_form bytes (bad field.kind field.place)
wrong-whole Ended left now bytes taken field is took (inl (ended, end, verdict)) =
    subst (λ (b : List ℕ). IsVerdict dods_form b (bad field.kind field.place)) (all-taken left now bytes taken is took end).0 verdict
wrong-whole Ended left now bytes taken field is took (inr stays) =
    let (rest, whole) = front-taken left now bytes taken is took in
    subst (λ (b : List ℕ). IsVerdict dods_form b (bad field.kind field.place)) whole (stays rest)

same-field : (field : BadField) (kind : Bad) (place : ℕ) → bad field.kind field.place ≡ bad kind place → field ≡ record { kind = kind; place = place }
same-field field kind place same =
    let kinds : field.kind ≡ kind = cc in
    let places : field.place ≡ place = cc in
    λ i. record { kind = kinds i; place = places i }

good-other : (d : Dataset) (ts : List Tree) (kind : Bad) (place : ℕ) → good d ts ≡ bad kind place → ⊥
good-other d ts kind place is = cc

-- the line says that field
said-field : (s : Showing) (bytes : List ℕ) (kind : Bad) (place : ℕ) → s.left ≡ Some bytes → IsVerdict dods_form bytes (bad kind place)
    → ShowSays s.left s.left_then (IsTrue s.is_ended_then) (IsAtEnd s.left_then) s.puts.out s.puts.out_then (SaysLine s.puts) BadReply → SaysLine s.puts (bad_reply_line (record { kind = kind; place = place }))
said-field s bytes kind place is v (taken, took, (field, wrong, gains, said)) =
    let same = one_verdict dods_form bytes (bad field.kind field.place) (bad kind place) (wrong-whole (IsTrue s.is_ended_then) s.left s.left_then bytes taken field is took wrong) v in
    subst (λ (f : BadField). SaysLine s.puts (bad_reply_line f)) (same-field field kind place same) said

pub shown-too-long : (s : Showing) (status : Status) (bytes : List ℕ) → Shows s status → s.left ≡ Some bytes → IsVerdict dods_form bytes (bad TooLong (2 ^ 40)) → IsShownTooLong s status
shown-too-long s status bytes runs is v = record {
  refused = λ takes puts memory. runs.comes bytes (bad TooLong (2 ^ 40)) is v takes puts memory;
  says = λ refused.
      said-field s bytes TooLong (2 ^ 40) is v
      (subst (λ (x : Status). ShowSays s.left s.left_then (IsTrue s.is_ended_then) (IsAtEnd s.left_then) s.puts.out s.puts.out_then (SaysLine s.puts) x) refused runs.says);
  never = λ complete.
      let w = whole-for s status bytes runs is complete in
      good-other w.dataset w.trees TooLong (2 ^ 40) (one_verdict dods_form bytes (good w.dataset w.trees) (bad TooLong (2 ^ 40)) w.verdict v);
}
