-- What is read of the reply.
use Rattle.std.proofs.Common.{◌≡◌, ℕ, ◌+◌, ◌-◌, ◌*◌, ◌/◌, ◌%◌, ◌^◌, ◌≤◌, Option, inl, Bool, true, List, [], ◌++◌, length, refl, sym, ap, subst, ◌∙◌, arith, Some, None, append-nil, length-append, lit≤}
use Rattle.std.specs.Io.KnownBytes.{Appends, Consumes}
use Rattle.std.specs.Prelude.{IsTrue, sum}
use Rattle.std.proofs.lemmas.List.Sums.{AllPass-from_list_all}
use Rattle.httparse.specs.Grammar.{is_value_byte}
use Rattle.dap_types.specs.Model.{Dataset, Tree}
use Rattle.dap_http.specs.Delivered.{Delivers}
use Rattle.dap_http.specs.Frames.{framed}
use Rattle.dap_http.specs.Texts.{description_of, head_text}
use Rattle.dap_http.specs.declared.coding.Coding.TheVariants.{Chunked}
use Rattle.dap_http.specs.declared.kind.Kind.TheVariants.{Dods}
use Rattle.dap_http.proofs.Carrying.{is-final}
use Rattle.dap_http.proofs.Deliveries.{delivery-more, one-delivery}
use Rattle.dap_http.proofs.FramedWhole.{framed-whole}
use Rattle.dap_client.specs.Outcomes.{outcome_of}
use Rattle.dap_client.specs.Verdict.{Verdict, IsVerdict, dods_form, good}
use Rattle.dap_client.specs.declared.outcome.Outcome.TheVariants.{Complete}
use Rattle.dap_client.proofs.Bodies.{body_good}
use Rattle.dap_client.proofs.OneVerdict.{one_verdict}
use Rattle.dap_client.specs.Answered.{Tells, text_shown}
use Rattle.soak.specs.Numbers.{left, numbers, shown_text, soak_body}
use Rattle.soak.specs.declared.numbers.Numbers.{Numbers}
use Rattle.soak.specs.Reply.{reply}
use Rattle.soak.proofs.Answering.{appended}
use Rattle.soak.proofs.Reading.{is_read}
use Rattle.soak.proofs.Serving.{elements_are}

abbrev head : List ℕ
head = head_text 200 (description_of Dods) None true true

head-short : length head ≤ 65536
unfolding head_text
head-short = lit≤ tt

-- the reply delivers the body
delivers : (start records : ℕ) → Delivers (reply start records) true (soak_body start records) []
delivers start records =
    let b = soak_body start records in
    let (h, final, coded) = is-final 200 (description_of Dods) None true true (framed true b) (inl refl) (AllPass-from_list_all is_value_byte (description_of Dods) refl) (λ n e. absurd cc) in
    record {
      coding = Chunked;
      behind = framed true b;
      has_coding = (h, final, omega (arith, length-append head (framed true b), head-short), coded);
      is_whole = inl (framed true b, framed-whole b, sym (append-nil (framed true b)));
    }

complete-is : (n : ℕ) (v : Verdict) (d : Dataset) (ts : List Tree) (k : ℕ) → outcome_of k v ≡ Complete n → v ≡ good d ts → n ≡ k
complete-is n v d ts k e is = cc (e, is)

-- what is told of a front of it
pub told : (start records n : ℕ) (taken more rest text : List ℕ) (ended : Bool) → 1 ≤ records → records ≤ 4096 → reply start records ≡ taken ++ more → (IsTrue ended → more ≡ [])
    → Tells dods_form taken ended rest text (Complete n) → (text ≡ shown_text start records) × (n ≡ length (soak_body start records))
told start records n taken more rest text ended some few parts none (body, v, whole, verdict, is, is_text) =
    let b = soak_body start records in
    let l = left start records in
    let stays : Delivers (reply start records) true body (rest ++ more) =
    subst (λ bytes. Delivers bytes true body (rest ++ more)) (sym parts) (delivery-more taken more ended body rest none whole) in
    let same : body ≡ b = (one-delivery (reply start records) true body b (rest ++ more) [] stays (delivers start records)).0 in
    let judged : IsVerdict dods_form b v = subst (λ bytes. IsVerdict dods_form bytes v) same verdict in
    let is_good : v ≡ good l.dataset l.trees = one_verdict dods_form b v (good l.dataset l.trees) judged (body_good b l.dataset l.trees (is_read start records some few)) in
    let count : n ≡ length b = complete-is n v l.dataset l.trees (length body) is is_good ∙ ap length same in
    (is_text ∙ ap (text_shown n) is_good ∙ ap (λ k. text_shown k (good l.dataset l.trees)) count, count)

numbers-are : (start records e b s t : ℕ) (text : List ℕ) → 1 ≤ records → records ≤ 4096 → e ≡ 352 * ((records - 1) / 2 + 1) + 32 * records → text ≡ shown_text start records
    → b ≡ length (soak_body start records) → s ≡ length text → t ≡ sum text % 2 ^ 32 → record { elements = e; bytes = b; shown = s; sum = t } ≡ numbers start records
numbers-are start records e b s t text some few is_e is_text is_b is_s is_t =
    four e (numbers start records).elements b (numbers start records).bytes s (numbers start records).shown t (numbers start records).sum
    (is_e ∙ sym (elements_are start records some few)) is_b (is_s ∙ ap length is_text) (is_t ∙ ap (λ xs. sum xs % 2 ^ 32) is_text)
  where
    four : (a b c d e f g h : ℕ) → a ≡ b → c ≡ d → e ≡ f → g ≡ h → Path Numbers (record { elements = a; bytes = c; shown = e; sum = g }) (record { elements = b; bytes = d; shown = f; sum = h })
    four a b c d e f g h p q r s = rw p (rw q (rw r (rw s refl)))

-- what is read of the reply has these numbers
pub read-is : (start records n e s t : ℕ) (given taken more rest text out : List ℕ) (came old new : Option (List ℕ)) (ended : Bool) → 1 ≤ records → records ≤ 4096
    → given ≡ reply start records → came ≡ Some given → Consumes came (Some more) taken → (IsTrue ended → more ≡ []) → old ≡ Some [] → new ≡ Some out → Appends old new text
    → Tells dods_form taken ended rest text (Complete n) → e ≡ 352 * ((records - 1) / 2 + 1) + 32 * records → s ≡ length out → t ≡ sum out % 2 ^ 32
    → record { elements = e; bytes = n; shown = s; sum = t } ≡ numbers start records
read-is start records n e s t given taken more rest text out came old new ended some few is_given is_came consumes none is_old is_new appends tells is_e is_s is_t =
    let parts : given ≡ taken ++ more = subst (λ o. Consumes o (Some more) taken) is_came consumes in
    let put : text ≡ out = appended new text out (subst (λ o. Appends o new text) is_old appends) is_new in
    let (shows, count) = told start records n taken more rest text ended some few (sym is_given ∙ parts) none tells in
    numbers-are start records e n s t out some few is_e (sym put ∙ shows) count is_s is_t
