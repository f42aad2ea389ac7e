-- From what the steps found to what a stored file is answered with.
use Rattle.std.proofs.Common.{◌≡◌, ℕ, ◌<◌, ◌≤◌, List, length, Some, None, option_map, Result, Ok, Err, true, false, refl, sym, ap, ◌∙◌, inl, inr, subst, arith, if◌then◌else◌}
use Rattle.std.specs.Prelude.{nat_lt}
use Rattle.std.proofs.lemmas.Bool.Decides.{nat_tests}
use Rattle.dap_types.specs.Model.{Dataset, Tree}
use Rattle.dap_model.specs.Body.{body, too_large}
use Rattle.dap_model.specs.Dds.{dds}
use Rattle.dap_model.specs.Filter.{Marks, constrained, constrained_trees}
use Rattle.dap_model.specs.Rows.{kept}
use Rattle.dap_errors.specs.declared.cause.Cause.{Cause}
use Rattle.dap_errors.specs.declared.cause.Cause.TheVariants.{TooLarge}
use Rattle.constraint_parse.specs.Values.{Spells}
use Rattle.constraint_parse.specs.declared.constraint.Constraint.{Constraint}
use Rattle.grid_projection.specs.Marks.{marks}
use Rattle.grid_projection.specs.Resolved.{cause}
use Rattle.sequence_select.specs.Selections.{selections}
use Rattle.dap_http.specs.declared.kind.Kind.TheVariants.{Dds, Dods}
use Rattle.dap_server.specs.Files.{Stored}
use Rattle.dap_server.specs.Results.{DdsAnswers, DodsAnswers, Leaves, Left, Text, left_of, result_text}
use Rattle.dap_server.specs.Steps.{unless}
use Rattle.dap_server.specs.inner.Marking.{IsRefusedOn}
use Rattle.dap_server.specs.inner.Opening.{WhereRefused, dataset_in, stored_of}
use Rattle.dap_server.specs.declared.open.Opened.{Opened}
use Rattle.dap_server.specs.declared.no_answer.Stop.{Stop}
use Rattle.dap_server.specs.declared.no_answer.Stop.TheVariants.{Refused, ShelfFault, Memory}

-- what a constraint without a cause leaves
leaves_marked : (s : Stored) (query : List ℕ) (d : Dataset) (c : Constraint) → d ≡ s.dataset → Spells query c → cause d c ≡ None → Leaves s query (Ok (left_of s c))
leaves_marked s query d c is_d spells accepted =
    inl (c, spells, sym (ap (λ o. unless o (left_of s c)) (ap (λ e. cause e c) (sym is_d) ∙ accepted)))

leaves_refused : (s : Stored) (query : List ℕ) (d : Dataset) (why : Cause) → d ≡ s.dataset → IsRefusedOn d query why → Leaves s query (Err why)
leaves_refused s query d why is_d (inl reads) = inr (why, reads, refl)
leaves_refused s query d why is_d (inr (c, spells, is)) =
    inl (c, spells, sym (ap (λ o. unless o (left_of s c)) (ap (λ e. cause e c) (sym is_d) ∙ is)))

abbrev dds_or_long : List ℕ → Result Text Cause
dds_or_long text = if nat_lt 16777216 (length text) then Err (TooLarge 0) else Ok (result_text Dds text)

is_short : (text : List ℕ) → length text ≤ 16777216 → Ok (result_text Dds text) ≡ dds_or_long text
is_short text short =
    let test : nat_lt 16777216 (length text) ≡ false = grind (arith, nat_tests) in
    rw test refl

is_long : (text : List ℕ) → 16777216 < length text → Err (TooLarge 0) ≡ dds_or_long text
is_long text long =
    let test : nat_lt 16777216 (length text) ≡ true = grind (arith, nat_tests) in
    rw test refl

-- the DDS of what marks leave is that of what the constraint leaves
same_dds : (s : Stored) (d : Dataset) (c : Constraint) (m : Marks) → d ≡ s.dataset → m ≡ marks d c → dds (constrained m d) ≡ dds (left_of s c).dataset
same_dds s d c m is_d is_m = ap (λ n. dds (constrained n d)) is_m ∙ ap (λ e. dds (constrained (marks e c) e)) is_d

pub dds_short : (s : Stored) (query : List ℕ) (d : Dataset) (c : Constraint) (m : Marks) (text : List ℕ) → d ≡ s.dataset → Spells query c → cause d c ≡ None → m ≡ marks d c
    → text ≡ dds (constrained m d) → length text ≤ 16777216 → DdsAnswers s query (Ok (result_text Dds text))
dds_short s query d c m text is_d spells accepted is_m is_text short =
    inl (
      left_of s c,
      leaves_marked s query d c is_d spells accepted,
      subst (λ t. Ok (result_text Dds text) ≡ dds_or_long t) (is_text ∙ same_dds s d c m is_d is_m) (is_short text short),
    )

pub dds_long : (s : Stored) (query : List ℕ) (d : Dataset) (c : Constraint) (m : Marks) (text : List ℕ) → d ≡ s.dataset → Spells query c → cause d c ≡ None → m ≡ marks d c
    → text ≡ dds (constrained m d) → 16777216 < length text → DdsAnswers s query (Err (TooLarge 0))
dds_long s query d c m text is_d spells accepted is_m is_text long =
    inl (
      left_of s c,
      leaves_marked s query d c is_d spells accepted,
      subst (λ t. Err (TooLarge 0) ≡ dds_or_long t) (is_text ∙ same_dds s d c m is_d is_m) (is_long text long),
    )

pub dds_refused : (s : Stored) (query : List ℕ) (d : Dataset) (why : Cause) → d ≡ s.dataset → IsRefusedOn d query why → DdsAnswers s query (Err why)
dds_refused s query d why is_d is = inr (why, leaves_refused s query d why is_d is, refl)

pub dods_refused : (s : Stored) (query : List ℕ) (d : Dataset) (why : Cause) → d ≡ s.dataset → IsRefusedOn d query why → DodsAnswers s query (Err why)
dods_refused s query d why is_d is = inr (why, leaves_refused s query d why is_d is, refl)

-- what is too large, or not, with marks is it with the constraint
same_size : (s : Stored) (d : Dataset) (c : Constraint) (m : Marks) → d ≡ s.dataset → m ≡ marks d c → too_large (constrained m d) ≡ too_large (left_of s c).dataset
same_size s d c m is_d is_m = ap (λ n. too_large (constrained n d)) is_m ∙ ap (λ e. too_large (constrained (marks e c) e)) is_d

pub dods_large : (s : Stored) (query : List ℕ) (d : Dataset) (c : Constraint) (m : Marks) (leaf : ℕ) → d ≡ s.dataset → Spells query c → cause d c ≡ None → m ≡ marks d c
    → too_large (constrained m d) ≡ Some leaf → DodsAnswers s query (Err (TooLarge leaf))
dods_large s query d c m leaf is_d spells accepted is_m large =
    let left : Left = left_of s c in
    inl (
      left,
      leaves_marked s query d c is_d spells accepted,
      sym (ap (λ o. unless (option_map (λ n. TooLarge n) o) (result_text Dods (body left.dataset left.trees))) (sym (same_size s d c m is_d is_m) ∙ large)),
    )

pub dods_small : (s : Stored) (query : List ℕ) (d : Dataset) (c : Constraint) (m : Marks) (text : List ℕ) → d ≡ s.dataset → Spells query c → cause d c ≡ None → m ≡ marks d c
    → too_large (constrained m d) ≡ None → text ≡ body (constrained m d) (constrained_trees m (kept (selections d c)) d s.trees) → DodsAnswers s query (Ok (result_text Dods text))
dods_small s query d c m text is_d spells accepted is_m small is_text =
    let left : Left = left_of s c in
    let whole : text ≡ body left.dataset left.trees =
    is_text ∙ ap (λ n. body (constrained n d) (constrained_trees n (kept (selections d c)) d s.trees)) is_m
    ∙ ap (λ e. body (constrained (marks e c) e) (constrained_trees (marks e c) (kept (selections e c)) e s.trees)) is_d in
    inl (
      left,
      leaves_marked s query d c is_d spells accepted,
      ap (λ t. Ok (result_text Dods t)) whole
          ∙ sym (ap (λ o. unless (option_map (λ n. TooLarge n) o) (result_text Dods (body left.dataset left.trees))) (sym (same_size s d c m is_d is_m) ∙ small)),
    )

-- by the stop
pub dds_refuses : (o : Opened) (name query : List ℕ) (d : Dataset) (stop : Stop) → d ≡ dataset_in o name → WhereRefused (IsRefusedOn d query) stop
    → WhereRefused (λ why. (ts : List Tree) → DdsAnswers (stored_of o name ts) query (Err why)) stop
dds_refuses o name query d (Refused why) is_d is = λ ts. dds_refused (stored_of o name ts) query d why is_d is
dds_refuses o name query d ShelfFault is_d is = tt
dds_refuses o name query d Memory is_d is = tt
