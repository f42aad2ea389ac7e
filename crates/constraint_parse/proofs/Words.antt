-- Words as values, and what a clause does with its values.
use Rattle.std.proofs.Common.{◌≡◌, List, ◌∷◌, ℕ, ◌+◌, ◌<◌, length, map, drop, get_or, refl, sym, ap, subst, ◌∙◌, Some, None, true, not, IsTrue, ◌⊎◌, inl, inr, drop-cons, add-one}
use Rattle.std.proofs.lemmas.Bool.{eqb-true}
use Rattle.plain_lemmas.proofs.Options.{same_value}
use Rattle.constraint_parse.specs.Language.{is_word_byte, Operator, Token, word, quoted, comma, ampersand, open_brace, close_brace, ItemsTree, ClauseTree, ValueTree, text, bare, compare, value_token, equal, not_equal, less, less_equal, greater, greater_equal, matches}
use Rattle.viable.specs.Runs.{IsRunTo}
use Rattle.dap_types.specs.Names.{constraint_id}
use Rattle.constraint_parse.specs.declared.constraint.Constant.{Constant}
use Rattle.constraint_parse.specs.Values.{comparison_value, compared_value, operator_value}
use Rattle.constraint_parse.specs.inner.Machine.{State, Compared, Bracing, Braced, Clausal, step, finish, with_last}
use Rattle.constraint_parse.specs.inner.Standing.{StandsAt, IsFaultAt, IsPlace, Lacks, StandsBehind, ReadsValue, ReadsValueOnly}
use Rattle.constraint_parse.proofs.Bytes.{word_not_blank, Opens}
use Rattle.constraint_parse.proofs.Places.{run_passes, Shuts}
use Rattle.constraint_parse.proofs.Moves.{shut_by, state_faults}
use Rattle.viable.proofs.Runs.{run_valid}

clausal_shuts : (items : ItemsTree) (clauses : List ClauseTree) → Shuts (Clausal items clauses) is_word_byte
clausal_shuts items clauses ampersand o b e h y = shut_by is_word_byte 38 b refl h y
clausal_shuts items clauses _ o b e h y = cc

braced_shuts : (items : ItemsTree) (clauses : List ClauseTree) (labels : List (List ℕ)) (n : List ℕ) (o : Operator) (values : List ValueTree) (value : ValueTree) → Shuts (Braced items clauses labels n o values value) is_word_byte
braced_shuts items clauses labels n o values value comma next b e h y = shut_by is_word_byte 44 b refl h y
braced_shuts items clauses labels n o values value close_brace next b e h y = shut_by is_word_byte 125 b refl h y
braced_shuts items clauses labels n o values value _ next b e h y = cc

pub word_only : (s : State) → ReadsValue s → (m : Token) (next : State) (b : ℕ) → step s m ≡ Some next → Opens m b → IsTrue (is_word_byte b) → (x : List ℕ) × (m ≡ word x) × Shuts next is_word_byte
word_only (Compared items clauses labels n o) k (word x) next b e h y = (x, refl, subst (λ (z : State). Shuts z is_word_byte) (same_value _ next e) (clausal_shuts items _))
word_only (Compared items clauses labels n o) k (quoted p) next b e h y = absurd (shut_by is_word_byte 34 b refl h y)
word_only (Compared items clauses labels n o) k open_brace next b e h y = absurd (shut_by is_word_byte 123 b refl h y)
word_only (Compared items clauses labels n o) k _ next b e h y = cc
word_only (Bracing items clauses labels n o values) k (word x) next b e h y = (x, refl, subst (λ (z : State). Shuts z is_word_byte) (same_value _ next e) (braced_shuts items clauses labels n o values (bare x)))
word_only (Bracing items clauses labels n o values) k (quoted p) next b e h y = absurd (shut_by is_word_byte 34 b refl h y)
word_only (Bracing items clauses labels n o values) k _ next b e h y = cc
word_only _ k m next b e h y = absurd k

pub word_passes : {bytes : List ℕ} {at : ℕ} {s : State} (st : StandsAt bytes at s) → ReadsValue s → (to : ℕ) (run : List ℕ) → IsRunTo is_word_byte bytes at to run → at < to → StandsBehind bytes to s (word run)
word_passes {bytes} {at} {s} st k to run r lt next e =
    run_passes st word is_word_byte to run next r lt (λ x. refl) (run_valid is_word_byte) (λ h. h) e word_not_blank (word_only s k)

value_unfinished : (s : State) → ReadsValue s → finish s ≡ None
value_unfinished (Compared items clauses labels n o) k = refl
value_unfinished (Bracing items clauses labels n o values) k = refl
value_unfinished _ k = absurd k

pub value_faults : {bytes : List ℕ} {at : ℕ} {s : State} (st : StandsAt bytes at s) → ReadsValue s → (ReadsValueOnly s ⊎ Lacks bytes at 123) → IsPlace bytes at → (run : List ℕ) → IsRunTo is_word_byte bytes at at run → Lacks bytes at 34 → IsFaultAt bytes at
value_faults {bytes} {at} {s} st k brace place run r lacks = state_faults st place (value_unfinished s k) (only s k brace)
  where
    stops : at < length bytes → IsTrue (is_word_byte (get_or bytes at 0)) → ⊥
    stops h y =
        let d : drop at bytes ≡ get_or bytes at 0 ∷ drop (at + 1) bytes = rw add-one (drop-cons bytes at 0 h) in
        let n : not (is_word_byte (get_or bytes at 0)) ≡ true = rw d at r.longest in
        let q : not true ≡ true = ap not (sym y) ∙ n in cc

    only : (s : State) → ReadsValue s → (ReadsValueOnly s ⊎ Lacks bytes at 123) → (m : Token) (next : State) → step s m ≡ Some next → at < length bytes → Opens m (get_or bytes at 0) → ⊥
    only (Compared items clauses labels n o) k brace (word x) next e h y = stops h y
    only (Compared items clauses labels n o) k brace (quoted p) next e h y = lacks h (eqb-true _ 34 y)
    only (Compared items clauses labels n o) k (inl z) open_brace next e h y = z
    only (Compared items clauses labels n o) k (inr z) open_brace next e h y = z h (eqb-true _ 123 y)
    only (Compared items clauses labels n o) k brace _ next e h y = cc
    only (Bracing items clauses labels n o values) k brace (word x) next e h y = stops h y
    only (Bracing items clauses labels n o values) k brace (quoted p) next e h y = lacks h (eqb-true _ 34 y)
    only (Bracing items clauses labels n o values) k brace _ next e h y = cc
    only _ k brace m next e h y = absurd k

pub compared_behind : (bytes : List ℕ) (to : ℕ) (items : ItemsTree) (clauses : List ClauseTree) (labels : List (List ℕ)) (n : List ℕ) (o : Operator) (v : ValueTree)
    → StandsBehind bytes to (Compared items clauses labels n o) (value_token v) → StandsAt bytes to (Clausal items (with_last clauses (compare labels n o v)))
compared_behind bytes to items clauses labels n o (text p) behind = behind _ refl
compared_behind bytes to items clauses labels n o (bare w) behind = behind _ refl

pub bracing_behind : (bytes : List ℕ) (to : ℕ) (items : ItemsTree) (clauses : List ClauseTree) (labels : List (List ℕ)) (n : List ℕ) (o : Operator) (values : List ValueTree) (v : ValueTree)
    → StandsBehind bytes to (Bracing items clauses labels n o values) (value_token v) → StandsAt bytes to (Braced items clauses labels n o values v)
bracing_behind bytes to items clauses labels n o values (text p) behind = behind _ refl
bracing_behind bytes to items clauses labels n o values (bare w) behind = behind _ refl

pub braced_faults : {bytes : List ℕ} {at : ℕ} {items : ItemsTree} {clauses : List ClauseTree} {labels : List (List ℕ)} {n : List ℕ} {o : Operator} {values : List ValueTree} {v : ValueTree}
    → StandsAt bytes at (Braced items clauses labels n o values v) → IsPlace bytes at → Lacks bytes at 44 → Lacks bytes at 125 → IsFaultAt bytes at
braced_faults {bytes} {at} {items} {clauses} {labels} {n} {o} {values} {v} st place x y = state_faults st place refl only
  where
    only : (m : Token) (next : State) → step (Braced items clauses labels n o values v) m ≡ Some next → at < length bytes → Opens m (get_or bytes at 0) → ⊥
    only comma next e h k = x h (eqb-true _ 44 k)
    only close_brace next e h k = y h (eqb-true _ 125 k)
    only _ next e h k = cc

pub comparison_is : (labels : List (List ℕ)) (o : Operator) (values : List Constant) → comparison_value (map constraint_id labels) (operator_value o) values ≡ compared_value labels o values
comparison_is labels equal values = refl
comparison_is labels not_equal values = refl
comparison_is labels less values = refl
comparison_is labels less_equal values = refl
comparison_is labels greater values = refl
comparison_is labels greater_equal values = refl
comparison_is labels matches values = refl
