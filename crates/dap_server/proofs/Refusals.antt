-- No target is refused for a failed read, and no query for a line of a list.
use Rattle.std.proofs.Common.{◌≡◌, ℕ, ◌+◌, Bool, true, false, List, [], ◌∷◌, ◌++◌, length, Option, Some, None, option_map, Result, Ok, Err, if◌then◌else◌, nat_lt, refl, sym, subst, inl, inr}
use Rattle.std.specs.Option.{option_or}
use Rattle.dap_types.specs.Model.{Dataset}
use Rattle.dap_types.specs.declared.declarations.Column.{Column}
use Rattle.dap_model.specs.Filter.{Marks}
use Rattle.dap_errors.specs.declared.cause.Cause.{Cause}
use Rattle.dap_errors.specs.declared.cause.Cause.TheVariants.{TooLarge, NoFile}
use Rattle.dap_errors.specs.declared.spot.Spot.{Spot}
use Rattle.constraint_parse.specs.declared.constraint.Constraint.{Constraint}
use Rattle.constraint_parse.specs.declared.constraint.Constant.{Constant}
use Rattle.constraint_parse.specs.declared.constraint.Clause.{Clause}
use Rattle.constraint_parse.specs.declared.constraint.Item.{Item}
use Rattle.constraint_parse.specs.declared.constraint.Step.{Step}
use Rattle.grid_projection.specs.Clauses.{clause_cause, clause_tests, clauses_cause, compared_tests, scalar_of, scalar_tests}
use Rattle.grid_projection.specs.First.{Test, first_there}
use Rattle.grid_projection.specs.Items.{found_tests, item_cause, item_tests, items_cause}
use Rattle.grid_projection.specs.Marks.{marked_by}
use Rattle.grid_projection.specs.Members.{Found}
use Rattle.grid_projection.specs.Resolved.{cause}
use Rattle.dap_model.specs.Body.{body, too_large}
use Rattle.dap_model.specs.Dds.{dds}
use Rattle.dap_http.specs.Targets.{Asked}
use Rattle.dap_http.specs.declared.kind.Kind.TheVariants.{Dds, Das, Dods, Ver}
use Rattle.dap_server.specs.Connections.{has_failed}
use Rattle.dap_server.specs.Costs.{IsBehindLines}
use Rattle.dap_server.specs.Files.{Files, Form, Stored, IsStored, joined, netcdf, saved, table}
use Rattle.dap_server.specs.Joins.{AreJoined, IsJoined, IsMember, Lists, Member, Members}
use Rattle.dap_outside.specs.Files.{Told}
use Rattle.dap_server.specs.Results.{AnswersAmong, DdsAnswers, DodsAnswers, File, Leaves, Left, OpensAmong, Reads, Text, das_text, dds_text, dods_text, file_named, left_of, result_text}
use Rattle.dap_server.specs.Steps.{Is, Then, found_or, unless}

-- the cause is not that of a failed read
abbrev pub IsCalm : Cause → Type 0
IsCalm why = has_failed (Err why) ≡ 0

-- nor that of a list or a line of one
abbrev pub NoLine : Cause → Type 0
NoLine why = (count : ℕ) → IsBehindLines why count → ⊥

abbrev IsOfQuery : Cause → Type 0
IsOfQuery why = IsCalm why × NoLine why

-- ---- constraints

some-inj : (a b : Cause) → Some a ≡ Some b → a ≡ b
some-inj a b is = cc is

none-there : (k : Cause) → None ≡ Some k → IsOfQuery k
none-there k is = cc is

abbrev AreOfQuery : List Test → Type 0
AreOfQuery [] = Unit {0}
AreOfQuery (t ∷ ts) = ((spot : Spot) → IsOfQuery (t.cause spot)) × AreOfQuery ts

one-query : (there : Bool) (why : Cause) (rest : Option Cause) (k : Cause) → IsOfQuery why → (rest ≡ Some k → IsOfQuery k) → (if there then Some why else rest) ≡ Some k → IsOfQuery k
one-query true why rest k calm more is = subst IsOfQuery (some-inj why k is) calm
one-query false why rest k calm more is = more is

first-query : (ts : List Test) (spot : Spot) (k : Cause) → AreOfQuery ts → first_there ts spot ≡ Some k → IsOfQuery k
first-query [] spot k calm is = none-there k is
first-query (t ∷ ts) spot k (calm, more) is = one-query t.is_there (t.cause spot) (first_there ts spot) k (calm spot) (first-query ts spot k more) is

found-query : (before : Marks) (found : Option Found) (steps : List Step) → AreOfQuery (found_tests before found steps)
found-query before None steps = ((λ s. (refl, λ n b. b)), tt)
found-query before (Some w) steps = ((λ s. (refl, λ n b. b)), ((λ s. (refl, λ n b. b)), ((λ s. (refl, λ n b. b)), ((λ s. (refl, λ n b. b)), ((λ s. (refl, λ n b. b)), ((λ s. (refl, λ n b. b)), tt))))))

item-query : (d : Dataset) (before : Marks) (n : ℕ) (item : Item) (k : Cause) → item_cause d before n item ≡ Some k → IsOfQuery k
item-query d before n item k is = first-query (item_tests d before n item) _ k ((λ s. (refl, λ n b. b)), ((λ s. (refl, λ n b. b)), found-query before _ _)) is

either : (a b : Option Cause) (k : Cause) → (a ≡ Some k → IsOfQuery k) → (b ≡ Some k → IsOfQuery k) → option_or a b ≡ Some k → IsOfQuery k
either None b k first second is = second is
either (Some c) b k first second is = first is

items-query : (d : Dataset) (earlier items : List Item) (k : Cause) → items_cause d earlier items ≡ Some k → IsOfQuery k
items-query d earlier [] k is = none-there k is
items-query d earlier (item ∷ items) k is =
    either (item_cause d (marked_by d earlier) (length earlier + 1) item) (items_cause d (earlier ++ item ∷ []) items) k
    (item-query d (marked_by d earlier) (length earlier + 1) item k) (items-query d (earlier ++ item ∷ []) items k) is

scalar-query : (inside : Bool) (column : Option Column) (values : List Constant) → AreOfQuery (scalar_tests inside column values)
scalar-query inside None values = ((λ s. (refl, λ n b. b)), tt)
scalar-query inside (Some c) values = ((λ s. (refl, λ n b. b)), ((λ s. (refl, λ n b. b)), ((λ s. (refl, λ n b. b)), ((λ s. (refl, λ n b. b)), tt))))

compared-query : (inside : Bool) (found : Option Found) (values : List Constant) → AreOfQuery (compared_tests inside found values)
compared-query inside None values = ((λ s. (refl, λ n b. b)), tt)
compared-query inside (Some w) values = scalar-query inside (scalar_of w.variable) values

clause-query : (d : Dataset) (n : ℕ) (clause : Clause) (k : Cause) → clause_cause d n clause ≡ Some k → IsOfQuery k
clause-query d n clause k is = first-query (clause_tests d n clause) _ k ((λ s. (refl, λ n b. b)), ((λ s. (refl, λ n b. b)), compared-query _ _ _)) is

clauses-query : (d : Dataset) (n : ℕ) (clauses : List Clause) (k : Cause) → clauses_cause d n clauses ≡ Some k → IsOfQuery k
clauses-query d n [] k is = none-there k is
clauses-query d n (clause ∷ clauses) k is = either (clause_cause d n clause) (clauses_cause d (n + 1) clauses) k (clause-query d n clause k) (clauses-query d (n + 1) clauses k) is

cause-query : (d : Dataset) (c : Constraint) (k : Cause) → cause d c ≡ Some k → IsOfQuery k
cause-query d c k is = either (items_cause d [] c.items) (clauses_cause d 1 c.clauses) k (items-query d [] c.items k) (clauses-query d 1 c.clauses k) is

-- ---- steps

abbrev failed-with : (V : Type 0) → Cause → Result V Cause
failed-with V c = Err c

err-inj : (V : Type 0) (a b : Cause) → failed-with V a ≡ failed-with V b → a ≡ b
err-inj V a b is = cc is

then-so : {V W : Type 0} (P : Cause → Type 0) (first : Result V Cause → Type 0) (next : V → Result W Cause → Type 0) (k : Cause)
    → ((c : Cause) → first (Err c) → P c) → ((v : V) → next v (Err k) → P k) → Then first next (Err k) → P k
then-so {V} {W} P first next k one other (inl (v, f, n)) = other v n
then-so {V} {W} P first next k one other (inr (c, f, is)) = subst P (sym (err-inj W k c is)) (one c f)

found-or-calm : {V : Type 0} (o : Option V) (c : Cause) → Err c ≡ found_or o NoFile → IsCalm c
found-or-calm {V} None c is = subst IsCalm (sym (err-inj V c NoFile is)) refl
found-or-calm {V} (Some v) c is = cc is

-- of a list
member-calm : (told : Told) (line : ℕ) (name : List ℕ) (c : Cause) → IsMember told line name (Err c) → IsCalm c
member-calm told line name c (inl (none, is)) = subst IsCalm (sym is) refl
member-calm told line name c (inr (file, why, found, bad, is)) = subst IsCalm (sym is) refl

members-calm : (told : Told) (line : ℕ) (names : List (List ℕ)) (c : Cause) → Members told line names (Err c) → IsCalm c
members-calm told line [] c is = cc is
members-calm told line (name ∷ names) c is =
    then-so IsCalm (IsMember told line name) (λ (m : Member). Then (Members told (line + 1) names) (λ (ms : List Member). Is (Ok (m ∷ ms)))) c (member-calm told line name)
    (λ m e. then-so IsCalm (Members told (line + 1) names) (λ (ms : List Member). Is (Ok (m ∷ ms))) c (members-calm told (line + 1) names) (λ ms n. cc n) e) is

join-calm : (told : Told) (name bytes : List ℕ) (c : Cause) → IsJoined told name bytes (Err c) → IsCalm c
join-calm told name bytes c is =
    then-so IsCalm (Lists bytes) (λ (names : List (List ℕ)). Then (Members told 1 names) (AreJoined name)) c (λ k (refusal, why, l, there, e). subst IsCalm (sym e) refl)
    (λ names e. then-so IsCalm (Members told 1 names) (AreJoined name) c (members-calm told 1 names) (λ ms (refusal, why, l, there, f). subst IsCalm (sym f) refl) e) is

stored-calm : (told : Told) (form : Form) (name bytes : List ℕ) (c : Cause) → IsStored told form name bytes (Err c) → IsCalm c
stored-calm told netcdf name bytes c (refusal, why, first, there, is) = subst IsCalm (sym is) refl
stored-calm told table name bytes c (refusal, why, first, there, is) = subst IsCalm (sym is) refl
stored-calm told saved name bytes c (refusal, why, first, there, is) = subst IsCalm (sym is) refl
stored-calm told joined name bytes c is = join-calm told name bytes c is

opens-calm : (told : Told) (files : Files) (name : List ℕ) (c : Cause) → OpensAmong told files name (Err c) → IsCalm c
opens-calm told files name c is =
    then-so IsCalm (Is (found_or (file_named files name) NoFile)) (λ (file : File). IsStored told file.form name file.bytes) c (λ k e. found-or-calm (file_named files name) k e) (λ (file : File) e. stored-calm told file.form name file.bytes c e) is

reads-query : (query : List ℕ) (c : Cause) → Reads query (Err c) → IsOfQuery c
reads-query query c (place, fault, is) = subst IsOfQuery (sym is) (refl, λ n b. b)

unless-so : {V : Type 0} (o : Option Cause) (v : V) (c : Cause) → ((k : Cause) → o ≡ Some k → IsOfQuery k) → Err c ≡ unless o v → IsOfQuery c
unless-so {V} None v c of_query is = cc is
unless-so {V} (Some k) v c of_query is = subst IsOfQuery (sym (err-inj V c k is)) (of_query k refl)

leaves-query : (s : Stored) (query : List ℕ) (c : Cause) → Leaves s query (Err c) → IsOfQuery c
leaves-query s query c is =
    then-so IsOfQuery (Reads query) (λ (x : Constraint). Is (unless (cause s.dataset x) (left_of s x))) c (reads-query query) (λ (k : Constraint) e. unless-so (cause s.dataset k) (left_of s k) c (cause-query s.dataset k) e) is

large-query : (large : Bool) (c : Cause) (t : Text) → Err c ≡ (if large then Err (TooLarge 0) else Ok t) → IsOfQuery c
large-query true c t is = subst IsOfQuery (sym (err-inj Text c (TooLarge 0) is)) (refl, λ n b. b)
large-query false c t is = cc is

leaf-query : (o : Option ℕ) (k : Cause) → option_map (λ leaf. TooLarge leaf) o ≡ Some k → IsOfQuery k
leaf-query None k is = cc is
leaf-query (Some leaf) k is = subst IsOfQuery (some-inj (TooLarge leaf) k is) (refl, λ n b. b)

dds-query : (s : Stored) (query : List ℕ) (c : Cause) → DdsAnswers s query (Err c) → IsOfQuery c
dds-query s query c is =
    then-so IsOfQuery (Leaves s query) (λ (left : Left). Is (dds_text left.dataset)) c (leaves-query s query) (λ (left : Left) m. large-query (nat_lt 16777216 (length (dds left.dataset))) c (result_text Dds (dds left.dataset)) m) is

dods-query : (s : Stored) (query : List ℕ) (c : Cause) → DodsAnswers s query (Err c) → IsOfQuery c
dods-query s query c is =
    then-so IsOfQuery (Leaves s query) (λ (left : Left). Is (dods_text left)) c (leaves-query s query)
    (λ (left : Left) m. unless-so (option_map (λ leaf. TooLarge leaf) (too_large left.dataset)) (result_text Dods (body left.dataset left.trees)) c (leaf-query (too_large left.dataset)) m) is

pub dds-no-line : (s : Stored) (query : List ℕ) (c : Cause) → DdsAnswers s query (Err c) → NoLine c
dds-no-line s query c is = (dds-query s query c is).1

pub dods-no-line : (s : Stored) (query : List ℕ) (c : Cause) → DodsAnswers s query (Err c) → NoLine c
dods-no-line s query c is = (dods-query s query c is).1

-- what a target asks of files has no cause of a failed read
pub refused-calm : (told : Told) (files : Files) (a : Asked) (c : Cause) → AnswersAmong told a.kind files a.name a.query (Err c) → IsCalm c
refused-calm told files a c is = go a.kind is where
  go : (kind : Rattle.dap_http.specs.declared.kind.Kind.Kind) → AnswersAmong told kind files a.name a.query (Err c) → IsCalm c
  go Ver e = cc e
  go Das e = then-so IsCalm (OpensAmong told files a.name) (λ (s : Stored). Is (das_text s)) c (opens-calm told files a.name) (λ s n. cc n) e
  go Dds e = then-so IsCalm (OpensAmong told files a.name) (λ (s : Stored). DdsAnswers s a.query) c (opens-calm told files a.name) (λ s n. (dds-query s a.query c n).0) e
  go Dods e = then-so IsCalm (OpensAmong told files a.name) (λ (s : Stored). DodsAnswers s a.query) c (opens-calm told files a.name) (λ s n. (dods-query s a.query c n).0) e
