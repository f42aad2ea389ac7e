-- From what the makers of bodies say to what a stored file is answered with.
use Rattle.std.proofs.Common.{◌≡◌, ℕ, List, ◌++◌, length, Some, None, Ok, Err, codes, refl, sym, ap, ◌∙◌, subst, [], ◌∷◌, take, drop}
use Rattle.std.proofs.Math.Seq.{take-append_seam}
use Rattle.std.proofs.lemmas.List.{length-map}
use Rattle.std.specs.Prelude.{map, Bool}
use Rattle.dap_types.specs.Model.{Dataset}
use Rattle.dap_model.specs.Body.{body, too_large}
use Rattle.dap_model.specs.Dds.{dds}
use Rattle.dap_model.specs.Filter.{Marks, constrained, constrained_trees}
use Rattle.dap_model.specs.Rows.{Selection, kept}
use Rattle.dap_errors.specs.declared.cause.Cause.{Cause}
use Rattle.constraint_parse.specs.Values.{Spells}
use Rattle.constraint_parse.specs.declared.constraint.Constraint.{Constraint}
use Rattle.csv_source.specs.Dataset.{row_tree, table_dataset, table_trees}
use Rattle.csv_source.specs.Table.{CsvTable}
use Rattle.grid_projection.specs.Marks.{marks}
use Rattle.grid_projection.specs.Resolved.{cause}
use Rattle.netcdf_source.specs.Mapping.{dataset_of}
use Rattle.netcdf_source.specs.declared.header.Contents.{Contents}
use Rattle.xdr_encode.proofs.Masking.{mask_keeps}
use Rattle.xdr_encode.specs.Asked.{MarksAsk}
use Rattle.xdr_encode.specs.Begun.{HaveBegun}
use Rattle.xdr_encode.specs.Bodies.{HasNoFile, MayAsk, front_in, leaves_in}
use Rattle.xdr_encode.specs.Masks.{all_rows, kept_table}
use Rattle.xdr_encode.specs.declared.body.Body.{Body}
use Rattle.xdr_encode.specs.declared.leaf.Leaf.{Leaf}
use Rattle.xdr_encode.specs.declared.refusal.BodyRefusal.{BodyRefusal}
use Rattle.xdr_encode.specs.declared.refusal.BodyRefusal.TheVariants as bodies
use Rattle.dap_server.proofs.Answering.{dods_large, dods_refused, dods_small}
use Rattle.dap_http.specs.declared.kind.Kind.TheVariants.{Dods}
use Rattle.sequence_select.specs.Selections.{selections}
use Rattle.dap_server.specs.Costs.{head_len, marks_of}
use Rattle.dap_server.specs.Files.{Stored, table_stored}
use Rattle.dap_server.specs.Results.{DodsAnswers, result_text}
use Rattle.dap_server.specs.inner.Marking.{IsRefusedOn}
use Rattle.dap_server.specs.inner.Opening.{WhereRefused, body_stop}
use Rattle.dap_server.specs.declared.no_answer.Stop.{Stop}
use Rattle.dap_server.specs.declared.no_answer.Stop.TheVariants.{Refused, ShelfFault, Memory}

-- what is asked at a fault, in the words of the name and the constraint
pub asks_as : (c : Contents) (name : List ℕ) (constraint : Constraint) (d : Dataset) (m : Marks) (bytes : List ℕ) (put cost : ℕ) → d ≡ dataset_of c name → m ≡ marks d constraint
    → MarksAsk c m bytes (length (dds (constrained m d) ++ codes "Data:\n")) put cost → MarksAsk c (marks_of c name constraint) bytes (head_len c name constraint) put cost
asks_as c name constraint d m bytes put cost is_d is_m asks =
    subst (λ e. MarksAsk c (marks e constraint) bytes (length (dds (constrained (marks e constraint) e) ++ codes "Data:\n")) put cost) is_d
    (subst (λ n. MarksAsk c n bytes (length (dds (constrained n d) ++ codes "Data:\n")) put cost) is_m asks)

pub marked_as : (c : Contents) (name : List ℕ) (constraint : Constraint) (d : Dataset) (m : Marks) → d ≡ dataset_of c name → m ≡ marks d constraint → m ≡ marks_of c name constraint
marked_as c name constraint d m is_d is_m = is_m ∙ ap (λ e. marks e constraint) is_d

-- a body that is too large, over files of any kind
pub large_stop : {X : Type 0} (stored : X → Stored) (query : List ℕ) (d : Dataset) (constraint : Constraint) (m : Marks) (refusal : BodyRefusal) (s : Stop) → ((x : X) → d ≡ (stored x).dataset)
    → Spells query constraint → cause d constraint ≡ None → m ≡ marks d constraint
    → ((leaf : ℕ) → refusal ≡ bodies.TooLarge leaf → too_large (constrained m d) ≡ Some leaf)
    → s ≡ body_stop refusal → WhereRefused (λ why. (x : X) → DodsAnswers (stored x) query (Err why)) s
large_stop stored query d constraint m (bodies.TooLarge leaf) s is_d spells accepted is_m large is =
    rw is (λ x. dods_large (stored x) query d constraint m leaf (is_d x) spells accepted is_m (large leaf refl))
large_stop stored query d constraint m bodies.Memory s is_d spells accepted is_m large is = rw is tt

pub refused_stop : {X : Type 0} (stored : X → Stored) (query : List ℕ) (d : Dataset) (s : Stop) → ((x : X) → d ≡ (stored x).dataset) → WhereRefused (IsRefusedOn d query) s
    → WhereRefused (λ why. (x : X) → DodsAnswers (stored x) query (Err why)) s
refused_stop stored query d (Refused why) is_d is = λ x. dods_refused (stored x) query d why (is_d x) is
refused_stop stored query d ShelfFault is_d is = tt
refused_stop stored query d Memory is_d is = tt

-- without the file beside it
pub alone_stop : (s : Stop) (P : Cause → Type 0) → WhereRefused (λ why. (x : List ℕ) → P why) s → WhereRefused P s
alone_stop (Refused why) P is = is []
alone_stop ShelfFault P is = tt
alone_stop Memory P is = tt

-- a mask that was written over as many rows
pub rows_of : (t : CsvTable) (tests clauses : List Selection) (old new : List Bool) → length old ≡ length t.rows → new ≡ map (λ row. kept tests 1 (row_tree row)) t.rows → tests ≡ clauses
    → take (length old) (new ++ drop (length new) old) ≡ map (λ row. kept clauses 1 (row_tree row)) t.rows
rows_of t tests clauses old new room is same =
    let len : length old ≡ length new = room ∙ sym (ap length is ∙ length-map t.rows (λ row. kept tests 1 (row_tree row))) in
    ap (λ n. take n (new ++ drop (length new) old)) len ∙ take-append_seam new (drop (length new) old) ∙ is ∙ ap (λ k. map (λ row. kept k 1 (row_tree row)) t.rows) same

-- the rows that clauses keep are those of their mask
pub table_text : (t : CsvTable) (m : Marks) (clauses : List Selection) (mask : List Bool) (text : List ℕ) → mask ≡ map (λ row. kept clauses 1 (row_tree row)) t.rows
    → text ≡ body (constrained m (table_dataset t)) (constrained_trees m all_rows (table_dataset t) (table_trees (kept_table mask t)))
    → text ≡ body (constrained m (table_dataset t)) (constrained_trees m (kept clauses) (table_dataset t) (table_trees t))
table_text t m clauses mask text is_mask is =
    is ∙ ap (λ k. body (constrained m (table_dataset t)) (constrained_trees m all_rows (table_dataset t) (table_trees (kept_table k t)))) is_mask
    ∙ ap (body (constrained m (table_dataset t))) (sym (mask_keeps t m (kept clauses)))

-- a body without a file asks nothing
nothing_begun : (leaves : List Leaf) (file : List ℕ) (at put asked : ℕ) → leaves ≡ [] → HaveBegun leaves file at put asked → asked ≡ 0
nothing_begun [] file at put asked is begun = begun
nothing_begun (leaf ∷ leaves) file at put asked is begun = cc is

pub asks_nothing : (b : Body) (file : List ℕ) (put asked : ℕ) → HasNoFile b → MayAsk b file put asked → asked ≡ 0
unfolding HasNoFile MayAsk
asks_nothing b file put asked none may = nothing_begun (leaves_in b) file (length (front_in b)) put asked none may

-- the body of a table is that of what the constraint leaves of it
pub table_small : (t : CsvTable) (query : List ℕ) (d : Dataset) (constraint : Constraint) (m : Marks) (mask : List Bool) (text : List ℕ) → d ≡ table_dataset t → Spells query constraint
    → cause d constraint ≡ None → m ≡ marks d constraint → mask ≡ map (λ row. kept (selections (table_dataset t) constraint) 1 (row_tree row)) t.rows → too_large (constrained m d) ≡ None
    → text ≡ body (constrained m (table_dataset t)) (constrained_trees m all_rows (table_dataset t) (table_trees (kept_table mask t)))
    → DodsAnswers (table_stored t) query (Ok (result_text Dods text))
table_small t query d constraint m mask text is_d spells accepted is_m is_mask small is_text =
    let is : text ≡ body (constrained m (table_dataset t)) (constrained_trees m (kept (selections (table_dataset t) constraint)) (table_dataset t) (table_trees t)) =
    table_text t m (selections (table_dataset t) constraint) mask text is_mask is_text in
    dods_small (table_stored t) query d constraint m text is_d spells accepted is_m small
    (subst (λ e. text ≡ body (constrained m e) (constrained_trees m (kept (selections e constraint)) e (table_trees t))) (sym is_d) is)
