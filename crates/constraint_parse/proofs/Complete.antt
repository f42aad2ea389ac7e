-- The machine reads the tokens of each tree, and gives the tree.
use Rattle.std.proofs.Common.{◌≡◌, List, [], ◌∷◌, ◌++◌, ℕ, refl, sym, ap, ◌∙◌, append_assoc, append-nil, Some}
use Rattle.std.specs.List.{flat_map}
use Rattle.constraint_parse.specs.Language.{Token, name, word, quoted, operator, comma, ampersand, dot, open_brace, close_brace, Operator, SlabTree, index, range, strided, StepTree, ItemTree, path, call, ValueTree, text, bare, ClauseTree, compare, among, call_clause, ItemsTree, no_items, some_items, followed, slab_tokens, step_tokens, item_tokens, value_token, path_tokens, clause_tokens, items_tokens, constraint_tokens}
use Rattle.constraint_parse.specs.inner.Machine.{State, Start, Naming, Stepped, Called, ClauseNaming, Compared, Bracing, Braced, Clausal, read, tree_of, with_last}

-- If each piece of tokens leads from a list to the list with one more, then all of them lead to the list with all.
pieces_read : {A : Type 0} (at : List A → State) (tokens : A → List Token)
    → ((done : List A) (x : A) (rest : List Token) → read (at done) (tokens x ++ rest) ≡ read (at (with_last done x)) rest)
    → (done xs : List A) (rest : List Token)
    → read (at done) (flat_map tokens xs ++ rest) ≡ read (at (done ++ xs)) rest
pieces_read at tokens one done [] rest = rw append-nil refl
pieces_read {A} at tokens one done (x ∷ xs) rest =
    ap (λ (y : List Token). read (at done) y) (append_assoc (tokens x) (flat_map tokens xs) rest)
    ∙ one done x (flat_map tokens xs ++ rest)
    ∙ pieces_read at tokens one (with_last done x) xs rest
    ∙ ap (λ (y : List A). read (at y) rest) (append_assoc done (x ∷ []) xs)

slab_read : (items : List ItemTree) (steps : List StepTree) (n : List ℕ) (slabs : List SlabTree) (slab : SlabTree) (rest : List Token)
    → read (Stepped items steps n slabs) (slab_tokens slab ++ rest) ≡ read (Stepped items steps n (with_last slabs slab)) rest
slab_read items steps n slabs (index a) rest = refl
slab_read items steps n slabs (range a b) rest = refl
slab_read items steps n slabs (strided a s b) rest = refl

step_read : (items : List ItemTree) (steps : List StepTree) (s : StepTree) (rest : List Token)
    → read (Naming items steps) (step_tokens s ++ rest) ≡ read (Stepped items steps s.label s.slabs) rest
step_read items steps s rest = pieces_read (Stepped items steps s.label) slab_tokens (slab_read items steps s.label) [] s.slabs rest

step_dot_read : (items : List ItemTree) (steps : List StepTree) (s : StepTree) (rest : List Token)
    → read (Naming items steps) ((step_tokens s ++ dot ∷ []) ++ rest) ≡ read (Naming items (with_last steps s)) rest
step_dot_read items steps s rest =
    ap (λ (y : List Token). read (Naming items steps) y) (append_assoc (step_tokens s) (dot ∷ []) rest)
    ∙ step_read items steps s (dot ∷ rest)

path_read : (items : List ItemTree) (front : List StepTree) (last : StepTree) (rest : List Token)
    → read (Naming items []) (item_tokens (path front last) ++ rest) ≡ read (Stepped items front last.label last.slabs) rest
path_read items front last rest =
    ap (λ (y : List Token). read (Naming items []) y) (append_assoc (followed dot step_tokens front) (step_tokens last) rest)
    ∙ pieces_read (Naming items) (λ s. step_tokens s ++ dot ∷ []) (step_dot_read items) [] front (step_tokens last ++ rest)
    ∙ step_read items front last rest

item_comma_read : (items : List ItemTree) (item : ItemTree) (rest : List Token)
    → read (Naming items []) ((item_tokens item ++ comma ∷ []) ++ rest) ≡ read (Naming (with_last items item) []) rest
item_comma_read items (path front last) rest =
    ap (λ (y : List Token). read (Naming items []) y) (append_assoc (item_tokens (path front last)) (comma ∷ []) rest)
    ∙ path_read items front last (comma ∷ rest)
item_comma_read items (call n a) rest = refl

label_read : (items : ItemsTree) (clauses : List ClauseTree) (labels : List (List ℕ)) (n : List ℕ) (rest : List Token)
    → read (ClauseNaming items clauses labels) ((name n ∷ dot ∷ []) ++ rest) ≡ read (ClauseNaming items clauses (with_last labels n)) rest
label_read items clauses labels n rest = refl

labels_read : (items : ItemsTree) (clauses : List ClauseTree) (front : List (List ℕ)) (n : List ℕ) (o : Operator) (rest : List Token)
    → read (ClauseNaming items clauses []) ((path_tokens front n ++ operator o ∷ []) ++ rest) ≡ read (Compared items clauses front n o) rest
labels_read items clauses front n o rest =
    ap (λ (y : List Token). read (ClauseNaming items clauses []) y)
    (append_assoc (path_tokens front n) (operator o ∷ []) rest ∙ append_assoc (followed dot (λ label. name label ∷ []) front) (name n ∷ []) (operator o ∷ rest))
    ∙ pieces_read (ClauseNaming items clauses) (λ label. name label ∷ dot ∷ []) (label_read items clauses) [] front (name n ∷ operator o ∷ rest)

value_read : (items : ItemsTree) (clauses : List ClauseTree) (labels : List (List ℕ)) (n : List ℕ) (o : Operator) (values : List ValueTree) (value : ValueTree) (rest : List Token)
    → read (Bracing items clauses labels n o values) (value_token value ∷ rest) ≡ read (Braced items clauses labels n o values value) rest
value_read items clauses labels n o values (text p) rest = refl
value_read items clauses labels n o values (bare w) rest = refl

value_comma_read : (items : ItemsTree) (clauses : List ClauseTree) (labels : List (List ℕ)) (n : List ℕ) (o : Operator) (values : List ValueTree) (value : ValueTree) (rest : List Token)
    → read (Bracing items clauses labels n o values) ((value_token value ∷ comma ∷ []) ++ rest) ≡ read (Bracing items clauses labels n o (with_last values value)) rest
value_comma_read items clauses labels n o values (text p) rest = refl
value_comma_read items clauses labels n o values (bare w) rest = refl

clause_read : (items : ItemsTree) (done : List ClauseTree) (c : ClauseTree) (rest : List Token)
    → read (Clausal items done) ((ampersand ∷ clause_tokens c) ++ rest) ≡ read (Clausal items (with_last done c)) rest
clause_read items done (compare front n o (text p)) rest =
    ap (λ (y : List Token). read (ClauseNaming items done []) y)
    (append_assoc (path_tokens front n) (operator o ∷ quoted p ∷ []) rest ∙ sym (append_assoc (path_tokens front n) (operator o ∷ []) (quoted p ∷ rest)))
    ∙ labels_read items done front n o (quoted p ∷ rest)
clause_read items done (compare front n o (bare w)) rest =
    ap (λ (y : List Token). read (ClauseNaming items done []) y)
    (append_assoc (path_tokens front n) (operator o ∷ word w ∷ []) rest ∙ sym (append_assoc (path_tokens front n) (operator o ∷ []) (word w ∷ rest)))
    ∙ labels_read items done front n o (word w ∷ rest)
clause_read items done (among front n o values value) rest =
    let inner : List Token = followed comma (λ v. value_token v ∷ []) values in
    let tail : List Token = value_token value ∷ close_brace ∷ [] in
    ap (λ (y : List Token). read (ClauseNaming items done []) y)
    (append_assoc (path_tokens front n) (operator o ∷ open_brace ∷ (inner ++ tail)) rest ∙ sym (append_assoc (path_tokens front n) (operator o ∷ []) (open_brace ∷ ((inner ++ tail) ++ rest))))
    ∙ labels_read items done front n o (open_brace ∷ ((inner ++ tail) ++ rest))
    ∙ ap (λ (y : List Token). read (Bracing items done front n o []) y) (append_assoc inner tail rest)
    ∙ pieces_read (Bracing items done front n o) (λ v. value_token v ∷ comma ∷ []) (value_comma_read items done front n o) [] values (tail ++ rest)
    ∙ value_read items done front n o values value (close_brace ∷ rest)
clause_read items done (call_clause n a) rest = refl

clauses_read : (items : ItemsTree) (clauses : List ClauseTree) → read (Clausal items []) (flat_map (λ c. ampersand ∷ clause_tokens c) clauses) ≡ Some (tree_of items clauses)
clauses_read items clauses =
    ap (λ (y : List Token). read (Clausal items []) y) (sym (append-nil (flat_map (λ c. ampersand ∷ clause_tokens c) clauses)))
    ∙ pieces_read (Clausal items) (λ c. ampersand ∷ clause_tokens c) (clause_read items) [] clauses []

-- What may follow the items is what may follow clauses.
after_path : (items : List ItemTree) (front : List StepTree) (last : StepTree) (clauses : List ClauseTree)
    → read (Stepped items front last.label last.slabs) (flat_map (λ c. ampersand ∷ clause_tokens c) clauses) ≡ read (Clausal (some_items items (path front last)) []) (flat_map (λ c. ampersand ∷ clause_tokens c) clauses)
after_path items front last [] = refl
after_path items front last (c ∷ clauses) = refl

after_call : (items : List ItemTree) (n a : List ℕ) (clauses : List ClauseTree)
    → read (Called items n a) (flat_map (λ c. ampersand ∷ clause_tokens c) clauses) ≡ read (Clausal (some_items items (call n a)) []) (flat_map (λ c. ampersand ∷ clause_tokens c) clauses)
after_call items n a [] = refl
after_call items n a (c ∷ clauses) = refl

after_nothing : (clauses : List ClauseTree)
    → read Start (flat_map (λ c. ampersand ∷ clause_tokens c) clauses) ≡ read (Clausal no_items []) (flat_map (λ c. ampersand ∷ clause_tokens c) clauses)
after_nothing [] = refl
after_nothing (c ∷ clauses) = refl

last_read : (items : List ItemTree) (last : ItemTree) (clauses : List ClauseTree)
    → read (Naming items []) (item_tokens last ++ flat_map (λ c. ampersand ∷ clause_tokens c) clauses) ≡ Some (tree_of (some_items items last) clauses)
last_read items (path front last) clauses =
    path_read items front last (flat_map (λ c. ampersand ∷ clause_tokens c) clauses)
    ∙ after_path items front last clauses ∙ clauses_read (some_items items (path front last)) clauses
last_read items (call n a) clauses = after_call items n a clauses ∙ clauses_read (some_items items (call n a)) clauses

-- Where a name begins the tokens, the start is as the place of an item.
start_path : (front : List StepTree) (last : StepTree) (rest : List Token)
    → read Start ((followed dot step_tokens front ++ step_tokens last) ++ rest) ≡ read (Naming [] []) ((followed dot step_tokens front ++ step_tokens last) ++ rest)
start_path [] last rest = refl
start_path (s ∷ front) last rest = refl

start_item : (item : ItemTree) (rest : List Token) → read Start (item_tokens item ++ rest) ≡ read (Naming [] []) (item_tokens item ++ rest)
start_item (path front last) rest = start_path front last rest
start_item (call n a) rest = refl

start_items : (front : List ItemTree) (last : ItemTree) (rest : List Token)
    → read Start (items_tokens (some_items front last) ++ rest) ≡ read (Naming [] []) (items_tokens (some_items front last) ++ rest)
start_items [] last rest = start_item last rest
start_items (item ∷ front) last rest =
    let more : List Token = comma ∷ [] ++ (followed comma item_tokens front ++ (item_tokens last ++ rest)) in
    let e : items_tokens (some_items (item ∷ front) last) ++ rest ≡ item_tokens item ++ more = simp append_assoc in
    ap (read Start) e ∙ start_item item more ∙ ap (read (Naming [] [])) (sym e)

-- the machine gives each tree from its tokens
pub complete : (items : ItemsTree) (clauses : List ClauseTree) → read Start (constraint_tokens (tree_of items clauses)) ≡ Some (tree_of items clauses)
complete no_items clauses = after_nothing clauses ∙ clauses_read no_items clauses
complete (some_items front last) clauses =
    let tail : List Token = flat_map (λ c. ampersand ∷ clause_tokens c) clauses in
    start_items front last tail
    ∙ ap (λ (y : List Token). read (Naming [] []) y) (append_assoc (followed comma item_tokens front) (item_tokens last) tail)
    ∙ pieces_read (λ (x : List ItemTree). Naming x []) (λ i. item_tokens i ++ comma ∷ []) item_comma_read [] front (item_tokens last ++ tail)
    ∙ last_read front last clauses
