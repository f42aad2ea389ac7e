-- A text spells a constraint or has a fault: the grammar's machine goes over it from its front, and
-- what comes next in each state is a token that leads on, or what the text goes wrong with.
use Rattle.std.proofs.Common.{◌≡◌, List, [], ◌∷◌, ◌++◌, ℕ, zero, suc, ◌+◌, ◌<◌, ◌≤◌, length, drop, get_or, refl, subst, Option, Some, None, Bool, ◌==◌, arith, ◌⊎◌, inl, inr}
use Rattle.std.proofs.lemmas.Bool.{cases_lt, eqb-true, eqb-false}
use Rattle.std.proofs.lemmas.List.{drop_all}
use Rattle.plain_lemmas.proofs.Truths.{true_or_false}
use Rattle.viable.specs.Quoted.{Piece, ArePieces, IsOpen}
use Rattle.viable.specs.Runs.{IsRunOf, IsRunTo}
use Rattle.viable.proofs.Pieces.{no_pieces, one_plain, one_pair, lone_backslash}
use Rattle.viable.proofs.Runs.{run_starts, run_more, run_stops, run_ends}
use Rattle.constraint_parse.specs.Language.{is_blank, is_name_byte, is_digit, is_word_byte, is_argument_byte, equal, not_equal, less, less_equal, greater, greater_equal, matches, Token, name, number, word, argument, comma, ampersand, dot, open_bracket, ConstraintTree, IsTextOf, StepTree, SlabTree, ItemTree, path, call, ItemsTree, some_items, ClauseTree}
use Rattle.constraint_parse.specs.inner.Machine.{State, Start, Naming, Stepped, Opened, SecondOpened, ThirdOpened, Numbered, SecondNumbered, ThirdNumbered, Called, ClauseNaming, ClauseNamed, Compared, Bracing, Braced, Clausal, step, finish, step_of}
use Rattle.constraint_parse.specs.inner.Standing.{StandsAt, IsFaultAt, IsPlace, Lacks, ReadsName, ReadsNumber, ReadsCall, ReadsValue, ReadsValueOnly, MayCall}
use Rattle.constraint_parse.proofs.Bytes.{Opens}
use Rattle.constraint_parse.proofs.Places.{starts, blank_passes, mark_passes, end_faults, accepts}
use Rattle.constraint_parse.proofs.Marks.{mark_ampersand}
use Rattle.constraint_parse.proofs.Moves.{name_passes, number_passes, name_faults, number_faults, stepped_open, stepped_dot, stepped_comma, called_comma, numbered_colon, numbered2_colon, numbered_close, numbered2_close, numbered3_close, clausal_ampersand, clause_named_dot, compared_open, braced_comma, braced_close, numbered_faults, numbered2_faults, numbered3_faults, clausal_faults, byte_stands_faults}
use Rattle.constraint_parse.proofs.Ends.{start_naming, start_clausal}
use Rattle.constraint_parse.proofs.Words.{word_passes, value_faults, braced_faults}
use Rattle.constraint_parse.proofs.Quotes.{quoted_passes, value_next, value_quote_faults}
use Rattle.constraint_parse.proofs.Calls.{argument_passes, argument_faults, call_passes}
use Rattle.constraint_parse.proofs.Operators.{operator_passes, after_one, after_two, lacks_ends, bang_faults, operator_faults}

-- what a text comes to
abbrev pub Judged : List ℕ → Type 0
Judged text = ((tree : ConstraintTree) × IsTextOf text tree) ⊎ ((place : ℕ) × IsFaultAt text place)

-- wherever the machine stands with at most so many bytes to come, it comes to an end
abbrev Goes : List ℕ → ℕ → Type 0
Goes text n = (at : ℕ) (s : State) → StandsAt text at s → length text ≤ at + n → Judged text

-- the byte stands at the place, or it does not
byte_or : (text : List ℕ) (at c : ℕ) → ((at < length text) × (get_or text at 0 ≡ c)) ⊎ Lacks text at c
byte_or text at c = elim (cases_lt at (length text)) [
  | inr ge ↦ inr (λ h is. omega (arith, ge, h))
  | inl lt ↦ elim (true_or_false (get_or text at 0 == c)) [
    | inl e ↦ inl (lt, eqb-true _ c e)
    | inr e ↦ inr (λ h is. eqb-false _ c e is)
  ]
]

record Run (test : ℕ → Bool) (text : List ℕ) (from : ℕ) : Type 0 where
  to : ℕ
  run : List ℕ
  is : IsRunTo test text from to run

run_on : (n : ℕ) (test : ℕ → Bool) (text : List ℕ) (from to : ℕ) (run : List ℕ) → IsRunOf test text from to run → length text ≤ to + n → Run test text from
run_on zero test text from to run r h = record { to = to; run = run; is = run_ends test text from to run r (omega (arith, h)) }
run_on (suc n) test text from to run r h = elim (cases_lt to (length text)) [
  | inr ge ↦ record { to = to; run = run; is = run_ends test text from to run r ge }
  | inl lt ↦ elim (true_or_false (test (get_or text to 0))) [
    | inl e ↦ run_on n test text from (to + 1) (run ++ get_or text to 0 ∷ []) (run_more test text from to run r lt e) (omega (arith, h))
    | inr e ↦ record { to = to; run = run; is = run_stops test text from to run r lt e }
  ]
]

-- the longest run of a class from a place on
run_from : (test : ℕ → Bool) (text : List ℕ) (from : ℕ) → Run test text from
run_from test text from = run_on (length text) test text from from [] (run_starts test text from) (omega arith)

none_taken : {test : ℕ → Bool} {text : List ℕ} {from : ℕ} (r : Run test text from) → r.to ≤ from → IsRunTo test text from from r.run
none_taken {test} {text} {from} r h =
    let e : r.to ≡ from + length r.run = r.is.is_run_of.to_is in
    let same : r.to ≡ from = omega (arith, e, h) in
    subst (λ (x : ℕ). IsRunTo test text from x r.run) same r.is

record Quote (text : List ℕ) (from : ℕ) : Type 0 where
  to : ℕ
  pieces : List Piece
  are : ArePieces text from to pieces
  stops : ((to < length text) × (get_or text to 0 ≡ 34)) ⊎ IsOpen (drop to text)

quote_on : (n : ℕ) (text : List ℕ) (from to : ℕ) → (pieces : List Piece) × ArePieces text from to pieces → length text ≤ to + n → Quote text from
quote_on zero text from to p h = record { to = to; pieces = p.0; are = p.1; stops = inr (inl (drop_all to text (omega (arith, h)))) }
quote_on (suc n) text from to p h = elim (cases_lt to (length text)) [
  | inr ge ↦ record { to = to; pieces = p.0; are = p.1; stops = inr (inl (drop_all to text ge)) }
  | inl lt ↦ elim (byte_or text to 34) [
    | inl q ↦ record { to = to; pieces = p.0; are = p.1; stops = inl q }
    | inr q ↦ elim (byte_or text to 92) [
      | inr b ↦ quote_on n text from (to + 1) (one_plain text from to p lt (q lt) (b lt)) (omega (arith, h))
      | inl b ↦ elim (cases_lt (to + 1) (length text)) [
        | inr ge ↦ record { to = to; pieces = p.0; are = p.1; stops = inr (inr (lone_backslash text to lt b.1 ge)) }
        | inl more ↦ quote_on n text from (to + 2) (one_pair text from to p lt b.1 more) (omega (arith, h))
      ]
    ]
  ]
]

quote_from : (text : List ℕ) (from : ℕ) → Quote text from
quote_from text from = quote_on (length text) text from from ([], no_pieces text from) (omega arith)

-- where a name comes next
name_goes : {text : List ℕ} {at : ℕ} {s : State} (n : ℕ) → Goes text n → (st : StandsAt text at s) → ReadsName s → IsPlace text at → length text ≤ at + suc n
    → ((x : List ℕ) → (next : State) × (step s (name x) ≡ Some next)) → Judged text
name_goes {text} {at} {s} n goes st k place h nexts =
    let r = run_from is_name_byte text at in
    elim (cases_lt at r.to) [
      | inl lt ↦ (let (next, e) = nexts r.run in goes r.to next (name_passes st k r.to r.run r.is lt next e) (omega (arith, h, lt)))
      | inr ge ↦ inr (at, name_faults st k place r.run (none_taken r ge))
    ]

-- where a number comes next
number_goes : {text : List ℕ} {at : ℕ} {s : State} (n : ℕ) → Goes text n → (st : StandsAt text at s) → ReadsNumber s → IsPlace text at → length text ≤ at + suc n
    → ((x : List ℕ) → (next : State) × (step s (number x) ≡ Some next)) → Judged text
number_goes {text} {at} {s} n goes st k place h nexts =
    let r = run_from is_digit text at in
    elim (cases_lt at r.to) [
      | inl lt ↦ (let (next, e) = nexts r.run in goes r.to next (number_passes st k r.to r.run r.is lt next e) (omega (arith, h, lt)))
      | inr ge ↦ inr (at, number_faults st k place r.run (none_taken r ge))
    ]

-- where a call's argument begins
call_goes : {text : List ℕ} {at : ℕ} {s : State} (n : ℕ) → Goes text n → (st : StandsAt text at s) → ReadsCall s → length text ≤ at + suc n
    → at < length text → get_or text at 0 ≡ 40 → Judged text
call_goes {text} {at} {s} n goes st k h lt b =
    let r = run_from is_argument_byte text (at + 1) in
    let end_is : r.to ≡ (at + 1) + length r.run = r.is.is_run_of.to_is in
    let (next, e) = call_passes s k r.run in
    elim (byte_or text r.to 41) [
      | inl c ↦ goes (r.to + 1) next (argument_passes st r.to r.run lt b r.is c.0 c.1 next e) (omega (arith, h, end_is))
      | inr c ↦ inr (r.to, argument_faults st r.to r.run lt b r.is c next e)
    ]

-- where a value comes next, and no brace stands
value_goes : {text : List ℕ} {at : ℕ} {s : State} (n : ℕ) → Goes text n → (st : StandsAt text at s) → ReadsValue s → (ReadsValueOnly s ⊎ Lacks text at 123) → IsPlace text at → length text ≤ at + suc n
    → ((x : List ℕ) → (next : State) × (step s (word x) ≡ Some next)) → Judged text
value_goes {text} {at} {s} n goes st k brace place h nexts = elim (byte_or text at 34) [
  | inl b ↦ (
      let q = quote_from text (at + 1) in
      let (next, e) = value_next s k q.pieces in
      let end_is : (at + 1) ≤ q.to = (let t = q.are.to_is in omega (arith, t)) in
      elim q.stops [
        | inl c ↦ goes (q.to + 1) next (quoted_passes st q.to q.pieces b.0 b.1 q.are c.0 c.1 next e) (omega (arith, h, end_is))
        | inr left ↦ inr (length text, value_quote_faults st k q.to q.pieces b.0 b.1 q.are left)
      ])
  | inr b ↦ (
      let r = run_from is_word_byte text at in
      elim (cases_lt at r.to) [
        | inl lt ↦ (let (next, e) = nexts r.run in goes r.to next (word_passes st k r.to r.run r.is lt next e) (omega (arith, h, lt)))
        | inr ge ↦ inr (at, value_faults st k brace place r.run (none_taken r ge) b)
      ])
]

stepped_faults : {text : List ℕ} {at : ℕ} {items : List ItemTree} {steps : List StepTree} {l : List ℕ} {slabs : List SlabTree}
    → StandsAt text at (Stepped items steps l slabs) → IsPlace text at → at < length text
    → Lacks text at 91 → Lacks text at 46 → Lacks text at 44 → Lacks text at 38 → (MayCall steps slabs → Lacks text at 40) → IsFaultAt text at
stepped_faults {text} {at} {items} {steps} {l} {slabs} st place lt a b c d no_call = byte_stands_faults st place lt (only steps slabs no_call)
  where
    only : (steps' : List StepTree) (slabs' : List SlabTree) → (MayCall steps' slabs' → Lacks text at 40)
        → (m : Token) (o : State) → step (Stepped items steps' l slabs') m ≡ Some o → Opens m (get_or text at 0) → ⊥
    only steps' slabs' no_call open_bracket o e k = a lt (eqb-true _ 91 k)
    only steps' slabs' no_call dot o e k = b lt (eqb-true _ 46 k)
    only steps' slabs' no_call comma o e k = c lt (eqb-true _ 44 k)
    only steps' slabs' no_call ampersand o e k = d lt (eqb-true _ 38 k)
    only [] [] no_call (argument x) o e k = no_call (refl, refl) lt (eqb-true _ 40 k)
    only [] (y ∷ slabs') no_call (argument x) o e k = cc
    only (y ∷ steps') slabs' no_call (argument x) o e k = cc
    only steps' slabs' no_call _ o e k = cc

called_faults : {text : List ℕ} {at : ℕ} {items : List ItemTree} {l a : List ℕ}
    → StandsAt text at (Called items l a) → IsPlace text at → at < length text → Lacks text at 44 → Lacks text at 38 → IsFaultAt text at
called_faults {text} {at} {items} {l} {a} st place lt c d = byte_stands_faults st place lt only
  where
    only : (m : Token) (o : State) → step (Called items l a) m ≡ Some o → Opens m (get_or text at 0) → ⊥
    only comma o e k = c lt (eqb-true _ 44 k)
    only ampersand o e k = d lt (eqb-true _ 38 k)
    only _ o e k = cc

-- a call behind a name alone
stepped_call : {text : List ℕ} {at : ℕ} {items : List ItemTree} {l : List ℕ} (steps : List StepTree) (slabs : List SlabTree) (n : ℕ) → Goes text n → StandsAt text at (Stepped items steps l slabs)
    → length text ≤ at + suc n → Judged text ⊎ (MayCall steps slabs → Lacks text at 40)
stepped_call {text} {at} [] [] n goes st h = elim (byte_or text at 40) [
  | inl b ↦ inl (call_goes n goes st tt h b.0 b.1)
  | inr b ↦ inr (λ may. b)
]
stepped_call (y ∷ steps) slabs n goes st h = inr (λ may. let z : y ∷ steps ≡ [] = may.0 in cc)
stepped_call [] (y ∷ slabs) n goes st h = inr (λ may. let z : y ∷ slabs ≡ [] = may.1 in cc)

clause_call : {text : List ℕ} {at : ℕ} {items : ItemsTree} {clauses : List ClauseTree} {l : List ℕ} (labels : List (List ℕ)) (n : ℕ) → Goes text n → StandsAt text at (ClauseNamed items clauses labels l)
    → length text ≤ at + suc n → Judged text ⊎ (labels ≡ [] → Lacks text at 40)
clause_call {text} {at} [] n goes st h = elim (byte_or text at 40) [
  | inl b ↦ inl (call_goes n goes st tt h b.0 b.1)
  | inr b ↦ inr (λ may. b)
]
clause_call (y ∷ labels) n goes st h = inr (λ may. let z : y ∷ labels ≡ [] = may in cc)

goes_on : {text : List ℕ} {at : ℕ} (s : State) (n : ℕ) → Goes text n → StandsAt text at s → IsPlace text at → length text ≤ at + suc n → at < length text → Judged text
goes_on {text} {at} Start n goes st place h lt = elim (byte_or text at 38) [
  | inl b ↦ goes (at + 1) _ (clausal_ampersand (start_clausal st place (λ k. b.1)) lt b.1) (omega (arith, h))
  | inr b ↦ name_goes n goes (start_naming st place lt b) tt place h (λ x. (_, refl))
]
goes_on {text} {at} (Naming items steps) n goes st place h lt = name_goes n goes st tt place h (λ x. (_, refl))
goes_on {text} {at} (Stepped items steps l slabs) n goes st place h lt = elim (byte_or text at 91) [
  | inl a ↦ goes (at + 1) _ (stepped_open st lt a.1) (omega (arith, h))
  | inr a ↦ elim (byte_or text at 46) [
    | inl b ↦ goes (at + 1) _ (stepped_dot st lt b.1) (omega (arith, h))
    | inr b ↦ elim (byte_or text at 44) [
      | inl c ↦ goes (at + 1) _ (stepped_comma st lt c.1) (omega (arith, h))
      | inr c ↦ elim (byte_or text at 38) [
        | inl d ↦ goes (at + 1) (ClauseNaming (some_items items (path steps (step_of l slabs))) [] []) (mark_passes st ampersand 38 _ lt d.1 refl refl refl (λ m o e k. mark_ampersand m k)) (omega (arith, h))
        | inr d ↦ elim (stepped_call steps slabs n goes st h) [
          | inl j ↦ j
          | inr no_call ↦ inr (at, stepped_faults st place lt a b c d no_call)
        ]
      ]
    ]
  ]
]
goes_on {text} {at} (Opened items steps l slabs) n goes st place h lt = number_goes n goes st tt place h (λ x. (_, refl))
goes_on {text} {at} (SecondOpened items steps l slabs a) n goes st place h lt = number_goes n goes st tt place h (λ x. (_, refl))
goes_on {text} {at} (ThirdOpened items steps l slabs a b) n goes st place h lt = number_goes n goes st tt place h (λ x. (_, refl))
goes_on {text} {at} (Numbered items steps l slabs a) n goes st place h lt = elim (byte_or text at 58) [
  | inl b ↦ goes (at + 1) _ (numbered_colon st lt b.1) (omega (arith, h))
  | inr b ↦ elim (byte_or text at 93) [
    | inl c ↦ goes (at + 1) _ (numbered_close st lt c.1) (omega (arith, h))
    | inr c ↦ inr (at, numbered_faults st place b c)
  ]
]
goes_on {text} {at} (SecondNumbered items steps l slabs a a') n goes st place h lt = elim (byte_or text at 58) [
  | inl b ↦ goes (at + 1) _ (numbered2_colon st lt b.1) (omega (arith, h))
  | inr b ↦ elim (byte_or text at 93) [
    | inl c ↦ goes (at + 1) _ (numbered2_close st lt c.1) (omega (arith, h))
    | inr c ↦ inr (at, numbered2_faults st place b c)
  ]
]
goes_on {text} {at} (ThirdNumbered items steps l slabs a a' a'') n goes st place h lt = elim (byte_or text at 93) [
  | inl c ↦ goes (at + 1) _ (numbered3_close st lt c.1) (omega (arith, h))
  | inr c ↦ inr (at, numbered3_faults st place c)
]
goes_on {text} {at} (Called items l a) n goes st place h lt = elim (byte_or text at 44) [
  | inl c ↦ goes (at + 1) _ (called_comma st lt c.1) (omega (arith, h))
  | inr c ↦ elim (byte_or text at 38) [
    | inl d ↦ goes (at + 1) (ClauseNaming (some_items items (call l a)) [] []) (mark_passes st ampersand 38 _ lt d.1 refl refl refl (λ m o e k. mark_ampersand m k)) (omega (arith, h))
    | inr d ↦ inr (at, called_faults st place lt c d)
  ]
]
goes_on {text} {at} (ClauseNaming items clauses labels) n goes st place h lt = name_goes n goes st tt place h (λ x. (_, refl))
goes_on {text} {at} (ClauseNamed items clauses labels l) n goes st place h lt = elim (byte_or text at 46) [
  | inl a ↦ goes (at + 1) _ (clause_named_dot st lt a.1) (omega (arith, h))
  | inr a ↦ elim (clause_call labels n goes st h) [
    | inl j ↦ j
    | inr no_call ↦ elim (byte_or text at 61) [
      | inl b ↦ elim (byte_or text (at + 1) 126) [
        | inl t ↦ goes (at + 2) _ (operator_passes st matches _ (at + 2) (after_two st 61 126 lt b.1 t.0 t.1) refl tt) (omega (arith, h))
        | inr t ↦ goes (at + 1) _ (operator_passes st equal _ (at + 1) (after_one st 61 lt b.1) refl (lacks_ends text (at + 1) 126 t)) (omega (arith, h))
      ]
      | inr b ↦ elim (byte_or text at 33) [
        | inl c ↦ elim (byte_or text (at + 1) 61) [
          | inl t ↦ goes (at + 2) _ (operator_passes st not_equal _ (at + 2) (after_two st 33 61 lt c.1 t.0 t.1) refl tt) (omega (arith, h))
          | inr t ↦ inr (at + 1, bang_faults st lt c.1 t)
        ]
        | inr c ↦ elim (byte_or text at 60) [
          | inl d ↦ elim (byte_or text (at + 1) 61) [
            | inl t ↦ goes (at + 2) _ (operator_passes st less_equal _ (at + 2) (after_two st 60 61 lt d.1 t.0 t.1) refl tt) (omega (arith, h))
            | inr t ↦ goes (at + 1) _ (operator_passes st less _ (at + 1) (after_one st 60 lt d.1) refl (lacks_ends text (at + 1) 61 t)) (omega (arith, h))
          ]
          | inr d ↦ elim (byte_or text at 62) [
            | inl f ↦ elim (byte_or text (at + 1) 61) [
              | inl t ↦ goes (at + 2) _ (operator_passes st greater_equal _ (at + 2) (after_two st 62 61 lt f.1 t.0 t.1) refl tt) (omega (arith, h))
              | inr t ↦ goes (at + 1) _ (operator_passes st greater _ (at + 1) (after_one st 62 lt f.1) refl (lacks_ends text (at + 1) 61 t)) (omega (arith, h))
            ]
            | inr f ↦ inr (at, operator_faults st place a no_call b c d f)
          ]
        ]
      ]
    ]
  ]
]
goes_on {text} {at} (Compared items clauses labels l o) n goes st place h lt = elim (byte_or text at 123) [
  | inl b ↦ goes (at + 1) _ (compared_open st lt b.1) (omega (arith, h))
  | inr b ↦ value_goes n goes st tt (inr b) place h (λ x. (_, refl))
]
goes_on {text} {at} (Bracing items clauses labels l o values) n goes st place h lt = value_goes n goes st tt (inl tt) place h (λ x. (_, refl))
goes_on {text} {at} (Braced items clauses labels l o values value) n goes st place h lt = elim (byte_or text at 44) [
  | inl b ↦ goes (at + 1) _ (braced_comma st lt b.1) (omega (arith, h))
  | inr b ↦ elim (byte_or text at 125) [
    | inl c ↦ goes (at + 1) _ (braced_close st lt c.1) (omega (arith, h))
    | inr c ↦ inr (at, braced_faults st place b c)
  ]
]
goes_on {text} {at} (Clausal items clauses) n goes st place h lt = elim (byte_or text at 38) [
  | inl d ↦ goes (at + 1) _ (clausal_ampersand st lt d.1) (omega (arith, h))
  | inr d ↦ inr (at, clausal_faults st place lt d)
]

-- at the end of the text
ends : {text : List ℕ} {at : ℕ} (s : State) → StandsAt text at s → length text ≤ at → Judged text
ends {text} {at} s st h = on (finish s) refl
  where
    on : (o : Option ConstraintTree) → finish s ≡ o → Judged text
    on (Some tree) e = inl (tree, accepts st h e)
    on None e = inr (at, end_faults st h e)

goes : (text : List ℕ) (n : ℕ) → Goes text n
goes text zero at s st h = ends s st (omega (arith, h))
goes text (suc n) at s st h = elim (cases_lt at (length text)) [
  | inr ge ↦ ends s st ge
  | inl lt ↦ elim (true_or_false (is_blank (get_or text at 0))) [
    | inl blank ↦ goes text n (at + 1) s (blank_passes st lt blank) (omega (arith, h))
    | inr unblank ↦ goes_on s n (goes text n) st (record { within = omega (arith, lt); unblank = λ k. rw unblank refl }) h lt
  ]
]

pub judged : (text : List ℕ) → Judged text
judged text = goes text (length text) 0 Start (starts text) (omega arith)
