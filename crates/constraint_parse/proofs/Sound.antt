-- The tokens that lead to a state are those of what was read.
use Rattle.std.proofs.Common.{◌≡◌, List, [], ◌∷◌, ◌++◌, ℕ, refl, ap, subst, ◌∙◌, append_assoc, append-nil, Option, Some, None}
use Rattle.std.specs.List.{flat_map}
use Rattle.std.specs.Option.{option_and_then, IfSome}
use Rattle.std.proofs.lemmas.Grind.{flat_map-append}
use Rattle.constraint_parse.specs.Language.{Token, name, number, word, argument, quoted, operator, comma, ampersand, dot, colon, open_bracket, close_bracket, open_brace, close_brace, SlabTree, StepTree, ItemTree, ClauseTree, ItemsTree, ConstraintTree, followed, step_tokens, item_tokens, value_token, path_tokens, clause_tokens, items_tokens, constraint_tokens}
use Rattle.constraint_parse.specs.inner.Machine.{State, Start, Naming, Stepped, Opened, SecondOpened, ThirdOpened, Numbered, SecondNumbered, ThirdNumbered, Called, ClauseNaming, ClauseNamed, Compared, Bracing, Braced, Clausal, step, finish, read, step_of}

abbrev stepped : List ItemTree → List StepTree → List ℕ → List SlabTree → List Token
stepped items steps n slabs = followed comma item_tokens items ++ (followed dot step_tokens steps ++ step_tokens (step_of n slabs))

abbrev clausal : ItemsTree → List ClauseTree → List Token
clausal items clauses = items_tokens items ++ flat_map (λ c. ampersand ∷ clause_tokens c) clauses

-- the tokens of what was read
abbrev pub told : State → List Token
told Start = []
told (Naming items steps) = followed comma item_tokens items ++ followed dot step_tokens steps
told (Stepped items steps n slabs) = stepped items steps n slabs
told (Opened items steps n slabs) = stepped items steps n slabs ++ open_bracket ∷ []
told (SecondOpened items steps n slabs a) = stepped items steps n slabs ++ open_bracket ∷ number a ∷ colon ∷ []
told (ThirdOpened items steps n slabs a s) = stepped items steps n slabs ++ open_bracket ∷ number a ∷ colon ∷ number s ∷ colon ∷ []
told (Numbered items steps n slabs a) = stepped items steps n slabs ++ open_bracket ∷ number a ∷ []
told (SecondNumbered items steps n slabs a b) = stepped items steps n slabs ++ open_bracket ∷ number a ∷ colon ∷ number b ∷ []
told (ThirdNumbered items steps n slabs a s b) = stepped items steps n slabs ++ open_bracket ∷ number a ∷ colon ∷ number s ∷ colon ∷ number b ∷ []
told (Called items n a) = followed comma item_tokens items ++ name n ∷ argument a ∷ []
told (ClauseNaming items clauses labels) = clausal items clauses ++ ampersand ∷ followed dot (λ label. name label ∷ []) labels
told (ClauseNamed items clauses labels n) = clausal items clauses ++ ampersand ∷ path_tokens labels n
told (Compared items clauses labels n o) = clausal items clauses ++ ampersand ∷ (path_tokens labels n ++ operator o ∷ [])
told (Bracing items clauses labels n o values) = clausal items clauses ++ ampersand ∷ (path_tokens labels n ++ operator o ∷ open_brace ∷ followed comma (λ v. value_token v ∷ []) values)
told (Braced items clauses labels n o values value) = clausal items clauses ++ ampersand ∷ (path_tokens labels n ++ operator o ∷ open_brace ∷ (followed comma (λ v. value_token v ∷ []) values ++ value_token value ∷ []))
told (Clausal items clauses) = clausal items clauses

told_step : (s : State) (t : Token) → IfSome (step s t) (λ next. told next ≡ told s ++ t ∷ [])
told_step Start (name n) = refl
told_step Start ampersand = refl
told_step Start _ = tt
told_step (Naming items steps) (name n) = simp append_assoc
told_step (Naming items steps) _ = tt
told_step (Stepped items steps n slabs) open_bracket = refl
told_step (Stepped items steps n slabs) dot = simp (flat_map-append, append_assoc, append-nil)
told_step (Stepped items steps n slabs) comma = simp (flat_map-append, append_assoc, append-nil)
told_step (Stepped items steps n slabs) ampersand = simp (append_assoc, append-nil)
told_step (Stepped items [] n []) (argument a) = simp append_assoc
told_step (Stepped items steps n slabs) _ = tt
told_step (Opened items steps n slabs) (number a) = simp append_assoc
told_step (Opened items steps n slabs) _ = tt
told_step (SecondOpened items steps n slabs a) (number b) = simp append_assoc
told_step (SecondOpened items steps n slabs a) _ = tt
told_step (ThirdOpened items steps n slabs a s) (number b) = simp append_assoc
told_step (ThirdOpened items steps n slabs a s) _ = tt
told_step (Numbered items steps n slabs a) colon = simp append_assoc
told_step (Numbered items steps n slabs a) close_bracket = simp (flat_map-append, append_assoc, append-nil)
told_step (Numbered items steps n slabs a) _ = tt
told_step (SecondNumbered items steps n slabs a b) colon = simp append_assoc
told_step (SecondNumbered items steps n slabs a b) close_bracket = simp (flat_map-append, append_assoc, append-nil)
told_step (SecondNumbered items steps n slabs a b) _ = tt
told_step (ThirdNumbered items steps n slabs a s b) close_bracket = simp (flat_map-append, append_assoc, append-nil)
told_step (ThirdNumbered items steps n slabs a s b) _ = tt
told_step (Called items n a) comma = simp (flat_map-append, append_assoc, append-nil)
told_step (Called items n a) ampersand = simp (append_assoc, append-nil)
told_step (Called items n a) _ = tt
told_step (ClauseNaming items clauses labels) (name n) = simp append_assoc
told_step (ClauseNaming items clauses labels) _ = tt
told_step (ClauseNamed items clauses labels n) dot = simp (flat_map-append, append_assoc, append-nil)
told_step (ClauseNamed items clauses labels n) (operator o) = simp append_assoc
told_step (ClauseNamed items clauses [] n) (argument a) = simp (flat_map-append, append_assoc, append-nil)
told_step (ClauseNamed items clauses labels n) _ = tt
told_step (Compared items clauses labels n o) (quoted p) = simp (flat_map-append, append_assoc, append-nil)
told_step (Compared items clauses labels n o) (word w) = simp (flat_map-append, append_assoc, append-nil)
told_step (Compared items clauses labels n o) open_brace = simp append_assoc
told_step (Compared items clauses labels n o) _ = tt
told_step (Bracing items clauses labels n o values) (quoted p) = simp append_assoc
told_step (Bracing items clauses labels n o values) (word w) = simp append_assoc
told_step (Bracing items clauses labels n o values) _ = tt
told_step (Braced items clauses labels n o values value) comma = simp (flat_map-append, append_assoc, append-nil)
told_step (Braced items clauses labels n o values value) close_brace = simp (flat_map-append, append_assoc, append-nil)
told_step (Braced items clauses labels n o values value) _ = tt
told_step (Clausal items clauses) ampersand = simp append_assoc
told_step (Clausal items clauses) _ = tt

told_finish : (s : State) → IfSome (finish s) (λ t. told s ≡ constraint_tokens t)
told_finish Start = refl
told_finish (Stepped items steps n slabs) = simp append-nil
told_finish (Called items n a) = simp append-nil
told_finish (Clausal items clauses) = refl
told_finish _ = tt

-- the tokens that the machine reads are those of the tree that it gives
sound_from : (s : State) (tokens : List Token) → IfSome (read s tokens) (λ t. told s ++ tokens ≡ constraint_tokens t)
sound_from s [] = simp append-nil (told_finish s)
sound_from s (t ∷ tokens) = on_step (step s t) (told_step s t) (λ next. sound_from next tokens)
  where
    on_step : (o : Option State) → IfSome o (λ next. told next ≡ told s ++ t ∷ [])
        → ((next : State) → IfSome (read next tokens) (λ tree. told next ++ tokens ≡ constraint_tokens tree))
        → IfSome (option_and_then (λ next. read next tokens) o) (λ tree. told s ++ t ∷ tokens ≡ constraint_tokens tree)
    on_step None h rest = tt
    on_step (Some next) h rest =
        let P : List Token → Type 0 = λ x. IfSome (read next tokens) (λ tree. x ≡ constraint_tokens tree) in
        subst P (ap (λ (x : List Token). x ++ tokens) h ∙ append_assoc (told s) (t ∷ []) tokens) (rest next)

-- the tokens that the machine reads are those of the tree that it gives
pub sound : (tokens : List Token) (tree : ConstraintTree) → read Start tokens ≡ Some tree → tokens ≡ constraint_tokens tree
sound tokens tree h =
    let P : Option ConstraintTree → Type 0 = λ o. IfSome o (λ tree. tokens ≡ constraint_tokens tree) in
    subst P h (sound_from Start tokens)
