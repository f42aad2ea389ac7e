-- Variables of each kind in the bytes of a response: what is so of what goes out of their own parts, and
-- of what stands behind these, is so of the variables.
use Rattle.std.proofs.Common.{◌≡◌, ℕ, ◌+◌, cond, List, [], ◌∷◌, length, Option, Some, None, refl, sym, subst, append-nil}
use Rattle.std.specs.Option.{option_map_or}
use Rattle.dap_types.specs.Model.{Member, scalar, array, structure, grid, sequence, Members, Tree, one, kids}
use Rattle.dap_types.specs.declared.declarations.ArrayDecl.{ArrayDecl}
use Rattle.dap_types.specs.declared.declarations.Column.{Column}
use Rattle.dap_types.specs.declared.slabs.Slab.{Slab}
use Rattle.dap_types.specs.declared.values.Value.{Value}
use Rattle.dap_model.specs.Filter.{Marks, Keeps, Suits, one_marked}
use Rattle.dap_model.specs.Xdr.{bytes_of, scalar_fields, value_fields}
use Rattle.xdr_encode.specs.Marked.{arrays_sent, member_sent, members_sent}
use Rattle.saved_source.proofs.Walking.{array_stands, arrays_stand, parts_stand, rows_stand, sequence_sent, structure_sent}
use Rattle.xdr_values.proofs.Variables.{scalar_stands}
use Rattle.saved_source.specs.Walked.{StandArrays, StandMembers, StandsMember, array_sent, rows_sent, value_sent}
use Rattle.xdr_values.specs.Walked.{StandRows, StandsArray, StandsValue}

scalar_text : (marks : Marks) (keeps : Keeps) (n : ℕ) (column : Column) (v : Value) → value_sent marks n column.base v ≡ member_sent marks keeps n (scalar column) (one v)
scalar_text marks keeps n column v = go (marks n)
  where
    go : (o : Option (List Slab)) → option_map_or (λ slabs. value_fields column.base v) o [] ≡ option_map_or (λ slabs. scalar_fields column.base (one v)) o []
    go None = refl
    go (Some slabs) = sym (append-nil (value_fields column.base v))

module _ (P : List ℕ → Type 0) (Q : List ℕ → Type 0) (marks : Marks) (keeps : Keeps) (n : ℕ) (m : Member) (bytes : List ℕ) where
  pub scalar_puts : (column : Column) → m ≡ scalar column → ((v : Value) (rest : List ℕ) → StandsValue column.base v bytes rest → P (bytes_of (value_sent marks n column.base v)))
      → (t : Tree) (rest : List ℕ) → StandsMember marks n m t bytes rest → P (bytes_of (member_sent marks keeps n m t))
  scalar_puts column is puts t rest st =
      let own = subst (λ k. StandsMember marks n k t bytes rest) is st in
      let s = scalar_stands column.base t bytes rest own.fit own.spelt in
      subst (λ k. P (bytes_of (member_sent marks keeps n k t))) (sym is)
      (subst (λ u. P (bytes_of (member_sent marks keeps n (scalar column) u))) (sym s.is) (subst (λ fs. P (bytes_of fs)) (scalar_text marks keeps n column s.value) (puts s.value rest s.stands)))

  pub scalar_rest : (column : Column) → m ≡ scalar column → ((v : Value) (rest : List ℕ) → StandsValue column.base v bytes rest → Q rest) → (t : Tree) (rest : List ℕ) → StandsMember marks n m t bytes rest → Q rest
  scalar_rest column is rests t rest st =
      let own = subst (λ k. StandsMember marks n k t bytes rest) is st in let s = scalar_stands column.base t bytes rest own.fit own.spelt in rests s.value rest s.stands

  pub array_puts : (a : ArrayDecl) → m ≡ array a → ((t : Tree) (rest : List ℕ) → StandsArray a t bytes rest → Suits (marks n) a → P (bytes_of (array_sent marks n a t)))
      → (t : Tree) (rest : List ℕ) → StandsMember marks n m t bytes rest → P (bytes_of (member_sent marks keeps n m t))
  array_puts a is puts t rest st =
      let own = subst (λ k. StandsMember marks n k t bytes rest) is st in
      subst (λ k. P (bytes_of (member_sent marks keeps n k t))) (sym is) (puts t rest (array_stands marks n a t bytes rest own) own.suits)

  pub array_rest : (a : ArrayDecl) → m ≡ array a → ((t : Tree) (rest : List ℕ) → StandsArray a t bytes rest → Q rest) → (t : Tree) (rest : List ℕ) → StandsMember marks n m t bytes rest → Q rest
  array_rest a is rests t rest st = rests t rest (array_stands marks n a t bytes rest (subst (λ k. StandsMember marks n k t bytes rest) is st))

  pub structure_puts : (name : List ℕ) (parts : Members) → m ≡ structure name parts → ((ts : List Tree) (rest : List ℕ) → StandMembers marks (n + 1) parts ts bytes rest → P (bytes_of (members_sent marks keeps (n + 1) parts ts)))
      → (t : Tree) (rest : List ℕ) → StandsMember marks n m t bytes rest → P (bytes_of (member_sent marks keeps n m t))
  structure_puts name parts is puts t rest st =
      let own = parts_stand marks n name parts t bytes rest (subst (λ k. StandsMember marks n k t bytes rest) is st) in
      subst (λ k. P (bytes_of (member_sent marks keeps n k t))) (sym is) (subst (λ fs. P (bytes_of fs)) (structure_sent marks keeps n name parts t) (puts (kids t) rest own))

  pub structure_rest : (name : List ℕ) (parts : Members) → m ≡ structure name parts → ((ts : List Tree) (rest : List ℕ) → StandMembers marks (n + 1) parts ts bytes rest → Q rest)
      → (t : Tree) (rest : List ℕ) → StandsMember marks n m t bytes rest → Q rest
  structure_rest name parts is rests t rest st = rests (kids t) rest (parts_stand marks n name parts t bytes rest (subst (λ k. StandsMember marks n k t bytes rest) is st))

  pub grid_puts : (name : List ℕ) (a : ArrayDecl) (maps : List ArrayDecl) → m ≡ grid name a maps → ((ts : List Tree) (rest : List ℕ) → StandArrays marks (n + 1) (a ∷ maps) ts bytes rest → P (bytes_of (arrays_sent marks (n + 1) (a ∷ maps) ts)))
      → (t : Tree) (rest : List ℕ) → StandsMember marks n m t bytes rest → P (bytes_of (member_sent marks keeps n m t))
  grid_puts name a maps is puts t rest st =
      let own = arrays_stand marks n name a maps t bytes rest (subst (λ k. StandsMember marks n k t bytes rest) is st) in subst (λ k. P (bytes_of (member_sent marks keeps n k t))) (sym is) (puts (kids t) rest own)

  pub grid_rest : (name : List ℕ) (a : ArrayDecl) (maps : List ArrayDecl) → m ≡ grid name a maps → ((ts : List Tree) (rest : List ℕ) → StandArrays marks (n + 1) (a ∷ maps) ts bytes rest → Q rest)
      → (t : Tree) (rest : List ℕ) → StandsMember marks n m t bytes rest → Q rest
  grid_rest name a maps is rests t rest st = rests (kids t) rest (arrays_stand marks n name a maps t bytes rest (subst (λ k. StandsMember marks n k t bytes rest) is st))

  pub sequence_puts : (name : List ℕ) (columns : List Column) → m ≡ sequence name columns
      → ((rows : List Tree) (rest : List ℕ) → StandRows columns rows bytes rest → P (bytes_of (cond (one_marked marks (n + 1) (length columns)) (rows_sent marks keeps n columns rows) [])))
      → (t : Tree) (rest : List ℕ) → StandsMember marks n m t bytes rest → P (bytes_of (member_sent marks keeps n m t))
  sequence_puts name columns is puts t rest st =
      let own = rows_stand marks n name columns t bytes rest (subst (λ k. StandsMember marks n k t bytes rest) is st) in
      subst (λ k. P (bytes_of (member_sent marks keeps n k t))) (sym is) (subst (λ fs. P (bytes_of fs)) (sequence_sent marks keeps n name columns t) (puts (kids t) rest own))

  pub sequence_rest : (name : List ℕ) (columns : List Column) → m ≡ sequence name columns → ((rows : List Tree) (rest : List ℕ) → StandRows columns rows bytes rest → Q rest)
      → (t : Tree) (rest : List ℕ) → StandsMember marks n m t bytes rest → Q rest
  sequence_rest name columns is rests t rest st = rests (kids t) rest (rows_stand marks n name columns t bytes rest (subst (λ k. StandsMember marks n k t bytes rest) is st))
