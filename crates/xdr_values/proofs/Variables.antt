-- Variables in the bytes of a response, by their kind, and one after the other.
use Rattle.std.proofs.Common.{◌≡◌, ℕ, List, [], ◌∷◌, refl, sym, subst, append-nil}
use Rattle.dap_types.specs.Model.{Member, scalar, array, structure, grid, sequence, Members, no_members, member, Tree, one, many, kids}
use Rattle.dap_types.specs.declared.declarations.ArrayDecl.{ArrayDecl}
use Rattle.dap_types.specs.declared.declarations.BaseType.{BaseType}
use Rattle.dap_types.specs.declared.declarations.Column.{Column}
use Rattle.dap_types.specs.declared.values.Value.{Value}
use Rattle.dap_model.specs.Fits.{FitsScalar}
use Rattle.dap_model.specs.Xdr.{fields, fields_all, scalar_fields, value_fields}
use Rattle.xdr_decode.specs.inner.Taken.{Spelt}
use Rattle.xdr_values.proofs.EachArray.{each_first}
use Rattle.xdr_values.proofs.Splitting.{spelt_none, spelt_split}
use Rattle.xdr_values.specs.Walked.{StandAll, StandEach, StandRows, Stands, StandsArray, StandsValue}

-- ---- a member by its kind
pub record IsScalar (base : BaseType) (t : Tree) (bytes rest : List ℕ) : Type 0 where
  pub value : Value
  pub is : t ≡ one value
  pub stands : StandsValue base value bytes rest

pub scalar_stands : (base : BaseType) (t : Tree) (bytes rest : List ℕ) → FitsScalar base t → Spelt (scalar_fields base t) bytes rest → IsScalar base t bytes rest
scalar_stands base (one v) bytes rest fit s = record { value = v; is = refl; stands = record { is_of = fit; spelt = subst (λ fs. Spelt fs bytes rest) (append-nil (value_fields base v)) s } }
scalar_stands base (many ts) bytes rest fit s = absurd fit

-- ---- what stands behind one
module _ (m : Member) (t : Tree) (bytes rest behind : List ℕ) (st : Stands m t bytes rest) where
  pub scalar_behind : (column : Column) → m ≡ scalar column → ((v : Value) (r : List ℕ) → StandsValue column.base v bytes r → behind ≡ r) → behind ≡ rest
  scalar_behind column is rests =
      let own = subst (λ k. Stands k t bytes rest) is st in let s = scalar_stands column.base t bytes rest own.fit own.spelt in rests s.value rest s.stands

  pub array_behind : (a : ArrayDecl) → m ≡ array a → ((t : Tree) (r : List ℕ) → StandsArray a t bytes r → behind ≡ r) → behind ≡ rest
  array_behind a is rests = let own = subst (λ k. Stands k t bytes rest) is st in rests t rest (record { fit = own.fit; spelt = own.spelt })

  pub structure_behind : (name : List ℕ) (parts : Members) → m ≡ structure name parts → ((ts : List Tree) (r : List ℕ) → StandAll parts ts bytes r → behind ≡ r) → behind ≡ rest
  structure_behind name parts is rests = let own = subst (λ k. Stands k t bytes rest) is st in rests (kids t) rest (record { fit = own.fit.1; spelt = own.spelt })

  pub grid_behind : (name : List ℕ) (a : ArrayDecl) (maps : List ArrayDecl) (mid : List ℕ) → m ≡ grid name a maps → ((t : Tree) (r : List ℕ) → StandsArray a t bytes r → mid ≡ r)
      → ((ts : List Tree) (r : List ℕ) → StandEach maps ts mid r → behind ≡ r) → behind ≡ rest
  grid_behind name a maps mid is first rests =
      let own = subst (λ k. Stands k t bytes rest) is st in
      let f = each_first a maps (kids t) bytes rest (record { fit = own.fit.1; spelt = own.spelt }) in
      rests f.others rest (subst (λ l. StandEach maps f.others l rest) (sym (first f.tree f.mid f.first)) f.behind)

  pub sequence_behind : (name : List ℕ) (columns : List Column) → m ≡ sequence name columns → ((rows : List Tree) (r : List ℕ) → StandRows columns rows bytes r → behind ≡ r) → behind ≡ rest
  sequence_behind name columns is rests = let own = subst (λ k. Stands k t bytes rest) is st in rests (kids t) rest (record { fit = own.fit.1; spelt = own.spelt })

-- ---- from one to the next
pub record MembersLeft (ms : Members) (left rest : List ℕ) : Type 0 where
  pub trees : List Tree
  pub stand : StandAll ms trees left rest

pub record MemberFirst (m : Member) (ms : Members) (left rest : List ℕ) : Type 0 where
  pub tree : Tree
  pub others : List Tree
  pub mid : List ℕ
  pub first : Stands m tree left mid
  pub behind : StandAll ms others mid rest

pub member_first : (m : Member) (ms : Members) (ts : List Tree) (left rest : List ℕ) → StandAll (member m ms) ts left rest → MemberFirst m ms left rest
member_first m ms [] left rest st = absurd st.fit
member_first m ms (t ∷ ts) left rest st =
    let b = spelt_split (fields m t) (fields_all ms ts) left rest st.spelt in
    record { tree = t; others = ts; mid = b.mid; first = record { fit = st.fit.0; spelt = b.before }; behind = record { fit = st.fit.1; spelt = b.behind } }

pub members_left_next : (all : Members) (m : Member) (ms : Members) (left rest behind : List ℕ) → all ≡ member m ms → MembersLeft all left rest → ((t : Tree) (r : List ℕ) → Stands m t left r → behind ≡ r) → MembersLeft ms behind rest
members_left_next all m ms left rest behind here w rests =
    let f = member_first m ms w.trees left rest (subst (λ k. StandAll k w.trees left rest) here w.stand) in
    record { trees = f.others; stand = subst (λ l. StandAll ms f.others l rest) (sym (rests f.tree f.mid f.first)) f.behind }

none_more : (ts : List Tree) (left rest : List ℕ) → StandAll no_members ts left rest → left ≡ rest
none_more [] left rest st = spelt_none left rest st.spelt
none_more (t ∷ ts) left rest st = absurd st.fit

pub members_left_end : (ms : Members) (left rest : List ℕ) → ms ≡ no_members → MembersLeft ms left rest → left ≡ rest
members_left_end ms left rest none w = none_more w.trees left rest (subst (λ k. StandAll k w.trees left rest) none w.stand)
