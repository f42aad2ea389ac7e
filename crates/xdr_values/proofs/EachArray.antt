-- Arrays one after the other in the bytes of a response.
use Rattle.std.proofs.Common.{◌≡◌, ℕ, List, [], ◌∷◌, sym, subst}
use Rattle.dap_types.specs.Model.{Tree}
use Rattle.dap_types.specs.declared.declarations.ArrayDecl.{ArrayDecl}
use Rattle.dap_model.specs.Fits.{values_in}
use Rattle.dap_model.specs.Xdr.{array_fields, array_fields_of_each}
use Rattle.xdr_values.proofs.Splitting.{spelt_none, spelt_split}
use Rattle.xdr_values.specs.Walked.{StandEach, StandsArray}

pub record EachLeft (arrays : List ArrayDecl) (left rest : List ℕ) : Type 0 where
  pub trees : List Tree
  pub stand : StandEach arrays trees left rest

pub record EachFirst (a : ArrayDecl) (arrays : List ArrayDecl) (left rest : List ℕ) : Type 0 where
  pub tree : Tree
  pub others : List Tree
  pub mid : List ℕ
  pub first : StandsArray a tree left mid
  pub behind : StandEach arrays others mid rest

pub each_first : (a : ArrayDecl) (arrays : List ArrayDecl) (ts : List Tree) (left rest : List ℕ) → StandEach (a ∷ arrays) ts left rest → EachFirst a arrays left rest
each_first a arrays [] left rest st = absurd st.fit
each_first a arrays (t ∷ ts) left rest st =
    let b = spelt_split (array_fields a.base (values_in t)) (array_fields_of_each arrays ts) left rest st.spelt in
    record { tree = t; others = ts; mid = b.mid; first = record { fit = st.fit.0; spelt = b.before }; behind = record { fit = st.fit.1; spelt = b.behind } }

pub each_left_next : (a : ArrayDecl) (arrays : List ArrayDecl) (left rest behind : List ℕ) → EachLeft (a ∷ arrays) left rest → ((t : Tree) (r : List ℕ) → StandsArray a t left r → behind ≡ r) → EachLeft arrays behind rest
each_left_next a arrays left rest behind w rests =
    let f = each_first a arrays w.trees left rest w.stand in
    record { trees = f.others; stand = subst (λ l. StandEach arrays f.others l rest) (sym (rests f.tree f.mid f.first)) f.behind }

none_more : (ts : List Tree) (left rest : List ℕ) → StandEach [] ts left rest → left ≡ rest
none_more [] left rest st = spelt_none left rest st.spelt
none_more (t ∷ ts) left rest st = absurd st.fit

pub each_left_end : (arrays : List ArrayDecl) (left rest : List ℕ) → arrays ≡ [] → EachLeft arrays left rest → left ≡ rest
each_left_end arrays left rest none w = none_more w.trees left rest (subst (λ xs. StandEach xs w.trees left rest) none w.stand)
