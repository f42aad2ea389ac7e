-- The arrays of a Grid in the bytes of a response, and what goes out of them.
use Rattle.std.proofs.Common.{◌≡◌, ℕ, ◌+◌, List, [], ◌∷◌, ◌++◌, Option, sym, subst}
use Rattle.xdr_values.proofs.ElementRuns.{no_bytes}
use Rattle.dap_types.specs.Model.{Tree}
use Rattle.dap_types.specs.declared.declarations.ArrayDecl.{ArrayDecl}
use Rattle.dap_model.proofs.Values.{bytes_of-append}
use Rattle.dap_model.specs.Filter.{Marks, Suits}
use Rattle.dap_model.specs.Fits.{values_in}
use Rattle.dap_model.specs.Xdr.{array_fields, array_fields_of_each, bytes_of}
use Rattle.dap_outside.proofs.Passing.{IsOnItsWay, way_begins, way_ends, way_failed, way_more}
use Rattle.dap_outside.specs.Buffered.{Passes, PassesFront}
use Rattle.xdr_encode.specs.Marked.{arrays_sent}
use Rattle.xdr_values.proofs.Splitting.{spelt_none, spelt_split}
use Rattle.saved_source.specs.Walked.{StandArrays, array_sent}
use Rattle.xdr_values.specs.Walked.{StandsArray}

pub record ArrayFirst (marks : Marks) (n : ℕ) (a : ArrayDecl) (arrays : List ArrayDecl) (ts : List Tree) (left rest : List ℕ) : Type 0 where
  pub tree : Tree
  pub others : List Tree
  pub mid : List ℕ
  pub first : StandsArray a tree left mid
  pub suits : Suits (marks n) a
  pub behind : StandArrays marks (n + 1) arrays others mid rest
  pub sent : bytes_of (arrays_sent marks n (a ∷ arrays) ts) ≡ bytes_of (array_sent marks n a tree) ++ bytes_of (arrays_sent marks (n + 1) arrays others)

pub array_first : (marks : Marks) (n : ℕ) (a : ArrayDecl) (arrays : List ArrayDecl) (ts : List Tree) (left rest : List ℕ) → StandArrays marks n (a ∷ arrays) ts left rest → ArrayFirst marks n a arrays ts left rest
array_first marks n a arrays [] left rest st = absurd st.fit
array_first marks n a arrays (t ∷ ts) left rest st =
    let b = spelt_split (array_fields a.base (values_in t)) (array_fields_of_each arrays ts) left rest st.spelt in
    record {
      tree = t;
      others = ts;
      mid = b.mid;
      first = record { fit = st.fit.0; spelt = b.before };
      suits = st.suit.0;
      behind = record { fit = st.fit.1; suit = st.suit.1; spelt = b.behind };
      sent = bytes_of-append (array_sent marks n a t) (arrays_sent marks (n + 1) arrays ts);
    }

pub record ArraysWay (before : Option (List ℕ)) (held : List ℕ) (now : Option (List ℕ)) (kept : List ℕ) (marks : Marks) (n : ℕ) (arrays : List ArrayDecl) (left rest text : List ℕ) : Type 0 where
  pub trees : List Tree
  pub stand : StandArrays marks n arrays trees left rest
  pub way : IsOnItsWay before held now kept (bytes_of (arrays_sent marks n arrays trees)) text

pub arrays_begin : (w : Option (List ℕ)) (held : List ℕ) (marks : Marks) (n : ℕ) (arrays : List ArrayDecl) (ts : List Tree) (bytes rest : List ℕ) → StandArrays marks n arrays ts bytes rest
    → ArraysWay w held w held marks n arrays bytes rest (bytes_of (arrays_sent marks n arrays ts))
arrays_begin w held marks n arrays ts bytes rest st = record { trees = ts; stand = st; way = way_begins w held (bytes_of (arrays_sent marks n arrays ts)) }

module _ (a b c : Option (List ℕ)) (held mid after : List ℕ) (marks : Marks) (n : ℕ) (all : List ArrayDecl) (x : ArrayDecl) (arrays : List ArrayDecl) (left rest text : List ℕ) (here : all ≡ x ∷ arrays) where
  from_first : ArraysWay a held b mid marks n all left rest text → ArraysWay a held b mid marks n (x ∷ arrays) left rest text
  from_first w = subst (λ xs. ArraysWay a held b mid marks n xs left rest text) here w

  pub arrays_next : (next : ℕ) (behind : List ℕ) → next ≡ n + 1 → ArraysWay a held b mid marks n all left rest text
      → ((t : Tree) (r : List ℕ) → StandsArray x t left r → Suits (marks n) x → Passes b mid c after (bytes_of (array_sent marks n x t)))
      → ((t : Tree) (r : List ℕ) → StandsArray x t left r → behind ≡ r)
      → ArraysWay a held c after marks next arrays behind rest text
  arrays_next next behind at w puts rests =
      let v = from_first w in
      let f = array_first marks n x arrays v.trees left rest v.stand in
      subst (λ k. ArraysWay a held c after marks k arrays behind rest text) (sym at)
      (record {
        trees = f.others;
        stand = subst (λ l. StandArrays marks (n + 1) arrays f.others l rest) (sym (rests f.tree f.mid f.first)) f.behind;
        way = way_more a b c held mid after _ _ _ text f.sent v.way (puts f.tree f.mid f.first f.suits);
      })

  pub arrays_failed : ArraysWay a held b mid marks n all left rest text
      → ((t : Tree) (r : List ℕ) → StandsArray x t left r → Suits (marks n) x → PassesFront b mid c (bytes_of (array_sent marks n x t))) → PassesFront a held c text
  arrays_failed w puts =
      let v = from_first w in
      let f = array_first marks n x arrays v.trees left rest v.stand in
      way_failed a b c held mid _ _ _ text f.sent v.way (puts f.tree f.mid f.first f.suits)

none_more : (marks : Marks) (n : ℕ) (ts : List Tree) (left rest : List ℕ) → StandArrays marks n [] ts left rest → left ≡ rest
none_more marks n [] left rest st = spelt_none left rest st.spelt
none_more marks n (t ∷ ts) left rest st = absurd st.fit

nothing : (marks : Marks) (n : ℕ) (ts : List Tree) → bytes_of (arrays_sent marks n [] ts) ≡ []
nothing marks n ts = no_bytes

pub arrays_end : (a b : Option (List ℕ)) (held after : List ℕ) (marks : Marks) (n : ℕ) (arrays : List ArrayDecl) (left rest text : List ℕ) → arrays ≡ [] → ArraysWay a held b after marks n arrays left rest text
    → Passes a held b after text × (left ≡ rest)
arrays_end a b held after marks n arrays left rest text none w = go (subst (λ xs. ArraysWay a held b after marks n xs left rest text) none w)
  where
    go : ArraysWay a held b after marks n [] left rest text → Passes a held b after text × (left ≡ rest)
    go w = (way_ends a b held after _ text (nothing marks n w.trees) w.way, none_more marks n w.trees left rest w.stand)
