-- Variables in the bytes of a response, and what goes out of them.
use Rattle.std.proofs.Common.{◌≡◌, ℕ, ◌+◌, Bool, true, false, cond, List, [], ◌∷◌, ◌++◌, length, map, filter, Option, refl, sym, ap, ◌∙◌, subst}
use Rattle.std.specs.List.{flat_map}
use Rattle.std.proofs.lemmas.Bool.{or_parts}
use Rattle.xdr_values.proofs.ElementRuns.{no_bytes}
use Rattle.dap_types.proofs.Views.{items-trees_of}
use Rattle.dap_types.specs.Model.{Member, array, structure, grid, sequence, Members, no_members, member, Tree, one, many, trees_of, items, kids, count}
use Rattle.dap_types.specs.declared.declarations.ArrayDecl.{ArrayDecl}
use Rattle.dap_types.specs.declared.declarations.Column.{Column}
use Rattle.dap_model.proofs.Values.{bytes_of-append}
use Rattle.dap_model.specs.Filter.{Marks, Keeps, marked, unchanged, has_mark, any_has_mark, one_marked, filtered, filtered_all, cut_all}
use Rattle.dap_model.specs.Xdr.{bytes_of, cell_fields, fields, fields_all, mark, row_fields}
use Rattle.dap_outside.proofs.Passing.{IsOnItsWay, way_begins, way_ends, way_failed, way_more}
use Rattle.dap_outside.specs.Buffered.{Passes, PassesFront}
use Rattle.xdr_encode.proofs.Marking.{all-left}
use Rattle.xdr_encode.specs.Marked.{member_sent, members_sent}
use Rattle.xdr_values.proofs.Splitting.{spelt_none, spelt_split}
use Rattle.saved_source.specs.Walked.{StandArrays, StandMembers, StandsMember, row_sent, rows_sent}
use Rattle.xdr_values.specs.Walked.{StandRows, StandsArray}

pub array_stands : (marks : Marks) (n : ℕ) (a : ArrayDecl) (t : Tree) (bytes rest : List ℕ) → StandsMember marks n (array a) t bytes rest → StandsArray a t bytes rest
array_stands marks n a t bytes rest st = record { fit = st.fit; spelt = st.spelt }

pub parts_stand : (marks : Marks) (n : ℕ) (name : List ℕ) (parts : Members) (t : Tree) (bytes rest : List ℕ) → StandsMember marks n (structure name parts) t bytes rest → StandMembers marks (n + 1) parts (kids t) bytes rest
parts_stand marks n name parts t bytes rest st = record { fit = st.fit.1; suits = st.suits; spelt = st.spelt }

pub arrays_stand : (marks : Marks) (n : ℕ) (name : List ℕ) (a : ArrayDecl) (maps : List ArrayDecl) (t : Tree) (bytes rest : List ℕ) → StandsMember marks n (grid name a maps) t bytes rest
    → StandArrays marks (n + 1) (a ∷ maps) (kids t) bytes rest
arrays_stand marks n name a maps t bytes rest st = record { fit = st.fit.1; suit = st.suits; spelt = st.spelt }

pub rows_stand : (marks : Marks) (n : ℕ) (name : List ℕ) (columns : List Column) (t : Tree) (bytes rest : List ℕ) → StandsMember marks n (sequence name columns) t bytes rest → StandRows columns (kids t) bytes rest
rows_stand marks n name columns t bytes rest st = record { fit = st.fit.1; spelt = st.spelt }

-- ---- what goes out of a Structure and of a Sequence
none_left : (marks : Marks) (n : ℕ) (ms : Members) → any_has_mark marks n ms ≡ false → filtered_all marks n ms ≡ no_members
none_left marks n no_members e = refl
none_left marks n (member m ms) e =
    let both = or_parts (has_mark marks n m) (any_has_mark marks (n + count m) ms) e in
    ap (λ b. cond b (member (filtered marks n m) (filtered_all marks (n + count m) ms)) (filtered_all marks (n + count m) ms)) both.0 ∙ none_left marks (n + count m) ms both.1

pub structure_sent : (marks : Marks) (keeps : Keeps) (n : ℕ) (name : List ℕ) (parts : Members) (t : Tree) → members_sent marks keeps (n + 1) parts (kids t) ≡ member_sent marks keeps n (structure name parts) t
structure_sent marks keeps n name parts t = go (any_has_mark marks (n + 1) parts) refl
  where
    left : fields_all (filtered_all marks (n + 1) parts) (cut_all marks keeps (n + 1) parts (kids t)) ≡ members_sent marks keeps (n + 1) parts (kids t)
    left = all-left marks keeps (n + 1) parts (kids t)

    go : (b : Bool) → any_has_mark marks (n + 1) parts ≡ b → members_sent marks keeps (n + 1) parts (kids t) ≡ cond b (fields_all (filtered_all marks (n + 1) parts) (items (trees_of (cut_all marks keeps (n + 1) parts (kids t))))) []
    go true e = sym left ∙ ap (fields_all (filtered_all marks (n + 1) parts)) (sym (items-trees_of (cut_all marks keeps (n + 1) parts (kids t))))
    go false e = sym left ∙ ap (λ ms. fields_all ms (cut_all marks keeps (n + 1) parts (kids t))) (none_left marks (n + 1) parts e)

-- a row with its marked cells
abbrev left_row : Marks → ℕ → Tree → Tree
left_row marks n row = many (trees_of (marked unchanged marks (n + 1) (kids row)))

rows_left : (marks : Marks) (n : ℕ) (columns : List Column) (rows : List Tree) → flat_map (row_fields (marked unchanged marks (n + 1) columns)) (map (left_row marks n) rows) ≡ flat_map (row_sent marks n columns) rows
rows_left marks n columns [] = refl
rows_left marks n columns (row ∷ rows) =
    ap (λ cells. (mark 0x5a ∷ cell_fields (marked unchanged marks (n + 1) columns) cells) ++ flat_map (row_fields (marked unchanged marks (n + 1) columns)) (map (left_row marks n) rows)) (items-trees_of (marked unchanged marks (n + 1) (kids row)))
    ∙ ap (λ fs. row_sent marks n columns row ++ fs) (rows_left marks n columns rows)

pub sequence_sent : (marks : Marks) (keeps : Keeps) (n : ℕ) (name : List ℕ) (columns : List Column) (t : Tree)
    → cond (one_marked marks (n + 1) (length columns)) (rows_sent marks keeps n columns (kids t)) [] ≡ member_sent marks keeps n (sequence name columns) t
sequence_sent marks keeps n name columns t = ap (λ fs. cond (one_marked marks (n + 1) (length columns)) fs []) (sym is)
  where
    is : flat_map (row_fields (marked unchanged marks (n + 1) columns)) (items (trees_of (map (left_row marks n) (filter (keeps n) (kids t))))) ++ mark 0xa5 ∷ [] ≡ rows_sent marks keeps n columns (kids t)
    is =
        ap (λ rows. flat_map (row_fields (marked unchanged marks (n + 1) columns)) rows ++ mark 0xa5 ∷ []) (items-trees_of (map (left_row marks n) (filter (keeps n) (kids t))))
        ∙ ap (λ fs. fs ++ mark 0xa5 ∷ []) (rows_left marks n columns (filter (keeps n) (kids t)))

-- ---- from one member to the next
pub record MembersWay (before : Option (List ℕ)) (held : List ℕ) (now : Option (List ℕ)) (kept : List ℕ) (marks : Marks) (keeps : Keeps) (n : ℕ) (ms : Members) (left rest text : List ℕ) : Type 0 where
  pub trees : List Tree
  pub stand : StandMembers marks n ms trees left rest
  pub way : IsOnItsWay before held now kept (bytes_of (members_sent marks keeps n ms trees)) text

record Divided (marks : Marks) (keeps : Keeps) (n : ℕ) (m : Member) (ms : Members) (ts : List Tree) (left rest : List ℕ) : Type 0 where
  pub tree : Tree
  pub others : List Tree
  pub mid : List ℕ
  pub first : StandsMember marks n m tree left mid
  pub behind : StandMembers marks (n + count m) ms others mid rest
  pub sent : bytes_of (members_sent marks keeps n (member m ms) ts) ≡ bytes_of (member_sent marks keeps n m tree) ++ bytes_of (members_sent marks keeps (n + count m) ms others)

divided : (marks : Marks) (keeps : Keeps) (n : ℕ) (m : Member) (ms : Members) (ts : List Tree) (left rest : List ℕ) → StandMembers marks n (member m ms) ts left rest → Divided marks keeps n m ms ts left rest
divided marks keeps n m ms [] left rest st = absurd st.fit
divided marks keeps n m ms (t ∷ ts) left rest st =
    let b = spelt_split (fields m t) (fields_all ms ts) left rest st.spelt in
    record {
      tree = t;
      others = ts;
      mid = b.mid;
      first = record { fit = st.fit.0; suits = st.suits.0; spelt = b.before };
      behind = record { fit = st.fit.1; suits = st.suits.1; spelt = b.behind };
      sent = bytes_of-append (member_sent marks keeps n m t) (members_sent marks keeps (n + count m) ms ts);
    }

pub members_begin : (w : Option (List ℕ)) (held : List ℕ) (marks : Marks) (keeps : Keeps) (n : ℕ) (ms : Members) (ts : List Tree) (bytes rest : List ℕ) → StandMembers marks n ms ts bytes rest
    → MembersWay w held w held marks keeps n ms bytes rest (bytes_of (members_sent marks keeps n ms ts))
members_begin w held marks keeps n ms ts bytes rest st = record { trees = ts; stand = st; way = way_begins w held (bytes_of (members_sent marks keeps n ms ts)) }

module _ (a b c : Option (List ℕ)) (held mid after : List ℕ) (marks : Marks) (keeps : Keeps) (n : ℕ) (all : Members) (m : Member) (ms : Members) (left rest text : List ℕ) (here : all ≡ member m ms) where
  from_first : MembersWay a held b mid marks keeps n all left rest text → MembersWay a held b mid marks keeps n (member m ms) left rest text
  from_first w = subst (λ xs. MembersWay a held b mid marks keeps n xs left rest text) here w

  pub members_next : (next : ℕ) (behind : List ℕ) → next ≡ n + count m → MembersWay a held b mid marks keeps n all left rest text
      → ((t : Tree) (r : List ℕ) → StandsMember marks n m t left r → Passes b mid c after (bytes_of (member_sent marks keeps n m t)))
      → ((t : Tree) (r : List ℕ) → StandsMember marks n m t left r → behind ≡ r)
      → MembersWay a held c after marks keeps next ms behind rest text
  members_next next behind is w puts rests =
      let v = from_first w in
      let d = divided marks keeps n m ms v.trees left rest v.stand in
      subst (λ k. MembersWay a held c after marks keeps k ms behind rest text) (sym is)
      (record {
        trees = d.others;
        stand = subst (λ l. StandMembers marks (n + count m) ms d.others l rest) (sym (rests d.tree d.mid d.first)) d.behind;
        way = way_more a b c held mid after _ _ _ text d.sent v.way (puts d.tree d.mid d.first);
      })

  pub members_failed : MembersWay a held b mid marks keeps n all left rest text → ((t : Tree) (r : List ℕ) → StandsMember marks n m t left r → PassesFront b mid c (bytes_of (member_sent marks keeps n m t)))
      → PassesFront a held c text
  members_failed w puts =
      let v = from_first w in
      let d = divided marks keeps n m ms v.trees left rest v.stand in
      way_failed a b c held mid _ _ _ text d.sent v.way (puts d.tree d.mid d.first)

none_more : (marks : Marks) (n : ℕ) (ts : List Tree) (left rest : List ℕ) → StandMembers marks n no_members ts left rest → left ≡ rest
none_more marks n [] left rest st = spelt_none left rest st.spelt
none_more marks n (t ∷ ts) left rest st = absurd st.fit

pub members_end : (a b : Option (List ℕ)) (held after : List ℕ) (marks : Marks) (keeps : Keeps) (n : ℕ) (ms : Members) (left rest text : List ℕ) → ms ≡ no_members → MembersWay a held b after marks keeps n ms left rest text
    → Passes a held b after text × (left ≡ rest)
members_end a b held after marks keeps n ms left rest text none w = go (subst (λ m. MembersWay a held b after marks keeps n m left rest text) none w)
  where
    go : MembersWay a held b after marks keeps n no_members left rest text → Passes a held b after text × (left ≡ rest)
    go w = (way_ends a b held after _ text no_bytes w.way, none_more marks n w.trees left rest w.stand)
