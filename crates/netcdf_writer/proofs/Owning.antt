-- What a top member is stored as beside its maps.
use Rattle.std.proofs.Common.{◌≡◌, ℕ, ◌+◌, ◌<◌, ◌≤◌, List, [], ◌∷◌, ◌++◌, map, drop, length, get_or, refl, ap, sym, ◌∙◌, append-nil, arith}
use Rattle.std.proofs.Common.{Bool, true, false, nat_le, ◌⊎◌, inl, inr}
use Rattle.std.proofs.lemmas.Bool.Decides.{nat_tests}
use Rattle.std.specs.Prelude.{min}
use Rattle.std.proofs.lemmas.List.{drop_all}
use Rattle.plain_lemmas.proofs.Lists.{drop_here}
use Rattle.dap_types.proofs.Views.{view-Structure, view-Sequence, view-Grid}
use Rattle.dap_types.specs.Model.{structure, sequence, grid, member, kids, no_members}
use Rattle.dap_types.specs.Model as model
use Rattle.dap_types.specs.View.{member_view, members_view, tree_view}
use Rattle.dap_types.specs.declared.bytes.Id.{Id}
use Rattle.dap_types.specs.declared.declarations.ArrayDecl.{ArrayDecl}
use Rattle.dap_types.specs.declared.declarations.Column.{Column}
use Rattle.dap_types.specs.declared.declarations.Decl.{Decl, Structure, Grid, Sequence}
use Rattle.dap_types.specs.declared.values.Tree.{Tree}
use Rattle.netcdf_writer.specs.Variables.{Variable, Top, own, tops_of, array_variable, array_variables}

own_none : (m : model.Member) (t : model.Tree) (xs : List Variable) → own (m, t) ≡ [] → xs ≡ xs ++ own (m, t)
own_none m t xs is = sym (append-nil xs) ∙ ap (λ l. xs ++ l) (sym is)

of_structure : (name : Id) (parts : model.Members) (t : model.Tree) → own (structure name parts, t) ≡ []
unfolding own
of_structure name parts t = refl

of_sequence : (name : Id) (columns : List Column) (t : model.Tree) → own (sequence name columns, t) ≡ []
unfolding own
of_sequence name columns t = refl

of_grid : (name : Id) (a : ArrayDecl) (maps : List ArrayDecl) (t : model.Tree) → own (grid name a maps, t) ≡ array_variables (a ∷ []) (kids t)
unfolding own
of_grid name a maps t = refl

pub own_structure : (d : Decl) (name : Id) (parts : List Decl) (t : model.Tree) (xs : List Variable) → d ≡ Structure name parts → xs ≡ xs ++ own (member_view d, t)
own_structure d name parts t xs is = own_none (member_view d) t xs (ap (λ m. own (m, t)) (ap member_view is ∙ view-Structure name parts) ∙ of_structure name (members_view parts) t)

pub own_sequence : (d : Decl) (name : Id) (columns : List Column) (t : model.Tree) (xs : List Variable) → d ≡ Sequence name columns → xs ≡ xs ++ own (member_view d, t)
own_sequence d name columns t xs is = own_none (member_view d) t xs (ap (λ m. own (m, t)) (ap member_view is ∙ view-Sequence name columns) ∙ of_sequence name columns t)

grid_own : (d : Decl) (name : Id) (a : ArrayDecl) (maps : List ArrayDecl) (t : model.Tree) (parts : List Tree) → d ≡ Grid name a maps → map tree_view parts ≡ kids t
    → own (member_view d, t) ≡ array_variables (a ∷ []) (map tree_view parts)
grid_own d name a maps t parts is seen = ap (λ m. own (m, t)) (ap member_view is ∙ view-Grid name a maps) ∙ of_grid name a maps t ∙ ap (array_variables (a ∷ [])) (sym seen)

one_array : (a : ArrayDecl) (parts : List Tree) (first : Tree) → 1 ≤ length parts → first ≡ get_or parts 0 first → array_variables (a ∷ []) (map tree_view parts) ≡ array_variable a (tree_view first) ∷ []
one_array a [] first some is = absurd (omega (arith, some))
one_array a (t ∷ parts) first some is = ap (λ u. array_variable a (tree_view u) ∷ []) (sym is)

no_array : (a : ArrayDecl) (parts : List Tree) → length parts < 1 → array_variables (a ∷ []) (map tree_view parts) ≡ []
no_array a [] none = refl
no_array a (t ∷ parts) none = absurd (omega (arith, none))

pub own_empty_grid : (d : Decl) (name : Id) (a : ArrayDecl) (maps : List ArrayDecl) (t : model.Tree) (parts : List Tree) (xs : List Variable) → d ≡ Grid name a maps → map tree_view parts ≡ kids t
    → length parts < 1 → xs ≡ xs ++ own (member_view d, t)
own_empty_grid d name a maps t parts xs is seen none = own_none (member_view d) t xs (grid_own d name a maps t parts is seen ∙ no_array a parts none)

pub own_grid : (d : Decl) (name : Id) (a : ArrayDecl) (maps : List ArrayDecl) (t : model.Tree) (parts : List Tree) (first : Tree) → d ≡ Grid name a maps → map tree_view parts ≡ kids t
    → 1 ≤ length parts → first ≡ get_or parts 0 first → own (member_view d, t) ≡ array_variable a (tree_view first) ∷ []
own_grid d name a maps t parts first is seen some item = grid_own d name a maps t parts is seen ∙ one_array a parts first some item

-- ---- lists in step

pub tops_step : (ds : List Decl) (ts : List Tree) (k : ℕ) (d : Decl) (t : Tree) → k < length ds → k < length ts → d ≡ get_or ds k d → t ≡ get_or ts k t
    → tops_of (members_view (drop k ds)) (map tree_view (drop k ts)) ≡ (member_view d, tree_view t) ∷ tops_of (members_view (drop (k + 1) ds)) (map tree_view (drop (k + 1) ts))
tops_step ds ts k d t a b is at = rw (drop_here ds k d a is, drop_here ts k t b at) refl

pub arrays_step : (xs : List ArrayDecl) (ts : List Tree) (k : ℕ) (a : ArrayDecl) (t : Tree) → k < length xs → k < length ts → a ≡ get_or xs k a → t ≡ get_or ts k t
    → array_variables (drop k xs) (map tree_view (drop k ts)) ≡ array_variable a (tree_view t) ∷ array_variables (drop (k + 1) xs) (map tree_view (drop (k + 1) ts))
arrays_step xs ts k a t l m is at = rw (drop_here xs k a l is, drop_here ts k t m at) refl

pub ruleset steps = (tops_step, arrays_step)

-- ---- the shorter of two lists is at its end

tops_short : (ms : model.Members) → tops_of ms [] ≡ []
tops_short no_members = refl
tops_short (member m ms) = refl

arrays_short : (xs : List ArrayDecl) → array_variables xs [] ≡ []
arrays_short [] = refl
arrays_short (x ∷ xs) = refl

one_ends : (a b k : ℕ) → min a b ≤ k → (a ≤ k) ⊎ (b ≤ k)
one_ends a b k le = chosen (nat_le a k) refl
  where
    chosen : (t : Bool) → nat_le a k ≡ t → (a ≤ k) ⊎ (b ≤ k)
    chosen true e = inl (grind (arith, nat_tests))
    chosen false e = inr (grind (arith, nat_tests, le))

pub tops_end : (ds : List Decl) (ts : List Tree) (k : ℕ) (out all : List Top) → min (length ds) (length ts) ≤ k → out ++ tops_of (members_view (drop k ds)) (map tree_view (drop k ts)) ≡ all → out ≡ all
tops_end ds ts k out all le so = (elim (one_ends (length ds) (length ts) k le) as (λ _. out ≡ all) [
  | inl a ↦ sym (append-nil out) ∙ ap (λ l. out ++ tops_of (members_view l) (map tree_view (drop k ts))) (sym (drop_all k ds a)) ∙ so
  | inr b ↦ sym (append-nil out) ∙ ap (λ l. out ++ l) (sym (tops_short (members_view (drop k ds)))) ∙ ap (λ l. out ++ tops_of (members_view (drop k ds)) (map tree_view l)) (sym (drop_all k ts b)) ∙ so
])

pub arrays_end : (xs : List ArrayDecl) (ts : List Tree) (k : ℕ) (out all : List Variable) → min (length xs) (length ts) ≤ k → out ++ array_variables (drop k xs) (map tree_view (drop k ts)) ≡ all → out ≡ all
arrays_end xs ts k out all le so = (elim (one_ends (length xs) (length ts) k le) as (λ _. out ≡ all) [
  | inl a ↦ sym (append-nil out) ∙ ap (λ l. out ++ array_variables l (map tree_view (drop k ts))) (sym (drop_all k xs a)) ∙ so
  | inr b ↦ sym (append-nil out) ∙ ap (λ l. out ++ l) (sym (arrays_short (drop k xs))) ∙ ap (λ l. out ++ array_variables (drop k xs) (map tree_view l)) (sym (drop_all k ts b)) ∙ so
])
