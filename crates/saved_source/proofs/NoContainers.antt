-- Empty containers, variable by variable.
use Rattle.std.proofs.Common.{◌≡◌, ℕ, ◌+◌, ◌<◌, ◌≤◌, List, [], ◌∷◌, ◌++◌, length, map, get_or, take, refl, sym, ap, ◌∙◌, take_all}
use Rattle.std.proofs.lemmas.List.{map-append, take_more}
use Rattle.dap_types.specs.Model.{Member, Members, member, members_of, name_of, no_members}
use Rattle.dap_types.specs.Names.{constraint_id}
use Rattle.dap_types.specs.View.{member_view, members_view}
use Rattle.dap_types.specs.declared.declarations.Decl.{Decl}
use Rattle.das_text.proofs.Views.{entries-push}
use Rattle.das_text.specs.Model.{Entry, container, entries_of, entry, no_entries}
use Rattle.das_text.specs.View.{entry_view}
use Rattle.das_text.specs.declared.entries.Entry as code
use Rattle.saved_source.specs.Responses.{empty_containers, renamed, renamed_all}

-- the container of a variable
abbrev pub empty_of : Member → Entry
empty_of m = container (constraint_id (name_of m)) no_entries

name_again : (m : Member) → name_of (renamed m) ≡ constraint_id (name_of m)
name_again (Rattle.dap_types.specs.Model.scalar c) = refl
name_again (Rattle.dap_types.specs.Model.array a) = refl
name_again (Rattle.dap_types.specs.Model.structure name parts) = refl
name_again (Rattle.dap_types.specs.Model.grid name a maps) = refl
name_again (Rattle.dap_types.specs.Model.sequence name columns) = refl

all_empty : (ms : List Member) → entries_of (map empty_of ms) ≡ empty_containers (renamed_all (members_of ms))
all_empty [] = refl
all_empty (m ∷ ms) = ap (λ n. entry (container n no_entries) (entries_of (map empty_of ms))) (sym (name_again m)) ∙ ap (entry (container (name_of (renamed m)) no_entries)) (all_empty ms)

-- one more variable
pub empty_more : (out all : List code.Entry) (decls : List Decl) (i : ℕ) (d : Decl) (e : code.Entry) → i < length decls → d ≡ get_or decls i d → all ≡ out ++ e ∷ [] → entry_view e ≡ empty_of (member_view d) → map entry_view out ≡ map empty_of (map member_view (take i decls))
    → map entry_view all ≡ map empty_of (map member_view (take (i + 1) decls))
empty_more out all decls i d e lt is all_is here before =
    let one : map member_view (take (i + 1) decls) ≡ map member_view (take i decls) ++ member_view (get_or decls i d) ∷ [] = ap (map member_view) (take_more decls i d lt) ∙ map-append member_view (take i decls) (get_or decls i d ∷ []) in
    let two : map empty_of (map member_view (take (i + 1) decls)) ≡ map empty_of (map member_view (take i decls)) ++ empty_of (member_view (get_or decls i d)) ∷ [] =
    ap (map empty_of) one ∙ map-append empty_of (map member_view (take i decls)) (member_view (get_or decls i d) ∷ []) in
    ap (map entry_view) all_is ∙ entries-push out e ∙ ap (λ l. l ++ entry_view e ∷ []) before ∙ ap (λ x. map empty_of (map member_view (take i decls)) ++ x ∷ []) (here ∙ ap (λ x. empty_of (member_view x)) is) ∙ sym two

pub empty_whole : (out : List code.Entry) (decls : List Decl) (i : ℕ) → length decls ≤ i → map entry_view out ≡ map empty_of (map member_view (take i decls)) → entries_of (map entry_view out) ≡ empty_containers (renamed_all (members_view decls))
empty_whole out decls i le is = ap entries_of (is ∙ ap (λ ds. map empty_of (map member_view ds)) (take_all i decls le)) ∙ all_empty (map member_view decls)
