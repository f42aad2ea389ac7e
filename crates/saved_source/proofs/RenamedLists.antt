-- The code's lists under new names, variable by variable.
use Rattle.std.proofs.Common.{◌≡◌, ℕ, ◌+◌, ◌<◌, ◌≤◌, List, [], ◌∷◌, ◌++◌, length, map, get_or, take, refl, sym, ap, ◌∙◌}
use Rattle.std.proofs.lemmas.List.{map-append, take_all, take_more}
use Rattle.dap_types.specs.Model.{Member, member, members_of}
use Rattle.dap_types.specs.View.{member_view, members_view}
use Rattle.dap_types.specs.declared.declarations.Decl.{Decl}
use Rattle.saved_source.specs.Responses.{renamed, renamed_all}

pub renamed_of : (ms : List Member) → members_of (map renamed ms) ≡ renamed_all (members_of ms)
renamed_of [] = refl
renamed_of (m ∷ ms) = ap (λ r. member (renamed m) r) (renamed_of ms)

-- one more variable under its new name
pub renamed_more : (out all : List Decl) (decls : List Decl) (i : ℕ) (d x : Decl) → i < length decls → d ≡ get_or decls i d → all ≡ out ++ x ∷ [] → map member_view out ≡ map renamed (map member_view (take i decls)) → member_view x ≡ renamed (member_view d)
    → map member_view all ≡ map renamed (map member_view (take (i + 1) decls))
renamed_more out all decls i d x lt is all_is before here =
    let one : map member_view (take (i + 1) decls) ≡ map member_view (take i decls) ++ member_view (get_or decls i d) ∷ [] = ap (map member_view) (take_more decls i d lt) ∙ map-append member_view (take i decls) (get_or decls i d ∷ []) in
    let two : map renamed (map member_view (take (i + 1) decls)) ≡ map renamed (map member_view (take i decls)) ++ renamed (member_view (get_or decls i d)) ∷ [] =
    ap (map renamed) one ∙ map-append renamed (map member_view (take i decls)) (member_view (get_or decls i d) ∷ []) in
    ap (map member_view) all_is ∙ map-append member_view out (x ∷ []) ∙ ap (λ l. l ++ member_view x ∷ []) before ∙ ap (λ m. map renamed (map member_view (take i decls)) ++ m ∷ []) (here ∙ ap (λ e. renamed (member_view e)) is) ∙ sym two

pub renamed_whole : (out decls : List Decl) (i : ℕ) → length decls ≤ i → map member_view out ≡ map renamed (map member_view (take i decls)) → members_view out ≡ renamed_all (members_view decls)
renamed_whole out decls i le is = ap members_of (is ∙ ap (λ ds. map renamed (map member_view ds)) (take_all i decls le)) ∙ renamed_of (map member_view decls)
