-- Containers inside one another, as the reader holds them.
use Rattle.std.proofs.Common.{◌≡◌, List, [], ◌∷◌, ◌++◌, ℕ, length, map, reverse, refl, ap, sym, ◌∙◌}
use Rattle.std.specs.Prelude.{option_map}
use Rattle.std.proofs.lemmas.List.{map-append, reverse-append}
use Rattle.text_lines.specs.TypeWords.{base_of_word}
use Rattle.das_text.specs.inner.Held.{around_view}
use Rattle.das_text.specs.inner.Machine.{Around, inside, named, attribute_of, begin_attribute, leave}
use Rattle.das_text.specs.Model.{entries_of, container}
use Rattle.das_text.specs.Model as model
use Rattle.das_text.specs.View.{entry_view}
use Rattle.das_text.specs.declared.entries.Entry.{Entry, Container}
use Rattle.das_text.specs.declared.levels.Around as code_around
use Rattle.das_text.proofs.Views.{view-Container, entries-push}

outer_push : (outer : List code_around.Around) (a : code_around.Around) → reverse (map around_view (outer ++ a ∷ [])) ≡ around_view a ∷ reverse (map around_view outer)
outer_push outer a = ap reverse (map-append around_view outer (a ∷ [])) ∙ reverse-append (map around_view outer) (around_view a ∷ [])

-- behind the `}` of a container
pub left_view : (old new : List code_around.Around) (around : code_around.Around) (inner dest entries pushed : List Entry) → old ≡ new ++ around ∷ [] → entries ≡ inner → dest ≡ around.entries → pushed ≡ dest ++ Container around.name entries ∷ []
    → inside (reverse (map around_view new)) (map entry_view pushed) ≡ leave (reverse (map around_view old)) (map entry_view inner)
left_view old new around inner dest entries pushed o e d p =
    ap (λ (z : List model.Entry). inside (reverse (map around_view new)) z) (ap (map entry_view) p ∙ entries-push dest (Container around.name entries)
    ∙ ap (λ (z : model.Entry). map entry_view dest ++ z ∷ []) (view-Container around.name entries) ∙ ap (λ (z : List Entry). map entry_view z ++ container around.name (entries_of (map entry_view entries)) ∷ []) d
    ∙ ap (λ (z : List Entry). map entry_view around.entries ++ container around.name (entries_of (map entry_view z)) ∷ []) e)
    ∙ sym (ap (λ (z : List Around). leave z (map entry_view inner)) (ap (λ (z : List code_around.Around). reverse (map around_view z)) o ∙ outer_push new around))

-- an attribute begins in a container
pub begins : (outer : List Around) (inner : List model.Entry) (type name : List ℕ) → (length outer ≡ 0 → ⊥) → begin_attribute outer inner type name ≡ option_map (λ base. named outer inner (attribute_of name base)) (base_of_word type)
begins [] inner type name h = absurd (h refl)
begins (a ∷ outer) inner type name h = refl

pub ruleset attributes = (begins)
