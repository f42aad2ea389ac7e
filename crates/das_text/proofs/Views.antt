-- What each variant stands for.
use Rattle.std.proofs.Common.{◌≡◌, ℕ, ◌+◌, ◌<◌, ◌≤◌, List, [], ◌∷◌, ◌++◌, map, get_or, drop, length, ap, rules}
use Rattle.std.proofs.lemmas.List.{drop_all, map-append}
use Rattle.plain_lemmas.proofs.Lists.{drop_here}
use Rattle.dap_types.specs.declared.bytes.Id.{Id}
use Rattle.das_text.specs.Model.{attribute, container, entry, no_entries}
use Rattle.das_text.specs.View.{entry_view, entries_view}
use Rattle.das_text.specs.declared.entries.Attribute.{Attribute}
use Rattle.das_text.specs.declared.entries.Entry.{Entry, Attr, Container, the_lemmas}

pub view-Attr : (a : Attribute) → entry_view (Attr a) ≡ attribute a
unfolding entry_view
view-Attr a = search (rules, the_lemmas)

pub view-Container : (name : Id) (entries : List Entry) → entry_view (Container name entries) ≡ container name (entries_view entries)
unfolding entry_view
view-Container name entries = search (rules, the_lemmas)

pub ruleset views = (view-Attr, view-Container)

-- from a place on there are the entry at that place and those after it
pub entries-here : (entries : List Entry) (i : ℕ) (e : Entry) → i < length entries → e ≡ get_or entries i e → entries_view (drop i entries) ≡ entry (entry_view e) (entries_view (drop (i + 1) entries))
entries-here entries i e lt is = ap entries_view (drop_here entries i e lt is)

pub entries-end : (entries : List Entry) (i : ℕ) → length entries ≤ i → entries_view (drop i entries) ≡ no_entries
entries-end entries i le = ap entries_view (drop_all i entries le)

pub ruleset walks = (entries-here, entries-end)

-- one entry more
pub entries-push : (entries : List Entry) (e : Entry) → map entry_view (entries ++ e ∷ []) ≡ map entry_view entries ++ entry_view e ∷ []
entries-push entries e = map-append entry_view entries (e ∷ [])

pub ruleset pushes = (entries-push)
