-- Levels inside one another.
use Rattle.std.proofs.Common.{◌≡◌, ℕ, ◌+◌, List, [], ◌∷◌, ◌++◌, length, All, ap, ◌∙◌, sym, refl, subst, append-nil, take, ◌-◌, Some, arith}
use Rattle.std.specs.List.{list_any}
use Rattle.std.specs.Str.{bytes_eq}
use Rattle.std.proofs.lemmas.List.Elements.{All-push, All-pop}
use Rattle.dap_types.specs.Model.{Member}
use Rattle.dds_text.specs.inner.Held.{level_view, nested, nested_on, HasNames, AllNamed, NamesAre, HasColumnNames}
use Rattle.dds_text.specs.inner.States.{Levels, top, within, add, members_in, depth_of, closed, dataset_closed, whole_structure, behind_level, is_name_of, is_name_of_column}
use Rattle.dds_text.specs.declared.level.Columns.{Columns}
use Rattle.dds_text.specs.declared.level.Level.{Level}

nested_on-push : (around : Levels) (ls : List Level) (l inner : Level) → nested_on around (ls ++ l ∷ []) inner ≡ within (nested_on around ls l) (level_view inner)
nested_on-push around [] l inner = refl
nested_on-push around (k ∷ ls) l inner = nested_on-push (within around (level_view k)) ls l inner

-- a level inside the others
pub nested-push : (ls : List Level) (l inner : Level) → nested (ls ++ l ∷ []) inner ≡ within (nested ls l) (level_view inner)
unfolding nested
nested-push [] l inner = refl
nested-push (k ∷ ls) l inner = nested_on-push (top (level_view k)) ls l inner

nested_on-add : (around : Levels) (ls : List Level) (inner more : Level) (m : Member) → level_view more ≡ level_view inner ++ m ∷ [] → nested_on around ls more ≡ add (nested_on around ls inner) m
nested_on-add around [] inner more m e = ap (within around) e
nested_on-add around (k ∷ ls) inner more m e = nested_on-add (within around (level_view k)) ls inner more m e

-- one member more
pub nested-add : (ls : List Level) (inner more : Level) (m : Member) → level_view more ≡ level_view inner ++ m ∷ [] → nested ls more ≡ add (nested ls inner) m
unfolding nested
nested-add [] inner more m e = ap top e
nested-add (k ∷ ls) inner more m e = nested_on-add (top (level_view k)) ls inner more m e

pub nested-none : (inner : Level) → nested [] inner ≡ top (level_view inner)
unfolding nested
nested-none inner = refl

nested_on-members : (around : Levels) (ls : List Level) (inner : Level) → members_in (nested_on around ls inner) ≡ level_view inner
nested_on-members around [] inner = refl
nested_on-members around (k ∷ ls) inner = nested_on-members (within around (level_view k)) ls inner

pub nested-members : (ls : List Level) (inner : Level) → members_in (nested ls inner) ≡ level_view inner
unfolding nested
nested-members [] inner = refl
nested-members (k ∷ ls) inner = nested_on-members (top (level_view k)) ls inner

nested_on-depth : (around : Levels) (ls : List Level) (inner : Level) → depth_of (nested_on around ls inner) ≡ depth_of around + length ls + 1
nested_on-depth around [] inner = let e : depth_of around + 1 ≡ depth_of around + 0 + 1 = omega arith in e
nested_on-depth around (k ∷ ls) inner = nested_on-depth (within around (level_view k)) ls inner ∙ (let e : depth_of around + 1 + length ls + 1 ≡ depth_of around + length (k ∷ ls) + 1 = omega arith in e)

pub nested-depth : (ls : List Level) (inner : Level) → depth_of (nested ls inner) ≡ length ls + 1
unfolding nested
nested-depth [] inner = refl
nested-depth (k ∷ ls) inner = nested_on-depth (top (level_view k)) ls inner ∙ (let e : 1 + length ls + 1 ≡ length (k ∷ ls) + 1 = omega arith in e)

-- behind the `{` of a Structure
pub entered_view : (old new : List Level) (around inner dest fresh : Level) → new ≡ old ++ around ∷ [] → around ≡ inner → dest ≡ fresh → level_view fresh ≡ [] → nested new dest ≡ within (nested old inner) []
entered_view old new around inner dest fresh e a d f =
    ap (λ ls. nested ls dest) e ∙ nested-push old around dest ∙ ap (λ l. within (nested old l) (level_view dest)) a ∙ ap (λ ms. within (nested old inner) ms) (ap level_view d ∙ f)

pub all_pushed : (old new : List Level) (around inner : Level) → new ≡ old ++ around ∷ [] → around ≡ inner → HasNames inner → All HasNames old → All HasNames new
all_pushed old new around inner e a named all = subst (All HasNames) (sym e) (All-push HasNames old around all (subst HasNames (sym a) named))

-- behind the `}` of a Structure
pub left_view : (old new : List Level) (around inner dest out : Level) → old ≡ new ++ around ∷ [] → out ≡ inner → dest ≡ around
    → closed (nested new dest) (whole_structure (level_view out)) ≡ behind_level (nested old inner)
left_view old new around inner dest out e o d =
    ap (λ l. closed (nested new l) (whole_structure (level_view out))) d ∙ ap (λ l. closed (nested new around) (whole_structure (level_view l))) o
    ∙ ap behind_level (sym (ap (λ ls. nested ls inner) e ∙ nested-push new around inner))

pub all_popped : (old new : List Level) (around : Level) → old ≡ new ++ around ∷ [] → All HasNames old → All HasNames new × HasNames around
all_popped old new around e all = All-pop HasNames old new (Some around) e all

-- behind the `}` of the dataset
pub none_around : (old new : List Level) (n : ℕ) → n ≡ 0 → new ≡ take (n - 1) old → old ≡ new ++ [] → (old ≡ []) × (new ≡ [])
none_around old new n z e o =
    let empty : new ≡ [] = e ∙ ap (λ k. take (k - 1) old) z in
    (o ∙ append-nil new ∙ empty, empty)

pub last_view : (old : List Level) (inner out : Level) → old ≡ [] → out ≡ inner → dataset_closed (level_view out) ≡ behind_level (nested old inner)
last_view old inner out e o = ap (λ l. dataset_closed (level_view l)) o ∙ ap behind_level (sym (ap (λ ls. nested ls inner) e ∙ nested-none inner))

-- a name is one of the innermost level's, or of a Sequence's columns
pub member_found : (inner : Level) (outer : List Level) (n : List ℕ) → AllNamed inner outer → list_any (bytes_eq n) inner.names ≡ is_name_of (members_in (nested outer inner)) n
unfolding AllNamed NamesAre
member_found inner outer n have = have.0 n ∙ ap (λ ms. is_name_of ms n) (sym (nested-members outer inner))

pub column_found : (columns : Columns) (n : List ℕ) → HasColumnNames columns → list_any (bytes_eq n) columns.names ≡ is_name_of_column columns.list n
unfolding NamesAre
column_found columns n have = have n

pub ruleset depths = (nested-depth)

pub ruleset found = (member_found, column_found)
