-- DDS texts that are read, and bad tokens.
use Rattle.std.proofs.Common.{◌≡◌, ℕ, List, [], ◌∷◌, ◌++◌, ◌-◌, take, drop, length, replicate, None, Some, option_map, slice_get, zero, suc, ◌+◌, ◌<◌, nat_lt, true, false, codes, refl, inl, subst, arith}
use Rattle.std.proofs.lemmas.Bool.Decides.{nat_tests}
use Rattle.std.specs.List.{list_any}
use Rattle.std.specs.Option.{option_map_or}
use Rattle.dap_types.proofs.Rules.{well_formed_without_fault}
use Rattle.dap_types.specs.Model.{Member, scalar, array, structure, grid, members_of, Dataset}
use Rattle.dap_types.specs.WellFormed.{fault}
use Rattle.dap_types.specs.declared.declarations.Dim.{Dim}
use Rattle.dap_types.specs.declared.declarations.BaseType.TheVariants.{Int16, Int32}
use Rattle.dap_model.proofs.Files.{dataset, dim, array_of, column, lat}
use Rattle.dap_model.proofs.FirstBad.{first_bad}
use Rattle.dap_model.specs.Grammar.{dataset_slots, StandsFor, DdsOf, IsBad, IsBadAt}
use Rattle.dap_model.specs.Tokens.{Token, word, whole_tokens, tokens_of}

-- a Grid with free white space and words in other case
abbrev grid_text : List ℕ
grid_text = codes "dataset{grid {array:\tInt16 g [ lat=02 ][lon = 3 ] ;\nMAPS : int32 lat[lat = 2];Int32 lon[3]; } g; } g.nc;"

abbrev one_grid : Dataset
one_grid = dataset (codes "g.nc") (grid (codes "g") (array_of Int16 (codes "g") (dim (codes "lat") 2 ∷ dim (codes "lon") 3 ∷ [])) (lat ∷ array_of Int32 (codes "lon") (record { name = None; size = 3 } ∷ []) ∷ []) ∷ [])

no_fault : fault one_grid ≡ None
unfolding fault
no_fault = refl

reads_grid : DdsOf grid_text one_grid
reads_grid = record { stands = (refl, refl); ends = (take (length grid_text - 1) grid_text, refl); well_formed = well_formed_without_fault one_grid no_fault }

-- token k of the text breaks a rule, where the whole text stands for d
abbrev Shows : List ℕ → ℕ → Dataset → Type 0
Shows text k d = (StandsFor (take (k + 1) (tokens_of text) ++ drop (k + 1) (tokens_of text)) d)
    × (option_map_or (λ j. j.broken) (slice_get (dataset_slots d) k) false ≡ true)
    × (list_any (λ j. j.broken) (take k (dataset_slots d)) ≡ false)

-- so it is bad, at its place
shown_bad : (text : List ℕ) (k place : ℕ) (d : Dataset) → nat_lt k (length (tokens_of text)) ≡ true → Shows text k d → option_map (λ p. p.place) (slice_get (whole_tokens text) k) ≡ Some place → IsBadAt text place
shown_bad text k place d within shows is =
    let lt : k < length (tokens_of text) = grind (arith, nat_tests) in
    let next : k + 1 ≡ suc k = omega arith in
    let stands : StandsFor (take (suc k) (tokens_of text) ++ drop (suc k) (tokens_of text)) d =
    subst (λ n. StandsFor (take n (tokens_of text) ++ drop n (tokens_of text)) d) next shows.0 in
    (k, first_bad (tokens_of text) (drop (suc k) (tokens_of text)) d k lt stands shows.1 shows.2, is)

abbrev sized : List ℕ → ℕ → Dim
sized name n = record { name = None; size = n }

-- a repeated name is bad at the second name
repeated_name : IsBadAt (codes "Dataset {\n    Int32 a;\n    Int32 a;\n} f;\n") 33
repeated_name = shown_bad (codes "Dataset {\n    Int32 a;\n    Int32 a;\n} f;\n") 6 33 (dataset (codes "f") (scalar (column Int32 (codes "a")) ∷ scalar (column Int32 (codes "a")) ∷ [])) refl ((refl, refl), refl, refl) refl

-- a map of another size, in both forms: bad at the size, or at the bracket behind it
other_size : IsBadAt (codes "Dataset { Grid { Array: Int32 g[a=2]; Maps: Int32 a[a=3]; } g; } f;") 54
other_size = shown_bad (codes "Dataset { Grid { Array: Int32 g[a=2]; Maps: Int32 a[a=3]; } g; } f;") 21 54 (dataset (codes "f") (grid (codes "g") (array_of Int32 (codes "g") (dim (codes "a") 2 ∷ [])) (array_of Int32 (codes "a") (dim (codes "a") 3 ∷ []) ∷ []) ∷ [])) refl ((refl, refl), refl, refl) refl

other_size_bare : IsBadAt (codes "Dataset { Grid { Array: Int32 g[2]; Maps: Int32 a[3]; } g; } f;") 51
other_size_bare = shown_bad (codes "Dataset { Grid { Array: Int32 g[2]; Maps: Int32 a[3]; } g; } f;") 18 51 (dataset (codes "f") (grid (codes "g") (array_of Int32 (codes "g") (sized [] 2 ∷ [])) (array_of Int32 (codes "a") (sized [] 3 ∷ []) ∷ []) ∷ [])) refl ((refl, refl), refl, refl) refl

-- a map too many, a map too few, and a map of two dimensions
map_too_many : IsBadAt (codes "Dataset { Grid { Array: Int32 g[2]; Maps: Int32 a[2]; Int32 b[2]; } g; } f;") 54
map_too_many = shown_bad (codes "Dataset { Grid { Array: Int32 g[2]; Maps: Int32 a[2]; Int32 b[2]; } g; } f;") 20 54 (dataset (codes "f") (grid (codes "g") (array_of Int32 (codes "g") (sized [] 2 ∷ [])) (array_of Int32 (codes "a") (sized [] 2 ∷ []) ∷ array_of Int32 (codes "b") (sized [] 2 ∷ []) ∷ []) ∷ [])) refl ((refl, refl), refl, refl) refl

map_too_few : IsBadAt (codes "Dataset { Grid { Array: Int32 g[2]; Maps: } g; } f;") 42
map_too_few = shown_bad (codes "Dataset { Grid { Array: Int32 g[2]; Maps: } g; } f;") 14 42 (dataset (codes "f") (grid (codes "g") (array_of Int32 (codes "g") (sized [] 2 ∷ [])) [] ∷ [])) refl ((refl, refl), refl, refl) refl

second_bracket : IsBadAt (codes "Dataset { Grid { Array: Int32 g[2]; Maps: Int32 a[2][2]; } g; } f;") 52
second_bracket = shown_bad (codes "Dataset { Grid { Array: Int32 g[2]; Maps: Int32 a[2][2]; } g; } f;") 19 52 (dataset (codes "f") (grid (codes "g") (array_of Int32 (codes "g") (sized [] 2 ∷ [])) (array_of Int32 (codes "a") (sized [] 2 ∷ sized [] 2 ∷ []) ∷ []) ∷ [])) refl ((refl, refl), refl, refl) refl

-- a scalar inside so many structures
abbrev inside : ℕ → Member
inside zero = scalar (column Int32 (codes "a"))
inside (suc n) = structure (codes "s") (members_of (inside n ∷ []))

-- a member of depth 17 is bad at its type word
too_deep : IsBadAt (codes "Dataset {Structure {Structure {Structure {Structure {Structure {Structure {Structure {Structure {Structure {Structure {Structure {Structure {Structure {Structure {Structure {Structure {Int32 a;} s;} s;} s;} s;} s;} s;} s;} s;} s;} s;} s;} s;} s;} s;} s;} s;} f;") 185
too_deep = shown_bad (codes "Dataset {Structure {Structure {Structure {Structure {Structure {Structure {Structure {Structure {Structure {Structure {Structure {Structure {Structure {Structure {Structure {Structure {Int32 a;} s;} s;} s;} s;} s;} s;} s;} s;} s;} s;} s;} s;} s;} s;} s;} s;} f;") 34 185 (dataset (codes "f") (inside 16 ∷ [])) refl ((refl, refl), refl, refl) refl

-- a thirty-third dimension is bad at its bracket
many_dims : IsBadAt (codes "Dataset {Int32 a[1][1][1][1][1][1][1][1][1][1][1][1][1][1][1][1][1][1][1][1][1][1][1][1][1][1][1][1][1][1][1][1][1];} f;") 112
many_dims = shown_bad (codes "Dataset {Int32 a[1][1][1][1][1][1][1][1][1][1][1][1][1][1][1][1][1][1][1][1][1][1][1][1][1][1][1][1][1][1][1][1][1];} f;") 100 112 (dataset (codes "f") (array (array_of Int32 (codes "a") (replicate 33 (sized [] 1))) ∷ [])) refl ((refl, refl), refl, refl) refl

-- a grammar's bad token: no text begins with it
no_keyword : (more : List Token) (d : Dataset) → StandsFor (word (codes "Byte") ∷ more) d → ⊥
no_keyword more d stands = cc stands.1

bad_first : IsBad (tokens_of (codes "Byte x;")) 0
bad_first = inl (λ b. no_keyword b.0 b.1 b.2)
