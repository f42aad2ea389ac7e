-- A printed DDS of words is read back, and two datasets with one DDS text are the same.
use Rattle.std.proofs.Common.{◌≡◌, ℕ, ◌+◌, ◌^◌, ◌<◌, ◌≤◌, inl, append_assoc, length-append, List, [], ◌∷◌, ◌++◌, length, map, All, Bool, true, nat_lt, Option, Some, None, codes, refl, ap, ◌∙◌, sym, subst, arith}
use Rattle.std.proofs.lemmas.Bool.Decides.{nat_tests}
use Rattle.std.proofs.lemmas.List.Elements.{All-cons, All-nil}
use Rattle.std.specs.Cmp.Lexicographic.{pointwise}
use Rattle.std.specs.List.{list_all}
use Rattle.std.proofs.lemmas.Bool.{and_from}
use Rattle.dap_types.specs.Model.{Member, scalar, array, structure, grid, sequence, Members, no_members, member, Dataset, Tree, name_of, count, sizes}
use Rattle.dap_types.specs.WellFormed.{Place, place, places, part_places, leaf_places, places_of, elements_of, IsSized, IsWellFormed}
use Rattle.dap_types.specs.declared.declarations.ArrayDecl.{ArrayDecl}
use Rattle.dap_types.specs.declared.declarations.Column.{Column}
use Rattle.dap_types.specs.declared.declarations.Dim.{Dim}
use Rattle.dap_model.proofs.Judging.{Each, Small, each_append}
use Rattle.dap_model.proofs.OneDataset.{one_dataset}
use Rattle.dap_model.proofs.PrintedMembers.{dds_text, dds-text, tokens_of-dds, tokens_of-dds_text}
use Rattle.dap_model.proofs.Spelling.{xdr_spells}
use Rattle.dap_model.specs.Body.{body, IsBody}
use Rattle.dap_model.specs.Fits.{FitsAll}
use Rattle.dap_model.specs.Xdr.{xdr}
use Rattle.dap_model.proofs.Told.{spelled_told}
use Rattle.dap_model.proofs.Values.{all_first, all_rest, all_front, all_back}
use Rattle.dap_model.specs.Dds.{type_word, line, members_text, dds}
use Rattle.dap_model.specs.Grammar.{DdsOf, StandsFor, spells, keyword, sign, Judged, fine, closes, semicolon, colon, head, named, size_slots, dim_slots, array_slots, column_slots, map_slots, whole_slots, slots, slots_all, dataset_slots, has_dims, have_dims, all_have_dims, HasWords}
use Rattle.dap_model.specs.Tokens.{is_white, tokens_of}

abbrev SmallSlot : Judged → Type 0
SmallSlot j = Small j.slot

abbrev Sized : Place → Type 0
Sized p = IsSized p.variable

small_size : (wanted : Option ℕ) (own : Option (List ℕ)) (n : ℕ) → n ≤ 2147483647 → Each SmallSlot (size_slots wanted own n)
small_size wanted None n small = (small, (tt, tt))
small_size wanted (Some own) n small = (tt, (tt, (small, (tt, tt))))

small_dims : (most : ℕ) (wanted : Option ℕ) (k : ℕ) (dims : List Dim) → All (λ n. n ≤ 2147483647) (map (λ dim. dim.size) dims) → Each SmallSlot (dim_slots most wanted k dims)
small_dims most wanted k [] small = tt
small_dims most wanted k (d ∷ ds) small = (
  tt,
  each_append SmallSlot (size_slots wanted d.name d.size) (dim_slots most wanted (k + 1) ds)
      (small_size wanted d.name d.size (all_first (λ n. n ≤ 2147483647) d.size (map (λ dim. dim.size) ds) small))
      (small_dims most wanted (k + 1) ds (all_rest (λ n. n ≤ 2147483647) d.size (map (λ dim. dim.size) ds) small)),
)

small_array : (most : ℕ) (wanted : Option ℕ) (broken : Bool) (before : List (List ℕ)) (a : ArrayDecl) → IsSized (array a)
    → Each SmallSlot (array_slots most wanted (record { slot = keyword (type_word a.base); broken = broken }) before a)
small_array most wanted broken before a sized = (tt, (tt, each_append SmallSlot (dim_slots most wanted 1 a.dims) (semicolon ∷ []) (small_dims most wanted 1 a.dims sized.2) (tt, tt)))

small_columns : (sd n : ℕ) (before : List (List ℕ)) (columns : List Column) → Each SmallSlot (column_slots sd n before columns)
small_columns sd n before [] = tt
small_columns sd n before (c ∷ columns) = (tt, (tt, (tt, small_columns sd (n + 1) (c.name ∷ before) columns)))

small_maps : (sd n pd : ℕ) (before earlier : List (List ℕ)) (wanted : List ℕ) (maps : List ArrayDecl) → All Sized (leaf_places pd earlier (map array maps)) → Each SmallSlot (map_slots sd n before wanted maps)
small_maps sd n pd before earlier wanted [] sized = tt
small_maps sd n pd before earlier [] (m ∷ maps) sized =
    let later = leaf_places pd (m.name ∷ earlier) (map array maps) in
    each_append SmallSlot (array_slots 1 None (record { slot = keyword (type_word m.base); broken = true }) before m) (map_slots sd (n + 1) (m.name ∷ before) [] maps)
    (small_array 1 None true before m (all_first Sized (place pd earlier (array m)) later sized)) (small_maps sd (n + 1) pd (m.name ∷ before) (m.name ∷ earlier) [] maps (all_rest Sized (place pd earlier (array m)) later sized))
small_maps sd n pd before earlier (w ∷ wanted) (m ∷ maps) sized =
    let later = leaf_places pd (m.name ∷ earlier) (map array maps) in
    each_append SmallSlot (array_slots 1 (Some w) (head sd n (type_word m.base)) before m) (map_slots sd (n + 1) (m.name ∷ before) wanted maps)
    (small_array 1 (Some w) (head sd n (type_word m.base)).broken before m (all_first Sized (place pd earlier (array m)) later sized))
    (small_maps sd (n + 1) pd (m.name ∷ before) (m.name ∷ earlier) wanted maps (all_rest Sized (place pd earlier (array m)) later sized))

small_whole : (first : Judged) (parts : List Judged) (last own : Judged) → SmallSlot first → Each SmallSlot parts → SmallSlot last → SmallSlot own → Each SmallSlot (whole_slots first parts last own)
small_whole first parts last own one inside two three = (one, (tt, each_append SmallSlot parts (last ∷ own ∷ semicolon ∷ []) inside (two, (three, (tt, tt)))))

small_grid : (arr maps : List Judged) → Each SmallSlot arr → Each SmallSlot maps → Each SmallSlot (fine (keyword (codes "Array")) ∷ colon ∷ arr ++ fine (keyword (codes "Maps")) ∷ colon ∷ maps)
small_grid arr maps one two = (tt, (tt, each_append SmallSlot arr (fine (keyword (codes "Maps")) ∷ colon ∷ maps) one (tt, (tt, two))))

some_dims : (a : ArrayDecl) → IsSized (array a) → has_dims a ≡ true
some_dims a sized = let some = sized.0 in grind (arith, nat_tests)

maps_some : (pd : ℕ) (earlier : List (List ℕ)) (maps : List ArrayDecl) → All Sized (leaf_places pd earlier (map array maps)) → list_all has_dims maps ≡ true
maps_some pd earlier [] sized = refl
maps_some pd earlier (m ∷ maps) sized =
    let later = leaf_places pd (m.name ∷ earlier) (map array maps) in
    and_from (has_dims m) (list_all has_dims maps) (some_dims m (all_first Sized (place pd earlier (array m)) later sized)) (maps_some pd (m.name ∷ earlier) maps (all_rest Sized (place pd earlier (array m)) later sized))

mutual
  small_member : (m : Member) (sd n pd : ℕ) (before : List (List ℕ)) → IsSized m → All Sized (part_places pd m) → Each SmallSlot (slots sd n before m) × (have_dims m ≡ true)
  small_member (scalar c) sd n pd before sized inside = ((tt, (tt, (tt, tt))), refl)
  small_member (array a) sd n pd before sized inside = (small_array 32 None (head sd n (type_word a.base)).broken before a sized, some_dims a sized)
  small_member (structure own parts) sd n pd before sized inside =
      let rest = small_members parts (sd + 1) (n + 1) pd [] [] inside in (small_whole (head sd n (codes "Structure")) (slots_all (sd + 1) (n + 1) [] parts) closes (named before own) tt rest.0 tt tt, rest.1)
  small_member (grid own a maps) sd n pd before sized inside =
      let later = leaf_places pd (a.name ∷ []) (map array maps) in
      let first = all_first Sized (place pd [] (array a)) later inside in
      let rest = all_rest Sized (place pd [] (array a)) later inside in
      let arr : List Judged = array_slots 32 None (head (sd + 1) (n + 1) (type_word a.base)) [] a in
      let maps_slots : List Judged = map_slots (sd + 1) (n + 2) (a.name ∷ []) (sizes a) maps in (
        small_whole (head sd n (codes "Grid")) (fine (keyword (codes "Array")) ∷ colon ∷ arr ++ fine (keyword (codes "Maps")) ∷ colon ∷ maps_slots) (record { slot = sign 125; broken = nat_lt (length maps) (length a.dims) }) (named before own) tt
            (small_grid arr maps_slots (small_array 32 None (head (sd + 1) (n + 1) (type_word a.base)).broken [] a first) (small_maps (sd + 1) (n + 2) pd (a.name ∷ []) (a.name ∷ []) (sizes a) maps rest)) tt tt,
        and_from (has_dims a) (list_all has_dims maps) (some_dims a first) (maps_some pd (a.name ∷ []) maps rest),
      )
  small_member (sequence own columns) sd n pd before sized inside =
      (small_whole (head sd n (codes "Sequence")) (column_slots (sd + 1) (n + 1) [] columns) closes (named before own) tt (small_columns (sd + 1) (n + 1) [] columns) tt tt, refl)

  small_members : (ms : Members) (sd n pd : ℕ) (before earlier : List (List ℕ)) → All Sized (places pd earlier ms) → Each SmallSlot (slots_all sd n before ms) × (all_have_dims ms ≡ true)
  small_members no_members sd n pd before earlier sized = (tt, refl)
  small_members (member m ms) sd n pd before earlier sized =
      let later : List Place = places pd (name_of m ∷ earlier) ms in
      let inside = all_rest Sized (place pd earlier m) (part_places (pd + 1) m ++ later) sized in
      let here = small_member m sd n (pd + 1) before (all_first Sized (place pd earlier m) (part_places (pd + 1) m ++ later) sized) (all_front Sized (part_places (pd + 1) m) later inside) in
      let rest = small_members ms sd (n + count m) pd (name_of m ∷ before) (name_of m ∷ earlier) (all_back Sized (part_places (pd + 1) m) later inside) in
      (each_append SmallSlot (slots sd n before m) (slots_all sd (n + count m) (name_of m ∷ before) ms) here.0 rest.0, and_from (have_dims m) (all_have_dims ms) here.1 rest.1)

-- a printed DDS stands for its dataset
pub dds_stands : (d : Dataset) → HasWords d → IsWellFormed d → StandsFor (tokens_of (dds d)) d
dds_stands d words is =
    let small = small_members d.members 1 1 1 [] [] is.sized in
    let all = small_whole (fine (keyword (codes "Dataset"))) (slots_all 1 1 [] d.members) closes (named [] d.name) tt small.0 tt tt in
    (small.1, subst (λ ts. pointwise spells (map (λ j. j.slot) (dataset_slots d)) ts ≡ true) (sym (tokens_of-dds d words is)) (spelled_told (dataset_slots d) all))

-- one DDS text is that of one dataset
pub one_text : (d d' : Dataset) → HasWords d → HasWords d' → IsWellFormed d → IsWellFormed d' → dds d ≡ dds d' → d ≡ d'
one_text d d' words words' is is' same =
    one_dataset (tokens_of (dds d)) d d' (dds_stands d words is) (subst (λ text. StandsFor (tokens_of text) d') (sym same) (dds_stands d' words' is'))

-- its text up to the last `;` is a text of the dataset
pub reads_print : (d : Dataset) → HasWords d → IsWellFormed d → DdsOf (dds_text d) d
reads_print d words is = record {
  stands = subst (λ ts. StandsFor ts d) (tokens_of-dds d words is ∙ sym (tokens_of-dds_text d words is)) (dds_stands d words is);
  ends = (line 0 (codes "Dataset {") ++ members_text 1 d.members ++ (codes "} " ++ d.name), sym (append_assoc (line 0 (codes "Dataset {") ++ members_text 1 d.members) (codes "} " ++ d.name) (codes ";")));
  well_formed = is;
}

-- a body that is sent is one that is read
pub reads_body : (d : Dataset) (ts : List Tree) → HasWords d → IsWellFormed d → FitsAll d.members ts → All (λ p. elements_of p.variable < 2 ^ 32) (places_of d)
    → length (dds d) ≤ 16777216 → length (body d ts) < 2 ^ 40 → IsBody (body d ts) d ts
reads_body d ts words is fit few short long =
    let text : List ℕ = dds_text d in
    let shorter : length (dds d) ≡ length text + 1 = ap length (dds-text d) ∙ length-append text (codes "\n") in
    let head : List ℕ = dds d ++ codes "Data:\n" in
    record {
      head = head;
      values = xdr d ts;
      parts = refl;
      is_head = record {
        text = text;
        white = codes "\n";
        end = codes "\n";
        parts = ap (λ l. l ++ codes "Data:\n") (dds-text d) ∙ sym (append_assoc (text ++ codes "\n") (codes "Data:") (codes "\n"));
        is_text = reads_print d words is;
        is_white = All-cons (λ b. is_white b ≡ true) 10 [] refl (All-nil (λ b. is_white b ≡ true));
        is_end = inl refl;
        text_limit = omega arith;
      };
      is_values = xdr_spells d ts few fit;
      limit = long;
    }
