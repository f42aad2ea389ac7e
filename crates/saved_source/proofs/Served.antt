-- Laws of the datasets of saved responses.
use Rattle.std.proofs.Common.{◌≡◌, ℕ, ◌-◌, List, [], ◌∷◌, ◌++◌, length, map, get_or, All, None, option_map, codes, refl, sym, ap, subst, ◌∙◌, append_assoc, arith, not, eqb}
use Rattle.std.specs.List.{AllZip, suffix_len}
use Rattle.std.proofs.Math.Seq.{take-append_seam}
use Rattle.std.proofs.lemmas.List.Elements.{All-drop, All-take}
use Rattle.plain_lemmas.proofs.Lists.{some_length}
use Rattle.dap_types.proofs.Rules.{no_fault_where_well_formed, well_formed_without_fault}
use Rattle.dap_types.specs.Model.{Member, scalar, array, structure, grid, sequence, Members, no_members, member, Tree, kids, sizes}
use Rattle.dap_types.specs.declared.declarations.ArrayDecl.{ArrayDecl}
use Rattle.dap_types.specs.declared.declarations.Column.{Column}
use Rattle.dap_types.specs.declared.unfit.Unfit.TheVariants.{Repeated}
use Rattle.dap_model.proofs.Limits.{sent_is_read}
use Rattle.dap_model.specs.Fits.{Fits, FitsAll, FitsArray, FitsRow, FitsScalar}
use Rattle.dap_model.specs.Grammar.{HasWords}
use Rattle.file_names.proofs.Words.{AreBytes, IsByte, dataset_spelled, word_name}
use Rattle.file_names.specs.Names.{dataset_name_byte, segment}
use Rattle.saved_source.proofs.NamesOfText.{names_of_text}
use Rattle.saved_source.proofs.RenamedWords.{words_inside}
use Rattle.saved_source.proofs.Repeating.{only_repeats}
use Rattle.saved_source.specs.Laws.{SavedFits, SavedHasWords, SavedIsWellFormed, WrittenIsSaved}
use Rattle.saved_source.specs.Responses.{first_repeated, renamed, renamed_all, renamed_array, renamed_column, saved_dataset}
use Rattle.dap_types.specs.WellFormed.{IsWellFormed}

pub saved_is_well_formed : SavedIsWellFormed
saved_is_well_formed bytes name d ts s =
    let none = no_fault_where_well_formed s.response s.is_body.is_head.is_text.well_formed in
    let differ : first_repeated (saved_dataset name s.response) ≡ None = ap first_repeated (sym s.is_dataset) ∙ s.names_differ in
    subst IsWellFormed (sym s.is_dataset) (well_formed_without_fault (saved_dataset name s.response) (only_repeats name s.response none ∙ ap (option_map Repeated) differ))

-- ---- values
arrays_fit : (arrays : List ArrayDecl) (ts : List Tree) → AllZip (λ a t. FitsArray a.base (sizes a) t) arrays ts → AllZip (λ a t. FitsArray a.base (sizes a) t) (map renamed_array arrays) ts
arrays_fit [] [] f = f
arrays_fit [] (t ∷ ts) f = f
arrays_fit (a ∷ arrays) [] f = f
arrays_fit (a ∷ arrays) (t ∷ ts) f = (f.0, arrays_fit arrays ts f.1)

cells_fit : (columns : List Column) (cells : List Tree) → AllZip (λ c t. FitsScalar c.base t) columns cells → AllZip (λ c t. FitsScalar c.base t) (map renamed_column columns) cells
cells_fit [] [] f = f
cells_fit [] (t ∷ cells) f = f
cells_fit (c ∷ columns) [] f = f
cells_fit (c ∷ columns) (t ∷ cells) f = (f.0, cells_fit columns cells f.1)

rows_fit : (columns : List Column) (rows : List Tree) → All (FitsRow columns) rows → All (FitsRow (map renamed_column columns)) rows
rows_fit columns rows f k row within = let one = f k row within in (one.0, cells_fit columns (kids (get_or rows k row)) one.1)

mutual
  fits_too : (m : Member) (t : Tree) → Fits m t → Fits (renamed m) t
  fits_too (scalar c) t f = f
  fits_too (array a) t f = f
  fits_too (structure own parts) t f = (f.0, all_fit parts (kids t) f.1)
  fits_too (grid own a maps) t f = (f.0, arrays_fit (a ∷ maps) (kids t) f.1)
  fits_too (sequence own columns) t f = (f.0, rows_fit columns (kids t) f.1)

  all_fit : (ms : Members) (ts : List Tree) → FitsAll ms ts → FitsAll (renamed_all ms) ts
  all_fit no_members [] f = f
  all_fit no_members (t ∷ ts) f = f
  all_fit (member m ms) [] f = f
  all_fit (member m ms) (t ∷ ts) f = (fits_too m t f.0, all_fit ms ts f.1)

pub saved_fits : SavedFits
saved_fits bytes name d ts s = subst (λ e. FitsAll e.members ts) (sym s.is_dataset) (all_fit s.response.members ts s.is_body.is_values.fit)

-- ---- names
segment_bytes : (name : List ℕ) → AreBytes name → AreBytes (segment name)
unfolding segment
segment_bytes name bytes = All-drop IsByte (length name - suffix_len (λ b. not (eqb b 47)) name) name bytes

pub saved_has_words : SavedHasWords
saved_has_words bytes name d ts name_bytes are some s =
    let b = s.is_body in
    let h = b.is_head in
    let behind : List ℕ = h.white ++ (codes "Data:" ++ (h.end ++ b.values)) in
    let laid : bytes ≡ h.text ++ behind =
    b.parts ∙ ap (λ l. l ++ b.values) h.parts ∙ append_assoc (h.text ++ h.white ++ codes "Data:") h.end b.values
    ∙ append_assoc (h.text ++ h.white) (codes "Data:") (h.end ++ b.values) ∙ append_assoc h.text h.white (codes "Data:" ++ (h.end ++ b.values)) in
    let text_bytes : AreBytes h.text = subst AreBytes (take-append_seam h.text behind) (All-take IsByte (length h.text) (h.text ++ behind) (subst AreBytes laid are)) in
    subst HasWords (sym s.is_dataset) (record {
      own = word_name dataset_name_byte (segment name) dataset_spelled (some_length (segment name) some, segment_bytes name name_bytes);
      inside = words_inside name s.response (names_of_text h.text s.response text_bytes h.is_text);
    })

-- ---- a response that was written
pub written_is_saved : WrittenIsSaved
written_is_saved name d ts words well fits small few differ = record {
  response = d;
  few = few;
  is_body = sent_is_read d ts words well fits small (omega (arith, few));
  is_dataset = refl;
  names_differ = differ;
}
