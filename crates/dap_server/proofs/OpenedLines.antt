-- The files of the lines of a list, opened one after the other.
use Rattle.std.proofs.Common.{◌≡◌, ℕ, ◌+◌, ◌≤◌, ◌<◌, List, [], ◌∷◌, ◌++◌, All, IsTrue, drop, get_or, length, Option, Ok, Err, sym, ap, ◌∙◌, subst, inl, inr, arith}
use Rattle.std.specs.Prelude.{◌⊎◌}
use Rattle.std.proofs.lemmas.List.Sums.{sum_by_more}
use Rattle.std.proofs.lemmas.List.{drop_all, drop_more}
use Rattle.std.proofs.lemmas.List.Elements.{All-get_or}
use Rattle.dap_outside.specs.Files.{Told}
use Rattle.netcdf_source.specs.File.{FileHeader}
use Rattle.join_source.specs.Names.{is_member_name}
use Rattle.dap_server.proofs.BadLines.{NoneBad, one_more_good, to_bad}
use Rattle.dap_server.proofs.Lines.{Reached, bad, begin, line_first, line_within, one_more, whole, zip_push}
use Rattle.dap_server.specs.Joins.{IsMember, Member, Members}
use Rattle.dap_errors.specs.declared.cause.Cause.{Cause}
use Rattle.dap_server.specs.inner.Members.{AreFilesOf, AreHeadersOf, AsksLine, AsksLines, AsksToBad, IsFileOf, IsHeaderOf, most_in_first, most_in_line, most_in_lines}
use Rattle.dap_server.specs.inner.Opening.{WhereRefused}
use Rattle.dap_server.specs.declared.no_answer.Stop.{Stop}
use Rattle.dap_server.specs.declared.no_answer.Stop.TheVariants.{Refused, ShelfFault, Memory}

-- these are the headers and the files of the first k lines
abbrev pub HaveOpened : {F : Type 0} → Told → List (List ℕ) → ℕ → (F → Option (List ℕ)) → (F → ℕ) → List FileHeader → List F → Type 0
HaveOpened told names k content size_of headers fs = (ms : List Member) × Reached told names k ms × AreHeadersOf headers ms × AreFilesOf told content size_of fs ms

-- the file of a line was opened
abbrev pub IsOpened : {F : Type 0} → Told → ℕ → List ℕ → (F → Option (List ℕ)) → (F → ℕ) → FileHeader → F → Type 0
IsOpened told line name content size_of h f = (m : Member) × IsMember told line name (Ok m) × IsHeaderOf h m × IsFileOf told content size_of f m

pub none_opened : {F : Type 0} (told : Told) (names : List (List ℕ)) (content : F → Option (List ℕ)) (size_of : F → ℕ) (headers : List FileHeader) (fs : List F) → headers ≡ [] → fs ≡ [] → HaveOpened told names 0 content size_of headers fs
none_opened told names content size_of headers fs no_headers no_files =
    ([], begin told names, subst (λ hs. AreHeadersOf hs []) (sym no_headers) tt, subst (λ l. AreFilesOf told content size_of l []) (sym no_files) tt)

-- line k, from 0, and its name as it was looked for
module _ (names : List (List ℕ)) (k : ℕ) (name text : List ℕ) (lt : k < length names) (at : name ≡ get_or names k name) (is_text : text ≡ name) where
  here : drop k names ≡ name ∷ drop (k + 1) names
  here = drop_more names k name lt ∙ ap (λ x. x ∷ drop (k + 1) names) (sym at)

  pub this_name : All (λ n. IsTrue (is_member_name n)) names → IsTrue (is_member_name text)
  this_name all = subst (λ n. IsTrue (is_member_name n)) (sym (is_text ∙ at)) (All-get_or (λ n. IsTrue (is_member_name n)) names k name lt all)

  pub opened_more : {F : Type 0} (told told' : Told) (content content' : F → Option (List ℕ)) (size_of size_of' : F → ℕ) (headers headers' : List FileHeader) (fs fs' : List F) (h : FileHeader) (f : F)
      → told' ≡ told → content' ≡ content → size_of' ≡ size_of → headers' ≡ headers ++ h ∷ [] → fs' ≡ fs ++ f ∷ [] → HaveOpened told names k content size_of headers fs → IsOpened told' (k + 1) text content' size_of' h f
      → HaveOpened told names (k + 1) content size_of headers' fs'
  opened_more told told' content content' size_of size_of' headers headers' fs fs' h f same same_content same_size is_headers is_files (ms, reached, heads, are) (m, is, head, file) =
      let is_named : IsMember told (k + 1) name (Ok m) = subst (λ n. IsMember told (k + 1) n (Ok m)) is_text (subst (λ t. IsMember t (k + 1) text (Ok m)) same is) in
      let its_file : IsFileOf told content size_of f m = subst (λ t. IsFileOf t content size_of f m) same (subst (λ s. IsFileOf told' content s f m) same_size (subst (λ c. IsFileOf told' c size_of' f m) same_content file)) in (
        ms ++ m ∷ [],
        one_more told names k name ms m here is_named reached,
        subst (λ hs. AreHeadersOf hs (ms ++ m ∷ [])) (sym is_headers) (zip_push IsHeaderOf headers ms h m heads head),
        subst (λ l. AreFilesOf told content size_of l (ms ++ m ∷ [])) (sym is_files) (zip_push (IsFileOf told content size_of) fs ms f m are its_file),
      )

  pub bad_stop : {F : Type 0} (told told' : Told) (content : F → Option (List ℕ)) (size_of : F → ℕ) (headers : List FileHeader) (fs : List F) (s : Stop) → told' ≡ told → HaveOpened told names k content size_of headers fs
      → WhereRefused (λ cause. IsMember told' (k + 1) text (Err cause)) s → WhereRefused (λ cause. Members told 1 names (Err cause)) s
  bad_stop told told' content size_of headers fs (Refused cause) same (ms, reached, heads, are) is =
      bad told names k name ms cause here (subst (λ n. IsMember told (k + 1) n (Err cause)) is_text (subst (λ t. IsMember t (k + 1) text (Err cause)) same is)) reached
  bad_stop told told' content size_of headers fs ShelfFault same opened is = tt
  bad_stop told told' content size_of headers fs Memory same opened is = tt

  -- what was asked so far
  line_same : (told told' : Told) → told' ≡ told → most_in_line told' text ≡ most_in_line told name
  line_same told told' same = ap (λ t. most_in_line t text) same ∙ ap (most_in_line told) is_text

  left : (told : Told) → most_in_lines told (drop k names) ≡ most_in_lines told (name ∷ drop (k + 1) names)
  left told = ap (most_in_lines told) here

  pub asked_more : {F : Type 0} (told told' : Told) (content' : F → Option (List ℕ)) (size_of' : F → ℕ) (h : FileHeader) (f : F) (start before now : ℕ) → told' ≡ told → IsOpened told' (k + 1) text content' size_of' h f
      → before + most_in_lines told (drop k names) ≤ start → now ≤ before + most_in_line told' text → now + most_in_lines told (drop (k + 1) names) ≤ start
  asked_more told told' content' size_of' h f start before now same (m, is, head, file) so_far own =
      let is_named : IsMember told (k + 1) name (Ok m) = subst (λ n. IsMember told (k + 1) n (Ok m)) is_text (subst (λ t. IsMember t (k + 1) text (Ok m)) same is) in
      omega (arith, so_far, own, line_same told told' same, left told, line_first told (k + 1) name (drop (k + 1) names) m is_named)

  pub asked_within : (told told' : Told) (start before now : ℕ) → told' ≡ told → before + most_in_lines told (drop k names) ≤ start → now ≤ before + most_in_line told' text → now ≤ start
  asked_within told told' start before now same so_far own = omega (arith, so_far, own, line_same told told' same, left told, line_within told name (drop (k + 1) names))

  -- and of the lines so far
  first_more : (told : Told) → most_in_first told (k + 1) names ≡ most_in_first told k names + most_in_line told name
  first_more told = sum_by_more (λ n. most_in_line told n) names k name lt ∙ ap (λ n. most_in_first told k names + most_in_line told n) (sym at)

  pub asked_first : (told told' : Told) (start before now : ℕ) → told' ≡ told → before ≤ start + most_in_first told k names → now ≤ before + most_in_line told' text → now ≤ start + most_in_first told (k + 1) names
  asked_first told told' start before now same so_far own = omega (arith, so_far, own, line_same told told' same, first_more told)

  pub line_told : (told told' : Told) (start before now : ℕ) (cause : Cause) → told' ≡ told → before ≤ start + most_in_first told k names → AsksLine told' text (k + 1) cause before now → AsksLines told names cause start now
  line_told told told' start before now cause same so_far own = λ count behind. of_count count (own count behind) where
    of_count : (count : ℕ) → ((k + 1 ≡ count + 1) × (now ≤ before)) ⊎ ((k + 1 ≡ count) × (now ≤ before + most_in_line told' text)) → now ≤ start + most_in_first told count names
    of_count count (inl (is, asked)) =
        let same : k ≡ count = omega (arith, is) in
        subst (λ n. now ≤ start + most_in_first told n names) same (omega (arith, so_far, asked))
    of_count count (inr (is, asked)) = subst (λ n. now ≤ start + most_in_first told n names) is (asked_first told told' start before now same so_far asked)

  -- it is none that is bad
  pub still_good : {F : Type 0} (told told' : Told) (content' : F → Option (List ℕ)) (size_of' : F → ℕ) (h : FileHeader) (f : F) → told' ≡ told → IsOpened told' (k + 1) text content' size_of' h f
      → NoneBad told names k → NoneBad told names (k + 1)
  still_good told told' content' size_of' h f same (m, is, head, file) so_far =
      let is_named : IsMember told (k + 1) name (Ok m) = subst (λ n. IsMember told (k + 1) n (Ok m)) is_text (subst (λ t. IsMember t (k + 1) text (Ok m)) same is) in
      one_more_good told names (drop (k + 1) names) k name m here is_named so_far

  pub up_to_bad : (told told' : Told) (start before now : ℕ) → told' ≡ told → NoneBad told names k → before ≤ start + most_in_first told k names → now ≤ before + most_in_line told' text → AsksToBad told names start now
  up_to_bad told told' start before now same good so_far own = to_bad told names k start now good (asked_first told told' start before now same so_far own)

-- all lines
pub all_opened : {F : Type 0} (told : Told) (names : List (List ℕ)) (k : ℕ) (content content' : F → Option (List ℕ)) (size_of size_of' : F → ℕ) (headers : List FileHeader) (fs : List F) → length names ≤ k → content' ≡ content → size_of' ≡ size_of
    → HaveOpened told names k content size_of headers fs → (ms : List Member) × Members told 1 names (Ok ms) × AreHeadersOf headers ms × AreFilesOf told content' size_of' fs ms
all_opened told names k content content' size_of size_of' headers fs end same_content same_size (ms, reached, heads, are) = (
  ms,
  whole told names k ms (drop_all k names end) reached,
  heads,
  subst (λ c. AreFilesOf told c size_of' fs ms) (sym same_content) (subst (λ s. AreFilesOf told content s fs ms) (sym same_size) are),
)
