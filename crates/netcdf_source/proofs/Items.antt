-- Items behind their number: what is read is a list of items, and each list of items is read.
use Rattle.std.proofs.Common.{◌≡◌, ℕ, zero, suc, ◌<◌, inl, inr, List, [], ◌∷◌, ◌++◌, length, map, replicate, Option, None, Result, Ok, Err, refl, sym, ap, subst, ◌∙◌, append_assoc}
use Rattle.std.proofs.lemmas.Bool.{cases_lt}
use Rattle.std.proofs.lemmas.List.{append-nil, length-replicate}
use Rattle.netcdf_source.specs.Fields.{Judged, judged, fine, run, Fault, Spells, Ends}
use Rattle.netcdf_source.specs.Grammar.{Listed, in_turn, list_fields, tag_fault, count_fault, name_fault, repeat_fault, name_fields, new_name_fields}
use Rattle.netcdf_source.specs.inner.Reading.{◌>>=◌, passed, judged_at, run_at, times, head_at, list_at, name_at, new_name_at}
use Rattle.netcdf_source.specs.Versions.{bytes_in}
use Rattle.netcdf_source.specs.declared.version.Width.{Width}
use Rattle.netcdf_source.specs.declared.version.Width.TheVariants.{Four}
use Rattle.netcdf_source.specs.declared.failure.Failure.{Failure}
use Rattle.netcdf_source.specs.declared.failure.Failure.TheVariants.{Cut}
use Rattle.netcdf_source.proofs.Ends.{IsBytes, no_bytes, with_value, Again, Sound, join_ends, fail_ends, bytes_left, again_done, again_then, again_like, sound_then, sound_like, sound_as}
use Rattle.netcdf_source.proofs.Singles.{again_single, sound_single, number_reader, values_reader, run_reader, passed_found, run_cut, run_splits, run_again}
use Rattle.dap_model.specs.Xdr.{padded}

pub bind_assoc : {A B C : Type 0} (r : Result A Failure) (f : A → Result B Failure) (g : B → Result C Failure) → ((r >>= f) >>= g) ≡ (r >>= λ x. f x >>= g)
bind_assoc (Ok x) f g = refl
bind_assoc (Err e) f g = refl

pub bind_ok : {A : Type 0} (r : Result A Failure) → r ≡ (r >>= λ x. Ok x)
bind_ok (Ok x) = refl
bind_ok (Err e) = refl

-- ---- items one after the other

pub times_again : {T X : Type 0} (fields : List X → T → List Judged) (says : T → X) (read : List X → List ℕ → Result (X × List ℕ) Failure)
    → ((before : List X) (t : T) → Again (fields before t) (says t) (read before)) → (before : List X) (ts : List T) → Again (in_turn fields says before ts) (before ++ map says ts) (times read (length ts) before)
unfolding in_turn times
times_again fields says read item before [] = subst (λ x. Again [] x (λ bytes. Ok (before, bytes))) (sym (append-nil before)) (again_done before)
times_again fields says read item before (t ∷ ts) =
    again_then (fields before t) (in_turn fields says (before ++ says t ∷ []) ts) (says t) (before ++ says t ∷ map says ts) (read before) (λ x. times read (length ts) (before ++ x.0 ∷ []) x.1)
    (item before t)
    (subst (λ z. Again (in_turn fields says (before ++ says t ∷ []) ts) z (times read (length ts) (before ++ says t ∷ []))) (append_assoc before (says t ∷ []) (map says ts))
    (times_again fields says read item (before ++ says t ∷ []) ts))

-- so many items, and what becomes of the bytes along them
abbrev pub Counted : {T X : Type 0} → (T → ℕ) → (T → List Judged) → (T → X) → (ℕ → List ℕ → Result (X × List ℕ) Failure) → ℕ → List ℕ → Type 0
Counted {T} size fields says read n bytes = (t : T) × (size t ≡ n) × (end : Result (List ℕ) Failure) × Ends (fields t) bytes end × (read n bytes ≡ with_value (says t) end)

pub times_found : {T X : Type 0} (fields : List X → T → List Judged) (says : T → X) (read : List X → List ℕ → Result (X × List ℕ) Failure)
    → ((before : List X) → Sound (fields before) says (read before)) → (n : ℕ) (before : List X) (bytes : List ℕ) → IsBytes bytes
    → Counted length (in_turn fields says before) (λ ts. before ++ map says ts) (λ k. times read k before) n bytes
unfolding in_turn times Ends
times_found {T} {X} fields says read item zero before bytes fits = ([], refl, Ok bytes, refl, ap (λ (xs : List X). Ok (xs, bytes)) (sym (append-nil before)))
times_found {T} {X} fields says read item (suc n) before bytes fits =
    let a = (item before).found bytes fits in
    go a.0 a.1 a.2 a.3 (λ bs small. times_found fields says read item n (before ++ says a.0 ∷ []) bs small)
  where
    go : (t : T) (end : Result (List ℕ) Failure) → Ends (fields before t) bytes end → read before bytes ≡ with_value (says t) end
        → ((bs : List ℕ) → IsBytes bs → Counted length (in_turn fields says (before ++ says t ∷ [])) (λ ts. (before ++ says t ∷ []) ++ map says ts) (λ k. times read k (before ++ says t ∷ [])) n bs)
        → Counted length (in_turn fields says before) (λ ts. before ++ map says ts) (λ k. times read k before) (suc n) bytes
    go t (Ok rest) h e others =
        let b = others rest (bytes_left (fields before t) bytes rest fits h) in (
          t ∷ b.0,
          ap suc b.1,
          b.2,
          join_ends (fields before t) (in_turn fields says (before ++ says t ∷ []) b.0) bytes rest b.2 h b.3,
          ap (λ r. r >>= λ x. times read n (before ++ x.0 ∷ []) x.1) e ∙ b.4 ∙ ap (λ xs. with_value xs b.2) (append_assoc before (says t ∷ []) (map says b.0)),
        )
    go t (Err f) h e others =
        let b = others [] no_bytes in (
          t ∷ b.0,
          ap suc b.1,
          Err f,
          fail_ends (fields before t) (in_turn fields says (before ++ says t ∷ []) b.0) bytes f h,
          ap (λ r. r >>= λ x. times read n (before ++ x.0 ∷ []) x.1) e,
        )

-- ---- behind their number

pub sized_again : {T X : Type 0} (width : Width) (fault : ℕ → Option Fault) (size : T → ℕ) (fields : T → List Judged) (says : T → X) (read : ℕ → List ℕ → Result (X × List ℕ) Failure) (t : T)
    → Again (fields t) (says t) (read (size t)) → Again (judged width fault (size t) ∷ fields t) (says t) (λ bytes. judged_at width fault bytes >>= λ n. read n.0 n.1)
sized_again width fault size fields says read t a =
    again_then (judged width fault (size t) ∷ []) (fields t) (size t) (says t) (judged_at width fault) (λ n. read n.0 n.1) (again_single (judged width fault) (λ n. n) (bytes_in width) (judged_at width fault) (number_reader width fault) (size t)) a

pub sized_sound : {T X : Type 0} (width : Width) (fault : ℕ → Option Fault) (size : T → ℕ) (fields : T → List Judged) (says : T → X) (read : ℕ → List ℕ → Result (X × List ℕ) Failure)
    → ((n : ℕ) (bytes : List ℕ) → IsBytes bytes → Counted size fields says read n bytes) → Sound (λ t. judged width fault (size t) ∷ fields t) says (λ bytes. judged_at width fault bytes >>= λ n. read n.0 n.1)
sized_sound {T} {X} width fault size fields says read counted = record {
  found = λ bytes fits.
      let a = (sound_single (judged width fault) (λ n. n) (bytes_in width) (judged_at width fault) (number_reader width fault)).found bytes fits in go bytes fits a.0 a.1 a.2 a.3;
}
  where
    go : (bytes : List ℕ) → IsBytes bytes → (n : ℕ) (end : Result (List ℕ) Failure) → Ends (judged width fault n ∷ []) bytes end → judged_at width fault bytes ≡ with_value n end
        → (t : T) × (end : Result (List ℕ) Failure) × Ends (judged width fault (size t) ∷ fields t) bytes end × ((judged_at width fault bytes >>= λ n. read n.0 n.1) ≡ with_value (says t) end)
    go bytes fits n (Ok rest) h e =
        let b = counted n rest (bytes_left (judged width fault n ∷ []) bytes rest fits h) in
        let whole : Ends (judged width fault n ∷ fields b.0) bytes b.2 = join_ends (judged width fault n ∷ []) (fields b.0) bytes rest b.2 h b.3 in
        (b.0, b.2, subst (λ (k : ℕ). Ends (judged width fault k ∷ fields b.0) bytes b.2) (sym b.1) whole, ap (λ r. r >>= λ n. read n.0 n.1) e ∙ b.4)
    go bytes fits n (Err f) h e =
        let b = counted n [] no_bytes in
        let whole : Ends (judged width fault n ∷ fields b.0) bytes (Err f) = fail_ends (judged width fault n ∷ []) (fields b.0) bytes f h in
        (b.0, Err f, subst (λ (k : ℕ). Ends (judged width fault k ∷ fields b.0) bytes (Err f)) (sym b.1) whole, ap (λ r. r >>= λ n. read n.0 n.1) e)

-- ---- behind their tag too

abbrev listed_at : {X : Type 0} → Width → ℕ → (List X → List ℕ → Result (X × List ℕ) Failure) → List ℕ → Result (List X × List ℕ) Failure
listed_at width tag read bytes = judged_at Four (tag_fault tag) bytes >>= λ t. (judged_at width (count_fault t.0) t.1 >>= λ n. times read n.0 [] n.1)

list_at-listed : {X : Type 0} (width : Width) (tag : ℕ) (read : List X → List ℕ → Result (X × List ℕ) Failure) (bytes : List ℕ) → list_at width tag read bytes ≡ listed_at width tag read bytes
unfolding list_at head_at
list_at-listed width tag read bytes = bind_assoc (judged_at Four (tag_fault tag) bytes) (λ t. judged_at width (count_fault t.0) t.1) (λ n. times read n.0 [] n.1)

pub list_again : {T X : Type 0} (width : Width) (tag : ℕ) (fields : List X → T → List Judged) (says : T → X) (read : List X → List ℕ → Result (X × List ℕ) Failure)
    → ((before : List X) (t : T) → Again (fields before t) (says t) (read before)) → (l : Listed T) → Again (list_fields width tag fields says l) (map says l.items) (list_at width tag read)
list_again width tag fields says read item l =
    again_like (list_fields width tag fields says l) (map says l.items) (listed_at width tag read) (list_at width tag read) (list_at-listed width tag read)
    (again_then (judged Four (tag_fault tag) l.tag ∷ []) (judged width (count_fault l.tag) (length l.items) ∷ in_turn fields says [] l.items) l.tag (map says l.items)
    (judged_at Four (tag_fault tag)) (λ t. judged_at width (count_fault t.0) t.1 >>= λ n. times read n.0 [] n.1)
    (again_single (judged Four (tag_fault tag)) (λ n. n) 4 (judged_at Four (tag_fault tag)) (number_reader Four (tag_fault tag)) l.tag)
    (sized_again width (count_fault l.tag) length (in_turn fields says []) (map says) (λ n. times read n []) l.items (times_again fields says read item [] l.items)))

pub list_sound : {T X : Type 0} (width : Width) (tag : ℕ) (fields : List X → T → List Judged) (says : T → X) (read : List X → List ℕ → Result (X × List ℕ) Failure)
    → ((before : List X) → Sound (fields before) says (read before)) → Sound {T = Listed T} (list_fields width tag fields says) (λ l. map says l.items) (list_at width tag read)
list_sound {T} {X} width tag fields says read item =
    sound_like (list_fields width tag fields says) (λ l. map says l.items) (listed_at width tag read) (list_at width tag read) (list_at-listed width tag read)
    (sound_as (λ p. (judged Four (tag_fault tag) p.0 ∷ []) ++ (judged width (count_fault p.0) (length p.1) ∷ in_turn fields says [] p.1)) (λ p. map says p.1)
    (list_fields width tag fields says) (λ l. map says l.items) (listed_at width tag read) formed (λ p. refl) (λ p. refl)
    (sound_then (λ t. judged Four (tag_fault tag) t ∷ []) (λ t. t) (judged_at Four (tag_fault tag)) (λ t ts. judged width (count_fault t) (length ts) ∷ in_turn fields says [] ts) (λ t ts. map says ts)
    (λ t. judged_at width (count_fault t.0) t.1 >>= λ n. times read n.0 [] n.1)
    (sound_single (judged Four (tag_fault tag)) (λ n. n) 4 (judged_at Four (tag_fault tag)) (number_reader Four (tag_fault tag)))
    (λ t. sized_sound width (count_fault t) length (in_turn fields says []) (map says) (λ n. times read n []) (λ n bytes fits. times_found fields says read item n [] bytes fits))))
  where
    formed : ℕ × List T → Listed T
    formed p = record { tag = p.0; items = p.1 }

-- ---- names

abbrev named_at : (List ℕ → Option Fault) → ℕ → List ℕ → Result (List ℕ × List ℕ) Failure
named_at fault n bytes = run_at n bytes >>= λ name. passed (fault name.0) (length bytes) name

abbrev named : (List ℕ → Option Fault) → List ℕ → Judged
named fault name = record { field = run (length name) name; fault = fault name }

name_found : (fault : List ℕ → Option Fault) (n : ℕ) (bytes : List ℕ) → IsBytes bytes → Counted length (λ name. named fault name ∷ []) (λ name. name) (named_at fault) n bytes
unfolding Ends
name_found fault n bytes fits = elim (cases_lt (length bytes) (padded n)) [
  | inl short ↦
      let len = length-replicate n 0 in
      (replicate n 0, len, Err Cut, inl (subst (λ (k : ℕ). length bytes < padded k) (sym len) short, refl), ap (λ r. r >>= λ name. passed (fault name.0) (length bytes) name) (run_cut n bytes short))
  | inr enough ↦
      let s = run_splits n bytes fits enough in
      let p = passed_found (fault s.0) (length bytes) s.0 s.2 in
      let len : length s.0 ≡ n = s.4.1 in (
        s.0,
        len,
        p.0,
        inr (s.1, s.2, s.3, subst (λ (k : ℕ). Spells (run k s.0) s.1) (sym len) s.4, p.1),
        ap (λ r. r >>= λ name. passed (fault name.0) (length bytes) name) (ap (run_at n) s.3 ∙ run_again n s.0 s.1 s.2 s.4) ∙ p.2,
      )
]

pub new_name_again : (width : Width) (earlier : List (List ℕ)) (name : List ℕ) → Again (new_name_fields width earlier name) name (new_name_at width earlier)
unfolding new_name_at
new_name_again width earlier name =
    sized_again width name_fault length (λ x. named (repeat_fault width earlier) x ∷ []) (λ x. x) (named_at (repeat_fault width earlier)) name
    (again_single (λ x. record { field = run (length name) x; fault = repeat_fault width earlier x }) (λ x. x) (padded (length name)) (named_at (repeat_fault width earlier) (length name)) (run_reader (repeat_fault width earlier) (length name)) name)

pub new_name_sound : (width : Width) (earlier : List (List ℕ)) → Sound (new_name_fields width earlier) (λ name. name) (new_name_at width earlier)
unfolding new_name_at
new_name_sound width earlier = sized_sound width name_fault length (λ x. named (repeat_fault width earlier) x ∷ []) (λ x. x) (named_at (repeat_fault width earlier)) (name_found (repeat_fault width earlier))

pub name_again : (width : Width) (name : List ℕ) → Again (name_fields width name) name (name_at width)
unfolding name_at
name_again width name =
    sized_again width name_fault length (λ x. fine (run (length x) x) ∷ []) (λ x. x) run_at name
    (again_single (λ x. fine (run (length name) x)) (λ x. x) (padded (length name)) (run_at (length name)) (values_reader (length name)) name)

pub name_sound : (width : Width) → Sound (name_fields width) (λ name. name) (name_at width)
unfolding name_at
name_sound width = sized_sound width name_fault length (λ x. fine (run (length x) x) ∷ []) (λ x. x) run_at
    (λ n bytes fits. let a = name_found (λ x. None) n bytes fits in (a.0, a.1, a.2, a.3, bind_ok (run_at n bytes) ∙ a.4))
