-- Fields of a header that stand in their own bytes, none of which has a fault.
use Rattle.std.proofs.Common.{◌≡◌, ℕ, ◌+◌, ◌<◌, ◌^◌, Bool, true, false, not, ◌&&◌, ◌||◌, ◌==◌, List, [], ◌∷◌, ◌++◌, length, flat_map, Option, Some, None, Ok, MatchOption, refl, ap, sym, subst, ◌∙◌, append_assoc, length-append, inr, arith, if◌then◌else◌}
use Rattle.std.specs.Bool.{⊤}
use Rattle.std.proofs.lemmas.List.{length-replicate}
use Rattle.dap_model.specs.Xdr.{fill, padded, word, zeros}
use Rattle.netcdf_source.proofs.Ends.{join_ends}
use Rattle.netcdf_source.specs.Fields.{Ends, Fault, Judged, bad_if, judged, run}
use Rattle.netcdf_source.specs.Grammar.{count_fault, in_turn, list_fields, tag_fault}
use Rattle.netcdf_source.specs.Versions.{limit_of, number_bytes}
use Rattle.netcdf_source.specs.declared.version.Width.{Width}
use Rattle.netcdf_source.specs.declared.version.Width.TheVariants.{Four}
use Rattle.netcdf_writer.specs.File.{listed}
use Rattle.netcdf_writer.specs.Printer.{list_bytes, run_bytes}

-- whatever stands behind them, the bytes are those of the fields
pub record Prints (js : List Judged) (bs : List ℕ) : Type 0 where
  pub ends : (rest : List ℕ) → Ends js (bs ++ rest) (Ok rest)

unfaulted : (A : Type 0) (P : Fault → Type 0) (o : Option Fault) → o ≡ None → A → MatchOption o A P
unfaulted A P None none a = a
unfaulted A P (Some f) none a = cc none

pub prints_none : Prints [] []
unfolding Ends
prints_none = record { ends = λ rest. refl }

pub prints_both : (xs ys : List Judged) (front back : List ℕ) → Prints xs front → Prints ys back → Prints (xs ++ ys) (front ++ back)
prints_both xs ys front back p q = record {
  ends = λ rest. subst (λ l. Ends (xs ++ ys) l (Ok rest)) (sym (append_assoc front back rest)) (join_ends xs ys (front ++ (back ++ rest)) (back ++ rest) (Ok rest) (p.ends (back ++ rest)) (q.ends rest));
}

pub prints_number : (w : Width) (fault : ℕ → Option Fault) (n : ℕ) → fault n ≡ None → n < limit_of w → Prints (judged w fault n ∷ []) (number_bytes w n)
unfolding Ends
prints_number w fault n none few = record { ends = λ rest. inr (number_bytes w n, rest, refl, (few, refl), unfaulted _ _ (fault n) none refl) }

run_length : (bytes : List ℕ) → length (run_bytes bytes) ≡ padded (length bytes)
run_length bytes = length-append bytes (zeros (length bytes)) ∙ ap (λ n. length bytes + n) (length-replicate (fill (length bytes)) 0)

pub prints_run : (bytes : List ℕ) (fault : Option Fault) → fault ≡ None → Prints (record { field = run (length bytes) bytes; fault = fault } ∷ []) (run_bytes bytes)
unfolding Ends
prints_run bytes fault none = record { ends = λ rest. inr (run_bytes bytes, rest, refl, (zeros (length bytes), refl, run_length bytes, refl), unfaulted _ _ fault none refl) }

-- ---- items in turn

abbrev pub AllTurn : {T X : Type 0} → (List X → T → Type 0) → (T → X) → List X → List T → Type 0
AllTurn P says before [] = ⊤
AllTurn P says before (t ∷ ts) = P before t × AllTurn P says (before ++ says t ∷ []) ts

pub prints_turn : {T X : Type 0} (fields : List X → T → List Judged) (says : T → X) (item : T → List ℕ) (before : List X) (ts : List T)
    → AllTurn (λ b t. Prints (fields b t) (item t)) says before ts → Prints (in_turn fields says before ts) (flat_map item ts)
unfolding in_turn
prints_turn fields says item before [] all = prints_none
prints_turn fields says item before (t ∷ ts) all = prints_both (fields before t) (in_turn fields says (before ++ says t ∷ []) ts) (item t) (flat_map item ts) all.0 (prints_turn fields says item (before ++ says t ∷ []) ts all.1)

-- ---- lists

tag_good : (tag n : ℕ) → tag_fault tag tag ≡ None → tag_fault tag (if n == 0 then 0 else tag) ≡ None
unfolding tag_fault
tag_good tag n own = chosen (n == 0)
  where
    chosen : (b : Bool) → bad_if (not ((if b then 0 else tag) == 0 || (if b then 0 else tag) == tag)) 0 ≡ None
    chosen true = refl
    chosen false = own

count_good : (tag n : ℕ) → (tag == 0) ≡ false → count_fault (if n == 0 then 0 else tag) n ≡ None
unfolding count_fault
count_good tag n other = chosen (n == 0)
  where
    chosen : (b : Bool) → bad_if ((if b then 0 else tag) == 0 && not b) 0 ≡ None
    chosen true = refl
    chosen false = ap (λ c. bad_if (c && true) 0) other

tag_few : (tag n : ℕ) → tag < 2 ^ 32 → (if n == 0 then 0 else tag) < 2 ^ 32
tag_few tag n few = chosen (n == 0)
  where
    chosen : (b : Bool) → (if b then 0 else tag) < 2 ^ 32
    chosen true = omega arith
    chosen false = few

pub prints_list : {T X : Type 0} (w : Width) (tag : ℕ) (fields : List X → T → List Judged) (says : T → X) (item : T → List ℕ) (ts : List T) → tag_fault tag tag ≡ None → (tag == 0) ≡ false → tag < 2 ^ 32
    → length ts < limit_of w → Prints (in_turn fields says [] ts) (flat_map item ts) → Prints (list_fields w tag fields says (listed tag ts)) (list_bytes w item (listed tag ts))
unfolding listed list_bytes
prints_list w tag fields says item ts own other small few items =
    let t = if length ts == 0 then 0 else tag in
    prints_both (judged Four (tag_fault tag) t ∷ judged w (count_fault t) (length ts) ∷ []) (in_turn fields says [] ts) (word t ++ number_bytes w (length ts)) (flat_map item ts)
    (prints_both (judged Four (tag_fault tag) t ∷ []) (judged w (count_fault t) (length ts) ∷ []) (word t) (number_bytes w (length ts))
    (prints_number Four (tag_fault tag) t (tag_good tag (length ts) own) (tag_few tag (length ts) small)) (prints_number w (count_fault t) (length ts) (count_good tag (length ts) other) few)) items
