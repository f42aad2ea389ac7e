-- The first fault of members, one member after the other.
use Rattle.std.proofs.Common.{◌≡◌, ℕ, ◌+◌, ◌^◌, ◌<◌, ◌≤◌, List, [], ◌∷◌, ◌++◌, length, get_or, drop, map, subst, Some, None, Result, Ok, Err, inl, inr, ap, ◌∙◌, sym, refl, arith, length-append}
use Rattle.std.specs.Prelude.{◌⊎◌, ◌||◌}
use Rattle.std.specs.Str.{bytes_eq}
use Rattle.std.specs.Option.{option_or}
use Rattle.std.proofs.lemmas.List.{drop_all}
use Rattle.plain_lemmas.proofs.Lists.{drop_here}
use Rattle.dap_types.proofs.Faults.{first_fault-append, length-leaf_places, length-part_places, length-places}
use Rattle.dap_types.proofs.Views.{members-here, members-end as no_members-left, view-Structure}
use Rattle.dap_types.specs.Judged.{Judges, JudgesOne}
use Rattle.dap_types.specs.NameSet.{AreSameNames, HasAlso}
use Rattle.dap_types.specs.Model.{Member, Members, no_members, member, name_of, count, count_all}
use Rattle.dap_types.specs.View.{member_view, members_view}
use Rattle.dap_types.specs.declared.declarations.Decl.{Decl, Structure}
use Rattle.dap_types.specs.declared.bytes.Id.{Id}
use Rattle.dap_types.specs.WellFormed.{Place, place, leaf_places, part_places, places, fault_at, first_fault}
use Rattle.dap_types.specs.declared.unfit.Unfit.{Unfit}
use Rattle.dap_types.specs.declared.unfit.Unfit.TheVariants.{Memory}

-- places without a fault, and those behind them
pub judged-append : (ps qs : List Place) (n k : ℕ) (r : Result ℕ Unfit) → Judges ps n (Ok k) → Judges qs k r → Judges (ps ++ qs) n r
judged-append ps qs n k (Ok next) (is, none) (is', none') = (
  omega (arith, is, is', length-append ps qs),
  first_fault-append n ps qs ∙ ap (λ o. option_or o (first_fault (n + length ps) qs)) none ∙ ap (λ j. first_fault j qs) (sym is) ∙ none',
)
judged-append ps qs n k (Err e) first (inl is) = inl is
judged-append ps qs n k (Err e) (is, none) (inr fault) =
    inr (first_fault-append n ps qs ∙ ap (λ o. option_or o (first_fault (n + length ps) qs)) none ∙ ap (λ j. first_fault j qs) (sym is) ∙ fault)

-- nothing behind a fault counts
pub judged-stop : (ps qs : List Place) (n : ℕ) (e : Unfit) → Judges ps n (Err e) → Judges (ps ++ qs) n (Err e)
judged-stop ps qs n e (inl is) = inl is
judged-stop ps qs n e (inr fault) = inr (first_fault-append n ps qs ∙ ap (λ o. option_or o (first_fault (n + length ps) qs)) fault)

-- places as many, with the same first fault
judged-same : (ps qs : List Place) (n : ℕ) (r : Result ℕ Unfit) → length ps ≡ length qs → first_fault n ps ≡ first_fault n qs → Judges ps n r → Judges qs n r
judged-same ps qs n (Ok next) long same (is, none) = (omega (arith, is, long), sym same ∙ none)
judged-same ps qs n (Err e) long same (inl is) = inl is
judged-same ps qs n (Err e) long same (inr fault) = inr (sym same ∙ fault)

-- The order of the names before a member does not count.
module _ (depth : ℕ) where
  same_one_fault : (earlier others : List (List ℕ)) → AreSameNames earlier others → (m : Member) (n : ℕ) → fault_at n (place depth earlier m) ≡ fault_at n (place depth others m)
  same_one_fault earlier others same m n = rw (same (name_of m)) refl

  more_same : (earlier others : List (List ℕ)) → AreSameNames earlier others → (name : List ℕ) → AreSameNames (name ∷ earlier) (name ∷ others)
  more_same earlier others same name = λ q. ap (λ b. bytes_eq q name || b) (same q)

  same_leaf_fault : (earlier others : List (List ℕ)) → AreSameNames earlier others → (ms : List Member) (n : ℕ) → first_fault n (leaf_places depth earlier ms) ≡ first_fault n (leaf_places depth others ms)
  same_leaf_fault earlier others same [] n = refl
  same_leaf_fault earlier others same (m ∷ ms) n =
      ap (λ o. option_or o (first_fault (n + 1) (leaf_places depth (name_of m ∷ earlier) ms))) (same_one_fault earlier others same m n)
      ∙ ap (option_or (fault_at n (place depth others m))) (same_leaf_fault (name_of m ∷ earlier) (name_of m ∷ others) (more_same earlier others same (name_of m)) ms (n + 1))

  same_fault : (earlier others : List (List ℕ)) → AreSameNames earlier others → (ms : Members) (n : ℕ) → first_fault n (places depth earlier ms) ≡ first_fault n (places depth others ms)
  same_fault earlier others same no_members n = refl
  same_fault earlier others same (member m ms) n =
      let parts = part_places (depth + 1) m in
      ap (λ o. option_or o (first_fault (n + 1) (parts ++ places depth (name_of m ∷ earlier) ms))) (same_one_fault earlier others same m n)
      ∙ ap (option_or (fault_at n (place depth others m)))
      (first_fault-append (n + 1) parts (places depth (name_of m ∷ earlier) ms)
      ∙ ap (option_or (first_fault (n + 1) parts)) (same_fault (name_of m ∷ earlier) (name_of m ∷ others) (more_same earlier others same (name_of m)) ms (n + 1 + length parts))
      ∙ sym (first_fault-append (n + 1) parts (places depth (name_of m ∷ others) ms)))

-- one place
one-fine : (p : Place) (n : ℕ) → fault_at n p ≡ None → Judges (p ∷ []) n (Ok (n + 1))
one-fine p n none = (refl, ap (λ o. option_or o None) none)

one-bad : (p : Place) (n : ℕ) (e : Unfit) → (e ≡ Memory) ⊎ (fault_at n p ≡ Some e) → Judges (p ∷ []) n (Err e)
one-bad p n e (inl is) = inl is
one-bad p n e (inr fault) = inr (ap (λ o. option_or o None) fault)

-- one member that has no parts
pub leaf-more : (depth n : ℕ) (earlier later : List (List ℕ)) (m : Member) (ms : List Member) (r : Result ℕ Unfit)
    → HasAlso earlier (name_of m) later × (fault_at n (place depth earlier m) ≡ None) → Judges (leaf_places depth later ms) (n + 1) r → Judges (leaf_places depth earlier (m ∷ ms)) n r
leaf-more depth n earlier later m ms r (is, fine) rest =
    judged-append (place depth earlier m ∷ []) (leaf_places depth (name_of m ∷ earlier) ms) n (n + 1) r (one-fine (place depth earlier m) n fine)
    (judged-same (leaf_places depth later ms) (leaf_places depth (name_of m ∷ earlier) ms) (n + 1) r (length-leaf_places depth later ms ∙ sym (length-leaf_places depth (name_of m ∷ earlier) ms)) (same_leaf_fault depth later (name_of m ∷ earlier) is ms (n + 1)) rest)

pub leaf-bad : (depth n : ℕ) (earlier : List (List ℕ)) (m : Member) (ms : List Member) (e : Unfit)
    → (e ≡ Memory) ⊎ (fault_at n (place depth earlier m) ≡ Some e) → Judges (leaf_places depth earlier (m ∷ ms)) n (Err e)
leaf-bad depth n earlier m ms e bad =
    judged-stop (place depth earlier m ∷ []) (leaf_places depth (name_of m ∷ earlier) ms) n e (one-bad (place depth earlier m) n e bad)

-- one member and its parts
pub level-more : (depth n k : ℕ) (earlier later : List (List ℕ)) (m : Member) (ms : Members) (r : Result ℕ Unfit)
    → HasAlso earlier (name_of m) later × (fault_at n (place depth earlier m) ≡ None) → Judges (part_places (depth + 1) m) (n + 1) (Ok k)
    → Judges (places depth later ms) k r → Judges (places depth earlier (member m ms)) n r
level-more depth n k earlier later m ms r (is, fine) parts rest =
    judged-append (place depth earlier m ∷ []) (part_places (depth + 1) m ++ places depth (name_of m ∷ earlier) ms) n (n + 1) r (one-fine (place depth earlier m) n fine)
    (judged-append (part_places (depth + 1) m) (places depth (name_of m ∷ earlier) ms) (n + 1) k r parts
    (judged-same (places depth later ms) (places depth (name_of m ∷ earlier) ms) k r (length-places ms depth later ∙ sym (length-places ms depth (name_of m ∷ earlier))) (same_fault depth later (name_of m ∷ earlier) is ms k) rest))

pub level-bad_member : (depth n : ℕ) (earlier : List (List ℕ)) (m : Member) (ms : Members) (e : Unfit)
    → (e ≡ Memory) ⊎ (fault_at n (place depth earlier m) ≡ Some e) → Judges (places depth earlier (member m ms)) n (Err e)
level-bad_member depth n earlier m ms e bad =
    judged-stop (place depth earlier m ∷ []) (part_places (depth + 1) m ++ places depth (name_of m ∷ earlier) ms) n e (one-bad (place depth earlier m) n e bad)

pub level-bad_part : (depth n : ℕ) (earlier later : List (List ℕ)) (m : Member) (ms : Members) (e : Unfit)
    → HasAlso earlier (name_of m) later × (fault_at n (place depth earlier m) ≡ None) → Judges (part_places (depth + 1) m) (n + 1) (Err e) → Judges (places depth earlier (member m ms)) n (Err e)
level-bad_part depth n earlier later m ms e (is, fine) bad =
    judged-append (place depth earlier m ∷ []) (part_places (depth + 1) m ++ places depth (name_of m ∷ earlier) ms) n (n + 1) (Err e) (one-fine (place depth earlier m) n fine)
    (judged-stop (part_places (depth + 1) m) (places depth (name_of m ∷ earlier) ms) (n + 1) e bad)

-- a walk over members that have no parts
module _ {X : Type 0} (as_member : X → Member) (xs : List X) (i depth n : ℕ) (earlier : List (List ℕ)) (x : X) where
  here : i < length xs → x ≡ get_or xs i x → map as_member (drop i xs) ≡ as_member x ∷ map as_member (drop (i + 1) xs)
  here lt is = ap (map as_member) (drop_here xs i x lt is)

  pub walk-more : (later : List (List ℕ)) (r : Result ℕ Unfit) → i < length xs → x ≡ get_or xs i x → JudgesOne n depth earlier (as_member x) later (Ok tt)
      → Judges (leaf_places depth later (map as_member (drop (i + 1) xs))) (n + 1) r → Judges (leaf_places depth earlier (map as_member (drop i xs))) n r
  walk-more later r lt is one rest =
      subst (λ ms. Judges (leaf_places depth earlier ms) n r) (sym (here lt is)) (leaf-more depth n earlier later (as_member x) (map as_member (drop (i + 1) xs)) r one rest)

  pub walk-bad : (e : Unfit) → i < length xs → x ≡ get_or xs i x → JudgesOne n depth earlier (as_member x) [] (Err e)
      → Judges (leaf_places depth earlier (map as_member (drop i xs))) n (Err e)
  walk-bad e lt is bad =
      subst (λ ms. Judges (leaf_places depth earlier ms) n (Err e)) (sym (here lt is)) (leaf-bad depth n earlier (as_member x) (map as_member (drop (i + 1) xs)) e bad)

pub walk-end : {X : Type 0} (as_member : X → Member) (xs : List X) (i depth n : ℕ) (earlier : List (List ℕ)) → length xs ≤ i → Judges (leaf_places depth earlier (map as_member (drop i xs))) n (Ok n)
walk-end as_member xs i depth n earlier le =
    subst (λ l. Judges (leaf_places depth earlier (map as_member l)) n (Ok n)) (sym (drop_all i xs le)) (omega arith, refl)

-- a walk over members and their parts
module _ (decls : List Decl) (i depth n : ℕ) (earlier : List (List ℕ)) where
  module _ (d : Decl) (lt : i < length decls) (is : d ≡ get_or decls i d) (later : List (List ℕ)) where
    pub members-more : (k : ℕ) (r : Result ℕ Unfit) → JudgesOne n depth earlier (member_view d) later (Ok tt) → Judges (part_places (depth + 1) (member_view d)) (n + 1) (Ok k)
        → Judges (places depth later (members_view (drop (i + 1) decls))) k r → Judges (places depth earlier (members_view (drop i decls))) n r
    members-more k r one parts more =
        subst (λ ms. Judges (places depth earlier ms) n r) (sym (members-here decls i d lt is)) (level-more depth n k earlier later (member_view d) (members_view (drop (i + 1) decls)) r one parts more)

    pub members-bad : (e : Unfit) → JudgesOne n depth earlier (member_view d) [] (Err e) → Judges (places depth earlier (members_view (drop i decls))) n (Err e)
    members-bad e bad =
        subst (λ ms. Judges (places depth earlier ms) n (Err e)) (sym (members-here decls i d lt is)) (level-bad_member depth n earlier (member_view d) (members_view (drop (i + 1) decls)) e bad)

    pub members-bad_part : (e : Unfit) → JudgesOne n depth earlier (member_view d) later (Ok tt) → Judges (part_places (depth + 1) (member_view d)) (n + 1) (Err e)
        → Judges (places depth earlier (members_view (drop i decls))) n (Err e)
    members-bad_part e one bad =
        subst (λ ms. Judges (places depth earlier ms) n (Err e)) (sym (members-here decls i d lt is)) (level-bad_part depth n earlier later (member_view d) (members_view (drop (i + 1) decls)) e one bad)

    -- as many are left as there were but for this one
    pub counted-more : (k total : ℕ) → k ≡ n + 1 + length (part_places (depth + 1) (member_view d)) → n + count_all (members_view (drop i decls)) ≡ total
        → k + count_all (members_view (drop (i + 1) decls)) ≡ total
    counted-more k total is' all =
        let same : count_all (members_view (drop i decls)) ≡ count (member_view d) + count_all (members_view (drop (i + 1) decls)) = ap count_all (members-here decls i d lt is) in
        omega (arith, same, length-part_places (member_view d) (depth + 1))

  pub members-end : length decls ≤ i → Judges (places depth earlier (members_view (drop i decls))) n (Ok n)
  members-end le = subst (λ ms. Judges (places depth earlier ms) n (Ok n)) (sym (no_members-left decls i le)) (omega arith, refl)

-- the parts of a Structure have numbers below its end
pub parts-fit : (d : Decl) (name : Id) (parts ps : List Decl) (first : ℕ) → d ≡ Structure name parts → ps ≡ parts → first + count (member_view d) ≤ 2 ^ 32 → first + count_all (members_view ps) < 2 ^ 32
parts-fit d name parts ps first is same fits =
    let whole : count (member_view d) ≡ count_all (members_view parts) + 1 = ap count (ap member_view is ∙ view-Structure name parts) in
    let part : count_all (members_view ps) ≡ count_all (members_view parts) = ap (λ l. count_all (members_view l)) same in
    omega (arith, whole, part)
