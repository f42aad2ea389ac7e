-- Where the leaves of a body stop, only batches were read that have begun.
use Rattle.std.proofs.Common.{◌≡◌, ℕ, ◌+◌, ◌-◌, ◌≤◌, List, [], ◌∷◌, ◌++◌, All, Option, length, take, get_or, refl, sym, ap, ◌∙◌, subst, arith, append_assoc, length-append}
use Rattle.std.proofs.KnownBytes.{Appends-trans}
use Rattle.std.proofs.Math.Seq.{take-append-add}
use Rattle.std.proofs.lemmas.Grind.{flat_map-append}
use Rattle.std.proofs.lemmas.List.{take-append-le}
use Rattle.std.proofs.lemmas.List.Elements.{All-nil}
use Rattle.std.specs.Io.KnownBytes.{Appends}
use Rattle.dap_outside.specs.Streams.{AppendsFront}
use Rattle.hyperslab_plan.specs.Batches.{InTurn, read_by}
use Rattle.hyperslab_plan.specs.declared.batch.Batch.{Batch}
use Rattle.hyperslab_plan.specs.declared.plan.Plan.{Plan}
use Rattle.xdr_encode.proofs.ArrayParts.{all-begun, array-parts}
use Rattle.xdr_encode.specs.Begun.{HasBegun, HaveBegun}
use Rattle.xdr_encode.specs.Elements.{forms_from}
use Rattle.xdr_encode.specs.Leaves.{LeafStops, array_xdr, begins_in, counts_of, filler_of}
use Rattle.xdr_encode.specs.Sent.{AskAll, LeavesStop, kind_begins, kind_xdr, leaf_begins, leaf_xdr, leaves_xdr}
use Rattle.xdr_encode.specs.Streamed.{Stops}
use Rattle.xdr_encode.specs.declared.leaf.Kind.{Kind}
use Rattle.xdr_encode.specs.declared.leaf.Kind.TheVariants.{Scalar, Array}
use Rattle.xdr_encode.specs.declared.leaf.Leaf.{Leaf}

none-begun : (leaf : Leaf) (file : List ℕ) (at put : ℕ) → HasBegun leaf file at put 0
unfolding read_by
none-begun leaf file at put = record {
  batches = [];
  upto = 0;
  in_turn = refl;
  begun = All-nil (λ b. at + leaf_begins leaf file b.first ≤ put);
  read = refl;
}

pub nothing-begun : (leaves : List Leaf) (file : List ℕ) (at put : ℕ) → HaveBegun leaves file at put 0
nothing-begun [] file at put = refl
nothing-begun (leaf ∷ leaves) file at put = (0, 0, none-begun leaf file at put, nothing-begun leaves file (at + length (leaf_xdr leaf file)) put, refl)

-- all batches of a leaf begin before its end
whole-kind : (kind : Kind) (plan : Plan) (file : List ℕ) (bs : List Batch) (at put : ℕ) → InTurn plan bs 0 plan.total → at + length (kind_xdr kind plan file) ≤ put
    → All (λ b. at + kind_begins kind plan file b.first ≤ put) bs
whole-kind Scalar plan file bs at put turn le = λ k d lt. omega (arith, le)
whole-kind Array plan file bs at put turn le =
    let long : length (array_xdr plan file) ≡ length (counts_of plan.base plan.total) + (length (forms_from plan file 0 plan.total) + length (filler_of plan.base plan.total))
    = ap length (array-parts plan file) ∙ length-append (counts_of plan.base plan.total) (forms_from plan file 0 plan.total ++ filler_of plan.base plan.total)
    ∙ ap (λ n. length (counts_of plan.base plan.total) + n) (length-append (forms_from plan file 0 plan.total) (filler_of plan.base plan.total)) in
    let begun : All (λ b. begins_in plan file b.first ≤ put - at) bs = all-begun plan file bs 0 plan.total (put - at) turn (omega (arith, le, long)) in
    λ k d lt. let one : begins_in plan file (get_or bs k d).first ≤ put - at = begun k d lt in omega (arith, one, le)

whole-leaf : (leaf : Leaf) (file : List ℕ) (bs : List Batch) (at put : ℕ) → InTurn leaf.plan bs 0 leaf.plan.total → at + length (leaf_xdr leaf file) ≤ put → All (λ b. at + leaf_begins leaf file b.first ≤ put) bs
unfolding leaf_xdr leaf_begins
whole-leaf leaf file bs at put turn le = whole-kind leaf.kind leaf.plan file bs at put turn le

leaves-long : (leaf : Leaf) (leaves : List Leaf) (file : List ℕ) → length (leaves_xdr (leaf ∷ leaves) file) ≡ length (leaf_xdr leaf file) + length (leaves_xdr leaves file)
unfolding leaves_xdr
leaves-long leaf leaves file = length-append (leaf_xdr leaf file) (leaves_xdr leaves file)

-- leaves that were put whole
whole-leaves : (leaves : List Leaf) (file : List ℕ) (at put a m : ℕ) → AskAll leaves a m → at + length (leaves_xdr leaves file) ≤ put → (n : ℕ) × HaveBegun leaves file at put n × (m ≤ a + n)
whole-leaves [] file at put a m all le = (0, refl, omega (arith, all))
whole-leaves (leaf ∷ leaves) file at put a m all le =
    let long = leaves-long leaf leaves file in
    let own : HasBegun leaf file at put (read_by leaf.plan all.1.batches) = record {
      batches = all.1.batches;
      upto = leaf.plan.total;
      in_turn = all.1.in_turn;
      begun = whole-leaf leaf file all.1.batches at put all.1.in_turn (omega (arith, le, long));
      read = refl;
    } in
    let (n, others, few) = whole-leaves leaves file (at + length (leaf_xdr leaf file)) put all.0 m all.2 (omega (arith, le, long)) in
    (read_by leaf.plan all.1.batches + n, (read_by leaf.plan all.1.batches, n, own, others, refl), omega (arith, few, all.1.few))

append-begun : (before after : List Leaf) (file : List ℕ) (at put n m : ℕ) → HaveBegun before file at put n → HaveBegun after file (at + length (leaves_xdr before file)) put m → HaveBegun (before ++ after) file at put (n + m)
unfolding leaves_xdr
append-begun [] after file at put n m none rest =
    let here : at + 0 ≡ at = omega arith in
    let same : m ≡ n + m = omega (arith, none) in
    subst (λ x. HaveBegun after file at put x) same (subst (λ x. HaveBegun after file x put m) here rest)
append-begun (leaf ∷ before) after file at put n m all rest =
    let there : at + length (leaf_xdr leaf file ++ leaves_xdr before file) ≡ at + length (leaf_xdr leaf file) + length (leaves_xdr before file)
    = ap (λ x. at + x) (length-append (leaf_xdr leaf file) (leaves_xdr before file)) ∙ along at (length (leaf_xdr leaf file)) (length (leaves_xdr before file)) in
    let others = append-begun before after file (at + length (leaf_xdr leaf file)) put all.1 m all.3 (subst (λ x. HaveBegun after file x put m) there rest) in
    (all.0, all.1 + m, all.2, others, omega (arith, all.4))
  where
    along : (a x y : ℕ) → a + (x + y) ≡ a + x + y
    along a x y = omega arith

-- the leaf in which they stop
part-begun : (leaf : Leaf) (behind : List Leaf) (file : List ℕ) (w w' : Option (List ℕ)) (at a a' : ℕ) (stops : LeafStops leaf.plan (leaf_begins leaf file) (leaf_xdr leaf file) w w' a a')
    → HaveBegun (leaf ∷ behind) file at (at + stops.put) (read_by leaf.plan stops.batches)
part-begun leaf behind file w w' at a a' stops =
    let own : HasBegun leaf file at (at + stops.put) (read_by leaf.plan stops.batches) = record {
      batches = stops.batches;
      upto = stops.upto;
      in_turn = stops.in_turn;
      begun = λ k d lt. let one : leaf_begins leaf file (get_or stops.batches k d).first ≤ stops.put = stops.begun k d lt in omega (arith, one);
      read = refl;
    } in
    (read_by leaf.plan stops.batches, 0, own, nothing-begun behind file (at + length (leaf_xdr leaf file)) (at + stops.put), omega arith)

pub parts-xdr : (before : List Leaf) (leaf : Leaf) (behind : List Leaf) (file : List ℕ) → leaves_xdr (before ++ leaf ∷ behind) file ≡ leaves_xdr before file ++ (leaf_xdr leaf file ++ leaves_xdr behind file)
unfolding leaves_xdr
parts-xdr before leaf behind file = flat_map-append (λ l. leaf_xdr l file) before (leaf ∷ behind)

module _ (head : List ℕ) (leaves : List Leaf) (file : List ℕ) (w0 w w' : Option (List ℕ)) (a a' : ℕ) where
  -- in what stands before the leaves
  pub stops-in-front : AppendsFront w0 w' head → a' ≤ a → Stops (head ++ leaves_xdr leaves file) (λ put asked. HaveBegun leaves file (length head) put asked) w0 w' a a'
  stops-in-front (k, le, front) same = record {
    put = k;
    within = omega (arith, le, length-append head (leaves_xdr leaves file));
    front = subst (Appends w0 w') (sym (take-append-le k head (leaves_xdr leaves file) (omega (arith, le)))) front;
    most = 0;
    may = nothing-begun leaves file (length head) k;
    few = omega (arith, same);
  }

  -- within the leaves
  pub stops-in-leaves : Appends w0 w head → LeavesStop leaves file w w' a a' → Stops (head ++ leaves_xdr leaves file) (λ put asked. HaveBegun leaves file (length head) put asked) w0 w' a a'
  stops-in-leaves gone s =
      let done = head ++ leaves_xdr s.before file in
      let at : length done ≡ length head + length (leaves_xdr s.before file) = length-append head (leaves_xdr s.before file) in
      let (n, whole, few) = whole-leaves s.before file (length head) (length done + s.stops.put) a s.then_asked s.all (omega (arith, at)) in
      let part : HaveBegun (s.leaf ∷ s.behind) file (length head + length (leaves_xdr s.before file)) (length done + s.stops.put) (read_by s.leaf.plan s.stops.batches)
      = subst (λ x. HaveBegun (s.leaf ∷ s.behind) file x (length done + s.stops.put) (read_by s.leaf.plan s.stops.batches)) at (part-begun s.leaf s.behind file s.then_written w' (length done) s.then_asked a' s.stops) in
      let begun : HaveBegun leaves file (length head) (length done + s.stops.put) (n + read_by s.leaf.plan s.stops.batches)
      = subst (λ ls. HaveBegun ls file (length head) (length done + s.stops.put) (n + read_by s.leaf.plan s.stops.batches)) (sym s.parts)
      (append-begun s.before (s.leaf ∷ s.behind) file (length head) (length done + s.stops.put) n (read_by s.leaf.plan s.stops.batches) whole part) in
      record {
        put = length done + s.stops.put;
        within = omega (arith, s.stops.within, ap length text, length-append done (leaf_xdr s.leaf file ++ leaves_xdr s.behind file), length-append (leaf_xdr s.leaf file) (leaves_xdr s.behind file));
        front = subst (Appends w0 w') (sym (cut s.stops.put (omega (arith, s.stops.within))))
            (Appends-trans w0 s.then_written w' done (take s.stops.put (leaf_xdr s.leaf file)) (Appends-trans w0 w s.then_written head (leaves_xdr s.before file) gone s.gone) s.stops.front);
        most = n + read_by s.leaf.plan s.stops.batches;
        may = begun;
        few = omega (arith, few, s.stops.few);
      }
    where
      text : head ++ leaves_xdr leaves file ≡ (head ++ leaves_xdr s.before file) ++ (leaf_xdr s.leaf file ++ leaves_xdr s.behind file)
      text =
          ap (λ ls. head ++ leaves_xdr ls file) s.parts
          ∙ ap (λ xs. head ++ xs) (parts-xdr s.before s.leaf s.behind file)
          ∙ sym (append_assoc head (leaves_xdr s.before file) (leaf_xdr s.leaf file ++ leaves_xdr s.behind file))

      cut : (k : ℕ) → k ≤ length (leaf_xdr s.leaf file) → take (length (head ++ leaves_xdr s.before file) + k) (head ++ leaves_xdr leaves file) ≡ (head ++ leaves_xdr s.before file) ++ take k (leaf_xdr s.leaf file)
      cut k le =
          ap (take (length (head ++ leaves_xdr s.before file) + k)) text
          ∙ take-append-add (head ++ leaves_xdr s.before file) (leaf_xdr s.leaf file ++ leaves_xdr s.behind file) k
          ∙ ap (λ xs. (head ++ leaves_xdr s.before file) ++ xs) (take-append-le k (leaf_xdr s.leaf file) (leaves_xdr s.behind file) le)
