-- What an unframer of a chunked body answers is right.
use Rattle.std.proofs.Common.{◌≡◌, ℕ, ◌+◌, ◌<◌, ◌≤◌, true, List, ◌++◌, length, take, drop, refl, sym, ap, ◌∙◌, arith, length-append, inl, inr, subst}
use Rattle.std.proofs.lemmas.Bool.{true≢false, cases_lt}
use Rattle.std.proofs.lemmas.List.{length-take-le, take-append-drop}
use Rattle.reply_faults.specs.declared.bad.BadField.{BadField}
use Rattle.reply_faults.specs.declared.bad.Bad as kinds
use Rattle.reply_faults.specs.declared.bad.Bad.TheVariants.{BadChunk}
use Rattle.dap_http.specs.After.{used_of}
use Rattle.dap_http.specs.inner.Tracking.{IsRight, Lands, wrong_at}
use Rattle.dap_http.specs.Chunks.{GoesOn, IsFaulty, IsWhole}
use Rattle.dap_http.specs.inner.Steps.{Known, is_open, run, start}
use Rattle.dap_http.specs.declared.chunk_step.At.TheVariants.{Done, Bad}
use Rattle.dap_http.specs.declared.coding.Coding.TheVariants.{Chunked}
use Rattle.dap_http.specs.declared.unframer.Unframed.{Unframed}
use Rattle.dap_http.specs.declared.unframer.Unframed.TheVariants.{Part, More, End, Refused}
use Rattle.dap_http.specs.declared.unframer.Unframer.{Unframer}
use Rattle.dap_http.proofs.Runs.{bad-stays, body-grows, done-stays, run-append}
use Rattle.dap_http.proofs.Seams.{split}
use Rattle.dap_http.proofs.Told.{faulty-more}
use Rattle.dap_http.proofs.Whole.{Ends, Fails, Goes, ends-known, fails-known, goes-known, known-ends, known-fails, known-goes}

-- the shorter front of a piece, and the rest of the longer one
pub fronts : (n m : ℕ) (piece : List ℕ) → n ≤ m → m ≤ length piece → (x : List ℕ) × (take m piece ≡ take n piece ++ x)
fronts n m piece le within =
    let a = length-take-le n piece (omega (arith, le, within)) in
    let b = length-take-le m piece within in
    let (x, e, q) = split (take n piece) (drop n piece) (take m piece) (drop m piece) (take-append-drop n piece ∙ sym (take-append-drop m piece)) (omega (arith, a, b, le)) in
    (x, e)

-- a body that has grown is not the same
no-growth : (a lent y : List ℕ) → 0 < length lent → ¬ ((a ++ lent) ++ y ≡ a)
no-growth a lent y some e =
    let long : length (a ++ lent) + length y ≡ length a = sym (length-append (a ++ lent) y) ∙ ap length e in
    omega (arith, long, length-append a lent, some)

module _ (bytes piece : List ℕ) (v : Unframer) where
  abbrev k : Known
  k = run start bytes

  abbrev after : List ℕ → Known
  after xs = run (run start bytes) xs

  joined : (xs : List ℕ) → run start (bytes ++ xs) ≡ after xs
  joined xs = run-append start bytes xs

  -- a run over a longer front of the piece
  longer : (n m : ℕ) → n ≤ m → m ≤ length piece → (x : List ℕ) × (after (take m piece) ≡ run (after (take n piece)) x)
  longer n m le within = let (x, e) = fronts n m piece le within in (x, ap after e ∙ run-append k (take n piece) x)

  whole : (n : ℕ) → (x : List ℕ) × (after piece ≡ run (after (take n piece)) x)
  whole n = (drop n piece, ap after (sym (take-append-drop n piece)) ∙ run-append k (take n piece) (drop n piece))

  goes-after : (xs : List ℕ) → is_open (after xs).at ≡ true → GoesOn (bytes ++ xs) (after xs).body
  goes-after xs at = let e = joined xs in subst (λ (m : Known). GoesOn (bytes ++ xs) m.body) e (known-goes (bytes ++ xs) (ap (λ (m : Known). is_open m.at) e ∙ at))

  ends-after : (xs : List ℕ) → (after xs).at ≡ Done → (after xs).used ≡ length (bytes ++ xs) → IsWhole (bytes ++ xs) (after xs).body
  ends-after xs at used =
      let e = joined xs in
      subst (λ (m : Known). IsWhole (bytes ++ xs) m.body) e (known-ends (bytes ++ xs) (ap (λ (m : Known). m.at) e ∙ at) (ap (λ (m : Known). m.used) e ∙ used))

  fails-after : (xs : List ℕ) → (after xs).at ≡ Bad → IsFaulty (bytes ++ xs) (after xs).body (after xs).from
  fails-after xs at = let e = joined xs in subst (λ (m : Known). IsFaulty (bytes ++ xs) m.body m.from) e (known-fails (bytes ++ xs) (ap (λ (m : Known). m.at) e ∙ at))

  after-goes : (xs body : List ℕ) → GoesOn (bytes ++ xs) body → Goes (after xs) body
  after-goes xs body g = subst (λ (m : Known). Goes m body) (joined xs) (goes-known (bytes ++ xs) body g)

  after-ends : (xs body : List ℕ) → IsWhole (bytes ++ xs) body → Ends (after xs) body (length (bytes ++ xs))
  after-ends xs body w = subst (λ (m : Known). Ends m body (length (bytes ++ xs))) (joined xs) (ends-known (bytes ++ xs) body w)

  after-fails : (xs body : List ℕ) (place : ℕ) → IsFaulty (bytes ++ xs) body place → Fails (after xs) body place
  after-fails xs body place f = subst (λ (m : Known). Fails m body place) (joined xs) (fails-known (bytes ++ xs) body place f)

  -- neither at once
  open-done : (m : Known) → is_open m.at ≡ true → m.at ≡ Done → ⊥
  open-done m o d = true≢false (sym o ∙ ap is_open d)

  open-bad : (m : Known) → is_open m.at ≡ true → m.at ≡ Bad → ⊥
  open-bad m o b = true≢false (sym o ∙ ap is_open b)

  done-bad : (m : Known) → m.at ≡ Done → m.at ≡ Bad → ⊥
  done-bad m d b = let clash : Done ≡ Bad = sym d ∙ b in absurd (cc)

  -- what a part was lent from
  record Lent (lent : List ℕ) (used : ℕ) : Type 0 where
    within : used ≤ length piece
    some : 0 < length lent
    grown : (after (take used piece)).body ≡ k.body ++ lent
    at : is_open (after (take used piece)).at ≡ true

  -- where one part was lent nothing else is right
  part-body : (lent : List ℕ) (used : ℕ) → Lent lent used → (x : List ℕ) (m : Known) → m ≡ run (after (take used piece)) x → m.body ≡ k.body → ⊥
  part-body lent used l x m e same =
      let (y, grows) = body-grows (after (take used piece)) x in
      no-growth k.body lent y l.some (ap (λ t. t ++ y) (sym l.grown) ∙ sym grows ∙ sym (ap (λ (n : Known). n.body) e) ∙ same)

  part-no-end : (lent : List ℕ) (used n : ℕ) → Lent lent used → n ≤ length piece → (after (take n piece)).at ≡ Done → (after (take n piece)).body ≡ k.body → ⊥
  part-no-end lent used n l within done same = elim (cases_lt n used) [
    | inl before ↦
        let (x, e) = longer n used (omega (arith, before)) l.within in
        open-done (after (take used piece)) l.at (ap (λ (m : Known). m.at) e ∙ (done-stays (after (take n piece)) x done).at ∙ done)
    | inr behind ↦
        let (x, e) = longer used n behind within in
        part-body lent used l x (after (take n piece)) e same
  ]

  -- behind an end the run stays
  end-stays : (n : ℕ) → (after (take n piece)).at ≡ Done → (after piece).at ≡ Done
  end-stays n done = let (x, e) = whole n in ap (λ (m : Known). m.at) e ∙ (done-stays (after (take n piece)) x done).at ∙ done

  same-end : (n m : ℕ) → n ≤ m → m ≤ length piece → (after (take n piece)).at ≡ Done → (after (take n piece)).used ≡ length bytes + n → (after (take m piece)).used ≡ length bytes + m → n ≡ m
  same-end n m le within done a b =
      let (x, e) = longer n m le within in
      let stay = (done-stays (after (take n piece)) x done).used in
      omega (arith, a, b, stay, ap (λ (q : Known). q.used) e)

  used-after : (n : ℕ) → n ≤ length piece → length (bytes ++ take n piece) ≡ length bytes + n
  used-after n le = length-append bytes (take n piece) ∙ ap (λ t. length bytes + t) (length-take-le n piece le)

  pub right : (answer : Unframed) → Lands k v piece answer → v.used ≡ length bytes + length (used_of answer piece) → k.used ≡ length bytes → IsRight Chunked bytes piece answer
  right (Part lent used) (within, some, front, tracks, grown, at) count all =
      let l : Lent lent.now used = record { within = within; some = some; grown = grown; at = sym (ap is_open tracks.at) ∙ at } in
      record {
        says = λ body g.
            let same = (goes-known bytes body g).body in
            (within, some, front, inl (subst (GoesOn (bytes ++ take used piece)) (grown ∙ ap (λ t. t ++ lent.now) same) (goes-after (take used piece) l.at)));
        goes_on = λ body g more.
            let (x, e) = whole used in
            absurd (part-body lent.now used l x (after piece) e ((after-goes piece body more).body ∙ sym ((goes-known bytes body g).body)));
        ended = λ body n g le w.
            let e = after-ends (take n piece) body w in
            absurd (part-no-end lent.now used n l le e.at (e.body ∙ sym ((goes-known bytes body g).body)));
        faulty = λ body place g f.
            let (x, e) = whole used in
            absurd (part-body lent.now used l x (after piece) e ((after-fails piece body place f).body ∙ sym ((goes-known bytes body g).body)));
        again = λ body w.
            let e = ends-known bytes body w in
            absurd (open-done (after (take used piece)) l.at ((done-stays k (take used piece) e.at).at ∙ e.at));
        still = λ body place f.
            let e = fails-known bytes body place f in
            absurd (open-bad (after (take used piece)) l.at ((bad-stays k (take used piece) e.at).at));
      }
  right More (tracks, same, at) count all =
      let opens : is_open (after piece).at ≡ true = sym (ap is_open tracks.at) ∙ at in
      record {
        says = λ body g. subst (GoesOn (bytes ++ piece)) (same ∙ (goes-known bytes body g).body) (goes-after piece opens);
        goes_on = λ body g more. refl;
        ended = λ body n g le w. absurd (open-done (after piece) opens (end-stays n ((after-ends (take n piece) body w).at)));
        faulty = λ body place g f. absurd (open-bad (after piece) opens ((after-fails piece body place f).at));
        again = λ body w. let e = ends-known bytes body w in absurd (open-done (after piece) opens ((done-stays k piece e.at).at ∙ e.at));
        still = λ body place f. let e = fails-known bytes body place f in absurd (open-bad (after piece) opens ((bad-stays k piece e.at).at));
      }
  right (End used) (within, tracks, same, at) count all =
      let done : (after (take used piece)).at ≡ Done = sym tracks.at ∙ at in
      let counted : (after (take used piece)).used ≡ length bytes + used = sym tracks.used ∙ count ∙ ap (λ t. length bytes + t) (length-take-le used piece within) in
      record {
        says = λ body g. (within, subst (IsWhole (bytes ++ take used piece)) (same ∙ (goes-known bytes body g).body) (ends-after (take used piece) done (counted ∙ sym (used-after used within))));
        goes_on = λ body g more. absurd (open-done (after piece) ((after-goes piece body more).at) (end-stays used done));
        ended = λ body n g le w.
            let e = after-ends (take n piece) body w in
            let other : (after (take n piece)).used ≡ length bytes + n = e.used ∙ used-after n le in
            ap End (elim (cases_lt n used) [
              | inl before ↦ sym (same-end n used (omega (arith, before)) within e.at other counted)
              | inr behind ↦ same-end used n behind le done counted other
            ]);
        faulty = λ body place g f. absurd (done-bad (after piece) (end-stays used done) ((after-fails piece body place f).at));
        again = λ body w.
            let e = ends-known bytes body w in
            let stay = (done-stays k (take used piece) e.at).used in
            let none : used ≡ 0 = omega (arith, stay, counted, all) in
            ap End none;
        still = λ body place f. let e = fails-known bytes body place f in absurd (done-bad (after (take used piece)) done ((bad-stays k (take used piece) e.at).at));
      }
  right (Refused bad) (tracks, same, at, kind, place_is) count all =
      let is_bad : (after piece).at ≡ Bad = sym tracks.at ∙ at in
      let from : bad.place ≡ (after piece).from = place_is ∙ tracks.from in
      record {
        says = λ body g. (kind, subst (λ (p : ℕ). IsFaulty (bytes ++ piece) body p) (sym from) (subst (λ (t : List ℕ). IsFaulty (bytes ++ piece) t (after piece).from) (same ∙ (goes-known bytes body g).body) (fails-after piece is_bad)));
        goes_on = λ body g more. absurd (open-bad (after piece) ((after-goes piece body more).at) is_bad);
        ended = λ body n g le w. absurd (done-bad (after piece) (end-stays n ((after-ends (take n piece) body w).at)) is_bad);
        faulty = λ body place g f. ap Refused (wrong bad place kind (from ∙ (after-fails piece body place f).from));
        again = λ body w. let e = ends-known bytes body w in absurd (done-bad (after piece) ((done-stays k piece e.at).at ∙ e.at) is_bad);
        still = λ body place f. ap Refused (wrong bad place kind (from ∙ (after-fails piece body place (faulty-more bytes body place piece f)).from));
      }
    where
      wrong : (bad : BadField) (place : ℕ) → bad.kind ≡ BadChunk → bad.place ≡ place → bad ≡ wrong_at place
      wrong bad place kind at =
          let first : bad ≡ record { kind = BadChunk; place = bad.place } = ap (λ (t : kinds.Bad). record { kind = t; place = bad.place }) kind in
          first ∙ ap wrong_at at
