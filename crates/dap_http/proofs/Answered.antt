-- What the parts of an unframer answer is right, and it stands after the used bytes.
use Rattle.std.proofs.Common.{◌≡◌, ℕ, ◌+◌, ◌-◌, ◌<◌, ◌≤◌, true, false, List, [], ◌++◌, length, take, drop, refl, sym, ap, ◌∙◌, arith, append-nil, length-append, length-drop, inl, inr, subst}
use Rattle.std.specs.Prelude.{IsTrue}
use Rattle.std.proofs.Math.Seq.{take-add, take-length}
use Rattle.std.proofs.lemmas.Bool.{true≢false, cases_lt}
use Rattle.std.proofs.lemmas.List.{length-take-le, take-append-drop}
use Rattle.dap_http.specs.After.{UnframerStandsAfter, used_of}
use Rattle.dap_http.specs.inner.Tracking.{Counts, IsRight, Lands, Passes, Tracks}
use Rattle.dap_http.specs.inner.Steps.{Known, is_open, run, start, stops}
use Rattle.dap_http.specs.declared.chunk_step.At.{At}
use Rattle.dap_http.specs.declared.chunk_step.At.TheVariants.{Data, Done, Bad}
use Rattle.dap_http.specs.declared.coding.Coding.TheVariants.{Chunked, Length, ToEnd}
use Rattle.dap_http.specs.declared.unframer.Unframed.{Unframed}
use Rattle.dap_http.specs.declared.unframer.Unframed.TheVariants.{Part, More, End, Refused}
use Rattle.dap_http.specs.declared.unframer.Unframer.{Unframer}
use Rattle.dap_http.specs.Codings.{Ends, Fails, Goes}
use Rattle.dap_http.proofs.Landed.{right}
use Rattle.dap_http.proofs.Lending.{in-stands, stands-in}
use Rattle.dap_http.proofs.Runs.{bad-stays, run-append}
use Rattle.dap_http.proofs.Whole.{ends-known, fails-known, goes-known}

-- ---- one part behind some lines

pub part-lands : (piece lent : List ℕ) (u n : ℕ) (mid v : Unframer) (k : Known) → lent ≡ take n (drop u piece) → u + n ≤ length piece → 0 < n
    → Tracks mid (run k (take u piece)) × ((run k (take u piece)).body ≡ k.body)
    → ((m : Known) (bytes : List ℕ) → Tracks mid m → length bytes ≡ n → Tracks v (run m bytes) × ((run m bytes).body ≡ m.body ++ bytes))
    → IsTrue (is_open v.at)
    → (u + n ≤ length piece) × (0 < length lent) × ((front : List ℕ) × (take (u + n) piece ≡ front ++ lent))
    × Tracks v (run k (take (u + n) piece)) × ((run k (take (u + n) piece)).body ≡ k.body ++ lent) × IsTrue (is_open v.at)
part-lands piece lent u n mid v k is within some (tracks, same) lends opens =
    let long : length (take n (drop u piece)) ≡ n = length-take-le n (drop u piece) (omega (arith, within, length-drop u piece)) in
    let count : length lent ≡ n = ap length is ∙ long in
    let all : take (u + n) piece ≡ take u piece ++ lent = take-add u n piece ∙ ap (λ t. take u piece ++ t) (sym is) in
    let (after, grown) = lends (run k (take u piece)) lent tracks count in
    let runs : run k (take (u + n) piece) ≡ run (run k (take u piece)) lent = ap (run k) all ∙ run-append k (take u piece) lent in
    (within, omega (arith, count, some), (take u piece, all), rw runs after, ap (λ (m : Known). m.body) runs ∙ grown ∙ ap (λ t. t ++ lent) same, opens)

pub bad-lands : (piece : List ℕ) (u : ℕ) (mid : Unframer) (k : Known) → u ≤ length piece → Tracks mid (run k (take u piece)) × ((run k (take u piece)).body ≡ k.body) → mid.at ≡ Bad
    → (v : Unframer) → v.at ≡ mid.at → v.used ≡ mid.used + (length piece - u) → v.from ≡ mid.from → v.lent ≡ mid.lent → Tracks v (run k piece) × ((run k piece).body ≡ k.body)
bad-lands piece u mid k within (tracks, same) bad v at used from lent =
    let m = run k (take u piece) in
    let stuck = bad-stays m (drop u piece) (sym tracks.at ∙ bad) in
    let runs : run k piece ≡ run m (drop u piece) = ap (run k) (sym (take-append-drop u piece)) ∙ run-append k (take u piece) (drop u piece) in
    let body : (run k piece).body ≡ m.body = ap (λ (q : Known). q.body) runs ∙ stuck.body in (
      record {
        at = at ∙ bad ∙ sym (ap (λ (q : Known). q.at) runs ∙ stuck.at);
        used = omega (arith, used, tracks.used, ap (λ (q : Known). q.used) runs, stuck.used, length-drop u piece);
        from = from ∙ tracks.from ∙ sym (ap (λ (q : Known). q.from) runs ∙ stuck.from);
        lent = lent ∙ tracks.lent ∙ ap length (sym body);
      },
      body ∙ same,
    )

-- a state that is none of these three does not stop
pub none-stops : (at : At) → ((left : ℕ) → ¬ (at ≡ Data left)) → ¬ (at ≡ Done) → ¬ (at ≡ Bad) → (stops at ≡ false) × (is_open at ≡ true)
none-stops (Data left) d e b = absurd (d left refl)
none-stops Done d e b = absurd (e refl)
none-stops Bad d e b = absurd (b refl)
none-stops at d e b = (refl, refl)

pub whole-piece : (piece : List ℕ) (u : ℕ) (v : Unframer) (k : Known) → u ≤ length piece → (u < length piece → IsTrue (stops v.at)) → stops v.at ≡ false
    → Tracks v (run k (take u piece)) × ((run k (take u piece)).body ≡ k.body) → (u ≡ length piece) × Tracks v (run k piece) × ((run k piece).body ≡ k.body)
whole-piece piece u v k within stopped non (tracks, same) = elim (cases_lt u (length piece)) [
  | inl before ↦ absurd (true≢false (sym (stopped before) ∙ non))
  | inr all ↦
      let at_end : u ≡ length piece = omega (arith, within, all) in
      let front : take u piece ≡ piece = ap (λ n. take n piece) at_end ∙ take-length piece in
      (at_end, subst (λ t. Tracks v (run k t)) front tracks, subst (λ t. (run k t).body ≡ k.body) front same)
]

-- ---- chunks

landed-tracks : (k : Known) (v : Unframer) (piece : List ℕ) (answer : Unframed) → Lands k v piece answer → Tracks v (run k (used_of answer piece))
landed-tracks k v piece (Part lent used) (within, some, front, tracks, grown, at) = tracks
landed-tracks k v piece More (tracks, same, at) = tracks
landed-tracks k v piece (End used) (within, tracks, same, at) = tracks
landed-tracks k v piece (Refused bad) (tracks, same, at, kind, place) = tracks

pub chunked-right : (u v : Unframer) (bytes piece : List ℕ) (answer : Unframed) → u.coding ≡ Chunked → UnframerStandsAfter u bytes → ((k : Known) → Tracks u k → Lands k v piece answer)
    → v.used ≡ u.used + length (used_of answer piece) → IsRight u.coding bytes piece answer
chunked-right u v bytes piece answer is stands lands count =
    let (tracks, all) = stands-in u Chunked bytes is stands in
    subst (λ c. IsRight c bytes piece answer) (sym is)
    (right bytes piece v answer (lands (run start bytes) tracks) (omega (arith, count, all)) (omega (arith, tracks.used, all)))

pub chunked-stands : (u v : Unframer) (bytes piece : List ℕ) (answer : Unframed) → u.coding ≡ Chunked → v.coding ≡ u.coding → UnframerStandsAfter u bytes → ((k : Known) → Tracks u k → Lands k v piece answer)
    → v.used ≡ u.used + length (used_of answer piece) → UnframerStandsAfter v (bytes ++ used_of answer piece)
chunked-stands u v bytes piece answer is same stands lands count =
    let (tracks, all) = stands-in u Chunked bytes is stands in
    let after = landed-tracks (run start bytes) v piece answer (lands (run start bytes) tracks) in
    in-stands v Chunked (bytes ++ used_of answer piece) (same ∙ is)
    (rw (run-append start bytes (used_of answer piece)) after, omega (arith, count, all, length-append bytes (used_of answer piece)))

-- ---- a stated length

grows : (bytes more : List ℕ) (body : List ℕ) → body ≡ bytes → body ≡ bytes ++ more → length more ≡ 0
grows bytes more body e f = omega (arith, ap length (sym e ∙ f), length-append bytes more)

pub counted-right : (lent now whole : ℕ) (bytes piece : List ℕ) (answer : Unframed) → Counts lent now whole piece answer → lent ≡ length bytes → lent ≤ whole → IsRight (Length whole) bytes piece answer
counted-right lent now whole bytes piece (Part bs used) (within, is, some, room, counted) all fits =
    let long : length (take used piece) ≡ used = length-take-le used piece within in
    let total : length (bytes ++ take used piece) ≡ lent + used = length-append bytes (take used piece) ∙ ap (λ n. length bytes + n) long ∙ ap (λ n. n + used) (sym all) in
    record {
      says = λ body g.
          let same : body ++ bs.now ≡ bytes ++ take used piece = ap (λ t. t ++ bs.now) g.0 ∙ ap (λ t. bytes ++ t) is in (
            within,
            omega (arith, ap length is, long, some),
            ([], sym is),
            elim (cases_lt (lent + used) whole) [
              | inl before ↦ inl (same, omega (arith, before, total))
              | inr at_end ↦ inr (same, omega (arith, at_end, room, total))
            ],
          );
      goes_on = λ body g more. absurd (omega (arith, grows bytes piece body g.0 more.0, some, within));
      ended = λ body n g le e. absurd (omega (arith, e.1, ap length (sym e.0 ∙ g.0), g.1));
      faulty = λ body place g f. absurd f;
      again = λ body e. absurd (omega (arith, e.1, all, room, some));
      still = λ body place f. absurd f;
    }
counted-right lent now whole bytes piece More (empty, room, counted) all fits = record {
  says = λ body g. (g.0 ∙ sym (append-nil bytes) ∙ ap (λ t. bytes ++ t) (sym empty), omega (arith, g.1, ap length empty, length-append bytes piece));
  goes_on = λ body g more. refl;
  ended = λ body n g le e. absurd (omega (arith, e.1, ap length (sym e.0 ∙ g.0), g.1));
  faulty = λ body place g f. absurd f;
  again = λ body e. absurd (omega (arith, e.1, all, room));
  still = λ body place f. absurd f;
}
counted-right lent now whole bytes piece (End used) (none, past, counted) all fits = record {
  says = λ body g. absurd (omega (arith, g.1, all, past));
  goes_on = λ body g more. absurd (omega (arith, g.1, all, past));
  ended = λ body n g le e. absurd (omega (arith, g.1, all, past));
  faulty = λ body place g f. absurd f;
  again = λ body e. ap End none;
  still = λ body place f. absurd f;
}
counted-right lent now whole bytes piece (Refused bad) counts all fits = absurd counts

counted-lent : (lent now whole : ℕ) (piece : List ℕ) (answer : Unframed) → Counts lent now whole piece answer → lent ≤ whole → (now ≡ lent + length (used_of answer piece)) × (now ≤ whole)
counted-lent lent now whole piece (Part bs used) (within, is, some, room, counted) fits = (omega (arith, counted, length-take-le used piece within), omega (arith, counted, room))
counted-lent lent now whole piece More (empty, room, counted) fits = (omega (arith, counted, ap length empty), omega (arith, counted, fits))
counted-lent lent now whole piece (End used) (none, past, counted) fits =
    let front : take used piece ≡ [] = ap (λ n. take n piece) none in
    (omega (arith, counted, ap length front), omega (arith, counted, fits))
counted-lent lent now whole piece (Refused bad) counts fits = absurd counts

pub length-right : (u v : Unframer) (whole : ℕ) (bytes piece : List ℕ) (answer : Unframed) → u.coding ≡ Length whole → UnframerStandsAfter u bytes → Counts u.lent v.lent whole piece answer → IsRight u.coding bytes piece answer
length-right u v whole bytes piece answer is stands counts =
    let (lent, used, fits) = stands-in u (Length whole) bytes is stands in
    subst (λ c. IsRight c bytes piece answer) (sym is) (counted-right u.lent v.lent whole bytes piece answer counts lent (omega (arith, lent, fits)))

pub length-stands : (u v : Unframer) (whole : ℕ) (bytes piece : List ℕ) (answer : Unframed) → u.coding ≡ Length whole → v.coding ≡ u.coding → UnframerStandsAfter u bytes → Counts u.lent v.lent whole piece answer
    → v.used ≡ u.used + length (used_of answer piece) → UnframerStandsAfter v (bytes ++ used_of answer piece)
length-stands u v whole bytes piece answer is same stands counts count =
    let (lent, used, fits) = stands-in u (Length whole) bytes is stands in
    let (more, within) = counted-lent u.lent v.lent whole piece answer counts (omega (arith, lent, fits)) in
    let long = length-append bytes (used_of answer piece) in
    in-stands v (Length whole) (bytes ++ used_of answer piece) (same ∙ is) (omega (arith, more, lent, long), omega (arith, count, used, long), omega (arith, more, lent, long, within))

-- ---- up to the end

passed-right : (lent now : ℕ) (bytes piece : List ℕ) (answer : Unframed) → Passes lent now piece answer → IsRight ToEnd bytes piece answer
passed-right lent now bytes piece (Part bs used) (all, is, some, counted) =
    let front : take used piece ≡ piece = ap (λ n. take n piece) all ∙ take-length piece in
    record {
      says = λ body g. (
        omega (arith, all),
        omega (arith, ap length is, all, some),
        ([], front ∙ sym is),
        inl (ap (λ t. t ++ bs.now) g ∙ ap (λ t. bytes ++ t) (is ∙ sym front)),
      );
      goes_on = λ body g more. absurd (omega (arith, grows bytes piece body g more, all, some));
      ended = λ body n g le e. absurd e;
      faulty = λ body place g f. absurd f;
      again = λ body e. absurd e;
      still = λ body place f. absurd f;
    }
passed-right lent now bytes piece More (empty, counted) = record {
  says = λ body g. g ∙ sym (append-nil bytes) ∙ ap (λ t. bytes ++ t) (sym empty);
  goes_on = λ body g more. refl;
  ended = λ body n g le e. absurd e;
  faulty = λ body place g f. absurd f;
  again = λ body e. absurd e;
  still = λ body place f. absurd f;
}
passed-right lent now bytes piece (End used) passes = absurd passes
passed-right lent now bytes piece (Refused bad) passes = absurd passes

passed-lent : (lent now : ℕ) (piece : List ℕ) (answer : Unframed) → Passes lent now piece answer → now ≡ lent + length (used_of answer piece)
passed-lent lent now piece (Part bs used) (all, is, some, counted) = omega (arith, counted, all, ap length (ap (λ n. take n piece) all ∙ take-length piece))
passed-lent lent now piece More (empty, counted) = omega (arith, counted, ap length empty)
passed-lent lent now piece (End used) passes = absurd passes
passed-lent lent now piece (Refused bad) passes = absurd passes

pub end-right : (u v : Unframer) (bytes piece : List ℕ) (answer : Unframed) → u.coding ≡ ToEnd → Passes u.lent v.lent piece answer → IsRight u.coding bytes piece answer
end-right u v bytes piece answer is passes = subst (λ c. IsRight c bytes piece answer) (sym is) (passed-right u.lent v.lent bytes piece answer passes)

pub end-stands : (u v : Unframer) (bytes piece : List ℕ) (answer : Unframed) → u.coding ≡ ToEnd → v.coding ≡ u.coding → UnframerStandsAfter u bytes → Passes u.lent v.lent piece answer
    → v.used ≡ u.used + length (used_of answer piece) → UnframerStandsAfter v (bytes ++ used_of answer piece)
end-stands u v bytes piece answer is same stands passes count =
    let (lent, used) = stands-in u ToEnd bytes is stands in
    let more = passed-lent u.lent v.lent piece answer passes in
    let long = length-append bytes (used_of answer piece) in
    in-stands v ToEnd (bytes ++ used_of answer piece) (same ∙ is) (omega (arith, more, lent, long), omega (arith, count, used, long))

-- a piece that ends before reading stops is used whole
pub all-used : (length_of u : ℕ) (at : At) → u ≤ length_of → (u < length_of → IsTrue (stops at)) → stops at ≡ false → u ≡ length_of
all-used n u at within stopped non = elim (cases_lt u n) [
  | inl before ↦ absurd (true≢false (sym (stopped before) ∙ non))
  | inr all ↦ omega (arith, within, all)
]

-- ---- where the source has ended

pub finish-goes : (u : Unframer) (bytes body : List ℕ) → u.coding ≡ Chunked → UnframerStandsAfter u bytes → Goes u.coding bytes body → (is_open u.at ≡ true) × (u.lent ≡ length body)
finish-goes u bytes body is stands g =
    let (tracks, all) = stands-in u Chunked bytes is stands in
    let k = goes-known bytes body (subst (λ c. Goes c bytes body) is g) in
    (ap is_open tracks.at ∙ k.at, tracks.lent ∙ ap length k.body)

pub finish-ends : (u : Unframer) (bytes body : List ℕ) → u.coding ≡ Chunked → UnframerStandsAfter u bytes → Ends u.coding bytes body → u.at ≡ Done
finish-ends u bytes body is stands e =
    let (tracks, all) = stands-in u Chunked bytes is stands in
    tracks.at ∙ (ends-known bytes body (subst (λ c. Ends c bytes body) is e)).at

pub finish-fails : (u : Unframer) (bytes body : List ℕ) (place : ℕ) → u.coding ≡ Chunked → UnframerStandsAfter u bytes → Fails u.coding bytes body place → (u.at ≡ Bad) × (u.from ≡ place)
finish-fails u bytes body place is stands f =
    let (tracks, all) = stands-in u Chunked bytes is stands in
    let k = fails-known bytes body place (subst (λ c. Fails c bytes body place) is f) in
    (tracks.at ∙ k.at, tracks.from ∙ k.from)

pub counted-goes : (u : Unframer) (n : ℕ) (bytes body : List ℕ) → u.coding ≡ Length n → UnframerStandsAfter u bytes → Goes u.coding bytes body → (u.lent ≡ length body) × (u.lent < n)
counted-goes u n bytes body is stands g =
    let (lent, used, fits) = stands-in u (Length n) bytes is stands in
    let here : Goes (Length n) bytes body = subst (λ c. Goes c bytes body) is g in
    (lent ∙ sym (ap length here.0), omega (arith, lent, here.1))

pub counted-ends : (u : Unframer) (n : ℕ) (bytes body : List ℕ) → u.coding ≡ Length n → UnframerStandsAfter u bytes → Ends u.coding bytes body → n ≤ u.lent
counted-ends u n bytes body is stands e =
    let (lent, used, fits) = stands-in u (Length n) bytes is stands in
    let here : Ends (Length n) bytes body = subst (λ c. Ends c bytes body) is e in
    omega (arith, lent, here.1)
