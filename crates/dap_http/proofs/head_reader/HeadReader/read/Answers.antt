use Rattle.std.proofs.Common.{◌≡◌, ◌∙◌, refl, sym, ap, subst, List, ℕ, ◌++◌, append_assoc}
use Rattle.std.proofs.KnownBytes.{Consumes-trans}
use Rattle.dap_http.specs.Reading.{kept_by}
use Rattle.dap_http.specs.Requests.{FirstRequest}
use Rattle.dap_http.proofs.HeadReading.{left-behind}
use Rattle.dap_http.proofs.head_reader.HeadReader.read.Goals as goal

pub returns-in-Some-clause-reads : goal.returns-in-Some-clause-reads
returns-in-Some-clause-reads g c =
    let (x, before, kept) = c.loop-read.invariant.taken in
    let (y, after, gives) = c.in-Some.ensures.reads in
    let all : kept_by c.loop-read.self ++ y ≡ kept_by c.args.self.now ++ (x ++ y) = ap (λ l. l ++ y) kept ∙ append_assoc (kept_by c.args.self.now) x y in
    (x ++ y, Consumes-trans _ _ _ x y before after, rw (← all) gives)

pub returns-in-Some-clause-found : goal.returns-in-Some-clause-found
returns-in-Some-clause-found g c = λ left rest head e first.
    let (x, before, kept) = c.loop-read.invariant.taken in
    let (behind, now, is) = left-behind _ _ left x e before in
    let all : kept_by c.args.self.now ++ left ≡ kept_by c.loop-read.self ++ behind =
    ap (λ l. kept_by c.args.self.now ++ l) is ∙ sym (append_assoc (kept_by c.args.self.now) x behind) ∙ ap (λ l. l ++ behind) (sym kept) in
    c.in-Some.ensures.found behind rest head now (subst (λ (b : List ℕ). FirstRequest b head rest) all first)

pub returns-in-Some-clause-at_hand : goal.returns-in-Some-clause-at_hand
returns-in-Some-clause-at_hand g c = λ rest head first.
    let (source, kept) = c.loop-read.invariant.at_hand rest head first in
    (c.in-Some.ensures.at_hand rest head (subst (λ (b : List ℕ). FirstRequest b head rest) (sym kept) first)).0 ∙ source

pub loop-read-preserved : goal.loop-read-preserved
loop-read-preserved g c =
    let (x, before, kept) = c.loop-read.invariant.taken in
    let (y, after, same) = c.in_default.ensures.reads in
    record {
      taken = (x ++ y, Consumes-trans _ _ _ x y before after, same ∙ ap (λ l. l ++ y) kept ∙ append_assoc (kept_by c.args.self.now) x y);
      at_hand = λ rest head first.
          let (source, all) = c.loop-read.invariant.at_hand rest head first in
          absurd ((c.in_default.ensures.at_hand rest head (subst (λ (b : List ℕ). FirstRequest b head rest) (sym all) first)).1 refl);
      count = c.in_default.ensures.kept (λ e. cc) ∙ c.loop-read.invariant.count;
      stays = λ e. c.turn.ensures.stays (c.loop-read.invariant.stays e);
      whole = c.turn.ensures.whole ∙ c.loop-read.invariant.whole;
      beside = c.turn.ensures.beside ∙ c.loop-read.invariant.beside;
    }
