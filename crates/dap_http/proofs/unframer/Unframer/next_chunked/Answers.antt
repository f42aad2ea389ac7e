use Rattle.std.proofs.Common.{◌≡◌, ◌+◌, ◌-◌, length, take, drop, arith, ap, refl}
use Rattle.dap_http.proofs.Answered.{all-used, bad-lands, none-stops, part-lands, whole-piece}
use Rattle.dap_http.proofs.unframer.Unframer.next_chunked.Goals as goal

pub returns-else-used-piece-clause-lands : goal.returns-else-used-piece-clause-lands
returns-else-used-piece-clause-lands c = λ k t.
    let p = c.args.piece.now in
    let u = c.read_lines-used.result in
    let n = c.lend-count.result in
    let rest : u + n - u ≡ n = omega arith in
    part-lands p (take (u + n - u) (drop u p)) u n c.read_lines-used.new.self c.lend-count.new.self k (ap (λ m. take m (drop u p)) rest)
    (omega (arith, c.lend-count.ensures.most, c.read_lines-used.ensures.within)) c.lend-count.ensures.some (c.read_lines-used.ensures.tracks k t) c.lend-count.ensures.tracks c.lend-count.ensures.open

pub returns-in-Bad-clause-lands : goal.returns-in-Bad-clause-lands
returns-in-Bad-clause-lands c = λ k t.
    let (tracks, same) = bad-lands c.args.piece.now c.read_lines-used.result c.read_lines-used.new.self k c.read_lines-used.ensures.within (c.read_lines-used.ensures.tracks k t) c.in-Bad.is _ refl refl refl refl in
    let fault = c.fault.ensures in
    (tracks, same, c.in-Bad.is, ap (λ (b : _). b.kind) fault, ap (λ (b : _). b.place) fault)

pub returns-in_default : goal.returns-in_default
returns-in_default c =
    let (non, opens) = none-stops c.read_lines-used.new.self.at c.in_default.not-Data c.in_default.not-Done c.in_default.not-Bad in
    record {
      lands = λ k t.
          let (all, tracks, same) = whole-piece c.args.piece.now c.read_lines-used.result c.read_lines-used.new.self k c.read_lines-used.ensures.within c.read_lines-used.ensures.stopped non (c.read_lines-used.ensures.tracks k t) in
          (tracks, same, opens);
      within = omega arith;
      used = omega (arith, c.read_lines-used.ensures.used, all-used (length c.args.piece.now) c.read_lines-used.result c.read_lines-used.new.self.at c.read_lines-used.ensures.within c.read_lines-used.ensures.stopped non);
      coding = c.read_lines-used.ensures.coding;
    }
