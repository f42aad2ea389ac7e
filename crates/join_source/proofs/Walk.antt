-- One piece is put after the other.
use Rattle.std.proofs.Common.{◌≡◌, ℕ, ◌+◌, ◌-◌, ◌<◌, ◌≤◌, List, [], ◌∷◌, ◌++◌, All, Option, length, take, drop, get_or, refl, sym, ap, ◌∙◌, subst, arith, append-nil, length-append}
use Rattle.std.proofs.KnownBytes.{Appends-trans}
use Rattle.std.proofs.Math.Seq.{take-append-add}
use Rattle.std.proofs.lemmas.Grind.{flat_map-append}
use Rattle.std.proofs.lemmas.List.{take-append-drop, take-append-le, take_more, take_all, drop_more}
use Rattle.std.proofs.lemmas.List.Elements.{All-append, All-cons, All-nil}
use Rattle.std.proofs.lemmas.List.Sums.{sum_by-append, sum_by-cons}
use Rattle.std.specs.Io.KnownBytes.{Appends}
use Rattle.std.specs.List.{sum_by}
use Rattle.hyperslab_plan.specs.Batches.{InTurn, read_by}
use Rattle.hyperslab_plan.specs.declared.batch.Batch.{Batch}
use Rattle.hyperslab_plan.specs.declared.plan.Plan.{Plan}
use Rattle.xdr_encode.proofs.ArrayParts.{all-begun}
use Rattle.xdr_encode.proofs.Sending.{asked-bound, read-push, turn-more}
use Rattle.xdr_encode.specs.Elements.{forms_from}
use Rattle.xdr_encode.specs.Leaves.{begins_in, counts_of}
use Rattle.xdr_encode.specs.Streamed.{Stops}
use Rattle.join_source.specs.Begun.{HaveBegun, PieceHasBegun}
use Rattle.join_source.specs.Pieces.{PieceAsks, PieceStops, file_in, piece_cost, piece_xdr, pieces_cost, pieces_xdr}
use Rattle.join_source.specs.declared.piece.Piece.{Piece}
use Rattle.join_source.specs.declared.piece.Piece.TheVariants.{Text, Elements}

-- what was asked by a step that put whole pieces
abbrev pub AskAll : List Piece → ℕ → ℕ → Type 0
AskAll [] asked asked' = asked' ≤ asked
AskAll (piece ∷ pieces) asked asked' = (then_asked : ℕ) × PieceAsks piece asked then_asked × AskAll pieces then_asked asked'

pub pieces-none : (files : List (List ℕ)) → pieces_xdr [] files ≡ []
unfolding pieces_xdr
pieces-none files = refl

pub pieces-append : (before behind : List Piece) (files : List (List ℕ)) → pieces_xdr (before ++ behind) files ≡ pieces_xdr before files ++ pieces_xdr behind files
unfolding pieces_xdr
pieces-append before behind files = flat_map-append (λ p. piece_xdr p files) before behind

pub pieces-cons : (piece : Piece) (pieces : List Piece) (files : List (List ℕ)) → pieces_xdr (piece ∷ pieces) files ≡ piece_xdr piece files ++ pieces_xdr pieces files
unfolding pieces_xdr
pieces-cons piece pieces files = refl

pub pieces-one : (piece : Piece) (files : List (List ℕ)) → pieces_xdr (piece ∷ []) files ≡ piece_xdr piece files
unfolding pieces_xdr
pieces-one piece files = append-nil (piece_xdr piece files)

-- ---- what they cost

piece-bound : (piece : Piece) (a m : ℕ) → PieceAsks piece a m → m ≤ a + piece_cost piece
unfolding PieceAsks piece_cost
piece-bound (Text text) a m asks = omega (arith, asks)
piece-bound (Elements member plan) a m asks = omega (arith, asks.few, asked-bound plan asks.batches plan.total asks.in_turn)

later-asks : (piece : Piece) (a m m' : ℕ) → m ≤ a → PieceAsks piece m m' → PieceAsks piece a m'
unfolding PieceAsks
later-asks (Text text) a m m' before asks = omega (arith, before, asks)
later-asks (Elements member plan) a m m' before asks = record { batches = asks.batches; in_turn = asks.in_turn; few = omega (arith, before, asks.few) }

ask-push : (pieces : List Piece) (piece : Piece) (a m m' : ℕ) → AskAll pieces a m → PieceAsks piece m m' → AskAll (pieces ++ piece ∷ []) a m'
ask-push [] piece a m m' all more = (m', later-asks piece a m m' all more, omega arith)
ask-push (p ∷ pieces) piece a m m' all more = (all.0, all.1, ask-push pieces piece all.0 m m' all.2 more)

ask-cost : (pieces : List Piece) (a m : ℕ) → AskAll pieces a m → m ≤ a + sum_by piece_cost pieces
ask-cost [] a m all = omega (arith, all)
ask-cost (piece ∷ pieces) a m all = omega (arith, ask-cost pieces all.0 m all.2, piece-bound piece a all.0 all.1, sum_by-cons piece_cost piece pieces)

pub ask-bound : (pieces : List Piece) (a m : ℕ) → AskAll pieces a m → m ≤ a + pieces_cost pieces
unfolding pieces_cost
ask-bound pieces a m all = ask-cost pieces a m all

-- ---- what has begun

-- batches up to a position begin at or before the form of its element
begun-up : (plan : Plan) (file : List ℕ) (bs : List Batch) (upto at put : ℕ) → InTurn plan bs 0 upto → at + length (forms_from plan file 0 upto) ≤ put
    → All (λ b. at + length (forms_from plan file 0 b.first) ≤ put) bs
unfolding begins_in
begun-up plan file bs upto at put turn le =
    let all : All (λ b. length (counts_of plan.base plan.total) + length (forms_from plan file 0 b.first) ≤ length (counts_of plan.base plan.total) + (put - at)) bs
    = all-begun plan file bs 0 upto (length (counts_of plan.base plan.total) + (put - at)) turn (omega (arith, le)) in
    λ k d lt. let one : length (counts_of plan.base plan.total) + length (forms_from plan file 0 (get_or bs k d).first) ≤ length (counts_of plan.base plan.total) + (put - at) = all k d lt in omega (arith, one, le)

module _ (files : List (List ℕ)) where
  none-begun : (piece : Piece) (at put : ℕ) → PieceHasBegun piece files at put 0
  unfolding PieceHasBegun read_by
  none-begun (Text text) at put = refl
  none-begun (Elements member plan) at put = record {
    batches = [];
    upto = 0;
    in_turn = refl;
    begun = All-nil (λ b. at + length (forms_from plan (file_in files member) 0 b.first) ≤ put);
    read = refl;
  }

  pub nothing-begun : (pieces : List Piece) (at put : ℕ) → HaveBegun pieces files at put 0
  nothing-begun [] at put = refl
  nothing-begun (piece ∷ pieces) at put = (0, 0, none-begun piece at put, nothing-begun pieces (at + length (piece_xdr piece files)) put, omega arith)

  -- a piece that was put whole
  whole-piece : (piece : Piece) (at put a m : ℕ) → PieceAsks piece a m → at + length (piece_xdr piece files) ≤ put → (n : ℕ) × PieceHasBegun piece files at put n × (m ≤ a + n)
  unfolding PieceHasBegun PieceAsks piece_xdr
  whole-piece (Text text) at put a m asks le = (0, refl, omega (arith, asks))
  whole-piece (Elements member plan) at put a m asks le = (
    read_by plan asks.batches,
    record {
      batches = asks.batches;
      upto = plan.total;
      in_turn = asks.in_turn;
      begun = begun-up plan (file_in files member) asks.batches plan.total at put asks.in_turn le;
      read = refl;
    },
    asks.few,
  )

  pieces-long : (piece : Piece) (pieces : List Piece) → length (pieces_xdr (piece ∷ pieces) files) ≡ length (piece_xdr piece files) + length (pieces_xdr pieces files)
  pieces-long piece pieces = ap length (pieces-cons piece pieces files) ∙ length-append (piece_xdr piece files) (pieces_xdr pieces files)

  whole-pieces : (pieces : List Piece) (at put a m : ℕ) → AskAll pieces a m → at + length (pieces_xdr pieces files) ≤ put → (n : ℕ) × HaveBegun pieces files at put n × (m ≤ a + n)
  whole-pieces [] at put a m all le = (0, refl, omega (arith, all))
  whole-pieces (piece ∷ pieces) at put a m all le =
      let long = pieces-long piece pieces in
      let (own, begun, few) = whole-piece piece at put a all.0 all.1 (omega (arith, le, long)) in
      let (others, more, rest) = whole-pieces pieces (at + length (piece_xdr piece files)) put all.0 m all.2 (omega (arith, le, long)) in
      (own + others, (own, others, begun, more, refl), omega (arith, few, rest))

  append-begun : (before behind : List Piece) (at put n m : ℕ) → HaveBegun before files at put n → HaveBegun behind files (at + length (pieces_xdr before files)) put m → HaveBegun (before ++ behind) files at put (n + m)
  append-begun [] behind at put n m none rest =
      let here : at + length (pieces_xdr [] files) ≡ at = omega (arith, ap length (pieces-none files)) in
      let same : m ≡ n + m = omega (arith, none) in
      subst (λ x. HaveBegun behind files at put x) same (subst (λ x. HaveBegun behind files x put m) here rest)
  append-begun (piece ∷ before) behind at put n m all rest =
      let there : at + length (pieces_xdr (piece ∷ before) files) ≡ at + length (piece_xdr piece files) + length (pieces_xdr before files) = omega (arith, pieces-long piece before) in
      let others = append-begun before behind (at + length (piece_xdr piece files)) put all.1 m all.3 (subst (λ x. HaveBegun behind files x put m) there rest) in
      (all.0, all.1 + m, all.2, others, omega (arith, all.4))

  -- how far a piece was put where it stopped
  record Partly (piece : Piece) (w w' : Option (List ℕ)) (at a a' : ℕ) : Type 0 where
    pub put : ℕ
    pub within : put < length (piece_xdr piece files)
    pub front : Appends w w' (take put (piece_xdr piece files))
    pub most : ℕ
    pub begun : PieceHasBegun piece files at (at + put) most
    pub few : a' ≤ a + most

  partly : (piece : Piece) (w w' : Option (List ℕ)) (at a a' : ℕ) → PieceStops piece files w w' a a' → Partly piece w w' at a a'
  unfolding PieceStops PieceHasBegun piece_xdr
  partly (Text text) w w' at a a' ((k, le, front), same) = record { put = k; within = le; front = front; most = 0; begun = refl; few = omega (arith, same) }
  partly (Elements member plan) w w' at a a' s =
      let file : List ℕ = file_in files member in
      record {
        put = s.put;
        within = s.within;
        front = s.front;
        most = read_by plan (s.before ++ s.batch ∷ []);
        begun = record {
          batches = s.before ++ s.batch ∷ [];
          upto = s.batch.first + s.batch.count;
          in_turn = turn-more plan s.before s.batch 0 s.batch.first s.in_turn s.is_batch refl;
          begun = All-append (λ b. at + length (forms_from plan (file_in files member) 0 b.first) ≤ at + s.put) s.before (s.batch ∷ [])
              (begun-up plan (file_in files member) s.before s.batch.first at (at + s.put) s.in_turn (omega (arith, s.begun)))
              (All-cons (λ b. at + length (forms_from plan (file_in files member) 0 b.first) ≤ at + s.put) s.batch [] (omega (arith, s.begun)) (All-nil (λ b. at + length (forms_from plan (file_in files member) 0 b.first) ≤ at + s.put)));
          read = refl;
        };
        few = omega (arith, s.few, read-push plan s.before s.batch s.is_batch);
      }

-- ---- from one piece to the next

module _ (pieces : List Piece) (i : ℕ) (piece : Piece) (lt : i < length pieces) (is : piece ≡ get_or pieces i piece) where
  next : take (i + 1) pieces ≡ take i pieces ++ piece ∷ []
  next = take_more pieces i piece lt ∙ ap (λ x. take i pieces ++ x ∷ []) (sym is)

  split : pieces ≡ take i pieces ++ piece ∷ drop (i + 1) pieces
  split = sym (take-append-drop i pieces) ∙ ap (λ xs. take i pieces ++ xs) (drop_more pieces i piece lt ∙ ap (λ x. x ∷ drop (i + 1) pieces) (sym is))

  pub this-piece : (P : Piece → Type 0) → All P pieces → P piece
  this-piece P all = subst P (sym is) (all i piece lt)

  pub ask-next : (a m m' : ℕ) → AskAll (take i pieces) a m → PieceAsks piece m m' → AskAll (take (i + 1) pieces) a m'
  ask-next a m m' all more = subst (λ ps. AskAll ps a m') (sym next) (ask-push (take i pieces) piece a m m' all more)

  pub pieces-more : (files : List (List ℕ)) (w0 w w' : Option (List ℕ)) → Appends w0 w (pieces_xdr (take i pieces) files) → Appends w w' (piece_xdr piece files) → Appends w0 w' (pieces_xdr (take (i + 1) pieces) files)
  pieces-more files w0 w w' before more =
      subst (Appends w0 w') (sym (ap (λ ps. pieces_xdr ps files) next ∙ pieces-append (take i pieces) (piece ∷ []) files ∙ ap (λ bs. pieces_xdr (take i pieces) files ++ bs) (pieces-one piece files)))
      (Appends-trans w0 w w' (pieces_xdr (take i pieces) files) (piece_xdr piece files) before more)

  costs : sum_by piece_cost (take i pieces) + piece_cost piece ≤ sum_by piece_cost pieces
  costs =
      let parts : sum_by piece_cost pieces ≡ sum_by piece_cost (take i pieces) + sum_by piece_cost (piece ∷ drop (i + 1) pieces)
      = ap (sum_by piece_cost) split ∙ sum_by-append piece_cost (take i pieces) (piece ∷ drop (i + 1) pieces) in
      omega (arith, parts, sum_by-cons piece_cost piece (drop (i + 1) pieces))

  pub cost-so-far : (a m m' : ℕ) → AskAll (take i pieces) a m → m' ≤ m + piece_cost piece → m' ≤ a + pieces_cost pieces
  unfolding pieces_cost
  cost-so-far a m m' all more = omega (arith, more, ask-cost (take i pieces) a m all, costs)

  pub pieces-stop : (files : List (List ℕ)) (w0 w w' : Option (List ℕ)) (at a m m' : ℕ) → Appends w0 w (pieces_xdr (take i pieces) files) → AskAll (take i pieces) a m
      → PieceStops piece files w w' m m' → Stops (pieces_xdr pieces files) (λ put asked. HaveBegun pieces files at (at + put) asked) w0 w' a m'
  pieces-stop files w0 w w' at a m m' before all stops =
      let gone : ℕ = length (pieces_xdr (take i pieces) files) in
      let p = partly files piece w w' (at + length (pieces_xdr (take i pieces) files)) m m' stops in
      let text : pieces_xdr pieces files ≡ pieces_xdr (take i pieces) files ++ (piece_xdr piece files ++ pieces_xdr (drop (i + 1) pieces) files)
      = ap (λ ps. pieces_xdr ps files) split ∙ pieces-append (take i pieces) (piece ∷ drop (i + 1) pieces) files ∙ ap (λ bs. pieces_xdr (take i pieces) files ++ bs) (pieces-cons piece (drop (i + 1) pieces) files) in
      let cut : take (length (pieces_xdr (take i pieces) files) + p.put) (pieces_xdr pieces files) ≡ pieces_xdr (take i pieces) files ++ take p.put (piece_xdr piece files)
      = ap (take (length (pieces_xdr (take i pieces) files) + p.put)) text
      ∙ take-append-add (pieces_xdr (take i pieces) files) (piece_xdr piece files ++ pieces_xdr (drop (i + 1) pieces) files) p.put
      ∙ ap (λ bs. pieces_xdr (take i pieces) files ++ bs) (take-append-le p.put (piece_xdr piece files) (pieces_xdr (drop (i + 1) pieces) files) (omega (arith, p.within))) in
      let end : at + (length (pieces_xdr (take i pieces) files) + p.put) ≡ at + length (pieces_xdr (take i pieces) files) + p.put = omega arith in
      let (own, begun, few) = whole-pieces files (take i pieces) at (at + (length (pieces_xdr (take i pieces) files) + p.put)) a m all (omega arith) in
      let behind : HaveBegun (piece ∷ drop (i + 1) pieces) files (at + length (pieces_xdr (take i pieces) files)) (at + (length (pieces_xdr (take i pieces) files) + p.put)) (p.most + 0)
      = (p.most, 0, subst (λ x. PieceHasBegun piece files (at + length (pieces_xdr (take i pieces) files)) x p.most) (sym end) p.begun, nothing-begun files (drop (i + 1) pieces) _ _, refl) in
      record {
        put = length (pieces_xdr (take i pieces) files) + p.put;
        within = omega (arith, p.within, ap length text, length-append (pieces_xdr (take i pieces) files) (piece_xdr piece files ++ pieces_xdr (drop (i + 1) pieces) files), length-append (piece_xdr piece files) (pieces_xdr (drop (i + 1) pieces) files));
        front = subst (Appends w0 w') (sym cut) (Appends-trans w0 w w' (pieces_xdr (take i pieces) files) (take p.put (piece_xdr piece files)) before p.front);
        most = own + (p.most + 0);
        may = subst (λ ps. HaveBegun ps files at (at + (length (pieces_xdr (take i pieces) files) + p.put)) (own + (p.most + 0))) (sym split)
            (append-begun files (take i pieces) (piece ∷ drop (i + 1) pieces) at (at + (length (pieces_xdr (take i pieces) files) + p.put)) own (p.most + 0) begun behind);
        few = omega (arith, few, p.few);
      }

pub all-pieces : (pieces : List Piece) (i : ℕ) → length pieces ≤ i → take i pieces ≡ pieces
all-pieces pieces i le = take_all i pieces le
