-- `rows::fill_front` meets its contract: before each piece, those before it are filled as a whole (`Pieces`). Where the loop is left, no piece more is.
-- Assumes nothing.
use Rattle.std.proofs.Common.{arith, ℕ, ◌≡◌, ◌+◌, ◌-◌, ◌*◌, ◌/◌, ◌≤◌, List, ap, sym, ◌∙◌, length}
use borrow.Rule.Slice.PartMut.{mid_of}
use Rattle.laws.specs.Part.{put}
use Rattle.laws.specs.Search.{first}
use Rattle.laws.proofs.Part.{lent, back, length_part, put-part}
use Rattle.laws.proofs.Search.{first-hit, first-end}
use Rattle.theory.specs.Net.{unblocked}
use Rattle.theory.proofs.Stretch.{front, after}
use Rattle.rows.proofs.Fill.{taken, as_it_was}
use Rattle.rows.proofs.Pieces.{Pieces, pieces-first, pieces-turn, pieces-short, piece-at, piece_in, stop-zero}
use Rattle.rows.specs.Stretch.{stops_at, whole_pieces, fill_start}
use Rattle.rows.proofs.fill_front.Goals as goal

-- what is given where no piece more is filled as a whole
told : (slots channels load : ℕ) (was : List ℕ) (k : ℕ) {left from : ℕ} {row : List ℕ} → Pieces slots (8 * channels) load was k left from row
    → first (stops_at (8 * channels) load was) k (slots / 8) ≡ k
    → (row ≡ front unblocked (8 * k * channels) load was) × (left ≡ after unblocked (8 * k * channels) load was)
    × ((from ≤ 8 * k * channels) × (after unblocked from load was ≡ load)) × (8 * k ≡ 8 * whole_pieces slots (8 * channels) load was)
    × (from ≡ fill_start (8 * channels) load was (whole_pieces slots (8 * channels) load was))
told slots channels load was k g here =
    let all : k ≡ whole_pieces slots (8 * channels) load was = sym (g.whole ∙ here) in
    rw (piece-at k channels)
    (g.row_is, g.left_is, (g.early, g.none_before), ap (λ (m : ℕ). 8 * m) all, g.start ∙ ap (fill_start (8 * channels) load was) all)

pub loop-piece-init : goal.loop-piece-init
loop-piece-init c = pieces-first c.args.slots (8 * c.args.channels) c.args.load c.args.row.now

pub take_idle-count-requires : goal.take_idle-count-requires
take_idle-count-requires c = let n = 8 * c.args.channels in
    let at = c.loop-piece.piece * n in
    let fits : at + n ≤ length c.loop-piece.row = omega (arith, piece_in c.args.slots c.args.channels c.loop-piece-test.true) in
    omega (arith, ap length (lent at n c.loop-piece.row) ∙ length_part at n c.loop-piece.row fits)

pub loop-piece-preserved : goal.loop-piece-preserved
loop-piece-preserved c = let n = 8 * c.args.channels in
    let l = c.loop-piece in
    let at = l.piece * n in
    let fits : at + n ≤ length c.args.row.now = omega (arith, piece_in c.args.slots c.args.channels c.loop-piece-test.true) in
    let over : c.take_idle-count.result ≤ l.left = omega arith in
    rw (back at n l.row c.take_idle-count.new.stretch)
    (pieces-turn c.args.slots n c.args.load c.args.row.now l.piece l.invariant fits c.loop-piece-test.true (lent at n l.row) c.take_idle-count.ensures.count
    over (λ z. omega arith) (taken (mid_of at (at + n - at) l.row) c.take_idle-count.result l.left over c.take_idle-count.ensures.taken)
    c.begins-from.ensures)

pub returns : goal.returns
returns c = let a = c.args in
    let l = c.loop-piece in
    let all : l.piece ≡ a.slots / 8 = omega arith in
    let t = rw all at (told a.slots a.channels a.load a.row.now l.piece l.invariant
    (first-end (stops_at (8 * a.channels) a.load a.row.now) l.piece (a.slots / 8) (omega arith))) in record {
      within = omega arith;
      filled = t.0;
      left = t.1;
      from = t.2;
      pieces = t.3;
      start = t.4;
    }

pub returns-then-left-eq0 : goal.returns-then-left-eq0
returns-then-left-eq0 c = let a = c.args in
    let l = c.loop-piece in
    let t = told a.slots a.channels a.load a.row.now l.piece l.invariant
    (first-hit (stops_at (8 * a.channels) a.load a.row.now) l.piece (a.slots / 8) c.loop-piece-test.true
    (stop-zero (8 * a.channels) a.load a.row.now l.piece l.invariant.left_is (omega arith))) in record {
      within = omega arith;
      filled = t.0;
      left = t.1;
      from = t.2;
      pieces = t.3;
      start = t.4;
    }

pub returns-then-left-count : goal.returns-then-left-count
returns-then-left-count c = let a = c.args in
    let n = 8 * a.channels in
    let l = c.loop-piece in
    let at = l.piece * n in
    let fits : at + n ≤ length a.row.now = omega (arith, piece_in a.slots a.channels c.loop-piece-test.true) in
    let fits' : at + n ≤ length l.row = omega (arith, piece_in a.slots a.channels c.loop-piece-test.true) in
    let unchanged : put at n c.take_idle-count.new.stretch l.row ≡ l.row
    = ap (λ (z : List ℕ). put at n z l.row)
    (as_it_was (mid_of at (at + n - at) l.row) c.take_idle-count.result l.left (omega arith) c.take_idle-count.ensures.taken ∙ lent at n l.row)
    ∙ put-part at n l.row fits' in
    let t = told a.slots a.channels a.load a.row.now l.piece l.invariant
    (first-hit (stops_at n a.load a.row.now) l.piece (a.slots / 8) c.loop-piece-test.true
    (pieces-short a.slots n a.load a.row.now l.piece l.invariant fits (lent at n l.row) c.take_idle-count.ensures.count (omega arith))) in record {
      within = omega arith;
      filled = back at n l.row c.take_idle-count.new.stretch ∙ unchanged ∙ t.0;
      left = t.1;
      from = t.2;
      pieces = t.3;
      start = t.4;
    }
