-- `reachpairs::pairs_of` meets its contract. The invariant: to read the pairs that are left onto the rows so far makes the answer,
-- and no bit stands at next or above it. Assumes nothing.
use Rattle.std.proofs.Common.{ℕ, List, ◌≡◌, ◌≤◌, ◌<◌, true, sym, ap, ◌∙◌, arith}
use lib.ListN.{length-set}
use Rattle.reachpairs.specs.Pairs.{pair_ok, place}
use Rattle.reachpairs.specs.Loop.{PairsRead}
use Rattle.reachpairs.proofs.PairLaws.{high-none, high-mark, pair_ok-law, read_pairs, pairs-named, pairs-done, pairs-rise, pairs-step}
use Rattle.reachpairs.proofs.PairReasons.{pairs-way}
use Rattle.reachpairs.proofs.pairs_of.Goals as goal

-- a pair that passed the test names two cells, and has a place
placed : (cells f t : ℕ) → cells ≤ 32 → pair_ok cells f t ≡ true → (1 ≤ f) × (1 ≤ t) × (place f t < 1024)
placed cells f t most named = let p = pair_ok-law cells f t named in (p.from.0, p.to.0, omega (arith, p.from, p.to))

pub loop-i-init : goal.loop-i-init
loop-i-init c = let e = c.requires.1 in
    record {
      size = c.told-reach;
      bound = omega arith;
      high = rw e high-none;
      left = ap (λ (rows : List ℕ). read_pairs c.args.cells c.args.at 0 rows c.args.body.now) e ∙ pairs-way _ _ c.requires.0 _;
    }

pub no_rows-requires : goal.no_rows-requires
no_rows-requires c = c.loop-i.invariant.size

pub returns-then-not-ok : goal.returns-then-not-ok
returns-then-not-ok c = let l = c.loop-i in
    let e = pairs-named c.args.cells c.args.at l.next l.i l.reach c.args.body.now (omega arith)
    (sym c.pair_ok-ok.ensures ∙ c.if-not-ok.true)
    ∙ l.invariant.left in
    record { answer = rw c.refuse.ensures (ap (λ (x : PairsRead). x.answer) e); rows = c.no_rows.ensures ∙ ap (λ (x : PairsRead). x.reach) e }

pub place_of-q-requires : goal.place_of-q-requires
place_of-q-requires c =
    let p = placed _ _ _ c.requires.0 (sym c.pair_ok-ok.ensures ∙ c.if-not-ok.false) in (p.0, p.1)

pub no_rows-requires-then-q-next : goal.no_rows-requires-then-q-next
no_rows-requires-then-q-next c = c.loop-i.invariant.size

pub returns-then-q-next : goal.returns-then-q-next
returns-then-q-next c = let l = c.loop-i in
    let e = pairs-rise c.args.cells c.args.at l.next l.i l.reach c.args.body.now (omega arith)
    (sym c.pair_ok-ok.ensures ∙ c.if-not-ok.false)
    (omega (arith, c.place_of-q.ensures))
    ∙ l.invariant.left in
    record {
      answer = rw c.refuse-then-q-next.ensures (ap (λ (x : PairsRead). x.answer) e);
      rows = c.no_rows-then-q-next.ensures ∙ ap (λ (x : PairsRead). x.reach) e;
    }

pub bounds-reach-a : goal.bounds-reach-a
bounds-reach-a c =
    omega (arith, c.place_of-q.ensures, placed _ _ _ c.requires.0 (sym c.pair_ok-ok.ensures ∙ c.if-not-ok.false))

pub bounds-reach-a-in-loop-i : goal.bounds-reach-a-in-loop-i
bounds-reach-a-in-loop-i c =
    omega (arith, c.place_of-q.ensures, placed _ _ _ c.requires.0 (sym c.pair_ok-ok.ensures ∙ c.if-not-ok.false))

pub loop-i-preserved : goal.loop-i-preserved
loop-i-preserved c = let l = c.loop-i in
    let named = sym c.pair_ok-ok.ensures ∙ c.if-not-ok.false in
    let below : c.place_of-q.result < 1024 = omega (arith, c.place_of-q.ensures, placed _ _ _ c.requires.0 named) in
    record {
      size = length-set l.reach _ _ ∙ l.invariant.size;
      bound = omega (arith, below);
      high =
          rw c.with_bit-row.ensures
          (high-mark l.next c.place_of-q.result l.reach l.invariant.size c.if-q-next.false below l.invariant.high);
      left =
          rw (c.with_bit-row.ensures, c.place_of-q.ensures)
          (pairs-step c.args.cells c.args.at l.next l.i l.reach c.args.body.now (omega arith) named
          (omega (arith, c.place_of-q.ensures))
          ∙ l.invariant.left);
    }

pub returns : goal.returns
returns c = let l = c.loop-i in
    let e = sym (pairs-done _ _ l.next l.i l.reach c.args.body.now (omega arith)) ∙ l.invariant.left in
    record { answer = ap (λ (x : PairsRead). x.answer) e; rows = ap (λ (x : PairsRead). x.reach) e }
