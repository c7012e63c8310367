-- `standing::stand_turns` meets its contract: at the head of the loop the sets are those of the run so far (`Standing`). Assumes nothing.
use mathlib.Core.Path.{◌≡◌, refl, sym, ap, ◌∙◌}
use Prim.Native.Nat.{◌+◌, ◌*◌, ◌≤◌, ◌<◌}
use native.Mathlib.Omega.{arith}
use lib.ListN.{get_or}
use lib.Seq.{sets}
use Rattle.laws.proofs.Grid.{row_before}
use Rattle.laws.proofs.Sums.{count_most}
use Rattle.theory.specs.Greedy.{reserved}
use Rattle.site.specs.Reach.{is_open, net_by}
use Rattle.mending.specs.Keep.{stand_at}
use Rattle.mending.specs.Changes.{differ}
use Rattle.sets.specs.Sets.{set_in}
use Rattle.standing.specs.Stand.{stood_of}
use Rattle.standing.specs.Turns.{turn_sets, turns_of}
use Rattle.standing.specs.Sets.{free_in, short_count, turn_count}
use Rattle.standing.proofs.Standing.{Standing, none_yet, turn-stops, turn-goes, stood-all, stood-says, short-says}
use Rattle.standing.proofs.Turns.{no-sets, turn-stored}
use Rattle.standing.proofs.Within.{set_here, short-here, changes-here}
use Rattle.standing.proofs.stand_turns.Goals as goal

pub loop-i-init : goal.loop-i-init
loop-i-init c = let a = c.args in
    let net = net_by a.cells a.n a.loads.now a.clash.now (is_open a.blocked.now) in (
      omega arith,
      refl,
      refl,
      refl,
      none_yet net a.table.now a.w a.stands.now,
      omega arith,
      no-sets a.w a.n a.loads.now a.clash.now a.blocked.now a.table.now a.stands.now,
    )

pub stand_cell-turn-requires : goal.stand_cell-turn-requires
stand_cell-turn-requires c = let l = c.loop-i in
    let inside = c.loop-i-test.true in
    let word = row_before c.args.w inside in record {
      i_bound = (
        omega (arith, inside, c.requires.cells_bound.0),
        c.requires.cells_bound.1,
        omega (arith, word, c.requires.cells_bound.3, l.invariant.1),
        omega
            (arith, word, c.requires.cells_bound.4),
      );
      w_in_bounds =
          (omega (arith, c.requires.w_in_bounds.0, l.invariant.2), omega (arith, c.requires.w_in_bounds.1, l.invariant.3), c.requires.w_in_bounds.2);
    }

pub overflow_add-result : goal.overflow_add-result
overflow_add-result c =
    let inside : c.loop-i.i < c.args.cells = c.loop-i-test.true in
    omega (arith, c.requires.cells_bound.0, inside)

pub returns-then-short-gt0 : goal.returns-then-short-gt0
returns-then-short-gt0 c =
    let inside : c.loop-i.i < c.args.cells = c.loop-i-test.true in
    let own : c.load_of-load.result ≡ get_or c.args.loads.now c.loop-i.i 0 = c.load_of-load.ensures in
    let set-now : c.stand_cell-turn.new.stands ≡ sets c.loop-i.stands (c.loop-i.i * c.args.w)
    (set_in (stand_at (free_in c.args.w c.args.n c.args.blocked.now (get_or c.args.clash.now c.loop-i.i 0) c.loop-i.stands c.loop-i.i)
    (reserved c.args.n c.args.table.now c.loop-i.i) c.load_of-load.result c.args.n) c.args.w) = let a = c.args in
    let l = c.loop-i in
    c.stand_cell-turn.ensures.stands
    ∙ ap (sets l.stands (l.i * a.w))
    (set_here a.w a.n a.blocked.now a.vacant.now l.stands a.table.now a.old.now (get_or a.clash.now l.i 0) l.i
    c.load_of-load.result c.requires.cells_bound.2 c.requires.open_in.0 (λ k h. c.requires.open_in.1 l.i k inside h)) in
    let short-now : c.stand_cell-turn.result.short ≡ short_count
    (free_in c.args.w c.args.n c.args.blocked.now (get_or c.args.clash.now c.loop-i.i 0) c.loop-i.stands c.loop-i.i)
    (reserved c.args.n c.args.table.now c.loop-i.i) c.load_of-load.result c.args.n = let a = c.args in
    let l = c.loop-i in
    c.stand_cell-turn.ensures.short
    ∙ short-here a.w a.n a.blocked.now a.vacant.now l.stands a.table.now a.old.now (get_or a.clash.now l.i 0) l.i
    c.load_of-load.result c.requires.cells_bound.2 c.requires.open_in.0 (λ k h. c.requires.open_in.1 l.i k inside h) in
    let stored : c.stand_cell-turn.new.stands ≡ turn_sets c.args.w c.args.n c.args.loads.now c.args.clash.now c.args.blocked.now c.args.table.now
    c.args.stands.now (c.loop-i.i + 1) = let a = c.args in
    turn-stored a.w a.n a.loads.now a.clash.now a.blocked.now a.table.now a.stands.now c.loop-i.i c.loop-i.stands
    c.loop-i.invariant.6 own c.stand_cell-turn.new.stands set-now in
    let l = c.loop-i in
    let a = c.args in
    let net = net_by a.cells a.n a.loads.now a.clash.now (is_open a.blocked.now) in
    let e =
    turn-stops a.w a.cells a.n a.loads.now a.clash.now a.blocked.now a.table.now c.requires.open_in.2 l.i l.stands l.number
    l.invariant.4 own short-now (omega (arith, c.if-short-gt0.true)) a.cells inside in record {
      answer = sym (ap (stood_of net a.table.now) e);
      stands = stored
          ∙ sym (ap (λ o. turn_sets a.w a.n a.loads.now a.clash.now a.blocked.now a.table.now a.stands.now
          (turns_of a.cells o)) e);
      says = short-says net a.table.now a.w c.stand_cell-turn.new.stands a.old.now l.i c.stand_cell-turn.result.short e;
    }

pub overflow_add-number : goal.overflow_add-number
overflow_add-number c =
    let inside : c.loop-i.i < c.args.cells = c.loop-i-test.true in
    let changes-now : c.stand_cell-turn.result.changes ≡ turn_count
    (free_in c.args.w c.args.n c.args.blocked.now (get_or c.args.clash.now c.loop-i.i 0) c.loop-i.stands c.loop-i.i)
    (reserved c.args.n c.args.table.now c.loop-i.i) c.load_of-load.result c.args.n = let a = c.args in
    let l = c.loop-i in
    c.stand_cell-turn.ensures.changes
    ∙ changes-here a.w a.n a.blocked.now a.vacant.now l.stands a.table.now a.old.now (get_or a.clash.now l.i 0) l.i
    c.load_of-load.result c.requires.cells_bound.2 c.requires.open_in.0 (λ k h. c.requires.open_in.1 l.i k inside h) in
    let few : c.stand_cell-turn.result.changes ≤ c.args.n = let a = c.args in
    let i = c.loop-i.i in
    let free = free_in a.w a.n a.blocked.now (get_or a.clash.now i 0) c.loop-i.stands i in
    let old = reserved a.n a.table.now i in
    let load = c.load_of-load.result in
    omega (arith, changes-now, count_most (λ k. differ (stand_at free old load a.n k) (old k)) a.n) in
    omega (arith, few, c.loop-i.invariant.5, c.requires.cells_bound.0, c.requires.cells_bound.1, c.requires.cells_bound.2, c.loop-i.invariant.0)

pub loop-i-preserved : goal.loop-i-preserved
loop-i-preserved c =
    let inside : c.loop-i.i < c.args.cells = c.loop-i-test.true in
    let own : c.load_of-load.result ≡ get_or c.args.loads.now c.loop-i.i 0 = c.load_of-load.ensures in
    let set-now : c.stand_cell-turn.new.stands ≡ sets c.loop-i.stands (c.loop-i.i * c.args.w)
    (set_in (stand_at (free_in c.args.w c.args.n c.args.blocked.now (get_or c.args.clash.now c.loop-i.i 0) c.loop-i.stands c.loop-i.i)
    (reserved c.args.n c.args.table.now c.loop-i.i) c.load_of-load.result c.args.n) c.args.w) = let a = c.args in
    let l = c.loop-i in
    c.stand_cell-turn.ensures.stands
    ∙ ap (sets l.stands (l.i * a.w))
    (set_here a.w a.n a.blocked.now a.vacant.now l.stands a.table.now a.old.now (get_or a.clash.now l.i 0) l.i
    c.load_of-load.result c.requires.cells_bound.2 c.requires.open_in.0 (λ k h. c.requires.open_in.1 l.i k inside h)) in
    let short-now : c.stand_cell-turn.result.short ≡ short_count
    (free_in c.args.w c.args.n c.args.blocked.now (get_or c.args.clash.now c.loop-i.i 0) c.loop-i.stands c.loop-i.i)
    (reserved c.args.n c.args.table.now c.loop-i.i) c.load_of-load.result c.args.n = let a = c.args in
    let l = c.loop-i in
    c.stand_cell-turn.ensures.short
    ∙ short-here a.w a.n a.blocked.now a.vacant.now l.stands a.table.now a.old.now (get_or a.clash.now l.i 0) l.i
    c.load_of-load.result c.requires.cells_bound.2 c.requires.open_in.0 (λ k h. c.requires.open_in.1 l.i k inside h) in
    let changes-now : c.stand_cell-turn.result.changes ≡ turn_count
    (free_in c.args.w c.args.n c.args.blocked.now (get_or c.args.clash.now c.loop-i.i 0) c.loop-i.stands c.loop-i.i)
    (reserved c.args.n c.args.table.now c.loop-i.i) c.load_of-load.result c.args.n = let a = c.args in
    let l = c.loop-i in
    c.stand_cell-turn.ensures.changes
    ∙ changes-here a.w a.n a.blocked.now a.vacant.now l.stands a.table.now a.old.now (get_or a.clash.now l.i 0) l.i
    c.load_of-load.result c.requires.cells_bound.2 c.requires.open_in.0 (λ k h. c.requires.open_in.1 l.i k inside h) in
    let few : c.stand_cell-turn.result.changes ≤ c.args.n = let a = c.args in
    let i = c.loop-i.i in
    let free = free_in a.w a.n a.blocked.now (get_or a.clash.now i 0) c.loop-i.stands i in
    let old = reserved a.n a.table.now i in
    let load = c.load_of-load.result in
    omega (arith, changes-now, count_most (λ k. differ (stand_at free old load a.n k) (old k)) a.n) in
    let stored : c.stand_cell-turn.new.stands ≡ turn_sets c.args.w c.args.n c.args.loads.now c.args.clash.now c.args.blocked.now c.args.table.now
    c.args.stands.now (c.loop-i.i + 1) = let a = c.args in
    turn-stored a.w a.n a.loads.now a.clash.now a.blocked.now a.table.now a.stands.now c.loop-i.i c.loop-i.stands
    c.loop-i.invariant.6 own c.stand_cell-turn.new.stands set-now in
    let l = c.loop-i in
    let a = c.args in
    let none : c.stand_cell-turn.result.short ≡ 0 = omega (arith, c.if-short-gt0.false) in (
      omega (arith, inside),
      c.stand_cell-turn.auto.stands ∙ l.invariant.1,
      c.stand_cell-turn.auto.free ∙ l.invariant.2,
      c.stand_cell-turn.auto.here ∙ l.invariant.3,
      turn-goes a.w a.cells a.n a.loads.now a.clash.now a.blocked.now a.table.now c.requires.open_in.2 l.i l.stands
          l.number l.invariant.4 own short-now none c.stand_cell-turn.new.stands set-now
          (omega (arith, row_before a.w inside, c.requires.cells_bound.3, l.invariant.1)) c.requires.cells_bound.2 changes-now,
      omega (arith, few, l.invariant.5, c.requires.cells_bound.1, c.requires.cells_bound.2),
      stored,
    )

pub returns : goal.returns
returns c = let l = c.loop-i in
    let a = c.args in
    let net = net_by a.cells a.n a.loads.now a.clash.now (is_open a.blocked.now) in
    let e : l.i ≡ a.cells = omega arith in
    let st : Standing net a.table.now a.w a.cells l.stands l.number = rw e at l.invariant.4 in
    let s = turn_sets a.w a.n a.loads.now a.clash.now a.blocked.now a.table.now a.stands.now in record {
      answer = stood-all net a.table.now a.w l.stands l.number st;
      stands = l.invariant.6 ∙ ap s e ∙ sym (ap (λ o. s (turns_of a.cells o)) st.runs);
      says = stood-says a.cells a.n a.loads.now a.clash.now a.blocked.now a.table.now a.w l.stands a.old.now l.number st
          c.requires.cells_bound.2 c.requires.open_in.1;
    }
