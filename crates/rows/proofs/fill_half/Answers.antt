-- `rows::fill_half` meets its contract: four slots go as any stretch goes (`stretch-fills`, `stretch-leaves`), or stay. Assumes nothing.
use mathlib.Core.Path.{◌≡◌, refl, ap, ◌∙◌}
use mathlib.Core.List.{List}
use Prim.Native.Nat.{ℕ, ◌+◌, ◌-◌, ◌*◌, ◌≤◌}
use native.Mathlib.Omega.{arith}
use native.Mathlib.Nat.{mul-le-mul_right}
use lib.Dec.{eqb}
use lib.ListN.{length, get_or, drop}
use mathlib.Core.Bool.{◌&&◌}
use borrow.Rule.Slice.PartMut.{mid_of, put_mid}
use Rattle.laws.specs.Part.{part, put}
use Rattle.laws.specs.Sum.{count}
use Rattle.laws.proofs.Part.{lent, back, length_part, put-part, length-put}
use Rattle.theory.specs.Net.{unblocked}
use Rattle.theory.specs.Greedy.{fill, unmet}
use Rattle.theory.proofs.Row.{fill-length}
use Rattle.theory.proofs.Loops.{filling}
use Rattle.rows.proofs.Fill.{taken, as_it_was, stretch-fills, stretch-leaves}
use Rattle.rows.proofs.fill_half.Goals as goal

pub overflow_sub-slots : goal.overflow_sub-slots
overflow_sub-slots c = c.requires.1

pub returns-then-left-eq0 : goal.returns-then-left-eq0
returns-then-left-eq0 c = record { within = c.requires.1; filled = refl; left = refl }

pub returns-then-slots-done-lt4 : goal.returns-then-slots-done-lt4
returns-then-slots-done-lt4 c = record { within = c.requires.1; filled = refl; left = refl }

pub overflow_mul-at : goal.overflow_mul-at
overflow_mul-at c =
    let within : (c.args.done * c.args.channels) + (4 * c.args.channels) ≤ length c.args.row.now = let h : c.args.done + 4 ≤ c.args.slots = omega
    (arith, c.if-slots-done-lt4.false, c.requires.1) in
    omega (arith, mul-le-mul_right c.args.channels h, c.requires.2) in
    omega (arith, within)

pub overflow_mul-to : goal.overflow_mul-to
overflow_mul-to c = omega (arith, c.requires.0)

pub overflow_add-to : goal.overflow_add-to
overflow_add-to c =
    let within : (c.args.done * c.args.channels) + (4 * c.args.channels) ≤ length c.args.row.now = let h : c.args.done + 4 ≤ c.args.slots = omega
    (arith, c.if-slots-done-lt4.false, c.requires.1) in
    omega (arith, mul-le-mul_right c.args.channels h, c.requires.2) in
    omega (arith, within)

pub slice_bounds-take_idle-count : goal.slice_bounds-take_idle-count
slice_bounds-take_idle-count c = omega arith

pub slice_bounds-take_idle-end : goal.slice_bounds-take_idle-end
slice_bounds-take_idle-end c =
    let within : (c.args.done * c.args.channels) + (4 * c.args.channels) ≤ length c.args.row.now = let h : c.args.done + 4 ≤ c.args.slots = omega
    (arith, c.if-slots-done-lt4.false, c.requires.1) in
    omega (arith, mul-le-mul_right c.args.channels h, c.requires.2) in
    omega (arith, within)

pub take_idle-count-requires : goal.take_idle-count-requires
take_idle-count-requires c =
    let within : (c.args.done * c.args.channels) + (4 * c.args.channels) ≤ length c.args.row.now = let h : c.args.done + 4 ≤ c.args.slots = omega
    (arith, c.if-slots-done-lt4.false, c.requires.1) in
    omega (arith, mul-le-mul_right c.args.channels h, c.requires.2) in
    let long : length (mid_of (c.args.done * c.args.channels)
    ((c.args.done * c.args.channels) + (4 * c.args.channels) - (c.args.done * c.args.channels)) c.args.row.now) ≡ (4 * c.args.channels) = ap length
    (lent (c.args.done * c.args.channels) (4 * c.args.channels) c.args.row.now) ∙ length_part (c.args.done * c.args.channels)
    (4 * c.args.channels) c.args.row.now within in
    omega (arith, long, c.requires.0)

pub shape_of-row-then-left-count : goal.shape_of-row-then-left-count
shape_of-row-then-left-count c =
    let within : (c.args.done * c.args.channels) + (4 * c.args.channels) ≤ length c.args.row.now = let h : c.args.done + 4 ≤ c.args.slots = omega
    (arith, c.if-slots-done-lt4.false, c.requires.1) in
    omega (arith, mul-le-mul_right c.args.channels h, c.requires.2) in
    let unchanged : put_mid (c.args.done * c.args.channels) ((c.args.done * c.args.channels) + (4 * c.args.channels) -
    (c.args.done * c.args.channels)) c.args.row.now c.take_idle-count.new.stretch ≡ c.args.row.now = let r = c.args.row.now in
    back (c.args.done * c.args.channels) (4 * c.args.channels) r c.take_idle-count.new.stretch
    ∙ ap (λ (z : List ℕ). put (c.args.done * c.args.channels) (4 * c.args.channels) z r)
    (as_it_was (mid_of (c.args.done * c.args.channels) ((c.args.done * c.args.channels) + (4 * c.args.channels) -
    (c.args.done * c.args.channels)) c.args.row.now) c.take_idle-count.result c.args.left
    (omega (arith, c.if-left-count.true)) c.take_idle-count.ensures.taken ∙ lent (c.args.done * c.args.channels) (4 * c.args.channels) r)
    ∙ put-part (c.args.done * c.args.channels) (4 * c.args.channels) r within in
    ap length unchanged

pub returns-then-left-count : goal.returns-then-left-count
returns-then-left-count c =
    let within : (c.args.done * c.args.channels) + (4 * c.args.channels) ≤ length c.args.row.now = let h : c.args.done + 4 ≤ c.args.slots = omega
    (arith, c.if-slots-done-lt4.false, c.requires.1) in
    omega (arith, mul-le-mul_right c.args.channels h, c.requires.2) in
    let unchanged : put_mid (c.args.done * c.args.channels) ((c.args.done * c.args.channels) + (4 * c.args.channels) -
    (c.args.done * c.args.channels)) c.args.row.now c.take_idle-count.new.stretch ≡ c.args.row.now = let r = c.args.row.now in
    back (c.args.done * c.args.channels) (4 * c.args.channels) r c.take_idle-count.new.stretch
    ∙ ap (λ (z : List ℕ). put (c.args.done * c.args.channels) (4 * c.args.channels) z r)
    (as_it_was (mid_of (c.args.done * c.args.channels) ((c.args.done * c.args.channels) + (4 * c.args.channels) -
    (c.args.done * c.args.channels)) c.args.row.now) c.take_idle-count.result c.args.left
    (omega (arith, c.if-left-count.true)) c.take_idle-count.ensures.taken ∙ lent (c.args.done * c.args.channels) (4 * c.args.channels) r)
    ∙ put-part (c.args.done * c.args.channels) (4 * c.args.channels) r within in
    let left = c.args.left in record {
      within = c.requires.1;
      filled = ap (filling unblocked (c.args.done * c.args.channels) left) unchanged;
      left = ap
          (λ (x : List ℕ). unmet unblocked (c.args.done * c.args.channels) left (drop (c.args.done * c.args.channels) x)) unchanged;
    }

pub overflow_add-result : goal.overflow_add-result
overflow_add-result c = omega (arith, c.if-slots-done-lt4.false, c.well_formed)

pub shape_of-row : goal.shape_of-row
shape_of-row c =
    let within : (c.args.done * c.args.channels) + (4 * c.args.channels) ≤ length c.args.row.now = let h : c.args.done + 4 ≤ c.args.slots = omega
    (arith, c.if-slots-done-lt4.false, c.requires.1) in
    omega (arith, mul-le-mul_right c.args.channels h, c.requires.2) in
    let after : put_mid (c.args.done * c.args.channels) ((c.args.done * c.args.channels) + (4 * c.args.channels) - (c.args.done * c.args.channels))
    (c.args.row.now) c.take_idle-count.new.stretch ≡ put (c.args.done * c.args.channels) (4 * c.args.channels)
    (fill unblocked 0 (length (part (c.args.done * c.args.channels) (4 * c.args.channels) (c.args.row.now)))
    (part (c.args.done * c.args.channels) (4 * c.args.channels) (c.args.row.now))) (c.args.row.now) = back (c.args.done * c.args.channels)
    (4 * c.args.channels) (c.args.row.now) c.take_idle-count.new.stretch
    ∙ ap (λ (z : List ℕ). put (c.args.done * c.args.channels) (4 * c.args.channels) z (c.args.row.now))
    (taken (mid_of (c.args.done * c.args.channels) ((c.args.done * c.args.channels) + (4 * c.args.channels) - (c.args.done * c.args.channels)) c.args.row.now)
    (c.take_idle-count.result) c.args.left (omega (arith, c.if-left-count.false)) c.take_idle-count.ensures.taken
    ∙ ap (λ (x : List ℕ). fill unblocked 0 (length x) x) (lent (c.args.done * c.args.channels) (4 * c.args.channels) (c.args.row.now))) in
    let fits = within in
    let part-long = length_part (c.args.done * c.args.channels) (4 * c.args.channels) (c.args.row.now) fits in
    ap length after ∙ length-put (c.args.done * c.args.channels) (4 * c.args.channels) _ (c.args.row.now)
    (fill-length unblocked 0 _ (part (c.args.done * c.args.channels) (4 * c.args.channels) (c.args.row.now)) ∙ part-long) fits

pub returns : goal.returns
returns c =
    let within : (c.args.done * c.args.channels) + (4 * c.args.channels) ≤ length c.args.row.now = let h : c.args.done + 4 ≤ c.args.slots = omega
    (arith, c.if-slots-done-lt4.false, c.requires.1) in
    omega (arith, mul-le-mul_right c.args.channels h, c.requires.2) in
    let after : put_mid (c.args.done * c.args.channels) ((c.args.done * c.args.channels) + (4 * c.args.channels) - (c.args.done * c.args.channels))
    (c.args.row.now) c.take_idle-count.new.stretch ≡ put (c.args.done * c.args.channels) (4 * c.args.channels)
    (fill unblocked 0 (length (part (c.args.done * c.args.channels) (4 * c.args.channels) (c.args.row.now)))
    (part (c.args.done * c.args.channels) (4 * c.args.channels) (c.args.row.now))) (c.args.row.now) = back (c.args.done * c.args.channels)
    (4 * c.args.channels) (c.args.row.now) c.take_idle-count.new.stretch
    ∙ ap (λ (z : List ℕ). put (c.args.done * c.args.channels) (4 * c.args.channels) z (c.args.row.now))
    (taken (mid_of (c.args.done * c.args.channels) ((c.args.done * c.args.channels) + (4 * c.args.channels) - (c.args.done * c.args.channels)) c.args.row.now)
    (c.take_idle-count.result) c.args.left (omega (arith, c.if-left-count.false)) c.take_idle-count.ensures.taken
    ∙ ap (λ (x : List ℕ). fill unblocked 0 (length x) x) (lent (c.args.done * c.args.channels) (4 * c.args.channels) (c.args.row.now))) in
    let counted : (c.take_idle-count.result) ≡ count (λ p. unblocked p && eqb
    (get_or (part (c.args.done * c.args.channels) (4 * c.args.channels) (c.args.row.now)) p 0) 0)
    (length (part (c.args.done * c.args.channels) (4 * c.args.channels) (c.args.row.now))) = c.take_idle-count.ensures.count
    ∙ ap (λ (x : List ℕ). count (λ p. unblocked p && eqb (get_or x p 0) 0) (length x))
    (lent (c.args.done * c.args.channels) (4 * c.args.channels) (c.args.row.now)) in
    let there : (c.args.done + 4) * c.args.channels ≡ (c.args.done * c.args.channels) + (4 * c.args.channels) = omega arith in
    let enough : (c.take_idle-count.result) ≤ c.args.left = omega
    (arith, c.if-left-count.false) in record {
      within = omega (arith, c.if-slots-done-lt4.false);
      filled = rw (there, after)
          (stretch-fills (c.args.done * c.args.channels) (4 * c.args.channels) c.args.left (c.args.row.now) within counted enough);
      left = rw (there, after)
          (stretch-leaves (c.args.done * c.args.channels) (4 * c.args.channels) c.args.left (c.args.row.now) within counted enough);
    }
