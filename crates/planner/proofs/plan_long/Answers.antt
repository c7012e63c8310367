-- `planner::plan_long` meets its contract: where nothing is blocked no mask is needed, and else the mask bars what is blocked. Assumes nothing.
use mathlib.Core.Path.{◌≡◌, sym, ap, subst, ◌∙◌}
use mathlib.Core.List.{List, [], ◌++◌}
use Prim.Native.Nat.{ℕ, ◌*◌, ◌≤◌, ◌<◌}
use native.Mathlib.Omega.{arith}
use lib.ListN.{length, take, drop, replicate, length-replicate}
use lib.Seq.{length-take-le, length_front}
use Rattle.laws.specs.Bits.{bit_in}
use Rattle.laws.specs.Part.{list_of}
use Rattle.positions.specs.Blocked.{bar_of}
use Rattle.site.specs.Reach.{is_open}
use Rattle.planrows.specs.Row.{opens}
use Rattle.planner.proofs.Alike.{answer-alike, leaves_alike}
use Rattle.planner.proofs.MaskLaws.{none_open, no-mask, mask-opens, mask-bars}
use Rattle.planner.proofs.plan_long.Goals as goal

-- the mask before it is made
abbrev zeros : List ℕ
zeros = replicate 2048 0

within : (n : ℕ) → n ≤ 2048 → n ≤ length zeros
within n h = subst (λ (k : ℕ). n ≤ k) (sym (length-replicate {A = ℕ} 2048 0)) h

cut : (n : ℕ) → n ≤ 2048 → n ≡ length (take n zeros)
cut n h = sym (length-take-le n zeros (within n h))

pub plan_rows-requires : goal.plan_rows-requires
plan_rows-requires c = record {
  cells_bound = (c.requires.0, c.requires.1, c.requires.2, omega arith, omega arith);
  channels_in_bounds =
      (c.requires.3, no-mask (c.args.slots * c.args.channels), c.requires.4);
}

pub returns-then-none_blocked : goal.returns-then-none_blocked
returns-then-none_blocked c =
    let all-open : (k : ℕ) → k < c.args.slots * c.args.channels → is_open c.args.blocked.now k ≡ opens [] k = none_open c.args.blocked.now
    (c.args.slots * c.args.channels) c.requires.2
    (sym c.none_blocked.ensures ∙ c.if-none_blocked.true) in
    let a = c.args in
    let n = a.slots * a.channels in record {
      answer = c.plan_rows.ensures.answer ∙ answer-alike a.cells n a.loads.now (bit_in a.clash.now) (is_open a.blocked.now) (opens []) all-open;
      table = c.plan_rows.ensures.table
          ∙ leaves_alike a.cells n a.loads.now (bit_in a.clash.now) (is_open a.blocked.now) (opens []) all-open a.table.now;
    }

-- ---- some position is blocked
pub overflow_mul-n : goal.overflow_mul-n
overflow_mul-n c = omega (arith, c.requires.2)

pub slice_bounds-mask-end : goal.slice_bounds-mask-end
slice_bounds-mask-end c = within (c.args.slots * c.args.channels) c.requires.2

pub slice_bounds-bars-end : goal.slice_bounds-bars-end
slice_bounds-bars-end c = cut (c.args.slots * c.args.channels) c.requires.2

pub bars-requires : goal.bars-requires
bars-requires c = subst (λ (k : ℕ). k ≤ 2048) (cut (c.args.slots * c.args.channels) c.requires.2) c.requires.2

pub plan_rows-requires-2 : goal.plan_rows-requires-2
plan_rows-requires-2 c =
    let made : (c.bars.new.mask) ≡ list_of (bar_of (c.args.blocked.now)) (c.args.slots * c.args.channels) = c.bars.ensures ∙ ap
    (list_of (bar_of (c.args.blocked.now))) (sym (cut (c.args.slots * c.args.channels) c.requires.2)) in
    let whole : length ((c.bars.new.mask) ++ drop (c.args.slots * c.args.channels) zeros) ≡ 2048 = length_front zeros (c.bars.new.mask)
    (c.args.slots * c.args.channels) c.bars.auto.mask ∙ length-replicate {A = ℕ} 2048 0 in
    let wide : (c.args.slots * c.args.channels) ≤ length ((c.bars.new.mask) ++ drop (c.args.slots * c.args.channels) zeros) = subst
    (λ (k : ℕ). (c.args.slots * c.args.channels) ≤ k) (sym whole) c.requires.2 in record {
      cells_bound =
          (c.requires.0, c.requires.1, c.requires.2, omega arith, omega arith);
      channels_in_bounds = (
        c.requires.3,
        λ _. (
          wide,
          mask-bars (c.args.blocked.now) (c.bars.new.mask) (drop (c.args.slots * c.args.channels) zeros)
              (c.args.slots * c.args.channels) made,
        ),
        c.requires.4,
      );
    }

pub returns : goal.returns
returns c =
    let made : (c.bars.new.mask) ≡ list_of (bar_of (c.args.blocked.now)) (c.args.slots * c.args.channels) = c.bars.ensures ∙ ap
    (list_of (bar_of (c.args.blocked.now))) (sym (cut (c.args.slots * c.args.channels) c.requires.2)) in
    let barred : (k : ℕ) → k < (c.args.slots * c.args.channels) → is_open (c.args.blocked.now) k ≡ opens
    ((c.bars.new.mask) ++ drop (c.args.slots * c.args.channels) zeros) k = mask-opens (c.args.blocked.now) (c.bars.new.mask)
    (drop (c.args.slots * c.args.channels) zeros) (c.args.slots * c.args.channels) made in
    let a = c.args in record {
      answer = c.plan_rows-2.ensures.answer ∙ answer-alike a.cells (c.args.slots * c.args.channels) a.loads.now (bit_in a.clash.now)
          (is_open (c.args.blocked.now)) (opens ((c.bars.new.mask) ++ drop (c.args.slots * c.args.channels) zeros)) barred;
      table = c.plan_rows-2.ensures.table
          ∙ leaves_alike a.cells (c.args.slots * c.args.channels) a.loads.now (bit_in a.clash.now) (is_open (c.args.blocked.now))
          (opens ((c.bars.new.mask) ++ drop (c.args.slots * c.args.channels) zeros)) barred a.table.now;
    }
