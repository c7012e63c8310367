-- `loads::loads_of` meets its contract: when the loop stands at cell j of the word, the loads of the cells below j are summed,
-- since those passed over add nothing.
-- Assumes nothing.
use Prim.Native.Nat.{ℕ, ◌+◌, ◌≤◌, ◌<◌}
use mathlib.Core.Bool.{true}
use mathlib.Core.List.{List}
use mathlib.Core.Path.{◌≡◌, sym, ap, ◌∙◌}
use native.Mathlib.Omega.{arith}
use lib.ListN.{get_or}
use Rattle.laws.specs.Bits.{bit_at}
use Rattle.laws.specs.Choice.{pick}
use Rattle.laws.specs.Search.{first}
use Rattle.laws.specs.Sum.{sum}
use Rattle.laws.proofs.Lowest.{sum_first}
use Rattle.laws.proofs.Search.{first-least, first-most, first_passes}
use Rattle.laws.proofs.Sums.{sum_more}
use Rattle.loads.specs.Loads.{loads_below}
use Rattle.loads.proofs.loads_of.Goals as goal

-- what cell i adds
abbrev adds : List ℕ → ℕ → ℕ → ℕ
adds loads word i = pick (bit_at word i) (get_or loads i 0) 0

-- what is known of the first cell j of the word from k on
record Reached (loads : List ℕ) (word k j : ℕ) : Type 0 where
  least : k ≤ j
  most : j ≤ 32
  has : j < 32 → bit_at word j ≡ true
  same : loads_below loads word j ≡ loads_below loads word k

reached : (loads : List ℕ) (word k j : ℕ) → k ≤ 32 → j ≡ first (bit_at word) k 32 → Reached loads word k j
reached loads word k j l e =
    record {
      least = omega (arith, first-least (bit_at word) k 32);
      most = omega (arith, first-most (bit_at word) k 32 l);
      has = λ h. ap (bit_at word) e ∙ first_passes (bit_at word) k 32 l (rw e at h);
      same =
          ap (loads_below loads word) e
          ∙ sum_first (adds loads word) (bit_at word) k 32 (λ i no. ap (λ t. pick t (get_or loads i 0) 0) no);
    }

pub loop-member-init : goal.loop-member-init
unfolding sum
loop-member-init c = let args = c.args in
    let r = reached args.loads.now args.word 0 c.lowest-j.result (omega arith) c.lowest-j.ensures in
    (sym r.same, omega arith, r.most, r.has)

pub returns-then-j-ge32 : goal.returns-then-j-ge32
returns-then-j-ge32 c = let e : c.loop-member.j ≡ 32 = omega (arith, c.loop-member.invariant.2, c.if-j-ge32.true) in
    (c.loop-member.invariant.0 ∙ ap (loads_below c.args.loads.now c.args.word) e, omega arith)

pub loop-member-preserved : goal.loop-member-preserved
loop-member-preserved c =
    let onward : Reached c.args.loads.now c.args.word (c.loop-member.j + 1) c.lowest-j-in-loop-member.result = reached _ _ _ _
    (omega arith) c.lowest-j-in-loop-member.ensures in
    let args = c.args in
    let r = onward in
    let here : adds args.loads.now args.word c.loop-member.j ≡ c.wide-sum.result =
    ap (λ t. pick t (get_or args.loads.now c.loop-member.j 0) 0) (c.loop-member.invariant.3 (omega arith)) ∙ sym c.wide-sum.ensures.0 in
    (omega (arith, r.same, sum_more (adds args.loads.now args.word) c.loop-member.j, c.loop-member.invariant.0), omega arith, r.most, r.has)
