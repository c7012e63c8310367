-- `sets::take_some` meets its contract: before word j, the words below it have the first m positions, and what is left of m is known. Assumes nothing.
use mathlib.Core.Path.{◌≡◌, refl, ap, ◌∙◌}
use Prim.Native.Nat.{ℕ}
use native.Mathlib.Nat.{le_refl}
use native.Mathlib.Omega.{arith}
use lib.ListN.{get_or, length-set}
use Rattle.laws.specs.Bits.{bit_at, word_of}
use Rattle.laws.specs.Few.{first_few}
use Rattle.laws.specs.Sum.{sum, count}
use Rattle.laws.proofs.Stores.{sets-none, sets_more, sets-beyond}
use Rattle.positions.specs.Blocked.{word_in}
use Rattle.sets.specs.Sets.{in_set}
use Rattle.positions.proofs.Counts.{count_word}
use Rattle.sets.proofs.Firsts.{few-word}
use Rattle.sets.proofs.take_some.Goals as goal

pub loop-j-init : goal.loop-j-init
unfolding sum
loop-j-init c = (omega arith, refl, sets-none _ _, omega arith)

pub loop-j-preserved : goal.loop-j-preserved
loop-j-preserved c = let p = c.loop-j in
    let a = c.args in
    let s = a.set.now in
    let same : get_or p.set p.j 0 ≡ get_or s p.j 0
    = ap (λ l. get_or l p.j 0) p.invariant.2 ∙ sets-beyond (word_in (first_few (in_set s) a.m)) p.j s p.j (le_refl p.j) in
    let n : c.bits_in.result ≡ count (bit_at (get_or s p.j 0)) 64 = c.bits_in.ensures ∙ ap (λ (x : ℕ). count (bit_at x) 64) same in (
      omega arith,
      length-set p.set p.j _ ∙ p.invariant.1,
      sets_more (word_in (first_few (in_set s) a.m)) p.j _ p.set s
          (c.first_few.ensures ∙ ap (λ (x : ℕ). word_of (first_few (bit_at x) p.left) 64) same
          ∙ few-word s a.m p.j p.left p.invariant.3) p.invariant.2,
      omega (arith, c.saturating_sub-left.ensures, n, p.invariant.3, count_word s p.j),
    )

pub returns : goal.returns
returns c = let e : c.loop-j.j ≡ c.args.w = omega arith in record { set = rw e at c.loop-j.invariant.2; lacking = rw e at c.loop-j.invariant.3 }
