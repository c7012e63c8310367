-- `sets::join_set` meets its contract: before word j, that many words are stored, and the word at j is still the first one. Assumes nothing.
use mathlib.Core.Path.{◌≡◌, refl, ap, ◌∙◌}
use mathlib.Core.Bool.{◌||◌}
use Prim.Native.Nat.{ℕ}
use native.Mathlib.Nat.{le_refl}
use native.Mathlib.Omega.{arith}
use lib.ListN.{get_or, length-set}
use Rattle.laws.specs.Bits.{bit_at, word_of}
use Rattle.laws.proofs.Stores.{sets-none, sets_more, sets-beyond}
use Rattle.positions.specs.Blocked.{word_in}
use Rattle.sets.specs.Sets.{in_set}
use Rattle.sets.proofs.Sets.{two-word}
use Rattle.sets.proofs.join_set.Goals as goal

pub loop-j-init : goal.loop-j-init
loop-j-init c = (omega arith, refl, sets-none _ _)

pub loop-j-preserved : goal.loop-j-preserved
loop-j-preserved c = let p = c.loop-j in
    let a = c.args in
    let s = a.set.now in
    let v = a.with.now in
    let same : get_or p.set p.j 0 ≡ get_or s p.j 0
    = ap (λ l. get_or l p.j 0) p.invariant.2 ∙ sets-beyond (word_in (λ k. in_set s k || in_set v k)) p.j s p.j (le_refl p.j) in (
      omega arith,
      length-set p.set p.j _ ∙ p.invariant.1,
      sets_more (word_in (λ k. in_set s k || in_set v k)) p.j _ p.set s
          (c.either.ensures ∙ ap (λ (x : ℕ). word_of (λ b. bit_at x b || bit_at (get_or v p.j 0) b) 64) same ∙ two-word ◌||◌ s v p.j) p.invariant.2,
    )

pub returns : goal.returns
returns c = let e : c.loop-j.j ≡ c.args.w = omega arith in
    rw e at c.loop-j.invariant.2
