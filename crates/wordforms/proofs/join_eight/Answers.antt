-- `wordforms::join_eight` meets its contract: before byte k, that many joined words are stored, and the word at k is still the first one. Assumes nothing.
use mathlib.Core.Path.{◌≡◌, refl, ap, ap₂, ◌∙◌}
use mathlib.Core.List.{List}
use Prim.Native.Nat.{ℕ, ◌+◌, ◌*◌, ◌^◌}
use native.Mathlib.Omega.{arith}
use lib.Bits.{bit_or}
use lib.ListN.{get_or, length-set}
use Rattle.laws.specs.Part.{list_of}
use Rattle.laws.proofs.Stores.{sets-past, sets-after, length-list}
use Rattle.wordforms.proofs.join_eight.Goals as goal

pub loop-k-init : goal.loop-k-init
unfolding list_of
loop-k-init c = (omega arith, refl, refl)

pub loop-k-preserved : goal.loop-k-preserved
loop-k-preserved c = let l = c.loop-k in
    let a = c.args in
    let f : ℕ → ℕ = λ k. bit_or (get_or a.words.now (a.at + k) 0) (get_or a.bytes.now k 0 * 2 ^ a.i) in
    let same : get_or l.words (a.at + l.k) 0 ≡ get_or a.words.now (a.at + l.k) 0
    = ap (λ (z : List ℕ). get_or z (a.at + l.k) 0) l.invariant.2
    ∙ sets-past (list_of f l.k) a.words.now a.at (a.at + l.k) (omega (arith, length-list f l.k)) in (
      omega arith,
      length-set l.words (a.at + l.k) _ ∙ l.invariant.1,
      sets-after f a.at l.k _ l.words a.words.now (ap₂ bit_or same c.lifted.ensures) l.invariant.2,
    )

pub returns : goal.returns
returns c = let e : c.loop-k.k ≡ c.args.m = omega arith in
    rw e at c.loop-k.invariant.2
