-- `wordforms::lay_bits` meets its contract: before byte k, that many bits are stored, and the bytes past them are still the first ones. Assumes nothing.
use mathlib.Core.Path.{◌≡◌, refl, ap, ◌∙◌}
use mathlib.Core.List.{List}
use Prim.Native.Nat.{ℕ, ◌+◌}
use native.Mathlib.Omega.{arith}
use lib.ListN.{get_or, length-set}
use Rattle.laws.specs.Bits.{bit_at}
use Rattle.laws.specs.Part.{list_of}
use Rattle.laws.specs.Sum.{bit}
use Rattle.laws.proofs.Stores.{sets-past, sets-after, length-list}
use Rattle.wordforms.proofs.lay_bits.Goals as goal

pub loop-k-init : goal.loop-k-init
unfolding list_of
loop-k-init c = (omega arith, refl, refl)

pub loop-k-preserved : goal.loop-k-preserved
loop-k-preserved c = let l = c.loop-k in
    let a = c.args in
    let f : ℕ → ℕ = λ k. bit (bit_at (get_or a.rows.now (a.at + k) 0) a.b) in
    let same : get_or l.rows (a.at + l.k) 0 ≡ get_or a.rows.now (a.at + l.k) 0
    = ap (λ (z : List ℕ). get_or z (a.at + l.k) 0) l.invariant.2
    ∙ sets-past (list_of f l.k) a.rows.now a.to (a.at + l.k) (omega (arith, length-list f l.k)) in (
      omega arith,
      length-set l.rows (a.to + l.k) _ ∙ l.invariant.1,
      sets-after f a.to l.k _ l.rows a.rows.now (c.bit_in.ensures ∙ ap (λ (x : ℕ). bit (bit_at x a.b)) same) l.invariant.2,
    )

pub returns : goal.returns
returns c = let e : c.loop-k.k ≡ c.args.n = omega arith in
    rw e at c.loop-k.invariant.2
