-- `heaviest::class_of` meets its contract: whatever was counted before the class, is counted with the cells that have joined it. What is apart gets less in
-- each turn. Assumes nothing.
use mathlib.Core.Bool.{◌&&◌, not}
use mathlib.Core.Path.{ap, ◌∙◌}
use Prim.Native.Nat.{ℕ}
use native.Mathlib.Omega.{arith}
use lib.Pow.{pow_pos}
use Rattle.laws.specs.Bits.{bit_at, bit_in}
use Rattle.laws.proofs.Words.{word-bit}
use Rattle.laws.proofs.Most.{greater-most, greater-within}
use Rattle.heaviest.proofs.Classes.{closed, joined}
use Rattle.heaviest.proofs.class_of.Goals as goal

pub loop-apart-init : goal.loop-apart-init
loop-apart-init c = (λ total w h. h, omega arith)

pub loop-apart-smaller : goal.loop-apart-smaller
loop-apart-smaller c = omega (arith, pow_pos c.highest-j.result, c.highest-j.ensures.1, c.less.ensures, c.apart-apart.ensures.1)

pub loop-apart-preserved : goal.loop-apart-preserved
loop-apart-preserved c = let most = c.greater-heavy in
    let gone = c.cleared-left in
    let rest = c.less in
    let rows = c.args.clash.now in (
      λ total w h.
          rw gone.ensures
          (joined (c.loop-apart.invariant.0 total w h) c.requires c.highest-j.result c.highest-j.ensures.0 c.highest-j.ensures.1 c.highest-j.ensures.2
          c.apart-apart.result
          (λ i l.
          ap (λ (n : ℕ). bit_at n i) c.apart-apart.ensures.0 ∙ word-bit _ 32 i l
          ∙ ap (λ (n : ℕ). bit_at n i && not (bit_in rows c.highest-j.result i)) rest.ensures) c.load_at.result _ c.load_at.ensures.0
          (omega (arith, most.ensures, (greater-most c.loop-apart.heavy c.load_at.result).1))
          (omega (arith, most.ensures, (greater-most c.loop-apart.heavy c.load_at.result).0))),
      omega (arith, most.ensures, greater-within c.loop-apart.heavy c.load_at.result 65535 c.loop-apart.invariant.1 c.load_at.ensures.1),
    )

pub returns : goal.returns
returns c = record { by_index = λ total w h. closed (c.loop-apart.invariant.0 total w h); heavy_bound = c.loop-apart.invariant.1 }
