-- `wordforms::keep_bits` meets its contract: before byte k, that many bits are stored, and the byte at k is still the first one. Assumes nothing.
use mathlib.Core.Path.{◌≡◌, refl, ap, ◌∙◌}
use mathlib.Core.List.{List}
use Prim.Native.Nat.{ℕ}
use native.Mathlib.Nat.{le_refl}
use native.Mathlib.Omega.{arith}
use lib.ListN.{length, get_or, length-set}
use lib.Seq.{sets}
use Rattle.laws.specs.Bits.{bit_at}
use Rattle.laws.specs.Part.{list_of}
use Rattle.laws.specs.Sum.{bit}
use Rattle.laws.proofs.Stores.{sets-none, sets_more, sets-all, sets-beyond, length-list}
use Rattle.wordforms.specs.Words.{sends_at}
use Rattle.wordforms.proofs.keep_bits.Goals as goal

pub loop-k-init : goal.loop-k-init
loop-k-init c = (omega arith, refl, refl, sets-none _ _)

pub loop-k-preserved : goal.loop-k-preserved
loop-k-preserved c = let l = c.loop-k in
    let a = c.args in
    let f : ℕ → ℕ = λ k. bit (sends_at a.row.now a.b k) in
    let same : get_or l.row l.k 0 ≡ get_or a.row.now l.k 0
    = ap (λ (z : List ℕ). get_or z l.k 0) l.invariant.3 ∙ sets-beyond f l.k a.row.now l.k (le_refl l.k) in (
      omega arith,
      refl,
      length-set l.row l.k _ ∙ l.invariant.2,
      sets_more f l.k _ l.row a.row.now (c.bit_in.ensures ∙ ap (λ (x : ℕ). bit (bit_at x a.b)) same) l.invariant.3,
    )

pub returns : goal.returns
returns c = let a = c.args in
    let l = c.loop-k in
    let all : l.k ≡ length a.row.now = omega (arith, c.loop-k-test.false, l.invariant.0, l.invariant.1) in
    let f : ℕ → ℕ = λ k. bit (sends_at a.row.now a.b k) in
    l.invariant.3 ∙ ap (λ (m : ℕ). sets a.row.now 0 (list_of f m)) all ∙ sets-all (list_of f (length a.row.now)) a.row.now
    (length-list f (length a.row.now))
