-- `numberrows::number_cells` meets its contract: the numbers that are left to give, from the two arrays as they are, come to the whole numbering, and
-- the bits of `left` are the cells with no number. Assumes nothing.
use Rattle.std.proofs.Common.{arith, ℕ, ◌≡◌, ◌+◌, ◌-◌, ◌≤◌, List, refl, sym, ap, ◌∙◌, not, ◌&&◌}
use lib.ListN.{length-set}
use Rattle.laws.proofs.Bits.{one_shl}
use Rattle.laws.specs.Bits.{bit_in, word_of, bit_at}
use Rattle.renumbering.specs.Numbering.{unnumbered, last, fit, numbering}
use Rattle.renumbering.proofs.Turns.{last-most, give-end, give-none, give-next}
use Rattle.numberrows.specs.Numbers.{numbers_of}
use Rattle.numberrows.specs.Words.{fit_in}
use Rattle.numberrows.proofs.Words.{highest-same, all_there, one_out}
use Rattle.numberrows.proofs.number_cells.Goals as goal

-- the cell that the code finds is the definition's
found : (rows : List ℕ) (n : ℕ) (new : List ℕ) (left : ℕ) {h : ℕ} → n ≤ 32 → left ≡ word_of (unnumbered new) n → h ≡ last (fit_in rows left) n
    → last (fit (bit_in rows) n new) n ≡ h
found rows n new left few is e = sym (e ∙ highest-same rows n few new left is)

pub loop-m-init : goal.loop-m-init
unfolding numbering
loop-m-init c = (refl, refl, c.low_bits-left.ensures ∙ all_there c.args.cells, refl)

pub returns-then-h-eq0 : goal.returns-then-h-eq0
returns-then-h-eq0 c = let args = c.args in
    let l = c.loop-m in
    let none = found args.rows.now args.cells l.new l.left c.requires l.invariant.2 c.highest_fit-h.ensures ∙ c.if-h-eq0.true in
    sym (ap numbers_of (l.invariant.3 ∙ give-none (bit_in args.rows.now) args.cells l.m l.new l.old c.loop-m-test.true none))

pub loop-m-preserved : goal.loop-m-preserved
loop-m-preserved c = let args = c.args in
    let l = c.loop-m in
    let h = c.highest_fit-h.result in
    let low : h ≤ 32 = omega (arith, last-most (fit_in args.rows.now l.left) args.cells) in
    let number : l.m - 1 + 1 ≡ l.m = omega arith in (
      simp length-set l.invariant.0,
      simp length-set l.invariant.1,
      one_out args.cells l.new l.left (h - 1) (l.m - 1 + 1) c.apart-left.result c.requires (omega (arith, low)) (omega arith) l.invariant.2
          (c.apart-left.ensures.0
          ∙ ap (λ (x : ℕ). word_of (λ b. bit_at l.left b && not (bit_at x b)) 32) (one_shl (h - 1) (omega (arith, low))))
          c.apart-left.ensures.1,
      rw number
          (l.invariant.3
          ∙ give-next (bit_in args.rows.now) args.cells l.m l.new l.old h (omega arith) (omega arith)
          (found args.rows.now args.cells l.new l.left c.requires l.invariant.2 c.highest_fit-h.ensures)),
    )

pub returns : goal.returns
returns c = let args = c.args in
    let l = c.loop-m in
    sym (ap numbers_of (l.invariant.3 ∙ give-end (bit_in args.rows.now) args.cells l.m l.new l.old c.loop-m-test.false))
