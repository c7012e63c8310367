-- `stretches::lay_all` meets its contract: before position k, the words below k are laid down, and what is left and who is in need is known. Assumes nothing.
use mathlib.Core.Path.{◌≡◌, ap, ◌∙◌}
use Prim.Native.Nat.{ℕ, ◌+◌, ◌^◌, ◌≤◌, ◌<◌}
use native.Mathlib.Omega.{arith}
use mathlib.Core.Bool.{Bool}
use lib.Seq.{sets}
use Rattle.laws.specs.Bits.{word_of}
use Rattle.laws.specs.Part.{list_of}
use Rattle.laws.proofs.Words.{word_lt}
use Rattle.stretches.specs.Stretches.{spent}
use Rattle.stretches.proofs.Laid.{begun, needed, run-most, run-some, run-under, more}
use Rattle.site.specs.Reach.{is_open}
use Rattle.stretches.proofs.lay_all.Goals as goal

word_small : (p : ℕ → Bool) (x n : ℕ) → x ≡ word_of p n → x < 2 ^ n
word_small p x n e = omega (arith, word_lt p n)

pub loop-k-init : goal.loop-k-init
loop-k-init c = let a = c.args in
    (begun (is_open a.blocked.now) a.clash.now a.words.now a.left.now a.cells a.n (omega arith), c.loaded_in-need.ensures)

pub stretch_of-s-requires : goal.stretch_of-s-requires
stretch_of-s-requires c = let l = c.loop-k in
    (omega arith, omega (arith, l.invariant.0.as_many), word_small _ l.need _ l.invariant.1)

pub lay_piece-p-requires : goal.lay_piece-p-requires
lay_piece-p-requires c =
    let most : c.loop-k.k + c.stretch_of-s.result.run ≤ c.args.n = let l = c.loop-k in
    let a = c.args in
    run-most (is_open a.blocked.now) a.clash.now a.words.now a.left.now a.cells a.n l.k l.words l.left l.invariant.0 (omega arith)
    l.need l.invariant.1
    c.loop-k-test.true c.stretch_of-s.result.word c.stretch_of-s.result.run c.stretch_of-s.ensures.word c.stretch_of-s.ensures.run in
    let some : 0 < c.stretch_of-s.result.run = let l = c.loop-k in
    let a = c.args in
    run-some (is_open a.blocked.now) a.clash.now a.words.now a.left.now a.cells a.n l.k l.words l.left l.invariant.0 (omega arith)
    l.need l.invariant.1
    c.loop-k-test.true c.stretch_of-s.result.word c.stretch_of-s.result.run c.stretch_of-s.ensures.word c.stretch_of-s.ensures.run in record
    { run_nonzero = omega (arith, most, some, c.loop-k.invariant.0.as_long); none_value = c.none_blocked-none.ensures }

pub subtract-need-requires : goal.subtract-need-requires
subtract-need-requires c = let l = c.loop-k in
    let a = c.args in record {
      cells_bound = (omega arith, omega (arith, l.invariant.0.as_many), word_small _ c.stretch_of-s.result.word _ c.stretch_of-s.ensures.word);
      need_value = l.invariant.1;
      by_index = (λ i h t.
          omega (
            arith,
            c.lay_piece-p.ensures.fits.2,
            run-under (is_open a.blocked.now) a.clash.now a.words.now a.left.now a.cells a.n l.k l.words l.left l.invariant.0
                c.requires.1 l.need l.invariant.1 c.loop-k-test.true c.stretch_of-s.result.word c.stretch_of-s.result.run c.stretch_of-s.ensures.word
                c.stretch_of-s.ensures.run i h t,
          ));
    }

pub overflow_add-k : goal.overflow_add-k
overflow_add-k c = omega (arith, c.lay_piece-p.ensures.fits.1)

pub loop-k-smaller : goal.loop-k-smaller
loop-k-smaller c = omega (arith, c.lay_piece-p.ensures.fits.0, c.lay_piece-p.ensures.fits.1)

pub loop-k-preserved : goal.loop-k-preserved
loop-k-preserved c = let l = c.loop-k in
    let a = c.args in (
      more (is_open a.blocked.now) a.clash.now a.words.now a.left.now a.cells a.n l.k l.words l.left l.invariant.0 c.requires.1
          l.need l.invariant.1 c.loop-k-test.true c.stretch_of-s.result.word c.stretch_of-s.result.run c.stretch_of-s.ensures.word c.stretch_of-s.ensures.run
          c.lay_piece-p.result.span (omega (arith, c.lay_piece-p.ensures.fits.1))
          (omega (arith, c.lay_piece-p.ensures.fits.2, c.lay_piece-p.ensures.free)) _ _ c.lay_piece-p.ensures.words
          (c.subtract-need.ensures.left ∙ ap (λ x. sets l.left 0 (list_of (spent l.left c.stretch_of-s.result.word x) a.cells)) c.lay_piece-p.ensures.free),
      c.subtract-need.ensures.need,
    )

pub shape_of-words : goal.shape_of-words
shape_of-words c = c.loop-k.invariant.0.as_long

pub shape_of-left : goal.shape_of-left
shape_of-left c = c.loop-k.invariant.0.as_many

pub returns : goal.returns
returns c = let l = c.loop-k in
    let a = c.args in
    let e : l.k ≡ a.n = omega (arith, l.invariant.0.within) in
    let need = needed (is_open a.blocked.now) a.clash.now a.words.now a.left.now a.cells a.n l.k l.words l.left l.invariant.0
    (omega arith) l.need l.invariant.1 in record { need = rw e at need; words = rw e at l.invariant.0.lain; left = rw e at l.invariant.0.kept }
