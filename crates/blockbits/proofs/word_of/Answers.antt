-- `blockbits::word_of` meets its contract: before byte i, v is the word of the bytes from i on, and has room for one more. Assumes nothing.
use Rattle.std.proofs.Common.{ℕ, List, ◌≡◌, ◌+◌, ◌-◌, ◌*◌, ◌^◌, ◌<◌, sym, arith}
use lib.Pow.{pow_mono}
use Rattle.laws.specs.Bits.{word_of}
use Rattle.laws.proofs.Words.{word-zero, word_lt}
use Rattle.blockbits.specs.Blocks.{bit_stated}
use Rattle.blockbits.proofs.Blocks.{byte_more, byte-all}
use Rattle.blockbits.proofs.word_of.Goals as goal

-- a word of at most seven bytes
small : (body : List ℕ) (j i v : ℕ) → 0 < i → v ≡ word_of (λ b. bit_stated body (8 * (8 * j + i) + b)) (8 * (8 - i)) → v < 2 ^ 56
small body j i v some e =
    omega (arith, e, word_lt (λ b. bit_stated body (8 * (8 * j + i) + b)) (8 * (8 - i)), pow_mono {i = 8 * (8 - i)} {j = 56} (omega arith))

pub loop-i-init : goal.loop-i-init
loop-i-init c = sym (word-zero _)

pub overflow_mul-v : goal.overflow_mul-v
overflow_mul-v c = let l = c.loop-i in
    omega (arith, small c.args.body.now c.args.j l.i l.v c.loop-i-test.true l.invariant)

pub overflow_add-v : goal.overflow_add-v
overflow_add-v c = let l = c.loop-i in
    omega (arith, small c.args.body.now c.args.j l.i l.v c.loop-i-test.true l.invariant, c.byte_at.ensures.upper_bound)

pub loop-i-preserved : goal.loop-i-preserved
loop-i-preserved c = let l = c.loop-i in
    byte_more c.args.body.now c.args.j l.i l.v c.byte_at.result c.loop-i-test.true l.auto.i
    c.byte_at.ensures.value c.byte_at.ensures.upper_bound l.invariant

pub returns : goal.returns
returns c = let l = c.loop-i in
    byte-all c.args.body.now c.args.j l.i l.v (omega arith) l.invariant
