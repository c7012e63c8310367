-- `blockbits::put_blocks` meets its contract: no bytes, or the record's start and its body. Assumes nothing.
use Prim.Native.Nat.{◌+◌}
use mathlib.Core.Path.{◌≡◌, sym, ◌∙◌}
use mathlib.Core.Bool.{false}
use native.Mathlib.Omega.{arith}
use Rattle.records.specs.Bits.{bytes_for}
use Rattle.blockbits.specs.Blocks.{nothing_in, block_record}
use Rattle.blockbits.proofs.Blocks.{block-length, block-put, none-put, some_bytes}
use Rattle.blockbits.proofs.put_blocks.Goals as goal

pub returns-then-need-eq0 : goal.returns-then-need-eq0
returns-then-need-eq0 c = let a = c.args in
    sym (none-put a.out.now a.at (block_record a.set.now a.n) (omega (arith, c.requires.1, c.if-need-eq0.true)))

pub put_start-requires : goal.put_start-requires
put_start-requires c =
    let some : nothing_in c.args.set.now ≡ false = some_bytes c.args.set.now c.args.n c.args.need c.requires.1 c.if-need-eq0.false in
    let long : c.args.need ≡ 4 + bytes_for c.args.n = c.requires.1 ∙ block-length c.args.set.now c.args.n some in
    omega (arith, long, c.requires.2)

pub put_bits-requires : goal.put_bits-requires
put_bits-requires c =
    let some : nothing_in c.args.set.now ≡ false = some_bytes c.args.set.now c.args.n c.args.need c.requires.1 c.if-need-eq0.false in
    let long : c.args.need ≡ 4 + bytes_for c.args.n = c.requires.1 ∙ block-length c.args.set.now c.args.n some in
    (omega (arith, c.requires.0), omega (arith, long, c.requires.2, c.put_start.auto.out))

pub returns : goal.returns
returns c =
    let some : nothing_in c.args.set.now ≡ false = some_bytes c.args.set.now c.args.n c.args.need c.requires.1 c.if-need-eq0.false in
    let a = c.args in
    rw (c.put_bits.ensures, c.put_start.ensures) (block-put a.set.now a.n some a.out.now a.at)
