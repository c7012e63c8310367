-- `planbits::put_block` meets its contract: what each pass leaves are the numbers of twice as many table bytes as what it was given. Assumes nothing.
use Prim.Native.Nat.{◌+◌, ◌*◌}
use mathlib.Core.Path.{◌≡◌, sym, ap, ◌∙◌}
use native.Mathlib.Omega.{arith}
use lib.ListN.{length}
use lib.Seq.{sets, take_all}
use Rattle.planbits.specs.Block.{Runs}
use Rattle.planbits.proofs.Block.{runs-below, join, runs-packed, copied}
use Rattle.planbits.proofs.put_block.Goals as goal

pub join_pairs-requires : goal.join_pairs-requires
join_pairs-requires c =
    let bits : Runs c.args.table.now (8 * c.args.j) 1 256 c.take_bits.new.bits = c.take_bits.ensures in
    let a = c.args in
    (omega arith, runs-below a.table.now c.take_bits.new.bits (8 * a.j) 1 256 bits, omega (arith, c.take_bits.auto.bits), omega arith)

pub join_pairs-requires-2 : goal.join_pairs-requires-2
join_pairs-requires-2 c =
    let bits : Runs c.args.table.now (8 * c.args.j) 1 256 c.take_bits.new.bits = c.take_bits.ensures in
    let twos : Runs c.args.table.now (8 * c.args.j) 2 128 c.join_pairs.new.out = let a = c.args in
    join a.table.now c.take_bits.new.bits c.join_pairs.new.out (8 * a.j) 1 128 bits c.join_pairs.ensures in
    let a = c.args in
    (omega arith, runs-below a.table.now c.join_pairs.new.out (8 * a.j) 2 128 twos, omega (arith, c.join_pairs.auto.out), omega arith)

pub join_pairs-requires-3 : goal.join_pairs-requires-3
join_pairs-requires-3 c =
    let bits : Runs c.args.table.now (8 * c.args.j) 1 256 c.take_bits.new.bits = c.take_bits.ensures in
    let twos : Runs c.args.table.now (8 * c.args.j) 2 128 c.join_pairs.new.out = let a = c.args in
    join a.table.now c.take_bits.new.bits c.join_pairs.new.out (8 * a.j) 1 128 bits c.join_pairs.ensures in
    let fours : Runs c.args.table.now (8 * c.args.j) 4 64 c.join_pairs-2.new.out = let a = c.args in
    join a.table.now c.join_pairs.new.out c.join_pairs-2.new.out (8 * a.j) 2 64 twos c.join_pairs-2.ensures in
    let a = c.args in
    (omega arith, runs-below a.table.now c.join_pairs-2.new.out (8 * a.j) 4 64 fours, omega (arith, c.join_pairs-2.auto.out), omega arith)

pub returns : goal.returns
returns c =
    let bits : Runs c.args.table.now (8 * c.args.j) 1 256 c.take_bits.new.bits = c.take_bits.ensures in
    let twos : Runs c.args.table.now (8 * c.args.j) 2 128 c.join_pairs.new.out = let a = c.args in
    join a.table.now c.take_bits.new.bits c.join_pairs.new.out (8 * a.j) 1 128 bits c.join_pairs.ensures in
    let fours : Runs c.args.table.now (8 * c.args.j) 4 64 c.join_pairs-2.new.out = let a = c.args in
    join a.table.now c.join_pairs.new.out c.join_pairs-2.new.out (8 * a.j) 2 64 twos c.join_pairs-2.ensures in
    let bytes : Runs c.args.table.now (8 * c.args.j) 8 32 c.join_pairs-3.new.out = let a = c.args in
    join a.table.now c.join_pairs-2.new.out c.join_pairs-3.new.out (8 * a.j) 4 32 fours c.join_pairs-3.ensures in
    let a = c.args in
    let v = c.join_pairs-3.new.out in
    let size : length v ≡ 32 = c.join_pairs-3.auto.out in
    copied a.out.now v c.copy_from_slice.new.self (a.at + a.j) size (omega arith) c.copy_from_slice.ensures.after
    ∙ ap (sets a.out.now (a.at + a.j))
    (sym (take_all 32 v (omega (arith, size))) ∙ runs-packed a.table.now v (8 * a.j) 32 (omega (arith, size)) bytes)
