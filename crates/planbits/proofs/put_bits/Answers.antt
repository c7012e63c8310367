-- `planbits::put_bits` meets its contract: the whole bytes, and one more where table bytes are left. Assumes nothing.
use Prim.Native.Nat.{ℕ, suc, ◌/◌}
use mathlib.Core.Path.{◌≡◌, ap, ◌∙◌}
use native.Mathlib.Omega.{arith}
use lib.ListN.{length}
use lib.Seq.{sets}
use Rattle.records.specs.Bits.{bytes_for}
use Rattle.planbits.specs.Bits.{packed_from}
use Rattle.planbits.proofs.Bits.{put_last}
use Rattle.planbits.proofs.put_bits.Goals as goal

pub returns-then-table-m : goal.returns-then-table-m
returns-then-table-m c = let a = c.args in
    let e : length a.table.now / 8 ≡ bytes_for (length a.table.now) = omega arith in
    c.put_whole.ensures ∙ ap (λ (k : ℕ). sets a.out.now a.at (packed_from a.table.now 0 k)) e

pub returns : goal.returns
returns c = let a = c.args in
    let m = length a.table.now / 8 in
    let e : suc m ≡ bytes_for (length a.table.now) = omega arith in
    rw (c.last_of-x.ensures, c.put_whole.ensures)
    (put_last a.table.now a.out.now a.at m ∙ ap (λ (k : ℕ). sets a.out.now a.at (packed_from a.table.now 0 k)) e)
