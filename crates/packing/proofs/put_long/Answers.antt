-- `packing::put_long` meets its contract: the whole blocks leave the first 2 m words, and the last one the others. Assumes nothing.
use mathlib.Core.Path.{◌≡◌, refl, ap, ◌∙◌}
use Prim.Native.Nat.{ℕ, ◌+◌, ◌-◌, ◌*◌, ◌/◌, ◌≤◌}
use native.Mathlib.Omega.{arith}
use lib.ListN.{length}
use lib.Seq.{sets}
use Rattle.laws.specs.Part.{list_of}
use Rattle.laws.proofs.Stores.{sets-on}
use Rattle.positions.specs.Blocked.{word_in}
use Rattle.packing.specs.Packed.{in_row}
use Rattle.packing.proofs.Packed.{blocks-plain}
use Rattle.packing.proofs.put_long.Goals as goal

pub returns-then-w-m : goal.returns-then-w-m
returns-then-w-m c =
    let whole : let a = c.args in c.put_plain.new.set ≡ sets a.set.now 0
    (list_of (word_in (in_row a.row.now)) (2 * (length a.row.now / 128))) = let a = c.args in
    let fits : 2 * (length a.row.now / 128) ≤ length a.set.now = omega arith in
    blocks-plain a.row.now a.set.now _ _ (length a.row.now / 128) fits c.put_blocks.ensures c.put_plain.ensures in
    let a = c.args in
    let e : 2 * (length a.row.now / 128) ≡ a.w = omega arith in
    whole ∙ ap (λ (n : ℕ). sets a.set.now 0 (list_of (word_in (in_row a.row.now)) n)) e

pub returns : goal.returns
returns c =
    let whole : let a = c.args in c.put_plain.new.set ≡ sets a.set.now 0
    (list_of (word_in (in_row a.row.now)) (2 * (length a.row.now / 128))) = let a = c.args in
    let fits : 2 * (length a.row.now / 128) ≤ length a.set.now = omega arith in
    blocks-plain a.row.now a.set.now _ _ (length a.row.now / 128) fits c.put_blocks.ensures c.put_plain.ensures in
    let a = c.args in
    let m = length a.row.now / 128 in
    let e : 2 * m + (a.w - 2 * m) ≡ a.w = omega arith in
    c.put_last.ensures
    ∙ sets-on (word_in (in_row a.row.now)) (λ d. word_in (in_row a.row.now) (2 * m + d)) (2 * m) (a.w - 2 * m) _ a.set.now whole (λ d _. refl)
    ∙ ap (λ (n : ℕ). sets a.set.now 0 (list_of (word_in (in_row a.row.now)) n)) e
