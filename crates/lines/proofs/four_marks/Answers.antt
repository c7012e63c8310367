-- `lines::four_marks` meets its contract: four pairs of bytes in one word. Assumes nothing.
use Prim.Native.Nat.{ℕ, ◌+◌, ◌*◌}
use mathlib.Core.Path.{refl, ap₂, ◌∙◌}
use native.Mathlib.Omega.{arith}
use Rattle.lines.proofs.Fours.{fours-read}
use Rattle.lines.proofs.four_marks.Goals as goal

pub returns : goal.returns
returns c = let a = c.args in
    let e1 = c.two_bytes.ensures in
    let e2 = c.two_bytes-2.ensures in
    let e3 = c.two_bytes-3.ensures in
    let e4 = c.two_bytes-4.ensures in
    c.four_in.ensures
    ∙ fours-read a.s.now a.at a.b (a.at + 2 * a.b) _ _ refl (omega arith) e3.bytes e4.bytes e1.bytes e2.bytes
    (ap₂ (λ (x y : ℕ). x + 65536 * y) e3.pair e4.pair) (ap₂ (λ (x y : ℕ). x + 65536 * y) e1.pair e2.pair)
