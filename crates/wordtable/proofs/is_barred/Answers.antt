-- `wordtable::is_barred` meets its contract: a case for each way out. Assumes nothing.
use mathlib.Core.Path.{◌≡◌, sym, ap, ◌∙◌}
use mathlib.Core.Bool.{false, ◌&&◌, and-false}
use native.Mathlib.Omega.{arith}
use Prim.Native.Nat.{ℕ}
use lib.Dec.{ltb}
use lib.Pow.{pow_pos}
use Rattle.laws.specs.Bits.{bit_at}
use Rattle.laws.specs.Search.{first}
use Rattle.positions.specs.Blocked.{blocked_at}
use Rattle.laws.proofs.Bits.{bit-above}
use Rattle.laws.proofs.Search.{first-none}
use borrow.Author.Tests.{le-ltb}
use Rattle.wordtable.proofs.is_barred.Goals as goal

-- a word without cells has none of the site's, whatever is blocked
no_cell : (word cells : ℕ) → word ≡ 0 → ltb (first (bit_at word) 0 cells) cells ≡ false
no_cell word cells e =
    le-ltb _ cells (omega (arith, first-none (bit_at word) 0 cells (omega arith) (λ j _ _. rw e (bit-above 0 j (pow_pos j)))))

pub returns-then-word-eq0 : goal.returns-then-word-eq0
returns-then-word-eq0 c = let a = c.args in
    let b = blocked_at a.blocked.now a.p in
    sym (ap (λ t. b && t) (no_cell a.word a.cells c.if-word-eq0.true) ∙ and-false b)

pub returns-then-is_blocked : goal.returns-then-is_blocked
returns-then-is_blocked c = let a = c.args in
    ap (λ (x : ℕ). ltb x a.cells) c.lowest.ensures
    ∙ sym (ap (λ t. t && ltb (first (bit_at a.word) 0 a.cells) a.cells) (sym c.is_blocked.ensures ∙ c.if-is_blocked.true))

pub returns : goal.returns
returns c = let a = c.args in
    sym (ap (λ t. t && ltb (first (bit_at a.word) 0 a.cells) a.cells) (sym c.is_blocked.ensures ∙ c.if-is_blocked.false))
