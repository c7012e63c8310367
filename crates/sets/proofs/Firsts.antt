-- The first few of a set's positions, word by word. Assumes nothing.
use mathlib.Core.Path.{◌≡◌, sym, ap, ap₂, ◌∙◌}
use mathlib.Core.Bool.{◌&&◌}
use mathlib.Core.Logic.{⊎_elim}
use mathlib.Core.List.{List}
use Prim.Native.Nat.{ℕ, ◌+◌, ◌-◌, ◌*◌}
use native.Mathlib.Omega.{arith}
use lib.Dec.{ltb}
use lib.ListN.{get_or}
use borrow.Author.Tests.{lt-ltb, le-ltb, ltb-true, ltb-false}
use Rattle.laws.specs.Bits.{bit_at, word_of}
use Rattle.laws.specs.Few.{first_few}
use Rattle.laws.specs.Sum.{count}
use Rattle.laws.proofs.Choice.{cases}
use Rattle.laws.proofs.Words.{word-eq}
use Rattle.positions.specs.Blocked.{word_in}
use Rattle.positions.proofs.Counts.{blocked-at, count_at}
use Rattle.sets.specs.Sets.{in_set}

less-ltb : (a b m : ℕ) → ltb (a + b) m ≡ ltb b (m - a)
less-ltb a b m =
    ⊎_elim (λ g. g ∙ sym (lt-ltb b (m - a) (omega (arith, ltb-true (a + b) m g))))
    (λ g. g ∙ sym (le-ltb b (m - a) (omega (arith, ltb-false (a + b) m g)))) (cases (ltb (a + b) m))

-- word j of the first m positions of a set: the first few of it, as many as are left
pub few-word : (set : List ℕ) (m j left : ℕ) → left ≡ m - count (in_set set) (64 * j)
    → word_of (first_few (bit_at (get_or set j 0)) left) 64 ≡ word_in (first_few (in_set set) m) j
few-word set m j left e =
    word-eq (first_few (bit_at (get_or set j 0)) left) (λ b. first_few (in_set set) m (64 * j + b)) 64
    (λ b h. ap₂ ◌&&◌ (sym (blocked-at set j b h))
    (ap (λ (l : ℕ). ltb (count (bit_at (get_or set j 0)) b) l) e
    ∙ sym (less-ltb (count (in_set set) (64 * j)) (count (bit_at (get_or set j 0)) b) m)
    ∙ ap (λ (c : ℕ). ltb c m) (sym (count_at set j b (omega arith)))))
