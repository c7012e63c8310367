-- The lines of one first cell more, and that more lines are no shorter; and that what is found does not depend on what stands in the lent table.
-- Assumes nothing.
use Prim.Native.Nat.{ℕ, zero, suc, ◌+◌, ◌-◌, ◌≤◌}
use mathlib.Core.Path.{◌≡◌, refl, ap, ◌∙◌}
use mathlib.Core.List.{List, ◌++◌}
use native.Mathlib.Nat.{add-zero}
use native.Mathlib.Omega.{arith}
use lib.ListN.{length, length-append}
use Rattle.site.specs.declared.Site.{Site}
use Rattle.say_rule.specs.Said.{firsts_said, thirds_said}
use Rattle.finder.specs.Find.{find_answer}

pub first_more : (s : Site) (a : ℕ) → firsts_said s (a + 1) ≡ firsts_said s a ++ thirds_said s a
first_more s a = let e : a + 1 ≡ suc a = omega arith in ap (firsts_said s) e ∙ (unfold firsts_said in refl)

grow : (s : Site) (n m : ℕ) → length (firsts_said s n) ≤ length (firsts_said s (n + m))
grow s n zero = omega (arith, ap (λ (k : ℕ). length (firsts_said s k)) (add-zero n))
grow s n (suc m) =
    let e : n + suc m ≡ n + m + 1 = omega arith in
    omega (
      arith,
      grow s n m,
      ap (λ (k : ℕ). length (firsts_said s k)) e,
      ap length (first_more s (n + m)),
      length-append (firsts_said s (n + m)) (thirds_said s (n + m)),
    )

pub no-shorter : (s : Site) (n m : ℕ) → n ≤ m → length (firsts_said s n) ≤ length (firsts_said s m)
no-shorter s n m h =
    let e : n + (m - n) ≡ m = omega arith in
    omega (arith, grow s n (m - n), ap (λ (k : ℕ). length (firsts_said s k)) e)

pub found-by-length : (s : Site) (limit : ℕ) (t u : List ℕ) → length t ≡ length u → find_answer s limit t ≡ find_answer s limit u
unfolding find_answer
found-by-length s limit t u e = rw e
