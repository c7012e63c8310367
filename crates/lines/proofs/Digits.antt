-- A number whose first digit is not 0: its digits, as they are taken, are those that the writer gives. Assumes nothing.
use Prim.Native.Nat.{ℕ, ◌+◌, ◌-◌, ◌*◌, ◌/◌, ◌%◌, ◌≤◌, ◌<◌}
use mathlib.Core.Path.{◌≡◌, refl, sym, ap, ◌∙◌}
use mathlib.Core.List.{List, [], ◌∷◌}
use native.Mathlib.Omega.{arith}
use lib.ListN.{length, drop, get_or}
use borrow.Author.Tests.{lt-ltb, le-leb}
use Rattle.text.specs.Decimal.{decimal}
use Rattle.text.proofs.Digits.{decimal-one, decimal-more}
use Rattle.lines.specs.Match.{nowhere, eaten}
use Rattle.lines.specs.Content.{more, scanned}
use Rattle.lines.proofs.Match.{eat-here, eaten-append}
use Rattle.lines.proofs.Numbers.{scan_step}

module _ (s : List ℕ) (at : ℕ) where
  -- the first digit
  pub scan-begin : (first : ℕ) → first ≤ 9 → at < length s → get_or s at 0 ≡ 48 + first → scanned first (drop (at + 1) s) ≡ scanned 0 (drop at s)
  unfolding more
  scan-begin first h l e =
      let v : 10 * 0 + (get_or s at 0 - 48) ≡ first = omega arith in
      ap (λ (x : ℕ). scanned x (drop (at + 1) s)) (sym v)
      ∙ scan_step s 0 at l (rw (lt-ltb 0 10000 (omega arith), le-leb 48 (get_or s at 0) (omega arith), le-leb (get_or s at 0) 57 (omega arith)))

  pub digits-begin : (first : ℕ) → first ≤ 9 → at < length s → get_or s at 0 ≡ 48 + first → at + 1 ≡ eaten s at (decimal first)
  digits-begin first h l e = eat-here s at (48 + first) l e ∙ ap (eaten s at) (sym (decimal-one first (omega arith)))

  -- one more
  pub digits-on : (v p : ℕ) → 0 < v → p < length s → 48 ≤ get_or s p 0 → get_or s p 0 ≤ 57 → length s ≤ nowhere → p ≡ eaten s at (decimal v)
      → p + 1 ≡ eaten s at (decimal (10 * v + (get_or s p 0 - 48)))
  digits-on v p h l low high short e =
      let q : (10 * v + (get_or s p 0 - 48)) / 10 ≡ v = omega arith in
      let d : 48 + (10 * v + (get_or s p 0 - 48)) % 10 ≡ get_or s p 0 = omega arith in
      eat-here s p (get_or s p 0) l refl
      ∙ ap (λ (i : ℕ). eaten s i (get_or s p 0 ∷ [])) e
      ∙ eaten-append s at (decimal v) (get_or s p 0 ∷ []) short
      ∙ ap (eaten s at) (sym (rw (q, d) at (decimal-more (10 * v + (get_or s p 0 - 48)) (omega arith))))
