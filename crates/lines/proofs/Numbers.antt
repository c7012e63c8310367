-- Decimals: what is scanned of a written number is the number. Assumes nothing.
use Prim.Native.Nat.{ℕ, zero, suc, ◌+◌, ◌-◌, ◌*◌, ◌/◌, ◌%◌, ◌≤◌, ◌<◌}
use mathlib.Core.Path.{◌≡◌, refl, ap, ◌∙◌}
use mathlib.Core.Bool.{Bool, true, false, ◌&&◌}
use mathlib.Core.List.{List, [], ◌∷◌, ◌++◌, append_assoc}
use native.Mathlib.Omega.{arith}
use native.Mathlib.Decide.{dec_lt}
use native.Mathlib.Numerals.{add-one}
use lib.ListN.{length, drop, get_or, drop_of_length-le}
use lib.Seq.{drop-cons}
use Rattle.laws.proofs.Choice.{both}
use lib.Dec.{ltb, leb}
use borrow.Author.Tests.{lt-ltb, le-leb, lt-leb, ltb-true, leb-true}
use Rattle.laws.specs.Choice.{pick}
use Rattle.text.specs.Decimal.{decimal}
use Rattle.text.proofs.Digits.{decimal-one, decimal-more}
use Rattle.lines.specs.Content.{more, scanned}

-- a digit is taken
digit : (v d : ℕ) (r : List ℕ) → v < 10000 → d < 10 → scanned v ((48 + d) ∷ r) ≡ scanned (10 * v + d) r
unfolding scanned more
digit v d r h l =
    let e : 48 + d - 48 ≡ d = omega arith in
    rw (lt-ltb v 10000 h, le-leb 48 (48 + d) (omega arith), le-leb (48 + d) 57 (omega arith), e)

-- a comma or any byte below the digits ends the number
pub scanned-end : (v d : ℕ) (r : List ℕ) → d < 48 → scanned v (d ∷ r) ≡ v
unfolding scanned more
scanned-end v d r h = go (ltb v 10000)
  where
    go : (t : Bool) → pick (t && (leb 48 d && leb d 57)) (scanned (10 * v + (d - 48)) r) v ≡ v
    go true = rw (lt-leb 48 d h)
    go false = refl

through : (n v : ℕ) (r : List ℕ) → v < 100000 → v ≤ n → scanned 0 (decimal v ++ r) ≡ scanned v r
through zero v r h l =
    let e : v ≡ 0 = omega arith in
    rw (e, decimal-one 0 (omega arith)) (digit 0 0 r (omega arith) (omega arith))
through (suc n) v r h l = go (dec_lt v 10) (λ r m. through n (v / 10) r (omega arith) (omega arith))
  where
    go : Dec (v < 10) → ((r : List ℕ) → 10 ≤ v → scanned 0 (decimal (v / 10) ++ r) ≡ scanned (v / 10) r) → scanned 0 (decimal v ++ r) ≡ scanned v r
    go (yes m) f = rw (decimal-one v m) (digit 0 v r (omega arith) m ∙ ap (λ (x : ℕ). scanned x r) (omega arith))
    go (no m) f =
        let e : 10 * (v / 10) + v % 10 ≡ v = omega arith in
        rw (decimal-more v (omega arith), append_assoc (decimal (v / 10)) ((48 + v % 10) ∷ []) r)
        (f ((48 + v % 10) ∷ r) (omega arith)
        ∙ digit (v / 10) (v % 10) r (omega arith) (omega arith)
        ∙ ap (λ (x : ℕ). scanned x r) e)

-- the digits of v are read as v
pub scanned-decimal : (v : ℕ) (r : List ℕ) → v < 100000 → scanned 0 (decimal v ++ r) ≡ scanned v r
scanned-decimal v r h = through v v r h (omega arith)

-- ---- the scanner's steps

pub more-is : (v d : ℕ) → more v d ≡ true → (v < 10000) × (48 ≤ d) × (d ≤ 57)
unfolding more
more-is v d h =
    let a = both (ltb v 10000) (leb 48 d && leb d 57) h in
    let b = both (leb 48 d) (leb d 57) a.1 in
    (ltb-true v 10000 a.0, leb-true 48 d b.0, leb-true d 57 b.1)

module _ (s : List ℕ) (v p : ℕ) where
  pub scan-end : length s ≤ p → v ≡ scanned v (drop p s)
  unfolding scanned
  scan-end h = rw (drop_of_length-le s {i = p} h)

  pub scan-stop : p < length s → more v (get_or s p 0) ≡ false → v ≡ scanned v (drop p s)
  unfolding scanned
  scan-stop h e = rw (drop-cons s p 0 h, e)

  pub scan_step : p < length s → more v (get_or s p 0) ≡ true → scanned (10 * v + (get_or s p 0 - 48)) (drop (p + 1) s) ≡ scanned v (drop p s)
  unfolding scanned
  scan_step h e = rw (drop-cons s p 0 h, e, add-one p)
