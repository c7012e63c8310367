-- The greatest of some numbers. Where the product says the most of something, it is by this one form.
use Rattle.std.specs.Prelude.{ℕ, zero, suc, ltb}
use Rattle.laws.specs.Choice.{pick}

-- the greater of two
abbrev pub greater : ℕ → ℕ → ℕ
greater a b = pick (ltb a b) b a

-- the greatest of f 0, f 1, .. f (n - 1); 0 where n is 0
unfoldable pub most : (ℕ → ℕ) → ℕ → ℕ
most f zero = 0
most f (suc n) = greater (most f n) (f n)
