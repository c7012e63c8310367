-- The first few of the numbers that pass a test.
use Rattle.std.specs.Prelude.{Bool, ◌&&◌, ℕ, ltb}
use Rattle.laws.specs.Sum.{count}

-- whether k is one of the first l numbers that pass
abbrev pub first_few : (ℕ → Bool) → ℕ → ℕ → Bool
first_few p l k = p k && ltb (count p k) l
