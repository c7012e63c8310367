-- The equalities that the contracts of crate `loads` state: r is the answer, and x' what a lent x holds afterwards.
-- Made by tools/surface from the source.
use Rattle.std.specs.Prelude.{List, get_or, ltb, ℕ, ◌≡◌}
use Rattle.laws.specs.Bits.{word_of}
use Rattle.laws.specs.Most.{greater}
use Rattle.loads.specs.Loads.{loads_in}

-- loads::wide
pub record LoadsWide (x : ℕ) (r : ℕ) : Type 0 where
  pub answer : r ≡ x

-- loads::greater
pub record LoadsGreater (a : ℕ) (b : ℕ) (r : ℕ) : Type 0 where
  pub answer : r ≡ greater a b

-- loads::loaded
pub record LoadsLoaded (loads : List ℕ) (r : ℕ) : Type 0 where
  pub answer : r ≡ word_of (λ i. ltb 0 (get_or loads i 0)) 32

-- loads::loaded_in
pub record LoadsLoadedIn (loads : List ℕ) (cells : ℕ) (r : ℕ) : Type 0 where
  pub answer : r ≡ word_of (λ i. ltb 0 (get_or loads i 0)) cells

-- loads::loads_of_many
pub record LoadsLoadsOfMany (loads : List ℕ) (word : ℕ) (r : ℕ) : Type 0 where
  pub answer : r ≡ loads_in loads word

-- loads::loads_of
pub record LoadsLoadsOf (loads : List ℕ) (word : ℕ) (r : ℕ) : Type 0 where
  pub answer : r ≡ loads_in loads word

-- loads::load_of
pub record LoadsLoadOf (loads : List ℕ) (i : ℕ) (r : ℕ) : Type 0 where
  pub answer : r ≡ get_or loads i 0
