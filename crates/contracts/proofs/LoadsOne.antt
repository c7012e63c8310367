-- For any arguments one answer and one content of what is lent meet the contract, and no other, in crate `loads`: by its equalities alone.
-- Made by tools/surface from the source. Assumes nothing.
use Rattle.std.specs.Prelude.{List, get_or, ltb, refl, ℕ, ◌≡◌}
use Rattle.contracts.specs.LoadsSays.{LoadsGreater, LoadsLoadOf, LoadsLoaded, LoadsLoadedIn, LoadsLoadsOf, LoadsLoadsOfMany, LoadsWide}
use Rattle.laws.specs.Bits.{word_of}
use Rattle.laws.specs.Most.{greater}
use Rattle.loads.specs.Loads.{loads_in}

-- loads::wide
pub loads_wide-one : (x : ℕ)
    → (r : ℕ) × (LoadsWide x r)
    × ((q : ℕ) → LoadsWide x q → (q ≡ r))
loads_wide-one x = (
  x,
  record { answer = refl },
  λ q says. says.answer,
)

-- loads::greater
pub loads_greater-one : (a : ℕ) (b : ℕ)
    → (r : ℕ) × (LoadsGreater a b r)
    × ((q : ℕ) → LoadsGreater a b q → (q ≡ r))
loads_greater-one a b = (
  greater a b,
  record { answer = refl },
  λ q says. says.answer,
)

-- loads::loaded
pub loads_loaded-one : (loads : List ℕ)
    → (r : ℕ) × (LoadsLoaded loads r)
    × ((q : ℕ) → LoadsLoaded loads q → (q ≡ r))
loads_loaded-one loads = (
  word_of (λ i. ltb 0 (get_or loads i 0)) 32,
  record { answer = refl },
  λ q says. says.answer,
)

-- loads::loaded_in
pub loads_loaded_in-one : (loads : List ℕ) (cells : ℕ)
    → (r : ℕ) × (LoadsLoadedIn loads cells r)
    × ((q : ℕ) → LoadsLoadedIn loads cells q → (q ≡ r))
loads_loaded_in-one loads cells = (
  word_of (λ i. ltb 0 (get_or loads i 0)) cells,
  record { answer = refl },
  λ q says. says.answer,
)

-- loads::loads_of_many
pub loads_loads_of_many-one : (loads : List ℕ) (word : ℕ)
    → (r : ℕ) × (LoadsLoadsOfMany loads word r)
    × ((q : ℕ) → LoadsLoadsOfMany loads word q → (q ≡ r))
loads_loads_of_many-one loads word = (
  loads_in loads word,
  record { answer = refl },
  λ q says. says.answer,
)

-- loads::loads_of
pub loads_loads_of-one : (loads : List ℕ) (word : ℕ)
    → (r : ℕ) × (LoadsLoadsOf loads word r)
    × ((q : ℕ) → LoadsLoadsOf loads word q → (q ≡ r))
loads_loads_of-one loads word = (
  loads_in loads word,
  record { answer = refl },
  λ q says. says.answer,
)

-- loads::load_of
pub loads_load_of-one : (loads : List ℕ) (i : ℕ)
    → (r : ℕ) × (LoadsLoadOf loads i r)
    × ((q : ℕ) → LoadsLoadOf loads i q → (q ≡ r))
loads_load_of-one loads i = (
  get_or loads i 0,
  record { answer = refl },
  λ q says. says.answer,
)
