-- Renumberings in general: which there are, the problem in new numbers, and when that is in W9's class "whatever the loads". And problems that agree.
use Rattle.std.specs.Prelude.{◌≡◌, Bool, true, ℕ, ◌≤◌, ◌<◌}
use Rattle.theory.specs.Net.{Net, Class, loaded}

-- a renumbering of n cells: `old a` is the old index of the cell that is now a, `new i` the new index of the cell that was i
pub record Renumbers (n : ℕ) (new old : ℕ → ℕ) : Type 0 where
  pub new_in : (i : ℕ) → i < n → new i < n
  pub old_in : (a : ℕ) → a < n → old a < n
  pub new_old : (a : ℕ) → a < n → new (old a) ≡ a
  pub old_new : (i : ℕ) → i < n → old (new i) ≡ i

-- the problem in new numbers
abbrev pub renumbered : (ℕ → ℕ) → Net → Net
renumbered old s =
    record { cells = s.cells; width = s.width; load = λ a. s.load (old a); clash = λ a b. s.clash (old a) (old b); usable = s.usable }

-- the same problem with other loads
abbrev pub with_loads : (ℕ → ℕ) → Net → Net
with_loads l s = record { cells = s.cells; width = s.width; load = l; clash = s.clash; usable = s.usable }

-- "puts it in W9's class whatever the loads"
abbrev pub AlwaysClass : Net → Type 0
AlwaysClass s = (l : ℕ → ℕ) → Class (with_loads l s) (loaded (with_loads l s))

abbrev pub Symmetric : (ℕ → ℕ → Bool) → Type 0
Symmetric clash = (a b : ℕ) → clash a b ≡ clash b a

-- t and s agree on every cell and position that they have
pub record SameNet (t s : Net) : Type 0 where
  pub cells : t.cells ≡ s.cells
  pub width : t.width ≡ s.width
  pub load : (i : ℕ) → i < s.cells → t.load i ≡ s.load i
  pub clash : (a b : ℕ) → a < s.cells → b < s.cells → t.clash a b ≡ s.clash a b
  pub usable : (k : ℕ) → k < s.width → t.usable k ≡ s.usable k

-- ---- the rule, said without the search: `new i` is the new index of the cell that was i

-- when the number a + 1 is given, those left are the cells whose new index is a or below
module _ (clash : ℕ → ℕ → Bool) (n : ℕ) (new : ℕ → ℕ) (a : ℕ) where
  -- "whose clashing cells all clash with one another", among those left
  abbrev pub AllClash : ℕ → Type 0
  AllClash i = (x y : ℕ) → x < n → y < n → (x ≡ y → ⊥) → new x ≤ a → new y ≤ a → clash i x ≡ true → clash i y ≡ true → clash x y ≡ true

  -- "the highest old number whose clashing cells all clash with one another", among those left: i
  pub record Highest (i : ℕ) : Type 0 where
    pub inside : i < n
    pub is_left : new i ≤ a
    pub clashing : AllClash i
    pub above : (j : ℕ) → i < j → j < n → new j ≤ a → AllClash j → ⊥

-- each number, from the last down, goes by the rule
abbrev pub ByRule : (ℕ → ℕ → Bool) → ℕ → (ℕ → ℕ) → (ℕ → ℕ) → Type 0
ByRule clash n new old = (a : ℕ) → a < n → Highest clash n new a (old a)
