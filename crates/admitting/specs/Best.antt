-- Which flows to admit: the sets that are allowed, and the best of them.
use Rattle.std.specs.Prelude.{ℕ, zero, suc, ◌^◌, ◌≤◌, ◌<◌, ◌≡◌, Bool, true, false, ◌&&◌, ltb}
use Rattle.laws.specs.Choice.{pick}
use Rattle.theory.specs.Net.{Net, loaded, LoadTest}
use Rattle.theory.specs.Verdict.{LoadVerdict, holds, over, load_verdict}
pub use Rattle.admitting.specs.Flows.{Flows, total, worth, load_in, beside, idle, laden}

abbrev pub passes : LoadVerdict → Bool
passes holds = true
passes (over i m) = false

-- "pass the load test": the one that the public call has, about the loaded cells
unfoldable pub allowed_beside : Net → Flows → ℕ → Bool
allowed_beside s f x = passes (load_verdict (beside s f x) (loaded (beside s f x)))

-- the same with the loads set aside
abbrev pub allowed : Net → Flows → ℕ → Bool
allowed s f x = allowed_beside (idle s) f x

-- set x, where it may be had and is worth more than b; else b
abbrev pub better : (ℕ → Bool) → (ℕ → ℕ) → ℕ → ℕ → ℕ
better ok worth x b = pick (ok x && ltb (worth b) (worth x)) x b

-- the best of b and the m sets from x on: of equals, the first
unfoldable pub best_of : (ℕ → Bool) → (ℕ → ℕ) → ℕ → ℕ → ℕ → ℕ
best_of ok worth zero x b = b
best_of ok worth (suc m) x b = best_of ok worth m (suc x) (better ok worth x b)

-- "The empty set counts.": a plain search over all sets, from the empty one on
unfoldable pub best_beside : Net → Flows → ℕ
best_beside s f = best_of (allowed_beside s f) (worth f) (2 ^ f.count) 0 0

abbrev pub best : Net → Flows → ℕ
best s f = best_beside (idle s) f

-- "the set of greatest total value whose shares, summed by cell, pass the load test .. among equals, the set with the smallest number":
-- on top of the loads of the problem
pub record BestBeside (s : Net) (f : Flows) (x : ℕ) : Type 0 where
  pub inside : x < 2 ^ f.count
  pub passed : LoadTest (beside s f x) (loaded (beside s f x))
  pub most : (y : ℕ) → y < 2 ^ f.count → LoadTest (beside s f y) (loaded (beside s f y)) → worth f y ≤ worth f x
  pub least : (y : ℕ) → y < 2 ^ f.count → LoadTest (beside s f y) (loaded (beside s f y)) → worth f y ≡ worth f x → x ≤ y

-- and with the loads set aside
abbrev pub Best : Net → Flows → ℕ → Type 0
Best s f x = BestBeside (idle s) f x
