-- What the functions ask of the numbers of a bar.
use Rattle.std.specs.Prelude.{ℕ, ◌+◌, ◌≤◌, ◌<◌, ltb}
use Rattle.laws.specs.Choice.{pick}

-- the middle is no less than half a bar, and where there is a load the whole bar is at most the whole height
pub record BarReady (x load before scale : ℕ) : Type 0 where
  pub wide : 15 ≤ x
  pub some : 0 < scale
  pub few : scale ≤ 4294967295
  pub within : pick (ltb 0 load) (load + before) 0 ≤ scale
