-- What the types of the code give of a site record's lists.
use Rattle.std.specs.Prelude.{ℕ, ◌^◌, ◌≤◌, ◌<◌, ◌≡◌, length, get_or}
use Rattle.site.specs.Record.{load_at}
use Rattle.site.specs.declared.Site.{Site}

-- "One site record holds all 32 loads and all 32 reach rows, used or not": a load in 16 bits, a row in 32;
-- and the blocked positions in 32 words of 64 bits
pub record Held (s : Site) : Type 0 where
  pub loads : length s.loads ≡ 32
  pub few : (k : ℕ) → load_at s k ≤ 65535
  pub rows : length s.reach ≡ 32
  pub bits : (k : ℕ) → k < 32 → get_or s.reach k 0 < 2 ^ 32
  pub blocked : length s.blocked ≡ 32
  pub blocked_bits : (k : ℕ) → k < 32 → get_or s.blocked k 0 < 2 ^ 64
