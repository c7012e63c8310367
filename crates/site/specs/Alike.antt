-- Sites that differ in slots and channels alone: what is said of how many channel-slots do is said of these.
use Rattle.std.specs.Prelude.{◌≡◌}
use Rattle.site.specs.declared.Site.{Site}

-- a site with the same cells, loads, reach and rule: its slots and channels may be others
pub record Alike (other site : Site) : Type 0 where
  pub same_cells : other.cells ≡ site.cells
  pub same_loads : other.loads ≡ site.loads
  pub same_reach : other.reach ≡ site.reach
  pub same_rule : other.rule ≡ site.rule
