-- What the functions ask of a site, a table and the site's clash rows.
use Rattle.std.specs.Prelude.{ℕ, ◌≤◌, ◌≡◌, List, length}
use Rattle.laws.specs.Bits.{bit_in}
use Rattle.site.specs.Record.{size}
use Rattle.site.specs.Reach.{clash_of}
use Rattle.site.specs.Means.{Sized}
use Rattle.site.specs.declared.Site.{Site}

-- the sizes are in range, the table has a byte for each cell and position, and the rows say who clashes
pub record Drawn (s : Site) (t clash : List ℕ) : Type 0 where
  pub sizes : Sized s
  pub long : size s ≤ length t
  pub rows : bit_in clash ≡ clash_of s
