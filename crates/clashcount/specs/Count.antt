-- How many clashes a site has. Cells are indexed from 0.
use Rattle.std.specs.Prelude.{ℕ}
use Rattle.laws.specs.Sum.{sum, count}
use Rattle.site.specs.declared.Site.{Site}
use Rattle.site.specs.Reach.{clash_within}

-- "so many .. clashes": the pairs of cells a < c of the site that clash
unfoldable pub clash_count : Site → ℕ
clash_count s = sum (λ c. count (λ a. clash_within s a c) c) 32
