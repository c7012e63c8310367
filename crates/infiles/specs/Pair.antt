-- A plan file that goes with a site: it is in order, and of the site's size.
use Rattle.std.specs.Prelude.{ℕ, Bool, ◌&&◌, List, eqb, Option, Some, None, Result, Ok, Err}
use Rattle.laws.specs.Choice.{pick}
use Rattle.site.specs.declared.Site.{Site}
use Rattle.records.specs.Reasons.{is_done}
use Rattle.planfile.specs.Read.{read_plan, plan_table_read}
use Rattle.planfile.specs.declared.PlanRead.{PlanRead}
use Rattle.sitefile.specs.Read.{read_site}

-- a plan of the site's size
abbrev pub same_size : Site → PlanRead → Bool
same_size s p = eqb s.cells p.cells && (eqb s.slots p.slots && eqb s.channels p.channels)

-- the plan file goes with the site, read into a table
abbrev pub goes_with : Site → List ℕ → List ℕ → Bool
goes_with s file table = is_done (read_plan file table).answer && same_size s (read_plan file table)

-- the site that a site file states; none where it is refused
abbrev pub site_given : List ℕ → Option Site
site_given file = pick (is_done (read_site file).answer) (Some (read_site file).site) None

-- the table that a site file and a plan file leave: a site file that is refused leaves it as it was
abbrev pub pair_table : (file plan table : List ℕ) → List ℕ
pair_table file plan table = pick (is_done (read_site file).answer) (plan_table_read plan table) table

-- both are in order, and the plan is of the site's size
abbrev pub pair_good : (file plan table : List ℕ) → Bool
pair_good file plan table = is_done (read_site file).answer && goes_with (read_site file).site plan table

-- the site of the site file, beside whether the plan goes with it: `Ok` where the two are a pair
abbrev pub pair_site : (file plan table : List ℕ) → Result Site Site
pair_site file plan table = pick (pair_good file plan table) (Ok (read_site file).site) (Err (read_site file).site)
