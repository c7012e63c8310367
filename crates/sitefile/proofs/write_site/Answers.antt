-- `sitefile::write_site` meets its contract: an accepted record has its sizes in range. Assumes nothing.
use mathlib.Core.Path.{sym, ◌∙◌}
use Rattle.sitefile.proofs.WriteLaws.{writer_sized}
use Rattle.sitefile.proofs.write_site.Goals as goal

pub put_site-requires : goal.put_site-requires
put_site-requires c = writer_sized c.args.site (sym c.accepted.ensures ∙ c.in_ok-accepted.was)
