-- `site::Site::zeros` meets its contract: the record is the definition's. Assumes nothing.
use mathlib.Core.Path.{refl}
use Rattle.site.specs.Record.{zero_site}
use Rattle.site.proofs.Site.zeros.Goals as goal

pub returns : goal.returns
unfolding zero_site
returns c = refl
