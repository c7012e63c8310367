-- `sitefile::refused` meets its contract: the site is that of zeros. Assumes nothing.
use Rattle.sitefile.specs.Read.{refused_site}
use Rattle.sitefile.proofs.refused.Goals as goal

pub returns : goal.returns
unfolding refused_site
returns c = rw c.zeros.ensures
