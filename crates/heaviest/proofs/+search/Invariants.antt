-- `heaviest::search` meets its contract. The measure is the number of cells that are not decided yet. Assumes nothing.
use Rattle.heaviest.proofs.+search.Given as goal

abbrev pub decreases-search : goal.decreases-search
decreases-search l = l.k
