-- `heaviest::dive` meets its contract: what it gives back was met on the way. The measure is the number of cells that are not decided yet. Assumes nothing.
use Rattle.heaviest.proofs.+dive.Given as goal

abbrev pub decreases-dive : goal.decreases-dive
decreases-dive l = l.k
