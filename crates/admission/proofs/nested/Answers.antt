-- `admission::nested` meets its contract: the search counts every cell. Assumes nothing.
use Rattle.admission.proofs.Suits.{nested_is}
use Rattle.admission.proofs.nested.Goals as goal

pub returns : goal.returns
returns c = let a = c.args in
    nested_is a.clash.now c.requires.1 a.cells c.requires.0 _ c.first_split.ensures
