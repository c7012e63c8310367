-- `blocklist::read_list` meets its contract: the sizes, then the items. Assumes nothing.
use mathlib.Core.Path.{◌≡◌, sym, ◌∙◌}
use mathlib.Core.Bool.{true}
use native.Mathlib.Omega.{arith}
use Rattle.blocklist.specs.Read.{sizes_fit}
use Rattle.blocklist.proofs.Steps.{sizes-are, read-unfit, read-fit}
use Rattle.blocklist.proofs.read_list.Goals as goal

pub returns-then-not-sizes_fit : goal.returns-then-not-sizes_fit
returns-then-not-sizes_fit c = c.bad_list.ensures ∙ read-unfit _ _ _ (sym c.sizes_fit.ensures ∙ c.if-not-sizes_fit.true)

pub read_items-requires : goal.read_items-requires
read_items-requires c =
    let fit : sizes_fit c.args.slots c.args.channels ≡ true = sym c.sizes_fit.ensures ∙ c.if-not-sizes_fit.false in
    omega (arith, sizes-are _ _ fit)

pub returns : goal.returns
returns c =
    let fit : sizes_fit c.args.slots c.args.channels ≡ true = sym c.sizes_fit.ensures ∙ c.if-not-sizes_fit.false in
    c.read_items.ensures ∙ read-fit _ _ _ fit
