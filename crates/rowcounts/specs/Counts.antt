-- The problem that the search for a wrong count looks at.
use Rattle.std.specs.Prelude.{false, List, ℕ}
use Rattle.theory.specs.Net.{Net, unblocked}
use Rattle.site.specs.Reach.{net_in}

-- the problem as far as counts go: no clash is looked at
abbrev pub load_net : ℕ → ℕ → List ℕ → Net
load_net cells n loads = net_in cells n loads (λ a c. false) unblocked
