-- The load test, the chain judge, the judge of the class and the least number of open channel-slots, as calls on a site record:
-- the record's fault, or the theory's verdict on the problem that the record states.
-- "Load test and chain judge are verdicts; they refuse only with 1 to 3."; W8: and 20; W11: and 24. Cells are named by number, from 1.
use Rattle.std.specs.Prelude.{ℕ, ◌+◌, Bool, List, ltb, get_or, Result, Ok}
use Rattle.std.specs.Result.{result_and}
use Rattle.theory.specs.Verdict as theory
use Rattle.theory.specs.Verdict.{holds, over, load_verdict, most_demand, chained, broken, chain_verdict, in_class, outside, class_verdict}
use Rattle.site.specs.Record.{fault_of}
use Rattle.site.specs.Reach.{net_of}
use Rattle.site.specs.declared.Site.{Site}
use Rattle.site.specs.declared.Fault.{Fault}
use Rattle.judges.specs.declared.LoadVerdict.{LoadVerdict}
use Rattle.judges.specs.declared.LoadVerdict.TheVariants as load
use Rattle.judges.specs.declared.ChainVerdict.{ChainVerdict}
use Rattle.judges.specs.declared.ChainVerdict.TheVariants as chain
use Rattle.judges.specs.declared.ClassVerdict.{ClassVerdict}
use Rattle.judges.specs.declared.ClassVerdict.TheVariants as class
use Rattle.judges.specs.declared.LeastVerdict.{LeastVerdict}
use Rattle.judges.specs.declared.LeastVerdict.TheVariants as least

-- The cells that the two rules are about, by the loads. W2: "From now on the chain rule is about cells with load above 0 only, as a, b and c,
-- and the load test skips cells with load 0. This mends document 01".
abbrev pub counted_in : List ℕ → ℕ → Bool
counted_in loads i = ltb 0 (get_or loads i 0)

-- of a site: the loaded cells of the problem that it states (the theory's `loaded`)
abbrev pub counted : Site → ℕ → Bool
counted s = counted_in s.loads

-- "If not, it names the lowest cell that is over and by how much." W2: a cell with load above 0.
-- W8: "N in the load test becomes the count of open positions": `room` of the problem.
abbrev pub load_of : theory.LoadVerdict → LoadVerdict
load_of holds = load.Holds
load_of (over i m) = load.Over (i + 1) m

unfoldable pub load_answer : Site → Result LoadVerdict Fault
load_answer s = result_and (fault_of s) (Ok (load_of (load_verdict (net_of s) (counted s))))

-- "If not chained, the judge names the first triple a, b, c in rising order of a, then c, then b." W2: of cells with load above 0.
abbrev pub chain_of : theory.ChainVerdict → ChainVerdict
chain_of chained = chain.Chained
chain_of (broken a b c) = chain.Broken (a + 1) (b + 1) (c + 1)

unfoldable pub chain_answer : Site → Result ChainVerdict Fault
chain_answer s = result_and (fault_of s) (Ok (chain_of (chain_verdict (net_of s) (counted s))))

-- W9: "every loaded cell's loaded, lower-numbered clashing cells clash with one another". Else the first cell i, and its first two such cells a and b that
-- do not clash: in rising order of i, then a, then b.
abbrev pub class_of : theory.ClassVerdict → ClassVerdict
class_of in_class = class.InClass
class_of (outside a b i) = class.Outside (a + 1) (b + 1) (i + 1)

unfoldable pub class_answer : Site → Result ClassVerdict Fault
class_answer s = result_and (fault_of s) (Ok (class_of (class_verdict (net_of s) (counted s))))

-- In the class also the least number of open channel-slots that would do: the greatest demand of a cell with load above 0.
-- The site's own slots, channels and blocked positions play no part.
-- Outside so many are enough, since the load test then holds; fewer may be enough, too. (Named in proofs/Meaning.antt.)
abbrev pub least_of : theory.ClassVerdict → ℕ → LeastVerdict
least_of in_class n = least.Least n
least_of (outside a b i) n = least.Enough n

unfoldable pub least_answer : Site → Result LeastVerdict Fault
least_answer s = result_and (fault_of s) (Ok (least_of (class_verdict (net_of s) (counted s)) (most_demand (net_of s) (counted s))))
