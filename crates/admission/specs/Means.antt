-- What an admission's answers mean, said a second time: by the cell, the burst, the period and the repeats of a flow, by products, with no share's answer.
-- proofs/Meaning.antt shows that the definition says this and nothing else.
use Rattle.std.specs.Prelude.{ℕ, ◌≤◌, ◌<◌, List, ◌≡◌, length, Ok}
use Rattle.theory.specs.Net.{everyone, Class}
use Rattle.site.specs.Means.{UpTo}
use Rattle.site.specs.Record.{fault_of}
use Rattle.site.specs.Reach.{net_of}
use Rattle.site.specs.declared.Site.{Site}
use Rattle.shares.specs.Means.{Within, Above}
use Rattle.flowlist.specs.List.{flow_at}
use Rattle.flowlist.specs.declared.Flow.{Flow}
use Rattle.admission.specs.declared.AdmitError.{AdmitError}
use Rattle.admission.specs.declared.AdmitError.TheVariants.{BadCell, BadFlow, BigShare}

-- burst and period "each 1 to 65,535"; W4: "k from 1 to 4"
abbrev pub InRange : Flow → Type 0
InRange f = UpTo 65535 f.burst × UpTo 65535 f.period × UpTo 4 f.repeats

-- a flow that is not refused: its cell is one of the site's, its numbers are in range, and its share, repeats counted, is at most 65,535
pub record Sends (s : Site) (f : Flow) : Type 0 where
  pub cell : UpTo s.cells f.cell
  pub range : InRange f
  pub share : Within s.slots f.burst f.period f.repeats

-- "then per flow 2, 15, 16 with the flow's number"
pub data Refusal : Type 0 where
  two : Refusal
  fifteen : Refusal
  sixteen : Refusal

abbrev pub refused_with : Refusal → ℕ → AdmitError
refused_with two = BadCell
refused_with fifteen = BadFlow
refused_with sixteen = BigShare

-- what each refusal says of a flow
abbrev pub Refuses : Site → Flow → Refusal → Type 0
Refuses s f two = UpTo s.cells f.cell → ⊥
Refuses s f fifteen = UpTo s.cells f.cell × (InRange f → ⊥)
Refuses s f sixteen = UpTo s.cells f.cell × InRange f × Above s.slots f.burst f.period f.repeats

-- where flows are looked at: the record is accepted, there are at most 16 flows, and the site is in W9's class, "all cells counted as loaded"
pub record Looked (s : Site) (fs : List Flow) : Type 0 where
  pub fine : fault_of s ≡ Ok tt
  pub few : length fs ≤ 16
  pub class : Class (net_of s) everyone

-- where a set is answered: no flow is refused
pub record Settled (s : Site) (fs : List Flow) : Type 0 where
  pub looked : Looked s fs
  pub good : (k : ℕ) → k < length fs → Sends s (flow_at fs k)

-- where the flow at place k is refused: it is the first
pub record Stops (s : Site) (fs : List Flow) (k : ℕ) (r : Refusal) : Type 0 where
  pub looked : Looked s fs
  pub inside : k < length fs
  pub before : (j : ℕ) → j < k → Sends s (flow_at fs j)
  pub refuses : Refuses s (flow_at fs k) r
