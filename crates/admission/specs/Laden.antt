-- The site that a set of flows makes: the cells, slots, channels, reach and blocked positions of a site, and for loads the shares of the set, summed by cell.
-- "The site's own loads are set aside."
use Rattle.std.specs.Prelude.{ℕ, ◌+◌, ◌&&◌, List, [], ◌∷◌, ◌≡◌, eqb, length}
use Rattle.laws.specs.Bits.{bit_at}
use Rattle.laws.specs.Choice.{pick}
use Rattle.laws.specs.Part.{list_of}
use Rattle.laws.specs.Sum.{sum}
use Rattle.site.specs.Record.{site_of, load_at}
use Rattle.site.specs.declared.Site.{Site}
use Rattle.shares.specs.Given.{share_given}
use Rattle.shares.specs.Share.{share_of}
use Rattle.admitting.specs.Best.{load_in}
use Rattle.flowlist.specs.List.{flow_at}
use Rattle.flowlist.specs.declared.Flow.{Flow}
use Rattle.admission.specs.Admit.{flows_of}

abbrev pub laden_site : Site → List Flow → ℕ → Site
laden_site s fs x = site_of s.cells s.slots s.channels (list_of (load_in (flows_of s fs) x) 32) s.reach s.blocked s.rule

-- "on top of the loads that the site has": the shares of the set, summed by cell, and the site's own loads
abbrev pub beside_site : Site → List Flow → ℕ → Site
beside_site s fs x =
    site_of s.cells s.slots s.channels (list_of (λ i. load_in (flows_of s fs) x i + load_at s i) 32) s.reach s.blocked s.rule

-- W4: "Everything that takes a share follows". The public share of a flow: what `share_of` gives back for the site's slots and the flow's burst, period and
-- repeats
pub record Shared (s : Site) (f : Flow) (share : ℕ) : Type 0 where
  pub queue : ℕ
  pub delay : ℕ
  pub answer : share_given (share_of s.slots f.burst f.period f.repeats) ≡ record { number = 0; values = share ∷ queue ∷ delay ∷ [] }

-- "shares, summed by cell": those of the flows that are in the set x and have this cell, by its number
abbrev pub summed : List Flow → (ℕ → ℕ) → ℕ → ℕ → ℕ
summed fs share x cell = sum (λ k. pick (bit_at x k && eqb (flow_at fs k).cell cell) (share k) 0) (length fs)
