-- What the bars ask of a site: its scale by the clash rows, and what a cell's bar asks. Assumes nothing.
use Prim.Native.Nat.{ℕ, ◌+◌, ◌-◌, ◌≤◌, ◌<◌}
use mathlib.Core.Path.{◌≡◌, sym, ap, ap₂, ◌∙◌, subst}
use mathlib.Core.Bool.{Bool}
use mathlib.Core.List.{List}
use native.Mathlib.Omega.{arith}
use lib.Dec.{ltb}
use lib.ListN.{get_or}
use borrow.Author.Tests.{lt-ltb}
use Rattle.laws.specs.Bits.{bit_at, bit_in, word_of}
use Rattle.laws.specs.Choice.{pick}
use Rattle.laws.specs.Most.{most}
use Rattle.laws.proofs.Choice.{at_least}
use Rattle.laws.proofs.Most.{most-same}
use Rattle.laws.proofs.Sums.{count_most}
use Rattle.laws.proofs.Words.{word-bit}
use Rattle.theory.specs.Net.{room, lower, demand, loaded}
use Rattle.theory.specs.Verdict.{asks, most_demand}
use Rattle.demands.specs.Words.{demand_at, demand_counted}
use Rattle.site.specs.Record.{positions, load_at}
use Rattle.site.specs.Reach.{is_open, clash_of, net_of}
use Rattle.site.specs.declared.Site.{Site}
use Rattle.site.proofs.Faults.{Sized, few-positions}
use Rattle.phrases.specs.Put.{Put}
use Rattle.judges.proofs.Laws.{demand-is}
use Rattle.drawing.specs.Range.{cell_at}
use Rattle.drawing.specs.Loads.{bar_by, bar_scale, bar_said}
use Rattle.drawing.proofs.Loads.{scale-some, scale-asks}
use Rattle.say_loads.specs.Code.{BarReady}

pub load-some : (load : ℕ) → (load ≡ 0 → ⊥) → 0 < load
load-some load n = at_least 1 load (λ l. n (omega arith))

-- the whole bar of a cell with a load is at most the whole height
pub bar-all : (x load before scale : ℕ) → BarReady x load before scale → (load ≡ 0 → ⊥) → load + before ≤ scale
bar-all x load before scale r n = rw (lt-ltb 0 load (load-some load n)) at r.within

pub room-few : (s : Site) → Sized s → room (net_of s) ≤ 2048
room-few s sizes = omega (arith, count_most (is_open s.blocked) (positions s), few-positions sizes)

module _ (s : Site) (sizes : Sized s) (rows : List ℕ) (relation : bit_in rows ≡ clash_of s) where
  -- the greatest of what the rows ask is the greatest demand of a cell with a load
  pub most-is : (who : ℕ) → who ≡ word_of (λ i. ltb 0 (get_or s.loads i 0)) 32
      → most (λ i. demand_counted s.loads (get_or rows i 0) who i) s.cells ≡ most_demand (net_of s) (loaded (net_of s))
  unfolding most_demand
  most-is who word =
      most-same (λ i. demand_counted s.loads (get_or rows i 0) who i) (asks (net_of s) (loaded (net_of s))) s.cells (λ i l.
      ap₂ (λ (t : Bool) (n : ℕ). pick t n 0)
      (ap (λ (w : ℕ). bit_at w i) word ∙ word-bit (λ j. ltb 0 (get_or s.loads j 0)) 32 i (omega (arith, sizes.cells_most)))
      (demand-is s rows relation i))

  -- what is left of the demand without the load
  pub before-is : (i all load : ℕ) → all ≡ demand_at s.loads (get_or rows i 0) i → load ≡ load_at s i → (load ≤ all) × (all - load ≡ lower (net_of s) i)
  before-is i all load e f =
      let d : all ≡ load_at s i + lower (net_of s) i = e ∙ demand-is s rows relation i in
      (omega (arith, d, f), omega (arith, d, f))

-- the numbers of a cell's bar
module _ (s : Site) (i x load before scale : ℕ) (at : x ≡ cell_at s i) (its : load ≡ load_at s i)
    (earlier : before ≡ lower (net_of s) i) (whole : scale ≡ bar_scale s) where
  pub bar-ready : i < s.cells → scale ≤ 4294967295 → BarReady x load before scale
  bar-ready l few =
      let some = scale-some s in
      record {
        wide = omega (arith, at);
        some = omega (arith, whole, some);
        few = few;
        within = rw (its, earlier, whole) (scale-asks s i l);
      }

  bar-same : (free : ℕ) → free ≡ room (net_of s) → bar_by x load before free scale ≡ bar_said s i
  bar-same free e = rw (at, its, earlier, e, whole)

  pub bar-put : (out after : List ℕ) (from next free : ℕ) → free ≡ room (net_of s)
      → Put out from (bar_by x load before free scale) 4000 after next → Put out from (bar_said s i) 4000 after next
  bar-put out after from next free e p = subst (λ (text : List ℕ). Put out from text 4000 after next) (bar-same free e) p
