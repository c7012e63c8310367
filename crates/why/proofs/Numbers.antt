-- What the two numbers of `put_why` are worth, on every accepted site with the same cells, loads and reach.
--     at_least     with fewer open channel-slots than the heaviest clash needs no plan exists: a valid table has room for it
--     same-demand  the greatest demand is the same on all of them
--     demand-does  as many as the greatest demand will do: the load test holds
--     own-does     what the site itself is planned with will do, and so will more, wherever they are: proofs/Open.antt
--     fewer-slots, slots-do, fewer-channels, channels-do   the same of slots and of channels
-- Assumes nothing.
use mathlib.Core.Path.{◌≡◌, refl}
use mathlib.Core.Logic.{⊎_elim}
use Prim.Native.Nat.{ℕ, ◌*◌, ◌≤◌, ◌<◌}
use native.Mathlib.Omega.{arith}
use native.Mathlib.Nat.{mul_comm}
use lib.Dec.{ltb}
use borrow.Author.Tests.{ltb-true, ltb-false}
use Rattle.laws.specs.Bits.{bit_at}
use Rattle.laws.proofs.Choice.{cases}
use Rattle.theory.specs.Full.{Mutual, weight}
use Rattle.theory.specs.Greedy.{Plans}
use Rattle.theory.specs.Verdict.{most_demand}
use Rattle.theory.proofs.Full.{mutual-fits}
use Rattle.theory.proofs.LoadLaws.{most-demand-test}
use Rattle.theory.proofs.Exact.{test-plans}
use Rattle.site.specs.Record.{positions, fault_of}
use Rattle.site.specs.Reach.{net_of}
use Rattle.site.specs.declared.Site.{Site}
use Rattle.std.specs.Prelude.{Ok}
use Rattle.site.proofs.Accepted.{net-open}
use Rattle.site.proofs.Faults.{fine-sized}
use Rattle.planner.proofs.Meaning.{done-means, done-valid}
use Rattle.judges.specs.Judges.{counted}
use Rattle.judges.proofs.Meaning.{covers-counted}
use Rattle.heaviest.proofs.Mutual.{heaviest-is}
use Rattle.positions.proofs.Counts.{count-open}
use Rattle.why.specs.Said.{open_of, fewest}
use Rattle.site.specs.Alike.{Alike}
use Rattle.why.specs.Means.{Planned, AtLeast, WillDo, AtLeastSlots, AtLeastChannels, SlotsDo, ChannelsDo, set}
use Rattle.why.proofs.Open.{plans-roomier}
use Rattle.why.proofs.Sizes.{fewest-exact}

-- every site is like itself
pub itself : (s : Site) → Alike s s
itself s = record { same_cells = refl; same_loads = refl; same_reach = refl; same_rule = refl }

-- where the greedy run plans the planner is done, and its table is valid
pub run-planned : (s : Site) → fault_of s ≡ Ok tt → Plans (net_of s) → Planned s
run-planned s fine p table long = let e = (done-means s table).1 (fine, long, p) in (e, done-valid s table e)

pub at_least : (s : Site) → AtLeast s (weight (net_of s) (bit_at (set s)))
at_least s o alike fine few res v =
    let close : Mutual (net_of o) (bit_at (set s)) = rw (alike.same_cells, alike.same_reach, alike.same_rule) (heaviest-is (net_of s)).close in
    let same : weight (net_of o) (bit_at (set s)) ≡ weight (net_of s) (bit_at (set s)) = rw (alike.same_cells, alike.same_loads) in
    omega (arith, mutual-fits (net_of o) res v (bit_at (set s)) close, net-open o, same)

pub same-demand : (s o : Site) → Alike o s → most_demand (net_of o) (counted o) ≡ most_demand (net_of s) (counted s)
unfolding most_demand
same-demand s o alike = rw (alike.same_cells, alike.same_loads, alike.same_reach, alike.same_rule)

pub demand-does : (s : Site) → WillDo s (most_demand (net_of s) (counted s))
demand-does s o alike fine h =
    run-planned o fine
    (test-plans (net_of o) (counted o) (covers-counted o)
    ((most-demand-test (net_of o) (counted o)).0 (omega (arith, net-open o, same-demand s o alike))))

pub own-does : (s : Site) → Plans (net_of s) → WillDo s (open_of s)
own-does s p o alike fine h =
    run-planned o fine (plans-roomier (net_of s) (net_of o) alike.same_cells (rw alike.same_loads) (rw (alike.same_reach, alike.same_rule)) h p)

-- no more positions are open than there are
pub open-most : (s : Site) → open_of s ≤ positions s
open-most s = omega (arith, count-open s.blocked (positions s))

-- ---- slots of so many channels, and channels of so many slots

module _ (o : Site) (fine : fault_of o ≡ Ok tt) (n f : ℕ) where
  pub slots-exact : o.channels ≡ f → (n ≤ positions o → fewest n f ≤ o.slots) × (fewest n f ≤ o.slots → n ≤ positions o)
  slots-exact e =
      let z = fine-sized o fine in
      let x = fewest-exact n o.channels o.slots z.channels_some z.slots_some in
      (λ h. rw e at (x.0 h), λ h. x.1 (rw e h))

  pub channels-exact : o.slots ≡ f → (n ≤ positions o → fewest n f ≤ o.channels) × (fewest n f ≤ o.channels → n ≤ positions o)
  channels-exact e =
      let z = fine-sized o fine in
      let x = fewest-exact n o.slots o.channels z.slots_some z.channels_some in
      let turned : positions o ≡ o.channels * o.slots = mul_comm o.slots o.channels in
      (λ h. rw e at (x.0 (rw turned at h)), λ h. rw turned (x.1 (rw e h)))

-- what is not so many is fewer
fewer : (n m a b : ℕ) → (n ≤ m → a ≤ b) → b < a → m < n
fewer n m a b h l = ⊎_elim (ltb-true m n) (λ e. let k = h (ltb-false m n e) in absurd (omega arith)) (cases (ltb m n))

module _ (s : Site) (n : ℕ) where
  pub fewer-slots : AtLeast s n → AtLeastSlots s (fewest n s.channels)
  fewer-slots h o alike fine e l =
      h o alike fine (omega (arith, open-most o, fewer n (positions o) _ _ (slots-exact o fine n s.channels e).0 l))

  pub fewer-channels : AtLeast s n → AtLeastChannels s (fewest n s.slots)
  fewer-channels h o alike fine e l =
      h o alike fine (omega (arith, open-most o, fewer n (positions o) _ _ (channels-exact o fine n s.slots e).0 l))

  module _ (fine : fault_of s ≡ Ok tt) (own : Planned s → n ≤ open_of s) where
    pub slots-do : WillDo s n → SlotsDo s (fewest n s.channels)
    slots-do h = record {
      plans = λ o alike ok free e l. h o alike ok (omega (arith, free, (slots-exact o ok n s.channels e).1 l));
      own = λ p. (slots-exact s fine n s.channels refl).0 (omega (arith, open-most s, own p));
    }

    pub channels-do : WillDo s n → ChannelsDo s (fewest n s.slots)
    channels-do h = record {
      plans = λ o alike ok free e l. h o alike ok (omega (arith, free, (channels-exact o ok n s.slots e).1 l));
      own = λ p. (channels-exact s fine n s.slots refl).0 (omega (arith, open-most s, own p));
    }
