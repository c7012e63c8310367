-- What the desk may sell: the least number of open channel-slots that do, over what the calls say, in the document's numbers.
-- The greatest demand depends on cells, loads, reach and rule alone, so that it is that of every site with the same; and the load test, exact on nested
-- sites, holds where so many channel-slots are open. Assumes nothing.
use mathlib.Core.Path.{◌≡◌, refl, ◌∙◌}
use mathlib.Core.List.{List, [], ◌∷◌}
use mathlib.Core.Logic.{◌↔◌}
use Prim.Native.Nat.{ℕ, ◌*◌, ◌≤◌, ◌<◌}
use native.Mathlib.Omega.{arith}
use native.Mathlib.Nat.{le_refl, mul_comm}
use lib.ListN.{replicate, length-replicate}
use Rattle.theory.specs.Net.{Class}
use Rattle.theory.specs.Verdict.{most_demand}
use Rattle.theory.proofs.LoadLaws.{most-demand-test}
use Rattle.site.specs.Record.{positions, size}
use Rattle.site.specs.Reach.{net_of}
use Rattle.site.specs.declared.Site.{Site}
use Rattle.site.proofs.Accepted.{net-open}
use Rattle.site.proofs.Faults.{fine-sized}
use Rattle.planner.specs.Plan.{plan_answer}
use Rattle.planner.specs.Given.{plan_given}
use Rattle.judges.specs.Judges.{counted, load_answer, class_answer, least_answer}
use Rattle.judges.specs.Given.{load_given, class_given, least_given}
use Rattle.judges.proofs.Meaning.{least-means, enough-means}
use Rattle.why.specs.Said.{fewest}
use Rattle.site.specs.Alike.{Alike}
use Rattle.why.proofs.Numbers.{same-demand}
use Rattle.why.proofs.Sizes.{fewest-exact}
use Rattle.checker.specs.Check.{check_answer}
use Rattle.checker.specs.Given.{check_given}
use Rattle.demanded.specs.Numbers.{done, done_with}
use Rattle.demanded.specs.Demands.{Accepted, LongEnough, open_positions, Easier}
use Rattle.demanded.proofs.Numbers.{accepted-number, least-number, enough-number}
use Rattle.demanded.proofs.Demand2.{load-is-C1, judge-is-nested}
use Rattle.demanded.proofs.Demand3.{demand-three-calls, nested-exact, holds-plans}

-- ---- sites with the same cells, loads, reach and rule

module _ (other site : Site) (alike : Alike other site) where
  same_class : Class (net_of site) (counted site) → Class (net_of other) (counted other)
  same_class h = rw (alike.same_cells, alike.same_loads, alike.same_reach, alike.same_rule) h

  -- the load test of the other holds exactly where it has as many open channel-slots as the greatest demand
  room-test : (n : ℕ) → most_demand (net_of site) (counted site) ≡ n → Accepted other → n ≤ open_positions other ↔ load_given (load_answer other) ≡ done
  room-test n e ok =
      let t = most-demand-test (net_of other) (counted other) in
      let is : most_demand (net_of other) (counted other) ≡ n = same-demand site other alike ∙ e in
      let room = net-open other in (
        λ h. (load-is-C1 other).1 (ok, t.0 (omega arith)),
        λ h. omega (arith, t.1 ((load-is-C1 other).0 h).1),
      )

-- ---- a nested site

-- the least number is answered exactly on a nested site
pub least-where : (s : Site) → class_given (class_answer s) ≡ done ↔ ((n : ℕ) × (least_given (least_answer s) ≡ done_with (n ∷ 0 ∷ [])))
least-where s = (
  λ e.
      let c = (judge-is-nested s).0 e in
      let n = most_demand (net_of s) (counted s) in
      (n, (least-number s n).1 ((least-means s n).1 ((accepted-number s).0 c.0, c.1, refl))),
  λ w.
      let m = (least-means s w.0).0 ((least-number s w.0).0 w.1) in
      (judge-is-nested s).1 ((accepted-number s).1 m.0, m.1),
)

module _ (site : Site) (n : ℕ) (e : least_given (least_answer site) ≡ done_with (n ∷ 0 ∷ [])) (other : Site) (ok : Accepted other)
    (alike : Alike other site) where
  nested-too : class_given (class_answer other) ≡ done
  nested-too = (judge-is-nested other).1 (ok, same_class other site alike ((least-means site n).0 ((least-number site n).0 e)).1)

  -- on a nested site: a site with the same cells, loads, reach and rule is planned exactly when its open channel-slots are at least that many
  pub least-exact : (lent : List ℕ) → LongEnough other lent → plan_given (plan_answer other lent) ≡ done ↔ n ≤ open_positions other
  least-exact lent long =
      let m = (least-means site n).0 ((least-number site n).0 e) in
      let t = room-test other site alike n m.2 ok in
      let x = nested-exact other nested-too lent long in
      (λ h. t.1 (x.1 h), λ h. x.0 (t.0 h))

  -- and so, where nothing is blocked, the least slots: with its channels, the slots that it takes
  pub least-slots : open_positions other ≡ positions other → (lent : List ℕ) → LongEnough other lent
      → plan_given (plan_answer other lent) ≡ done ↔ fewest n other.channels ≤ other.slots
  least-slots all lent long =
      let z = fine-sized other ((accepted-number other).0 ok) in
      let f = fewest-exact n other.channels other.slots z.channels_some z.slots_some in
      let x = least-exact lent long in
      (λ h. f.0 (omega (arith, all, x.0 h)), λ h. x.1 (omega (arith, all, f.1 h)))

  -- and the least channels: with its slots, the channels that it takes
  pub least-channels : open_positions other ≡ positions other → (lent : List ℕ) → LongEnough other lent
      → plan_given (plan_answer other lent) ≡ done ↔ fewest n other.slots ≤ other.channels
  least-channels all lent long =
      let z = fine-sized other ((accepted-number other).0 ok) in
      let f = fewest-exact n other.slots other.channels z.slots_some z.channels_some in
      let x = least-exact lent long in
      let turned : positions other ≡ other.channels * other.slots = mul_comm other.slots other.channels in
      (λ h. f.0 (omega (arith, all, turned, x.0 h)), λ h. x.1 (omega (arith, all, turned, f.1 h)))

  -- with fewer no plan exists: no table at all is valid
  pub least-full : open_positions other < n → (any : List ℕ) → check_given (check_answer other any) ≡ done → ⊥
  least-full few any v =
      let same : Easier other other = record {
        same_cells = refl;
        as_many_channel_slots = le_refl _;
        no_greater_load = λ i _. le_refl _;
        no_new_clash = λ a c _ _ q. q;
      } in
      let lent : List ℕ = replicate (size other) 0 in
      let long : LongEnough other lent = omega (arith, length-replicate {A = ℕ} (size other) 0) in
      omega (arith, (least-exact lent long).0 (demand-three-calls other other same nested-too any v lent long))

-- ---- a site that is not nested

-- so many are enough; on a nested site `least-exact` says more
pub enough-plans : (site : Site) (n : ℕ) → least_given (least_answer site) ≡ done_with (n ∷ 1 ∷ []) → (other : Site) → Accepted other → Alike other site
    → n ≤ open_positions other
    → (lent : List ℕ) → LongEnough other lent → plan_given (plan_answer other lent) ≡ done
enough-plans site n e other ok alike h lent long =
    let m = (enough-means site n).0 ((enough-number site n).0 e) in
    holds-plans other ((room-test other site alike n m.2 ok).0 h) lent long
