-- What the answer means for plans, on top of loads that pass the load test: the admitted set is planned by the greedy planner, whatever the clashes;
-- and in the class no set that any valid table carries is worth more. And the same with the loads set aside.
-- Assumes nothing.
use Prim.Native.Nat.{ℕ, ◌^◌, ◌≤◌, ◌<◌}
use Rattle.theory.specs.Net.{Net, Reserved, Valid, everyone, loaded, Class, LoadTest}
use Rattle.theory.specs.Greedy.{Plans}
use Rattle.theory.proofs.Exact.{covers-everyone, covers-loaded, test-plans, class-exists}
use Rattle.admitting.specs.Best.{Flows, worth, beside, idle, laden, best_beside, best}
use Rattle.admitting.proofs.Best.{beside-means, idle-passes, best-beside-is}
use Rattle.bestset.proofs.Demand.{allowed-everyone}

module _ (s : Net) (f : Flows) (passed : LoadTest s (loaded s)) where
  pub beside-planned : Plans (beside s f (best_beside s f))
  beside-planned =
      let net = beside s f (best_beside s f) in
      test-plans net (loaded net) (covers-loaded net) (best-beside-is s f passed).passed

  pub beside-of-carried : Class s everyone → (y : ℕ) → y < 2 ^ f.count → (res : Reserved) → Valid (beside s f y) res
      → worth f y ≤ worth f (best_beside s f)
  beside-of-carried class y l res v =
      let net = beside s f y in
      let test = (class-exists net everyone (covers-everyone net) class).1 (res, v) in
      (best-beside-is s f passed).most y l ((beside-means s f y).0 ((allowed-everyone s f class y).1 test))

pub best-planned : (s : Net) (f : Flows) → Plans (laden s f (best s f))
best-planned s f = beside-planned (idle s) f (idle-passes s)

pub best-of-carried : (s : Net) (f : Flows) → Class s everyone → (y : ℕ) → y < 2 ^ f.count → (res : Reserved) → Valid (laden s f y) res
    → worth f y ≤ worth f (best s f)
best-of-carried s f = beside-of-carried (idle s) f (idle-passes s)
