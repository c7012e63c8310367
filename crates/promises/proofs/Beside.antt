-- Which flows a running site admits, "on top of the loads that the site has": over what the calls answer, in the documents' numbers. A set is allowed exactly
-- where the public load test holds for the site that it makes, whose loads are the site's own and the public shares of the set's flows.
-- A record has 32 loads. Assumes nothing.
use mathlib.Core.Path.{◌≡◌, refl, sym, ap, subst, ◌∙◌}
use mathlib.Core.Bool.{true, false}
use mathlib.Core.List.{List, [], ◌∷◌}
use mathlib.Core.Logic.{⊎_elim, ◌↔◌}
use Prim.Native.Nat.{ℕ, ◌+◌, ◌^◌, ◌≤◌, ◌<◌}
use lib.ListN.{length}
use Rattle.std.specs.Prelude.{Result, Ok, Err}
use Rattle.laws.proofs.Stores.{length-list}
use Rattle.theory.specs.Net.{Net, Reserved, Valid, everyone, loaded, Class, LoadTest}
use Rattle.theory.specs.Greedy.{Plans}
use Rattle.site.specs.Held.{Held}
use Rattle.site.specs.Record.{positions, load_at, fault_of}
use Rattle.site.specs.Reach.{net_of}
use Rattle.site.specs.Given.{done_given}
use Rattle.site.specs.declared.Site.{Site}
use Rattle.site.specs.declared.Fault.{Fault}
use Rattle.site.proofs.Faults.{few-positions, fine-sized}
use Rattle.laws.proofs.Choice.{cases}
use Rattle.judges.specs.Judges.{load_answer}
use Rattle.judges.specs.Given.{load_given}
use Rattle.judges.specs.declared.LoadVerdict.TheVariants as load
use Rattle.judges.proofs.Meaning.{holds-means}
use Rattle.planner.specs.Plan.{plan_answer}
use Rattle.planner.specs.Given.{plan_given}
use Rattle.planner.proofs.Meaning.{done-means}
use Rattle.admitting.specs.Best.{worth, load_in, beside, allowed_beside}
use Rattle.admitting.proofs.Best.{beside-means, empty-beside, best-beside-is}
use Rattle.bestset.proofs.Carry.{beside-planned, beside-of-carried}
use Rattle.flowlist.specs.List.{flow_at}
use Rattle.flowlist.specs.declared.Flow.{Flow}
use Rattle.admission.specs.Admit.{flows_of}
use Rattle.admission.specs.Beside.{admitted_beside, beside_answer}
use Rattle.admission.specs.Given.{beside_given}
use Rattle.admission.specs.Laden.{beside_site, Shared, summed}
use Rattle.admission.specs.Means.{Settled}
use Rattle.admission.proofs.Given.{beside-done, beside-five}
use Rattle.admission.proofs.BesideMeans.{besides-means, over-means, fine-means, over-not}
use Rattle.admission.proofs.Laden.{beside-net, beside-fine, beside-allowed, beside-most, shares-joined}
use Rattle.demanded.specs.Numbers.{done, done_with, refused}
use Rattle.demanded.specs.Demands.{Accepted, LongEnough}
use Rattle.demanded.proofs.Numbers.{accepted-number, load-number, plan-number}

-- ---- the set that is answered

module _ (s : Site) (held : Held s) (fs : List Flow) (x : ℕ) (e : beside_given (beside_answer s fs) ≡ done_with (x ∷ [])) where
  -- where it is answered, and which it is
  went : Settled s fs × LoadTest (net_of s) (loaded (net_of s)) × (x ≡ admitted_beside s fs)
  went = (besides-means s fs x).0 (beside-done (beside_answer s fs) x e)

  settled : Settled s fs
  settled = went.0

  -- "pass the load test", the public call's, on the site that a set makes
  pub beside-is-public : (y : ℕ) → allowed_beside (net_of s) (flows_of s fs) y ≡ true ↔ load_given (load_answer (beside_site s fs y)) ≡ done
  beside-is-public y = (
    λ h. (load-number (beside_site s fs y)).1
        ((holds-means (beside_site s fs y)).1 (beside-fine s fs settled held.loads y, (beside-allowed s fs settled held.loads y).0 h)),
    λ h. (beside-allowed s fs settled held.loads y).1 ((holds-means (beside_site s fs y)).0 ((load-number (beside_site s fs y)).0 h)).1,
  )

  -- "Prove that no allowed set is worth more.", with the loads in
  pub beside-no-better : (y : ℕ) → y < 2 ^ length fs → allowed_beside (net_of s) (flows_of s fs) y ≡ true → worth (flows_of s fs) y ≤ worth (flows_of s fs) x
  beside-no-better y l h =
      rw went.2 ((best-beside-is (net_of s) (flows_of s fs) went.1).most y l ((beside-means (net_of s) (flows_of s fs) y).0 h))

  -- "among equals, the set with the smallest number"
  pub beside-no-smaller : (y : ℕ) → y < 2 ^ length fs → allowed_beside (net_of s) (flows_of s fs) y ≡ true
      → worth (flows_of s fs) y ≡ worth (flows_of s fs) x → x ≤ y
  beside-no-smaller y l h same =
      rw went.2 ((best-beside-is (net_of s) (flows_of s fs) went.1).least y l ((beside-means (net_of s) (flows_of s fs) y).0 h)
      (same ∙ ap (worth (flows_of s fs)) went.2))

  -- the answer is a set of the flows, and allowed
  pub beside-admitted : (x < 2 ^ length fs) × (allowed_beside (net_of s) (flows_of s fs) x ≡ true)
  beside-admitted =
      let b = best-beside-is (net_of s) (flows_of s fs) went.1 in
      (rw went.2 b.inside, rw went.2 ((beside-means (net_of s) (flows_of s fs) (admitted_beside s fs)).1 b.passed))

  -- every allowed set makes a record that there is: 32 loads, none above N
  pub beside-fits : (y : ℕ) → allowed_beside (net_of s) (flows_of s fs) y ≡ true
      → (length (beside_site s fs y).loads ≡ 32) × ((i : ℕ) → load_at (beside_site s fs y) i ≤ positions s) × (positions s ≤ 2048)
  beside-fits y h = (
    length-list (λ i. load_in (flows_of s fs) y i + load_at s i) 32,
    beside-most s fs settled held.loads y h,
    few-positions (fine-sized s settled.looked.fine),
  )

  -- the loads of that site are the site's own and the public shares of the set's flows, summed by cell
  pub beside-loads : (share : ℕ → ℕ) → ((k : ℕ) → k < length fs → Shared s (flow_at fs k) (share k))
      → (y i : ℕ) → load_at (beside_site s fs y) i ≡ summed fs share y (i + 1) + load_at s i
  beside-loads share h y = shares-joined s fs settled held.loads y share h

  -- the site with the admitted shares on top of its loads is accepted, its load test holds, and it is planned
  pub beside-plans : (t : List ℕ) → LongEnough (beside_site s fs x) t
      → (Accepted (beside_site s fs x)) × (load_given (load_answer (beside_site s fs x)) ≡ done) × (plan_given (plan_answer (beside_site s fs x) t) ≡ done)
  beside-plans t long =
      let fine = beside-fine s fs settled held.loads x in
      let plans : Plans (net_of (beside_site s fs x))
      = subst Plans (ap (beside (net_of s) (flows_of s fs)) (sym went.2) ∙ sym (beside-net s fs settled held.loads x))
      (beside-planned (net_of s) (flows_of s fs) went.1) in (
        (accepted-number (beside_site s fs x)).1 fine,
        (beside-is-public x).0 beside-admitted.1,
        (plan-number (beside_site s fs x) t).1 ((done-means (beside_site s fs x) t).1 (fine, long, plans)),
      )

  -- no set that any valid table carries on top of the loads is worth more
  pub beside-no-carried : (y : ℕ) → y < 2 ^ length fs → (res : Reserved) → Valid (net_of (beside_site s fs y)) res
      → worth (flows_of s fs) y ≤ worth (flows_of s fs) x
  beside-no-carried y l res v =
      rw went.2
      (beside-of-carried (net_of s) (flows_of s fs) went.1 settled.looked.class y l res
      (subst (λ (n : Net). Valid n res) (beside-net s fs settled held.loads y) v))

-- ---- the refusals

module _ (s : Site) (fs : List Flow) where
  -- 5 exactly where the flows are looked at, and the public load test of the site names this cell and this excess
  pub five-beside : (cell excess : ℕ) → beside_given (beside_answer s fs) ≡ refused 5 (cell ∷ excess ∷ [])
      ↔ ((length fs ≤ 16) × Class (net_of s) everyone × (load_answer s ≡ Ok (load.Over cell excess)))
  five-beside cell excess = (
    λ e. (over-means s fs cell excess).0 (beside-five (beside_answer s fs) cell excess e),
    λ h. ap beside_given ((over-means s fs cell excess).1 h),
  )

  -- then no set is allowed, not even the empty one
  pub five-none : (cell excess : ℕ) → load_answer s ≡ Ok (load.Over cell excess) → allowed_beside (net_of s) (flows_of s fs) 0 ≡ false
  five-none cell excess o = ⊎_elim (λ h. absurd (over-not s cell excess o ((empty-beside (net_of s) (flows_of s fs)).0 h))) (λ h. h)
      (cases (allowed_beside (net_of s) (flows_of s fs) 0))

  -- a set is answered exactly where nothing is refused and the loads pass
  pub beside-answer : (x : ℕ) → beside_given (beside_answer s fs) ≡ done_with (x ∷ [])
      ↔ (Settled s fs × LoadTest (net_of s) (loaded (net_of s)) × (x ≡ admitted_beside s fs))
  beside-answer x = (λ e. (besides-means s fs x).0 (beside-done (beside_answer s fs) x e), λ h. ap beside_given ((besides-means s fs x).1 h))

  -- the record's fault is passed on
  pub beside-fault : (Accepted s → ⊥) → beside_given (beside_answer s fs) ≡ done_given (fault_of s)
  beside-fault n = at (fault_of s) refl
    where
      at : (f : Result Unit Fault) → fault_of s ≡ f → beside_given (beside_answer s fs) ≡ done_given f
      at (Ok u) e = absurd (n ((accepted-number s).1 e))
      at (Err f) e = ap beside_given (fine-means s fs f e)
