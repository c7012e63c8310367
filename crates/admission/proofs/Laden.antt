-- The site that a set of flows makes is accepted, and states the problem that the definition tests:
-- no flow is in a cell beyond I, so that no load stands there.
-- Assumes nothing.
use Prim.Native.Nat.{ℕ, ◌+◌, ◌-◌, ◌≤◌, ◌<◌}
use mathlib.Core.Bool.{Bool, true, false, ◌&&◌}
use mathlib.Core.List.{List}
use mathlib.Core.Logic.{⊎_elim, ◌↔◌}
use mathlib.Core.Path.{◌≡◌, refl, sym, ap, subst, ◌∙◌, fun_ext}
use native.Mathlib.Omega.{arith}
use borrow.Author.Tests.{ltb-true, ltb-false, eq-eqb, ne_eqb, eqb-true}
use lib.Dec.{ltb, eqb}
use lib.ListN.{length, get_or-eq_default}
use Rattle.laws.specs.Bits.{bit_at}
use Rattle.laws.specs.Choice.{pick}
use Rattle.laws.specs.Part.{list_of}
use Rattle.laws.proofs.Choice.{cases, alike}
use Rattle.laws.proofs.Stores.{list_at, length-list}
use Rattle.laws.proofs.Sums.{sum-eq, count_most}
use Rattle.theory.specs.Net.{Net, loaded, LoadTest}
use Rattle.site.specs.Record.{site_of, positions, load_at, fault_of}
use Rattle.site.specs.Reach.{clash_of, is_open, net_of}
use Rattle.site.specs.declared.Site.{Site}
use Rattle.std.specs.Prelude.{Ok}
use Rattle.site.proofs.Accepted.{fine-sound, sound-fine, fine-loads}
use Rattle.site.proofs.Faults.{fine-sized}
use Rattle.admitting.specs.Best.{load_in, beside, laden, allowed_beside, allowed}
use Rattle.admitting.proofs.Best.{beside-means, allowed-means}
use Rattle.admitting.proofs.Sets.{total-eq, total-zero}
use Rattle.flowlist.specs.List.{flow_at}
use Rattle.flowlist.specs.declared.Flow.{Flow}
use Rattle.admission.specs.Admit.{amount, flow_share, flows_of}
use Rattle.admission.specs.Laden.{laden_site, beside_site, Shared, summed}
use Rattle.admission.specs.Means.{Settled}
use Rattle.admission.proofs.OneFlow.{shared-amount}

-- ---- a site with other loads, of which none stands beyond I
module _ (s : Site) (fine : fault_of s ≡ Ok tt) (load : ℕ → ℕ) (none : (i : ℕ) → s.cells ≤ i → load i ≡ 0) where
  abbrev made : Site
  made = site_of s.cells s.slots s.channels (list_of load 32) s.reach s.blocked s.rule

  abbrev under : Net
  under = record { cells = s.cells; width = positions s; load = load; clash = clash_of s; usable = is_open s.blocked }

  made-load : (i : ℕ) → load_at made i ≡ load i
  made-load i =
      ⊎_elim (λ h. list_at load 32 i (ltb-true i 32 h))
      (λ h.
      let past : 32 ≤ i = ltb-false i 32 h in
      get_or-eq_default (list_of load 32) 0 {n = i} (omega (arith, length-list load 32))
      ∙ sym (none i (omega (arith, (fine-sized s fine).cells_most))))
      (cases (ltb i 32))

  made-net : net_of made ≡ under
  made-net =
      ap (λ (l : ℕ → ℕ). record { cells = s.cells; width = positions s; load = l; clash = clash_of s; usable = is_open s.blocked }) (fun_ext made-load)

  made-fine : fault_of made ≡ Ok tt
  made-fine =
      let sound = fine-sound s fine in
      sound-fine made (record {
        sizes = sound.sizes;
        loads = λ k l h. made-load k ∙ none k l;
        rows = sound.rows;
        rule-ok = sound.rule-ok;
        none_past = sound.none_past;
      })

  -- where the load test holds no load is above N: a cell with a load counts in the load test
  made-most : LoadTest under (loaded under) → (i : ℕ) → load_at made i ≤ positions s
  made-most test i =
      ⊎_elim
      (λ c.
      let inside : i < s.cells = ltb-true i s.cells c in
      ⊎_elim (λ e. omega (arith, made-load i, count_most (is_open s.blocked) (positions s), test i inside e))
      (λ e. omega (arith, made-load i, ltb-false 0 (load i) e))
      (cases (ltb 0 (load i))))
      (λ c. omega (arith, made-load i, none i (ltb-false i s.cells c)))
      (cases (ltb i s.cells))

-- ---- the site that a set of flows makes, with the loads set aside and on top of them

module _ (s : Site) (fs : List Flow) (settled : Settled s fs) (x : ℕ) where
  -- no flow is in a cell beyond I
  no_load : (i : ℕ) → s.cells ≤ i → load_in (flows_of s fs) x i ≡ 0
  no_load i h =
      total-eq (λ k. pick (eqb ((flow_at fs k).cell - 1) i) (amount (flow_share s (flow_at fs k))) 0) (λ _. 0) (length fs) x
      (λ k l.
      let named = (settled.good k l).cell in
      let apart : eqb ((flow_at fs k).cell - 1) i ≡ false = ne_eqb ((flow_at fs k).cell - 1) i (λ e. omega (arith, named)) in
      ap (λ b. pick b (amount (flow_share s (flow_at fs k))) 0) apart)
      ∙ total-zero (length fs) x

  abbrev fine : fault_of s ≡ Ok tt
  fine = settled.looked.fine

  -- each load is the shares in its cell
  pub laden-load : (i : ℕ) → load_at (laden_site s fs x) i ≡ load_in (flows_of s fs) x i
  laden-load = made-load s fine (load_in (flows_of s fs) x) no_load

  pub laden-net : net_of (laden_site s fs x) ≡ laden (net_of s) (flows_of s fs) x
  laden-net =
      ap (λ (load : ℕ → ℕ). record { cells = s.cells; width = positions s; load = load; clash = clash_of s; usable = is_open s.blocked })
      (fun_ext (λ i. let same = laden-load i in omega (arith, same)))

  pub laden-fine : fault_of (laden_site s fs x) ≡ Ok tt
  laden-fine = made-fine s fine (load_in (flows_of s fs) x) no_load

  -- a set is allowed exactly where the load test holds for the site that it makes
  pub laden-allowed : allowed (net_of s) (flows_of s fs) x ≡ true ↔ LoadTest (net_of (laden_site s fs x)) (loaded (net_of (laden_site s fs x)))
  laden-allowed = (
    λ e. subst (λ (n : Net). LoadTest n (loaded n)) (sym laden-net) ((allowed-means (net_of s) (flows_of s fs) x).0 e),
    λ h. (allowed-means (net_of s) (flows_of s fs) x).1 (subst (λ (n : Net). LoadTest n (loaded n)) laden-net h),
  )

  -- what an allowed set puts on a cell is at most N
  pub allowed-most : allowed (net_of s) (flows_of s fs) x ≡ true → (i : ℕ) → load_at (laden_site s fs x) i ≤ positions s
  allowed-most h =
      made-most s fine (load_in (flows_of s fs) x) no_load
      (subst (λ (n : Net). LoadTest n (loaded n)) (made-net s fine (load_in (flows_of s fs) x) no_load) (laden-allowed.0 h))

  -- W4: "Everything that takes a share follows": each load is the sum of the public shares of the set's flows in its cell, numbered from 1
  pub laden-shares : (share : ℕ → ℕ) → ((k : ℕ) → k < length fs → Shared s (flow_at fs k) (share k))
      → (i : ℕ) → load_at (laden_site s fs x) i ≡ summed fs share x (i + 1)
  laden-shares share h i =
      laden-load i
      ∙ sum-eq (λ k. pick (bit_at x k) (pick (eqb ((flow_at fs k).cell - 1) i) (amount (flow_share s (flow_at fs k))) 0) 0)
      (λ k. pick (bit_at x k && eqb (flow_at fs k).cell (i + 1)) (share k) 0) (length fs)
      (λ k l.
      let f = flow_at fs k in
      let some = (settled.good k l).cell.0 in
      let same : eqb (f.cell - 1) i ≡ eqb f.cell (i + 1)
      = alike _ _ (λ e. eq-eqb f.cell (i + 1) (omega (arith, eqb-true (f.cell - 1) i e)))
      (λ e. eq-eqb (f.cell - 1) i (omega (arith, eqb-true f.cell (i + 1) e))) in
      rw (shared-amount s f (share k) (h k l), same) (nested (bit_at x k) (eqb f.cell (i + 1)) (share k)))
    where
      nested : (a b : Bool) (v : ℕ) → pick a (pick b v 0) 0 ≡ pick (a && b) v 0
      nested true b v = refl
      nested false b v = refl

-- ---- the same on top of the loads. A record has 32 of them, and an accepted one none beyond I
module _ (s : Site) (fs : List Flow) (settled : Settled s fs) (long : length s.loads ≡ 32) (x : ℕ) where
  abbrev accepted : fault_of s ≡ Ok tt
  accepted = settled.looked.fine

  spare-load : (i : ℕ) → s.cells ≤ i → load_at s i ≡ 0
  spare-load i h =
      ⊎_elim (λ l. fine-loads s accepted i h (ltb-true i 32 l))
      (λ l. let past : 32 ≤ i = ltb-false i 32 l in get_or-eq_default s.loads 0 {n = i} (omega arith)) (cases (ltb i 32))

  abbrev joined : ℕ → ℕ
  joined i = load_in (flows_of s fs) x i + load_at s i

  none-joined : (i : ℕ) → s.cells ≤ i → joined i ≡ 0
  none-joined i h = omega (arith, no_load s fs settled x i h, spare-load i h)

  pub beside-load : (i : ℕ) → load_at (beside_site s fs x) i ≡ load_in (flows_of s fs) x i + load_at s i
  beside-load = made-load s accepted joined none-joined

  pub beside-net : net_of (beside_site s fs x) ≡ beside (net_of s) (flows_of s fs) x
  beside-net = made-net s accepted joined none-joined

  pub beside-fine : fault_of (beside_site s fs x) ≡ Ok tt
  beside-fine = made-fine s accepted joined none-joined

  pub beside-allowed : allowed_beside (net_of s) (flows_of s fs) x ≡ true ↔ LoadTest (net_of (beside_site s fs x)) (loaded (net_of (beside_site s fs x)))
  beside-allowed = (
    λ e. subst (λ (n : Net). LoadTest n (loaded n)) (sym beside-net) ((beside-means (net_of s) (flows_of s fs) x).0 e),
    λ h. (beside-means (net_of s) (flows_of s fs) x).1 (subst (λ (n : Net). LoadTest n (loaded n)) beside-net h),
  )

  pub beside-most : allowed_beside (net_of s) (flows_of s fs) x ≡ true → (i : ℕ) → load_at (beside_site s fs x) i ≤ positions s
  beside-most h = made-most s accepted joined none-joined ((beside-means (net_of s) (flows_of s fs) x).0 h)

  -- each load is the public shares of the set's flows in its cell and the site's own
  pub shares-joined : (share : ℕ → ℕ) → ((k : ℕ) → k < length fs → Shared s (flow_at fs k) (share k))
      → (i : ℕ) → load_at (beside_site s fs x) i ≡ summed fs share x (i + 1) + load_at s i
  shares-joined share h i = omega (arith, beside-load i, laden-load s fs settled x i, laden-shares s fs settled x share h i)
