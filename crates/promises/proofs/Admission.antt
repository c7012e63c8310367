-- Document 02, W5, which flows to admit: over what the calls answer, in the documents' numbers. A set is allowed exactly where the public load test holds for
-- the site that it makes, whose loads are the public shares of its flows. The laws are those of crates `bestset` and `admission`.
-- Assumes nothing.
use mathlib.Core.Path.{◌≡◌, refl, sym, ap, subst, ◌∙◌}
use mathlib.Core.Bool.{true, false, true≢false}
use mathlib.Core.List.{List, [], ◌∷◌}
use mathlib.Core.Logic.{◌↔◌}
use Prim.Native.Nat.{ℕ, ◌+◌, ◌^◌, ◌≤◌, ◌<◌}
use native.Mathlib.Omega.{arith}
use lib.ListN.{length}
use Rattle.std.specs.Prelude.{Result, Ok, Err}
use Rattle.laws.proofs.Stores.{length-list}
use Rattle.theory.specs.Net.{Net, Reserved, Valid, everyone, Chained, Class}
use Rattle.theory.specs.Verdict.{chain_verdict}
use Rattle.theory.specs.Greedy.{Plans}
use Rattle.site.specs.Record.{positions, load_at, is_fine, fault_of}
use Rattle.site.specs.Reach.{net_of}
use Rattle.site.specs.Given.{Given, done_given}
use Rattle.site.specs.declared.Site.{Site}
use Rattle.site.specs.declared.Fault.{Fault}
use Rattle.site.specs.declared.Fault.TheVariants.{Size, Rule, Load, Reach, Blocked}
use Rattle.site.proofs.Faults.{few-positions, fine-sized}
use Rattle.judges.specs.Judges.{load_answer}
use Rattle.judges.specs.Given.{load_given}
use Rattle.judges.proofs.Meaning.{holds-means}
use Rattle.planner.specs.Plan.{plan_answer}
use Rattle.planner.specs.Given.{plan_given}
use Rattle.planner.proofs.Meaning.{done-means}
use Rattle.admitting.specs.Best.{worth, load_in, idle, laden, allowed}
use Rattle.admitting.proofs.Best.{allowed-means, empty-allowed, best_is}
use Rattle.bestset.proofs.Carry.{best-planned, best-of-carried}
use Rattle.flowlist.specs.List.{flow_at}
use Rattle.flowlist.specs.declared.Flow.{Flow}
use Rattle.admission.specs.Admit.{is_chained, answer_where, flows_of, admitted, admit_answer}
use Rattle.admission.specs.Given.{admit_given, of_record}
use Rattle.admission.specs.Laden.{laden_site, Shared, summed}
use Rattle.admission.specs.Means.{two, fifteen, sixteen, Settled, Stops}
use Rattle.admission.specs.declared.AdmitError.{AdmitError}
use Rattle.admission.specs.declared.AdmitError.TheVariants.{TooMany, NotNested, BadCell, BadFlow, BigShare, Record}
use Rattle.admission.proofs.Given.{admit-apart, done-set}
use Rattle.admission.proofs.Meaning.{set-means, many-means, outside-means, flow-means, fault-means}
use Rattle.admission.proofs.Suits.{chained-unchanged}
use Rattle.admission.proofs.OneFlow.{sends-shared}
use Rattle.admission.proofs.Laden.{laden-net, laden-fine, laden-allowed, allowed-most, laden-shares}
use Rattle.demanded.specs.Numbers.{done, done_with, refused}
use Rattle.demanded.specs.Demands.{Accepted, LongEnough}
use Rattle.demanded.proofs.Numbers.{accepted-number, load-number, plan-number}

-- ---- the set that is answered

module _ (s : Site) (fs : List Flow) (x : ℕ) (e : admit_given (admit_answer s fs) ≡ done_with (x ∷ [])) where
  -- where it is answered, and which it is
  went : Settled s fs × (x ≡ admitted s fs)
  went = (set-means (idle (net_of s)) s fs x).0 (done-set (admit_answer s fs) x e)

  settled : Settled s fs
  settled = went.0

  -- "pass the load test", the public call's, on the site that a set makes
  pub allowed-is-public : (y : ℕ) → allowed (net_of s) (flows_of s fs) y ≡ true ↔ load_given (load_answer (laden_site s fs y)) ≡ done
  allowed-is-public y = (
    λ h. (load-number (laden_site s fs y)).1 ((holds-means (laden_site s fs y)).1 (laden-fine s fs settled y, (laden-allowed s fs settled y).0 h)),
    λ h. (laden-allowed s fs settled y).1 ((holds-means (laden_site s fs y)).0 ((load-number (laden_site s fs y)).0 h)).1,
  )

  -- "Prove that no allowed set is worth more."
  pub no-better : (y : ℕ) → y < 2 ^ length fs → allowed (net_of s) (flows_of s fs) y ≡ true → worth (flows_of s fs) y ≤ worth (flows_of s fs) x
  no-better y l h = rw went.1 ((best_is (net_of s) (flows_of s fs)).most y l ((allowed-means (net_of s) (flows_of s fs) y).0 h))

  -- "among equals, the set with the smallest number"
  pub no-smaller : (y : ℕ) → y < 2 ^ length fs → allowed (net_of s) (flows_of s fs) y ≡ true → worth (flows_of s fs) y ≡ worth (flows_of s fs) x → x ≤ y
  no-smaller y l h same =
      rw went.1 ((best_is (net_of s) (flows_of s fs)).least y l ((allowed-means (net_of s) (flows_of s fs) y).0 h) (same ∙ ap (worth (flows_of s fs)) went.1))

  -- the answer is a set of the flows, and allowed
  pub admitted-allowed : (x < 2 ^ length fs) × (allowed (net_of s) (flows_of s fs) x ≡ true)
  admitted-allowed =
      let b = best_is (net_of s) (flows_of s fs) in
      (rw went.1 b.inside, rw went.1 ((allowed-means (net_of s) (flows_of s fs) (admitted s fs)).1 b.passed))

  -- every allowed set makes a record that there is: 32 loads, none above N, which is at most 2,048, so that each fits the 16 bits of a load
  pub allowed-fits : (y : ℕ) → allowed (net_of s) (flows_of s fs) y ≡ true
      → (length (laden_site s fs y).loads ≡ 32) × ((i : ℕ) → load_at (laden_site s fs y) i ≤ positions s) × (positions s ≤ 2048)
  allowed-fits y h = (length-list (load_in (flows_of s fs) y) 32, allowed-most s fs settled y h, few-positions (fine-sized s settled.looked.fine))

  -- W4: "Everything that takes a share follows": each flow has a public share, and the loads of the site that a set makes are the public shares of its flows,
  -- summed by cell
  pub flow-shared : (k : ℕ) → k < length fs → (share : ℕ) × Shared s (flow_at fs k) share
  flow-shared k l =
      let z = fine-sized s settled.looked.fine in
      sends-shared s (flow_at fs k) (z.slots_some, z.slots_most) (settled.good k l)

  pub loads-are-shares : (share : ℕ → ℕ) → ((k : ℕ) → k < length fs → Shared s (flow_at fs k) (share k))
      → (y i : ℕ) → load_at (laden_site s fs y) i ≡ summed fs share y (i + 1)
  loads-are-shares share h y = laden-shares s fs settled y share h

  -- the site with the admitted shares as its loads is accepted, its load test holds, and it is planned
  pub admission-plans : (t : List ℕ) → LongEnough (laden_site s fs x) t
      → (Accepted (laden_site s fs x)) × (load_given (load_answer (laden_site s fs x)) ≡ done) × (plan_given (plan_answer (laden_site s fs x) t) ≡ done)
  admission-plans t long =
      let fine = laden-fine s fs settled x in
      let plans : Plans (net_of (laden_site s fs x))
      = subst Plans (ap (laden (net_of s) (flows_of s fs)) (sym went.1) ∙ sym (laden-net s fs settled x)) (best-planned (net_of s) (flows_of s fs)) in (
        (accepted-number (laden_site s fs x)).1 fine,
        (allowed-is-public x).0 admitted-allowed.1,
        (plan-number (laden_site s fs x) t).1 ((done-means (laden_site s fs x) t).1 (fine, long, plans)),
      )

  -- no set that any valid table carries is worth more
  pub no-carried-better : (y : ℕ) → y < 2 ^ length fs → (res : Reserved) → Valid (net_of (laden_site s fs y)) res
      → worth (flows_of s fs) y ≤ worth (flows_of s fs) x
  no-carried-better y l res v =
      rw went.1
      (best-of-carried (net_of s) (flows_of s fs) settled.looked.class y l res
      (subst (λ (n : Net). Valid n res) (laden-net s fs settled y) v))

-- "The empty set counts."
pub empty-counts : (s : Site) (fs : List Flow) → allowed (net_of s) (flows_of s fs) 0 ≡ true
empty-counts s fs = empty-allowed (net_of s) (flows_of s fs)

-- ---- "Refusals: record faults first, then 18 over 16 flows, 19 site not chained, then per flow 2, 15, 16 with the flow's number." W9: 19 outside the
-- class. Each exactly where it is due; 2, 15 and 16 by the flow's cell, by its burst, period and repeats, and by products (crates/admission/specs/Means.antt).

-- the record's numbers are 1 to 3, 20 and 24
between : (a : Result ℕ AdmitError) → 3 < (admit_given a).number → (admit_given a).number < 20 → of_record a ≡ false
between (Ok set) h l = refl
between (Err TooMany) h l = refl
between (Err NotNested) h l = refl
between (Err (BadCell flow)) h l = refl
between (Err (BadFlow flow)) h l = refl
between (Err (BigShare flow)) h l = refl
between (Err (Record Size)) h l = absurd (omega arith)
between (Err (Record Rule)) h l = absurd (omega arith)
between (Err (Record (Load k))) h l = absurd (omega arith)
between (Err (Record (Reach k))) h l = absurd (omega arith)
between (Err (Record (Blocked k))) h l = absurd (omega arith)

module _ (s : Site) (fs : List Flow) where
  -- an accepted record is not refused
  not-record : Accepted s → of_record (admit_answer s fs) ≡ false
  not-record ok = at (admit_answer s fs) refl
    where
      at : (a : Result ℕ AdmitError) → admit_answer s fs ≡ a → of_record a ≡ false
      at (Ok set) e = refl
      at (Err TooMany) e = refl
      at (Err NotNested) e = refl
      at (Err (BadCell flow)) e = refl
      at (Err (BadFlow flow)) e = refl
      at (Err (BigShare flow)) e = refl
      at (Err (Record f)) e =
          let h = (fault-means (idle (net_of s)) s fs f).0 e in
          absurd (true≢false (sym (ap is_fine ((accepted-number s).0 ok)) ∙ ap is_fine h))

  -- the answer behind a number, where it does not refuse the record
  answer-of : (b : Result ℕ AdmitError) → of_record b ≡ false → of_record (admit_answer s fs) ≡ false
      → admit_given (admit_answer s fs) ≡ admit_given b → admit_answer s fs ≡ b
  answer-of b q o = admit-apart (admit_answer s fs) b (o ∙ sym q)

  -- a number above 3 and below 20 is not the record's
  own : (g : Given) → 3 < g.number → g.number < 20 → admit_given (admit_answer s fs) ≡ g → of_record (admit_answer s fs) ≡ false
  own g l m e =
      let same = ap (λ (x : Given). x.number) e in
      between (admit_answer s fs) (omega (arith, same)) (omega (arith, same))

  pub admit-fault : (Accepted s → ⊥) → admit_given (admit_answer s fs) ≡ done_given (fault_of s)
  admit-fault n = at (fault_of s) refl
    where
      at : (f : Result Unit Fault) → fault_of s ≡ f → admit_given (admit_answer s fs) ≡ done_given f
      at (Ok u) e = absurd (n ((accepted-number s).1 e))
      at (Err f) e = ap admit_given ((fault-means (idle (net_of s)) s fs f).1 e)

  pub eighteen : admit_given (admit_answer s fs) ≡ refused 18 [] ↔ (Accepted s × (16 < length fs))
  eighteen =
      let m = many-means (idle (net_of s)) s fs in (
        λ e. let h = m.0 (answer-of (Err TooMany) refl (own (refused 18 []) (omega arith) (omega arith) e) e) in ((accepted-number s).1 h.0, h.1),
        λ h. ap admit_given (m.1 ((accepted-number s).0 h.0, h.1)),
      )

  -- W9: "refusal 19 is given exactly outside it", "all cells counted as loaded"
  pub nineteen : admit_given (admit_answer s fs) ≡ refused 19 [] ↔ (Accepted s × (length fs ≤ 16) × (Class (net_of s) everyone → ⊥))
  nineteen =
      let m = outside-means (idle (net_of s)) s fs in (
        λ e. let h = m.0 (answer-of (Err NotNested) refl (own (refused 19 []) (omega arith) (omega arith) e) e) in ((accepted-number s).1 h.0, h.1, h.2),
        λ h. ap admit_given (m.1 ((accepted-number s).0 h.0, h.1, h.2)),
      )

  -- on a site that is chained, all cells counted, the answer is the one of before W9, when 19 asked for the chain
  pub chained-answer : Chained (net_of s) everyone
      → admit_given (admit_answer s fs) ≡ admit_given (answer_where (is_chained (chain_verdict (net_of s) everyone)) s (flow_at fs) (length fs))
  chained-answer h = ap admit_given (chained-unchanged s (flow_at fs) (length fs) h)

  -- a flow's 2 looks as the record's does, so this is about an accepted record
  pub flow-two : Accepted s → (n : ℕ) → admit_given (admit_answer s fs) ≡ refused 2 (n ∷ []) ↔ ((k : ℕ) × (n ≡ k + 1) × Stops s fs k two)
  flow-two ok n =
      let m = flow-means (idle (net_of s)) s fs two n in
      (λ e. m.0 (answer-of (Err (BadCell n)) refl (not-record ok) e), λ h. ap admit_given (m.1 h))

  pub flow-fifteen : (n : ℕ) → admit_given (admit_answer s fs) ≡ refused 15 (n ∷ []) ↔ ((k : ℕ) × (n ≡ k + 1) × Stops s fs k fifteen)
  flow-fifteen n =
      let m = flow-means (idle (net_of s)) s fs fifteen n in
      (λ e. m.0 (answer-of (Err (BadFlow n)) refl (own (refused 15 (n ∷ [])) (omega arith) (omega arith) e) e), λ h. ap admit_given (m.1 h))

  pub flow-sixteen : (n : ℕ) → admit_given (admit_answer s fs) ≡ refused 16 (n ∷ []) ↔ ((k : ℕ) × (n ≡ k + 1) × Stops s fs k sixteen)
  flow-sixteen n =
      let m = flow-means (idle (net_of s)) s fs sixteen n in
      (λ e. m.0 (answer-of (Err (BigShare n)) refl (own (refused 16 (n ∷ [])) (omega arith) (omega arith) e) e), λ h. ap admit_given (m.1 h))

  -- a set is answered wherever nothing is refused, and only there
  pub admitted-answer : (x : ℕ) → admit_given (admit_answer s fs) ≡ done_with (x ∷ []) ↔ (Settled s fs × (x ≡ admitted s fs))
  admitted-answer x =
      let m = set-means (idle (net_of s)) s fs x in
      (λ e. m.0 (done-set (admit_answer s fs) x e), λ h. ap admit_given (m.1 h))
