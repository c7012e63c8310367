-- What the call says, from a second side: each answer exactly where it is due. The definition is a row of choices; each of the ways that they go has its
-- answer, and no two ways have the same. Assumes nothing.
use Prim.Native.Nat.{ℕ, ◌+◌, ◌≤◌, ◌<◌, zero-le}
use mathlib.Core.Bool.{Bool, true, false, true≢false}
use mathlib.Core.List.{List}
use mathlib.Core.Logic.{⊎_elim, ◌↔◌}
use mathlib.Core.Path.{◌≡◌, refl, sym, ap, ◌∙◌}
use native.Mathlib.Omega.{arith}
use borrow.Author.Tests.{ltb-true, ltb-false}
use lib.Dec.{ltb}
use lib.ListN.{length}
use Rattle.laws.proofs.Choice.{cases, refute}
use Rattle.laws.proofs.Search.{first_passes, first-before, first-none, first-is}
use Rattle.theory.specs.Net.{Net, everyone, Class}
use Rattle.theory.specs.Verdict.{class_verdict}
use Rattle.theory.proofs.ClassLaws.{class-holds}
use Rattle.std.specs.Prelude.{Result, Ok, Err}
use Rattle.site.specs.Record.{fault_of}
use Rattle.site.specs.Reach.{net_of}
use Rattle.site.specs.Means.{UpTo}
use Rattle.site.specs.declared.Site.{Site}
use Rattle.site.specs.declared.Fault.{Fault}
use Rattle.site.proofs.Faults.{fine-sized}
use Rattle.admitting.specs.Best.{best_beside}
use Rattle.flowlist.specs.List.{flow_at}
use Rattle.flowlist.specs.declared.Flow.{Flow}
use Rattle.admission.specs.Admit.{first_bad_in, is_nested, answer_from, flow_bad, first_bad, flows_of}
use Rattle.admission.specs.Means.{Sends, Refusal, two, fifteen, sixteen, refused_with, Looked, Settled, Stops}
use Rattle.admission.specs.declared.AdmitError.{AdmitError}
use Rattle.admission.specs.declared.AdmitError.TheVariants.{TooMany, NotNested, BadCell, BadFlow, BigShare, Record}
use Rattle.admission.proofs.Answer.{fault-answer, many-answer, outside-answer, bad-answer, set-answer}
use Rattle.admission.proofs.OneFlow.{sends-is, bad-has, bad-is}
use Rattle.admission.proofs.Suits.{class-of}

-- W9: "all cells counted as loaded": in the class, said of the clashes themselves
pub class-means : (s : Site) → is_nested (class_verdict (net_of s) everyone) ≡ true ↔ Class (net_of s) everyone
class-means s = (
  class-of (net_of s),
  λ h. ap is_nested ((class-holds (net_of s) everyone).1 h),
)

-- ---- the answer on top of the loads of `start`, and the set where there is one. `admit_answer` has the loads set aside

abbrev pub answer : Net → Site → List Flow → Result ℕ AdmitError
answer start s fs = answer_from start s (flow_at fs) (length fs)

abbrev pub chosen : Net → Site → List Flow → ℕ
chosen start s fs = best_beside start (flows_of s fs)

-- ---- the ways that a call goes, and its answer in each

data Told (start : Net) (s : Site) (fs : List Flow) : Type 0 where
  fault : (g : Fault) → fault_of s ≡ Err g → answer start s fs ≡ Err (Record g) → Told start s fs
  many : fault_of s ≡ Ok tt → 16 < length fs → answer start s fs ≡ Err TooMany → Told start s fs
  unnested : fault_of s ≡ Ok tt → length fs ≤ 16 → (Class (net_of s) everyone → ⊥) → answer start s fs ≡ Err NotNested → Told start s fs
  stopped : (k : ℕ) (r : Refusal) → Stops s fs k r → answer start s fs ≡ Err (refused_with r (k + 1)) → Told start s fs
  settled : Settled s fs → answer start s fs ≡ Ok (chosen start s fs) → Told start s fs

module _ (start : Net) (s : Site) (fs : List Flow) where
  abbrev test : ℕ → Bool
  test k = flow_bad s (flow_at fs k)

  slots : fault_of s ≡ Ok tt → UpTo 128 s.slots
  slots fine = let z = fine-sized s fine in (z.slots_some, z.slots_most)

  sends-before : fault_of s ≡ Ok tt → (j : ℕ) → j < first_bad s fs → Sends s (flow_at fs j)
  unfolding first_bad_in
  sends-before fine j l = (sends-is s (flow_at fs j) (slots fine)).0 (first-before test 0 (length fs) j zero-le l)

  at-flows : Looked s fs → Told start s fs
  unfolding first_bad_in
  at-flows at =
      let fine = at.fine in
      let class = (class-means s).1 at.class in
      ⊎_elim
      (λ h.
      let k = first_bad s fs in
      let l : k < length fs = ltb-true k (length fs) h in
      let b = bad-has s (flow_at fs k) (slots fine) (first_passes test 0 (length fs) zero-le l) in
      stopped k b.0 (record { looked = at; inside = l; before = sends-before fine; refuses = b.1 })
      (bad-answer start s (flow_at fs) (length fs) fine at.few class k refl l ∙ ap Err (b.2 (k + 1))))
      (λ h.
      let l : length fs ≤ first_bad s fs = ltb-false (first_bad s fs) (length fs) h in
      settled (record { looked = at; good = λ k q. sends-before fine k (omega arith) }) (set-answer start s (flow_at fs) (length fs) fine at.few class l))
      (cases (ltb (first_bad s fs) (length fs)))

  at-class : fault_of s ≡ Ok tt → length fs ≤ 16 → Told start s fs
  at-class fine few =
      ⊎_elim (λ h. at-flows (record { fine = fine; few = few; class = (class-means s).0 h }))
      (λ h. unnested fine few (λ c. true≢false (sym ((class-means s).1 c) ∙ h)) (outside-answer start s (flow_at fs) (length fs) fine few h))
      (cases (is_nested (class_verdict (net_of s) everyone)))

  at-many : fault_of s ≡ Ok tt → Told start s fs
  at-many fine =
      ⊎_elim (λ h. many fine (ltb-true 16 _ h) (many-answer start s (flow_at fs) (length fs) fine (ltb-true 16 _ h))) (λ h. at-class fine (ltb-false 16 _ h))
      (cases (ltb 16 (length fs)))

  told : Told start s fs
  told = by-fault (fault_of s) refl
    where
      by-fault : (r : Result Unit Fault) → fault_of s ≡ r → Told start s fs
      by-fault (Ok u) e = at-many e
      by-fault (Err g) e = fault g e (fault-answer start s (flow_at fs) (length fs) g e)

-- ---- the answers are told apart

abbrev of_flow : Result ℕ AdmitError → Bool
of_flow (Ok set) = false
of_flow (Err TooMany) = false
of_flow (Err NotNested) = false
of_flow (Err (BadCell flow)) = true
of_flow (Err (BadFlow flow)) = true
of_flow (Err (BigShare flow)) = true
of_flow (Err (Record f)) = false

flow-answer : (r : Refusal) (n : ℕ) → of_flow (Err (refused_with r n)) ≡ true
flow-answer two n = refl
flow-answer fifteen n = refl
flow-answer sixteen n = refl

-- an answer that is given to a flow, and is not
no_flow-law : {A : Type 0} (a b : Result ℕ AdmitError) → of_flow a ≡ true → of_flow b ≡ false → a ≡ b → A
no_flow-law a b p q e = absurd (true≢false (sym p ∙ ap of_flow e ∙ q))

same-refusal : (r q : Refusal) (n m : ℕ) → ◌≡◌ {A = Result ℕ AdmitError} (Err (refused_with r n)) (Err (refused_with q m)) → (r ≡ q) × (n ≡ m)
same-refusal two two n m e = (refl, cc)
same-refusal fifteen fifteen n m e = (refl, cc)
same-refusal sixteen sixteen n m e = (refl, cc)
same-refusal two fifteen n m e = let z : ◌≡◌ {A = ℕ} 0 1 = cc in absurd (omega arith)
same-refusal two sixteen n m e = let z : ◌≡◌ {A = ℕ} 0 1 = cc in absurd (omega arith)
same-refusal fifteen two n m e = let z : ◌≡◌ {A = ℕ} 0 1 = cc in absurd (omega arith)
same-refusal fifteen sixteen n m e = let z : ◌≡◌ {A = ℕ} 0 1 = cc in absurd (omega arith)
same-refusal sixteen two n m e = let z : ◌≡◌ {A = ℕ} 0 1 = cc in absurd (omega arith)
same-refusal sixteen fifteen n m e = let z : ◌≡◌ {A = ℕ} 0 1 = cc in absurd (omega arith)

-- ---- each answer, exactly where it is due

module _ (start : Net) (s : Site) (fs : List Flow) where
  -- "record faults first"
  pub fault-means : (g : Fault) → answer start s fs ≡ Err (Record g) ↔ (fault_of s ≡ Err g)
  fault-means g = (λ e. at (told start s fs) e, λ h. fault-answer start s (flow_at fs) (length fs) g h)
    where
      at : Told start s fs → answer start s fs ≡ Err (Record g) → fault_of s ≡ Err g
      at (fault h p q) e = let same : h ≡ g = cc in p ∙ ap Err same
      at (many _ _ q) e = let z : ◌≡◌ {A = ℕ} 0 1 = cc in absurd (omega arith)
      at (unnested _ _ _ q) e = let z : ◌≡◌ {A = ℕ} 0 1 = cc in absurd (omega arith)
      at (stopped k r _ q) e = no_flow-law (Err (refused_with r (k + 1))) (Err (Record g)) (flow-answer r (k + 1)) refl (sym q ∙ e)
      at (settled _ q) e = let z : ◌≡◌ {A = ℕ} 0 1 = cc in absurd (omega arith)

  -- "then 18 over 16 flows"
  pub many-means : answer start s fs ≡ Err TooMany ↔ ((fault_of s ≡ Ok tt) × (16 < length fs))
  many-means = (λ e. at (told start s fs) e, λ h. many-answer start s (flow_at fs) (length fs) h.0 h.1)
    where
      at : Told start s fs → answer start s fs ≡ Err TooMany → (fault_of s ≡ Ok tt) × (16 < length fs)
      at (many f h _) e = (f, h)
      at (fault _ _ q) e = let z : ◌≡◌ {A = ℕ} 0 1 = cc in absurd (omega arith)
      at (unnested _ _ _ q) e = let z : ◌≡◌ {A = ℕ} 0 1 = cc in absurd (omega arith)
      at (stopped k r _ q) e = no_flow-law (Err (refused_with r (k + 1))) (Err TooMany) (flow-answer r (k + 1)) refl (sym q ∙ e)
      at (settled _ q) e = let z : ◌≡◌ {A = ℕ} 0 1 = cc in absurd (omega arith)

  -- W9: "refusal 19 is given exactly outside it"
  pub outside-means : answer start s fs ≡ Err NotNested ↔ ((fault_of s ≡ Ok tt) × (length fs ≤ 16) × (Class (net_of s) everyone → ⊥))
  outside-means = (
    λ e. at (told start s fs) e,
    λ h. outside-answer start s (flow_at fs) (length fs) h.0 h.1 (refute (is_nested (class_verdict (net_of s) everyone)) (λ e. h.2 ((class-means s).0 e))),
  )
    where
      at : Told start s fs → answer start s fs ≡ Err NotNested → (fault_of s ≡ Ok tt) × (length fs ≤ 16) × (Class (net_of s) everyone → ⊥)
      at (unnested f l c _) e = (f, l, c)
      at (fault _ _ q) e = let z : ◌≡◌ {A = ℕ} 0 1 = cc in absurd (omega arith)
      at (many _ _ q) e = let z : ◌≡◌ {A = ℕ} 0 1 = cc in absurd (omega arith)
      at (stopped k r _ q) e = no_flow-law (Err (refused_with r (k + 1))) (Err NotNested) (flow-answer r (k + 1)) refl (sym q ∙ e)
      at (settled _ q) e = let z : ◌≡◌ {A = ℕ} 0 1 = cc in absurd (omega arith)

  -- "then per flow 2, 15, 16 with the flow's number": of the first flow that one of them fits, by the flow's own numbers
  pub flow-means : (r : Refusal) (n : ℕ) → answer start s fs ≡ Err (refused_with r n) ↔ ((k : ℕ) × (n ≡ k + 1) × Stops s fs k r)
  unfolding first_bad_in
  flow-means r n = (λ e. at (told start s fs) e, λ h. rw h.1 (back h.0 h.2))
    where
      at : Told start s fs → answer start s fs ≡ Err (refused_with r n) → (k : ℕ) × (n ≡ k + 1) × Stops s fs k r
      at (stopped k q st w) e = let o = same-refusal q r (k + 1) n (sym w ∙ e) in (k, sym o.1, rw o.0 at st)
      at (fault g _ q) e = no_flow-law (Err (refused_with r n)) (Err (Record g)) (flow-answer r n) refl (sym e ∙ q)
      at (many _ _ q) e = no_flow-law (Err (refused_with r n)) (Err TooMany) (flow-answer r n) refl (sym e ∙ q)
      at (unnested _ _ _ q) e = no_flow-law (Err (refused_with r n)) (Err NotNested) (flow-answer r n) refl (sym e ∙ q)
      at (settled _ q) e = no_flow-law (Err (refused_with r n)) (Ok (chosen start s fs)) (flow-answer r n) refl (sym e ∙ q)

      back : (k : ℕ) → Stops s fs k r → answer start s fs ≡ Err (refused_with r (k + 1))
      back k st =
          let fine = st.looked.fine in
          let t = slots start s fs fine in
          let b = bad-is s (flow_at fs k) t r st.refuses in
          let here : first_bad s fs ≡ k
          = first-is (test start s fs) 0 k (length fs) zero-le st.inside b.0 (λ j _ l. (sends-is s (flow_at fs j) t).1 (st.before j l)) in
          bad-answer start s (flow_at fs) (length fs) fine st.looked.few ((class-means s).1 st.looked.class) k (sym here) st.inside ∙ ap Err (b.1 (k + 1))

  -- a set wherever nothing is refused, and only there
  pub set-means : (x : ℕ) → answer start s fs ≡ Ok x ↔ (Settled s fs × (x ≡ chosen start s fs))
  unfolding first_bad_in
  set-means x = (λ e. at (told start s fs) e, λ h. back h.0 ∙ ap Ok (sym h.1))
    where
      at : Told start s fs → answer start s fs ≡ Ok x → Settled s fs × (x ≡ chosen start s fs)
      at (settled h q) e = (h, cc)
      at (fault _ _ q) e = let z : ◌≡◌ {A = ℕ} 0 1 = cc in absurd (omega arith)
      at (many _ _ q) e = let z : ◌≡◌ {A = ℕ} 0 1 = cc in absurd (omega arith)
      at (unnested _ _ _ q) e = let z : ◌≡◌ {A = ℕ} 0 1 = cc in absurd (omega arith)
      at (stopped k r _ q) e = no_flow-law (Err (refused_with r (k + 1))) (Ok x) (flow-answer r (k + 1)) refl (sym q ∙ e)

      back : Settled s fs → answer start s fs ≡ Ok (chosen start s fs)
      back h =
          let fine = h.looked.fine in
          let all : first_bad s fs ≡ length fs
          = first-none (test start s fs) 0 (length fs) zero-le (λ k _ l. (sends-is s (flow_at fs k) (slots start s fs fine)).1 (h.good k l)) in
          set-answer start s (flow_at fs) (length fs) fine h.looked.few ((class-means s).1 h.looked.class) (omega arith)
