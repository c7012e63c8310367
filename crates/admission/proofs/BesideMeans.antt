-- What the call on top of the loads says, from a second side: 5, a set and a record's fault, each exactly where it is due. The other refusals are those of
-- proofs/Meaning.antt, over the site's own loads.
-- Assumes nothing.
use Prim.Native.Nat.{ℕ, ◌≤◌}
use mathlib.Core.Bool.{Bool, true, false, not, false≢true}
use mathlib.Core.List.{List}
use mathlib.Core.Logic.{◌↔◌}
use mathlib.Core.Path.{◌≡◌, refl, sym, ap, ◌∙◌}
use borrow.Author.Tests.{ltb-false, le-ltb, not-true}
use lib.Dec.{ltb}
use lib.ListN.{length}
use Rattle.laws.proofs.Choice.{both}
use Rattle.theory.specs.Net.{everyone, loaded, Class, LoadTest}
use Rattle.theory.specs.Verdict.{LoadVerdict, holds, over, load_verdict}
use Rattle.theory.proofs.LoadLaws.{load-holds}
use Rattle.site.specs.Record.{is_fine, fault_of}
use Rattle.site.specs.Reach.{net_of}
use Rattle.site.specs.declared.Site.{Site}
use Rattle.std.specs.Prelude.{Result, Ok, Err}
use Rattle.site.specs.declared.Fault.{Fault}
use Rattle.judges.specs.Judges.{load_of, load_answer}
use Rattle.judges.specs.declared.LoadVerdict as judged
use Rattle.judges.specs.declared.LoadVerdict.TheVariants as load
use Rattle.site.proofs.Faults.{fine-is}
use Rattle.flowlist.specs.List.{flow_at}
use Rattle.flowlist.specs.declared.Flow.{Flow}
use Rattle.admission.specs.Admit.{answer_from}
use Rattle.admission.specs.Beside.{as_beside, is_asked, beside_where, beside_in, admitted_beside, beside_answer}
use Rattle.admission.specs.Means.{Settled}
use Rattle.admission.specs.declared.AdmitError.{AdmitError}
use Rattle.admission.specs.declared.AdmitError.TheVariants.{TooMany, Record}
use Rattle.admission.specs.declared.BesideError.{BesideError}
use Rattle.admission.specs.declared.BesideError.TheVariants.{Over, Admit}
use Rattle.admission.proofs.Beside.{is_over, verdict-of, over-fine, fault-beside, over-beside, quiet-beside}
use Rattle.admission.proofs.Meaning.{class-means, set-means}

-- ---- what an answer says of the choice

abbrev test_in : Result ℕ BesideError → judged.LoadVerdict
test_in (Ok set) = load.Holds
test_in (Err (Over cell excess)) = load.Over cell excess
test_in (Err (Admit refused)) = load.Holds

abbrev names_cell : Result ℕ BesideError → Bool
names_cell b = is_over (Ok (test_in b))

-- an admission's answer names no cell, and is read back
none-named : (a : Result ℕ AdmitError) → names_cell (as_beside a) ≡ false
none-named (Ok set) = refl
none-named (Err refused) = refl

abbrev admitted_in : Result ℕ BesideError → Result ℕ AdmitError
admitted_in (Ok set) = Ok set
admitted_in (Err (Over cell excess)) = Err TooMany
admitted_in (Err (Admit refused)) = Err refused

admitted-back : (a : Result ℕ AdmitError) → admitted_in (as_beside a) ≡ a
admitted-back (Ok set) = refl
admitted-back (Err refused) = refl

one-answer : (a b : Result ℕ AdmitError) → as_beside a ≡ as_beside b → a ≡ b
one-answer a b e = sym (admitted-back a) ∙ ap admitted_in e ∙ admitted-back b

over-from : (t : Bool) (v : LoadVerdict) (a : Result ℕ AdmitError) (cell excess : ℕ) → beside_where t v a ≡ Err (Over cell excess)
    → (t ≡ true) × (load_of v ≡ load.Over cell excess)
over-from true (over i m) a cell excess h = (refl, ap test_in h)
over-from true holds a cell excess h = absurd (false≢true (sym (none-named a) ∙ ap names_cell h))
over-from false v a cell excess h = absurd (false≢true (sym (none-named a) ∙ ap names_cell h))

answered-from : (t : Bool) (v : LoadVerdict) (a b : Result ℕ AdmitError) → beside_where t v a ≡ as_beside b → (a ≡ b) × (t ≡ true → v ≡ holds)
answered-from true (over i m) a b h = absurd (false≢true (sym (none-named b) ∙ sym (ap names_cell h)))
answered-from true holds a b h = (one-answer a b h, λ _. refl)
answered-from false v a b h = (one-answer a b h, λ e. absurd (false≢true e))

module _ (s : Site) where
  -- where the test names a cell the loads do not pass
  pub over-not : (cell excess : ℕ) → load_answer s ≡ Ok (load.Over cell excess) → LoadTest (net_of s) (loaded (net_of s)) → ⊥
  over-not cell excess o h =
      let fine = over-fine s (ap is_over o) in
      let holds-here : load_answer s ≡ Ok load.Holds
      = verdict-of s fine ∙ ap (λ (v : LoadVerdict). Ok (load_of v)) ((load-holds (net_of s) (loaded (net_of s))).1 h) in
      false≢true (ap is_over (sym holds-here ∙ o))

  -- and where they pass it names none
  passes_none : fault_of s ≡ Ok tt → LoadTest (net_of s) (loaded (net_of s)) → is_over (load_answer s) ≡ false
  passes_none fine h = ap is_over (verdict-of s fine ∙ ap (λ (v : LoadVerdict). Ok (load_of v)) ((load-holds (net_of s) (loaded (net_of s))).1 h))

module _ (s : Site) (fs : List Flow) where
  abbrev n : ℕ
  n = length fs

  asked-parts : is_asked s n ≡ true → (n ≤ 16) × Class (net_of s) everyone
  asked-parts e =
      let p = (both (is_fine (fault_of s)) _ e).1 in
      let q = both (not (ltb 16 n)) _ p in
      (ltb-false 16 n (not-true _ q.0), (class-means s).0 q.1)

  -- 5 where the flows would be looked at and the load test of the site names a cell
  pub over-means : (cell excess : ℕ) → beside_answer s fs ≡ Err (Over cell excess)
      ↔ ((n ≤ 16) × Class (net_of s) everyone × (load_answer s ≡ Ok (load.Over cell excess)))
  unfolding beside_in
  over-means cell excess = (
    λ e.
        let p = over-from (is_asked s n) (load_verdict (net_of s) (loaded (net_of s))) (answer_from (net_of s) s (flow_at fs) n) cell excess e in
        let q = asked-parts p.0 in
        (q.0, q.1, verdict-of s (fine-is (fault_of s) (both (is_fine (fault_of s)) _ p.0).0) ∙ ap Ok p.1),
    λ h. over-beside s (flow_at fs) n (over-fine s (ap is_over h.2)) h.0 ((class-means s).1 h.1) cell excess h.2,
  )

  -- a set where nothing is refused and the loads pass
  pub besides-means : (x : ℕ) → beside_answer s fs ≡ Ok x
      ↔ (Settled s fs × LoadTest (net_of s) (loaded (net_of s)) × (x ≡ admitted_beside s fs))
  unfolding beside_in
  besides-means x = (
    λ e.
        let p = answered-from (is_asked s n) (load_verdict (net_of s) (loaded (net_of s))) (answer_from (net_of s) s (flow_at fs) n) (Ok x) e in
        let w = (set-means (net_of s) s fs x).0 p.0 in
        let at = w.0.looked in
        let asked : is_asked s n ≡ true = rw (at.fine, le-ltb 16 n at.few, (class-means s).1 at.class) refl in
        (w.0, (load-holds (net_of s) (loaded (net_of s))).0 (p.1 asked), w.1),
    λ h.
        quiet-beside s (flow_at fs) n (passes_none s h.0.looked.fine h.1)
        ∙ ap as_beside ((set-means (net_of s) s fs x).1 (h.0, h.2)),
  )

  -- the record's fault comes first
  pub fine-means : (f : Fault) → fault_of s ≡ Err f → beside_answer s fs ≡ Err (Admit (Record f))
  fine-means f e = fault-beside s (flow_at fs) n f e
