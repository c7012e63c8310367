-- What the answers of `renumber` and `carry` mean, over the public calls' definitions.
--     renumber-site        done: the numbers are a renumbering, by the rule, and the site is accepted and in the class
--     none_exactly         23 exactly when no renumbering puts the site in the class whatever the loads
--     carried-exactly      a table is valid for the renumbered site exactly when, carried, it is valid for the old one; bytes past IN stay
--     plans-exactly        with `renumber`, `plan` and `carry` a site that can be numbered is planned exactly when any valid table exists
-- Assumes nothing.
use mathlib.Core.Path.{◌≡◌, refl, sym, ap, ◌∙◌, subst}
use mathlib.Core.Bool.{Bool, false≢true}
use mathlib.Core.List.{List, ◌++◌}
use mathlib.Core.Logic.{◌↔◌}
use Prim.Native.Nat.{ℕ, ◌+◌, ◌≤◌}
use native.Mathlib.Nat.{le_refl}
use native.Mathlib.Omega.{arith}
use lib.ListN.{length, get_or, drop, length-append}
use Rattle.theory.specs.Net.{Reserved, Valid, Class, everyone}
use Rattle.theory.specs.Greedy.{reserved}
use Rattle.theory.proofs.Exact.{class-exact, class-exists, covers-everyone, planned-size}
use Rattle.site.specs.Record.{positions, size, fault_of}
use Rattle.site.specs.Reach.{clash_of, net_of}
use Rattle.site.proofs.Reach.{clash-sym}
use Rattle.site.specs.declared.Site.{Site}
use Rattle.planner.specs.Plan.{table_of, plan_answer, plan_table}
use Rattle.planner.proofs.Answer.{run-table}
use Rattle.planner.proofs.Meaning.{done-means, done-valid}
use Rattle.renumbering.specs.Numbering.{Numbering, numbered, stuck, index_at}
use Rattle.renumbering.specs.Renumbers.{Renumbers, renumbered, with_loads, AlwaysClass, ByRule}
use Rattle.renumbering.specs.Carry.{carried}
use Rattle.renumbering.proofs.Renumber.{numbers-past, stuck-none, numbered-always}
use Rattle.renumbering.proofs.Rule.{numbers-by-rule}
use Rattle.renumbering.proofs.Carry.{carried-past}
use Rattle.numbering.specs.Renumber.{numbering_of, site_numbers, moved_site, renumber_of}
use Rattle.numbering.specs.Carried.{carry_answer, carry_table}
use Rattle.numberrows.specs.declared.Numbers.{Numbers}
use Rattle.std.specs.Prelude.{Result, Ok, Err, is_ok}
use Rattle.numbering.specs.declared.RenumberError.{RenumberError}
use Rattle.numbering.specs.declared.RenumberError.TheVariants.{NoNumbering}
use Rattle.numbering.proofs.Found.{few_cells, numbered-is, site-renumbers}
use Rattle.numbering.proofs.Ways.{renumber-none, renumber-done, carry-done}
use Rattle.numbering.proofs.Moved.{moved-fine, moved-class, some-old, some-new, valid-old, valid-new}

-- ---- what a done call has found

pub record Found (s : Site) : Type 0 where
  pub fine : fault_of s ≡ Ok tt
  pub numbers : numbering_of s ≡ numbered (renumber_of s).new (renumber_of s).old
  pub site : (renumber_of s).site ≡ moved_site s (renumber_of s).old

module _ (s : Site) where
  found-at : (r : Result Numbers RenumberError) → site_numbers s ≡ r → (renumber_of s).answer ≡ Ok tt → Found s
  unfolding renumber_of
  found-at (Ok n) e d =
      let h = numbered-is s n e in
      let r = renumber-done s n.new n.old h.fine h.numbers in
      record { fine = h.fine; numbers = rw r h.numbers; site = rw r refl }
  found-at (Err refused) e d = absurd (false≢true (ap is_ok (rw e at d)))

  pub done-found : (renumber_of s).answer ≡ Ok tt → Found s
  done-found = found-at (site_numbers s) refl

  -- ---- "23, no such numbering": "exactly when none does"

  abbrev pub NoRenumbering : Type 0
  NoRenumbering = (new old : ℕ → ℕ) → Renumbers s.cells new old → AlwaysClass (renumbered old (net_of s)) → ⊥

  none-at : fault_of s ≡ Ok tt → (x : Numbering) → numbering_of s ≡ x → (renumber_of s).answer ≡ Err NoNumbering → NoRenumbering
  unfolding numbering_of
  none-at fine (numbered new old) e d =
      absurd (false≢true (ap is_ok (sym d) ∙ ap (λ y. is_ok y.answer) (renumber-done s new old fine e)))
  none-at fine stuck e d = stuck-none (net_of s) (clash-sym s.rule s.reach) 32 (few_cells s fine) e

  at_none : fault_of s ≡ Ok tt → (x : Numbering) → numbering_of s ≡ x → NoRenumbering → (renumber_of s).answer ≡ Err NoNumbering
  unfolding numbering_of
  at_none fine (numbered new old) e none =
      absurd
      (none (index_at new) (index_at old) (site-renumbers s fine new old e)
      (numbered-always (net_of s) (clash-sym s.rule s.reach) 32 (few_cells s fine) new old e))
  at_none fine stuck e none = ap (λ y. y.answer) (renumber-none s fine e)

  pub none_exactly : fault_of s ≡ Ok tt → ((renumber_of s).answer ≡ Err NoNumbering) ↔ NoRenumbering
  none_exactly fine = (none-at fine (numbering_of s) refl, at_none fine (numbering_of s) refl)

  -- ---- the renumbered site

  pub record Renumbering : Type 0 where
    pub permutes : Renumbers s.cells (index_at (renumber_of s).new) (index_at (renumber_of s).old)
    pub past : (i : ℕ) → s.cells ≤ i → (get_or (renumber_of s).new i 0 ≡ 0) × (get_or (renumber_of s).old i 0 ≡ 0)
    pub by-rule : ByRule (clash_of s) s.cells (index_at (renumber_of s).new) (index_at (renumber_of s).old)
    pub accepted : fault_of (renumber_of s).site ≡ Ok tt
    pub class : (l : ℕ → ℕ) (who : ℕ → Bool) → Class (with_loads l (net_of (renumber_of s).site)) who

  module _ (done : (renumber_of s).answer ≡ Ok tt) where
    found : Found s
    found = done-found done

    abbrev new : List ℕ
    new = (renumber_of s).new

    abbrev old : List ℕ
    old = (renumber_of s).old

    pub renumber-site : Renumbering
    unfolding numbering_of
    renumber-site = record {
      permutes = site-renumbers s found.fine new old found.numbers;
      past = numbers-past (net_of s) (clash-sym s.rule s.reach) 32 (few_cells s found.fine) new old found.numbers;
      by-rule = numbers-by-rule (clash_of s) s.cells (clash-sym s.rule s.reach) 32 (few_cells s found.fine) new old found.numbers;
      accepted = rw found.site (moved-fine s found.fine new old found.numbers);
      class = rw found.site (moved-class s found.fine new old found.numbers);
    }

    -- ---- tables

    module _ (from to : List ℕ) (has : size s ≤ length from) (fits : size s ≤ length to) where
      pub carry-is : (carry_answer s from to ≡ Ok tt) × (carry_table s from to ≡ carried (index_at new) (positions s) from to s.cells)
      carry-is = carry-done s from to new old found.fine found.numbers has fits

      pub carried-exactly : Valid (net_of (renumber_of s).site) (reserved (positions s) from) ↔ Valid (net_of s)
          (reserved (positions s) (carry_table s from to))
      carried-exactly =
          rw (found.site, carry-is.1)
          (valid-old s found.fine new old found.numbers from to has fits, valid-new s found.fine new old found.numbers from to has fits)

      pub carried-rest : drop (size s) (carry_table s from to) ≡ drop (size s) to
      carried-rest =
          rw carry-is.1
          (carried-past (index_at new) s.cells (positions s) from to has fits (site-renumbers s found.fine new old found.numbers).new_in
          s.cells (le_refl s.cells))

    -- "planned exactly when any valid plan exists"
    module _ (lent to : List ℕ) (has : size s ≤ length lent) (fits : size s ≤ length to) where
      abbrev now : Site
      now = (renumber_of s).site

      same_size-law : size now ≡ size s
      unfolding moved_site
      same_size-law = rw found.site refl

      same-positions : positions now ≡ positions s
      unfolding moved_site
      same-positions = rw found.site refl

      all-class : Class (net_of now) everyone
      all-class = renumber-site.class (net_of now).load everyone

      some-valid : ((res : Reserved) × Valid (net_of now) res) ↔ ((res : Reserved) × Valid (net_of s) res)
      some-valid =
          rw found.site (
            λ v. ((λ i k. v.0 (index_at new i) k), some-old s found.fine new old found.numbers v.0 v.1),
            λ v. ((λ a k. v.0 (index_at old a) k), some-new s found.fine new old found.numbers v.0 v.1),
          )

      pub plans-exactly : (plan_answer now lent ≡ Ok tt) ↔ ((res : Reserved) × Valid (net_of s) res)
      plans-exactly =
          let covers = covers-everyone (net_of now) in
          let exact = class-exact (net_of now) everyone covers all-class in
          let exists = class-exists (net_of now) everyone covers all-class in (
            λ h. some-valid.0 (exists.0 (exact.1 ((done-means now lent).0 h).2)),
            λ v. (done-means now lent).1 (renumber-site.accepted, omega (arith, same_size-law), exact.0 (exists.1 (some-valid.1 v))),
          )

      plan-long : plan_answer now lent ≡ Ok tt → size s ≤ length (plan_table now lent)
      plan-long h =
          let m = (done-means now lent).0 h in
          let t = m.2.0 in
          let is : plan_table now lent ≡ t ++ drop (size now) lent
          = run-table now lent m.0 m.1 ∙ ap (λ o. table_of (size now) o ++ drop (size now) lent) m.2.1 in
          let whole : length (plan_table now lent) ≡ length t + length (drop (size now) lent) = ap length is ∙ length-append t (drop (size now) lent) in
          omega (arith, same_size-law, planned-size (net_of now) t m.2.1)

      pub planned-back : plan_answer now lent ≡ Ok tt
          → (carry_answer s (plan_table now lent) to ≡ Ok tt) × Valid (net_of s) (reserved (positions s) (carry_table s (plan_table now lent) to))
      planned-back h =
          let long = plan-long h in (
            (carry-is (plan_table now lent) to long fits).0,
            (carried-exactly (plan_table now lent) to long fits).0
                (subst (λ n. Valid (net_of now) (reserved n (plan_table now lent))) same-positions (done-valid now lent h)),
          )
