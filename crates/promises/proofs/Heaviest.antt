-- The heaviest clash, over what the calls say, in numbers: the cells that are named share no position, so a valid table has an open position for each of
-- their fragments. It depends on cells, loads, reach and rule alone, so that it is that of every site with the same. Assumes nothing.
use mathlib.Core.Path.{◌≡◌, ap, ap₂, ◌∙◌}
use mathlib.Core.List.{List, [], ◌∷◌}
use mathlib.Core.Logic.{◌↔◌}
use Prim.Native.Nat.{ℕ, ◌≤◌, ◌<◌}
use native.Mathlib.Omega.{arith}
use Rattle.std.specs.Prelude.{Ok}
use Rattle.laws.specs.Bits.{bit_at}
use Rattle.theory.specs.Full.{weight}
use Rattle.theory.specs.Greedy.{reserved}
use Rattle.site.specs.Record.{positions}
use Rattle.site.specs.Reach.{net_of}
use Rattle.site.specs.declared.Site.{Site}
use Rattle.planner.specs.Plan.{plan_answer, plan_table}
use Rattle.planner.specs.Given.{plan_given}
use Rattle.judges.specs.Judges.{class_answer, least_answer}
use Rattle.judges.specs.Given.{class_given, least_given}
use Rattle.checker.specs.Check.{check_answer}
use Rattle.checker.specs.Given.{check_given}
use Rattle.heaviest.specs.Sets.{heaviest_set, heaviest_of, Heaviest}
use Rattle.heaviest.specs.Given.{heaviest_given}
use Rattle.heaviest.proofs.Mutual.{heaviest-is, heaviest-only}
use Rattle.heaviest.proofs.Meaning.{done-fine, done-is-fine, done-means, done-mutual, done-fits, done-enough, done-class}
use Rattle.demanded.specs.Numbers.{done, done_with}
use Rattle.site.specs.Alike.{Alike}
use Rattle.demanded.specs.Demands.{Accepted, DefinitionOne, open_positions}
use Rattle.demanded.proofs.Numbers.{accepted-number, class-number, least-number, enough-number, heaviest-number}
use Rattle.demanded.proofs.Demand2.{valid-is-definition-one, check-is-valid, planned-checks}

-- What the call answers, exactly: of an accepted site, its heaviest set of cells that clash with one another, and what their loads come to.
pub heaviest-exact : (s : Site) (load cells : ℕ) → heaviest_given (heaviest_of s) ≡ done_with (load ∷ cells ∷ [])
    ↔ ((Accepted s) × (Heaviest (net_of s) cells) × (weight (net_of s) (bit_at cells) ≡ load))
heaviest-exact s load cells = (
  λ e.
      let d = (heaviest-number s load cells).0 e in
      ((accepted-number s).1 (done-is-fine s load cells d), done-means s load cells d, (done-mutual s load cells d).1),
  λ h.
      let same : heaviest_set (net_of s) ≡ cells = heaviest-only (net_of s) (heaviest_set (net_of s)) cells (heaviest-is (net_of s)) h.1 in
      (heaviest-number s load cells).1
      (done-fine s ((accepted-number s).0 h.0) ∙ ap₂ (λ (l x : ℕ). Ok (l, x)) (ap (λ (x : ℕ). weight (net_of s) (bit_at x)) same ∙ h.2) same),
)

module _ (site : Site) (load cells : ℕ) (e : heaviest_given (heaviest_of site) ≡ done_with (load ∷ cells ∷ [])) where
  -- on a nested site it is the least number of channel-slots that do
  pub heaviest-least : class_given (class_answer site) ≡ done → least_given (least_answer site) ≡ done_with (load ∷ 0 ∷ [])
  heaviest-least c = (least-number site load).1 (done-class site load cells ((heaviest-number site load cells).0 e) ((class-number site).0 c))

  -- on any other it is at most the number that is enough
  pub heaviest-enough : (n : ℕ) → least_given (least_answer site) ≡ done_with (n ∷ 1 ∷ []) → load ≤ n
  heaviest-enough n c = done-enough site load cells ((heaviest-number site load cells).0 e) n ((enough-number site n).0 c)

  module _ (other : Site) (ok : Accepted other) (alike : Alike other site) where
    -- a site with the same cells, loads, reach and rule has the same answer, whatever its slots, channels and blocked positions
    pub heaviest-alike : heaviest_given (heaviest_of other) ≡ done_with (load ∷ cells ∷ [])
    heaviest-alike =
        let h = (heaviest-exact site load cells).0 e in
        let set : heaviest_set (net_of other) ≡ heaviest_set (net_of site) = rw (alike.same_cells, alike.same_loads, alike.same_reach, alike.same_rule) in
        let is : heaviest_set (net_of other) ≡ cells = set ∙ heaviest-only (net_of site) (heaviest_set (net_of site)) cells (heaviest-is (net_of site)) h.1 in
        let sum : weight (net_of other) (bit_at cells) ≡ weight (net_of site) (bit_at cells) = rw (alike.same_cells, alike.same_loads) in
        (heaviest-exact other load cells).1 (ok, rw is at (heaviest-is (net_of other)), sum ∙ h.2)

    -- a site with a table that meets Definition 1 has at least so many open positions
    pub heaviest-fits : (t : List ℕ) → DefinitionOne other t → load ≤ open_positions other
    heaviest-fits t d =
        done-fits other load cells ((heaviest-number other load cells).0 heaviest-alike) (reserved (positions other) t) ((valid-is-definition-one other t).1 d)

    -- and so has a site with a table that the checker calls valid
    pub heaviest-checked : (t : List ℕ) → check_given (check_answer other t) ≡ done → load ≤ open_positions other
    heaviest-checked t v = heaviest-fits t ((valid-is-definition-one other t).0 ((check-is-valid other t).0 v).2)

    -- with fewer open positions no table is valid, and so none is planned
    pub heaviest-full : open_positions other < load → (t : List ℕ) → check_given (check_answer other t) ≡ done → ⊥
    heaviest-full few t v = omega (arith, heaviest-checked t v)

    pub heaviest-unplanned : open_positions other < load → (lent : List ℕ) → plan_given (plan_answer other lent) ≡ done → ⊥
    heaviest-unplanned few lent p = heaviest-full few (plan_table other lent) (planned-checks other lent p)
