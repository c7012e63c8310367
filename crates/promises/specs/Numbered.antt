-- W10, what the analyst may rely on beside the fitter: over the contracts of `renumber`, `plan` and `carry`, and in the document's numbers.
use Rattle.std.specs.Prelude.{◌≡◌, ◌↔◌, List, [], ℕ, drop, Result}
use Rattle.site.specs.Record.{size}
use Rattle.site.specs.Reach.{net_of}
use Rattle.site.specs.declared.Site.{Site}
use Rattle.planner.specs.Given.{plan_given}
use Rattle.planner.specs.declared.PlanError.{PlanError}
use Rattle.renumbering.specs.Numbering.{blank}
use Rattle.renumbering.specs.Renumbers.{Renumbers, renumbered, AlwaysClass}
use Rattle.numbering.specs.Given.{renumber_given, carry_given}
use Rattle.numbering.specs.declared.Renumbered.{Renumbered}
use Rattle.numbering.specs.declared.CarryError.{CarryError}
use Rattle.contracts.specs.NumberingSays.{Renumber, Carry}
use Rattle.contracts.specs.PlannerSays.{Plan}
use Rattle.demanded.specs.Numbers.{done, refused}
use Rattle.demanded.specs.Demands.{Accepted, LongEnough, DefinitionOne, NestedSite}
use Rattle.promises.specs.Untouched.{Refused}

-- no permutation of the cells "puts it in W9's class whatever the loads"
abbrev pub NoneNumbers : Site → Type 0
NoneNumbers site = (new old : ℕ → ℕ) → Renumbers site.cells new old → AlwaysClass (renumbered old (net_of site)) → ⊥

pub record FindTheNumbering : Type 0 where
  -- "or say that none exists, exactly when none does"
  pub none_exactly : (site : Site) → Accepted site → (found : Renumbered) → Renumber site found
      → renumber_given found.answer ≡ refused 23 [] ↔ NoneNumbers site
  -- "that puts it in W9's class whatever the loads": the renumbered site is accepted, and nested with its own loads and with any other
  pub puts_in_the_class : (site : Site) (found : Renumbered) → Renumber site found → renumber_given found.answer ≡ done
      → (Accepted found.site) × (NestedSite found.site) × (AlwaysClass (net_of found.site))
  -- "any refusal gives the site as given and numbers all 0"
  pub as_given_holds : (site : Site) (found : Renumbered) → Renumber site found → Refused (renumber_given found.answer).number
      → (found.site ≡ site) × (found.new ≡ blank 32) × (found.old ≡ blank 32)
  -- With `renumber`, `plan` and `carry` a site that can be numbered is planned exactly when any valid plan exists, however found; and then what is carried
  -- back is a valid plan of the site in its old numbers, and the bytes past it stay
  pub planned_exactly : (site : Site) (found : Renumbered) → Renumber site found → renumber_given found.answer ≡ done
      → (lent left : List ℕ) (planned : Result Unit PlanError) → LongEnough site lent → Plan found.site lent planned left
      → (to to' : List ℕ) (carried : Result Unit CarryError) → LongEnough site to → Carry site left to carried to'
      → (plan_given planned ≡ done ↔ ((any : List ℕ) × DefinitionOne site any))
      × (plan_given planned ≡ done → (carry_given carried ≡ done) × (DefinitionOne site to') × (drop (size site) to' ≡ drop (size site) to))
