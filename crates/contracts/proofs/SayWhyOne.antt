-- For any arguments one answer and one content of what is lent meet the contract, and no other, in crate `say_why`: by its equalities alone.
-- Made by tools/surface from the source. Assumes nothing.
use Rattle.std.specs.Prelude.{List, length, refl, ℕ, ◌+◌, ◌≡◌}
use Rattle.contracts.specs.SayWhySays.{SayWhyFewest, SayWhyPutWhy}
use Rattle.planner.specs.Plan.{plan_table}
use Rattle.site.specs.declared.Site.{Site}
use Rattle.std.proofs.lemmas.List.Edits.{sets}
use Rattle.why.specs.Said.{fewest, why_said}

-- say_why::fewest
pub say_why_fewest-one : (n : ℕ) (f : ℕ)
    → (r : ℕ) × (SayWhyFewest n f r)
    × ((q : ℕ) → SayWhyFewest n f q → (q ≡ r))
say_why_fewest-one n f = (
  fewest n f,
  record { answer = refl },
  λ q says. says.answer,
)

-- say_why::put_why
pub say_why_put_why-one : (site : Site) (table : List ℕ) (out : List ℕ)
    → (r : ℕ) × (table' : List ℕ) × (out' : List ℕ) × (SayWhyPutWhy site table out r table' out')
    × ((q : ℕ) (table'' : List ℕ) (out'' : List ℕ) → SayWhyPutWhy site table out q table'' out'' → (q ≡ r) × (table'' ≡ table') × (out'' ≡ out'))
say_why_put_why-one site table out = (
  0 + length (why_said site table),
  plan_table site table,
  sets out 0 (why_said site table),
  record { answer = refl; table_after = refl; out_after = refl },
  λ q table'' out'' says. (says.answer, says.table_after, says.out_after),
)
