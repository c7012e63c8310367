-- The equalities that the contracts of crate `say_why` state: r is the answer, and x' what a lent x holds afterwards.
-- Made by tools/surface from the source.
use Rattle.std.specs.Prelude.{List, length, ℕ, ◌+◌, ◌≡◌}
use Rattle.planner.specs.Plan.{plan_table}
use Rattle.site.specs.declared.Site.{Site}
use Rattle.std.proofs.lemmas.List.Edits.{sets}
use Rattle.why.specs.Said.{fewest, why_said}

-- say_why::fewest
pub record SayWhyFewest (n : ℕ) (f : ℕ) (r : ℕ) : Type 0 where
  pub answer : r ≡ fewest n f

-- say_why::put_why
pub record SayWhyPutWhy (site : Site) (table : List ℕ) (out : List ℕ) (r : ℕ) (table' : List ℕ) (out' : List ℕ) : Type 0 where
  pub answer : r ≡ 0 + length (why_said site table)
  pub out_after : out' ≡ sets out 0 (why_said site table)
  pub table_after : table' ≡ plan_table site table
