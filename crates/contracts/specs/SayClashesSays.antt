-- The equalities that the contracts of crate `say_clashes` state: r is the answer, and x' what a lent x holds afterwards.
-- Made by tools/surface from the source.
use Rattle.std.specs.Prelude.{List, length, ℕ, ◌+◌, ◌≡◌}
use Rattle.say_clashes.specs.Said.{clash_count_said, clashes_said}
use Rattle.site.specs.declared.Site.{Site}
use Rattle.std.proofs.lemmas.List.Edits.{sets}

-- say_clashes::put_clashes
pub record SayClashesPutClashes (out : List ℕ) (at : ℕ) (site : Site) (a : ℕ) (r : ℕ) (out' : List ℕ) : Type 0 where
  pub answer : r ≡ at + length (clashes_said site a)
  pub out_after : out' ≡ sets out at (clashes_said site a)

-- say_clashes::put_clash_count
pub record SayClashesPutClashCount (out : List ℕ) (at : ℕ) (site : Site) (r : ℕ) (out' : List ℕ) : Type 0 where
  pub answer : r ≡ at + length (clash_count_said site)
  pub out_after : out' ≡ sets out at (clash_count_said site)
