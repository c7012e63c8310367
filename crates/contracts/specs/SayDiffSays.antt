-- The equalities that the contracts of crate `say_diff` state: r is the answer, and x' what a lent x holds afterwards.
-- Made by tools/surface from the source.
use Rattle.std.specs.Prelude.{List, length, ℕ, ◌+◌, ◌≡◌}
use Rattle.say_diff.specs.Said.{diff_said}
use Rattle.site.specs.declared.Site.{Site}
use Rattle.std.proofs.lemmas.List.Edits.{sets}

-- say_diff::put_change_count
pub record SayDiffPutChangeCount (out : List ℕ) (at : ℕ) (site : Site) (old : List ℕ) (new : List ℕ) (r : ℕ) (out' : List ℕ) : Type 0 where
  pub answer : r ≡ at + length (diff_said site old new)
  pub out_after : out' ≡ sets out at (diff_said site old new)
