-- The equalities that the contracts of crate `cleaning` state: r is the answer, and x' what a lent x holds afterwards.
-- Made by tools/surface from the source.
use Rattle.std.specs.Prelude.{List, length, take, ℕ, ◌≡◌}
use Rattle.cleaning.specs.Clean.{changes_of, cleaned}
use Rattle.cleaning.specs.declared.Tidied.{Tidied}
use Rattle.std.proofs.lemmas.List.Edits.{sets}

-- cleaning::clean
pub record CleaningClean (s : List ℕ) (out : List ℕ) (r : ℕ) (out' : List ℕ) : Type 0 where
  pub answer : r ≡ length (take (length out) (cleaned s))
  pub out_after : out' ≡ sets out 0 (take (length out) (cleaned s))

-- cleaning::changed_in
pub record CleaningChangedIn (s : List ℕ) (kind : ℕ) (r : Tidied) : Type 0 where
  pub answer : r ≡ changes_of s kind
