-- What the loops and the tests give, in the words of the definitions. Assumes nothing.
use Prim.Native.Nat.{ℕ, ◌+◌}
use mathlib.Core.Path.{◌≡◌, refl}
use mathlib.Core.List.{List, ◌++◌}
use native.Mathlib.Numerals.{add-one}
use borrow.Author.Tests.{eq-eqb, ne_eqb}
use Rattle.phrases.specs.declared.Phrase.TheVariants.{Row}
use Rattle.site.specs.declared.Site.{Site}
use Rattle.clashcount.specs.Count.{clash_count}
use Rattle.cleaning.specs.Clean.{changes_of}
use Rattle.say_sheets.specs.Said.{named_said, tidy_changes_said, made_phrase}

-- a kind of change more, as the loop counts
pub change-more : (s : List ℕ) (k : ℕ) → tidy_changes_said s (k + 1) ≡ tidy_changes_said s k ++ named_said (k + 1) (changes_of s (k + 1))
unfolding tidy_changes_said
change-more s k = rw (add-one k) refl

-- one clash, and any other number
pub made_one : (s : Site) (n : ℕ) → n ≡ clash_count s → n ≡ 1 → Row 1 s.cells s.slots s.channels n ≡ made_phrase s
made_one s n e h = rw (← e, eq-eqb n 1 h) refl

pub made_some : (s : Site) (n : ℕ) → n ≡ clash_count s → (n ≡ 1 → ⊥) → Row 0 s.cells s.slots s.channels n ≡ made_phrase s
made_some s n e h = rw (← e, ne_eqb n 1 h) refl
