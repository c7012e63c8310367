-- What is written, by the sets: where each cell stands, and where it stood. Crate `standing` says what they hold.
use Rattle.std.specs.Prelude.{◌≡◌, Bool, true, false, List, [], ◌++◌, ℕ, zero, suc, ◌+◌, ◌*◌, ◌≤◌, ◌<◌}
use Rattle.std.proofs.lemmas.List.Edits.{sets}
use Rattle.laws.specs.Sum.{count}
use Rattle.mending.specs.Changes.{differ, change, changed, changes, change_count, follow}
use Rattle.standing.specs.Sets.{stands_in}

-- the changes of cell i at b positions from `from` on, in rising position: what stands there, and what stood
unfoldable pub word_changes : (is was : ℕ → Bool) → ℕ → ℕ → ℕ → List ℕ
word_changes is was i from zero = []
word_changes is was i from (suc b) = word_changes is was i from b ++ change (is b) (was b) i (from + b)

-- how many they are
abbrev pub word_count : (is was : ℕ → Bool) → ℕ → ℕ
word_count is was b = count (λ q. differ (is q) (was q)) b

-- the number of changes of cell i, and of so many cells, by the sets
abbrev pub cell_count : ℕ → ℕ → List ℕ → List ℕ → ℕ
cell_count w i stands old = count (changed (stands_in w stands) (stands_in w old) i) (64 * w)

abbrev pub all_count : ℕ → ℕ → List ℕ → List ℕ → ℕ
all_count w cells stands old = change_count (stands_in w stands) (stands_in w old) (64 * w) cells

-- the changes of so many cells, by the sets
abbrev pub listed_in : ℕ → ℕ → List ℕ → List ℕ → List ℕ
listed_in w cells stands old = changes (stands_in w stands) (stands_in w old) (64 * w) cells

-- the table of rows of n with them made, and the list with them at its start
abbrev pub table_with : ℕ → ℕ → ℕ → List ℕ → List ℕ → List ℕ → List ℕ
table_with w cells n stands old u = follow n (listed_in w cells stands old) u

abbrev pub list_with : ℕ → ℕ → List ℕ → List ℕ → List ℕ → List ℕ
list_with w cells stands old l = sets l 0 (listed_in w cells stands old)

-- the changes of 64 positions from `from` on are among the n positions of a row
abbrev pub WordInside : (is was : ℕ → Bool) → ℕ → ℕ → Type 0
WordInside is was from n = (b : ℕ) → b < 64 → differ (is b) (was b) ≡ true → from + b < n

-- nothing changes past them, of cell i, and of so many cells
abbrev pub RowWithin : ℕ → ℕ → ℕ → List ℕ → List ℕ → Type 0
RowWithin w i n stands old = (k : ℕ) → n ≤ k → k < 64 * w → changed (stands_in w stands) (stands_in w old) i k ≡ false

abbrev pub AllWithin : ℕ → ℕ → ℕ → List ℕ → List ℕ → Type 0
AllWithin w cells n stands old = (i : ℕ) → i < cells → RowWithin w i n stands old
