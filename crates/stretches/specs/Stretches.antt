-- What the functions of this crate say of the cells: who is in need, how long a word stays, and what a run of it leaves.
use Rattle.std.specs.Prelude.{Bool, List, ℕ, zero, suc, ◌+◌, ◌-◌, min, ltb, get_or}
use Rattle.std.proofs.lemmas.List.Edits.{sets}
use Rattle.laws.specs.Bits.{bit_at}
use Rattle.laws.specs.Choice.{pick}
use Rattle.laws.specs.Part.{list_of}
use Rattle.laws.specs.Sum.{count}
use Rattle.theory.specs.Net.{Net}
use Rattle.theory.specs.Positions.{left_at, takes}
use Rattle.site.specs.Reach.{is_open}
use Rattle.words.specs.Words.{words_of}

-- the words with those of the first k positions laid down
abbrev pub laid_to : Net → ℕ → List ℕ → List ℕ
laid_to s k words = sets words 0 (words_of s.cells k (takes s))

-- the loads with what each cell has left before position k
abbrev pub left_to : Net → ℕ → List ℕ → List ℕ
left_to s k left = sets left 0 (list_of (left_at s k) s.cells)

-- the word of a stretch d positions on from `from`: 0 where that position is blocked
abbrev pub gated : List ℕ → ℕ → ℕ → ℕ → ℕ
gated blocked from word d = pick (is_open blocked (from + d)) word 0

-- how many of m positions from `from` on are open
abbrev pub open_from : List ℕ → ℕ → ℕ → ℕ
open_from blocked from m = count (λ d. is_open blocked (from + d)) m

-- the cells that still have fragments left
abbrev pub in_need : List ℕ → ℕ → Bool
in_need left i = ltb 0 (get_or left i 0)

-- how long no cell of a word runs out: the least of m and of what those of the cells below n that pass have left
unfoldable pub shortest : (ℕ → Bool) → (ℕ → ℕ) → ℕ → ℕ → ℕ
shortest p left m zero = m
shortest p left m (suc n) = pick (p n) (min (shortest p left m n) (left n)) (shortest p left m n)

-- what cell i has left after a run of the word
abbrev pub spent : List ℕ → ℕ → ℕ → ℕ → ℕ
spent left word run i = get_or left i 0 - pick (bit_at word i) run 0
