-- A table has two views, a word of cells for each position and a set of positions for each cell, and they are one: the word of a position has a cell
-- exactly where the set of the cell's row has the position. Assumes nothing.
use mathlib.Core.Path.{◌≡◌, sym, ap, ◌∙◌}
use mathlib.Core.Bool.{◌&&◌}
use mathlib.Core.List.{List}
use Prim.Native.Nat.{ℕ, ◌*◌, ◌≤◌, ◌<◌}
use native.Mathlib.Omega.{arith}
use lib.ListN.{length, get_or}
use lib.Seq.{sets}
use borrow.Author.Tests.{lt-ltb}
use Rattle.laws.specs.Bits.{bit_at}
use Rattle.laws.proofs.Stores.{list_at}
use Rattle.laws.proofs.Words.{word-bit}
use Rattle.theory.specs.Greedy.{reserved}
use Rattle.words.specs.Words.{word_at, words_of}
use Rattle.sets.specs.Sets.{in_set, set_in}
use Rattle.sets.specs.Pack.{in_cell}
use Rattle.sets.proofs.Sets.{in-set}

pub views-agree : (cells n w i k : ℕ) (table room : List ℕ) → i < cells → k < n → n ≤ 64 * w → w ≤ length room
    → in_set (sets room 0 (set_in (in_cell n table i) w)) k ≡ bit_at (get_or (words_of cells n (reserved n table)) k 0) i
views-agree cells n w i k table room cell position wide fits =
    in-set (in_cell n table i) w k room fits (omega arith)
    ∙ ap (λ b. b && reserved n table i k) (lt-ltb k n position)
    ∙ sym (ap (λ (x : ℕ). bit_at x i) (list_at (word_at cells (reserved n table)) n k position) ∙ word-bit (λ j. reserved n table j k) cells i cell)
