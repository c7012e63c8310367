-- How the run stood once all stretches are laid down, and what words are left:
-- the lowest cell with something left decides, by the theory's `greedy-short` and `greedy-plans`.
-- Assumes nothing.
use mathlib.Core.Path.{◌≡◌, refl, sym, ap, ◌∙◌}
use mathlib.Core.Bool.{Bool}
use mathlib.Core.List.{List, ◌++◌}
use Prim.Native.Nat.{ℕ, ◌+◌, ◌≤◌, ◌<◌, zero-le}
use native.Mathlib.Omega.{arith}
use lib.ListN.{length, get_or, drop}
use lib.Seq.{sets}
use Rattle.laws.specs.Bits.{bit_at, word_of}
use Rattle.laws.specs.Part.{list_of}
use Rattle.laws.specs.Search.{first}
use Rattle.laws.proofs.Search.{first-same}
use Rattle.laws.proofs.Stores.{sets-front, length-list, list-eq, list-zeros, sets-at, sets-next}
use Rattle.laws.proofs.Words.{word-bit, word-eq}
use Rattle.theory.specs.Net.{Net}
use Rattle.theory.specs.Greedy.{reserved, no_room, planned, greedy}
use Rattle.theory.specs.Positions.{left_at, need_at, takes, short_cell}
use Rattle.theory.proofs.Positions.{greedy-plans, greedy-short}
use Rattle.std.specs.Prelude.{Ok, Err}
use Rattle.words.specs.Words.{word_at, out_words}
use Rattle.planner.specs.Plan.{answer_of}
use Rattle.planner.specs.declared.PlanError.TheVariants.{NoRoom}
use Rattle.stretches.specs.Stretches.{laid_to, left_to}
use Rattle.site.specs.Reach.{net_by}

module _ (usable : ℕ → Bool) (rows loads : List ℕ) (cells n : ℕ) (fits : cells ≤ length loads) (words₀ words left : List ℕ) (room : n ≤ length words₀)
    (is-words : words ≡ laid_to (net_by cells n loads rows usable) n words₀) (is-left : left ≡ left_to (net_by cells n loads rows usable) n loads)
    (need : ℕ) (is-need : need ≡ word_of (need_at (net_by cells n loads rows usable) n) cells)
    (cell : ℕ) (is-cell : cell ≡ first (bit_at need) 0 cells) where
  abbrev s : Net
  s = net_by cells n loads rows usable

  cell-is : short_cell s cells ≡ cell
  cell-is =
      first-same (need_at s n) (bit_at need) 0 cells zero-le (λ i g l. sym (ap (λ x. bit_at x i) is-need ∙ word-bit (need_at s n) cells i l)) ∙ sym is-cell

  -- n words from the start on, and what was past them
  front : (f : ℕ → ℕ) → sets words₀ 0 (list_of f n) ≡ list_of f n ++ drop n words₀
  front f = sets-front words₀ (list_of f n) (omega (arith, length-list f n)) ∙ ap (λ k. list_of f n ++ drop k words₀) (length-list f n)

  module _ (short : cell < cells) where
    no_room-law : greedy s ≡ no_room cell (left_at s n cell)
    no_room-law = greedy-short s (omega (arith, cell-is)) ∙ ap (λ c. no_room c (left_at s n c)) cell-is

    pub refused : (m : ℕ) → m ≡ get_or left cell 0 → Err (NoRoom (cell + 1) m) ≡ answer_of (greedy (net_by cells n loads rows usable))
    refused m e =
        ap (λ k. Err (NoRoom (cell + 1) k)) (e ∙ ap (λ x. get_or x cell 0) is-left ∙ sets-at (left_at s n) cells loads cell short fits)
        ∙ sym (ap answer_of no_room-law)

    pub cleared : (w : List ℕ) → w ≡ sets words 0 (list_of (λ _. 0) n) → w ≡ out_words cells n (greedy (net_by cells n loads rows usable)) ++ drop n words₀
    cleared w e =
        sets-next (word_at cells (takes s)) (λ _. 0) (λ _. 0) n words₀ words w room is-words e (λ k l g. refl)
        ∙ front (λ _. 0)
        ∙ ap (λ z. z ++ drop n words₀) (list-zeros n ∙ sym (ap (out_words cells n) no_room-law))

  module _ (met : cells ≤ cell) where
    abbrev plan : (t : List ℕ) × (greedy s ≡ planned t) × ((i k : ℕ) → i < cells → k < n → reserved n t i k ≡ takes s i k)
    plan = greedy-plans s (omega (arith, cell-is))

    pub stood : Ok tt ≡ answer_of (greedy (net_by cells n loads rows usable))
    stood = sym (ap answer_of plan.1)

    pub laid-down : words ≡ out_words cells n (greedy (net_by cells n loads rows usable)) ++ drop n words₀
    laid-down =
        is-words
        ∙ front (word_at cells (takes s))
        ∙ ap (λ z. z ++ drop n words₀)
        (list-eq (word_at cells (takes s)) (word_at cells (reserved n plan.0)) n
        (λ k l. word-eq (λ i. takes s i k) (λ i. reserved n plan.0 i k) cells (λ i m. sym (plan.2 i k m l)))
        ∙ sym (ap (out_words cells n) plan.1))
