-- What is laid down before position k, and what a stretch more does to it:
-- for as long as the word stays, each usable position takes its cells (theory's `steady-takes`).
--     begun                    nothing is laid down, and the cells have their loads left
--     run-most, run-some       a stretch is not empty, and ends where the positions do
--     run-under                no cell of a stretch's word runs out before its end
--     more                     after a stretch, the same is so of the position where it ends
--     needed                   the word of the cells in need, by what the theory says that they have left
-- Assumes nothing.
use mathlib.Core.Path.{◌≡◌, refl, sym, ap, ap₂, ◌∙◌}
use mathlib.Core.Bool.{Bool, true, ◌&&◌}
use mathlib.Core.List.{List}
use Prim.Native.Nat.{ℕ, ◌+◌, ◌-◌, ◌≤◌, ◌<◌}
use native.Mathlib.Omega.{arith}
use native.Mathlib.Nat.{le_refl}
use lib.Dec.{ltb}
use lib.ListN.{length, get_or}
use lib.Seq.{sets, length-sets}
use borrow.Author.Tests.{ltb-true}
use Rattle.laws.specs.Bits.{bit_at, bit_in, word_of}
use Rattle.laws.specs.Choice.{pick}
use Rattle.laws.specs.Part.{list_of}
use Rattle.laws.proofs.Stores.{sets-none, sets_same, sets-at, sets-on, sets-next}
use Rattle.laws.proofs.Words.{word-bit, word-eq, word-gate}
use Rattle.theory.specs.Net.{Net}
use Rattle.theory.specs.Positions.{chosen, left_at, need_at, takes}
use Rattle.theory.proofs.Chosen.{chosen-needs, chosen-same}
use Rattle.theory.proofs.Positions.{left-start}
use Rattle.theory.proofs.Steady.{open_to, steady-left, steady-takes}
use Rattle.words.specs.Words.{word_at}
use Rattle.stretches.specs.Stretches.{laid_to, left_to, in_need, shortest, spent}
use Rattle.stretches.proofs.Runs.{shortest-most, shortest-under, shortest-some}
use Rattle.site.specs.Reach.{net_by}

-- The words of the positions below k are laid down, and `left` is what the cells have left before k.
pub record Laid (s : Net) (words₀ left₀ : List ℕ) (k : ℕ) (words left : List ℕ) : Type 0 where
  pub within : k ≤ s.width
  pub as_long : length words ≡ length words₀
  pub as_many : length left ≡ length left₀
  pub lain : words ≡ laid_to s k words₀
  pub kept : left ≡ left_to s k left₀

pub begun : (usable : ℕ → Bool) (rows words left : List ℕ) (cells n : ℕ) → cells ≤ length left → Laid (net_by cells n left rows usable) words left 0 words left
begun usable rows words left cells n h = record {
  within = omega arith;
  as_long = refl;
  as_many = refl;
  lain = sets-none _ words;
  kept = sets_same (left_at (net_by cells n left rows usable) 0) cells left h (λ i l. sym (left-start (net_by cells n left rows usable) i));
}

module _ (usable : ℕ → Bool) (rows words₀ left₀ : List ℕ) (cells n k : ℕ) (words left : List ℕ)
    (laid : Laid (net_by cells n left₀ rows usable) words₀ left₀ k words left) (fits : cells ≤ length left₀) (need : ℕ)
    (is-need : need ≡ word_of (in_need left) cells) where
  abbrev s : Net
  s = net_by cells n left₀ rows usable

  left_is : (i : ℕ) → i < cells → get_or left i 0 ≡ left_at s k i
  left_is i l = ap (λ x. get_or x i 0) laid.kept ∙ sets-at (left_at s k) cells left₀ i l fits

  pub needed : need ≡ word_of (need_at (net_by cells n left₀ rows usable) k) cells
  needed = is-need ∙ word-eq (in_need left) (need_at s k) cells (λ i l. ap (ltb 0) (left_is i l))

  -- one stretch, from what its functions ensure
  module _ (below : k < n) (word run : ℕ) (is_IsWord : word ≡ word_of (chosen (bit_in rows) (bit_at need)) cells)
      (is-run : run ≡ shortest (chosen (bit_in rows) (bit_at need)) (λ i. get_or left i 0) (n - k) cells) where
    abbrev choice : ℕ → Bool
    choice = chosen (bit_in rows) (need_at s k)

    need-is : (i : ℕ) → i < cells → bit_at need i ≡ need_at s k i
    need-is i l = ap (λ x. bit_at x i) needed ∙ word-bit (need_at s k) cells i l

    same : (i : ℕ) → i < cells → chosen (bit_in rows) (bit_at need) i ≡ choice i
    same i l = chosen-same (bit_in rows) (bit_at need) (need_at s k) i (λ j g. need-is j (omega arith))

    word-is : word ≡ word_of choice cells
    word-is = is_IsWord ∙ word-eq (chosen (bit_in rows) (bit_at need)) choice cells same

    bit_is : (i : ℕ) → i < cells → bit_at word i ≡ choice i
    bit_is i l = ap (λ x. bit_at x i) word-is ∙ word-bit choice cells i l

    pub run-most : k + run ≤ n
    run-most = omega (arith, shortest-most (chosen (bit_in rows) (bit_at need)) (λ i. get_or left i 0) (n - k) cells)

    pub run-some : 0 < run
    run-some =
        rw is-run
        (shortest-some (chosen (bit_in rows) (bit_at need)) (λ i. get_or left i 0) (n - k) cells (omega arith)
        (λ i l e. rw (left_is i l) (ltb-true 0 (left_at s k i) (chosen-needs (bit_in rows) (need_at s k) i (sym (same i l) ∙ e)))))

    enough : (i : ℕ) → i < cells → choice i ≡ true → run ≤ left_at s k i
    enough i l e = omega (
      arith,
      is-run,
      left_is i l,
      shortest-under (chosen (bit_in rows) (bit_at need)) (λ i. get_or left i 0) (n - k) cells i l
          (same i l ∙ e),
    )

    -- no cell of the word runs out before
    pub run-under : (i : ℕ) → i < cells → bit_at word i ≡ true → run ≤ get_or left i 0
    run-under i l t =
        let taken : bit_at word i ≡ chosen (bit_in rows) (bit_at need) i
        = ap (λ x. bit_at x i) is_IsWord ∙ word-bit (chosen (bit_in rows) (bit_at need)) cells i l in
        omega (arith, is-run, shortest-under (chosen (bit_in rows) (bit_at need)) (λ i. get_or left i 0) (n - k) cells i l (sym taken ∙ t))

    -- a stretch over m positions, of which no more than the run are usable
    pub more : (m : ℕ) → k + m ≤ n → open_to (net_by cells n left₀ rows usable) k m ≤ run → (words' left' : List ℕ)
        → words' ≡ sets words k (list_of (λ d. pick (usable (k + d)) word 0) m)
        → left' ≡ sets left 0 (list_of (spent left word (open_to (net_by cells n left₀ rows usable) k m)) cells)
        → Laid (net_by cells n left₀ rows usable) words₀ left₀ (k + m) words' left'
    more m inside few words' left' e d =
        let still : (i : ℕ) → i < cells → choice i ≡ true → open_to s k m ≤ left_at s k i = λ i l t. omega (arith, enough i l t) in record {
          within = inside;
          as_long = ap length e ∙ length-sets words k (list_of (λ d. pick (usable (k + d)) word 0) m) ∙ laid.as_long;
          as_many = ap length d ∙ length-sets left 0 (list_of (spent left word (open_to s k m)) cells) ∙ laid.as_many;
          lain =
              e
              ∙ sets-on (word_at cells (takes s)) (λ d. pick (usable (k + d)) word 0) k m words words₀ laid.lain
              (λ j l.
              word-eq (λ i. takes s i (k + j)) (λ i. usable (k + j) && choice i) cells (steady-takes s cells k m still j l)
              ∙ word-gate (usable (k + j)) choice cells
              ∙ ap (λ w. pick (usable (k + j)) w 0) (sym word-is));
          kept =
              sets-next (left_at s k) (spent left word (open_to s k m)) (left_at s (k + m)) cells left₀ left left' fits laid.kept d
              (λ i l g.
              ap₂ (λ x t. x - pick t (open_to s k m) 0) g (bit_is i l)
              ∙ sym (steady-left s cells k m still m (le_refl m) i l));
        }
