-- The words of demands 2 and 3, over site records and tables. A site is accepted when its record has none of the faults 1, 24, 2, 3 and 20,
-- and a table is valid by the paper's Definition 1, whatever the checker says of it; that the checker says the same is a theorem.
-- Cells and positions are counted from 0.
use Rattle.std.specs.Prelude.{◌≡◌, true, false, List, ℕ, ◌+◌, ◌≤◌, ◌<◌, length}
use Rattle.laws.specs.Choice.{pick}
use Rattle.laws.specs.Sum.{count, sum}
use Rattle.theory.specs.Greedy.{Outcome, reserved}
use Rattle.theory.specs.Figure.{figure_one}
use Rattle.positions.specs.Blocked.{blocked_at, open_in}
use Rattle.site.specs.Record.{positions, load_at, fault_of, size}
use Rattle.site.specs.Reach.{clash_of, net_of}
use Rattle.site.specs.Given.{done_given}
use Rattle.site.specs.declared.Site.{Site}
use Rattle.demanded.specs.Numbers.{done}

-- "accepted": the record has no fault, number 0; one that has is 1, 24, 2, 3 or 20, and every call that takes the record refuses it with that
abbrev pub Accepted : Site → Type 0
Accepted s = done_given (fault_of s) ≡ done

-- a long enough table: a byte for each cell and position, or more
abbrev pub LongEnough : Site → List ℕ → Type 0
LongEnough s table = size s ≤ length table

-- the same of words: W6, "Refusal 4 is given when fewer than N words are lent"
abbrev pub WordsEnough : Site → List ℕ → Type 0
WordsEnough s words = positions s ≤ length words

-- Definition 1 (Valid Schedule) of 000, word for word over a site and its table. Condition 1: where a cell transmits, no cell that it clashes with does,
-- whichever is the lower. Condition 2: each cell transmits as often as its load says. W8: "a valid table reserves none of them", the blocked positions.
pub record DefinitionOne (s : Site) (t : List ℕ) : Type 0 where
  pub condition_one : (a c k : ℕ) → a < s.cells → c < s.cells → k < positions s → clash_of s a c ≡ true
      → reserved (positions s) t a k ≡ true → reserved (positions s) t c k ≡ true → ⊥
  pub condition_two : (i : ℕ) → i < s.cells → count (reserved (positions s) t i) (positions s) ≡ load_at s i
  pub condition_three : (i k : ℕ) → i < s.cells → k < positions s → reserved (positions s) t i k ≡ true → blocked_at s.blocked k ≡ false

-- W8: "N in the load test becomes the count of open positions; so does `channel-slots in all` in demand 3"
abbrev pub open_positions : Site → ℕ
open_positions s = open_in s.blocked (positions s)

-- two accepted sites with the same cells, the second with at least as many channel-slots in all, no greater load in any cell, no clash the first lacks
pub record Easier (second first : Site) : Type 0 where
  pub same_cells : second.cells ≡ first.cells
  pub as_many_channel_slots : open_positions first ≤ open_positions second
  pub no_greater_load : (i : ℕ) → i < second.cells → load_at second i ≤ load_at first i
  pub no_new_clash : (a c : ℕ) → a < second.cells → c < second.cells → clash_of second a c ≡ true → clash_of first a c ≡ true

-- "A site is chained when, for every clashing pair a < c, each b strictly between clashes with a, the EARLIER cell." W2: "the chain rule is about cells with
-- load above 0 only, as a, b and c".
abbrev pub ChainedSite : Site → Type 0
ChainedSite s =
    (a b c : ℕ) → a < b → b < c → c < s.cells → 0 < load_at s a → 0 < load_at s b → 0 < load_at s c → clash_of s a c ≡ true → clash_of s a b ≡ true

-- W9, the cells that the class is about: a is one of cell i's "loaded, lower-numbered clashing cells"
pub record LowerClashing (s : Site) (i a : ℕ) : Type 0 where
  pub below : a < i
  pub loaded : 0 < load_at s a
  pub clashes : clash_of s a i ≡ true

-- W9: "every loaded cell's loaded, lower-numbered clashing cells clash with one another." A site in this class is called nested.
abbrev pub NestedSite : Site → Type 0
NestedSite s = (i : ℕ) → i < s.cells → 0 < load_at s i
    → (a b : ℕ) → LowerClashing s i a → LowerClashing s i b → (a ≡ b → ⊥) → clash_of s a b ≡ true

-- "for each cell, its load plus the loads of its lower-numbered clashing cells is at most N (000, claim C1)." W2: "the load test skips cells with load 0".
abbrev pub ClaimOne : Site → Type 0
ClaimOne s = (i : ℕ) → i < s.cells → 0 < load_at s i → load_at s i + sum (λ j. pick (clash_of s j i) (load_at s j) 0) i ≤ open_positions s

-- the paper's greedy schedule (000, Figure 1) of a site: a table, or the cell that finds no room. Its lines stand in theory/specs/Figure.antt.
abbrev pub greedy_schedule : Site → Outcome
greedy_schedule s = figure_one (net_of s) s.slots s.channels
