-- What the searches over the clash rows and the word of who counts find is what the definitions name:
-- rows state the clash relation, and below I the word says who counts.
-- Assumes nothing.
use Prim.Native.Nat.{ℕ, ◌+◌, ◌-◌, ◌*◌, ◌≤◌, ◌<◌, zero-le}
use mathlib.Core.Bool.{Bool, not, ◌&&◌}
use mathlib.Core.List.{List}
use mathlib.Core.Path.{◌≡◌, sym, ap, ap₂, ◌∙◌}
use native.Mathlib.Omega.{arith}
use borrow.Author.Tests.{ltb-true, lt-ltb, le-ltb}
use lib.Bits.{bit_and}
use lib.Dec.{ltb}
use lib.ListN.{get_or}
use Rattle.laws.specs.Bits.{bit_at, bit_in, word_of}
use Rattle.laws.specs.Choice.{pick}
use Rattle.laws.specs.Search.{first}
use Rattle.laws.specs.Most.{most}
use Rattle.laws.proofs.Choice.{both}
use Rattle.laws.proofs.Most.{most-same}
use Rattle.laws.proofs.Search.{first_passes, first-same}
use Rattle.laws.proofs.Sums.{sum-eq, count_most}
use Rattle.laws.proofs.Words.{word-bit}
use Rattle.theory.specs.Net.{Net, room, demand}
use Rattle.theory.specs.Verdict.{overloaded, lowest_over, load_verdict, asks, most_demand, gap, breaks, break_of, first_break, chain_verdict}
use Rattle.theory.specs.Verdict.{second, split_of, first_split, class_verdict}
use Rattle.site.specs.Record.{fault_of}
use Rattle.site.specs.Reach.{clash_of, net_of}
use Rattle.site.specs.declared.Site.{Site}
use Rattle.std.specs.Prelude.{Ok}
use Rattle.positions.specs.Blocked.{blocked_at, open_in}
use Rattle.site.proofs.Faults.{fine-sized, few-positions}
use Rattle.site.proofs.Reach.{clash-sym}
use Rattle.judges.specs.Judges.{counted, load_answer, chain_answer, class_answer, least_answer}
use Rattle.chainwords.specs.Chain.{chain_in, gap_in, break_in, split_in, first_split_in}
use Rattle.chainwords.proofs.Laws.{break-least, break-inside, gap_same, break-same, first-break-same}
use Rattle.chainwords.proofs.Rows.{gap_row, gap-row-most, break-row, first-split-is, split-is, second_is}
use Rattle.demands.specs.Words.{demand_at, over_in, demand_counted}
use Rattle.judges.specs.declared.LoadVerdict.TheVariants as load
use Rattle.judges.specs.declared.ChainVerdict.TheVariants as chain
use Rattle.judges.specs.declared.ClassVerdict.TheVariants as class
use Rattle.judges.specs.declared.LeastVerdict.TheVariants as least

-- ---- what the code asks: the sizes of an accepted record

pub accepted_cells : (s : Site) → fault_of s ≡ Ok tt → s.cells ≤ 32
accepted_cells s fine = (fine-sized s fine).cells_most

pub accepted_positions : (s : Site) → fault_of s ≡ Ok tt → s.slots * s.channels ≤ 2048
accepted_positions s fine = few-positions (fine-sized s fine)

pub accepted_open : (s : Site) → fault_of s ≡ Ok tt → open_in s.blocked (s.slots * s.channels) ≤ 2048
accepted_open s fine = omega (arith, count_most (λ k. not (blocked_at s.blocked k)) (s.slots * s.channels), accepted_positions s fine)

pub ruleset accepted = (accepted_cells, accepted_positions, accepted_open)

-- ---- what the code asks: where the cells that the searches over the rows name lie

pub over_room : (loads rows : List ℕ) (who room cells i d : ℕ) → i ≡ first (λ k. over_in loads (get_or rows k 0) who room k) 0 cells → i < cells
    → d ≡ demand_at loads (get_or rows i 0) i → room < d
over_room loads rows who room cells i d e h p =
    let is : room < demand_at loads (get_or rows i 0) i =
    rw e (ltb-true _ _ (both (bit_at who (first (λ k. over_in loads (get_or rows k 0) who room k) 0 cells)) _
    (first_passes (λ k. over_in loads (get_or rows k 0) who room k) 0 cells zero-le (rw e at h))).1) in
    rw p is

pub break_range : (rows : List ℕ) (who cells a c : ℕ) → a ≡ first_break (chain_in cells (bit_in rows)) (bit_at who) → a < cells
    → c ≡ break_in (get_or rows a 0) who a cells → (a < c) × (c < cells)
break_range rows who cells a c e h p =
    let low = break-least (chain_in cells (bit_in rows)) (bit_at who) a in
    let high = break-inside (chain_in cells (bit_in rows)) (bit_at who) a e h in
    let same : c ≡ break_of (chain_in cells (bit_in rows)) (bit_at who) a = p ∙ break-row rows who cells a h in
    (omega arith, omega arith)

pub gap_range : (row who a c b : ℕ) → a < c → b ≡ gap_in row who a c → b ≤ c
gap_range row who a c b h p = rw p (gap-row-most row who a c (omega arith))

pub split_range : (rows : List ℕ) (who cells i a : ℕ) → i ≡ first_split_in rows who cells → i < cells → a ≡ split_in rows who i → a < i
unfolding first_split_in
split_range rows who cells i a e h p =
    let is : split_in rows who i < i = rw e (ltb-true _ _ (first_passes (λ k. ltb (split_in rows who k) k) 0 cells zero-le (rw e at h))) in
    rw p is

-- ---- the load test

-- the cell that the load test names is over
over : (s : Net) (who : ℕ → Bool) (i : ℕ) → i ≡ lowest_over s who → i < s.cells → room s < demand s i
unfolding lowest_over overloaded
over s who i e h =
    rw e (ltb-true _ _ (both (who (lowest_over s who)) _ (first_passes (overloaded s who) 0 s.cells (omega arith) (rw e at h))).1)

-- the demand by a clash row is the definition's, since clash is symmetric
pub demand-is : (s : Site) (rows : List ℕ) → bit_in rows ≡ clash_of s → (i : ℕ) → demand_at s.loads (get_or rows i 0) i ≡ demand (net_of s) i
demand-is s rows relation i =
    ap (λ (n : ℕ). get_or s.loads i 0 + n)
    (sum-eq (λ j. pick (bit_in rows i j) (get_or s.loads j 0) 0) (λ j. pick (clash_of s j i) (get_or s.loads j 0) 0) i
    (λ j _. ap (λ t. pick t (get_or s.loads j 0) 0) (ap (λ (r : ℕ → ℕ → Bool). r i j) relation ∙ clash-sym s.rule s.reach i j)))

-- below I the word says who counts
counts-is : (s : Site) → fault_of s ≡ Ok tt → (who : ℕ) → who ≡ word_of (counted s) 32 → (i : ℕ) → i < s.cells → bit_at who i ≡ counted s i
counts-is s fine who word i h = ap (λ (w : ℕ). bit_at w i) word ∙ word-bit (counted s) 32 i (omega (arith, (fine-sized s fine).cells_most))

-- what the call answers for a record with no fault, from the cell that the search over the rows names; r is the room
module _ (s : Site) (fine : fault_of s ≡ Ok tt) (rows : List ℕ) (relation : bit_in rows ≡ clash_of s) (who : ℕ) (word : who ≡ word_of (counted s) 32)
    (r : ℕ) (all : r ≡ room (net_of s)) (i : ℕ) (e : i ≡ first (λ k. over_in s.loads (get_or rows k 0) who r k) 0 s.cells) where
  lowest-is : i ≡ lowest_over (net_of s) (counted s)
  unfolding lowest_over overloaded
  lowest-is =
      e
      ∙ first-same (λ k. over_in s.loads (get_or rows k 0) who r k) (overloaded (net_of s) (counted s)) 0 s.cells zero-le
      (λ k _ h. ap₂ ◌&&◌ (counts-is s fine who word k h) (ap₂ ltb all (demand-is s rows relation k)))

  pub load-over : i < s.cells → (r ≤ demand (net_of s) i) × (load_answer s ≡ Ok (load.Over (i + 1) (demand (net_of s) i - r)))
  unfolding load_answer load_verdict
  load-over h =
      let above : room (net_of s) < demand (net_of s) i = over (net_of s) (counted s) i lowest-is h in
      (omega arith, simp (fine, sym lowest-is, lt-ltb i s.cells h, sym all))

  pub load-none : s.cells ≤ i → load_answer s ≡ Ok load.Holds
  unfolding load_answer load_verdict
  load-none h = simp (fine, sym lowest-is, le-ltb i s.cells h)

-- ---- the judge

-- what the call answers for a record with no fault, from the cells that the searches over the rows name
module _ (s : Site) (fine : fault_of s ≡ Ok tt) (rows : List ℕ) (relation : bit_in rows ≡ clash_of s) (who : ℕ) (word : who ≡ word_of (counted s) 32)
    (a : ℕ) (e : a ≡ first_break (chain_in s.cells (bit_in rows)) (bit_at who)) where
  first-is-named : a ≡ first_break (net_of s) (counted s)
  unfolding first_break break_of breaks gap
  first-is-named =
      e
      ∙ ap (λ (r : ℕ → ℕ → Bool). first_break (chain_in s.cells r) (bit_at who)) relation
      ∙ first-break-same (net_of s) (bit_at who) (counted s) (counts-is s fine who word)

  pub chain-broken : (c b : ℕ) → a < s.cells
      → c ≡ break_in (get_or rows a 0) who a s.cells → b ≡ gap_in (get_or rows a 0) who a c
      → chain_answer s ≡ Ok (chain.Broken (a + 1) (b + 1) (c + 1))
  unfolding chain_answer chain_verdict break_of breaks gap
  chain-broken c b h p q =
      let agree = counts-is s fine who word in
      let p' : c ≡ break_of (net_of s) (counted s) a =
      p ∙ break-row rows who s.cells a h ∙ ap (λ (r : ℕ → ℕ → Bool). break_of (chain_in s.cells r) (bit_at who) a) relation
      ∙ break-same (net_of s) (bit_at who) (counted s) agree a h in
      let low = break-least (net_of s) (counted s) a in
      let high = break-inside (net_of s) (counted s) a first-is-named h in
      let q' : b ≡ gap (net_of s) (counted s) a c =
      q ∙ gap_row rows who s.cells a c ∙ ap (λ (r : ℕ → ℕ → Bool). gap (chain_in s.cells r) (bit_at who) a c) relation
      ∙ gap_same (net_of s) (bit_at who) (counted s) agree a c (omega arith) (omega arith) in
      simp (fine, sym first-is-named, lt-ltb a s.cells h, sym p', sym q')

  pub chain-none : s.cells ≤ a → chain_answer s ≡ Ok chain.Chained
  unfolding chain_answer chain_verdict
  chain-none h = simp (fine, sym first-is-named, le-ltb a s.cells h)

-- ---- the class

-- the first cell with two lower clashing cells that do not clash lies past its first of them
pub split-inside : (s : Net) (who : ℕ → Bool) (i : ℕ) → i ≡ first_split s who → i < s.cells → split_of s who i < i
unfolding first_split
split-inside s who i e h = rw e (ltb-true _ _ (first_passes (λ k. ltb (split_of s who k) k) 0 s.cells zero-le (rw e at h)))

-- what the call answers for a record with no fault, from the cells that the searches over the rows name
module _ (s : Site) (fine : fault_of s ≡ Ok tt) (rows : List ℕ) (relation : bit_in rows ≡ clash_of s) (who : ℕ) (word : who ≡ word_of (counted s) 32)
    (i : ℕ) (e : i ≡ first_split_in rows who s.cells) where
  pub split-is-named : i ≡ first_split (net_of s) (counted s)
  split-is-named = e ∙ first-split-is (net_of s) rows relation (clash-sym s.rule s.reach) who (counted s) (counts-is s fine who word)

  split-named : i < s.cells → split_in rows who i ≡ split_of (net_of s) (counted s) i
  split-named = split-is (net_of s) rows relation (clash-sym s.rule s.reach) who (counted s) (counts-is s fine who word) i

  -- the first of the two is below i
  pub split_below : (a : ℕ) → i < s.cells → a ≡ split_in rows who i → a < i
  split_below a h p = omega (arith, split-inside (net_of s) (counted s) i split-is-named h, p, split-named h)

  pub class-outside : (a b : ℕ) → i < s.cells → a ≡ split_in rows who i → b ≡ gap_in (get_or rows a 0) (bit_and who (get_or rows i 0)) a i
      → class_answer s ≡ Ok (class.Outside (a + 1) (b + 1) (i + 1))
  unfolding class_answer class_verdict
  class-outside a b h p q =
      let p' : a ≡ split_of (net_of s) (counted s) i = p ∙ split-named h in
      let q' : b ≡ second (net_of s) (counted s) i a =
      q ∙ second_is (net_of s) rows relation (clash-sym s.rule s.reach) who (counted s) (counts-is s fine who word) i a (split_below a h p) h in
      simp (fine, sym split-is-named, lt-ltb i s.cells h, sym p', sym q')

  pub class-none : s.cells ≤ i → class_answer s ≡ Ok class.InClass
  unfolding class_answer class_verdict
  class-none h = simp (fine, sym split-is-named, le-ltb i s.cells h)

-- ---- the least number of channel-slots

-- what the call answers for a record with no fault: n is the greatest of what the rows ask, i the first cell that shows the site outside the class
module _ (s : Site) (fine : fault_of s ≡ Ok tt) (rows : List ℕ) (relation : bit_in rows ≡ clash_of s) (who : ℕ) (word : who ≡ word_of (counted s) 32)
    (n : ℕ) (e : n ≡ most (λ i. demand_counted s.loads (get_or rows i 0) who i) s.cells)
    (i : ℕ) (d : i ≡ first_split_in rows who s.cells) where
  most-is : n ≡ most_demand (net_of s) (counted s)
  unfolding most_demand
  most-is =
      e
      ∙ most-same (λ i. demand_counted s.loads (get_or rows i 0) who i) (asks (net_of s) (counted s)) s.cells
      (λ i h. ap₂ (λ t x. pick t x 0) (counts-is s fine who word i h) (demand-is s rows relation i))

  outside-here : i ≡ first_split (net_of s) (counted s)
  outside-here = split-is-named s fine rows relation who word i d

  pub least-enough : i < s.cells → least_answer s ≡ Ok (least.Enough n)
  unfolding least_answer class_verdict
  least-enough h = simp (fine, sym outside-here, lt-ltb i s.cells h, sym most-is)

  pub least-exact : s.cells ≤ i → least_answer s ≡ Ok (least.Least n)
  unfolding least_answer class_verdict
  least-exact h = simp (fine, sym outside-here, le-ltb i s.cells h, sym most-is)
