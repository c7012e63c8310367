-- What is asked of a cell's clash row is what the theory asks of the problem that the rows state. Assumes nothing.
use Prim.Native.Nat.{ℕ, ◌+◌, ◌≤◌, ◌<◌}
use mathlib.Core.Bool.{Bool, true, false, not, ◌&&◌}
use mathlib.Core.List.{List}
use mathlib.Core.Logic.{⊎_elim}
use mathlib.Core.Path.{◌≡◌, refl, sym, ap, ap₂, fun_ext, ◌∙◌}
use borrow.Author.Tests.{lt-ltb, le-ltb}
use lib.Bits.{bit_and}
use lib.Dec.{ltb}
use lib.ListN.{get_or}
use Rattle.laws.specs.Bits.{bit_at, bit_in}
use Rattle.laws.specs.Choice.{pick}
use Rattle.laws.specs.Search.{first}
use Rattle.laws.proofs.Bits.{bit-and}
use Rattle.laws.proofs.Choice.{cases}
use Rattle.laws.proofs.Search.{found, missed, ended, first-most}
use Rattle.theory.specs.Net.{Net}
use Rattle.theory.specs.Verdict.{gap, break_of, near_to, second, splits, split_of, first_split}
use Rattle.chainwords.specs.Chain.{Mirrored, chain_in, gap_in, break_in, far_in, split_in, first_split_in}
use Rattle.chainwords.proofs.Laws.{break-short, break-none, second-same, split-same, first-split-same}

-- the gap that is asked of a row is not past c
pub gap-row-most : (row who a c : ℕ) → a + 1 ≤ c → gap_in row who a c ≤ c
unfolding gap_in
gap-row-most row who a c h = first-most (λ b. bit_at who b && not (bit_at row b)) (a + 1) c h

module _ (rows : List ℕ) (who n a : ℕ) where
  pub gap_row : (c : ℕ) → gap_in (get_or rows a 0) who a c ≡ gap (chain_in n (bit_in rows)) (bit_at who) a c
  unfolding gap gap_in
  gap_row c = refl

  pub break-row : a < n → break_in (get_or rows a 0) who a n ≡ break_of (chain_in n (bit_in rows)) (bit_at who) a
  unfolding break_in
  break-row h = ⊎_elim does spare (cases (bit_at who a))
    where
      does : bit_at who a ≡ true → break_in (get_or rows a 0) who a n ≡ break_of (chain_in n (bit_in rows)) (bit_at who) a
      does e =
          ap (λ t. pick t (first (λ c. bit_at who c && bit_in rows a c) (gap_in (get_or rows a 0) who a n) n) n) e
          ∙ ap (λ (k : ℕ). first (λ c. bit_at who c && bit_in rows a c) k n) (gap_row n)
          ∙ sym (break-short (chain_in n (bit_in rows)) (bit_at who) a h e)

      spare : bit_at who a ≡ false → break_in (get_or rows a 0) who a n ≡ break_of (chain_in n (bit_in rows)) (bit_at who) a
      spare e =
          ap (λ t. pick t (first (λ c. bit_at who c && bit_in rows a c) (gap_in (get_or rows a 0) who a n) n) n) e
          ∙ sym (break-none (chain_in n (bit_in rows)) (bit_at who) a h e)

-- what a search for a break asks, and one for a split
pub ruleset break_laws = (found, missed, ended, break-row, lt-ltb, le-ltb)

pub ruleset split_laws = (found, missed, ended, lt-ltb, le-ltb)

-- rows that state a symmetric relation
pub mirrored-by : (rows : List ℕ) (clash : ℕ → ℕ → Bool) → bit_in rows ≡ clash → ((a b : ℕ) → clash a b ≡ clash b a) → Mirrored rows
mirrored-by rows clash e same a b = ap (λ (r : ℕ → ℕ → Bool). r a b) e ∙ same a b ∙ sym (ap (λ (r : ℕ → ℕ → Bool). r b a) e)

-- The class asks for the lower cell first, and a row is asked for the higher one's lower cells: the same where clash is symmetric.
module _ (rows : List ℕ) (mirrored : Mirrored rows) (who n : ℕ) where
  abbrev net : Net
  net = chain_in n (bit_in rows)

  near-row : (i b : ℕ) → bit_at (bit_and who (get_or rows i 0)) b ≡ near_to net (bit_at who) i b
  near-row i b = bit-and who (get_or rows i 0) b ∙ ap (λ t. bit_at who b && t) (mirrored i b)

  second-row : (i a : ℕ) → gap_in (get_or rows a 0) (bit_and who (get_or rows i 0)) a i ≡ second net (bit_at who) i a
  unfolding gap_in second
  second-row i a = ap (λ (p : ℕ → Bool). first p (a + 1) i) (fun_ext (λ b. ap (λ t. t && not (bit_in rows a b)) (near-row i b)))

  split-row : (i : ℕ) → split_in rows who i ≡ split_of net (bit_at who) i
  unfolding split_in far_in split_of splits
  split-row i =
      ap (λ (p : ℕ → Bool). pick (bit_at who i) (first p 0 i) i)
      (fun_ext (λ a. ap₂ (λ t (m : ℕ). t && ltb m i) (near-row i a) (second-row i a)))

  first-split-row : first_split_in rows who n ≡ first_split net (bit_at who)
  unfolding first_split_in first_split
  first-split-row = ap (λ (p : ℕ → Bool). first p 0 n) (fun_ext (λ i. ap (λ (m : ℕ). ltb m i) (split-row i)))

-- The searches of the class over rows that state a problem's clashes, and a word that says who counts, find what the theory names.
module _ (s : Net) (rows : List ℕ) (relation : bit_in rows ≡ s.clash) (same : (a b : ℕ) → s.clash a b ≡ s.clash b a) (word : ℕ) (who : ℕ → Bool)
    (agree : (i : ℕ) → i < s.cells → bit_at word i ≡ who i) where
  mirrored : Mirrored rows
  mirrored = mirrored-by rows s.clash relation same

  pub first-split-is : first_split_in rows word s.cells ≡ first_split s who
  unfolding first_split split_of splits second
  first-split-is =
      first-split-row rows mirrored word s.cells
      ∙ ap (λ (r : ℕ → ℕ → Bool). first_split (chain_in s.cells r) (bit_at word)) relation
      ∙ first-split-same s (bit_at word) who agree

  pub split-is : (i : ℕ) → i < s.cells → split_in rows word i ≡ split_of s who i
  unfolding split_of splits second
  split-is i h =
      split-row rows mirrored word s.cells i
      ∙ ap (λ (r : ℕ → ℕ → Bool). split_of (chain_in s.cells r) (bit_at word) i) relation
      ∙ split-same s (bit_at word) who agree i h

  pub second_is : (i a : ℕ) → a < i → i < s.cells → gap_in (get_or rows a 0) (bit_and word (get_or rows i 0)) a i ≡ second s who i a
  unfolding second
  second_is i a l h =
      second-row rows mirrored word s.cells i a
      ∙ ap (λ (r : ℕ → ℕ → Bool). second (chain_in s.cells r) (bit_at word) i a) relation
      ∙ second-same s (bit_at word) who agree i a l h
