-- From what the walk finds to the verdict: a word's clashes are those of its position, and the counts are how often each cell is reserved. Assumes nothing.
use mathlib.Core.Path.{◌≡◌, refl, sym, ap, ◌∙◌}
use mathlib.Core.Bool.{Bool, true, false, ◌&&◌, not}
use mathlib.Core.List.{List}
use Prim.Native.Nat.{ℕ, ◌+◌, ◌≤◌, ◌<◌, zero-le}
use native.Mathlib.Omega.{arith}
use lib.Dec.{ltb, eqb}
use lib.ListN.{length, get_or}
use borrow.Author.Tests.{lt-ltb, le-ltb, ltb-true}
use Rattle.laws.specs.Bits.{bit_at, bit_in}
use Rattle.laws.specs.Search.{first}
use Rattle.laws.proofs.Any.{any_none}
use Rattle.laws.proofs.Search.{found, missed, ended, first_passes, first-none, first-same}
use Rattle.theory.specs.Net.{Net, unblocked}
use Rattle.theory.specs.Verdict.{
  valid,
  clash,
  wrong,
  holder_at,
  barred_at,
  lowest_barred,
  second_at,
  clashes_at,
  first_at,
  lowest_clash,
  wrong_in,
  lowest_wrong,
  open_verdict,
  table_verdict,
}
use Rattle.positions.specs.Blocked.{most_positions, blocked_at, any_in}
use Rattle.site.specs.Record.{positions, fault_of}
use Rattle.site.specs.Reach.{net_in, net_of}
use Rattle.site.specs.declared.Site.{Site}
use Rattle.std.specs.Prelude.{Ok, Err}
use Rattle.words.specs.Clashes.{second_in, clashes_in, first_in}
use Rattle.checker.specs.Check.{verdict_of}
use Rattle.checker.specs.Marks.{bar_net}
use Rattle.checker.specs.declared.CheckError.TheVariants.{Clash, Count}
use Rattle.checker.proofs.Judged.{judged-by}
use Rattle.wordforms.specs.Words.{sends_at}
use Rattle.wordtable.specs.Tally.{clashing_word, CountedTo, miscounted}
use Rattle.wordtable.specs.Check.{check_words_answer}

module _ (cells n : ℕ) (loads rows words : List ℕ) where
  -- the problem, with the rows as its clash relation
  abbrev whole : Net
  whole = net_in cells n loads (bit_in rows) unblocked

  -- the lowest position whose word has two cells that clash
  abbrev lowest : ℕ
  lowest = first (λ k. clashing_word rows cells (get_or words k 0)) 0 n

  lowest-is : lowest ≡ lowest_clash whole (sends_at words)
  unfolding lowest_clash first_at clashes_at second_at first_in clashes_in second_in
  lowest-is = refl

  first-is : (p : ℕ) → first_in (get_or words p 0) rows cells ≡ first_at whole (sends_at words) p
  unfolding first_at clashes_at second_at first_in clashes_in second_in
  first-is p = refl

  second_is : (p a : ℕ) → second_in (get_or words p 0) rows cells a ≡ second_at whole (sends_at words) p a
  unfolding second_at second_in
  second_is p a = refl

  module _ {p : ℕ} (at : p ≡ lowest) where
    pub first-inside : {a : ℕ} → p < n → a ≡ first_in (get_or words p 0) rows cells → a < cells
    first-inside h f =
        rw (f, at) (ltb-true _ cells (first_passes (λ k. clashing_word rows cells (get_or words k 0)) 0 n zero-le (rw at at h)))

    pub is-clash : {a c : ℕ} → p < n → a ≡ first_in (get_or words p 0) rows cells → c ≡ second_in (get_or words p 0) rows cells a
        → Err (Clash p (a + 1) (c + 1)) ≡ verdict_of (open_verdict whole (sends_at words))
    unfolding open_verdict verdict_of
    is-clash {a} {c} h f g =
        let e : clash p a c ≡ open_verdict whole (sends_at words) =
        rw (sym (at ∙ lowest-is), lt-ltb p n h, sym (f ∙ first-is p), sym (g ∙ second_is p a)) in
        ap verdict_of e

    module _ (none : n ≤ p) (counts : List ℕ) (counted : CountedTo cells words n counts) {i : ℕ} (low : i ≡ first (miscounted counts loads) 0 cells) where
      wrong-is : i ≡ lowest_wrong whole (sends_at words)
      unfolding lowest_wrong wrong_in
      wrong-is =
          low
          ∙ first-same (miscounted counts loads) (wrong_in whole (sends_at words)) 0 cells zero-le
          (λ j l h. ap (λ (m : ℕ). not (eqb m (get_or loads j 0))) (counted.1 j h))

      pub is-count : i < cells → Err (Count (i + 1) (get_or counts i 0)) ≡ verdict_of (open_verdict whole (sends_at words))
      unfolding open_verdict verdict_of
      is-count h =
          let e : wrong i (get_or counts i 0) ≡ open_verdict whole (sends_at words) =
          rw (sym (at ∙ lowest-is), le-ltb p n none, sym wrong-is, lt-ltb i cells h, counted.1 i h) in
          ap verdict_of e

      pub is-valid : cells ≤ i → Ok tt ≡ verdict_of (open_verdict whole (sends_at words))
      unfolding open_verdict verdict_of
      is-valid h =
          let e : valid ≡ open_verdict whole (sends_at words) =
          rw (sym (at ∙ lowest-is), le-ltb p n none, sym wrong-is, le-ltb i cells h) in
          ap verdict_of e

-- ---- blocked positions

twice : (b : Bool) → b ≡ not (not b)
twice true = refl
twice false = refl

module _ (cells n : ℕ) (blocked words : List ℕ) where
  -- the test of `lowest_barred`, of a word
  pub bar-word : (k : ℕ) → (blocked_at blocked k && ltb (first (bit_at (get_or words k 0)) 0 cells) cells) ≡ barred_at (bar_net cells n blocked)
      (sends_at words) k
  unfolding barred_at holder_at
  bar-word k = ap (λ b. b && ltb (first (bit_at (get_or words k 0)) 0 cells) cells) (twice (blocked_at blocked k))

  -- where no position is blocked there is none
  pub none-barred : n ≤ most_positions → any_in blocked most_positions ≡ false → n ≡ lowest_barred (bar_net cells n blocked) (sends_at words)
  unfolding lowest_barred
  none-barred few none =
      sym (first-none (barred_at (bar_net cells n blocked) (sends_at words)) 0 n zero-le
      (λ k _ l.
      sym (bar-word k)
      ∙ ap (λ b. b && ltb (first (bit_at (get_or words k 0)) 0 cells) cells) (any_none (blocked_at blocked) most_positions none k (omega arith))))

-- what a search for the lowest such position asks
pub ruleset barred_search = (found, missed, ended, bar-word)

-- what the verdict on words uses of the walk
pub ruleset open_laws = (is-clash, is-count)

-- the check of a site with no fault and of enough words
pub words-judged : (s : Site) (w : List ℕ) → fault_of s ≡ Ok tt → positions s ≤ length w
    → verdict_of (table_verdict (net_of s) (sends_at w)) ≡ check_words_answer s w
unfolding check_words_answer
words-judged s w = judged-by s (sends_at w) (length w) (positions s)
