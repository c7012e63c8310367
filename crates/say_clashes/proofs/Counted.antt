-- The number in the last line is that of the lines before it. A line is said of two cells exactly where the first is the lower and they clash, and the pairs
-- that clash are counted by their higher cell. Assumes nothing.
--     line-is           when a line is said, as a test
--     lines-counted     the lines of all first cells are as many as the clashes
use Prim.Native.Nat.{ℕ, ◌+◌, ◌-◌, ◌<◌}
use mathlib.Core.Bool.{Bool, true, false, ◌&&◌}
use mathlib.Core.Path.{◌≡◌, refl, sym, ap, ◌∙◌}
use native.Mathlib.Omega.{arith}
use borrow.Author.Tests.{ltb-true, lt-ltb, le-ltb}
use lib.Dec.{ltb}
use Rattle.laws.specs.Sum.{bit, sum, count}
use Rattle.laws.proofs.Choice.{refute, alike}
use Rattle.laws.proofs.Sums.{sum-eq, sum-swap, sum-stop}
use Rattle.site.specs.Record.{up_to, fault_of}
use Rattle.site.specs.Reach.{clash_within, clash_named, clash_answer}
use Rattle.site.specs.Means.{Clashing}
use Rattle.site.specs.declared.Site.{Site}
use Rattle.site.specs.declared.Fault.{Fault}
use Rattle.std.specs.Prelude.{Result, Ok}
use Rattle.site.proofs.Faults.{up-to, up-to-is}
use Rattle.site.proofs.Means.{is-clashing, clash-only}
use Rattle.clashcount.specs.Count.{clash_count}
use Rattle.phrases.specs.declared.Phrase.{Phrase}
use Rattle.phrases.specs.declared.Phrase.TheVariants.{Silent, Row}
use Rattle.say_clashes.specs.Said.{spoke, clash_phrase, clash_line_of}
use Rattle.say_clashes.specs.Means.{ClashTold}
use Rattle.say_clashes.proofs.Truth.{clash-told}

-- a number of a cell, and its index
numbered : (n x : ℕ) → up_to n (x + 1) ≡ ltb x n
numbered n x =
    alike _ _
    (λ e. let u = up-to n (x + 1) e in lt-ltb x n (omega (arith, u.1)))
    (λ e. let l : x < n = ltb-true x n e in up-to-is n (x + 1) (omega arith, omega arith))

module _ (s : Site) (fine : fault_of s ≡ Ok tt) where
  is-named : (a b : ℕ) → Clashing s a b → clash_named s a b ≡ true
  unfolding clash_answer
  is-named a b c =
      let e : ◌≡◌ {A = Result Bool Fault} (Ok (clash_named s a b)) (Ok true) = rw fine at (clash-only s a b (Ok true) (fine, c)) in
      cc

  by_index : (a b : ℕ) → clash_named s (a + 1) (b + 1) ≡ clash_within s a b
  by_index a b =
      let p : a + 1 - 1 ≡ a = omega arith in
      let q : b + 1 - 1 ≡ b = omega arith in
      rw (numbered s.cells a, numbered s.cells b, p, q)

  told : (a b : ℕ) (w : Phrase) → ClashTold s (a + 1) (b + 1) w → spoke w ≡ clash_named s (a + 1) (b + 1)
  told a b Silent h = sym (refute _ (λ e. h (is-clashing s (a + 1) (b + 1) fine e)))
  told a b (Row row x y c d) h = sym (is-named (a + 1) (b + 1) h.2)

  pub line-is : (a b : ℕ) → b < 32 → clash_line_of s a b ≡ (ltb a b && clash_within s a b)
  unfolding clash_phrase
  line-is a b most = at (ltb a b) refl
    where
      at : (t : Bool) → ltb a b ≡ t → clash_line_of s a b ≡ (t && clash_within s a b)
      at true e = told a b (clash_phrase s.rule s.reach a b) (clash-told s fine a b (ltb-true a b e) most) ∙ by_index a b
      at false e = rw e

  -- those of one second cell
  seconds : (b : ℕ) → b < 32 → count (λ a. clash_line_of s a b) 32 ≡ count (λ a. clash_within s a b) b
  seconds b most =
      sum-eq (λ a. bit (clash_line_of s a b)) (λ a. bit (ltb a b && clash_within s a b)) 32 (λ a l. ap bit (line-is a b most))
      ∙ sum-stop (λ a. bit (ltb a b && clash_within s a b)) b 32 (omega arith) (λ a l. rw (le-ltb a b l))
      ∙ sum-eq (λ a. bit (ltb a b && clash_within s a b)) (λ a. bit (clash_within s a b)) b (λ a l. rw (lt-ltb a b l))

  pub lines-counted : sum (λ a. count (clash_line_of s a) 32) 32 ≡ clash_count s
  unfolding clash_count
  lines-counted =
      sum-swap (λ a b. bit (clash_line_of s a b)) 32 32
      ∙ sum-eq (λ b. count (λ a. clash_line_of s a b) 32) (λ b. count (λ a. clash_within s a b) b) 32 seconds
