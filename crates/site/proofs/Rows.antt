-- The clash rows of an accepted record state the clash relation, everywhere: within the cells a bit is the definition's,
-- and beyond them nobody reaches and nobody is reached. So whoever is lent the rows may speak of the relation. Assumes nothing.
use Prim.Native.Nat.{ℕ, min, ◌-◌, ◌≤◌, ◌<◌}
use mathlib.Core.Bool.{Bool, true, false, ◌&&◌, and-false}
use mathlib.Core.Logic.{⊎_elim}
use mathlib.Core.Path.{◌≡◌, refl, sym, ap, ap₂, ◌∙◌, fun_ext}
use native.Mathlib.Omega.{arith}
use borrow.Author.Tests.{ltb-true, ltb-false, lt-ltb, le-ltb}
use lib.Dec.{ltb}
use lib.ListN.{length, replicate, get_or-eq_default}
use lib.Seq.{sets}
use Rattle.laws.specs.Bits.{bit_at, bit_in, word_of}
use Rattle.laws.specs.Part.{list_of}
use Rattle.laws.proofs.Choice.{cases}
use Rattle.laws.proofs.Bits.{none_in}
use Rattle.laws.proofs.Words.{word-bit, word-past, word-eq, word-within, none-word}
use Rattle.laws.proofs.Stores.{length-list, list_at, list-eq, sets-zeros}
use Rattle.reachrows.proofs.Rules.{both-none}
use Rattle.site.specs.Record.{fault_of}
use Rattle.site.specs.Reach.{reaches, clash_in, clash_of, clash_within, clash_rows}
use Rattle.site.specs.declared.Site.{Site}
use Rattle.std.specs.Prelude.{Ok}
use Rattle.site.proofs.Faults.{fine-sized}
use Rattle.site.proofs.Reach.{clash-sym}
use Rattle.site.proofs.Accepted.{fine-reach}

-- ---- the rows as the code makes them: those of the first n cells, over zeros
module _ (s : Site) where
  row : ℕ → ℕ
  row a = word_of (clash_within s a) 32

  -- I of at most 32
  short : (n : ℕ) → n ≡ s.cells → n ≤ 32 → sets (replicate 32 0) 0 (list_of (λ a. word_of (clash_of s a) n) n) ≡ clash_rows s
  unfolding clash_rows row
  short n e h =
      ap (sets (replicate 32 0) 0)
      (list-eq (λ a. word_of (clash_of s a) n) row n (λ a l.
      sym (word-within (clash_of s a) n (32 - n))
      ∙ ap₂ word_of (fun_ext (λ b. rw (sym e, lt-ltb a n l))) (omega arith)))
      ∙ sets-zeros row n 32 h (λ a l m. none-word (clash_within s a) 32 (λ b g.
      ap (λ t. t && (ltb b s.cells && clash_of s a b)) (le-ltb a s.cells (omega arith))))

  -- a record that says more than 32 cells
  long : 32 < s.cells → sets (replicate 32 0) 0 (list_of (λ a. word_of (clash_of s a) 32) 32) ≡ clash_rows s
  unfolding clash_rows row
  long h =
      ap (sets (replicate 32 0) 0)
      (list-eq (λ a. word_of (clash_of s a) 32) row 32 (λ a l.
      word-eq (clash_of s a) (clash_within s a) 32 (λ b m. rw (lt-ltb a s.cells (omega arith), lt-ltb b s.cells (omega arith)))))
      ∙ sets-zeros row 32 32 (omega arith) (λ a l m. absurd (omega arith))

  made_at : (n : ℕ) (t : Bool) → ltb 32 s.cells ≡ t → n ≡ min s.cells 32
      → sets (replicate 32 0) 0 (list_of (λ a. word_of (clash_of s a) n) n) ≡ clash_rows s
  made_at n true q e = let past : 32 < s.cells = ltb-true 32 s.cells q in
      let all : n ≡ 32 = omega arith in
      rw all (long past)
  made_at n false q e = let most : s.cells ≤ 32 = ltb-false 32 s.cells q in short n (omega arith) (omega arith)

  -- by the relation of the site's rule, whatever it is called
  pub rows_made : (clash : ℕ → ℕ → Bool) (n : ℕ) → clash ≡ clash_of s → n ≡ min s.cells 32
      → sets (replicate 32 0) 0 (list_of (λ a. word_of (clash a) n) n) ≡ clash_rows s
  rows_made clash n same e =
      ap (λ (f : ℕ → ℕ → Bool). sets (replicate 32 0) 0 (list_of (λ a. word_of (f a) n) n)) same ∙ made_at n (ltb 32 s.cells) refl e

-- ---- a relation that has nothing beyond I, in rows
module _ (s : Site) (few : s.cells ≤ 32) (none : (a b : ℕ) → s.cells ≤ a → clash_of s a b ≡ false) where
  within-at : (a b : ℕ) (t u : Bool) → ltb a s.cells ≡ t → ltb b s.cells ≡ u → (t && (u && clash_of s a b)) ≡ clash_of s a b
  within-at a b true true p q = refl
  within-at a b true false p q = sym (clash-sym s.rule s.reach a b ∙ none b a (ltb-false b s.cells q))
  within-at a b false u p q = sym (none a b (ltb-false a s.cells p))

  within : (a b : ℕ) → clash_within s a b ≡ clash_of s a b
  within a b = within-at a b (ltb a s.cells) (ltb b s.cells) refl refl

  row-bit : (a b : ℕ) → bit_at (word_of (clash_within s a) 32) b ≡ clash_of s a b
  row-bit a b =
      ⊎_elim (λ h. word-bit (clash_within s a) 32 b (ltb-true b 32 h) ∙ within a b)
      (λ h.
      let past : 32 ≤ b = ltb-false b 32 h in
      word-past (clash_within s a) 32 b past ∙ sym (clash-sym s.rule s.reach a b ∙ none b a (omega arith)))
      (cases (ltb b 32))

  rows-bit : (a b : ℕ) → bit_in (clash_rows s) a b ≡ clash_of s a b
  unfolding clash_rows
  rows-bit a b =
      ⊎_elim (λ h. ap (λ (x : ℕ). bit_at x b) (list_at (λ c. word_of (clash_within s c) 32) 32 a (ltb-true a 32 h)) ∙ row-bit a b)
      (λ h. let past : 32 ≤ a = ltb-false a 32 h in beyond past ∙ sym (none a b (omega arith)))
      (cases (ltb a 32))
    where
      beyond : 32 ≤ a → bit_in (list_of (λ c. word_of (clash_within s c) 32) 32) a b ≡ false
      beyond h =
          simp (
            get_or-eq_default (list_of (λ c. word_of (clash_within s c) 32) 32) 0 {n = a} (omega (arith, length-list (λ c. word_of (clash_within s c) 32) 32)),
            none_in b,
          )

  relation : bit_in (clash_rows s) ≡ clash_of s
  relation = fun_ext (λ a. fun_ext (λ b. rows-bit a b))

module _ (s : Site) (fine : fault_of s ≡ Ok tt) (long : length s.reach ≡ 32) where
  -- nobody reaches from beyond I, nor to beyond I
  outside : (a b : ℕ) → (a < s.cells → b < s.cells → ⊥) → reaches s.reach a b ≡ false
  unfolding reaches
  outside a b out =
      ⊎_elim
      (λ h. ⊎_elim (λ e. let r = fine-reach s fine a b (ltb-true a 32 h) e in absurd (out r.0 r.1)) (λ e. e) (cases (reaches s.reach a b)))
      (λ h. let past : 32 ≤ a = ltb-false a 32 h in simp (get_or-eq_default s.reach 0 {n = a} (omega arith), none_in b))
      (cases (ltb a 32))

  clash-outside : (a b : ℕ) → s.cells ≤ a → clash_of s a b ≡ false
  unfolding clash_in
  clash-outside a b h =
      simp (
        outside a b (λ l m. omega arith),
        outside b a (λ l m. omega arith),
        both-none s.reach a b (λ c. outside a c (λ l m. omega arith)),
        and-false,
      )

  pub rows-clash : bit_in (clash_rows s) ≡ clash_of s
  rows-clash = relation s (fine-sized s fine).cells_most clash-outside
