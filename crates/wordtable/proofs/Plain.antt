-- The order of words and bits in plain arithmetic, without the definitions of specs/: word k is that of position k, and cell i, from 0, weighs 2 to the power i
-- in it. Each fact is `words-say` or `bytes-at` with its tests read as equations. Assumes nothing.
use mathlib.Core.Path.{◌≡◌, sym, ap, ◌∙◌}
use mathlib.Core.List.{List}
use mathlib.Core.Logic.{◌↔◌}
use Prim.Native.Nat.{ℕ, ◌+◌, ◌*◌, ◌/◌, ◌%◌, ◌^◌, ◌≤◌, ◌<◌}
use native.Mathlib.Nat.{mod-lt}
use native.Mathlib.Omega.{arith}
use lib.Dec.{lit<}
use lib.ListN.{length, get_or, drop, get_or-append}
use borrow.Author.Tests.{eqb-true, eq-eqb}
use Rattle.laws.proofs.Bits.{digit}
use Rattle.laws.proofs.Stores.{length-list, list_at}
use Rattle.laws.proofs.Words.{word_lt}
use Rattle.theory.specs.Greedy.{reserved}
use Rattle.site.specs.Record.{positions, size, fault_of}
use Rattle.site.specs.declared.Site.{Site}
use Rattle.std.specs.Prelude.{Ok}
use Rattle.words.specs.Words.{word_at, words_of}
use Rattle.wordforms.specs.Words.{sends_at}
use Rattle.wordtable.specs.Forms.{to_words, to_bytes}
use Rattle.wordtable.proofs.Same.{words-say, bytes-at}
use Rattle.wordtable.proofs.Ways.{done-words, done-bytes}

module _ (s : Site) (t w : List ℕ) (table : size s ≤ length t) (words : positions s ≤ length w) (fine : fault_of s ≡ Ok tt) where
  -- "bit i-1 set when cell i transmits": exactly when the table's byte at i N + k is 1
  pub word-plain : (i k : ℕ) → i < s.cells → k < positions s → get_or (to_words s t w) k 0 / 2 ^ i % 2 ≡ 1 ↔ get_or t (i * positions s + k) 0 ≡ 1
  word-plain i k l h =
      let e = words-say s t w table words fine i k l h in (
        λ y. eqb-true _ 1 (sym e ∙ eq-eqb _ 1 y),
        λ y. eqb-true _ 1 (e ∙ eq-eqb _ 1 y),
      )

  -- "bits above I are .. written as 0"
  pub word_low : (k : ℕ) → k < positions s → get_or (to_words s t w) k 0 < 2 ^ s.cells
  word_low k h =
      let cells = s.cells in
      let res = reserved (positions s) t in
      let e = ap (λ (x : List ℕ). get_or x k 0) (done-words s t w fine table words)
      ∙ get_or-append (words_of cells (positions s) res) (drop (positions s) w) 0 k (omega (arith, length-list (word_at cells res) (positions s)))
      ∙ list_at (word_at cells res) (positions s) k h in
      rw e (word_lt (λ i. res i k) cells)

  -- and the other way: the byte at i N + k is bit i of word k, as a number
  pub byte-plain : (i k : ℕ) → i < s.cells → k < positions s → get_or (to_bytes s w t) (i * positions s + k) 0 ≡ get_or w k 0 / 2 ^ i % 2
  byte-plain i k l h =
      ap (λ (x : List ℕ). get_or x (i * positions s + k) 0) (done-bytes s t w fine table words)
      ∙ bytes-at s.cells (positions s) (sends_at w) (drop (size s) t) i k l h
      ∙ sym (digit (get_or w k 0 / 2 ^ i % 2) (mod-lt _ (lit< tt)))
