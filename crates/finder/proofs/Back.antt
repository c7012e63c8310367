-- The plan of the renumbered site as words, and its rows in old numbers: what a word says of a cell's new number is what the plan reserves for it. And the
-- renumbered site's greedy run is that of the problem in new numbers.
-- Assumes nothing.
use mathlib.Core.Path.{◌≡◌}
use mathlib.Core.List.{List, ◌++◌}
use Prim.Native.Nat.{ℕ}
use Rattle.theory.specs.Greedy.{greedy, reserved}
use Rattle.site.specs.Record.{positions, fault_of}
use Rattle.site.specs.Reach.{net_of, is_open, clash_of}
use Rattle.site.specs.declared.Site.{Site}
use Rattle.std.specs.Prelude.{Ok}
use Rattle.words.specs.Words.{words_of}
use Rattle.wordforms.specs.Words.{sends_at, bytes_of}
use Rattle.wordtable.proofs.Same.{words-send, bytes_eq}
use Rattle.renumbering.specs.Numbering.{numbered, index_at}
use Rattle.renumbering.specs.Renumbers.{renumbered}
use Rattle.numberrows.specs.Numbers.{NamesCells}
use Rattle.numbering.specs.Renumber.{numbering_of, moved_site}
use Rattle.numbering.proofs.Moved.{moved-load, moved-clash}
use Rattle.finding.proofs.Alike.{greedy-same}

pub rows_back : (cells n : ℕ) (t x new : List ℕ) → NamesCells cells new
    → bytes_of cells n (λ i k. sends_at (words_of cells n (reserved n t) ++ x) (index_at new i) k) ≡ bytes_of cells n (λ i k. reserved n t (index_at new i) k)
rows_back cells n t x new names =
    bytes_eq cells n (λ i k. sends_at (words_of cells n (reserved n t) ++ x) (index_at new i) k) (λ i k. reserved n t (index_at new i) k)
    (λ i k l h. words-send cells n (reserved n t) x (index_at new i) k (names i l).1 h)

module _ (s : Site) (fine : fault_of s ≡ Ok tt) (new old : List ℕ) (found : numbering_of s ≡ numbered new old) where
  pub moved-greedy : greedy (net_of (moved_site s old)) ≡ greedy (renumbered (index_at old) (net_of s))
  unfolding moved_site
  moved-greedy =
      greedy-same s.cells (positions s) (is_open s.blocked) (net_of (moved_site s old)).load (λ a. (net_of s).load (index_at old a))
      (clash_of (moved_site s old)) (λ a b. clash_of s (index_at old a) (index_at old b))
      (λ a l. moved-load s fine new old found a l) (λ a b la lb. moved-clash s fine new old found a b la lb)
