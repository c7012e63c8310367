-- What the greedy rows of the first cells give the next one: a position of such a row is idle exactly where neither it sends nor an earlier clashing row
-- (`planned-marked`). And clash rows that state who clashes say it both ways (`either_way`). Assumes nothing.
use mathlib.Core.Path.{◌≡◌, sym, ap, ◌∙◌}
use mathlib.Core.Bool.{Bool, true, false, ◌&&◌, ◌||◌, not}
use mathlib.Core.List.{List}
use Prim.Native.Nat.{ℕ, ◌+◌, ◌*◌, ◌<◌}
use native.Mathlib.Omega.{arith}
use lib.Dec.{eqb, ltb}
use lib.ListN.{get_or, take}
use lib.Seq.{get_or-take}
use Rattle.laws.specs.Bits.{bit_in}
use Rattle.laws.specs.Choice.{pick}
use Rattle.laws.specs.Sum.{count}
use Rattle.laws.proofs.Any.{any-eq}
use Rattle.laws.proofs.Grid.{inside}
use Rattle.theory.specs.Net.{Net, taken, free}
use Rattle.theory.specs.Greedy.{sends, reserved, row}
use Rattle.theory.proofs.Exact.{greedy-fair}
use Rattle.theory.proofs.Row.{row-at}
use Rattle.theory.proofs.Run.{run_at}
use Rattle.site.specs.Reach.{clash_of}
use Rattle.site.proofs.Reach.{clash-sym}
use Rattle.site.specs.declared.Site.{Site}
use Rattle.planrows.specs.Row.{EitherWay, RowsMarked}
use Rattle.planner.specs.Loop.{PlannedTo}

-- a byte of a greedy row, where c says whether an earlier clashing row sends, and f whether the row does
idle-byte : (c f : Bool) (b : ℕ) → b ≡ pick c 2 (pick f 1 0) → eqb b 0 ≡ not (sends b || c)
idle-byte true true b e = rw e
idle-byte true false b e = rw e
idle-byte false true b e = rw e
idle-byte false false b e = rw e

module _ (s : Net) (i : ℕ) (t : List ℕ) (is : PlannedTo s i t) where
  abbrev w : ℕ
  w = s.width

  abbrev so_far : ℕ → List ℕ
  so_far j = take (j * w) (take (i * w) t)

  -- the first rows of a part are those of the whole
  first_byte : (j p : ℕ) → j < i → p < w → get_or (take (i * w) t) (j * w + p) 0 ≡ get_or t (j * w + p) 0
  first_byte j p l h = get_or-take (i * w) t (j * w + p) 0 (inside i w j p l h)

  sent : (j m p : ℕ) → j < i → m < j → p < w → reserved w (so_far j) m p ≡ reserved w t m p
  sent j m p l k h =
      ap sends (get_or-take (j * w) (take (i * w) t) (m * w + p) 0 (inside j w m p k h) ∙ first_byte m p (omega arith) h)

  pub planned-marked : RowsMarked s.width s.clash t i
  planned-marked j l p h =
      let mine : ℕ → Bool = free s (reserved w (so_far j)) j in
      let byte : get_or t (j * w + p) 0 ≡ pick (taken s (reserved w (so_far j)) j p) 2 (pick (mine p && ltb (count mine p) (s.load j)) 1 0)
      = sym (first_byte j p l h) ∙ run_at s (row s) (greedy-fair s) i (take (i * w) t) is j p l h ∙ row-at s (so_far j) j p h in
      idle-byte (taken s (reserved w (so_far j)) j p) (mine p && ltb (count mine p) (s.load j)) (get_or t (j * w + p) 0) byte
      ∙ ap (λ c. not (reserved w t j p || c))
      (any-eq (λ m. s.clash m j && reserved w (so_far j) m p) (λ m. s.clash m j && reserved w t m p) j
      (λ m k. ap (λ b. s.clash m j && b) (sent j m p l k h)))

-- clash rows that state who clashes say it both ways
pub either_way : (s : Site) (rows : List ℕ) → bit_in rows ≡ clash_of s → EitherWay rows
either_way s rows e a b =
    ap (λ (f : ℕ → ℕ → Bool). f a b) e ∙ clash-sym s.rule s.reach a b ∙ sym (ap (λ (f : ℕ → ℕ → Bool). f b a) e)
