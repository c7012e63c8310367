-- The equalities that the contracts of crate `say_range` state: r is the answer, and x' what a lent x holds afterwards.
-- Made by tools/surface from the source.
use Rattle.std.specs.Prelude.{List, length, ℕ, ◌+◌, ◌≡◌}
use Rattle.drawing.specs.Range.{cell_at, cell_step, circle_lines, circle_phrase, lines_of, ring_phrase}
use Rattle.phrases.specs.Phrases.{phrase}
use Rattle.site.specs.declared.Site.{Site}
use Rattle.std.proofs.lemmas.List.Edits.{sets}

-- say_range::cell_step
pub record SayRangeCellStep (site : Site) (r : ℕ) : Type 0 where
  pub answer : r ≡ cell_step site

-- say_range::cell_middle
pub record SayRangeCellMiddle (site : Site) (i : ℕ) (r : ℕ) : Type 0 where
  pub answer : r ≡ cell_at site i

-- say_range::put_lines
pub record SayRangePutLines (out : List ℕ) (at : ℕ) (site : Site) (clash : List ℕ) (a : ℕ) (r : ℕ) (out' : List ℕ) : Type 0 where
  pub answer : r ≡ at + length (lines_of site a site.cells)
  pub out_after : out' ≡ sets out at (lines_of site a site.cells)

-- say_range::put_node
pub record SayRangePutNode (out : List ℕ) (at : ℕ) (site : Site) (i : ℕ) (r : ℕ) (out' : List ℕ) : Type 0 where
  pub answer : r ≡ at + length (phrase circle_lines (circle_phrase site i))
  pub out_after : out' ≡ sets out at (phrase circle_lines (circle_phrase site i))

-- say_range::put_ring
pub record SayRangePutRing (out : List ℕ) (at : ℕ) (site : Site) (heavy : ℕ) (i : ℕ) (r : ℕ) (out' : List ℕ) : Type 0 where
  pub answer : r ≡ at + length (phrase circle_lines (ring_phrase site heavy i))
  pub out_after : out' ≡ sets out at (phrase circle_lines (ring_phrase site heavy i))
