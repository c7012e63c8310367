-- For any arguments one answer and one content of what is lent meet the contract, and no other, in crate `say_range`: by its equalities alone.
-- Made by tools/surface from the source. Assumes nothing.
use Rattle.std.specs.Prelude.{List, length, refl, ℕ, ◌+◌, ◌≡◌}
use Rattle.contracts.specs.SayRangeSays.{SayRangeCellMiddle, SayRangeCellStep, SayRangePutLines, SayRangePutNode, SayRangePutRing}
use Rattle.drawing.specs.Range.{cell_at, cell_step, circle_lines, circle_phrase, lines_of, ring_phrase}
use Rattle.phrases.specs.Phrases.{phrase}
use Rattle.site.specs.declared.Site.{Site}
use Rattle.std.proofs.lemmas.List.Edits.{sets}

-- say_range::cell_step
pub say_range_cell_step-one : (site : Site)
    → (r : ℕ) × (SayRangeCellStep site r)
    × ((q : ℕ) → SayRangeCellStep site q → (q ≡ r))
say_range_cell_step-one site = (
  cell_step site,
  record { answer = refl },
  λ q says. says.answer,
)

-- say_range::cell_middle
pub say_range_cell_middle-one : (site : Site) (i : ℕ)
    → (r : ℕ) × (SayRangeCellMiddle site i r)
    × ((q : ℕ) → SayRangeCellMiddle site i q → (q ≡ r))
say_range_cell_middle-one site i = (
  cell_at site i,
  record { answer = refl },
  λ q says. says.answer,
)

-- say_range::put_lines
pub say_range_put_lines-one : (out : List ℕ) (at : ℕ) (site : Site) (clash : List ℕ) (a : ℕ)
    → (r : ℕ) × (out' : List ℕ) × (SayRangePutLines out at site clash a r out')
    × ((q : ℕ) (out'' : List ℕ) → SayRangePutLines out at site clash a q out'' → (q ≡ r) × (out'' ≡ out'))
say_range_put_lines-one out at site clash a = (
  at + length (lines_of site a site.cells),
  sets out at (lines_of site a site.cells),
  record { answer = refl; out_after = refl },
  λ q out'' says. (says.answer, says.out_after),
)

-- say_range::put_node
pub say_range_put_node-one : (out : List ℕ) (at : ℕ) (site : Site) (i : ℕ)
    → (r : ℕ) × (out' : List ℕ) × (SayRangePutNode out at site i r out')
    × ((q : ℕ) (out'' : List ℕ) → SayRangePutNode out at site i q out'' → (q ≡ r) × (out'' ≡ out'))
say_range_put_node-one out at site i = (
  at + length (phrase circle_lines (circle_phrase site i)),
  sets out at (phrase circle_lines (circle_phrase site i)),
  record { answer = refl; out_after = refl },
  λ q out'' says. (says.answer, says.out_after),
)

-- say_range::put_ring
pub say_range_put_ring-one : (out : List ℕ) (at : ℕ) (site : Site) (heavy : ℕ) (i : ℕ)
    → (r : ℕ) × (out' : List ℕ) × (SayRangePutRing out at site heavy i r out')
    × ((q : ℕ) (out'' : List ℕ) → SayRangePutRing out at site heavy i q out'' → (q ≡ r) × (out'' ≡ out'))
say_range_put_ring-one out at site heavy i = (
  at + length (phrase circle_lines (ring_phrase site heavy i)),
  sets out at (phrase circle_lines (ring_phrase site heavy i)),
  record { answer = refl; out_after = refl },
  λ q out'' says. (says.answer, says.out_after),
)
