-- For any arguments one answer and one content of what is lent meet the contract, and no other, in crate `listing`: by its equalities alone.
-- Made by tools/surface from the source. Assumes nothing.
use Rattle.std.specs.Prelude.{List, Result, length, refl, ℕ, ◌+◌, ◌≡◌}
use Rattle.contracts.specs.ListingSays.{ListingPutAnswers, ListingRowCount, ListingRowLine}
use Rattle.listing.specs.Answers.{head_with, row_count}
use Rattle.planner.specs.declared.PlanError.{PlanError}
use Rattle.say_listing.specs.Lines.{cell_listed}
use Rattle.site.specs.declared.Site.{Site}
use Rattle.std.proofs.lemmas.List.Edits.{sets}
use Rattle.theory.specs.Greedy.{row_at}

-- listing::row_count
pub listing_row_count-one : (reply : Result Unit PlanError) (cells : ℕ)
    → (r : ℕ) × (ListingRowCount reply cells r)
    × ((q : ℕ) → ListingRowCount reply cells q → (q ≡ r))
listing_row_count-one reply cells = (
  row_count reply cells,
  record { answer = refl },
  λ q says. says.answer,
)

-- listing::put_answers
pub listing_put_answers-one : (out : List ℕ) (site : Site) (reply : Result Unit PlanError)
    → (r : ℕ) × (out' : List ℕ) × (ListingPutAnswers out site reply r out')
    × ((q : ℕ) (out'' : List ℕ) → ListingPutAnswers out site reply q out'' → (q ≡ r) × (out'' ≡ out'))
listing_put_answers-one out site reply = (
  0 + length (head_with site reply),
  sets out 0 (head_with site reply),
  record { answer = refl; out_after = refl },
  λ q out'' says. (says.answer, says.out_after),
)

-- listing::row_line
pub listing_row_line-one : (out : List ℕ) (table : List ℕ) (width : ℕ) (channels : ℕ) (i : ℕ)
    → (r : ℕ) × (out' : List ℕ) × (ListingRowLine out table width channels i r out')
    × ((q : ℕ) (out'' : List ℕ) → ListingRowLine out table width channels i q out'' → (q ≡ r) × (out'' ≡ out'))
listing_row_line-one out table width channels i = (
  0 + length (cell_listed (i + 1) channels (row_at width table i)),
  sets out 0 (cell_listed (i + 1) channels (row_at width table i)),
  record { answer = refl; out_after = refl },
  λ q out'' says. (says.answer, says.out_after),
)
