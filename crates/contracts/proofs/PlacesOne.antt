-- For any arguments one answer and one content of what is lent meet the contract, and no other, in crate `places`: by its equalities alone.
-- Made by tools/surface from the source. Assumes nothing.
use Rattle.std.specs.Prelude.{List, length, refl, ℕ, ◌+◌, ◌≡◌}
use Rattle.contracts.specs.PlacesSays.{PlacesPlaceAt, PlacesPutPlace, PlacesPutSpread, PlacesPutSpreadHead}
use Rattle.phrases.specs.Phrases.{phrase}
use Rattle.phrases.specs.declared.Phrase.TheVariants.{Row}
use Rattle.places.specs.Lines.{spread_head_row, spread_lines}
use Rattle.places.specs.Places.{place_of, place_said, spread_line}
use Rattle.places.specs.declared.PlaceShown.{PlaceShown}
use Rattle.site.specs.declared.Site.{Site}
use Rattle.std.proofs.lemmas.List.Edits.{sets}

-- places::place_at
pub places_place_at-one : (site : Site) (table : List ℕ) (clash : List ℕ) (k : ℕ)
    → (r : PlaceShown) × (PlacesPlaceAt site table clash k r)
    × ((q : PlaceShown) → PlacesPlaceAt site table clash k q → (q ≡ r))
places_place_at-one site table clash k = (
  place_of site table k,
  record { answer = refl },
  λ q says. says.answer,
)

-- places::put_place
pub places_put_place-one : (out : List ℕ) (at : ℕ) (place : PlaceShown)
    → (r : ℕ) × (out' : List ℕ) × (PlacesPutPlace out at place r out')
    × ((q : ℕ) (out'' : List ℕ) → PlacesPutPlace out at place q out'' → (q ≡ r) × (out'' ≡ out'))
places_put_place-one out at place = (
  at + length (place_said place),
  sets out at (place_said place),
  record { answer = refl; out_after = refl },
  λ q out'' says. (says.answer, says.out_after),
)

-- places::put_spread_head
pub places_put_spread_head-one : (out : List ℕ)
    → (r : ℕ) × (out' : List ℕ) × (PlacesPutSpreadHead out r out')
    × ((q : ℕ) (out'' : List ℕ) → PlacesPutSpreadHead out q out'' → (q ≡ r) × (out'' ≡ out'))
places_put_spread_head-one out = (
  0 + length (phrase spread_lines (Row spread_head_row 0 0 0 0)),
  sets out 0 (phrase spread_lines (Row spread_head_row 0 0 0 0)),
  record { answer = refl; out_after = refl },
  λ q out'' says. (says.answer, says.out_after),
)

-- places::put_spread
pub places_put_spread-one : (out : List ℕ) (site : Site) (table : List ℕ) (k : ℕ)
    → (r : ℕ) × (out' : List ℕ) × (PlacesPutSpread out site table k r out')
    × ((q : ℕ) (out'' : List ℕ) → PlacesPutSpread out site table k q out'' → (q ≡ r) × (out'' ≡ out'))
places_put_spread-one out site table k = (
  0 + length (spread_line site table k),
  sets out 0 (spread_line site table k),
  record { answer = refl; out_after = refl },
  λ q out'' says. (says.answer, says.out_after),
)
