-- The equalities that the contracts of crate `places` state: r is the answer, and x' what a lent x holds afterwards.
-- Made by tools/surface from the source.
use Rattle.std.specs.Prelude.{List, length, ℕ, ◌+◌, ◌≡◌}
use Rattle.phrases.specs.Phrases.{phrase}
use Rattle.phrases.specs.declared.Phrase.TheVariants.{Row}
use Rattle.places.specs.Lines.{spread_head_row, spread_lines}
use Rattle.places.specs.Places.{place_of, place_said, spread_line}
use Rattle.places.specs.declared.PlaceShown.{PlaceShown}
use Rattle.site.specs.declared.Site.{Site}
use Rattle.std.proofs.lemmas.List.Edits.{sets}

-- places::place_at
pub record PlacesPlaceAt (site : Site) (table : List ℕ) (clash : List ℕ) (k : ℕ) (r : PlaceShown) : Type 0 where
  pub answer : r ≡ place_of site table k

-- places::put_place
pub record PlacesPutPlace (out : List ℕ) (at : ℕ) (place : PlaceShown) (r : ℕ) (out' : List ℕ) : Type 0 where
  pub answer : r ≡ at + length (place_said place)
  pub out_after : out' ≡ sets out at (place_said place)

-- places::put_spread_head
pub record PlacesPutSpreadHead (out : List ℕ) (r : ℕ) (out' : List ℕ) : Type 0 where
  pub answer : r ≡ 0 + length (phrase spread_lines (Row spread_head_row 0 0 0 0))
  pub out_after : out' ≡ sets out 0 (phrase spread_lines (Row spread_head_row 0 0 0 0))

-- places::put_spread
pub record PlacesPutSpread (out : List ℕ) (site : Site) (table : List ℕ) (k : ℕ) (r : ℕ) (out' : List ℕ) : Type 0 where
  pub answer : r ≡ 0 + length (spread_line site table k)
  pub out_after : out' ≡ sets out 0 (spread_line site table k)
