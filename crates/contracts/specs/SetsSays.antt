-- The equalities that the contracts of crate `sets` state: r is the answer, and x' what a lent x holds afterwards.
-- Made by tools/surface from the source.
use Rattle.std.specs.Prelude.{List, get_or, ltb, not, ℕ, ◌&&◌, ◌*◌, ◌+◌, ◌-◌, ◌||◌, ◌≡◌}
use Rattle.laws.specs.Choice.{pick}
use Rattle.laws.specs.Few.{first_few}
use Rattle.laws.specs.Part.{list_of}
use Rattle.laws.specs.Sum.{count}
use Rattle.packing.specs.Packed.{in_row}
use Rattle.sets.specs.Pack.{in_cell}
use Rattle.sets.specs.Sets.{in_set, set_in}
use Rattle.std.proofs.lemmas.List.Edits.{sets}

-- sets::set_size
pub record SetsSetSize (set : List ℕ) (w : ℕ) (r : ℕ) : Type 0 where
  pub answer : r ≡ count (in_set set) (64 * w)

-- sets::keep_all
pub record SetsKeepAll (set : List ℕ) (w : ℕ) (set' : List ℕ) : Type 0 where
  pub set_after : set' ≡ sets set 0 (set_in (in_set set) w)

-- sets::take_first
pub record SetsTakeFirst (set : List ℕ) (w : ℕ) (m : ℕ) (r : ℕ) (set' : List ℕ) : Type 0 where
  pub answer : r ≡ m - count (in_set set) (64 * w)
  pub set_after : set' ≡ sets set 0 (set_in (first_few (in_set set) m) w)

-- sets::meet_of
pub record SetsMeetOf (to : List ℕ) (a : List ℕ) (b : List ℕ) (w : ℕ) (to' : List ℕ) : Type 0 where
  pub to_after : to' ≡ sets to 0 (set_in (λ k. in_set a k && in_set b k) w)

-- sets::unlike_count
pub record SetsUnlikeCount (a : List ℕ) (b : List ℕ) (w : ℕ) (r : ℕ) : Type 0 where
  pub answer : r ≡ count (λ k. pick (in_set b k) (not (in_set a k)) (in_set a k)) (64 * w)

-- sets::join_set
pub record SetsJoinSet (set : List ℕ) (with : List ℕ) (w : ℕ) (set' : List ℕ) : Type 0 where
  pub set_after : set' ≡ sets set 0 (set_in (λ k. in_set set k || in_set with k) w)

-- sets::take_away
pub record SetsTakeAway (set : List ℕ) (with : List ℕ) (at : ℕ) (w : ℕ) (set' : List ℕ) : Type 0 where
  pub set_after : set' ≡ sets set 0 (set_in (λ k. in_set set k && not (in_set with (64 * at + k))) w)

-- sets::put_set
pub record SetsPutSet (out : List ℕ) (at : ℕ) (set : List ℕ) (w : ℕ) (out' : List ℕ) : Type 0 where
  pub out_after : out' ≡ sets out at (list_of (λ j. get_or set j 0) w)

-- sets::first_positions
pub record SetsFirstPositions (set : List ℕ) (w : ℕ) (n : ℕ) (set' : List ℕ) : Type 0 where
  pub set_after : set' ≡ sets set 0 (set_in (λ k. ltb k n) w)

-- sets::pack_row
pub record SetsPackRow (set : List ℕ) (row : List ℕ) (w : ℕ) (set' : List ℕ) : Type 0 where
  pub set_after : set' ≡ sets set 0 (set_in (in_row row) w)

-- sets::pack_cell
pub record SetsPackCell (set : List ℕ) (table : List ℕ) (w : ℕ) (n : ℕ) (i : ℕ) (set' : List ℕ) : Type 0 where
  pub set_after : set' ≡ sets set 0 (set_in (in_cell n table i) w)
