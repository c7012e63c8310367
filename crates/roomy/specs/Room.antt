-- How much more a cell of a problem could carry: "for each cell how much more it could carry with all else as it is (exact in the class, "at least" elsewhere:
-- say which)". The load test says it: a load is in the demand of its own cell, and of the cells above it that clash with it.
use Rattle.std.specs.Prelude.{Bool, ◌&&◌, ◌||◌, ℕ, ◌+◌, ◌-◌, ltb, eqb}
use Rattle.laws.specs.Choice.{pick}
use Rattle.theory.specs.Net.{Net, loaded, room}
use Rattle.theory.specs.Verdict.{most_demand}

-- "with all else as it is": the same problem with m more in the load of cell i
abbrev pub raised : Net → ℕ → ℕ → Net
raised s i m =
    record {
      cells = s.cells;
      width = s.width;
      load = λ j. pick (eqb j i) (s.load j + m) (s.load j);
      clash = s.clash;
      usable = s.usable;
    }

-- the cells whose demand has the load of cell i in it, and that count once it has one: cell i, and the loaded cells above it that clash with it
unfoldable pub touched : Net → ℕ → ℕ → Bool
touched s i j = eqb j i || (ltb i j && (s.clash i j && loaded s j))

-- the cells that count once cell i has a load
abbrev pub counted_with : Net → ℕ → ℕ → Bool
counted_with s i j = eqb j i || loaded s j

-- What the load test leaves cell i: nothing where it fails as it is, and else what is free above the greatest of these demands.
unfoldable pub room_left : Net → ℕ → ℕ
room_left s i = pick (ltb (room s) (most_demand s (loaded s))) 0 (room s - most_demand s (touched s i))
