-- What the writer's loops ask: a reader need not believe it.
use Rattle.std.specs.Prelude.{Bool, true, List, [], ◌∷◌, ◌++◌, ℕ}
use Rattle.laws.specs.Choice.{pick}
use Rattle.blocklist.specs.Format.{Item, item_text, between_byte}
use Rattle.putblocks.specs.Canon.{side_for}

-- the comma before an item, where one was written before it
abbrev pub comma_if : Bool → List ℕ
comma_if b = pick b (between_byte ∷ []) []

-- some items, where others were written before them or not
unfoldable pub more_text : Bool → List Item → List ℕ
more_text b [] = []
more_text b (i ∷ l) = (comma_if b ++ item_text i) ++ more_text true l

-- slots a to b of so many, and channels c to d of so many
abbrev pub item_for : ℕ → ℕ → ℕ → ℕ → ℕ → ℕ → Item
item_for slots a b channels c d = record { slots = side_for slots a b; channels = side_for channels c d }
