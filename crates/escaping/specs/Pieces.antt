-- Where a long text may be cut into two pieces that are escaped one after the other: "a letter must not be cut in two at a piece's border". Before a byte that
-- is no tail none is; and after three tails none is either, since a letter has no more.
use Rattle.std.specs.Prelude.{ℕ, ◌-◌, List, ltb, length, get_or}
use Rattle.laws.specs.Choice.{pick}
use Rattle.escaping.specs.Letters.{is_tail}

-- how much of a text is a piece, where more may come: up to the last byte that is no tail, or all of it where the last three are tails; of fewer than three
-- bytes nothing
abbrev pub whole_part : List ℕ → ℕ
whole_part text =
    pick (ltb (length text) 3) 0
    (pick (is_tail (get_or text (length text - 1) 0))
    (pick (is_tail (get_or text (length text - 2) 0)) (pick (is_tail (get_or text (length text - 3) 0)) (length text) (length text - 3)) (length text - 2))
    (length text - 1))
