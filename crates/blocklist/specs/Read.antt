-- What reading a list of blocked positions answers, of any bytes s at all. The items are read from place to place; after what is not there the place is
-- `nowhere`.
use Rattle.std.specs.Prelude.{ℕ, zero, suc, Bool, ◌&&◌, ◌||◌, List, [], ◌∷◌, leb, eqb, length, Result, Ok, Err}
use Rattle.laws.specs.Choice.{pick}
use Rattle.lines.specs.Match.{nowhere, eaten}
use Rattle.lines.specs.Content.{number_read}
use Rattle.lines.specs.declared.Number.{Number}
use Rattle.positions.specs.Blocked.{blocked_at, empty_set, set_of}
use Rattle.blocklist.specs.Format.{star_byte, between_byte, dash_byte, dot_byte, slot_of, channel_of}
use Rattle.blocklist.specs.declared.Span.{Span}
use Rattle.blocklist.specs.declared.Block.{Block}
use Rattle.blocklist.specs.declared.ListRead.{ListRead}
use Rattle.blocklist.specs.declared.BadList.{BadList}

-- the numbers from `from` to `to`: not where that begins with 0 or runs backwards
unfoldable pub span_of : ℕ → ℕ → ℕ → Span
span_of from to next = record { from = from; to = to; next = pick (leb 1 from && leb from to) next nowhere }

-- "a number, a range `3-5`": the number a, and what stands after it
abbrev pub numbers_read : List ℕ → ℕ → Number → Span
numbers_read s most a = let dash = eaten s a.next (dash_byte ∷ []) in
    let b = number_read s dash most in
    pick (eqb dash nowhere) (span_of a.value a.value a.next) (span_of a.value b.value b.next)

-- "or `*`": one side of an item, read at `at`; its numbers are at most `most`
unfoldable pub span_read : List ℕ → ℕ → ℕ → Span
span_read s at most = let star = eaten s at (star_byte ∷ []) in
    pick (eqb star nowhere) (numbers_read s most (number_read s at most)) (record { from = 1; to = most; next = star })

-- "`slot.channel`": an item read at `at`
unfoldable pub block_read : List ℕ → ℕ → ℕ → ℕ → Block
block_read s at slots channels = let a = span_read s at slots in
    record { slots = a; channels = span_read s (eaten s a.next (dot_byte ∷ [])) channels }

abbrev pub in_span : Span → ℕ → Bool
in_span a x = leb a.from x && leb x a.to

-- whether position k is one of an item's
unfoldable pub covers : ℕ → Block → ℕ → Bool
covers channels b k = in_span b.slots (slot_of channels k) && in_span b.channels (channel_of channels k)

-- the set with an item's positions
unfoldable pub with_block : ℕ → Block → List ℕ → List ℕ
with_block channels b set = set_of (λ k. blocked_at set k || covers channels b k)

abbrev pub fine_list : List ℕ → ListRead
fine_list set = record { blocked = set; answer = Ok tt }

abbrev pub bad_at : ℕ → Result Unit BadList
bad_at at = Err (record { 0 = at })

abbrev pub bad_list : ℕ → ListRead
bad_list at = record { blocked = empty_set; answer = bad_at at }

-- the items from `at` on, at most n of them, where the set has those before: an item, and then the end of the list or a comma and more
unfoldable pub list_from : ℕ → List ℕ → ℕ → ℕ → List ℕ → ℕ → ListRead
list_from zero s slots channels set at = bad_list at
list_from (suc n) s slots channels set at =
    let b = block_read s at slots channels in
    let next = b.channels.next in
    let comma = eaten s next (between_byte ∷ []) in
    pick (eqb next (length s)) (fine_list (with_block channels b set))
    (pick (eqb comma nowhere) (bad_list at) (list_from n s slots channels (with_block channels b set) comma))

-- "slots T: 1 to 128; channels F: 1 to 16"
unfoldable pub sizes_fit : ℕ → ℕ → Bool
sizes_fit slots channels = leb 1 slots && (leb slots 128 && (leb 1 channels && leb channels 16))

-- the list of a site with so many slots and channels. The empty list is bad at 0, and so is any list where there can be no such site
unfoldable pub read_list : List ℕ → ℕ → ℕ → ListRead
read_list s slots channels = pick (sizes_fit slots channels) (list_from (length s) s slots channels empty_set 0) (bad_list 0)
