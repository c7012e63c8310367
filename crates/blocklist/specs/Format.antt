-- The list of blocked positions as bytes, and what it says: "a row of `slot.channel` with commas between, each of the two a number, a range `3-5` or `*`".
use Rattle.std.specs.Prelude.{ℕ, ◌+◌, ◌/◌, ◌%◌, Bool, true, false, ◌&&◌, ◌||◌, List, [], ◌∷◌, ◌++◌, leb}
use Rattle.text.specs.Decimal.{decimal}

abbrev pub star_byte : ℕ
star_byte = 42  -- *

abbrev pub between_byte : ℕ
between_byte = 44  -- ,

abbrev pub dash_byte : ℕ
dash_byte = 45  -- -

abbrev pub dot_byte : ℕ
dot_byte = 46  -- .

-- "each of the two a number, a range `3-5` or `*`"
pub data Side : Type 0 where
  all : Side
  one : ℕ → Side
  range : ℕ → ℕ → Side

-- "`slot.channel`"
pub record Item : Type 0 where
  pub slots : Side
  pub channels : Side

abbrev pub side_text : Side → List ℕ
side_text all = star_byte ∷ []
side_text (one n) = decimal n
side_text (range a b) = decimal a ++ dash_byte ∷ decimal b

abbrev pub item_text : Item → List ℕ
item_text i = side_text i.slots ++ dot_byte ∷ side_text i.channels

-- "with commas between"
unfoldable pub list_text : List Item → List ℕ
list_text [] = []
list_text (i ∷ []) = item_text i
list_text (i ∷ (j ∷ l)) = item_text i ++ between_byte ∷ list_text (j ∷ l)

-- whether a side names a number of 1 to `most`; `*` names each
abbrev pub side_has : ℕ → Side → ℕ → Bool
side_has most all x = leb 1 x && leb x most
side_has most (one n) x = leb n x && leb x n
side_has most (range a b) x = leb a x && leb x b

-- "Slot t and channel f (from 1) have position (t-1)F + (f-1)": the slot and the channel of position k
abbrev pub slot_of : ℕ → ℕ → ℕ
slot_of channels k = k / channels + 1

abbrev pub channel_of : ℕ → ℕ → ℕ
channel_of channels k = k % channels + 1

-- whether an item names position k, on a site with so many slots and channels
abbrev pub item_has : ℕ → ℕ → Item → ℕ → Bool
item_has slots channels i k = side_has slots i.slots (slot_of channels k) && side_has channels i.channels (channel_of channels k)

-- whether some item of the list does
unfoldable pub list_has : ℕ → ℕ → List Item → ℕ → Bool
list_has slots channels [] k = false
list_has slots channels (i ∷ l) k = item_has slots channels i k || list_has slots channels l k

-- ---- which lists are good

-- "a number, a range": from 1 on, at most `most`, and not backwards
abbrev pub side_fits : ℕ → Side → Bool
side_fits most all = true
side_fits most (one n) = leb 1 n && leb n most
side_fits most (range a b) = leb 1 a && (leb a b && leb b most)

abbrev pub item_fits : ℕ → ℕ → Item → Bool
item_fits slots channels i = side_fits slots i.slots && side_fits channels i.channels

unfoldable pub list_fits : ℕ → ℕ → List Item → Bool
list_fits slots channels [] = true
list_fits slots channels (i ∷ l) = item_fits slots channels i && list_fits slots channels l
