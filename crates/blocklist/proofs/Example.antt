-- Lists byte for byte, and which bytes are a list, computed: the format from a second side. Assumes nothing.
use mathlib.Core.Bool.{true, false}
use mathlib.Core.List.{List, [], ◌∷◌, map}
use mathlib.Core.Path.{◌≡◌, refl}
use Prim.Native.Nat.{ℕ}
use Rattle.text.specs.Decimal.{digits_of, decimal}
use Rattle.lines.specs.Match.{starts, nowhere, eaten}
use Rattle.lines.specs.Content.{more, scanned, number_read}
use Rattle.blocklist.specs.Format.{Item, all, one, range, list_text, list_has}
use Rattle.blocklist.specs.Read.{span_of, span_read, block_read, list_from, sizes_fit, read_list, bad_at}
use Rattle.std.specs.Prelude.{Ok}

-- a plant's Wi-Fi in every slot, and slot 3 on channel 1
abbrev pub wifi : List Item
wifi = record { slots = all; channels = range 11 14 } ∷ record { slots = one 3; channels = one 1 } ∷ []

-- *.11-14,3.1
pub list_written : list_text wifi ≡ 42 ∷ 46 ∷ 49 ∷ 49 ∷ 45 ∷ 49 ∷ 52 ∷ 44 ∷ 51 ∷ 46 ∷ 49 ∷ []
unfolding list_text decimal digits_of
list_written = refl

-- what it names with 16 channels: of slot 1 channels 10, 11, 14 and 15; of slot 3 channels 1 and 2; of slot 2 channel 1
pub list-named : map (list_has 4 16 wifi) (9 ∷ 10 ∷ 13 ∷ 14 ∷ 32 ∷ 33 ∷ 16 ∷ []) ≡ false ∷ true ∷ true ∷ false ∷ true ∷ false ∷ false ∷ []
unfolding list_has
list-named = refl

-- where an item ends, with 4 slots and 16 channels; nowhere where it is none
abbrev pub ends : List ℕ → ℕ
ends s = (block_read s 0 4 16).channels.next

-- 4.16 and *.* and 1-4.3 end; 5.1, 0.1, 1.17, 2-1.1, 01.1, 1-.1, *1.1, 1:1 and 1. do not
pub items-judged :
    map ends
    ((52 ∷ 46 ∷ 49 ∷ 54 ∷ [])
    ∷ (42 ∷ 46 ∷ 42 ∷ [])
    ∷ (49 ∷ 45 ∷ 52 ∷ 46 ∷ 51 ∷ [])
    ∷ (53 ∷ 46 ∷ 49 ∷ [])
    ∷ (48 ∷ 46 ∷ 49 ∷ [])
    ∷ (49 ∷ 46 ∷ 49 ∷ 55 ∷ [])
    ∷ (50 ∷ 45 ∷ 49 ∷ 46 ∷ 49 ∷ [])
    ∷ (48 ∷ 49 ∷ 46 ∷ 49 ∷ [])
    ∷ (49 ∷ 45 ∷ 46 ∷ 49 ∷ [])
    ∷ (42 ∷ 49 ∷ 46 ∷ 49 ∷ [])
    ∷ (49 ∷ 58 ∷ 49 ∷ [])
    ∷ (49 ∷ 46 ∷ [])
    ∷ [])
    ≡ 4 ∷ 3 ∷ 5 ∷ nowhere ∷ nowhere ∷ nowhere ∷ nowhere ∷ nowhere ∷ nowhere ∷ nowhere ∷ nowhere ∷ nowhere ∷ []
unfolding block_read span_read span_of number_read eaten starts scanned more decimal digits_of
items-judged = refl

-- the place of the first item that is none, with 4 slots and 16 channels: *.11-14,3.1 is read; the empty list and 1.1;2.2 are bad at 0; 1.1, and 1.1,5.1 and
-- 1.1,,2.2 at 4; 1.1,2.2,3.x at 8
pub places-told :
    map (λ s. (read_list s 4 16).answer)
    ((42 ∷ 46 ∷ 49 ∷ 49 ∷ 45 ∷ 49 ∷ 52 ∷ 44 ∷ 51 ∷ 46 ∷ 49 ∷ [])
    ∷ []
    ∷ (49 ∷ 46 ∷ 49 ∷ 59 ∷ 50 ∷ 46 ∷ 50 ∷ [])
    ∷ (49 ∷ 46 ∷ 49 ∷ 44 ∷ [])
    ∷ (49 ∷ 46 ∷ 49 ∷ 44 ∷ 53 ∷ 46 ∷ 49 ∷ [])
    ∷ (49 ∷ 46 ∷ 49 ∷ 44 ∷ 44 ∷ 50 ∷ 46 ∷ 50 ∷ [])
    ∷ (49 ∷ 46 ∷ 49 ∷ 44 ∷ 50 ∷ 46 ∷ 50 ∷ 44 ∷ 51 ∷ 46 ∷ 120 ∷ [])
    ∷ [])
    ≡ Ok tt ∷ bad_at 0 ∷ bad_at 0 ∷ bad_at 4 ∷ bad_at 4 ∷ bad_at 4 ∷ bad_at 8 ∷ []
unfolding read_list sizes_fit list_from block_read span_read span_of number_read eaten starts scanned more decimal digits_of
places-told = refl
