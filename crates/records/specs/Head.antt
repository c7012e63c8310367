-- The head, with which every house file begins: kind 1, "cells, slots, channels, two bytes each", of length 8.
use Rattle.std.specs.Prelude.{ℕ, List, [], ◌∷◌, ◌++◌, not, length, Result}
use Rattle.site.specs.Record.{entries, size_ok}
use Rattle.records.specs.Bytes.{le16, two_bytes_each}
use Rattle.records.specs.Layout.{record_of, record_end}
use Rattle.records.specs.Reasons.{Reason, reason, first_reason, record_reasons}
use Rattle.records.specs.declared.Length.TheVariants.{Exact}
use Rattle.records.specs.declared.Refusal.{Refusal}

abbrev pub head_record : ℕ → ℕ → ℕ → List ℕ
head_record cells slots channels = record_of 1 (two_bytes_each (cells ∷ slots ∷ channels ∷ []))

-- how many bytes it takes
abbrev pub head_size : ℕ
head_size = length (head_record 0 0 0)

-- what the head of a file states: its body begins at 4
abbrev pub cells_of_head : List ℕ → ℕ
cells_of_head s = le16 s 4

abbrev pub slots_of_head : List ℕ → ℕ
slots_of_head s = le16 s 6

abbrev pub channels_of_head : List ℕ → ℕ
channels_of_head s = le16 s 8

abbrev pub entries_of_head : List ℕ → ℕ
entries_of_head s = entries (cells_of_head s) (slots_of_head s) (channels_of_head s)

-- where the record after it is due
abbrev pub after_head : List ℕ → ℕ
after_head s = record_end s 0

-- the record's reasons, "then contents: head 1"
abbrev pub head_reasons : List ℕ → List Reason
head_reasons s =
    record_reasons s 0 1 (Exact 8) ++ (reason (not (size_ok (cells_of_head s) (slots_of_head s) (channels_of_head s))) 1 0 ∷ [])

unfoldable pub head_answer : List ℕ → Result Unit Refusal
head_answer s = first_reason (head_reasons s)
