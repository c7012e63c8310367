-- The reasons to refuse a kind 6 record, one after the other: W8, "21, kind 6 with nothing blocked, after 14"; and the positions that it states.
use Rattle.std.specs.Prelude.{ℕ, ◌+◌, List, [], ◌∷◌, ◌++◌, ltb, length}
use Rattle.laws.specs.Choice.{pick}
use Rattle.positions.specs.Blocked.{empty_set}
use Rattle.records.specs.Bits.{bytes_for, left_over}
use Rattle.records.specs.Layout.{body_at, record_end}
use Rattle.records.specs.Reasons.{Reason, reason, record_reasons, end_reason}
use Rattle.records.specs.declared.Length.TheVariants.{Exact}
use Rattle.blockbits.specs.Blocks.{blocked_of_body, nothing_in}

-- kind 6 of n positions, due at an offset: its length, "14", "21", and then "12"
abbrev pub block_reasons : List ℕ → ℕ → ℕ → List Reason
block_reasons s at n =
    record_reasons s at 6 (Exact (2 + bytes_for n))
    ++ (reason (left_over (body_at s at) n) 14 at
    ∷ reason (nothing_in (blocked_of_body (body_at s at))) 21 at
    ∷ end_reason s (record_end s at)
    ∷ [])

-- "Any byte after kind 3 makes it due"
unfoldable pub last_reasons : List ℕ → ℕ → ℕ → List Reason
last_reasons s at n = pick (ltb at (length s)) (block_reasons s at n) []

-- the blocked positions that a record at an offset states; none where the file ends there
unfoldable pub blocked_or : List ℕ → ℕ → List ℕ
blocked_or s at = pick (ltb at (length s)) (blocked_of_body (body_at s at)) empty_set
