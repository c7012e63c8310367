-- The reader of kind 6: the record read by itself.
use Rattle.std.specs.Prelude.{ℕ, List, Result, Ok, Err}
use Rattle.positions.specs.Blocked.{empty_set}
use Rattle.records.specs.Reasons.{first_reason}
use Rattle.records.specs.declared.Refusal.{Refusal}
use Rattle.blockbits.specs.Reasons.{last_reasons, blocked_or}
use Rattle.blockbits.specs.declared.BlocksRead.{BlocksRead}

-- kind 6, where a byte makes it due, and nothing after it: the set, or none beside a refusal
abbrev pub no_blocks : Result Unit Refusal → BlocksRead
no_blocks answer = record { blocked = empty_set; answer = answer }

unfoldable pub blocks_read_of : List ℕ → Result Unit Refusal → BlocksRead
blocks_read_of set (Ok u) = record { blocked = set; answer = Ok tt }
blocks_read_of set (Err r) = no_blocks (Err r)

unfoldable pub blocks_read : List ℕ → ℕ → ℕ → BlocksRead
blocks_read s at n = blocks_read_of (blocked_or s at) (first_reason (last_reasons s at n))
