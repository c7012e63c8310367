-- What reading a sheet of flows answers. What a line says is taken from any bytes at all;
-- it is a line of the format where the bytes start with the line that this content gives.
-- r is the input from where the line begins.
use Rattle.std.specs.Prelude.{ℕ, zero, suc, ◌+◌, Bool, ◌&&◌, List, [], ◌∷◌, leb, eqb, length, drop, Option, Some, None, Ok, Err}
use Rattle.laws.specs.Choice.{pick}
use Rattle.text.specs.Decimal.{decimal}
use Rattle.lines.specs.Match.{starts, eaten}
use Rattle.lines.specs.Content.{scanned, number_read}
use Rattle.lines.specs.Format.{line_number}
use Rattle.lines.specs.declared.Number.{Number}
use Rattle.flowlist.specs.List.{no_flows, with_flow}
use Rattle.flowlist.specs.declared.Flow.{Flow}
use Rattle.flowlist.specs.declared.FlowList.{FlowList}
use Rattle.flowsheet.specs.Format.{flow_head, flow_line}
use Rattle.flowsheet.specs.declared.FlowRead.{FlowRead}
use Rattle.flowsheet.specs.declared.FlowsRead.{FlowsRead}
use Rattle.flowsheet.specs.declared.FlowsError.TheVariants.{BadLine, TooMany}

-- what stands after the number at the start of r and the byte after it
unfoldable pub after : List ℕ → List ℕ
after r = drop (length (decimal (scanned 0 r)) + 1) r

-- what a line says: five numbers, each after the comma of the one before
unfoldable pub flow_in : List ℕ → Flow
flow_in r =
    record {
      cell = scanned 0 r;
      burst = scanned 0 (after r);
      period = scanned 0 (after (after r));
      repeats = scanned 0 (after (after (after r)));
      value = scanned 0 (after (after (after (after r))));
    }

-- Each number is 0 to 65,535.
unfoldable pub flow_fits : Flow → Bool
flow_fits f = leb f.cell 65535 && (leb f.burst 65535 && (leb f.period 65535 && (leb f.repeats 65535 && leb f.value 65535)))

-- whether it is a line of the format
unfoldable pub flow_ok : List ℕ → Bool
flow_ok r = flow_fits (flow_in r) && starts (flow_line (flow_in r)) r

-- a number at most 65,535 read at `at`, and the byte b after it
unfoldable pub field_read : List ℕ → ℕ → ℕ → Number
field_read s at b = record { value = (number_read s at 65535).value; next = eaten s (number_read s at 65535).next (b ∷ []) }

-- a line read at `at`: its content and the place after it
unfoldable pub flow_read : List ℕ → ℕ → Option FlowRead
flow_read s at =
    pick (flow_ok (drop at s))
    (Some (record { flow = flow_in (drop at s); next = at + length (flow_line (flow_in (drop at s))) }))
    None

-- ---- the sheet. A refusal has no flows beside it

abbrev pub flows_done : FlowList → FlowsRead
flows_done l = record { flows = l; answer = Ok tt }

-- 17 gives the first line that is not so, from 1.
abbrev pub bad_flows : ℕ → FlowsRead
bad_flows line = record { flows = no_flows; answer = Err (BadLine line) }

-- A line after the sixteenth flow's is 18, whatever stands in it.
abbrev pub too_many : FlowsRead
too_many = record { flows = no_flows; answer = Err TooMany }

-- whether nothing is left
abbrev pub at_end : List ℕ → Bool
at_end r = eqb (length r) 0

-- the flows of r, where l has those before, and there is room for m more
unfoldable pub flows_from : ℕ → FlowList → List ℕ → FlowsRead
flows_from zero l r = pick (at_end r) (flows_done l) too_many
flows_from (suc m) l r =
    pick (at_end r) (flows_done l)
    (pick (flow_ok r) (flows_from m (with_flow l (flow_in r)) (drop (length (flow_line (flow_in r))) r)) (bad_flows (line_number l.count)))

unfoldable pub read_flows : List ℕ → FlowsRead
read_flows b = pick (starts flow_head b) (flows_from 16 no_flows (drop (length flow_head) b)) (bad_flows 1)
