-- What the reader's answer means, said a second time over the format alone: no word of how the reader goes.
-- proofs/Answers shows that the answer says this and nothing else.
use Rattle.std.specs.Prelude.{ℕ, ◌+◌, ◌<◌, ◌≤◌, ◌≡◌, List, ◌∷◌, ◌++◌, length}
use Rattle.flowlist.specs.List.{flow_at}
use Rattle.flowlist.specs.declared.Flow.{Flow}
use Rattle.flowsheet.specs.Format.{flow_head, flow_line, flow_sheet}

-- Each number is 0 to 65,535.
pub record FlowFits (f : Flow) : Type 0 where
  pub cell : f.cell ≤ 65535
  pub burst : f.burst ≤ 65535
  pub period : f.period ≤ 65535
  pub repeats : f.repeats ≤ 65535
  pub value : f.value ≤ 65535

-- the bytes of the sheet of these flows
abbrev pub sheet_of : List Flow → List ℕ
sheet_of fs = flow_sheet (flow_at fs) (length fs)

-- the bytes are the sheet of these flows, at most 16
pub record FlowsOf (b : List ℕ) (fs : List Flow) : Type 0 where
  pub few : length fs ≤ 16
  pub fits : (i : ℕ) → i < length fs → FlowFits (flow_at fs i)
  pub bytes : b ≡ sheet_of fs

-- 17 gives the first line that is not so, from 1: line l of the bytes b
pub data FirstBadOfFlows (b : List ℕ) (l : ℕ) : Type 0 where
  -- b does not begin with the first line
  no_first_line : l ≡ 1 → ((r : List ℕ) → b ≡ flow_head ++ r → ⊥) → FirstBadOfFlows b l
  -- the sheet of fewer than 16 flows stands there and something after it, which is no line of a flow
  no_flow_line : (fs : List Flow) (x : ℕ) (rest : List ℕ) → l ≡ length fs + 2 → length fs < 16 → ((i : ℕ) → i < length fs → FlowFits (flow_at fs i))
      → b ≡ sheet_of fs ++ (x ∷ rest) → ((f : Flow) (r : List ℕ) → FlowFits f → x ∷ rest ≡ flow_line f ++ r → ⊥) → FirstBadOfFlows b l

-- A line after the sixteenth flow's is 18, whatever stands in it.
pub record TooManyFlows (b : List ℕ) : Type 0 where
  pub flows : List Flow
  pub sixteen : length flows ≡ 16
  pub fits : (i : ℕ) → i < length flows → FlowFits (flow_at flows i)
  pub next : ℕ
  pub rest : List ℕ
  pub bytes : b ≡ sheet_of flows ++ (next ∷ rest)
