-- For any arguments one answer and one content of what is lent meet the contract, and no other, in crate `records`: by its equalities alone.
-- Made by tools/surface from the source. Assumes nothing.
use Rattle.std.specs.Prelude.{Bool, List, Result, [], refl, ℕ, ◌∷◌, ◌≡◌}
use Rattle.contracts.specs.RecordsSays.{RecordsHeadAnswer, RecordsLeftOver, RecordsOpen, RecordsOpenedAnswer, RecordsPutHead, RecordsPutStart, RecordsPutTwo}
use Rattle.contracts.specs.RecordsSays.{RecordsPutTwoBytes, RecordsRefuse, RecordsTwoBytes, RecordsWriteErrorFromFault}
use Rattle.records.specs.Bits.{left_over}
use Rattle.records.specs.Bytes.{le16, two_bytes_each}
use Rattle.records.specs.Head.{head_answer, head_record}
use Rattle.records.specs.Opener.{open_answer, open_at}
use Rattle.records.specs.Reasons.{refusal}
use Rattle.records.specs.declared.Length.{Length}
use Rattle.records.specs.declared.Refusal.{Refusal}
use Rattle.records.specs.declared.WriteError.{WriteError}
use Rattle.records.specs.declared.WriteError.TheVariants.{Record}
use Rattle.site.specs.declared.Fault.{Fault}
use Rattle.std.proofs.lemmas.List.Edits.{sets}

-- records::WriteError::from_fault
pub records_write_error_from_fault-one : (f : Fault)
    → (r : WriteError) × (RecordsWriteErrorFromFault f r)
    × ((q : WriteError) → RecordsWriteErrorFromFault f q → (q ≡ r))
records_write_error_from_fault-one f = (
  Record f,
  record { answer = refl },
  λ q says. says.answer,
)

-- records::refuse
pub records_refuse-one : (number : ℕ) (place : ℕ)
    → (r : Refusal) × (RecordsRefuse number place r)
    × ((q : Refusal) → RecordsRefuse number place q → (q ≡ r))
records_refuse-one number place = (
  refusal number place,
  record { answer = refl },
  λ q says. says.answer,
)

-- records::two_bytes
pub records_two_bytes-one : (s : List ℕ) (k : ℕ)
    → (r : ℕ) × (RecordsTwoBytes s k r)
    × ((q : ℕ) → RecordsTwoBytes s k q → (q ≡ r))
records_two_bytes-one s k = (
  le16 s k,
  record { answer = refl },
  λ q says. says.answer,
)

-- records::open
pub records_open-one : (s : List ℕ) (at : ℕ) (kind : ℕ) (rule : Length)
    → (r : Result (ℕ × ℕ) Refusal) × (RecordsOpen s at kind rule r)
    × ((q : Result (ℕ × ℕ) Refusal) → RecordsOpen s at kind rule q → (q ≡ r))
records_open-one s at kind rule = (
  open_at s at kind rule,
  record { answer = refl },
  λ q says. says.answer,
)

-- records::opened_answer
pub records_opened_answer-one : (o : Result (ℕ × ℕ) Refusal)
    → (r : Result Unit Refusal) × (RecordsOpenedAnswer o r)
    × ((q : Result Unit Refusal) → RecordsOpenedAnswer o q → (q ≡ r))
records_opened_answer-one o = (
  open_answer o,
  record { answer = refl },
  λ q says. says.answer,
)

-- records::head_answer
pub records_head_answer-one : (s : List ℕ)
    → (r : Result Unit Refusal) × (RecordsHeadAnswer s r)
    × ((q : Result Unit Refusal) → RecordsHeadAnswer s q → (q ≡ r))
records_head_answer-one s = (
  head_answer s,
  record { answer = refl },
  λ q says. says.answer,
)

-- records::left_over
pub records_left_over-one : (body : List ℕ) (n : ℕ)
    → (r : Bool) × (RecordsLeftOver body n r)
    × ((q : Bool) → RecordsLeftOver body n q → (q ≡ r))
records_left_over-one body n = (
  left_over body n,
  record { answer = refl },
  λ q says. says.answer,
)

-- records::put_two
pub records_put_two-one : (out : List ℕ) (at : ℕ) (a : ℕ) (b : ℕ)
    → (out' : List ℕ) × (RecordsPutTwo out at a b out')
    × ((out'' : List ℕ) → RecordsPutTwo out at a b out'' → (out'' ≡ out'))
records_put_two-one out at a b = (
  sets out at (a ∷ b ∷ []),
  record { out_after = refl },
  λ out'' says. says.out_after,
)

-- records::put_two_bytes
pub records_put_two_bytes-one : (out : List ℕ) (at : ℕ) (x : ℕ)
    → (out' : List ℕ) × (RecordsPutTwoBytes out at x out')
    × ((out'' : List ℕ) → RecordsPutTwoBytes out at x out'' → (out'' ≡ out'))
records_put_two_bytes-one out at x = (
  sets out at (two_bytes_each (x ∷ [])),
  record { out_after = refl },
  λ out'' says. says.out_after,
)

-- records::put_start
pub records_put_start-one : (out : List ℕ) (at : ℕ) (len : ℕ) (kind : ℕ)
    → (out' : List ℕ) × (RecordsPutStart out at len kind out')
    × ((out'' : List ℕ) → RecordsPutStart out at len kind out'' → (out'' ≡ out'))
records_put_start-one out at len kind = (
  sets out at (two_bytes_each (len ∷ kind ∷ [])),
  record { out_after = refl },
  λ out'' says. says.out_after,
)

-- records::put_head
pub records_put_head-one : (out : List ℕ) (cells : ℕ) (slots : ℕ) (channels : ℕ)
    → (out' : List ℕ) × (RecordsPutHead out cells slots channels out')
    × ((out'' : List ℕ) → RecordsPutHead out cells slots channels out'' → (out'' ≡ out'))
records_put_head-one out cells slots channels = (
  sets out 0 (head_record cells slots channels),
  record { out_after = refl },
  λ out'' says. says.out_after,
)
