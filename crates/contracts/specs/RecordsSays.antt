-- The equalities that the contracts of crate `records` state: r is the answer, and x' what a lent x holds afterwards.
-- Made by tools/surface from the source.
use Rattle.std.specs.Prelude.{Bool, List, Result, [], ℕ, ◌∷◌, ◌≡◌}
use Rattle.records.specs.Bits.{left_over}
use Rattle.records.specs.Bytes.{le16, two_bytes_each}
use Rattle.records.specs.Head.{head_answer, head_record}
use Rattle.records.specs.Opener.{open_answer, open_at}
use Rattle.records.specs.Reasons.{refusal}
use Rattle.records.specs.declared.Length.{Length}
use Rattle.records.specs.declared.Refusal.{Refusal}
use Rattle.records.specs.declared.WriteError.{WriteError}
use Rattle.records.specs.declared.WriteError.TheVariants.{Record}
use Rattle.site.specs.declared.Fault.{Fault}
use Rattle.std.proofs.lemmas.List.Edits.{sets}

-- records::WriteError::from_fault
pub record RecordsWriteErrorFromFault (f : Fault) (r : WriteError) : Type 0 where
  pub answer : r ≡ Record f

-- records::refuse
pub record RecordsRefuse (number : ℕ) (place : ℕ) (r : Refusal) : Type 0 where
  pub answer : r ≡ refusal number place

-- records::two_bytes
pub record RecordsTwoBytes (s : List ℕ) (k : ℕ) (r : ℕ) : Type 0 where
  pub answer : r ≡ le16 s k

-- records::open
pub record RecordsOpen (s : List ℕ) (at : ℕ) (kind : ℕ) (rule : Length) (r : Result (ℕ × ℕ) Refusal) : Type 0 where
  pub answer : r ≡ open_at s at kind rule

-- records::opened_answer
pub record RecordsOpenedAnswer (o : Result (ℕ × ℕ) Refusal) (r : Result Unit Refusal) : Type 0 where
  pub answer : r ≡ open_answer o

-- records::head_answer
pub record RecordsHeadAnswer (s : List ℕ) (r : Result Unit Refusal) : Type 0 where
  pub answer : r ≡ head_answer s

-- records::left_over
pub record RecordsLeftOver (body : List ℕ) (n : ℕ) (r : Bool) : Type 0 where
  pub answer : r ≡ left_over body n

-- records::put_two
pub record RecordsPutTwo (out : List ℕ) (at : ℕ) (a : ℕ) (b : ℕ) (out' : List ℕ) : Type 0 where
  pub out_after : out' ≡ sets out at (a ∷ b ∷ [])

-- records::put_two_bytes
pub record RecordsPutTwoBytes (out : List ℕ) (at : ℕ) (x : ℕ) (out' : List ℕ) : Type 0 where
  pub out_after : out' ≡ sets out at (two_bytes_each (x ∷ []))

-- records::put_start
pub record RecordsPutStart (out : List ℕ) (at : ℕ) (len : ℕ) (kind : ℕ) (out' : List ℕ) : Type 0 where
  pub out_after : out' ≡ sets out at (two_bytes_each (len ∷ kind ∷ []))

-- records::put_head
pub record RecordsPutHead (out : List ℕ) (cells : ℕ) (slots : ℕ) (channels : ℕ) (out' : List ℕ) : Type 0 where
  pub out_after : out' ≡ sets out 0 (head_record cells slots channels)
