-- For any arguments one answer and one content of what is lent meet the contract, and no other, in crate `blocklist`: by its equalities alone.
-- Made by tools/surface from the source. Assumes nothing.
use Rattle.std.specs.Prelude.{List, refl, ℕ, ◌≡◌}
use Rattle.blocklist.specs.Read.{read_list}
use Rattle.blocklist.specs.declared.ListRead.{ListRead}
use Rattle.contracts.specs.BlocklistSays.{BlocklistReadList}

-- blocklist::read_list
pub blocklist_read_list-one : (bytes : List ℕ) (slots : ℕ) (channels : ℕ)
    → (r : ListRead) × (BlocklistReadList bytes slots channels r)
    × ((q : ListRead) → BlocklistReadList bytes slots channels q → (q ≡ r))
blocklist_read_list-one bytes slots channels = (
  read_list bytes slots channels,
  record { answer = refl },
  λ q says. says.answer,
)
