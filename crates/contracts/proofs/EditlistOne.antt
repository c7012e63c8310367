-- For any arguments one answer and one content of what is lent meet the contract, and no other, in crate `editlist`: by its equalities alone.
-- Made by tools/surface from the source. Assumes nothing.
use Rattle.std.specs.Prelude.{List, Option, Result, refl, ℕ, ◌≡◌}
use Rattle.contracts.specs.EditlistSays.{EditlistKindOf, EditlistMakeEdit, EditlistReadEdit}
use Rattle.editlist.specs.Made.{edited_by}
use Rattle.editlist.specs.Read.{kind_of, read_edit}
use Rattle.editlist.specs.declared.Edit.{Edit}
use Rattle.editlist.specs.declared.EditError.{EditError}
use Rattle.editlist.specs.declared.EditRead.{EditRead}
use Rattle.editlist.specs.declared.Kind.{Kind}
use Rattle.site.specs.declared.Edited.{Edited}
use Rattle.site.specs.declared.Site.{Site}

-- editlist::kind_of
pub editlist_kind_of-one : (s : List ℕ)
    → (r : Option Kind) × (EditlistKindOf s r)
    × ((q : Option Kind) → EditlistKindOf s q → (q ≡ r))
editlist_kind_of-one s = (
  kind_of s,
  record { answer = refl },
  λ q says. says.answer,
)

-- editlist::read_edit
pub editlist_read_edit-one : (name : List ℕ) (value : List ℕ)
    → (r : Result EditRead EditError) × (EditlistReadEdit name value r)
    × ((q : Result EditRead EditError) → EditlistReadEdit name value q → (q ≡ r))
editlist_read_edit-one name value = (
  read_edit name value,
  record { answer = refl },
  λ q says. says.answer,
)

-- editlist::make_edit
pub editlist_make_edit-one : (site : Site) (edit : Edit)
    → (r : Edited) × (EditlistMakeEdit site edit r)
    × ((q : Edited) → EditlistMakeEdit site edit q → (q ≡ r))
editlist_make_edit-one site edit = (
  edited_by site edit,
  record { answer = refl },
  λ q says. says.answer,
)
