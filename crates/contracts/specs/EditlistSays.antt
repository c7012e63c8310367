-- The equalities that the contracts of crate `editlist` state: r is the answer, and x' what a lent x holds afterwards.
-- Made by tools/surface from the source.
use Rattle.std.specs.Prelude.{List, Option, Result, ℕ, ◌≡◌}
use Rattle.editlist.specs.Made.{edited_by}
use Rattle.editlist.specs.Read.{kind_of, read_edit}
use Rattle.editlist.specs.declared.Edit.{Edit}
use Rattle.editlist.specs.declared.EditError.{EditError}
use Rattle.editlist.specs.declared.EditRead.{EditRead}
use Rattle.editlist.specs.declared.Kind.{Kind}
use Rattle.site.specs.declared.Edited.{Edited}
use Rattle.site.specs.declared.Site.{Site}

-- editlist::kind_of
pub record EditlistKindOf (s : List ℕ) (r : Option Kind) : Type 0 where
  pub answer : r ≡ kind_of s

-- editlist::read_edit
pub record EditlistReadEdit (name : List ℕ) (value : List ℕ) (r : Result EditRead EditError) : Type 0 where
  pub answer : r ≡ read_edit name value

-- editlist::make_edit
pub record EditlistMakeEdit (site : Site) (edit : Edit) (r : Edited) : Type 0 where
  pub answer : r ≡ edited_by site edit
