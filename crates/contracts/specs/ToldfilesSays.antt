-- The equalities that the contracts of crate `toldfiles` state: r is the answer, and x' what a lent x holds afterwards.
-- Made by tools/surface from the source.
use Rattle.std.specs.Prelude.{◌≡◌}
use Rattle.handheld.specs.declared.Changed.{Changed}
use Rattle.planfile.specs.declared.PlanRead.{PlanRead}
use Rattle.sheet.specs.declared.SheetRead.{SheetRead}
use Rattle.site.specs.declared.Edited.{Edited}
use Rattle.sitefile.specs.declared.SiteRead.{SiteRead}
use Rattle.toldfiles.specs.Files.{told_changed, told_edited, told_plan_read, told_sheet_read, told_site_read}
use Rattle.toldfiles.specs.declared.EditedSite.{EditedSite}
use Rattle.toldfiles.specs.declared.PlanReadC.{PlanReadC}

-- toldfiles::EditedSite::from_edited
pub record ToldfilesEditedSiteFromEdited (e : Edited) (r : EditedSite) : Type 0 where
  pub answer : r ≡ told_edited e

-- toldfiles::EditedSite::from_changed
pub record ToldfilesEditedSiteFromChanged (e : Changed) (r : EditedSite) : Type 0 where
  pub answer : r ≡ told_changed e

-- toldfiles::EditedSite::from_site_read
pub record ToldfilesEditedSiteFromSiteRead (e : SiteRead) (r : EditedSite) : Type 0 where
  pub answer : r ≡ told_site_read e

-- toldfiles::EditedSite::from_sheet_read
pub record ToldfilesEditedSiteFromSheetRead (e : SheetRead) (r : EditedSite) : Type 0 where
  pub answer : r ≡ told_sheet_read e

-- toldfiles::PlanReadC::from_plan_read
pub record ToldfilesPlanReadCFromPlanRead (e : PlanRead) (r : PlanReadC) : Type 0 where
  pub answer : r ≡ told_plan_read e
