-- For any arguments one answer and one content of what is lent meet the contract, and no other, in crate `toldfiles`: by its equalities alone.
-- Made by tools/surface from the source. Assumes nothing.
use Rattle.std.specs.Prelude.{refl, ◌≡◌}
use Rattle.contracts.specs.ToldfilesSays.{ToldfilesEditedSiteFromChanged, ToldfilesEditedSiteFromEdited, ToldfilesEditedSiteFromSheetRead}
use Rattle.contracts.specs.ToldfilesSays.{ToldfilesEditedSiteFromSiteRead, ToldfilesPlanReadCFromPlanRead}
use Rattle.handheld.specs.declared.Changed.{Changed}
use Rattle.planfile.specs.declared.PlanRead.{PlanRead}
use Rattle.sheet.specs.declared.SheetRead.{SheetRead}
use Rattle.site.specs.declared.Edited.{Edited}
use Rattle.sitefile.specs.declared.SiteRead.{SiteRead}
use Rattle.toldfiles.specs.Files.{told_changed, told_edited, told_plan_read, told_sheet_read, told_site_read}
use Rattle.toldfiles.specs.declared.EditedSite.{EditedSite}
use Rattle.toldfiles.specs.declared.PlanReadC.{PlanReadC}

-- toldfiles::EditedSite::from_edited
pub toldfiles_edited_site_from_edited-one : (e : Edited)
    → (r : EditedSite) × (ToldfilesEditedSiteFromEdited e r)
    × ((q : EditedSite) → ToldfilesEditedSiteFromEdited e q → (q ≡ r))
toldfiles_edited_site_from_edited-one e = (
  told_edited e,
  record { answer = refl },
  λ q says. says.answer,
)

-- toldfiles::EditedSite::from_changed
pub toldfiles_edited_site_from_changed-one : (e : Changed)
    → (r : EditedSite) × (ToldfilesEditedSiteFromChanged e r)
    × ((q : EditedSite) → ToldfilesEditedSiteFromChanged e q → (q ≡ r))
toldfiles_edited_site_from_changed-one e = (
  told_changed e,
  record { answer = refl },
  λ q says. says.answer,
)

-- toldfiles::EditedSite::from_site_read
pub toldfiles_edited_site_from_site_read-one : (e : SiteRead)
    → (r : EditedSite) × (ToldfilesEditedSiteFromSiteRead e r)
    × ((q : EditedSite) → ToldfilesEditedSiteFromSiteRead e q → (q ≡ r))
toldfiles_edited_site_from_site_read-one e = (
  told_site_read e,
  record { answer = refl },
  λ q says. says.answer,
)

-- toldfiles::EditedSite::from_sheet_read
pub toldfiles_edited_site_from_sheet_read-one : (e : SheetRead)
    → (r : EditedSite) × (ToldfilesEditedSiteFromSheetRead e r)
    × ((q : EditedSite) → ToldfilesEditedSiteFromSheetRead e q → (q ≡ r))
toldfiles_edited_site_from_sheet_read-one e = (
  told_sheet_read e,
  record { answer = refl },
  λ q says. says.answer,
)

-- toldfiles::PlanReadC::from_plan_read
pub toldfiles_plan_read_c_from_plan_read-one : (e : PlanRead)
    → (r : PlanReadC) × (ToldfilesPlanReadCFromPlanRead e r)
    × ((q : PlanReadC) → ToldfilesPlanReadCFromPlanRead e q → (q ≡ r))
toldfiles_plan_read_c_from_plan_read-one e = (
  told_plan_read e,
  record { answer = refl },
  λ q says. says.answer,
)
