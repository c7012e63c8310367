-- What a C caller is told of an edit and of a file that was read: the answer, and what comes beside it.
use Rattle.site.specs.Given.{done_given}
use Rattle.site.specs.declared.Edited.{Edited}
use Rattle.handheld.specs.Given.{change_given}
use Rattle.handheld.specs.declared.Changed.{Changed}
use Rattle.records.specs.Given.{read_given}
use Rattle.sitefile.specs.declared.SiteRead.{SiteRead}
use Rattle.planfile.specs.declared.PlanRead.{PlanRead}
use Rattle.sheet.specs.Given.{sheet_given}
use Rattle.sheet.specs.declared.SheetRead.{SheetRead}
use Rattle.told.specs.Told.{told}
use Rattle.toldfiles.specs.declared.EditedSite.{EditedSite}
use Rattle.toldfiles.specs.declared.PlanReadC.{PlanReadC}

-- the site as the edit gave it, and the answer as told
unfoldable pub told_edited : Edited → EditedSite
told_edited e = record { site = e.site; answer = told (done_given e.answer) }

-- the record as the change of a load left it, and the answer as told
unfoldable pub told_changed : Changed → EditedSite
told_changed e = record { site = e.site; answer = told (change_given e.answer) }

-- the site as the read gave it, and the answer as told
unfoldable pub told_site_read : SiteRead → EditedSite
told_site_read e = record { site = e.site; answer = told (read_given e.answer) }

-- I, T and F as the read gave them, and the answer as told
unfoldable pub told_plan_read : PlanRead → PlanReadC
told_plan_read e = record { cells = e.cells; slots = e.slots; channels = e.channels; answer = told (read_given e.answer) }

-- the site as the sheet gave it, and the answer as told
unfoldable pub told_sheet_read : SheetRead → EditedSite
told_sheet_read e = record { site = e.site; answer = told (sheet_given e.answer) }
