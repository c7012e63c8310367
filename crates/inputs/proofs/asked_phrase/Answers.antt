-- `inputs::asked_phrase` meets its contract: an arm for each file. Assumes nothing.
use Rattle.laws.proofs.Arms.{arm}
use Rattle.inputs.specs.Said.{asked_phrase}
use Rattle.inputs.proofs.asked_phrase.Goals as goal

pub returns-in-SiteFile : goal.returns-in-SiteFile
returns-in-SiteFile c = search (arm asked_phrase)

pub returns-in-PlanFile : goal.returns-in-PlanFile
returns-in-PlanFile c = search (arm asked_phrase)

pub returns-in-RangeSheet : goal.returns-in-RangeSheet
returns-in-RangeSheet c = search (arm asked_phrase)

pub returns-in-FlowSheet : goal.returns-in-FlowSheet
returns-in-FlowSheet c = search (arm asked_phrase)

pub returns-in-Other : goal.returns-in-Other
returns-in-Other c = search (arm asked_phrase)
