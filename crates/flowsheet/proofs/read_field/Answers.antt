-- `flowsheet::read_field` meets its contract: the definition. Assumes nothing.
use Rattle.flowsheet.specs.Read.{field_read}
use Rattle.flowsheet.proofs.read_field.Goals as goal

pub returns : goal.returns
unfolding field_read
returns c = rw (c.eat-next.ensures, c.read_number-v.ensures)
