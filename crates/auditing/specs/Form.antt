-- "chained or in the class or renumbered or neither": the first of them that holds.
use Rattle.std.specs.Prelude.{Result, Ok, Err}
use Rattle.judges.specs.Judges.{chain_answer, class_answer}
use Rattle.judges.specs.declared.ChainVerdict.{ChainVerdict}
use Rattle.judges.specs.declared.ChainVerdict.TheVariants as chain
use Rattle.judges.specs.declared.ClassVerdict.{ClassVerdict}
use Rattle.judges.specs.declared.ClassVerdict.TheVariants as class
use Rattle.numbering.specs.Renumber.{renumber_of}
use Rattle.numbering.specs.declared.RenumberError.{RenumberError}
use Rattle.site.specs.declared.Site.{Site}
use Rattle.site.specs.declared.Fault.{Fault}
use Rattle.auditing.specs.declared.Form.{Form}
use Rattle.auditing.specs.declared.Form.TheVariants.{Chained, Nested, Renumbered, Neither}

abbrev pub by_numbering : Result Unit RenumberError → Form
by_numbering (Ok u) = Renumbered
by_numbering (Err e) = Neither

abbrev pub by_class : Form → Result ClassVerdict Fault → Form
by_class other (Ok class.InClass) = Nested
by_class other (Ok (class.Outside a b i)) = other
by_class other (Err f) = Neither

abbrev pub by_chain : Form → Result ChainVerdict Fault → Form
by_chain other (Ok chain.Chained) = Chained
by_chain other (Ok (chain.Broken a b c)) = other
by_chain other (Err f) = Neither

unfoldable pub form_of : Site → Form
form_of s = by_chain (by_class (by_numbering (renumber_of s).answer) (class_answer s)) (chain_answer s)
