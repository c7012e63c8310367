-- What the calls that give text leave: the text and what was there past it, or all as it was. Assumes nothing.
use mathlib.Core.List.{List}
use Prim.Native.Nat.{ℕ}
use lib.Dec.{leb}
use lib.ListN.{length}
use Rattle.site.specs.Record.{fault_of}
use Rattle.site.specs.declared.Site.{Site}
use Rattle.std.specs.Prelude.{Ok}
use Rattle.records.specs.Write.{written, laid_over}
use Rattle.records.specs.Given.{written_given}
use Rattle.whytext.specs.Text.{why_text, why_written, why_out}
use Rattle.promises.specs.Leaves.{WriterLeaves}
use Rattle.promises.proofs.Demand1.{file-left}

-- an answer in words, and the listing of a file: the one refusal is 13
pub text-leaves : (text out : List ℕ) → WriterLeaves text out (written_given (written text out)) (laid_over text out)
unfolding written laid_over
text-leaves text out = file-left text out (Ok tt) (leb (length text) (length out))

-- what `why` prints: the record's faults, then 13
pub why-leaves : (s : Site) (out : List ℕ) → WriterLeaves (why_text s) out (written_given (why_written s out)) (why_out s out)
unfolding why_written why_out written laid_over
why-leaves s out = file-left (why_text s) out (fault_of s) (leb (length (why_text s)) (length out))
