-- `say_report::put_look` meets its contract: what is put is the text. Assumes nothing.
use native.Mathlib.Omega.{arith}
use Rattle.phrases.proofs.Put.{put_of}
use Rattle.say_report.specs.Lines.{report_style}
use Rattle.say_report.specs.Page.{report_look}
use Rattle.say_report.proofs.put_look.Goals as goal

pub returns : goal.returns
unfolding report_style
returns c = put_of {text = report_look} 1000 c.put_text.ensures.stored c.put_text.ensures.next (omega (arith, c.put_text.ensures.next))
