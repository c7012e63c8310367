-- `say_why::put_last` meets its contract: a case for each way out. Assumes nothing.
use Prim.Native.Nat.{◌≤◌, ◌<◌}
use native.Mathlib.Omega.{arith}
use borrow.Author.Tests.{lt-ltb, le-ltb}
use Rattle.site.specs.Record.{positions}
use Rattle.phrases.proofs.Put.{put-wide}
use Rattle.why.specs.Said.{open_of}
use Rattle.say_why.proofs.put_last.Goals as goal

pub returns-then-n-all : goal.returns-then-n-all
returns-then-n-all c = let site = c.args.site in
    let h : open_of site < positions site = omega (arith, c.requires.site_value.1, c.requires.site_value.2, c.if-n-all.true) in
    rw (lt-ltb (open_of site) (positions site) h) c.put_list.ensures

pub returns : goal.returns
returns c = let site = c.args.site in
    let h : positions site ≤ open_of site = omega (arith, c.requires.site_value.1, c.requires.site_value.2, c.if-n-all.false) in
    rw (le-ltb (open_of site) (positions site) h) (put-wide 30000 (omega arith) c.put_sizes.ensures)
