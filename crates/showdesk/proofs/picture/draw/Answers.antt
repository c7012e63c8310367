-- `showdesk::picture::draw` is safe: what can be judged can be drawn. Assumes nothing.
use Rattle.std.proofs.Common.{rules, ◌≡◌, true, length, List, ℕ}
use mathlib.Core.Path.{sym, ◌∙◌}
use lib.Dec.{leb}
use borrow.Author.Tests.{leb-true}
use Rattle.laws.specs.Bits.{bit_in}
use Rattle.laws.proofs.Choice.{both}
use Rattle.site.specs.Record.{size, fault_of, is_fine}
use Rattle.site.specs.Reach.{clash_of}
use Rattle.site.specs.declared.Site.{Site}
use Rattle.say_faults.specs.Said.{judgeable}
use Rattle.say_faults.proofs.Ready.{ready-fine, ready-sizes}
use Rattle.say_slots.specs.Code.{Drawn}
use Rattle.showdesk.proofs.picture.draw.Goals as goal

-- a table that can be judged, and the site's clash rows
can_be_drawn : (s : Site) (t clash : List ℕ) → judgeable s t ≡ true → bit_in clash ≡ clash_of s → Drawn s t clash
unfolding judgeable
can_be_drawn s t clash judged rows =
    record {
      sizes = ready-sizes s t judged;
      long = leb-true (size s) (length t) (both (is_fine (fault_of s)) (leb (size s) (length t)) judged).1;
      rows = rows;
    }

pub put_upper-requires : goal.put_upper-requires
put_upper-requires c =
    let a = c.args in
    let judged : judgeable a.site a.table.now ≡ true = sym c.can_judge.ensures ∙ c.if-not-can_judge.false in
    let rows = c.clash_rows-clash.ensures.clash (ready-fine a.site a.table.now judged) in
    (search rules, ready-sizes a.site a.table.now judged, rows)

pub put_lower-requires : goal.put_lower-requires
put_lower-requires c =
    let a = c.args in
    let judged : judgeable a.site a.table.now ≡ true = sym c.can_judge.ensures ∙ c.if-not-can_judge.false in
    let rows = c.clash_rows-clash.ensures.clash (ready-fine a.site a.table.now judged) in
    (search rules, can_be_drawn a.site a.table.now c.clash_rows-clash.result judged rows, ready-sizes a.site a.table.now judged)
