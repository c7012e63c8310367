-- `listhead::listed_head` meets its contract: what the reader answers decides the case. An accepted site has no fault. Assumes nothing.
use mathlib.Core.Path.{ap, ◌∙◌}
use native.Mathlib.Nat.{zero-add}
use native.Mathlib.Omega.{arith}
use lib.Seq.{sets}
use Rattle.listhead.proofs.Heading.{accepted-fine, accepted-head, accepted-table, accepted-rest, refused-head, refused-table, refused-rest}
use Rattle.listhead.proofs.listed_head.Goals as goal

pub site_head-requires : goal.site_head-requires
site_head-requires c = let known = c.shared_slice_known-1.given in record {
  site_value = accepted-fine c.args.file.now c.read_site-read.ensures c.in-Ok.is
      (λ k. omega (arith, known k));
  in_bounds = c.requires;
}

pub returns-in-Err : goal.returns-in-Err
returns-in-Err c = let a = c.args in
    let e = c.read_site-read.ensures in
    let d = c.in-Err.is in
    let k = c.put_line-end.ensures in record {
      stored = k.stored ∙ ap (sets a.out.now 0) (refused-head a.file.now e d);
      table = refused-table a.file.now e d a.table.now;
      rest = (λ i. record { end = (k.follows ∙ zero-add _) i; rows = 0; width = 0; channels = 0 })
          ∙ refused-rest a.file.now e d;
      fits = record {
        short = omega (arith, k.follows, k.short);
        few = omega arith;
        narrow = omega arith;
        within = omega arith;
        some = λ l. l;
      };
    }

pub returns-in-Ok : goal.returns-in-Ok
returns-in-Ok c = let a = c.args in
    let e = c.read_site-read.ensures in
    let d = c.in-Ok.is in record {
      stored = c.site_head.ensures.stored ∙ ap (sets a.out.now 0) (accepted-head a.file.now e d);
      table = c.site_head.ensures.table ∙ accepted-table a.file.now e d a.table.now;
      rest = c.site_head.ensures.rest ∙ accepted-rest a.file.now e d;
      fits = c.site_head.ensures.fits;
    }
