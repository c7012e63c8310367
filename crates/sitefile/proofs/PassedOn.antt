-- The writer passes on the record's own fault, exactly where there is one. Assumes nothing.
use Prim.Native.Nat.{ℕ}
use mathlib.Core.Path.{◌≡◌}
use mathlib.Core.List.{List}
use mathlib.Core.Logic.{◌↔◌}
use Rattle.std.specs.Prelude.{Err}
use Rattle.records.specs.declared.WriteError.TheVariants.{Record}
use Rattle.records.proofs.PassedOn.{written-refused}
use Rattle.site.specs.Record.{fault_of}
use Rattle.site.specs.declared.Site.{Site}
use Rattle.site.specs.declared.Fault.{Fault}
use Rattle.sitefile.specs.Write.{site_bytes, site_written}

module _ (s : Site) (out : List ℕ) where
  pub site-written-refused : (f : Fault) → site_written s out ≡ Err (Record f) ↔ (fault_of s ≡ Err f)
  unfolding site_written
  site-written-refused = written-refused s (site_bytes s) out
