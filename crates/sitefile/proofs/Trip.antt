-- The round trips of the site file: a site with no fault, written and read, is the same site; an accepted file, read and written, is the same bytes.
-- Both are the trips of `FileTrip` with `Good` put before or after them. Assumes nothing.
use Prim.Native.Nat.{ℕ}
use mathlib.Core.Path.{◌≡◌, sym, ap, ◌∙◌}
use mathlib.Core.List.{List}
use Rattle.records.specs.Bytes.{Bytes}
use Rattle.records.specs.Write.{written, laid_over}
use Rattle.std.specs.Prelude.{Ok}
use Rattle.site.specs.Record.{fault_of}
use Rattle.site.specs.declared.Site.{Site}
use Rattle.site.specs.Held.{Held}
use Rattle.sitefile.specs.Read.{site_of_file, site_answer, site_done, read_site}
use Rattle.sitefile.specs.Write.{site_bytes, site_written, site_out}
use Rattle.sitefile.proofs.FileTrip.{written-accepted, written-stated, read-written, read-good}
use Rattle.sitefile.proofs.Good.{fine-good, good-fine}
use Rattle.sitefile.proofs.Reasons.{first-refused, accept}
use Rattle.sitefile.specs.declared.SiteRead.{SiteRead}

-- written and read back: the same site
pub written_then_read : (s : Site) → Held s → fault_of s ≡ Ok tt → read_site (site_bytes s) ≡ site_done s
written_then_read s held fine =
    let good = fine-good s held fine in
    sym (accept (site_bytes s) (written-accepted s good)) ∙ ap site_done (written-stated s good)

module _ (file : List ℕ) (bytes : Bytes file) (accepted : (read_site file).answer ≡ Ok tt) where
  done : site_answer file ≡ Ok tt
  done = sym (first-refused file) ∙ accepted

  stated : (read_site file).site ≡ site_of_file file
  stated = ap (λ (r : SiteRead). r.site) (sym (accept file done))

  -- read and written again: the same bytes
  pub read_then_written : site_bytes (read_site file).site ≡ file
  read_then_written = ap site_bytes stated ∙ read-written file bytes done

  -- what is read has no fault
  pub read-fine : fault_of (read_site file).site ≡ Ok tt
  read-fine = ap fault_of stated ∙ good-fine (site_of_file file) (read-good file bytes done)

  -- so the writer, given what was read, answers the file's length and leaves the file
  pub written-again : (out : List ℕ) → (site_written (read_site file).site out ≡ written file out) × (site_out (read_site file).site out ≡ laid_over file out)
  unfolding site_written site_out
  written-again out = (simp (read-fine, read_then_written), simp (read-fine, read_then_written))
