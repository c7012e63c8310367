-- "A refused site read gives a site of zeros." By the two ways of the answer. Assumes nothing.
use Prim.Native.Nat.{ℕ}
use mathlib.Core.Path.{◌≡◌, sym, ap, ◌∙◌}
use mathlib.Core.List.{List}
use Rattle.std.specs.Prelude.{Err}
use Rattle.records.specs.Reasons.{refusal}
use Rattle.site.specs.Record.{zero_site}
use Rattle.sitefile.specs.Read.{refused_site, read_site}
use Rattle.sitefile.proofs.Reasons.{first-refused, refuse}
use Rattle.sitefile.specs.declared.SiteRead.{SiteRead}

pub refused-zeros : (s : List ℕ) (n at : ℕ) → (read_site s).answer ≡ Err (refusal n at) → (read_site s).site ≡ zero_site
unfolding refused_site
refused-zeros s n at e = ap (λ (r : SiteRead). r.site) (sym (refuse s (refusal n at) (sym (first-refused s) ∙ e)))
