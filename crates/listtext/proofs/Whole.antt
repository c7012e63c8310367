-- The head as it stands in its buffer, and then the cell lines of the table, are the listing. Assumes nothing.
use Prim.Native.Nat.{ℕ, ◌≤◌}
use mathlib.Core.Path.{◌≡◌, refl, sym, ap, ◌∙◌}
use mathlib.Core.List.{List, ◌++◌}
use native.Mathlib.Omega.{arith}
use lib.ListN.{length, take}
use Rattle.std.specs.Prelude.{Result, Ok, Err}
use lib.Seq.{sets, length-sets}
use Rattle.laws.proofs.Stores.{take-sets}
use Rattle.site.specs.declared.Site.{Site}
use Rattle.records.specs.Bytes.{Bytes}
use Rattle.records.specs.declared.Refusal.{Refusal}
use Rattle.sitefile.specs.Read.{read_site}
use Rattle.listhead.specs.Listing.{listing, cell_lines}
use Rattle.listhead.specs.Parts.{head_of, rest_of, site_rest, file_head, file_table, file_rest, RestFits}
use Rattle.listhead.specs.declared.Rest.{Rest}
use Rattle.listhead.proofs.Printed.{printed}

ends : (s : Site) (a : Result Unit Refusal) → (rest_of s a).end ≡ length (head_of s a)
unfolding site_rest
ends s (Ok u) = refl
ends s (Err r) = refl

module _ (f blank head : List ℕ) {rest : Rest} (stored : head ≡ sets blank 0 (file_head f)) (is : rest ≡ file_rest f) (fits : RestFits rest) where
  end : rest.end ≡ length (file_head f)
  end = ap (λ (r : Rest). r.end) is ∙ ends (read_site f).site (read_site f).answer

  pub head-inside : 800 ≤ length blank → rest.end ≤ length head
  head-inside h = omega (arith, ap length stored, length-sets blank 0 (file_head f), fits.short)

  pub head-kept : 800 ≤ length blank → take rest.end head ≡ file_head f
  head-kept h = ap (take rest.end) stored ∙ take-sets rest.end (file_head f) blank (sym end) (omega (arith, fits.short))

  pub head-whole : 800 ≤ length blank → rest.end ≡ length (take rest.end head)
  head-whole h = end ∙ sym (ap length (head-kept h))

  pub whole :
      (lent table : List ℕ) → Bytes f → 800 ≤ length blank → 65536 ≤ length lent → table ≡ file_table f lent →
      take rest.end head ++ cell_lines rest.channels rest.width table 0 rest.rows ≡ listing f
  whole lent table bytes h long e =
      ap (λ (l : List ℕ). l ++ cell_lines rest.channels rest.width table 0 rest.rows) (head-kept h)
      ∙ ap (λ (r : Rest). file_head f ++ cell_lines r.channels r.width table 0 r.rows) is
      ∙ ap (λ (t : List ℕ). file_head f ++ cell_lines (file_rest f).channels (file_rest f).width t 0 (file_rest f).rows) e
      ∙ sym (printed f lent bytes long)
