-- The ways that a call of `renumber` or `carry` goes, each with what it gives: by the record's fault, then by the numbering, then by the tables' lengths.
-- Assumes nothing.
use mathlib.Core.Path.{◌≡◌}
use mathlib.Core.Bool.{true}
use mathlib.Core.List.{List}
use Prim.Native.Nat.{ℕ, ◌≤◌}
use lib.ListN.{length}
use borrow.Author.Tests.{le-ltb}
use Rattle.std.specs.Prelude.{Ok, Err}
use Rattle.site.specs.Record.{positions, fault_of, size}
use Rattle.site.specs.declared.Site.{Site}
use Rattle.site.specs.declared.Fault.{Fault}
use Rattle.renumbering.specs.Numbering.{numbered, stuck, index_at}
use Rattle.renumbering.specs.Carry.{carried}
use Rattle.numbering.specs.Renumber.{numbering_of, site_numbers, moved_site, as_given, renumber_of}
use Rattle.numbering.specs.Carried.{either_short, carry_answer, carry_table}
use Rattle.numbering.specs.declared.Renumbered.{Renumbered}
use Rattle.numbering.specs.declared.RenumberError.TheVariants as renumber
use Rattle.numbering.specs.declared.CarryError.TheVariants as carry

module _ (s : Site) where
  pub renumber-refused : (f : Fault) → fault_of s ≡ Err f → renumber_of s ≡ as_given s (renumber.Record f)
  unfolding renumber_of site_numbers
  renumber-refused f e = rw e

  pub renumber-none : fault_of s ≡ Ok tt → numbering_of s ≡ stuck → renumber_of s ≡ as_given s renumber.NoNumbering
  unfolding renumber_of site_numbers
  renumber-none e h = rw (e, h)

  pub renumber-done : (new old : List ℕ) → fault_of s ≡ Ok tt → numbering_of s ≡ numbered new old
      → ◌≡◌ {A = Renumbered} (renumber_of s) (record { site = moved_site s old; new = new; old = old; answer = Ok tt })
  unfolding renumber_of site_numbers
  renumber-done new old e h = rw (e, h)

module _ (s : Site) (from to : List ℕ) where
  pub carry-refused : (f : Fault) → fault_of s ≡ Err f → (carry_answer s from to ≡ Err (carry.Record f)) × (carry_table s from to ≡ to)
  unfolding carry_answer carry_table site_numbers
  carry-refused f e = (rw e, rw e)

  pub carry-none : fault_of s ≡ Ok tt → numbering_of s ≡ stuck → (carry_answer s from to ≡ Err carry.NoNumbering) × (carry_table s from to ≡ to)
  unfolding carry_answer carry_table site_numbers
  carry-none e h = (rw (e, h), rw (e, h))

  module _ (new old : List ℕ) (fine : fault_of s ≡ Ok tt) (found : numbering_of s ≡ numbered new old) where
    pub carry-short : either_short s from to ≡ true → (carry_answer s from to ≡ Err carry.TableShort) × (carry_table s from to ≡ to)
    unfolding carry_answer carry_table site_numbers
    carry-short h = (rw (fine, found, h), rw (fine, found, h))

    pub carry-done : size s ≤ length from → size s ≤ length to
        → (carry_answer s from to ≡ Ok tt) × (carry_table s from to ≡ carried (index_at new) (positions s) from to s.cells)
    unfolding carry_answer carry_table site_numbers
    carry-done h g =
        let a = le-ltb (length from) (size s) h in
        let b = le-ltb (length to) (size s) g in
        (rw (fine, found, a, b), rw (fine, found, a, b))
