-- The numbers that the code finds are the site's numbering, and where it finds them each names a cell of the site. Assumes nothing.
use mathlib.Core.Path.{◌≡◌, refl, ap, ap₂}
use mathlib.Core.Bool.{false≢true}
use Rattle.std.specs.Prelude.{Result, Ok, Err, Some, unwrap_or, is_some, is_ok}
use Rattle.std.specs.Option.{ok_or}
use Rattle.std.specs.Result.{result_unwrap_or}
use mathlib.Core.List.{List}
use Prim.Native.Nat.{ℕ, ◌≤◌}
use Rattle.site.specs.Record.{fault_of, answer_with}
use Rattle.site.specs.Reach.{net_of}
use Rattle.site.proofs.Faults.{fine-sized}
use Rattle.site.proofs.Reach.{clash-sym}
use Rattle.site.specs.declared.Site.{Site}
use Rattle.site.specs.declared.Fault.{Fault}
use Rattle.renumbering.specs.Numbering.{Numbering, numbered, stuck, index_at}
use Rattle.renumbering.specs.Renumbers.{Renumbers}
use Rattle.renumbering.proofs.Renumber.{numbers-renumber, numbers-above}
use Rattle.numberrows.specs.Numbers.{numbers_of, NamesCells}
use Rattle.numberrows.specs.declared.Numbers.{Numbers}
use Rattle.numbering.specs.Renumber.{numbering_of, site_numbers}
use Rattle.numbering.specs.declared.RenumberError.{RenumberError}
use Rattle.numbering.specs.declared.RenumberError.TheVariants.{NoNumbering, Record}

-- from what the code answers back to the numbering
pub found-is : (x : Numbering) (r : Numbers) → numbers_of x ≡ Some r → x ≡ numbered r.new r.old
found-is (numbered new old) r e = ap₂ numbered (ap (λ o. (unwrap_or o r).new) e) (ap (λ o. (unwrap_or o r).old) e)
found-is stuck r e = absurd (false≢true (ap is_some e))

pub few_cells : (s : Site) → fault_of s ≡ Ok tt → s.cells ≤ 32
few_cells s fine = (fine-sized s fine).cells_most

module _ (s : Site) (fine : fault_of s ≡ Ok tt) where
  module _ (new old : List ℕ) (found : numbering_of s ≡ numbered new old) where
    pub site-renumbers : Renumbers s.cells (index_at new) (index_at old)
    unfolding numbering_of
    site-renumbers = numbers-renumber (net_of s) (clash-sym s.rule s.reach) 32 (few_cells s fine) new old found

    pub names-new : NamesCells s.cells new
    unfolding numbering_of
    names-new a l = ((numbers-above (net_of s) (clash-sym s.rule s.reach) 32 (few_cells s fine) new old found a l).0, site-renumbers.new_in a l)

    pub names-old : NamesCells s.cells old
    unfolding numbering_of
    names-old a l = ((numbers-above (net_of s) (clash-sym s.rule s.reach) 32 (few_cells s fine) new old found a l).1, site-renumbers.old_in a l)

-- ---- a site that has numbers is accepted, and they are those of its numbering

pub record Numbered (s : Site) (r : Numbers) : Type 0 where
  pub fine : fault_of s ≡ Ok tt
  pub numbers : numbering_of s ≡ numbered r.new r.old

numbered-by : (f : Result Unit Fault) (x : Numbering) (r : Numbers) → answer_with Record f (ok_or (numbers_of x) NoNumbering) ≡ Ok r
    → (f ≡ Ok tt) × (x ≡ numbered r.new r.old)
numbered-by (Ok u) (numbered new old) r e = (refl, found-is (numbered new old) r (ap Some (ap (λ (o : Result Numbers RenumberError). result_unwrap_or o r) e)))
numbered-by (Ok u) stuck r e = absurd (false≢true (ap is_ok e))
numbered-by (Err f) x r e = absurd (false≢true (ap is_ok e))

pub numbered-is : (s : Site) (r : Numbers) → site_numbers s ≡ Ok r → Numbered s r
unfolding site_numbers
numbered-is s r e = let h = numbered-by (fault_of s) (numbering_of s) r e in record { fine = h.0; numbers = h.1 }

-- what the code asks of the numbers
pub old_found : (s : Site) (r : Numbers) → site_numbers s ≡ Ok r → (s.cells ≤ 32) × NamesCells s.cells r.old
old_found s r e = let h = numbered-is s r e in (few_cells s h.fine, names-old s h.fine r.new r.old h.numbers)

pub new_found : (s : Site) (r : Numbers) → site_numbers s ≡ Ok r → (s.cells ≤ 32) × NamesCells s.cells r.new
new_found s r e = let h = numbered-is s r e in (few_cells s h.fine, names-new s h.fine r.new r.old h.numbers)
