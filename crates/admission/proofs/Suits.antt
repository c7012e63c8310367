-- A search of the clash rows that counts all cells finds what the definition names: nested exactly where no cell has two lower clashing cells
-- that do not clash.
-- And on a site that is chained with all cells counted an admission answers what it did before W9.
-- Assumes nothing.
use Prim.Native.Nat.{ℕ, ◌≤◌, ◌<◌}
use mathlib.Core.Bool.{Bool, true}
use mathlib.Core.List.{List}
use mathlib.Core.Logic.{⊎_elim}
use mathlib.Core.Path.{◌≡◌, refl, sym, ap, ◌∙◌}
use native.Mathlib.Omega.{arith}
use borrow.Author.Tests.{ltb-true, ltb-false, lt-ltb, le-leb, lt-leb}
use lib.Dec.{ltb, leb}
use Rattle.laws.specs.Bits.{bit_at, bit_in}
use Rattle.laws.proofs.Choice.{cases}
use Rattle.laws.proofs.Lowest.{bit-all}
use Rattle.theory.specs.Net.{Net, everyone, Class, Chained}
use Rattle.theory.specs.Verdict.{chain_verdict, ClassVerdict, in_class, outside, second, splits, split_of, first_split, class_verdict}
use Rattle.theory.proofs.ChainLaws.{chain-holds}
use Rattle.theory.proofs.ClassLaws.{class-holds}
use Rattle.theory.proofs.Exact.{chained-class}
use Rattle.site.specs.Reach.{clash_of, net_of}
use Rattle.site.specs.declared.Site.{Site}
use Rattle.chainwords.specs.Chain.{Mirrored, chain_in, first_split_in}
use Rattle.chainwords.proofs.Rows.{first-split-is}
use Rattle.flowlist.specs.declared.Flow.{Flow}
use Rattle.admission.specs.Admit.{is_chained, is_nested, answer_where, answer_from, answer_in}

-- a word of ones has every cell
everyone-is : (i : ℕ) → i < 32 → bit_at 4294967295 i ≡ everyone i
everyone-is i h = bit-all 32 i ∙ lt-ltb i 32 h

module _ (rows : List ℕ) (mirrored : Mirrored rows) (cells : ℕ) (few : cells ≤ 32) (i : ℕ) (e : i ≡ first_split_in rows 4294967295 cells) where
  named : i ≡ first_split (chain_in cells (bit_in rows)) everyone
  named = e ∙ first-split-is (chain_in cells (bit_in rows)) rows refl mirrored 4294967295 everyone (λ j l. everyone-is j (omega arith))

  pub nested_is : leb cells i ≡ is_nested (class_verdict (chain_in cells (bit_in rows)) everyone)
  unfolding class_verdict
  nested_is =
      ⊎_elim (λ h. lt-leb cells i (ltb-true i cells h) ∙ sym (simp (sym named, h)))
      (λ h. le-leb cells i (ltb-false i cells h) ∙ sym (simp (sym named, h))) (cases (ltb i cells))

-- the clash rows state the site's problem, as far as the class asks
pub class-in-rows : (s : Site) (rows : List ℕ) → bit_in rows ≡ clash_of s
    → class_verdict (chain_in s.cells (bit_in rows)) everyone ≡ class_verdict (net_of s) everyone
unfolding class_verdict first_split split_of splits second
class-in-rows s rows e = ap (λ (r : ℕ → ℕ → Bool). class_verdict (chain_in s.cells r) everyone) e

is-nested : (v : ClassVerdict) → is_nested v ≡ true → v ≡ in_class
is-nested in_class e = refl
is-nested (outside a b i) e = let z : ◌≡◌ {A = ℕ} 0 1 = cc in absurd (omega arith)

pub class-of : (s : Net) → is_nested (class_verdict s everyone) ≡ true → Class s everyone
class-of s e = (class-holds s everyone).0 (is-nested (class_verdict s everyone) e)

-- on a site that is chained, all cells counted, the answer is the one with "19 site not chained"
pub chained-unchanged : (s : Site) (f : ℕ → Flow) (n : ℕ) → Chained (net_of s) everyone
    → answer_in s f n ≡ answer_where (is_chained (chain_verdict (net_of s) everyone)) s f n
unfolding answer_from
chained-unchanged s f n h =
    let now-in = (class-holds (net_of s) everyone).1 (chained-class (net_of s) everyone h) in
    let then-on = (chain-holds (net_of s) everyone).1 h in
    ap (λ (t : Bool). answer_where t s f n) (ap is_nested now-in ∙ sym (ap is_chained then-on))
