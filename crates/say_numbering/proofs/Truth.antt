-- The sentence that `put_anew` says of a site is true of it, and it is said exactly where it is true. By the theorem of crate `numbering` that 23 is answered
-- exactly when no renumbering will do. A nested site has no sentence. Assumes nothing.
use mathlib.Core.Path.{◌≡◌, refl}
use mathlib.Core.Logic.{◌↔◌}
use Prim.Native.Nat.{ℕ}
use native.Mathlib.Omega.{arith}
use Rattle.std.specs.Prelude.{Result, Ok, Err}
use Rattle.theory.specs.Net.{Class}
use Rattle.site.specs.Record.{fault_of}
use Rattle.site.specs.Reach.{net_of}
use Rattle.site.specs.declared.Site.{Site}
use Rattle.site.specs.declared.Fault.{Fault}
use Rattle.judges.specs.Judges.{counted, class_answer}
use Rattle.judges.specs.declared.ClassVerdict.{ClassVerdict}
use Rattle.judges.specs.declared.ClassVerdict.TheVariants as class
use Rattle.judges.proofs.Meaning.{class-means, outside-means}
use Rattle.numbering.specs.Renumber.{renumber_of}
use Rattle.numbering.specs.declared.RenumberError.{RenumberError}
use Rattle.numbering.specs.declared.RenumberError.TheVariants as renumber
use Rattle.numbering.proofs.Meaning.{none_exactly}
use Rattle.phrases.specs.declared.Phrase.TheVariants.{Silent, Row}
use Rattle.say_numbering.specs.Lines.{never_row}
use Rattle.say_numbering.specs.Anew.{anew_numbered, anew_by, anew_phrase}
use Rattle.say_numbering.specs.Means.{NotNested, NeverNested, AnewMeans}

module _ (s : Site) where
  -- of a nested site nothing is said
  pub nested-silent : fault_of s ≡ Ok tt → Class (net_of s) (counted s) → anew_phrase s ≡ Silent
  nested-silent fine c = rw ((class-means s).1 (fine, c)) refl

  -- ---- what is said is true

  numbered-true : fault_of s ≡ Ok tt → NotNested s → (r : Result Unit RenumberError) → (renumber_of s).answer ≡ r → AnewMeans s (anew_numbered r)
  numbered-true fine off (Ok u) e = tt
  numbered-true fine off (Err renumber.NoNumbering) e = (off, (none_exactly s fine).0 e)
  numbered-true fine off (Err (renumber.Record f)) e = tt

  off-class : (a b i : ℕ) → class_answer s ≡ Ok (class.Outside a b i) → NotNested s
  off-class a b i e c = let q = (class-means s).1 ((outside-means s a b i e).0, c) in let z : ◌≡◌ {A = ℕ} 0 1 = cc in omega arith

  class-true : (k : Result ClassVerdict Fault) → class_answer s ≡ k → AnewMeans s (anew_by k (renumber_of s).answer)
  class-true (Ok class.InClass) e = tt
  class-true (Ok (class.Outside a b i)) e = numbered-true (outside-means s a b i e).0 (off-class a b i e) (renumber_of s).answer refl
  class-true (Err f) e = tt

  pub anew-true : AnewMeans s (anew_phrase s)
  anew-true = class-true (class_answer s) refl

  -- ---- and is said exactly where it is so, of a site that is not nested

  pub anew-exactly : (a b i : ℕ) → class_answer s ≡ Ok (class.Outside a b i) → anew_phrase s ≡ Row never_row 0 0 0 0 ↔ NeverNested s
  anew-exactly a b i e =
      let said : AnewMeans s (anew_phrase s) = anew-true in (
        λ h. let m : AnewMeans s (Row never_row 0 0 0 0) = rw h at said in m.1,
        λ h. rw (e, (none_exactly s (outside-means s a b i e).0).1 h) refl,
      )
