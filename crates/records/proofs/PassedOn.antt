-- A writer passes on the record's own fault, exactly where there is one: the lemma of crate `site`, since a file that is written, or does not fit, is no
-- refusal of the record. Assumes nothing.
use Prim.Native.Nat.{ℕ}
use mathlib.Core.Path.{◌≡◌, sym, ap}
use mathlib.Core.Bool.{Bool, true, false, true≢false}
use mathlib.Core.List.{List}
use mathlib.Core.Logic.{◌↔◌}
use lib.Dec.{leb}
use lib.ListN.{length}
use Rattle.std.specs.Prelude.{Result, Ok, Err}
use Rattle.laws.specs.Choice.{pick}
use Rattle.site.specs.Record.{fault_of, answer_with}
use Rattle.site.specs.declared.Site.{Site}
use Rattle.site.specs.declared.Fault.{Fault}
use Rattle.site.proofs.PassedOn.{passed_on}
use Rattle.records.specs.Write.{written}
use Rattle.records.specs.declared.WriteError.{WriteError}
use Rattle.records.specs.declared.WriteError.TheVariants.{OutShort, Record}

-- an answer that refuses the record
abbrev of_record : Result ℕ WriteError → Bool
of_record (Ok n) = false
of_record (Err (OutShort n)) = false
of_record (Err (Record f)) = true

no-refusal : (fits : Bool) (n : ℕ) (f : Fault) → pick fits (Ok n) (Err (OutShort n)) ≡ Err (Record f) → ⊥
no-refusal true n f e = true≢false (ap of_record (sym e))
no-refusal false n f e = true≢false (ap of_record (sym e))

module _ (s : Site) (file out : List ℕ) where
  -- the answer of a writer of this file
  abbrev answer : Result ℕ WriteError
  answer = answer_with Record (fault_of s) (written file out)

  pub written-refused : (f : Fault) → answer ≡ Err (Record f) ↔ (fault_of s ≡ Err f)
  unfolding written
  written-refused = passed_on Record (λ f g e. cc) (fault_of s) _ (no-refusal (leb (length file) (length out)) (length file))
