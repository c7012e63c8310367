-- Demand 1, what a call leaves in lent memory, by the number it gives back. Answer and memory go the same way through the same tests,
-- so each is read off at the values of the tests. And the verdicts refuse only as the record's fault says. Assumes nothing.
use mathlib.Core.Path.{◌≡◌, refl, ap}
use mathlib.Core.Bool.{Bool, true, false}
use mathlib.Core.List.{List, [], ◌∷◌, ◌++◌}
use mathlib.Core.Logic.{◌⊎◌, inl, inr}
use Prim.Native.Nat.{ℕ, ◌≤◌}
use native.Mathlib.Omega.{arith}
use lib.Dec.{ltb, leb}
use lib.ListN.{length, drop, replicate}
use lib.Seq.{drop_at}
use Rattle.std.specs.Prelude.{Result, Ok, Err}
use Rattle.std.specs.Result.{result_and}
use Rattle.laws.specs.Choice.{pick}
use Rattle.theory.specs.Greedy.{Outcome, planned, no_room, greedy}
use Rattle.theory.specs.Verdict as theory
use Rattle.theory.specs.Verdict.{holds, over, load_verdict, chained, broken, chain_verdict, in_class, outside, class_verdict}
use Rattle.theory.proofs.Exact.{planned-size}
use Rattle.site.specs.Record.{fault_of, is_fine, answer_with, size}
use Rattle.site.specs.Reach.{net_of}
use Rattle.site.specs.Given.{Given, fault_given, done_given}
use Rattle.site.specs.declared.Site.{Site}
use Rattle.site.specs.declared.Fault.{Fault}
use Rattle.site.specs.declared.Fault.TheVariants.{Size, Rule, Load, Reach, Blocked}
use Rattle.planner.specs.Plan.{answer_of, table_of, plan_answer, plan_table}
use Rattle.planner.specs.Given.{plan_given}
use Rattle.planner.specs.declared.PlanError.TheVariants as planner
use Rattle.judges.specs.Judges.{counted, load_of, load_answer, chain_of, chain_answer, class_of, class_answer}
use Rattle.judges.specs.Given.{load_given, chain_given, class_given}
use Rattle.records.specs.Given.{read_given, written_given}
use Rattle.records.specs.Write.{written, laid_over}
use Rattle.records.specs.declared.Refusal.{Refusal}
use Rattle.records.specs.declared.WriteError.TheVariants as wrote
use Rattle.sitefile.specs.Write.{site_bytes, site_written, site_out}
use Rattle.planbits.specs.Bits.{bits_from}
use Rattle.planfile.specs.Given.{plan_written_given}
use Rattle.records.specs.Reasons.{is_done}
use Rattle.records.specs.Head.{cells_of_head, slots_of_head, channels_of_head, entries_of_head}
use Rattle.planfile.specs.Read.{body_in, plan_read_answer, plan_read_of, read_plan, plan_table_read}
use Rattle.planfile.specs.Write.{plan_file, plan_written, plan_out}
use Rattle.planfile.specs.declared.PlanWriteError.TheVariants as plan
use Rattle.planbits.proofs.Bits.{length-bits}
use Rattle.demanded.specs.Numbers.{done_with}
use Rattle.promises.specs.Leaves.{PlannerLeaves, ReaderLeaves, WriterLeaves}

-- ---- the planner

-- the number of a fault is neither 0 nor 5
pub fault-other : (f : Fault) → ((fault_given f).number ≡ 0 → ⊥) × ((fault_given f).number ≡ 5 → ⊥)
fault-other Size = (λ e. omega arith, λ e. omega arith)
fault-other Rule = (λ e. omega arith, λ e. omega arith)
fault-other (Load k) = (λ e. omega arith, λ e. omega arith)
fault-other (Reach k) = (λ e. omega arith, λ e. omega arith)
fault-other (Blocked k) = (λ e. omega arith, λ e. omega arith)

-- any number but 0 and 5, and the table as it was
plan-untouched : (n : ℕ) (t : List ℕ) (number : ℕ) → (number ≡ 0 → ⊥) → (number ≡ 5 → ⊥) → PlannerLeaves n t number t
plan-untouched n t number z f = record { if_done = λ e. absurd (z e); if_no_room = λ e. absurd (f e); if_refused = λ _ _. refl }

-- in either form of a table: what an outcome lays down has n places, and a cell without room leaves them 0
module _ (n : ℕ) (t : List ℕ) (laid : Outcome → List ℕ) (idle : (c m : ℕ) → laid (no_room c m) ≡ replicate n 0) where
  pub plan-left : (f : Result Unit Fault) (short : Bool) (o : Outcome) → ((u : List ℕ) → o ≡ planned u → length (laid (planned u)) ≡ n)
      → PlannerLeaves n t (plan_given (answer_with planner.Record f (pick short (Err planner.TableShort) (answer_of o)))).number
      (pick (is_fine f) (pick short t (laid o ++ drop n t)) t)
  plan-left (Ok u) true o h = plan-untouched n t 4 (λ e. omega arith) (λ e. omega arith)
  plan-left (Ok u) false (planned v) h =
      record { if_done = λ _. drop_at (laid (planned v)) (drop n t) n (h v refl); if_no_room = λ e. absurd (omega arith); if_refused = λ z _. absurd (z refl) }
  plan-left (Ok u) false (no_room c m) h =
      record { if_done = λ e. absurd (omega arith); if_no_room = λ _. ap (λ (x : List ℕ). x ++ drop n t) (idle c m); if_refused = λ _ f. absurd (f refl) }
  plan-left (Err f) short o h = plan-untouched n t (fault_given f).number (fault-other f).0 (fault-other f).1

pub plan-leaves : (s : Site) (t : List ℕ) → PlannerLeaves (size s) t (plan_given (plan_answer s t)).number (plan_table s t)
unfolding plan_answer plan_table
plan-leaves s t = plan-left (size s) t (table_of (size s)) (λ _ _. refl) (fault_of s) (ltb (length t) (size s)) (greedy (net_of s)) (planned-size (net_of s))

-- ---- the plan reader

read_left : (a : Result Unit Refusal) (bits t : List ℕ) (n i o u : ℕ) → length bits ≡ n
    → ReaderLeaves n t (read_given (plan_read_of i o u a).answer).number (pick (is_done a) (bits ++ drop n t) t)
unfolding plan_read_of
read_left (Ok a) bits t n i o u h = record { if_done = λ _. drop_at bits (drop n t) n h; if_refused = λ z. absurd (z refl) }
read_left (Err r) bits t n i o u h = record { if_done = λ _. refl; if_refused = λ _. refl }

pub plan-read-leaves : (file t : List ℕ) → ReaderLeaves (entries_of_head file) t (read_given (read_plan file t).answer).number (plan_table_read file t)
unfolding read_plan plan_table_read
plan-read-leaves file t =
    read_left (plan_read_answer file t) (bits_from (body_in file) 0 (entries_of_head file)) t (entries_of_head file)
    (cells_of_head file) (slots_of_head file) (channels_of_head file)
    (length-bits (body_in file) (entries_of_head file) 0)

-- ---- the writers

module _ (file out : List ℕ) where
  -- done, with the file's length, and the file in front of the output
  did_write : WriterLeaves file out (done_with (length file ∷ [])) (file ++ drop (length file) out)
  did_write = record { if_done = λ _. (refl, refl); if_refused = λ z. absurd (z refl) }

  -- any number but 0, and the output as it was
  out-untouched : (g : Given) → (g.number ≡ 0 → ⊥) → WriterLeaves file out g out
  out-untouched g z = record { if_done = λ e. absurd (z e); if_refused = λ _. refl }

  -- a site file, or a sheet
  pub file-left : (f : Result Unit Fault) (fits : Bool)
      → WriterLeaves file out (written_given (answer_with wrote.Record f (pick fits (Ok (length file)) (Err (wrote.OutShort (length file))))))
      (pick (is_fine f) (pick fits (file ++ drop (length file) out) out) out)
  file-left (Ok u) true = did_write
  file-left (Ok u) false = out-untouched _ (λ e. omega arith)
  file-left (Err f) fits = out-untouched _ (fault-other f).0

  plan-file-left : (f : Result Unit Fault) (short fits : Bool)
      → WriterLeaves file out
      (plan_written_given
      (answer_with plan.Record f (pick short (Err plan.TableShort) (pick fits (Ok (length file)) (Err (plan.OutShort (length file)))))))
      (pick (is_fine f) (pick short out (pick fits (file ++ drop (length file) out) out)) out)
  plan-file-left (Ok u) true fits = out-untouched _ (λ e. omega arith)
  plan-file-left (Ok u) false true = did_write
  plan-file-left (Ok u) false false = out-untouched _ (λ e. omega arith)
  plan-file-left (Err f) short fits = out-untouched _ (fault-other f).0

-- what a writer that is done was given
pub wrote-fine : (f : Result Unit Fault) (fits : Bool) (n : ℕ)
    → (written_given (answer_with wrote.Record f (pick fits (Ok n) (Err (wrote.OutShort n))))).number ≡ 0 → f ≡ Ok tt
wrote-fine (Ok u) fits n e = refl
wrote-fine (Err f) fits n e = absurd ((fault-other f).0 e)

pub site-write-leaves : (s : Site) (out : List ℕ) → WriterLeaves (site_bytes s) out (written_given (site_written s out)) (site_out s out)
unfolding site_written site_out written laid_over
site-write-leaves s out = file-left (site_bytes s) out (fault_of s) (leb (length (site_bytes s)) (length out))

pub plan-write-leaves : (s : Site) (t out : List ℕ) → WriterLeaves (plan_file s t) out (plan_written_given (plan_written s t out)) (plan_out s t out)
unfolding plan_written plan_out laid_over
plan-write-leaves s t out = plan-file-left (plan_file s t) out (fault_of s) (ltb (length t) (size s)) (leb (length (plan_file s t)) (length out))

-- ---- "Load test and chain judge are verdicts; they refuse only with 1 to 3."; W8: and with 20, "after 3"; W11: and with 24, "after 1"

load-refusals : (f : Result Unit Fault) (v : theory.LoadVerdict) → (load_given (result_and f (Ok (load_of v)))).number ≡ (done_given f).number
load-refusals (Ok u) holds = refl
load-refusals (Ok u) (over i m) = refl
load-refusals (Err f) v = refl

chain-refusals : (f : Result Unit Fault) (v : theory.ChainVerdict) → (chain_given (result_and f (Ok (chain_of v)))).number ≡ (done_given f).number
chain-refusals (Ok u) chained = refl
chain-refusals (Ok u) (broken a b c) = refl
chain-refusals (Err f) v = refl

class-refusals : (f : Result Unit Fault) (v : theory.ClassVerdict) → (class_given (result_and f (Ok (class_of v)))).number ≡ (done_given f).number
class-refusals (Ok u) in_class = refl
class-refusals (Ok u) (outside a b i) = refl
class-refusals (Err f) v = refl

-- their number is that of the record's fault
pub load-refuses : (s : Site) → (load_given (load_answer s)).number ≡ (done_given (fault_of s)).number
unfolding load_answer
load-refuses s = load-refusals (fault_of s) (load_verdict (net_of s) (counted s))

pub chain-refuses : (s : Site) → (chain_given (chain_answer s)).number ≡ (done_given (fault_of s)).number
unfolding chain_answer
chain-refuses s = chain-refusals (fault_of s) (chain_verdict (net_of s) (counted s))

-- W9: and so the judge of the class
pub class-refuses : (s : Site) → (class_given (class_answer s)).number ≡ (done_given (fault_of s)).number
unfolding class_answer
class-refuses s = class-refusals (fault_of s) (class_verdict (net_of s) (counted s))

-- done, or one of the record's: 0 to 3, or 20, or 24
abbrev pub OfRecord : ℕ → Type 0
OfRecord number = (number ≤ 3) ⊎ ((number ≡ 20) ⊎ (number ≡ 24))

pub fault-number : (f : Result Unit Fault) → OfRecord (done_given f).number
fault-number (Ok u) = inl (omega arith)
fault-number (Err Size) = inl (omega arith)
fault-number (Err Rule) = inr (inr refl)
fault-number (Err (Load k)) = inl (omega arith)
fault-number (Err (Reach k)) = inl (omega arith)
fault-number (Err (Blocked k)) = inr (inl refl)

-- and so is 0, or 1 to 3, or 20, or 24
pub verdicts-of-record : (s : Site) → OfRecord (load_given (load_answer s)).number × OfRecord (chain_given (chain_answer s)).number
verdicts-of-record s = (rw (load-refuses s) (fault-number (fault_of s)), rw (chain-refuses s) (fault-number (fault_of s)))
