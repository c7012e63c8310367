-- No file that a reader accepts is called another file: an accepted one is the bytes of what was read, and every such file is called by its name, by its
-- first bytes. Assumes nothing.
use Prim.Native.Nat.{ℕ, ◌+◌, ◌*◌}
use mathlib.Core.Path.{◌≡◌, refl, sym, ap, ◌∙◌}
use mathlib.Core.Bool.{Bool, true, false}
use mathlib.Core.List.{List, [], ◌∷◌, ◌++◌}
use native.Mathlib.Omega.{arith}
use lib.Dec.{eqb}
use lib.ListN.{length, take}
use borrow.Author.Tests.{le-ltb}
use Rattle.laws.specs.Choice.{pick}
use Rattle.std.specs.Prelude.{Ok}
use Rattle.records.specs.Bytes.{Bytes, two_bytes_each}
use Rattle.records.specs.Layout.{record_of}
use Rattle.records.specs.Given.{read_given}
use Rattle.records.proofs.Given.{read-apart}
use Rattle.site.specs.Record.{positions}
use Rattle.site.specs.declared.Site.{Site}
use Rattle.blockbits.specs.Blocks.{block_record}
use Rattle.sitefile.specs.Read.{read_site}
use Rattle.reachpairs.specs.Pairs.{pair_bytes}
use Rattle.sitefile.specs.Write.{site_bytes}
use Rattle.sitefile.proofs.Trip.{read_then_written}
use Rattle.planfile.specs.Write.{plan_bytes}
use Rattle.lines.specs.Match.{starts}
use Rattle.lines.specs.Format.{header}
use Rattle.sheet.specs.Sheet.{sheet_bytes}
use Rattle.flowlist.specs.declared.Flow.{Flow}
use Rattle.flowsheet.specs.Format.{flow_sheet}
use Rattle.inputs.specs.Files.{by_kind, house_file, input_of}
use Rattle.inputs.specs.declared.Input.TheVariants.{SiteFile, PlanFile, RangeSheet, FlowSheet}
use Rattle.demanded.specs.Numbers.{done}

-- a head of length 10 and kind 5: W11, "A rule 2 site file begins with kind 5"
by-rule : (a b c d e f g h l m : ℕ) (r : List ℕ) → input_of (10 ∷ 0 ∷ 5 ∷ 0 ∷ a ∷ b ∷ c ∷ d ∷ e ∷ f ∷ g ∷ h ∷ l ∷ m ∷ r) ≡ SiteFile
unfolding input_of house_file starts
by-rule a b c d e f g h l m r = rw (le-ltb (length (10 ∷ 0 ∷ 5 ∷ 0 ∷ a ∷ b ∷ c ∷ d ∷ e ∷ f ∷ g ∷ h ∷ l ∷ m ∷ r)) 14 (omega arith))

-- a head of length 8 and kind 1, and a second record of length l and m, kind k and n
by_second : (a b c d e f l m k n : ℕ) (r : List ℕ) → input_of (8 ∷ 0 ∷ 1 ∷ 0 ∷ a ∷ b ∷ c ∷ d ∷ e ∷ f ∷ l ∷ m ∷ k ∷ n ∷ r) ≡ by_kind (k + n * 256)
unfolding input_of house_file starts
by_second a b c d e f l m k n r = rw (le-ltb (length (8 ∷ 0 ∷ 1 ∷ 0 ∷ a ∷ b ∷ c ∷ d ∷ e ∷ f ∷ l ∷ m ∷ k ∷ n ∷ r)) 14 (omega arith))

pub site-called : (s : Site) → input_of (site_bytes s) ≡ SiteFile
unfolding site_bytes by_kind
site-called s = by-head (eqb s.rule 2) refl
  where
    rest : List ℕ
    rest =
        record_of 2 (two_bytes_each (take s.cells s.loads)) ++ (record_of 3 (pair_bytes s.reach) ++ block_record s.blocked (positions s))

    by-head : (t : Bool) → eqb s.rule 2 ≡ t
        → input_of (record_of (pick t 5 1) (two_bytes_each (s.cells ∷ s.slots ∷ s.channels ∷ pick t (s.rule ∷ []) [])) ++ rest) ≡ SiteFile
    by-head true e = by-rule _ _ _ _ _ _ _ _ _ _ _
    by-head false e = by_second _ _ _ _ _ _ _ _ _ _ _

pub plan-called : (cells slots channels : ℕ) (table : List ℕ) → input_of (plan_bytes cells slots channels table) ≡ PlanFile
unfolding plan_bytes by_kind
plan-called cells slots channels table = by_second _ _ _ _ _ _ _ _ _ _ _

pub sheet-called : (s : Site) → input_of (sheet_bytes s) ≡ RangeSheet
unfolding sheet_bytes header input_of starts
sheet-called s = refl

pub flows-called : (f : ℕ → Flow) (n : ℕ) → input_of (flow_sheet f n) ≡ FlowSheet
unfolding flow_sheet input_of starts
flows-called f n = refl

-- so of a file that is accepted
pub accepted-called : (file : List ℕ) → Bytes file → read_given (read_site file).answer ≡ done → input_of file ≡ SiteFile
accepted-called file bytes ok =
    ap input_of (sym (read_then_written file bytes (read-apart (read_site file).answer (Ok tt) ok))) ∙ site-called (read_site file).site
