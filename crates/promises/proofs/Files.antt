-- Demand 2, the files: a site written and read back is the same site; an accepted file written again is the same bytes.
-- Over what the calls answer and leave, with any output.
-- The trips are those of the file crates. Assumes nothing.
use mathlib.Core.Path.{◌≡◌, sym, ap, ◌∙◌}
use mathlib.Core.List.{List, [], ◌∷◌, ◌++◌, map}
use Prim.Native.Nat.{ℕ, ◌+◌, ◌≤◌}
use lib.Dec.{leb}
use lib.ListN.{length, take, drop}
use lib.Seq.{take_at}
use borrow.Author.Tests.{le-leb}
use Rattle.std.specs.Prelude.{Ok}
use Rattle.records.specs.Bytes.{Bytes, le16}
use Rattle.records.specs.Given.{read_given, written_given}
use Rattle.records.proofs.Given.{read-apart}
use Rattle.records.specs.Write.{written, laid_over}
use Rattle.site.specs.Record.{size, fault_of}
use Rattle.site.specs.declared.Site.{Site}
use Rattle.site.specs.Given.{Given}
use Rattle.site.specs.Held.{Held}
use Rattle.sitefile.specs.Read.{site_done, read_site}
use Rattle.sitefile.specs.Write.{site_bytes, site_written, site_out}
use Rattle.sitefile.specs.declared.SiteRead.{SiteRead}
use Rattle.records.specs.declared.Length.TheVariants.{Pairs}
use Rattle.records.proofs.Laws.{length-least}
use Rattle.sitefile.specs.Reasons.{reach_at}
use Rattle.sitefile.proofs.Reasons.{first-refused}
use Rattle.sitefile.proofs.FileTrip.{accepted}
use Rattle.sitefile.proofs.Trip.{written_then_read, written-again}
use Rattle.planbits.specs.Bits.{one}
use Rattle.planfile.specs.Read.{read_plan, plan_table_read}
use Rattle.planfile.specs.Write.{plan_written, plan_out}
use Rattle.planfile.specs.Given.{plan_written_given}
use Rattle.planfile.specs.declared.PlanRead.{PlanRead}
use Rattle.planfile.proofs.Given.{written_apart}
use Rattle.planfile.proofs.Trip.{calls-written-read, calls-read-written}
use Rattle.demanded.specs.Numbers.{done, done_with}
use Rattle.demanded.specs.Demands.{Accepted}
use Rattle.demanded.proofs.Numbers.{accepted-number}
use Rattle.promises.proofs.Demand1.{wrote-fine, site-write-leaves}

-- what a writer that is done was given
pub site-accepted : (s : Site) (out : List ℕ) → (written_given (site_written s out)).number ≡ 0 → Accepted s
unfolding site_written written
site-accepted s out e = (accepted-number s).1 (wrote-fine (fault_of s) (leb (length (site_bytes s)) (length out)) (length (site_bytes s)) e)

-- A site written and read back is the same site: `read_site` of what `write_site` wrote
pub site-written-read : (s : Site) → Held s → (out : List ℕ) (n : ℕ) → written_given (site_written s out) ≡ done_with (n ∷ [])
    → (read_given (read_site (take n (site_out s out))).answer ≡ done) × ((read_site (take n (site_out s out))).site ≡ s)
site-written-read s held out n e =
    let zero : (written_given (site_written s out)).number ≡ 0 = ap (λ (g : Given). g.number) e in
    let w = (site-write-leaves s out).if_done zero in
    let m : length (site_bytes s) ∷ [] ≡ n ∷ [] = sym w.0 ∙ ap (λ (g : Given). g.values) e in
    let count : length (site_bytes s) ≡ n = cc in
    let file : take n (site_out s out) ≡ site_bytes s = rw w.1 (take_at (site_bytes s) (drop (length (site_bytes s)) out) n count) in
    let is : read_site (take n (site_out s out)) ≡ site_done s = ap read_site file ∙ written_then_read s held
    ((accepted-number s).0 (site-accepted s out zero)) in
    (ap (λ (r : SiteRead). read_given r.answer) is, ap (λ (r : SiteRead). r.site) is)

-- an accepted file written again is the same bytes: `write_site` of what `read_site` read
pub site-read-written : (file : List ℕ) → Bytes file → read_given (read_site file).answer ≡ done → (out : List ℕ) → length file ≤ length out
    → (written_given (site_written (read_site file).site out) ≡ done_with (length file ∷ []))
    × (site_out (read_site file).site out ≡ file ++ drop (length file) out)
unfolding written laid_over
site-read-written file bytes ok out fits =
    let w = written-again file bytes (read-apart (read_site file).answer (Ok tt) ok) out in
    let room = le-leb (length file) (length out) fits in
    (ap written_given w.0 ∙ rw room, w.1 ∙ rw room)

-- ---- plan files

-- what `write_plan` wrote, `read_plan` reads: I, T and F, and the table's reservations; "read back, 2 becomes 0"
pub plan-written-read : (s : Site) (t out u : List ℕ) (n : ℕ) → plan_written_given (plan_written s t out) ≡ done_with (n ∷ []) → size s ≤ length u
    → let back = read_plan (take n (plan_out s t out)) u in
    (read_given back.answer ≡ done) × (back.cells ≡ s.cells) × (back.slots ≡ s.slots) × (back.channels ≡ s.channels)
    × (plan_table_read (take n (plan_out s t out)) u ≡ map one (take (size s) t) ++ drop (size s) u)
plan-written-read s t out u n e long =
    let w = calls-written-read s t out u n (written_apart (plan_written s t out) (Ok n) e) long in (
      ap (λ (r : PlanRead). read_given r.answer) w.0,
      ap (λ (r : PlanRead). r.cells) w.0,
      ap (λ (r : PlanRead). r.slots) w.0,
      ap (λ (r : PlanRead). r.channels) w.0,
      w.1,
    )

-- what `read_plan` accepted, `write_plan` writes as the same bytes, given an accepted site with the I, T and F that were read
pub plan-read-written : (file t : List ℕ) → read_given (read_plan file t).answer ≡ done → Bytes file
    → (s : Site) → Accepted s → s.cells ≡ (read_plan file t).cells → s.slots ≡ (read_plan file t).slots → s.channels ≡ (read_plan file t).channels
    → (out : List ℕ) → length file ≤ length out
    → (plan_written_given (plan_written s (plan_table_read file t) out) ≡ done_with (length file ∷ []))
    × (plan_out s (plan_table_read file t) out ≡ file ++ drop (length file) out)
plan-read-written file t ok bytes s fine i a f out fits =
    let w = calls-read-written file t (read-apart (read_plan file t).answer (Ok tt) ok) bytes s ((accepted-number s).0 fine) i a f out fits in
    (ap plan_written_given w.0, w.1)

-- "A site file is kinds 1, 2, 3; kind 3 is there even when empty": its length and its kind stand after the loads of every file that is accepted
pub kind-three-there : (file : List ℕ) → read_given (read_site file).answer ≡ done
    → let at = reach_at file in (at + 4 ≤ length file) × (2 ≤ le16 file at) × (le16 file (at + 2) ≡ 3)
kind-three-there file ok =
    let r = (accepted file (sym (first-refused file) ∙ read-apart (read_site file).answer (Ok tt) ok)).reach in
    (r.four, length-least Pairs (le16 file (reach_at file)) r.fits, r.same)
