-- `planfile::write_plan` meets its contract: the tests say which answer holds, and the head and the bits are the file. Assumes nothing.
use Prim.Native.Nat.{ℕ, ◌+◌, ◌≤◌}
use mathlib.Core.Path.{◌≡◌, sym, ap, ◌∙◌}
use native.Mathlib.Omega.{arith}
use lib.Seq.{length-take-le}
use Rattle.site.specs.Record.{fault_of}
use Rattle.std.specs.Prelude.{Ok}
use Rattle.site.proofs.Faults.{fine-sized, few_bytes}
use Rattle.records.specs.Head.{head_size}
use Rattle.records.specs.Bits.{bytes_for}
use Rattle.planfile.proofs.WriteLaws.{table-short, out-short, all_done}
use Rattle.planfile.proofs.write_plan.Goals as goal

pub returns-then-table-n : goal.returns-then-table-n
returns-then-table-n c =
    let fine : fault_of c.args.site ≡ Ok tt = sym c.accepted.ensures
    ∙ c.in_ok-accepted.was in let all_told = table-short c.args.site c.args.table.now c.args.out.now fine
    (rw c.entries-n.ensures at c.if-table-n.true) in record { value = all_told.0; out_after = all_told.1 }

pub returns-then-out-need : goal.returns-then-out-need
returns-then-out-need c =
    let fine : fault_of c.args.site ≡ Ok tt = sym c.accepted.ensures ∙ c.in_ok-accepted.was in
    let e = c.entries-n.ensures in let all_told = out-short c.args.site c.args.table.now c.args.out.now fine (rw e at c.if-table-n.false) _
    (ap (λ (n : ℕ). head_size + 4 + bytes_for n) e) c.if-out-need.true in record { value = all_told.0; out_after = all_told.1 }

pub overflow_cast-m : goal.overflow_cast-m
overflow_cast-m c =
    let fine : fault_of c.args.site ≡ Ok tt = sym c.accepted.ensures ∙ c.in_ok-accepted.was in
    let few : c.entries-n.result ≤ 65536 = rw c.entries-n.ensures (few_bytes (fine-sized _ fine)) in
    omega (arith, few)

pub slice_bounds-put_bits-end : goal.slice_bounds-put_bits-end
slice_bounds-put_bits-end c = sym (length-take-le _ _ c.if-table-n.false)

pub put_bits-requires : goal.put_bits-requires
put_bits-requires c = rw (length-take-le _ _ c.if-table-n.false) (omega (arith, c.put_start.auto.out, c.put_head.auto.out))

pub returns : goal.returns
returns c =
    let fine : fault_of c.args.site ≡ Ok tt = sym c.accepted.ensures ∙ c.in_ok-accepted.was in
    let n = c.entries-n.result in
    let e = c.entries-n.ensures in
    let t = c.args.table.now in
    let d = all_done c.args.site t c.args.out.now fine (rw e at c.if-table-n.false) _ (ap (λ (k : ℕ). head_size + 4 + bytes_for k) e)
    c.if-out-need.false in record {
      value = d.0;
      out_after = c.put_bits.ensures ∙ rw
          (length-take-le n t c.if-table-n.false, c.put_start.ensures, c.put_head.ensures, e) d.1;
    }
