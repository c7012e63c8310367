-- `planfile::read_plan` meets its contract: the head refuses, or the plan record's reader decides. Assumes nothing.
use mathlib.Core.Path.{◌≡◌, sym, ap, ◌∙◌}
use native.Mathlib.Omega.{arith}
use Rattle.records.specs.Head.{head_answer}
use Rattle.std.specs.Prelude.{Ok}
use Rattle.records.proofs.Head.{head_read-law}
use Rattle.planfile.specs.Read.{refused_plan}
use Rattle.planfile.proofs.ReadLaws.{refuse, head-stop}
use Rattle.planfile.proofs.read_plan.Goals as goal

pub returns-in_default : goal.returns-in_default
returns-in_default c = let e = c.in_default.is in
    let r = refuse c.args.bytes.now c.args.table.now _ (head-stop c.args.bytes.now c.args.table.now _
    (sym c.head_answer-head.ensures ∙ e)) in record { value = c.refused.ensures ∙ ap refused_plan e ∙ r.0; table_after = r.1 }

pub two_bytes-cells-requires : goal.two_bytes-cells-requires
two_bytes-cells-requires c =
    let done : head_answer c.args.bytes.now ≡ Ok tt = sym c.head_answer-head.ensures ∙ c.in-Ok.is in
    omega (arith, (head_read-law _ done).long)

pub two_bytes-slots-requires : goal.two_bytes-slots-requires
two_bytes-slots-requires c =
    let done : head_answer c.args.bytes.now ≡ Ok tt = sym c.head_answer-head.ensures ∙ c.in-Ok.is in
    omega (arith, (head_read-law _ done).long)

pub two_bytes-channels-requires : goal.two_bytes-channels-requires
two_bytes-channels-requires c =
    let done : head_answer c.args.bytes.now ≡ Ok tt = sym c.head_answer-head.ensures ∙ c.in-Ok.is in
    omega (arith, (head_read-law _ done).long)

pub read_body-requires : goal.read_body-requires
read_body-requires c =
    let done : head_answer c.args.bytes.now ≡ Ok tt = sym c.head_answer-head.ensures ∙ c.in-Ok.is in
    record {
      read = done;
      cells_are = c.two_bytes-cells.ensures;
      slots_are = c.two_bytes-slots.ensures;
      channels_are = c.two_bytes-channels.ensures;
    }

pub returns : goal.returns
returns c = record { value = c.read_body.ensures.value; table_after = c.read_body.ensures.table_after }
