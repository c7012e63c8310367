-- `planner::plan` meets its contract. Few positions are blocked by the first word: the run over it is the site's. Assumes nothing.
use mathlib.Core.Path.{◌≡◌, sym, ap, ◌∙◌}
use Prim.Native.Nat.{ℕ, ◌≤◌}
use mathlib.Core.Bool.{Bool, not}
use lib.ListN.{length, get_or}
use native.Mathlib.Omega.{arith}
use Rattle.std.specs.Prelude.{Ok}
use Rattle.laws.specs.Bits.{bit_at, bit_in}
use Rattle.theory.specs.Net.{Net}
use Rattle.theory.specs.Greedy.{greedy}
use Rattle.site.specs.Record.{positions, size, fault_of}
use Rattle.site.specs.Reach.{net_of, net_in, is_open}
use Rattle.planner.specs.Plan.{answer_of, leaves}
use Rattle.planner.proofs.Alike.{first-open, answer-alike, leaves_alike}
use Rattle.planner.proofs.Answer.{run-answer, run-table}
use Rattle.planner.proofs.plan.Goals as goal

pub returns-then-slots-channels-le-SHORT : goal.returns-then-slots-channels-le-SHORT
returns-then-slots-channels-le-SHORT c =
    let s = c.args.site in
    let t = c.args.table.now in
    let fine : fault_of s ≡ Ok tt = sym c.accepted.ensures ∙ c.in_ok-accepted.was in
    let fits : size s ≤ length t = omega (arith, c.if-table-size.false) in
    let net : net_in s.cells (positions s) s.loads (bit_in c.clash_rows-clash.result) (is_open s.blocked) ≡ net_of s
    = ap (λ clash. net_in s.cells (positions s) s.loads clash (is_open s.blocked)) (c.clash_rows-clash.ensures.clash fine) in
    let clash = bit_in c.clash_rows-clash.result in
    let opened : ℕ → Bool = λ k. not (bit_at (get_or s.blocked 0 0) k) in
    let same = first-open s.blocked (positions s) (omega arith) in record {
      answer = c.plan_few.ensures.answer
          ∙ answer-alike s.cells (positions s) s.loads clash (is_open s.blocked) opened same
          ∙ ap (λ (x : Net). answer_of (greedy x)) net
          ∙ sym (run-answer s t fine fits);
      table = c.plan_few.ensures.table
          ∙ leaves_alike s.cells (positions s) s.loads clash (is_open s.blocked) opened same t
          ∙ ap (λ (x : Net). leaves x t) net
          ∙ sym (run-table s t fine fits);
    }
