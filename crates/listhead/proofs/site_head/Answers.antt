-- `listhead::site_head` meets its contract: the planner's answer is the greedy run's. Assumes nothing.
use Prim.Native.Nat.{◌*◌, ◌≤◌}
use mathlib.Core.Path.{◌≡◌, ap, ◌∙◌}
use native.Mathlib.Nat.{mul-le-mul_right, zero-add}
use native.Mathlib.Omega.{arith}
use Rattle.theory.specs.Greedy.{greedy}
use Rattle.site.specs.Reach.{net_of}
use Rattle.site.proofs.Faults.{fine-sized, few-positions, few_bytes}
use Rattle.planner.specs.Plan.{answer_of}
use Rattle.planner.proofs.Answer.{run-answer}
use Rattle.listhead.specs.Listing.{head_lines}
use Rattle.listing.specs.Answers.{row_count}
use Rattle.listhead.specs.Parts.{site_rest}
use Rattle.listhead.proofs.Heading.{no_more}
use Rattle.listhead.proofs.site_head.Goals as goal

pub returns : goal.returns
unfolding head_lines site_rest
returns c =
    let ran : c.plan-answer.result ≡ answer_of (greedy (net_of c.args.site)) = c.plan-answer.ensures.answer
    ∙ run-answer c.args.site c.args.table.now c.requires.site_value
    (omega (arith, c.requires.in_bounds.1, few_bytes (fine-sized c.args.site c.requires.site_value))) in
    let h = rw ran at c.put_answers-end.ensures in
    let n = c.row_count-rows.ensures ∙ ap (λ a. row_count a c.args.site.cells) ran in
    let z = fine-sized c.args.site c.requires.site_value in
    let few : c.row_count-rows.result ≤ c.args.site.cells = omega (arith, no_more c.plan-answer.result c.args.site.cells, c.row_count-rows.ensures) in
    let m = mul-le-mul_right (c.args.site.slots * c.args.site.channels) few in record {
      stored = h.stored;
      table = c.plan-answer.ensures.table;
      rest = λ i. record {
        end = (h.follows ∙ zero-add _) i;
        rows = n i;
        width = c.args.site.slots * c.args.site.channels;
        channels = c.args.site.channels;
      };
      fits = record {
        short = omega (arith, h.follows, h.short);
        few = omega (arith, few, z.cells_most);
        narrow = few-positions z;
        within = omega (arith, m, few_bytes z);
        some = λ _. z.channels_some;
      };
    }
