-- `admission::decide` meets its contract: each way out is one of the ways of proofs/Answer.antt. Past them no loads count, so that every cell has the whole
-- room, and the clash rows and the rooms state the site's problem. Assumes nothing.
use Prim.Native.Nat.{ℕ}
use mathlib.Core.Bool.{true, false, false≢true}
use mathlib.Core.Path.{◌≡◌, sym, ap, ◌∙◌}
use native.Mathlib.Omega.{arith}
use lib.ListN.{get_or}
use Rattle.theory.specs.Net.{everyone}
use Rattle.theory.specs.Verdict.{class_verdict}
use Rattle.site.specs.Record.{fault_of}
use Rattle.site.specs.Reach.{clash_of, net_of}
use Rattle.std.specs.Prelude.{Ok}
use Rattle.chainwords.proofs.Rows.{mirrored-by}
use Rattle.site.proofs.Reach.{clash-sym}
use Rattle.site.proofs.Faults.{fine-sized, few-positions}
use Rattle.admitting.specs.Best.{idle}
use Rattle.flowlist.specs.List.{zero_flow}
use Rattle.flowlist.specs.declared.Flow.{Flow}
use Rattle.flowlist.specs.declared.FlowList.{FlowList}
use Rattle.admission.specs.Admit.{is_nested}
use Rattle.admission.specs.Code.{rooms_for}
use Rattle.admission.proofs.Answer.{many-answer, outside-answer}
use Rattle.admission.proofs.Choosing.{chosen_is}
use Rattle.admission.proofs.Rooms.{rooms-most, stands}
use Rattle.admission.proofs.Suits.{class-in-rows}
use Rattle.admission.proofs.decide.Goals as goal

-- the flows that are here, by place
abbrev here : FlowList → ℕ → Flow
here l k = get_or l.list k zero_flow

pub returns-then-count-gt16 : goal.returns-then-count-gt16
returns-then-count-gt16 c =
    let fine : fault_of c.args.site ≡ Ok tt = sym c.accepted.ensures ∙ c.in_ok-accepted.was in
    let a = c.args in
    sym (many-answer (idle (net_of a.site)) a.site (here a.l) a.count fine c.if-count-gt16.true)

pub nested-requires : goal.nested-requires
nested-requires c =
    let fine : fault_of c.args.site ≡ Ok tt = sym c.accepted.ensures ∙ c.in_ok-accepted.was in
    let site = c.args.site in
    let ok = fine in (
      (fine-sized site ok).cells_most,
      mirrored-by c.clash_rows-clash.result (clash_of site) (c.clash_rows-clash.ensures.clash ok)
          (clash-sym site.rule site.reach),
    )

pub returns-then-not-nested : goal.returns-then-not-nested
returns-then-not-nested c =
    let fine : fault_of c.args.site ≡ Ok tt = sym c.accepted.ensures ∙ c.in_ok-accepted.was in
    let verdict : c.nested.result ≡ is_nested (class_verdict (net_of c.args.site) everyone) = let a = c.args in
    c.nested.ensures ∙ ap is_nested (class-in-rows a.site c.clash_rows-clash.result
    (c.clash_rows-clash.ensures.clash fine)) in
    let a = c.args in
    sym (outside-answer (idle (net_of a.site)) a.site (here a.l) a.count fine
    c.if-count-gt16.false
    (sym verdict ∙ c.if-not-nested.true))

pub overflow_mul-n : goal.overflow_mul-n
overflow_mul-n c =
    let fine : fault_of c.args.site ≡ Ok tt = sym c.accepted.ensures ∙ c.in_ok-accepted.was in
    omega (arith, few-positions (fine-sized _ fine))

pub open_room-room-requires : goal.open_room-room-requires
open_room-room-requires c =
    let fine : fault_of c.args.site ≡ Ok tt = sym c.accepted.ensures ∙ c.in_ok-accepted.was in
    few-positions (fine-sized _ fine)

pub chosen-requires : goal.chosen-requires
chosen-requires c =
    let fine : fault_of c.args.site ≡ Ok tt = sym c.accepted.ensures ∙ c.in_ok-accepted.was in
    let sized = fine-sized _ fine in record {
      count_bound = (c.if-count-gt16.false, sized.cells_some, sized.cells_most);
      by_index = λ i l. omega (
        arith,
        rooms-most false c.args.site.loads c.clash_rows-clash.result c.open_room-room.result c.args.site.cells i sized.cells_most l,
        c.open_room-room.ensures.1,
      );
    }

pub returns : goal.returns
returns c =
    let fine : fault_of c.args.site ≡ Ok tt = sym c.accepted.ensures ∙ c.in_ok-accepted.was in
    let verdict : c.nested.result ≡ is_nested (class_verdict (net_of c.args.site) everyone) = let a = c.args in
    c.nested.ensures ∙ ap is_nested (class-in-rows a.site c.clash_rows-clash.result
    (c.clash_rows-clash.ensures.clash fine)) in
    let class : is_nested (class_verdict (net_of c.args.site) everyone) ≡ true = sym verdict ∙ c.if-not-nested.false in
    let a = c.args in
    let ok = fine in
    c.chosen.ensures
    ∙ chosen_is (idle (net_of a.site)) a.site (here a.l) a.count ok c.if-count-gt16.false class c.clash_rows-clash.result
    (rooms_for false a.site.loads c.clash_rows-clash.result c.open_room-room.result a.site.cells)
    (λ own inside. stands a.site ok c.clash_rows-clash.result c.clash_rows-clash.ensures.rows
    (c.clash_rows-clash.ensures.clash ok) c.open_room-room.result c.open_room-room.ensures.0 class
    own inside false (λ e. absurd (false≢true e)))
