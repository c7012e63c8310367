-- `admission::chosen` meets its contract: the arrays are laid up to the first flow that is refused; where there is none they are laid for all.
-- Assumes nothing.
use Prim.Native.Nat.{ℕ, ◌-◌, ◌≤◌, ◌<◌}
use mathlib.Core.List.{List}
use mathlib.Core.Path.{◌≡◌, refl, sym, ap, ap₂, ◌∙◌}
use native.Mathlib.Omega.{arith}
use lib.ListN.{get_or}
use Rattle.bestset.specs.Code.{best_in}
use Rattle.flowlist.specs.List.{zero_flow}
use Rattle.flowlist.specs.declared.Flow.{Flow}
use Rattle.flowlist.specs.declared.FlowList.{FlowList}
use Rattle.admission.specs.Admit.{first_bad_in}
use Rattle.admission.specs.Code.{laid_first}
use Rattle.std.specs.Prelude.{Ok, Err}
use Rattle.admission.proofs.Arrays.{laid-all, inside}
use Rattle.admission.proofs.Choosing.{chosen-bad, chosen-set}
use Rattle.admission.proofs.chosen.Goals as goal

-- the flows that are here, by place
abbrev here : FlowList → ℕ → Flow
here l k = get_or l.list k zero_flow

pub ask_all-bad-requires : goal.ask_all-bad-requires
ask_all-bad-requires c = (c.requires.count_bound.0, refl, refl, refl)

pub returns-then-bad-count : goal.returns-then-bad-count
returns-then-bad-count c = let a = c.args in
    ap Err c.refusal.ensures
    ∙ sym (chosen-bad a.cells a.slots (here a.l) a.count a.clash.now a.rooms.now _ c.ask_all-bad.ensures.bad
    c.if-bad-count.true)

pub best_set-set-requires : goal.best_set-set-requires
best_set-set-requires c =
    let all : c.args.count ≤ first_bad_in c.args.cells c.args.slots (here c.args.l) c.args.count = rw (← c.ask_all-bad.ensures.bad) c.if-bad-count.false in
    let laid : (g : ℕ → ℕ) (l : List ℕ) → l ≡ laid_first g c.ask_all-bad.result → l ≡ laid_first g c.args.count = λ g l e. let a = c.args in
    laid-all a.cells a.slots (here a.l) a.count c.requires.count_bound.0 all g _ l c.ask_all-bad.ensures.bad e in
    let owned : (c.ask_all-bad.new.own) ≡ laid_first (λ k. (here c.args.l k).cell - 1) c.args.count = laid _
    (c.ask_all-bad.new.own) c.ask_all-bad.ensures.cells in
    let within : (k : ℕ) → k < 16 → get_or (c.ask_all-bad.new.own) k 0 < 32 = λ k h. let a = c.args in
    let p = c.requires.count_bound in
    omega (
      arith,
      ap (λ (t : List ℕ). get_or t k 0) owned,
      inside a.cells a.slots (here a.l) a.count p.0 all p.1 k h,
      p.2,
    ) in record { count_bound = c.requires.count_bound.0; by_index = c.requires.by_index; by_index_2 = within }

pub returns : goal.returns
returns c =
    let all : c.args.count ≤ first_bad_in c.args.cells c.args.slots (here c.args.l) c.args.count = rw (← c.ask_all-bad.ensures.bad) c.if-bad-count.false in
    let laid : (g : ℕ → ℕ) (l : List ℕ) → l ≡ laid_first g c.ask_all-bad.result → l ≡ laid_first g c.args.count = λ g l e. let a = c.args in
    laid-all a.cells a.slots (here a.l) a.count c.requires.count_bound.0 all g _ l c.ask_all-bad.ensures.bad e in
    let owned : (c.ask_all-bad.new.own) ≡ laid_first (λ k. (here c.args.l k).cell - 1) c.args.count = laid _
    (c.ask_all-bad.new.own) c.ask_all-bad.ensures.cells in
    let a = c.args in
    ap Ok
    (c.best_set-set.ensures
    ∙ ap (λ (t : List ℕ). best_in a.rooms.now a.clash.now t c.ask_all-bad.new.shares c.ask_all-bad.new.values a.count) owned
    ∙ ap₂ (λ (t u : List ℕ). best_in a.rooms.now a.clash.now (laid_first (λ k. (here a.l k).cell - 1) a.count) t u a.count)
    (laid _ _ c.ask_all-bad.ensures.shares) (laid _ _ c.ask_all-bad.ensures.values))
    ∙ sym (chosen-set a.cells a.slots (here a.l) a.count a.clash.now a.rooms.now all)
