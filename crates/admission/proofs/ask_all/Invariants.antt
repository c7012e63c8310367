-- `admission::ask_all` meets its contract: before flow i none is refused, and the arrays hold the cells, shares and values of those below i. Assumes nothing.
use Rattle.std.specs.Prelude.{◌≡◌, List, ℕ, ◌-◌, get_or}
use Rattle.std.proofs.lemmas.List.Edits.{sets}
use Rattle.laws.specs.Part.{list_of}
use Rattle.laws.specs.Search.{first}
use Rattle.flowlist.specs.List.{zero_flow}
use Rattle.flowlist.specs.declared.Flow.{Flow}
use Rattle.admission.specs.Admit.{share_in, amount, bad_in, first_bad_in}
use Rattle.admission.proofs.ask_all.Given as goal

-- the flow at a place
abbrev at : List Flow → ℕ → Flow
at list k = get_or list k zero_flow

abbrev pub invariant-loop-i : goal.invariant-loop-i
invariant-loop-i l = (first_bad_in l.cells l.slots (at l.list) l.count ≡ first (λ k. bad_in l.cells l.slots (at l.list k)) l.i l.count)
    × (l.own ≡ sets l.initial.own 0 (list_of (λ k. (at l.list k).cell - 1) l.i))
    × (l.shares ≡ sets l.initial.shares 0 (list_of (λ k. amount (share_in l.slots (at l.list k))) l.i))
    × (l.values ≡ sets l.initial.values 0 (list_of (λ k. (at l.list k).value) l.i))
