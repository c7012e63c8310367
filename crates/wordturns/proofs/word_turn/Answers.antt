-- `wordturns::word_turn` meets its contract: what each step leaves, one after the other, comes to the rule. Assumes nothing.
use mathlib.Core.Path.{ap, ◌∙◌}
use Prim.Native.Nat.{ℕ, ◌-◌}
use Rattle.wordturns.proofs.Turn.{turn-here, turn-short, turn-changes}
use Rattle.wordturns.proofs.word_turn.Goals as goal

pub returns : goal.returns
returns c = let a = c.args in
    let lacking = c.saturating_sub-lacking.ensures ∙ ap (λ (n : ℕ). a.load - n) c.bits_in.ensures in record {
      here = turn-here a.free a.old a.load c.shared.ensures c.first_few-kept.ensures lacking c.without-rest.ensures c.first_few.ensures
          c.either-here.ensures;
      short = c.saturating_sub-short.ensures ∙ ap (λ (n : ℕ). c.saturating_sub-lacking.result - n) c.bits_in-2.ensures
          ∙ turn-short a.free a.old a.load c.shared.ensures c.first_few-kept.ensures lacking c.without-rest.ensures
          c.first_few.ensures c.either-here.ensures;
      changes = c.differing.ensures
          ∙ turn-changes a.free a.old a.load c.shared.ensures c.first_few-kept.ensures lacking c.without-rest.ensures
          c.first_few.ensures c.either-here.ensures;
    }
