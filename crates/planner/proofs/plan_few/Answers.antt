-- `planner::plan_few` meets its contract: below n the word has the positions that are not blocked, and no others count. Assumes nothing.
use mathlib.Core.Path.{◌≡◌, sym, ap, subst, ◌∙◌}
use mathlib.Core.Bool.{Bool, not}
use Prim.Native.Nat.{ℕ, ◌*◌, ◌^◌, ◌<◌}
use native.Mathlib.Omega.{arith}
use Rattle.laws.specs.Bits.{bit_at, bit_in}
use Rattle.laws.proofs.Words.{word-bit, word_lt}
use Rattle.planner.proofs.Alike.{answer-alike, leaves_alike}
use Rattle.planner.proofs.plan_few.Goals as goal

pub plan_short-requires : goal.plan_short-requires
plan_short-requires c =
    let opened : ℕ → Bool = λ k. not (bit_at c.args.blocked k) in
    let few : c.open_word-usable.result < 2 ^ (c.args.slots * c.args.channels) = subst (λ (x : ℕ). x < 2 ^ (c.args.slots * c.args.channels))
    (sym c.open_word-usable.ensures) (word_lt opened (c.args.slots * c.args.channels)) in record {
      cells_bound =
          (c.requires.0, c.requires.1, omega arith, few);
      channels_in_bounds = (c.requires.2, c.requires.3);
    }

pub returns : goal.returns
returns c =
    let opened : ℕ → Bool = λ k. not (bit_at c.args.blocked k) in
    let same : (k : ℕ) → k < (c.args.slots * c.args.channels) → opened k ≡ bit_at c.open_word-usable.result k = λ k l. sym
    (ap (λ (x : ℕ). bit_at x k) c.open_word-usable.ensures ∙ word-bit opened (c.args.slots * c.args.channels) k l) in
    let a = c.args in
    let usable = bit_at c.open_word-usable.result in record {
      answer = c.plan_short.ensures.answer ∙ answer-alike a.cells
          (c.args.slots * c.args.channels) a.loads.now (bit_in a.clash.now) opened usable same;
      table = c.plan_short.ensures.table ∙ leaves_alike a.cells
          (c.args.slots * c.args.channels) a.loads.now (bit_in a.clash.now) opened usable same a.table.now;
    }
