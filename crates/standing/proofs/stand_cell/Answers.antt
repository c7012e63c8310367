-- `standing::stand_cell` meets its contract: what each step leaves is what the next one asks for. Assumes nothing.
use mathlib.Core.Path.{◌≡◌, ap, ◌∙◌}
use mathlib.Core.List.{List}
use Prim.Native.Nat.{ℕ, ◌+◌, ◌-◌, ◌*◌, ◌<◌}
use native.Mathlib.Nat.{mul-one}
use native.Mathlib.Omega.{arith}
use borrow.Rule.Slice.PartMut.{mid_of}
use lib.Seq.{sets}
use Rattle.mending.specs.Keep.{stand_at}
use Rattle.sets.specs.Sets.{in_set}
use Rattle.sets.proofs.Sets.{in-set, set_words}
use Rattle.standing.specs.Sets.{stands_in, free_by}
use Rattle.standing.proofs.Turns.{lent-set}
use Rattle.standing.proofs.Within.{set_both, short-both, count-both}
use Rattle.standing.proofs.stand_cell.Goals as goal

pub stand_word-requires : goal.stand_word-requires
stand_word-requires c = let a = c.args in
    let one : a.w ≡ 1 = omega (arith, c.if-w-eq1.true) in
    let at : a.i * a.w ≡ a.i = ap (λ (x : ℕ). a.i * x) one ∙ mul-one a.i in
    (one, c.requires.i_bound.0, omega (arith, at, c.requires.i_bound.2), omega (arith, at, c.requires.i_bound.3), omega (arith, c.requires.w_in_bounds.2))

pub returns : goal.returns
returns c = let a = c.args in
    let free = free_by (in_set a.vacant.now) a.w a.row a.stands.now a.i in
    let old = stands_in a.w a.old.now a.i in
    let free' = c.free_set.new.free in
    let old' = mid_of (a.i * a.w) (a.i * a.w + a.w - a.i * a.w) a.old.now in
    let same : (k : ℕ) → k < 64 * a.w → in_set free' k ≡ free k =
    λ k h. ap (λ (l : List ℕ). in_set l k) c.free_set.ensures ∙ in-set free a.w k a.free.now c.requires.w_in_bounds.0 h in
    let was : (k : ℕ) → k < 64 * a.w → in_set old' k ≡ old k = λ k h. lent-set a.old.now a.w (a.i * a.w) k h in record {
      stands = c.put_set.ensures
          ∙ ap (sets a.stands.now (a.i * a.w))
          (set_words (stand_at (in_set free') (in_set old') a.load
          (64 * a.w)) a.w a.here.now c.stand-turn.new.here c.requires.w_in_bounds.1 c.stand-turn.ensures.here
          ∙ set_both free (in_set free') old (in_set old') a.load a.w same was);
      short = c.stand-turn.ensures.short ∙ short-both free (in_set free') old (in_set old') a.load a.w same was;
      changes = c.stand-turn.ensures.changes ∙ count-both free (in_set free') old (in_set old') a.load a.w same was;
    }
