-- `wordforms::gather_words` meets its contract: the words are cleared, and what is stored over zeros is all that is stored. Assumes nothing.
use mathlib.Core.Path.{◌≡◌, ap, ◌∙◌}
use mathlib.Core.List.{List}
use Prim.Native.Nat.{ℕ}
use native.Mathlib.Omega.{arith}
use lib.ListN.{length, get_or}
use Rattle.laws.specs.Part.{Zeros}
use Rattle.laws.proofs.Stores.{sets-long, sets-at, sets_last}
use Rattle.theory.specs.Greedy.{reserved}
use Rattle.words.specs.Words.{word_at}
use Rattle.wordforms.proofs.gather_words.Goals as goal

pub add_rows-requires : goal.add_rows-requires
add_rows-requires c =
    let long : length (c.lay.new.words) ≡ length c.args.words.now = sets-long _ _ _ (c.lay.new.words) c.lay.ensures in
    let none : Zeros c.args.n (c.lay.new.words) = λ k h. ap (λ (z : List ℕ). get_or z k 0) c.lay.ensures
    ∙ sets-at (λ _. 0) _ c.args.words.now k (omega (arith, h, c.requires.1)) (omega (arith, c.requires.1)) in
    (c.requires.0, omega (arith, long, c.requires.1), c.requires.2, none)

pub returns-then-min-lt8 : goal.returns-then-min-lt8
returns-then-min-lt8 c = let a = c.args in
    sets_last (word_at a.cells (reserved a.n a.table.now)) a.n a.words.now (c.lay.new.words) c.add_rows.new.words c.requires.1
    c.lay.ensures c.add_rows.ensures

pub add_eights-requires : goal.add_eights-requires
add_eights-requires c =
    let long : length (c.lay.new.words) ≡ length c.args.words.now = sets-long _ _ _ (c.lay.new.words) c.lay.ensures in
    let none : Zeros c.args.n (c.lay.new.words) = λ k h. ap (λ (z : List ℕ). get_or z k 0) c.lay.ensures
    ∙ sets-at (λ _. 0) _ c.args.words.now k (omega (arith, h, c.requires.1)) (omega (arith, c.requires.1)) in
    (omega (arith, c.min.ensures, c.if-min-lt8.false), c.requires.0, omega (arith, long, c.requires.1), c.requires.2, none)

pub returns : goal.returns
returns c = let a = c.args in
    sets_last (word_at a.cells (reserved a.n a.table.now)) a.n a.words.now (c.lay.new.words) c.add_eights.new.words c.requires.1
    c.lay.ensures c.add_eights.ensures
