-- `say_ways::reaches` meets its contract: a case for each way out. Assumes nothing.
use Prim.Native.Nat.{◌≤◌}
use mathlib.Core.Bool.{true}
use mathlib.Core.Path.{◌≡◌, sym, ◌∙◌}
use native.Mathlib.Omega.{arith}
use Rattle.site.specs.Record.{up_to}
use Rattle.site.specs.Reach.{reaches}
use Rattle.site.proofs.Faults.{up-to}
use Rattle.verdicts.specs.Said.{reach_named}
use borrow.Author.Rules.{rules}
use Rattle.say_ways.proofs.reaches.Goals as goal

pub returns-then-not-within : goal.returns-then-not-within
unfolding reach_named
returns-then-not-within c = simp (sym c.within.ensures ∙ c.if-not-within.true)

pub returns-then-not-within-2 : goal.returns-then-not-within-2
unfolding reach_named
returns-then-not-within-2 c =
    let first_in_holds : up_to 32 c.args.from ≡ true = sym c.within.ensures ∙ c.if-not-within.false in
    simp (first_in_holds, sym c.within-2.ensures ∙ c.if-not-within-2.true)

pub overflow_sub-from : goal.overflow_sub-from
overflow_sub-from c =
    let first_in_holds : up_to 32 c.args.from ≡ true = sym c.within.ensures ∙ c.if-not-within.false in
    let second_in_holds : up_to 32 c.args.to ≡ true = sym c.within-2.ensures ∙ c.if-not-within-2.false in
    let named : (1 ≤ c.args.from) × (c.args.from ≤ 32) × (1 ≤ c.args.to) × (c.args.to ≤ 32) = let a = up-to 32 _ first_in_holds in
    let b = up-to 32 _ second_in_holds in
    (a.0, a.1, b.0, b.1) in
    named.0

pub offset_bounds-reach-from : goal.offset_bounds-reach-from
offset_bounds-reach-from c =
    let first_in_holds : up_to 32 c.args.from ≡ true = sym c.within.ensures ∙ c.if-not-within.false in
    let second_in_holds : up_to 32 c.args.to ≡ true = sym c.within-2.ensures ∙ c.if-not-within-2.false in
    let named : (1 ≤ c.args.from) × (c.args.from ≤ 32) × (1 ≤ c.args.to) × (c.args.to ≤ 32) = let a = up-to 32 _ first_in_holds in
    let b = up-to 32 _ second_in_holds in
    (a.0, a.1, b.0, b.1) in
    let h = named.1 in search rules

pub bounds-reach-from : goal.bounds-reach-from
bounds-reach-from c =
    let first_in_holds : up_to 32 c.args.from ≡ true = sym c.within.ensures ∙ c.if-not-within.false in
    let second_in_holds : up_to 32 c.args.to ≡ true = sym c.within-2.ensures ∙ c.if-not-within-2.false in
    let named : (1 ≤ c.args.from) × (c.args.from ≤ 32) × (1 ≤ c.args.to) × (c.args.to ≤ 32) = let a = up-to 32 _ first_in_holds in
    let b = up-to 32 _ second_in_holds in
    (a.0, a.1, b.0, b.1) in
    omega (arith, named)

pub overflow_sub-to : goal.overflow_sub-to
overflow_sub-to c =
    let first_in_holds : up_to 32 c.args.from ≡ true = sym c.within.ensures ∙ c.if-not-within.false in
    let second_in_holds : up_to 32 c.args.to ≡ true = sym c.within-2.ensures ∙ c.if-not-within-2.false in
    let named : (1 ≤ c.args.from) × (c.args.from ≤ 32) × (1 ≤ c.args.to) × (c.args.to ≤ 32) = let a = up-to 32 _ first_in_holds in
    let b = up-to 32 _ second_in_holds in
    (a.0, a.1, b.0, b.1) in
    named.2

pub has-requires : goal.has-requires
has-requires c =
    let first_in_holds : up_to 32 c.args.from ≡ true = sym c.within.ensures ∙ c.if-not-within.false in
    let second_in_holds : up_to 32 c.args.to ≡ true = sym c.within-2.ensures ∙ c.if-not-within-2.false in
    let named : (1 ≤ c.args.from) × (c.args.from ≤ 32) × (1 ≤ c.args.to) × (c.args.to ≤ 32) = let a = up-to 32 _ first_in_holds in
    let b = up-to 32 _ second_in_holds in
    (a.0, a.1, b.0, b.1) in
    omega (arith, named)

pub returns : goal.returns
unfolding reach_named reaches
returns c =
    let first_in_holds : up_to 32 c.args.from ≡ true = sym c.within.ensures ∙ c.if-not-within.false in
    let second_in_holds : up_to 32 c.args.to ≡ true = sym c.within-2.ensures ∙ c.if-not-within-2.false in
    simp (first_in_holds, second_in_holds) c.has.ensures
