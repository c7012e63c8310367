-- `resize::pair_blocked` meets its contract: a slot and a channel of the site are one of its positions, of which there are at most 2,048. Assumes nothing.
use Prim.Native.Nat.{◌+◌, ◌*◌, ◌<◌}
use mathlib.Core.Bool.{true}
use mathlib.Core.Path.{◌≡◌, sym, ◌∙◌}
use native.Mathlib.Omega.{arith}
use Rattle.resize.specs.Sizes.{pair_in, pair_blocked}
use Rattle.resize.proofs.Pairs.{pair-few}
use Rattle.resize.proofs.pair_blocked.Goals as goal

pub returns-then-not-pair_in : goal.returns-then-not-pair_in
unfolding pair_blocked
returns-then-not-pair_in c = rw (sym c.pair_in.ensures ∙ c.if-not-pair_in.true)

pub overflow_mul-slot : goal.overflow_mul-slot
overflow_mul-slot c =
    let inside : let e = c.args in pair_in e.slots e.channels e.slot e.channel ≡ true = sym c.pair_in.ensures ∙ c.if-not-pair_in.false in
    let few : let e = c.args in e.slot * e.channels + e.channel < 2048 = let e = c.args in
    pair-few e.slots e.channels e.slot e.channel c.requires.0 c.requires.1 inside in
    omega (arith, few)

pub overflow_add-slot : goal.overflow_add-slot
overflow_add-slot c =
    let inside : let e = c.args in pair_in e.slots e.channels e.slot e.channel ≡ true = sym c.pair_in.ensures ∙ c.if-not-pair_in.false in
    let few : let e = c.args in e.slot * e.channels + e.channel < 2048 = let e = c.args in
    pair-few e.slots e.channels e.slot e.channel c.requires.0 c.requires.1 inside in
    omega (arith, few)

pub is_blocked-requires : goal.is_blocked-requires
is_blocked-requires c =
    let inside : let e = c.args in pair_in e.slots e.channels e.slot e.channel ≡ true = sym c.pair_in.ensures ∙ c.if-not-pair_in.false in
    let few : let e = c.args in e.slot * e.channels + e.channel < 2048 = let e = c.args in
    pair-few e.slots e.channels e.slot e.channel c.requires.0 c.requires.1 inside in
    few

pub returns : goal.returns
unfolding pair_blocked
returns c =
    let inside : let e = c.args in pair_in e.slots e.channels e.slot e.channel ≡ true = sym c.pair_in.ensures ∙ c.if-not-pair_in.false in
    rw inside c.is_blocked.ensures
