-- `changelist::list_word` meets its contract: at the head of the loop the changes below some position are stored and listed, and what is left has the bits from
-- there on (`Worded`). Assumes nothing.
use mathlib.Core.Path.{◌≡◌, refl, ◌∙◌}
use mathlib.Core.Logic.{⊎_elim}
use Prim.Native.Nat.{◌+◌, ◌-◌, ◌^◌, ◌≤◌, ◌<◌}
use native.Mathlib.Nat.{eq-zero-or-pos}
use native.Mathlib.Omega.{arith}
use lib.Bits.{and_le_r}
use lib.Count.{count_trailing_zeros, trailing_le}
use lib.ListN.{length}
use Rattle.changelist.proofs.Word.{none-worded, bit-inside, bit-differs, room-here, word-goes, table-whole, list-whole, place-whole}
use borrow.Author.Rules.{rules}
use Rattle.changelist.proofs.list_word.Goals as goal

pub loop-rest-init : goal.loop-rest-init
loop-rest-init c =
    let fits-is : c.args.is < 2 ^ 64 = search rules in
    let fits-was : c.args.was < 2 ^ 64 = search rules in
    let a = c.args in
    (refl, refl, none-worded a.is a.was a.n a.i a.from a.at a.table.now a.list.now fits-is fits-was)

pub overflow_cast-b : goal.overflow_cast-b
overflow_cast-b c = omega (arith, trailing_le 64 c.loop-rest.rest)

pub overflow_shr-stands : goal.overflow_shr-stands
overflow_shr-stands c =
    let some : c.loop-rest.rest ≡ 0 → ⊥ = λ e. c.loop-rest-test.true e in
    let inside : count_trailing_zeros 64 c.loop-rest.rest < 64 = bit-inside c.args.is c.args.was c.args.n c.args.i c.args.from c.args.at c.args.table.now
    c.args.list.now
    c.loop-rest.table c.loop-rest.list c.loop-rest.rest c.loop-rest.next c.loop-rest.invariant.2 some in
    omega (arith, inside)

pub overflow_add-from : goal.overflow_add-from
overflow_add-from c =
    let some : c.loop-rest.rest ≡ 0 → ⊥ = λ e. c.loop-rest-test.true e in
    let inside : count_trailing_zeros 64 c.loop-rest.rest < 64 = bit-inside c.args.is c.args.was c.args.n c.args.i c.args.from c.args.at c.args.table.now
    c.args.list.now
    c.loop-rest.table c.loop-rest.list c.loop-rest.rest c.loop-rest.next c.loop-rest.invariant.2 some in
    let here : c.args.from + count_trailing_zeros 64 c.loop-rest.rest < c.args.n = c.requires.3 (count_trailing_zeros 64 c.loop-rest.rest) inside
    (bit-differs c.args.is c.args.was c.args.n c.args.i c.args.from c.args.at c.args.table.now c.args.list.now
    c.loop-rest.table c.loop-rest.list c.loop-rest.rest c.loop-rest.next c.loop-rest.invariant.2 some) in
    omega (arith, here, c.requires.1)

pub list_change-requires : goal.list_change-requires
list_change-requires c =
    let some : c.loop-rest.rest ≡ 0 → ⊥ = λ e. c.loop-rest-test.true e in
    let inside : count_trailing_zeros 64 c.loop-rest.rest < 64 = bit-inside c.args.is c.args.was c.args.n c.args.i c.args.from c.args.at c.args.table.now
    c.args.list.now
    c.loop-rest.table c.loop-rest.list c.loop-rest.rest c.loop-rest.next c.loop-rest.invariant.2 some in
    let here : c.args.from + count_trailing_zeros 64 c.loop-rest.rest < c.args.n = c.requires.3 (count_trailing_zeros 64 c.loop-rest.rest) inside
    (bit-differs c.args.is c.args.was c.args.n c.args.i c.args.from c.args.at c.args.table.now c.args.list.now
    c.loop-rest.table c.loop-rest.list c.loop-rest.rest c.loop-rest.next c.loop-rest.invariant.2 some) in
    let room : c.loop-rest.next + 4 ≤ length c.loop-rest.list = room-here c.args.is c.args.was c.args.n c.args.i c.args.from c.args.at c.args.table.now
    c.args.list.now
    c.loop-rest.table c.loop-rest.list c.loop-rest.rest c.loop-rest.next c.loop-rest.invariant.2 some c.requires.4 in
    (c.requires.0, c.requires.1, here, omega (arith, c.requires.2, c.loop-rest.invariant.0), room)

pub overflow_add-next : goal.overflow_add-next
overflow_add-next c =
    let some : c.loop-rest.rest ≡ 0 → ⊥ = λ e. c.loop-rest-test.true e in
    let room : c.loop-rest.next + 4 ≤ length c.loop-rest.list = room-here c.args.is c.args.was c.args.n c.args.i c.args.from c.args.at c.args.table.now
    c.args.list.now
    c.loop-rest.table c.loop-rest.list c.loop-rest.rest c.loop-rest.next c.loop-rest.invariant.2 some c.requires.4 in
    omega (arith, room)

pub overflow_sub-rest : goal.overflow_sub-rest
overflow_sub-rest c =
    let some : c.loop-rest.rest ≡ 0 → ⊥ = λ e. c.loop-rest-test.true e in
    ⊎_elim (λ (e : c.loop-rest.rest ≡ 0). absurd (some e)) (λ g. g) (eq-zero-or-pos c.loop-rest.rest)

pub loop-rest-smaller : goal.loop-rest-smaller
loop-rest-smaller c =
    let some : c.loop-rest.rest ≡ 0 → ⊥ = λ e. c.loop-rest-test.true e in
    let r = c.loop-rest.rest in
    let pos : 0 < r = ⊎_elim (λ (e : r ≡ 0). absurd (some e)) (λ g. g) (eq-zero-or-pos r) in
    omega (arith, pos, and_le_r r (r - 1))

pub loop-rest-preserved : goal.loop-rest-preserved
loop-rest-preserved c =
    let some : c.loop-rest.rest ≡ 0 → ⊥ = λ e. c.loop-rest-test.true e in
    let a = c.args in
    let k = c.loop-rest in (
      c.list_change.auto.table ∙ k.invariant.0,
      c.list_change.auto.list ∙ k.invariant.1,
      word-goes a.is a.was a.n a.i a.from a.at a.table.now a.list.now k.table k.list k.rest k.next k.invariant.2 some
          c.list_change.ensures.table c.list_change.ensures.list,
    )

pub returns : goal.returns
returns c = let k = c.loop-rest in
    let a = c.args in
    let none : k.rest ≡ 0 = c.loop-rest-test.false in record {
      table = table-whole a.is a.was a.n a.i a.from a.at a.table.now a.list.now k.table k.list k.rest
          k.next k.invariant.2 none;
      list = list-whole a.is a.was a.n a.i a.from a.at a.table.now a.list.now k.table k.list k.rest k.next k.invariant.2 none;
      next = place-whole a.is a.was a.n a.i a.from a.at a.table.now a.list.now k.table k.list k.rest k.next k.invariant.2 none;
    }
