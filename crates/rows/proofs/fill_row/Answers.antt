-- `rows::fill_row` meets its contract. Both loops keep `Going`: what the row will be once the rest of it is filled. Where they begin, that is the filled row.
-- What is outside the stretch that is given is as it was (`kept`). Assumes nothing.
use Rattle.std.proofs.Common.{refl, arith, ℕ, ◌≡◌, ◌+◌, ◌*◌, ◌≤◌, List, ap, ap₂, ◌∙◌, length, get_or, take, min, eqb}
use native.Mathlib.Nat.{mul-le-mul_right}
use Rattle.laws.specs.Choice.{pick}
use Rattle.laws.proofs.Grid.{inside}
use Rattle.theory.specs.Net.{unblocked}
use Rattle.theory.specs.Greedy.{fill, unmet}
use Rattle.rows.proofs.Fill.{still-front, going-front, going-on, going-turn, going-stop, going-end}
use Rattle.rows.proofs.Pieces.{piece-at, end_after, end-past}
use Rattle.rows.specs.Stretch.{SameBut, left_after, whole_pieces, fill_start, fill_end, filled_by}
use Rattle.rows.specs.declared.Filled.{Filled}
use Rattle.rows.proofs.fill_row.Goals as goal

-- the row `was`, with its first `done` slots filled eight at a time, and the stretch from `from` to `to`
module _ (slots channels load : ℕ) (was : List ℕ) (long : length was ≡ slots * channels) {done left to : ℕ} (within : done ≤ slots)
    (left_is : left ≡ unmet unblocked 0 load (take (done * channels) was))
    (pieces : done ≡ 8 * whole_pieces slots (8 * channels) load was)
    (to_is : to ≡ pick (eqb left 0) done (min (done + 8) slots) * channels) where
  end_is : to ≡ fill_end slots channels (left_after (8 * channels) load was (whole_pieces slots (8 * channels) load was))
      (whole_pieces slots (8 * channels) load was)
  end_is =
      let left_at : left ≡ left_after (8 * channels) load was (whole_pieces slots (8 * channels) load was)
      = left_is ∙ ap (λ (x : ℕ). unmet unblocked 0 load (take x was))
      (ap (λ (x : ℕ). x * channels) pieces ∙ piece-at (whole_pieces slots (8 * channels) load was) channels) in
      to_is ∙ ap₂ (λ (a b : ℕ). pick (eqb a 0) b (min (b + 8) slots) * channels) left_at pieces

  given : {over from : ℕ} → from ≡ fill_start (8 * channels) load was (whole_pieces slots (8 * channels) load was) → over ≡ unmet unblocked 0 load was
      → ◌≡◌ {A = Filled} (record { left = over; from = from; to = to }) (filled_by slots channels load was)
  given {over} {from} start e = λ x. record { left = e x; from = start x; to = end_is x }

  kept : {from : ℕ} {row : List ℕ} → (from ≤ done * channels) × (unmet unblocked 0 load (take from was) ≡ load) → row ≡ fill unblocked 0 load was
      → SameBut from to was row
  kept {from} early filled =
      let bounds = end_after (eqb left 0) done slots channels within in
      let within-row : done * channels ≤ length was = omega (arith, mul-le-mul_right channels within, long) in (
        omega (arith, early.0, bounds.0, to_is),
        omega (arith, bounds.1, to_is, long),
        λ p h.
            ap (λ (x : List ℕ). get_or x p 0) filled ∙ still-front unblocked load was from (omega (arith, early.0, within-row)) early.1 p h,
        λ p h l.
            ap (λ (x : List ℕ). get_or x p 0) filled ∙ end-past slots channels load was long p (omega (arith, h, end_is)) l,
      )

pub fill_half-half-requires : goal.fill_half-half-requires
fill_half-half-requires c = (c.requires.0, c.fill_front-front.ensures.within, omega arith)

pub slots-init : goal.slots-init
slots-init c =
    let within-row : c.fill_front-front.result.slots * c.args.channels ≤ length c.args.row.now
    = omega (arith, mul-le-mul_right c.args.channels c.fill_front-front.ensures.within) in (
      refl,
      going-on
          (going-front c.args.load (c.fill_front-front.result.slots * c.args.channels) c.args.row.now within-row c.fill_front-front.ensures.filled
          c.fill_front-front.ensures.left)
          c.fill_half-half.ensures.filled c.fill_half-half.ensures.left,
    )

pub overflow_mul-at : goal.overflow_mul-at
overflow_mul-at c = omega (arith, mul-le-mul_right c.args.channels c.fill_half-half.ensures.within)

pub loop-channel-preserved : goal.loop-channel-preserved
loop-channel-preserved c = (
  omega arith,
  going-turn c.loop-channel.invariant.1 (omega (arith, inside _ _ _ _ c.slots-test.true c.loop-channel-test.true)) (omega arith) c.idle-taken.ensures,
)

pub returns-after-slots : goal.returns-after-slots
returns-after-slots c = let a = c.args in
    let f = c.fill_front-front.ensures in
    let all : c.slots._slot ≡ a.slots = omega arith in
    let e : c.slots.at ≡ length c.slots.row = omega (arith, ap (λ (x : ℕ). x * a.channels) all) in
    let end = going-end c.slots.invariant.1 e in record {
      filled = end.0;
      answer = given a.slots a.channels a.load a.row.now c.requires.1 f.within f.left f.pieces c.ends-to.ensures f.start end.1;
      stretch = kept a.slots a.channels a.load a.row.now c.requires.1 f.within f.left f.pieces c.ends-to.ensures f.from end.0;
    }

pub returns-then-left-eq0 : goal.returns-then-left-eq0
returns-then-left-eq0 c = let a = c.args in
    let f = c.fill_front-front.ensures in
    let end = going-stop c.loop-channel.invariant.1 (omega arith) in record {
      filled = end.0;
      answer = given a.slots a.channels a.load a.row.now c.requires.1 f.within f.left f.pieces c.ends-to.ensures f.start end.1;
      stretch = kept a.slots a.channels a.load a.row.now c.requires.1 f.within f.left f.pieces c.ends-to.ensures f.from end.0;
    }
