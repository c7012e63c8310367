-- `rowapart::lay_open` meets its contract: where nothing is taken over the row is idle and the word has all the cells that clash (`apart-near`), and else those
-- whose marks the row before has not (`apart-idle`). Assumes nothing.
use mathlib.Core.Path.{◌≡◌, sym, ap, ap₂, subst, ◌∙◌}
use mathlib.Core.Bool.{◌&&◌, not}
use mathlib.Core.List.{List}
use Prim.Native.Nat.{ℕ, ◌+◌, ◌-◌, ◌^◌, ◌<◌}
use native.Mathlib.Omega.{arith}
use lib.Bits.{bit_or}
use lib.ListN.{length, get_or, replicate, length-replicate}
use Rattle.laws.specs.Bits.{bit_at, bit_in, set_bit, word_of}
use Rattle.laws.proofs.Grid.{row_before}
use Rattle.laws.proofs.Words.{word_lt}
use Rattle.planrows.specs.Row.{marks_in, marks_on, near_in, by_word}
use Rattle.rowapart.proofs.Apart.{apart-near, apart-open, apart-idle}
use Rattle.rowapart.proofs.lay_open.Goals as goal

pub returns-then-i-lt6 : goal.returns-then-i-lt6
returns-then-i-lt6 c =
    let near-few : c.near_of-near.result < 2 ^ c.args.i = let a = c.args in
    subst (λ (x : ℕ). x < 2 ^ a.i) (sym c.near_of-near.ensures) (word_lt (bit_at (get_or a.clash.now a.i 0)) a.i) in
    let near-marks : (z : List ℕ) → z ≡ replicate (length c.args.row.now) 0 → marks_on c.args.n
    (by_word c.near_of-near.result) c.args.table.now c.args.i z c.args.i ≡ marks_in c.args.n
    (bit_in c.args.clash.now) c.args.table.now c.args.i = λ z is. let a = c.args in
    let idle : z ≡ replicate a.n 0 = is ∙ ap (λ (k : ℕ). replicate k 0) c.requires.i_bound.1 in
    let long : length z ≡ a.n = ap length idle ∙ length-replicate {A = ℕ} a.n 0 in
    apart-near a.n a.i a.table.now z long c.requires.i_bound.2 a.clash.now c.requires.rows_marked.1 c.near_of-near.ensures
    ∙ apart-open a.n a.i a.table.now z long c.requires.i_bound.2 (bit_in a.clash.now) idle in record { few = near-few; marks = near-marks _ c.clear.ensures }

pub overflow_sub-before : goal.overflow_sub-before
overflow_sub-before c = omega (arith, c.if-i-lt6.false)

pub group_of-taken-requires : goal.group_of-taken-requires
group_of-taken-requires c = omega (arith, c.requires.i_bound.0)

pub returns-then-taken-near : goal.returns-then-taken-near
returns-then-taken-near c =
    let near-few : c.near_of-near.result < 2 ^ c.args.i = let a = c.args in
    subst (λ (x : ℕ). x < 2 ^ a.i) (sym c.near_of-near.ensures) (word_lt (bit_at (get_or a.clash.now a.i 0)) a.i) in
    let near-marks : (z : List ℕ) → z ≡ replicate (length c.args.row.now) 0 → marks_on c.args.n
    (by_word c.near_of-near.result) c.args.table.now c.args.i z c.args.i ≡ marks_in c.args.n
    (bit_in c.args.clash.now) c.args.table.now c.args.i = λ z is. let a = c.args in
    let idle : z ≡ replicate a.n 0 = is ∙ ap (λ (k : ℕ). replicate k 0) c.requires.i_bound.1 in
    let long : length z ≡ a.n = ap length idle ∙ length-replicate {A = ℕ} a.n 0 in
    apart-near a.n a.i a.table.now z long c.requires.i_bound.2 a.clash.now c.requires.rows_marked.1 c.near_of-near.ensures
    ∙ apart-open a.n a.i a.table.now z long c.requires.i_bound.2
    (bit_in a.clash.now) idle in record { few = near-few; marks = near-marks _ c.clear-then-taken-near.ensures }

pub cover_idle-requires : goal.cover_idle-requires
cover_idle-requires c = let a = c.args in
    let low : a.i - 1 < a.i = omega (arith, c.if-i-lt6.false) in
    (c.requires.i_bound.1, omega (arith, row_before a.n low, c.requires.i_bound.2))

pub returns : goal.returns
returns c =
    let near-few : c.near_of-near.result < 2 ^ c.args.i = let a = c.args in
    subst (λ (x : ℕ). x < 2 ^ a.i) (sym c.near_of-near.ensures) (word_lt (bit_at (get_or a.clash.now a.i 0)) a.i) in
    let a = c.args in
    let j = a.i - 1 in
    let next : a.i ≡ j + 1 = omega (arith, c.if-i-lt6.false) in
    let same : bit_or c.group_of-taken.result c.near_of-near.result ≡ c.near_of-near.result = omega (arith, c.if-taken-near.false) in
    let inside : bit_or (set_bit (near_in a.clash.now j) j) (near_in a.clash.now a.i) ≡ near_in a.clash.now a.i
    = ap₂ (λ (x y : ℕ). bit_or x y) (sym c.group_of-taken.ensures) (sym c.near_of-near.ensures) ∙ same ∙ c.near_of-near.ensures in
    let word = c.apart.ensures.0
    ∙ ap₂ (λ (x y : ℕ). word_of (λ b. bit_at x b && not (bit_at y b)) 32) c.near_of-near.ensures c.group_of-taken.ensures in record {
      few = omega (arith, c.apart.ensures.1, near-few);
      marks = apart-idle a.n a.i a.table.now c.cover_idle.new.row c.requires.i_bound.2 a.clash.now c.requires.rows_marked.1 j next c.cover_idle.ensures
          c.requires.i_bound.0 c.requires.rows_marked.0 inside word;
    }
