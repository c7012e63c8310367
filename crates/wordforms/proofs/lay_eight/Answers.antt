-- `wordforms::lay_eight` meets its contract: before row b, the rows below b have their bits, and the last row has the bytes; then it has its bits too.
-- Assumes nothing.
use mathlib.Core.Path.{◌≡◌, sym, ap, ◌∙◌}
use mathlib.Core.List.{List}
use Prim.Native.Nat.{ℕ, ◌+◌, ◌-◌, ◌*◌, ◌/◌, ◌%◌, ◌^◌, ◌≤◌, ◌<◌}
use native.Mathlib.Nat.{le_refl, add-mul, mul-le-mul_right}
use native.Mathlib.Omega.{arith}
use borrow.Rule.Slice.PartMut.{mid_of, put_mid}
use lib.ListN.{length, get_or}
use Rattle.laws.specs.Bits.{bit_at}
use Rattle.laws.specs.Part.{list_of}
use Rattle.laws.specs.Sum.{bit}
use Rattle.laws.proofs.Grid.{row_before}
use Rattle.laws.proofs.Part.{lent, back, length-put, get_d_part}
use Rattle.laws.proofs.Stores.{length-list, list-eq}
use Rattle.theory.specs.Net.{Reserved}
use Rattle.wordforms.specs.Words.{sends_at}
use Rattle.wordforms.proofs.Rows.{Scattered, none-scattered, scattered-long, set-scattered, one-scattered, whole-scattered}
use Rattle.wordforms.proofs.Rows.{lent-long, byte-sends, handed}
use Rattle.wordforms.proofs.lay_eight.Goals as goal

pub overflow_mul-at : goal.overflow_mul-at
overflow_mul-at c = omega (arith, c.requires.3)

pub overflow_add-to : goal.overflow_add-to
overflow_add-to c = omega (arith, c.requires.3)

pub slice_bounds-lay_bytes-start : goal.slice_bounds-lay_bytes-start
slice_bounds-lay_bytes-start c = omega arith

pub slice_bounds-lay_bytes-end : goal.slice_bounds-lay_bytes-end
slice_bounds-lay_bytes-end c = omega (arith, c.requires.3)

pub lay_bytes-requires : goal.lay_bytes-requires
lay_bytes-requires c = let a = c.args in
    (omega (arith, c.requires.1), omega (arith, lent-long (a.last * a.n) a.n a.rows.now (omega (arith, c.requires.3)), c.requires.2))

pub loop-b-init : goal.loop-b-init
loop-b-init c =
    let res : Reserved = λ b. sends_at c.args.words.now (c.args.i + b) in (
      omega arith,
      none-scattered c.args.n res (put_mid (c.args.last * c.args.n)
          (c.args.last * c.args.n + c.args.n - c.args.last * c.args.n) c.args.rows.now c.lay_bytes.new.row),
    )

pub overflow_mul-b : goal.overflow_mul-b
overflow_mul-b c = omega (arith, row_before c.args.n c.loop-b-test.true, c.requires.3)

pub lay_bits-requires : goal.lay_bits-requires
lay_bits-requires c =
    let res : Reserved = λ b. sends_at c.args.words.now (c.args.i + b) in
    let byte_at : ℕ → ℕ = λ k. get_or c.args.words.now k 0 / 2 ^ c.args.i % 256 in
    let fits : c.args.last * c.args.n + c.args.n ≤ length c.args.rows.now = omega (arith, c.requires.3) in
    let laid : c.lay_bytes.new.row ≡ list_of byte_at c.args.n = c.lay_bytes.ensures
    ∙ ap (list_of byte_at) (lent-long (c.args.last * c.args.n) c.args.n c.args.rows.now fits) in
    let long : length (put_mid (c.args.last * c.args.n) (c.args.last * c.args.n + c.args.n - c.args.last * c.args.n) c.args.rows.now c.lay_bytes.new.row)
    ≡ c.args.last * c.args.n + c.args.n = ap length (back (c.args.last * c.args.n) c.args.n c.args.rows.now c.lay_bytes.new.row)
    ∙ length-put (c.args.last * c.args.n) c.args.n c.lay_bytes.new.row c.args.rows.now
    (ap length laid ∙ length-list byte_at c.args.n) fits
    ∙ c.requires.3 in
    let at_long : length c.loop-b.rows ≡ c.args.last * c.args.n + c.args.n = let a = c.args in
    scattered-long a.n res (put_mid (c.args.last * c.args.n) (c.args.last * c.args.n + c.args.n - c.args.last * c.args.n) c.args.rows.now c.lay_bytes.new.row)
    c.loop-b.b c.loop-b.rows
    (omega (arith, long, mul-le-mul_right a.n c.loop-b.invariant.0)) c.loop-b.invariant.1
    ∙ long in (
      omega (arith, c.loop-b-test.true, c.requires.0),
      row_before c.args.n c.loop-b-test.true,
      omega (arith, at_long),
    )

pub loop-b-preserved : goal.loop-b-preserved
loop-b-preserved c =
    let res : Reserved = λ b. sends_at c.args.words.now (c.args.i + b) in
    let byte_at : ℕ → ℕ = λ k. get_or c.args.words.now k 0 / 2 ^ c.args.i % 256 in
    let fits : c.args.last * c.args.n + c.args.n ≤ length c.args.rows.now = omega (arith, c.requires.3) in
    let laid : c.lay_bytes.new.row ≡ list_of byte_at c.args.n = c.lay_bytes.ensures
    ∙ ap (list_of byte_at) (lent-long (c.args.last * c.args.n) c.args.n c.args.rows.now fits) in
    let bytes : (k : ℕ) → k < c.args.n → get_or (put_mid (c.args.last * c.args.n)
    (c.args.last * c.args.n + c.args.n - c.args.last * c.args.n) c.args.rows.now c.lay_bytes.new.row) (c.args.last * c.args.n + k) 0
    ≡ byte_at k = handed byte_at (c.args.last * c.args.n) c.args.n c.args.rows.now c.lay_bytes.new.row fits laid in
    let long : length (put_mid (c.args.last * c.args.n) (c.args.last * c.args.n + c.args.n - c.args.last * c.args.n) c.args.rows.now c.lay_bytes.new.row)
    ≡ c.args.last * c.args.n + c.args.n = ap length (back (c.args.last * c.args.n) c.args.n c.args.rows.now c.lay_bytes.new.row)
    ∙ length-put (c.args.last * c.args.n) c.args.n c.lay_bytes.new.row c.args.rows.now
    (ap length laid ∙ length-list byte_at c.args.n) fits
    ∙ c.requires.3 in
    let at_long : length c.loop-b.rows ≡ c.args.last * c.args.n + c.args.n = let a = c.args in
    scattered-long a.n res (put_mid (c.args.last * c.args.n) (c.args.last * c.args.n + c.args.n - c.args.last * c.args.n) c.args.rows.now c.lay_bytes.new.row)
    c.loop-b.b c.loop-b.rows
    (omega (arith, long, mul-le-mul_right a.n c.loop-b.invariant.0)) c.loop-b.invariant.1
    ∙ long in
    let a = c.args in
    let l = c.loop-b in
    let f : ℕ → ℕ = λ c. bit (bit_at (get_or l.rows (a.last * a.n + c) 0) l.b) in (
      omega arith,
      set-scattered a.n res (put_mid (c.args.last * c.args.n)
          (c.args.last * c.args.n + c.args.n - c.args.last * c.args.n) c.args.rows.now c.lay_bytes.new.row) l.b f l.rows c.lay_bits.new.rows
          (omega (arith, at_long, row_before a.n c.loop-b-test.true)) l.invariant.1
          (byte-sends a.n a.i a.last a.words.now (put_mid (c.args.last * c.args.n)
          (c.args.last * c.args.n + c.args.n - c.args.last * c.args.n) c.args.rows.now c.lay_bytes.new.row) bytes l.b l.rows l.invariant.0
          (omega (arith, c.loop-b-test.true, c.requires.0)) l.invariant.1) c.lay_bits.ensures,
    )

pub slice_bounds-keep_bits-start : goal.slice_bounds-keep_bits-start
slice_bounds-keep_bits-start c = omega arith

pub slice_bounds-keep_bits-end : goal.slice_bounds-keep_bits-end
slice_bounds-keep_bits-end c =
    let res : Reserved = λ b. sends_at c.args.words.now (c.args.i + b) in
    let byte_at : ℕ → ℕ = λ k. get_or c.args.words.now k 0 / 2 ^ c.args.i % 256 in
    let fits : c.args.last * c.args.n + c.args.n ≤ length c.args.rows.now = omega (arith, c.requires.3) in
    let laid : c.lay_bytes.new.row ≡ list_of byte_at c.args.n = c.lay_bytes.ensures
    ∙ ap (list_of byte_at) (lent-long (c.args.last * c.args.n) c.args.n c.args.rows.now fits) in
    let long : length (put_mid (c.args.last * c.args.n) (c.args.last * c.args.n + c.args.n - c.args.last * c.args.n) c.args.rows.now c.lay_bytes.new.row)
    ≡ c.args.last * c.args.n + c.args.n = ap length (back (c.args.last * c.args.n) c.args.n c.args.rows.now c.lay_bytes.new.row)
    ∙ length-put (c.args.last * c.args.n) c.args.n c.lay_bytes.new.row c.args.rows.now
    (ap length laid ∙ length-list byte_at c.args.n) fits
    ∙ c.requires.3 in
    let at_long : length c.loop-b.rows ≡ c.args.last * c.args.n + c.args.n = let a = c.args in
    scattered-long a.n res (put_mid (c.args.last * c.args.n) (c.args.last * c.args.n + c.args.n - c.args.last * c.args.n) c.args.rows.now c.lay_bytes.new.row)
    c.loop-b.b c.loop-b.rows
    (omega (arith, long, mul-le-mul_right a.n c.loop-b.invariant.0)) c.loop-b.invariant.1
    ∙ long in
    omega (arith, at_long)

pub shape_of-rows : goal.shape_of-rows
shape_of-rows c =
    let res : Reserved = λ b. sends_at c.args.words.now (c.args.i + b) in
    let byte_at : ℕ → ℕ = λ k. get_or c.args.words.now k 0 / 2 ^ c.args.i % 256 in
    let fits : c.args.last * c.args.n + c.args.n ≤ length c.args.rows.now = omega (arith, c.requires.3) in
    let laid : c.lay_bytes.new.row ≡ list_of byte_at c.args.n = c.lay_bytes.ensures
    ∙ ap (list_of byte_at) (lent-long (c.args.last * c.args.n) c.args.n c.args.rows.now fits) in
    let bytes : (k : ℕ) → k < c.args.n → get_or (put_mid (c.args.last * c.args.n)
    (c.args.last * c.args.n + c.args.n - c.args.last * c.args.n) c.args.rows.now c.lay_bytes.new.row) (c.args.last * c.args.n + k) 0
    ≡ byte_at k = handed byte_at (c.args.last * c.args.n) c.args.n c.args.rows.now c.lay_bytes.new.row fits laid in
    let long : length (put_mid (c.args.last * c.args.n) (c.args.last * c.args.n + c.args.n - c.args.last * c.args.n) c.args.rows.now c.lay_bytes.new.row)
    ≡ c.args.last * c.args.n + c.args.n = ap length (back (c.args.last * c.args.n) c.args.n c.args.rows.now c.lay_bytes.new.row)
    ∙ length-put (c.args.last * c.args.n) c.args.n c.lay_bytes.new.row c.args.rows.now
    (ap length laid ∙ length-list byte_at c.args.n) fits
    ∙ c.requires.3 in
    let at_long : length c.loop-b.rows ≡ c.args.last * c.args.n + c.args.n = let a = c.args in
    scattered-long a.n res (put_mid (c.args.last * c.args.n) (c.args.last * c.args.n + c.args.n - c.args.last * c.args.n) c.args.rows.now c.lay_bytes.new.row)
    c.loop-b.b c.loop-b.rows
    (omega (arith, long, mul-le-mul_right a.n c.loop-b.invariant.0)) c.loop-b.invariant.1
    ∙ long in
    let done : Scattered c.args.n res (put_mid (c.args.last * c.args.n)
    (c.args.last * c.args.n + c.args.n - c.args.last * c.args.n) c.args.rows.now c.lay_bytes.new.row) (c.args.last + 1)
    (put_mid (c.args.last * c.args.n) (c.args.last * c.args.n + c.args.n - c.args.last * c.args.n) c.loop-b.rows c.keep_bits.new.row) = let a = c.args
    in
    let l = c.loop-b in
    let at = a.last * a.n in
    let fit : at + a.n ≤ length l.rows = omega (arith, at_long) in
    let all : l.b ≡ a.last = omega (arith, c.loop-b-test.false, l.invariant.0) in
    let whole : Scattered a.n res (put_mid (c.args.last * c.args.n)
    (c.args.last * c.args.n + c.args.n - c.args.last * c.args.n) c.args.rows.now c.lay_bytes.new.row) a.last l.rows = rw all at l.invariant.1 in
    let row : List ℕ = mid_of at (at + a.n - at) l.rows in
    one-scattered a.n res (put_mid (c.args.last * c.args.n) (c.args.last * c.args.n + c.args.n - c.args.last * c.args.n) c.args.rows.now c.lay_bytes.new.row)
    a.last l.rows c.keep_bits.new.row whole
    (c.keep_bits.ensures
    ∙ ap (list_of (λ j. bit (sends_at row a.last j))) (lent-long at a.n l.rows fit)
    ∙ list-eq (λ j. bit (sends_at row a.last j)) (λ j. bit (res a.last j)) a.n (λ j m.
    ap (λ (x : ℕ). bit (bit_at x a.last)) (ap (λ (z : List ℕ). get_or z j 0) (lent at a.n l.rows) ∙ get_d_part at a.n l.rows j 0 m)
    ∙ byte-sends a.n a.i a.last a.words.now (put_mid (c.args.last * c.args.n)
    (c.args.last * c.args.n + c.args.n - c.args.last * c.args.n) c.args.rows.now c.lay_bytes.new.row) bytes a.last l.rows
    (le_refl a.last) c.requires.0 whole j m)) in
    let a = c.args in
    scattered-long a.n res (put_mid (c.args.last * c.args.n) (c.args.last * c.args.n + c.args.n - c.args.last * c.args.n) c.args.rows.now c.lay_bytes.new.row)
    (a.last + 1) _ (omega (arith, long, add-mul a.last 1 a.n)) done
    ∙ long
    ∙ sym c.requires.3

pub returns : goal.returns
returns c =
    let res : Reserved = λ b. sends_at c.args.words.now (c.args.i + b) in
    let byte_at : ℕ → ℕ = λ k. get_or c.args.words.now k 0 / 2 ^ c.args.i % 256 in
    let fits : c.args.last * c.args.n + c.args.n ≤ length c.args.rows.now = omega (arith, c.requires.3) in
    let laid : c.lay_bytes.new.row ≡ list_of byte_at c.args.n = c.lay_bytes.ensures
    ∙ ap (list_of byte_at) (lent-long (c.args.last * c.args.n) c.args.n c.args.rows.now fits) in
    let bytes : (k : ℕ) → k < c.args.n → get_or (put_mid (c.args.last * c.args.n)
    (c.args.last * c.args.n + c.args.n - c.args.last * c.args.n) c.args.rows.now c.lay_bytes.new.row) (c.args.last * c.args.n + k) 0
    ≡ byte_at k = handed byte_at (c.args.last * c.args.n) c.args.n c.args.rows.now c.lay_bytes.new.row fits laid in
    let long : length (put_mid (c.args.last * c.args.n) (c.args.last * c.args.n + c.args.n - c.args.last * c.args.n) c.args.rows.now c.lay_bytes.new.row)
    ≡ c.args.last * c.args.n + c.args.n = ap length (back (c.args.last * c.args.n) c.args.n c.args.rows.now c.lay_bytes.new.row)
    ∙ length-put (c.args.last * c.args.n) c.args.n c.lay_bytes.new.row c.args.rows.now
    (ap length laid ∙ length-list byte_at c.args.n) fits
    ∙ c.requires.3 in
    let at_long : length c.loop-b.rows ≡ c.args.last * c.args.n + c.args.n = let a = c.args in
    scattered-long a.n res (put_mid (c.args.last * c.args.n) (c.args.last * c.args.n + c.args.n - c.args.last * c.args.n) c.args.rows.now c.lay_bytes.new.row)
    c.loop-b.b c.loop-b.rows
    (omega (arith, long, mul-le-mul_right a.n c.loop-b.invariant.0)) c.loop-b.invariant.1
    ∙ long in
    let done : Scattered c.args.n res (put_mid (c.args.last * c.args.n)
    (c.args.last * c.args.n + c.args.n - c.args.last * c.args.n) c.args.rows.now c.lay_bytes.new.row) (c.args.last + 1)
    (put_mid (c.args.last * c.args.n) (c.args.last * c.args.n + c.args.n - c.args.last * c.args.n) c.loop-b.rows c.keep_bits.new.row) = let a = c.args
    in
    let l = c.loop-b in
    let at = a.last * a.n in
    let fit : at + a.n ≤ length l.rows = omega (arith, at_long) in
    let all : l.b ≡ a.last = omega (arith, c.loop-b-test.false, l.invariant.0) in
    let whole : Scattered a.n res (put_mid (c.args.last * c.args.n)
    (c.args.last * c.args.n + c.args.n - c.args.last * c.args.n) c.args.rows.now c.lay_bytes.new.row) a.last l.rows = rw all at l.invariant.1 in
    let row : List ℕ = mid_of at (at + a.n - at) l.rows in
    one-scattered a.n res (put_mid (c.args.last * c.args.n) (c.args.last * c.args.n + c.args.n - c.args.last * c.args.n) c.args.rows.now c.lay_bytes.new.row)
    a.last l.rows c.keep_bits.new.row whole
    (c.keep_bits.ensures
    ∙ ap (list_of (λ j. bit (sends_at row a.last j))) (lent-long at a.n l.rows fit)
    ∙ list-eq (λ j. bit (sends_at row a.last j)) (λ j. bit (res a.last j)) a.n (λ j m.
    ap (λ (x : ℕ). bit (bit_at x a.last)) (ap (λ (z : List ℕ). get_or z j 0) (lent at a.n l.rows) ∙ get_d_part at a.n l.rows j 0 m)
    ∙ byte-sends a.n a.i a.last a.words.now (put_mid (c.args.last * c.args.n)
    (c.args.last * c.args.n + c.args.n - c.args.last * c.args.n) c.args.rows.now c.lay_bytes.new.row) bytes a.last l.rows
    (le_refl a.last) c.requires.0 whole j m)) in
    let a = c.args in
    whole-scattered a.n res (put_mid (c.args.last * c.args.n) (c.args.last * c.args.n + c.args.n - c.args.last * c.args.n) c.args.rows.now c.lay_bytes.new.row)
    (a.last + 1) _ (omega (arith, long, add-mul a.last 1 a.n)) done
