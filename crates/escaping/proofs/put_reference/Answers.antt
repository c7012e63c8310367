-- `escaping::put_reference` meets its contract: a case for each way out. Assumes nothing.
use Prim.Native.Nat.{ℕ, ◌+◌, ◌≤◌}
use mathlib.Core.Path.{◌≡◌}
use mathlib.Core.List.{List}
use native.Mathlib.Omega.{arith}
use lib.ListN.{length}
use lib.Seq.{sets}
use borrow.Author.Tests.{eq-eqb, ne_eqb}
use Rattle.speech.specs.Speech.{bytes}
use Rattle.phrases.specs.Put.{Put}
use Rattle.phrases.proofs.Put.{put_of, put-wide}
use Rattle.escaping.specs.Escaped.{reference}
use Rattle.escaping.proofs.put_reference.Goals as goal

-- a case that is a text
module _ {before after : List ℕ} {at next : ℕ} (text : List ℕ) (few : length text ≤ 6) where
  few-put : (after ≡ sets before at text) × (next ≡ at + length text) → Put before at text 6 after next
  few-put e = put_of {text = text} 6 e.0 e.1 (omega (arith, e.1))

pub returns-then-byte-eq60 : goal.returns-then-byte-eq60
unfolding reference
returns-then-byte-eq60 c = rw (eq-eqb _ 60 c.if-byte-eq60.true) (few-put (bytes "&lt;") (omega arith) (c.put_text.ensures.stored, c.put_text.ensures.next))

pub returns-then-byte-eq62 : goal.returns-then-byte-eq62
unfolding reference
returns-then-byte-eq62 c = rw (ne_eqb _ 60 c.if-byte-eq60.false, eq-eqb _ 62 c.if-byte-eq62.true)
    (few-put (bytes "&gt;") (omega arith) (c.put_text-then-byte-eq62.ensures.stored, c.put_text-then-byte-eq62.ensures.next))

pub returns-then-byte-eq38 : goal.returns-then-byte-eq38
unfolding reference
returns-then-byte-eq38 c = rw (
  ne_eqb _ 60 c.if-byte-eq60.false,
  ne_eqb _ 62 c.if-byte-eq62.false,
  eq-eqb _ 38 c.if-byte-eq38.true,
)
    (few-put (bytes "&amp;") (omega arith) (c.put_text-then-byte-eq38.ensures.stored, c.put_text-then-byte-eq38.ensures.next))

pub returns-then-byte-eq34 : goal.returns-then-byte-eq34
unfolding reference
returns-then-byte-eq34 c = rw (
  ne_eqb _ 60 c.if-byte-eq60.false,
  ne_eqb _ 62 c.if-byte-eq62.false,
  ne_eqb _ 38 c.if-byte-eq38.false,
  eq-eqb _ 34 c.if-byte-eq34.true,
)
    (few-put (bytes "&quot;") (omega arith) (c.put_text-then-byte-eq34.ensures.stored, c.put_text-then-byte-eq34.ensures.next))

pub returns-then-byte-eq39 : goal.returns-then-byte-eq39
unfolding reference
returns-then-byte-eq39 c = rw (
  ne_eqb _ 60 c.if-byte-eq60.false,
  ne_eqb _ 62 c.if-byte-eq62.false,
  ne_eqb _ 38 c.if-byte-eq38.false,
  ne_eqb _ 34 c.if-byte-eq34.false,
  eq-eqb _ 39 c.if-byte-eq39.true,
)
    (few-put (bytes "&#39;") (omega arith) (c.put_text-then-byte-eq39.ensures.stored, c.put_text-then-byte-eq39.ensures.next))

pub returns : goal.returns
unfolding reference
returns c = rw (
  ne_eqb _ 60 c.if-byte-eq60.false,
  ne_eqb _ 62 c.if-byte-eq62.false,
  ne_eqb _ 38 c.if-byte-eq38.false,
  ne_eqb _ 34 c.if-byte-eq34.false,
  ne_eqb _ 39 c.if-byte-eq39.false,
)
    (put-wide 6 (omega arith) c.put_byte.ensures)
