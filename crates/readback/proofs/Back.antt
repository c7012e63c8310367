-- What is read back. A row's own numbers, where it stands; nothing from a row that is unlike it, whatever numbers it has. Both by the bytes of the row: a
-- byte that is no mark stands in the text as it is, and the digits of a number are never the < with which a row begins.
--     hear-said      the numbers of a row are heard
--     read-row       the row, once, and then what follows
--     read-unlike    nothing, and then what follows
-- Assumes nothing.
use Prim.Native.Nat.{ℕ, zero, suc, ◌+◌, ◌-◌, ◌/◌, ◌%◌, ◌<◌}
use mathlib.Core.Path.{◌≡◌, refl, sym, ap, ◌∙◌}
use mathlib.Core.Bool.{Bool, true, false, ◌&&◌, not, true≢false}
use mathlib.Core.List.{List, [], ◌∷◌, ◌++◌, append_assoc}
use native.Mathlib.Omega.{arith}
use lib.Dec.{eqb, ltb}
use lib.ListN.{length, drop}
use borrow.Author.Tests.{ne_eqb, ltb-true, not-true}
use Rattle.laws.specs.Choice.{pick}
use Rattle.laws.proofs.Choice.{both}
use Rattle.text.specs.Decimal.{digits_of, decimal}
use Rattle.speech.specs.Speech.{value_of, mark_said, spoken}
use Rattle.lines.specs.Match.{starts}
use Rattle.lines.specs.Content.{scanned}
use Rattle.lines.proofs.Match.{starts-there}
use Rattle.lines.proofs.Numbers.{scanned-decimal, scanned-end}
use Rattle.readback.specs.Back.{hear_numbers, row_with, rows_heard, values_from, values_of, stopped, spaced, unlike_at, unlike}

-- ---- a byte that is no mark

pub said_plain : (f : ℕ → List ℕ) (b : ℕ) (row : List ℕ) → eqb b 64 ≡ false → spoken f (b ∷ row) ≡ b ∷ spoken f row
unfolding spoken
said_plain f b [] e = refl
said_plain f b (m ∷ row) e = rw e

drop-front : (v r : List ℕ) → drop (length v) (v ++ r) ≡ r
drop-front [] r = refl
drop-front (x ∷ v) r = drop-front v r

-- ---- the numbers

module _ (a b c d : ℕ) (few-a : a < 100000) (few-b : b < 100000) (few-c : c < 100000) (few-d : d < 100000) where
  few-value : (m : ℕ) → value_of a b c d m < 100000
  few-value m = go (eqb m 49) (eqb m 50) (eqb m 51)
    where
      go : (x y z : Bool) → pick x a (pick y b (pick z c d)) < 100000
      go true y z = few-a
      go false true z = few-b
      go false false true = few-c
      go false false false = few-d

  -- a number and the byte that stops it
  number-heard : (m : ℕ) (row rest : List ℕ) → stopped row ≡ true
      → scanned 0 (decimal (value_of a b c d m) ++ (spoken (mark_said a b c d) row ++ rest)) ≡ value_of a b c d m
  number-heard m [] rest e = absurd (true≢false (sym e))
  number-heard m (x ∷ row) rest e =
      let low : x < 48 = ltb-true x 48 e in
      rw (said_plain (mark_said a b c d) x row (ne_eqb x 64 (λ q. omega arith)))
      (scanned-decimal (value_of a b c d m) (x ∷ (spoken (mark_said a b c d) row ++ rest)) (few-value m)
      ∙ scanned-end (value_of a b c d m) x (spoken (mark_said a b c d) row ++ rest) low)

  pub hear-said : (row rest : List ℕ) → spaced row ≡ true → hear_numbers row (spoken (mark_said a b c d) row ++ rest) ≡ values_of a b c d row
  unfolding hear_numbers values_from spaced spoken
  hear-said [] rest e = refl
  hear-said (x ∷ []) rest e = last (eqb x 64)
    where
      last : (t : Bool) → [] ≡ values_from a b c d t []
      last true = refl
      last false = refl
  hear-said (x ∷ m ∷ row) rest e = go (eqb x 64) e (hear-said row rest) (hear-said (m ∷ row) rest)
    where
      f : ℕ → List ℕ
      f = mark_said a b c d

      go : (t : Bool) → pick t (ltb m 97 && (stopped row && spaced row)) (spaced (m ∷ row)) ≡ true
          → (spaced row ≡ true → hear_numbers row (spoken f row ++ rest) ≡ values_of a b c d row)
          → (spaced (m ∷ row) ≡ true → hear_numbers (m ∷ row) (spoken f (m ∷ row) ++ rest) ≡ values_of a b c d (m ∷ row))
          → let text = pick t (f m ++ spoken f row) (x ∷ spoken f (m ∷ row)) ++ rest in
          pick t (scanned 0 text ∷ hear_numbers row (drop (length (decimal (scanned 0 text))) text)) (hear_numbers (m ∷ row) (drop 1 text))
          ≡ values_from a b c d t (m ∷ row)
      go true e g h =
          let p = both (ltb m 97) (stopped row && spaced row) e in
          let q = both (stopped row) (spaced row) p.1 in
          rw (
            p.0,
            append_assoc (decimal (value_of a b c d m)) (spoken f row) rest,
            number-heard m row rest q.0,
            drop-front (decimal (value_of a b c d m)) (spoken f row ++ rest),
            g q.1,
          )
      go false e g h = h e

-- ---- a row that is unlike another

differs-starts : (f g : ℕ → List ℕ) (row other rest : List ℕ) → unlike_at row other ≡ true → starts (spoken f row) (spoken g other ++ rest) ≡ false
unfolding unlike_at starts
differs-starts f g [] other rest e = absurd (true≢false (sym e))
differs-starts f g (x ∷ row) [] rest e = absurd (true≢false (sym e))
differs-starts f g (x ∷ row) (y ∷ other) rest e =
    let p = both (not (eqb x 64) && not (eqb y 64)) (pick (eqb y x) (unlike_at row other) true) e in
    let q = both (not (eqb x 64)) (not (eqb y 64)) p.0 in
    rw (said_plain f x row (not-true (eqb x 64) q.0), said_plain g y other (not-true (eqb y 64) q.1))
    (go (eqb y x) p.1 (differs-starts f g row other rest))
  where
    go : (t : Bool) → pick t (unlike_at row other) true ≡ true → (unlike_at row other ≡ true → starts (spoken f row) (spoken g other ++ rest) ≡ false)
        → (t && starts (spoken f row) (spoken g other ++ rest)) ≡ false
    go true h k = k h
    go false h k = refl

-- a row that begins with <
module _ (row : List ℕ) where
  abbrev sought : List ℕ
  sought = 60 ∷ row

  -- another byte begins nothing
  pub skip-byte : (b : ℕ) (text : List ℕ) → eqb b 60 ≡ false → rows_heard sought (b ∷ text) ≡ rows_heard sought text
  unfolding rows_heard starts
  skip-byte b text e = rw (said_plain _ 60 row refl, e)

  skip-digits : (k x : ℕ) (rest : List ℕ) → rows_heard sought (digits_of k x ++ rest) ≡ rows_heard sought rest
  unfolding digits_of
  skip-digits zero x rest = skip-byte (48 + x % 10) rest (ne_eqb (48 + x % 10) 60 (λ q. omega arith))
  skip-digits (suc k) x rest = go (ltb x 10) (skip-digits k (x / 10))
    where
      last : rows_heard sought ((48 + x % 10) ∷ rest) ≡ rows_heard sought rest
      last = skip-byte (48 + x % 10) rest (ne_eqb (48 + x % 10) 60 (λ q. omega arith))

      go : (t : Bool) → ((r : List ℕ) → rows_heard sought (digits_of k (x / 10) ++ r) ≡ rows_heard sought r)
          → rows_heard sought ((pick t [] (digits_of k (x / 10)) ++ ((48 + x % 10) ∷ [])) ++ rest) ≡ rows_heard sought rest
      go true h = last
      go false h = rw (append_assoc (digits_of k (x / 10)) ((48 + x % 10) ∷ []) rest) (h ((48 + x % 10) ∷ rest) ∙ last)

  skip-mark : (a b c d m : ℕ) (rest : List ℕ) → rows_heard sought (mark_said a b c d m ++ rest) ≡ rows_heard sought rest
  unfolding decimal
  skip-mark a b c d m rest = go (ltb m 97) (eqb (value_of a b c d (m - 48)) 1)
    where
      go : (t one : Bool) → rows_heard sought (pick t (decimal (value_of a b c d m)) (pick one [] (115 ∷ [])) ++ rest) ≡ rows_heard sought rest
      go true one = skip-digits _ _ rest
      go false true = refl
      go false false = skip-byte 115 rest refl

  -- nothing is read where the texts differ
  skip-unlike : (f : ℕ → List ℕ) (b : ℕ) (other rest : List ℕ) → unlike_at sought (b ∷ other) ≡ true
      → rows_heard sought (spoken f (b ∷ other) ++ rest) ≡ rows_heard sought (spoken f other ++ rest)
  unfolding rows_heard unlike_at
  skip-unlike f b other rest e =
      let p = both (not (eqb 60 64) && not (eqb b 64)) _ e in
      let plain : eqb b 64 ≡ false = not-true (eqb b 64) (both (not (eqb 60 64)) (not (eqb b 64)) p.0).1 in
      let text : List ℕ = b ∷ (spoken f other ++ rest) in
      let said : spoken f (b ∷ other) ++ rest ≡ text = ap (λ (l : List ℕ). l ++ rest) (said_plain f b other plain) in
      let own : List ℕ = row_with sought (hear_numbers sought text) in
      let no : starts own text ≡ false = ap (starts own) (sym said) ∙ differs-starts _ f sought (b ∷ other) rest e in
      rw (said, no)

  pub read-unlike : (a b c d : ℕ) (other rest : List ℕ) → unlike sought other ≡ true
      → rows_heard sought (spoken (mark_said a b c d) other ++ rest) ≡ rows_heard sought rest
  unfolding unlike spoken
  read-unlike a b c d [] rest e = refl
  read-unlike a b c d (x ∷ []) rest e = skip-unlike (mark_said a b c d) x [] rest e
  read-unlike a b c d (x ∷ m ∷ other) rest e = go (eqb x 64) refl e (read-unlike a b c d other rest) (read-unlike a b c d (m ∷ other) rest)
    where
      f : ℕ → List ℕ
      f = mark_said a b c d

      go : (t : Bool) → eqb x 64 ≡ t → pick t (unlike sought other) (unlike_at sought (x ∷ m ∷ other) && unlike sought (m ∷ other)) ≡ true
          → (unlike sought other ≡ true → rows_heard sought (spoken f other ++ rest) ≡ rows_heard sought rest)
          → (unlike sought (m ∷ other) ≡ true → rows_heard sought (spoken f (m ∷ other) ++ rest) ≡ rows_heard sought rest)
          → rows_heard sought (pick t (f m ++ spoken f other) (x ∷ spoken f (m ∷ other)) ++ rest) ≡ rows_heard sought rest
      go true s e g h = rw (append_assoc (f m) (spoken f other) rest) (skip-mark a b c d m (spoken f other ++ rest) ∙ g e)
      go false s e g h =
          let p = both (unlike_at sought (x ∷ m ∷ other)) (unlike sought (m ∷ other)) e in
          ap (λ (l : List ℕ). rows_heard sought (l ++ rest)) (sym (said_plain f x (m ∷ other) s))
          ∙ skip-unlike f x (m ∷ other) rest p.0 ∙ h p.1

  -- the row itself is read once: what stands after its first byte is unlike it. It has its four numbers in their order, and may have some of them again
  pub read-row : (a b c d : ℕ) (more rest : List ℕ) → a < 100000 → b < 100000 → c < 100000 → d < 100000 → spaced sought ≡ true → unlike sought row ≡ true
      → values_of a b c d sought ≡ a ∷ b ∷ c ∷ d ∷ more
      → rows_heard sought (spoken (mark_said a b c d) sought ++ rest) ≡ (a ∷ b ∷ c ∷ d ∷ more) ∷ rows_heard sought rest
  unfolding rows_heard
  read-row a b c d more rest p q r s sp un v =
      let f : ℕ → List ℕ = mark_said a b c d in
      let text : List ℕ = 60 ∷ (spoken f row ++ rest) in
      let said : spoken f sought ++ rest ≡ text = ap (λ (l : List ℕ). l ++ rest) (said_plain f 60 row refl) in
      let heard : hear_numbers sought text ≡ a ∷ b ∷ c ∷ d ∷ more = ap (hear_numbers sought) (sym said) ∙ hear-said a b c d p q r s sought rest sp ∙ v in
      let there : starts (spoken f sought) text ≡ true = ap (starts (spoken f sought)) (sym said) ∙ starts-there (spoken f sought) rest in
      rw (said, heard, there, read-unlike a b c d row rest un)
