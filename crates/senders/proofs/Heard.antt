-- The runs that a text says, read back. A number ends where a byte comes that is no digit and no -, so that a range is read as it was written; a comma, or the
-- end of the line, ends a run. Then a place of the row is in a run that was read exactly where its number is not 0, by `runs-tell`. Assumes nothing.
--     runs-heard  what is read from the text of a row's runs are the runs
use Prim.Native.Nat.{ℕ, zero, suc, ◌+◌, ◌*◌, ◌/◌, ◌%◌, ◌≤◌, ◌<◌, zero-le}
use mathlib.Core.Path.{◌≡◌, refl, sym, ap, ◌∙◌}
use mathlib.Core.Bool.{Bool, true, false, not, ◌&&◌, ◌||◌, or-false, or_assoc}
use mathlib.Core.List.{List, [], ◌∷◌, ◌++◌, append_assoc, append-nil}
use mathlib.Core.Logic.{⊎_elim}
use native.Mathlib.Nat.{div-add-mod', mod-lt}
use native.Mathlib.Omega.{arith}
use lib.Dec.{eqb, ltb, leb, lit<}
use lib.ListN.{length, get_or}
use borrow.Author.Tests.{ne_eqb, eqb-true, ltb-true, ltb-false, leb-true, le-leb}
use Rattle.laws.specs.Choice.{pick}
use Rattle.laws.specs.Search.{first}
use Rattle.laws.specs.Sum.{any}
use Rattle.laws.proofs.Choice.{cases, both, both_is}
use Rattle.laws.proofs.Search.{first-before, first-least, first-most}
use Rattle.laws.proofs.Any.{any_some}
use Rattle.faults.specs.Faults.{in_turn}
use Rattle.faults.proofs.InTurn.{turn-none}
use Rattle.text.specs.Decimal.{decimal}
use Rattle.text.proofs.Digits.{decimal-one, decimal-more}
use Rattle.speech.specs.Speech.{spoken}
use Rattle.phrases.specs.Phrases.{phrase}
use Rattle.phrases.specs.declared.Phrase.TheVariants.{Silent, Row}
use Rattle.places.specs.Read.{is_digit}
use Rattle.places.proofs.Read.{digit-is}
use Rattle.say_runs.specs.Lines.{run_lines}
use Rattle.say_runs.specs.Runs.{starts_run, run_stop, run_before}
use Rattle.say_runs.proofs.Truth.{runs-tell}
use Rattle.say_runs.specs.Said.{span_phrase, run_phrase, number_said}
use Rattle.senders.specs.Read.{Span, span_has, read_span, runs_read_from, some_in}

-- ---- a number

module _ (run : List Span) (low : ℕ) where
  digit-more : (n d : ℕ) (rest : List ℕ) → d < 10 → runs_read_from run low n ((48 + d) ∷ rest) ≡ runs_read_from run low (10 * n + d) rest
  unfolding runs_read_from
  digit-more n d rest h = rw (digit-is d h) (ap (λ k. runs_read_from run low k rest) (omega arith))

  abbrev Reads : ℕ → Type 0
  Reads x = (rest : List ℕ) → runs_read_from run low 0 (decimal x ++ rest) ≡ runs_read_from run low x rest

  one-digit : (x : ℕ) → x < 10 → Reads x
  one-digit x h rest =
      let same : 10 * 0 + x ≡ x = omega arith in
      ap (λ (l : List ℕ). runs_read_from run low 0 (l ++ rest)) (decimal-one x h) ∙ digit-more 0 x rest h ∙ ap (λ k. runs_read_from run low k rest) same

  more-digits : (x : ℕ) → 10 ≤ x → Reads (x / 10) → Reads x
  more-digits x h so_far rest =
      let whole : 10 * (x / 10) + x % 10 ≡ x = omega (arith, div-add-mod' x 10) in
      ap (λ (l : List ℕ). runs_read_from run low 0 (l ++ rest)) (decimal-more x h)
      ∙ ap (runs_read_from run low 0) (append_assoc (decimal (x / 10)) ((48 + x % 10) ∷ []) rest)
      ∙ so_far ((48 + x % 10) ∷ rest)
      ∙ digit-more (x / 10) (x % 10) rest (mod-lt x (lit< tt))
      ∙ ap (λ k. runs_read_from run low k rest) whole

  two_digits : (x : ℕ) → x < 100 → Reads x
  two_digits x few =
      ⊎_elim (λ q. one-digit x (ltb-true x 10 q)) (λ q. more-digits x (ltb-false x 10 q) (one-digit (x / 10) (omega (arith, div-add-mod' x 10))))
      (cases (ltb x 10))

  number-heard : (x : ℕ) → x < 1000 → Reads x
  number-heard x few =
      ⊎_elim (λ q. one-digit x (ltb-true x 10 q)) (λ q. more-digits x (ltb-false x 10 q) (two_digits (x / 10) (omega (arith, div-add-mod' x 10))))
      (cases (ltb x 10))

-- ---- a range

-- a text begins with no digit, and with no -
abbrev pub Breaks : List ℕ → Type 0
Breaks [] = Unit {0}
Breaks (b ∷ text) = (is_digit b ≡ false) × (eqb b 45 ≡ false)

-- there a number ends
settle : (run : List Span) (low n : ℕ) (rest : List ℕ) → Breaks rest → runs_read_from run low n rest ≡ runs_read_from (read_span run low n) 0 0 rest
unfolding runs_read_from
settle run low n [] h = refl
settle run low n (b ∷ text) h = rw (h.0, h.1)

minus : (run : List Span) (x : ℕ) (rest : List ℕ) → runs_read_from run 0 x (45 ∷ rest) ≡ runs_read_from run x 0 rest
unfolding runs_read_from
minus run x rest = refl

-- a number, or a range of two
abbrev pub span_text : Bool → (x y : ℕ) → List ℕ
span_text true x y = decimal x
span_text false x y = decimal x ++ (45 ∷ decimal y)

-- one more range of a run
abbrev pub Adds : List Span → List ℕ → List Span → Type 0
Adds run text more = (rest : List ℕ) → Breaks rest → runs_read_from run 0 0 (text ++ rest) ≡ runs_read_from (run ++ more) 0 0 rest

module _ (run : List Span) (x y : ℕ) (some-x : x ≡ 0 → ⊥) (few-x : x < 1000) (some-y : y ≡ 0 → ⊥) (few-y : y < 1000) where
  one-heard : x ≡ y → Adds run (decimal x) ((x, y) ∷ [])
  one-heard e rest h =
      let same : read_span run 0 x ≡ run ++ ((x, y) ∷ []) = rw (ne_eqb x 0 some-x) (ap (λ z. run ++ ((x, z) ∷ [])) e) in
      number-heard run 0 x few-x rest ∙ settle run 0 x rest h ∙ ap (λ (r : List Span). runs_read_from r 0 0 rest) same

  range-heard : Adds run (decimal x ++ (45 ∷ decimal y)) ((x, y) ∷ [])
  range-heard rest h =
      let same : read_span run x y ≡ run ++ ((x, y) ∷ []) = rw (ne_eqb y 0 some-y, ne_eqb x 0 some-x) in
      ap (runs_read_from run 0 0) (append_assoc (decimal x) (45 ∷ decimal y) rest)
      ∙ number-heard run 0 x few-x (45 ∷ (decimal y ++ rest))
      ∙ minus run x (decimal y ++ rest)
      ∙ number-heard run x y few-y rest
      ∙ settle run x y rest h
      ∙ ap (λ (r : List Span). runs_read_from r 0 0 rest) same

  -- one number, or a range
  span-heard : (one : Bool) → (one ≡ true → x ≡ y) → Adds run (span_text one x y) ((x, y) ∷ [])
  span-heard true e = one-heard (e refl)
  span-heard false e = range-heard

-- ---- the rows of the text

number-row : (on one : Bool) (x y : ℕ)
    → phrase run_lines (Row (pick on (pick one 2 3) (pick one 0 1)) x y 0 0) ≡ pick on (43 ∷ []) [] ++ span_text one x y
unfolding run_lines spoken
number-row true true x y = ap (λ (l : List ℕ). 43 ∷ l) (append-nil (decimal x))
number-row true false x y = ap (λ (l : List ℕ). 43 ∷ (decimal x ++ (45 ∷ l))) (append-nil (decimal y))
number-row false true x y = append-nil (decimal x)
number-row false false x y = ap (λ (l : List ℕ). decimal x ++ (45 ∷ l)) (append-nil (decimal y))

-- " slot 4", " slots 1-3"
abbrev pub slot_text : Bool → (x y : ℕ) → List ℕ
slot_text true x y = 32 ∷ 115 ∷ 108 ∷ 111 ∷ 116 ∷ 32 ∷ decimal x
slot_text false x y = 32 ∷ 115 ∷ 108 ∷ 111 ∷ 116 ∷ 115 ∷ 32 ∷ (decimal x ++ (45 ∷ decimal y))

pub slot_row-law : (on one : Bool) (x y : ℕ)
    → phrase run_lines (Row (pick on (pick one 6 7) (pick one 4 5)) x y 0 0) ≡ pick on (44 ∷ []) [] ++ slot_text one x y
unfolding run_lines spoken
slot_row-law true true x y = ap (λ (l : List ℕ). 44 ∷ 32 ∷ 115 ∷ 108 ∷ 111 ∷ 116 ∷ 32 ∷ l) (append-nil (decimal x))
slot_row-law true false x y =
    ap (λ (l : List ℕ). 44 ∷ 32 ∷ 115 ∷ 108 ∷ 111 ∷ 116 ∷ 115 ∷ 32 ∷ (decimal x ++ (45 ∷ l))) (append-nil (decimal y))
slot_row-law false true x y = ap (λ (l : List ℕ). 32 ∷ 115 ∷ 108 ∷ 111 ∷ 116 ∷ 32 ∷ l) (append-nil (decimal x))
slot_row-law false false x y =
    ap (λ (l : List ℕ). 32 ∷ 115 ∷ 108 ∷ 111 ∷ 116 ∷ 115 ∷ 32 ∷ (decimal x ++ (45 ∷ l))) (append-nil (decimal y))

pub slot-lead : (run : List Span) (one : Bool) (x y : ℕ) (rest : List ℕ)
    → runs_read_from run 0 0 (slot_text one x y ++ rest) ≡ runs_read_from run 0 0 (span_text one x y ++ rest)
unfolding runs_read_from
slot-lead run true x y rest = refl
slot-lead run false x y rest = refl

plus : (run : List Span) (rest : List ℕ) → runs_read_from run 0 0 (43 ∷ rest) ≡ runs_read_from run 0 0 rest
unfolding runs_read_from
plus run rest = refl

-- ---- tests over lists

some-append : {A : Type 0} (p : A → Bool) (l m : List A) → some_in p (l ++ m) ≡ (some_in p l || some_in p m)
unfolding some_in
some-append p [] m = refl
some-append p (x ∷ l) m = ap (λ b. p x || b) (some-append p l m) ∙ sym (or_assoc (p x) (some_in p l) (some_in p m))

item-some : {A : Type 0} (p : A → Bool) (s : Bool) (x : A) → some_in p (pick s (x ∷ []) []) ≡ (s && p x)
unfolding some_in
item-some p true x = or-false (p x)
item-some p false x = refl

-- ---- the runs of a row

module _ (row : List ℕ) where
  abbrev pub one : ℕ → Bool
  one a = eqb (a + 1) (run_stop row a)

  -- a run as it is named
  abbrev pub told : ℕ → Span
  told a = (a + 1, run_stop row a)

  abbrev pub item : ℕ → List Span
  item a = pick (starts_run row a) (told a ∷ []) []

  stop-some : (a : ℕ) → a + 1 ≤ run_stop row a
  unfolding run_stop
  stop-some a = first-least (λ j. not (eqb (get_or row j 0) (get_or row a 0))) (a + 1) (length row)

  stop-most : (a : ℕ) → a < length row → run_stop row a ≤ length row
  unfolding run_stop
  stop-most a l = first-most (λ j. not (eqb (get_or row j 0) (get_or row a 0))) (a + 1) (length row) (omega arith)

  -- what is not 0 is not before n, where no run is
  pub no_number-law : (n : ℕ) → run_before row n ≡ false → (k : ℕ) → k < n → not (eqb (get_or row k 0) 0) ≡ false
  unfolding run_before
  no_number-law n e k l =
      let p : ℕ → Bool = λ j. not (eqb (get_or row j 0) 0) in
      first-before p 0 (length row) k zero-le (omega (arith, ltb-false (first p 0 (length row)) n e, l))

  pub none_before : (n : ℕ) → run_before row n ≡ false → (k : ℕ) → k < n → starts_run row k ≡ false
  unfolding starts_run
  none_before n e k l = rw (no_number-law n e k l)

  items-none : (n : ℕ) → run_before row n ≡ false → in_turn item n ≡ []
  items-none n e = turn-none item n (λ k l. rw (none_before n e k l))

  numbers-none : (n : ℕ) → run_before row n ≡ false → in_turn (number_said row) n ≡ []
  unfolding run_phrase
  numbers-none n e = turn-none (number_said row) n (λ k l. rw (none_before n e k l))

  pub items-any : (x n : ℕ) → some_in (span_has x) (in_turn item n) ≡ any (λ a. starts_run row a && span_has x (told a)) n
  unfolding in_turn any some_in
  items-any x zero = refl
  items-any x (suc n) =
      some-append (span_has x) (in_turn item n) (item n) ∙ rw (items-any x n, item-some (span_has x) (starts_run row n) (told n))

  -- a place is in a run as it is named
  abbrev pub in_run : ℕ → ℕ → Bool
  in_run t a = starts_run row a && span_has (t + 1) (told a)

  pub run-found : (t : ℕ) → t < length row → any (in_run t) (length row) ≡ true → get_or row t 0 ≡ 0 → ⊥
  run-found t l e z =
      let w = any_some (in_run t) (length row) e in
      let a = w.0 in
      let p = both (starts_run row a) (span_has (t + 1) (told a)) w.2 in
      let q = both (leb (a + 1) (t + 1)) (leb (t + 1) (run_stop row a)) p.1 in
      (runs-tell row t l).1 (a, omega (arith, leb-true (a + 1) (t + 1) q.0), p.0, omega (arith, leb-true (t + 1) (run_stop row a) q.1)) z

  pub run-there : (t : ℕ) → t < length row → (get_or row t 0 ≡ 0 → ⊥) → (a : ℕ) × (a < length row) × (in_run t a ≡ true)
  run-there t l some =
      let w = (runs-tell row t l).0 some in
      let a = w.0 in (
        a,
        omega (arith, w.1, l),
        both_is (starts_run row a) (span_has (t + 1) (told a)) w.2
            (both_is (leb (a + 1) (t + 1)) (leb (t + 1) (run_stop row a))
            (le-leb (a + 1) (t + 1) (omega (arith, w.1)))
            (le-leb (t + 1) (run_stop row a) (omega (arith, w.3)))),
      )

  module _ (few : length row < 1000) where
    pub told-heard : (run : List Span) (a : ℕ) → a < length row → Adds run (span_text (one a) (a + 1) (run_stop row a)) (told a ∷ [])
    told-heard run a l =
        span-heard run (a + 1) (run_stop row a) (λ z. omega (arith, z)) (omega (arith, l, few)) (λ z. omega (arith, z, stop-some a))
        (omega (arith, stop-most a l, few)) (one a) (λ e. eqb-true (a + 1) (run_stop row a) e)

    number_step : (n : ℕ) → n < length row → ((run : List Span) → Adds run (in_turn (number_said row) n) (in_turn item n))
        → (run : List Span) (rest : List ℕ) → Breaks rest → (s on : Bool) → starts_run row n ≡ s → run_before row n ≡ on
        → runs_read_from run 0 0 (in_turn (number_said row) n ++ (phrase run_lines (pick s (span_phrase 0 on n (run_stop row n)) Silent) ++ rest))
        ≡ runs_read_from (run ++ (in_turn item n ++ pick s (told n ∷ []) [])) 0 0 rest
    unfolding span_phrase
    number_step n l so_far run rest b false on p q =
        so_far run rest b ∙ ap (λ (r : List Span). runs_read_from (run ++ r) 0 0 rest) (sym (append-nil (in_turn item n)))
    number_step n l so_far run rest b true true p q =
        let text = span_text (one n) (n + 1) (run_stop row n) in
        ap (λ (x : List ℕ). runs_read_from run 0 0 (in_turn (number_said row) n ++ (x ++ rest))) (number-row true (one n) (n + 1) (run_stop row n))
        ∙ so_far run (43 ∷ (text ++ rest)) (refl, refl)
        ∙ plus (run ++ in_turn item n) (text ++ rest)
        ∙ told-heard (run ++ in_turn item n) n l rest b
        ∙ ap (λ (r : List Span). runs_read_from r 0 0 rest) (append_assoc run (in_turn item n) (told n ∷ []))
    number_step n l so_far run rest b true false p q =
        let text = span_text (one n) (n + 1) (run_stop row n) in
        ap (λ (x : List ℕ). runs_read_from run 0 0 (x ++ (phrase run_lines (span_phrase 0 false n (run_stop row n)) ++ rest))) (numbers-none n q)
        ∙ ap (λ (x : List ℕ). runs_read_from run 0 0 (x ++ rest)) (number-row false (one n) (n + 1) (run_stop row n))
        ∙ told-heard run n l rest b
        ∙ ap (λ (x : List Span). runs_read_from (run ++ (x ++ (told n ∷ []))) 0 0 rest) (sym (items-none n q))

    pub numbers-heard : (n : ℕ) → n ≤ length row → (run : List Span) → Adds run (in_turn (number_said row) n) (in_turn item n)
    unfolding in_turn run_phrase
    numbers-heard zero h run rest b = ap (λ (r : List Span). runs_read_from r 0 0 rest) (sym (append-nil run))
    numbers-heard (suc n) h run rest b =
        ap (runs_read_from run 0 0) (append_assoc (in_turn (number_said row) n) (number_said row n) rest)
        ∙ number_step n (omega arith) (numbers-heard n (omega arith)) run rest b (starts_run row n) (run_before row n) refl refl
