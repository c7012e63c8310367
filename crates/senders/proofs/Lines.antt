-- The line of a cell, read back: its runs one after the other, each with its slots and its channels. What is read has a slot and a channel exactly where the
-- row's word of the slot has the channel. Assumes nothing.
--     row_told  of any row with a word of channels for each slot
use Prim.Native.Nat.{ℕ, zero, suc, ◌+◌, ◌-◌, ◌/◌, ◌%◌, ◌^◌, ◌≤◌, ◌<◌}
use mathlib.Core.Path.{◌≡◌, refl, sym, ap, ◌∙◌}
use mathlib.Core.Bool.{Bool, true, false, true≢false, not, ◌&&◌, ◌||◌, or-false, or_assoc}
use mathlib.Core.List.{List, [], ◌∷◌, ◌++◌, append_assoc, append-nil}
use mathlib.Core.Logic.{⊎_elim}
use native.Mathlib.Omega.{arith}
use lib.Dec.{eqb, leb}
use lib.ListN.{length, get_or}
use borrow.Author.Tests.{eq-eqb, eqb-true, lt-ltb, leb-true}
use Rattle.laws.specs.Bits.{bit_at}
use Rattle.laws.specs.Choice.{pick}
use Rattle.laws.specs.Search.{first}
use Rattle.laws.specs.Sum.{any}
use lib.Pow.{pow_mono}
use Rattle.laws.proofs.Any.{any_here, any_none, any_some, none_any}
use Rattle.laws.proofs.Choice.{cases, alike, both, both_is}
use Rattle.laws.proofs.Lowest.{bit-all}
use Rattle.laws.proofs.Stores.{length-list, list_at}
use Rattle.laws.proofs.Words.{word-bits, none-word}
use Rattle.laws.proofs.Bits.{none_in}
use Rattle.faults.specs.Faults.{in_turn}
use Rattle.faults.proofs.InTurn.{turn-none}
use Rattle.speech.specs.Speech.{spoken}
use Rattle.phrases.specs.Phrases.{phrase}
use Rattle.phrases.specs.declared.Phrase.TheVariants.{Silent, Row}
use Rattle.say_runs.specs.Lines.{run_lines}
use Rattle.say_runs.specs.Runs.{starts_run, run_stop, run_before}
use Rattle.say_runs.specs.Said.{span_phrase, run_phrase, spans_said, channel_bits, channels_named, channels_said, run_said, runs_said}
use Rattle.say_runs.proofs.Truth.{run-same}
use Rattle.senders.specs.Read.{Span, span_has, runs_read_from, runs_told, some_in, is_none, run_has}
use Rattle.senders.proofs.Heard.{Breaks, Adds, slot_text, one, told, item, in_run}
use Rattle.senders.proofs.Heard.{slot_row-law, slot-lead, none_before, items-any, run-found, run-there}
use Rattle.senders.proofs.Heard.{told-heard, numbers-heard}

-- ---- the channels of a run

-- the ranges of channels that are named; none where all are meant
abbrev pub named : (channels word : ℕ) → List Span
named channels word = pick (channels_named channels word) (in_turn (item (channel_bits word)) (length (channel_bits word))) []

bits-long : (word : ℕ) → length (channel_bits word) ≡ 16
bits-long word = length-list (λ f. word / 2 ^ f % 2) 16

module _ (channels word : ℕ) where
  abbrev bits : List ℕ
  bits = channel_bits word

  channels-break : (rest : List ℕ) → Breaks rest → Breaks (channels_said channels word ++ rest)
  unfolding channels_said run_lines spoken
  channels-break rest b = go (eqb channels 1) (eqb word (2 ^ channels - 1)) (eqb (2 ^ first (bit_at word) 0 16) word)
    where
      go : (c all o : Bool)
          → Breaks
          ((phrase run_lines (pick c Silent (pick all (Row 10 0 0 0 0) (Row (pick o 8 9) 0 0 0 0))) ++ pick (not c && not all) (spans_said bits) []) ++ rest)
      go true all o = b
      go false true o = (refl, refl)
      go false false true = (refl, refl)
      go false false false = (refl, refl)

  channels-heard : (run : List Span) → Adds run (channels_said channels word) (named channels word)
  unfolding channels_said run_lines spoken runs_read_from
  channels-heard run rest b = go (eqb channels 1) (eqb word (2 ^ channels - 1)) (eqb (2 ^ first (bit_at word) 0 16) word)
    where
      numbers : runs_read_from run 0 0 (spans_said bits ++ rest) ≡ runs_read_from (run ++ in_turn (item bits) (length bits)) 0 0 rest
      numbers = numbers-heard bits (omega (arith, bits-long word)) (length bits) (omega arith) run rest b

      go : (c all o : Bool)
          → runs_read_from run 0 0
          ((phrase run_lines (pick c Silent (pick all (Row 10 0 0 0 0) (Row (pick o 8 9) 0 0 0 0))) ++ pick (not c && not all) (spans_said bits) []) ++ rest)
          ≡ runs_read_from (run ++ pick (not c && not all) (in_turn (item bits) (length bits)) []) 0 0 rest
      go true all o = ap (λ (r : List Span). runs_read_from r 0 0 rest) (sym (append-nil run))
      go false true o = ap (λ (r : List Span). runs_read_from r 0 0 rest) (sym (append-nil run))
      go false false true = numbers
      go false false false = numbers

  -- a channel is in the ranges of a word's bits exactly where the word has it
  bit-named : (f : ℕ) → f < 16 → some_in (span_has (f + 1)) (in_turn (item bits) (length bits)) ≡ bit_at word f
  bit-named f l =
      let far : f < length bits = omega (arith, l, bits-long word) in
      let there : get_or bits f 0 ≡ word / 2 ^ f % 2 = list_at (λ j. word / 2 ^ j % 2) 16 f l in
      items-any bits (f + 1) (length bits)
      ∙ alike (any (in_run bits f) (length bits)) (bit_at word f)
      (λ e. one-is (word / 2 ^ f % 2) (omega arith) (λ z. run-found bits f far e (there ∙ z)))
      (λ e.
      let w = run-there bits f far (λ z. zero-not (word / 2 ^ f % 2) (eqb-true (word / 2 ^ f % 2) 1 e) (sym there ∙ z)) in
      any_here (in_run bits f) (length bits) w.0 w.1 w.2)
    where
      one-is : (x : ℕ) → x < 2 → (x ≡ 0 → ⊥) → eqb x 1 ≡ true
      one-is x l n = eq-eqb x 1 (omega (arith, n, l))

      zero-not : (x : ℕ) → x ≡ 1 → x ≡ 0 → ⊥
      zero-not x e z = omega (arith, e, z)

  -- the channels of a run are its word's
  some-not-none : (p : Span → Bool) (l : List Span) → some_in p l ≡ true → is_none l ≡ false
  unfolding some_in
  some-not-none p [] e = absurd (true≢false (sym e))
  some-not-none p (x ∷ l) e = refl

  all-has : word ≡ 2 ^ channels - 1 → (f : ℕ) → f < channels → true ≡ bit_at word f
  all-has e f l = sym (ap (λ w. bit_at w f) e ∙ bit-all channels f ∙ lt-ltb f channels l)

  some-bit : (word ≡ 0 → ⊥) → word < 2 ^ 16 → (f : ℕ) × (f < 16) × (bit_at word f ≡ true)
  some-bit some few = any_some (bit_at word) 16 (⊎_elim (λ e. e) (λ e. absurd (some (empty e))) (cases (any (bit_at word) 16)))
    where
      empty : any (bit_at word) 16 ≡ false → word ≡ 0
      empty e = word-bits word 16 few ∙ none-word (bit_at word) 16 (any_none (bit_at word) 16 e)

  channels-tell : (word ≡ 0 → ⊥) → word < 2 ^ channels → channels ≤ 16 → (f : ℕ) → f < channels
      → (is_none (named channels word) || some_in (span_has (f + 1)) (named channels word)) ≡ bit_at word f
  channels-tell some few most f l = go (eqb channels 1) (eqb word (2 ^ channels - 1)) refl refl
    where
      few-16 : word < 2 ^ 16
      few-16 = let wide : 2 ^ channels ≤ 2 ^ 16 = pow_mono most in omega (arith, few, wide)

      lone : eqb channels 1 ≡ true → word ≡ 2 ^ channels - 1
      lone e = let c = eqb-true channels 1 e in rw c (let h : word < 2 = (rw c at few) in omega (arith, some, h))

      apart : is_none (in_turn (item bits) (length bits)) ≡ false
      apart = let w = some-bit some few-16 in some-not-none (span_has (w.0 + 1)) (in_turn (item bits) (length bits)) (bit-named w.0 w.1 ∙ w.2)

      go : (c all : Bool) → eqb channels 1 ≡ c → eqb word (2 ^ channels - 1) ≡ all
          → (is_none (pick (not c && not all) (in_turn (item bits) (length bits)) [])
          || some_in (span_has (f + 1)) (pick (not c && not all) (in_turn (item bits) (length bits)) []))
          ≡ bit_at word f
      go true all p q = all-has (lone p) f l
      go false true p q = all-has (eqb-true word (2 ^ channels - 1) q) f l
      go false false p q = rw apart (bit-named f (omega (arith, l, most)))

-- ---- the runs of a row

module _ (channels : ℕ) (row : List ℕ) (few : length row < 1000) where
  abbrev at : ℕ → ℕ
  at a = get_or row a 0

  -- a run as it is read
  abbrev spans : ℕ → List Span
  spans a = told row a ∷ named channels (at a)

  run-heard : (a : ℕ) → a < length row → (rest : List ℕ) → Breaks rest
      → runs_told (slot_text (one row a) (a + 1) (run_stop row a) ++ (channels_said channels (at a) ++ rest)) ≡ runs_read_from (spans a) 0 0 rest
  run-heard a l rest b =
      slot-lead [] (one row a) (a + 1) (run_stop row a) (channels_said channels (at a) ++ rest)
      ∙ told-heard row few [] a l (channels_said channels (at a) ++ rest) (channels-break channels (at a) rest b)
      ∙ channels-heard channels (at a) (told row a ∷ []) rest b

  runs_none : (n : ℕ) → run_before row n ≡ false → in_turn (run_said channels row) n ≡ []
  unfolding run_said run_phrase
  runs_none n e = turn-none (run_said channels row) n (λ k l. rw (none_before row n e k l))

  module _ (p : List Span → Bool) (nothing : p [] ≡ false) where
    -- what comes after a run: a comma and the next one, or the end of the line
    abbrev tail : Bool → List ℕ → List ℕ
    tail true text = 44 ∷ text
    tail false text = 10 ∷ []

    abbrev later : Bool → List ℕ → List (List Span)
    later true text = runs_told text
    later false text = []

    tail-breaks : (t : Bool) (text : List ℕ) → Breaks (tail t text)
    tail-breaks true text = (refl, refl)
    tail-breaks false text = (refl, refl)

    ends : (run : List Span) (t : Bool) (text : List ℕ) → some_in p (runs_read_from run 0 0 (tail t text)) ≡ (p run || some_in p (later t text))
    unfolding runs_read_from some_in
    ends run true text = refl
    ends run false text = refl

    abbrev hit : ℕ → Bool
    hit a = starts_run row a && p (spans a)

    abbrev Heard : ℕ → Type 0
    Heard n = (t : Bool) (text : List ℕ) → some_in p (runs_told (in_turn (run_said channels row) n ++ tail t text)) ≡ (any hit n || some_in p (later t text))

    run_step : (n : ℕ) → n < length row → Heard n → (t : Bool) (text : List ℕ) → (s on : Bool) → starts_run row n ≡ s → run_before row n ≡ on
        → some_in p (runs_told (in_turn (run_said channels row) n
        ++ ((phrase run_lines (pick s (span_phrase 4 on n (run_stop row n)) Silent) ++ pick s (channels_said channels (at n)) []) ++ tail t text)))
        ≡ ((any hit n || (s && p (spans n))) || some_in p (later t text))
    unfolding span_phrase
    run_step n l so_far t text false on q r = so_far t text ∙ ap (λ b. b || some_in p (later t text)) (sym (or-false (any hit n)))
    run_step n l so_far t text true true q r =
        let slots = slot_text (one row n) (n + 1) (run_stop row n) in
        let said = channels_said channels (at n) in
        ap (λ (x : List ℕ). some_in p (runs_told (in_turn (run_said channels row) n ++ ((x ++ said) ++ tail t text))))
        (slot_row-law true (one row n) (n + 1) (run_stop row n))
        ∙ ap (λ (x : List ℕ). some_in p (runs_told (in_turn (run_said channels row) n ++ (44 ∷ x)))) (append_assoc slots said (tail t text))
        ∙ so_far true (slots ++ (said ++ tail t text))
        ∙ ap (λ (x : List (List Span)). any hit n || some_in p x) (run-heard n l (tail t text) (tail-breaks t text))
        ∙ ap (λ b. any hit n || b) (ends (spans n) t text)
        ∙ sym (or_assoc (any hit n) (p (spans n)) (some_in p (later t text)))
    run_step n l so_far t text true false q r =
        let slots = slot_text (one row n) (n + 1) (run_stop row n) in
        let said = channels_said channels (at n) in
        let idle : any hit n ≡ false = none_any hit n (λ k m. rw (none_before row n r k m)) in
        ap (λ (x : List ℕ). some_in p (runs_told (x ++ ((phrase run_lines (span_phrase 4 false n (run_stop row n)) ++ said) ++ tail t text)))) (runs_none n r)
        ∙ ap (λ (x : List ℕ). some_in p (runs_told ((x ++ said) ++ tail t text))) (slot_row-law false (one row n) (n + 1) (run_stop row n))
        ∙ ap (λ (x : List ℕ). some_in p (runs_told x)) (append_assoc slots said (tail t text))
        ∙ ap (some_in p) (run-heard n l (tail t text) (tail-breaks t text))
        ∙ ends (spans n) t text
        ∙ ap (λ b. (b || p (spans n)) || some_in p (later t text)) (sym idle)

    runs-heard : (n : ℕ) → n ≤ length row → Heard n
    unfolding in_turn any run_said run_phrase
    runs-heard zero h t text = ends [] t text ∙ ap (λ b. b || some_in p (later t text)) nothing
    runs-heard (suc n) h t text =
        ap (λ (x : List ℕ). some_in p (runs_told x)) (append_assoc (in_turn (run_said channels row) n) (run_said channels row n) (tail t text))
        ∙ run_step n (omega arith) (runs-heard n (omega arith)) t text (starts_run row n) (run_before row n) refl refl

    all-heard : some_in p (runs_told (runs_said channels row ++ (10 ∷ []))) ≡ any hit (length row)
    unfolding some_in
    all-heard = runs-heard (length row) (omega arith) false [] ∙ or-false (any hit (length row))

  module _
      (most : channels ≤ 16)
      (words : (a : ℕ) → a < length row → at a < 2 ^ channels)
      (slot f : ℕ)
      (inside : slot < length row)
      (channel : f < channels)
    where
      abbrev has : List Span → Bool
      has = run_has (slot + 1) (f + 1)

      -- the run that has the slot has its word
      same_word : (a : ℕ) → in_run row slot a ≡ true → at a ≡ at slot
      same_word a e =
          let x = both (starts_run row a) (span_has (slot + 1) (told row a)) e in
          let y = both (leb (a + 1) (slot + 1)) (leb (slot + 1) (run_stop row a)) x.1 in
          sym (run-same row a slot (omega (arith, leb-true (a + 1) (slot + 1) y.0)) (omega (arith, leb-true (slot + 1) (run_stop row a) y.1)))

      tell : (a : ℕ) → a < length row → (at a ≡ 0 → ⊥) → (is_none (named channels (at a)) || some_in (span_has (f + 1)) (named channels (at a))) ≡ bit_at
          (at a) f
      tell a l some = channels-tell channels (at a) some (words a l) most f channel

      no-bit : at slot ≡ 0 → bit_at (at slot) f ≡ true → ⊥
      no-bit z e = true≢false (sym e ∙ ap (λ w. bit_at w f) z ∙ none_in f)

      pub row_told : some_in has (runs_told (runs_said channels row ++ (10 ∷ []))) ≡ bit_at (at slot) f
      row_told =
          all-heard has refl
          ∙ alike (any (λ a. starts_run row a && has (spans a)) (length row)) (bit_at (at slot) f)
          (λ e.
          let w = any_some (λ a. starts_run row a && has (spans a)) (length row) e in
          let a = w.0 in
          let x = both (starts_run row a) (has (spans a)) w.2 in
          let y = both (span_has (slot + 1) (told row a)) (is_none (named channels (at a)) || some_in (span_has (f + 1)) (named channels (at a))) x.1 in
          let run : in_run row slot a ≡ true = both_is (starts_run row a) (span_has (slot + 1) (told row a)) x.0 y.0 in
          let word = same_word a run in
          let some = run-found row slot inside (any_here (in_run row slot) (length row) a w.1 run) in
          ap (λ z. bit_at z f) (sym word) ∙ sym (tell a w.1 (λ z. some (sym word ∙ z))) ∙ y.1)
          (λ e.
          let some : at slot ≡ 0 → ⊥ = λ z. no-bit z e in
          let w = run-there row slot inside some in
          let a = w.0 in
          let x = both (starts_run row a) (span_has (slot + 1) (told row a)) w.2 in
          let word = same_word a w.2 in
          any_here (λ c. starts_run row c && has (spans c)) (length row) a w.1
          (both_is (starts_run row a) (has (spans a)) x.0
          (both_is (span_has (slot + 1) (told row a)) (is_none (named channels (at a)) || some_in (span_has (f + 1)) (named channels (at a))) x.1
          (tell a w.1 (λ z. some (sym word ∙ z)) ∙ ap (λ z. bit_at z f) word ∙ e))))
