-- What a text gives to a reader of one row, whatever follows the text: the numbers of each place where the row stands. Texts that are joined give theirs one
-- after the other; a row that is unlike gives nothing; the row itself gives its numbers. Assumes nothing.
use Prim.Native.Nat.{ℕ, zero, suc, ◌<◌}
use Prim.Native.String.{String}
use mathlib.Core.Path.{◌≡◌, refl, sym, ap, ◌∙◌, subst}
use mathlib.Core.Bool.{Bool, true, false, ◌&&◌, ◌||◌}
use mathlib.Core.List.{List, [], ◌∷◌, ◌++◌, append_assoc}
use native.Mathlib.Omega.{arith}
use Rattle.laws.specs.Choice.{pick}
use Rattle.laws.specs.Sum.{any}
use Rattle.laws.proofs.Choice.{both}
use Rattle.faults.specs.Faults.{in_turn}
use Rattle.faults.proofs.InTurn.{turn-none}
use Rattle.speech.specs.Speech.{bytes, mark_said, spoken}
use Rattle.phrases.specs.Phrases.{phrase}
use Rattle.phrases.specs.declared.Phrase.{Phrase}
use Rattle.phrases.specs.declared.Phrase.TheVariants.{Silent, Row}
use Rattle.readback.specs.Back.{rows_heard, unlike}
use Rattle.readback.proofs.Back.{read-unlike}
use Rattle.drawing.specs.Read.{some_of}

-- the row that is read has this after its <
module _ (row : List ℕ) where
  abbrev pub Gives : List ℕ → List (List ℕ) → Type 0
  Gives text marks = (rest : List ℕ) → rows_heard (60 ∷ row) (text ++ rest) ≡ marks ++ rows_heard (60 ∷ row) rest

  pub gives_none : Gives [] []
  gives_none rest = refl

  pub gives_both : (t u : List ℕ) (l m : List (List ℕ)) → Gives t l → Gives u m → Gives (t ++ u) (l ++ m)
  gives_both t u l m g h rest =
      ap (rows_heard (60 ∷ row)) (append_assoc t u rest) ∙ g (u ++ rest)
      ∙ ap (λ (x : List (List ℕ)). l ++ x) (h rest) ∙ sym (append_assoc l m (rows_heard (60 ∷ row) rest))

  pub gives-joined : (f : ℕ → List ℕ) (g : ℕ → List (List ℕ)) (n : ℕ) → ((k : ℕ) → k < n → Gives (f k) (g k)) → Gives (in_turn f n) (in_turn g n)
  unfolding in_turn
  gives-joined f g zero h = gives_none
  gives-joined f g (suc n) h =
      gives_both (in_turn f n) (f n) (in_turn g n) (g n) (gives-joined f g n (λ k l. h k (omega arith))) (h n (omega arith))

  pub joined-nothing : (f : ℕ → List ℕ) (n : ℕ) → ((k : ℕ) → k < n → Gives (f k) []) → Gives (in_turn f n) []
  joined-nothing f n h =
      subst (λ (l : List (List ℕ)). Gives (in_turn f n) l) (turn-none (λ _. []) n (λ k l. refl)) (gives-joined f (λ _. []) n h)

  -- a row that is unlike gives nothing
  pub gives_other : (other : List ℕ) (a b c d : ℕ) → unlike (60 ∷ row) other ≡ true → Gives (spoken (mark_said a b c d) other) []
  gives_other other a b c d e rest = read-unlike row a b c d other rest e

  -- no row of a table is like it
  abbrev pub all_unlike : List String → Bool
  all_unlike [] = true
  all_unlike (other ∷ rows) = unlike (60 ∷ row) (bytes other) && all_unlike rows

  pub gives-phrase : (rows : List String) → all_unlike rows ≡ true → (p : Phrase) → Gives (phrase rows p) []
  unfolding spoken
  gives-phrase rows e Silent = gives_none
  gives-phrase [] e (Row k a b c d) = gives_none
  gives-phrase (other ∷ rows) e (Row zero a b c d) =
      gives_other (bytes other) a b c d (both (unlike (60 ∷ row) (bytes other)) (all_unlike rows) e).0
  gives-phrase (other ∷ rows) e (Row (suc k) a b c d) =
      gives-phrase rows (both (unlike (60 ∷ row) (bytes other)) (all_unlike rows) e).1 (Row k a b c d)

-- ---- whether one of what is read passes a test

some-append : (p : List ℕ → Bool) (l m : List (List ℕ)) → some_of p (l ++ m) ≡ (some_of p l || some_of p m)
unfolding some_of
some-append p [] m = refl
some-append p (v ∷ l) m = go (p v) (some-append p l m)
  where
    go : (x : Bool) → some_of p (l ++ m) ≡ (some_of p l || some_of p m) → (x || some_of p (l ++ m)) ≡ ((x || some_of p l) || some_of p m)
    go true e = refl
    go false e = e

pub some-joined : (p : List ℕ → Bool) (g : ℕ → List (List ℕ)) (n : ℕ) → some_of p (in_turn g n) ≡ any (λ k. some_of p (g k)) n
unfolding in_turn any some_of
some-joined p g zero = refl
some-joined p g (suc n) = some-append p (in_turn g n) (g n) ∙ ap (λ (x : Bool). x || some_of p (g n)) (some-joined p g n)

-- one, where it is there
pub some_one : (p : List ℕ → Bool) (x : Bool) (v : List ℕ) → some_of p (pick x (v ∷ []) []) ≡ true → (x ≡ true) × (p v ≡ true)
unfolding some_of
some_one p true v e = (refl, go (p v) e)
  where
    go : (y : Bool) → (y || false) ≡ true → y ≡ true
    go true e = refl
    go false e = e
some_one p false v e = (e, cc)

pub one-some : (p : List ℕ → Bool) (x : Bool) (v : List ℕ) → x ≡ true → p v ≡ true → some_of p (pick x (v ∷ []) []) ≡ true
unfolding some_of
one-some p x v e h = rw (e, h)
