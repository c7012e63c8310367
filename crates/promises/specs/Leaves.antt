-- Demand 1, what lent memory holds after a call, by the number that the call gives back. "The planner's refusal 5 leaves the first
-- IN bytes 0; no other refusal writes. Table bytes past IN and output bytes past the file are never written."
-- W6, of words: "5 leaves N words of 0; words past N are never written."
use Rattle.std.specs.Prelude.{◌≡◌, List, [], ◌∷◌, ◌++◌, ℕ, length, drop, replicate}
use Rattle.site.specs.Given.{Given}

-- the planner; n is IN, the size of the site's part. And the word planner, whose part is N words.
pub record PlannerLeaves (n : ℕ) (table : List ℕ) (number : ℕ) (after : List ℕ) : Type 0 where
  pub if_done : number ≡ 0 → drop n after ≡ drop n table
  pub if_no_room : number ≡ 5 → after ≡ replicate n 0 ++ drop n table
  pub if_refused : (number ≡ 0 → ⊥) → (number ≡ 5 → ⊥) → after ≡ table

-- the plan reader; n is IN of the file's head. And the changes of form, into N words or IN bytes.
pub record ReaderLeaves (n : ℕ) (table : List ℕ) (number : ℕ) (after : List ℕ) : Type 0 where
  pub if_done : number ≡ 0 → drop n after ≡ drop n table
  pub if_refused : (number ≡ 0 → ⊥) → after ≡ table

-- the writers: "A writer that is done answers the number of bytes written"
pub record WriterLeaves (file out : List ℕ) (given : Given) (after : List ℕ) : Type 0 where
  pub if_done : given.number ≡ 0 → (given.values ≡ length file ∷ []) × (after ≡ file ++ drop (length file) out)
  pub if_refused : (given.number ≡ 0 → ⊥) → after ≡ out
