-- What is named where a verdict is not the good one, said without the search that finds it: the first of its kind, and that it is one.
-- That the verdicts of specs/Verdict.antt and the run of specs/Greedy.antt name just these is proved in proofs/:
-- LoadLaws, ChainLaws, ClassLaws, TableLaws, Run.
use Rattle.std.specs.Prelude.{◌≡◌, Bool, true, false, List, ℕ, ◌-◌, ◌≤◌, ◌<◌}
use Rattle.laws.specs.Choice.{Rising}
use Rattle.laws.specs.Sum.{count}
use Rattle.theory.specs.Net.{Net, Reserved, room, demand}
use Rattle.theory.specs.Greedy.{planned, shortage, run}

-- x, y, z comes no earlier than p, q, r: by the first number, then the second, then the third
abbrev pub NoEarlier : (p q r x y z : ℕ) → Type 0
NoEarlier p q r x y z = Rising p x (Rising q y (r ≤ z))

-- "If not, it names the lowest cell that is over and by how much": cell i is over by m, and no lower cell is over
pub record FirstOver (s : Net) (who : ℕ → Bool) (i m : ℕ) : Type 0 where
  pub inside : i < s.cells
  pub counts : who i ≡ true
  pub exceeds : room s < demand s i
  pub by : m ≡ demand s i - room s
  pub lowest : (j : ℕ) → j < i → who j ≡ true → demand s j ≤ room s

-- a, b and c show that s is not chained: a and c clash, and b strictly between them does not clash with a, "the EARLIER cell"
pub record Breaks (s : Net) (who : ℕ → Bool) (a b c : ℕ) : Type 0 where
  pub ab : a < b
  pub bc : b < c
  pub inside : c < s.cells
  pub who_a : who a ≡ true
  pub who_b : who b ≡ true
  pub who_c : who c ≡ true
  pub far : s.clash a c ≡ true
  pub near : s.clash a b ≡ false

-- "If not chained, the judge names the first triple a, b, c in rising order of a, then c, then b."
pub record FirstBreaks (s : Net) (who : ℕ → Bool) (a b c : ℕ) : Type 0 where
  pub shows : Breaks s who a b c
  pub earliest : (x y z : ℕ) → Breaks s who x y z → NoEarlier a c b x z y

-- a, b and i show that s is outside the class: a and b are lower clashing cells of i, and do not clash with one another
pub record Splits (s : Net) (who : ℕ → Bool) (a b i : ℕ) : Type 0 where
  pub ab : a < b
  pub bi : b < i
  pub inside : i < s.cells
  pub who_a : who a ≡ true
  pub who_b : who b ≡ true
  pub who_i : who i ≡ true
  pub one : s.clash a i ≡ true
  pub other : s.clash b i ≡ true
  pub far : s.clash a b ≡ false

-- the first such cells in rising order of i, then a, then b
pub record FirstSplits (s : Net) (who : ℕ → Bool) (a b i : ℕ) : Type 0 where
  pub shows : Splits s who a b i
  pub earliest : (x y z : ℕ) → Splits s who x y z → NoEarlier i a b z x y

-- W8: "reservation on a blocked position": cell i's, at position k
pub record Barred (s : Net) (res : Reserved) (k i : ℕ) : Type 0 where
  pub inside : i < s.cells
  pub within : k < s.width
  pub held : res i k ≡ true
  pub closed : s.usable k ≡ false

-- "lowest position, then cell"
pub record FirstBarred (s : Net) (res : Reserved) (k i : ℕ) : Type 0 where
  pub shows : Barred s res k i
  pub earliest : (l j : ℕ) → Barred s res l j → Rising k l (i ≤ j)

-- "two clashing cells hold 1 at one position": cells a < c, at position k
pub record Clashes (s : Net) (res : Reserved) (k a c : ℕ) : Type 0 where
  pub rising : a < c
  pub inside : c < s.cells
  pub within : k < s.width
  pub far : s.clash a c ≡ true
  pub one : res a k ≡ true
  pub other : res c k ≡ true

-- W8: 22 "before 6": no reservation on a blocked position. "lowest position; there the pair with the lowest first cell, then second"
pub record FirstClash (s : Net) (res : Reserved) (k a c : ℕ) : Type 0 where
  pub free : (l j : ℕ) → Barred s res l j → ⊥
  pub shows : Clashes s res k a c
  pub earliest : (l x z : ℕ) → Clashes s res l x z → NoEarlier k a c l x z

-- "6 before 7", "lowest cell, its count": no reservation on a blocked position, no clash anywhere; cell i is reserved n times, which is not its load;
-- and every lower cell is as its load says
pub record FirstWrong (s : Net) (res : Reserved) (i n : ℕ) : Type 0 where
  pub free : (l j : ℕ) → Barred s res l j → ⊥
  pub apart : (k a c : ℕ) → Clashes s res k a c → ⊥
  pub inside : i < s.cells
  pub counted : n ≡ count (res i) s.width
  pub differs : count (res i) s.width ≡ s.load i → ⊥
  pub lowest : (j : ℕ) → j < i → count (res j) s.width ≡ s.load j

-- "The first cell whose load can't be met ends the run": of n cells, those below c have their rows, `table`, and c is l fragments short, which is not none
pub record Fails (s : Net) (rule : List ℕ → ℕ → List ℕ) (n c l : ℕ) : Type 0 where
  pub cell : c < n
  pub table : List ℕ
  pub below : run s rule c ≡ planned table
  pub lacks : shortage s rule table c ≡ l
  pub some : 0 < l
