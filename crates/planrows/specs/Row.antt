-- A row as it is planned, by the numbers of the problem, and the mask that bars positions of it.
use Rattle.std.specs.Prelude.{ℕ, zero, suc, ◌+◌, ◌*◌, ◌≤◌, ◌<◌, ◌≡◌, Bool, ◌&&◌, ◌||◌, not, List, [], eqb, length, get_or, take, replicate}
use Rattle.laws.specs.Bits.{bit_at, bit_in, word_of}
use Rattle.laws.specs.Choice.{pick}
use Rattle.laws.specs.Part.{part, put}
use Rattle.laws.specs.Sum.{any}
use Rattle.rows.specs.Bars.{bar_row}
use Rattle.rows.specs.Stretch.{SendsIn}
use Rattle.theory.specs.Net.{unblocked}
use Rattle.theory.specs.Greedy.{row_at, reserved, forbid, marked, fill, unmet}
use Rattle.site.specs.Reach.{net_in}

-- row i of t as the earlier clashing rows leave it, all idle at first: n positions, by who clashes
abbrev pub marks_in : ℕ → (ℕ → ℕ → Bool) → List ℕ → ℕ → List ℕ
marks_in n clash t i = marked (net_in 0 n [] clash unblocked) t i i

-- the same of a row r that need not be idle, by the cells below j
unfoldable pub marks_on : ℕ → (ℕ → ℕ → Bool) → List ℕ → ℕ → List ℕ → ℕ → List ℕ
marks_on n clash t i r zero = r
marks_on n clash t i r (suc j) = pick (clash j i) (forbid (row_at n t j) (marks_on n clash t i r j)) (marks_on n clash t i r j)

-- row i of t, as it stands there, with the marks of the earlier rows
abbrev pub marks_here : ℕ → (ℕ → ℕ → Bool) → List ℕ → ℕ → List ℕ
marks_here n clash t i = marks_on n clash t i (part (i * n) n t) i

-- t with row i planned: "Each takes its idle positions in rising position until its load is met"
abbrev pub row_planned : ℕ → (ℕ → ℕ → Bool) → (ℕ → Bool) → ℕ → ℕ → List ℕ → List ℕ
row_planned n clash usable i load t = put (i * n) n (fill usable 0 load (marks_in n clash t i)) t

-- how many of its fragments find no room there
abbrev pub row_short : ℕ → (ℕ → ℕ → Bool) → (ℕ → Bool) → ℕ → ℕ → List ℕ → ℕ
row_short n clash usable i load t = unmet usable 0 load (marks_in n clash t i)

-- the positions that a mask leaves usable: all of them, where it has no bytes
abbrev pub opens : List ℕ → ℕ → Bool
opens mask k = eqb (get_or mask k 0) 0

-- a mask that has bytes has them for n positions: 0, or 4 where a position is barred
abbrev pub Masks : ℕ → List ℕ → Type 0
Masks n mask = 0 < length mask → (n ≤ length mask) × (take n mask ≡ bar_row (opens mask) 0 (replicate n 0))

-- each of the first i rows of t sends from its start to its end alone
abbrev pub Sending : ℕ → List ℕ → ℕ → List ℕ → List ℕ → Type 0
Sending n t i starts ends = (j : ℕ) → j < i → SendsIn n t j (get_or starts j 0) (get_or ends j 0)

-- clash rows that say the same of two cells either way
abbrev pub EitherWay : List ℕ → Type 0
EitherWay rows = (a b : ℕ) → bit_in rows a b ≡ bit_in rows b a

-- the word of the cells below i that clash with cell i, where the rows say it either way; and a word as a clash with any cell
abbrev pub near_in : List ℕ → ℕ → ℕ
near_in rows i = word_of (bit_at (get_or rows i 0)) i

abbrev pub by_word : ℕ → ℕ → ℕ → Bool
by_word word m i = bit_at word m

-- a position of one of the first i rows of t is idle exactly where neither this row sends nor an earlier one that clashes with it
abbrev pub RowsMarked : ℕ → (ℕ → ℕ → Bool) → List ℕ → ℕ → Type 0
RowsMarked n clash t i =
    (j : ℕ) → j < i → (p : ℕ) → p < n → eqb (get_or t (j * n + p) 0) 0 ≡ not (reserved n t j p || any (λ m. clash m j && reserved n t m p) j)

-- what row i is planned over: the rows before it are marked and send in their stretches, by clash rows that say the same either way
abbrev pub RowsBefore : ℕ → List ℕ → ℕ → List ℕ → List ℕ → List ℕ → Type 0
RowsBefore n t i clash starts ends = Sending n t i starts ends × (RowsMarked n (bit_in clash) t i × EitherWay clash)
