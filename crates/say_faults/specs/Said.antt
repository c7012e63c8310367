-- What `duggfrask check --all` says of a table that is not valid: "every fault of a plan, not the first alone", each in the line that `check` has for it, and
-- then how many they are. It is written piece by piece.
use Rattle.std.specs.Prelude.{ℕ, ◌+◌, ◌<◌, Bool, ◌&&◌, List, [], ◌∷◌, ◌++◌, leb, length}
use Rattle.laws.specs.Choice.{pick}
use Rattle.laws.specs.Sum.{sum, count}
use Rattle.theory.specs.Greedy.{reserved}
use Rattle.theory.specs.Verdict.{TableVerdict, barred, clash, wrong, wrong_in}
use Rattle.faults.specs.Faults.{in_turn, passed, barred_by, clash_by, faults}
use Rattle.site.specs.Record.{positions, size, fault_of, is_fine}
use Rattle.site.specs.Reach.{net_of}
use Rattle.site.specs.declared.Site.{Site}
use Rattle.checker.specs.Check.{verdict_of}
use Rattle.phrases.specs.Phrases.{phrase}
use Rattle.phrases.specs.declared.Phrase.TheVariants.{Row}
use Rattle.verdicts.specs.Said.{check_said}
use Rattle.say_faults.specs.Lines.{fault_lines, things_row}
use Rattle.say_faults.specs.declared.Piece.{Piece}
use Rattle.say_faults.specs.declared.Piece.TheVariants.{AtBlocked, Clashing, Miscounts}

-- the site has no fault, and the table has a byte for each cell and position
unfoldable pub judgeable : Site → List ℕ → Bool
judgeable s t = is_fine (fault_of s) && leb (size s) (length t)

-- the faults of a table
abbrev pub table_faults : Site → List ℕ → List TableVerdict
table_faults s t = faults (net_of s) (reserved (positions s) t)

-- the lines of a list of faults: "Lines are check's own"
unfoldable pub faults_said : Site → List TableVerdict → List ℕ
faults_said s [] = []
faults_said s (v ∷ l) = check_said s (verdict_of v) ++ faults_said s l

-- ---- a piece: those of a position that is blocked, of a position and a first cell, or the wrong counts

-- whether the piece has a fault of cell i: which is the second cell of a clash
abbrev pub shown_in : Site → List ℕ → Piece → ℕ → Bool
shown_in s t (AtBlocked k) i = barred_by (net_of s) (reserved (positions s) t) k i
shown_in s t (Clashing k a) i = clash_by (net_of s) (reserved (positions s) t) k a i
shown_in s t Miscounts i = wrong_in (net_of s) (reserved (positions s) t) i

-- and which it is
abbrev pub fault_in : Site → List ℕ → Piece → ℕ → TableVerdict
fault_in s t (AtBlocked k) i = barred k i
fault_in s t (Clashing k a) i = clash k a i
fault_in s t Miscounts i = wrong i (count (reserved (positions s) t i) (positions s))

-- the lines of a piece, of the first i cells
abbrev pub piece_said : Site → List ℕ → Piece → ℕ → List ℕ
piece_said s t piece i = faults_said s (passed (shown_in s t piece) (fault_in s t piece) i)

-- the line of the fault of cell i in a piece; nothing where it has none
abbrev pub shown_said : Site → List ℕ → Piece → ℕ → List ℕ
shown_said s t piece i = faults_said s (pick (shown_in s t piece i) (fault_in s t piece i ∷ []) [])

-- how many faults a position has: reservations where it is blocked, and clashes
abbrev pub placed_at : Site → List ℕ → ℕ → ℕ
placed_at s t k = count (shown_in s t (AtBlocked k)) s.cells + sum (λ a. count (shown_in s t (Clashing k a)) s.cells) s.cells

-- the positions and cells that a piece names are the site's
abbrev pub PieceOf : Site → Piece → Type 0
PieceOf s (AtBlocked k) = k < positions s
PieceOf s (Clashing k a) = (k < positions s) × (a < s.cells)
PieceOf s Miscounts = Unit {0}

-- ---- all of it, as the desk writes it

-- how many there are
abbrev pub things_said : Site → List ℕ → List ℕ
things_said s t = phrase fault_lines (Row things_row (length (table_faults s t)) 0 0 0)

-- 22 by position, then 6 by position and first cell, then 7, then the count
abbrev pub check_all_said : Site → List ℕ → List ℕ
check_all_said s t =
    in_turn (λ k. piece_said s t (AtBlocked k) s.cells) (positions s)
    ++ (in_turn (λ k. in_turn (λ a. piece_said s t (Clashing k a) s.cells) s.cells) (positions s)
    ++ (piece_said s t Miscounts s.cells ++ things_said s t))
