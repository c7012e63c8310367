-- The text of phrases in a row: of two lists, and of a cell more, as the loop counts; and the room that the line of a cell takes. Assumes nothing.
use Prim.Native.Nat.{ℕ, ◌+◌, ◌≤◌}
use mathlib.Core.Path.{◌≡◌, refl, sym, ap, ◌∙◌}
use mathlib.Core.Logic.{⊎_elim}
use native.Mathlib.Omega.{arith}
use mathlib.Core.Bool.{Bool, true, false}
use mathlib.Core.List.{List, [], ◌∷◌, ◌++◌, append_assoc, append-nil}
use native.Mathlib.Numerals.{add-one}
use lib.ListN.{length, get_or}
use Rattle.laws.specs.Bits.{bit_at}
use Rattle.laws.specs.Choice.{pick}
use Rattle.laws.proofs.Choice.{cases}
use Rattle.speech.specs.Speech.{bytes}
use Rattle.phrases.specs.Phrases.{phrase, row_named, text_of, row_in, part_in}
use Rattle.phrases.specs.declared.Phrase.{Phrase}
use Rattle.phrases.proofs.Table.{row_is}
use Rattle.why.specs.Lines.{why_lines, cell_row}
use Rattle.why.specs.Said.{cell_phrase, cell_phrases, texts}

pub texts-both : (ps qs : List Phrase) → texts (ps ++ qs) ≡ texts ps ++ texts qs
texts-both [] qs = refl
texts-both (p ∷ ps) qs = ap (λ (l : List ℕ). phrase why_lines p ++ l) (texts-both ps qs) ∙ sym (append_assoc (phrase why_lines p) (texts ps) (texts qs))

pub cells-more : (loads : List ℕ) (set j : ℕ)
    → texts (cell_phrases loads set (j + 1)) ≡ texts (cell_phrases loads set j) ++ phrase why_lines (cell_phrase set (get_or loads j 0) j)
unfolding cell_phrases
cells-more loads set j =
    rw (add-one j) (texts-both (cell_phrases loads set j) (cell_phrase set (get_or loads j 0) j ∷ [])
    ∙ ap (λ (l : List ℕ). texts (cell_phrases loads set j) ++ l) (append-nil (phrase why_lines (cell_phrase set (get_or loads j 0) j))))

-- the row of a cell has 19 bytes
cell_row-law : row_in (text_of why_lines) cell_row ≡ bytes (row_named why_lines cell_row)
unfolding why_lines
cell_row-law = row_is why_lines refl cell_row

cell-long : length (bytes (row_named why_lines cell_row)) ≡ 19
unfolding why_lines
cell-long = refl

pub cell_room : (set load j : ℕ) → length (part_in (text_of why_lines) (cell_phrase set load j)) ≤ 20
unfolding cell_phrase
cell_room set load j = ⊎_elim (λ e. rw e (omega (arith, ap length cell_row-law, cell-long))) (λ e. rw e (omega arith)) (cases (bit_at set j))

-- the verdicts, the clash, and what comes last: the sizes z, or a line
pub said-parts : (v c z : List Phrase) (line : List ℕ) (b : Bool)
    → texts (v ++ (c ++ pick b [] z)) ++ pick b line [] ≡ texts v ++ (texts c ++ pick b line (texts z))
said-parts v c z line true =
    ap (λ (l : List ℕ). l ++ line) (texts-both v (c ++ []) ∙ ap (λ (ps : List Phrase). texts v ++ texts ps) (append-nil c))
    ∙ append_assoc (texts v) (texts c) line
said-parts v c z line false =
    append-nil (texts (v ++ (c ++ z))) ∙ texts-both v (c ++ z) ∙ ap (λ (l : List ℕ). texts v ++ l) (texts-both c z)
