-- A text as text of a page: "`<` `>` `&` `"` and `'` become references", once every byte that is in no letter is a ?.
use Rattle.std.specs.Prelude.{ℕ, zero, suc, ◌-◌, Bool, true, false, ◌&&◌, ◌||◌, List, [], ◌∷◌, ◌++◌, eqb, length, get_or}
use Rattle.laws.specs.Choice.{pick}
use Rattle.speech.specs.Speech.{bytes}
use Rattle.lines.specs.Match.{starts}
use Rattle.escaping.specs.Letters.{letters}

-- 60 is <, 62 is >, 38 is &, 34 is ", 39 is '
unfoldable pub reference : ℕ → List ℕ
reference b =
    pick (eqb b 60) (bytes "&lt;")
    (pick (eqb b 62) (bytes "&gt;")
    (pick (eqb b 38) (bytes "&amp;")
    (pick (eqb b 34) (bytes "&quot;")
    (pick (eqb b 39) (bytes "&#39;") (b ∷ [])))))

unfoldable pub referred : List ℕ → List ℕ
referred [] = []
referred (b ∷ text) = reference b ++ referred text

abbrev pub escaped : List ℕ → List ℕ
escaped text = referred (letters 0 text)

-- ---- nothing of markup

-- whether one of the five references stands here
abbrev pub refers : List ℕ → Bool
refers text =
    starts (bytes "&lt;") text || (starts (bytes "&gt;") text || (starts (bytes "&amp;") text || (starts (bytes "&quot;") text || starts (bytes "&#39;") text)))

-- a byte that opens or ends something in a page: < > " '
abbrev pub is_markup : ℕ → Bool
is_markup b = eqb b 60 || (eqb b 62 || (eqb b 34 || eqb b 39))

-- no such byte, and each & begins a reference
unfoldable pub only_text : List ℕ → Bool
only_text [] = true
only_text (b ∷ text) = pick (is_markup b) false (pick (eqb b 38) (refers (b ∷ text)) true) && only_text text

-- ---- read back, as a browser does

-- the byte that is meant here
unfoldable pub meant : List ℕ → ℕ
meant text =
    pick (starts (bytes "&lt;") text) 60
    (pick (starts (bytes "&gt;") text) 62
    (pick (starts (bytes "&amp;") text) 38
    (pick (starts (bytes "&quot;") text) 34
    (pick (starts (bytes "&#39;") text) 39 (get_or text 0 0)))))

-- how many bytes of its reference come after the first
unfoldable pub reference_rest : List ℕ → ℕ
reference_rest text = pick (refers text) (length (reference (meant text)) - 1) 0

-- what the text says; so many bytes are left of the reference before
unfoldable pub heard : ℕ → List ℕ → List ℕ
heard left [] = []
heard (suc left) (b ∷ text) = heard left text
heard zero (b ∷ text) = meant (b ∷ text) ∷ heard (reference_rest (b ∷ text)) text
