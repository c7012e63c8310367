-- What a line of a clash says, apart from its text: by the cells' numbers, over the bits of the record.
use Rattle.std.specs.Prelude.{ℕ, ◌≤◌, ◌⊎◌, ◌≡◌}
use Rattle.site.specs.Means.{Reaches, Third, Clashing}
use Rattle.site.specs.declared.Site.{Site}
use Rattle.phrases.specs.declared.Phrase.{Phrase}
use Rattle.phrases.specs.declared.Phrase.TheVariants.{Silent, Row}
use Rattle.say_clashes.specs.Lines.{forth_row, back_row, each_row, third_alone_row, forth_third_row, back_third_row, each_third_row}

-- "who reaches whom": a reaches b and not the other way round, and the row is the first; or b reaches a, and it is the second; or each reaches the other
abbrev pub WayTold : Site → (forth back each row a b : ℕ) → Type 0
WayTold s forth back each row a b =
    (Reaches s a b × (Reaches s b a → ⊥) × (row ≡ forth))
    ⊎ ((Reaches s a b → ⊥) × Reaches s b a × (row ≡ back))
    ⊎ (Reaches s a b × Reaches s b a × (row ≡ each))

-- "under rule 2, by which third cell": c is the lowest that both reach
pub record LowestThird (s : Site) (a b c : ℕ) : Type 0 where
  pub ruled : s.rule ≡ 2
  pub third : Third s a b c
  pub lowest : (k : ℕ) → Third s a b k → c ≤ k

-- a row with a third cell: who reaches whom, or that neither reaches the other
abbrev pub ThirdTold : Site → (row a b c : ℕ) → Type 0
ThirdTold s row a b c =
    LowestThird s a b c
    × (WayTold s forth_third_row back_third_row each_third_row row a b ⊎ ((Reaches s a b → ⊥) × (Reaches s b a → ⊥) × (row ≡ third_alone_row)))

-- a row without one: who reaches whom, and under rule 2 there is no third cell that both reach
abbrev pub PlainTold : Site → (row a b : ℕ) → Type 0
PlainTold s row a b = WayTold s forth_row back_row each_row row a b × (s.rule ≡ 2 → (k : ℕ) → Third s a b k → ⊥)

-- a line of the cells a and b names them, they clash, and the rest of it is so; and where nothing is said they do not clash
abbrev pub ClashTold : Site → (a b : ℕ) → Phrase → Type 0
ClashTold s a b Silent = Clashing s a b → ⊥
ClashTold s a b (Row row x y c d) = (x ≡ a) × (y ≡ b) × Clashing s a b × (ThirdTold s row a b c ⊎ PlainTold s row a b)
