-- What a line `2 and 5 clash: both reach 4` says, apart from its text: by the cells' numbers, over the bits of the record.
use Rattle.std.specs.Prelude.{ℕ, ◌≤◌, ◌<◌, ◌≡◌}
use Rattle.site.specs.Means.{Reaches, Third, Clashing}
use Rattle.site.specs.declared.Site.{Site}
use Rattle.phrases.specs.declared.Phrase.{Phrase}
use Rattle.phrases.specs.declared.Phrase.TheVariants.{Silent, Row}
use Rattle.say_rule.specs.Lines.{third_row}

-- the cells a and b clash under rule 2, neither reaches the other, and c is the lowest third cell that both reach
pub record ByThird (s : Site) (a b c : ℕ) : Type 0 where
  pub ruled : s.rule ≡ 2
  pub rising : a < b
  pub clash : Clashing s a b
  pub not_forth : Reaches s a b → ⊥
  pub not_back : Reaches s b a → ⊥
  pub third : Third s a b c
  pub lowest : (k : ℕ) → Third s a b k → c ≤ k

-- a line says that, and silence nothing
abbrev pub LineTrue : Site → Phrase → Type 0
LineTrue s Silent = Unit {0}
LineTrue s (Row row a b c d) = (row ≡ third_row) × ByThird s a b c
