-- What the sentence on the numbering of a site means: over its class, and over all renumberings. That it is true where it is said, and said exactly where it is
-- true, is `anew-true` and `anew-exactly`, proofs/Truth.antt.
use Rattle.std.specs.Prelude.{ℕ}
use Rattle.theory.specs.Net.{Class}
use Rattle.site.specs.Reach.{net_of}
use Rattle.site.specs.declared.Site.{Site}
use Rattle.judges.specs.Judges.{counted}
use Rattle.renumbering.specs.Renumbers.{Renumbers, renumbered, AlwaysClass}
use Rattle.phrases.specs.declared.Phrase.{Phrase}
use Rattle.phrases.specs.declared.Phrase.TheVariants.{Silent, Row}

-- it is of a site that is not nested
abbrev pub NotNested : Site → Type 0
NotNested s = Class (net_of s) (counted s) → ⊥

-- `no numbering of all its cells, idle ones too, is nested`: none whatever the loads
abbrev pub NeverNested : Site → Type 0
NeverNested s = (new old : ℕ → ℕ) → Renumbers s.cells new old → AlwaysClass (renumbered old (net_of s)) → ⊥

-- there is one row
abbrev pub AnewMeans : Site → Phrase → Type 0
AnewMeans s Silent = Unit {0}
AnewMeans s (Row k a b c d) = NotNested s × NeverNested s
