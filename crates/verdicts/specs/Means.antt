-- What the sentences of a clash and of a blocked position say, apart from their text: who reaches whom by the record, and who sends in that slot and channel.
use Rattle.std.specs.Prelude.{ℕ, ◌+◌, ◌-◌, ◌*◌, ◌<◌, true, false, List, ◌⊎◌, ◌≡◌}
use Rattle.theory.specs.Greedy.{reserved}
use Rattle.site.specs.Record.{positions}
use Rattle.site.specs.Reach.{is_open}
use Rattle.site.specs.Means.{UpTo, Reaches, Third}
use Rattle.site.specs.declared.Site.{Site}
use Rattle.verdicts.specs.Said.{clash_forth_line, clash_back_line, clash_both_line, clash_third_line}

-- a reaches c and not the other way round, and the text says so; or c reaches a; or each reaches the other; or neither does, and under rule 2 some third cell
-- is reached by both
abbrev pub WaySaid : Site → (a c slot channel : ℕ) → List ℕ → Type 0
WaySaid s a c slot channel text =
    (Reaches s a c × (Reaches s c a → ⊥) × (text ≡ clash_forth_line a c slot channel))
    ⊎ ((Reaches s a c → ⊥) × Reaches s c a × (text ≡ clash_back_line a c slot channel))
    ⊎ (Reaches s a c × Reaches s c a × (text ≡ clash_both_line a c slot channel))
    ⊎ ((Reaches s a c → ⊥) × (Reaches s c a → ⊥) × (s.rule ≡ 2) × ((k : ℕ) × Third s a c k) × (text ≡ clash_third_line a c slot channel))

-- "Slot t and channel f (from 1) have position (t-1)F + (f-1)": a slot and a channel of the site, and their position p
pub record SlotAt (s : Site) (p slot channel : ℕ) : Type 0 where
  pub slot_in : UpTo s.slots slot
  pub channel_in : UpTo s.channels channel
  pub place : p ≡ (slot - 1) * s.channels + (channel - 1)

-- `both send in slot .., channel ..`: two cells of the site, the lower number first, at the position of that slot and channel
pub record BothSend (s : Site) (t : List ℕ) (p a c slot channel : ℕ) : Type 0 where
  pub rising : a < c
  pub first_in_holds : UpTo s.cells a
  pub second_in_holds : UpTo s.cells c
  pub at : SlotAt s p slot channel
  pub one : reserved (positions s) t (a - 1) p ≡ true
  pub other : reserved (positions s) t (c - 1) p ≡ true

-- `sends in slot .., channel .., which is blocked`: a cell of the site, at the position of that slot and channel
pub record SendsBlocked (s : Site) (t : List ℕ) (p cell slot channel : ℕ) : Type 0 where
  pub cell_in : UpTo s.cells cell
  pub at : SlotAt s p slot channel
  pub sends : reserved (positions s) t (cell - 1) p ≡ true
  pub blocked : is_open s.blocked p ≡ false
