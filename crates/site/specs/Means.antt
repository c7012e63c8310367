-- What the definitions of this crate mean, said a second time: over bare numbers and bits, with cells and rows numbered from 1 where the document numbers them.
-- proofs/ shows that each definition says this and nothing else.
use Rattle.std.specs.Prelude.{ℕ, ◌-◌, ◌*◌, ◌/◌, ◌%◌, ◌^◌, ◌≤◌, ◌<◌, Bool, ◌&&◌, ◌⊎◌, ◌≡◌, eqb, get_or, true, false, Result, Ok, Err}
use Rattle.laws.specs.Choice.{pick}
use Rattle.site.specs.Record.{load_at, fault_of}
use Rattle.site.specs.Reach.{reaches}
use Rattle.site.specs.declared.Site.{Site}
use Rattle.site.specs.declared.Fault.{Fault}
use Rattle.site.specs.declared.Fault.TheVariants.{Size, Rule, Load, Reach, Blocked}

-- from 1 to the most
abbrev pub UpTo : ℕ → ℕ → Type 0
UpTo most x = (1 ≤ x) × (x ≤ most)

-- bit b-1 of row a-1: cell a reaches cell b
abbrev pub Reaches : Site → ℕ → ℕ → Type 0
Reaches s a b = get_or s.reach (a - 1) 0 / 2 ^ (b - 1) % 2 ≡ 1

-- ---- the faults of a record

-- cells 1 to 32, slots 1 to 128, channels 1 to 16
pub record Sizes (i t f : ℕ) : Type 0 where
  pub cells_some : 1 ≤ i
  pub cells_most : i ≤ 32
  pub slots_some : 1 ≤ t
  pub slots_most : t ≤ 128
  pub channels_some : 1 ≤ f
  pub channels_most : f ≤ 16

abbrev pub Sized : Site → Type 0
Sized s = Sizes s.cells s.slots s.channels

-- W11: rule 1 or rule 2
abbrev pub Ruled : Site → Type 0
Ruled s = (s.rule ≡ 1) ⊎ (s.rule ≡ 2)

-- "load set beyond cell I": of this cell
abbrev pub LoadBeyond : Site → ℕ → Type 0
LoadBeyond s cell = (s.cells < cell) × (cell ≤ 32) × (1 ≤ get_or s.loads (cell - 1) 0)

-- a row with no "reach row or bit beyond I, or to itself"
pub record RowGood (s : Site) (row : ℕ) : Type 0 where
  pub used : s.cells < row → get_or s.reach (row - 1) 0 ≡ 0
  pub within : (b : ℕ) → s.cells < b → Reaches s row b → ⊥
  pub others : Reaches s row row → ⊥

-- W8: "blocked bit at or past FT": of this position, "bit k % 64 of word k / 64"
abbrev pub BlockedBeyond : Site → ℕ → Type 0
BlockedBeyond s k = (s.slots * s.channels ≤ k) × (k < 2048) × (get_or s.blocked (k / 64) 0 / 2 ^ (k % 64) % 2 ≡ 1)

-- which fault is a record's: 1, then 24, then 2 with the "lowest such cell", then 3 with the "lowest row", then 20 with the lowest position
abbrev pub FaultMeans : Site → Result Unit Fault → Type 0
FaultMeans s (Err Size) = Sized s → ⊥
FaultMeans s (Err Rule) = Sized s × (Ruled s → ⊥)
FaultMeans s (Err (Load cell)) = Sized s × Ruled s × LoadBeyond s cell × ((k : ℕ) → k < cell → LoadBeyond s k → ⊥)
FaultMeans s (Err (Reach row)) =
    Sized s × Ruled s × ((k : ℕ) → LoadBeyond s k → ⊥) × UpTo 32 row × (RowGood s row → ⊥) × ((k : ℕ) → 1 ≤ k → k < row → RowGood s k)
FaultMeans s (Err (Blocked k)) =
    Sized s × Ruled s × ((j : ℕ) → LoadBeyond s j → ⊥) × ((j : ℕ) → UpTo 32 j → RowGood s j)
    × BlockedBeyond s k × ((j : ℕ) → j < k → BlockedBeyond s j → ⊥)
FaultMeans s (Ok u) =
    Sized s × Ruled s × ((k : ℕ) → LoadBeyond s k → ⊥) × ((k : ℕ) → UpTo 32 k → RowGood s k) × ((k : ℕ) → BlockedBeyond s k → ⊥)

-- ---- clash

-- W11: "some third cell is reached by both": this cell of the site, which is neither of the two
pub record Third (s : Site) (a b c : ℕ) : Type 0 where
  pub inside : UpTo s.cells c
  pub not_first : c ≡ a → ⊥
  pub not_second : c ≡ b → ⊥
  pub by_first : Reaches s a c
  pub by_second : Reaches s b c

-- "Two different cells clash when either reaches the other": cells of the site. W11: under rule 2 "also when some third cell is reached by both"
pub record Clashing (s : Site) (a b : ℕ) : Type 0 where
  pub first_in_holds : UpTo s.cells a
  pub second_in_holds : UpTo s.cells b
  pub two : a ≡ b → ⊥
  pub why : Reaches s a b ⊎ (Reaches s b a ⊎ ((s.rule ≡ 2) × ((c : ℕ) × Third s a b c)))

-- which answer is the clash call's; a record's fault is passed on
abbrev pub ClashMeans : Site → ℕ → ℕ → Result Bool Fault → Type 0
ClashMeans s a b (Ok true) = (fault_of s ≡ Ok tt) × Clashing s a b
ClashMeans s a b (Ok false) = (fault_of s ≡ Ok tt) × (Clashing s a b → ⊥)
ClashMeans s a b (Err f) = fault_of s ≡ Err f

-- ---- edits

-- "record 1, 2, 3, then an edit's own 2 or 3", with 24 and 20 of the record: the answer f of an edit that may be done where Named holds, with its own refusal
pub record EditMeans (s : Site) (Named : Type 0) (own : Fault) (f : Result Unit Fault) : Type 0 where
  pub faulty : (fault_of s ≡ Ok tt → ⊥) → f ≡ fault_of s
  pub done : fault_of s ≡ Ok tt → Named → f ≡ Ok tt
  pub refused : fault_of s ≡ Ok tt → (Named → ⊥) → f ≡ Err own

-- two different cells of the site
abbrev pub Two : Site → ℕ → ℕ → Type 0
Two s from to = UpTo s.cells from × UpTo s.cells to × (from ≡ to → ⊥)

-- a load edit: that load, and nothing else
pub record LoadChanged (s t : Site) (cell v : ℕ) : Type 0 where
  pub loads : (k : ℕ) → load_at t k ≡ pick (eqb k (cell - 1)) v (load_at s k)
  pub reach : t.reach ≡ s.reach
  pub cells : t.cells ≡ s.cells
  pub slots : t.slots ≡ s.slots
  pub channels : t.channels ≡ s.channels
  pub blocked : t.blocked ≡ s.blocked
  pub rule : t.rule ≡ s.rule

-- a reach edit: that reach, to `now`, and nothing else
pub record ReachChanged (s t : Site) (from to : ℕ) (now : Bool) : Type 0 where
  pub reach : (a b : ℕ) → reaches t.reach a b ≡ pick (eqb a (from - 1) && eqb b (to - 1)) now (reaches s.reach a b)
  pub loads : t.loads ≡ s.loads
  pub cells : t.cells ≡ s.cells
  pub slots : t.slots ≡ s.slots
  pub channels : t.channels ≡ s.channels
  pub blocked : t.blocked ≡ s.blocked
  pub rule : t.rule ≡ s.rule
