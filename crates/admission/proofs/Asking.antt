-- What is known of one flow: whether it is refused, from its cell and its share; and that a share fits 16 bits.
-- Assumes nothing.
use Prim.Native.Nat.{ℕ, ◌≤◌}
use mathlib.Core.Bool.{Bool, true, false, not, ◌&&◌, and-false}
use mathlib.Core.Path.{◌≡◌, refl, sym}
use Rattle.std.specs.Prelude.{Ok, is_ok}
use Rattle.site.proofs.Faults.{up-to}
use Rattle.laws.proofs.Search.{found, missed, ended}
use Rattle.laws.proofs.Stores.{sets-none, sets_more}
use Rattle.site.specs.Record.{up_to}
use Rattle.shares.specs.declared.Fragments.{Fragments}
use Rattle.shares.specs.declared.Slots.{Slots}
use Rattle.shares.proofs.Repeating.{done-means}
use Rattle.flowlist.specs.declared.Flow.{Flow}
use Rattle.admission.specs.Admit.{share_in, bad_in}

module _ (cells slots : ℕ) (f : Flow) where
  pub bad-cell : up_to cells f.cell ≡ false → bad_in cells slots f ≡ true
  unfolding bad_in
  bad-cell h = simp h

  pub bad-share : is_ok (share_in slots f) ≡ false → bad_in cells slots f ≡ true
  unfolding bad_in
  bad-share h = simp (h, and-false)

  pub good : up_to cells f.cell ≡ true → is_ok (share_in slots f) ≡ true → bad_in cells slots f ≡ false
  unfolding bad_in
  good h g = simp (h, g)

  -- a flow that is not refused is in a cell of the site
  pub good-cell : bad_in cells slots f ≡ false → up_to cells f.cell ≡ true
  unfolding bad_in
  good-cell e = split (up_to cells f.cell) (is_ok (share_in slots f)) e
    where
      split : (a b : Bool) → not (a && b) ≡ false → a ≡ true
      split true b h = refl
      split false b h = sym h

-- what a search asks that stores a value for each place it looks at
pub ruleset searched = (found, missed, ended, sets-none, sets_more)

-- a cell that is named is 1 or above
pub cell_some : (cells cell : ℕ) → up_to cells cell ≡ true → 1 ≤ cell
cell_some cells cell e = (up-to cells cell e).0

-- "share above 65,535" is refused
pub share-most : (slots : ℕ) (f : Flow) (a : Fragments × Fragments × Slots) → share_in slots f ≡ Ok a → a.0.0 ≤ 65535
share-most slots f a e = (done-means slots f.burst f.period f.repeats a.0 a.1 a.2 e).1.most

pub ruleset one_flow = (cell_some, share-most)
