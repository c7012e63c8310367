-- A list with room for every change: there are at most as many changes as bytes, so that no call is refused for such a list, and each gives the same.
-- Assumes nothing.
use mathlib.Core.Path.{◌≡◌, refl, ap}
use mathlib.Core.List.{List}
use Prim.Native.Nat.{ℕ, ◌*◌, ◌≤◌}
use native.Mathlib.Omega.{arith}
use borrow.Author.Tests.{le-ltb}
use lib.Dec.{ltb}
use lib.ListN.{length, length-replicate}
use Rattle.theory.specs.Greedy.{reserved, Outcome, planned, no_room}
use Rattle.std.specs.Prelude.{Result, Err}
use Rattle.laws.specs.Choice.{pick}
use Rattle.site.specs.Record.{positions, size, fault_of, answer_with}
use Rattle.site.specs.Reach.{net_of}
use Rattle.site.specs.declared.Site.{Site}
use Rattle.mending.specs.Mend.{mend}
use Rattle.mending.proofs.Changes.{few-changes}
use Rattle.standing.specs.Stand.{number_of}
use Rattle.mender.specs.Mend.{mend_answer_of, table_after, called, mend_answer, mend_table, room_of, list_room}
use Rattle.mender.specs.declared.MendError.{MendError}
use Rattle.mender.specs.declared.MendError.TheVariants.{TableShort, ListShort, Record}
use Rattle.mender.proofs.Meaning.{list-means}

-- four numbers a change
room_of-law : (number : ℕ) → length (room_of number) ≡ 4 * number
room_of-law number = length-replicate _ 0

module _ (s : Site) (u : List ℕ) where
  pub room_for : (t : List ℕ) → 4 * number_of (net_of s) u t ≤ length (list_room s)
  room_for t = omega (arith, room_of-law (size s), few-changes (reserved (positions s) t) (reserved (positions s) u) (positions s) s.cells)

  -- no call is refused for such a list
  pub never-short : (n : ℕ) → mend_answer s u (list_room s) ≡ Err (ListShort n) → ⊥
  never-short n e = let w = (list-means s u (list_room s) n e).2 in omega (arith, room_for w.0, w.1.1, w.1.2)

  -- and any list with as much room gives the same
  any-by : (l : List ℕ) → 4 * size s ≤ length l → (o : Outcome)
      → (mend_answer_of (net_of s) u (list_room s) o ≡ mend_answer_of (net_of s) u l o) ×
      (table_after (net_of s) u (list_room s) o ≡ table_after (net_of s) u l o)
  any-by l h (planned t) =
      let number = number_of (net_of s) u t in
      rw (le-ltb (length (list_room s)) (4 * number) (room_for t), le-ltb (length l) (4 * number) (omega (arith, room_for t, room_of-law (size s))))
      (refl, refl)
  any-by l h (no_room c m) = (refl, refl)

  pub any-room : (l : List ℕ) → 4 * size s ≤ length l → (mend_answer s u (list_room s) ≡ mend_answer s u l) × (mend_table s u (list_room s) ≡ mend_table s u l)
  unfolding mend_answer mend_table
  any-room l h =
      let same = any-by l h (mend (net_of s) u) in (
        ap (λ (a : Result ℕ MendError). answer_with Record (fault_of s) (pick (ltb (length u) (size s)) (Err TableShort) a)) same.0,
        ap (λ (t : List ℕ). called s u u u t) same.1,
      )
