-- What a table that can be judged has at a position, and that what the code finds there is the place. Assumes nothing.
--     ready-size  every row is there
--     place_is    the clashes of a position are those of its word
use Prim.Native.Nat.{ℕ, ◌≤◌}
use mathlib.Core.Path.{◌≡◌, sym, ap, ◌∙◌}
use mathlib.Core.Bool.{Bool, true}
use mathlib.Core.List.{List}
use lib.Dec.{leb, ltb}
use lib.ListN.{length}
use borrow.Author.Tests.{leb-true}
use Rattle.laws.specs.Bits.{bit_in}
use Rattle.laws.proofs.Choice.{both}
use Rattle.theory.specs.Greedy.{reserved}
use Rattle.positions.specs.Blocked.{blocked_at}
use Rattle.site.specs.Record.{positions, size, fault_of, is_fine}
use Rattle.site.specs.Reach.{net_of, clash_of}
use Rattle.site.specs.declared.Site.{Site}
use Rattle.words.specs.Words.{word_at}
use Rattle.words.specs.Clashes.{first_in}
use Rattle.words.proofs.Clashes.{first_word}
use Rattle.say_faults.specs.Said.{judgeable}
use Rattle.places.specs.Places.{place_of}
use Rattle.places.specs.declared.PlaceShown.{PlaceShown}

pub ready-size : (s : Site) (t : List ℕ) → judgeable s t ≡ true → size s ≤ length t
unfolding judgeable
ready-size s t ok = leb-true (size s) (length t) (both (is_fine (fault_of s)) (leb (size s) (length t)) ok).1

module _ (s : Site) (t rows : List ℕ) (k : ℕ) (states : bit_in rows ≡ clash_of s) where
  pub place_is : {w f : ℕ} {b : Bool} → w ≡ word_at s.cells (reserved (positions s) t) k → f ≡ first_in w rows s.cells → b ≡ blocked_at s.blocked k
      → ◌≡◌ {A = PlaceShown} (record { cells = w; clash = ltb f s.cells; blocked = b }) (place_of s t k)
  place_is {w} {f} {b} e g q =
      let m : f ≡ _ = g ∙ ap (λ x. first_in x rows s.cells) e ∙ first_word (net_of s) rows (sym states) (reserved (positions s) t) k in
      rw (e, m, q)
