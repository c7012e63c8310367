-- The line of what is blocked: its list, typed again, gives the blocked positions, by the round trip of crate `putblocks`; and where nothing is blocked
-- there is no such line. Assumes nothing.
use mathlib.Core.Path.{◌≡◌, refl}
use mathlib.Core.Bool.{true}
use mathlib.Core.List.{List, ◌++◌, append-nil}
use mathlib.Core.Logic.{⊎_elim}
use Prim.Native.Nat.{ℕ, ◌<◌}
use native.Mathlib.Omega.{arith}
use borrow.Author.Tests.{lt-ltb, le-ltb, le-leb}
use Rattle.laws.proofs.Choice.{cases}
use Rattle.laws.proofs.Search.{first-none}
use Rattle.positions.specs.Blocked.{most_positions, blocked_at, first_past, any_in}
use Rattle.positions.proofs.Room.{all-open}
use Rattle.site.specs.Record.{positions, fault_of}
use Rattle.site.specs.Held.{Held}
use Rattle.site.specs.declared.Site.{Site}
use Rattle.std.specs.Prelude.{Ok}
use Rattle.site.proofs.Accepted.{fine-sound}
use Rattle.site.proofs.Faults.{fine-sized, few-positions}
use Rattle.heaviest.proofs.Meaning.{done-fine}
use Rattle.blocklist.specs.Read.{sizes_fit}
use Rattle.putblocks.proofs.Back.{list-whole}
use Rattle.why.specs.Said.{open_of, some_blocked, why_phrases, texts, blocked_list, list_line, why_said}
use Rattle.why.specs.Means.{AllOpen, Lists}

module _ (s : Site) (fine : fault_of s ≡ Ok tt) where
  fits : sizes_fit s.slots s.channels ≡ true
  unfolding sizes_fit
  fits =
      let z = fine-sized s fine in
      rw (
        le-leb 1 s.slots z.slots_some,
        le-leb s.slots 128 z.slots_most,
        le-leb 1 s.channels z.channels_some,
        le-leb s.channels 16 z.channels_most,
      ) refl

  none-extra : first_past s.blocked (positions s) ≡ most_positions
  none-extra =
      first-none (blocked_at s.blocked) (positions s) most_positions (few-positions (fine-sized s fine)) (fine-sound s fine).none_past

  -- fewer are open than there are: something is blocked
  so : open_of s < positions s → some_blocked s ≡ true
  so h = lt-ltb (open_of s) (positions s) h

  -- a position of the site is
  some_in-law : open_of s < positions s → any_in s.blocked (positions s) ≡ true
  some_in-law h = ⊎_elim (λ e. e) (λ e. absurd (omega (arith, all-open s.blocked (positions s) e))) (cases (any_in s.blocked (positions s)))

  -- where something is blocked the text ends with a line that lists it, and the list means just what is blocked
  pub blocked-true : Held s → (t : List ℕ) → open_of s < positions s → (why_said s t ≡ texts (why_phrases s t) ++ list_line s) × Lists s (blocked_list s)
  unfolding why_said
  blocked-true held t h = (
    rw (done-fine s fine, so h),
    list-whole s.blocked s.slots s.channels fits (some_in-law h) none-extra held.blocked held.blocked_bits,
  )

  -- where nothing is, there is no such line
  pub unblocked-said : (t : List ℕ) → AllOpen s → why_said s t ≡ texts (why_phrases s t)
  unfolding why_said
  unblocked-said t free = rw (done-fine s fine, le-ltb (open_of s) (positions s) (omega (arith, free)), append-nil (texts (why_phrases s t)))
