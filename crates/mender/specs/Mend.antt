-- What the mender answers, and what it leaves in the lent table and in the lent list, for any site, any table and any list.
use Rattle.std.specs.Prelude.{◌≡◌, Bool, List, ℕ, ◌+◌, ◌*◌, ◌/◌, ◌≤◌, ltb, length, replicate, Result, Ok, Err}
use Rattle.std.proofs.lemmas.List.Edits.{sets}
use Rattle.laws.specs.Choice.{pick}
use Rattle.theory.specs.Net.{Net}
use Rattle.theory.specs.Greedy.{reserved, Outcome, planned, no_room}
use Rattle.site.specs.Record.{positions, size, fault_of, is_fine, answer_with}
use Rattle.site.specs.Reach.{net_of}
use Rattle.site.specs.declared.Site.{Site}
use Rattle.mending.specs.Mend.{mend, overlay}
use Rattle.mending.specs.Changes.{changes}
use Rattle.standing.specs.Sets.{Says}
use Rattle.standing.specs.Stand.{number_of}
use Rattle.mender.specs.declared.MendError.{MendError}
use Rattle.mender.specs.declared.MendError.TheVariants.{TableShort, NoRoom, ListShort, Record}

-- u is the table to be mended, as it is lent, and t what stands
module _ (s : Net) (u : List ℕ) where
  -- what the changes are; how many there are is `number_of` of crate `standing`
  abbrev pub listed_changes : List ℕ → List ℕ
  listed_changes t = changes (reserved s.width t) (reserved s.width u) s.width s.cells

-- "13 with the number of changes if the list is too short": a change takes four numbers
abbrev pub too_short : List ℕ → ℕ → Bool
too_short l number = ltb (length l) (4 * number)

-- what a list with no room for so many changes leaves, and what one with room does
abbrev pub if_room : {A : Type 0} → List ℕ → ℕ → (short done : A) → A
if_room l number short done = pick (too_short l number) short done

-- and l the list, as it is lent
module _ (s : Net) (u l : List ℕ) where
  -- "then 5, then 13 with the number of changes"; and 0 says how many changes there are
  abbrev pub mend_answer_of : Outcome → Result ℕ MendError
  mend_answer_of (planned t) = if_room l (number_of s u t) (Err (ListShort (number_of s u t))) (Ok (number_of s u t))
  mend_answer_of (no_room c m) = Err (NoRoom (c + 1) m)

  -- the table is mended where it stands; "all, 5 too, leave table and list untouched"
  abbrev pub table_after : Outcome → List ℕ
  table_after (planned t) = if_room l (number_of s u t) u (overlay t u)
  table_after (no_room c m) = u

  -- "Entries past the last change stay."
  abbrev pub list_after : Outcome → List ℕ
  list_after (planned t) = if_room l (number_of s u t) l (sets l 0 (listed_changes s u t))
  list_after (no_room c m) = l

-- a list with room for so many changes: four numbers each
abbrev pub room_of : ℕ → List ℕ
room_of number = replicate (4 * number) 0

-- what a call leaves, by what it comes to once record and table are good
abbrev pub called : {A : Type 0} → Site → List ℕ → (refused short done : A) → A
called s u refused short done = pick (is_fine (fault_of s)) (pick (ltb (length u) (size s)) short done) refused

-- "Refusals: 1 to 4, then 5, then 13"
unfoldable pub mend_answer : Site → List ℕ → List ℕ → Result ℕ MendError
mend_answer s u l =
    answer_with Record (fault_of s) (pick (ltb (length u) (size s)) (Err TableShort) (mend_answer_of (net_of s) u l (mend (net_of s) u)))

unfoldable pub mend_table : Site → List ℕ → List ℕ → List ℕ
mend_table s u l = called s u u u (table_after (net_of s) u l (mend (net_of s) u))

unfoldable pub mend_list : Site → List ℕ → List ℕ → List ℕ
mend_list s u l = called s u l l (list_after (net_of s) u l (mend (net_of s) u))

-- a list with room for a change at every byte of the site's table
abbrev pub list_room : Site → List ℕ
list_room s = room_of (size s)

-- how many words of 64 the positions take
abbrev pub words_for : ℕ → ℕ
words_for n = (n + 63) / 64

-- room for the sets of a good site's cells
abbrev pub SetRoom : Site → ℕ → Type 0
SetRoom s words = fault_of s ≡ Ok tt → s.cells * words_for (positions s) ≤ words

-- room for the changes of one row of a good site
abbrev pub RowRoom : Site → ℕ → Type 0
RowRoom s numbers = fault_of s ≡ Ok tt → 4 * (64 * words_for (positions s)) ≤ numbers

-- an answer for such a list, and where it is done the sets say what stands and what stood
pub record MendStands (answer : Result ℕ MendError) (s : Site) (u stands old : List ℕ) : Type 0 where
  pub answers : answer ≡ mend_answer s u (list_room s)
  pub says : (number : ℕ) → answer ≡ Ok number → (t : List ℕ) → mend (net_of s) u ≡ planned t
      → Says s.cells (positions s) (words_for (positions s)) t u stands old
