-- How a call ends. Where every cell stands, the sets are those of what stands and of what stood, so that the changes that are written are the rule's.
-- And the ways out of the call, each with its answer, its table and its list. Assumes nothing.
use mathlib.Core.Path.{◌≡◌, refl, sym, ap, ap₂, ◌∙◌}
use mathlib.Core.Bool.{Bool}
use mathlib.Core.List.{List}
use Prim.Native.Nat.{ℕ, ◌+◌, ◌-◌, ◌*◌, ◌≤◌, ◌<◌}
use native.Mathlib.Omega.{arith}
use borrow.Author.Tests.{lt-ltb, le-ltb}
use lib.ListN.{length}
use Rattle.laws.specs.Bits.{bit_in}
use Rattle.theory.specs.Net.{Net, Reserved}
use Rattle.theory.specs.Greedy.{reserved, Outcome, planned, no_room}
use Rattle.std.specs.Prelude.{Ok, Err}
use Rattle.site.specs.Record.{size, fault_of}
use Rattle.site.specs.Reach.{clash_of, net_of}
use Rattle.site.proofs.Reach.{clash-sym}
use Rattle.site.specs.declared.Site.{Site}
use Rattle.site.specs.declared.Fault.{Fault}
use Rattle.mending.specs.Mend.{mend, overlay}
use Rattle.mending.specs.Changes.{differ, changes, follow}
use Rattle.mending.proofs.Changes.{changes-length, changes-cong}
use Rattle.mending.proofs.Mended.{mended-follows}
use Rattle.standing.specs.Stand.{number_of, stood_of}
use Rattle.standing.specs.Sets.{stands_in, TwoWay, Says}
use Rattle.standing.specs.declared.Short.{Short}
use Rattle.mender.specs.Mend.{listed_changes, mend_answer_of, table_after, list_after, mend_answer, mend_table, mend_list}
use Rattle.changelist.specs.Sets.{all_count, listed_in, table_with, AllWithin}
use Rattle.changelist.proofs.Lists.{changes-within}
use Rattle.mender.specs.declared.MendError.TheVariants.{TableShort, NoRoom, Record}

-- ---- what stands, by the answer of the cells' turns

pub record Whole (s : Net) (u : List ℕ) (number : ℕ) : Type 0 where
  pub table : List ℕ
  pub mends : mend s u ≡ planned table
  pub all : number ≡ number_of s u table

pub record Lacking (s : Net) (u : List ℕ) (cell short : ℕ) : Type 0 where
  pub index : ℕ
  pub mends : mend s u ≡ no_room index short
  pub named : cell ≡ index + 1

module _ (s : Net) (u : List ℕ) where
  whole-at : (o : Outcome) (m : ℕ) → mend s u ≡ o → Ok m ≡ stood_of s u o → Whole s u m
  whole-at (planned t) m e h = record { table = t; mends = e; all = cc }
  whole-at (no_room c l) m e h = let z : ◌≡◌ {A = ℕ} 0 1 = cc in absurd (omega arith)

  pub whole-of : (m : ℕ) → Ok m ≡ stood_of s u (mend s u) → Whole s u m
  whole-of m = whole-at (mend s u) m refl

  lacking-at : (o : Outcome) (r : Short) → mend s u ≡ o → Err r ≡ stood_of s u o → Lacking s u r.0 r.1
  lacking-at (planned t) r e h = let z : ◌≡◌ {A = ℕ} 0 1 = cc in absurd (omega arith)
  lacking-at (no_room i l) r e h =
      let q : r ≡ record { 0 = i + 1; 1 = l } = cc in
      record { index = i; mends = e ∙ ap (λ (x : Short). no_room i x.1) (sym q); named = ap (λ (x : Short). x.0) q }

  pub lacking : (r : Short) → Err r ≡ stood_of s u (mend s u) → Lacking s u r.0 r.1
  lacking r = lacking-at (mend s u) r refl

-- ---- a cell that finds no room

module _ (s : Net) (u l : List ℕ) (cell short : ℕ) (lack : Lacking s u cell short) where
  pub no_room-law : Err (NoRoom cell short) ≡ mend_answer_of s u l (mend s u)
  no_room-law = ap (λ c. Err (NoRoom c short)) lack.named ∙ sym (ap (mend_answer_of s u l) lack.mends)

-- ---- every cell stands

module _ (s : Net) (w : ℕ) (u stands old : List ℕ) (number : ℕ) (wide : s.width ≤ 64 * w) (all : Whole s u number)
    (says : Says s.cells s.width w all.table u stands old) where
  abbrev t : List ℕ
  t = all.table

  -- what stands now and what stood, as the sets have it, and as it is
  abbrev is : Reserved
  is = stands_in w stands

  abbrev was : Reserved
  was = stands_in w old

  abbrev so : Reserved
  so = reserved s.width t

  abbrev stood : Reserved
  stood = reserved s.width u

  pub end-within : AllWithin w s.cells s.width stands old
  end-within i l k h m = ap₂ differ (says.none_past i k l h m).0 (says.none_past i k l h m).1

  pub end_list : listed_in w s.cells stands old ≡ listed_changes s u t
  end_list =
      let e : 64 * w ≡ s.width + (64 * w - s.width) = omega arith in
      ap (λ m. changes is was m s.cells) e
      ∙ changes-within is was s.width (64 * w - s.width) s.cells (λ i k l h m. end-within i l k h (omega arith))
      ∙ changes-cong is so was stood s.width s.cells says.stands_at says.stood_at

  pub end-number : number ≡ all_count w s.cells stands old
  end-number =
      omega (
        arith,
        all.all,
        changes-length is was (64 * w) s.cells,
        changes-length so stood s.width s.cells,
        ap length end_list,
      )

  pub end-table : table_with w s.cells s.width stands old u ≡ overlay t u
  end-table = ap (λ z. follow s.width z u) end_list ∙ mended-follows s u t all.mends

-- ---- the call

-- clash rows that state who clashes say it both ways
pub both_ways-law : (s : Site) (rows : List ℕ) → bit_in rows ≡ clash_of s → TwoWay rows
both_ways-law s rows e a b =
    ap (λ (f : ℕ → ℕ → Bool). f a b) e ∙ clash-sym s.rule s.reach a b ∙ sym (ap (λ (f : ℕ → ℕ → Bool). f b a) e)

module _ (s : Site) (u l : List ℕ) where
  pub refused-ends : (f : Fault) → fault_of s ≡ Err f → (Err (Record f) ≡ mend_answer s u l) × ((u ≡ mend_table s u l) × (l ≡ mend_list s u l))
  unfolding mend_answer mend_table mend_list
  refused-ends f e = rw e (refl, (refl, refl))

  pub short-ends : fault_of s ≡ Ok tt → length u < size s → (Err TableShort ≡ mend_answer s u l) × ((u ≡ mend_table s u l) × (l ≡ mend_list s u l))
  unfolding mend_answer mend_table mend_list
  short-ends e h = rw (e, lt-ltb (length u) (size s) h) (refl, (refl, refl))

  -- record and table are good
  module _ (e : fault_of s ≡ Ok tt) (h : size s ≤ length u) where
    pub good-answer : mend_answer s u l ≡ mend_answer_of (net_of s) u l (mend (net_of s) u)
    unfolding mend_answer
    good-answer = rw (e, le-ltb (length u) (size s) h)

    pub good-table : mend_table s u l ≡ table_after (net_of s) u l (mend (net_of s) u)
    unfolding mend_table
    good-table = rw (e, le-ltb (length u) (size s) h)

    pub good-list : mend_list s u l ≡ list_after (net_of s) u l (mend (net_of s) u)
    unfolding mend_list
    good-list = rw (e, le-ltb (length u) (size s) h)
