-- Every sentence of `duggfrask room` is true of the site: each line by its row, from the laws of `find`, of the room of a cell and of the numbers of `why`.
--     word-true                the end of the first line
--     cell-true                the line of a cell
--     open-true, slots-true    the two parts of the line of the size, where something is blocked and where nothing is
-- Assumes nothing.
use mathlib.Core.Path.{◌≡◌, refl, sym, ◌∙◌}
use mathlib.Core.Bool.{true, false, true≢false}
use mathlib.Core.List.{List}
use mathlib.Core.Logic.{⊎_elim}
use Prim.Native.Nat.{ℕ, ◌+◌, ◌-◌, ◌≤◌, ◌<◌}
use native.Mathlib.Omega.{arith}
use lib.Dec.{ltb, eqb}
use lib.ListN.{length}
use borrow.Author.Tests.{ltb-true, ltb-false, eqb-true, eqb-false}
use Rattle.laws.specs.Bits.{bit_at}
use Rattle.laws.proofs.Choice.{cases, both}
use Rattle.theory.specs.Net.{LoadTest, loaded, room}
use Rattle.theory.specs.Full.{weight}
use Rattle.theory.specs.Greedy.{reserved}
use Rattle.theory.specs.Verdict.{most_demand}
use Rattle.theory.proofs.Exact.{planned-valid}
use Rattle.theory.proofs.LoadLaws.{most-demand-test}
use Rattle.site.specs.Record.{load_at, positions, size, fault_of}
use Rattle.site.specs.Edit.{load_edit_fault}
use Rattle.site.specs.Reach.{net_of}
use Rattle.site.specs.declared.Site.{Site}
use Rattle.site.specs.declared.Fault.{Fault}
use Rattle.std.specs.Prelude.{Result, Ok, Err, is_ok}
use Rattle.site.proofs.Faults.{up-to-is}
use Rattle.judges.specs.Judges.{least_answer}
use Rattle.planner.specs.Plan.{plan_table}
use Rattle.finder.specs.Find.{find_answer, find_table}
use Rattle.finder.specs.declared.Way.{Way}
use Rattle.finder.specs.declared.FindError.{FindError}
use Rattle.finder.specs.declared.FindError.TheVariants as find
use Rattle.finder.proofs.Right.{is_none, plan_right, none_right}
use Rattle.rooms.specs.Room.{room_answer, with_more, more_of}
use Rattle.rooms.specs.declared.Room.{Room}
use Rattle.rooms.specs.declared.Room.TheVariants as room
use Rattle.rooms.proofs.Right.{room-planned, room-nothing, room-exact, room-less, same-with}
use Rattle.why.specs.Said.{open_of, least_number, fewest, some_blocked}
use Rattle.why.specs.Means.{Planned, AllOpen, AtLeastSlots, WillDo, set}
use Rattle.why.proofs.Numbers.{itself, at_least, fewer-slots, slots-exact}
use Rattle.why.proofs.Truth.{least-does, all_so}
use Rattle.phrases.specs.declared.Phrase.{Phrase}
use Rattle.phrases.specs.declared.Phrase.TheVariants.{Row}
use Rattle.say_room.specs.Lines.{no_cell_row, do_slots_row, do_open_row}
use Rattle.say_room.specs.Said.{more_phrase, room_phrase, word_end, own_does, open_enough, slots_enough, beside_own, fewer_phrase, slots_first}
use Rattle.say_room.specs.Said.{slots_second}
use Rattle.say_room.specs.Means.{HasPlan, Carries, CarriesNoMore, SlotsPlan, Fewer, RoomMeans}

-- ---- of the three rows that set a number beside what the site has

beside-cases : (P : Phrase → Type 0) (row n has : ℕ) → (n < has → P (Row row n (has - n) 0 0)) → (n ≡ has → P (Row (row + 1) n 0 0 0))
    → (has < n → P (Row (row + 2) n (n - has) 0 0)) → P (beside_own row n has)
beside-cases P row n has less same more =
    ⊎_elim (λ e. rw e (less (ltb-true n has e)))
    (λ e. rw e (⊎_elim (λ g. rw g (same (eqb-true n has g)))
    (λ g. rw g (more (let a = ltb-false n has e in let b = eqb-false n has g in above n has a b))) (cases (eqb n has))))
    (cases (ltb n has))
  where
    above : (n has : ℕ) → has ≤ n → (n ≡ has → ⊥) → has < n
    above n has l d = ⊎_elim (λ e. ltb-true has n e) (λ e. absurd (d (let m = ltb-false has n e in omega arith))) (cases (ltb has n))

module _ (s : Site) (fine : fault_of s ≡ Ok tt) (long : length s.loads ≡ 32) (limit : ℕ) (t : List ℕ) (fits : size s ≤ length t) where
  abbrev reply : Result Way FindError
  reply = find_answer s limit t

  plan-so : is_ok reply ≡ true → HasPlan s
  plan-so h = (reserved (positions s) (find_table s limit t), plan_right s limit t h)

  edit-fine : (i : ℕ) → i < s.cells → load_edit_fault s (i + 1) ≡ Ok tt
  unfolding load_edit_fault
  edit-fine i l = rw (fine, up-to-is s.cells (i + 1) (omega arith, omega arith))

  -- ---- the first line

  word-of : (a : Result Way FindError) → (is_none a ≡ true → RoomMeans s (Row no_cell_row 0 0 0 0)) → RoomMeans s (word_end a)
  word-of (Ok way) h = tt
  word-of (Err (find.Full x)) h = h refl
  word-of (Err find.FullInClass) h = h refl
  word-of (Err (find.FullSearched n)) h = h refl
  word-of (Err (find.NotKnown n)) h = tt
  word-of (Err find.TableShort) h = tt
  word-of (Err (find.Record f)) h = tt

  pub word-true : RoomMeans s (word_end reply)
  word-true = word-of reply (λ h. let none = none_right s limit t h in (none, λ i l m. room-less s (i + 1) long (edit-fine i l) none m))

  -- ---- a cell

  module _ (i : ℕ) (inside : i < s.cells) (plan : HasPlan s) where
    carries : Carries s (i + 1) (more_of (room_answer s (i + 1)))
    carries l few =
        ⊎_elim
        (λ e.
        let off : LoadTest (net_of s) (loaded (net_of s)) → ⊥ =
        λ h. let a = (most-demand-test (net_of s) (loaded (net_of s))).1 h in let b = ltb-true (room (net_of s))
        (most_demand (net_of s) (loaded (net_of s))) e in
        omega arith in
        let none : l ≡ 0 = omega (arith, room-nothing s (i + 1) long (edit-fine i inside) off, few) in
        rw none (plan.0, same-with s (i + 1) long (edit-fine i inside) plan.0 plan.1))
        (λ e.
        let holds = (most-demand-test (net_of s) (loaded (net_of s))).0 (ltb-false (room (net_of s)) (most_demand (net_of s) (loaded (net_of s))) e) in
        let p = room-planned s (i + 1) long (edit-fine i inside) holds l few in
        (reserved (positions s) p.0, planned-valid (net_of (with_more s (i + 1) l)) p.0 p.1))
        (cases (ltb (room (net_of s)) (most_demand (net_of s) (loaded (net_of s)))))

    more-true : (a : Result Room Fault) → room_answer s (i + 1) ≡ a → RoomMeans s (more_phrase (i + 1) (load_at s i) a)
    more-true (Ok (room.Exactly m)) e =
        let no_more : CarriesNoMore s (i + 1) m = room-exact s (i + 1) long (edit-fine i inside) m e in
        let yes : Carries s (i + 1) m = rw e at carries in
        ⊎_elim (λ z. let none : m ≡ 0 = eqb-true m 0 z in rw z ((i, refl, inside, refl), rw none at no_more))
        (λ z. rw z ((i, refl, inside, refl), yes, no_more)) (cases (eqb m 0))
    more-true (Ok (room.AtLeast m)) e = ((i, refl, inside, refl), rw e at carries)
    more-true (Err f) e = tt

  cell-of : (i : ℕ) → i < s.cells → (a : Result Way FindError) → (is_ok a ≡ true → HasPlan s) → RoomMeans s (room_phrase s i a)
  cell-of i l (Ok way) h = more-true i l (h refl) (room_answer s (i + 1)) refl
  cell-of i l (Err e) h = tt

  pub cell-true : (i : ℕ) → i < s.cells → RoomMeans s (room_phrase s i reply)
  cell-true i l = cell-of i l reply plan-so

  -- ---- the size

  abbrev heavy : ℕ
  heavy = weight (net_of s) (bit_at (set s))

  abbrev most : ℕ
  most = least_number (least_answer s)

  does : WillDo s most
  does = least-does s fine (least_answer s) refl

  planned-has : Planned s → HasPlan s
  planned-has p = (reserved (positions s) (plan_table s t), (p t fits).1)

  own-has : own_does reply (open_of s) most ≡ true → HasPlan s
  own-has h = plan-so (both (is_ok reply) (ltb (open_of s) most) h).0

  fewer-true : (n u : ℕ) → Fewer s n → RoomMeans s (fewer_phrase n u)
  fewer-true n u h =
      ⊎_elim (λ e. rw e (⊎_elim (λ g. rw g h) (λ g. rw g h) (cases (eqb n u)))) (λ e. rw e tt) (cases (ltb 1 n))

  -- where something is blocked

  module _ (some : some_blocked s ≡ true) where
    open-does : RoomMeans s (beside_own do_open_row (open_enough reply (open_of s) most) (open_of s))
    open-does =
        ⊎_elim
        (λ h. rw h (beside-cases (RoomMeans s) do_open_row (open_of s) (open_of s)
        (λ l. absurd (omega arith)) (λ e. (refl, own-has h)) (λ l. absurd (omega arith))))
        (λ h. rw h (beside-cases (RoomMeans s) do_open_row most (open_of s)
        (λ l. (omega arith, does)) (λ e. (e, planned-has (does s (itself s) fine (omega arith)))) (λ l. (omega arith, does))))
        (cases (own_does reply (open_of s) most))

    pub open-true : RoomMeans s (beside_own do_open_row (open_enough reply (open_of s) most) (open_of s))
        × RoomMeans s (fewer_phrase heavy (open_enough reply (open_of s) most))
    open-true = (open-does, fewer-true heavy _ (λ _. at_least s, λ e. absurd (true≢false (sym some ∙ e))))

  -- where nothing is

  module _ (none : some_blocked s ≡ false) where
    all-open : AllOpen s
    all-open = all_so s fine none

    abbrev needs : ℕ
    needs = fewest heavy s.channels

    abbrev enough : ℕ
    enough = slots_enough reply (open_of s) most s.slots s.channels

    few : AtLeastSlots s needs
    few = fewer-slots s heavy (at_least s)

    slots-plan : SlotsPlan s (fewest most s.channels)
    slots-plan o alike ok free e l = does o alike ok (omega (arith, free, (slots-exact o ok most s.channels e).1 l))

    slots-do-so : RoomMeans s (beside_own do_slots_row enough s.slots)
    slots-do-so =
        ⊎_elim
        (λ h. rw h (beside-cases (RoomMeans s) do_slots_row s.slots s.slots
        (λ l. absurd (omega arith)) (λ e. (refl, all-open, own-has h)) (λ l. absurd (omega arith))))
        (λ h. rw h (beside-cases (RoomMeans s) do_slots_row (fewest most s.channels) s.slots
        (λ l. (omega arith, all-open, slots-plan))
        (λ e. (e, all-open, planned-has (slots-plan s (itself s) fine all-open refl (omega arith))))
        (λ l. (omega arith, all-open, slots-plan))))
        (cases (own_does reply (open_of s) most))

    first-true : RoomMeans s (slots_first needs enough s.slots)
    first-true =
        ⊎_elim
        (λ e. rw e (all-open, λ o alike ok q l. few o alike ok q (omega (arith, ltb-true 128 needs e))))
        (λ e. rw e (⊎_elim (λ g. rw g (all-open, few)) (λ g. rw g slots-do-so) (cases (ltb 128 enough))))
        (cases (ltb 128 needs))

    second-true : RoomMeans s (slots_second needs enough)
    second-true =
        ⊎_elim (λ e. rw e tt)
        (λ e. rw e (⊎_elim (λ g. rw g tt)
        (λ g. rw g (fewer-true needs enough (λ q. absurd (true≢false (sym q ∙ none)), λ _. few))) (cases (ltb 128 enough))))
        (cases (ltb 128 needs))

    pub slots-true : RoomMeans s (slots_first needs enough s.slots) × RoomMeans s (slots_second needs enough)
    slots-true = (first-true, second-true)
