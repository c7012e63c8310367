-- How much more a cell could carry, said of the site with that load, over tables, whoever made them.
--     net-raised       the problem of the site with the raised load
--     room-planned     where the load test holds the site with as much more as is answered is planned
--     room-nothing     where it fails nothing is answered
--     room-exact       after Exactly no table of the site with more is valid
--     exact-in-class   in the class every cell with a load has an exact answer
--     same-with        a table of the site is one of the site with nothing more
--     room-less        where the site has no plan it has none with more in any load
--     room-refused     what is refused
-- Assumes nothing.
use Prim.Native.Nat.{ℕ, ◌+◌, ◌-◌, ◌≤◌, ◌<◌}
use mathlib.Core.Bool.{Bool, true, false}
use mathlib.Core.Logic.{◌↔◌}
use mathlib.Core.Path.{◌≡◌, refl, sym, ap, ◌∙◌, fun_ext}
use native.Mathlib.Omega.{arith}
use borrow.Author.Tests.{eqb-true}
use lib.Dec.{eqb}
use lib.ListN.{length, get_or}
use Rattle.laws.specs.Choice.{pick}
use Rattle.theory.specs.Net.{Reserved, Valid, LoadTest, Class, loaded}
use Rattle.theory.specs.Greedy.{Plans}
use Rattle.theory.specs.Verdict.{ClassVerdict, in_class, outside, class_verdict}
use Rattle.theory.proofs.ClassLaws.{class-holds}
use Rattle.roomy.specs.Room.{raised, counted_with, room_left}
use Rattle.roomy.proofs.Raised.{none_left}
use Rattle.roomy.proofs.Right as roomy
use Rattle.site.specs.Record.{load_at, positions}
use Rattle.site.specs.Edit.{load_edit_fault}
use Rattle.site.specs.Reach.{net_of, clash_of, is_open}
use Rattle.site.specs.declared.Site.{Site}
use Rattle.site.specs.declared.Fault.{Fault}
use Rattle.std.specs.Prelude.{Ok, Err}
use Rattle.site.proofs.Edits.{stored}
use Rattle.site.proofs.Faults.{load-edit-fine}
use Rattle.judges.proofs.Meaning.{told, refused}
use Rattle.rooms.specs.Room.{room_by, room_in, room_answer, with_more, more_of}
use Rattle.rooms.specs.declared.Room.TheVariants.{Exactly}

module _ (s : Site) (cell : ℕ) (long : length s.loads ≡ 32) (fine : load_edit_fault s cell ≡ Ok tt) where
  abbrev k : ℕ
  k = cell - 1

  inside : k < s.cells
  inside = let n = (load-edit-fine s cell fine).named in omega (arith, n.from_one, n.to-cells)

  pub net-raised : (m : ℕ) → net_of (with_more s cell m) ≡ raised (net_of s) k m
  net-raised m =
      ap (λ (f : ℕ → ℕ). record { cells = s.cells; width = positions s; load = f; clash = clash_of s; usable = is_open s.blocked })
      (fun_ext at)
    where
      at : (j : ℕ) → get_or (with_more s cell m).loads j 0 ≡ pick (eqb j k) (load_at s j + m) (load_at s j)
      at j =
          stored s.loads k (load_at s k + m) j (omega (arith, long, inside, (load-edit-fine s cell fine).named.most))
          ∙ own (eqb j k) (λ e. eqb-true j k e)
        where
          own : (t : Bool) → (t ≡ true → j ≡ k) → pick t (load_at s k + m) (load_at s j) ≡ pick t (load_at s j + m) (load_at s j)
          own true h = ap (λ (x : ℕ). load_at s x + m) (sym (h refl))
          own false h = refl

  answer-is : room_answer s cell ≡ Ok (room_in (net_of s) k)
  unfolding room_answer
  answer-is = rw fine

  -- what a verdict on the class was made into
  more-is : (v : ClassVerdict) (m : ℕ) → more_of (Ok (room_by v m)) ≡ m
  more-is in_class m = refl
  more-is (outside a b i) m = refl

  pub more_left : more_of (room_answer s cell) ≡ room_left (net_of s) k
  unfolding room_in
  more_left = ap more_of answer-is ∙ more-is (class_verdict (net_of s) (counted_with (net_of s) k)) (room_left (net_of s) k)

  pub room-planned : LoadTest (net_of s) (loaded (net_of s)) → (m : ℕ) → m ≤ more_of (room_answer s cell) → Plans (net_of (with_more s cell m))
  room-planned holds m few = rw (net-raised m) (roomy.room-plans (net_of s) k inside m holds (omega (arith, more_left, few)))

  pub room-nothing : (LoadTest (net_of s) (loaded (net_of s)) → ⊥) → more_of (room_answer s cell) ≡ 0
  room-nothing n = more_left ∙ none_left (net_of s) k n

  is-exactly : (v : ClassVerdict) (n m : ℕ) → room_by v n ≡ Exactly m → v ≡ in_class
  is-exactly in_class n m e = refl
  is-exactly (outside a b i) n m e = let z : ◌≡◌ {A = ℕ} 0 1 = cc in absurd (omega arith)

  class-is : (m : ℕ) → room_answer s cell ≡ Ok (Exactly m) → Class (net_of s) (counted_with (net_of s) k)
  unfolding room_answer room_in
  class-is m e =
      (class-holds (net_of s) (counted_with (net_of s) k)).0
      (is-exactly (class_verdict (net_of s) (counted_with (net_of s) k)) (room_left (net_of s) k) m (told (load_edit_fault s cell) _ _ e).1)

  pub room-exact : (m : ℕ) → room_answer s cell ≡ Ok (Exactly m) → (l : ℕ) → m < l → (res : Reserved) → Valid (net_of (with_more s cell l)) res → ⊥
  room-exact m e l more res v =
      let left : m ≡ room_left (net_of s) k = sym (ap more_of e) ∙ more_left in
      let v' : Valid (raised (net_of s) k l) res = rw (net-raised l) at v in
      roomy.room-exact (net_of s) k inside l (class-is m e) (omega (arith, left, more)) res v'

  -- with the cell counted in the class the answer is exact
  pub with-class : Class (net_of s) (counted_with (net_of s) k) → room_answer s cell ≡ Ok (Exactly (more_of (room_answer s cell)))
  unfolding room_in
  with-class c =
      let e : room_answer s cell ≡ Ok (Exactly (room_left (net_of s) k)) =
      answer-is ∙ ap (λ (v : ClassVerdict). Ok (room_by v (room_left (net_of s) k))) ((class-holds (net_of s) (counted_with (net_of s) k)).1 c) in
      e ∙ ap (λ m. Ok (Exactly m)) (sym more_left)

  -- "exact in the class"
  pub exact-in-class : 0 < load_at s k → Class (net_of s) (loaded (net_of s)) → room_answer s cell ≡ Ok (Exactly (more_of (room_answer s cell)))
  exact-in-class some c = with-class (roomy.loaded-class (net_of s) k some c)

  pub room-less : ((res : Reserved) → Valid (net_of s) res → ⊥) → (m : ℕ) (res : Reserved) → Valid (net_of (with_more s cell m)) res → ⊥
  room-less none m res v =
      let v' : Valid (raised (net_of s) k m) res = rw (net-raised m) at v in
      none _ (roomy.less-valid (net_of s) k m res v' inside)

  -- a valid table is one of the site with nothing more
  pub same-with : (res : Reserved) → Valid (net_of s) res → Valid (net_of (with_more s cell 0)) res
  same-with res v = rw (net-raised 0) (roomy.none-raised (net_of s) k res v)

-- it refuses only with the record's faults and with 2 for the cell that is asked for
pub room-refused : (s : Site) (cell : ℕ) (f : Fault) → room_answer s cell ≡ Err f ↔ (load_edit_fault s cell ≡ Err f)
unfolding room_answer
room-refused s cell = refused (load_edit_fault s cell) _
