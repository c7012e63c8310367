-- The cells in their turn: the sets are those of the run's table so far. A cell more goes on with the run, or ends it short. Assumes nothing.
use mathlib.Core.Path.{◌≡◌, refl, sym, ap, ap₂, ◌∙◌}
use mathlib.Core.Bool.{Bool, false, ◌&&◌, not}
use mathlib.Core.List.{List, [], ◌++◌}
use mathlib.Core.Logic.{⊎_elim}
use Prim.Native.Nat.{ℕ, ◌+◌, ◌-◌, ◌*◌, ◌≤◌, ◌<◌}
use native.Mathlib.Nat.{not-suc-le-zero, eq-or-lt_of_le}
use native.Mathlib.Omega.{arith}
use borrow.Author.Tests.{lt-ltb, le-ltb}
use lib.ListN.{length, get_or}
use lib.Seq.{sets}
use Rattle.laws.specs.Bits.{bit_at, bit_in}
use Rattle.laws.specs.Sum.{bit, sum, count}
use Rattle.laws.proofs.Any.{any-eq}
use Rattle.laws.proofs.Grid.{row_before}
use Rattle.laws.proofs.Sums.{sum-eq, sum_more}
use Rattle.theory.specs.Net.{Net, free}
use Rattle.theory.specs.Greedy.{sends, reserved, held, planned, no_room, run}
use Rattle.theory.proofs.Loops.{run-next, run-stop, run-stays}
use Rattle.theory.proofs.Row.{kept, added}
use Rattle.theory.proofs.Run.{run-good, is-planned}
use Rattle.mending.specs.Keep.{stand_at}
use Rattle.mending.specs.Mend.{stand, mend}
use Rattle.mending.specs.Changes.{differ, changed, change_count}
use Rattle.mending.proofs.Changes.{number-cong}
use Rattle.mending.proofs.Stand.{mine, stand-one, stand-cong, stand-fair}
use Rattle.sets.specs.Sets.{set_in}
use Rattle.sets.proofs.Sets.{set_before, set_there}
use Rattle.standing.specs.Stand.{stood_of}
use Rattle.standing.specs.Sets.{stands_in, free_in, short_count, turn_count, TwoWay, OldIn, Says}
use Rattle.std.specs.Prelude.{Ok}
use Rattle.site.specs.Reach.{is_open, net_by}
use Rattle.standing.proofs.Within.{none-stands}

-- the first i cells have had their turn
pub record Standing (s : Net) (u : List ℕ) (w i : ℕ) (stands : List ℕ) (number : ℕ) : Type 0 where
  pub table : List ℕ
  pub runs : run s (stand s u) i ≡ planned table
  pub set-of : (j k : ℕ) → j < i → k < s.width → stands_in w stands j k ≡ reserved s.width table j k
  pub past : (j k : ℕ) → j < i → s.width ≤ k → k < 64 * w → stands_in w stands j k ≡ false
  pub all : number ≡ change_count (reserved s.width table) (reserved s.width u) s.width i

-- none has
pub none_yet : (s : Net) (u : List ℕ) (w : ℕ) (stands : List ℕ) → Standing s u w 0 stands 0
unfolding run sum
none_yet s u w stands = record {
  table = [];
  runs = refl;
  set-of = λ j k l h. absurd (not-suc-le-zero l);
  past = λ j k l h m. absurd (not-suc-le-zero l);
  all = refl;
}

-- cell i's turn, over the sets of the cells below it
module _ (w cells n : ℕ) (loads clash blocked u : List ℕ) (two : TwoWay clash) (i : ℕ) (stands : List ℕ) (number : ℕ)
    (st : Standing (net_by cells n loads clash (is_open blocked)) u w i stands number) where
  abbrev s : Net
  s = net_by cells n loads clash (is_open blocked)

  abbrev t : List ℕ
  t = st.table

  abbrev f : ℕ → Bool
  f = free_in w n blocked (get_or clash i 0) stands i

  free-is : (k : ℕ) → k < n → free_in w n blocked (get_or clash i 0) stands i k ≡ free s (reserved n t) i k
  free-is k h =
      ap₂ (λ a b. (a && is_open blocked k) && not b) (lt-ltb k n h)
      (any-eq (λ a. bit_at (get_or clash i 0) a && stands_in w stands a k) (λ c. bit_in clash c i && reserved n t c k) i (λ c m.
      ap₂ ◌&&◌ (two i c) (st.set-of c k m h)))

  module _ {load : ℕ} (own : load ≡ get_or loads i 0) where
    abbrev new : List ℕ
    new = stand s u t i

    -- what stands by the sets is what the rule says
    stands-is : (k : ℕ) → k < n → stand_at f (reserved n u i) load n k ≡ sends (get_or (stand s u t i) k 0)
    stands-is k h =
        ap (λ m. stand_at f (reserved n u i) m n k) own
        ∙ stand-cong f (mine s u t i) (reserved n u i) (get_or loads i 0) n free-is k h
        ∙ sym (stand-one s u t i k h)

    module _ {short : ℕ} (over : short ≡ short_count (free_in w n blocked (get_or clash i 0) stands i) (reserved n u i) load n) where
      lacks : short ≡ get_or loads i 0 - held n new
      lacks =
          let c : count (stand_at f (reserved n u i) load n) n ≡ held n new = sum-eq _ _ n (λ k h. ap bit (stands-is k h)) in
          omega (arith, over, own, c)

      pub turn-stops : 0 < short → (m : ℕ) → i < m → run (net_by cells n loads clash (is_open blocked))
          (stand (net_by cells n loads clash (is_open blocked)) u) m
          ≡ no_room i short
      turn-stops h m below =
          run-stays s (stand s u) (i + 1) i short
          (run-stop s (stand s u) i t st.runs (omega (arith, lacks)) ∙ ap (no_room i) (sym lacks)) m (omega arith)

      module _ (none : short ≡ 0) (w' : List ℕ)
          (stored : w' ≡ sets stands (i * w) (set_in (stand_at (free_in w n blocked (get_or clash i 0) stands i) (reserved n u i) load n) w))
          (fits : i * w + w ≤ length stands) (wide : n ≤ 64 * w) {changes : ℕ}
          (differ-count : changes ≡ turn_count (free_in w n blocked (get_or clash i 0) stands i) (reserved n u i) load n) where
        size : length t ≡ i * n
        size = (run-good s (stand s u) (stand-fair s u) i t st.runs).size

        same : (j k : ℕ) → j < i → k < n → reserved n t j k ≡ reserved n (t ++ new) j k
        same j k l h = sym (kept n t new i size j k l h)

        here : (k : ℕ) → k < n → stand_at f (reserved n u i) load n k ≡ reserved n (t ++ new) i k
        here k h = stands-is k h ∙ sym (added n t new i size k)

        set_here : (j k : ℕ) → j < i + 1 → k < n → stands_in w w' j k ≡ reserved n (t ++ new) j k
        set_here j k l h =
            ap (λ (z : List ℕ). stands_in w z j k) stored
            ∙ ⊎_elim
            (λ (e : j ≡ i). rw e (set_there (stand_at f (reserved n u i) load n) w k (i * w) stands fits (omega arith) ∙ here k h))
            (λ (m : j < i).
            set_before (set_in (stand_at f (reserved n u i) load n) w) stands (i * w) (64 * (j * w) + k) (omega (arith, row_before w m))
            ∙ st.set-of j k m h
            ∙ same j k m h)
            (eq-or-lt_of_le {n = j} {m = i} (omega arith))

        past-here : (j k : ℕ) → j < i + 1 → n ≤ k → k < 64 * w → stands_in w w' j k ≡ false
        past-here j k l h g =
            ap (λ (z : List ℕ). stands_in w z j k) stored
            ∙ ⊎_elim
            (λ (e : j ≡ i). rw e (set_there (stand_at f (reserved n u i) load n) w k (i * w) stands fits g
            ∙ none-stands w n blocked stands (get_or clash i 0) i (reserved n u i) load k h))
            (λ (m : j < i).
            set_before (set_in (stand_at f (reserved n u i) load n) w) stands (i * w) (64 * (j * w) + k) (omega (arith, row_before w m))
            ∙ st.past j k m h g)
            (eq-or-lt_of_le {n = j} {m = i} (omega arith))

        changes-here : changes ≡ count (changed (reserved n (t ++ new)) (reserved n u) i) n
        changes-here = differ-count ∙ sum-eq _ _ n (λ k h. ap (λ b. bit (differ b (reserved n u i k))) (here k h))

        pub turn-goes : Standing (net_by cells n loads clash (is_open blocked)) u w (i + 1) w' (number + changes)
        turn-goes = record {
          table = t ++ new;
          runs = run-next s (stand s u) i t st.runs (omega (arith, lacks));
          set-of = set_here;
          past = past-here;
          all =
              ap₂ ◌+◌ (st.all ∙ number-cong (reserved n t) (reserved n (t ++ new)) (reserved n u) (reserved n u) n i same (λ j k _ _. refl)) changes-here
              ∙ sym (sum_more (λ j. count (changed (reserved n (t ++ new)) (reserved n u) j) n) i);
        }

-- every cell has had its turn
pub stood-all : (s : Net) (u : List ℕ) (w : ℕ) (stands : List ℕ) (number : ℕ) → Standing s u w s.cells stands number → Ok number ≡ stood_of s u (mend s u)
stood-all s u w stands number st = ap Ok st.all ∙ sym (ap (stood_of s u) st.runs)

pub stood-says : (cells n : ℕ) (loads clash blocked u : List ℕ) (w : ℕ) (stands old : List ℕ) (number : ℕ)
    → Standing (net_by cells n loads clash (is_open blocked)) u w cells stands number → n ≤ 64 * w → OldIn w cells n u old
    → (t : List ℕ) → mend (net_by cells n loads clash (is_open blocked)) u ≡ planned t → Says cells n w t u stands old
stood-says cells n loads clash blocked u w stands old number st wide packed t e =
    let same : st.table ≡ t = is-planned st.table t (sym st.runs ∙ e) in
    rw (← same) (record {
      stands_at = st.set-of;
      stood_at = λ i k l h. packed i k l (omega arith) ∙ ap (λ b. b && reserved n u i k) (lt-ltb k n h);
      none_past = λ i k l h m. (st.past i k l h m, packed i k l m ∙ ap (λ b. b && reserved n u i k) (le-ltb k n h));
    })

-- one has not
pub short-says : (s : Net) (u : List ℕ) (w : ℕ) (stands old : List ℕ) (c m : ℕ) → mend s u ≡ no_room c m → (t : List ℕ) → mend s u ≡ planned t
    → Says s.cells s.width w t u stands old
short-says s u w stands old c m e t h = let z : ◌≡◌ {A = ℕ} 0 1 = cc in absurd (omega arith)
