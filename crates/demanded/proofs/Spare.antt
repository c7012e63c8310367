-- W2: a spare cell numbered in at any place changes no verdict, over what the calls say: the same cells are named, by their new numbers. The problem that
-- the new site states is the old one with a spare cell put in, of which the theory knows this. W11: the others clash as they did also under rule 2, since a
-- third cell is one of the others, or the spare cell, whom two reach that clash without it.
-- Assumes nothing.
use Prim.Native.Nat.{ℕ, ◌+◌, ◌-◌, ◌≤◌, ◌<◌}
use mathlib.Core.Bool.{true}
use mathlib.Core.List.{[], ◌∷◌}
use mathlib.Core.Logic.{◌⊎◌, inl, inr, ⊎_elim}
use mathlib.Core.Path.{◌≡◌, refl, sym, ap, subst, ◌∙◌}
use native.Mathlib.Omega.{arith}
use borrow.Author.Tests.{le-leb, lt-leb, ltb-true, ltb-false}
use lib.Dec.{ltb}
use Rattle.laws.proofs.Choice.{cases, alike}
use Rattle.theory.specs.Spare.{past, SparePut, load_past, chain_past, class_past}
use Rattle.theory.specs.Verdict as theory
use Rattle.theory.specs.Verdict.{holds, over, load_verdict, most_demand, chained, broken, chain_verdict, in_class, outside, class_verdict}
use Rattle.theory.proofs.Spare.{past-below, past-above, load_past-law, most-past, chain-past, class-past}
use Rattle.std.specs.Prelude.{Ok, Err}
use Rattle.site.specs.Given.{done_given}
use Rattle.site.specs.Record.{load_at, fault_of}
use Rattle.site.specs.Reach.{clash_of, clash_named, clash_answer, net_of}
use Rattle.site.specs.Means.{UpTo, Reaches, Third, Clashing}
use Rattle.site.specs.declared.Site.{Site}
use Rattle.site.specs.declared.Fault.TheVariants.{Size}
use Rattle.site.proofs.Accepted.{net-open}
use Rattle.site.proofs.Faults.{up-to-is}
use Rattle.site.proofs.Means.{fault-only, is-clashing, clash-only}
use Rattle.judges.specs.Judges.{counted, load_of, load_answer, chain_of, chain_answer, class_of, class_answer, least_of, least_answer}
use Rattle.judges.specs.Given.{load_given, chain_given, class_given, least_given}
use Rattle.judges.proofs.Meaning.{told, load-fine, chain-fine, class-fine}
use Rattle.demanded.specs.Numbers.{done_with, refused}
use Rattle.demanded.specs.Demands.{Accepted}
use Rattle.demanded.specs.Spare.{moved, SpareIn, load_moved, chain_moved, class_moved}
use Rattle.demanded.proofs.Numbers.{accepted-number, over-number, broken-number}
use Rattle.demanded.proofs.Names.{over-names, triple-names}

-- a new number is a new place, counted from 1
moved-past : (p i : ℕ) → moved p (i + 1) ≡ past p i + 1
unfolding moved
moved-past p i =
    ⊎_elim (λ e. let l : i < p = ltb-true i p e in rw (le-leb (i + 1) p (omega arith), past-below p i l))
    (λ e. let l : p ≤ i = ltb-false i p e in rw (lt-leb (i + 1) p (omega arith), past-above p i l))
    (cases (ltb i p))

moved_at-law : (p cell : ℕ) → ((cell ≤ p) × (moved p cell ≡ cell)) ⊎ ((p < cell) × (moved p cell ≡ cell + 1))
unfolding moved
moved_at-law p cell =
    ⊎_elim (λ e. let l : p < cell = ltb-true p cell e in inr (l, rw (lt-leb cell p l)))
    (λ e. let l : cell ≤ p = ltb-false p cell e in inl (l, rw (le-leb cell p l)))
    (cases (ltb p cell))

moved-one : (p a b : ℕ) → moved p a ≡ moved p b → a ≡ b
moved-one p a b e =
    ⊎_elim (λ x. ⊎_elim (λ y. omega (arith, x, y)) (λ y. omega (arith, x, y)) (moved_at-law p b))
    (λ x. ⊎_elim (λ y. omega (arith, x, y)) (λ y. omega (arith, x, y)) (moved_at-law p b)) (moved_at-law p a)

less_one : (n : ℕ) → n + 1 - 1 ≡ n
less_one n = omega arith

-- ---- who clashes, by index and by number

module _ (s : Site) (fine : fault_of s ≡ Ok tt) (a b : ℕ) (l : a < s.cells) (m : b < s.cells) where
  named : clash_named s (a + 1) (b + 1) ≡ clash_of s a b
  named =
      rw (up-to-is s.cells (a + 1) (omega arith, omega arith), up-to-is s.cells (b + 1) (omega arith, omega arith), less_one a, less_one b)

  clashing : clash_of s a b ≡ true → Clashing s (a + 1) (b + 1)
  clashing e = is-clashing s (a + 1) (b + 1) fine (named ∙ e)

  clash_is : Clashing s (a + 1) (b + 1) → clash_of s a b ≡ true
  unfolding clash_answer
  clash_is c = sym named ∙ (told (fault_of s) (clash_named s (a + 1) (b + 1)) true (clash-only s (a + 1) (b + 1) (Ok true) (fine, c))).1

module _ (p : ℕ) (s t : Site) (put : SpareIn p s t) where
  at-past : (i : ℕ) → moved p (i + 1) - 1 ≡ past p i
  at-past i = rw (moved-past p i) (less_one (past p i))

  loads : (i : ℕ) → i < s.cells → load_at t (past p i) ≡ load_at s i
  loads i l = rw (at-past i, less_one i) at (put.same_load (i + 1) (omega arith, omega arith))

  -- a number of the new site: the spare cell's, or that of one of the others
  moved_in : (cell : ℕ) → UpTo s.cells cell → UpTo t.cells (moved p cell)
  moved_in cell u =
      ⊎_elim (λ x. (omega (arith, x, u), omega (arith, x, u, put.one_more))) (λ x. (omega (arith, x, u), omega (arith, x, u, put.one_more)))
      (moved_at-law p cell)

  moved-from : (x : ℕ) → UpTo t.cells x → (x ≡ p + 1) ⊎ ((y : ℕ) × UpTo s.cells y × (x ≡ moved p y))
  moved-from x u =
      let more = put.one_more in
      let place = put.place in
      ⊎_elim
      (λ e.
      let l : p < x = ltb-true p x e in
      ⊎_elim (λ f. inl (let k : x < p + 2 = ltb-true x (p + 2) f in omega arith))
      (λ f.
      let k : p + 2 ≤ x = ltb-false x (p + 2) f in
      let up : moved p (x - 1) ≡ x = ⊎_elim (λ y. absurd (omega (arith, y))) (λ y. omega (arith, y)) (moved_at-law p (x - 1)) in
      inr (x - 1, (omega (arith, u), omega (arith, u)), sym up))
      (cases (ltb x (p + 2))))
      (λ e.
      let l : x ≤ p = ltb-false p x e in
      let same : moved p x ≡ x = ⊎_elim (λ y. y.1) (λ y. absurd (omega (arith, y))) (moved_at-law p x) in
      inr (x, (u.0, omega (arith, u)), sym same))
      (cases (ltb p x))

  -- whoever clashed clashes still
  still : (a b : ℕ) → Clashing s a b → Clashing t (moved p a) (moved p b)
  still a b c = record {
    first_in_holds = moved_in a c.first_in_holds;
    second_in_holds = moved_in b c.second_in_holds;
    two = λ e. c.two (moved-one p a b e);
    why = why c.why;
  }
    where
      third : (x : ℕ) → Third s a b x → Third t (moved p a) (moved p b) (moved p x)
      third x h = record {
        inside = moved_in x h.inside;
        not_first = λ e. h.not_first (moved-one p x a e);
        not_second = λ e. h.not_second (moved-one p x b e);
        by_first = (put.same_reach a x c.first_in_holds h.inside).1 h.by_first;
        by_second = (put.same_reach b x c.second_in_holds h.inside).1 h.by_second;
      }

      why : Reaches s a b ⊎ (Reaches s b a ⊎ ((s.rule ≡ 2) × ((x : ℕ) × Third s a b x)))
          → Reaches t (moved p a) (moved p b)
          ⊎ (Reaches t (moved p b) (moved p a) ⊎ ((t.rule ≡ 2) × ((x : ℕ) × Third t (moved p a) (moved p b) x)))
      why (inl r) = inl ((put.same_reach a b c.first_in_holds c.second_in_holds).1 r)
      why (inr (inl r)) = inr (inl ((put.same_reach b a c.second_in_holds c.first_in_holds).1 r))
      why (inr (inr (two, (x, h)))) = inr (inr (put.same_rule ∙ two, (moved p x, third x h)))

  -- and whoever clashes clashed: a third cell is one of the others, or the spare one
  was : (a b : ℕ) → UpTo s.cells a → UpTo s.cells b → (a ≡ b → ⊥) → Clashing t (moved p a) (moved p b) → Clashing s a b
  was a b u v n c = why c.why
    where
      third : s.rule ≡ 2 → (x : ℕ) → Third t (moved p a) (moved p b) x → (x ≡ p + 1) ⊎ ((y : ℕ) × UpTo s.cells y × (x ≡ moved p y)) → Clashing s a b
      third two x h (inl e) =
          put.no_new_third two a b u v n (subst (Reaches t (moved p a)) e h.by_first) (subst (Reaches t (moved p b)) e h.by_second)
      third two x h (inr (y, w, e)) = record {
        first_in_holds = u;
        second_in_holds = v;
        two = n;
        why = inr (inr (
          two,
          (
            y,
            record {
              inside = w;
              not_first = λ q. h.not_first (e ∙ ap (moved p) q);
              not_second = λ q. h.not_second (e ∙ ap (moved p) q);
              by_first = (put.same_reach a y u w).0 (subst (Reaches t (moved p a)) e h.by_first);
              by_second = (put.same_reach b y v w).0 (subst (Reaches t (moved p b)) e h.by_second);
            },
          ),
        ));
      }

      why : Reaches t (moved p a) (moved p b)
          ⊎ (Reaches t (moved p b) (moved p a) ⊎ ((t.rule ≡ 2) × ((x : ℕ) × Third t (moved p a) (moved p b) x)))
          → Clashing s a b
      why (inl r) = record { first_in_holds = u; second_in_holds = v; two = n; why = inl ((put.same_reach a b u v).0 r) }
      why (inr (inl r)) = record { first_in_holds = u; second_in_holds = v; two = n; why = inr (inl ((put.same_reach b a v u).0 r)) }
      why (inr (inr (two, (x, h)))) = third (sym put.same_rule ∙ two) x h (moved-from x h.inside)

  module _ (fine : fault_of s ≡ Ok tt) (fine' : fault_of t ≡ Ok tt) where
    in-new : (i : ℕ) → i < s.cells → past p i < t.cells
    in-new i l = omega (arith, moved_in (i + 1) (omega arith, omega arith), moved-past p i)

    clash : (a c : ℕ) → a < c → c < s.cells → clash_of t (past p a) (past p c) ≡ clash_of s a c
    clash a c l m =
        let low : a < s.cells = omega arith in
        let to = clash_is t fine' (past p a) (past p c) (in-new a low) (in-new c m) in
        let from = clashing t fine' (past p a) (past p c) (in-new a low) (in-new c m) in
        alike _ _
        (λ e. clash_is s fine a c low m (was (a + 1) (c + 1) (omega arith, omega arith) (omega arith, omega arith) (λ q. omega arith)
        (rw (moved-past p a, moved-past p c) (from e))))
        (λ e. to (rw (moved-past p a, moved-past p c) at (still (a + 1) (c + 1) (clashing s fine a c low m e))))

    put_in : SparePut p (net_of s) (net_of t)
    put_in = record {
      place = put.place;
      one_more = put.one_more;
      same_room = net-open t ∙ rw (put.same_slots, put.same_channels, put.same_blocked) (sym (net-open s));
      no_load = put.no_load;
      same_load = loads;
      same_clash = clash;
    }

load-of : (p : ℕ) (v : theory.LoadVerdict) → Ok (load_of (load_past p v)) ≡ load_moved p (Ok (load_of v))
load-of p holds = refl
load-of p (over i m) = rw (moved-past p i)

chain-of : (p : ℕ) (v : theory.ChainVerdict) → Ok (chain_of (chain_past p v)) ≡ chain_moved p (Ok (chain_of v))
chain-of p chained = refl
chain-of p (broken a b c) = rw (moved-past p a, moved-past p b, moved-past p c)

class-of : (p : ℕ) (v : theory.ClassVerdict) → Ok (class_of (class_past p v)) ≡ class_moved p (Ok (class_of v))
class-of p in_class = refl
class-of p (outside a b i) = rw (moved-past p a, moved-past p b, moved-past p i)

least-of : (p n : ℕ) (v : theory.ClassVerdict) → least_of (class_past p v) n ≡ least_of v n
least-of p n in_class = refl
least-of p n (outside a b i) = refl

module _ (p : ℕ) (s t : Site) (put : SpareIn p s t) (accepted : Accepted s) (accepted' : Accepted t) where
  abbrev ok : fault_of s ≡ Ok tt
  ok = (accepted-number s).0 accepted

  abbrev ok' : fault_of t ≡ Ok tt
  ok' = (accepted-number t).0 accepted'

  -- no verdict changes: the same cells are named, by their new numbers
  pub spare-load : load_given (load_answer t) ≡ load_given (load_moved p (load_answer s))
  spare-load =
      ap load_given
      (load-fine t ok' ∙ ap (λ v. Ok (load_of v)) (load_past-law p (net_of s) (net_of t) (put_in p s t put ok ok'))
      ∙ load-of p (load_verdict (net_of s) (counted s)) ∙ ap (load_moved p) (sym (load-fine s ok)))

  pub spare-chain : chain_given (chain_answer t) ≡ chain_given (chain_moved p (chain_answer s))
  spare-chain =
      ap chain_given
      (chain-fine t ok' ∙ ap (λ v. Ok (chain_of v)) (chain-past p (net_of s) (net_of t) (put_in p s t put ok ok'))
      ∙ chain-of p (chain_verdict (net_of s) (counted s)) ∙ ap (chain_moved p) (sym (chain-fine s ok)))

  pub spare-class : class_given (class_answer t) ≡ class_given (class_moved p (class_answer s))
  spare-class =
      ap class_given
      (class-fine t ok' ∙ ap (λ v. Ok (class_of v)) (class-past p (net_of s) (net_of t) (put_in p s t put ok ok'))
      ∙ class-of p (class_verdict (net_of s) (counted s)) ∙ ap (class_moved p) (sym (class-fine s ok)))

  -- nor does the number of channel-slots that do
  pub spare-least : least_given (least_answer t) ≡ least_given (least_answer s)
  unfolding least_answer
  spare-least =
      let in' = put_in p s t put ok ok' in
      rw (ok, ok', class-past p (net_of s) (net_of t) in', most-past p (net_of s) (net_of t) in')
      (ap (λ a. least_given (Ok a)) (least-of p (most_demand (net_of s) (counted s)) (class_verdict (net_of s) (counted s))))

  -- a cell keeps its load
  keeps : (i : ℕ) → i < s.cells → (cell : ℕ) → cell ≡ i + 1 → load_at t (moved p cell - 1) ≡ load_at s (cell - 1)
  keeps i l cell e = put.same_load cell (omega arith, omega arith)

  -- the cells that are named, each with the load that it had
  pub over-keeps : (cell m : ℕ) → load_given (load_answer s) ≡ done_with (cell ∷ m ∷ [])
      → (load_given (load_answer t) ≡ done_with (moved p cell ∷ m ∷ [])) × (load_at t (moved p cell - 1) ≡ load_at s (cell - 1))
  over-keeps cell m e =
      let n = over-names s cell m e in
      (spare-load ∙ ap (λ a. load_given (load_moved p a)) (over-number s cell m e), keeps n.0 n.2.inside cell n.1)

  pub triple-keeps : (a b c : ℕ) → chain_given (chain_answer s) ≡ done_with (a ∷ b ∷ c ∷ [])
      → (chain_given (chain_answer t) ≡ done_with (moved p a ∷ moved p b ∷ moved p c ∷ []))
      × (load_at t (moved p a - 1) ≡ load_at s (a - 1)) × (load_at t (moved p b - 1) ≡ load_at s (b - 1)) × (load_at t (moved p c - 1) ≡ load_at s (c - 1))
  triple-keeps a b c e =
      let n = triple-names s a b c e in
      let h = n.6.shows in (
        spare-chain ∙ ap (λ x. chain_given (chain_moved p x)) (broken-number s a b c e),
        keeps n.0 (omega (arith, h.ab, h.bc, h.inside)) a n.3,
        keeps n.1 (omega (arith, h.bc, h.inside)) b n.4,
        keeps n.2 h.inside c n.5,
      )

-- up to 32 cells in all: a 33rd cell is a 1
pub thirty-third : (p : ℕ) (s t : Site) → SpareIn p s t → s.cells ≡ 32 → done_given (fault_of t) ≡ refused 1 []
thirty-third p s t put full = ap done_given (fault-only t (Err Size) (λ z. omega (arith, put.one_more, z.cells_most)))
