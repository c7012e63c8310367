-- What the edits answer: "each with document 01's refusals". The record's own fault where it has one; then 24 for a rule, 20 for a set with a position past the
-- site's, and for sizes 1, then 20 with the lowest blocked position that would be gone; exactly then. Assumes nothing.
use Prim.Native.Nat.{ℕ, ◌/◌, ◌%◌, ◌≤◌, ◌<◌}
use mathlib.Core.Bool.{Bool, true, false, not, true≢false}
use mathlib.Core.List.{List}
use mathlib.Core.Logic.{◌⊎◌, ◌↔◌}
use mathlib.Core.Path.{◌≡◌, refl, sym, ap, ◌∙◌}
use native.Mathlib.Omega.{arith}
use borrow.Author.Tests.{ltb-true, lt-ltb, not-true}
use lib.Dec.{ltb}
use Rattle.laws.specs.Choice.{pick}
use Rattle.laws.proofs.Choice.{both, both_is, refute}
use Rattle.laws.proofs.Search.{first-least, first_passes, first-before, first-is, first-none}
use Rattle.positions.specs.Blocked.{most_positions, blocked_at, first_past}
use Rattle.site.specs.Record.{positions, size_ok, rule_ok, fault_of}
use Rattle.site.specs.Edit.{answered}
use Rattle.site.specs.Means.{Sizes, EditMeans}
use Rattle.site.specs.declared.Site.{Site}
use Rattle.site.specs.declared.Fault.{Fault}
use Rattle.site.specs.declared.Fault.TheVariants.{Size, Rule, Blocked}
use Rattle.std.specs.Prelude.{Result, Ok, Err}
use Rattle.std.specs.Result.{result_and}
use Rattle.site.proofs.Faults.{sizes, sizes-is, ruled, ruled-is, few-positions, fine-sized}
use Rattle.resize.specs.Sizes.{pair_in, gone_at, first_gone, sizes_fault, sized_of}
use Rattle.resize.specs.Others.{rule_edit_fault, set_rule_of, blocked_edit_fault, set_blocked_of}
use Rattle.resize.proofs.Pairs.{pair_is, is-pair}

-- a record's own fault comes before what follows
own-fault : (f g : Result Unit Fault) → (f ≡ Ok tt → ⊥) → result_and f g ≡ f
own-fault (Ok u) g n = absurd (n refl)
own-fault (Err f) g n = refl

-- the record's fault; then 24, exactly where the rule is not 1 or 2
pub rule-answer : (s : Site) (rule : ℕ) → EditMeans s ((rule ≡ 1) ⊎ (rule ≡ 2)) Rule (set_rule_of s rule).answer
unfolding set_rule_of answered rule_edit_fault
rule-answer s rule = record {
  faulty = λ n. own-fault (fault_of s) _ n;
  done = λ e h. simp (e, ruled-is rule h);
  refused = λ e n. simp (e, refute (rule_ok rule) (λ q. n (ruled rule q)));
}

-- k is the lowest position of which this holds
abbrev pub LowestOf : (ℕ → Type 0) → ℕ → Type 0
LowestOf P k = P k × ((j : ℕ) → j < k → P j → ⊥)

-- a choice of a fault with a position, from what came out
was-past : (t : Bool) (g k : ℕ) → pick {A = Result Unit Fault} t (Err (Blocked g)) (Ok tt) ≡ Err (Blocked k) → (t ≡ true) × (g ≡ k)
was-past true g k e = (refl, cc)
was-past false g k e = let z : ◌≡◌ {A = ℕ} 0 1 = cc in absurd (omega arith)

module _ (s : Site) (set : List ℕ) where
  -- "blocked bit at or past FT"
  abbrev pub PastSite : ℕ → Type 0
  PastSite k = (positions s ≤ k) × (k < 2048) × (blocked_at set k ≡ true)

  -- the record's own fault, where it has one
  pub blocked-fault : (fault_of s ≡ Ok tt → ⊥) → (set_blocked_of s set).answer ≡ fault_of s
  unfolding set_blocked_of answered blocked_edit_fault
  blocked-fault n = own-fault (fault_of s) _ n

  module _ (fine : fault_of s ≡ Ok tt) where
    asked : (set_blocked_of s set).answer ≡ pick (ltb (first_past set (positions s)) most_positions) (Err (Blocked (first_past set (positions s)))) (Ok tt)
    unfolding set_blocked_of answered blocked_edit_fault
    asked = rw fine

    few : positions s ≤ 2048
    few = few-positions (fine-sized s fine)

    -- then 20, "blocked bit at or past FT (the lowest)": exactly with that position
    pub blocked-twenty : (k : ℕ) → ((set_blocked_of s set).answer ≡ Err (Blocked k)) ↔ LowestOf PastSite k
    blocked-twenty k = (
      λ e.
          let past = first_past set (positions s) in
          let w = was-past (ltb past most_positions) past k (sym asked ∙ e) in
          let low : past < 2048 = ltb-true past most_positions w.0 in
          let is : blocked_at set k ≡ true = ap (blocked_at set) (sym w.1) ∙ first_passes (blocked_at set) (positions s) 2048 few low in (
            (omega (arith, w.1, first-least (blocked_at set) (positions s) 2048), omega (arith, w.1, low), is),
            λ j l p. true≢false (sym p.2 ∙ first-before (blocked_at set) (positions s) 2048 j p.0 (omega (arith, w.1, l))),
          ),
      λ h.
          let is : first_past set (positions s) ≡ k =
          first-is (blocked_at set) (positions s) k 2048 h.0.0 h.0.1 h.0.2
          (λ j l m. refute (blocked_at set j) (λ q. h.1 j m (l, omega (arith, h.0.1), q))) in
          asked ∙ rw (is, lt-ltb k most_positions h.0.1),
    )

    -- and done where it has none
    pub blocked-done : ((k : ℕ) → PastSite k → ⊥) → (set_blocked_of s set).answer ≡ Ok tt
    blocked-done none =
        let is : first_past set (positions s) ≡ 2048 =
        first-none (blocked_at set) (positions s) 2048 few (λ j l m. refute (blocked_at set j) (λ q. none j (l, m, q))) in
        asked ∙ rw is

-- ---- the sizes

was-size : (ok past : Bool) (g : ℕ) → pick {A = Result Unit Fault} ok (pick past (Err (Blocked g)) (Ok tt)) (Err Size) ≡ Err Size → ok ≡ false
was-size true true g e = let z : ◌≡◌ {A = ℕ} 0 1 = cc in absurd (omega arith)
was-size true false g e = let z : ◌≡◌ {A = ℕ} 0 1 = cc in absurd (omega arith)
was-size false past g e = refl

was-gone : (ok past : Bool) (g k : ℕ)
    → pick {A = Result Unit Fault} ok (pick past (Err (Blocked g)) (Ok tt)) (Err Size) ≡ Err (Blocked k)
    → (ok ≡ true) × (past ≡ true) × (g ≡ k)
was-gone true true g k e = (refl, refl, cc)
was-gone true false g k e = let z : ◌≡◌ {A = ℕ} 0 1 = cc in absurd (omega arith)
was-gone false past g k e = let z : ◌≡◌ {A = ℕ} 0 1 = cc in absurd (omega arith)

module _ (s : Site) (slots channels : ℕ) where
  -- a blocked position of the site as it is before the edit, whose slot or channel would be gone
  abbrev pub GoneFrom : ℕ → Type 0
  GoneFrom k = (k < 2048) × (blocked_at s.blocked k ≡ true) × ((k / s.channels < slots) × (k % s.channels < channels) → ⊥)

  gone-is : (k : ℕ) → k < 2048 → gone_at s.blocked s.channels slots channels k ≡ true → GoneFrom k
  unfolding gone_at
  gone-is k l e =
      let h = both (blocked_at s.blocked k) _ e in
      let out = not-true (pair_in slots channels (k / s.channels) (k % s.channels)) h.1 in
      (l, h.0, λ p. true≢false (sym (is-pair slots channels (k / s.channels) (k % s.channels) p.0 p.1) ∙ out))

  is-gone : (k : ℕ) → GoneFrom k → gone_at s.blocked s.channels slots channels k ≡ true
  unfolding gone_at
  is-gone k h =
      let out = refute (pair_in slots channels (k / s.channels) (k % s.channels)) (λ e. h.2 (pair_is slots channels (k / s.channels) (k % s.channels) e)) in
      both_is (blocked_at s.blocked k) _ h.1 (ap not out)

  -- the record's own fault, where it has one
  pub sizes-fault : (fault_of s ≡ Ok tt → ⊥) → (sized_of s slots channels).answer ≡ fault_of s
  unfolding sized_of answered sizes_fault
  sizes-fault n = own-fault (fault_of s) _ n

  module _ (fine : fault_of s ≡ Ok tt) where
    abbrev gone : ℕ
    gone = first_gone s.blocked s.channels slots channels

    told : (sized_of s slots channels).answer ≡ pick (size_ok s.cells slots channels) (pick (ltb gone most_positions) (Err (Blocked gone)) (Ok tt)) (Err Size)
    unfolding sized_of answered sizes_fault
    told = rw fine

    -- then 1, exactly where a size is out of range
    pub sizes-one : ((sized_of s slots channels).answer ≡ Err Size) ↔ (Sizes s.cells slots channels → ⊥)
    sizes-one = (
      λ e z.
          true≢false (sym (sizes-is s.cells slots channels z)
          ∙ was-size (size_ok s.cells slots channels) (ltb gone most_positions) gone (sym told ∙ e)),
      λ n. told ∙ rw (refute (size_ok s.cells slots channels) (λ q. n (sizes s.cells slots channels q))),
    )

    -- then 20, "with the lowest such position as the site has it before the edit": exactly with that position
    pub sizes-twenty : (k : ℕ) → ((sized_of s slots channels).answer ≡ Err (Blocked k)) ↔ (Sizes s.cells slots channels × LowestOf GoneFrom k)
    unfolding first_gone
    sizes-twenty k = (
      λ e.
          let test = gone_at s.blocked s.channels slots channels in
          let w = was-gone (size_ok s.cells slots channels) (ltb gone most_positions) gone k (sym told ∙ e) in
          let low : gone < 2048 = ltb-true gone most_positions w.1 in
          let is : test k ≡ true = ap test (sym w.2) ∙ first_passes test 0 2048 (omega arith) low in (
            sizes s.cells slots channels w.0,
            (
              gone-is k (omega (arith, w.2, low)) is,
              λ j l p. true≢false (sym (is-gone j p) ∙ first-before test 0 2048 j (omega arith) (omega (arith, w.2, l))),
            ),
          ),
      λ h.
          let test = gone_at s.blocked s.channels slots channels in
          let is : gone ≡ k =
          first-is test 0 k 2048 (omega arith) h.1.0.0 (is-gone k h.1.0)
          (λ j l m. refute (test j) (λ q. h.1.1 j m (gone-is j (omega (arith, h.1.0.0)) q))) in
          told ∙ rw (sizes-is s.cells slots channels h.0, is, lt-ltb k most_positions h.1.0.0),
    )

    -- and done where none would be
    pub sizes-done : Sizes s.cells slots channels → ((k : ℕ) → GoneFrom k → ⊥) → (sized_of s slots channels).answer ≡ Ok tt
    unfolding first_gone
    sizes-done z none =
        let test = gone_at s.blocked s.channels slots channels in
        let is : gone ≡ 2048 = first-none test 0 2048 (omega arith) (λ j l m. refute (test j) (λ q. none j (gone-is j m q))) in
        told ∙ rw (sizes-is s.cells slots channels z, is)
