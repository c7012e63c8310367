-- A cell's turn on sets: what keeping leaves, and then adding, comes to the rule. Assumes nothing.
use mathlib.Core.Path.{◌≡◌, refl, sym, ap, ap₂, ◌∙◌}
use mathlib.Core.Bool.{Bool, true, false, ◌&&◌, ◌||◌, not}
use mathlib.Core.List.{List}
use Prim.Native.Nat.{ℕ, ◌+◌, ◌-◌, ◌*◌, ◌≤◌, ◌<◌}
use native.Mathlib.Omega.{arith}
use borrow.Author.Tests.{le-ltb}
use lib.ListN.{length}
use lib.Seq.{sets}
use Rattle.laws.specs.Few.{first_few}
use Rattle.laws.specs.Sum.{bit, count}
use Rattle.laws.proofs.Few.{few-eq, few-count}
use Rattle.laws.proofs.Stores.{sets-long}
use Rattle.laws.proofs.Sums.{sum-eq}
use Rattle.positions.specs.Blocked.{word_in}
use Rattle.mending.specs.Keep.{keep_at, add_at, stand_at}
use Rattle.mending.specs.Changes.{differ}
use Rattle.mending.proofs.Stand.{mend-short}
use Rattle.sets.specs.Sets.{in_set, set_in}
use Rattle.sets.proofs.Sets.{in-set}
use Rattle.standing.specs.Sets.{short_count, turn_count}
use Rattle.standing.proofs.Free.{pass-next, pass_same}

-- ---- adding

or-none : (s t : Bool) → s ≡ (s || (t && false))
or-none true t = refl
or-none false true = refl
or-none false false = refl

-- where nothing is lacking, nothing is added
pub none-added : (here r : List ℕ) (w lacking : ℕ) (p : ℕ → Bool) → lacking ≡ 0 → r ≡ sets here 0 (set_in (in_set here) w)
    → r ≡ sets here 0 (set_in (λ k. in_set here k || first_few p lacking k) w)
none-added here r w lacking p e kept =
    pass_same (in_set here) (λ k. in_set here k || first_few p lacking k) w here r kept (λ k h.
    or-none (in_set here k) (p k) ∙ ap (λ b. in_set here k || (p k && b)) (sym (le-ltb (count p k) lacking (omega arith))))

-- f₁ are the free positions without those where the cell stands, f₂ the first of them, and r what stands then
module _ (here free f₁ f₂ : List ℕ) (w lacking : ℕ) (longf : w ≤ length free)
    (e₁ : f₁ ≡ sets free 0 (set_in (λ k. in_set free k && not (in_set here (64 * 0 + k))) w))
  where
    left : (k : ℕ) → k < 64 * w → in_set f₁ k ≡ (in_set free k && not (in_set here k))
    left k h =
        let e : 64 * 0 + k ≡ k = omega arith in
        ap (λ (l : List ℕ). in_set l k) e₁ ∙ in-set (λ k. in_set free k && not (in_set here (64 * 0 + k))) w k free longf h
        ∙ ap (λ (q : ℕ). in_set free k && not (in_set here q)) e

    pub lacking-still : {short : ℕ} → short ≡ lacking - count (in_set f₁) (64 * w) → short ≡ lacking - count (λ q. in_set free q && not (in_set here q))
        (64 * w)
    lacking-still e =
        e ∙ ap (λ (n : ℕ). lacking - n)
        (sum-eq (λ k. bit (in_set f₁ k)) (λ k. bit (in_set free k && not (in_set here k))) (64 * w) (λ k h. ap bit (left k h)))

    pub some-added : f₂ ≡ sets f₁ 0 (set_in (first_few (in_set f₁) lacking) w) → (r : List ℕ) → r ≡ sets here 0 (set_in (λ k. in_set here k || in_set f₂ k) w)
        → r ≡ sets here 0 (set_in (λ k. in_set here k || first_few (λ q. in_set free q && not (in_set here q)) lacking k) w)
    some-added e₂ r e₃ =
        pass_same (λ k. in_set here k || in_set f₂ k) (λ k. in_set here k || first_few (λ q. in_set free q && not (in_set here q)) lacking k) w here r e₃
        (λ k h.
        ap (λ b. in_set here k || b)
        (ap (λ (l : List ℕ). in_set l k) e₂
        ∙ in-set (first_few (in_set f₁) lacking) w k f₁
        (omega (arith, sets-long (word_in (λ k. in_set free k && not (in_set here (64 * 0 + k)))) w free f₁ e₁)) h
        ∙ few-eq (in_set f₁) (λ q. in_set free q && not (in_set here q)) lacking k (λ j l. left j (omega arith))))

-- ---- keeping, then adding: what is lent is z, what the steps leave k₁, k₂ and s

module _ (z free old : List ℕ) (w load : ℕ) (long : w ≤ length z) (k₁ k₂ s : List ℕ) (lacking : ℕ)
    (e₁ : k₁ ≡ sets z 0 (set_in (λ k. in_set free k && in_set old k) w))
    (e₂ : k₂ ≡ sets k₁ 0 (set_in (first_few (in_set k₁) load) w))
    (el : lacking ≡ load - count (in_set k₁) (64 * w))
    (e₃ : s ≡ sets k₂ 0 (set_in (λ k. in_set k₂ k || first_few (λ q. in_set free q && not (in_set k₂ q)) lacking k) w)) where
  abbrev keep : ℕ → Bool
  keep = keep_at (in_set free) (in_set old) load (64 * w)

  has₁ : (k : ℕ) → k < 64 * w → in_set k₁ k ≡ (in_set free k && in_set old k)
  has₁ k h = ap (λ (l : List ℕ). in_set l k) e₁ ∙ in-set (λ k. in_set free k && in_set old k) w k z long h

  kept : k₂ ≡ sets z 0 (set_in keep w)
  kept =
      pass-next (λ k. in_set free k && in_set old k) (first_few (in_set k₁) load) keep w z k₁ k₂ long e₁ e₂ (λ k h g.
      few-eq (in_set k₁) (λ q. in_set free q && in_set old q) load k (λ j l. has₁ j (omega arith)))

  has₂ : (k : ℕ) → k < 64 * w → in_set k₂ k ≡ keep k
  has₂ k h = ap (λ (l : List ℕ). in_set l k) kept ∙ in-set keep w k z long h

  lack : lacking ≡ load - count keep (64 * w)
  lack =
      omega (
        arith,
        el,
        sum-eq (λ k. bit (in_set k₁ k)) (λ k. bit (in_set free k && in_set old k)) (64 * w) (λ k h. ap bit (has₁ k h)),
        few-count (λ k. in_set free k && in_set old k) load (64 * w),
      )

  rest-same : (k : ℕ) → k < 64 * w → (in_set free k && not (in_set k₂ k)) ≡ (in_set free k && not (keep k))
  rest-same k h = ap (λ t. in_set free k && not t) (has₂ k h)

  adds : (k : ℕ) → k < 64 * w → first_few (λ q. in_set free q && not (in_set k₂ q)) lacking k ≡ add_at (in_set free) (in_set old) load (64 * w) k
  adds k h =
      few-eq (λ q. in_set free q && not (in_set k₂ q)) (λ q. in_set free q && not (keep q)) lacking k (λ j l. rest-same j (omega arith))
      ∙ ap (λ (m : ℕ). first_few (λ q. in_set free q && not (keep q)) m k) lack

  pub turn-stands : s ≡ sets z 0 (set_in (stand_at (in_set free) (in_set old) load (64 * w)) w)
  turn-stands =
      pass-next keep (λ k. in_set k₂ k || first_few (λ q. in_set free q && not (in_set k₂ q)) lacking k)
      (stand_at (in_set free) (in_set old) load (64 * w)) w z k₂ s long kept e₃
      (λ k h g. ap₂ ◌||◌ g (adds k h))

  pub turn-short : {short : ℕ} → short ≡ lacking - count (λ q. in_set free q && not (in_set k₂ q)) (64 * w)
      → short ≡ short_count (in_set free) (in_set old) load (64 * w)
  turn-short e =
      omega (
        arith,
        e,
        lack,
        sum-eq (λ k. bit (in_set free k && not (in_set k₂ k))) (λ k. bit (in_set free k && not (keep k))) (64 * w) (λ k h. ap bit (rest-same k h)),
        mend-short (in_set free) (in_set old) load (64 * w),
      )

  pub turn-changes : {changes : ℕ} → changes ≡ count (λ k. differ (in_set s k) (in_set old k)) (64 * w)
      → changes ≡ turn_count (in_set free) (in_set old) load (64 * w)
  turn-changes e =
      e
      ∙ sum-eq (λ k. bit (differ (in_set s k) (in_set old k)))
      (λ k. bit (differ (stand_at (in_set free) (in_set old) load (64 * w) k) (in_set old k))) (64 * w) (λ k h.
      ap (λ t. bit (differ t (in_set old k)))
      (ap (λ (l : List ℕ). in_set l k) turn-stands ∙ in-set (stand_at (in_set free) (in_set old) load (64 * w)) w k z long h))
