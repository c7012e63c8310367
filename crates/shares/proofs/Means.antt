-- The share's definition says what specs/Means.antt says: the tests decide the refusals, and rounding up is the least number that is enough. Assumes nothing.
use Prim.Native.Nat.{ℕ, ◌+◌, ◌-◌, ◌*◌, ◌≤◌, ◌<◌}
use mathlib.Core.Bool.{Bool, true, false, ◌&&◌, true≢false}
use mathlib.Core.Path.{◌≡◌, refl, sym, ◌∙◌}
use native.Mathlib.Omega.{arith}
use borrow.Author.Tests.{leb-true, leb-false}
use lib.Dec.{leb}
use Rattle.laws.specs.Choice.{pick}
use Rattle.laws.proofs.Choice.{both, both_is}
use Rattle.std.specs.Prelude.{Ok, Err}
use Rattle.site.specs.Record.{up_to}
use Rattle.site.proofs.Faults.{up-to, up-to-is}
use Rattle.shares.specs.Share.{rounded_up, share_once, share_needed, queue_bound, delay_bound, shares_by, share_of}
use Rattle.shares.specs.Means.{Fair, Bounds, Within, Above, ShareMeans}
use Rattle.shares.specs.declared.ShareError.TheVariants.{OutOfRange, BadFlow, BigShare}
use Rattle.shares.proofs.Laws.{up-is-least, fair-pos}

module _ (t c p k : ℕ) where
  bounds : Fair t c p k → share_needed t c p k ≤ 65535 → Bounds t c p k (share_needed t c p k) (queue_bound t c p) (delay_bound t c p)
  bounds f l = record {
    once = share_once t c p;
    serves = up-is-least (c * t) p f.period.0;
    share = refl;
    most = l;
    queue = refl;
    delay_some = omega arith;
    delay = rw (back (rounded_up (c * t) (share_once t c p))) (up-is-least (c * t) (share_once t c p) (fair-pos t c p k f));
  }
    where
      back : (n : ℕ) → t + n - t ≡ n
      back n = omega arith

  big : Fair t c p k → 65535 < share_needed t c p k → Above t c p k
  big f l = record { once = share_once t c p; serves = up-is-least (c * t) p f.period.0; above = l }

  fair : up_to 128 t ≡ true → (up_to 65535 c && (up_to 65535 p && up_to 4 k)) ≡ true → Fair t c p k
  fair e h =
      let g = both _ _ h in
      let r = both _ _ g.1 in
      record { slots = up-to _ _ e; burst = up-to _ _ g.0; period = up-to _ _ r.0; repeats = up-to _ _ r.1 }

  means-at : (u v w : Bool) → up_to 128 t ≡ u → (up_to 65535 c && (up_to 65535 p && up_to 4 k)) ≡ v → leb (share_needed t c p k) 65535 ≡ w
      → ShareMeans t c p k
      (pick u
      (pick v
      (pick w (Ok (shares_by (share_needed t c p k) (queue_bound t c p) (delay_bound t c p))) (Err BigShare))
      (Err BadFlow))
      (Err OutOfRange))
  means-at false v w e h g = λ i. true≢false (sym (up-to-is 128 t i) ∙ e)
  means-at true false w e h g = (
    up-to _ _ e,
    λ i. true≢false (sym (both_is (up_to 65535 c) _ (up-to-is _ _ i.0)
        (both_is (up_to 65535 p) (up_to 4 k) (up-to-is _ _ i.1.0) (up-to-is _ _ i.1.1))) ∙ h),
  )
  means-at true true true e h g = let f = fair e h in (f, bounds f (leb-true _ _ g))
  means-at true true false e h g = let f = fair e h in (f, big f (leb-false _ _ g))

  pub share-means : ShareMeans t c p k (share_of t c p k)
  unfolding share_of
  share-means = means-at (up_to 128 t) (up_to 65535 c && (up_to 65535 p && up_to 4 k)) (leb (share_needed t c p k) 65535) refl refl refl

  -- a share that is done is within, and what is within is not above: the least number that serves is one number
  pub bounds-within : (s q d : ℕ) → Bounds t c p k s q d → Within t c p k
  bounds-within s q d b = record { once = b.once; serves = b.serves; within = omega (arith, b.share, b.most) }

  pub within-not-above : Within t c p k → Above t c p k → ⊥
  within-not-above w a =
      let same : w.once ≡ a.once = omega (arith, w.serves.least a.once a.serves.enough, a.serves.least w.once w.serves.enough) in
      let within : k * a.once ≤ 65535 = rw same at w.within in
      omega (arith, a.above)
