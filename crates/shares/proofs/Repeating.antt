-- What repeats change and what they do not: sent once all is as before, k times makes the share k times as large, and the queue and delay bounds stay.
-- By the parts of an answer that is done. Assumes nothing.
use Prim.Native.Nat.{ℕ, ◌+◌, ◌*◌, ◌≤◌}
use mathlib.Core.Bool.{Bool, true, false, ◌&&◌}
use mathlib.Core.Path.{◌≡◌, refl, sym, ap, ◌∙◌}
use native.Mathlib.Nat.{one-mul}
use native.Mathlib.Omega.{arith}
use lib.Dec.{leb}
use Rattle.laws.specs.Choice.{pick}
use Rattle.std.specs.Prelude.{Ok, Err}
use Rattle.site.specs.Record.{up_to}
use Rattle.shares.specs.Share.{rounded_up, share_once, share_needed, queue_bound, delay_bound, Shares, shares_by, share_of}
use Rattle.shares.specs.Means.{Fair, Bounds}
use Rattle.shares.specs.declared.Fragments.{Fragments}
use Rattle.shares.specs.declared.Slots.{Slots}
use Rattle.shares.specs.declared.ShareError.TheVariants.{OutOfRange, BadFlow, BigShare}
use Rattle.shares.proofs.Laws.{delay-most, fair-share}
use Rattle.shares.proofs.Means.{share-means}

sent-once : (u : Bool) → (u && up_to 4 1) ≡ u
unfolding up_to
sent-once true = refl
sent-once false = refl

-- sent once: the share of document 01, with its refusals
pub once-as-before : (t c p : ℕ) → share_of t c p 1 ≡
    pick (up_to 128 t)
    (pick (up_to 65535 c && up_to 65535 p)
    (pick (leb (share_once t c p) 65535)
    (Ok (shares_by (share_once t c p) (c + share_once t c p) (t + rounded_up (c * t) (share_once t c p))))
    (Err BigShare))
    (Err BadFlow))
    (Err OutOfRange)
unfolding share_of
once-as-before t c p = simp (one-mul (share_once t c p), sent-once (up_to 65535 p))

module _ (t c p k : ℕ) (s q : Fragments) (d : Slots) (e : share_of t c p k ≡ Ok (s, q, d)) where
  pub done-means : Fair t c p k × Bounds t c p k s.0 q.0 d.0
  done-means = rw e at (share-means t c p k)

  parts_at : (b : Bool) → pick b (Ok (shares_by (share_needed t c p k) (queue_bound t c p) (delay_bound t c p))) (Err BigShare) ≡ Ok (s, q, d)
      → (s.0 ≡ share_needed t c p k) × ((q.0 ≡ queue_bound t c p) × (d.0 ≡ delay_bound t c p))
  parts_at true h =
      let same : shares_by (share_needed t c p k) (queue_bound t c p) (delay_bound t c p) ≡ (s, q, d) = cc in
      (sym (ap (λ (x : Shares). x.0.0) same), (sym (ap (λ (x : Shares). x.1.0) same), sym (ap (λ (x : Shares). x.2.0) same)))
  parts_at false h = (cc, (cc, cc))

  pub done-parts : (s.0 ≡ share_needed t c p k) × ((q.0 ≡ queue_bound t c p) × (d.0 ≡ delay_bound t c p))
  done-parts = parts_at (leb (share_needed t c p k) 65535) (sym (fair-share t c p k done-means.0) ∙ e)

  -- "never above T + p", for every k
  pub done-delay-most : d.0 ≤ t + p
  done-delay-most =
      let f = done-means.0 in
      omega (arith, done-parts.1.1, delay-most t c p f.slots.0 f.burst.0 f.period.0)

module _ (t c p k n : ℕ) (s q s' q' : Fragments) (d d' : Slots) (e : share_of t c p k ≡ Ok (s, q, d)) (e' : share_of t c p n ≡ Ok (s', q', d')) where
  -- the queue and delay bounds do not depend on k
  pub bounds-stay : (q.0 ≡ q'.0) × (d.0 ≡ d'.0)
  bounds-stay =
      let h = (done-parts t c p k s q d e).1 in
      let h' = (done-parts t c p n s' q' d' e').1 in
      (h.0 ∙ sym h'.0, h.1 ∙ sym h'.1)

-- "The share becomes k times the old one"
pub share-times : (t c p k : ℕ) (s q s' q' : Fragments) (d d' : Slots) → share_of t c p 1 ≡ Ok (s, q, d) → share_of t c p k ≡ Ok (s', q', d') → s'.0 ≡ k * s.0
share-times t c p k s q s' q' d d' e e' = rw ((done-parts t c p 1 s q d e).0, one-mul (share_once t c p)) (done-parts t c p k s' q' d' e').0

-- a share of 65,535 passes when sent once, and sent twice it is 16
pub largest-once : (t c p : ℕ) → Fair t c p 1 → share_once t c p ≡ 65535
    → share_of t c p 1 ≡ Ok (shares_by 65535 (c + 65535) (t + rounded_up (c * t) 65535))
largest-once t c p f e = simp (fair-share t c p 1 f, one-mul (share_once t c p), e)

pub largest-twice : (t c p : ℕ) → Fair t c p 2 → share_once t c p ≡ 65535 → share_of t c p 2 ≡ Err BigShare
largest-twice t c p f e = simp (fair-share t c p 2 f, e)
