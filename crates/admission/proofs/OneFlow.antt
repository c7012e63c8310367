-- A flow is refused exactly as specs/Means.antt says, with that number: the share's answer has one of four forms, and what each means is known by products
-- (crate `shares`). Assumes nothing.
use Prim.Native.Nat.{ℕ}
use mathlib.Core.Bool.{true, false, true≢false}
use mathlib.Core.Logic.{⊎_elim, ◌↔◌}
use mathlib.Core.List.{[], ◌∷◌}
use mathlib.Core.Path.{◌≡◌, refl, sym, ap, ◌∙◌}
use native.Mathlib.Omega.{arith}
use lib.ListN.{get_or}
use Rattle.laws.proofs.Choice.{cases}
use Rattle.site.specs.Record.{up_to}
use Rattle.site.specs.Given.{Given}
use Rattle.site.specs.Means.{UpTo}
use Rattle.site.specs.declared.Site.{Site}
use Rattle.site.proofs.Faults.{up-to, up-to-is}
use Rattle.shares.specs.Given.{share_given}
use Rattle.shares.specs.Means.{ShareMeans}
use Rattle.shares.specs.declared.Fragments.{Fragments}
use Rattle.shares.specs.declared.Slots.{Slots}
use Rattle.shares.specs.declared.ShareError.{ShareError}
use Rattle.shares.specs.declared.ShareError.TheVariants as share
use Rattle.std.specs.Prelude.{Result, Ok, Err}
use Rattle.shares.proofs.Means.{share-means, bounds-within, within-not-above}
use Rattle.flowlist.specs.declared.Flow.{Flow}
use Rattle.admission.specs.Admit.{amount, refused_in, flow_share, flow_bad, flow_refused}
use Rattle.admission.specs.Laden.{Shared}
use Rattle.admission.specs.Means.{Sends, Refusal, two, fifteen, sixteen, refused_with, Refuses}
use Rattle.admission.proofs.Asking.{bad-cell, bad-share, good}

-- the ways that a flow goes: it is not refused, or it is with one of the numbers
data Goes (s : Site) (f : Flow) : Type 0 where
  sends : Sends s f → flow_bad s f ≡ false → Goes s f
  stops : (r : Refusal) → Refuses s f r → flow_bad s f ≡ true → ((n : ℕ) → flow_refused s f n ≡ refused_with r n) → Goes s f

module _ (s : Site) (f : Flow) where
  refused-cell : up_to s.cells f.cell ≡ false → (n : ℕ) → flow_refused s f n ≡ refused_with two n
  unfolding refused_in
  refused-cell h n = rw h

  refused-big : up_to s.cells f.cell ≡ true → flow_share s f ≡ Err share.BigShare → (n : ℕ) → flow_refused s f n ≡ refused_with sixteen n
  unfolding refused_in
  refused-big h e n = rw (h, e)

  refused-flow : up_to s.cells f.cell ≡ true → flow_share s f ≡ Err share.BadFlow → (n : ℕ) → flow_refused s f n ≡ refused_with fifteen n
  unfolding refused_in
  refused-flow h e n = rw (h, e)

  -- a flow in a cell of the site goes as its share does
  by-share : UpTo 128 s.slots → up_to s.cells f.cell ≡ true → (a : Result (Fragments × Fragments × Slots) ShareError) → flow_share s f ≡ a
      → ShareMeans s.slots f.burst f.period f.repeats a → Goes s f
  by-share t h (Ok a) e m =
      sends (record {
        cell = up-to _ _ h;
        range = (m.0.burst, m.0.period, m.0.repeats);
        share = bounds-within s.slots f.burst f.period f.repeats a.0.0 a.1.0 a.2.0 m.1;
      }) (good s.cells s.slots f h (rw e))
  by-share t h (Err share.OutOfRange) e m = absurd (m t)
  by-share t h (Err share.BadFlow) e m =
      stops fifteen (up-to _ _ h, λ r. m.1 (r.0, (r.1, r.2))) (bad-share s.cells s.slots f (rw e)) (refused-flow h e)
  by-share t h (Err share.BigShare) e m =
      stops sixteen (up-to _ _ h, (m.0.burst, m.0.period, m.0.repeats), m.1) (bad-share s.cells s.slots f (rw e)) (refused-big h e)

  goes : UpTo 128 s.slots → Goes s f
  goes t =
      ⊎_elim (λ h. by-share t h (flow_share s f) refl (share-means s.slots f.burst f.period f.repeats))
      (λ h. stops two (λ u. true≢false (sym (up-to-is s.cells f.cell u) ∙ h)) (bad-cell s.cells s.slots f h) (refused-cell h))
      (cases (up_to s.cells f.cell))

  -- the ways exclude one another
  sends-not : Sends s f → (r : Refusal) → Refuses s f r → ⊥
  sends-not g two h = h g.cell
  sends-not g fifteen h = h.1 g.range
  sends-not g sixteen h = within-not-above s.slots f.burst f.period f.repeats g.share h.2

  one-refusal : (r q : Refusal) → Refuses s f r → Refuses s f q → r ≡ q
  one-refusal two two h k = refl
  one-refusal two fifteen h k = absurd (h k.0)
  one-refusal two sixteen h k = absurd (h k.0)
  one-refusal fifteen two h k = absurd (k h.0)
  one-refusal fifteen fifteen h k = refl
  one-refusal fifteen sixteen h k = absurd (h.1 k.1)
  one-refusal sixteen two h k = absurd (k h.0)
  one-refusal sixteen fifteen h k = absurd (k.1 h.1)
  one-refusal sixteen sixteen h k = refl

  module _ (t : UpTo 128 s.slots) where
    -- a flow is let through exactly where nothing refuses it
    pub sends-is : flow_bad s f ≡ false ↔ Sends s f
    sends-is = (λ e. at e (goes t), λ g. back g (goes t))
      where
        at : flow_bad s f ≡ false → Goes s f → Sends s f
        at e (sends g _) = g
        at e (stops r _ b _) = absurd (true≢false (sym b ∙ e))

        back : Sends s f → Goes s f → flow_bad s f ≡ false
        back g (sends _ e) = e
        back g (stops r h _ _) = absurd (sends-not g r h)

    -- what a flow that is not let through is refused with
    pub bad-has : flow_bad s f ≡ true → (r : Refusal) × Refuses s f r × ((n : ℕ) → flow_refused s f n ≡ refused_with r n)
    bad-has e = at (goes t)
      where
        at : Goes s f → (r : Refusal) × Refuses s f r × ((n : ℕ) → flow_refused s f n ≡ refused_with r n)
        at (sends _ g) = absurd (true≢false (sym e ∙ g))
        at (stops r h _ w) = (r, h, w)

    -- a flow that has a reason is refused, with its number
    pub bad-is : (r : Refusal) → Refuses s f r → (flow_bad s f ≡ true) × ((n : ℕ) → flow_refused s f n ≡ refused_with r n)
    bad-is r h = at (goes t)
      where
        at : Goes s f → (flow_bad s f ≡ true) × ((n : ℕ) → flow_refused s f n ≡ refused_with r n)
        at (sends g _) = absurd (sends-not g r h)
        at (stops q k b w) = (b, rw (one-refusal r q h k) w)

    -- a flow that is let through has a public share
    pub sends-shared : Sends s f → (share : ℕ) × Shared s f share
    sends-shared g = at (flow_share s f) refl (share-means s.slots f.burst f.period f.repeats)
      where
        at : (a : Result (Fragments × Fragments × Slots) ShareError) → flow_share s f ≡ a → ShareMeans s.slots f.burst f.period f.repeats a
            → (share : ℕ) × Shared s f share
        at (Ok a) e m = (a.0.0, record { queue = a.1.0; delay = a.2.0; answer = ap share_given e })
        at (Err share.OutOfRange) e m = absurd (m t)
        at (Err share.BadFlow) e m = absurd (m.1 (g.range.0, (g.range.1, g.range.2)))
        at (Err share.BigShare) e m = absurd (within-not-above s.slots f.burst f.period f.repeats g.share m.1)

-- and the search takes just that share
pub shared-amount : (s : Site) (f : Flow) (share : ℕ) → Shared s f share → amount (flow_share s f) ≡ share
shared-amount s f n h = at (flow_share s f) h.answer
  where
    at : (a : Result (Fragments × Fragments × Slots) ShareError) → share_given a ≡ record { number = 0; values = n ∷ h.queue ∷ h.delay ∷ [] } → amount a ≡ n
    at (Ok a) e = ap (λ (g : Given). get_or g.values 0 0) e
    at (Err share.OutOfRange) e = absurd (omega (arith, ap (λ (g : Given). g.number) e))
    at (Err share.BadFlow) e = absurd (omega (arith, ap (λ (g : Given). g.number) e))
    at (Err share.BigShare) e = absurd (omega (arith, ap (λ (g : Given). g.number) e))
