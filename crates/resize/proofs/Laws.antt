-- What the edits mean. An edit that is done gives the site with that one thing changed, and a refused one the site as it came. What is done gives an accepted
-- site; other sizes leave the same slots and channels blocked; and what is set to what it is gives the same site. A slot and a channel that would be gone are
-- a position that `first_gone` would have found. Assumes nothing.
use Prim.Native.Nat.{ℕ, ◌+◌, ◌*◌, ◌/◌, ◌%◌, ◌≤◌, ◌<◌}
use mathlib.Core.Bool.{Bool, true, false, not, ◌&&◌, true≢false}
use mathlib.Core.List.{List}
use mathlib.Core.Logic.{◌↔◌}
use mathlib.Core.Path.{◌≡◌, refl, sym, ap, ◌∙◌}
use native.Mathlib.Decide.{dec_lt}
use native.Mathlib.Nat.{div-add-mod'}
use native.Mathlib.Omega.{arith}
use borrow.Author.Tests.{ltb-false}
use lib.Dec.{ltb}
use Rattle.laws.specs.Choice.{pick}
use Rattle.laws.proofs.Choice.{both, both_is}
use Rattle.laws.proofs.Search.{first-before, first-none}
use Rattle.positions.specs.Blocked.{most_positions, blocked_at, first_past, set_of}
use Rattle.positions.proofs.Sets.{in-set, set-eq, set_back}
use Rattle.site.specs.Record.{site_of, positions, size_ok, rule_ok, is_fine, fault_of}
use Rattle.site.specs.Edit.{answered}
use Rattle.site.specs.Held.{Held}
use Rattle.site.specs.Means.{Sized}
use Rattle.site.specs.declared.Site.{Site}
use Rattle.site.specs.declared.Fault.{Fault}
use Rattle.site.specs.declared.Fault.TheVariants.{Size, Rule, Blocked}
use Rattle.std.specs.Prelude.{Result, Ok, Err, is_ok}
use Rattle.site.proofs.Faults.{ok_is, and-fine, took-first, sizes, few-positions, fine-sized}
use Rattle.site.proofs.Accepted.{Sound, fine-sound, sound-fine}
use Rattle.site.proofs.Edits.{done-new, refused-old}
use Rattle.resize.specs.Sizes.{pair_in, pair_blocked, moved_at, gone_at, first_gone, sizes_fault, with_sizes, sized_of, set_slots_of, set_channels_of}
use Rattle.resize.specs.Others.{rule_edit_fault, with_rule, set_rule_of, blocked_edit_fault, with_blocked, set_blocked_of}
use Rattle.resize.proofs.Pairs.{pair_is, is-pair, no_slot, pair-few, slot_of, channel-of, position-pair, past-pair, none-lost}

-- ---- other slots and channels

-- a choice that came out with no fault, though its first way has one, took its second
took-second : (t : Bool) (f : Fault) (g : Result Unit Fault) → pick t (Err f) g ≡ Ok tt → t ≡ false
took-second true f g e = absurd (true≢false (sym (ap is_fine e)))
took-second false f g e = refl

-- what an edit of the sizes that is done tells
pub record SizesEdit (s : Site) (slots channels : ℕ) : Type 0 where
  pub was-fine : fault_of s ≡ Ok tt
  pub fits : size_ok s.cells slots channels ≡ true
  pub none-gone : 2048 ≤ first_gone s.blocked s.channels slots channels

pub sizes-edit-fine : (s : Site) (slots channels : ℕ) → sizes_fault s slots channels ≡ Ok tt → SizesEdit s slots channels
unfolding sizes_fault
sizes-edit-fine s slots channels e =
    let gone = first_gone s.blocked s.channels slots channels in
    let h = and-fine _ _ e in
    let fits : size_ok s.cells slots channels ≡ true = took-first (size_ok s.cells slots channels) _ Size h.1 in
    let none : Result Unit Fault = pick (ltb gone most_positions) (Err (Blocked gone)) (Ok tt) in
    let second : none ≡ Ok tt = ap (λ t. pick t none (Err Size)) (sym fits) ∙ h.1 in
    record { was-fine = h.0; fits = fits; none-gone = ltb-false _ _ (took-second (ltb gone most_positions) (Blocked gone) (Ok tt) second) }

-- what the code asks
pub some_channels : (s : Site) → fault_of s ≡ Ok tt → 0 < s.channels
some_channels s e = (fine-sized s e).channels_some

pub sizes_asked : (s : Site) (slots channels : ℕ) → is_ok (sizes_fault s slots channels) ≡ true
    → (s.slots ≤ 128) × (s.channels ≤ 16) × (0 < channels)
sizes_asked s slots channels e =
    let d = sizes-edit-fine s slots channels (ok_is _ e) in
    let old = fine-sized s d.was-fine in
    (old.slots_most, old.channels_most, (sizes _ _ _ d.fits).channels_some)

module _ (s : Site) (slots channels : ℕ) (done : sizes_fault s slots channels ≡ Ok tt) where
  edit : SizesEdit s slots channels
  edit = sizes-edit-fine s slots channels done

  old : Sized s
  old = fine-sized s edit.was-fine

  lost : (slot channel : ℕ) → pair_in slots channels slot channel ≡ false → pair_blocked s.blocked s.slots s.channels slot channel ≡ false
  lost = none-lost s.blocked s.slots s.channels slots channels old.slots_most old.channels_most edit.none-gone

  -- "what is blocked stays the same slots and channels"
  pub pairs-kept : (slot channel : ℕ)
      → pair_blocked (with_sizes s slots channels).blocked slots channels slot channel ≡ pair_blocked s.blocked s.slots s.channels slot channel
  unfolding pair_blocked
  pairs-kept slot channel = go (pair_in slots channels slot channel) refl
    where
      go : (t : Bool) → pair_in slots channels slot channel ≡ t
          → pair_blocked (with_sizes s slots channels).blocked slots channels slot channel ≡ pair_blocked s.blocked s.slots s.channels slot channel
      go true e =
          let new = sizes _ _ _ edit.fits in
          let h = pair_is slots channels slot channel e in
          let k = slot * channels + channel in
          let l : k < most_positions = pair-few slots channels slot channel new.slots_most new.channels_most e in
          let there = in-set (moved_at s.blocked s.slots s.channels channels) k l in
          rw (e, there, slot_of channels slot channel h.1, channel-of channels slot channel h.1) refl
      go false e = rw e (sym (lost slot channel e))

  sized-sound : Sound (with_sizes s slots channels)
  sized-sound =
      let was = fine-sound s edit.was-fine in
      let new = sizes _ _ _ edit.fits in record {
        sizes = edit.fits;
        rule-ok = was.rule-ok;
        loads = was.loads;
        rows = was.rows;
        none_past = λ k l h.
            in-set (moved_at s.blocked s.slots s.channels channels) k h
            ∙ lost (k / channels) (k % channels) (no_slot slots channels (k / channels) (k % channels) (past-pair slots channels k new.channels_some l));
      }

  -- an edit that is done gives an accepted site of an accepted site
  pub sized-fine : fault_of (sized_of s slots channels).site ≡ Ok tt
  unfolding sized_of answered
  sized-fine = rw (done-new (sizes_fault s slots channels) (with_sizes s slots channels) s done) (sound-fine (with_sizes s slots channels) sized-sound)

pub slots-fine : (s : Site) (slots : ℕ) → (set_slots_of s slots).answer ≡ Ok tt → fault_of (set_slots_of s slots).site ≡ Ok tt
unfolding sized_of answered
slots-fine s slots done = sized-fine s slots s.channels done

pub channels-fine : (s : Site) (channels : ℕ) → (set_channels_of s channels).answer ≡ Ok tt → fault_of (set_channels_of s channels).site ≡ Ok tt
unfolding sized_of answered
channels-fine s channels done = sized-fine s s.slots channels done

-- ---- the rule, and what is blocked

pub rule-fine : (s : Site) (rule : ℕ) → (set_rule_of s rule).answer ≡ Ok tt → fault_of (set_rule_of s rule).site ≡ Ok tt
unfolding set_rule_of answered rule_edit_fault
rule-fine s rule done =
    let h = and-fine _ _ done in
    let was = fine-sound s h.0 in
    rw (done-new (rule_edit_fault s rule) (with_rule s rule) s done)
    (sound-fine (with_rule s rule)
    (record {
      sizes = was.sizes;
      rule-ok = took-first (rule_ok rule) (Ok tt) Rule h.1;
      loads = was.loads;
      rows = was.rows;
      none_past = was.none_past;
    }))

pub blocked-fine : (s : Site) (set : List ℕ) → (set_blocked_of s set).answer ≡ Ok tt → fault_of (set_blocked_of s set).site ≡ Ok tt
unfolding set_blocked_of answered blocked_edit_fault
blocked-fine s set done =
    let h = and-fine _ _ done in
    let was = fine-sound s h.0 in
    let past = first_past set (positions s) in
    let none : 2048 ≤ past = ltb-false _ _ (took-second (ltb past most_positions) (Blocked past) (Ok tt) h.1) in
    rw (done-new (blocked_edit_fault s set) (with_blocked s set) s done)
    (sound-fine (with_blocked s set)
    (record {
      sizes = was.sizes;
      rule-ok = was.rule-ok;
      loads = was.loads;
      rows = was.rows;
      none_past = λ k l g. first-before (blocked_at set) (positions s) 2048 k l (omega arith);
    }))

-- ---- "the site with that one thing changed; a refused edit hands back the site it was given"

-- the new rule, and all else as it was
pub rule-means : (s : Site) (rule : ℕ) → (set_rule_of s rule).answer ≡ Ok tt
    → (set_rule_of s rule).site ≡ site_of s.cells s.slots s.channels s.loads s.reach s.blocked rule
unfolding set_rule_of answered
rule-means s rule done = done-new (rule_edit_fault s rule) (with_rule s rule) s done

-- a refused one hands back the site as it came
pub rule-refused : (s : Site) (rule : ℕ) → is_fine (set_rule_of s rule).answer ≡ false → (set_rule_of s rule).site ≡ s
unfolding set_rule_of answered
rule-refused s rule e = refused-old (rule_edit_fault s rule) (with_rule s rule) s e

-- what is blocked is the new set, in the place of what was, and all else as it was
pub blocked-means : (s : Site) (set : List ℕ) → (set_blocked_of s set).answer ≡ Ok tt
    → (set_blocked_of s set).site ≡ site_of s.cells s.slots s.channels s.loads s.reach set s.rule
unfolding set_blocked_of answered
blocked-means s set done = done-new (blocked_edit_fault s set) (with_blocked s set) s done

-- a refused one hands back the site as it came
pub blocked-refused : (s : Site) (set : List ℕ) → is_fine (set_blocked_of s set).answer ≡ false → (set_blocked_of s set).site ≡ s
unfolding set_blocked_of answered
blocked-refused s set e = refused-old (blocked_edit_fault s set) (with_blocked s set) s e

-- a slot and a channel of a site with so many of them, both from 0, that are blocked, by their position
abbrev pub BlockedPair : List ℕ → ℕ → ℕ → ℕ → ℕ → Type 0
BlockedPair set slots channels slot channel = (slot < slots) × (channel < channels) × (blocked_at set (slot * channels + channel) ≡ true)

pair-means : (set : List ℕ) (slots channels slot channel : ℕ)
    → (pair_blocked set slots channels slot channel ≡ true) ↔ BlockedPair set slots channels slot channel
unfolding pair_blocked
pair-means set slots channels slot channel = (
  λ e.
      let h = both (pair_in slots channels slot channel) _ e in
      let p = pair_is slots channels slot channel h.0 in
      (p.0, p.1, h.1),
  λ h. both_is (pair_in slots channels slot channel) _ (is-pair slots channels slot channel h.0 h.1) h.2,
)

-- site t is site s with these slots and channels: the same slots and channels are blocked in both, and all else is as it was
abbrev pub SizesChanged : Site → Site → ℕ → ℕ → Type 0
SizesChanged s t slots channels =
    (t ≡ site_of s.cells slots channels s.loads s.reach t.blocked s.rule)
    × ((slot channel : ℕ) → BlockedPair t.blocked slots channels slot channel ↔ BlockedPair s.blocked s.slots s.channels slot channel)

module _ (s : Site) (slots channels : ℕ) where
  -- these slots and channels, the same slots and channels blocked, and all else as it was
  pub sizes-means : (sized_of s slots channels).answer ≡ Ok tt → SizesChanged s (sized_of s slots channels).site slots channels
  unfolding sized_of answered
  sizes-means done =
      rw (done-new (sizes_fault s slots channels) (with_sizes s slots channels) s done) (
        refl,
        λ slot channel.
            let kept = pairs-kept s slots channels done slot channel in
            let new = pair-means (with_sizes s slots channels).blocked slots channels slot channel in
            let was = pair-means s.blocked s.slots s.channels slot channel in
            (λ h. was.0 (sym kept ∙ new.1 h), λ h. new.0 (kept ∙ was.1 h)),
      )

  -- a refused one hands back the site as it came
  pub sizes-refused : is_fine (sized_of s slots channels).answer ≡ false → (sized_of s slots channels).site ≡ s
  unfolding sized_of answered
  sizes-refused e = refused-old (sizes_fault s slots channels) (with_sizes s slots channels) s e

-- other slots, or other channels: the other of the two as it was
pub slots-means : (s : Site) (slots : ℕ) → (set_slots_of s slots).answer ≡ Ok tt → SizesChanged s (set_slots_of s slots).site slots s.channels
slots-means s slots = sizes-means s slots s.channels

pub channels-means : (s : Site) (channels : ℕ) → (set_channels_of s channels).answer ≡ Ok tt
    → SizesChanged s (set_channels_of s channels).site s.slots channels
channels-means s channels = sizes-means s s.slots channels

-- and a refused one hands back the site as it came
pub slots-refused : (s : Site) (slots : ℕ) → is_fine (set_slots_of s slots).answer ≡ false → (set_slots_of s slots).site ≡ s
slots-refused s slots = sizes-refused s slots s.channels

pub channels-refused : (s : Site) (channels : ℕ) → is_fine (set_channels_of s channels).answer ≡ false → (set_channels_of s channels).site ≡ s
channels-refused s channels = sizes-refused s s.slots channels

-- ---- what is set to what it is

module _ (s : Site) (fine : fault_of s ≡ Ok tt) where
  z : Sized s
  z = fine-sized s fine

  -- a position that the site has has its slot and channel, and one that it does not have is not blocked
  position-kept : (k : ℕ) → k < most_positions → moved_at s.blocked s.slots s.channels s.channels k ≡ blocked_at s.blocked k
  unfolding pair_blocked
  position-kept k l = go (dec_lt k (s.slots * s.channels))
    where
      go : Dec (k < s.slots * s.channels) → moved_at s.blocked s.slots s.channels s.channels k ≡ blocked_at s.blocked k
      go (yes m) = rw (position-pair s.slots s.channels k z.channels_some m, div-add-mod' k s.channels) refl
      go (no m) =
          let m' : s.slots * s.channels ≤ k = omega arith in
          let no-pair = no_slot s.slots s.channels (k / s.channels) (k % s.channels) (past-pair s.slots s.channels k z.channels_some m') in
          rw (no-pair, (fine-sound s fine).none_past k m' l) refl

  none-gone-same : first_gone s.blocked s.channels s.slots s.channels ≡ 2048
  unfolding first_gone gone_at
  none-gone-same =
      first-none (gone_at s.blocked s.channels s.slots s.channels) 0 2048 (omega arith)
      (λ k l m. go k m (dec_lt k (s.slots * s.channels)))
    where
      no-not : (b : Bool) → (b && not true) ≡ false
      no-not true = refl
      no-not false = refl

      go : (k : ℕ) → k < 2048 → Dec (k < s.slots * s.channels) → gone_at s.blocked s.channels s.slots s.channels k ≡ false
      go k l (yes m) = rw (position-pair s.slots s.channels k z.channels_some m) (no-not (blocked_at s.blocked k))
      go k l (no m) = rw ((fine-sound s fine).none_past k (omega arith) l) refl

  pub same-sizes : Held s → sized_of s s.slots s.channels ≡ record { site = s; answer = Ok tt }
  unfolding sized_of answered sizes_fault
  same-sizes held =
      let back : set_of (moved_at s.blocked s.slots s.channels s.channels) ≡ s.blocked =
      set-eq (moved_at s.blocked s.slots s.channels s.channels) (blocked_at s.blocked) position-kept
      ∙ set_back s.blocked held.blocked held.blocked_bits in
      simp (fine, (fine-sound s fine).sizes, none-gone-same, back)

  pub same_rule : set_rule_of s s.rule ≡ record { site = s; answer = Ok tt }
  unfolding set_rule_of answered rule_edit_fault
  same_rule = simp (fine, (fine-sound s fine).rule-ok)

  pub same_blocked : set_blocked_of s s.blocked ≡ record { site = s; answer = Ok tt }
  unfolding set_blocked_of answered blocked_edit_fault
  same_blocked =
      let none : first_past s.blocked (positions s) ≡ 2048 =
      first-none (blocked_at s.blocked) (positions s) 2048 (few-positions z) (fine-sound s fine).none_past in
      simp (fine, none)
