-- The worked shares of the documents, computed from the definition: the number, the share, the queue bound, the delay bound. Assumes nothing.
use mathlib.Core.List.{[], ◌∷◌, map}
use mathlib.Core.Path.{◌≡◌, refl}
use Rattle.site.specs.Given.{as_list}
use Rattle.site.specs.Record.{up_to}
use Rattle.shares.specs.Given.{share_given}
use Rattle.shares.specs.Share.{rounded_up, default_repeats, share_of}

-- T=3 with (3,4) and (3,5), each sent once, and W4's: (3,4) sent twice, (3,5) four times
pub worked : map (λ a. as_list (share_given a)) (share_of 3 3 4 1 ∷ share_of 3 3 5 1 ∷ share_of 3 3 4 2 ∷ share_of 3 3 5 4 ∷ [])
    ≡ (0 ∷ 3 ∷ 6 ∷ 6 ∷ []) ∷ (0 ∷ 2 ∷ 5 ∷ 8 ∷ []) ∷ (0 ∷ 6 ∷ 6 ∷ 6 ∷ []) ∷ (0 ∷ 8 ∷ 5 ∷ 8 ∷ []) ∷ []
unfolding share_of rounded_up up_to
worked = refl

-- W12: "A caller that gives no k gets 2": what the worked shares of document 01 are without a k, as the contract of `share` has them. The default stands
-- here by its name: another default makes other shares
pub worked-no-k : map (λ a. as_list (share_given a)) (share_of 3 3 4 default_repeats ∷ share_of 3 3 5 default_repeats ∷ [])
    ≡ (0 ∷ 6 ∷ 6 ∷ 6 ∷ []) ∷ (0 ∷ 4 ∷ 5 ∷ 8 ∷ []) ∷ []
unfolding share_of rounded_up up_to
worked-no-k = refl

-- repeats outside 1 to 4 are 15
pub worked-bad : map (λ a. as_list (share_given a)) (share_of 3 3 4 0 ∷ share_of 3 3 4 5 ∷ []) ≡ (15 ∷ []) ∷ (15 ∷ []) ∷ []
unfolding share_of rounded_up up_to
worked-bad = refl
