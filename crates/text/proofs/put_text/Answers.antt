-- `text::put_text` meets its contract: a text copied into the part from `at` on is stored there. Assumes nothing.
use Rattle.std.proofs.Common.{sym, ap, ◌≡◌, ◌≤◌, ◌+◌, ◌∙◌, List, ℕ, length, take, drop, append_assoc}
use lib.Seq.{sets, sets-eq}
use Rattle.laws.specs.Part.{put}
use Rattle.laws.proofs.Part.{back}
use Rattle.text.proofs.put_text.Goals as goal

-- a part replaced is a run of stores
put-sets : (l vs : List ℕ) (i : ℕ) → i + length vs ≤ length l → put i (length vs) vs l ≡ sets l i vs
unfolding put
put-sets l vs i h = sym (append_assoc (take i l) vs (drop (i + length vs) l)) ∙ sym (sets-eq vs l i h)

pub returns-clause-stored : goal.returns-clause-stored
returns-clause-stored c = let a = c.args in
    back a.at (length a.text.now) a.out.now c.copy_from_slice.new.self
    ∙ ap (λ (r : List ℕ). put a.at (length a.text.now) r a.out.now) c.copy_from_slice.ensures.after
    ∙ put-sets a.out.now a.text.now a.at c.requires
