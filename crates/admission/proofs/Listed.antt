-- The answer for the first 16 flows of a list is the answer for the list: of at most 16 flows all are there, and of more none is asked for.
-- Assumes nothing.
use Prim.Native.Nat.{ℕ}
use mathlib.Core.Bool.{true}
use mathlib.Core.List.{List}
use mathlib.Core.Logic.{⊎_elim}
use mathlib.Core.Path.{◌≡◌, refl, ap, fun_ext}
use borrow.Author.Tests.{ltb-false}
use lib.Dec.{ltb}
use lib.ListN.{get_or, length}
use Rattle.laws.proofs.Choice.{cases}
use Rattle.theory.specs.Net.{Net, loaded}
use Rattle.theory.specs.Verdict.{load_verdict}
use Rattle.site.specs.Reach.{net_of}
use Rattle.site.specs.declared.Site.{Site}
use Rattle.admitting.specs.Best.{idle}
use Rattle.flowlist.specs.List.{zero_flow, flow_at, gathered, few}
use Rattle.flowlist.specs.declared.Flow.{Flow}
use Rattle.flowlist.proofs.Laws.{gathered-all}
use Rattle.admission.specs.Admit.{answer_from, answer_in, admit_answer}
use Rattle.admission.specs.Beside.{is_asked, beside_where, beside_in, beside_answer}

too_many-law : (start : Net) (s : Site) (f g : ℕ → Flow) (n : ℕ) → ltb 16 n ≡ true → answer_from start s f n ≡ answer_from start s g n
unfolding answer_from
too_many-law start s f g n e = rw e refl

-- the flows that are gathered, by place
abbrev here : List Flow → ℕ → Flow
here fs k = get_or (gathered fs (few (length fs))).list k zero_flow

from-answer : (start : Net) (s : Site) (fs : List Flow) → answer_from start s (here fs) (length fs) ≡ answer_from start s (flow_at fs) (length fs)
from-answer start s fs =
    ⊎_elim (λ e. too_many-law start s (here fs) (flow_at fs) (length fs) e)
    (λ e. ap (λ (f : ℕ → Flow). answer_from start s f (length fs)) (fun_ext (gathered-all fs (ltb-false 16 (length fs) e)))) (cases (ltb 16 (length fs)))

pub list-answer : (s : Site) (fs : List Flow) → answer_in s (here fs) (length fs) ≡ admit_answer s fs
list-answer s fs = from-answer (idle (net_of s)) s fs

pub list-beside : (s : Site) (fs : List Flow) → beside_in s (here fs) (length fs) ≡ beside_answer s fs
unfolding beside_in
list-beside s fs = ap (beside_where (is_asked s (length fs)) (load_verdict (net_of s) (loaded (net_of s)))) (from-answer (net_of s) s fs)
