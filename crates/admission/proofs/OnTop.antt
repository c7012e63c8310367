-- The end of a call on top of the loads, by what the search of the rooms found: where a cell is over it is named as the load test names it (`over_named`), and
-- where none is the rooms that are laid are what the loads leave, so that what is chosen by them is the answer (`on-top`).
-- Assumes nothing.
use Prim.Native.Nat.{ℕ, ◌+◌, ◌-◌, ◌≤◌, ◌<◌}
use mathlib.Core.Bool.{Bool, true, false}
use mathlib.Core.List.{List}
use mathlib.Core.Path.{◌≡◌, sym, ap, ◌∙◌}
use native.Mathlib.Omega.{arith}
use lib.ListN.{get_or, replicate}
use lib.Seq.{sets}
use Rattle.std.specs.Prelude.{Ok, Err}
use Rattle.laws.specs.Bits.{bit_in}
use Rattle.laws.specs.Part.{list_of}
use Rattle.laws.specs.Search.{first}
use Rattle.theory.specs.Net.{everyone, room, demand}
use Rattle.theory.specs.Verdict.{class_verdict}
use Rattle.positions.specs.Blocked.{open_in}
use Rattle.site.specs.Record.{positions, fault_of}
use Rattle.site.specs.Reach.{clash_of, clash_rows, net_of}
use Rattle.site.specs.declared.Site.{Site}
use Rattle.site.proofs.Accepted.{net-open}
use Rattle.site.proofs.Faults.{fine-sized}
use Rattle.judges.specs.Judges.{load_answer}
use Rattle.judges.proofs.Laws.{demand-is}
use Rattle.chainwords.specs.Chain.{chain_in}
use Rattle.demands.specs.Words.{demand_at}
use Rattle.flowlist.specs.declared.Flow.{Flow}
use Rattle.admission.specs.Admit.{is_nested}
use Rattle.admission.specs.Beside.{as_beside, beside_in}
use Rattle.admission.specs.Code.{left_in, past_room, rooms_for, chosen_in}
use Rattle.admission.specs.declared.BesideError.TheVariants.{Over}
use Rattle.admission.proofs.Beside.{is_over, passes-quiet, over-beside, quiet-beside}
use Rattle.admission.proofs.Choosing.{chosen_is}
use Rattle.admission.proofs.Over.{all_asked, all-over, all_hold}
use Rattle.admission.proofs.Rooms.{rooms-most, stands}
use Rattle.admission.proofs.Suits.{class-in-rows}

-- what the clash rows say of the class is said of the site
pub class_said : (s : Site) (rows : List ℕ) → bit_in rows ≡ clash_of s → (t b : Bool)
    → t ≡ is_nested (class_verdict (chain_in s.cells (bit_in rows)) everyone) → t ≡ b → is_nested (class_verdict (net_of s) everyone) ≡ b
class_said s rows relation t b e h = sym (ap is_nested (class-in-rows s rows relation)) ∙ sym e ∙ h

module _ (s : Site) (fine : fault_of s ≡ Ok tt) (class : is_nested (class_verdict (net_of s) everyone) ≡ true) (rows : List ℕ)
    (relation : bit_in rows ≡ clash_of s) (r : ℕ) (counted : r ≡ open_in s.blocked (positions s))
    (i : ℕ) (e : i ≡ first (past_room s.loads rows r) 0 s.cells) where
  is-room : r ≡ room (net_of s)
  is-room = counted ∙ sym (net-open s)

  -- a cell is over, and by d - r
  module _ (over : i < s.cells) (d : ℕ) (asks : d ≡ demand_at s.loads (get_or rows i 0) i) where
    demand-here : d ≡ demand (net_of s) i
    demand-here = asks ∙ demand-is s rows relation i

    pub over_most : r ≤ d
    over_most = omega (arith, demand-here, (all-over s fine class rows relation r is-room i e over).0)

    pub over_named : (f : ℕ → Flow) (n : ℕ) → n ≤ 16 → beside_in s f n ≡ Err (Over (i + 1) (d - r))
    over_named f n few =
        rw demand-here (over-beside s f n fine few class _ _ (all-over s fine class rows relation r is-room i e over).1)

  -- none is
  module _ (last : s.cells ≤ i) (rooms : List ℕ) (laid : rooms ≡ sets (replicate 32 0) 0 (list_of (left_in s.loads rows r) i)) where
    rooms_are : rooms ≡ rooms_for true s.loads rows r s.cells
    rooms_are =
        laid
        ∙ ap (λ (n : ℕ). sets (replicate 32 0) 0 (list_of (left_in s.loads rows r) n)) (all_asked s fine class rows relation r is-room i e last)

    pub rooms_few : r ≤ 2048 → (k : ℕ) → k < 32 → get_or rooms k 0 ≤ 65535
    rooms_few few k l =
        omega (
          arith,
          ap (λ (t : List ℕ). get_or t k 0) rooms_are,
          rooms-most true s.loads rows r s.cells k (fine-sized s fine).cells_most l,
          few,
        )

    pub on-top : rows ≡ clash_rows s → (f : ℕ → Flow) (n : ℕ) → n ≤ 16 → as_beside (chosen_in s.cells s.slots f n rows rooms) ≡ beside_in s f n
    on-top made f n few =
        let quiet : is_over (load_answer s) ≡ false = ap is_over (all_hold s fine class rows relation r is-room i e last) in
        ap (λ (t : List ℕ). as_beside (chosen_in s.cells s.slots f n rows t)) rooms_are
        ∙ ap as_beside
        (chosen_is (net_of s) s f n fine few class rows (rooms_for true s.loads rows r s.cells)
        (λ own inside. stands s fine rows made relation r counted class own inside true (λ _. passes-quiet s quiet fine)))
        ∙ sym (quiet-beside s f n quiet)
