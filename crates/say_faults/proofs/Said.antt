-- The pieces, written one after the other, are the lines of the list of faults, and the count is its length. Assumes nothing.
--     piece-more      a cell more, as the loop counts
--     check-all-said  all pieces and the count
--     things-are      the positions' faults and the wrong counts together
use mathlib.Core.Path.{◌≡◌, refl, sym, ap, ap₂, ◌∙◌}
use mathlib.Core.List.{List, [], ◌∷◌, ◌++◌, append_assoc}
use Prim.Native.Nat.{ℕ, zero, suc, ◌+◌}
use native.Mathlib.Omega.{arith}
use lib.ListN.{length}
use Rattle.laws.specs.Choice.{pick}
use Rattle.laws.specs.Sum.{sum, count}
use Rattle.laws.proofs.Sums.{sum-add}
use Rattle.theory.specs.Greedy.{reserved}
use Rattle.theory.specs.Verdict.{TableVerdict}
use Rattle.faults.specs.Faults.{in_turn, barred_all, clashes_with, clashes_all, wrong_all, barred_by, clash_by}
use Rattle.faults.proofs.InTurn.{turn_more}
use Rattle.faults.proofs.Once.{faults-length}
use Rattle.site.specs.Record.{positions}
use Rattle.site.specs.Reach.{net_of}
use Rattle.site.specs.declared.Site.{Site}
use Rattle.checker.specs.Check.{verdict_of}
use Rattle.verdicts.specs.Said.{check_said}
use Rattle.say_faults.specs.Said.{table_faults, faults_said, shown_in, fault_in, shown_said, piece_said, placed_at, things_said, check_all_said}
use Rattle.say_faults.specs.declared.Piece.{Piece}
use Rattle.say_faults.specs.declared.Piece.TheVariants.{AtBlocked, Clashing, Miscounts}

-- one list of faults after another
said-append : (s : Site) (l m : List TableVerdict) → faults_said s (l ++ m) ≡ faults_said s l ++ faults_said s m
unfolding faults_said
said-append s [] m = refl
said-append s (v ∷ l) m =
    ap (λ (x : List ℕ). check_said s (verdict_of v) ++ x) (said-append s l m) ∙ sym
    (append_assoc (check_said s (verdict_of v)) (faults_said s l) (faults_said s m))

pub piece-more : (s : Site) (t : List ℕ) (piece : Piece) (i : ℕ) → piece_said s t piece (i + 1) ≡ piece_said s t piece i ++ shown_said s t piece i
piece-more s t piece i =
    ap (faults_said s) (turn_more (λ k. pick (shown_in s t piece k) (fault_in s t piece k ∷ []) []) i) ∙ said-append s _ _

said-turn : (s : Site) (g : ℕ → List TableVerdict) (n : ℕ) → in_turn (λ k. faults_said s (g k)) n ≡ faults_said s (in_turn g n)
unfolding in_turn faults_said
said-turn s g zero = refl
said-turn s g (suc n) = ap (λ (x : List ℕ). x ++ faults_said s (g n)) (said-turn s g n) ∙ sym (said-append s (in_turn g n) (g n))

turn-eq : {A : Type 0} (f g : ℕ → List A) (n : ℕ) → ((k : ℕ) → f k ≡ g k) → in_turn f n ≡ in_turn g n
unfolding in_turn
turn-eq {A = A} f g zero h = refl
turn-eq {A = A} f g (suc n) h = ap₂ (λ (x y : List A). x ++ y) (turn-eq f g n h) (h n)

module _ (s : Site) (t : List ℕ) where
  pub check-all-said : check_all_said s t ≡ faults_said s (table_faults s t) ++ things_said s t
  check-all-said =
      let net = net_of s in
      let res = reserved (positions s) t in
      let n = positions s in
      let bars = in_turn (barred_all net res) n in
      let clashes = in_turn (clashes_all net res) n in
      let rest = wrong_all net res in
      let one : in_turn (λ k. piece_said s t (AtBlocked k) s.cells) n ≡ faults_said s bars = said-turn s (barred_all net res) n in
      let two : in_turn (λ k. in_turn (λ a. piece_said s t (Clashing k a) s.cells) s.cells) n ≡ faults_said s clashes =
      turn-eq _ _ n (λ k. said-turn s (clashes_with net res k) s.cells) ∙ said-turn s (clashes_all net res) n in
      let after = said-append s clashes rest in
      let whole = said-append s bars (clashes ++ rest) in
      rw (
        one,
        two,
        whole,
        after,
        append_assoc (faults_said s bars) (faults_said s clashes ++ faults_said s rest) (things_said s t),
        append_assoc (faults_said s clashes) (faults_said s rest) (things_said s t),
      )

  pub things-are : sum (placed_at s t) (positions s) + count (shown_in s t Miscounts) s.cells ≡ length (table_faults s t)
  things-are =
      let net = net_of s in
      let res = reserved (positions s) t in
      omega (
        arith,
        faults-length net res,
        sum-add (λ k. count (barred_by net res k) s.cells) (λ k. sum (λ a. count (clash_by net res k a) s.cells) s.cells) (positions s),
      )
