-- W8, blocked positions, over the public calls and in the documents' numbers. The theory knows usable positions, and a site's are its open ones; so what is
-- said here is what its theorems come to, and that no row of a greedy plan writes at a position which no row may take. Assumes nothing.
use mathlib.Core.Path.{◌≡◌, refl, sym, ap, subst, ◌∙◌}
use mathlib.Core.Bool.{Bool, true, false, ◌&&◌, not, true≢false}
use mathlib.Core.List.{List, [], ◌∷◌, ◌++◌}
use mathlib.Core.Logic.{◌↔◌, ⊎_elim}
use Prim.Native.Nat.{ℕ, ◌+◌, ◌*◌, ◌/◌, ◌%◌, ◌^◌, ◌≤◌, ◌<◌}
use native.Mathlib.Omega.{arith}
use native.Mathlib.Nat.{le_antisymm}
use borrow.Author.Tests.{eq-eqb, ltb-true, ltb-false, lt-ltb, le-ltb}
use lib.Dec.{ltb}
use lib.ListN.{length, get_or, take, drop, replicate, get_or-append}
use Rattle.laws.specs.Choice.{pick, Rising}
use Rattle.laws.specs.Sum.{count}
use Rattle.laws.proofs.Any.{none_any}
use Rattle.laws.proofs.Choice.{refute}
use Rattle.laws.proofs.Grid.{kept_byte}
use Rattle.laws.proofs.Stores.{length-list, list_at}
use Rattle.laws.proofs.Words.{none-word}
use Rattle.std.specs.Prelude.{Result, Ok, Err}
use Rattle.theory.specs.Net.{Net, Reserved, demand, taken}
use Rattle.theory.specs.Greedy.{Outcome, planned, no_room, sends, reserved, row, greedy}
use Rattle.theory.specs.Named.{FirstBarred}
use Rattle.theory.specs.Verdict.{TableVerdict, valid, barred, clash, wrong, table_verdict, most_demand}
use Rattle.theory.proofs.Exact.{greedy-fair, planned-size}
use Rattle.theory.proofs.Row.{row-at}
use Rattle.theory.proofs.Run.{run-good, run-begins, run_at}
use Rattle.theory.proofs.TableLaws.{check-valid, check-names-barred, check-names-clash, check-names-wrong}
use Rattle.positions.specs.Blocked.{blocked_at, any_in}
use Rattle.positions.proofs.Counts.{count-open}
use Rattle.positions.proofs.Room.{all-open}
use Rattle.site.specs.Record.{site_of, positions, size, fault_of, answer_with}
use Rattle.site.specs.Reach.{net_of}
use Rattle.site.specs.Means.{FaultMeans}
use Rattle.site.specs.Given.{Given, fault_given, done_given}
use Rattle.site.specs.declared.Site.{Site}
use Rattle.site.specs.declared.Fault.{Fault}
use Rattle.site.specs.declared.Fault.TheVariants as fault
use Rattle.site.proofs.Accepted.{net-open, fine-sound, sound-fine}
use Rattle.site.proofs.Given.{done-apart}
use Rattle.site.proofs.Means.{fault-means, fault-only}
use Rattle.judges.specs.Judges.{counted, load_answer}
use Rattle.judges.specs.Given.{load_given}
use Rattle.judges.proofs.Meaning.{holds-open}
use Rattle.words.specs.Words.{word_at, words_of}
use Rattle.planner.specs.Plan.{table_of, answer_of, plan_answer, plan_table}
use Rattle.planner.specs.Given.{plan_given}
use Rattle.planner.specs.declared.PlanError.TheVariants as plan
use Rattle.planner.proofs.Meaning.{done-means}
use Rattle.planner.proofs.Answer.{run-table}
use Rattle.checker.specs.Check.{verdict_of, checked_by, check_answer}
use Rattle.checker.specs.Given.{check_given}
use Rattle.checker.specs.declared.CheckError.TheVariants as check
use Rattle.wordforms.specs.Words.{sends_at}
use Rattle.wordtable.specs.Plan.{plan_words_answer, plan_words}
use Rattle.wordtable.specs.Check.{check_words_answer}
use Rattle.wordtable.specs.Forms.{to_bytes}
use Rattle.mender.specs.Mend.{mend_answer, mend_table}
use Rattle.mender.specs.Given.{mend_given}
use Rattle.records.specs.Given.{read_given, written_given}
use Rattle.records.specs.Reasons.{refusal, first_reason}
use Rattle.blockbits.specs.Blocks.{nothing_in}
use Rattle.sitehead.specs.Head.{is_ruled}
use Rattle.sitefile.specs.Before.{three_kinds, three_reasons, three_site}
use Rattle.sitefile.specs.Read.{read_site}
use Rattle.sitefile.specs.Write.{site_written, site_out}
use Rattle.sitefile.proofs.Before.{same_bytes-law, same_read, same-refused}
use Rattle.sitefile.specs.declared.SiteRead.{SiteRead}
use Rattle.demanded.specs.Numbers.{done, done_with, refused}
use Rattle.demanded.specs.Demands.{Accepted, LongEnough, WordsEnough, open_positions}
use Rattle.demanded.proofs.Numbers.{accepted-number, plan-number, load-number}
use Rattle.demanded.proofs.Names.{over-names}
use Rattle.promises.proofs.Demand1.{fault-other, fault-number, site-write-leaves}
use Rattle.demanded.proofs.Demand2.{check-is-valid}
use Rattle.promises.proofs.Words.{check-words-same, byte-is, valid-enough, room_for}
use Rattle.promises.proofs.Mending.{mended-checks}

-- ---- from a number back to the tests of a call: the record's fault, and then what is lent

-- an answer that no fault gives came after the record's own tests
module _ {E : Type 0} (give : Result Unit E → Given) (refuse : Fault → E) (passes : (f : Fault) → give (Err (refuse f)) ≡ fault_given f)
    (next : Result Unit E) (g : Given) (other : (f : Fault) → fault_given f ≡ g → ⊥) where
  went_on : (f : Result Unit Fault) → give (answer_with refuse f next) ≡ g → (f ≡ Ok tt) × (give next ≡ g)
  went_on (Ok u) e = (refl, e)
  went_on (Err f) e = absurd (other f (sym (passes f) ∙ e))

-- 4 and 22 are no fault's
not-faulty : (g : Given) → 3 < g.number → (g.number ≡ 20 → ⊥) → (g.number ≡ 24 → ⊥) → (f : Fault) → fault_given f ≡ g → ⊥
not-faulty g l n m f e =
    let same : (fault_given f).number ≡ g.number = ap (λ (x : Given). x.number) e in
    ⊎_elim (λ h. omega arith) (λ h. ⊎_elim (λ k. n (sym same ∙ k)) (λ k. m (sym same ∙ k)) h) (fault-number (Err f))

-- ---- "The planner skips them"

-- a position that no row may take, in the table of a greedy run: no row sends there, so none is forbidden there, and none reserves it
module _ (s : Net) (p : List ℕ) (e : greedy s ≡ planned p) (k : ℕ) (w : k < s.width) (shut : s.usable k ≡ false) where
  silent : (i : ℕ) → i ≤ s.cells → (j : ℕ) → j < i → reserved s.width (take (i * s.width) p) j k ≡ false
  silent i l j m =
      let good = run-good s (row s) (greedy-fair s) i (take (i * s.width) p) (run-begins s (row s) (greedy-fair s) s.cells p e i l) in
      refute _ (λ h. true≢false (sym (good.valid.allowed j k m w h) ∙ shut))

  idle-there : (i : ℕ) → i < s.cells → get_or p (i * s.width + k) 0 ≡ 0
  idle-there i l =
      let u = take (i * s.width) p in
      let none : taken s (reserved s.width u) i k ≡ false =
      none_any (λ j. s.clash j i && reserved s.width u j k) i (λ j m. rw (silent i (omega arith) j m) (and_no (s.clash j i))) in
      run_at s (row s) (greedy-fair s) s.cells p e i k l w ∙ row-at s u i k w ∙ rw (none, shut)
    where
      and_no : (b : Bool) → (b && false) ≡ false
      and_no true = refl
      and_no false = refl

module _ (s : Site) (t : List ℕ) (e : plan_given (plan_answer s t) ≡ done) where
  -- its byte stays 0 at a blocked position, in every row: neither reserved nor forbidden
  pub blocked-idle : (i k : ℕ) → i < s.cells → k < positions s → blocked_at s.blocked k ≡ true → get_or (plan_table s t) (i * positions s + k) 0 ≡ 0
  blocked-idle i k l w b =
      let h = (done-means s t).0 ((plan-number s t).0 e) in
      let p = h.2.0 in
      let is : plan_table s t ≡ p ++ drop (size s) t = run-table s t h.0 h.1 ∙ ap (λ o. table_of (size s) o ++ drop (size s) t) h.2.1 in
      ap (λ (x : List ℕ). get_or x (i * positions s + k) 0) is
      ∙ kept_byte (positions s) p (drop (size s) t) s.cells (planned-size (net_of s) p h.2.1) i k l w
      ∙ idle-there (net_of s) p h.2.1 k w (ap not b) i l

-- a run that is done, by the planner's tests
done-then : (short : Bool) (o : Outcome) → plan_given (pick short (Err plan.TableShort) (answer_of o)) ≡ done
    → (short ≡ false) × ((p : List ℕ) × (o ≡ planned p))
done-then true o e = let z : ◌≡◌ {A = ℕ} 4 0 = ap (λ (g : Given). g.number) e in absurd (omega arith)
done-then false (planned p) e = (refl, (p, refl))
done-then false (no_room c m) e = let z : ◌≡◌ {A = ℕ} 5 0 = ap (λ (g : Given). g.number) e in absurd (omega arith)

-- and the word planner's word is 0 there
pub blocked-word : (s : Site) (w : List ℕ) → plan_given (plan_words_answer s w) ≡ done → (k : ℕ) → k < positions s → blocked_at s.blocked k ≡ true
    → get_or (plan_words s w) k 0 ≡ 0
unfolding plan_words_answer plan_words
blocked-word s w e k l b =
    let short = ltb (length w) (positions s) in
    let f = went_on plan_given plan.Record (λ g. refl) _ done (λ g z. (fault-other g).0 (ap (λ (x : Given). x.number) z)) (fault_of s) e in
    let h = done-then short (greedy (net_of s)) f.1 in
    let p = h.1.0 in
    let n = positions s in
    let silence : (i : ℕ) → i < s.cells → reserved n p i k ≡ false = λ i m. ap sends (idle-there (net_of s) p h.1.1 k l (ap not b) i m) in
    rw (f.0, h.0, h.1.1)
    (get_or-append (words_of s.cells n (reserved n p)) (drop n w) 0 k (omega (arith, length-list (word_at s.cells (reserved n p)) n))
    ∙ list_at (word_at s.cells (reserved n p)) n k l
    ∙ none-word (λ i. reserved n p i k) s.cells silence)

-- ---- "a valid table reserves none of them", "the checker refuses a reservation there"

-- a table that the checker calls valid
pub valid-open : (s : Site) (t : List ℕ) → check_given (check_answer s t) ≡ done
    → (i k : ℕ) → i < s.cells → k < positions s → blocked_at s.blocked k ≡ true → get_or t (i * positions s + k) 0 ≡ 1 → ⊥
valid-open s t e i k l w b one =
    let v = (check-is-valid s t).0 e in
    true≢false (sym (v.2.allowed i k l w (eq-eqb _ 1 one)) ∙ ap not b)

-- words that the word checker calls valid: no cell's bit is set there
pub valid-open-words : (s : Site) (w : List ℕ) → check_given (check_words_answer s w) ≡ done
    → (i k : ℕ) → i < s.cells → k < positions s → blocked_at s.blocked k ≡ true → get_or w k 0 / 2 ^ i % 2 ≡ 1 → ⊥
valid-open-words s w e i k l m b one =
    let idle : List ℕ = replicate (size s) 0 in
    let enough = valid-enough s w e in
    let ok = sym (check-words-same s w idle enough (room_for s)).0 ∙ e in
    let accepted = ((check-is-valid s (to_bytes s w idle)).0 ok).0 in
    valid-open s (to_bytes s w idle) ok i k l m b (byte-is s w idle enough (room_for s) accepted i k l m ∙ one)

-- "The mender and both table forms follow": so no mended table has one
pub mended-open : (s : Site) (u l : List ℕ) (n : ℕ) → mend_given (mend_answer s u l) ≡ done_with (n ∷ [])
    → (i k : ℕ) → i < s.cells → k < positions s → blocked_at s.blocked k ≡ true → get_or (mend_table s u l) (i * positions s + k) 0 ≡ 1 → ⊥
mended-open s u l n e = valid-open s (mend_table s u l) (mended-checks s u l n e)

-- a 22, by the checkers' tests
barred-then : (short : Bool) (v : TableVerdict) (p c : ℕ) → check_given (pick short (Err check.TableShort) (verdict_of v)) ≡ refused 22 (p ∷ c ∷ [])
    → (short ≡ false) × ((i : ℕ) × (c ≡ i + 1) × (v ≡ barred p i))
unfolding verdict_of
barred-then true v p c e = let z : ◌≡◌ {A = ℕ} 4 22 = ap (λ (g : Given). g.number) e in absurd (omega arith)
barred-then false valid p c e = let z : ◌≡◌ {A = ℕ} 0 22 = ap (λ (g : Given). g.number) e in absurd (omega arith)
barred-then false (barred k i) p c e =
    let vs : k ∷ (i + 1) ∷ [] ≡ p ∷ c ∷ [] = ap (λ (g : Given). g.values) e in
    let at : k ≡ p = cc in
    let by : i + 1 ≡ c = cc in
    (refl, (i, sym by, ap (λ (q : ℕ). barred q i) at))
barred-then false (clash k a d) p c e = let z : ◌≡◌ {A = ℕ} 6 22 = ap (λ (g : Given). g.number) e in absurd (omega arith)
barred-then false (wrong i n) p c e = let z : ◌≡◌ {A = ℕ} 7 22 = ap (λ (g : Given). g.number) e in absurd (omega arith)

-- no two are the first
one-first : (k l i j : ℕ) → Rising k l (i ≤ j) → Rising l k (j ≤ i) → (k ≡ l) × (i ≡ j)
one-first k l i j r q =
    ⊎_elim (λ (a : k < l). absurd (⊎_elim (λ b. omega arith) (λ b. omega (arith, b.0)) q))
    (λ a. (a.0, ⊎_elim (λ b. absurd (omega (arith, a.0))) (λ b. le_antisymm a.1 b.1) q)) r

-- the first reservation on a blocked position is the one that the verdict names: "before 6", and before 7
module _ (s : Net) (res : Reserved) (k i : ℕ) (first : FirstBarred s res k i) where
  named : (v : TableVerdict) → table_verdict s res ≡ v → v ≡ barred k i
  named valid e =
      let b = first.shows in
      absurd (true≢false (sym ((check-valid s res e).allowed i k b.inside b.within b.held) ∙ b.closed))
  named (barred l j) e =
      let other = check-names-barred s res l j e in
      let same = one-first l k j i (other.earliest k i first.shows) (first.earliest l j other.shows) in
      rw (same.0, same.1)
  named (clash l a c) e = absurd ((check-names-clash s res l a c e).free k i first.shows)
  named (wrong j n) e = absurd ((check-names-wrong s res j n e).free k i first.shows)

module _ (s : Site) (lent due : ℕ) (res : Reserved) (p c : ℕ) where
  blocked-exactly : check_given (checked_by s lent due res) ≡ refused 22 (p ∷ c ∷ [])
      ↔ ((Accepted s) × (due ≤ lent) × ((i : ℕ) × (c ≡ i + 1) × FirstBarred (net_of s) res p i))
  unfolding verdict_of
  blocked-exactly = (
    λ e.
        let g = refused 22 (p ∷ c ∷ []) in
        let own = not-faulty g (omega arith) (λ z. omega arith) (λ z. omega arith) in
        let f = went_on check_given check.Record (λ h. refl) _ g own (fault_of s) e in
        let w = barred-then (ltb lent due) (table_verdict (net_of s) res) p c f.1 in
        ((accepted-number s).1 f.0, ltb-false lent due w.0, (w.1.0, w.1.1, check-names-barred (net_of s) res p w.1.0 w.1.2)),
    λ h.
        rw ((accepted-number s).0 h.0, le-ltb lent due h.1, named (net_of s) res p h.2.0 h.2.2 (table_verdict (net_of s) res) refl, h.2.1),
  )

-- 22 is given exactly where an accepted site's table is long enough and has such a reservation, with the "lowest position, then cell"
pub twenty-two : (s : Site) (t : List ℕ) (p c : ℕ) → check_given (check_answer s t) ≡ refused 22 (p ∷ c ∷ [])
    ↔ ((Accepted s) × (LongEnough s t) × ((i : ℕ) × (c ≡ i + 1) × FirstBarred (net_of s) (reserved (positions s) t) p i))
unfolding check_answer
twenty-two s t p c = blocked-exactly s (length t) (size s) (reserved (positions s) t) p c

pub twenty-two-words : (s : Site) (w : List ℕ) (p c : ℕ) → check_given (check_words_answer s w) ≡ refused 22 (p ∷ c ∷ [])
    ↔ ((Accepted s) × (WordsEnough s w) × ((i : ℕ) × (c ≡ i + 1) × FirstBarred (net_of s) (sends_at w) p i))
unfolding check_words_answer
twenty-two-words s w p c = blocked-exactly s (length w) (positions s) (sends_at w) p c

-- ---- "N in the load test becomes the count of open positions"

-- the test holds exactly where no loaded cell's demand is above it
pub load-open : (s : Site) → Accepted s → load_given (load_answer s) ≡ done ↔ most_demand (net_of s) (counted s) ≤ open_positions s
load-open s ok =
    let h = holds-open s ((accepted-number s).0 ok) in
    (λ e. h.0 ((load-number s).0 e), λ l. (load-number s).1 (h.1 l))

-- and what a cell is over by is counted from it
pub over-open : (s : Site) (cell m : ℕ) → load_given (load_answer s) ≡ done_with (cell ∷ m ∷ [])
    → (i : ℕ) × (cell ≡ i + 1) × (demand (net_of s) i ≡ open_positions s + m)
over-open s cell m e = let n = over-names s cell m e in (n.0, n.1, omega (arith, n.2.by, n.2.exceeds, net-open s))

-- the blocked positions and the open ones are all; where nothing is blocked all are open, and N is what it was
pub open-and-blocked : (s : Site) → count (blocked_at s.blocked) (positions s) + open_positions s ≡ positions s
open-and-blocked s = count-open s.blocked (positions s)

pub nothing-blocked : (s : Site) → any_in s.blocked (positions s) ≡ false → open_positions s ≡ positions s
nothing-blocked s e = all-open s.blocked (positions s) e

-- ---- "refusal 4 still counts all FT positions"

plan-four : (short : Bool) (o : Outcome) → plan_given (pick short (Err plan.TableShort) (answer_of o)) ≡ refused 4 [] → short ≡ true
plan-four true o e = refl
plan-four false (planned u) e = let z : ◌≡◌ {A = ℕ} 0 4 = ap (λ (g : Given). g.number) e in absurd (omega arith)
plan-four false (no_room c m) e = let z : ◌≡◌ {A = ℕ} 5 4 = ap (λ (g : Given). g.number) e in absurd (omega arith)

check-four : (short : Bool) (v : TableVerdict) → check_given (pick short (Err check.TableShort) (verdict_of v)) ≡ refused 4 [] → short ≡ true
unfolding verdict_of
check-four true v e = refl
check-four false valid e = let z : ◌≡◌ {A = ℕ} 0 4 = ap (λ (g : Given). g.number) e in absurd (omega arith)
check-four false (barred k i) e = let z : ◌≡◌ {A = ℕ} 22 4 = ap (λ (g : Given). g.number) e in absurd (omega arith)
check-four false (clash k a c) e = let z : ◌≡◌ {A = ℕ} 6 4 = ap (λ (g : Given). g.number) e in absurd (omega arith)
check-four false (wrong i n) e = let z : ◌≡◌ {A = ℕ} 7 4 = ap (λ (g : Given). g.number) e in absurd (omega arith)

module _ (s : Site) (lent due : ℕ) where
  four : {E : Type 0} (give : Result Unit E → Given) (refuse : Fault → E) (short : E) (next : Result Unit E)
      → ((f : Fault) → give (Err (refuse f)) ≡ fault_given f) → give (Err short) ≡ refused 4 []
      → ((t : Bool) → give (pick t (Err short) next) ≡ refused 4 [] → t ≡ true)
      → give (answer_with refuse (fault_of s) (pick (ltb lent due) (Err short) next)) ≡ refused 4 [] ↔ ((Accepted s) × (lent < due))
  four give refuse short next passes q only = (
    λ e.
        let g = refused 4 [] in
        let own = not-faulty g (omega arith) (λ z. omega arith) (λ z. omega arith) in
        let f = went_on give refuse passes (pick (ltb lent due) (Err short) next) g own (fault_of s) e in
        ((accepted-number s).1 f.0, ltb-true lent due (only (ltb lent due) f.1)),
    λ h. rw ((accepted-number s).0 h.0, lt-ltb lent due h.1) q,
  )

-- by the planner and the checker, over bytes and over words: exactly where fewer than IFT bytes, or FT words, are lent
pub four-counts-all : (s : Site) (t w : List ℕ)
    → (plan_given (plan_answer s t) ≡ refused 4 [] ↔ ((Accepted s) × (length t < s.cells * (s.slots * s.channels))))
    × (check_given (check_answer s t) ≡ refused 4 [] ↔ ((Accepted s) × (length t < s.cells * (s.slots * s.channels))))
    × (plan_given (plan_words_answer s w) ≡ refused 4 [] ↔ ((Accepted s) × (length w < s.slots * s.channels)))
    × (check_given (check_words_answer s w) ≡ refused 4 [] ↔ ((Accepted s) × (length w < s.slots * s.channels)))
unfolding plan_answer check_answer plan_words_answer check_words_answer
four-counts-all s t w =
    let run = answer_of (greedy (net_of s)) in
    let bytes = table_verdict (net_of s) (reserved (positions s) t) in
    let words = table_verdict (net_of s) (sends_at w) in (
      four s (length t) (size s) plan_given plan.Record plan.TableShort run (λ f. refl) refl (λ b. plan-four b (greedy (net_of s))),
      four s (length t) (size s) check_given check.Record check.TableShort (verdict_of bytes) (λ f. refl) refl (λ b. check-four b bytes),
      four s (length w) (positions s) plan_given plan.Record plan.TableShort run (λ f. refl) refl (λ b. plan-four b (greedy (net_of s))),
      four s (length w) (positions s) check_given check.Record check.TableShort (verdict_of words) (λ f. refl) refl (λ b. check-four b words),
    )

-- ---- "20, blocked bit at or past FT (the lowest), after 3"

pub twenty : (s : Site) (k : ℕ) → done_given (fault_of s) ≡ refused 20 (k ∷ []) ↔ FaultMeans s (Err (fault.Blocked k))
twenty s k = (
  λ e. let is : fault_of s ≡ Err (fault.Blocked k) = done-apart (fault_of s) (Err (fault.Blocked k)) e in rw is at (fault-means s),
  λ m. ap done_given (fault-only s (Err (fault.Blocked k)) m),
)

-- any set of a site's positions may be blocked, all of them too
abbrev pub blocking : Site → List ℕ → Site
blocking s set = site_of s.cells s.slots s.channels s.loads s.reach set s.rule

pub any-set-allowed : (s : Site) → Accepted s → (set : List ℕ)
    → ((k : ℕ) → positions s ≤ k → k < 2048 → blocked_at set k ≡ false) → Accepted (blocking s set)
any-set-allowed s ok set none =
    let h = fine-sound s ((accepted-number s).0 ok) in
    (accepted-number (blocking s set)).1
    (sound-fine (blocking s set) (record { sizes = h.sizes; rule-ok = h.rule-ok; loads = h.loads; rows = h.rows; none_past = none }))

-- ---- "it is absent when nothing is blocked": under rule 1 the file is byte for byte what it was, and every old file reads as before, under rule 1

pub unblocked-written : (s : Site) (out : List ℕ) → s.rule ≡ 1 → nothing_in s.blocked ≡ true → (written_given (site_written s out)).number ≡ 0
    → ((written_given (site_written s out)).values ≡ length (three_kinds s) ∷ []) × (site_out s out ≡ three_kinds s ++ drop (length (three_kinds s)) out)
unblocked-written s out one e zero =
    subst (λ (file : List ℕ). ((written_given (site_written s out)).values ≡ length file ∷ []) × (site_out s out ≡ file ++ drop (length file) out))
    (same_bytes-law s one e) ((site-write-leaves s out).if_done zero)

pub old-read : (file : List ℕ) → first_reason (three_reasons file) ≡ Ok tt
    → (read_given (read_site file).answer ≡ done) × ((read_site file).site ≡ three_site file)
old-read file e =
    let is = same_read file e in
    (ap (λ (r : SiteRead). read_given r.answer) is, ap (λ (r : SiteRead). r.site) is)

-- and what was refused is refused as it was, but for bytes after kind 3, and for a head of kind 5
pub old-refused : (file : List ℕ) (n at : ℕ) → is_ruled file ≡ false → first_reason (three_reasons file) ≡ Err (refusal n at) → (n ≡ 12 → ⊥)
    → read_given (read_site file).answer ≡ read_given (Err (refusal n at))
old-refused file n at plain e other = ap read_given (same-refused file n at plain e other)
