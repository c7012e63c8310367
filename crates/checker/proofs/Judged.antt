-- From what the searches find to the verdict. The search for a reservation on a blocked position looks at no load and no clash, those for a clash at no
-- load and no blocked position, and the search for a wrong count at no clash and no blocked position, so each is stated over a problem without them,
-- and has the whole problem's answer. Assumes nothing.
use mathlib.Core.Path.{◌≡◌, refl, sym, ap, ◌∙◌}
use mathlib.Core.Bool.{Bool}
use mathlib.Core.List.{List}
use Prim.Native.Nat.{ℕ, ◌+◌, ◌*◌, ◌≤◌, ◌<◌, zero-le}
use native.Mathlib.Omega.{arith}
use lib.ListN.{length}
use borrow.Author.Tests.{lt-ltb, le-ltb, ltb-true}
use Rattle.laws.specs.Bits.{bit_at, bit_in}
use Rattle.laws.specs.Search.{first}
use Rattle.laws.specs.Sum.{count}
use Rattle.laws.proofs.Search.{first_passes, first-most, first-same}
use Rattle.laws.proofs.Words.{word-bit}
use Rattle.theory.specs.Net.{Net, Reserved, unblocked}
use Rattle.theory.specs.Greedy.{reserved}
use Rattle.theory.specs.Verdict.{
  valid,
  barred,
  clash,
  wrong,
  holder_at,
  barred_at,
  lowest_barred,
  second_at,
  clashes_at,
  first_at,
  lowest_clash,
  wrong_in,
  lowest_wrong,
  open_verdict,
  table_verdict,
}
use Rattle.std.specs.Prelude.{Result, Ok, Err}
use Rattle.site.specs.Record.{positions, size, fault_of}
use Rattle.site.specs.Reach.{is_open, net_in, net_of}
use Rattle.site.specs.declared.Site.{Site}
use Rattle.site.proofs.Faults.{fine-sized, few-positions, few_bytes}
use Rattle.words.specs.Words.{word_at}
use Rattle.words.specs.Clashes.{second_in, first_in}
use Rattle.words.proofs.Clashes.{second_word, first_word}
use Rattle.rowcounts.specs.Counts.{load_net}
use Rattle.checker.specs.Marks.{bar_net, clash_net, clashing}
use Rattle.checker.specs.Check.{verdict_of, checked_by, check_answer}
use Rattle.checker.specs.declared.CheckError.{CheckError}
use Rattle.checker.specs.declared.CheckError.TheVariants.{Blocked, Clash, Count}

-- a second cell is looked for up to the last cell
pub second-most : (cells : ℕ) (rows : List ℕ) (word a : ℕ) → a < cells → second_in word rows cells a ≤ cells
unfolding second_in
second-most cells rows word a h = first-most _ (a + 1) cells (omega arith)

module _ (cells n : ℕ) (rows t : List ℕ) where
  -- at the lowest position with a clash there is a first cell
  first_below : {p : ℕ} → p ≡ lowest_clash (clash_net cells n rows) (reserved n t) → p < n → first_at (clash_net cells n rows) (reserved n t) p < cells
  unfolding lowest_clash
  first_below e h = rw e (ltb-true _ cells (first_passes (clashing (clash_net cells n rows) (reserved n t)) 0 n zero-le (rw e at h)))

  module _ (p : ℕ) {word : ℕ} (whole : word ≡ word_at cells (reserved n t) p) where
    is-first : {a : ℕ} → a ≡ first_in word rows cells → a ≡ first_at (clash_net cells n rows) (reserved n t) p
    is-first f = f ∙ ap (λ x. first_in x rows cells) whole ∙ first_word (clash_net cells n rows) rows refl (reserved n t) p

    is-second : {a c : ℕ} → a < cells → c ≡ second_in word rows cells a → c ≡ second_at (clash_net cells n rows) (reserved n t) p a
    is-second {a} h g = g ∙ ap (λ x. second_in x rows cells a) whole ∙ second_word (clash_net cells n rows) rows refl (reserved n t) p a h

    pub first-inside : {a : ℕ} → p ≡ lowest_clash (clash_net cells n rows) (reserved n t) → p < n → a ≡ first_in word rows cells → a < cells
    first-inside e h f = rw (is-first f) (first_below e h)

module _ (cells n : ℕ) (loads rows t : List ℕ) where
  -- the whole problem, with the rows as its clash relation and nothing blocked
  abbrev pub whole : Net
  whole = net_in cells n loads (bit_in rows) unblocked

  same_clash : lowest_clash (clash_net cells n rows) (reserved n t) ≡ lowest_clash whole (reserved n t)
  unfolding lowest_clash first_at clashes_at second_at
  same_clash = refl

  same_first : (p : ℕ) → first_at (clash_net cells n rows) (reserved n t) p ≡ first_at whole (reserved n t) p
  unfolding first_at clashes_at second_at
  same_first p = refl

  same_second : (p a : ℕ) → second_at (clash_net cells n rows) (reserved n t) p a ≡ second_at whole (reserved n t) p a
  unfolding second_at
  same_second p a = refl

  same-wrong : lowest_wrong (load_net cells n loads) (reserved n t) ≡ lowest_wrong whole (reserved n t)
  unfolding lowest_wrong wrong_in
  same-wrong = refl

  module _ {p : ℕ} (lowest : p ≡ lowest_clash (clash_net cells n rows) (reserved n t)) where
    pub is-clash : {word a c : ℕ} → p < n → word ≡ word_at cells (reserved n t) p → a ≡ first_in word rows cells → c ≡ second_in word rows cells a
        → Err (Clash p (a + 1) (c + 1)) ≡ verdict_of (open_verdict whole (reserved n t))
    unfolding open_verdict verdict_of
    is-clash {word} {a} {c} h w f g =
        let at : a < cells = first-inside cells n rows t p w lowest h f in
        let e : clash p a c ≡ open_verdict whole (reserved n t) =
        rw (
          sym (lowest ∙ same_clash),
          lt-ltb p n h,
          sym (is-first cells n rows t p w f ∙ same_first p),
          sym (is-second cells n rows t p w at g ∙ same_second p a),
        ) in
        ap verdict_of e

    module _ (none : n ≤ p) {i : ℕ} (low : i ≡ lowest_wrong (load_net cells n loads) (reserved n t)) where
      pub is-count : {m : ℕ} → i < cells → m ≡ count (reserved n t i) n → Err (Count (i + 1) m) ≡ verdict_of (open_verdict whole (reserved n t))
      unfolding open_verdict verdict_of
      is-count {m} h e =
          let v : wrong i m ≡ open_verdict whole (reserved n t) =
          rw (sym (lowest ∙ same_clash), le-ltb p n none, sym (low ∙ same-wrong), lt-ltb i cells h, sym e) in
          ap verdict_of v

      pub is-valid : cells ≤ i → Ok tt ≡ verdict_of (open_verdict whole (reserved n t))
      unfolding open_verdict verdict_of
      is-valid h =
          let v : valid ≡ open_verdict whole (reserved n t) =
          rw (sym (lowest ∙ same_clash), le-ltb p n none, sym (low ∙ same-wrong), le-ltb i cells h) in
          ap verdict_of v

-- ---- blocked positions

-- the verdict on a table with no reservation on a blocked position does not look at which positions are blocked
pub open_any : (cells n : ℕ) (loads : List ℕ) (far : ℕ → ℕ → Bool) (u v : ℕ → Bool) (res : Reserved)
    → open_verdict (net_in cells n loads far u) res ≡ open_verdict (net_in cells n loads far v) res
unfolding open_verdict lowest_clash first_at clashes_at second_at wrong_in lowest_wrong
open_any cells n loads far u v res = refl

-- the lowest cell of the word at a position is the lowest that is reserved there
pub holder-word : (cells : ℕ) (res : Reserved) (p : ℕ) {word i : ℕ} → word ≡ word_at cells res p → i ≡ first (bit_at word) 0 cells
    → i ≡ first (λ j. res j p) 0 cells
holder-word cells res p w f =
    f ∙ ap (λ (x : ℕ). first (bit_at x) 0 cells) w
    ∙ first-same (bit_at (word_at cells res p)) (λ j. res j p) 0 cells zero-le (λ j _ l. word-bit (λ i. res i p) cells j l)

module _ (cells n : ℕ) (loads : List ℕ) (far : ℕ → ℕ → Bool) (blocked : List ℕ) (res : Reserved) where
  same-barred : lowest_barred (bar_net cells n blocked) res ≡ lowest_barred (net_in cells n loads far (is_open blocked)) res
  unfolding lowest_barred barred_at holder_at
  same-barred = refl

  holder-is : (p : ℕ) {i : ℕ} → i ≡ first (λ j. res j p) 0 cells → i ≡ holder_at (net_in cells n loads far (is_open blocked)) res p
  unfolding holder_at
  holder-is p f = f

  module _ {p : ℕ} (lowest : p ≡ lowest_barred (bar_net cells n blocked) res) where
    pub is-blocked : {i : ℕ} → p < n → i ≡ first (λ j. res j p) 0 cells
        → Err (Blocked p (i + 1)) ≡ verdict_of (table_verdict (net_in cells n loads far (is_open blocked)) res)
    unfolding table_verdict verdict_of
    is-blocked {i} h f =
        let e : barred p i ≡ table_verdict (net_in cells n loads far (is_open blocked)) res =
        rw (sym (lowest ∙ same-barred), lt-ltb p n h, sym (holder-is p f)) in
        ap verdict_of e

    pub is_open-law : (r : Result Unit CheckError) → n ≤ p → r ≡ verdict_of (open_verdict (net_in cells n loads far unblocked) res)
        → r ≡ verdict_of (table_verdict (net_in cells n loads far (is_open blocked)) res)
    unfolding table_verdict
    is_open-law r h is =
        let e : open_verdict (net_in cells n loads far (is_open blocked)) res ≡ table_verdict (net_in cells n loads far (is_open blocked)) res =
        rw (sym (lowest ∙ same-barred), le-ltb p n h) in
        is ∙ ap verdict_of (open_any cells n loads far unblocked (is_open blocked) res ∙ e)

-- ---- what the code asks: the sizes of an accepted record

pub sizes_known : (s : Site) → fault_of s ≡ Ok tt → (s.cells ≤ 32) × (positions s ≤ 2048) × (size s ≤ 65536)
sizes_known s fine = let z = fine-sized s fine in (z.cells_most, few-positions z, few_bytes z)

-- ---- the check of an accepted record, whatever form the table has: so much is lent, and so much is due

pub judged-by : (s : Site) (res : Reserved) (lent due : ℕ) → fault_of s ≡ Ok tt → due ≤ lent
    → verdict_of (table_verdict (net_of s) res) ≡ checked_by s lent due res
judged-by s res lent due fine h = rw (fine, le-ltb lent due h)

-- the check of a site with no fault and a table that is long enough
pub check-judged : (s : Site) (t : List ℕ) → fault_of s ≡ Ok tt → s.cells * positions s ≤ length t
    → verdict_of (table_verdict (net_of s) (reserved (positions s) t)) ≡ check_answer s t
unfolding check_answer
check-judged s t = judged-by s (reserved (positions s) t) (length t) (size s)

-- what the verdicts on a table use of the searches
pub ruleset open_laws = (first-inside, second-most, is-clash, is-count, is-valid)

pub ruleset barred_laws = (first-most, holder-word, is-blocked, is_open-law)
