-- The head of a site file: its answer by what its tests say, what a good one tells, and one that is written. Each is taken by its two kinds. Assumes nothing.
use Prim.Native.Nat.{ℕ, ◌+◌, ◌-◌, ◌≤◌, ◌<◌}
use mathlib.Core.Path.{◌≡◌, refl, sym, ap, ◌∙◌}
use mathlib.Core.Bool.{Bool, true, false, not, true≢false}
use mathlib.Core.List.{List, [], ◌∷◌, ◌++◌}
use mathlib.Core.Logic.{◌⊎◌, inl, inr, ⊎_elim}
use native.Mathlib.Omega.{arith}
use borrow.Author.Tests.{eqb-true, eq-eqb, ne_eqb, not-false}
use lib.Dec.{eqb}
use lib.ListN.{length, take, drop}
use Rattle.laws.specs.Choice.{pick}
use Rattle.laws.proofs.Choice.{cases}
use Rattle.records.specs.Bytes.{Bytes, le16, two_bytes_each}
use Rattle.records.specs.Layout.{record_of, body_at}
use Rattle.records.specs.Reasons.{Reason, reason, first_reason, record_reasons}
use Rattle.records.specs.Head.{head_size, cells_of_head, slots_of_head, channels_of_head, after_head, head_reasons, head_answer}
use Rattle.records.specs.declared.Length.TheVariants.{Exact}
use Rattle.std.specs.Prelude.{Ok, Err}
use Rattle.records.specs.Reasons.{refusal}
use Rattle.records.specs.declared.Refusal.{Refusal}
use Rattle.records.specs.Opener.{open_at}
use Rattle.records.proofs.Laws.{record-open, exact, exact-true, open-four, not_opened, opened-done}
use Rattle.records.proofs.Bytes.{numbers_at, numbers-at}
use Rattle.std.specs.Result.{result_and}
use Rattle.records.proofs.Reasons.{first-append, both-done, done_none}
use Rattle.records.proofs.Head.{head_read-law, head-stop, head_done}
use Rattle.records.proofs.RecordTrip.{kind-back, record-back, record-again, head-again}
use Rattle.site.specs.Record.{size_ok, rule_ok}
use Rattle.site.proofs.Faults.{Sizes, sizes, sizes-is, ruled-is}
use Rattle.sitehead.specs.Head.{is_ruled, rule_stated, rule_of_head, ruled_reasons, site_head_reasons, site_head_answer, site_head, head_length}

module _ (s : List ℕ) where
  head-by : (t : Bool) → is_ruled s ≡ t → site_head_answer s ≡ first_reason (pick t (ruled_reasons s) (head_reasons s))
  unfolding site_head_answer site_head_reasons
  head-by t e = ap (λ (u : Bool). first_reason (pick u (ruled_reasons s) (head_reasons s))) e

  -- by its kind
  pub head_plain : is_ruled s ≡ false → site_head_answer s ≡ head_answer s
  unfolding head_answer
  head_plain e = head-by false e

  pub head-ruled : is_ruled s ≡ true → site_head_answer s ≡ first_reason (ruled_reasons s)
  head-ruled e = head-by true e

  -- ---- kind 5, by what its tests say

  abbrev contents : List Reason
  contents =
      reason (not (size_ok (cells_of_head s) (slots_of_head s) (channels_of_head s))) 1 0 ∷ reason (not (eqb (rule_stated s) 2)) 24 0 ∷ []

  parts : first_reason (ruled_reasons s) ≡ result_and (first_reason (record_reasons s 0 5 (Exact 10))) (first_reason contents)
  parts = first-append (record_reasons s 0 5 (Exact 10)) contents

  pub ruled-stop : (r : Refusal) → first_reason (record_reasons s 0 5 (Exact 10)) ≡ Err r → first_reason (ruled_reasons s) ≡ Err r
  ruled-stop r e = parts ∙ ap (λ a. result_and a (first_reason contents)) e

  contents-are : (t u : Bool) → size_ok (cells_of_head s) (slots_of_head s) (channels_of_head s) ≡ t → eqb (rule_stated s) 2 ≡ u
      → first_reason contents ≡ pick (not t) (Err (refusal 1 0)) (pick (not u) (Err (refusal 24 0)) (Ok tt))
  unfolding first_reason
  contents-are t u e f = λ i. pick (not (e i)) (Err (refusal 1 0)) (pick (not (f i)) (Err (refusal 24 0)) (Ok tt))

  pub ruled-answer : first_reason (record_reasons s 0 5 (Exact 10)) ≡ Ok tt → (t u : Bool)
      → size_ok (cells_of_head s) (slots_of_head s) (channels_of_head s) ≡ t → eqb (rule_stated s) 2 ≡ u
      → first_reason (ruled_reasons s) ≡ pick (not t) (Err (refusal 1 0)) (pick (not u) (Err (refusal 24 0)) (Ok tt))
  ruled-answer opens t u e f = parts ∙ ap (λ a. result_and a (first_reason contents)) opens ∙ contents-are t u e f

  -- under four bytes, whatever they are
  pub head-short : length s < 0 + 4 → site_head_answer s ≡ Err (refusal 8 0)
  head-short h =
      ⊎_elim (λ e. head-ruled e ∙ ruled-stop (refusal 8 0) (not_opened s 0 5 (Exact 10) (refusal 8 0) (sym (open-four s 0 5 (Exact 10) h))))
      (λ e. head_plain e ∙ head-stop s (refusal 8 0) (not_opened s 0 1 (Exact 8) (refusal 8 0) (sym (open-four s 0 1 (Exact 8) h))))
      (cases (is_ruled s))

-- ---- what the code asks of a record of kind 5 at the start of the file

module _ (s : List ℕ) where
  pub ruled_refused : (r : Refusal) → open_at s 0 5 (Exact 10) ≡ Err r → first_reason (ruled_reasons s) ≡ Err r
  ruled_refused r e = ruled-stop s r (not_opened s 0 5 (Exact 10) r e)

  module _ (b : ℕ × ℕ) (e : open_at s 0 5 (Exact 10) ≡ Ok b) where
    opens : first_reason (record_reasons s 0 5 (Exact 10)) ≡ Ok tt
    opens = opened-done s 0 5 (Exact 10) b.0 b.1 e

    pub ruled_long : 12 ≤ length s
    ruled_long = let o = record-open s 0 5 (Exact 10) opens in omega (arith, o.«end», exact _ _ o.fits)

    pub ruled_sized : size_ok (le16 s 4) (le16 s 6) (le16 s 8) ≡ true → le16 s 10 ≡ 2 → first_reason (ruled_reasons s) ≡ Ok tt
    ruled_sized t u = ruled-answer s opens true true t (eq-eqb (le16 s 10) 2 u)

    pub ruled_other : size_ok (le16 s 4) (le16 s 6) (le16 s 8) ≡ true → (le16 s 10 ≡ 2 → ⊥) → first_reason (ruled_reasons s) ≡ Err (refusal 24 0)
    ruled_other t u = ruled-answer s opens true false t (ne_eqb (le16 s 10) 2 u)

    pub ruled_oversized : size_ok (le16 s 4) (le16 s 6) (le16 s 8) ≡ false → first_reason (ruled_reasons s) ≡ Err (refusal 1 0)
    ruled_oversized t = ruled-answer s opens false _ t refl

pub ruleset ruled = (ruled_refused, ruled_long, ruled_sized, ruled_other, ruled_oversized)

-- ---- a good head

pub record SiteHeadGood (s : List ℕ) : Type 0 where
  pub range : size_ok (cells_of_head s) (slots_of_head s) (channels_of_head s) ≡ true
  pub long : head_size ≤ length s
  pub whole : is_ruled s ≡ true → 12 ≤ length s
  pub ruled : rule_ok (rule_of_head s) ≡ true
  pub again : Bytes s → site_head (rule_of_head s) (cells_of_head s) (slots_of_head s) (channels_of_head s) ++ drop (after_head s) s ≡ s

module _ (s : List ℕ) where
  rule-by : (t : Bool) → is_ruled s ≡ t → rule_of_head s ≡ pick t (rule_stated s) 1
  rule-by t e = ap (λ (u : Bool). pick u (rule_stated s) 1) e

  plain-good : is_ruled s ≡ false → head_answer s ≡ Ok tt → SiteHeadGood s
  plain-good e d =
      let h = head_read-law s d in
      let r : rule_of_head s ≡ 1 = rule-by false e in
      record {
        range = h.range;
        long = h.long;
        whole = λ q. absurd (true≢false (sym q ∙ e));
        ruled = ruled-is (rule_of_head s) (inl r);
        again = λ bytes.
            ap (λ (k : ℕ). site_head k (cells_of_head s) (slots_of_head s) (channels_of_head s) ++ drop (after_head s) s) r ∙ head-again s bytes h;
      }

  five-good : is_ruled s ≡ true → first_reason (ruled_reasons s) ≡ Ok tt → SiteHeadGood s
  unfolding numbers_at
  five-good e d =
      let b = both-done _ _ (sym (parts s) ∙ d) in
      let o = record-open s 0 5 (Exact 10) b.0 in
      let w : le16 s 0 ≡ 10 = exact 10 (le16 s 0) o.fits in
      let n = done_none (contents s) b.1 in
      let two : rule_stated s ≡ 2 = eqb-true (rule_stated s) 2 (not-false _ n.1.0) in
      let r : rule_of_head s ≡ 2 = rule-by true e ∙ two in
      record {
        range = not-false _ n.0;
        long = omega (arith, o.«end»);
        whole = λ q. omega (arith, o.«end»);
        ruled = ruled-is (rule_of_head s) (inr r);
        again = λ bytes.
            let eight : le16 s 0 - 2 ≡ 8 = omega arith in
            let body : two_bytes_each (cells_of_head s ∷ slots_of_head s ∷ channels_of_head s ∷ rule_stated s ∷ []) ≡ body_at s 0 =
            numbers-at s bytes 4 4 (omega (arith, o.«end»)) ∙ ap (λ (k : ℕ). take k (drop 4 s)) (sym eight) in
            ap (λ (k : ℕ). site_head k (cells_of_head s) (slots_of_head s) (channels_of_head s) ++ drop (after_head s) s) r
            ∙ ap (λ (k : ℕ). record_of 5 (two_bytes_each (cells_of_head s ∷ slots_of_head s ∷ channels_of_head s ∷ k ∷ [])) ++ drop (after_head s) s) (sym two)
            ∙ ap (λ (l : List ℕ). record_of 5 l ++ drop (after_head s) s) body
            ∙ record-again s bytes 0 5 (Exact 10) _ _ o;
      }

  pub site-head-read : site_head_answer s ≡ Ok tt → SiteHeadGood s
  site-head-read d =
      ⊎_elim (λ e. five-good e (sym (head-ruled s e) ∙ d)) (λ e. plain-good e (sym (head_plain s e) ∙ d)) (cases (is_ruled s))

  pub site-head-sizes : site_head_answer s ≡ Ok tt → Sizes (cells_of_head s) (slots_of_head s) (channels_of_head s)
  site-head-sizes d = sizes _ _ _ (site-head-read d).range

-- ---- a head that is written

pub head-long : (rule cells slots channels : ℕ) → length (site_head rule cells slots channels) ≡ head_length rule
head-long rule cells slots channels = go (eqb rule 2)
  where
    go : (t : Bool) → length (record_of (pick t 5 1) (two_bytes_each (cells ∷ slots ∷ channels ∷ pick t (rule ∷ []) []))) ≡ 10 + pick t 2 0
    go true = refl
    go false = refl

-- with something after it
module _ (b rest : List ℕ) (cells slots channels : ℕ) (range : Sizes cells slots channels) where
  sizes-back : (rule : ℕ) → b ≡ site_head rule cells slots channels ++ rest → size_ok (cells_of_head b) (slots_of_head b) (channels_of_head b) ≡ true
  sizes-back rule here =
      let c : cells_of_head (site_head rule cells slots channels ++ rest) ≡ cells = omega arith in
      let t : slots_of_head (site_head rule cells slots channels ++ rest) ≡ slots = omega arith in
      let f : channels_of_head (site_head rule cells slots channels ++ rest) ≡ channels = omega arith in
      ap (λ (l : List ℕ). size_ok (cells_of_head l) (slots_of_head l) (channels_of_head l)) here
      ∙ (λ j. size_ok (c j) (t j) (f j)) ∙ sizes-is _ _ _ range

  one_written : b ≡ site_head 1 cells slots channels ++ rest → (site_head_answer b ≡ Ok tt) × (rule_of_head b ≡ 1)
  one_written here =
      let plain : is_ruled b ≡ false = ap (λ (k : ℕ). eqb k 5) (kind-back b 0 1 (two_bytes_each (cells ∷ slots ∷ channels ∷ [])) rest here) in (
        head_plain b plain
            ∙ head_done b (record-back b 0 1 (two_bytes_each (cells ∷ slots ∷ channels ∷ [])) rest here (Exact 8) (exact-true 8 (omega arith)))
            (sizes-back 1 here),
        rule-by b false plain,
      )

  two-written : b ≡ site_head 2 cells slots channels ++ rest → (site_head_answer b ≡ Ok tt) × (rule_of_head b ≡ 2)
  two-written here =
      let B = two_bytes_each (cells ∷ slots ∷ channels ∷ 2 ∷ []) in
      let five : is_ruled b ≡ true = ap (λ (k : ℕ). eqb k 5) (kind-back b 0 5 B rest here) in
      let stated : rule_stated b ≡ 2 = ap (λ (l : List ℕ). le16 l 10) here in (
        head-ruled b five
            ∙ ruled-answer b (record-back b 0 5 B rest here (Exact 10) (exact-true 10 (omega arith))) true true (sizes-back 2 here)
            (eq-eqb (rule_stated b) 2 stated),
        rule-by b true five ∙ stated,
      )

  pub head-written : (rule : ℕ) → (rule ≡ 1) ⊎ (rule ≡ 2) → b ≡ site_head rule cells slots channels ++ rest → (site_head_answer b ≡ Ok tt) ×
      (rule_of_head b ≡ rule)
  head-written rule (inl e) here = rw e (one_written (rw e at here))
  head-written rule (inr e) here = rw e (two-written (rw e at here))
