-- The three cells that an admission's 19 names are the first that show the site outside the class when all cells count: the searches over the clash rows
-- find what the verdict names, and where the answer is 19 the verdict is not `in_class`.
--     fault-found, outside-found, none_found    what the code finds is the verdict's
--     nineteen-said                             an answer of 19 is said with the first triple that shows it
-- Assumes nothing.
use Prim.Native.Nat.{ℕ, ◌+◌, ◌≤◌, ◌<◌}
use mathlib.Core.Bool.{Bool, true, false, true≢false}
use mathlib.Core.List.{List}
use mathlib.Core.Path.{◌≡◌, refl, sym, ap, ◌∙◌}
use native.Mathlib.Omega.{arith}
use borrow.Author.Tests.{lt-ltb, le-ltb}
use lib.Bits.{bit_and}
use lib.Dec.{ltb}
use lib.ListN.{get_or}
use Rattle.laws.specs.Bits.{bit_at, bit_in}
use Rattle.laws.specs.Choice.{pick}
use Rattle.laws.proofs.Lowest.{bit-all}
use Rattle.theory.specs.Net.{Net, everyone, loaded}
use Rattle.theory.specs.Named.{Splits, FirstSplits}
use Rattle.theory.specs.Verdict.{LoadVerdict, holds, over, load_verdict, ClassVerdict, in_class, outside, second, split_of, first_split, class_verdict}
use Rattle.theory.proofs.ClassLaws.{class-names}
use Rattle.site.specs.Record.{up_to, fault_of, answer_with}
use Rattle.site.specs.Reach.{clash_of, net_of}
use Rattle.site.specs.declared.Site.{Site}
use Rattle.site.specs.declared.Fault.{Fault}
use Rattle.std.specs.Prelude.{Result, Ok, Err}
use Rattle.site.proofs.Faults.{fine-sized}
use Rattle.site.proofs.Reach.{clash-sym}
use Rattle.chainwords.specs.Chain.{gap_in, split_in, first_split_in}
use Rattle.chainwords.proofs.Rows.{first-split-is, split-is, second_is}
use Rattle.shares.specs.declared.Fragments.{Fragments}
use Rattle.shares.specs.declared.Slots.{Slots}
use Rattle.shares.specs.declared.ShareError.{ShareError}
use Rattle.shares.specs.declared.ShareError.TheVariants as share
use Rattle.admitting.specs.Best.{idle}
use Rattle.flowlist.specs.declared.Flow.{Flow}
use Rattle.admission.specs.Admit.{share_in, share_refused, refused_in, first_bad_in, is_nested, settled_on, answer_from, answer_in}
use Rattle.admission.specs.Beside.{is_asked, as_beside, beside_where, beside_in}
use Rattle.admission.specs.declared.AdmitError.{AdmitError}
use Rattle.admission.specs.declared.AdmitError.TheVariants.{TooMany, NotNested, BadCell, Record}
use Rattle.admission.specs.declared.BesideError.TheVariants.{Admit}
use Rattle.say_flows.specs.Said.{split_line, split_said, nineteen_said, admit_said, beside_said}

-- ---- what the searches find

pub fault-found : (s : Site) (g : Fault) → fault_of s ≡ Err g → nineteen_said s ≡ split_said in_class
unfolding nineteen_said
fault-found s g e = rw e

-- every cell of the site is in the word of ones
all_in : (s : Site) → fault_of s ≡ Ok tt → (i : ℕ) → i < s.cells → bit_at 4294967295 i ≡ everyone i
all_in s fine i h = bit-all 32 i ∙ lt-ltb i 32 (omega (arith, (fine-sized s fine).cells_most))

module _ (s : Site) (fine : fault_of s ≡ Ok tt) (rows : List ℕ) (relation : bit_in rows ≡ clash_of s)
    (i : ℕ) (e : i ≡ first_split_in rows 4294967295 s.cells) where
  first-named : i ≡ first_split (net_of s) everyone
  first-named = e ∙ first-split-is (net_of s) rows relation (clash-sym s.rule s.reach) 4294967295 everyone (all_in s fine)

  module _ (h : i < s.cells) where
    -- the verdict, and its triple
    verdict : class_verdict (net_of s) everyone ≡ outside (split_of (net_of s) everyone i) (second (net_of s) everyone i (split_of (net_of s) everyone i)) i
    unfolding class_verdict
    verdict = simp (sym first-named, lt-ltb i s.cells h)

    named : Splits (net_of s) everyone (split_of (net_of s) everyone i) (second (net_of s) everyone i (split_of (net_of s) everyone i)) i
    named = (class-names (net_of s) everyone _ _ _ verdict).shows

    module _ (a : ℕ) (p : a ≡ split_in rows 4294967295 i) where
      a-is : a ≡ split_of (net_of s) everyone i
      a-is = p ∙ split-is (net_of s) rows relation (clash-sym s.rule s.reach) 4294967295 everyone (all_in s fine) i h

      pub a-below : a < i
      a-below = omega (arith, a-is, named.ab, named.bi)

      -- all cells are below 32
      pub a-range : (a < i) × (i < 32)
      a-range = (a-below, omega (arith, (fine-sized s fine).cells_most, h))

      module _ (b : ℕ) (q : b ≡ gap_in (get_or rows a 0) (bit_and 4294967295 (get_or rows i 0)) a i) where
        b-is : b ≡ second (net_of s) everyone i a
        b-is = q ∙ second_is (net_of s) rows relation (clash-sym s.rule s.reach) 4294967295 everyone (all_in s fine) i a a-below h

        pub b-below : b < i
        b-below = omega (arith, b-is, ap (second (net_of s) everyone i) a-is, named.bi)

        pub outside-found : nineteen_said s ≡ split_line (a + 1) (b + 1) (i + 1)
        unfolding nineteen_said
        outside-found = simp (fine, verdict, sym a-is, sym b-is)

  pub none_found : s.cells ≤ i → nineteen_said s ≡ split_said in_class
  unfolding nineteen_said class_verdict
  none_found h = simp (fine, sym first-named, le-ltb i s.cells h)

-- ---- where the answer is 19

share-not : (number : ℕ) (a : Result (Fragments × Fragments × Slots) ShareError) → share_refused number a ≡ NotNested → ⊥
share-not number (Ok a) e = cc
share-not number (Err share.OutOfRange) e = cc
share-not number (Err share.BadFlow) e = cc
share-not number (Err share.BigShare) e = cc

refused-not : (cells slots : ℕ) (f : Flow) (number : ℕ) → refused_in cells slots f number ≡ NotNested → ⊥
unfolding refused_in
refused-not cells slots f number = at (up_to cells f.cell)
  where
    at : (t : Bool) → pick t (share_refused number (share_in slots f)) (BadCell number) ≡ NotNested → ⊥
    at true e = share-not number (share_in slots f) e
    at false e = cc

-- past the class no answer is 19
settled-not : (bad : Bool) (r : AdmitError) (set : ℕ) → (r ≡ NotNested → ⊥) → pick bad (Err r) (Ok set) ≡ Err NotNested → ⊥
settled-not true r set h e = h cc
settled-not false r set h e = cc

went : (f : Result Unit Fault) (many nested : Bool) (r : Result ℕ AdmitError) → (r ≡ Err NotNested → ⊥)
    → answer_with Record f (pick many (Err TooMany) (pick nested r (Err NotNested))) ≡ Err NotNested
    → (f ≡ Ok tt) × (nested ≡ false)
went (Ok u) false false r k e = (refl, refl)
went (Ok u) false true r k e = absurd (k e)
went (Ok u) true nested r k e = absurd cc
went (Err f) many nested r k e = absurd cc

-- a verdict that is not `in_class` names a triple
triple : (v : ClassVerdict) → is_nested v ≡ false → (a b i : ℕ) × (v ≡ outside a b i)
triple in_class h = absurd (true≢false h)
triple (outside a b i) h = (a, b, i, refl)

module _ (start : Net) (s : Site) (f : ℕ → Flow) (n : ℕ) where
  parts : answer_from start s f n ≡ Err NotNested → (fault_of s ≡ Ok tt) × (is_nested (class_verdict (net_of s) everyone) ≡ false)
  unfolding answer_from
  parts e =
      let bad = first_bad_in s.cells s.slots f n in
      went (fault_of s) (ltb 16 n) (is_nested (class_verdict (net_of s) everyone)) (settled_on start s f n bad)
      (settled-not (ltb bad n) (refused_in s.cells s.slots (f bad) (bad + 1)) _ (refused-not s.cells s.slots (f bad) (bad + 1))) e

  names-split : answer_from start s f n ≡ Err NotNested → (a b i : ℕ) × FirstSplits (net_of s) everyone a b i ×
      (nineteen_said s ≡ split_line (a + 1) (b + 1) (i + 1))
  unfolding nineteen_said
  names-split e =
      let p = parts e in
      let t = triple (class_verdict (net_of s) everyone) p.1 in
      (t.0, t.1, t.2, class-names (net_of s) everyone t.0 t.1 t.2 t.3, simp (p.0, t.3))

module _ (s : Site) (f : ℕ → Flow) (n : ℕ) where
  -- W9: "refusal 19 is given exactly outside it": the text names the first a, b, i that show it when all cells count
  pub nineteen-said : answer_in s f n ≡ Err NotNested
      → (a b i : ℕ) × FirstSplits (net_of s) everyone a b i × (admit_said s f n (Err NotNested) ≡ split_line (a + 1) (b + 1) (i + 1))
  nineteen-said e = names-split (idle (net_of s)) s f n e

  -- the same on top of the loads
  pub nineteen-beside : beside_in s f n ≡ Err (Admit NotNested)
      → (a b i : ℕ) × FirstSplits (net_of s) everyone a b i × (beside_said s f n (Err (Admit NotNested)) ≡ split_line (a + 1) (b + 1) (i + 1))
  unfolding beside_in
  nineteen-beside e = names-split (net_of s) s f n (at (is_asked s n) (load_verdict (net_of s) (loaded (net_of s))) (answer_from (net_of s) s f n) e)
    where
      was : (a : Result ℕ AdmitError) → as_beside a ≡ Err (Admit NotNested) → a ≡ Err NotNested
      was (Ok set) h = cc
      was (Err refused) h = cc

      at : (t : Bool) (v : LoadVerdict) (a : Result ℕ AdmitError) → beside_where t v a ≡ Err (Admit NotNested) → a ≡ Err NotNested
      at true (over j m) a h = cc
      at true holds a h = was a h
      at false v a h = was a h
