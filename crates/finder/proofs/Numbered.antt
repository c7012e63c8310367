-- The ways past the greedy planner, in the terms of the calls that they make: the plan of the renumbered site as words, the numbering, and the heaviest set.
-- Assumes nothing.
use mathlib.Core.Path.{◌≡◌, refl, sym, ap, ◌∙◌, subst}
use mathlib.Core.List.{List, ◌++◌}
use Prim.Native.Nat.{ℕ, ◌*◌, ◌≤◌, ◌<◌}
use native.Mathlib.Omega.{arith}
use lib.ListN.{length, drop, replicate, length-replicate}
use borrow.Author.Tests.{lt-ltb, le-ltb}
use Rattle.std.specs.Prelude.{Ok, Err}
use Rattle.laws.specs.Bits.{bit_at}
use Rattle.theory.specs.Net.{room}
use Rattle.theory.specs.Greedy.{Outcome, planned, no_room, greedy, reserved}
use Rattle.theory.specs.Full.{weight}
use Rattle.site.specs.Record.{positions, size, fault_of}
use Rattle.site.specs.Reach.{net_of}
use Rattle.site.specs.declared.Site.{Site}
use Rattle.site.specs.declared.Fault.{Fault}
use Rattle.site.proofs.Faults.{fine-sized, few-positions}
use Rattle.planner.specs.Plan as plan
use Rattle.planner.specs.declared.PlanError.{PlanError}
use Rattle.planner.proofs.Answer.{few-numbers}
use Rattle.words.specs.Words.{words_of, out_words}
use Rattle.wordforms.specs.Words.{sends_at, bytes_of}
use Rattle.wordtable.specs.Plan.{plan_words_answer, plan_words}
use Rattle.renumbering.specs.Numbering.{Numbering, numbered, stuck, numbering, index_at}
use Rattle.numberrows.specs.Numbers.{NamesCells}
use Rattle.numbering.specs.Renumber.{numbering_of, moved_site, renumber_of}
use Rattle.numbering.specs.declared.Renumbered.{Renumbered}
use Rattle.numbering.specs.declared.RenumberError.TheVariants as Renumber
use Rattle.numbering.proofs.Found.{names-new}
use Rattle.numbering.proofs.Ways.{renumber-none, renumber-done}
use Rattle.numbering.proofs.Meaning.{Found, done-found, renumber-site}
use Rattle.heaviest.specs.Sets.{heaviest_set, heaviest_of}
use Rattle.heaviest.proofs.Meaning.{done-accepted, done-fine}
use Rattle.finding.specs.Found.{full_renumbered, over_by, found_anew, found_sought, found_numbered, found_else}
use Rattle.finder.specs.Find.{finding_answer, finding_leaves}
use Rattle.finder.specs.declared.Way.TheVariants as way
use Rattle.finder.proofs.Back.{rows_back, moved-greedy}

-- ---- the plan of the renumbered site

-- no limit is told there
pub no-limit : (limit : ℕ) (new : List ℕ) (o : Outcome) → finding_answer 0 (found_anew new o) ≡ finding_answer limit (found_anew new o)
no-limit limit new (planned t) = refl
no-limit limit new (no_room c m) = refl

-- the words that are lent
abbrev lent : List ℕ
lent = replicate 2048 0

module _ (moved : Site) (new : List ℕ) (fine : fault_of moved ≡ Ok tt) where
  long : positions moved ≤ length lent
  long = omega (arith, few-positions (fine-sized moved fine), length-replicate {A = ℕ} 2048 0)

  words-answer : plan_words_answer moved lent ≡ plan.answer_of (greedy (net_of moved))
  unfolding plan_words_answer
  words-answer = rw (fine, le-ltb (length lent) (positions moved) long)

  words_left : plan_words moved lent ≡ out_words moved.cells (positions moved) (greedy (net_of moved)) ++ drop (positions moved) lent
  unfolding plan_words
  words_left = rw (fine, le-ltb (length lent) (positions moved) long)

  full_by : (e : PlanError) → plan_words_answer moved lent ≡ Err e → (o : Outcome) → greedy (net_of moved) ≡ o → found_anew new o ≡ full_renumbered
  full_by e h (planned t) is = let q : Ok tt ≡ Err e = sym (words-answer ∙ ap plan.answer_of is) ∙ h in cc
  full_by e h (no_room c m) is = refl

  pub full_back : (e : PlanError) → plan_words_answer moved lent ≡ Err e → found_anew new (greedy (net_of moved)) ≡ full_renumbered
  full_back e h = full_by e h (greedy (net_of moved)) refl

  done-by : plan_words_answer moved lent ≡ Ok tt → (o : Outcome) → greedy (net_of moved) ≡ o → (t : List ℕ) × (greedy (net_of moved) ≡ planned t)
  done-by h (planned t) is = (t, is)
  done-by h (no_room c m) is = let q = sym (words-answer ∙ ap plan.answer_of is) ∙ h in cc

  module _ (done : plan_words_answer moved lent ≡ Ok tt) where
    table : (t : List ℕ) × (greedy (net_of moved) ≡ planned t)
    table = done-by done (greedy (net_of moved)) refl

    pub said-back : finding_answer 0 (found_anew new (greedy (net_of moved))) ≡ Ok way.Renumbered
    said-back = ap (λ o. finding_answer 0 (found_anew new o)) table.1

    pub laid-back : (s : Site) → moved.cells ≡ s.cells → positions moved ≡ positions s → NamesCells s.cells new → (x r t : List ℕ) → x ≡ plan_words moved lent
        → r ≡ bytes_of s.cells (positions s) (λ i k. sends_at x (index_at new i) k) ++ drop (s.cells * positions s) t
        → r ≡ finding_leaves s (found_anew new (greedy (net_of moved))) t
    laid-back s same_cells same-positions names x r t xs rs =
        let p = table.0 in
        let rest = drop (positions moved) lent in
        let words : x ≡ words_of s.cells (positions s) (reserved (positions s) p) ++ rest
        = xs ∙ words_left ∙ ap (λ o. out_words moved.cells (positions moved) o ++ rest) table.1
        ∙ ap (λ (n : ℕ). words_of n (positions moved) (reserved (positions moved) p) ++ rest) same_cells
        ∙ ap (λ (n : ℕ). words_of s.cells n (reserved n p) ++ rest) same-positions in
        rs
        ∙ ap (λ (y : List ℕ). bytes_of s.cells (positions s) (λ i k. sends_at y (index_at new i) k) ++ drop (size s) t) words
        ∙ ap (λ (y : List ℕ). y ++ drop (size s) t) (rows_back s.cells (positions s) p rest new names)
        ∙ sym (ap (λ o. finding_leaves s (found_anew new o) t) table.1)

pub ruleset carried_back = (full_back, said-back, laid-back, few-numbers)

-- ---- the numbering

module _ (s : Site) (limit : ℕ) (r : Renumbered) (is : r ≡ renumber_of s) where
  module _ (done : r.answer ≡ Ok tt) where
    was-done : (renumber_of s).answer ≡ Ok tt
    was-done = sym (ap (λ y. y.answer) is) ∙ done

    found : Found s
    found = done-found s was-done

    pub moved_ready : (fault_of r.site ≡ Ok tt) × (r.site.cells ≡ s.cells) × (positions r.site ≡ positions s) × NamesCells s.cells r.new
    unfolding moved_site
    moved_ready = (
      ap (λ y. fault_of y.site) is ∙ (renumber-site s was-done).accepted,
      ap (λ y. y.site.cells) is ∙ ap (λ (x : Site). x.cells) found.site,
      ap (λ y. positions y.site) is ∙ ap (λ (x : Site). positions x) found.site,
      subst (λ (y : Renumbered). NamesCells s.cells y.new) (sym is) (names-new s found.fine (renumber_of s).new (renumber_of s).old found.numbers),
    )

    pub numbered_is : found_numbered (net_of s) limit (numbering 32 (net_of s).clash s.cells) ≡ found_anew r.new (greedy (net_of r.site))
    unfolding numbering_of
    numbered_is =
        let new = (renumber_of s).new in
        let old = (renumber_of s).old in
        ap (found_numbered (net_of s) limit) found.numbers
        ∙ ap (found_anew new) (sym (ap (λ (x : Site). greedy (net_of x)) found.site ∙ moved-greedy s found.fine new old found.numbers))
        ∙ ap (λ (y : Renumbered). found_anew y.new (greedy (net_of y.site))) (sym is)

    pub numbered_said : finding_answer 0 (found_anew r.new (greedy (net_of r.site)))
        ≡ finding_answer limit (found_numbered (net_of s) limit (numbering 32 (net_of s).clash s.cells))
    numbered_said = no-limit limit r.new (greedy (net_of r.site)) ∙ sym (ap (finding_answer limit) numbered_is)

    pub numbered_left : (t : List ℕ) → finding_leaves s (found_anew r.new (greedy (net_of r.site))) t
        ≡ finding_leaves s (found_numbered (net_of s) limit (numbering 32 (net_of s).clash s.cells)) t
    numbered_left t = sym (ap (λ f. finding_leaves s f t) numbered_is)

  module _ (fine : fault_of s ≡ Ok tt) where
    was-done-at : (new old : List ℕ) → numbering_of s ≡ numbered new old → r.answer ≡ Ok tt
    was-done-at new old e = ap (λ y. y.answer) is ∙ ap (λ y. y.answer) (renumber-done s new old fine e)

    was-none-at : numbering_of s ≡ stuck → r.answer ≡ Err Renumber.NoNumbering
    was-none-at e = ap (λ y. y.answer) is ∙ ap (λ y. y.answer) (renumber-none s fine e)

    stuck-by : r.answer ≡ Err Renumber.NoNumbering → (x : Numbering) → numbering_of s ≡ x → x ≡ stuck
    stuck-by h (numbered new old) e = let q = sym (was-done-at new old e) ∙ h in cc
    stuck-by h stuck e = refl

    pub stuck-is : r.answer ≡ Err Renumber.NoNumbering → found_numbered (net_of s) limit (numbering 32 (net_of s).clash s.cells) ≡ found_sought (net_of s) limit
    unfolding numbering_of
    stuck-is h = ap (found_numbered (net_of s) limit) (stuck-by h (numbering_of s) refl)

    refused-by : (f : Fault) → r.answer ≡ Err (Renumber.Record f) → (x : Numbering) → numbering_of s ≡ x → ⊥
    refused-by f h (numbered new old) e = let q = sym (was-done-at new old e) ∙ h in cc
    refused-by f h stuck e = let q = sym (was-none-at e) ∙ h in cc

    pub never-refused : (f : Fault) → r.answer ≡ Err (Renumber.Record f) → ⊥
    never-refused f h = refused-by f h (numbering_of s) refl

pub ruleset by_numbers = (moved_ready, numbered_said, numbered_left, stuck-is, never-refused)

-- ---- the heaviest set

module _ (s : Site) (fine : fault_of s ≡ Ok tt) where
  pub never-unknown : (f : Fault) → heaviest_of s ≡ Err f → ⊥
  never-unknown f e = let q = sym (done-fine s fine) ∙ e in cc

  module _ (load cells : ℕ) (is : heaviest_of s ≡ Ok (load, cells)) where
    load_is : load ≡ weight (net_of s) (bit_at (heaviest_set (net_of s)))
    load_is = sym (ap (λ (t : ℕ × ℕ). t.0) (done-accepted s (load, cells) is).1)

    module _ (limit opens : ℕ) (is_open-law : opens ≡ room (net_of s)) where
      pub is-over : opens < load → found_else (net_of s) limit ≡ over_by cells
      unfolding found_else
      is-over h =
          rw (lt-ltb (room (net_of s)) (weight (net_of s) (bit_at (heaviest_set (net_of s)))) (omega (arith, load_is, is_open-law, h)))
          (ap over_by (ap (λ (t : ℕ × ℕ). t.1) (done-accepted s (load, cells) is).1))

      pub is-under : load ≤ opens → found_else (net_of s) limit ≡ found_numbered (net_of s) limit (numbering 32 (net_of s).clash s.cells)
      unfolding found_else
      is-under h =
          rw (le-ltb (room (net_of s)) (weight (net_of s) (bit_at (heaviest_set (net_of s)))) (omega (arith, load_is, is_open-law, h))) refl

pub ruleset by_the_heaviest = (never-unknown, is-over, is-under)
