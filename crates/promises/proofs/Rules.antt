-- W11, two rules for the air, over the public calls and in the documents' numbers. The laws between the rules are read off the reasons for a clash, by the
-- cells' numbers. The files are those of crate `sitefile`. The calls ask who clashes, and never why: so their answers are the same for two sites with the same
-- clashes, and demand 3 compares sites under different rules. Assumes nothing.
use mathlib.Core.Path.{◌≡◌, refl, sym, ap, subst, ◌∙◌, fun_ext}
use mathlib.Core.Bool.{Bool, true, false}
use mathlib.Core.List.{List, [], ◌∷◌, ◌++◌}
use mathlib.Core.Logic.{◌↔◌, ◌⊎◌, inl, inr}
use Prim.Native.Nat.{ℕ, zero, suc, ◌*◌, ◌≤◌, ◌<◌}
use native.Mathlib.Omega.{arith}
use native.Mathlib.Nat.{le_refl, le_of_eq}
use borrow.Author.Tests.{le-ltb, eqb-true}
use lib.Dec.{eqb}
use lib.ListN.{length, take, drop}
use Rattle.std.specs.Prelude.{Ok, Err}
use Rattle.laws.specs.Choice.{pick}
use Rattle.laws.specs.Search.{first_of}
use Rattle.laws.specs.Sum.{any}
use Rattle.theory.specs.Verdict.{second, splits, split_of, first_split, class_verdict}
use Rattle.reachrows.proofs.Rules.{rule-adds}
use Rattle.site.specs.Record.{site_of, up_to, size_ok, rule_ok, row_bad, extra_load, bad_row, fault_of}
use Rattle.site.specs.Reach.{reaches, reached_by_both, clash_in, clash_of, clash_answer, is_open, net_in, net_of}
use Rattle.site.specs.Means.{Reaches, Third, Clashing, UpTo, FaultMeans}
use Rattle.site.specs.Given.{done_given, clash_given}
use Rattle.site.specs.declared.Site.{Site}
use Rattle.site.specs.declared.Fault.TheVariants as fault
use Rattle.site.proofs.Accepted.{fine-sound, sound-fine}
use Rattle.site.proofs.Faults.{ruled-is}
use Rattle.site.proofs.Given.{done-apart, clash-apart}
use Rattle.site.proofs.Means.{fault-means, fault-only, clash-means, clash-only}
use Rattle.judges.specs.Judges.{class_answer}
use Rattle.judges.specs.Given.{class_given}
use Rattle.planner.specs.Plan.{plan_answer}
use Rattle.planner.specs.Given.{plan_given}
use Rattle.checker.specs.Check.{check_answer}
use Rattle.checker.specs.Given.{check_given}
use Rattle.records.specs.Bytes.{Bytes, le16}
use Rattle.records.specs.Layout.{body_at}
use Rattle.records.specs.Given.{read_given, written_given}
use Rattle.records.specs.Head.{cells_of_head, slots_of_head, channels_of_head, head_reasons, head_answer}
use Rattle.records.specs.Reasons.{refusal, first_reason}
use Rattle.records.proofs.Given.{read-apart}
use Rattle.records.proofs.Head.{head_read-law}
use Rattle.records.proofs.Reasons.{first-append, both-done}
use Rattle.sitefile.specs.Before.{four_kinds, four_reasons}
use Rattle.sitehead.specs.Head.{is_ruled}
use Rattle.reachpairs.specs.Reasons.{reach_reasons}
use Rattle.blockbits.specs.Reasons.{last_reasons}
use Rattle.sitefile.specs.Reasons.{loads_at, reach_at, last_at, positions_of_head, loads_reasons}
use Rattle.reachpairs.specs.Pairs.{reach_of_body}
use Rattle.blockbits.specs.Reasons.{blocked_or}
use Rattle.sitefile.specs.Read.{loads_of_body, site_of_file, site_answer, site_done, read_site}
use Rattle.sitefile.specs.Write.{site_bytes, site_written, site_out}
use Rattle.sitefile.specs.declared.SiteRead.{SiteRead}
use Rattle.sitefile.proofs.Before.{rule-bytes, rule-reasons, rule-read, old-reader}
use Rattle.sitefile.proofs.FileTrip.{accepted}
use Rattle.sitefile.proofs.Reasons.{first-refused, accept}
use Rattle.planfile.specs.Read.{plan_read_answer, plan_read_of, read_plan}
use Rattle.demanded.specs.Numbers.{done, done_with, refused}
use Rattle.demanded.specs.Demands.{Accepted, LongEnough, Easier}
use Rattle.desktable.specs.Desk.{with_zeros, P3ruled, all_clash}
use Rattle.promises.specs.Rules.{under, SaysClash, plain_site}
use Rattle.demanded.proofs.Numbers.{accepted-number}
use Rattle.desktable.proofs.Faults.{used_words, used_to, past_in, fault_in, fault-in}
use Rattle.promises.proofs.Demand1.{site-write-leaves}
use Rattle.demanded.proofs.Demand3.{demand-three-calls}
use Rattle.promises.proofs.Files.{site-read-written}

-- a record that is accepted is accepted under either rule
pub either-accepted : (s : Site) → Accepted s → (rule : ℕ) → (rule ≡ 1) ⊎ (rule ≡ 2) → Accepted (under rule s)
either-accepted s ok rule either =
    let h = fine-sound s ((accepted-number s).0 ok) in
    (accepted-number (under rule s)).1
    (sound-fine (under rule s) (record { sizes = h.sizes; rule-ok = ruled-is rule either; loads = h.loads; rows = h.rows; none_past = h.none_past }))

-- ---- the two rules, over what the call `clash` says of two cells

pub says-clash : (s : Site) (a b : ℕ) → SaysClash s a b ↔ (Accepted s × Clashing s a b)
says-clash s a b = (
  λ e.
      let is : clash_answer s a b ≡ Ok true = clash-apart (clash_answer s a b) (Ok true) e in
      let m = rw is at (clash-means s a b) in
      ((accepted-number s).1 m.0, m.1),
  λ h. ap clash_given (clash-only s a b (Ok true) ((accepted-number s).0 h.0, h.1)),
)

module _ (s : Site) (a b : ℕ) where
  adds : Clashing (under 1 s) a b → Clashing (under 2 s) a b
  adds c = record { first_in_holds = c.first_in_holds; second_in_holds = c.second_in_holds; two = c.two; why = why c.why }
    where
      why : Reaches s a b ⊎ (Reaches s b a ⊎ ((◌≡◌ {A = ℕ} 1 2) × ((c : ℕ) × Third (under 1 s) a b c)))
          → Reaches s a b ⊎ (Reaches s b a ⊎ ((◌≡◌ {A = ℕ} 2 2) × ((c : ℕ) × Third (under 2 s) a b c)))
      why (inl r) = inl r
      why (inr (inl r)) = inr (inl r)
      why (inr (inr (e, t))) = absurd (omega arith)

  -- rule 2's clash contains rule 1's
  pub rule-two-contains : SaysClash (under 1 s) a b → SaysClash (under 2 s) a b
  rule-two-contains e =
      let h = (says-clash (under 1 s) a b).0 e in
      (says-clash (under 2 s) a b).1 (either-accepted (under 1 s) h.0 2 (inr refl), adds h.1)

  added : Clashing (under 2 s) a b → Clashing (under 1 s) a b ⊎ ((c : ℕ) × Third s a b c)
  added c = why c.why
    where
      third : (x : ℕ) → Third (under 2 s) a b x → Third s a b x
      third x t = record {
        inside = t.inside;
        not_first = t.not_first;
        not_second = t.not_second;
        by_first = t.by_first;
        by_second = t.by_second;
      }

      why : Reaches s a b ⊎ (Reaches s b a ⊎ ((◌≡◌ {A = ℕ} 2 2) × ((x : ℕ) × Third (under 2 s) a b x))) → Clashing (under 1 s) a b ⊎ ((x : ℕ) × Third s a b x)
      why (inl r) = inl (record { first_in_holds = c.first_in_holds; second_in_holds = c.second_in_holds; two = c.two; why = inl r })
      why (inr (inl r)) = inl (record { first_in_holds = c.first_in_holds; second_in_holds = c.second_in_holds; two = c.two; why = inr (inl r) })
      why (inr (inr (e, (x, t)))) = inr (x, third x t)

  -- and what it adds is a third cell: one of the site's, neither of the two, and both reach it
  pub rule-two-adds : SaysClash (under 2 s) a b → SaysClash (under 1 s) a b ⊎ ((c : ℕ) × Third s a b c)
  rule-two-adds e = from (added h.1)
    where
      h : Accepted (under 2 s) × Clashing (under 2 s) a b
      h = (says-clash (under 2 s) a b).0 e

      from : Clashing (under 1 s) a b ⊎ ((c : ℕ) × Third s a b c) → SaysClash (under 1 s) a b ⊎ ((c : ℕ) × Third s a b c)
      from (inl c) = inl ((says-clash (under 1 s) a b).1 (either-accepted (under 2 s) h.0 1 (inl refl), c))
      from (inr t) = inr t

  -- with no cell reached by two others the rules agree
  pub rules-same : ((a b c : ℕ) → UpTo s.cells c → (a ≡ b → ⊥) → Reaches s a c → Reaches s b c → ⊥) → SaysClash (under 2 s) a b ↔ SaysClash (under 1 s) a b
  rules-same none = (λ e. from ((says-clash (under 2 s) a b).0 e).1.two (rule-two-adds e), rule-two-contains)
    where
      from : (a ≡ b → ⊥) → SaysClash (under 1 s) a b ⊎ ((c : ℕ) × Third s a b c) → SaysClash (under 1 s) a b
      from n (inl e) = e
      from n (inr (c, t)) = absurd (none a b c t.inside n t.by_first t.by_second)

  -- under either rule: who clashes with whom goes both ways
  turned : Clashing s a b → Clashing s b a
  turned c = record { first_in_holds = c.second_in_holds; second_in_holds = c.first_in_holds; two = λ e. c.two (sym e); why = why c.why }
    where
      third : (x : ℕ) → Third s a b x → Third s b a x
      third x t = record {
        inside = t.inside;
        not_first = t.not_second;
        not_second = t.not_first;
        by_first = t.by_second;
        by_second = t.by_first;
      }

      why : Reaches s a b ⊎ (Reaches s b a ⊎ ((s.rule ≡ 2) × ((x : ℕ) × Third s a b x)))
          → Reaches s b a ⊎ (Reaches s a b ⊎ ((s.rule ≡ 2) × ((x : ℕ) × Third s b a x)))
      why (inl r) = inr (inl r)
      why (inr (inl r)) = inl r
      why (inr (inr (e, (x, t)))) = inr (inr (e, (x, third x t)))

  pub clash-both-ways : SaysClash s a b → SaysClash s b a
  clash-both-ways e = let h = (says-clash s a b).0 e in (says-clash s b a).1 (h.0, turned h.1)

-- and no cell clashes with itself
pub clash-not-itself : (s : Site) (a : ℕ) → SaysClash s a a → ⊥
clash-not-itself s a e = ((says-clash s a a).0 e).1.two refl

-- ---- "24, rule not 1 or 2 in a record, .. after 1"

pub twenty-four : (s : Site) → done_given (fault_of s) ≡ refused 24 [] ↔ FaultMeans s (Err fault.Rule)
twenty-four s = (
  λ e. let is : fault_of s ≡ Err fault.Rule = done-apart (fault_of s) (Err fault.Rule) e in rw is at (fault-means s),
  λ m. ap done_given (fault-only s (Err fault.Rule) m),
)

-- ---- the files

-- a rule 1 site is written with kind 1, and the file is byte for byte what it was
pub rule-one-written : (s : Site) (out : List ℕ) → s.rule ≡ 1 → (written_given (site_written s out)).number ≡ 0
    → ((written_given (site_written s out)).values ≡ length (four_kinds s) ∷ []) × (site_out s out ≡ four_kinds s ++ drop (length (four_kinds s)) out)
rule-one-written s out one wrote =
    subst (λ (file : List ℕ). ((written_given (site_written s out)).values ≡ length file ∷ []) × (site_out s out ≡ file ++ drop (length file) out))
    (rule-bytes s one) ((site-write-leaves s out).if_done wrote)

-- "begins with kind 5 in place of kind 1", "length 10": the first four bytes, by the rule
pub first-bytes : (s : Site) → take 4 (site_bytes s) ≡ pick (eqb s.rule 2) (10 ∷ 0 ∷ 5 ∷ 0 ∷ []) (8 ∷ 0 ∷ 1 ∷ 0 ∷ [])
unfolding site_bytes
first-bytes s = by (eqb s.rule 2) refl
  where
    by : (t : Bool) → eqb s.rule 2 ≡ t → take 4 (site_bytes s) ≡ pick t (10 ∷ 0 ∷ 5 ∷ 0 ∷ []) (8 ∷ 0 ∷ 1 ∷ 0 ∷ [])
    by true e = rw e
    by false e = rw e

-- every file that was accepted reads as before, under rule 1
module _ (file : List ℕ) (e : first_reason (four_reasons file) ≡ Ok tt) where
  plain : is_ruled file ≡ false
  unfolding head_answer
  plain =
      let rest = loads_reasons file (loads_at file) (cells_of_head file)
      ++ (reach_reasons file (reach_at file) (cells_of_head file) ++ last_reasons file (last_at file) (positions_of_head file)) in
      let h = both-done (head_answer file) (first_reason rest) (sym (first-append (head_reasons file) rest) ∙ e) in
      ap (λ (k : ℕ). eqb k 5) (head_read-law file h.0).opening.same

  answered : site_answer file ≡ Ok tt
  unfolding site_answer
  answered = ap first_reason (rule-reasons file plain) ∙ e

  pub plain-read : (read_given (read_site file).answer ≡ done) × ((read_site file).site ≡ plain_site file)
  unfolding site_of_file
  plain-read =
      let is : read_site file ≡ site_done (plain_site file) = sym (accept file answered)
      ∙ ap (λ (rule : ℕ). site_done (site_of (cells_of_head file) (slots_of_head file) (channels_of_head file) (loads_of_body (body_at file (loads_at file)))
      (reach_of_body (body_at file (reach_at file))) (blocked_or file (last_at file)) rule)) (rule-read file plain) in
      (ap (λ (r : SiteRead). read_given r.answer) is, ap (λ (r : SiteRead). r.site) is)

  -- and written again it is the same bytes
  pub plain-again : Bytes file → (out : List ℕ) → length file ≤ length out
      → (written_given (site_written (plain_site file) out) ≡ done_with (length file ∷ [])) × (site_out (plain_site file) out ≡ file ++ drop (length file) out)
  plain-again bytes out fits = rw (← plain-read.1) (site-read-written file bytes plain-read.0 out fits)

-- what was refused is refused as it was, but for a head of kind 5
pub plain-refused : (file : List ℕ) (n at : ℕ) → is_ruled file ≡ false → first_reason (four_reasons file) ≡ Err (refusal n at)
    → read_given (read_site file).answer ≡ read_given (Err (refusal n at))
unfolding site_answer
plain-refused file n at p e = ap read_given (first-refused file ∙ ap first_reason (rule-reasons file p) ∙ e)

-- "An old reader answers 9": to every file that is now accepted as a rule 2 site's
pub old-reader-nine : (file : List ℕ) → read_given (read_site file).answer ≡ done → (read_site file).site.rule ≡ 2
    → read_given (first_reason (four_reasons file)) ≡ refused 9 (0 ∷ [])
old-reader-nine file ok two = by (is_ruled file) refl
  where
    is : site_answer file ≡ Ok tt
    is = sym (first-refused file) ∙ read-apart (read_site file).answer (Ok tt) ok

    by : (t : Bool) → is_ruled file ≡ t → read_given (first_reason (four_reasons file)) ≡ refused 9 (0 ∷ [])
    by true q = ap read_given (old-reader file (omega (arith, (accepted file is).reach.four)) q)
    by false q =
        let same : (site_of_file file).rule ≡ (read_site file).site.rule = ap (λ (r : SiteRead). r.site.rule) (accept file is) in
        let one : (site_of_file file).rule ≡ 1 = rule-read file q in
        absurd (omega (arith, same, one, two))

-- "Plan files keep kind 1": one that begins with kind 5 is 9
pub plan-nine : (file table : List ℕ) → 4 ≤ length file → is_ruled file ≡ true → read_given (read_plan file table).answer ≡ refused 9 (0 ∷ [])
unfolding first_reason plan_read_answer plan_read_of read_plan
plan-nine file table h e = simp (le-ltb (length file) 4 h, eqb-true (le16 file 2) 5 e)

-- ---- any clash will do

-- Two sites with the same cells, slots, channels, loads and blocked positions, and the same clashes, whichever rule gave them, state one problem. All that is
-- proved of a problem, of plans, tables, verdicts and numberings, is proved of both.
pub one-problem : (s t : Site) → s.cells ≡ t.cells → s.slots ≡ t.slots → s.channels ≡ t.channels → s.loads ≡ t.loads → s.blocked ≡ t.blocked
    → ((a b : ℕ) → clash_of s a b ≡ clash_of t a b) → net_of s ≡ net_of t
one-problem s t cells slots channels loads blocked clashes =
    λ j. net_in (cells j) (slots j * channels j) (loads j) (fun_ext (λ a. fun_ext (clashes a)) j) (is_open (blocked j))

-- ---- demand 3, "whichever rule gave them"

-- any site under rule 1 beside the same under rule 2: no clash that it lacks
pub rule-one-easier : (s : Site) → Easier (under 1 s) (under 2 s)
rule-one-easier s = record {
  same_cells = refl;
  as_many_channel_slots = le_refl _;
  no_greater_load = λ i _. le_refl _;
  no_new_clash = λ a c _ _ e. rule-adds s.reach a c e;
}

-- and a site under rule 2 beside one under rule 1: P3's reach, whose cells 1 and 2 clash by cell 3, and three cells that each reach the later ones
no-new : (a c : ℕ) → a < 3 → c < 3 → clash_of (P3ruled 3) a c ≡ true → clash_of all_clash a c ≡ true
unfolding with_zeros reaches reached_by_both clash_in any
no-new zero zero l m e = e
no-new zero (suc zero) l m e = refl
no-new zero (suc (suc zero)) l m e = refl
no-new zero (suc (suc (suc c))) l m e = absurd (omega arith)
no-new (suc zero) zero l m e = refl
no-new (suc zero) (suc zero) l m e = e
no-new (suc zero) (suc (suc zero)) l m e = refl
no-new (suc zero) (suc (suc (suc c))) l m e = absurd (omega arith)
no-new (suc (suc zero)) zero l m e = refl
no-new (suc (suc zero)) (suc zero) l m e = refl
no-new (suc (suc zero)) (suc (suc zero)) l m e = e
no-new (suc (suc zero)) (suc (suc (suc c))) l m e = absurd (omega arith)
no-new (suc (suc (suc a))) c l m e = absurd (omega arith)

as_many : Easier (P3ruled 3) all_clash
unfolding with_zeros
as_many = record {
  same_cells = refl;
  as_many_channel_slots = le_of_eq refl;
  no_greater_load = λ i _. le_refl _;
  no_new_clash = no-new;
}

fine : fault_of (P3ruled 3) ≡ Ok tt
unfolding with_zeros first_of up_to size_ok rule_ok row_bad extra_load bad_row used_words used_to past_in fault_in
fine = fault-in (P3ruled 3)

in-class : class_given (class_answer (P3ruled 3)) ≡ done
unfolding with_zeros first_of any reaches reached_by_both clash_in second splits split_of first_split class_verdict class_answer
in-class = rw fine refl

-- so if any table is valid for the second, however found, the planner plans the first
pub two-against-one : (found : List ℕ) → check_given (check_answer all_clash found) ≡ done
    → (lent : List ℕ) → LongEnough (P3ruled 3) lent → plan_given (plan_answer (P3ruled 3) lent) ≡ done
two-against-one = demand-three-calls all_clash (P3ruled 3) as_many in-class
