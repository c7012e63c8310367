-- A site read is refused for the first reason in document 01's order: record by record, and then for bytes after the last one. Assumes nothing.
use Prim.Native.Nat.{ℕ, ◌≤◌}
use mathlib.Core.Path.{◌≡◌, refl, sym, ap, ap₂, ◌∙◌}
use mathlib.Core.List.{List, [], ◌∷◌, ◌++◌, map, map-append}
use native.Mathlib.Omega.{arith}
use lib.Dec.{ltb}
use lib.ListN.{length}
use Rattle.laws.specs.Choice.{pick}
use Rattle.records.specs.Layout.{body_at, record_end}
use Rattle.records.specs.Reasons.{Reason, first_reason, First}
use Rattle.records.specs.Head.{cells_of_head}
use Rattle.records.specs.declared.Refusal.{Refusal}
use Rattle.std.specs.Prelude.{Result, Ok, Err}
use Rattle.records.specs.Reasons.{refusal}
use Rattle.std.specs.Result.{result_and}
use Rattle.records.proofs.Reasons.{first-append, refused-first, Some, some-append, some_first}
use Rattle.site.specs.declared.Site.{Site}
use Rattle.sitehead.specs.Head.{is_ruled, site_head_reasons, site_head_answer}
use Rattle.reachpairs.specs.Reasons.{pair_reasons, reach_reasons}
use Rattle.blockbits.specs.Reasons.{last_reasons}
use Rattle.sitefile.specs.Reasons.{loads_at, reach_at, last_at, positions_of_head, loads_reasons, site_reasons}
use Rattle.sitefile.specs.Read.{site_of_file, site_answer, site_done, refused_site, site_read_of, read_site}
use Rattle.sitehead.proofs.Reasons.{head-numbers, head-offsets, some-head}
use Rattle.reachpairs.proofs.Reasons.{some_pairs}
use Rattle.blockbits.proofs.Reasons.{last-numbers, last-offsets, some-last}

module _ (s : List ℕ) where
  pub site-parts :
      site_answer s
      ≡ result_and (site_head_answer s) (result_and (first_reason (loads_reasons s (loads_at s) (cells_of_head s)))
      (result_and (first_reason (reach_reasons s (reach_at s) (cells_of_head s))) (first_reason (last_reasons s (last_at s) (positions_of_head s)))))
  unfolding site_answer site_reasons site_head_answer
  site-parts =
      let loads = loads_reasons s (loads_at s) (cells_of_head s) in
      let reach = reach_reasons s (reach_at s) (cells_of_head s) in
      let last = last_reasons s (last_at s) (positions_of_head s) in
      first-append (site_head_reasons s) (loads ++ (reach ++ last))
      ∙ ap (result_and (first_reason (site_head_reasons s)))
      (first-append loads (reach ++ last) ∙ ap (result_and (first_reason loads)) (first-append reach last))

  -- what a read gives, by its answer
  pub refuse : (r : Refusal) → site_answer s ≡ Err r → refused_site (Err r) ≡ read_site s
  unfolding read_site site_read_of
  refuse r e = rw e refl

  pub accept : site_answer s ≡ Ok tt → site_done (site_of_file s) ≡ read_site s
  unfolding read_site site_read_of
  accept e = rw e refl

answer-of : (x : Site) (a : Result Unit Refusal) → (site_read_of x a).answer ≡ a
unfolding site_read_of refused_site
answer-of x (Ok u) = refl
answer-of x (Err r) = refl

-- a site read is refused for the first reason that applies, and is done where none does
pub first-refused : (s : List ℕ) → (read_site s).answer ≡ site_answer s
unfolding read_site
first-refused s = answer-of (site_of_file s) (site_answer s)

-- the records after the head
abbrev rest : List ℕ → List Reason
rest s =
    loads_reasons s (loads_at s) (cells_of_head s) ++ (reach_reasons s (reach_at s) (cells_of_head s) ++ last_reasons s (last_at s) (positions_of_head s))

-- the order, as numbers and offsets: head, its contents (kind 5: 1, then 24), loads, reach, its pairs, then kind 6 where it is due, with 14, 21 and 12
pub numbers :
    (s : List ℕ) →
    map (λ (r : Reason). r.number) (site_reasons s)
    ≡ pick (is_ruled s) (8 ∷ 9 ∷ 10 ∷ 8 ∷ 1 ∷ 24 ∷ []) (8 ∷ 9 ∷ 10 ∷ 8 ∷ 1 ∷ []) ++ (8 ∷ 9 ∷ 10 ∷ 8 ∷ 8 ∷ 9 ∷ 10 ∷ 8
    ∷ (map (λ (r : Reason). r.number) (pair_reasons (cells_of_head s) (reach_at s) 0 0 (body_at s (reach_at s)))
    ++ pick (ltb (last_at s) (length s)) (8 ∷ 9 ∷ 10 ∷ 8 ∷ 14 ∷ 21 ∷ 12 ∷ []) []))
unfolding site_reasons
numbers s =
    let pairs = pair_reasons (cells_of_head s) (reach_at s) 0 0 (body_at s (reach_at s)) in
    map-append (λ (r : Reason). r.number) (site_head_reasons s) (rest s)
    ∙ ap₂ (λ (h l : List ℕ). h ++ (8 ∷ 9 ∷ 10 ∷ 8 ∷ 8 ∷ 9 ∷ 10 ∷ 8 ∷ l)) (head-numbers s)
    (map-append (λ (r : Reason). r.number) pairs (last_reasons s (last_at s) (positions_of_head s))
    ∙ ap (λ (l : List ℕ). map (λ (r : Reason). r.number) pairs ++ l) (last-numbers s (last_at s) (positions_of_head s)))

pub offsets :
    (s : List ℕ) →
    map (λ (r : Reason). r.offset) (site_reasons s)
    ≡ pick (is_ruled s) (0 ∷ 0 ∷ 0 ∷ 0 ∷ 0 ∷ 0 ∷ []) (0 ∷ 0 ∷ 0 ∷ 0 ∷ 0 ∷ [])
    ++ (loads_at s ∷ loads_at s ∷ loads_at s ∷ loads_at s ∷ reach_at s ∷ reach_at s ∷ reach_at s ∷ reach_at s
    ∷ (map (λ (r : Reason). r.offset) (pair_reasons (cells_of_head s) (reach_at s) 0 0 (body_at s (reach_at s)))
    ++ pick (ltb (last_at s) (length s)) (last_at s ∷ last_at s ∷ last_at s ∷ last_at s ∷ last_at s ∷ last_at s ∷ record_end s (last_at s) ∷ []) []))
unfolding site_reasons
offsets s =
    let pairs = pair_reasons (cells_of_head s) (reach_at s) 0 0 (body_at s (reach_at s)) in
    map-append (λ (r : Reason). r.offset) (site_head_reasons s) (rest s)
    ∙ ap₂ (λ (h l : List ℕ). h ++ (loads_at s ∷ loads_at s ∷ loads_at s ∷ loads_at s ∷ reach_at s ∷ reach_at s ∷ reach_at s ∷ reach_at s ∷ l)) (head-offsets s)
    (map-append (λ (r : Reason). r.offset) pairs (last_reasons s (last_at s) (positions_of_head s))
    ∙ ap (λ (l : List ℕ). map (λ (r : Reason). r.offset) pairs ++ l) (last-offsets s (last_at s) (positions_of_head s)))

-- so the reason given stands in the list, it applies, and none before it does
pub site-refused : (s : List ℕ) (n at : ℕ) → (read_site s).answer ≡ Err (refusal n at) → First (site_reasons s) n at
unfolding site_answer
site-refused s n at e = refused-first (site_reasons s) n at (sym (first-refused s) ∙ e)

-- no refusal has the number 0
some-site : (s : List ℕ) → Some (site_reasons s)
unfolding site_reasons
some-site s =
    let last = last_reasons s (last_at s) (positions_of_head s) in
    let pairs = pair_reasons (cells_of_head s) (reach_at s) 0 0 (body_at s (reach_at s)) in
    let p = some-append pairs last (some_pairs (cells_of_head s) (reach_at s) 0 0 (body_at s (reach_at s))) (some-last s (last_at s) (positions_of_head s)) in
    let r : Some (reach_reasons s (reach_at s) (cells_of_head s) ++ last) = (omega arith, (omega arith, (omega arith, (omega arith, p)))) in
    let l : Some (loads_reasons s (loads_at s) (cells_of_head s) ++ (reach_reasons s (reach_at s) (cells_of_head s) ++ last)) =
    (omega arith, (omega arith, (omega arith, (omega arith, r)))) in
    some-append (site_head_reasons s) (rest s) (some-head s) l

pub refused-some : (s : List ℕ) (n at : ℕ) → (read_site s).answer ≡ Err (refusal n at) → 1 ≤ n
unfolding site_answer
refused-some s n at e = some_first (site_reasons s) (some-site s) n at (sym (first-refused s) ∙ e)
