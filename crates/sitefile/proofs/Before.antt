-- W8: a file without blocked positions is byte for byte what it was, and every old file reads as before. So does every file that was refused,
-- but for bytes after kind 3: they may now be kind 6. W11: the file of a rule 1 site is byte for byte what it was, and every file that does not begin with
-- kind 5 is read as before, for the same reasons; an old reader answers 9 to one that does. Assumes nothing.
use Prim.Native.Nat.{ℕ, ◌≤◌}
use mathlib.Core.Path.{◌≡◌, refl, sym, ap, ◌∙◌}
use mathlib.Core.Bool.{Bool, true, false}
use mathlib.Core.List.{List, [], ◌∷◌, ◌++◌, append-nil}
use borrow.Author.Tests.{ltb-false, le-ltb, eqb-true}
use lib.Dec.{ltb, eqb}
use lib.ListN.{length, take}
use Rattle.laws.specs.Choice.{pick}
use Rattle.positions.specs.Blocked.{empty_set}
use Rattle.records.specs.Bytes.{le16, two_bytes_each}
use Rattle.records.specs.Layout.{record_of, body_at}
use Rattle.records.specs.Reasons.{Reason, first_reason, end_reason}
use Rattle.records.specs.Head.{head_record, cells_of_head, slots_of_head, channels_of_head, head_reasons, head_answer}
use Rattle.records.specs.declared.Refusal.{Refusal}
use Rattle.std.specs.Prelude.{Result, Ok, Err}
use Rattle.records.specs.Reasons.{refusal}
use Rattle.std.specs.Result.{result_and}
use Rattle.records.proofs.Reasons.{refused_of, done-refused, first-append, both-done, done_none}
use Rattle.site.specs.Record.{positions, site_of}
use Rattle.site.specs.declared.Site.{Site}
use Rattle.records.proofs.Head.{head_read-law}
use Rattle.sitehead.specs.Head.{is_ruled, rule_stated, ruled_reasons, site_head_reasons, site_head}
use Rattle.reachpairs.specs.Reasons.{reach_reasons}
use Rattle.reachpairs.specs.Pairs.{reach_of_body, pair_bytes}
use Rattle.blockbits.specs.Blocks.{nothing_in, block_record}
use Rattle.blockbits.specs.Reasons.{last_reasons, blocked_or}
use Rattle.blockbits.specs.Loop.{no_blocks}
use Rattle.sitefile.specs.Reasons.{loads_at, reach_at, last_at, positions_of_head, loads_reasons, site_reasons}
use Rattle.sitefile.specs.Read.{loads_of_body, site_of_file, site_answer, site_done, read_site}
use Rattle.sitefile.specs.Write.{site_bytes}
use Rattle.sitefile.specs.Before.{four_kinds, four_reasons, three_kinds, three_reasons, three_site}
use Rattle.sitehead.proofs.Head.{head_plain}
use Rattle.blockbits.proofs.Blocks.{block_none}
use Rattle.blockbits.proofs.ReadLaws.{last_none, blocks-told, blocks-given}
use Rattle.sitefile.proofs.Reasons.{site-parts, first-refused, accept}

-- "byte for byte what it was"
pub rule-bytes : (s : Site) → s.rule ≡ 1 → site_bytes s ≡ four_kinds s
unfolding site_bytes
rule-bytes s one =
    ap (λ (k : ℕ). site_head k s.cells s.slots s.channels ++ (record_of 2 (two_bytes_each (take s.cells s.loads))
    ++ (record_of 3 (pair_bytes s.reach) ++ block_record s.blocked (positions s)))) one

pub same_bytes-law : (s : Site) → s.rule ≡ 1 → nothing_in s.blocked ≡ true → site_bytes s ≡ three_kinds s
same_bytes-law s one e =
    let H = head_record s.cells s.slots s.channels in
    let M = record_of 2 (two_bytes_each (take s.cells s.loads)) in
    let R = record_of 3 (pair_bytes s.reach) in
    rule-bytes s one ∙ ap (λ (l : List ℕ). H ++ (M ++ (R ++ l))) (block_none s.blocked (positions s) e) ∙ ap (λ (l : List ℕ). H ++ (M ++ l)) (append-nil R)

-- W11: a file that does not begin with kind 5
module _ (s : List ℕ) where
  -- has the reasons that it had
  pub rule-reasons : is_ruled s ≡ false → site_reasons s ≡ four_reasons s
  unfolding site_reasons site_head_reasons
  rule-reasons e =
      ap (λ (t : Bool). pick t (ruled_reasons s) (head_reasons s) ++ (loads_reasons s (loads_at s) (cells_of_head s)
      ++ (reach_reasons s (reach_at s) (cells_of_head s) ++ last_reasons s (last_at s) (positions_of_head s)))) e

  -- and states rule 1
  pub rule-read : is_ruled s ≡ false → (site_of_file s).rule ≡ 1
  unfolding site_of_file
  rule-read e = ap (λ (t : Bool). pick t (rule_stated s) 1) e

  -- "An old reader answers 9", at the head
  pub old-reader : 4 ≤ length s → is_ruled s ≡ true → first_reason (four_reasons s) ≡ Err (refusal 9 0)
  unfolding first_reason
  old-reader h e = simp (le-ltb (length s) 4 h, eqb-true (le16 s 2) 5 e)

module _ (s : List ℕ) where
  abbrev L : Result Unit Refusal
  L = first_reason (loads_reasons s (loads_at s) (cells_of_head s))

  abbrev K : Result Unit Refusal
  K = first_reason (reach_reasons s (reach_at s) (cells_of_head s))

  abbrev E : Result Unit Refusal
  E = first_reason (end_reason s (last_at s) ∷ [])

  abbrev Z : Result Unit Refusal
  Z = first_reason (last_reasons s (last_at s) (positions_of_head s))

  three-parts : first_reason (three_reasons s) ≡ result_and (head_answer s) (result_and L (result_and K E))
  unfolding head_answer
  three-parts =
      let loads = loads_reasons s (loads_at s) (cells_of_head s) in
      let reach = reach_reasons s (reach_at s) (cells_of_head s) in
      let last : List Reason = end_reason s (last_at s) ∷ [] in
      first-append (head_reasons s) (loads ++ (reach ++ last))
      ∙ ap (result_and (first_reason (head_reasons s))) (first-append loads (reach ++ last) ∙ ap (result_and (first_reason loads)) (first-append reach last))

  -- what was accepted is accepted, as the same site with nothing blocked
  pub same_read : first_reason (three_reasons s) ≡ Ok tt → read_site s ≡ site_done (three_site s)
  unfolding site_of_file
  same_read e =
      let h = both-done (head_answer s) (result_and L (result_and K E)) (sym three-parts ∙ e) in
      let l = both-done L (result_and K E) h.1 in
      let k = both-done K E l.1 in
      let ended : length s ≤ last_at s = ltb-false (last_at s) (length s) (done_none (end_reason s (last_at s) ∷ []) k.1).0 in
      let opened = (head_read-law s h.0).opening in
      let plain : is_ruled s ≡ false = ap (λ (k : ℕ). eqb k 5) opened.same in
      let q = last_none s (last_at s) (positions_of_head s) ended in
      let blocked : blocked_or s (last_at s) ≡ empty_set = sym (blocks-given s (last_at s) (positions_of_head s) (no_blocks (Ok tt)) q refl) in
      let done : site_answer s ≡ Ok tt =
      site-parts s
      ∙ ap (λ (x : Result Unit Refusal). result_and x (result_and L (result_and K Z))) (head_plain s plain ∙ h.0)
      ∙ ap (λ (x : Result Unit Refusal). result_and x (result_and K Z)) l.0
      ∙ ap (λ (x : Result Unit Refusal). result_and x Z) k.0
      ∙ blocks-told s (last_at s) (positions_of_head s) (no_blocks (Ok tt)) q in
      sym (accept s done)
      ∙ (λ j. site_done (site_of (cells_of_head s) (slots_of_head s) (channels_of_head s) (loads_of_body (body_at s (loads_at s)))
      (reach_of_body (body_at s (reach_at s))) (blocked j) (rule-read s plain j)))

  kept :
      (h l k e z : Result Unit Refusal) (n at : ℕ) → result_and h (result_and l (result_and k e)) ≡ Err (refusal n at) → (e ≡ Err (refusal n at) → ⊥) →
      result_and h (result_and l (result_and k z)) ≡ Err (refusal n at)
  kept (Err r) l k e z n at g other = g
  kept (Ok u) (Err r) k e z n at g other = g
  kept (Ok u) (Ok v) (Err r) e z n at g other = g
  kept (Ok u) (Ok v) (Ok w) e z n at g other = absurd (other g)

  only-twelve : (t : Bool) (n at : ℕ) → pick {A = Result Unit Refusal} t (Err (refusal 12 (last_at s))) (Ok tt) ≡ Err (refusal n at) → n ≡ 12
  only-twelve true n at g = ap (λ x. (refused_of x).number) (sym g)
  only-twelve false n at g = absurd (done-refused g)

  -- what was refused otherwise than for bytes after kind 3, or for kind 5, is refused as it was
  pub same-refused : (n at : ℕ) → is_ruled s ≡ false → first_reason (three_reasons s) ≡ Err (refusal n at) → (n ≡ 12 → ⊥)
      → (read_site s).answer ≡ Err (refusal n at)
  unfolding first_reason
  same-refused n at plain e other =
      first-refused s ∙ site-parts s
      ∙ ap (λ (x : Result Unit Refusal). result_and x (result_and L (result_and K Z))) (head_plain s plain)
      ∙ kept (head_answer s) L K E Z n at (sym three-parts ∙ e) (λ g. other (only-twelve (ltb (last_at s) (length s)) n at g))
