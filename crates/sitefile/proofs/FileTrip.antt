-- The site file of a site in order, taken apart record by record: reading it gives the site, and the file of a site that was read is the bytes that were read.
-- Each record that is written is read back with what follows it, and each that is open is written again as it was (`RecordTrip` of the records).
-- Assumes nothing.
use Prim.Native.Nat.{ℕ, ◌+◌, ◌-◌, ◌*◌, ◌%◌, ◌≤◌, ◌<◌}
use mathlib.Core.Path.{◌≡◌, refl, sym, ap, ap₂, ◌∙◌}
use mathlib.Core.Bool.{Bool, true, false}
use mathlib.Core.List.{List, [], ◌++◌, append-nil}
use mathlib.Core.Logic.{◌⊎◌, ⊎_elim}
use native.Mathlib.Nat.{zero-add}
use native.Mathlib.Decide.{dec_lt}
use native.Mathlib.Omega.{arith}
use lib.ListN.{length, get_or, take, drop, replicate, get_or-replicate, length-append, length-drop, take-append-drop, drop_of_length-le}
use lib.Seq.{sets, sets-eq, length-sets, get_or-drop, length-take-le, ext_get_or}
use borrow.Author.Tests.{ltb-false, lt-ltb, le-ltb}
use Rattle.laws.specs.Choice.{pick}
use Rattle.laws.proofs.Choice.{cases}
use Rattle.laws.proofs.Stores.{take-sets, sets-past, zeros-at}
use Rattle.positions.specs.Blocked.{most_positions, empty_set}
use Rattle.records.specs.Bits.{bytes_for, left_over}
use Rattle.records.specs.Bytes.{Bytes, le16, two_bytes_each, numbers_in}
use Rattle.records.specs.Layout.{record_of, body_at, record_end}
use Rattle.records.specs.Reasons.{first_reason, record_reasons, NoneApply}
use Rattle.records.specs.Head.{cells_of_head, slots_of_head, channels_of_head}
use Rattle.records.specs.declared.Refusal.{Refusal}
use Rattle.std.specs.Prelude.{Result, Ok, Err}
use Rattle.records.specs.declared.Length.TheVariants.{Exact, Pairs}
use Rattle.records.proofs.Laws.{Opening, record-open, exact, even, exact-true, pairs-true, length-least}
use Rattle.records.proofs.Bytes.{bytes_drop, bytes_take, two-bytes-length, numbers-length, numbers-trip, bytes-trip}
use Rattle.std.specs.Result.{result_and}
use Rattle.records.proofs.Reasons.{both-done, done_none, none_done}
use Rattle.records.proofs.RecordTrip.{record-body, rest_back, record-back, body-length, record-again}
use Rattle.site.specs.Record.{positions, site_of}
use Rattle.site.specs.declared.Site.{Site}
use Rattle.site.proofs.Faults.{Sizes, sizes, few-positions, ruled}
use Rattle.sitehead.specs.Head.{rule_of_head, site_head_answer, site_head, head_kind, head_body}
use Rattle.reachpairs.specs.Reasons.{pair_reasons, reach_reasons}
use Rattle.reachpairs.specs.Pairs.{all_zero, reach_of_body, pair_bytes}
use Rattle.reachpairs.specs.Loop.{PairsRead, pairs_read_of, pairs_read}
use Rattle.blockbits.specs.Blocks.{blocked_of_body, block_bytes, nothing_in, block_record}
use Rattle.blockbits.specs.Reasons.{block_reasons, last_reasons, blocked_or}
use Rattle.blockbits.specs.Loop.{blocks_read}
use Rattle.sitefile.specs.Reasons.{loads_at, reach_at, last_at, positions_of_head, loads_reasons}
use Rattle.sitefile.specs.Read.{loads_of_body, site_of_file, site_answer}
use Rattle.sitefile.specs.Write.{site_bytes}
use Rattle.sitehead.proofs.Head.{SiteHeadGood, site-head-read, head-written}
use Rattle.reachpairs.proofs.RowLaws.{pair-bytes-even}
use Rattle.reachpairs.proofs.Rows.{Rows}
use Rattle.reachpairs.proofs.PairTrip.{Named, rows_read, pairs-read, pairs-written}
use Rattle.reachpairs.proofs.PairReasons.{pairs-way}
use Rattle.reachpairs.proofs.ReadLaws.{reach-parts}
use Rattle.blockbits.proofs.Blocks.{SetHeld, nothing-empty, empty-held, empty-is, body-held, bytes-length, bytes-set, none_left, set-bytes}
use Rattle.blockbits.proofs.Blocks.{block_none, block-some}
use Rattle.blockbits.proofs.ReadLaws.{last_none, blocks-told, blocks-given, blocks-done, body-long}
use Rattle.sitefile.proofs.Reasons.{site-parts}
use Rattle.blockbits.specs.declared.BlocksRead.{BlocksRead}

-- a site whose record is in order
pub record GoodSite (s : Site) : Type 0 where
  pub range : Sizes s.cells s.slots s.channels
  pub rule-in : (s.rule ≡ 1) ⊎ (s.rule ≡ 2)
  pub size : length s.loads ≡ 32
  pub unused : (k : ℕ) → s.cells ≤ k → get_or s.loads k 0 ≡ 0
  pub rows : Rows s.reach
  pub named : Named s.cells s.reach
  pub blocked : SetHeld s.blocked (positions s)

-- the used loads, and zeros after them
loads-over :
    (n : ℕ) (loads z : List ℕ) → n ≤ length loads → length z ≡ length loads →
    ((k : ℕ) → n ≤ k → k < length loads → get_or loads k 0 ≡ get_or z k 0) → sets z 0 (take n loads) ≡ loads
loads-over n loads z h size same =
    let e : length (take n loads) ≡ n = length-take-le n loads h in
    let rest : drop n z ≡ drop n loads =
    ext_get_or 0 (drop n z) (drop n loads) (simp length-drop (omega arith))
    (λ i l. rw (get_or-drop n z i 0, get_or-drop n loads i 0) (sym (same (n + i) (omega arith) (omega (arith, simp length-drop at l))))) in
    sets-eq (take n loads) z 0 (omega arith)
    ∙ ap (λ (k : ℕ). take n loads ++ drop k z) (zero-add (length (take n loads)) ∙ e)
    ∙ ap (λ (l : List ℕ). take n loads ++ l) rest
    ∙ take-append-drop n loads

loads-back :
    (n : ℕ) (loads : List ℕ) → n ≤ 32 → length loads ≡ 32 → ((k : ℕ) → n ≤ k → get_or loads k 0 ≡ 0) →
    sets (replicate 32 0) 0 (take n loads) ≡ loads
loads-back n loads h size unused =
    loads-over n loads (replicate 32 0) (omega arith) (sym size)
    (λ k a b. unused k a ∙ sym (get_or-replicate {A = ℕ} 32 k 0 0 (omega arith)))

-- rows that were read
rows_of : (r rows : List ℕ) (a : Result Unit Refusal) → pairs_read_of r a ≡ rows_read rows → (a ≡ Ok tt) × (r ≡ rows)
unfolding pairs_read_of
rows_of r rows (Ok u) e = (refl, ap (λ (x : PairsRead). x.reach) e)
rows_of r rows (Err f) e =
    let y : ◌≡◌ {A = Result Unit Refusal} (Err f) (Ok tt) = ap (λ (x : PairsRead). x.answer) e in
    let z : ◌≡◌ {A = ℕ} 0 1 = cc in
    absurd (omega arith)

module _ (s : Site) (good : GoodSite s) where
  abbrev B : List ℕ
  B = site_bytes s

  abbrev L : List ℕ
  L = two_bytes_each (take s.cells s.loads)

  abbrev P : List ℕ
  P = pair_bytes s.reach

  in_order-law : s.cells ≤ 32
  in_order-law = good.range.cells_most

  l-length : length L ≡ 2 * s.cells
  l-length = two-bytes-length (take s.cells s.loads) ∙ ap (λ (k : ℕ). 2 * k) (length-take-le s.cells s.loads (omega (arith, in_order-law, good.size)))

  abbrev E : List ℕ
  E = block_record s.blocked (positions s)

  -- where each record stands
  head-here : drop 0 B ≡ site_head s.rule s.cells s.slots s.channels ++ (record_of 2 L ++ (record_of 3 P ++ E))
  unfolding site_bytes
  head-here = refl

  loads-here : drop (loads_at B) B ≡ record_of 2 L ++ (record_of 3 P ++ E)
  loads-here =
      rest_back B 0 (head_kind s.rule) (head_body s.rule s.cells s.slots s.channels) (record_of 2 L ++ (record_of 3 P ++ E)) head-here

  reach_here : drop (reach_at B) B ≡ record_of 3 P ++ E
  reach_here = rest_back B (loads_at B) 2 L (record_of 3 P ++ E) loads-here

  last-here : drop (last_at B) B ≡ E
  last-here = rest_back B (reach_at B) 3 P E reach_here

  cells-back : cells_of_head B ≡ s.cells
  unfolding site_bytes
  cells-back = omega arith

  slots-back : slots_of_head B ≡ s.slots
  unfolding site_bytes
  slots-back = omega arith

  channels-back : channels_of_head B ≡ s.channels
  unfolding site_bytes
  channels-back = omega arith

  -- each record has no reason to be refused
  head-told : (site_head_answer B ≡ Ok tt) × (rule_of_head B ≡ s.rule)
  head-told = head-written B (record_of 2 L ++ (record_of 3 P ++ E)) s.cells s.slots s.channels good.range s.rule good.rule-in head-here

  head-good : site_head_answer B ≡ Ok tt
  head-good = head-told.0

  loads-good : first_reason (loads_reasons B (loads_at B) (cells_of_head B)) ≡ Ok tt
  loads-good =
      let n : 2 + length L ≡ 2 + 2 * cells_of_head B = omega (arith, l-length, cells-back) in
      record-back B (loads_at B) 2 L (record_of 3 P ++ E) loads-here (Exact (2 + 2 * cells_of_head B))
      (rw n (exact-true (2 + 2 * cells_of_head B) (omega arith)))

  pairs-back : (at : ℕ) → (first_reason (pair_reasons s.cells at 0 0 P) ≡ Ok tt) × (reach_of_body P ≡ s.reach)
  unfolding pairs_read
  pairs-back at =
      rows_of (reach_of_body P) s.reach (first_reason (pair_reasons s.cells at 0 0 P))
      (sym (pairs-way s.cells at in_order-law P) ∙ pairs-read s.cells at s.reach good.rows good.named)

  reach-body : body_at B (reach_at B) ≡ P
  reach-body = record-body B (reach_at B) 3 P E reach_here

  reach-good : first_reason (reach_reasons B (reach_at B) (cells_of_head B)) ≡ Ok tt
  reach-good =
      let fits = pairs-true (2 + length P) (omega arith) (omega (arith, pair-bytes-even s.reach)) in
      let open-3 = record-back B (reach_at B) 3 P E reach_here Pairs fits in
      let pairs : first_reason (pair_reasons (cells_of_head B) (reach_at B) 0 0 (body_at B (reach_at B))) ≡ Ok tt =
      (λ j. first_reason (pair_reasons (cells-back j) (reach_at B) 0 0 (reach-body j))) ∙ (pairs-back (reach_at B)).0 in
      reach-parts B (reach_at B) (cells_of_head B)
      ∙ ap (λ (a : Result Unit Refusal). result_and a (first_reason (pair_reasons (cells_of_head B) (reach_at B) 0 0 (body_at B (reach_at B))))) open-3
      ∙ pairs

  -- kind 6: absent where nothing is blocked, and else in order
  many : positions s ≤ most_positions
  many = few-positions good.range

  positions-back : positions_of_head B ≡ positions s
  positions-back = ap₂ (λ (x y : ℕ). x * y) slots-back channels-back

  abbrev as_read : BlocksRead
  as_read = record { blocked = s.blocked; answer = Ok tt }

  none-back : nothing_in s.blocked ≡ true → as_read ≡ blocks_read B (last_at B) (positions_of_head B)
  none-back e =
      let ended : length B - last_at B ≡ 0 = sym (length-drop (last_at B) B) ∙ ap length (last-here ∙ block_none s.blocked (positions s) e) in
      (λ j. record { blocked = empty-is s.blocked (positions s) good.blocked e j; answer = Ok tt })
      ∙ last_none B (last_at B) (positions_of_head B) (omega arith)

  module _ (some : nothing_in s.blocked ≡ false) where
    abbrev Q : List ℕ
    Q = block_bytes s.blocked (positions s)

    block_here : drop (last_at B) B ≡ record_of 6 Q ++ []
    block_here = last-here ∙ block-some s.blocked (positions s) some ∙ sym (append-nil (record_of 6 Q))

    block-body : body_at B (last_at B) ≡ Q
    block-body = record-body B (last_at B) 6 Q [] block_here

    block-due : last_at B < length B
    block-due =
        let n : length (record_of 6 Q ++ []) ≡ 4 + length Q = simp length-append (omega arith) in
        let d : length B - last_at B ≡ 4 + length Q = sym (length-drop (last_at B) B) ∙ ap length block_here ∙ n in
        omega arith

    block-open : first_reason (record_reasons B (last_at B) 6 (Exact (2 + bytes_for (positions_of_head B)))) ≡ Ok tt
    block-open =
        let n : 2 + length Q ≡ 2 + bytes_for (positions_of_head B) =
        ap (λ (k : ℕ). 2 + k) (bytes-length s.blocked (positions s) ∙ ap bytes_for (sym positions-back)) in
        record-back B (last_at B) 6 Q [] block_here (Exact (2 + bytes_for (positions_of_head B)))
        (rw n (exact-true (2 + bytes_for (positions_of_head B)) (omega arith)))

    block-left : left_over (body_at B (last_at B)) (positions_of_head B) ≡ false
    block-left = (λ j. left_over (block-body j) (positions-back j)) ∙ none_left s.blocked (positions s) many good.blocked

    block-set : blocked_of_body (body_at B (last_at B)) ≡ s.blocked
    block-set = ap blocked_of_body block-body ∙ bytes-set s.blocked (positions s) good.blocked

    block-whole : length B ≤ record_end B (last_at B)
    block-whole =
        let ended : length B - record_end B (last_at B) ≡ 0 =
        sym (length-drop (record_end B (last_at B)) B) ∙ ap length (rest_back B (last_at B) 6 Q [] block_here) in
        omega arith

    some_back : as_read ≡ blocks_read B (last_at B) (positions_of_head B)
    some_back =
        (λ j. record { blocked = sym block-set j; answer = Ok tt })
        ∙ blocks-done B (last_at B) (positions_of_head B) block-due block-open block-left (ap (λ (l : List ℕ). nothing_in l) block-set ∙ some) block-whole

  blocks-back : as_read ≡ blocks_read B (last_at B) (positions_of_head B)
  blocks-back = ⊎_elim none-back some_back (cases (nothing_in s.blocked))

  last-good : first_reason (last_reasons B (last_at B) (positions_of_head B)) ≡ Ok tt
  last-good = blocks-told B (last_at B) (positions_of_head B) as_read blocks-back

  pub written-accepted : site_answer B ≡ Ok tt
  written-accepted =
      site-parts B
      ∙ ap (λ (a : Result Unit Refusal). result_and a (result_and (first_reason (loads_reasons B (loads_at B) (cells_of_head B)))
      (result_and (first_reason (reach_reasons B (reach_at B) (cells_of_head B))) (first_reason (last_reasons B (last_at B) (positions_of_head B)))))) head-good
      ∙ ap (λ (a : Result Unit Refusal). result_and a (result_and (first_reason (reach_reasons B (reach_at B) (cells_of_head B)))
      (first_reason (last_reasons B (last_at B) (positions_of_head B))))) loads-good
      ∙ ap (λ (a : Result Unit Refusal). result_and a (first_reason (last_reasons B (last_at B) (positions_of_head B)))) reach-good
      ∙ last-good

  loads-stated : loads_of_body (body_at B (loads_at B)) ≡ s.loads
  loads-stated =
      ap loads_of_body (record-body B (loads_at B) 2 L (record_of 3 P ++ E) loads-here)
      ∙ ap (sets all_zero 0) (numbers-trip (take s.cells s.loads))
      ∙ loads-back s.cells s.loads in_order-law good.size good.unused

  blocked-stated : blocked_or B (last_at B) ≡ s.blocked
  blocked-stated = sym (blocks-given B (last_at B) (positions_of_head B) as_read blocks-back refl)

  pub written-stated : site_of_file B ≡ s
  unfolding site_of_file
  written-stated =
      λ j. site_of (cells-back j) (slots-back j) (channels-back j) (loads-stated j) ((ap reach_of_body reach-body ∙ (pairs-back 0).1) j) (blocked-stated j)
      (head-told.1 j)

-- what an accepted file tells: each record is open, its contents are in order, and nothing follows the last
pub record Accepted (b : List ℕ) : Type 0 where
  pub head : SiteHeadGood b
  pub loads : Opening b (loads_at b) 2 (Exact (2 + 2 * cells_of_head b)) (loads_at b + 4) (le16 b (loads_at b) - 2)
  pub reach : Opening b (reach_at b) 3 Pairs (reach_at b + 4) (le16 b (reach_at b) - 2)
  pub pairs : first_reason (pair_reasons (cells_of_head b) (reach_at b) 0 0 (body_at b (reach_at b))) ≡ Ok tt
  pub last : first_reason (last_reasons b (last_at b) (positions_of_head b)) ≡ Ok tt

pub accepted : (b : List ℕ) → site_answer b ≡ Ok tt → Accepted b
accepted b e =
    let h = both-done _ _ (sym (site-parts b) ∙ e) in
    let l = both-done _ _ h.1 in
    let k = both-done _ _ l.1 in
    let r = both-done _ _ (sym (reach-parts b (reach_at b) (cells_of_head b)) ∙ k.0) in
    record {
      head = site-head-read b h.0;
      loads = record-open b (loads_at b) 2 (Exact (2 + 2 * cells_of_head b)) l.0;
      reach = record-open b (reach_at b) 3 Pairs r.0;
      pairs = r.1;
      last = k.1;
    }

module _ (b : List ℕ) (bytes : Bytes b) (done : site_answer b ≡ Ok tt) where
  a : Accepted b
  a = accepted b done

  range : Sizes (cells_of_head b) (slots_of_head b) (channels_of_head b)
  range = sizes _ _ _ a.head.range

  abbrev X : List ℕ
  X = body_at b (loads_at b)

  abbrev Y : List ℕ
  Y = body_at b (reach_at b)

  -- the loads
  x-length : length X ≡ 2 * cells_of_head b
  x-length =
      body-length b bytes (loads_at b) 2 (Exact (2 + 2 * cells_of_head b)) _ _ a.loads
      ∙ omega (arith, exact (2 + 2 * cells_of_head b) (le16 b (loads_at b)) a.loads.fits)

  w-length : length (numbers_in X) ≡ cells_of_head b
  w-length = numbers-length X ∙ omega (arith, x-length)

  loads-bytes : two_bytes_each (take (cells_of_head b) (loads_of_body X)) ≡ X
  loads-bytes =
      ap two_bytes_each (take-sets (cells_of_head b) (numbers_in X) all_zero w-length range.cells_most)
      ∙ bytes-trip X (bytes_take (le16 b (loads_at b) - 2) (drop (loads_at b + 4) b) (bytes_drop (loads_at b + 4) b bytes)) (omega (arith, x-length))

  -- the pairs
  y-even : length Y % 2 ≡ 0
  y-even =
      let n = body-length b bytes (reach_at b) 3 Pairs _ _ a.reach in
      omega (arith, even (le16 b (reach_at b)) a.reach.fits, length-least Pairs (le16 b (reach_at b)) a.reach.fits)

  rows-trip : (pair_bytes (reach_of_body Y) ≡ Y) × Rows (reach_of_body Y) × Named (cells_of_head b) (reach_of_body Y)
  unfolding pairs_read pairs_read_of
  rows-trip =
      pairs-written (cells_of_head b) (reach_at b) range.cells_most (reach_of_body Y) Y y-even
      (pairs-way (cells_of_head b) (reach_at b) range.cells_most Y ∙ ap (pairs_read_of (reach_of_body Y)) a.pairs)

  -- kind 6, or nothing
  abbrev N : ℕ
  N = positions_of_head b

  many_read : N ≤ most_positions
  many_read = few-positions range

  -- the file ends after kind 3
  module _ (ended : length b ≤ last_at b) where
    none_read : blocked_or b (last_at b) ≡ empty_set
    unfolding blocked_or
    none_read = ap (λ (t : Bool). pick t (blocked_of_body (body_at b (last_at b))) empty_set) (le-ltb (last_at b) (length b) ended)

    none-again : block_record (blocked_or b (last_at b)) N ≡ drop (last_at b) b
    none-again =
        ap (λ (l : List ℕ). block_record l N) none_read
        ∙ block_none empty_set N nothing-empty
        ∙ sym (drop_of_length-le b {i = last_at b} ended)

    none-held : SetHeld (blocked_or b (last_at b)) N
    none-held = rw none_read (empty-held N)

  -- a byte makes kind 6 due
  module _ (due : last_at b < length b) where
    abbrev W : List ℕ
    W = body_at b (last_at b)

    due-read : blocked_or b (last_at b) ≡ blocked_of_body W
    unfolding blocked_or
    due-read = ap (λ (t : Bool). pick t (blocked_of_body W) empty_set) (lt-ltb (last_at b) (length b) due)

    due-reasons : last_reasons b (last_at b) N ≡ block_reasons b (last_at b) N
    unfolding last_reasons
    due-reasons = ap (λ (t : Bool). pick t (block_reasons b (last_at b) N) []) (lt-ltb (last_at b) (length b) due)

    none-apply : NoneApply (block_reasons b (last_at b) N)
    none-apply = done_none (block_reasons b (last_at b) N) (ap first_reason (sym due-reasons) ∙ a.last)

    due-open : Opening b (last_at b) 6 (Exact (2 + bytes_for N)) (last_at b + 4) (le16 b (last_at b) - 2)
    due-open =
        record-open b (last_at b) 6 (Exact (2 + bytes_for N))
        (none_done (record_reasons b (last_at b) 6 (Exact (2 + bytes_for N)))
        (none-apply.0, (none-apply.1.0, (none-apply.1.1.0, (none-apply.1.1.1.0, tt)))))

    due-again : block_record (blocked_or b (last_at b)) N ≡ drop (last_at b) b
    due-again =
        let past = none-apply.1.1.1.1 in
        let whole : length b ≤ record_end b (last_at b) = ltb-false (record_end b (last_at b)) (length b) past.1.1.0 in
        let small : Bytes W = bytes_take (le16 b (last_at b) - 2) (drop (last_at b + 4) b) (bytes_drop (last_at b + 4) b bytes) in
        ap (λ (l : List ℕ). block_record l N) due-read
        ∙ block-some (blocked_of_body W) N past.1.0
        ∙ ap (record_of 6) (set-bytes W N small (body-long b (last_at b) N _ _ due-open) many_read)
        ∙ sym (append-nil (record_of 6 W))
        ∙ ap (λ (l : List ℕ). record_of 6 W ++ l) (sym (drop_of_length-le b {i = record_end b (last_at b)} whole))
        ∙ record-again b bytes (last_at b) 6 (Exact (2 + bytes_for N)) _ _ due-open

    due-held : SetHeld (blocked_or b (last_at b)) N
    due-held = rw due-read (body-held W N none-apply.1.1.1.1.0)

  last-again : block_record (blocked_or b (last_at b)) N ≡ drop (last_at b) b
  last-again = go (dec_lt (last_at b) (length b))
    where
      go : Dec (last_at b < length b) → block_record (blocked_or b (last_at b)) N ≡ drop (last_at b) b
      go (yes h) = due-again h
      go (no h) = none-again (omega arith)

  last-held : SetHeld (blocked_or b (last_at b)) N
  last-held = go (dec_lt (last_at b) (length b))
    where
      go : Dec (last_at b < length b) → SetHeld (blocked_or b (last_at b)) N
      go (yes h) = due-held h
      go (no h) = none-held (omega arith)

  -- an accepted file, read and written again, is the same bytes
  pub read-written : site_bytes (site_of_file b) ≡ b
  unfolding site_bytes site_of_file
  read-written =
      let H = site_head (rule_of_head b) (cells_of_head b) (slots_of_head b) (channels_of_head b) in
      let M = record_of 2 (two_bytes_each (take (cells_of_head b) (loads_of_body X))) in
      let third : record_of 3 (pair_bytes (reach_of_body Y)) ++ block_record (blocked_or b (last_at b)) N ≡ drop (reach_at b) b =
      (λ j. record_of 3 (rows-trip.0 j) ++ last-again j) ∙ record-again b bytes (reach_at b) 3 Pairs _ _ a.reach in
      let second : M ++ drop (reach_at b) b ≡ drop (loads_at b) b =
      ap (λ (l : List ℕ). record_of 2 l ++ drop (reach_at b) b) loads-bytes ∙ record-again b bytes (loads_at b) 2
      (Exact (2 + 2 * cells_of_head b)) _ _ a.loads in
      ap (λ (l : List ℕ). H ++ (M ++ l)) third
      ∙ ap (λ (l : List ℕ). H ++ l) second
      ∙ a.head.again bytes

  -- what is read is in order
  pub read-good : GoodSite (site_of_file b)
  unfolding site_of_file
  read-good =
      record {
        range = range;
        rule-in = ruled (rule_of_head b) a.head.ruled;
        size = length-sets all_zero 0 (numbers_in X);
        unused = λ k h. sets-past (numbers_in X) all_zero 0 k (omega (arith, w-length)) ∙ zeros-at 32 k;
        rows = rows-trip.1;
        named = rows-trip.2;
        blocked = last-held;
      }
