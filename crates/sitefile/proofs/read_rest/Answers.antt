-- `sitefile::read_rest` meets its contract: kind 3 and then kind 6 decide the answer, and the site is what the bodies state. Assumes nothing.
use Prim.Native.Nat.{ℕ, ◌+◌, ◌-◌, ◌*◌, ◌≤◌}
use mathlib.Core.Path.{◌≡◌, refl, sym, ap, ◌∙◌}
use mathlib.Core.List.{List}
use native.Mathlib.Omega.{arith}
use Rattle.positions.specs.Blocked.{most_positions}
use Rattle.records.specs.Bytes.{le16}
use Rattle.records.specs.Head.{cells_of_head}
use Rattle.records.specs.declared.Length.TheVariants.{Pairs}
use Rattle.records.proofs.Laws.{Opening}
use Rattle.reachpairs.specs.Loop.{PairsRead, reach_read}
use Rattle.reachpairs.specs.Pairs.{reach_of_body}
use Rattle.records.specs.Layout.{body_at}
use Rattle.std.specs.Prelude.{Ok}
use Rattle.blockbits.specs.Loop.{blocks_read}
use Rattle.sitefile.specs.Reasons.{reach_at, last_at, positions_of_head}
use Rattle.sitefile.specs.Read.{refused_site, site_of_file, site_answer}
use Rattle.sitefile.specs.Loop.{LoadsRead}
use Rattle.sitehead.proofs.Head.{site-head-read, site-head-sizes}
use Rattle.blockbits.proofs.ReadLaws.{blocks-given}
use Rattle.sitefile.proofs.Reasons.{refuse, accept}
use Rattle.sitefile.proofs.ReadLaws.{rows-stop, rows_are, reach-open, site-is}
use Rattle.site.specs.Record.{site_of}
use Rattle.site.proofs.Faults.{few-positions}
use Rattle.sitefile.proofs.read_rest.Goals as goal

-- what kind 3 gives, and that it was given
abbrev Rows : List ℕ → PairsRead
Rows s = reach_read s (reach_at s) (cells_of_head s)

pub read_reach-first-requires : goal.read_reach-first-requires
read_reach-first-requires c = let g = c.requires in
    (omega (arith, g.cells_are, (site-head-sizes _ g.head).cells_most), refl)

pub returns-in_default : goal.returns-in_default
returns-in_default c =
    let said : c.read_reach-first.result ≡ (Rows (c.args.bytes.now)).answer = c.read_reach-first.ensures.answer ∙
    (λ j. (reach_read (c.args.bytes.now) ((c.requires).place j) ((c.requires).cells_are j)).answer) in
    let e = c.in_default.is in
    c.refused.ensures ∙ ap refused_site e ∙ refuse _ _ (rows-stop (c.args.bytes.now) (c.requires).head (c.requires).found (Rows (c.args.bytes.now)) refl _
    (sym said ∙ e))

pub two_bytes-slots-requires : goal.two_bytes-slots-requires
two_bytes-slots-requires c =
    let given : LoadsRead (c.args.bytes.now) c.args.at c.args.cells c.args.loads = c.requires in
    omega (arith, (site-head-read _ given.head).long)

pub two_bytes-channels-requires : goal.two_bytes-channels-requires
two_bytes-channels-requires c =
    let given : LoadsRead (c.args.bytes.now) c.args.at c.args.cells c.args.loads = c.requires in
    omega (arith, (site-head-read _ given.head).long)

pub overflow_add-end : goal.overflow_add-end
overflow_add-end c =
    let said : c.read_reach-first.result ≡ (Rows (c.args.bytes.now)).answer = c.read_reach-first.ensures.answer ∙
    (λ j. (reach_read (c.args.bytes.now) ((c.requires).place j) ((c.requires).cells_are j)).answer) in
    let given : LoadsRead (c.args.bytes.now) c.args.at c.args.cells c.args.loads = c.requires in
    let done : (Rows (c.args.bytes.now)).answer ≡ Ok tt = sym said ∙ c.in-Ok.is in
    let opening : Opening (c.args.bytes.now) (reach_at (c.args.bytes.now)) 3 Pairs (reach_at (c.args.bytes.now) + 4)
    (le16 (c.args.bytes.now) (reach_at (c.args.bytes.now)) - 2) = reach-open (c.args.bytes.now) given.head given.found
    (Rows (c.args.bytes.now)) refl done in
    omega (arith, opening.four, given.place)

pub two_bytes-requires : goal.two_bytes-requires
two_bytes-requires c =
    let said : c.read_reach-first.result ≡ (Rows (c.args.bytes.now)).answer = c.read_reach-first.ensures.answer ∙
    (λ j. (reach_read (c.args.bytes.now) ((c.requires).place j) ((c.requires).cells_are j)).answer) in
    let given : LoadsRead (c.args.bytes.now) c.args.at c.args.cells c.args.loads = c.requires in
    let done : (Rows (c.args.bytes.now)).answer ≡ Ok tt = sym said ∙ c.in-Ok.is in
    let opening : Opening (c.args.bytes.now) (reach_at (c.args.bytes.now)) 3 Pairs (reach_at (c.args.bytes.now) + 4)
    (le16 (c.args.bytes.now) (reach_at (c.args.bytes.now)) - 2) = reach-open (c.args.bytes.now) given.head given.found
    (Rows (c.args.bytes.now)) refl done in
    omega (arith, opening.four, given.place)

pub overflow_add-end-2 : goal.overflow_add-end-2
overflow_add-end-2 c =
    let said : c.read_reach-first.result ≡ (Rows (c.args.bytes.now)).answer = c.read_reach-first.ensures.answer ∙
    (λ j. (reach_read (c.args.bytes.now) ((c.requires).place j) ((c.requires).cells_are j)).answer) in
    let given : LoadsRead (c.args.bytes.now) c.args.at c.args.cells c.args.loads = c.requires in
    let done : (Rows (c.args.bytes.now)).answer ≡ Ok tt = sym said ∙ c.in-Ok.is in
    let opening : Opening (c.args.bytes.now) (reach_at (c.args.bytes.now)) 3 Pairs (reach_at (c.args.bytes.now) + 4)
    (le16 (c.args.bytes.now) (reach_at (c.args.bytes.now)) - 2) = reach-open (c.args.bytes.now) given.head given.found
    (Rows (c.args.bytes.now)) refl done in
    let end_is : c.args.at + 2 + c.two_bytes.result ≡ last_at ((c.args.bytes.now)) = let at = c.args.at in
    ap (λ (x : ℕ). at + 2 + x) c.two_bytes.ensures ∙ ap (λ (k : ℕ). k + 2 + le16 ((c.args.bytes.now)) k) given.place in
    omega (arith, end_is, opening.«end»)

pub overflow_mul-slots : goal.overflow_mul-slots
overflow_mul-slots c =
    let given : LoadsRead (c.args.bytes.now) c.args.at c.args.cells c.args.loads = c.requires in
    let positions-are : c.two_bytes-slots.result * c.two_bytes-channels.result ≡ positions_of_head
    ((c.args.bytes.now)) = λ j. c.two_bytes-slots.ensures j * c.two_bytes-channels.ensures j in
    let many : positions_of_head ((c.args.bytes.now)) ≤ most_positions = few-positions (site-head-sizes ((c.args.bytes.now)) given.head) in
    omega (arith, positions-are, many)

pub read_blocks-last-requires : goal.read_blocks-last-requires
read_blocks-last-requires c =
    let given : LoadsRead (c.args.bytes.now) c.args.at c.args.cells c.args.loads = c.requires in
    let positions-are : c.two_bytes-slots.result * c.two_bytes-channels.result ≡ positions_of_head
    ((c.args.bytes.now)) = λ j. c.two_bytes-slots.ensures j * c.two_bytes-channels.ensures j in
    let many : positions_of_head ((c.args.bytes.now)) ≤ most_positions = few-positions (site-head-sizes ((c.args.bytes.now)) given.head) in
    omega (arith, positions-are, many)

pub returns-in_default-answer : goal.returns-in_default-answer
returns-in_default-answer c =
    let said : c.read_reach-first.result ≡ (Rows (c.args.bytes.now)).answer = c.read_reach-first.ensures.answer ∙
    (λ j. (reach_read (c.args.bytes.now) ((c.requires).place j) ((c.requires).cells_are j)).answer) in
    let given : LoadsRead (c.args.bytes.now) c.args.at c.args.cells c.args.loads = c.requires in
    let done : (Rows (c.args.bytes.now)).answer ≡ Ok tt = sym said ∙ c.in-Ok.is in
    let end_is : c.args.at + 2 + c.two_bytes.result ≡ last_at ((c.args.bytes.now)) = let at = c.args.at in
    ap (λ (x : ℕ). at + 2 + x) c.two_bytes.ensures ∙ ap (λ (k : ℕ). k + 2 + le16 ((c.args.bytes.now)) k) given.place in
    let positions-are : c.two_bytes-slots.result * c.two_bytes-channels.result ≡ positions_of_head
    ((c.args.bytes.now)) = λ j. c.two_bytes-slots.ensures j * c.two_bytes-channels.ensures j in
    let last : let s = ((c.args.bytes.now)) in c.read_blocks-last.result ≡ blocks_read s (last_at s) (positions_of_head s) = c.read_blocks-last.ensures ∙
    (λ j. blocks_read ((c.args.bytes.now)) (end_is j) (positions-are j)) in
    let told : site_answer ((c.args.bytes.now)) ≡ c.read_blocks-last.result.answer = site-is (c.args.bytes.now) given.head given.found
    (Rows (c.args.bytes.now)) refl done c.read_blocks-last.result last in
    let e = c.in_default-answer.is in
    c.refused-in_default-answer.ensures ∙ ap refused_site e ∙ refuse _ _ (told ∙ e)

pub rule_of-rule-requires : goal.rule_of-rule-requires
rule_of-rule-requires c =
    let given : LoadsRead (c.args.bytes.now) c.args.at c.args.cells c.args.loads = c.requires in
    given.head

pub returns : goal.returns
unfolding site_of_file
returns c =
    let said : c.read_reach-first.result ≡ (Rows (c.args.bytes.now)).answer = c.read_reach-first.ensures.answer ∙
    (λ j. (reach_read (c.args.bytes.now) ((c.requires).place j) ((c.requires).cells_are j)).answer) in
    let given : LoadsRead (c.args.bytes.now) c.args.at c.args.cells c.args.loads = c.requires in
    let done : (Rows (c.args.bytes.now)).answer ≡ Ok tt = sym said ∙ c.in-Ok.is in
    let stated : (reach_read (c.args.bytes.now) c.args.at c.args.cells).reach ≡ reach_of_body (body_at (c.args.bytes.now) (reach_at (c.args.bytes.now))) =
    (λ j. (reach_read (c.args.bytes.now) (given.place j) (given.cells_are j)).reach) ∙ rows_are (c.args.bytes.now) given.head given.found
    (Rows (c.args.bytes.now)) refl done in
    let end_is : c.args.at + 2 + c.two_bytes.result ≡ last_at ((c.args.bytes.now)) = let at = c.args.at in
    ap (λ (x : ℕ). at + 2 + x) c.two_bytes.ensures ∙ ap (λ (k : ℕ). k + 2 + le16 ((c.args.bytes.now)) k) given.place in
    let positions-are : c.two_bytes-slots.result * c.two_bytes-channels.result ≡ positions_of_head
    ((c.args.bytes.now)) = λ j. c.two_bytes-slots.ensures j * c.two_bytes-channels.ensures j in
    let last : let s = ((c.args.bytes.now)) in c.read_blocks-last.result ≡ blocks_read s (last_at s) (positions_of_head s) = c.read_blocks-last.ensures ∙
    (λ j. blocks_read ((c.args.bytes.now)) (end_is j) (positions-are j)) in
    let told : site_answer ((c.args.bytes.now)) ≡ c.read_blocks-last.result.answer = site-is (c.args.bytes.now) given.head given.found
    (Rows (c.args.bytes.now)) refl done c.read_blocks-last.result last in
    let g = given in
    let e = c.in-Ok-answer.is in
    (λ j. record {
      site = site_of (g.cells_are j) (c.two_bytes-slots.ensures j) (c.two_bytes-channels.ensures j) (g.loads_are j)
          ((c.read_reach-first.ensures.rows ∙ stated) j)
          (blocks-given _ _ _ c.read_blocks-last.result last e j)
          (c.rule_of-rule.ensures j);
      answer = e j;
    })
    ∙ accept (c.args.bytes.now) (told ∙ e)
