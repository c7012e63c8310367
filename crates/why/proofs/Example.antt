-- What `put_why` prints of small sites, letter by letter: each text was written by hand, and the text is computed. And what the two open sentences
-- leave open: on a site that is not nested a load test that fails may go with a plan or with none, and where this order found no room another may find
-- it, or none does. Assumes nothing.
use mathlib.Core.Path.{◌≡◌, refl}
use mathlib.Core.Bool.{Bool, true, false, ◌||◌, ◌&&◌}
use mathlib.Core.List.{List, [], ◌∷◌, ◌++◌, map}
use Prim.Native.Nat.{ℕ, ◌+◌, ◌≤◌, ◌<◌}
use Prim.Native.String.{String}
use native.Mathlib.Omega.{arith}
use lib.Dec.{eqb}
use lib.ListN.{length, take, replicate}
use Rattle.laws.specs.Bits.{word_of}
use Rattle.laws.specs.Most.{most}
use Rattle.laws.specs.Part.{part}
use Rattle.laws.specs.Search.{first_of}
use Rattle.laws.specs.Sum.{bit, sum, any}
use Rattle.theory.specs.Net.{Reserved, Valid}
use Rattle.theory.specs.Greedy.{forbid, marked, fill, run}
use Rattle.theory.specs.Verdict.{overloaded, lowest_over, load_verdict, most_demand, gap, breaks, break_of, first_break, chain_verdict, second_at}
use Rattle.theory.specs.Verdict.{second, splits, split_of, first_split, class_verdict}
use Rattle.theory.specs.Verdict.{holder_at, barred_at, lowest_barred, open_verdict, clashes_at, first_at, lowest_clash, wrong_in, lowest_wrong, table_verdict}
use Rattle.theory.proofs.TableLaws.{check-valid}
use Rattle.admitting.specs.Best.{best_of}
use Rattle.site.specs.Record.{site_of, size, up_to, size_ok, rule_ok, row_bad, extra_load, bad_row, extra_blocked, fault_of}
use Rattle.site.specs.Reach.{reaches, clash_in, net_of}
use Rattle.site.specs.declared.Site.{Site}
use Rattle.planner.specs.Plan.{plan_answer}
use Rattle.judges.specs.Judges.{load_answer, chain_answer, class_answer, least_answer}
use Rattle.heaviest.specs.Sets.{mutual_in, heaviest_in, heaviest_of}
use Rattle.text.specs.Decimal.{digits_of, decimal}
use Rattle.blocklist.specs.Format.{list_text}
use Rattle.putblocks.specs.Canon.{slot_word, run_start, run_end, runs_from, slots_end, slots_from}
use Rattle.speech.specs.Speech.{bytes, spoken}
use Rattle.why.specs.Lines.{why_lines}
use Rattle.why.specs.Said.{takes_phrase, set_phrase, cell_phrase, cell_phrases, fewest, size_phrase, why_phrases, why_said}
use Rattle.why.specs.Means.{NoPlan}

-- ---- the sites

-- 32 numbers, of which the last ones are 0
abbrev pub filled : List ℕ → List ℕ
filled xs = take 32 (xs ++ replicate 32 0)

-- slots, channels, the loads, and the reach rows as numbers: bit b-1 of row a-1 where a reaches b
abbrev pub site_with : ℕ → ℕ → List ℕ → List ℕ → Site
site_with slots channels loads reach = site_of (length loads) slots channels (filled loads) (filled reach) [] 1

-- P1: chained, with just as many channel-slots as it takes
abbrev pub p1 : Site
p1 = site_with 3 2 (5 ∷ 1 ∷ 4 ∷ []) (0 ∷ 5 ∷ [])

-- P2: chained and full
abbrev pub p2 : Site
p2 = site_with 3 2 (5 ∷ 2 ∷ 4 ∷ []) (0 ∷ 5 ∷ [])

-- P3, the star with its centre last, is not nested: the load test fails, and yet it is planned
abbrev pub p3 : Site
p3 = site_with 2 1 (1 ∷ 1 ∷ 1 ∷ []) (4 ∷ 4 ∷ [])

-- P4 is not nested: this order gives up
abbrev pub p4 : Site
p4 = site_with 2 1 (1 ∷ 1 ∷ 1 ∷ 1 ∷ []) (4 ∷ 8 ∷ 8 ∷ [])

-- a ring of five cells: this order gives up, and no other does better
abbrev pub ring : Site
ring = site_with 2 1 (1 ∷ 1 ∷ 1 ∷ 1 ∷ 1 ∷ []) (18 ∷ 4 ∷ 8 ∷ 16 ∷ [])

-- cells 1 to 3 clash with cell 4 alone: planned, with fewer channel-slots than the load test asks for
abbrev pub star : Site
star = site_with 3 1 (1 ∷ 1 ∷ 1 ∷ 1 ∷ []) (8 ∷ 8 ∷ 8 ∷ [])

-- not nested: the load test fails, and no plan exists; 128 slots are not too many to name, and what will do is
abbrev pub many : Site
many = site_with 1 1 (64 ∷ 64 ∷ 64 ∷ []) (4 ∷ 4 ∷ [])

-- the same with 16 channels
abbrev pub eight : Site
eight = site_with 1 1 (8 ∷ 8 ∷ 8 ∷ []) (4 ∷ 4 ∷ [])

-- a side drift: 1~2, 2~3 are the tunnel, and cell 4 stands in a drift that leaves it at cell 1. Not chained, and nested
abbrev pub drift : Site
drift = site_with 2 1 (1 ∷ 1 ∷ 1 ∷ 1 ∷ []) (10 ∷ 4 ∷ [])

-- the same with a fragment more in the drift: the load test fails, and that decides
abbrev pub drift-full : Site
drift-full = site_with 2 1 (1 ∷ 1 ∷ 1 ∷ 2 ∷ []) (10 ∷ 4 ∷ [])

-- one cell: 129 slots are too many, and 17 channels
abbrev pub alone : Site
alone = site_with 1 2 (257 ∷ []) []

-- and 128 slots or 16 channels are not
abbrev pub sixteen : Site
sixteen = site_with 16 1 (256 ∷ []) []

-- P10: nothing is loaded
abbrev pub idle : Site
idle = site_with 1 1 (0 ∷ []) []

-- the same site with these positions blocked
abbrev pub barred : List ℕ → Site → Site
barred words s = site_of s.cells s.slots s.channels s.loads s.reach words s.rule

-- P1 with position 0 blocked: cell 1 takes the 5 that are open, and cell 2 finds none
abbrev pub p1-barred : Site
p1-barred = barred (1 ∷ []) p1

-- the star with a slot more, and the first one blocked: it is planned with the 3 that are open
abbrev pub star-barred : Site
star-barred = barred (1 ∷ []) (site_with 4 1 (1 ∷ 1 ∷ 1 ∷ 1 ∷ []) (8 ∷ 8 ∷ 8 ∷ []))

-- a site without channels is refused, and has no text
abbrev pub refused : Site
refused = site_with 1 0 (2 ∷ []) []

-- ---- their text

-- a site, and what is said of it
pub record Told : Type 0 where
  pub site : Site
  pub text : List String

abbrev pub told : List Told
told =
    record {
      site = p1;
      text =
          "chained\n" ∷
          "the load test holds\n" ∷
          "planned\n" ∷
          "it takes 6 channel-slots, and no fewer; the site has 6\n" ∷
          "of all cells that clash with one another these need the most, 6:\n" ∷
          "  cell 1, load 5\n" ∷
          "  cell 2, load 1\n" ∷
          "with 2 channels: 3 slots, and no fewer\n" ∷
          "with 3 slots: 2 channels, and no fewer\n" ∷
          [];
    }
    ∷ record {
      site = p2;
      text =
          "chained\n" ∷
          "the load test fails: cell 2 is over by 1 fragment\n" ∷
          "not planned: cell 2 is 1 fragment short. The site is full: no plan exists\n" ∷
          "it takes 7 channel-slots, and no fewer; the site has 6\n" ∷
          "of all cells that clash with one another these need the most, 7:\n" ∷
          "  cell 1, load 5\n" ∷
          "  cell 2, load 2\n" ∷
          "with 2 channels: 4 slots, and no fewer\n" ∷
          "with 3 slots: 3 channels, and no fewer\n" ∷
          [];
    }
    ∷ record {
      site = p3;
      text =
          "not chained: cells 1 and 3 clash, and cell 2 between them does not clash with cell 1\n" ∷
          "not nested: cells 1 and 2 clash with cell 3, and not with one another\n" ∷
          "the load test fails: cell 3 is over by 1 fragment; on a site that is not nested that alone decides nothing\n" ∷
          "planned\n" ∷
          "it takes 2 channel-slots, and no fewer; the site has 2\n" ∷
          "of all cells that clash with one another these need the most, 2:\n" ∷
          "  cell 1, load 1\n" ∷
          "  cell 3, load 1\n" ∷
          "with 1 channel: 2 slots, and no fewer\n" ∷
          "with 2 slots: 1 channel, and no fewer\n" ∷
          [];
    }
    ∷ record {
      site = p4;
      text =
          "not chained: cells 1 and 3 clash, and cell 2 between them does not clash with cell 1\n" ∷
          "not nested: cells 2 and 3 clash with cell 4, and not with one another\n" ∷
          "the load test fails: cell 4 is over by 1 fragment; on a site that is not nested that alone decides nothing\n" ∷
          "not planned: cell 4 is 1 fragment short. This order found no room, which alone decides nothing\n" ∷
          "it takes at least 2 channel-slots, and 3 will do; the site has 2\n" ∷
          "of all cells that clash with one another these need the most, 2:\n" ∷
          "  cell 1, load 1\n" ∷
          "  cell 3, load 1\n" ∷
          "with 1 channel: at least 2 slots, and 3 will do\n" ∷
          "with 2 slots: at least 1 channel, and 2 will do\n" ∷
          [];
    }
    ∷ record {
      site = ring;
      text =
          "not chained: cells 1 and 5 clash, and cell 3 between them does not clash with cell 1\n" ∷
          "not nested: cells 1 and 4 clash with cell 5, and not with one another\n" ∷
          "the load test fails: cell 5 is over by 1 fragment; on a site that is not nested that alone decides nothing\n" ∷
          "not planned: cell 5 is 1 fragment short. This order found no room, which alone decides nothing\n" ∷
          "it takes at least 2 channel-slots, and 3 will do; the site has 2\n" ∷
          "of all cells that clash with one another these need the most, 2:\n" ∷
          "  cell 1, load 1\n" ∷
          "  cell 2, load 1\n" ∷
          "with 1 channel: at least 2 slots, and 3 will do\n" ∷
          "with 2 slots: at least 1 channel, and 2 will do\n" ∷
          [];
    }
    ∷ record {
      site = star;
      text =
          "not chained: cells 1 and 4 clash, and cell 2 between them does not clash with cell 1\n" ∷
          "not nested: cells 1 and 2 clash with cell 4, and not with one another\n" ∷
          "the load test fails: cell 4 is over by 1 fragment; on a site that is not nested that alone decides nothing\n" ∷
          "planned\n" ∷
          "it takes at least 2 channel-slots, and 3 will do; the site has 3\n" ∷
          "of all cells that clash with one another these need the most, 2:\n" ∷
          "  cell 1, load 1\n" ∷
          "  cell 4, load 1\n" ∷
          "with 1 channel: at least 2 slots, and 3 will do\n" ∷
          "with 3 slots: 1 channel, and no fewer\n" ∷
          [];
    }
    ∷ record {
      site = many;
      text =
          "not chained: cells 1 and 3 clash, and cell 2 between them does not clash with cell 1\n" ∷
          "not nested: cells 1 and 2 clash with cell 3, and not with one another\n" ∷
          "the load test fails: cell 1 is over by 63 fragments; on a site that is not nested that alone decides nothing\n" ∷
          "not planned: cell 1 is 63 fragments short. The site is full: no plan exists\n" ∷
          "it takes at least 128 channel-slots, and 192 will do; the site has 1\n" ∷
          "of all cells that clash with one another these need the most, 128:\n" ∷
          "  cell 1, load 64\n" ∷
          "  cell 3, load 64\n" ∷
          "with 1 channel: at least 128 slots\n" ∷
          "with 1 slot: more than 16 channels, which no site has\n" ∷
          [];
    }
    ∷ record {
      site = eight;
      text =
          "not chained: cells 1 and 3 clash, and cell 2 between them does not clash with cell 1\n" ∷
          "not nested: cells 1 and 2 clash with cell 3, and not with one another\n" ∷
          "the load test fails: cell 1 is over by 7 fragments; on a site that is not nested that alone decides nothing\n" ∷
          "not planned: cell 1 is 7 fragments short. The site is full: no plan exists\n" ∷
          "it takes at least 16 channel-slots, and 24 will do; the site has 1\n" ∷
          "of all cells that clash with one another these need the most, 16:\n" ∷
          "  cell 1, load 8\n" ∷
          "  cell 3, load 8\n" ∷
          "with 1 channel: at least 16 slots, and 24 will do\n" ∷
          "with 1 slot: at least 16 channels\n" ∷
          [];
    }
    ∷ record {
      site = drift;
      text =
          "not chained: cells 1 and 4 clash, and cell 3 between them does not clash with cell 1\n" ∷
          "nested: of each cell, the lower cells that clash with it clash with one another\n" ∷
          "the load test holds\n" ∷
          "planned\n" ∷
          "it takes 2 channel-slots, and no fewer; the site has 2\n" ∷
          "of all cells that clash with one another these need the most, 2:\n" ∷
          "  cell 1, load 1\n" ∷
          "  cell 2, load 1\n" ∷
          "with 1 channel: 2 slots, and no fewer\n" ∷
          "with 2 slots: 1 channel, and no fewer\n" ∷
          [];
    }
    ∷ record {
      site = drift-full;
      text =
          "not chained: cells 1 and 4 clash, and cell 3 between them does not clash with cell 1\n" ∷
          "nested: of each cell, the lower cells that clash with it clash with one another\n" ∷
          "the load test fails: cell 4 is over by 1 fragment\n" ∷
          "not planned: cell 4 is 1 fragment short. The site is full: no plan exists\n" ∷
          "it takes 3 channel-slots, and no fewer; the site has 2\n" ∷
          "of all cells that clash with one another these need the most, 3:\n" ∷
          "  cell 1, load 1\n" ∷
          "  cell 4, load 2\n" ∷
          "with 1 channel: 3 slots, and no fewer\n" ∷
          "with 2 slots: 2 channels, and no fewer\n" ∷
          [];
    }
    ∷ record {
      site = alone;
      text =
          "chained\n" ∷
          "the load test fails: cell 1 is over by 255 fragments\n" ∷
          "not planned: cell 1 is 255 fragments short. The site is full: no plan exists\n" ∷
          "it takes 257 channel-slots, and no fewer; the site has 2\n" ∷
          "of all cells that clash with one another these need the most, 257:\n" ∷
          "  cell 1, load 257\n" ∷
          "with 2 channels: more than 128 slots, which no site has\n" ∷
          "with 1 slot: more than 16 channels, which no site has\n" ∷
          [];
    }
    ∷ record {
      site = sixteen;
      text =
          "chained\n" ∷
          "the load test fails: cell 1 is over by 240 fragments\n" ∷
          "not planned: cell 1 is 240 fragments short. The site is full: no plan exists\n" ∷
          "it takes 256 channel-slots, and no fewer; the site has 16\n" ∷
          "of all cells that clash with one another these need the most, 256:\n" ∷
          "  cell 1, load 256\n" ∷
          "with 1 channel: more than 128 slots, which no site has\n" ∷
          "with 16 slots: 16 channels, and no fewer\n" ∷
          [];
    }
    ∷ record {
      site = idle;
      text =
          "chained\n" ∷
          "the load test holds\n" ∷
          "planned\n" ∷
          "it takes 0 channel-slots, and no fewer; the site has 1\n" ∷
          "with 1 channel: 1 slot, and no fewer\n" ∷
          "with 1 slot: 1 channel, and no fewer\n" ∷
          [];
    }
    ∷ record {
      site = p1-barred;
      text =
          "chained\n" ∷
          "the load test fails: cell 2 is over by 1 fragment\n" ∷
          "not planned: cell 2 is 1 fragment short. The site is full: no plan exists\n" ∷
          "it takes 6 channel-slots, and no fewer; the site has 5 open\n" ∷
          "of all cells that clash with one another these need the most, 6:\n" ∷
          "  cell 1, load 5\n" ∷
          "  cell 2, load 1\n" ∷
          "blocked: 1.1\n" ∷
          [];
    }
    ∷ record {
      site = star-barred;
      text =
          "not chained: cells 1 and 4 clash, and cell 2 between them does not clash with cell 1\n" ∷
          "not nested: cells 1 and 2 clash with cell 4, and not with one another\n" ∷
          "the load test fails: cell 4 is over by 1 fragment; on a site that is not nested that alone decides nothing\n" ∷
          "planned\n" ∷
          "it takes at least 2 channel-slots, and 3 will do; the site has 3 open\n" ∷
          "of all cells that clash with one another these need the most, 2:\n" ∷
          "  cell 1, load 1\n" ∷
          "  cell 4, load 1\n" ∷
          "blocked: 1.*\n" ∷
          [];
    }
    ∷ record {
      site = refused;
      text =
          [];
    }
    ∷ []

abbrev pub letters : List String → List ℕ
letters [] = []
letters (l ∷ ls) = bytes l ++ letters ls

-- the text, with a table that is just long enough
abbrev pub words_of : Site → List ℕ
words_of s = why_said s (replicate (size s) 0)

pub letter-by-letter : map (λ e. words_of e.site) told ≡ map (λ e. letters e.text) told
unfolding first_of sum any most part forbid marked fill run overloaded lowest_over load_verdict most_demand gap breaks break_of first_break chain_verdict
    second splits split_of first_split class_verdict class_answer
    best_of word_of up_to size_ok rule_ok row_bad extra_load bad_row extra_blocked fault_of reaches clash_in plan_answer load_answer chain_answer least_answer
    mutual_in
    heaviest_in heaviest_of digits_of decimal spoken list_text slot_word run_start run_end runs_from slots_end slots_from why_lines takes_phrase set_phrase
    cell_phrase cell_phrases fewest size_phrase why_phrases why_said
letter-by-letter = refl

-- ---- `which alone decides nothing`: of P4 there is a plan; of the ring there is none

-- cells 1 and 4 in the first position, cells 2 and 3 in the second
abbrev pub other_plan : Reserved
other_plan i k = eqb k 0 && (eqb i 0 || eqb i 3) || (eqb k 1 && (eqb i 1 || eqb i 2))

pub p4-has-plan : Valid (net_of p4) other_plan
unfolding first_of sum reaches clash_in holder_at barred_at lowest_barred open_verdict second_at clashes_at first_at lowest_clash wrong_in lowest_wrong
    table_verdict
p4-has-plan = check-valid (net_of p4) other_plan refl

-- of two cells that clash at most one is reserved
one_of_holds : (p q : Bool) → (p ≡ true → q ≡ true → ⊥) → bit p + bit q ≤ 1
one_of_holds true true h = absurd (h refl refl)
one_of_holds true false h = omega arith
one_of_holds false true h = omega arith
one_of_holds false false h = omega arith

pub ring-has-none : NoPlan ring
unfolding sum reaches clash_in
ring-has-none res v =
    let at : (a c k : ℕ) → a < c → c < 5 → k < 2 → clash_in 1 ring.reach a c ≡ true → bit (res a k) + bit (res c k) ≤ 1 =
    λ a c k l m w e. one_of_holds (res a k) (res c k) (v.apart a c k l m w e) in
    omega (
      arith,
      at 0 1 0 (omega arith) (omega arith) (omega arith) refl,
      at 1 2 0 (omega arith) (omega arith) (omega arith) refl,
      at 2 3 0 (omega arith) (omega arith) (omega arith) refl,
      at 3 4 0 (omega arith) (omega arith) (omega arith) refl,
      at 0 4 0 (omega arith) (omega arith) (omega arith) refl,
      at 0 1 1 (omega arith) (omega arith) (omega arith) refl,
      at 1 2 1 (omega arith) (omega arith) (omega arith) refl,
      at 2 3 1 (omega arith) (omega arith) (omega arith) refl,
      at 3 4 1 (omega arith) (omega arith) (omega arith) refl,
      at 0 4 1 (omega arith) (omega arith) (omega arith) refl,
      v.exact 0 (omega arith),
      v.exact 1 (omega arith),
      v.exact 2 (omega arith),
      v.exact 3 (omega arith),
      v.exact 4 (omega arith),
    )
