-- What a refusal leaves in lent memory, call by call: each call's own theorem, by its contract. In C the number is that of the call. Assumes nothing.
use mathlib.Core.Path.{◌≡◌, refl, ap, ◌∙◌}
use mathlib.Core.Bool.{Bool, true, false}
use mathlib.Core.List.{List}
use Prim.Native.Nat.{ℕ}
use Rattle.std.specs.Prelude.{Result, Ok, Err}
use Rattle.site.specs.Record.{positions, size, fault_of}
use Rattle.site.specs.declared.Site.{Site}
use Rattle.site.specs.declared.Fault.{Fault}
use Rattle.planner.specs.Plan.{plan_answer, plan_table}
use Rattle.planner.specs.Given.{plan_given}
use Rattle.wordtable.specs.Plan.{plan_words_answer, plan_words}
use Rattle.wordtable.specs.Forms.{form_answer, to_words, to_bytes}
use Rattle.wordtable.specs.Given.{form_given}
use Rattle.renumbering.specs.Numbering.{Numbering, numbered, stuck}
use Rattle.numbering.specs.Renumber.{site_numbers, numbering_of}
use Rattle.numbering.specs.Carried.{either_short, carry_answer, carry_table}
use Rattle.numbering.specs.Given.{carry_given}
use Rattle.search.specs.Search.{search_answer, search_table}
use Rattle.search.specs.Given.{search_given}
use Rattle.search.specs.declared.SearchError.{SearchError}
use Rattle.search.specs.declared.SearchError.TheVariants as search
use Rattle.search.proofs.Right.{with_tries, not_written}
use Rattle.finder.specs.Find.{find_answer, find_table}
use Rattle.finder.specs.Given.{find_given}
use Rattle.finder.specs.declared.Way.{Way}
use Rattle.finder.specs.declared.FindError.{FindError}
use Rattle.finder.specs.declared.Way.TheVariants.{Greedy, Renumbered, Searched}
use Rattle.finder.specs.declared.FindError.TheVariants as find
use Rattle.finder.proofs.Right as finder
use Rattle.numbering.proofs.Ways.{carry-refused, carry-none, carry-short}
use Rattle.told.specs.Told.{told}
use Rattle.toldfiles.specs.Files.{told_plan_read}
use Rattle.promises.specs.Untouched.{Idle, Refused, RefusedElse, IdleIfNoRoom, Untouched, UntouchedInC}
use Rattle.promises.proofs.Demand1.{plan-leaves, plan-read-leaves, site-write-leaves, plan-write-leaves}
use Rattle.promises.proofs.Words.{plan-words-leaves, forms-leave}
use Rattle.promises.proofs.Sheets.{sheet-write-leaves}
use Rattle.promises.proofs.Tidied.{tidy-leaves}
use Rattle.promises.proofs.Texts.{text-leaves, why-leaves}
use Rattle.promises.proofs.Mending.{refused-untouched}
use Rattle.promises.proofs.Handheld.{change-untouched, change-no-room}

module _ (s : Site) (words : List ℕ) where
  words-no-room : (plan_given (plan_words_answer s words)).number ≡ 5 → Idle (positions s) words (plan_words s words)
  words-no-room e = (plan-words-leaves s words).if_no_room e

  words-untouched : RefusedElse (plan_given (plan_words_answer s words)).number → plan_words s words ≡ words
  words-untouched z = (plan-words-leaves s words).if_refused z.0 z.1

  to-words-untouched : (table : List ℕ) → Refused (form_given (form_answer s table words)).number → to_words s table words ≡ words
  to-words-untouched table z = (forms-leave s words table).0.if_refused z

  to-bytes-untouched : (table : List ℕ) → Refused (form_given (form_answer s table words)).number → to_bytes s words table ≡ table
  to-bytes-untouched table z = (forms-leave s words table).1.if_refused z

plan-untouched : (s : Site) (table : List ℕ) → RefusedElse (plan_given (plan_answer s table)).number → plan_table s table ≡ table
plan-untouched s table z = (plan-leaves s table).if_refused z.0 z.1

plan-no-room : (s : Site) (table : List ℕ) → (plan_given (plan_answer s table)).number ≡ 5 → Idle (size s) table (plan_table s table)
plan-no-room s table e = (plan-leaves s table).if_no_room e

module _ (s : Site) (from to : List ℕ) where
  kept_at : (f : Result Unit Fault) (x : Numbering) (short : Bool) → fault_of s ≡ f → numbering_of s ≡ x → either_short s from to ≡ short
      → Refused (carry_given (carry_answer s from to)).number → carry_table s from to ≡ to
  unfolding carry_answer site_numbers
  kept_at (Ok u) (numbered new old) true e g h z = (carry-short s from to new old e g h).1
  kept_at (Ok u) (numbered new old) false e g h z = absurd ((rw (e, g, h) at z) refl)
  kept_at (Ok u) stuck short e g h z = (carry-none s from to e g).1
  kept_at (Err f) x short e g h z = (carry-refused s from to f e).1

  pub carry-untouched : Refused (carry_given (carry_answer s from to)).number → carry_table s from to ≡ to
  carry-untouched = kept_at (fault_of s) (numbering_of s) (either_short s from to) refl refl refl

-- an answer with tries has the number 0
no-tries : (a : Result ℕ SearchError) → Refused (search_given a).number → with_tries a ≡ false
no-tries (Ok n) z = absurd (z refl)
no-tries (Err (search.Full n)) z = absurd (z refl)
no-tries (Err (search.Limit n)) z = absurd (z refl)
no-tries (Err search.TooMany) z = refl
no-tries (Err search.TableShort) z = refl
no-tries (Err (search.Record f)) z = refl

pub search-untouched : (s : Site) (limit : ℕ) (t : List ℕ) → Refused (search_given (search_answer s limit t)).number → search_table s limit t ≡ t
search-untouched s limit t z = not_written s t limit (no-tries (search_answer s limit t) z)

-- a verdict has the number 0
no-verdict : (a : Result Way FindError) → Refused (find_given a).number → finder.is_verdict a ≡ false
no-verdict (Ok Greedy) z = absurd (z refl)
no-verdict (Ok Renumbered) z = absurd (z refl)
no-verdict (Ok (Searched n)) z = absurd (z refl)
no-verdict (Err (find.Full x)) z = absurd (z refl)
no-verdict (Err find.FullInClass) z = absurd (z refl)
no-verdict (Err (find.FullSearched n)) z = absurd (z refl)
no-verdict (Err (find.NotKnown n)) z = absurd (z refl)
no-verdict (Err find.TableShort) z = refl
no-verdict (Err (find.Record f)) z = refl

pub find-untouched : (s : Site) (limit : ℕ) (t : List ℕ) → Refused (find_given (find_answer s limit t)).number → find_table s limit t ≡ t
find-untouched s limit t z = finder.not_written s limit t (no-verdict (find_answer s limit t) z)

pub idle-if-no-room : IdleIfNoRoom
unfolding told
idle-if-no-room = record {
  plan = λ site table table' r says e. says.table_after ∙ plan-no-room site table (rw says.answer at e);
  plan_words_holds = λ site words words' r says e. says.words_after ∙ words-no-room site words (rw says.answer at e);
  change_load_holds = λ site site' cell load table table' r says e. says.table_after ∙ (change-no-room site cell load table (rw says.answer at e)).1;
  changed_load_holds = λ site cell load table table' r says e. says.table_after ∙ (change-no-room site cell load table (rw says.answer at e)).1;
  plan_in_c = λ site table table' r says e. says.table_after ∙ plan-no-room site table (rw says.answer at e);
  change_load_in_c = λ site site' cell load table table' r says e. says.table_after ∙ (change-no-room site cell load table (rw says.answer at e)).1;
  plan_words_in_c = λ site words words' r says e. says.words_after ∙ words-no-room site words (rw says.answer at e);
}

pub untouched : Untouched
untouched = record {
  plan = λ site table table' r says z. says.table_after ∙ plan-untouched site table (rw says.answer at z);
  change_load_holds = λ site site' cell load table table' r says z.
      let u = change-untouched site cell load table (rw says.answer at z) in (says.site_after ∙ u.0, says.table_after ∙ u.1);
  changed_load_holds = λ site cell load table table' r says z.
      let u = change-untouched site cell load table (rw says.answer at z) in (ap (λ c. c.site) says.answer ∙ u.0, says.table_after ∙ u.1);
  plan_words_holds = λ site words words' r says z. says.words_after ∙ words-untouched site words (rw says.answer at z);
  to_words_holds = λ site table words words' r says z. says.words_after ∙ to-words-untouched site words table (rw says.answer at z);
  to_bytes_holds = λ site words table table' r says z. says.table_after ∙ to-bytes-untouched site words table (rw says.answer at z);
  mend = λ site table changes table' changes' r says z.
      let u = refused-untouched site table changes (rw says.answer at z) in (says.table_after ∙ u.0, says.changes_after ∙ u.1);
  mend_only_holds = λ site table table' r says z. says.table_after ∙ (refused-untouched site table _ (rw says.answer at z)).0;
  carry = λ site from to to' r says z. says.to_after ∙ carry-untouched site from to (rw says.answer at z);
  search = λ site limit table table' r says z. says.table_after ∙ search-untouched site limit table (rw says.answer at z);
  find = λ site limit table table' r says z. says.table_after ∙ find-untouched site limit table (rw says.answer at z);
  write_site_holds = λ site out out' r says z. says.out_after ∙ (site-write-leaves site out).if_refused (rw says.answer at z);
  read_plan_holds = λ bytes table table' r says z. says.table_after ∙ (plan-read-leaves bytes table).if_refused (rw says.answer at z);
  write_plan_holds = λ site table out out' r says z. says.out_after ∙ (plan-write-leaves site table out).if_refused (rw says.answer at z);
  write_sheet_holds = λ site out out' r says z. says.out_after ∙ (sheet-write-leaves site out).if_refused (rw says.answer at z);
  tidy = λ sheet out out' r says z. says.out_after ∙ (tidy-leaves sheet out).if_refused (rw says.answer at z);
  call_text_holds = λ call number a b c out out' r says z. says.out_after ∙ (text-leaves _ out).if_refused (rw says.answer at z);
  why_text_holds = λ site out out' r says z. says.out_after ∙ (why-leaves site out).if_refused (rw says.answer at z);
  list_text_holds = λ bytes out out' r says z. says.out_after ∙ (text-leaves _ out).if_refused (rw says.answer at z);
}

-- ---- in C

pub untouched-in-c : UntouchedInC
unfolding told told_plan_read
untouched-in-c = record {
  plan = λ site table table' r says z. says.table_after ∙ plan-untouched site table (rw says.answer at z);
  change_load_holds = λ site site' cell load table table' r says z.
      let u = change-untouched site cell load table (rw says.answer at z) in (says.site_after ∙ u.0, says.table_after ∙ u.1);
  plan_words_holds = λ site words words' r says z. says.words_after ∙ words-untouched site words (rw says.answer at z);
  to_words_holds = λ site table words words' r says z. says.words_after ∙ to-words-untouched site words table (rw says.answer at z);
  to_bytes_holds = λ site words table table' r says z. says.table_after ∙ to-bytes-untouched site words table (rw says.answer at z);
  mend = λ site table changes table' changes' r says z.
      let u = refused-untouched site table changes (rw says.answer at z) in (says.table_after ∙ u.0, says.changes_after ∙ u.1);
  carry = λ site from to to' r says z. says.to_after ∙ carry-untouched site from to (rw says.answer at z);
  search = λ site limit table table' r says z. says.table_after ∙ search-untouched site limit table (rw says.answer at z);
  find = λ site limit table table' r says z. says.table_after ∙ find-untouched site limit table (rw says.answer at z);
  write_site_holds = λ site out out' r says z. says.out_after ∙ (site-write-leaves site out).if_refused (rw says.answer at z);
  read_plan_holds = λ bytes table table' r says z. says.table_after ∙ (plan-read-leaves bytes table).if_refused (rw says.answer at z);
  write_plan_holds = λ site table out out' r says z. says.out_after ∙ (plan-write-leaves site table out).if_refused (rw says.answer at z);
  write_sheet_holds = λ site out out' r says z. says.out_after ∙ (sheet-write-leaves site out).if_refused (rw says.answer at z);
  tidy = λ sheet out out' r says z. says.out_after ∙ (tidy-leaves sheet out).if_refused (rw says.answer at z);
  words = λ given call out out' r says z. says.out_after ∙ (text-leaves _ out).if_refused (rw says.answer at z);
  why = λ site out out' r says z. says.out_after ∙ (why-leaves site out).if_refused (rw says.answer at z);
  list = λ bytes out out' r says z. says.out_after ∙ (text-leaves _ out).if_refused (rw says.answer at z);
}
