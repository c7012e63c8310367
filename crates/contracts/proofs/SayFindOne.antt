-- For any arguments one answer and one content of what is lent meet the contract, and no other, in crate `say_find`: by its equalities alone.
-- Made by tools/surface from the source. Assumes nothing.
use Rattle.std.specs.Prelude.{List, Result, length, refl, ℕ, ◌+◌, ◌≡◌}
use Rattle.contracts.specs.SayFindSays.{SayFindFindWhy, SayFindPutFind, SayFindPutLast, SayFindPutLastLine, SayFindStatus}
use Rattle.finder.specs.Find.{find_answer, find_table}
use Rattle.finder.specs.declared.FindError.{FindError}
use Rattle.finder.specs.declared.Way.{Way}
use Rattle.finds.specs.Find.{find_said, last_line, status_of, why_tries}
use Rattle.finds.specs.Last.{last_word}
use Rattle.site.specs.declared.Site.{Site}
use Rattle.std.proofs.lemmas.List.Edits.{sets}

-- say_find::put_last
pub say_find_put_last-one : (out : List ℕ) (at : ℕ) (reply : Result Way FindError)
    → (r : ℕ) × (out' : List ℕ) × (SayFindPutLast out at reply r out')
    × ((q : ℕ) (out'' : List ℕ) → SayFindPutLast out at reply q out'' → (q ≡ r) × (out'' ≡ out'))
say_find_put_last-one out at reply = (
  at + length (last_word reply),
  sets out at (last_word reply),
  record { answer = refl; out_after = refl },
  λ q out'' says. (says.answer, says.out_after),
)

-- say_find::put_find
pub say_find_put_find-one : (out : List ℕ) (at : ℕ) (site : Site) (reply : Result Way FindError)
    → (r : ℕ) × (out' : List ℕ) × (SayFindPutFind out at site reply r out')
    × ((q : ℕ) (out'' : List ℕ) → SayFindPutFind out at site reply q out'' → (q ≡ r) × (out'' ≡ out'))
say_find_put_find-one out at site reply = (
  at + length (find_said site reply),
  sets out at (find_said site reply),
  record { answer = refl; out_after = refl },
  λ q out'' says. (says.answer, says.out_after),
)

-- say_find::put_last_line
pub say_find_put_last_line-one : (out : List ℕ) (at : ℕ) (reply : Result Way FindError)
    → (r : ℕ) × (out' : List ℕ) × (SayFindPutLastLine out at reply r out')
    × ((q : ℕ) (out'' : List ℕ) → SayFindPutLastLine out at reply q out'' → (q ≡ r) × (out'' ≡ out'))
say_find_put_last_line-one out at reply = (
  at + length (last_line reply),
  sets out at (last_line reply),
  record { answer = refl; out_after = refl },
  λ q out'' says. (says.answer, says.out_after),
)

-- say_find::find_why
pub say_find_find_why-one : (site : Site) (table : List ℕ)
    → (r : Result Way FindError) × (table' : List ℕ) × (SayFindFindWhy site table r table')
    × ((q : Result Way FindError) (table'' : List ℕ) → SayFindFindWhy site table q table'' → (q ≡ r) × (table'' ≡ table'))
say_find_find_why-one site table = (
  find_answer site why_tries table,
  find_table site why_tries table,
  record { answer = refl; table_after = refl },
  λ q table'' says. (says.answer, says.table_after),
)

-- say_find::status
pub say_find_status-one : (reply : Result Way FindError)
    → (r : ℕ) × (SayFindStatus reply r)
    × ((q : ℕ) → SayFindStatus reply q → (q ≡ r))
say_find_status-one reply = (
  status_of reply,
  record { answer = refl },
  λ q says. says.answer,
)
