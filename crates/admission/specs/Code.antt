-- What the room of each cell is, and what is answered by it, over the arrays that the search takes. No answer of a call is defined here.
use Rattle.std.specs.Prelude.{ℕ, ◌+◌, ◌-◌, Bool, List, ltb, get_or, replicate, Result, Ok, Err}
use Rattle.std.proofs.lemmas.List.Edits.{sets}
use Rattle.laws.specs.Choice.{pick}
use Rattle.laws.specs.Part.{list_of}
use Rattle.demands.specs.Words.{demand_at}
use Rattle.bestset.specs.Code.{best_in}
use Rattle.flowlist.specs.declared.Flow.{Flow}
use Rattle.admission.specs.Admit.{share_in, amount, refused_in, first_bad_in}
use Rattle.admission.specs.declared.AdmitError.{AdmitError}

-- what the loads leave of the room in cell i; 0 where they ask for more
abbrev pub left_in : List ℕ → List ℕ → ℕ → ℕ → ℕ
left_in loads rows room i = room - demand_at loads (get_or rows i 0) i

-- whether they ask for more
abbrev pub past_room : List ℕ → List ℕ → ℕ → ℕ → Bool
past_room loads rows room i = ltb room (demand_at loads (get_or rows i 0) i)

-- what each of so many cells has of the room: what the loads leave, or all of it where they are set aside
abbrev pub rooms_for : Bool → List ℕ → List ℕ → ℕ → ℕ → List ℕ
rooms_for beside loads rows room cells = pick beside (sets (replicate 32 0) 0 (list_of (left_in loads rows room) cells)) (replicate 32 room)

-- what a rule gives for the first n of 16 flows, and 0 past them
abbrev pub laid_first : (ℕ → ℕ) → ℕ → List ℕ
laid_first g n = sets (replicate 16 0) 0 (list_of g n)

-- the best set, by the three arrays that n flows make
abbrev pub best_laid : ℕ → (ℕ → Flow) → ℕ → List ℕ → List ℕ → ℕ
best_laid slots f n rows rooms =
    best_in rooms rows (laid_first (λ k. (f k).cell - 1) n) (laid_first (λ k. amount (share_in slots (f k))) n) (laid_first (λ k. (f k).value) n) n

-- the first flow that is refused, or else that set
unfoldable pub chosen_in : ℕ → ℕ → (ℕ → Flow) → ℕ → List ℕ → List ℕ → Result ℕ AdmitError
chosen_in cells slots f n rows rooms =
    let bad = first_bad_in cells slots f n in
    pick (ltb bad n) (Err (refused_in cells slots (f bad) (bad + 1))) (Ok (best_laid slots f n rows rooms))
