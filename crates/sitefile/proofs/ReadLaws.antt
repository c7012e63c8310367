-- The reader's answers, by what its tests say: the records' answers one after the other, and then what follows the last. Assumes nothing.
use Prim.Native.Nat.{ℕ, ◌+◌, ◌-◌}
use mathlib.Core.Path.{◌≡◌, sym, ap, ◌∙◌}
use mathlib.Core.List.{List}
use Rattle.records.specs.Bytes.{le16}
use Rattle.records.specs.Layout.{body_at}
use Rattle.records.specs.Reasons.{first_reason}
use Rattle.records.specs.Head.{cells_of_head}
use Rattle.records.specs.declared.Length.TheVariants.{Pairs}
use Rattle.records.specs.declared.Refusal.{Refusal}
use Rattle.std.specs.Prelude.{Result, Ok, Err}
use Rattle.records.proofs.Laws.{Opening, record-open}
use Rattle.std.specs.Result.{result_and}
use Rattle.records.proofs.Reasons.{both-done}
use Rattle.sitehead.specs.Head.{site_head_answer}
use Rattle.reachpairs.specs.Reasons.{reach_reasons}
use Rattle.reachpairs.specs.Pairs.{reach_of_body}
use Rattle.reachpairs.specs.Loop.{PairsRead, reach_read}
use Rattle.blockbits.specs.Reasons.{last_reasons}
use Rattle.blockbits.specs.Loop.{blocks_read}
use Rattle.sitefile.specs.Reasons.{loads_at, reach_at, last_at, positions_of_head, loads_reasons}
use Rattle.sitefile.specs.Read.{site_answer}
use Rattle.reachpairs.proofs.ReadLaws.{reach-parts, pairs-answer, pairs-rows}
use Rattle.blockbits.proofs.ReadLaws.{blocks-told}
use Rattle.sitefile.proofs.Reasons.{site-parts}
use Rattle.blockbits.specs.declared.BlocksRead.{BlocksRead}

-- the whole file
module _ (s : List ℕ) where
  abbrev L : Result Unit Refusal
  L = first_reason (loads_reasons s (loads_at s) (cells_of_head s))

  abbrev K : Result Unit Refusal
  K = first_reason (reach_reasons s (reach_at s) (cells_of_head s))

  abbrev Z : Result Unit Refusal
  Z = first_reason (last_reasons s (last_at s) (positions_of_head s))

  pub head-stop : (r : Refusal) → site_head_answer s ≡ Err r → site_answer s ≡ Err r
  head-stop r e = site-parts s ∙ ap (λ (x : Result Unit Refusal). result_and x (result_and L (result_and K Z))) e

  module _ (head : site_head_answer s ≡ Ok tt) where
    past_head : site_answer s ≡ result_and L (result_and K Z)
    past_head = site-parts s ∙ ap (λ (x : Result Unit Refusal). result_and x (result_and L (result_and K Z))) head

    pub loads-stop : (r : Refusal) → L ≡ Err r → site_answer s ≡ Err r
    loads-stop r e = past_head ∙ ap (λ (x : Result Unit Refusal). result_and x (result_and K Z)) e

    -- past the loads, what kind 3 gives decides
    module _ (loads : L ≡ Ok tt) (p : PairsRead) (reach : p ≡ reach_read s (reach_at s) (cells_of_head s)) where
      past-loads : site_answer s ≡ result_and K Z
      past-loads = past_head ∙ ap (λ (x : Result Unit Refusal). result_and x (result_and K Z)) loads

      reach-told : p.answer ≡ K
      unfolding reach_read
      reach-told = ap (λ (x : PairsRead). x.answer) reach ∙ pairs-answer (reach_of_body (body_at s (reach_at s))) K

      pub rows-stop : (r : Refusal) → p.answer ≡ Err r → site_answer s ≡ Err r
      rows-stop r e = past-loads ∙ ap (λ (x : Result Unit Refusal). result_and x Z) (sym reach-told ∙ e)

      -- and past that, what kind 6 gives
      module _ (done : p.answer ≡ Ok tt) where
        reach-found : K ≡ Ok tt
        reach-found = sym reach-told ∙ done

        pub rows_are : p.reach ≡ reach_of_body (body_at s (reach_at s))
        unfolding reach_read
        rows_are = ap (λ (x : PairsRead). x.reach) reach ∙ pairs-rows (reach_of_body (body_at s (reach_at s))) K reach-found

        pub reach-open : Opening s (reach_at s) 3 Pairs (reach_at s + 4) (le16 s (reach_at s) - 2)
        reach-open = record-open s (reach_at s) 3 Pairs (both-done _ _ (sym (reach-parts s (reach_at s) (cells_of_head s)) ∙ reach-found)).0

        pub site-is : (q : BlocksRead) → q ≡ blocks_read s (last_at s) (positions_of_head s) → site_answer s ≡ q.answer
        site-is q e = past-loads ∙ ap (λ (x : Result Unit Refusal). result_and x Z) reach-found ∙ blocks-told s (last_at s) (positions_of_head s) q e
