-- What a share's refusals say is so: 1 only where the slots are out of range, and of a 15 the number that is named is. By what a share's answer means.
-- Assumes nothing.
use Prim.Native.Nat.{ℕ}
use mathlib.Core.Path.{◌≡◌, refl, sym, ◌∙◌}
use mathlib.Core.Bool.{Bool, true, false, true≢false}
use mathlib.Core.List.{List}
use mathlib.Core.Logic.{◌⊎◌, inl, inr}
use Rattle.std.specs.Prelude.{Err}
use Rattle.laws.specs.Choice.{pick}
use Rattle.site.specs.Record.{up_to}
use Rattle.site.specs.Means.{UpTo}
use Rattle.site.proofs.Faults.{up-to, up-to-is}
use Rattle.shares.specs.Share.{share_of}
use Rattle.shares.specs.Means.{ShareMeans}
use Rattle.shares.specs.declared.ShareError.TheVariants.{OutOfRange, BadFlow}
use Rattle.shares.proofs.Means.{share-means}
use Rattle.phrases.specs.Phrases.{phrase}
use Rattle.phrases.specs.declared.Phrase.TheVariants.{Row}
use Rattle.verdicts.specs.Lines.{verdict_lines, bad_burst_row, bad_period_row, bad_repeats_row}
use Rattle.verdicts.specs.Said.{bad_flow_row, share_said, bad_burst_line, bad_period_line, bad_repeats_line}

-- the text w names one of the three, and it is out of range
abbrev pub NamesWrong : (c p k : ℕ) → List ℕ → Type 0
NamesWrong c p k w =
    ((w ≡ bad_burst_line) × (UpTo 65535 c → ⊥))
    ⊎ (((w ≡ bad_period_line) × (UpTo 65535 p → ⊥))
    ⊎ ((w ≡ bad_repeats_line) × (UpTo 4 k → ⊥)))

module _ (t c p k : ℕ) where
  pub slots-wrong : share_of t c p k ≡ Err OutOfRange → UpTo 128 t → ⊥
  slots-wrong e = rw e at (share-means t c p k)

  outside : (most x : ℕ) → up_to most x ≡ false → UpTo most x → ⊥
  outside most x e i = true≢false (sym (up-to-is most x i) ∙ e)

  by : (u v : Bool) → up_to 65535 c ≡ u → up_to 65535 p ≡ v → ShareMeans t c p k (Err BadFlow)
      → NamesWrong c p k (phrase verdict_lines (Row (pick u (pick v bad_repeats_row bad_period_row) bad_burst_row) 0 0 0 0))
  by false v e h m = inl (refl, outside 65535 c e)
  by true false e h m = inr (inl (refl, outside 65535 p h))
  by true true e h m = inr (inr (refl, λ i. m.1 (up-to _ _ e, (up-to _ _ h, i))))

  pub flow-wrong : share_of t c p k ≡ Err BadFlow → NamesWrong c p k (share_said c p (Err BadFlow))
  unfolding bad_flow_row
  flow-wrong e = by (up_to 65535 c) (up_to 65535 p) refl refl (rw e at (share-means t c p k))
