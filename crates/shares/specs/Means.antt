-- What a share's answer means, said a second time, by products alone: no division. proofs/Means.antt shows that the definition says this.
use Rattle.std.specs.Prelude.{ℕ, ◌+◌, ◌-◌, ◌*◌, ◌≤◌, ◌<◌, ◌≡◌, Result, Ok, Err}
use Rattle.site.specs.Means.{UpTo}
use Rattle.shares.specs.Share.{Shares}
use Rattle.shares.specs.declared.ShareError.{ShareError}
use Rattle.shares.specs.declared.ShareError.TheVariants.{OutOfRange, BadFlow, BigShare}

-- T 1 to 128; burst and period "each 1 to 65,535"; W4: "k from 1 to 4"
pub record Fair (t c p k : ℕ) : Type 0 where
  pub slots : UpTo 128 t
  pub burst : UpTo 65535 c
  pub period : UpTo 65535 p
  pub repeats : UpTo 4 k

-- m is the least number of b's that make a: a / b "rounded up"
pub record Least (a b m : ℕ) : Type 0 where
  pub enough : a ≤ m * b
  pub least : (n : ℕ) → a ≤ n * b → m ≤ n

-- the old share is the least number that serves; the share s is k times it (W4), and the queue bound q and the delay bound d have the old one in them
pub record Bounds (t c p k s q d : ℕ) : Type 0 where
  pub once : ℕ
  pub serves : Least (c * t) p once
  pub share : s ≡ k * once
  pub most : s ≤ 65535
  pub queue : q ≡ c + once
  pub delay_some : t ≤ d
  pub delay : Least (c * t) once (d - t)

-- k times the least number that serves is at most 65,535
pub record Within (t c p k : ℕ) : Type 0 where
  pub once : ℕ
  pub serves : Least (c * t) p once
  pub within : k * once ≤ 65535

-- k times the least number that serves is above 65,535
pub record Above (t c p k : ℕ) : Type 0 where
  pub once : ℕ
  pub serves : Least (c * t) p once
  pub above : 65535 < k * once

-- "Share: 1 (T out of range), 15, 16"; W4: "15 also when k is outside 1 to 4; 16 is tested on the new share"
abbrev pub ShareMeans : ℕ → ℕ → ℕ → ℕ → Result Shares ShareError → Type 0
ShareMeans t c p k (Err OutOfRange) = UpTo 128 t → ⊥
ShareMeans t c p k (Err BadFlow) = UpTo 128 t × (UpTo 65535 c × (UpTo 65535 p × UpTo 4 k) → ⊥)
ShareMeans t c p k (Err BigShare) = Fair t c p k × Above t c p k
ShareMeans t c p k (Ok (s, q, d)) = Fair t c p k × Bounds t c p k s.0 q.0 d.0
