-- What a buffer holds after a call that wrote an answer.
use Rattle.std.specs.Prelude.{◌≡◌, List, ℕ, ◌≤◌, ◌<◌, length, take, get_or}

-- the wanted bytes in front, and the fill in each byte behind them
pub record Answer (out wanted : List ℕ) : Type 0 where
  pub front : take (length wanted) out ≡ wanted
  pub rest : (k : ℕ) → length wanted ≤ k → k < length out → get_or out k 0 ≡ 165
