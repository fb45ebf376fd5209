-- How far a chain is deciphered. No promise names it.
use Rattle.std.specs.Prelude.{◌≡◌, List, ℕ, ◌+◌, ◌*◌, ◌≤◌, length, take, drop}
use Rattle.words.specs.Filled.{Filled}
use Rattle.chain.specs.Chain.{last_or, blocks, decipher, join}

-- the chain c is deciphered from s up to place i: before is the cipher block before it, and the texts stand in front of out
pub record At (D : List ℕ → List ℕ) (s c was out before : List ℕ) (i : ℕ) : Type 0 where
  pub last : before ≡ last_or s (blocks i c)
  pub filled : Filled was out i (join (decipher D s (blocks i c)))

-- from place i₀ on to place i, whatever stands before place i₀
pub record Onward (D : List ℕ → List ℕ) (c out₀ before₀ : List ℕ) (i₀ : ℕ) (out before : List ℕ) (i : ℕ) : Type 0 where
  pub size : length out ≡ length out₀
  pub on : (s was : List ℕ) → At D s c was out₀ before₀ i₀ → At D s c was out before i

-- n of the sixteen blocks that stand at 16 s, in any chain that has them there
abbrev pub Among : (D : List ℕ → List ℕ) (sixteen : List ℕ) (s : ℕ) (out₀ before₀ out before : List ℕ) (n : ℕ) → Type 0
Among D sixteen s out₀ before₀ out before n =
    (c : List ℕ) → take 256 (drop (s * 256) c) ≡ sixteen → s * 256 + 256 ≤ length c → Onward D c out₀ before₀ (s * 16) out before (s * 16 + n)
