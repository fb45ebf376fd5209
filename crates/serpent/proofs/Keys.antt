-- The prekeys and the round keys, stored one after the other.
-- Assumes nothing.
use mathlib.Core.Path.{◌≡◌, refl, sym, ap, ◌∙◌}
use mathlib.Core.List.{List, ◌++◌, append_assoc}
use Prim.Native.Nat.{ℕ, zero, suc, ◌+◌, ◌*◌, ◌^◌, ◌<◌}
use native.Mathlib.Numerals.{add-one}
use native.Mathlib.Omega.{arith}
use lib.Dec.{lit<}
use lib.ListN.{length, take, get_or, set}
use lib.Seq.{get_or-take, take-suc, take_all}
use Rattle.words.specs.Sized.{Sized}
use Rattle.words.proofs.Lists.{filled, sized_append}
use Rattle.bitslice.proofs.Boxes.{box_words_lem}
use Rattle.serpent.specs.Turns.{KeysUpTo}
use Rattle.serpent.specs.Schedule.{prekey, prekeys, round_key, round_keys, schedule}

-- a prekey looks at the eight words before it
prekey_early : (w : List ℕ) (n i : ℕ) → i + 7 < n → prekey (take n w) i ≡ prekey w i
prekey_early w n i h =
    rw (get_or-take n w i 0 (omega arith), get_or-take n w (i + 3) 0 (omega arith), get_or-take n w (i + 5) 0 (omega arith), get_or-take n w (i + 7) 0 h)

-- the next prekey stored
pub prekeys_more : (s w : List ℕ) (i v : ℕ) → i + 8 < length w → take (i + 8) w ≡ prekeys s i → v ≡ prekey w i → take (i + 1 + 8) (set w (i + 8) v) ≡ prekeys s (i + 1)
unfolding prekeys
prekeys_more s w i v b h e = rw (filled w (i + 8) (i + 1 + 8) v (omega arith) b h, add-one, ← h, prekey_early w (i + 8) i (omega arith), e)

-- one word more of the next round key
pub round_key_word : (k xs : List ℕ) (n j : ℕ) (rk : List ℕ) → n + j < length k → j < length rk → take (n + j) k ≡ xs ++ take j rk
    → take (n + (j + 1)) (set k (n + j) (get_or rk j 0)) ≡ xs ++ take (j + 1) rk
round_key_word k xs n j rk b l h =
    filled k (n + j) (n + (j + 1)) _ (omega arith) b h
    ∙ append_assoc xs (take j rk) _ ∙ ap (λ t. xs ++ t) (sym (ap (λ m. take m rk) (add-one j) ∙ take-suc rk j 0 l))

-- all four
pub round_keys_more : (w k : List ℕ) (i : ℕ) (rk : List ℕ) → length rk ≡ 4 → take (4 * i + 4) k ≡ round_keys w i ++ take 4 rk → rk ≡ round_key w i
    → take (4 * (i + 1)) k ≡ round_keys w (i + 1)
unfolding round_keys
round_keys_more w k i rk l h e =
    let next : 4 * (i + 1) ≡ 4 * i + 4 = omega arith in
    rw (next, add-one, h) (ap (λ t. round_keys w i ++ t) (take_all 4 rk (omega arith) ∙ e))

-- round keys up to a place that is written in another way
pub up_to : {w k : List ℕ} {i j : ℕ} → i ≡ j → KeysUpTo w k i → KeysUpTo w k j
up_to e h = rw e at h

-- ---- n round keys are 4n words, whatever the prekeys: each is what a box gives
round_keys_sized : (w : List ℕ) (n : ℕ) → Sized (4 * n) (2 ^ 32) (round_keys w n)
unfolding round_keys
round_keys_sized w zero = record { len = refl; small = λ i. lit< tt }
round_keys_sized w (suc n) =
    let e : 4 * suc n ≡ 4 * n + 4 = omega arith in
    rw e (sized_append (round_keys_sized w n) (box_words_lem _ _))

pub schedule_sized : (key : List ℕ) → Sized 132 (2 ^ 32) (schedule key)
unfolding schedule
schedule_sized key = round_keys_sized _ 33
