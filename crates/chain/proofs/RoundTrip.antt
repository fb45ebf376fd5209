-- The chain is CBC: SP 800-38A's equations hold of each block, and deciphering undoes enciphering.
-- Assumes nothing.
use mathlib.Core.Path.{◌≡◌, refl, ap, ap₂, ◌∙◌}
use mathlib.Core.List.{List, [], ◌∷◌}
use Prim.Native.Nat.{ℕ, zero, suc, ◌/◌, ◌%◌, ◌^◌, ◌<◌}
use native.Mathlib.Nat.{le_of_suc-le-suc}
use native.Mathlib.Omega.{arith}
use lib.ListN.{length, get_or}
use Rattle.words.specs.Sized.{Sized, Block}
use Rattle.words.specs.Inverse.{Inverse}
use Rattle.serpent.specs.Block.{encrypt_bytes, decrypt_bytes}
use Rattle.serpent.proofs.Inverse.{block_inverse}
use Rattle.chain.specs.Chain.{xor, encipher, decipher, blocks_of, join, Blocks}
use Rattle.chain.specs.Slices.{enciphered, deciphered}
use Rattle.chain.proofs.Xors.{xor_block, xor_twice}
use Rattle.chain.proofs.Blocks.{blocks_sized, join_blocks, blocks_of-join}

-- ---- the block at place j, and the one before it: the start block stands before the first
pub cipher_equation : (E : List ℕ → List ℕ) (s : List ℕ) (texts : List (List ℕ)) (j : ℕ) → j < length texts
    → get_or (encipher E s texts) j [] ≡ E (xor (get_or texts j []) (get_or (s ∷ encipher E s texts) j []))
unfolding encipher
cipher_equation E s [] j h = absurd (omega arith)
cipher_equation E s (t ∷ texts) zero h = refl
cipher_equation E s (t ∷ texts) (suc j) h = cipher_equation E (E (xor t s)) texts j (le_of_suc-le-suc h)

pub text_equation : (D : List ℕ → List ℕ) (s : List ℕ) (ciphers : List (List ℕ)) (j : ℕ) → j < length ciphers
    → get_or (decipher D s ciphers) j [] ≡ xor (D (get_or ciphers j [])) (get_or (s ∷ ciphers) j [])
unfolding decipher
text_equation D s [] j h = absurd (omega arith)
text_equation D s (c ∷ ciphers) zero h = refl
text_equation D s (c ∷ ciphers) (suc j) h = text_equation D c ciphers j (le_of_suc-le-suc h)

module _ {E D : List ℕ → List ℕ} (inv : Inverse Block Block E D) where
  -- what is enciphered deciphers to itself
  round_trip : (s : List ℕ) (texts : List (List ℕ)) → Block s → Blocks texts → decipher D s (encipher E s texts) ≡ texts
  unfolding decipher encipher Blocks
  round_trip s [] h k = refl
  round_trip s (t ∷ texts) h k =
      ap₂ (λ (x : List ℕ) (l : List (List ℕ)). x ∷ l)
      (ap (λ (x : List ℕ). xor x s) (inv.undo _ (xor_block k.0 h)) ∙ xor_twice k.0 h)
      (round_trip (E (xor t s)) texts (inv.there _ (xor_block k.0 h)) k.1)

  enciphered_blocks : (s : List ℕ) (texts : List (List ℕ)) → Block s → Blocks texts → Blocks (encipher E s texts)
  unfolding encipher Blocks
  enciphered_blocks s [] h k = tt
  enciphered_blocks s (t ∷ texts) h k =
      let c = inv.there _ (xor_block k.0 h) in
      (c, enciphered_blocks (E (xor t s)) texts c k.1)

  -- and what is deciphered enciphers to itself
  round_back : (s : List ℕ) (ciphers : List (List ℕ)) → Block s → Blocks ciphers → encipher E s (decipher D s ciphers) ≡ ciphers
  unfolding decipher encipher Blocks
  round_back s [] h k = refl
  round_back s (c ∷ ciphers) h k =
      let e : E (xor (xor (D c) s) s) ≡ c = ap E (xor_twice (inv.back c k.0) h) ∙ inv.redo c k.0 in
      ap (λ (b : List ℕ). b ∷ encipher E b (decipher D c ciphers)) e ∙ ap (λ (l : List (List ℕ)). c ∷ l) (round_back c ciphers k.0 k.1)

  deciphered_blocks : (s : List ℕ) (ciphers : List (List ℕ)) → Block s → Blocks ciphers → Blocks (decipher D s ciphers)
  unfolding decipher Blocks
  deciphered_blocks s [] h k = tt
  deciphered_blocks s (c ∷ ciphers) h k = (xor_block (inv.back c k.0) h, deciphered_blocks c ciphers k.0 k.1)

-- ---- the same on bytes of whole blocks, under 33 round keys
module _ (ks start bytes : List ℕ) (words : Sized 132 (2 ^ 32) ks) (hs : Block start) (whole : length bytes % 16 ≡ 0) (small : (i : ℕ) → get_or bytes i 0 < 2 ^ 8) where
  inverse : Inverse Block Block (encrypt_bytes ks) (decrypt_bytes ks)
  inverse = block_inverse ks words.small

  cut : Blocks (blocks_of bytes)
  cut = blocks_sized (length bytes / 16) bytes (omega arith) small

  joined : join (blocks_of bytes) ≡ bytes
  joined = join_blocks (length bytes / 16) bytes (omega arith)

  pub chain_undone : deciphered ks start (enciphered ks start bytes) ≡ bytes
  unfolding deciphered enciphered
  chain_undone =
      ap (λ (bs : List (List ℕ)). join (decipher (decrypt_bytes ks) start bs)) (blocks_of-join _ (enciphered_blocks inverse start (blocks_of bytes) hs cut))
      ∙ ap join (round_trip inverse start (blocks_of bytes) hs cut)
      ∙ joined

  pub chain_redone : enciphered ks start (deciphered ks start bytes) ≡ bytes
  unfolding deciphered enciphered
  chain_redone =
      ap (λ (bs : List (List ℕ)). join (encipher (encrypt_bytes ks) start bs)) (blocks_of-join _ (deciphered_blocks inverse start (blocks_of bytes) hs cut))
      ∙ ap join (round_back inverse start (blocks_of bytes) hs cut)
      ∙ joined
