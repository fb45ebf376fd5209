-- Each text and each cipher block of a chain is sixteen bytes, so a chain is as long as what it was made of.
-- Assumes nothing.
use mathlib.Core.Path.{◌≡◌, refl, sym, ap, ap₂, ◌∙◌}
use mathlib.Core.List.{List, [], ◌∷◌, ◌++◌}
use Prim.Native.Nat.{ℕ, zero, suc, ◌+◌, ◌*◌, ◌/◌, ◌%◌, ◌≤◌, ◌<◌}
use native.Mathlib.Nat.{le_of_suc-le-suc}
use native.Mathlib.Omega.{arith}
use lib.ListN.{length, take, drop, get_or, length-append, length-drop}
use lib.Seq.{take_at, drop_at, length-take-le}
use Rattle.serpent.specs.Block.{encrypt_bytes, decrypt_bytes}
use Rattle.serpent.proofs.Lengths.{encrypted_sixteen, decrypted_sixteen}
use Rattle.chain.specs.Chain.{xor, encipher, decipher, blocks, blocks_of, join}
use Rattle.chain.specs.Slices.{enciphered, deciphered}
use Rattle.chain.proofs.Xors.{length-xor}
use Rattle.chain.proofs.Blocks.{over, drop-over, length-blocks}
use Rattle.chain.proofs.Links.{length-decipher}

unfoldable pub Sixteens : List (List ℕ) → Type 0
Sixteens [] = Unit {0}
Sixteens (b ∷ bs) = (length b ≡ 16) × Sixteens bs

pub length-sixteens : (bs : List (List ℕ)) → Sixteens bs → length (join bs) ≡ length bs * 16
unfolding join Sixteens
length-sixteens [] h = refl
length-sixteens (b ∷ bs) h = length-append b (join bs) ∙ ap₂ (λ (x y : ℕ). x + y) h.0 (length-sixteens bs h.1) ∙ over (length bs)

-- of blocks joined, the one at a place
pub join_at : (bs : List (List ℕ)) → Sixteens bs → (j : ℕ) → j < length bs → take 16 (drop (j * 16) (join bs)) ≡ get_or bs j []
unfolding join Sixteens
join_at [] h j l = absurd (omega arith)
join_at (b ∷ bs) h zero l = take_at b (join bs) 16 h.0
join_at (b ∷ bs) h (suc j) l =
    ap (take 16) (sym (drop-over j (b ++ join bs)) ∙ ap (drop (j * 16)) (drop_at b (join bs) 16 h.0)) ∙ join_at bs h.1 j (le_of_suc-le-suc l)

pub sixteens_take : (n : ℕ) (bs : List (List ℕ)) → Sixteens bs → Sixteens (take n bs)
unfolding Sixteens
sixteens_take zero bs h = tt
sixteens_take (suc n) [] h = tt
sixteens_take (suc n) (b ∷ bs) h = (h.0, sixteens_take n bs h.1)

pub sixteens_drop : (n : ℕ) (bs : List (List ℕ)) → Sixteens bs → Sixteens (drop n bs)
unfolding Sixteens
sixteens_drop zero bs h = h
sixteens_drop (suc n) [] h = tt
sixteens_drop (suc n) (b ∷ bs) h = sixteens_drop n bs h.1

module _ (ks : List ℕ) where
  sixteens_encipher : (s : List ℕ) (texts : List (List ℕ)) → Sixteens (encipher (encrypt_bytes ks) s texts)
  unfolding Sixteens encipher
  sixteens_encipher s [] = tt
  sixteens_encipher s (t ∷ texts) = (encrypted_sixteen ks (xor t s), sixteens_encipher (encrypt_bytes ks (xor t s)) texts)

  pub sixteens_decipher : (s : List ℕ) (n : ℕ) (bytes : List ℕ) → length s ≡ 16 → n * 16 ≤ length bytes → Sixteens (decipher (decrypt_bytes ks) s (blocks n bytes))
  unfolding Sixteens decipher blocks
  sixteens_decipher s zero bytes e h = tt
  sixteens_decipher s (suc n) bytes e h =
      let d = decrypted_sixteen ks (take 16 bytes) in (
        length-xor (decrypt_bytes ks (take 16 bytes)) s (d ∙ sym e) ∙ d,
        sixteens_decipher (take 16 bytes) n (drop 16 bytes) (length-take-le 16 bytes (omega arith)) (omega (arith, length-drop 16 bytes)),
      )

length-encipher : (E : List ℕ → List ℕ) (s : List ℕ) (texts : List (List ℕ)) → length (encipher E s texts) ≡ length texts
unfolding encipher
length-encipher E s [] = refl
length-encipher E s (t ∷ texts) = ap suc (length-encipher E (E (xor t s)) texts)

whole : (n : ℕ) → n % 16 ≡ 0 → n / 16 * 16 ≡ n
whole n e = omega arith

pub enciphered_length : (ks start text : List ℕ) → length text % 16 ≡ 0 → length (enciphered ks start text) ≡ length text
unfolding enciphered
enciphered_length ks start text e =
    length-sixteens _ (sixteens_encipher ks start (blocks_of text))
    ∙ ap (λ (n : ℕ). n * 16) (length-encipher (encrypt_bytes ks) start (blocks_of text) ∙ length-blocks (length text / 16) text)
    ∙ whole (length text) e

pub deciphered_length : (ks start cipher : List ℕ) → length start ≡ 16 → length cipher % 16 ≡ 0 → length (deciphered ks start cipher) ≡ length cipher
unfolding deciphered
deciphered_length ks start cipher s e =
    length-sixteens _ (sixteens_decipher ks start (length cipher / 16) cipher s (omega arith))
    ∙ ap (λ (n : ℕ). n * 16) (length-decipher (decrypt_bytes ks) start (blocks_of cipher) ∙ length-blocks (length cipher / 16) cipher)
    ∙ whole (length cipher) e
