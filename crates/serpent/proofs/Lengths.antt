-- A block enciphered or deciphered is sixteen bytes.
-- Assumes nothing.
use mathlib.Core.Path.{◌≡◌}
use mathlib.Core.List.{List}
use Prim.Native.Nat.{ℕ}
use lib.ListN.{length}
use Rattle.words.specs.Bytes.{bytes_of}
use Rattle.words.proofs.Lists.{length-list_of}
use Rattle.serpent.specs.Block.{encrypt_bytes, decrypt_bytes}

pub encrypted_sixteen : (ks b : List ℕ) → length (encrypt_bytes ks b) ≡ 16
unfolding encrypt_bytes bytes_of
encrypted_sixteen ks b = length-list_of _ 16

pub decrypted_sixteen : (ks b : List ℕ) → length (decrypt_bytes ks b) ≡ 16
unfolding decrypt_bytes bytes_of
decrypted_sixteen ks b = length-list_of _ 16
