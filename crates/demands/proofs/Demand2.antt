-- Demand 2: the cipher is the paper's, and the chain is CBC over it.
-- Assumes nothing.
use mathlib.Core.Path.{◌≡◌}
use mathlib.Core.List.{List, [], ◌∷◌}
use Prim.Native.Nat.{ℕ, ◌≤◌, ◌<◌, ◌%◌, ◌^◌}
use lib.ListN.{length, take, drop, get_or}
use Rattle.answers.specs.Answers.{front}
use Rattle.words.specs.Sized.{Sized, FourWords, Block}
use Rattle.words.specs.Bytes.{words_of}
use Rattle.words.specs.Inverse.{Inverse}
use Rattle.bitslice.specs.Boxes.{box_words, box_inv_words}
use Rattle.bitslice.specs.Chosen.{box_number}
use Rattle.bitslice.specs.Linear.{linear_transform, linear_transform_inv}
use Rattle.serpent.specs.Schedule.{padded, prekeys, round_keys, schedule}
use Rattle.serpent.specs.Block.{encrypt_bytes, decrypt_bytes}
use Rattle.serpent.specs.Keys.{least_key, greatest_key, keyed}
use Rattle.slices.specs.Blocks.{encrypted_out, decrypted_out}
use Rattle.chain.specs.Chain.{xor, encipher, decipher, blocks_of, join}
use Rattle.chain.specs.Slices.{enciphered, deciphered, chain_number, encrypted_chain, decrypted_chain}
use Rattle.frame.specs.Frame.{start_of, cipher_of}
use Rattle.frame.specs.Window.{texts_under, window_number, window_out}
use Rattle.demands.specs.Readings.{table, Hold}
use Rattle.answers.proofs.Answers.{left_done}
use Rattle.bitslice.proofs.Arms.{always}
use Rattle.bitslice.proofs.Boxes.{box_inverse}
use Rattle.bitslice.proofs.Linear.{linear_inverse}
use Rattle.serpent.proofs.Inverse.{block_inverse}
use Rattle.serpent.proofs.Keys.{schedule_sized}
use Rattle.serpent.proofs.KeyTest.{Accepted, accepts, keyed_accepted}
use Rattle.slices.proofs.OneBlock.{ready_done}
use Rattle.chain.proofs.RoundTrip.{cipher_equation, text_equation, chain_undone, chain_redone}
use Rattle.demands.proofs.Readings.{readings}

pub record Cipher : Type 0 where
  -- every key of the least to the greatest length is accepted, with the paper's 33 round keys
  pub round_keys_lem : (key : List ℕ) → least_key ≤ length key → length key ≤ greatest_key → ((keyed key).number ≡ 0) × ((keyed key).cipher.round_keys ≡ round_keys (prekeys (words_of (padded key) 8) 132) 33)
  -- under such a key a block is enciphered, and deciphered, under those round keys
  pub blocks : (key block out : List ℕ) → least_key ≤ length key → length key ≤ greatest_key → length block ≡ 16 → 16 ≤ length out
      → (encrypted_out key block out ≡ front (encrypt_bytes (schedule key) block) out) × (decrypted_out key block out ≡ front (decrypt_bytes (schedule key) block) out)
  -- each box, and the linear transform, takes four words to four words, and its inverse undoes it both ways
  pub boxes : (i : ℕ) → Inverse FourWords FourWords (box_words i) (box_inv_words i)
  pub linear : Inverse FourWords FourWords linear_transform linear_transform_inv
  -- enciphering and deciphering undo each other under any 33 round keys
  pub undone : (ks : List ℕ) → Sized 132 (2 ^ 32) ks → (block : List ℕ) → Block block → decrypt_bytes ks (encrypt_bytes ks block) ≡ block
  pub redone : (ks : List ℕ) → Sized 132 (2 ^ 32) ks → (block : List ℕ) → Block block → encrypt_bytes ks (decrypt_bytes ks block) ≡ block
  -- and so under the round keys of any key
  pub under_a_key : (key block : List ℕ) → Block block → (decrypt_bytes (schedule key) (encrypt_bytes (schedule key) block) ≡ block) × (encrypt_bytes (schedule key) (decrypt_bytes (schedule key) block) ≡ block)
  -- a box is there for every index: number 8 is never given
  pub boxed : (i : ℕ) → box_number i ≡ 0

pub record Chain : Type 0 where
  -- a chain that is done, under a key: the text or the cipher bytes, cut into blocks, enciphered or deciphered from the start block under the key's round keys
  pub chains : (key bytes start out : List ℕ) → chain_number (length key) (length bytes) (length start) (length out) ≡ 0
      → (encrypted_chain key bytes start out ≡ front (join (encipher (encrypt_bytes (schedule key)) start (blocks_of bytes))) out) × (decrypted_chain key bytes start out ≡ front (join (decipher (decrypt_bytes (schedule key)) start (blocks_of bytes))) out)
  -- a window that is done: so many texts from its place on, of the texts of the whole frame
  pub windows : (key frame : List ℕ) (place count : ℕ) (out : List ℕ) → window_number (length key) frame place count (length out) ≡ 0
      → window_out key frame place count out ≡ front (join (take count (drop place (decipher (decrypt_bytes (schedule key)) (start_of frame) (blocks_of (cipher_of frame)))))) out
  -- SP 800-38A's equations, for any block function: the block at place j is made of its text and the cipher block before it, the start block before the first
  pub cipher_block : (E : List ℕ → List ℕ) (start : List ℕ) (texts : List (List ℕ)) (j : ℕ) → j < length texts
      → get_or (encipher E start texts) j [] ≡ E (xor (get_or texts j []) (get_or (start ∷ encipher E start texts) j []))
  pub text_block : (D : List ℕ → List ℕ) (start : List ℕ) (ciphers : List (List ℕ)) (j : ℕ) → j < length ciphers
      → get_or (decipher D start ciphers) j [] ≡ xor (D (get_or ciphers j [])) (get_or (start ∷ ciphers) j [])
  -- deciphering a chain undoes enciphering it, and the other way round, under any 33 round keys
  pub undone : (ks start bytes : List ℕ) → Sized 132 (2 ^ 32) ks → Block start → length bytes % 16 ≡ 0 → ((i : ℕ) → get_or bytes i 0 < 2 ^ 8) → deciphered ks start (enciphered ks start bytes) ≡ bytes
  pub redone : (ks start bytes : List ℕ) → Sized 132 (2 ^ 32) ks → Block start → length bytes % 16 ≡ 0 → ((i : ℕ) → get_or bytes i 0 < 2 ^ 8) → enciphered ks start (deciphered ks start bytes) ≡ bytes

-- the readings to check by hand
pub Read : Type 0
Read = Hold table

pub cipher : Cipher
unfolding schedule
cipher = record {
  round_keys_lem = λ key l h. let ok : Accepted (length key) = record { least = l; most = h } in (accepts (length key) ok, keyed_accepted key ok);
  blocks = λ key block out l h size room.
      let zero = ready_done _ _ _ (record { keys = accepts (length key) (record { least = l; most = h }); size = size; room = room }) in
      (left_done _ _ zero, left_done _ _ zero);
  boxes = box_inverse;
  linear = linear_inverse;
  undone = λ ks s. (block_inverse ks s.small).undo;
  redone = λ ks s. (block_inverse ks s.small).redo;
  under_a_key = λ key block b. let v = block_inverse (schedule key) (schedule_sized key).small in (v.undo block b, v.redo block b);
  boxed = always;
}

pub chain : Chain
unfolding enciphered deciphered texts_under
chain = record {
  chains = λ key bytes start out e. (left_done _ _ e, left_done _ _ e);
  windows = λ key frame place count out e. left_done _ _ e;
  cipher_block = cipher_equation;
  text_block = text_equation;
  undone = chain_undone;
  redone = chain_redone;
}

pub read : Read
unfolding Read
read = readings
