-- Demand 1: every input has its one answer.
-- Assumes nothing.
use mathlib.Core.Path.{◌≡◌, refl, sym, ap, ◌∙◌}
use mathlib.Core.Bool.{true, false}
use mathlib.Core.List.{List, [], ◌∷◌, ◌++◌}
use mathlib.Core.Logic.{◌⊎◌, ⊎_elim}
use Prim.Native.Nat.{ℕ, suc, ◌+◌, ◌-◌, ◌*◌, ◌/◌, ◌%◌, ◌≤◌, ◌<◌}
use native.Mathlib.Decide.{dec_lt}
use native.Mathlib.Omega.{arith}
use lib.ListN.{length, drop, get_or, replicate, length-append, length-replicate}
use lib.Seq.{length-take-le}
use Rattle.std.specs.Prelude.{Result, Ok, Err, IfOk}
use Rattle.answers.specs.Numbers.{number}
use Rattle.answers.specs.declared.Refusal.{Refusal}
use Rattle.answers.proofs.Numbers.{same_reason, same_answer, same_done}
use Rattle.answers.proofs.Answers.{done, refused, left_refused, left_past, short, roomy}
use Rattle.words.specs.Bytes.{bytes_of}
use Rattle.words.proofs.Lists.{length-list_of}
use Rattle.bitslice.proofs.Arms.{always}
use Rattle.serpent.specs.Keys.{least_key, greatest_key, key_number, keyed}
use Rattle.serpent.specs.declared.Serpent.{Serpent}
use Rattle.serpent.specs.Schedule.{padded}
use Rattle.slices.specs.Parts.{setup_number, padded_out, round_keys_out, words_number, linear_out, linear_inv_out, boxed_number, boxed_out, boxed_inv_out}
use Rattle.slices.specs.Blocks.{block_number, encrypted_out, decrypted_out}
use Rattle.serpent.proofs.KeyTest.{accepts, refuses}
use Rattle.serpent.proofs.Lengths.{encrypted_sixteen, decrypted_sixteen}
use Rattle.slices.proofs.Pieces as pieces
use Rattle.slices.proofs.OneBlock as slices
use Rattle.chain.specs.Slices.{block_limit, blocks_number, chain_number, encrypted_chain, decrypted_chain}
use Rattle.chain.proofs.Numbers as chain
use Rattle.chain.proofs.Lengths.{enciphered_length, deciphered_length}
use Rattle.event.specs.Event.{class_number, readable, event_of}
use Rattle.event.specs.Read.{no_event, reading}
use Rattle.event.proofs.Events as event
use Rattle.frame.specs.Frame.{header, version, length_field, version_byte, start_of, cipher_of, block_count, frame_number, opened, frame_blocks}
use Rattle.frame.specs.declared.Frame.{Frame}
use Rattle.frame.specs.Parts.{start_number, start_out, frame_place, frame_length}
use Rattle.frame.specs.Window.{frame_texts, window_number, window_out}
use Rattle.frame.proofs.Opening as opening
use Rattle.frame.proofs.Windows as window
use Rattle.search.specs.Search.{nothing, found, search_number, search_answer}
use Rattle.search.proofs.Telling.{same_told}
use Rattle.search.proofs.Numbers as numbers
use Rattle.search.proofs.Turns as turns
use Rattle.demands.specs.Unique.{Determines, OneResult}
use Rattle.words.proofs.rotate_left.Reads as the_rotate_left
use Rattle.words.proofs.rotate_right.Reads as the_rotate_right
use Rattle.words.proofs.from_le_bytes.Reads as the_from_le_bytes
use Rattle.words.proofs.from_be_bytes.Reads as the_from_be_bytes
use Rattle.words.proofs.le_byte.Reads as the_le_byte
use Rattle.words.proofs.blocks.block_at.Reads as the_block_at
use Rattle.words.proofs.blocks.put_block.Reads as the_put_block
use Rattle.answers.proofs.single_block.Reads as the_single_block
use Rattle.answers.proofs.put_answer.Reads as the_put_answer
use Rattle.bitslice.proofs.linear_transform.Reads as the_linear_transform
use Rattle.bitslice.proofs.linear_transform_inv.Reads as the_linear_transform_inv
use Rattle.bitslice.proofs.apply_s.Reads as the_apply_s
use Rattle.bitslice.proofs.apply_s_inv.Reads as the_apply_s_inv
use Rattle.bitslice.proofs.round_box.Reads as the_round_box
use Rattle.bitslice.proofs.round_box_inv.Reads as the_round_box_inv
use Rattle.state.proofs.xor.Reads as the_xor_words
use Rattle.serpent.proofs.padded_key.Reads as the_padded_key
use Rattle.state.proofs.read_words.Reads as the_read_words
use Rattle.state.proofs.write_words.Reads as the_write_words
use Rattle.serpent.proofs.s_box.Reads as the_s_box
use Rattle.serpent.proofs.s_box_inv.Reads as the_s_box_inv
use Rattle.serpent.proofs.Serpent.check_key.Reads as the_check_key
use Rattle.serpent.proofs.Serpent.new_from_slice.Reads as the_new_from_slice
use Rattle.serpent.proofs.Serpent.encrypt_block.Reads as the_encrypt_block
use Rattle.serpent.proofs.Serpent.decrypt_block.Reads as the_decrypt_block
use Rattle.slices.proofs.encrypt_block.Reads as the_encrypt_slice
use Rattle.slices.proofs.decrypt_block.Reads as the_decrypt_slice
use Rattle.slices.proofs.parts.expand_key.Reads as the_parts_expand_key
use Rattle.slices.proofs.parts.new_from_slice.Reads as the_parts_new_from_slice
use Rattle.slices.proofs.parts.apply_s.Reads as the_parts_apply_s
use Rattle.slices.proofs.parts.apply_s_inv.Reads as the_parts_apply_s_inv
use Rattle.slices.proofs.parts.linear_transform.Reads as the_parts_linear_transform
use Rattle.slices.proofs.parts.linear_transform_inv.Reads as the_parts_linear_transform_inv
use Rattle.fast.proofs.encrypt_block.Reads as the_fast_encrypt_block
use Rattle.fast.proofs.decrypt_block.Reads as the_fast_decrypt_block
use Rattle.fast.proofs.decrypt_sixteen.Reads as the_decrypt_sixteen
use Rattle.chain.proofs.encrypt_link.Reads as the_encrypt_link
use Rattle.chain.proofs.decrypt_link.Reads as the_decrypt_link
use Rattle.chain.proofs.encrypt_blocks.Reads as the_encrypt_blocks
use Rattle.chain.proofs.decrypt_blocks.Reads as the_decrypt_blocks
use Rattle.chain.proofs.encrypt_chain.Reads as the_encrypt_chain
use Rattle.chain.proofs.decrypt_chain.Reads as the_decrypt_chain
use Rattle.event.proofs.classify.Reads as the_classify
use Rattle.event.proofs.class_number.Reads as the_class_number
use Rattle.event.proofs.no_event.Reads as the_no_event
use Rattle.event.proofs.read_block.Reads as the_read_block
use Rattle.event.proofs.read_event.Reads as the_read_event
use Rattle.frame.proofs.check_frame.Reads as the_check_frame
use Rattle.frame.proofs.Frame.start.Reads as the_start
use Rattle.frame.proofs.Frame.blocks.Reads as the_blocks
use Rattle.frame.proofs.Frame.count.Reads as the_count
use Rattle.frame.proofs.open_frame.Reads as the_opened_frame
use Rattle.frame.proofs.frame_blocks.Reads as the_frame_blocks
use Rattle.frame.proofs.parts.start_block.Reads as the_start_block
use Rattle.frame.proofs.parts.frame_start.Reads as the_frame_start
use Rattle.frame.proofs.parts.frame_place.Reads as the_frame_place
use Rattle.frame.proofs.parts.frame_length.Reads as the_frame_length
use Rattle.frame.proofs.window.read_window.Reads as the_read_window
use Rattle.search.proofs.Missed.refusal.Reads as the_refusal
use Rattle.search.proofs.Missed.tries.Reads as the_tries
use Rattle.search.proofs.search.Reads as the_search

-- what is seen of a frame that is opened: its bytes, or why not
abbrev pub opened_bytes : Result Frame Refusal → Result (List ℕ) Refusal
opened_bytes (Ok opened) = Ok opened.bytes.now
opened_bytes (Err refusal) = Err refusal

-- a key of a length that is taken, and of one that is not
abbrev pub Taken : ℕ → Type 0
Taken key = (least_key ≤ key) × (key ≤ greatest_key)

abbrev pub NotTaken : ℕ → Type 0
NotTaken key = (key < least_key) ⊎ (greatest_key < key)

-- the number is given exactly when the table says, in its order; a refusal leaves zeros and changes no byte
pub record Answers : Type 0 where
  -- key setup: 1; the record of a refused key is all zeros
  pub key_1 : (key : List ℕ) → NotTaken (length key) → (keyed key).number ≡ 1
  pub key_0 : (key : List ℕ) → Taken (length key) → (keyed key).number ≡ 0
  pub key_zeros : (key : List ℕ) → ((keyed key).number ≡ 0 → ⊥) → (keyed key).cipher.round_keys ≡ replicate 132 0
  -- the padded key and the round keys over slices, by the lengths of key, buffer and answer: 1, 5
  pub setup_1 : (key out size : ℕ) → NotTaken key → setup_number key out size ≡ 1
  pub setup_5 : (key out size : ℕ) → Taken key → out < size → setup_number key out size ≡ 5
  pub setup_0 : (key out size : ℕ) → Taken key → size ≤ out → setup_number key out size ≡ 0
  pub padded_kept : (key out : List ℕ) → (setup_number (length key) (length out) 32 ≡ 0 → ⊥) → padded_out key out ≡ out
  pub round_keys_kept : (key out : List ℕ) → (setup_number (length key) (length out) 528 ≡ 0 → ⊥) → round_keys_out key out ≡ out
  pub setup_past : (key out : List ℕ) → (drop 32 (padded_out key out) ≡ drop 32 out) × (drop 528 (round_keys_out key out) ≡ drop 528 out)
  -- the linear transform over slices, by the lengths of words and buffer: 2, 5
  pub words_2 : (words out : ℕ) → (words ≡ 16 → ⊥) → words_number words out ≡ 2
  pub words_5 : (words out : ℕ) → words ≡ 16 → out < 16 → words_number words out ≡ 5
  pub words_0 : (words out : ℕ) → words ≡ 16 → 16 ≤ out → words_number words out ≡ 0
  pub words_kept : (words out : List ℕ) → (words_number (length words) (length out) ≡ 0 → ⊥) → (linear_out words out ≡ out) × (linear_inv_out words out ≡ out)
  pub words_past : (words out : List ℕ) → (drop 16 (linear_out words out) ≡ drop 16 out) × (drop 16 (linear_inv_out words out) ≡ drop 16 out)
  -- a box over slices: 2, 5, whatever the index; 8, which stands between them, is never given
  pub box_2 : (index words out : ℕ) → (words ≡ 16 → ⊥) → boxed_number index words out ≡ 2
  pub box_5 : (index words out : ℕ) → words ≡ 16 → out < 16 → boxed_number index words out ≡ 5
  pub box_0 : (index words out : ℕ) → words ≡ 16 → 16 ≤ out → boxed_number index words out ≡ 0
  pub box_kept : (index : ℕ) (words out : List ℕ) → (boxed_number index (length words) (length out) ≡ 0 → ⊥) → (boxed_out index words out ≡ out) × (boxed_inv_out index words out ≡ out)
  pub box_past : (index : ℕ) (words out : List ℕ) → (drop 16 (boxed_out index words out) ≡ drop 16 out) × (drop 16 (boxed_inv_out index words out) ≡ drop 16 out)
  -- a block over slices, by the lengths of key, block and buffer: 1, 2, 5
  pub block_1 : (key block out : ℕ) → NotTaken key → block_number key block out ≡ 1
  pub block_2 : (key block out : ℕ) → Taken key → (block ≡ 16 → ⊥) → block_number key block out ≡ 2
  pub block_5 : (key block out : ℕ) → Taken key → block ≡ 16 → out < 16 → block_number key block out ≡ 5
  pub block_0 : (key block out : ℕ) → Taken key → block ≡ 16 → 16 ≤ out → block_number key block out ≡ 0
  -- where it refuses, every byte of the buffer is as it was; and those past the sixteenth are in any case
  pub block_kept : (key block out : List ℕ) → (block_number (length key) (length block) (length out) ≡ 0 → ⊥) → (encrypted_out key block out ≡ out) × (decrypted_out key block out ≡ out)
  pub block_past : (key block out : List ℕ) → (drop 16 (encrypted_out key block out) ≡ drop 16 out) × (drop 16 (decrypted_out key block out) ≡ drop 16 out)
  -- a chain, by the lengths of key, text, start block and buffer: 1, 2, 3, 4, 5
  pub chain_1 : (key text start out : ℕ) → NotTaken key → chain_number key text start out ≡ 1
  pub chain_2 : (key text start out : ℕ) → Taken key → (text % 16 ≡ 0 → ⊥) → chain_number key text start out ≡ 2
  pub chain_3 : (key text start out : ℕ) → Taken key → text % 16 ≡ 0 → (start ≡ 16 → ⊥) → chain_number key text start out ≡ 3
  pub chain_4 : (key text start out : ℕ) → Taken key → text % 16 ≡ 0 → start ≡ 16 → block_limit < text / 16 → chain_number key text start out ≡ 4
  pub chain_5 : (key text start out : ℕ) → Taken key → text % 16 ≡ 0 → start ≡ 16 → text / 16 ≤ block_limit → out < text → chain_number key text start out ≡ 5
  pub chain_0 : (key text start out : ℕ) → Taken key → text % 16 ≡ 0 → start ≡ 16 → text / 16 ≤ block_limit → text ≤ out → chain_number key text start out ≡ 0
  pub chain_kept : (key text start out : List ℕ) → (chain_number (length key) (length text) (length start) (length out) ≡ 0 → ⊥) → (encrypted_chain key text start out ≡ out) × (decrypted_chain key text start out ≡ out)
  pub chain_past : (key text start out : List ℕ) → chain_number (length key) (length text) (length start) (length out) ≡ 0 → (drop (length text) (encrypted_chain key text start out) ≡ drop (length text) out) × (drop (length text) (decrypted_chain key text start out) ≡ drop (length text) out)
  -- under round keys, by the lengths of text and buffer: 2, 5
  pub blocks_2 : (text out : ℕ) → (text % 16 ≡ 0 → ⊥) → blocks_number text out ≡ 2
  pub blocks_5 : (text out : ℕ) → text % 16 ≡ 0 → out < text → blocks_number text out ≡ 5
  pub blocks_0 : (text out : ℕ) → text % 16 ≡ 0 → text ≤ out → blocks_number text out ≡ 0
  -- opening a frame: 6, 7, 2, 4; with any of them the start block is zeros and the part is empty
  pub frame_6 : (frame : List ℕ) → (length frame < header) ⊎ (length_field frame ≡ length frame - 4 → ⊥) → frame_number frame ≡ 6
  pub frame_7 : (frame : List ℕ) → header ≤ length frame → length_field frame ≡ length frame - 4 → (version_byte frame ≡ version → ⊥) → frame_number frame ≡ 7
  pub frame_2 : (frame : List ℕ) → header ≤ length frame → length_field frame ≡ length frame - 4 → version_byte frame ≡ version → ((length frame - header) % 16 ≡ 0 → ⊥) → frame_number frame ≡ 2
  pub frame_4 : (frame : List ℕ) → header ≤ length frame → length_field frame ≡ length frame - 4 → version_byte frame ≡ version → (length frame - header) % 16 ≡ 0 → block_limit < block_count frame → frame_number frame ≡ 4
  pub frame_0 : (frame : List ℕ) → header ≤ length frame → length_field frame ≡ length frame - 4 → version_byte frame ≡ version → (length frame - header) % 16 ≡ 0 → block_count frame ≤ block_limit → frame_number frame ≡ 0
  pub frame_refused : (frame : List ℕ) → (frame_number frame ≡ 0 → ⊥) → ((opened frame).start ≡ replicate 16 0) × (frame_blocks frame ≡ [])
  pub frame_done : (frame : List ℕ) → frame_number frame ≡ 0 → ((opened frame).start ≡ start_of frame) × (frame_blocks frame ≡ cipher_of frame)
  -- the start block put into a buffer: those of opening, 5
  pub start_frame : (frame : List ℕ) (out n : ℕ) → frame_number frame ≡ suc n → start_number frame out ≡ suc n
  pub start_5 : (frame : List ℕ) (out : ℕ) → frame_number frame ≡ 0 → out < 16 → start_number frame out ≡ 5
  pub start_0 : (frame : List ℕ) (out : ℕ) → frame_number frame ≡ 0 → 16 ≤ out → start_number frame out ≡ 0
  pub start_kept : (frame out : List ℕ) → (start_number frame (length out) ≡ 0 → ⊥) → start_out frame out ≡ out
  pub start_past : (frame out : List ℕ) → frame_number frame ≡ 0 → drop 16 (start_out frame out) ≡ drop 16 out
  -- the part as place and length: behind the header, or 0 and 0
  pub part_done : (frame : List ℕ) → frame_number frame ≡ 0 → (frame_place frame ≡ header) × (frame_length frame ≡ length (cipher_of frame))
  pub part_refused : (frame : List ℕ) → (frame_number frame ≡ 0 → ⊥) → (frame_place frame ≡ 0) × (frame_length frame ≡ 0)
  -- a window: 1, those of opening, 9, 5
  pub window_1 : (key : ℕ) (frame : List ℕ) (place count out : ℕ) → NotTaken key → window_number key frame place count out ≡ 1
  pub window_frame : (key : ℕ) (frame : List ℕ) (place count out n : ℕ) → Taken key → frame_number frame ≡ suc n → window_number key frame place count out ≡ suc n
  pub window_9 : (key : ℕ) (frame : List ℕ) (place count out : ℕ) → Taken key → frame_number frame ≡ 0 → block_count frame < place + count → window_number key frame place count out ≡ 9
  pub window_5 : (key : ℕ) (frame : List ℕ) (place count out : ℕ) → Taken key → frame_number frame ≡ 0 → place + count ≤ block_count frame → out < count * 16 → window_number key frame place count out ≡ 5
  pub window_0 : (key : ℕ) (frame : List ℕ) (place count out : ℕ) → Taken key → frame_number frame ≡ 0 → place + count ≤ block_count frame → count * 16 ≤ out → window_number key frame place count out ≡ 0
  pub window_kept : (key frame : List ℕ) (place count : ℕ) (out : List ℕ) → (window_number (length key) frame place count (length out) ≡ 0 → ⊥) → window_out key frame place count out ≡ out
  pub window_past : (key frame : List ℕ) (place count : ℕ) (out : List ℕ) → window_number (length key) frame place count (length out) ≡ 0 → drop (count * 16) (window_out key frame place count out) ≡ drop (count * 16) out
  -- an event: 2, 10; with either of them every field is zero and the class is idle
  pub event_2 : (bytes : List ℕ) → (length bytes ≡ 16 → ⊥) → (reading bytes).number ≡ 2
  pub event_10 : (bytes : List ℕ) → length bytes ≡ 16 → readable bytes ≡ false → (reading bytes).number ≡ 10
  pub event_0 : (bytes : List ℕ) → length bytes ≡ 16 → readable bytes ≡ true → ((reading bytes).number ≡ 0) × ((reading bytes).event ≡ event_of bytes)
  pub event_zeros : (bytes : List ℕ) → ((reading bytes).number ≡ 0 → ⊥) → (reading bytes).event ≡ no_event
  -- the class that is handed out is never the unreadable one, 5
  pub event_class : (bytes : List ℕ) → class_number (reading bytes).event.class ≤ 4
  -- a search: 1, those of opening, 9, with no field but the number; then 11 with the blocks tried, or the first readable event
  pub search_1 : (key frame : List ℕ) (place : ℕ) → NotTaken (length key) → search_answer key frame place ≡ nothing 1 0
  pub search_frame : (key frame : List ℕ) (place n : ℕ) → Taken (length key) → frame_number frame ≡ suc n → search_answer key frame place ≡ nothing (suc n) 0
  pub search_9 : (key frame : List ℕ) (place : ℕ) → Taken (length key) → frame_number frame ≡ 0 → block_count frame < place → search_answer key frame place ≡ nothing 9 0
  pub search_11 : (key frame : List ℕ) (place : ℕ) → Taken (length key) → frame_number frame ≡ 0 → place ≤ block_count frame
      → ((q : ℕ) → place ≤ q → q < block_count frame → readable (get_or (frame_texts key frame) q []) ≡ false) → search_answer key frame place ≡ nothing 11 (block_count frame - place)
  pub search_0 : (key frame : List ℕ) (place p : ℕ) → Taken (length key) → frame_number frame ≡ 0 → place ≤ p → p < block_count frame → readable (get_or (frame_texts key frame) p []) ≡ true
      → ((q : ℕ) → place ≤ q → q < p → readable (get_or (frame_texts key frame) q []) ≡ false) → search_answer key frame place ≡ found (frame_texts key frame) place p

-- no two unlike results meet the promise of a public operation, as its source states it. Nor, where a buffer is lent, two unlike
-- contents of it: `s.1.0` is the second parameter as the operation returns, `s.1.1.0` the third, and so on
pub record OneAnswer : Type 0 where
  pub rotate_left : OneResult the_rotate_left.Post
  pub rotate_right : OneResult the_rotate_right.Post
  pub from_le_bytes : OneResult the_from_le_bytes.Post
  pub from_be_bytes : OneResult the_from_be_bytes.Post
  pub le_byte_lem : OneResult the_le_byte.Post
  pub block_at_lem : OneResult the_block_at.Post
  pub put_block_out : Determines the_put_block.Post (λ κs x s. s.1.0.now)
  pub single_block : OneResult the_single_block.Post
  pub put_answer : OneResult the_put_answer.Post
  pub put_answer_out : Determines the_put_answer.Post (λ κs x s. s.1.0.now)
  pub linear_transform_lem : OneResult the_linear_transform.Post
  pub linear_transform_inv_lem : OneResult the_linear_transform_inv.Post
  pub apply_s : OneResult the_apply_s.Post
  pub apply_s_inv : OneResult the_apply_s_inv.Post
  pub round_box : OneResult the_round_box.Post
  pub round_box_inv : OneResult the_round_box_inv.Post
  pub xor_words_lem : OneResult the_xor_words.Post
  pub padded_key : OneResult the_padded_key.Post
  pub read_words : OneResult the_read_words.Post
  pub write_words : OneResult the_write_words.Post
  pub s_box : OneResult the_s_box.Post
  pub s_box_inv : OneResult the_s_box_inv.Post
  pub check_key : OneResult the_check_key.Post
  pub new_from_slice : OneResult the_new_from_slice.Post
  pub encrypt_block : OneResult the_encrypt_block.Post
  pub decrypt_block : OneResult the_decrypt_block.Post
  pub encrypt_slice : OneResult the_encrypt_slice.Post
  pub encrypt_slice_out : Determines the_encrypt_slice.Post (λ κs x s. s.1.1.0.now)
  pub decrypt_slice : OneResult the_decrypt_slice.Post
  pub decrypt_slice_out : Determines the_decrypt_slice.Post (λ κs x s. s.1.1.0.now)
  pub expand_key_slices : OneResult the_parts_expand_key.Post
  pub expand_key_slices_out : Determines the_parts_expand_key.Post (λ κs x s. s.1.0.now)
  pub new_from_slice_slices : OneResult the_parts_new_from_slice.Post
  pub new_from_slice_slices_out : Determines the_parts_new_from_slice.Post (λ κs x s. s.1.0.now)
  pub apply_s_slices : OneResult the_parts_apply_s.Post
  pub apply_s_slices_out : Determines the_parts_apply_s.Post (λ κs x s. s.1.1.0.now)
  pub apply_s_inv_slices : OneResult the_parts_apply_s_inv.Post
  pub apply_s_inv_slices_out : Determines the_parts_apply_s_inv.Post (λ κs x s. s.1.1.0.now)
  pub linear_transform_slices : OneResult the_parts_linear_transform.Post
  pub linear_transform_slices_out : Determines the_parts_linear_transform.Post (λ κs x s. s.1.0.now)
  pub linear_transform_inv_slices : OneResult the_parts_linear_transform_inv.Post
  pub linear_transform_inv_slices_out : Determines the_parts_linear_transform_inv.Post (λ κs x s. s.1.0.now)
  pub fast_encrypt_block : OneResult the_fast_encrypt_block.Post
  pub fast_decrypt_block : OneResult the_fast_decrypt_block.Post
  pub decrypt_sixteen : OneResult the_decrypt_sixteen.Post
  pub encrypt_link : OneResult the_encrypt_link.Post
  pub decrypt_link : OneResult the_decrypt_link.Post
  pub encrypt_blocks : OneResult the_encrypt_blocks.Post
  pub encrypt_blocks_out : Determines the_encrypt_blocks.Post (λ κs x s. s.1.1.1.0.now)
  pub decrypt_blocks : OneResult the_decrypt_blocks.Post
  pub decrypt_blocks_out : Determines the_decrypt_blocks.Post (λ κs x s. s.1.1.1.0.now)
  pub encrypt_chain : OneResult the_encrypt_chain.Post
  pub encrypt_chain_out : Determines the_encrypt_chain.Post (λ κs x s. s.1.1.1.0.now)
  pub decrypt_chain : OneResult the_decrypt_chain.Post
  pub decrypt_chain_out : Determines the_decrypt_chain.Post (λ κs x s. s.1.1.1.0.now)
  pub classify : OneResult the_classify.Post
  pub class_number_lem : OneResult the_class_number.Post
  pub no_event_lem : OneResult the_no_event.Post
  pub read_block : OneResult the_read_block.Post
  pub read_event : OneResult the_read_event.Post
  pub check_frame : OneResult the_check_frame.Post
  pub open_frame : Determines the_opened_frame.Post (λ κs x s. opened_bytes x)
  pub start : OneResult the_start.Post
  pub blocks : Determines the_blocks.Post (λ κs x s. x.now)
  pub count : OneResult the_count.Post
  pub frame_blocks_lem : Determines the_frame_blocks.Post (λ κs x s. x.now)
  pub start_block : OneResult the_start_block.Post
  pub frame_start : OneResult the_frame_start.Post
  pub frame_start_out : Determines the_frame_start.Post (λ κs x s. s.1.0.now)
  pub frame_place_lem : OneResult the_frame_place.Post
  pub frame_length_lem : OneResult the_frame_length.Post
  pub read_window : OneResult the_read_window.Post
  pub read_window_out : Determines the_read_window.Post (λ κs x s. s.1.1.1.1.0.now)
  pub search : OneResult the_search.Post
  pub refusal : OneResult the_refusal.Post
  pub tries : OneResult the_tries.Post

bytes_size : (words : List ℕ) (n : ℕ) → length (bytes_of words n) ≡ n
unfolding bytes_of
bytes_size words n = length-list_of _ n

padded_size : (key : List ℕ) → length (padded key) ≡ 32
unfolding padded
padded_size key =
    let long : 32 ≤ length (key ++ (0x01 ∷ replicate 32 0)) = omega (arith, length-append key (0x01 ∷ replicate 32 0), length-replicate {A = ℕ} 32 0) in
    length-take-le 32 (key ++ (0x01 ∷ replicate 32 0)) long

accepted : {n : ℕ} → Taken n → key_number n ≡ 0
accepted {n} h = accepts n (record { least = h.0; most = h.1 })

-- a search that is refused answers its number alone
alone : (key frame : List ℕ) (place n : ℕ) → search_number (length key) frame place ≡ suc n → search_answer key frame place ≡ nothing (suc n) 0
unfolding search_answer
alone key frame place n e = refused _ _ (λ z. omega arith) ∙ ap (λ (k : ℕ). nothing k 0) e

-- and one that is begun is that of the texts
begun : (key frame : List ℕ) (place : ℕ) → Taken (length key) → frame_number frame ≡ 0 → place ≤ block_count frame → search_number (length key) frame place ≡ 0
begun key frame place k f w = numbers.ready_done (length key) frame place (record { keys = accepted k; frames = f; within = w })

six : (frame : List ℕ) → (length_field frame ≡ length frame - 4 → ⊥) → Dec (length frame < header) → frame_number frame ≡ 6
six frame h (yes l) = opening.short_frame frame l
six frame h (no l) = opening.wrong_length frame (omega arith) h

pub answers : Answers
unfolding search_answer reading
answers = record {
  key_1 = λ key. refuses (length key);
  key_0 = λ key. accepted;
  key_zeros = λ key h. refused _ _ h;
  setup_1 = λ key out size h. let one = refuses key h in pieces.bad_key key out size (λ z. omega arith) ∙ one;
  setup_5 = λ key out size k h. pieces.good_key key out size (accepted k) ∙ short out size h;
  setup_0 = λ key out size k h. pieces.good_key key out size (accepted k) ∙ roomy out size h;
  padded_kept = λ key out h. left_refused _ _ h;
  round_keys_kept = λ key out h. left_refused _ _ h;
  setup_past = λ key out. (left_past _ _ _ 32 (padded_size key), left_past _ _ _ 528 (bytes_size _ 528));
  words_2 = pieces.bad_words;
  words_5 = λ words out e h. pieces.good_words words out e ∙ short out 16 h;
  words_0 = λ words out e h. pieces.good_words words out e ∙ roomy out 16 h;
  words_kept = λ words out h. (left_refused _ _ h, left_refused _ _ h);
  words_past = λ words out. (left_past _ _ _ 16 (bytes_size _ 16), left_past _ _ _ 16 (bytes_size _ 16));
  box_2 = pieces.bad_boxed;
  box_5 = λ index words out e h. pieces.good_boxed index words out e (always index) ∙ short out 16 h;
  box_0 = λ index words out e h. pieces.good_boxed index words out e (always index) ∙ roomy out 16 h;
  box_kept = λ index words out h. (left_refused _ _ h, left_refused _ _ h);
  box_past = λ index words out. (left_past _ _ _ 16 (bytes_size _ 16), left_past _ _ _ 16 (bytes_size _ 16));
  block_1 = λ key block out h. slices.bad_key key block out (refuses key h);
  block_2 = λ key block out k. slices.bad_block key block out (accepted k);
  block_5 = λ key block out k. slices.short_buffer key block out (accepted k);
  block_0 = λ key block out k size room. slices.ready_done key block out (record { keys = accepted k; size = size; room = room });
  block_kept = λ key block out h. (left_refused _ _ h, left_refused _ _ h);
  block_past = λ key block out. (left_past _ _ _ 16 (encrypted_sixteen _ _), left_past _ _ _ 16 (decrypted_sixteen _ _));
  chain_1 = λ key text start out h. chain.bad_key key text start out (refuses key h);
  chain_2 = λ key text start out k. chain.ragged key text start out (accepted k);
  chain_3 = λ key text start out k. chain.bad_start key text start out (accepted k);
  chain_4 = λ key text start out k. chain.too_many key text start out (accepted k);
  chain_5 = λ key text start out k. chain.short_buffer key text start out (accepted k);
  chain_0 = λ key text start out k t s f r. chain.ready_done key text start out (record { keys = accepted k; whole = t; size = s; few = f; room = r });
  chain_kept = λ key text start out h. (left_refused _ _ h, left_refused _ _ h);
  chain_past = λ key text start out e.
      let ok = chain.ready _ _ _ _ e in
      (left_past _ _ out (length text) (enciphered_length _ start text ok.whole), left_past _ _ out (length text) (deciphered_length _ start text ok.size ok.whole));
  blocks_2 = chain.ragged_blocks;
  blocks_5 = chain.short_blocks;
  blocks_0 = chain.done_blocks;
  frame_6 = λ frame h. ⊎_elim (opening.short_frame frame) (λ d. six frame d (dec_lt (length frame) header)) h;
  frame_7 = opening.wrong_version;
  frame_2 = opening.ragged;
  frame_4 = opening.too_many;
  frame_0 = λ frame l a v w f. opening.opens_done frame (record { long = l; agrees = a; known = v; whole = w; few = f });
  frame_refused = λ frame h. (refused _ _ h, refused _ _ h);
  frame_done = λ frame e. (done _ _ e, done _ _ e);
  start_frame = λ frame out n e. opening.start_refused frame out (λ z. omega arith) ∙ e;
  start_5 = λ frame out e h. opening.start_room frame out e ∙ short out 16 h;
  start_0 = λ frame out e h. opening.start_room frame out e ∙ roomy out 16 h;
  start_kept = λ frame out h. left_refused _ _ h;
  start_past = λ frame out e. left_past _ _ _ 16 (ap length (sym (done _ _ e)) ∙ opening.start_sixteen frame);
  part_done = λ frame e. (done _ _ e, ap length (done _ _ e));
  part_refused = λ frame h. (refused _ _ h, ap length (refused _ _ h));
  window_1 = λ key frame place count out h. window.bad_key key frame place count out (refuses key h);
  window_frame = λ key frame place count out n k. window.bad_frame key frame place count out (accepted k);
  window_9 = λ key frame place count out k. window.beyond key frame place count out (accepted k);
  window_5 = λ key frame place count out k. window.short_buffer key frame place count out (accepted k);
  window_0 = λ key frame place count out k f w r. window.ready_done key frame place count out (record { keys = accepted k; frames = f; within = w; room = r });
  window_kept = λ key frame place count out h. left_refused _ _ h;
  window_past = λ key frame place count out e. left_past _ _ out (count * 16) (window.window_length key frame place count (length out) (window.ready _ _ _ _ _ e));
  event_2 = λ bytes h. event.bad_length bytes h;
  event_10 = λ bytes e h. event.unreadable bytes e h;
  event_0 = λ bytes e h. (event.read_done bytes e h, event.event_done bytes (event.read_done bytes e h));
  event_zeros = λ bytes h. event.event_refused bytes h;
  event_class = event.class_low;
  search_1 = λ key frame place h. alone key frame place 0 (numbers.bad_key (length key) frame place (refuses (length key) h));
  search_frame = λ key frame place n k e. alone key frame place n (numbers.bad_frame (length key) frame place (accepted k) e);
  search_9 = λ key frame place k f h. alone key frame place 8 (numbers.beyond (length key) frame place (accepted k) f h);
  search_11 = λ key frame place k f w all.
      let size : length (frame_texts key frame) ≡ block_count frame = window.texts_count _ frame in
      done _ _ (begun key frame place k f w)
      ∙ turns.none_readable (frame_texts key frame) place (omega arith) (λ q l m. all q l (omega arith))
      ∙ ap (λ (n : ℕ). nothing 11 (n - place)) size;
  search_0 = λ key frame place p k f l m e before.
      let size : length (frame_texts key frame) ≡ block_count frame = window.texts_count _ frame in
      done _ _ (begun key frame place k f (omega arith))
      ∙ turns.first_readable (frame_texts key frame) place p l (omega arith) e before;
}

-- shown once: a promise is an equation with a function of the inputs
pub once : {A : Type 0} {x y z : A} → x ≡ z → y ≡ z → x ≡ y
once p q = p ∙ sym q

-- a record of round keys is what its keys are
its_keys : (ks : List ℕ) (r : Result Serpent Refusal) → IfOk r (λ c. c.round_keys ≡ ks) → IfOk r (λ c. c ≡ record { round_keys = ks })
its_keys ks (Ok c) e = ap (λ (k : List ℕ). record { round_keys = k }) e
its_keys ks (Err r) e = tt

-- two frames opened from the same bytes
one_opened : {n : ℕ} (bytes : List ℕ) (x y : Result Frame Refusal) → number x ≡ n → number y ≡ n
    → IfOk x (λ f. f.bytes.now ≡ bytes) → IfOk y (λ f. f.bytes.now ≡ bytes) → opened_bytes x ≡ opened_bytes y
one_opened bytes x y e f p q = same_answer bytes (opened_bytes x) (opened_bytes y) (told x ∙ e) (told y ∙ f) (its_bytes x p) (its_bytes y q)
  where
    told : (r : Result Frame Refusal) → number (opened_bytes r) ≡ number r
    told (Ok o) = refl
    told (Err r) = refl

    its_bytes : (r : Result Frame Refusal) → IfOk r (λ o. o.bytes.now ≡ bytes) → IfOk (opened_bytes r) (λ b. b ≡ bytes)
    its_bytes (Ok o) e = e
    its_bytes (Err r) e = tt

pub one_answer : OneAnswer
one_answer = record {
  rotate_left = λ κs a x y s t p q. once p q;
  rotate_right = λ κs a x y s t p q. once p q;
  from_le_bytes = λ κs a x y s t p q. once p q;
  from_be_bytes = λ κs a x y s t p q. once p q;
  le_byte_lem = λ κs a x y s t p q. once p q;
  block_at_lem = λ κs a x y s t p q. once p q;
  put_block_out = λ κs a x y s t p q. once p q;
  single_block = λ κs a x y s t p q. same_answer _ x y p.0 q.0 p.1 q.1;
  put_answer = λ κs a x y s t p q. same_done x y p.0 q.0;
  put_answer_out = λ κs a x y s t p q. once p.1 q.1;
  linear_transform_lem = λ κs a x y s t p q. once p q;
  linear_transform_inv_lem = λ κs a x y s t p q. once p q;
  apply_s = λ κs a x y s t p q. same_answer _ x y p.0 q.0 p.1 q.1;
  apply_s_inv = λ κs a x y s t p q. same_answer _ x y p.0 q.0 p.1 q.1;
  round_box = λ κs a x y s t p q. once p q;
  round_box_inv = λ κs a x y s t p q. once p q;
  xor_words_lem = λ κs a x y s t p q. once p q;
  padded_key = λ κs a x y s t p q. once p q;
  read_words = λ κs a x y s t p q. once p q;
  write_words = λ κs a x y s t p q. once p q;
  s_box = λ κs a x y s t p q. once p q;
  s_box_inv = λ κs a x y s t p q. once p q;
  check_key = λ κs a x y s t p q. same_done x y p q;
  new_from_slice = λ κs a x y s t p q. same_answer _ x y p.0 q.0 (its_keys _ x p.1) (its_keys _ y q.1);
  encrypt_block = λ κs a x y s t p q. once p q;
  decrypt_block = λ κs a x y s t p q. once p q;
  encrypt_slice = λ κs a x y s t p q. same_done x y p.0 q.0;
  encrypt_slice_out = λ κs a x y s t p q. once p.1 q.1;
  decrypt_slice = λ κs a x y s t p q. same_done x y p.0 q.0;
  decrypt_slice_out = λ κs a x y s t p q. once p.1 q.1;
  expand_key_slices = λ κs a x y s t p q. same_done x y p.0 q.0;
  expand_key_slices_out = λ κs a x y s t p q. once p.1 q.1;
  new_from_slice_slices = λ κs a x y s t p q. same_done x y p.0 q.0;
  new_from_slice_slices_out = λ κs a x y s t p q. once p.1 q.1;
  apply_s_slices = λ κs a x y s t p q. same_done x y p.0 q.0;
  apply_s_slices_out = λ κs a x y s t p q. once p.1 q.1;
  apply_s_inv_slices = λ κs a x y s t p q. same_done x y p.0 q.0;
  apply_s_inv_slices_out = λ κs a x y s t p q. once p.1 q.1;
  linear_transform_slices = λ κs a x y s t p q. same_done x y p.0 q.0;
  linear_transform_slices_out = λ κs a x y s t p q. once p.1 q.1;
  linear_transform_inv_slices = λ κs a x y s t p q. same_done x y p.0 q.0;
  linear_transform_inv_slices_out = λ κs a x y s t p q. once p.1 q.1;
  fast_encrypt_block = λ κs a x y s t p q. once p q;
  fast_decrypt_block = λ κs a x y s t p q. once p q;
  decrypt_sixteen = λ κs a x y s t p q. once p q;
  encrypt_link = λ κs a x y s t p q. once p q;
  decrypt_link = λ κs a x y s t p q. once p q;
  encrypt_blocks = λ κs a x y s t p q. same_done x y p.0 q.0;
  encrypt_blocks_out = λ κs a x y s t p q. once p.1 q.1;
  decrypt_blocks = λ κs a x y s t p q. same_done x y p.0 q.0;
  decrypt_blocks_out = λ κs a x y s t p q. once p.1 q.1;
  encrypt_chain = λ κs a x y s t p q. same_done x y p.0 q.0;
  encrypt_chain_out = λ κs a x y s t p q. once p.1 q.1;
  decrypt_chain = λ κs a x y s t p q. same_done x y p.0 q.0;
  decrypt_chain_out = λ κs a x y s t p q. once p.1 q.1;
  classify = λ κs a x y s t p q. once p q;
  class_number_lem = λ κs a x y s t p q. once p q;
  no_event_lem = λ κs a x y s t p q. once p q;
  read_block = λ κs a x y s t p q. same_answer _ x y p.0 q.0 p.1 q.1;
  read_event = λ κs a x y s t p q. same_answer _ x y p.0 q.0 p.1 q.1;
  check_frame = λ κs a x y s t p q. same_done x y p q;
  open_frame = λ κs a x y s t p q. one_opened _ x y p.0 q.0 p.1 q.1;
  start = λ κs a x y s t p q. once p q;
  blocks = λ κs a x y s t p q. once p q;
  count = λ κs a x y s t p q. once p q;
  frame_blocks_lem = λ κs a x y s t p q. once p q;
  start_block = λ κs a x y s t p q. once p q;
  frame_start = λ κs a x y s t p q. same_done x y p.0 q.0;
  frame_start_out = λ κs a x y s t p q. once p.1 q.1;
  frame_place_lem = λ κs a x y s t p q. once p q;
  frame_length_lem = λ κs a x y s t p q. once p q;
  read_window = λ κs a x y s t p q. same_done x y p.0 q.0;
  read_window_out = λ κs a x y s t p q. once p.1 q.1;
  search = λ κs a x y s t p q. same_told x y (once p.0 q.0) p.1 q.1;
  refusal = λ κs a x y s t p q. same_reason x y (once p q);
  tries = λ κs a x y s t p q. once p q;
}
