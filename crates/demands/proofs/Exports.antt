-- Demand 1 for what a host in C calls: each of the thirty-five exports has one answer, and so has each of the five that the bench calls. Their promises are those of the operations
-- below them, by the same definitions, so that `Demand1` says of each when it is refused, and what it leaves.
-- Assumes nothing.
use Rattle.demands.specs.Unique.{Determines, OneResult}
use Rattle.demands.proofs.Demand1.{once}
use Rattle.barkmottle.proofs.cipher.barkmottle_expand_key.Reads as the_expand_key
use Rattle.barkmottle.proofs.cipher.barkmottle_new_from_slice.Reads as the_new_from_slice
use Rattle.barkmottle.proofs.cipher.barkmottle_apply_s.Reads as the_apply_s
use Rattle.barkmottle.proofs.cipher.barkmottle_apply_s_inv.Reads as the_apply_s_inv
use Rattle.barkmottle.proofs.cipher.barkmottle_linear_transform.Reads as the_linear_transform
use Rattle.barkmottle.proofs.cipher.barkmottle_linear_transform_inv.Reads as the_linear_transform_inv
use Rattle.barkmottle.proofs.cipher.barkmottle_encrypt_block.Reads as the_encrypt_block
use Rattle.barkmottle.proofs.cipher.barkmottle_decrypt_block.Reads as the_decrypt_block
use Rattle.barkmottle.proofs.log.barkmottle_encrypt_chain.Reads as the_encrypt_chain
use Rattle.barkmottle.proofs.log.barkmottle_decrypt_chain.Reads as the_decrypt_chain
use Rattle.barkmottle.proofs.log.barkmottle_open_frame.Reads as the_opened_frame
use Rattle.barkmottle.proofs.log.barkmottle_frame_start.Reads as the_frame_start
use Rattle.barkmottle.proofs.log.barkmottle_frame_place.Reads as the_frame_place
use Rattle.barkmottle.proofs.log.barkmottle_frame_length.Reads as the_frame_length
use Rattle.barkmottle.proofs.log.barkmottle_read_window.Reads as the_read_window
use Rattle.barkmottle.proofs.events.barkmottle_read_event.Reads as the_read_event
use Rattle.barkmottle.proofs.events.barkmottle_event_wall.Reads as the_event_wall
use Rattle.barkmottle.proofs.events.barkmottle_event_utc.Reads as the_event_utc
use Rattle.barkmottle.proofs.events.barkmottle_event_offset.Reads as the_event_offset
use Rattle.barkmottle.proofs.events.barkmottle_event_value.Reads as the_event_value
use Rattle.barkmottle.proofs.events.barkmottle_event_kind.Reads as the_event_kind
use Rattle.barkmottle.proofs.events.barkmottle_event_class.Reads as the_event_class
use Rattle.barkmottle.proofs.events.barkmottle_event_inverter.Reads as the_event_inverter
use Rattle.barkmottle.proofs.events.barkmottle_event_sequence.Reads as the_event_sequence
use Rattle.barkmottle.proofs.searches.barkmottle_search.Reads as the_search
use Rattle.barkmottle.proofs.searches.barkmottle_search_place.Reads as the_search_place
use Rattle.barkmottle.proofs.searches.barkmottle_search_tries.Reads as the_search_tries
use Rattle.barkmottle.proofs.searches.barkmottle_search_wall.Reads as the_search_wall
use Rattle.barkmottle.proofs.searches.barkmottle_search_utc.Reads as the_search_utc
use Rattle.barkmottle.proofs.searches.barkmottle_search_offset.Reads as the_search_offset
use Rattle.barkmottle.proofs.searches.barkmottle_search_value.Reads as the_search_value
use Rattle.barkmottle.proofs.searches.barkmottle_search_kind.Reads as the_search_kind
use Rattle.barkmottle.proofs.searches.barkmottle_search_class.Reads as the_search_class
use Rattle.barkmottle.proofs.searches.barkmottle_search_inverter.Reads as the_search_inverter
use Rattle.barkmottle.proofs.searches.barkmottle_search_sequence.Reads as the_search_sequence
use Rattle.timed.proofs.timed_new_from_slice.Reads as the_timed_new_from_slice
use Rattle.timed.proofs.timed_encrypt_block.Reads as the_timed_encrypt_block
use Rattle.timed.proofs.timed_decrypt_block.Reads as the_timed_decrypt_block
use Rattle.timed.proofs.timed_encrypt_blocks.Reads as the_timed_encrypt_blocks
use Rattle.timed.proofs.timed_decrypt_blocks.Reads as the_timed_decrypt_blocks

-- no two unlike results, nor two unlike contents of the lent buffer, meet an export's promise
pub record OneExport : Type 0 where
  pub expand_key : OneResult the_expand_key.Post
  pub expand_key_out : Determines the_expand_key.Post (λ κs x s. s.1.0.now)
  pub new_from_slice : OneResult the_new_from_slice.Post
  pub new_from_slice_out : Determines the_new_from_slice.Post (λ κs x s. s.1.0.now)
  pub apply_s : OneResult the_apply_s.Post
  pub apply_s_out : Determines the_apply_s.Post (λ κs x s. s.1.1.0.now)
  pub apply_s_inv : OneResult the_apply_s_inv.Post
  pub apply_s_inv_out : Determines the_apply_s_inv.Post (λ κs x s. s.1.1.0.now)
  pub linear_transform_lem : OneResult the_linear_transform.Post
  pub linear_transform_out : Determines the_linear_transform.Post (λ κs x s. s.1.0.now)
  pub linear_transform_inv_lem : OneResult the_linear_transform_inv.Post
  pub linear_transform_inv_out : Determines the_linear_transform_inv.Post (λ κs x s. s.1.0.now)
  pub encrypt_block : OneResult the_encrypt_block.Post
  pub encrypt_block_out : Determines the_encrypt_block.Post (λ κs x s. s.1.1.0.now)
  pub decrypt_block : OneResult the_decrypt_block.Post
  pub decrypt_block_out : Determines the_decrypt_block.Post (λ κs x s. s.1.1.0.now)
  pub encrypt_chain : OneResult the_encrypt_chain.Post
  pub encrypt_chain_out : Determines the_encrypt_chain.Post (λ κs x s. s.1.1.1.0.now)
  pub decrypt_chain : OneResult the_decrypt_chain.Post
  pub decrypt_chain_out : Determines the_decrypt_chain.Post (λ κs x s. s.1.1.1.0.now)
  pub open_frame : OneResult the_opened_frame.Post
  pub frame_start : OneResult the_frame_start.Post
  pub frame_start_out : Determines the_frame_start.Post (λ κs x s. s.1.0.now)
  pub frame_place_lem : OneResult the_frame_place.Post
  pub frame_length_lem : OneResult the_frame_length.Post
  pub read_window : OneResult the_read_window.Post
  pub read_window_out : Determines the_read_window.Post (λ κs x s. s.1.1.1.1.0.now)
  pub read_event : OneResult the_read_event.Post
  pub event_wall : OneResult the_event_wall.Post
  pub event_utc : OneResult the_event_utc.Post
  pub event_offset : OneResult the_event_offset.Post
  pub event_value : OneResult the_event_value.Post
  pub event_kind : OneResult the_event_kind.Post
  pub event_class : OneResult the_event_class.Post
  pub event_inverter : OneResult the_event_inverter.Post
  pub event_sequence : OneResult the_event_sequence.Post
  pub search : OneResult the_search.Post
  pub search_place : OneResult the_search_place.Post
  pub search_tries : OneResult the_search_tries.Post
  pub search_wall : OneResult the_search_wall.Post
  pub search_utc : OneResult the_search_utc.Post
  pub search_offset : OneResult the_search_offset.Post
  pub search_value : OneResult the_search_value.Post
  pub search_kind : OneResult the_search_kind.Post
  pub search_class : OneResult the_search_class.Post
  pub search_inverter : OneResult the_search_inverter.Post
  pub search_sequence : OneResult the_search_sequence.Post
  pub timed_new_from_slice : OneResult the_timed_new_from_slice.Post
  pub timed_new_from_slice_out : Determines the_timed_new_from_slice.Post (λ κs x s. s.1.0.now)
  pub timed_encrypt_block_out : Determines the_timed_encrypt_block.Post (λ κs x s. s.1.1.0.now)
  pub timed_decrypt_block_out : Determines the_timed_decrypt_block.Post (λ κs x s. s.1.1.0.now)
  pub timed_encrypt_blocks : OneResult the_timed_encrypt_blocks.Post
  pub timed_encrypt_blocks_out : Determines the_timed_encrypt_blocks.Post (λ κs x s. s.1.1.1.0.now)
  pub timed_decrypt_blocks : OneResult the_timed_decrypt_blocks.Post
  pub timed_decrypt_blocks_out : Determines the_timed_decrypt_blocks.Post (λ κs x s. s.1.1.1.0.now)

pub one_export : OneExport
one_export = record {
  expand_key = λ κs a x y s t p q. once p.0 q.0;
  expand_key_out = λ κs a x y s t p q. once p.1 q.1;
  new_from_slice = λ κs a x y s t p q. once p.0 q.0;
  new_from_slice_out = λ κs a x y s t p q. once p.1 q.1;
  apply_s = λ κs a x y s t p q. once p.0 q.0;
  apply_s_out = λ κs a x y s t p q. once p.1 q.1;
  apply_s_inv = λ κs a x y s t p q. once p.0 q.0;
  apply_s_inv_out = λ κs a x y s t p q. once p.1 q.1;
  linear_transform_lem = λ κs a x y s t p q. once p.0 q.0;
  linear_transform_out = λ κs a x y s t p q. once p.1 q.1;
  linear_transform_inv_lem = λ κs a x y s t p q. once p.0 q.0;
  linear_transform_inv_out = λ κs a x y s t p q. once p.1 q.1;
  encrypt_block = λ κs a x y s t p q. once p.0 q.0;
  encrypt_block_out = λ κs a x y s t p q. once p.1 q.1;
  decrypt_block = λ κs a x y s t p q. once p.0 q.0;
  decrypt_block_out = λ κs a x y s t p q. once p.1 q.1;
  encrypt_chain = λ κs a x y s t p q. once p.0 q.0;
  encrypt_chain_out = λ κs a x y s t p q. once p.1 q.1;
  decrypt_chain = λ κs a x y s t p q. once p.0 q.0;
  decrypt_chain_out = λ κs a x y s t p q. once p.1 q.1;
  open_frame = λ κs a x y s t p q. once p q;
  frame_start = λ κs a x y s t p q. once p.0 q.0;
  frame_start_out = λ κs a x y s t p q. once p.1 q.1;
  frame_place_lem = λ κs a x y s t p q. once p q;
  frame_length_lem = λ κs a x y s t p q. once p q;
  read_window = λ κs a x y s t p q. once p.0 q.0;
  read_window_out = λ κs a x y s t p q. once p.1 q.1;
  read_event = λ κs a x y s t p q. once p q;
  event_wall = λ κs a x y s t p q. once p q;
  event_utc = λ κs a x y s t p q. once p q;
  event_offset = λ κs a x y s t p q. once p q;
  event_value = λ κs a x y s t p q. once p q;
  event_kind = λ κs a x y s t p q. once p q;
  event_class = λ κs a x y s t p q. once p q;
  event_inverter = λ κs a x y s t p q. once p q;
  event_sequence = λ κs a x y s t p q. once p q;
  search = λ κs a x y s t p q. once p q;
  search_place = λ κs a x y s t p q. once p q;
  search_tries = λ κs a x y s t p q. once p q;
  search_wall = λ κs a x y s t p q. once p q;
  search_utc = λ κs a x y s t p q. once p q;
  search_offset = λ κs a x y s t p q. once p q;
  search_value = λ κs a x y s t p q. once p q;
  search_kind = λ κs a x y s t p q. once p q;
  search_class = λ κs a x y s t p q. once p q;
  search_inverter = λ κs a x y s t p q. once p q;
  search_sequence = λ κs a x y s t p q. once p q;
  timed_new_from_slice = λ κs a x y s t p q. once p.0 q.0;
  timed_new_from_slice_out = λ κs a x y s t p q. once p.1 q.1;
  timed_encrypt_block_out = λ κs a x y s t p q. once p q;
  timed_decrypt_block_out = λ κs a x y s t p q. once p q;
  timed_encrypt_blocks = λ κs a x y s t p q. once p.0 q.0;
  timed_encrypt_blocks_out = λ κs a x y s t p q. once p.1 q.1;
  timed_decrypt_blocks = λ κs a x y s t p q. once p.0 q.0;
  timed_decrypt_blocks_out = λ κs a x y s t p q. once p.1 q.1;
}
