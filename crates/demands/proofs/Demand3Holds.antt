-- Demand 3 holds: the proof of what Demand3.antt says.
-- Assumes nothing.
use mathlib.Core.Path.{◌≡◌, sym, ap, ◌∙◌}
use mathlib.Core.List.{List, [], ◌∷◌, ◌++◌, append_assoc}
use Prim.Native.Nat.{ℕ, ◌+◌, ◌≤◌}
use native.Mathlib.Numerals.{add-one}
use native.Mathlib.Omega.{arith}
use lib.ListN.{length, take, drop, get_or, length-append}
use lib.Seq.{drop-drop}
use Rattle.words.specs.Sized.{Block}
use Rattle.words.specs.Inverse.{Inverse}
use Rattle.serpent.specs.Schedule.{schedule}
use Rattle.serpent.specs.Block.{encrypt_bytes, decrypt_bytes}
use Rattle.serpent.proofs.Inverse.{block_inverse}
use Rattle.serpent.proofs.Keys.{schedule_sized}
use Rattle.chain.specs.Chain.{decipher, Blocks}
use Rattle.chain.specs.Slices.{block_limit}
use Rattle.chain.proofs.Blocks.{blocks_append}
use Rattle.chain.proofs.Damage as chain
use Rattle.frame.specs.Frame.{block_count, frame_number, frame_of}
use Rattle.frame.specs.Window.{frame_texts}
use Rattle.frame.proofs.Frames.{frame_opens, count_of, texts_of}
use Rattle.demands.specs.Damage.{Replaced}
use Rattle.demands.proofs.Same as same
use Rattle.demands.proofs.Demand3.{Damaged, Differs, Restarted, DamageStays, was, is}

-- ---- the real cipher is the instance
inverse : (key : List ℕ) → Inverse Block Block (encrypt_bytes (schedule key)) (decrypt_bytes (schedule key))
inverse key = block_inverse (schedule key) (schedule_sized key).small

module _ (key start : List ℕ) (pre old new rest : List (List ℕ)) (h : Replaced start pre old new rest) where
  abbrev D : List ℕ → List ℕ
  D = decrypt_bytes (schedule key)

  was_blocks : Blocks (pre ++ (old ++ rest))
  was_blocks = blocks_append pre (old ++ rest) h.befores (blocks_append old rest h.olds h.rests)

  is_blocks : Blocks (pre ++ (new ++ rest))
  is_blocks = blocks_append pre (new ++ rest) h.befores (blocks_append new rest h.news h.rests)

  was_opens : frame_number (was key start pre old new rest) ≡ 0
  was_opens = frame_opens start (pre ++ (old ++ rest)) h.starts was_blocks h.was_few

  is_opens : frame_number (is key start pre old new rest) ≡ 0
  is_opens = frame_opens start (pre ++ (new ++ rest)) h.starts is_blocks h.is_few

  -- the texts, of the run and what stands before it as one
  was_texts : frame_texts key (was key start pre old new rest) ≡ decipher D start ((pre ++ old) ++ rest)
  was_texts = texts_of start (pre ++ (old ++ rest)) h.starts was_blocks key ∙ ap (decipher D start) (sym (append_assoc pre old rest))

  is_texts : frame_texts key (is key start pre old new rest) ≡ decipher D start ((pre ++ new) ++ rest)
  is_texts = texts_of start (pre ++ (new ++ rest)) h.starts is_blocks key ∙ ap (decipher D start) (sym (append_assoc pre new rest))

  later_texts : drop (length pre + length new + 1) (frame_texts key (is key start pre old new rest)) ≡ drop (length pre + length old + 1) (frame_texts key (was key start pre old new rest))
  later_texts =
      rw (is_texts, was_texts, ← (length-append pre new), ← (length-append pre old), add-one (length (pre ++ new)), add-one (length (pre ++ old)))
      (chain.later_same D start (pre ++ old) (pre ++ new) rest)

  -- d blocks further on
  from_there : (d : ℕ) → drop (length pre + length new + 1 + d) (frame_texts key (is key start pre old new rest)) ≡ drop (length pre + length old + 1 + d) (frame_texts key (was key start pre old new rest))
  from_there d =
      sym (drop-drop d (length pre + length new + 1) _) ∙ ap (drop d) later_texts ∙ drop-drop d (length pre + length old + 1) _

  as_far : (d : ℕ) → block_count (is key start pre old new rest) + (length pre + length old + 1 + d) ≡ block_count (was key start pre old new rest) + (length pre + length new + 1 + d)
  as_far d =
      let i = count_of start (pre ++ (new ++ rest)) h.starts is_blocks ∙ length-append pre (new ++ rest) in
      let w = count_of start (pre ++ (old ++ rest)) h.starts was_blocks ∙ length-append pre (old ++ rest) in
      omega (arith, i, w, length-append new rest, length-append old rest)

  damaged : Damaged key start pre old new rest
  damaged = record {
    opens = (was_opens, is_opens);
    before =
        ap (take (length pre)) (texts_of start (pre ++ (new ++ rest)) h.starts is_blocks key)
        ∙ chain.before_run D start pre (new ++ rest) ∙ sym (chain.before_run D start pre (old ++ rest))
        ∙ sym (ap (take (length pre)) (texts_of start (pre ++ (old ++ rest)) h.starts was_blocks key));
    first = λ n.
        rw (is_texts, was_texts, ← (length-append pre new), ← (length-append pre old))
        (chain.first_after (inverse key) start (pre ++ old) (pre ++ new) rest h.starts (blocks_append pre old h.befores h.olds) h.rests n);
    later = later_texts;
    window_number_lem = λ d count out. same.window_number_lem key _ _ _ _ is_opens was_opens (as_far d) (from_there d) count out;
    window = λ d count out. same.window_out_lem key _ _ _ _ is_opens was_opens (as_far d) (from_there d) count out;
    search = λ d. same.search_answer_lem key _ _ _ _ (length old) (length new) (omega arith) (omega arith) is_opens was_opens (as_far d) (from_there d);
  }

differs : Differs
unfolding Blocks
differs key start pre old new rest hs hp ho hn hr ne e =
    let D = decrypt_bytes (schedule key) in
    let now = texts_of start (pre ++ (new ∷ rest)) hs (blocks_append pre (new ∷ rest) hp (hn, hr)) key in
    let then = texts_of start (pre ++ (old ∷ rest)) hs (blocks_append pre (old ∷ rest) hp (ho, hr)) key in
    chain.differs (inverse key) start pre old new rest hs hp ho hn ne
    (sym (ap (λ (ts : List (List ℕ)). get_or ts (length pre) []) now) ∙ e ∙ ap (λ (ts : List (List ℕ)). get_or ts (length pre) []) then)

restarted : (key s t : List ℕ) (blocks : List (List ℕ)) → Block s → Block t → Blocks blocks → length blocks ≤ block_limit → Restarted key s t blocks
restarted key s t blocks hs ht hb few = record {
  first = λ n. rw (now, then) (chain.first_restarted (inverse key) s t blocks hs hb n);
  later = later;
  window_number_lem = λ d count out. same.window_number_lem key _ _ _ _ t_opens s_opens (far d) (from_there d) count out;
  window = λ d count out. same.window_out_lem key _ _ _ _ t_opens s_opens (far d) (from_there d) count out;
  search = λ d. same.search_answer_lem key _ _ _ _ 0 0 (omega arith) (omega arith) t_opens s_opens (far d) (from_there d) ∙ same.search_stays key _ _;
}
  where
    now : frame_texts key (frame_of t blocks) ≡ decipher (decrypt_bytes (schedule key)) t blocks
    now = texts_of t blocks ht hb key

    then : frame_texts key (frame_of s blocks) ≡ decipher (decrypt_bytes (schedule key)) s blocks
    then = texts_of s blocks hs hb key

    t_opens : frame_number (frame_of t blocks) ≡ 0
    t_opens = frame_opens t blocks ht hb few

    s_opens : frame_number (frame_of s blocks) ≡ 0
    s_opens = frame_opens s blocks hs hb few

    later : drop 1 (frame_texts key (frame_of t blocks)) ≡ drop 1 (frame_texts key (frame_of s blocks))
    later = rw (now, then) (chain.later_restarted (decrypt_bytes (schedule key)) s t blocks)

    far : (d : ℕ) → block_count (frame_of t blocks) + (1 + d) ≡ block_count (frame_of s blocks) + (1 + d)
    far d = ap (λ (n : ℕ). n + (1 + d)) (count_of t blocks ht hb ∙ sym (count_of s blocks hs hb))

    from_there : (d : ℕ) → drop (1 + d) (frame_texts key (frame_of t blocks)) ≡ drop (1 + d) (frame_texts key (frame_of s blocks))
    from_there d = sym (drop-drop d 1 _) ∙ ap (drop d) later ∙ drop-drop d 1 _

pub damage_stays : DamageStays
damage_stays = record { run_replaced = damaged; one_differs = differs; start_replaced = restarted }
