-- Demand 3: damage stays where it is. That it holds is shown in Demand3Holds.antt, a file of its own, so that a wrong
-- statement here is refused by its proof there.
use mathlib.Core.Path.{◌≡◌}
use mathlib.Core.List.{List, [], ◌∷◌, ◌++◌}
use Prim.Native.Nat.{ℕ, ◌+◌, ◌≤◌, ◌<◌}
use lib.ListN.{length, take, drop, get_or}
use Rattle.words.specs.Sized.{Block}
use Rattle.chain.specs.Chain.{xor, last_or, Blocks}
use Rattle.chain.specs.Slices.{block_limit}
use Rattle.frame.specs.Frame.{frame_number, frame_of}
use Rattle.frame.specs.Window.{frame_texts, window_number, window_out}
use Rattle.search.specs.Search.{search_answer}
use Rattle.demands.specs.Damage.{Replaced, moved}

-- ---- under any key, in a frame of a start block and of the blocks pre, old and rest, the run old is replaced by the run new
module _ (key start : List ℕ) (pre old new rest : List (List ℕ)) where
  -- the frame that was, and the frame that is
  abbrev pub was : List ℕ
  was = frame_of start (pre ++ (old ++ rest))

  abbrev pub is : List ℕ
  is = frame_of start (pre ++ (new ++ rest))

  -- the place of the first block after the run, in each
  abbrev pub was_after : ℕ
  was_after = length pre + length old

  abbrev pub is_after : ℕ
  is_after = length pre + length new

  pub record Damaged : Type 0 where
    -- both frames open
    pub opens : (frame_number was ≡ 0) × (frame_number is ≡ 0)
    -- every block before the run reads as before
    pub before : take (length pre) (frame_texts key is) ≡ take (length pre) (frame_texts key was)
    -- if blocks follow, the first reads as its old text XOR the cipher block that stood just before it XOR the one that stands there now
    pub first : 0 < length rest → get_or (frame_texts key is) is_after [] ≡ xor (xor (get_or (frame_texts key was) was_after []) (last_or start (pre ++ old))) (last_or start (pre ++ new))
    -- all later ones read as before
    pub later : drop (is_after + 1) (frame_texts key is) ≡ drop (was_after + 1) (frame_texts key was)
    -- a window begun d blocks past that first one answers the same: its number, and every byte of the buffer
    pub window_number_lem : (d count out : ℕ) → window_number (length key) is (is_after + 1 + d) count out ≡ window_number (length key) was (was_after + 1 + d) count out
    pub window : (d count : ℕ) (out : List ℕ) → window_out key is (is_after + 1 + d) count out ≡ window_out key was (was_after + 1 + d) count out
    -- and so does a search: its number, its tries and every field of the event, and a found place is moved with the blocks
    pub search : (d : ℕ) → search_answer key is (is_after + 1 + d) ≡ moved (length old) (length new) (search_answer key was (was_after + 1 + d))

-- ---- one block is replaced by a different one: it reads differently at its place
abbrev pub Differs : Type 0
Differs =
    (key start : List ℕ) (pre : List (List ℕ)) (old new : List ℕ) (rest : List (List ℕ)) → Block start → Blocks pre → Block old → Block new → Blocks rest
    → (old ≡ new → ⊥) → get_or (frame_texts key (frame_of start (pre ++ (new ∷ rest)))) (length pre) [] ≡ get_or (frame_texts key (frame_of start (pre ++ (old ∷ rest)))) (length pre) [] → ⊥

-- ---- the start block s is replaced by t: at most the first block reads differently, by old XOR new
module _ (key s t : List ℕ) (blocks : List (List ℕ)) where
  pub record Restarted : Type 0 where
    pub first : 0 < length blocks → get_or (frame_texts key (frame_of t blocks)) 0 [] ≡ xor (xor (get_or (frame_texts key (frame_of s blocks)) 0 []) s) t
    pub later : drop 1 (frame_texts key (frame_of t blocks)) ≡ drop 1 (frame_texts key (frame_of s blocks))
    pub window_number_lem : (d count out : ℕ) → window_number (length key) (frame_of t blocks) (1 + d) count out ≡ window_number (length key) (frame_of s blocks) (1 + d) count out
    pub window : (d count : ℕ) (out : List ℕ) → window_out key (frame_of t blocks) (1 + d) count out ≡ window_out key (frame_of s blocks) (1 + d) count out
    pub search : (d : ℕ) → search_answer key (frame_of t blocks) (1 + d) ≡ search_answer key (frame_of s blocks) (1 + d)

-- ---- the claim
pub record DamageStays : Type 0 where
  pub run_replaced : (key start : List ℕ) (pre old new rest : List (List ℕ)) → Replaced start pre old new rest → Damaged key start pre old new rest
  pub one_differs : Differs
  pub start_replaced : (key s t : List ℕ) (blocks : List (List ℕ)) → Block s → Block t → Blocks blocks → length blocks ≤ block_limit → Restarted key s t blocks
