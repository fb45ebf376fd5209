-- A frame with a run of its cipher blocks replaced by another run.
use Rattle.std.specs.Prelude.{List, ◌++◌, ℕ, ◌+◌, ◌-◌, ◌≤◌, length}
use Rattle.answers.specs.Answers.{on_done}
use Rattle.words.specs.Sized.{Block}
use Rattle.chain.specs.Chain.{Blocks}
use Rattle.chain.specs.Slices.{block_limit}
use Rattle.search.specs.Search.{Searched}

-- in the frame of pre, run and rest, the run old is replaced by the run new: both frames are within the limit, and the length field
-- of each follows its count
pub record Replaced (start : List ℕ) (pre old new rest : List (List ℕ)) : Type 0 where
  pub starts : Block start
  pub befores : Blocks pre
  pub olds : Blocks old
  pub news : Blocks new
  pub rests : Blocks rest
  pub was_few : length (pre ++ (old ++ rest)) ≤ block_limit
  pub is_few : length (pre ++ (new ++ rest)) ≤ block_limit

-- an answer of the search whose found place, where it has one, is moved with the blocks behind the run
abbrev pub moved : ℕ → ℕ → Searched → Searched
moved old new answer = record {
  number = answer.number;
  place = on_done answer.number (answer.place - old + new) 0;
  tries = answer.tries;
  event = answer.event;
}
