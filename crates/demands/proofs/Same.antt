-- Windows and searches from two places, of two frames that open, with the same texts from there on: they answer the same.
-- Assumes nothing.
use mathlib.Core.Path.{◌≡◌, refl, sym, ap, ap₂, ◌∙◌}
use mathlib.Core.Bool.{Bool, true, false, cond}
use mathlib.Core.List.{List, [], ◌∷◌}
use Prim.Native.Nat.{ℕ, zero, suc, ◌+◌, ◌-◌, ◌*◌, ◌≤◌, ◌<◌}
use native.Mathlib.Decide.{dec_lt}
use native.Mathlib.Omega.{arith}
use borrow.Author.Tests.{lt-ltb, le-ltb}
use lib.Dec.{ltb}
use lib.ListN.{length, take, drop, get_or}
use lib.Seq.{get_or-drop}
use Rattle.answers.specs.Answers.{◌when◌, on_done, first_number, left}
use Rattle.answers.proofs.Answers.{done, refused}
use Rattle.serpent.specs.Schedule.{schedule}
use Rattle.serpent.specs.Keys.{key_number}
use Rattle.chain.specs.Chain.{join}
use Rattle.event.specs.Event.{event_of}
use Rattle.event.specs.Read.{no_event}
use Rattle.frame.specs.Frame.{block_count, frame_number}
use Rattle.frame.specs.Window.{frame_texts, window_number, window_out}
use Rattle.search.specs.Search.{unreadable, nothing, found, searched, search_number, search_answer}
use Rattle.frame.proofs.Windows.{texts_count}
use Rattle.demands.specs.Damage.{moved}

-- two tests of an order between numbers, that hold or fail together
both : (a b c d : ℕ) → (a < b → c < d) → (c < d → a < b) → ltb a b ≡ ltb c d
both a b c d there back = by (dec_lt a b) (dec_lt c d)
  where
    by : Dec (a < b) → Dec (c < d) → ltb a b ≡ ltb c d
    by (yes l) m = lt-ltb a b l ∙ sym (lt-ltb c d (there l))
    by (no l) (yes m) = absurd (l (back m))
    by (no l) (no m) = le-ltb a b (omega arith) ∙ sym (le-ltb c d (omega arith))

module _ (key f g : List ℕ) (i j : ℕ)
    (opens-f : frame_number f ≡ 0) (opens-g : frame_number g ≡ 0)
    (as_far : block_count f + j ≡ block_count g + i)
    (same : drop i (frame_texts key f) ≡ drop j (frame_texts key g)) where
  pub window_number_lem : (count out : ℕ) → window_number (length key) f i count out ≡ window_number (length key) g j count out
  unfolding window_number
  window_number_lem count out =
      ap₂ (λ (n : ℕ) (b : Bool). first_number (key_number (length key) ∷ n ∷ 9 when b ∷ 5 when ltb out (count * 16) ∷ []))
      (opens-f ∙ sym opens-g) (both (block_count f) (i + count) (block_count g) (j + count) (λ l. omega arith) (λ l. omega arith))

  pub window_out_lem : (count : ℕ) (out : List ℕ) → window_out key f i count out ≡ window_out key g j count out
  window_out_lem count out = ap₂ (λ (n : ℕ) (ts : List (List ℕ)). left n (join (take count ts)) out) (window_number_lem count (length out)) same

  search_number_lem : search_number (length key) f i ≡ search_number (length key) g j
  unfolding search_number
  search_number_lem =
      ap₂ (λ (n : ℕ) (b : Bool). first_number (key_number (length key) ∷ n ∷ 9 when b ∷ []))
      (opens-f ∙ sym opens-g) (both (block_count f) i (block_count g) j (λ l. omega arith) (λ l. omega arith))

-- ---- the search, on lists of texts
module _ (ts us : List (List ℕ)) (i j old new : ℕ) (i-is : i ≡ j - old + new) (past : old ≤ j)
    (as_far : length ts + j ≡ length us + i) (same : drop i ts ≡ drop j us) where
  passed_same : unreadable (drop i ts) ≡ unreadable (drop j us)
  passed_same = ap unreadable same

  text_same : (u : ℕ) → get_or ts (i + u) [] ≡ get_or us (j + u) []
  text_same u = sym (get_or-drop i ts u []) ∙ ap (λ (l : List (List ℕ)). get_or l u []) same ∙ get_or-drop j us u []

  found_moved : (u : ℕ) → found ts i (i + u) ≡ moved old new (found us j (j + u))
  unfolding found
  found_moved u =
      let place : i + u ≡ j + u - old + new = omega arith in
      let tries : i + u - i + 1 ≡ j + u - j + 1 = omega arith in
      let event : event_of (get_or ts (i + u) []) ≡ event_of (get_or us (j + u) []) = ap event_of (text_same u) in
      λ k. record { number = 0; place = (place ∙ sym (done (j + u - old + new) 0 refl)) k; tries = tries k; event = event k }

  nothing_moved : nothing 11 (length ts - i) ≡ moved old new (nothing 11 (length us - j))
  unfolding nothing
  nothing_moved =
      let tries : length ts - i ≡ length us - j = omega arith in
      λ k. record { number = 11; place = sym (refused {n = 11} (0 - old + new) 0 (λ z. omega arith)) k; tries = tries k; event = no_event }

  searched_moved : searched ts i ≡ moved old new (searched us j)
  unfolding searched
  searched_moved =
      let u = unreadable (drop j us) in
      ap (λ (v : ℕ). cond (ltb (i + v) (length ts)) (found ts i (i + v)) (nothing 11 (length ts - i))) passed_same
      ∙ ap (λ (b : Bool). cond b (found ts i (i + u)) (nothing 11 (length ts - i))) (both (i + u) (length ts) (j + u) (length us) (λ l. omega arith) (λ l. omega arith))
      ∙ by (ltb (j + u) (length us))
    where
      by : (b : Bool) → cond b (found ts i (i + unreadable (drop j us))) (nothing 11 (length ts - i)) ≡ moved old new (cond b (found us j (j + unreadable (drop j us))) (nothing 11 (length us - j)))
      by true = found_moved (unreadable (drop j us))
      by false = nothing_moved

refused_moved : (n : ℕ) (old new : ℕ) → nothing (suc n) 0 ≡ moved old new (nothing (suc n) 0)
unfolding nothing
refused_moved n old new = λ k. record { number = suc n; place = sym (refused {n = suc n} (0 - old + new) 0 (λ z. omega arith)) k; tries = 0; event = no_event }

pub search_answer_lem : (key f g : List ℕ) (i j old new : ℕ) → i ≡ j - old + new → old ≤ j → frame_number f ≡ 0 → frame_number g ≡ 0
    → block_count f + j ≡ block_count g + i → drop i (frame_texts key f) ≡ drop j (frame_texts key g)
    → search_answer key f i ≡ moved old new (search_answer key g j)
unfolding search_answer
search_answer_lem key f g i j old new e past of og far same =
    ap (λ (n : ℕ). on_done n (searched (frame_texts key f) i) (nothing n 0)) (search_number_lem key f g i j of og far same) ∙ by (search_number (length key) g j)
  where
    lengths : length (frame_texts key f) + j ≡ length (frame_texts key g) + i
    lengths = omega (arith, texts_count (schedule key) f, texts_count (schedule key) g)

    by : (n : ℕ) → on_done n (searched (frame_texts key f) i) (nothing n 0) ≡ moved old new (on_done n (searched (frame_texts key g) j) (nothing n 0))
    by zero = done _ _ refl ∙ searched_moved (frame_texts key f) (frame_texts key g) i j old new e past lengths same ∙ ap (moved old new) (sym (done _ _ refl))
    by (suc n) = refused {n = suc n} _ _ (λ z. omega arith) ∙ refused_moved n old new ∙ ap (moved old new) (sym (refused {n = suc n} _ _ (λ z. omega arith)))

-- ---- a found place that is moved by nothing
found_stays : (us : List (List ℕ)) (j p : ℕ) → moved 0 0 (found us j p) ≡ found us j p
unfolding found
found_stays us j p =
    let e : p - 0 + 0 ≡ p = omega arith in
    λ k. record { number = 0; place = (done (p - 0 + 0) 0 refl ∙ e) k; tries = p - j + 1; event = event_of (get_or us p []) }

nothing_stays : (n tries : ℕ) → moved 0 0 (nothing (suc n) tries) ≡ nothing (suc n) tries
unfolding nothing
nothing_stays n tries = λ k. record { number = suc n; place = refused {n = suc n} (0 - 0 + 0) 0 (λ z. omega arith) k; tries = tries; event = no_event }

pub search_stays : (key g : List ℕ) (j : ℕ) → moved 0 0 (search_answer key g j) ≡ search_answer key g j
unfolding search_answer searched
search_stays key g j = by (search_number (length key) g j)
  where
    us : List (List ℕ)
    us = frame_texts key g

    p : ℕ
    p = j + unreadable (drop j us)

    at : (b : Bool) → moved 0 0 (cond b (found us j p) (nothing 11 (length us - j))) ≡ cond b (found us j p) (nothing 11 (length us - j))
    at true = found_stays us j p
    at false = nothing_stays 10 (length us - j)

    by : (n : ℕ) → moved 0 0 (on_done n (cond (ltb p (length us)) (found us j p) (nothing 11 (length us - j))) (nothing n 0)) ≡ on_done n (cond (ltb p (length us)) (found us j p) (nothing 11 (length us - j))) (nothing n 0)
    by zero = ap (moved 0 0) (done _ _ refl) ∙ at (ltb p (length us)) ∙ sym (done _ _ refl)
    by (suc n) = ap (moved 0 0) (refused {n = suc n} _ _ (λ z. omega arith)) ∙ nothing_stays n 0 ∙ sym (refused {n = suc n} _ _ (λ z. omega arith))
