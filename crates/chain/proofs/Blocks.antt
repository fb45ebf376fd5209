-- The blocks of a byte string: counted, cut, and joined again.
-- Assumes nothing.
use mathlib.Core.Path.{◌≡◌, refl, sym, ap, ap₂, ◌∙◌}
use mathlib.Core.List.{List, [], ◌∷◌, ◌++◌, append_assoc, append-nil}
use Prim.Native.Nat.{ℕ, zero, suc, ◌+◌, ◌-◌, ◌*◌, ◌/◌, ◌^◌, ◌≤◌, ◌<◌}
use native.Mathlib.Nat.{le_of_suc-le-suc}
use native.Mathlib.Omega.{arith}
use lib.Dec.{lit<}
use lib.ListN.{length, take, drop, get_or, length-append, length-drop, take-append-drop}
use lib.Seq.{drop-drop, get_or-drop, take-add, take_at, drop_at, length-take-le}
use Rattle.chain.specs.Chain.{blocks, blocks_of, join, Blocks}

-- the block at place i
abbrev pub block : ℕ → List ℕ → List ℕ
block i bytes = take 16 (drop (i * 16) bytes)

-- sixteen bytes more are one block more
pub over : (i : ℕ) → 16 + i * 16 ≡ suc i * 16
over i = omega arith

pub drop-over : (i : ℕ) (bytes : List ℕ) → drop (i * 16) (drop 16 bytes) ≡ drop (suc i * 16) bytes
drop-over i bytes = drop-drop (i * 16) 16 bytes ∙ ap (λ (n : ℕ). drop n bytes) (over i)

-- the first bytes of small ones are small
get_or-take_small : (n : ℕ) (bytes : List ℕ) → ((i : ℕ) → get_or bytes i 0 < 2 ^ 8) → (i : ℕ) → get_or (take n bytes) i 0 < 2 ^ 8
get_or-take_small zero bytes h i = lit< tt
get_or-take_small (suc n) [] h i = h i
get_or-take_small (suc n) (b ∷ bytes) h zero = h zero
get_or-take_small (suc n) (b ∷ bytes) h (suc i) = get_or-take_small n bytes (λ j. h (suc j)) i

-- ---- counted
pub length-blocks : (n : ℕ) (bytes : List ℕ) → length (blocks n bytes) ≡ n
unfolding blocks
length-blocks zero bytes = refl
length-blocks (suc n) bytes = ap suc (length-blocks n (drop 16 bytes))

pub length-join : (cs : List (List ℕ)) → Blocks cs → length (join cs) ≡ length cs * 16
unfolding join Blocks
length-join [] h = refl
length-join (c ∷ cs) h = length-append c (join cs) ∙ ap₂ (λ (x y : ℕ). x + y) h.0.len (length-join cs h.1) ∙ over (length cs)

-- ---- cut
pub blocks_more : (i : ℕ) (bytes : List ℕ) → blocks (suc i) bytes ≡ blocks i bytes ++ (block i bytes ∷ [])
unfolding blocks
blocks_more zero bytes = refl
blocks_more (suc i) bytes =
    ap (λ (l : List (List ℕ)). take 16 bytes ∷ l)
    (blocks_more i (drop 16 bytes) ∙ ap (λ (l : List ℕ). blocks i (drop 16 bytes) ++ (take 16 l ∷ [])) (drop-over i bytes))

pub take-blocks : (i n : ℕ) (bytes : List ℕ) → i ≤ n → take i (blocks n bytes) ≡ blocks i bytes
unfolding blocks
take-blocks zero n bytes h = refl
take-blocks (suc i) zero bytes h = absurd (omega arith)
take-blocks (suc i) (suc n) bytes h = ap (λ (l : List (List ℕ)). take 16 bytes ∷ l) (take-blocks i n (drop 16 bytes) (le_of_suc-le-suc h))

pub drop-blocks : (i n : ℕ) (bytes : List ℕ) → i ≤ n → drop i (blocks n bytes) ≡ blocks (n - i) (drop (i * 16) bytes)
unfolding blocks
drop-blocks zero n bytes h = ap (λ (k : ℕ). blocks k bytes) (same n)
  where
    same : (n : ℕ) → n ≡ n - 0
    same n = omega arith
drop-blocks (suc i) zero bytes h = absurd (omega arith)
drop-blocks (suc i) (suc n) bytes h =
    drop-blocks i n (drop 16 bytes) (le_of_suc-le-suc h)
    ∙ ap₂ (λ (k : ℕ) (l : List ℕ). blocks k l) (less i n) (drop-over i bytes)
  where
    less : (i n : ℕ) → n - i ≡ suc n - suc i
    less i n = omega arith

-- only the first m blocks of the bytes matter
pub blocks_take : (m : ℕ) (bytes : List ℕ) → m * 16 ≤ length bytes → blocks m (take (m * 16) bytes) ≡ blocks m bytes
unfolding blocks
blocks_take zero bytes h = refl
blocks_take (suc m) bytes h =
    let e : take (suc m * 16) bytes ≡ take 16 bytes ++ take (m * 16) (drop 16 bytes) = ap (λ (k : ℕ). take k bytes) (sym (over m)) ∙ take-add 16 (m * 16) bytes in
    let long : length (take 16 bytes) ≡ 16 = length-take-le 16 bytes (omega arith) in
    ap₂ (λ (b : List ℕ) (r : List ℕ). b ∷ blocks m r)
    (ap (take 16) e ∙ take_at (take 16 bytes) (take (m * 16) (drop 16 bytes)) 16 long)
    (ap (drop 16) e ∙ drop_at (take 16 bytes) (take (m * 16) (drop 16 bytes)) 16 long)
    ∙ ap (λ (r : List (List ℕ)). take 16 bytes ∷ r) (blocks_take m (drop 16 bytes) (omega (arith, length-drop 16 bytes)))

-- ---- joined
join_append : (a b : List (List ℕ)) → join (a ++ b) ≡ join a ++ join b
unfolding join
join_append [] b = refl
join_append (x ∷ a) b = ap (λ (l : List ℕ). x ++ l) (join_append a b) ∙ sym (append_assoc x (join a) (join b))

pub join_more : (a : List (List ℕ)) (b : List ℕ) → join (a ++ (b ∷ [])) ≡ join a ++ b
unfolding join
join_more a b = join_append a (b ∷ []) ∙ ap (λ (l : List ℕ). join a ++ l) (append-nil b)

blocks_join : (cs : List (List ℕ)) → Blocks cs → blocks (length cs) (join cs) ≡ cs
unfolding join Blocks blocks
blocks_join [] h = refl
blocks_join (c ∷ cs) h =
    ap₂ (λ (b : List ℕ) (l : List (List ℕ)). b ∷ l)
    (take_at c (join cs) 16 h.0.len)
    (ap (blocks (length cs)) (drop_at c (join cs) 16 h.0.len) ∙ blocks_join cs h.1)

-- blocks joined and cut again are the blocks
pub blocks_of-join : (cs : List (List ℕ)) → Blocks cs → blocks_of (join cs) ≡ cs
blocks_of-join cs h =
    let n : length (join cs) / 16 ≡ length cs = ap (λ (k : ℕ). k / 16) (length-join cs h) ∙ omega arith in
    ap (λ (k : ℕ). blocks k (join cs)) n ∙ blocks_join cs h

pub blocks_append : (a b : List (List ℕ)) → Blocks a → Blocks b → Blocks (a ++ b)
unfolding Blocks
blocks_append [] b h k = k
blocks_append (c ∷ a) b h k = (h.0, blocks_append a b h.1 k)

-- ---- bytes of whole blocks
pub blocks_sized : (n : ℕ) (bytes : List ℕ) → n * 16 ≤ length bytes → ((i : ℕ) → get_or bytes i 0 < 2 ^ 8) → Blocks (blocks n bytes)
unfolding blocks Blocks
blocks_sized zero bytes h small = tt
blocks_sized (suc n) bytes h small = (
  record { len = length-take-le 16 bytes (omega arith); small = λ i. get_or-take_small 16 bytes small i },
  blocks_sized n (drop 16 bytes) (omega (arith, length-drop 16 bytes)) (λ i. rw (get_or-drop 16 bytes i 0) (small (16 + i))),
)

pub join_blocks : (n : ℕ) (bytes : List ℕ) → length bytes ≡ n * 16 → join (blocks n bytes) ≡ bytes
unfolding blocks join
join_blocks zero [] h = refl
join_blocks zero (b ∷ bytes) h = absurd (omega arith)
join_blocks (suc n) bytes h =
    ap (λ (l : List ℕ). take 16 bytes ++ l) (join_blocks n (drop 16 bytes) (length-drop 16 bytes ∙ omega arith)) ∙ take-append-drop 16 bytes
