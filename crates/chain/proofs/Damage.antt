-- Damage to a chain: a run of cipher blocks is replaced by another, or the start block by another.
-- Assumes nothing.
use mathlib.Core.Path.{◌≡◌, refl, sym, ap, ◌∙◌}
use mathlib.Core.List.{List, [], ◌∷◌, ◌++◌}
use Prim.Native.Nat.{ℕ, suc, ◌<◌}
use native.Mathlib.Omega.{arith}
use lib.ListN.{length, take, drop, get_or}
use Rattle.words.specs.Sized.{Block}
use Rattle.words.specs.Inverse.{Inverse}
use Rattle.chain.specs.Chain.{xor, decipher, last_or, Blocks}
use Rattle.chain.proofs.Xors.{xor_twice}

last_or_block : (s : List ℕ) (a : List (List ℕ)) → Block s → Blocks a → Block (last_or s a)
unfolding last_or Blocks
last_or_block s [] h k = h
last_or_block s (c ∷ a) h k = last_or_block c a k.0 k.1

module _ (D : List ℕ → List ℕ) where
  -- the texts of a run a do not depend on what follows it
  pub before_run : (s : List ℕ) (a b : List (List ℕ)) → take (length a) (decipher D s (a ++ b)) ≡ decipher D s a
  unfolding decipher
  before_run s [] b = refl
  before_run s (c ∷ a) b = ap (λ (l : List (List ℕ)). xor (D c) s ∷ l) (before_run c a b)

  -- the text of the block after it
  after_run : (s : List ℕ) (a : List (List ℕ)) (r : List ℕ) (rest : List (List ℕ)) → get_or (decipher D s (a ++ (r ∷ rest))) (length a) [] ≡ xor (D r) (last_or s a)
  unfolding decipher last_or
  after_run s [] r rest = refl
  after_run s (c ∷ a) r rest = after_run c a r rest

  -- and the texts of the blocks after that one do not depend on the run
  past_run : (s : List ℕ) (a : List (List ℕ)) (r : List ℕ) (rest : List (List ℕ)) → drop (suc (length a)) (decipher D s (a ++ (r ∷ rest))) ≡ decipher D r rest
  unfolding decipher last_or
  past_run s [] r rest = refl
  past_run s (c ∷ a) r rest = past_run c a r rest

  past_end : (s : List ℕ) (a : List (List ℕ)) → drop (suc (length a)) (decipher D s (a ++ [])) ≡ []
  unfolding decipher
  past_end s [] = refl
  past_end s (c ∷ a) = past_end c a

  pub later_same : (s : List ℕ) (a b rest : List (List ℕ)) → drop (suc (length b)) (decipher D s (b ++ rest)) ≡ drop (suc (length a)) (decipher D s (a ++ rest))
  later_same s a b [] = past_end s b ∙ sym (past_end s a)
  later_same s a b (r ∷ rest) = past_run s b r rest ∙ sym (past_run s a r rest)

module _ {E D : List ℕ → List ℕ} (inv : Inverse Block Block E D) where
  -- D r XOR now is D r XOR was, XOR was, XOR now
  moved : (r was now : List ℕ) → Block r → Block was → xor (D r) now ≡ xor (xor (xor (D r) was) was) now
  moved r was now hr hw = ap (λ (x : List ℕ). xor x now) (sym (xor_twice (inv.back r hr) hw))

  -- the first text after a run a, where a run b stands in its place
  pub first_after : (s : List ℕ) (a b rest : List (List ℕ)) → Block s → Blocks a → Blocks rest → 0 < length rest
      → get_or (decipher D s (b ++ rest)) (length b) [] ≡ xor (xor (get_or (decipher D s (a ++ rest)) (length a) []) (last_or s a)) (last_or s b)
  unfolding Blocks
  first_after s a b [] hs ha hr n = absurd (omega arith)
  first_after s a b (r ∷ rest) hs ha hr n =
      after_run D s b r rest ∙ moved r (last_or s a) (last_or s b) hr.0 (last_or_block s a hs ha)
      ∙ ap (λ (x : List ℕ). xor (xor x (last_or s a)) (last_or s b)) (sym (after_run D s a r rest))

  -- one block replaced by a different one reads differently
  pub differs : (s : List ℕ) (pre : List (List ℕ)) (old new : List ℕ) (rest : List (List ℕ)) → Block s → Blocks pre → Block old → Block new
      → (old ≡ new → ⊥) → get_or (decipher D s (pre ++ (new ∷ rest))) (length pre) [] ≡ get_or (decipher D s (pre ++ (old ∷ rest))) (length pre) [] → ⊥
  differs s pre old new rest hs hp ho hn ne e =
      let l = last_or s pre in
      let hl = last_or_block s pre hs hp in
      let same : xor (D new) l ≡ xor (D old) l = sym (after_run D s pre new rest) ∙ e ∙ after_run D s pre old rest in
      let texts : D new ≡ D old = sym (xor_twice (inv.back new hn) hl) ∙ ap (λ (x : List ℕ). xor x l) same ∙ xor_twice (inv.back old ho) hl in
      ne (sym (inv.redo old ho) ∙ ap E (sym texts) ∙ inv.redo new hn)

  -- another start block
  pub first_restarted : (s t : List ℕ) (cs : List (List ℕ)) → Block s → Blocks cs → 0 < length cs
      → get_or (decipher D t cs) 0 [] ≡ xor (xor (get_or (decipher D s cs) 0 []) s) t
  unfolding decipher Blocks
  first_restarted s t [] hs hc n = absurd (omega arith)
  first_restarted s t (c ∷ cs) hs hc n = moved c s t hc.0 hs

pub later_restarted : (D : List ℕ → List ℕ) (s t : List ℕ) (cs : List (List ℕ)) → drop 1 (decipher D t cs) ≡ drop 1 (decipher D s cs)
unfolding decipher
later_restarted D s t [] = refl
later_restarted D s t (c ∷ cs) = refl
