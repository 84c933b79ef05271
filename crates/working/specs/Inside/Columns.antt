-- What the functions on the words of scratch promise. Inside: need not be believed.
use Rattle.std.specs.Prelude.{ℕ, zero, suc, ◌+◌, ◌-◌, ◌≤◌, ◌≡◌, ◌⊎◌, List, [], ◌∷◌, ◌++◌}
use Rattle.words.specs.Sizes.{word_size}
use Rattle.words.specs.Names.{Area, Position}
use Rattle.words.specs.Be.{get64, column}

-- t is s with the word v at `at`
pub record Written (s t : Area) (at : Position) (v : ℕ) : Type 0 where
  pub here : get64 t at ≡ v
  pub else : (b : Position) → (b + word_size ≤ at) ⊎ (at + word_size ≤ b) → get64 t b ≡ get64 s b

-- a list with its i-th element taken out
unfoldable pub without : (i : ℕ) → List ℕ → List ℕ
without i [] = []
without zero (k ∷ ks) = ks
without (suc i) (k ∷ ks) = k ∷ without i ks

-- a list with k put in at i
unfoldable pub ins_at : (i k : ℕ) → List ℕ → List ℕ
ins_at zero k ks = k ∷ ks
ins_at (suc i) k [] = k ∷ []
ins_at (suc i) k (x ∷ ks) = x ∷ ins_at i k ks

-- the j-th of n working references is taken out
pub record TakenOut (s t : Area) (n j : ℕ) : Type 0 where
  pub working : column t 0 (n - 1) ≡ without j (column s 0 n)
  pub logged : (m : ℕ) → column t word_size m ≡ column s word_size m

-- the reference k stands behind m logged ones
pub record Pushed (s t : Area) (m k : ℕ) : Type 0 where
  pub logged : column t word_size (m + 1) ≡ column s word_size m ++ (k ∷ [])
  pub working : (n : ℕ) → column t 0 n ≡ column s 0 n

-- the reference k is put in at i of n working ones
abbrev pub PutIn : (s t : Area) (n i k : ℕ) → Type 0
PutIn s t n i k = column t 0 (n + 1) ≡ ins_at i k (column s 0 n)
