-- Runs of stores, one over another. Assumes nothing.
use Rattle.std.proofs.Common.{◌≡◌, ℕ, zero, suc, ◌+◌, ◌<◌, ◌≤◌, ltb, List, [], ◌∷◌, ◌++◌, length, take, drop, set, refl, ap, ◌∙◌, append-nil, add-zero, add-suc, suc-add, arith, set-set, ltb-false, ltb-true}
use lib.Seq.{sets, sets-eq, set_comm, drop-length}
use Rattle.answer.proofs.Laws.{split}

-- a store before a run could as well come first
before : (d : List ℕ) (i at a : ℕ) (y : List ℕ) → i < at → set (sets d at y) i a ≡ sets (set d i a) at y
before d i at a [] h = refl
before d i at a (b ∷ y) h =
    before (set d at b) i (suc at) a y (omega arith) ∙ ap (λ e. sets e (suc at) y) (set_comm d at i b a (λ e. omega arith))

-- x covers y, up to k: what it leaves of the earlier run could as well be stored after it
pub over : (x y z d : List ℕ) (i at k : ℕ) → i ≤ at → at + length y ≡ k → i + length x ≡ k
    → sets (sets d at (y ++ z)) i x ≡ sets (sets d i x) k z
over [] [] z d i at k h e f = let g : at ≡ k = omega arith in rw g
over [] (b ∷ y) z d i at k h e f = absurd (omega arith)
over (a ∷ x) [] z d i at k h e f =
    rw (before d i at a z (omega arith)) (over x [] z (set d i a) (suc i) at k (omega arith) e (omega arith))
over (a ∷ x) (b ∷ y) z d i at k h e f =
    split (ltb i at)
    (λ t.
    let l = ltb-true i at t in
    rw (before d i at a (b ∷ y ++ z) l) (over x (b ∷ y) z (set d i a) (suc i) at k (omega arith) e (omega arith)))
    (λ t.
    let l = ltb-false i at t in
    let g : at ≡ i = omega arith in
    rw (g, before (set d i b) i (suc i) a (y ++ z) (omega arith), set-set)
    (over x y z (set d i a) (suc i) (suc i) k (omega arith) (omega arith) (omega arith)))

-- what stands already may be stored again,
again : (d x : List ℕ) (i w : ℕ) → sets (sets d i (take w x)) i x ≡ sets d i x
again d x i zero = refl
again d [] i (suc w) = refl
again d (a ∷ x) i (suc w) =
    rw (before (set d i a) i (suc i) a (take w x) (omega arith), set-set) (again (set d i a) x (suc i) w)

-- or from anywhere within it on
pub twice : (d x : List ℕ) (i last w : ℕ) → last ≤ w → sets (sets d i (take w x)) (i + last) (drop last x) ≡ sets d i x
twice d x i zero w h = rw add-zero (again d x i w)
twice d x i (suc last) zero h = absurd (omega arith)
twice d [] i (suc last) (suc w) h = refl
twice d (a ∷ x) i (suc last) (suc w) h = rw (add-suc, ← (suc-add i last)) (twice (set d i a) x (suc i) last w (omega arith))

-- what fills a list is all that it then holds
pub whole : (d v : List ℕ) → length v ≡ length d → sets d 0 v ≡ v
whole d v e =
    let n : 0 + length v ≡ length d = omega arith in
    sets-eq v d 0 (omega arith) ∙ rw (n, drop-length d) (append-nil v)
