-- Puts in a row: they add up, and where each has something to write and all of it has room, they write it all, end to end.
-- Assumes nothing.
use mathlib.Core.Path.{◌≡◌, refl, sym}
use mathlib.Core.List.{List, [], ◌∷◌, ◌++◌, map, flatten}
use Prim.Native.Nat.{ℕ, ◌+◌, ◌≤◌}
use native.Mathlib.Nat.{add-zero, add_assoc}
use native.Mathlib.Omega.{arith}
use lib.ListN.{length, length-append}
use lib.Seq.{sets, length-sets}
use Rattle.answer.specs.Answer.{Out, done}
use Rattle.put.specs.Written.{written, buffer}
use Rattle.put.proofs.PutLaws.{written_fits, buffer_fits, sets_append}
use Rattle.put.proofs.WriterLaws.{Puts}
use Rattle.put.specs.Runs.{next_or, ended, filled}

-- what a run of puts tells: where it ended and what the buffer then holds
abbrev pub Ran : List ℕ → ℕ → List (Out (List ℕ)) → ℕ → List ℕ → Type 0
Ran out at ws p out' = (p ≡ ended out at ws) × (out' ≡ filled out at ws)

-- one put more in front
module _ (out : List ℕ) (at : ℕ) (w : Out (List ℕ)) (q : Out ℕ) (out₁ : List ℕ) (p : ℕ) (told : Puts out at w q out₁) (next : p ≡ next_or q at) where
  pub run_last : Ran out at (w ∷ []) p out₁
  unfolding ended filled
  run_last = (rw (next, told.0), told.1)

  pub run_more : (ws : List (Out (List ℕ))) (r : ℕ) (out₂ : List ℕ) → Ran out₁ p ws r out₂ → Ran out at (w ∷ ws) r out₂
  unfolding ended filled
  run_more ws r out₂ h = rw (next, told.0, told.1) at h

-- two runs are one
ended_both : (out : List ℕ) (at : ℕ) (a b : List (Out (List ℕ))) → ended out at (a ++ b) ≡ ended (filled out at a) (ended out at a) b
unfolding ended filled
ended_both out at [] b = refl
ended_both out at (w ∷ a) b = ended_both (buffer out at w) (next_or (written out at w) at) a b

filled_both : (out : List ℕ) (at : ℕ) (a b : List (Out (List ℕ))) → filled out at (a ++ b) ≡ filled (filled out at a) (ended out at a) b
unfolding ended filled
filled_both out at [] b = refl
filled_both out at (w ∷ a) b = filled_both (buffer out at w) (next_or (written out at w) at) a b

pub run_both : (out : List ℕ) (at : ℕ) (a b : List (Out (List ℕ))) (p : ℕ) (out₁ : List ℕ) (r : ℕ) (out₂ : List ℕ)
    → Ran out at a p out₁ → Ran out₁ p b r out₂ → Ran out at (a ++ b) r out₂
run_both out at a b p out₁ r out₂ h k =
    (rw (ended_both, ← h.0, ← h.1) k.0, rw (filled_both, ← h.0, ← h.1) k.1)

run_flat : (out : List ℕ) (at : ℕ) (xs : List (List ℕ)) → at + length (flatten xs) ≤ length out
    → Ran out at (map done xs) (at + length (flatten xs)) (sets out at (flatten xs))
unfolding ended filled flatten
run_flat out at [] h = (add-zero at, refl)
run_flat out at (x ∷ xs) h =
    let l : at + length x ≤ length out = omega (arith, length-append x (flatten xs)) in
    let m : (at + length x) + length (flatten xs) ≤ length (sets out at x) = rw length-sets (omega (arith, length-append x (flatten xs))) in
    rw (length-append, ← add_assoc, sets_append)
    (run_more out at (done x) _ _ _ (sym (written_fits out at x l), sym (buffer_fits out at x l)) refl (map done xs) _ _
    (run_flat (sets out at x) (at + length x) xs m))

-- where there is room for what the pieces are together
pub run_all : (out : List ℕ) (at : ℕ) (xs : List (List ℕ)) (x : List ℕ) → flatten xs ≡ x → at + length x ≤ length out
    → Ran out at (map done xs) (at + length x) (sets out at x)
run_all out at xs x e h = rw (← e) (run_flat out at xs (rw e h))
