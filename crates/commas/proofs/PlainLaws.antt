-- Bytes without a comma, passed over together. Assumes nothing.
use mathlib.Core.Bool.{Bool, true, false}
use mathlib.Core.List.{List, [], ◌∷◌}
use mathlib.Core.Path.{◌≡◌}
use Prim.Native.Nat.{ℕ, zero, suc, ◌+◌, ◌≤◌}
use native.Mathlib.Omega.{arith}
use lib.Dec.{eqb}
use lib.ListN.{length, take, drop, length-drop}
use lib.Seq.{drop-drop}
use Rattle.std.specs.List.{list_any}
use Rattle.answer.proofs.Laws.{split}
use Rattle.commas.specs.Cut.{name_length}

-- they belong to the name
plain_run : (k : ℕ) (t : List ℕ) → k ≤ length t → list_any (λ b. eqb b 44) (take k t) ≡ false → name_length t ≡ k + name_length (drop k t)
unfolding name_length
plain_run zero t h e = omega arith
plain_run (suc k) [] h e = absurd (omega arith)
plain_run (suc k) (c ∷ t) h e =
    split (eqb c 44)
    (λ y. let z : true ≡ false = rw y at e in cc)
    (λ y. rw y (let ih = plain_run k t (omega arith) (rw y at e) in omega arith))

-- n of them, from i to j
pub plain_on : (s : List ℕ) (m i j n : ℕ) (r : Bool)
    → m ≡ i + name_length (drop i s)
    → r ≡ list_any (λ b. eqb b 44) (take n (drop i s))
    → r ≡ false
    → i + n ≡ j
    → j ≤ length s
    → m ≡ j + name_length (drop j s)
plain_on s m i j n r inv f e g h =
    let fits : n ≤ length (drop i s) = rw (length-drop i s) (omega arith) in
    let none : list_any (λ b. eqb b 44) (take n (drop i s)) ≡ false = cc in
    let run : name_length (drop i s) ≡ n + name_length (drop (i + n) s) = simp drop-drop at (plain_run n (drop i s) fits none) in
    rw (← g) (omega arith)
