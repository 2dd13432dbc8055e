-- A rule of a table, proved at all of its entries by one test that is computed. Assumes nothing.
use mathlib.Core.List.{List, [], ◌∷◌, map, Memᴰ}
use mathlib.Core.Logic.{inl, inr}
use mathlib.Core.Path.{◌≡◌, sym}
use Prim.Native.Nat.{ℕ, zero, suc, ◌≤◌, ◌<◌, ◌+◌}
use native.Mathlib.Nat.{eq-or-lt_of_le}
use native.Mathlib.Omega.{arith}

-- what maps a list alike is alike at each of its entries
pub alike : {X Y : Type 0} (f g : X → Y) (l : List X) {x : X} → map f l ≡ map g l → Memᴰ x l → f x ≡ g x
alike {X = X} {Y = Y} f g [] e x4 = elim x4 [ ]
alike f g (y ∷ l) e (Memᴰ.head p) = rw p (cc)
alike f g (y ∷ l) e (Memᴰ.tail m) = alike f g l (cc) m

-- the n numbers from i on
abbrev pub count : ℕ → ℕ → List ℕ
count i zero = []
count i (suc n) = i ∷ count (suc i) n

counted : (i n k : ℕ) → i ≤ k → k < i + n → Memᴰ k (count i n)
counted i zero k h l = absurd (omega arith)
counted i (suc n) k h l = elim (eq-or-lt_of_le h) [ inl e ↦ Memᴰ.head (sym e) | inr g ↦ Memᴰ.tail (counted (suc i) n k g (omega arith)) ]

-- f is v at each of the n numbers from i on
pub span : {Y : Type 0} (f : ℕ → Y) (v : Y) (i n : ℕ) → map f (count i n) ≡ map (λ k. v) (count i n) → (k : ℕ) → i ≤ k → k < i + n → f k ≡ v
span f v i n e k h l = alike f (λ k. v) (count i n) e (counted i n k h l)
