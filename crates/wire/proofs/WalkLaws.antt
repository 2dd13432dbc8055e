-- Laws of the walk: what the cursor finds is what the definition cuts, inside the list. Assumes nothing.
use mathlib.Core.Path.{◌≡◌, refl, ap, sym, ◌∙◌}
use mathlib.Core.Bool.{true, false}
use mathlib.Core.List.{List, [], ◌∷◌}
use Prim.Native.Nat.{ℕ, ◌+◌, ◌-◌, ◌≤◌, ◌<◌}
use native.Mathlib.Omega.{arith}
use native.Mathlib.Nat.{add-zero, add_assoc, add-sub_cancel_left}
use lib.ListN.{length, drop, length-drop}
use lib.Seq.{drop-drop}
use Rattle.answer.proofs.Laws.{split}
use Rattle.commas.specs.Cut.{cut, empty, name_length}
use Rattle.commas.proofs.EndLaws.{empty_at, empty_past, none_length, some_length, name_fits}
use Rattle.commas.proofs.CutLaws.{stride, cut_next}
use Rattle.wire.specs.declared.cursor.Cursor.{Cursor}
use Rattle.wire.specs.declared.place.Place.{Place}
use Rattle.std.specs.Prelude.{Option, Some, None}
use Rattle.wire.specs.Fields.{At, Run, here}
use Rattle.wire.specs.Walk.{Next, next_name, none, name}
use Rattle.wire.specs.Shown.{part}
use Rattle.wire.specs.Answers.{next_of, run_at}

-- one law for each answer of the code
module _ (s : List ℕ) (i : ℕ) where
  pub name_none : length s ≤ i → none ≡ next_name (here s i)
  unfolding next_name
  name_none h = rw (empty_past s i h)

  module _ (e : ℕ) (h : i < length s) (f : e ≡ i + name_length (drop i s)) where
    pub name_comma : e < length s → name (run_at s (record { start = i; len = e - i })) (here s (e + 1)) ≡ next_name (here s i)
    unfolding next_name
    name_comma k = simp (empty_at s i h, f, add-sub_cancel_left, drop-drop, empty_at s (i + name_length (drop i s)) (rw f at k), add_assoc)

    pub name_last : length s ≤ e → name (run_at s (record { start = i; len = e - i })) (here s e) ≡ next_name (here s i)
    unfolding next_name
    name_last k = simp (empty_at s i h, f, add-sub_cancel_left, drop-drop, empty_past s (i + name_length (drop i s)) (rw f at k), add-zero)

pub ruleset name_laws = (name_none, name_comma, name_last)

-- the names that a step of the walk says are left
abbrev ahead : Next → List (List ℕ)
ahead none = []
ahead (name t d) = t.bytes ∷ cut d.left

walked : (c : At) → cut c.left ≡ ahead (next_name c)
unfolding next_name cut
walked c =
    split (empty c.left) (λ n. rw (n, empty_nil c.left n)) (λ n. rw n (cut_next c.left n))
  where
    empty_nil : (s : List ℕ) → empty s ≡ true → s ≡ []
    empty_nil [] h = refl
    empty_nil (b ∷ s) h = cc

-- the walk: each name that the cursor finds is the next one that is cut, and where it finds none there is none
pub walk_on : (c d : At) (t : Run) → next_name c ≡ name t d → cut c.left ≡ t.bytes ∷ cut d.left
walk_on c d t e = walked c ∙ ap ahead e

pub walk_end : (c : At) → next_name c ≡ none → cut c.left ≡ []
walk_end c e = walked c ∙ ap ahead e

-- where the next name starts lies inside
stride_fits : (s : List ℕ) → empty s ≡ false → (0 < stride s) × (stride s ≤ length s)
stride_fits s h =
    let f = name_fits s in
    let g = some_length s h in
    split (empty (drop (name_length s) s))
    (λ t. rw t (let l = simp length-drop at (none_length (drop (name_length s) s) t) in omega arith))
    (λ t. rw t (let l = simp length-drop at (some_length (drop (name_length s) s) t) in omega arith))

abbrev start_of : Next → ℕ
start_of none = 0
start_of (name t d) = t.place.start

abbrev len_of : Next → ℕ
len_of none = 0
len_of (name t d) = t.place.len

abbrev next_at : Next → ℕ
next_at none = 0
next_at (name t d) = d.at

-- a step of the walk, as the code tells it
module _ (s : List ℕ) (i : ℕ) (r : Option (Place × Cursor)) (told : next_of s r ≡ next_name (here s i)) where
  module _ (p : Place) (c : Cursor) (e : r ≡ Some (p, c)) where
    seen : name (run_at s p) (here s c.at) ≡ next_name (here s i)
    seen = rw e at told

    pub names_left : cut (drop i s) ≡ part p s ∷ cut (drop c.at s)
    names_left = walk_on (here s i) (here s c.at) (run_at s p) (sym seen)

    bounds : (p.start + p.len ≤ length s) × (c.at ≤ length s) × (i < c.at)
    unfolding next_name
    bounds =
        split (empty (drop i s))
        (λ t. absurd (let z : ◌≡◌ {A = ℕ} 0 1 = let q = rw t at seen in cc in omega arith))
        (λ t.
        let q = rw t at seen in
        let a = ap start_of q in
        let b = ap len_of q in
        let d = ap next_at q in
        let f = stride_fits (drop i s) t in
        let g = name_fits (drop i s) in
        let l = length-drop i s in
        (omega arith, omega arith, omega arith))

    pub name_inside : p.start + p.len ≤ length s
    name_inside = bounds.0

    pub name_less : length s - c.at < length s - i
    name_less = let b = bounds in omega arith

  pub none_left : r ≡ None → cut (drop i s) ≡ []
  none_left e = walk_end (here s i) (sym (rw e at told))
