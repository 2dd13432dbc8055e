-- Laws of strings: one for each answer that the code gives. Assumes nothing.
use mathlib.Core.Path.{◌≡◌, ap}
use mathlib.Core.Bool.{Bool, true, false}
use mathlib.Core.List.{List}
use Prim.Native.Nat.{ℕ, ◌+◌, ◌-◌, ◌≤◌, ◌<◌}
use native.Mathlib.Omega.{arith}
use borrow.Author.Tests.{leb-true}
use lib.Dec.{leb}
use lib.ListN.{length, get_or, take, drop, length-drop}
use lib.Seq.{drop-drop}
use Rattle.answer.specs.declared.Cause.TheVariants.{PastEnd, NotUtf8}
use Rattle.answer.specs.declared.Refusal.{Refusal as Answered}
use Rattle.answer.specs.Refusal.{told}
use Rattle.answer.specs.Answer.{refused, done, ◌>>=◌}
use Rattle.answer.proofs.Laws.{NoAt, split, un_done, not_both}
use Rattle.text.specs.Utf8.{utf8}
use Rattle.wire.specs.declared.place.Place.{Place}
use Rattle.wire.specs.Fields.{At, Run, here, big_endian, word, run, string}
use Rattle.wire.specs.Shown.{part}
use Rattle.wire.specs.Answers.{run_at}
use Rattle.wire.proofs.FieldLaws.{long, short}

-- a number that was read stands inside the slice,
module _ (s : List ℕ) (i n k : ℕ) (seen : done (n, here s k) ≡ word (here s i)) where
  pub word_inside : k ≤ length s
  unfolding word ◌>>=◌
  word_inside =
      split (leb 4 (length (drop i s)))
      (λ t.
      let k = ap (λ (x : ℕ × At). x.1.at) (un_done (rw t at seen)) in
      omega (arith, simp length-drop at (leb-true 4 (length (drop i s)) t)))
      (λ t. absurd (not_both (rw t at seen)))

  -- and what it counts is there or not
  pub run_late : (r : Answered) → length s - k < n → NoAt PastEnd i r → refused (told r) ≡ run (here s i)
  unfolding run ◌>>=◌
  run_late r h f = rw (← seen, f, short s k n h)

  pub run_read : n ≤ length s - k → done (run_at s (record { start = k; len = n }), here s (k + n)) ≡ run (here s i)
  unfolding run ◌>>=◌
  run_read h = rw (← seen, long s k n (let k = word_inside in omega arith), drop-drop)

pub ruleset run_laws = (run_late, run_read)

-- the number that stands at i
abbrev size : List ℕ → ℕ → ℕ
size s i = big_endian (get_or (drop i s) 0 0) (get_or (drop i s) 1 0) (get_or (drop i s) 2 0) (get_or (drop i s) 3 0)

-- a run that was read stands inside the slice, and the next cursor after it
pub record Inside (s : List ℕ) (p : Place) (n : ℕ) : Type 0 where
  pub ends : p.start + p.len ≡ n
  pub within : n ≤ length s

pub run_inside : (s : List ℕ) (i : ℕ) (p : Place) (n : ℕ) → done (run_at s p, here s n) ≡ run (here s i) → Inside s p n
unfolding run word ◌>>=◌
run_inside s i p n told =
    split (leb 4 (length (drop i s)))
    (λ t.
    split (leb (size s i) (length (drop 4 (drop i s))))
    (λ u.
    let e = un_done (rw (t, u) at told) in
    let a = ap (λ (x : Run × At). x.0.place.start) e in
    let b = ap (λ (x : Run × At). x.0.place.len) e in
    let c = ap (λ (x : Run × At). x.1.at) e in
    let l = leb-true 4 (length (drop i s)) t in
    let m = leb-true (size s i) (length (drop 4 (drop i s))) u in
    record { ends = omega arith; within = omega (arith, simp length-drop at l, simp length-drop at m) })
    (λ u. absurd (not_both (rw (t, u) at told))))
    (λ t. absurd (not_both (rw t at told)))

-- a run that was read, where `string` looks for UTF-8
module _ (s : List ℕ) (i : ℕ) (p : Place) (n : ℕ) (seen : done (run_at s p, here s n) ≡ run (here s i)) where
  pub text_order : p.start ≤ n
  text_order = let h = run_inside s i p n seen in omega arith

  pub text_within : n ≤ length s
  text_within = (run_inside s i p n seen).within

  pub text_bytes : take (n - p.start) (drop p.start s) ≡ part p s
  text_bytes = let h = run_inside s i p n seen in let l : n - p.start ≡ p.len = omega arith in rw l

  module _ (b : Bool) (f : b ≡ utf8 (take (n - p.start) (drop p.start s))) where
    pub string_at : b ≡ true → done (run_at s p, here s n) ≡ string (here s i)
    unfolding string ◌>>=◌
    string_at h = rw (← seen, ← text_bytes, ← f, h)

    pub string_bad : b ≡ false → (q : Answered) → NoAt NotUtf8 i q → refused (told q) ≡ string (here s i)
    unfolding string ◌>>=◌
    string_bad h q e = rw (← seen, ← text_bytes, ← f, h, e)

pub ruleset string_laws = (text_order, text_within, string_at, string_bad)
