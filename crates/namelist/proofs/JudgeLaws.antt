-- Laws of judging a name-list: one name, the walk over all of them, the whole. Assumes nothing.
use mathlib.Core.Path.{◌≡◌, ap, sym, ◌∙◌}
use mathlib.Core.Bool.{Bool, true, false}
use mathlib.Core.List.{List}
use Prim.Native.Nat.{ℕ, ◌+◌, ◌-◌, ◌≤◌, ◌<◌}
use native.Mathlib.Omega.{arith}
use native.Mathlib.Nat.{add-sub_cancel_left}
use borrow.Author.Tests.{le-leb, lt-leb, lt-ltb, not-true, not-false}
use lib.Dec.{ltb}
use lib.ListN.{length, take, drop, length-drop, length-take, take-append-drop}
use Rattle.std.specs.Prelude.{Option, Some, None, Result, Ok, Err}
use Rattle.answer.specs.declared.Cause.{Cause}
use Rattle.answer.specs.declared.Cause.TheVariants.{PastEnd}
use Rattle.answer.specs.declared.Refusal.{Refusal as Answered}
use Rattle.answer.specs.Answer.{Out, refused, done, refuse, answered, ◌>>=◌}
use Rattle.answer.specs.Refusal.{told}
use Rattle.answer.proofs.Laws.{NoAt, and_left, and_right, bind_done}
use Rattle.text.specs.Same.{ascii, highest}
use Rattle.text.specs.Utf8.{utf8}
use Rattle.text.proofs.Utf8Laws.{ascii_utf8}
use Rattle.text.proofs.SameLaws.{low_ascii, highest_ascii, ascii_append}
use Rattle.commas.specs.Cut.{cut, empty}
use Rattle.commas.proofs.EndLaws.{empty_some}
use Rattle.wire.specs.declared.cursor.Cursor.{Cursor}
use Rattle.wire.specs.declared.place.Place.{Place}
use Rattle.wire.specs.Fields.{At, Run, here, run}
use Rattle.wire.specs.Walk.{next_name}
use Rattle.wire.specs.Shown.{part}
use Rattle.wire.specs.Answers.{next_of, run_at}
use Rattle.wire.proofs.RunLaws.{Inside, run_inside, text_bytes, text_order, text_within}
use Rattle.wire.proofs.WalkLaws.{names_left, name_inside, name_less, none_left}
use Rattle.namelist.specs.Judged.{judged, judged_list, name_list, standing}

-- a part of ASCII is ASCII
pub ascii_part : (s : List ℕ) (n k : ℕ) → ascii s ≡ true → ascii (take n (drop k s)) ≡ true
ascii_part s n k h =
    let d : ascii (drop k s) ≡ true = and_right (ascii (take k s)) (ascii (drop k s)) (sym (ascii_append (take k s) (drop k s)) ∙ ap ascii (take-append-drop k s) ∙ h) in
    and_left (ascii (take n (drop k s))) (ascii (drop n (drop k s)))
    (sym (ascii_append (take n (drop k s)) (drop n (drop k s))) ∙ ap ascii (take-append-drop n (drop k s)) ∙ d)

-- one name
module _ (s : List ℕ) (p : Place) where
  pub stands_empty : p.len ≡ 0 → false ≡ standing (part p s)
  unfolding standing
  stands_empty h = rw h

  module _ (h : p.len ≡ 0 → ⊥) (i : p.start + p.len ≤ length s) where
    some_part : empty (part p s) ≡ false
    some_part = empty_some (part p s) (λ e. h (let l = simp (length-take, length-drop) at e in omega arith))

    pub stands_low : (high : ℕ) → high ≡ highest 0 s → high < 128 → ltb high 128 ≡ standing (part p s)
    unfolding standing
    stands_low high e l = rw (lt-ltb high 128 l, some_part, ascii_part s p.len p.start (low_ascii s (rw e at l)))

    pub stands_high : (high : ℕ) → high ≡ highest 0 (take (p.start + p.len - p.start) (drop p.start s)) → ltb high 128 ≡ standing (part p s)
    unfolding standing
    stands_high high e = rw (some_part, e, add-sub_cancel_left, highest_ascii)

pub ruleset stands_laws = (stands_empty, stands_low, stands_high)

-- a step of the walk: m is what is judged of the names from i on, n of them judged before
module _ (s : List ℕ) (i : ℕ) (r : Option (Place × Cursor)) (seen : next_of s r ≡ next_name (here s i)) (m : Out (Unit {0})) (n : ℕ)
    (inv : m ≡ judged n (cut (drop i s))) where
  pub judged_all : r ≡ None → done tt ≡ m
  unfolding judged
  judged_all e = rw (inv, none_left s i r seen e)

  module _ (p : Place) (c : Cursor) (e : r ≡ Some (p, c)) (b : Bool) (f : b ≡ standing (part p s)) where
    pub judged_bad : b ≡ false → refuse 3 ≡ m
    unfolding judged ◌>>=◌
    judged_bad h = rw (inv, names_left s i r seen p c e, ← f, h)

    pub judged_many : b ≡ true → 1024 < n → refuse 2 ≡ m
    unfolding judged ◌>>=◌
    judged_many h l = rw (inv, names_left s i r seen p c e, ← f, h, lt-leb n 1024 l)

    pub judged_on : b ≡ true → n ≤ 1024 → m ≡ judged (n + 1) (cut (drop c.at s))
    unfolding judged ◌>>=◌
    judged_on h l = rw (inv, names_left s i r seen p c e, ← f, h, le-leb n 1024 l)

pub ruleset judge_laws = (name_inside, name_less, judged_all, judged_bad, judged_many, judged_on, not-true, not-false)

-- the whole list
module _ (s : List ℕ) (m : Out (Unit {0})) (seen : m ≡ judged 0 (cut s)) where
  pub list_ascii : (high : ℕ) → high ≡ highest 0 s → high < 128 → m ≡ judged_list s
  unfolding judged_list ◌>>=◌
  list_ascii high e h = rw (ascii_utf8 s (low_ascii s (rw e at h)), seen)

  pub list_utf8 : (b : Bool) → b ≡ utf8 s → b ≡ true → m ≡ judged_list s
  unfolding judged_list ◌>>=◌
  list_utf8 b e h = rw (← e, h, seen)

pub list_bad : (s : List ℕ) (b : Bool) → b ≡ utf8 s → b ≡ false → refuse 3 ≡ judged_list s
unfolding judged_list ◌>>=◌
list_bad s b e h = rw (← e, h)

-- the list as a field, once its run is read
module _ (s : List ℕ) (i : ℕ) (p : Place) (n : ℕ) (seen : done (run_at s p, here s n) ≡ run (here s i)) where
  part_length : length (part p s) ≡ p.len
  part_length = let h = run_inside s i p n seen in simp (length-take, length-drop) (omega arith)

  pub list_long : (q : Answered) → 16384 < p.len → NoAt PastEnd i q → refused (told q) ≡ name_list (here s i)
  unfolding name_list ◌>>=◌
  list_long q h k = rw (← seen, part_length, lt-leb p.len 16384 h, k)

  module _ (j : Result (Unit {0}) Cause) (f : answered j ≡ judged_list (take (n - p.start) (drop p.start s))) (h : p.len ≤ 16384) where
    pub list_at : (u : Unit {0}) → j ≡ Ok u → done (run_at s p, here s n) ≡ name_list (here s i)
    unfolding name_list ◌>>=◌
    list_at u g = rw (← seen, part_length, le-leb p.len 16384 h, ← (text_bytes s i p n seen), ← f, g)

    pub list_bad_names : (k : Cause) (q : Answered) → j ≡ Err k → NoAt k i q → refused (told q) ≡ name_list (here s i)
    unfolding name_list ◌>>=◌
    list_bad_names k q g l = rw (← seen, part_length, le-leb p.len 16384 h, ← (text_bytes s i p n seen), ← f, g, l)

pub ruleset list_laws = (list_ascii, list_utf8, list_bad, list_long, list_at, list_bad_names, text_order, text_within)

-- a list that is accepted is a run that is read, and stands inside
pub list_run : (c : At) (x : Run × At) → name_list c ≡ done x → run c ≡ done x
unfolding name_list
list_run c x h =
    let a = bind_done (run c) _ x h in
    let b = bind_done _ _ x a.2 in
    let d = bind_done _ _ x b.2 in
    a.1 ∙ d.2

pub list_inside : (s : List ℕ) (i : ℕ) (p : Place) (n : ℕ) → done (run_at s p, here s n) ≡ name_list (here s i) → Inside s p n
list_inside s i p n seen = run_inside s i p n (sym (list_run (here s i) (run_at s p, here s n) (sym seen)))
