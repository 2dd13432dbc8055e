-- A field that is read whole is read alike where the input is cut behind it; where the input is cut in front of it, it is
-- missing: 2 at the cut. Assumes nothing.
use mathlib.Core.Path.{◌≡◌, refl, ap}
use mathlib.Core.Bool.{true, false}
use mathlib.Core.List.{List, [], ◌∷◌}
use Prim.Native.Nat.{ℕ, ◌+◌, ◌-◌, ◌≤◌, ◌<◌}
use native.Mathlib.Omega.{arith}
use borrow.Author.Tests.{leb-true, leb-false, le-leb, lt-leb, ltb-true, ltb-false}
use lib.Dec.{leb, ltb}
use lib.ListN.{length, get_or, take, drop, length-take}
use lib.Seq.{take-add, take-take, drop_at, get_or-take, length-take-le}
use Rattle.answer.specs.Refusal.{Refusal}
use Rattle.answer.specs.Answer.{Out, refused, done, refuse_at, ◌>>=◌}
use Rattle.answer.proofs.Laws.{split, never}
use Rattle.text.specs.Utf8.{utf8}
use Rattle.wire.specs.Fields.{At, Run, skip, byte, big_endian, word, run, string}
use Rattle.commas.specs.Cut.{cut as cut_names}
use Rattle.namelist.specs.Judged.{most_list_bytes, judged_list, name_list}
use Rattle.negotiation.specs.KexInit.{offer}
use Rattle.filters.specs.Picked.{member}
use Rattle.refusals.proofs.EndsLaws.{Ends, stops}
use Rattle.refusals.proofs.FieldLaws.{bytes_ends}

-- a reader of the input that is cut at i
abbrev pub clip : ℕ → At → At
clip i c = record { at = c.at; left = take (i - c.at) c.left }

-- past the cut nothing is left
pub clip_none : (i : ℕ) (c : At) → c.at ≡ i → ◌≡◌ {A = At} (clip i c) (record { at = c.at; left = [] })
clip_none i c e = let z : i - c.at ≡ 0 = omega arith in rw z

module _ (i k : ℕ) (c : At) (h : leb k (length c.left) ≡ true) (l : c.at + k ≤ i) where
  few : k ≤ length c.left
  few = leb-true k (length c.left) h

  pub clip_long : leb k (length (take (i - c.at) c.left)) ≡ true
  clip_long = le-leb k _ (let f = few in simp length-take (omega arith))

  clip_drop : drop k (take (i - c.at) c.left) ≡ take (i - (c.at + k)) (drop k c.left)
  clip_drop =
      let e : i - c.at ≡ k + (i - (c.at + k)) = omega arith in
      rw (e, take-add) (drop_at (take k c.left) (take (i - (c.at + k)) (drop k c.left)) k (length-take-le k c.left few))

  pub clip_skip : ◌≡◌ {A = At} (skip k (clip i c)) (clip i (skip k c))
  clip_skip = ap (λ (x : List ℕ). record { at = c.at + k; left = x }) clip_drop

-- what lacks k bytes lacks them where it is cut, and a cut before the k-th makes it lack them
few_cut : (i k : ℕ) (c : At) → leb k (length c.left) ≡ false → leb k (length (take (i - c.at) c.left)) ≡ false
few_cut i k c h = lt-leb k _ (let l = leb-false k (length c.left) h in simp length-take (omega arith))

short_cut : (i k : ℕ) (c : At) → 1 ≤ k → i < c.at + k → leb k (length (take (i - c.at) c.left)) ≡ false
short_cut i k c h l = lt-leb k _ (simp length-take (omega arith))

-- what a field's reader does: it refuses where the field stands, on every cut too; or it goes on, and is the same on what is
-- cut behind it, and refuses with 2 where the field stands what is cut before its end
pub data Reads {X : Type 0} (f : At → Out (X × At)) (c : At) : Type 0 where
  bad : (n : ℕ) → f c ≡ refuse_at n c.at → (n ≡ 5 → ⊥) → ((i : ℕ) → (m : ℕ) × (f (clip i c) ≡ refuse_at m c.at)) → Reads f c
  good : (x : X) (d : At) → f c ≡ done (x, d) → c.at ≤ d.at
      → ((i : ℕ) → d.at ≤ i → f (clip i c) ≡ done (x, clip i d)) → ((i : ℕ) → i < d.at → f (clip i c) ≡ refuse_at 2 c.at) → Reads f c

-- by whether a cut is before a place
pub before : {G : Type 0} (i n : ℕ) → (i < n → G) → (n ≤ i → G) → G
before i n f g = split (ltb i n) (λ b. f (ltb-true i n b)) (λ b. g (ltb-false i n b))

pub record Field {X : Type 0} (f : At → Out (X × At)) : Type 0 where
  pub missing : (j : ℕ) → f (record { at = j; left = [] }) ≡ refuse_at 2 j
  pub reads : (c : At) → Reads f c

byte_reads : (c : At) → Reads byte c
unfolding byte ◌>>=◌
byte_reads c =
    split (leb 1 (length c.left))
    (λ t.
    good (get_or c.left 0 0) (skip 1 c) (rw t) (omega arith)
    (λ i l. rw (clip_long i 1 c t l, clip_skip i 1 c t l, get_or-take (i - c.at) c.left 0 0 (omega arith)))
    (λ i l. rw (short_cut i 1 c (omega arith) l)))
    (λ t. bad 2 (rw t) (λ z. omega arith) (λ i. (2, rw (few_cut i 1 c t))))

pub byte_field : Field byte
unfolding byte ◌>>=◌
byte_field = record { missing = λ j. refl; reads = byte_reads }

word_reads : (c : At) → Reads word c
unfolding word ◌>>=◌
word_reads c =
    split (leb 4 (length c.left))
    (λ t.
    good (big_endian (get_or c.left 0 0) (get_or c.left 1 0) (get_or c.left 2 0) (get_or c.left 3 0)) (skip 4 c) (rw t) (omega arith)
    (λ i l.
    rw (
      clip_long i 4 c t l,
      clip_skip i 4 c t l,
      get_or-take (i - c.at) c.left 0 0 (omega arith),
      get_or-take (i - c.at) c.left 1 0 (omega arith),
      get_or-take (i - c.at) c.left 2 0 (omega arith),
      get_or-take (i - c.at) c.left 3 0 (omega arith),
    ))
    (λ i l. rw (short_cut i 4 c (omega arith) l)))
    (λ t. bad 2 (rw t) (λ z. omega arith) (λ i. (2, rw (few_cut i 4 c t))))

pub word_field : Field word
unfolding word ◌>>=◌
word_field = record { missing = λ j. refl; reads = word_reads }

module _ (c : At) where
  run_sized : (n : ℕ) (d : At) → word c ≡ done (n, d) → c.at ≤ d.at → ((i : ℕ) → d.at ≤ i → word (clip i c) ≡ done (n, clip i d))
      → ((i : ℕ) → i < d.at → word (clip i c) ≡ refuse_at 2 c.at) → Reads run c
  unfolding run ◌>>=◌
  run_sized n d e o k s =
      split (leb n (length d.left))
      (λ t.
      good (record { place = record { start = d.at; len = n }; bytes = take n d.left }) (skip n d) (rw (e, t)) (omega arith)
      (λ i l.
      rw (k i (omega arith), clip_long i n d t l, clip_skip i n d t l, take-take n (i - d.at) d.left (omega arith)))
      (λ i l. before i d.at (λ b. rw (s i b)) (λ b. rw (k i b, short_cut i n d (omega arith) l))))
      (λ t.
      bad 2 (rw (e, t)) (λ z. omega arith)
      (λ i. before i d.at (λ b. (2, rw (s i b))) (λ b. (2, rw (k i b, few_cut i n d t)))))

  run_from : Reads word c → Reads run c
  unfolding run ◌>>=◌
  run_from (bad n e z s) = bad n (rw e) z (λ i. ((s i).0, rw (s i).1))
  run_from (good n d e o k s) = run_sized n d e o k s

pub run_field : Field run
unfolding run word ◌>>=◌
run_field = record { missing = λ j. refl; reads = λ c. run_from c (word_reads c) }

string_from : (c : At) → Reads run c → Reads string c
unfolding string ◌>>=◌
string_from c (bad n e z s) = bad n (rw e) z (λ i. ((s i).0, rw (s i).1))
string_from c (good t d e o k s) =
    split (utf8 t.bytes)
    (λ u. good t d (rw (e, u)) o (λ i l. rw (k i l, u)) (λ i l. rw (s i l)))
    (λ u.
    bad 3 (rw (e, u)) (λ z. omega arith)
    (λ i. before i d.at (λ b. (2, rw (s i b))) (λ b. (3, rw (k i b, u)))))

pub string_field : Field string
unfolding string run word ◌>>=◌
string_field = record { missing = λ j. refl; reads = λ c. string_from c (run_field.reads c) }

-- a list's own faults are 2 and 3
not_five : (n : ℕ) → member n (2 ∷ 3 ∷ []) ≡ true → n ≡ 5 → ⊥
unfolding member
not_five n e z = let f = rw z at e in never (cc)

list_judged : (c : At) (t : Run) (d : At) → run c ≡ done (t, d) → c.at ≤ d.at
    → ((i : ℕ) → d.at ≤ i → run (clip i c) ≡ done (t, clip i d)) → ((i : ℕ) → i < d.at → run (clip i c) ≡ refuse_at 2 c.at) → leb (length t.bytes) most_list_bytes ≡ true
    → (j : Out (Unit {0})) → judged_list t.bytes ≡ j → Ends (λ (r : Refusal). member r.number (2 ∷ 3 ∷ []) ≡ true) (λ (u : Unit {0}). Unit {0}) j
    → Reads name_list c
unfolding name_list ◌>>=◌
list_judged c t d e o k h s (refused q) g (stops m) =
    bad q.number (rw (e, s, g)) (not_five q.number m)
    (λ i. before i d.at (λ b. (2, rw (h i b))) (λ b. (q.number, rw (k i b, s, g))))
list_judged c t d e o k h s (done u) g w = good t d (rw (e, s, g)) o (λ i l. rw (k i l, s, g)) (λ i l. rw (h i l))

list_from : (c : At) → Reads run c → Reads name_list c
unfolding name_list member ◌>>=◌
list_from c (bad n e z s) = bad n (rw e) z (λ i. ((s i).0, rw (s i).1))
list_from c (good t d e o k h) =
    split (leb (length t.bytes) most_list_bytes)
    (λ s. list_judged c t d e o k h s (judged_list t.bytes) refl (bytes_ends (2 ∷ 3 ∷ []) 0 refl refl t.bytes))
    (λ s.
    bad 2 (rw (e, s)) (λ z. omega arith)
    (λ i. before i d.at (λ b. (2, rw (h i b))) (λ b. (2, rw (k i b, s)))))

offer_from : (c : At) → Reads name_list c → Reads offer c
unfolding offer ◌>>=◌
offer_from c (bad n e z s) = bad n (rw e) z (λ i. ((s i).0, rw (s i).1))
offer_from c (good t d e o k s) = good (cut_names t.bytes) d (rw e) o (λ i l. rw (k i l)) (λ i l. rw (s i l))

pub offer_field : Field offer
unfolding offer name_list run word ◌>>=◌
offer_field = record { missing = λ j. refl; reads = λ c. offer_from c (list_from c (run_field.reads c)) }
