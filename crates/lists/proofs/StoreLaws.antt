-- Writing in pieces: what is left to write gives the same buffer and the same end. Assumes nothing.
use mathlib.Core.Path.{◌≡◌, refl, sym, ap, ◌∙◌}
use mathlib.Core.List.{List, [], ◌∷◌, ◌++◌, append_assoc, append-nil}
use Prim.Native.Nat.{ℕ, ◌+◌, ◌≤◌, ◌<◌}
use native.Mathlib.Omega.{arith}
use lib.ListN.{length, get_or, drop, length-append, drop_of_length-le}
use lib.Seq.{sets, length-sets}
use Rattle.answer.specs.Answer.{Out, done}
use Rattle.put.specs.Written.{written, buffer, word}
use Rattle.put.proofs.PutLaws.{sets_append, written_fits, buffer_fits, word_length}
use Rattle.commas.specs.Cut.{join}
use Rattle.wire.specs.Shown.{bytes_of}
use Rattle.lists.specs.Texts.{texts, name_and_comma}
use Rattle.put.specs.Runs.{next_or}
use Rattle.lists.proofs.WalkLaws.{next_row}

-- a put that has room
module _ (out x : List ℕ) (at : ℕ) (room : at + length x ≤ length out) where
  pub put_next : (q : Out ℕ) (p : ℕ) → q ≡ written out at (done x) → p ≡ next_or q at → p ≡ at + length x
  put_next q p e f = rw (f, e, written_fits out at x room)

  pub put_bytes : (out' : List ℕ) → out' ≡ buffer out at (done x) → out' ≡ sets out at x
  put_bytes out' e = e ∙ buffer_fits out at x room

pub ruleset store_laws = (put_next, put_bytes)

-- x is to be written at `at` of `whole`; so far the buffer is `out`, and y is left, to be written at p
pub record Left (whole : List ℕ) (at : ℕ) (x out : List ℕ) (p : ℕ) (y : List ℕ) : Type 0 where
  pub room : p + length y ≤ length out
  pub end : at + length x ≡ p + length y
  pub bytes : sets whole at x ≡ sets out p y
  pub kept : length out ≡ length whole

pub left_all : (out : List ℕ) (at : ℕ) (x : List ℕ) → at + length x ≤ length out → Left out at x out at x
left_all out at x h = record { room = h; end = refl; bytes = refl; kept = refl }

module _ (whole : List ℕ) (at : ℕ) (x out : List ℕ) (p : ℕ) (y : List ℕ) (left : Left whole at x out p y) (a b : List ℕ) (cut : y ≡ a ++ b) where
  sizes : p + length y ≡ (p + length a) + length b
  sizes = rw (cut, length-append) (omega arith)

  pub piece_room : p + length a ≤ length out
  piece_room = omega (arith, left.room, sizes)

  pub left_after : (out' : List ℕ) (p' : ℕ) → p' ≡ p + length a → out' ≡ sets out p a → Left whole at x out' p' b
  left_after out' p' e f =
      let l : length out' ≡ length out = rw f (length-sets out p a) in
      record {
        room = omega (arith, left.room, sizes);
        end = left.end ∙ sizes ∙ ap (λ (n : ℕ). n + length b) (sym e);
        bytes = left.bytes ∙ rw (e, f, cut, sets_append);
        kept = l ∙ left.kept;
      }

pub left_none : (whole : List ℕ) (at : ℕ) (x out : List ℕ) (p : ℕ) → Left whole at x out p [] → (p ≡ at + length x) × (out ≡ sets whole at x)
left_none whole at x out p left = (omega (arith, left.end), sym left.bytes)

-- a name and its comma
module _ (w : Out (List ℕ)) (out x : List ℕ) (at : ℕ) (fits : at + length (name_and_comma w) ≤ length out) (spelt : x ≡ bytes_of w) where
  cut_part : name_and_comma w ≡ x ++ 44 ∷ []
  unfolding name_and_comma
  cut_part = rw spelt

  before : Left out at (name_and_comma w) out at (name_and_comma w)
  before = left_all out at (name_and_comma w) fits

  pub part_name : at + length x ≤ length out
  part_name = piece_room _ _ _ _ _ _ before x (44 ∷ []) cut_part

  module _ (out₁ : List ℕ) (p : ℕ) (e : p ≡ at + length x) (f : out₁ ≡ sets out at x) where
    between : Left out at (name_and_comma w) out₁ p (44 ∷ [])
    between = left_after _ _ _ _ _ _ before x (44 ∷ []) cut_part out₁ p e f

    pub part_comma : p + 1 ≤ length out₁
    part_comma = between.room

    pub part_whole : (out₂ : List ℕ) (r : ℕ) → (r ≡ p + 1) × (out₂ ≡ sets out₁ p (44 ∷ []))
        → (r ≡ at + length (name_and_comma w)) × (out₂ ≡ sets out at (name_and_comma w))
    part_whole out₂ r h = left_none _ _ _ _ _ (left_after _ _ _ _ _ _ between (44 ∷ []) [] refl out₂ r h.0 h.1)

pub ruleset part_laws = (part_name, part_comma, part_whole)

-- the names of a list, but for the last one each with a comma
module _ (name : ℕ → Out (List ℕ)) (front : List ℕ) (last : ℕ) where
  abbrev pub from : ℕ → List ℕ
  from i = join (texts name (drop i front ++ last ∷ []))

  join_cons : (x : List ℕ) (ns : List ℕ) → join (x ∷ texts name (ns ++ last ∷ [])) ≡ x ++ 44 ∷ join (texts name (ns ++ last ∷ []))
  unfolding texts join
  join_cons x [] = refl
  join_cons x (n ∷ ns) = refl

  join_more : (i : ℕ) → i < length front → from i ≡ name_and_comma (name (get_or front i 0)) ++ from (i + 1)
  unfolding texts name_and_comma
  join_more i h = rw (next_row front i h) (join_cons (bytes_of (name (get_or front i 0))) (drop (i + 1) front) ∙ rw append_assoc)

  join_last : (i : ℕ) → length front ≤ i → from i ≡ bytes_of (name last)
  unfolding texts join
  join_last i h = rw (drop_of_length-le front h)

  -- the list so far
  module _ (rows whole : List ℕ) (at : ℕ) where
    pub names_begin : rows ≡ front ++ (last ∷ []) → at + length (join (texts name rows)) ≤ length whole → Left whole at (join (texts name rows)) whole at (from 0)
    names_begin e h = rw (← e) (left_all whole at (join (texts name rows)) h)

    module _ (i : ℕ) (out : List ℕ) (p : ℕ) (left : Left whole at (join (texts name rows)) out p (from i)) where
      pub names_room : i < length front → p + length (name_and_comma (name (get_or front i 0))) ≤ length out
      names_room h = piece_room _ _ _ _ _ _ left (name_and_comma (name (get_or front i 0))) (from (i + 1)) (join_more i h)

      pub names_on : i < length front → (out' : List ℕ) (p' : ℕ) → p' ≡ p + length (name_and_comma (name (get_or front i 0)))
          → out' ≡ sets out p (name_and_comma (name (get_or front i 0))) → Left whole at (join (texts name rows)) out' p' (from (i + 1))
      names_on h out' p' e f = left_after _ _ _ _ _ _ left (name_and_comma (name (get_or front i 0))) (from (i + 1)) (join_more i h) out' p' e f

      module _ (h : length front ≤ i) (x : List ℕ) (spelt : x ≡ bytes_of (name last)) where
        cut_last : from i ≡ x ++ []
        cut_last = join_last i h ∙ rw (append-nil, spelt)

        pub last_room : p + length x ≤ length out
        last_room = piece_room _ _ _ _ _ _ left x [] cut_last

        pub last_whole : (out' : List ℕ) (r : ℕ) → r ≡ p + length x → out' ≡ sets out p x
            → (r ≡ at + length (join (texts name rows))) × (out' ≡ sets whole at (join (texts name rows)))
        last_whole out' r e f = left_none _ _ _ _ _ (left_after _ _ _ _ _ _ left x [] cut_last out' r e f)

pub no_names : (name : ℕ → Out (List ℕ)) (rows out : List ℕ) (at : ℕ) → length rows ≡ 0
    → (at ≡ at + length (join (texts name rows))) × (out ≡ sets out at (join (texts name rows)))
unfolding texts join
no_names name [] out at h = (omega arith, refl)
no_names name (r ∷ rs) out at h = absurd (omega arith)

-- the length in front of the names
module _ (len : ℕ) (names : List (List ℕ)) (out : List ℕ) (at : ℕ) (fits : at + (4 + length (join names)) ≤ length out) where
  abbrev x : List ℕ
  x = join names

  list_room : at + length (word len ++ x) ≤ length out
  list_room = rw (length-append, word_length) fits

  head_room : at + length (word len) ≤ length out
  head_room = piece_room _ _ _ _ _ _ (left_all out at (word len ++ x) list_room) (word len) x refl

  module _ (out₁ : List ℕ) (q : Out ℕ) (p : ℕ)
      (told : (q ≡ written out at (done (word len))) × (out₁ ≡ buffer out at (done (word len)))) (next : p ≡ next_or q at) where
    headed : Left out at (word len ++ x) out₁ p x
    headed =
        left_after _ _ _ _ _ _ (left_all out at (word len ++ x) list_room) (word len) x refl out₁ p
        (put_next out (word len) at head_room q p told.0 next)
        (put_bytes out (word len) at head_room out₁ told.1)

    pub tail_room : p + length x ≤ length out₁
    tail_room = headed.room

    pub list_whole : (out₂ : List ℕ) (r : ℕ) → (r ≡ p + length x) × (out₂ ≡ sets out₁ p x)
        → (r ≡ at + (4 + length x)) × (out₂ ≡ sets out at (word len ++ x))
    list_whole out₂ r h =
        let d = left_none _ _ _ _ _ (left_after _ _ _ _ _ _ headed x [] (sym (append-nil x)) out₂ r h.0 h.1) in
        (rw (length-append, word_length) at d.0, d.1)
