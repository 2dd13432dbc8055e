-- Laws of answers that every layer cites. Assumes nothing.
use mathlib.Core.Path.{◌≡◌, refl, ap, sym, ◌∙◌}
use mathlib.Core.Bool.{Bool, true, false, ◌&&◌}
use Prim.Native.Nat.{ℕ}
use native.Mathlib.Omega.{arith}
use lib.Dec.{eqb}
use Rattle.std.specs.Prelude.{Result, Ok, Err}
use Rattle.answer.specs.declared.Cause.{Cause}
use Rattle.answer.specs.declared.Cause.TheVariants.{
  TooLong,
  PastEnd,
  NotUtf8,
  PacketSize,
  Trailing,
  Inconsistent,
  Padding,
  NoRoom,
  BadTable,
  NoKex,
  NoKey,
  NoCipher,
  NoMac,
  NoCompression,
}
use Rattle.answer.specs.declared.Refusal.{Refusal as Answered}
use Rattle.answer.specs.Refusal.{Refusal, number as number_of, told}
use Rattle.answer.specs.Answer.{Out, refused, done, guard, refuse, pick, outcome, answered, ◌>>=◌}

-- the code's refusal by cause k, for what stands at i; at 0
abbrev pub NoAt : Cause → ℕ → Answered → Type 0
NoAt k i r = ◌≡◌ {A = Answered} r (record { offset = i; cause = k })

abbrev pub No : Cause → Answered → Type 0
No k r = NoAt k 0 r

-- equations that clash prove 0 ≡ 1 by `cc`, and so anything
pub never : {G : Type 0} → ◌≡◌ {A = ℕ} 0 1 → G
never e = absurd (omega arith)

-- case analysis on a test, with what it said
pub split : {G : Type 0} (b : Bool) → (b ≡ true → G) → (b ≡ false → G) → G
split true f g = f refl
split false f g = g refl

-- a test that holds lets the block go on, one that fails ends it
pub pass : {B : Type 0} (n : ℕ) (b : Bool) (f : Unit {0} → Out B) → b ≡ true → (guard n b >>= f) ≡ f tt
unfolding ◌>>=◌
pass n b f h = rw h

pub stop : {B : Type 0} (n : ℕ) (b : Bool) (f : Unit {0} → Out B) → b ≡ false → (guard n b >>= f) ≡ refuse n
unfolding ◌>>=◌
stop n b f h = rw h

-- no two answers have one meaning
pub un_done : {A : Type 0} {a b : A} → done a ≡ done b → a ≡ b
un_done p = cc

pub un_refused : {A : Type 0} {q r : Refusal} → ◌≡◌ {A = Out A} (refused q) (refused r) → q ≡ r
un_refused p = cc

pub not_both : {A : Type 0} {a : A} {r : Refusal} → ◌≡◌ {A = Out A} (done a) (refused r) → ⊥
not_both p = never (cc)

-- no two causes have one number,
cause_of : ℕ → Cause
cause_of n =
    pick (eqb n 1) TooLong (pick (eqb n 2) PastEnd (pick (eqb n 3) NotUtf8 (pick (eqb n 4) PacketSize (pick (eqb n 5) Trailing
    (pick (eqb n 6) Inconsistent (pick (eqb n 7) Padding (pick (eqb n 8) NoRoom (pick (eqb n 9) BadTable (pick (eqb n 10) NoKex
    (pick (eqb n 11) NoKey (pick (eqb n 12) NoCipher (pick (eqb n 13) NoMac NoCompression))))))))))))

cause_back : (c : Cause) → cause_of (number_of c) ≡ c
unfolding cause_of
cause_back = elim [
  | TooLong ↦ refl
  | PastEnd ↦ refl
  | NotUtf8 ↦ refl
  | PacketSize ↦ refl
  | Trailing ↦ refl
  | Inconsistent ↦ refl
  | Padding ↦ refl
  | NoRoom ↦ refl
  | BadTable ↦ refl
  | NoKex ↦ refl
  | NoKey ↦ refl
  | NoCipher ↦ refl
  | NoMac ↦ refl
  | NoCompression ↦ refl
]

pub number_unique : (a b : Cause) → ◌≡◌ {A = ℕ} (number_of a) (number_of b) → a ≡ b
number_unique a b e = sym (cause_back a) ∙ (ap cause_of e ∙ cause_back b)

-- and so no two refusals and no two answers have one meaning, where no two values have
pub told_unique : (a b : Answered) → ◌≡◌ {A = Refusal} (told a) (told b) → a ≡ b
told_unique a b e =
    let c = number_unique a.cause b.cause (ap (λ (r : Refusal). r.number) e) in
    let o = ap (λ (r : Refusal). r.offset) e in
    λ i. record { offset = o i; cause = c i }

pub outcome_unique : {A B : Type 0} (f : A → B) → ((a b : A) → f a ≡ f b → a ≡ b) → (x y : Result A Answered)
    → ◌≡◌ {A = Out B} (outcome f x) (outcome f y) → x ≡ y
outcome_unique f one (Ok a) (Ok b) e = ap Ok (one a b (un_done e))
outcome_unique f one (Ok a) (Err r) e = absurd (not_both e)
outcome_unique f one (Err q) (Ok b) e = absurd (not_both (sym e))
outcome_unique f one (Err q) (Err r) e = ap Err (told_unique q r (un_refused e))

pub answered_unique : {A : Type 0} (x y : Result A Cause) → ◌≡◌ {A = Out A} (answered x) (answered y) → x ≡ y
answered_unique (Ok a) (Ok b) e = ap Ok (un_done e)
answered_unique (Ok a) (Err r) e = absurd (not_both e)
answered_unique (Err q) (Ok b) e = absurd (not_both (sym e))
answered_unique (Err q) (Err r) e = ap Err (number_unique q r (ap (λ (z : Refusal). z.number) (un_refused e)))

-- an `&&` that holds, taken apart
pub and_left : (a b : Bool) → (a && b) ≡ true → a ≡ true
and_left true b h = refl
and_left false b h = h

pub and_right : (a b : Bool) → (a && b) ≡ true → b ≡ true
and_right true b h = h
and_right false b h = cc

-- what was done went through every step
pub bind_done : {A B : Type 0} (m : Out A) (f : A → Out B) (b : B) → (m >>= f) ≡ done b → (a : A) × (m ≡ done a) × (f a ≡ done b)
unfolding ◌>>=◌
bind_done (refused r) f b h = absurd (not_both (sym h))
bind_done (done a) f b h = (a, refl, h)
