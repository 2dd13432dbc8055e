-- A refusing answer: what a definition of this project gives, a refusal with its number and offset or a value.
-- Definitions are written with `do`, so that refusals stand in the order in which document 01 gives them.
use Rattle.std.specs.Prelude.{Bool, true, false, ℕ, Result, Ok, Err}
use Rattle.answer.specs.declared.Cause.{Cause}
use Rattle.answer.specs.declared.Refusal.{Refusal as Answered}
use Rattle.answer.specs.Refusal.{Refusal, told, number as number_of}

infixl 20 ◌>>=◌
pub data Out (A : Type 0) : Type 0 where
  refused : Refusal → Out A
  done : A → Out A

-- the first refusal ends it
unfoldable pub ◌>>=◌ : {A B : Type 0} → Out A → (A → Out B) → Out B
◌>>=◌ (refused r) f = refused r
◌>>=◌ (done a) f = f a

-- the refusal that carries n, for what stands at i
abbrev pub refuse_at : {A : Type 0} → ℕ → ℕ → Out A
refuse_at n i = refused (record { number = n; offset = i })

-- for what stands nowhere or at the front: offset 0
abbrev pub refuse : {A : Type 0} → ℕ → Out A
refuse n = refuse_at n 0

-- the same answer, but a refusal is for what stands at i: a field, where only its bytes were seen
abbrev pub placed : {A : Type 0} → ℕ → Out A → Out A
placed i (refused r) = refuse_at r.number i
placed i (done a) = done a

-- `pick b x y` is x where the test holds and y where it does not
abbrev pub pick : {A : Type 0} → Bool → A → A → A
pick true x y = x
pick false x y = y

-- goes on where the test holds, else refuses with n what stands at i
abbrev pub guard_at : ℕ → ℕ → Bool → Out (Unit {0})
guard_at n i true = done tt
guard_at n i false = refuse_at n i

abbrev pub guard : ℕ → Bool → Out (Unit {0})
guard n b = guard_at n 0 b

-- What the code's answers mean: of a reader, whose values `f` reads, and of what refuses nowhere.
abbrev pub outcome : {A B : Type 0} → (A → B) → Result A Answered → Out B
outcome f (Ok a) = done (f a)
outcome f (Err r) = refused (told r)

abbrev pub answered : {A : Type 0} → Result A Cause → Out A
answered (Ok a) = done a
answered (Err c) = refuse (number_of c)
